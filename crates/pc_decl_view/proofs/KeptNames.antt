-- The lines of the names of a routine by what was kept of it.
use Rattle.std.specs.Prelude.{◌≡◌, ℕ, Bool, true, false, if◌then◌else◌, List, [], ◌∷◌, ◌++◌, codes, map}
use Rattle.std.specs.List.{flat_map}
use Rattle.std.proofs.Common.{refl, ap, sym, ◌∙◌, inl, inr}
use Rattle.pc_syntax.specs.declared.kind.Kind.{Kind}
use Rattle.pc_syntax.specs.declared.kind.Kind.TheVariants as kind
use Rattle.pc_syntax.specs.Plain.{Plain}
use Rattle.pc_syntax.specs.WellFormed.{IsProper}
use Rattle.pc_syntax.specs.Words.{is_among}
use Rattle.pc_scope.specs.Declarations.{Declared}
use Rattle.pc_rules.specs.Routines.{Routine}
use Rattle.pc_facts.specs.Known.{Known}
use Rattle.pc_decl.specs.Annotated.{Annotation, annotated}
use Rattle.pc_decl.specs.Declared.{without_seconds, given_names, names_of}
use Rattle.pc_decl.specs.DeclsText.{class_text, declaring_kind}
use Rattle.pc_decl_laws.specs.Kinds.{routine_kinds, KindNamesLaw, KindsLaw}
use Rattle.pc_decl_laws.specs.Lines.{class_and_own_type, own_name_line, own_name_lines}
use Rattle.pc_decl_laws.specs.OwnTypes.{IsAmong}
use Rattle.pc_own_names.specs.OwnKinds.{first_kinds, own_kinds}
use Rattle.pc_own_names.specs.ShowsNames.{ShowsOwnName, ShowsOwnNames, ShowsRoutine}
use Rattle.pc_own_names.specs.declared.own_name.OwnName.{OwnName}
use Rattle.pc_own_names.specs.declared.own_name.RoutineNames.{RoutineNames}
use Rattle.pc_decl_view.specs.KeptLines.{class_and_kept_type, kept_name_line, kept_name_lines}
use Rattle.pc_decl_view.proofs.KeptTypes.{type-shown}

-- ---- one name

class-shown : (k : Known) (a : Annotation) (x : OwnName) (d : Declared × Kind) → ShowsOwnName k a x d → (j : Kind) →
    class_and_kept_type k.table k.signatures j x.meaning ≡ class_and_own_type a d.0.name j
class-shown k a x d h kind.Procedure = refl
class-shown k a x d h j = ap (λ (ty : List ℕ). class_text j ++ codes " " ++ ty) (type-shown k a d.0.name x.meaning h.meaning)

line-shown : (t : Plain) (k : Known) (a : Annotation) (x : OwnName) (d : Declared × Kind) → ShowsOwnName k a x d → declaring_kind t d.0.place ≡ d.1 →
    kept_name_line k.table k.signatures x ≡ own_name_line t a d.0
line-shown t k a x d h e =
    let class : class_and_kept_type k.table k.signatures x.kind x.meaning ≡ class_and_own_type a d.0.name (declaring_kind t d.0.place) =
    ap (λ (j : Kind). class_and_kept_type k.table k.signatures j x.meaning) (h.kind ∙ sym e) ∙ class-shown k a x d h (declaring_kind t d.0.place) in
    λ i. codes "  " ++ h.name i ++ codes " " ++ class i ++ codes "\n"

-- ---- all names

lines-shown : (t : Plain) (k : Known) (a : Annotation) (xs : List OwnName) (ds : List (Declared × Kind)) → ShowsOwnNames k a xs ds →
    ((d : Declared × Kind) → IsAmong ds d → declaring_kind t d.0.place ≡ d.1) →
    flat_map (kept_name_line k.table k.signatures) xs ≡ flat_map (own_name_line t a) (map (λ (d : Declared × Kind). d.0) ds)
lines-shown t k a [] [] h e = refl
lines-shown t k a (x ∷ xs) (d ∷ ds) h e = λ i. line-shown t k a x d h.0 (e d (inl refl)) i ++ lines-shown t k a xs ds h.1 (λ y b. e y (inr b)) i
lines-shown t k a [] (d ∷ ds) h e = absurd h
lines-shown t k a (x ∷ xs) [] h e = absurd h

-- ---- which names a routine declares

first-names : (before : List (List ℕ)) (xs : List (Declared × Kind)) →
    map (λ (d : Declared × Kind). d.0) (first_kinds before xs) ≡ without_seconds before (map (λ (d : Declared × Kind). d.0) xs)
first-names before [] = refl
first-names before (x ∷ xs) = which (first-names before xs) (first-names (x.0.name ∷ before) xs) (is_among before x.0.name) where
  which : map (λ (d : Declared × Kind). d.0) (first_kinds before xs) ≡ without_seconds before (map (λ (d : Declared × Kind). d.0) xs) →
      map (λ (d : Declared × Kind). d.0) (first_kinds (x.0.name ∷ before) xs) ≡ without_seconds (x.0.name ∷ before) (map (λ (d : Declared × Kind). d.0) xs) → (z : Bool) →
      map (λ (d : Declared × Kind). d.0) (if z then first_kinds before xs else x ∷ first_kinds (x.0.name ∷ before) xs)
      ≡ (if z then without_seconds before (map (λ (d : Declared × Kind). d.0) xs) else x.0 ∷ without_seconds (x.0.name ∷ before) (map (λ (d : Declared × Kind). d.0) xs))
  which second first true = second
  which second first false = ap (λ (ds : List Declared). x.0 ∷ ds) first

first-among : (before : List (List ℕ)) (xs : List (Declared × Kind)) (d : Declared × Kind) → IsAmong (first_kinds before xs) d → IsAmong xs d
first-among before [] d a = absurd a
first-among before (x ∷ xs) d a = which (first-among before xs d) (first-among (x.0.name ∷ before) xs d) (is_among before x.0.name) a where
  which : (IsAmong (first_kinds before xs) d → IsAmong xs d) → (IsAmong (first_kinds (x.0.name ∷ before) xs) d → IsAmong xs d) → (z : Bool) →
      IsAmong (if z then first_kinds before xs else x ∷ first_kinds (x.0.name ∷ before) xs) d → IsAmong (x ∷ xs) d
  which second first true b = inr (second b)
  which second first false (inl e) = inl e
  which second first false (inr b) = inr (first b)

own-names : KindNamesLaw → (t : Plain) (r : Routine) → map (λ (d : Declared × Kind). d.0) (own_kinds t r) ≡ names_of t r
own-names law t r = first-names (given_names r) (routine_kinds t r) ∙ ap (without_seconds (given_names r)) (law t r)

-- the lines of the names of a routine by what was kept of it
pub names-shown : KindsLaw → (t : Plain) → IsProper t → (k : Known) (x : RoutineNames) (a : Annotation) → IsAmong (annotated t).routines a → ShowsRoutine t k x a →
    kept_name_lines k.table k.signatures x ≡ own_name_lines t a
names-shown law t proper k x a among h =
    lines-shown t k a x.names.items (own_kinds t a.routine) h.names (λ d b. law.kinds t a d proper among (first-among (given_names a.routine) (routine_kinds t a.routine) d b))
    ∙ ap (flat_map (own_name_line t a)) (own-names law.names t a.routine)
