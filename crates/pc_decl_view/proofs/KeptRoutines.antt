-- The view `decls` by what was kept of the routines.
use Rattle.std.specs.Prelude.{◌≡◌, ℕ, Bool, true, false, not, ◌&&◌, nat_eq, if◌then◌else◌, List, [], ◌∷◌, ◌++◌, codes, Option, Some}
use Rattle.std.specs.Option.{option_map_or, is_some}
use Rattle.std.specs.List.{find, filter, flat_map}
use Rattle.std.proofs.Common.{refl, ap, sym, ◌∙◌, inl, inr, subst}
use Rattle.pc_syntax.specs.Plain.{Plain}
use Rattle.pc_syntax.specs.WellFormed.{IsProper}
use Rattle.pc_types.specs.Sameness.{same_owner}
use Rattle.pc_types.specs.Shapes.{Owner, Keyed, Placed}
use Rattle.pc_types.specs.Table.{Table}
use Rattle.pc_rules.specs.RoutineList.{key_of}
use Rattle.pc_facts.specs.Known.{Known}
use Rattle.pc_facts.specs.declared.sighting.Signature.{Signature}
use Rattle.pc_sightings.specs.TouchedLog.{AreApart}
use Rattle.pc_views.specs.Limit.{limited, Agrees}
use Rattle.pc_decl.specs.AgreesLaws.{limited-agrees}
use Rattle.pc_decl.specs.Annotated.{Annotation, annotated}
use Rattle.pc_decl.specs.Declared.{later_of, routines_with_key}
use Rattle.pc_decl.specs.DeclsText.{decls_text}
use Rattle.pc_decl.specs.Shown.{owner_text, key_text}
use Rattle.pc_decl_laws.specs.Kinds.{KindsLaw}
use Rattle.pc_decl_laws.specs.Lines.{own_name_lines, own_routine_lines, LinesLaw}
use Rattle.pc_decl_laws.specs.OwnTypes.{IsAmong}
use Rattle.pc_own_names.specs.ShowsNames.{ShowsRoutine, AllShowRoutines}
use Rattle.pc_own_names.specs.declared.own_name.RoutineNames.{RoutineNames}
use Rattle.pc_decl_view.specs.KeptLines.{kept_name_lines, kept_key_lines, is_later_of, kept_lines_among, kept_decls}
use Rattle.pc_decl_view.proofs.KeptNames.{names-shown}

-- these routines are all of the program
abbrev Among : Plain → List Annotation → Type 0
Among t bs = (b : Annotation) → IsAmong bs b → IsAmong (annotated t).routines b

-- ---- the later declaration

test-shown : (t : Plain) (k : Known) → AreApart k.table.owners → (x y : RoutineNames) (a b : Annotation) → ShowsRoutine t k x a → ShowsRoutine t k y b →
    is_later_of x.owner.0 y ≡ (b.routine.is_later && same_owner b.routine.owner a.routine.owner)
test-shown t k apart x y a b hx hy =
    let one : nat_eq y.owner.0 x.owner.0 ≡ same_owner b.routine.owner a.routine.owner =
    sym (apart y.owner.0 x.owner.0 hy.there hx.there) ∙ (λ i. same_owner (hy.owner i) (hx.owner i)) in
    λ i. hy.later i && one i

later-shown : KindsLaw → (t : Plain) → IsProper t → (k : Known) → AreApart k.table.owners → (x : RoutineNames) (a : Annotation) → ShowsRoutine t k x a →
    (ys : List RoutineNames) (bs : List Annotation) → Among t bs → AllShowRoutines t k ys bs →
    option_map_or (kept_name_lines k.table k.signatures) (find (is_later_of x.owner.0) ys) [] ≡ option_map_or (own_name_lines t) (later_of bs a) []
later-shown law t proper k apart x a hx [] [] among h = refl
later-shown law t proper k apart x a hx (y ∷ ys) (b ∷ bs) among h =
    ap (λ (z : Bool). option_map_or (kept_name_lines k.table k.signatures) (if z then Some y else find (is_later_of x.owner.0) ys) []) (test-shown t k apart x y a b hx h.0)
    ∙ which (names-shown law t proper k y b (among b (inl refl)) h.0) (later-shown law t proper k apart x a hx ys bs (λ c d. among c (inr d)) h.1) (b.routine.is_later && same_owner b.routine.owner a.routine.owner) where
      which : kept_name_lines k.table k.signatures y ≡ own_name_lines t b →
          option_map_or (kept_name_lines k.table k.signatures) (find (is_later_of x.owner.0) ys) [] ≡ option_map_or (own_name_lines t) (later_of bs a) [] → (z : Bool) →
          option_map_or (kept_name_lines k.table k.signatures) (if z then Some y else find (is_later_of x.owner.0) ys) [] ≡ option_map_or (own_name_lines t) (if z then Some b else later_of bs a) []
      which here rest true = here
      which here rest false = rest
later-shown law t proper k apart x a hx [] (b ∷ bs) among h = absurd h
later-shown law t proper k apart x a hx (y ∷ ys) [] among h = absurd h

-- ---- one routine

-- the lines of a routine by its key, before those of others
key-lines : (names names' later later' rest rest' : List ℕ) → names ≡ names' → later ≡ later' → rest ≡ rest' → (is_later : Bool) (o : Owner) →
    (if is_later then [] else option_map_or (λ (key : List (List ℕ)). key_text key ++ codes "\n" ++ names ++ later) (key_of o) []) ++ rest
    ≡ (if is_some (key_of o) && not is_later then (owner_text o ++ codes "\n" ++ names' ++ later') ++ rest' else rest')
key-lines names names' later later' rest rest' e f g true (Keyed q) = g
key-lines names names' later later' rest rest' e f g true (Placed p) = g
key-lines names names' later later' rest rest' e f g false (Keyed q) = λ i. (key_text q ++ codes "\n" ++ e i ++ f i) ++ g i
key-lines names names' later later' rest rest' e f g false (Placed p) = g

flat-choice : (f : Annotation → List ℕ) (b : Annotation) (bs : List Annotation) (z : Bool) → (if z then f b ++ flat_map f bs else flat_map f bs) ≡ flat_map f (if z then b ∷ bs else bs)
flat-choice f b bs true = refl
flat-choice f b bs false = refl

-- ---- all routines

routines-shown : KindsLaw → (t : Plain) → IsProper t → (k : Known) → AreApart k.table.owners → (whole : List RoutineNames) (all : List Annotation) → Among t all → AllShowRoutines t k whole all →
    (xs : List RoutineNames) (bs : List Annotation) → Among t bs → AllShowRoutines t k xs bs →
    flat_map (kept_lines_among k.table k.signatures whole) xs ≡ flat_map (own_routine_lines t all) (filter (λ (r : Annotation). r.routine.has_key && not r.routine.is_later) bs)
routines-shown law t proper k apart whole all in_all shown [] [] among h = refl
routines-shown law t proper k apart whole all in_all shown (x ∷ xs) (b ∷ bs) among h =
    let counts : Annotation → Bool = λ (r : Annotation). r.routine.has_key && not r.routine.is_later in
    let later : Option RoutineNames = find (is_later_of x.owner.0) whole in
    let rest : List ℕ = flat_map (kept_lines_among k.table k.signatures whole) xs in
    let rest' : List ℕ = flat_map (own_routine_lines t all) (filter counts bs) in
    let own : List ℕ = own_routine_lines t all b in
    let known : kept_lines_among k.table k.signatures whole x ++ rest
    ≡ (if b.routine.is_later then [] else option_map_or (kept_key_lines k.table k.signatures x later) (key_of b.routine.owner) []) ++ rest =
    λ i. (if h.0.later i then [] else option_map_or (kept_key_lines k.table k.signatures x later) (h.0.key i) []) ++ rest in
    known
    ∙ key-lines (kept_name_lines k.table k.signatures x) (own_name_lines t b) (option_map_or (kept_name_lines k.table k.signatures) later []) (option_map_or (own_name_lines t) (later_of all b) []) rest rest'
    (names-shown law t proper k x b (among b (inl refl)) h.0) (later-shown law t proper k apart x b h.0 whole all in_all shown)
    (routines-shown law t proper k apart whole all in_all shown xs bs (λ c d. among c (inr d)) h.1) b.routine.is_later b.routine.owner
    ∙ ap (λ (z : Bool). if z && not b.routine.is_later then own ++ rest' else rest') (sym h.0.keyed)
    ∙ flat-choice (own_routine_lines t all) b (filter counts bs) (counts b)
routines-shown law t proper k apart whole all in_all shown [] (b ∷ bs) among h = absurd h
routines-shown law t proper k apart whole all in_all shown (x ∷ xs) [] among h = absurd h

-- the text of the view
decls-shown : LinesLaw → KindsLaw → (table : Table) (signatures : List Signature) (xs : List RoutineNames) (t : Plain) (k : Known) → IsProper t → k.table ≡ table → k.signatures ≡ signatures → AreApart table.owners →
    AllShowRoutines t k xs (annotated t).routines → kept_decls table signatures xs ≡ decls_text t
unfolding routines_with_key
decls-shown lines kinds table signatures xs t k proper is_table is_signatures apart h =
    let own : AreApart k.table.owners = subst (λ (tables : Table). AreApart tables.owners) (sym is_table) apart in
    let all : List Annotation = (annotated t).routines in
    (λ i. kept_decls (sym is_table i) (sym is_signatures i) xs)
    ∙ routines-shown kinds t proper k own xs all (λ b a. a) h xs all (λ b a. a) h
    ∙ sym (lines t proper)

-- what is shown of a text that agrees with it
pub view-shown : LinesLaw → KindsLaw → (table : Table) (signatures : List Signature) (xs : List RoutineNames) (shown text : List ℕ) → shown ≡ limited text → Agrees text (kept_decls table signatures xs) →
    (t : Plain) (k : Known) → IsProper t → k.table ≡ table → k.signatures ≡ signatures → AreApart table.owners → AllShowRoutines t k xs (annotated t).routines → shown ≡ limited (decls_text t)
view-shown lines kinds table signatures xs shown text is agrees t k proper is_table is_signatures apart h =
    is ∙ limited-agrees text (kept_decls table signatures xs) agrees ∙ ap limited (decls-shown lines kinds table signatures xs t k proper is_table is_signatures apart h)
