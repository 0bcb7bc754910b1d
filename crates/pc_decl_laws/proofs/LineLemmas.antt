-- The lines of the view `decls`, routine by routine.
use Rattle.std.specs.Prelude.{ℕ, ◌≡◌, Bool, true, false, not, ◌&&◌, if◌then◌else◌, List, [], ◌∷◌, ◌++◌, codes, Option, Some}
use Rattle.std.specs.Option.{option_map_or}
use Rattle.std.specs.List.{find, filter, flat_map}
use Rattle.std.proofs.Common.{refl, ap, inl, inr}
use Rattle.pc_syntax.specs.declared.kind.Kind.{Kind}
use Rattle.pc_syntax.specs.declared.kind.Kind.TheVariants as kind
use Rattle.pc_syntax.specs.Plain.{Plain}
use Rattle.pc_syntax.specs.WellFormed.{IsProper}
use Rattle.pc_types.specs.Expanded.{Ty}
use Rattle.pc_types.specs.Sameness.{same_owner}
use Rattle.pc_decl.specs.Annotated.{Annotation, Annotated, annotated}
use Rattle.pc_decl.specs.Declared.{names_of, routines_with_key}
use Rattle.pc_decl.specs.DeclsText.{declaring_kind, class_text, class_and_type, name_line, name_lines, routine_lines, decls_text}
use Rattle.pc_decl.specs.Shown.{owner_text}
use Rattle.pc_decl.specs.TypeAt.{type_in}
use Rattle.pc_decl.specs.TypeText.{known_or}
use Rattle.pc_decl_laws.specs.OwnTypes.{IsAmong, own_type}
use Rattle.pc_decl_laws.specs.Lines.{class_and_own_type, own_name_line, own_name_lines, own_routine_lines, LinesLaw}
use Rattle.pc_decl_laws.proofs.TypeLemmas.{own-type-law}

-- ---- lists

-- texts that are the same for each element
same-texts : {X : Type 0} (f g : X → List ℕ) (xs : List X) → ((x : X) → IsAmong xs x → f x ≡ g x) → flat_map f xs ≡ flat_map g xs
same-texts f g [] h = refl
same-texts f g (x ∷ xs) h = λ i. h x (inl refl) i ++ same-texts f g xs (λ y a. h y (inr a)) i

-- what is left of a list is of the list
left-among : {X : Type 0} (test : X → Bool) (xs : List X) (x : X) → IsAmong (filter test xs) x → IsAmong xs x
left-among test [] x a = absurd a
left-among test (y ∷ ys) x a = which (left-among test ys x) (test y) a where
  which : (IsAmong (filter test ys) x → IsAmong ys x) → (z : Bool) → IsAmong (if z then y ∷ filter test ys else filter test ys) x → IsAmong (y ∷ ys) x
  which rest true (inl e) = inl e
  which rest true (inr b) = inr (rest b)
  which rest false b = inr (rest b)

-- texts of what is found
same-found : {X : Type 0} (f g : X → List ℕ) (test : X → Bool) (xs : List X) → ((x : X) → IsAmong xs x → f x ≡ g x) → option_map_or f (find test xs) [] ≡ option_map_or g (find test xs) []
same-found f g test [] h = refl
same-found f g test (x ∷ xs) h = which (same-found f g test xs (λ y a. h y (inr a))) (test x) where
  which : option_map_or f (find test xs) [] ≡ option_map_or g (find test xs) [] → (z : Bool) → option_map_or f (if z then Some x else find test xs) [] ≡ option_map_or g (if z then Some x else find test xs) []
  which rest true = h x (inl refl)
  which rest false = rest

-- ---- lines

class-same : (p : Annotated) (r : Annotation) (q n : List ℕ) (k : Kind) → type_in p q ≡ own_type r n → class_and_type p q k ≡ class_and_own_type r n k
class-same p r q n kind.Procedure e = refl
class-same p r q n k e = ap (λ (o : Option Ty). class_text k ++ codes " " ++ known_or (codes "?") o) e

lines-same : (t : Plain) (r : Annotation) → IsProper t → IsAmong (annotated t).routines r → name_lines (annotated t) r ≡ own_name_lines t r
unfolding annotated
lines-same t r proper a = same-texts (name_line (annotated t)) (own_name_line t r) (names_of t r.routine)
    (λ d i. ap (λ (x : List ℕ). codes "  " ++ d.name ++ codes " " ++ x ++ codes "\n") (class-same (annotated t) r d.place d.name (declaring_kind t d.place) (own-type-law t r d proper a i)))

routine-same : (t : Plain) (r : Annotation) → IsProper t → IsAmong (annotated t).routines r → routine_lines (annotated t) r ≡ own_routine_lines t (annotated t).routines r
routine-same t r proper a = λ i.
    owner_text r.routine.owner ++ codes "\n" ++ lines-same t r proper a i
    ++ same-found (name_lines (annotated t)) (own_name_lines t) (λ (l : Annotation). l.routine.is_later && same_owner l.routine.owner r.routine.owner) (annotated t).routines (λ x b. lines-same t x proper b) i

pub lines-law : LinesLaw
unfolding decls_text routines_with_key
lines-law t proper =
    same-texts (routine_lines (annotated t)) (own_routine_lines t (annotated t).routines) (routines_with_key (annotated t))
    (λ r a. routine-same t r proper (left-among (λ (x : Annotation). x.routine.has_key && not x.routine.is_later) (annotated t).routines r a))
