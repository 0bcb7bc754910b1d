-- The class of a sort has the kinds of the sort, by computation.
use Rattle.std.proofs.Common.{◌≡◌, Bool, true, false, eqb, List, [], ◌∷◌, Option, Some, None, refl, ap, sym, ◌∙◌}
use Rattle.std.proofs.lemmas.Bool.{eqb-true, false≢true}
use Rattle.pc_syntax.specs.declared.kind.Kind.{Kind}
use Rattle.pc_syntax.specs.declared.sort.Sort.{Sort}
use Rattle.pc_syntax.specs.declared.sort.Sort.TheVariants as sort
use Rattle.pc_syntax.specs.Classes.{has}
use Rattle.pc_syntax.specs.Sorts.{sort_of}
use Rattle.pc_parse.specs.Laws.{SortsAreClasses}
use Rattle.pc_parse.specs.Lookahead.{sort_number}
use Rattle.pc_parse.specs.Reading.{class_of}
use Rattle.pc_parse.proofs.Entries.{nth, each, all_kinds, at_kind}

abbrev all_sorts : List Sort
all_sorts = sort.Program ∷ sort.Block ∷ sort.ConstDef ∷ sort.TypeDef ∷ sort.VarDef ∷ sort.Routine ∷ sort.Parameter ∷ sort.Denoter ∷ sort.Field ∷ sort.Constant ∷ sort.Statement ∷ sort.Arm ∷ sort.Expression ∷ sort.Name ∷ []

sort_nth : (s : Sort) → nth all_sorts (sort_number s) ≡ Some s
sort_nth sort.Program = refl
sort_nth _ = refl

-- whether it is this sort
abbrev is_of : Sort → Option Sort → Bool
is_of s None = false
is_of s (Some r) = eqb (sort_number s) (sort_number r)

is_of_itself : (s : Sort) → is_of s (Some s) ≡ true
is_of_itself sort.Program = refl
is_of_itself _ = refl

some_same : (s r : Sort) → Some s ≡ Some r → s ≡ r
some_same s r h = cc

is_of_only : (s : Sort) (o : Option Sort) → is_of s o ≡ true → o ≡ Some s
is_of_only s None h = absurd (false≢true h)
is_of_only s (Some r) h = ap Some (some_same r s (sym (sort_nth r) ∙ ap (nth all_sorts) (sym (eqb-true _ _ h)) ∙ sort_nth s))

-- whether two answers are one
abbrev agree : Bool → Bool → Bool
agree true b = b
agree false true = false
agree false false = true

agree_same : (a b : Bool) → agree a b ≡ true → a ≡ b
agree_same true true h = refl
agree_same true false h = cc
agree_same false true h = cc
agree_same false false h = refl

agreed : (s : Sort) → each (λ k. agree (is_of s (sort_of k)) (has (class_of s) k)) all_kinds ≡ true
agreed sort.Program = refl
agreed _ = refl

same : (s : Sort) (k : Kind) → is_of s (sort_of k) ≡ has (class_of s) k
same s k = agree_same _ _ (at_kind (λ j. agree (is_of s (sort_of j)) (has (class_of s) j)) k (agreed s))

pub sorts_are_classes : SortsAreClasses
sorts_are_classes s k = (λ e. sym (same s k) ∙ ap (is_of s) e ∙ is_of_itself s, λ h. is_of_only s (sort_of k) (same s k ∙ h))
