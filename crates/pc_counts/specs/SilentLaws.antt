-- Nodes that declare nothing: lemmas.
use Rattle.std.proofs.Common.{◌≡◌, Bool, true, false, List, [], ◌++◌, refl, sym, ◌∙◌, subst, if◌then◌else◌}
use Rattle.pc_syntax.specs.Plain.{Forest, Nil, Cons}
use Rattle.pc_scope.specs.Headings.{is_routine_kind}
use Rattle.pc_rules.specs.Attributes.{Marked}
use Rattle.pc_rules.specs.Meanings.{Local}
use Rattle.pc_rules.specs.OwnBlock.{declared_in}
use Rattle.pc_rule_laws.specs.NameNodes.{name-quiet, names-quiet}
use Rattle.pc_rule_laws.specs.Orderly.{HeadName, HeadNames, IsQuiet, IsSilent, Silent}
use Rattle.pc_rule_laws.specs.Roles.{Gap, Gathers, Quiet, Role, defines_by, names-role, names_by, role}

quiet-names : (r : Role) (ks : Forest) → IsSilent r ks → names_by r ks ≡ []
quiet-names Quiet ks h = refl
quiet-names Gap ks h = refl
quiet-names Gathers ks h = absurd h
quiet-names _ ks h = absurd h

below-by : {X : Type 0} (b : Bool) (xs : List X) → xs ≡ [] → (if b then [] else xs) ≡ []
below-by true xs e = refl
below-by false xs e = e

pub silent-declares : (f : Forest) → Silent f → declared_in f ≡ []
silent-declares Nil h = refl
silent-declares (Cons k w ns ks ts) h =
    λ i. (names-role k ks ∙ quiet-names (role k) ks h.0) i ++ below-by (is_routine_kind k) (declared_in ks) (silent-declares ks h.1) i ++ silent-declares ts h.2 i

pub quiet-defines : (r : Role) (l : Local) (m : Marked) → IsQuiet r → defines_by r l m ≡ []
quiet-defines Quiet l m h = refl
quiet-defines Gap l m h = refl
quiet-defines Gathers l m h = absurd h
quiet-defines _ l m h = absurd h

-- a name, or a list of names, at the head declares nothing by itself
abbrev pub HeadQuiet : Forest → Type 0
HeadQuiet Nil = Unit {0}
HeadQuiet (Cons k w ns ks ts) = IsQuiet (role k)

pub head-quiet : (ks : Forest) → HeadName ks → HeadQuiet ks
head-quiet Nil h = tt
head-quiet (Cons k w ns ks ts) h = name-quiet k h.0

pub heads-quiet : (ks : Forest) → HeadNames ks → HeadQuiet ks
heads-quiet Nil h = tt
heads-quiet (Cons k w ns ks ts) h = subst IsQuiet (sym (names-quiet k h.0)) tt
