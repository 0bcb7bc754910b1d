-- What is found at the nodes of declared names.
use Rattle.std.proofs.Common.{List, [], ap, if◌then◌else◌, refl, true, ℕ, ◌∙◌, ◌∷◌, ◌≡◌}
use Rattle.pc_rule_laws.specs.Orderly.{HeadName, HeadNames, IsQuiet, NameList}
use Rattle.pc_rule_laws.specs.Roles.{Quiet, first_node, one, role}
use Rattle.pc_rules.specs.Attributes.{Marked, kids_below, nodes}
use Rattle.pc_rules.specs.DeclaringNames.{names_in}
use Rattle.pc_rules.specs.Places.{beside, inner}
use Rattle.pc_rules.specs.Decorated.{Seen, decorate, rule, seen}
use Rattle.pc_rules.specs.Meanings.{Class, Local, Outside}
use Rattle.pc_scope.specs.Headings.{names_of, names_of_first}
use Rattle.pc_syntax.specs.Classes.{is_name, is_names}
use Rattle.pc_syntax.specs.Plain.{Cons, Forest, Nil}
use Rattle.pc_syntax.specs.Sorts.{is_hole}
use Rattle.pc_syntax.specs.Words.{lowered}
use Rattle.pc_syntax.specs.declared.kind.Kind.{Kind}
use Rattle.pc_syntax.specs.declared.kind.Kind.TheVariants as kind

-- a name or a hole is found as what it is
pub name-node : {A : Type 0} (l : Local) (k : Kind) (w : List ℕ) (s : Seen) (m : Marked) (y : A) (g : List ℕ → A) →
    (if is_hole (rule l k w s m).kind then y else g (lowered (rule l k w s m).word)) ≡ (if is_hole k then y else g (lowered w))
unfolding rule
name-node l k w s m y g = refl

-- names, and the node of a list of names, declare nothing by themselves
pub name-quiet : (k : Kind) → is_name k ≡ true → IsQuiet (role k)
name-quiet kind.Name e = tt
name-quiet (kind.Hole s) e = tt
name-quiet _ e = cc e

pub names-quiet : (k : Kind) → is_names k ≡ true → role k ≡ Quiet
names-quiet kind.Names e = refl
names-quiet _ e = cc e

pub names_in-list : (out : Outside) (l : Local) (f : Forest) → NameList f → names_in (nodes (decorate out l f)) ≡ names_of f
unfolding decorate
names_in-list out l Nil h = refl
names_in-list out l (Cons k w ns ks ts) h =
    let m : Marked = decorate out (inner l k ks) ks in
    name-node l k w (seen out l k w) m (names_in (nodes (decorate out (beside l k (rule l k w (seen out l k w) m)) ts)))
    (λ x. x ∷ names_in (nodes (decorate out (beside l k (rule l k w (seen out l k w) m)) ts)))
    ∙ ap (λ zs. if is_hole k then zs else lowered w ∷ zs) (names_in-list out (beside l k (rule l k w (seen out l k w) m)) ts h.2)

pub names-head : (out : Outside) (l : Local) (ks : Forest) → HeadNames ks → names_in (kids_below (first_node (decorate out l ks))) ≡ names_of_first ks
unfolding decorate
names-head out l Nil h = absurd h
names-head out l (Cons k w ns ks ts) h = names_in-list out (inner l k ks) ks h.1

-- what the first of some nodes declares, if it is a name
abbrev pub head_one : Class → Forest → List (List ℕ × Class)
head_one c Nil = []
head_one c (Cons k w ns ks ts) = if is_hole k then [] else (lowered w, c) ∷ []

pub one-is : (out : Outside) (l : Local) (c : Class) (ks : Forest) → HeadName ks → one c (first_node (decorate out l ks)) ≡ head_one c ks
unfolding decorate
one-is out l c Nil h = absurd h
one-is out l c (Cons k w ns ks ts) h = name-node l k w (seen out l k w) (decorate out (inner l k ks) ks) [] (λ x. (x, c) ∷ [])
