-- What the definitions of a block declare as types: nothing that stands in denoters, and each under a name that the block declares.
use Rattle.std.proofs.Common.{◌≡◌, ℕ, zero, suc, Bool, true, false, ◌||◌, not, if◌then◌else◌, List, [], ◌∷◌, ◌++◌, Some, None, get_or, refl, sym, ap, subst, true≢false}
use Rattle.std.proofs.lemmas.Bool.{and_parts}
use Rattle.std.proofs.lemmas.Slice.Eq.{bytes_eq-Decides}
use Rattle.std.specs.Option.{is_some}
use Rattle.pc_syntax.specs.declared.kind.Kind.{Kind}
use Rattle.pc_syntax.specs.declared.kind.Kind.TheVariants as kind
use Rattle.pc_syntax.specs.declared.class.Class.TheVariants as class
use Rattle.pc_syntax.specs.Classes.{has}
use Rattle.pc_syntax.specs.Layout.{layout}
use Rattle.pc_syntax.specs.Plain.{Forest, Nil, Cons, count, kinds}
use Rattle.pc_syntax.specs.Sorts.{is_hole}
use Rattle.pc_syntax.specs.WellFormed.{WellFormed, fits_some}
use Rattle.pc_syntax.specs.Words.{lowered, is_identifier}
use Rattle.pc_types.specs.Shapes.{Owner}
use Rattle.pc_scope.specs.Headings.{is_routine_kind}
use Rattle.pc_rules.specs.Attributes.{Marked, Node, nodes, missing}
use Rattle.pc_rules.specs.Decorated.{Seen, seen, rule, decorate}
use Rattle.pc_rules.specs.HandedOn.{all_defines}
use Rattle.pc_rules.specs.Meanings.{Class, ConstantName, ElementName, TypeName, Meaning, Local, Outside, declared_as}
use Rattle.pc_rules.specs.NameClasses.{is_type_class}
use Rattle.pc_rules.specs.OwnBlock.{named_of_class, all_of_class, declared_by, declared_in}
use Rattle.pc_rules.specs.Places.{inner, beside}
use Rattle.pc_needs.proofs.BodyKinds.{either-way}
use Rattle.pc_needs.proofs.Lists.{Each, each-append}
use Rattle.pc_needs.proofs.Owners.{beside-owner}
use Rattle.pc_rule_laws.specs.Roles.{Role, Quiet, Gap, Gathers, GathersOne, GathersTwo, ListsElements, role, keys, first_node, second_node, defines_by, keys-append, defines-role}
use Rattle.pc_carrying.specs.Carrying.{is_denoting, AllDenoting, is_defining, AllDefining}
use Rattle.pc_targets.proofs.TypeLemmas.{named-front, named-back, IsOwnType, AllOwnTypes, NoTypes, none-own, more-own}

-- ---- denoters

-- what hands on, or lists elements
abbrev is_handing : Role → Bool
is_handing Quiet = true
is_handing Gap = true
is_handing Gathers = true
is_handing GathersOne = true
is_handing GathersTwo = true
is_handing ListsElements = true
is_handing _ = false

handing-so : (k : Kind) → (is_handing (role k) || not (is_denoting k)) ≡ true
handing-so (kind.Hole s) = refl
handing-so _ = refl

-- no kid declares a type
abbrev NoneDeclares : List Node → Type 0
NoneDeclares ns = Each (λ (n : Node). NoTypes (keys n.defines)) ns

kid-none : (ns : List Node) (i : ℕ) → NoneDeclares ns → NoTypes (keys (get_or ns i missing).defines)
kid-none [] i h = tt
kid-none (n ∷ ns) zero h = h.0
kid-none (n ∷ ns) (suc i) h = kid-none ns i h.1

all-none : (ns : List Node) → NoneDeclares ns → NoTypes (keys (all_defines ns))
all-none [] h = tt
all-none (n ∷ ns) h =
    subst NoTypes (sym (keys-append n.defines (all_defines ns)))
    (each-append (λ (c : List ℕ × Class). is_type_class c.1 ≡ false) (keys n.defines) (keys (all_defines ns)) h.0 (all-none ns h.1))

elements-none : (ns : List (List ℕ)) → NoTypes (all_of_class ElementName ns)
elements-none [] = tt
elements-none (n ∷ ns) = (refl, elements-none ns)

role-none : (r : Role) (l : Local) (m : Marked) → is_handing r ≡ true → NoneDeclares (nodes m) → NoTypes (defines_by r l m)
role-none Quiet l m e h = tt
role-none Gap l m e h = tt
role-none Gathers l m e h = all-none (nodes m) h
role-none GathersOne l m e h = all-none (first_node m ∷ []) (kid-none (nodes m) 0 h, tt)
role-none GathersTwo l m e h = all-none (first_node m ∷ second_node m ∷ []) (kid-none (nodes m) 0 h, (kid-none (nodes m) 1 h, tt))
role-none ListsElements l m e h = elements-none _
role-none _ l m e h = absurd (true≢false (sym e))

rule-none : (l : Local) (k : Kind) (w : List ℕ) (s : Seen) (m : Marked) → is_denoting k ≡ true → NoneDeclares (nodes m) → NoTypes (keys (rule l k w s m).defines)
rule-none l k w s m e h = subst NoTypes (sym (defines-role l k w s m)) (role-none (role k) l m (either-way (is_handing (role k)) (is_denoting k) (handing-so k) e) h)

marks-none : (out : Outside) (l : Local) (f : Forest) → AllDenoting f → NoneDeclares (nodes (decorate out l f))
unfolding decorate
marks-none out l Nil a = tt
marks-none out l (Cons k w ns ks ts) a =
    let m = decorate out (inner l k ks) ks in
    let r = rule l k w (seen out l k w) m in
    (rule-none l k w (seen out l k w) m a.0 (marks-none out (inner l k ks) ks a.1), marks-none out (beside l k r) ts a.2)

-- ---- definitions of types

-- the name that one declares stands among those that its block does: it isn't empty
name-own : (o : Owner) (j : Kind) (v : List ℕ) (js : Forest) (m : Meaning) → m.owner ≡ o → has class.Name j ≡ true → fits_some (layout j v (count js)) (kinds js) ≡ true →
    AllOwnTypes o (named_of_class TypeName (if is_hole j then [] else lowered v)) (if is_hole j then [] else (lowered v, m) ∷ [])
unfolding is_identifier
name-own o kind.Name [] js m q e f = absurd (true≢false (sym f))
name-own o kind.Name (b ∷ bs) js m q e f = ((λ c. (q, ap (λ (t : Bool). is_some (if t then Some TypeName else None)) ((bytes_eq-Decides (lowered (b ∷ bs)) (lowered (b ∷ bs))).1 refl))), tt)
name-own o (kind.Hole s) v js m q e f = tt
name-own o _ v js m q e f = absurd (true≢false (sym e))

typedef-own : (out : Outside) (l at : Local) (w : List ℕ) (s : Seen) (ks : Forest) → AllDenoting ks → fits_some (layout kind.Typedef w (count ks)) (kinds ks) ≡ true → WellFormed ks →
    AllOwnTypes l.owner (declared_by kind.Typedef ks) (rule l kind.Typedef w s (decorate out at ks)).defines
unfolding rule decorate
typedef-own out l at (b ∷ w) s ks a f c = absurd (true≢false (sym f))
typedef-own out l at [] s Nil a f c = absurd (true≢false (sym f))
typedef-own out l at [] s (Cons j v os js us) a f c =
    let m = decorate out at (Cons j v os js us) in
    let names = declared_by kind.Typedef (Cons j v os js us) in
    let meaning = record (declared_as TypeName l.owner) { type = (second_node m).as_value.type } in
    each-append (IsOwnType l.owner names) (if is_hole j then [] else (lowered v, meaning) ∷ []) (second_node m).defines
    (name-own l.owner j v js meaning refl (and_parts (has class.Name j) _ f).0 c.0)
    (none-own l.owner names (second_node m).defines (kid-none (nodes m) 1 (marks-none out at (Cons j v os js us) a)))

constant-none : (b : Bool) (n : List ℕ) → NoTypes (if b then [] else (n, ConstantName) ∷ [])
constant-none true n = tt
constant-none false n = (refl, tt)

-- ---- definitions

definition-own : (out : Outside) (l at : Local) (k : Kind) (w : List ℕ) (s : Seen) (ks : Forest) → is_defining k ≡ true → AllDenoting ks → fits_some (layout k w (count ks)) (kinds ks) ≡ true → WellFormed ks →
    AllOwnTypes l.owner (declared_by k ks) (rule l k w s (decorate out at ks)).defines
definition-own out l at kind.Typedef w s ks e a f c = typedef-own out l at w s ks a f c
definition-own out l at kind.Constdef w s ks e a f c =
    let m = decorate out at ks in
    none-own l.owner (declared_by kind.Constdef ks) (rule l kind.Constdef w s m).defines (subst NoTypes (sym (defines-role l kind.Constdef w s m)) (constant-none (is_hole (first_node m).kind) (lowered (first_node m).word)))
definition-own out l at (kind.Hole x) w s ks e a f c =
    let m = decorate out at ks in
    none-own l.owner (declared_by (kind.Hole x) ks) (rule l (kind.Hole x) w s m).defines (subst NoTypes (sym (defines-role l (kind.Hole x) w s m)) tt)
definition-own out l at k w s ks e a f c = absurd (true≢false (sym e))

-- definitions in a row
pub definitions-own : (out : Outside) (l : Local) (f : Forest) → AllDefining f → WellFormed f → AllOwnTypes l.owner (declared_in f) (all_defines (nodes (decorate out l f)))
unfolding decorate
definitions-own out l Nil a c = tt
definitions-own out l (Cons k w ns ks ts) a c =
    let r = rule l k w (seen out l k w) (decorate out (inner l k ks) ks) in
    let next = beside l k r in
    let below = if is_routine_kind k then [] else declared_in ks in
    let names = declared_by k ks ++ below ++ declared_in ts in
    let rest = all_defines (nodes (decorate out next ts)) in
    each-append (IsOwnType l.owner names) r.defines rest
    (more-own l.owner (declared_by k ks) names r.defines (λ n e. named-front (declared_by k ks ++ below) (declared_in ts) n (named-front (declared_by k ks) below n e)) (definition-own out l (inner l k ks) k w (seen out l k w) ks a.0 a.1 c.0 c.3))
    (more-own l.owner (declared_in ts) names rest (named-back (declared_by k ks ++ below) (declared_in ts))
    (subst (λ (o : Owner). AllOwnTypes o (declared_in ts) rest) (beside-owner l k r) (definitions-own out next ts a.2 c.4)))
