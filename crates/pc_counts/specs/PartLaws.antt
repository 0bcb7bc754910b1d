-- What the rules say that the nodes of definition parts declare is what stands there, name by name: lemmas.
use Rattle.std.proofs.Common.{◌≡◌, ℕ, Bool, true, false, List, [], ◌∷◌, ◌++◌, refl, ap, sym, ◌∙◌, if◌then◌else◌, append-nil}
use Rattle.pc_syntax.specs.Plain.{Forest, Nil, Cons}
use Rattle.pc_syntax.specs.Sorts.{is_hole}
use Rattle.pc_syntax.specs.WellFormed.{WellFormed}
use Rattle.pc_syntax.specs.Words.{lowered}
use Rattle.pc_syntax.specs.declared.kind.Kind.{Kind}
use Rattle.pc_scope.specs.Headings.{is_routine_kind, first_name, names_of_first}
use Rattle.pc_rules.specs.Attributes.{Attributes, Marked, nodes}
use Rattle.pc_rules.specs.Decorated.{decorate, rule, seen}
use Rattle.pc_rules.specs.HandedOn.{all_defines}
use Rattle.pc_rules.specs.Meanings.{Class, ConstantName, ElementName, TypeName, VariableName, Local, Outside}
use Rattle.pc_rules.specs.OwnBlock.{all_of_class, declared_by, declared_in, named_of_class}
use Rattle.pc_rules.specs.Places.{beside, inner}
use Rattle.pc_rule_laws.specs.NameNodes.{names-head, head_one, one-is}
use Rattle.pc_rule_laws.specs.Orderly.{HeadName, InOrder, IsPair, IsSingle, Orderly}
use Rattle.pc_rule_laws.specs.Roles.{DeclaresParameters, DeclaresRoutine, DeclaresVariables, DefinesConstant, DefinesType, Gap, Gathers, GathersOne, GathersTwo, ListsElements, ParameterPart, Quiet, Role, RoutinePart, TypePart, defines-role, defines_by, first_node, keys, keys-append, names-role, names_by, role, second_node}
use Rattle.pc_openings.specs.DeclaringLaws.{named-some}
use Rattle.pc_counts.specs.SilentLaws.{HeadQuiet, head-quiet, heads-quiet, quiet-defines, silent-declares}
use Rattle.pc_counts.specs.PartKinds.{part_kind, part_role}
use Rattle.pc_counts.specs.PartTrees.{ArePlain, part-plain, part-orderly, plain-kind}

-- ---- one or two kids, and what they hand on

one-defines : (out : Outside) (l : Local) (ks : Forest) → IsSingle ks → keys (all_defines (first_node (decorate out l ks) ∷ [])) ≡ keys (all_defines (nodes (decorate out l ks)))
unfolding decorate
one-defines out l Nil p = absurd p
one-defines out l (Cons k w ns ks Nil) p = refl
one-defines out l (Cons k w ns ks (Cons j v os js ts)) p = absurd p

two-defines : (out : Outside) (l : Local) (ks : Forest) → IsPair ks →
    keys (all_defines (first_node (decorate out l ks) ∷ second_node (decorate out l ks) ∷ [])) ≡ keys (all_defines (nodes (decorate out l ks)))
unfolding decorate
two-defines out l Nil p = absurd p
two-defines out l (Cons k w ns ks Nil) p = absurd p
two-defines out l (Cons k w ns ks (Cons j v os js Nil)) p = refl
two-defines out l (Cons k w ns ks (Cons j v os js (Cons a b c d e))) p = absurd p

first-defines : (out : Outside) (l : Local) (ks : Forest) → HeadQuiet ks → keys (first_node (decorate out l ks)).defines ≡ []
unfolding decorate
first-defines out l Nil h = refl
first-defines out l (Cons k w ns ks ts) h =
    let m : Marked = decorate out (inner l k ks) ks in
    defines-role l k w (seen out l k w) m ∙ quiet-defines (role k) l m h

-- where the first of two declares nothing, the second declares what both do
second-defines : (out : Outside) (l : Local) (ks : Forest) → IsPair ks → HeadQuiet ks → keys (second_node (decorate out l ks)).defines ≡ keys (all_defines (nodes (decorate out l ks)))
second-defines out l ks p h =
    let a = (first_node (decorate out l ks)).defines in
    let b = (second_node (decorate out l ks)).defines in
    sym (keys-append a (b ++ []) ∙ (λ i. first-defines out l ks h i ++ ap keys (append-nil b) i)) ∙ two-defines out l ks p

-- the name at the head
head-named : (c : Class) (ks : Forest) → HeadName ks → ArePlain ks → head_one c ks ≡ named_of_class c (first_name ks)
head-named c Nil h x = absurd h
head-named c (Cons k w ns ks ts) h x = by (is_hole k) refl
  where
    by : (b : Bool) → is_hole k ≡ b → (if b then [] else (lowered w, c) ∷ []) ≡ named_of_class c (if b then [] else lowered w)
    by true e = refl
    by false e = sym (named-some c w (x.1 h.0 e))

-- ---- nodes, by their roles

defines-at : (out : Outside) (r : Role) (l inside : Local) (ks : Forest) → InOrder r ks (Orderly ks) → part_role r ≡ true → ArePlain ks →
    (Orderly ks → keys (all_defines (nodes (decorate out inside ks))) ≡ declared_in ks) → defines_by r l (decorate out inside ks) ≡ names_by r ks ++ declared_in ks
defines-at out Quiet l inside ks h p x ih = sym (silent-declares ks h)
defines-at out Gap l inside Nil h p x ih = refl
defines-at out Gap l inside (Cons k w ns ks ts) h p x ih = absurd h
defines-at out Gathers l inside ks h p x ih = ih h
defines-at out GathersOne l inside ks h p x ih = one-defines out inside ks h.0 ∙ ih h.1
defines-at out GathersTwo l inside ks h p x ih = two-defines out inside ks h.0 ∙ ih h.1
defines-at out TypePart l inside ks h p x ih = ih h
defines-at out RoutinePart l inside ks h p x ih = cc p
defines-at out ParameterPart l inside ks h p x ih = cc p
defines-at out DefinesConstant l inside ks h p x ih =
    let name : List (List ℕ × Class) = named_of_class ConstantName (first_name ks) in
    one-is out inside ConstantName ks h.0 ∙ head-named ConstantName ks h.0 x ∙ sym (append-nil name) ∙ ap (λ (ds : List (List ℕ × Class)). name ++ ds) (sym (silent-declares ks h.1))
defines-at out DefinesType l inside ks h p x ih =
    λ i. (one-is out inside TypeName ks h.0 ∙ head-named TypeName ks h.0 x) i ++ (second-defines out inside ks h.1 (head-quiet ks h.0) ∙ ih h.2) i
defines-at out DeclaresVariables l inside ks h p x ih =
    λ i. all_of_class VariableName (names-head out inside ks h.0 i) ++ (second-defines out inside ks h.1 (heads-quiet ks h.0) ∙ ih h.2) i
defines-at out ListsElements l inside ks h p x ih =
    let all : List (List ℕ × Class) = all_of_class ElementName (names_of_first ks) in
    ap (all_of_class ElementName) (names-head out inside ks h.0) ∙ sym (append-nil all) ∙ ap (λ (ds : List (List ℕ × Class)). all ++ ds) (sym (silent-declares ks h.2))
defines-at out (DeclaresRoutine c) l inside ks h p x ih = cc p
defines-at out (DeclaresParameters c) l inside ks h p x ih = cc p

unless-routine : (b : Bool) (ds : List (List ℕ × Class)) → b ≡ false → ds ≡ (if b then [] else ds)
unless-routine true ds e = cc e
unless-routine false ds e = refl

-- one node, where it is so of its kids
node-declares : (out : Outside) (l : Local) (k : Kind) (w : List ℕ) (ks : Forest) → InOrder (role k) ks (Orderly ks) → part_role (role k) ≡ true → ArePlain ks →
    (Orderly ks → keys (all_defines (nodes (decorate out (inner l k ks) ks))) ≡ declared_in ks) →
    keys (rule l k w (seen out l k w) (decorate out (inner l k ks) ks)).defines ≡ declared_by k ks ++ (if is_routine_kind k then [] else declared_in ks)
node-declares out l k w ks h p x ih =
    defines-role l k w (seen out l k w) (decorate out (inner l k ks) ks) ∙ defines-at out (role k) l (inner l k ks) ks h p x ih
    ∙ (λ i. sym (names-role k ks) i ++ unless-routine (is_routine_kind k) (declared_in ks) (plain-kind k p) i)

trees-declare : (out : Outside) (l : Local) (f : Forest) → Orderly f → ArePlain f → keys (all_defines (nodes (decorate out l f))) ≡ declared_in f
unfolding decorate
trees-declare out l Nil h x = refl
trees-declare out l (Cons k w ns ks ts) h x =
    let inside : Local = inner l k ks in
    let a : Attributes = rule l k w (seen out l k w) (decorate out inside ks) in
    let next : Local = beside l k a in
    keys-append a.defines (all_defines (nodes (decorate out next ts)))
    ∙ (λ i. node-declares out l k w ks h.0 x.0 x.2 (λ o. trees-declare out inside ks o x.2) i ++ trees-declare out next ts h.1 x.3 i)

-- a node of a definition part
pub part-declares : (out : Outside) (l : Local) (k : Kind) (w : List ℕ) (ns : List (List ℕ)) (ks : Forest) → WellFormed (Cons k w ns ks Nil) → part_kind k ≡ true →
    keys (rule l k w (seen out l k w) (decorate out (inner l k ks) ks)).defines ≡ declared_by k ks ++ (if is_routine_kind k then [] else declared_in ks)
part-declares out l k w ns ks h is =
    let x = part-plain (Cons k w ns ks Nil) h (is, tt) in
    node-declares out l k w ks (part-orderly (Cons k w ns ks Nil) h (is, tt)).0 x.0 x.2 (λ o. trees-declare out (inner l k ks) ks o x.2)
