-- The rule at each kind of node at or below a denoter makes what is carried of what is carried.
use Rattle.std.proofs.Common.{◌≡◌, ℕ, Bool, true, false, not, ◌||◌, if◌then◌else◌, List, [], ◌∷◌, ◌++◌, Option, Some, None, codes, option_map, pos, refl}
use Rattle.std.proofs.lemmas.Bool.{true≢false, false≢true}
use Rattle.std.specs.Prelude.{get_or}
use Rattle.std.specs.Option.{option_and_then}
use Rattle.pc_syntax.specs.declared.kind.Kind.{Kind}
use Rattle.pc_syntax.specs.declared.kind.Kind.TheVariants as kind
use Rattle.pc_syntax.specs.Sorts.{is_hole}
use Rattle.pc_syntax.specs.Words.{lowered, value_after}
use Rattle.pc_forms.specs.Form.{form_from}
use Rattle.pc_forms.specs.Operators.{sign_of}
use Rattle.pc_types.specs.Shapes.{Domain, Typed, IntegerType, EnumeratedType, RecordType, SetType, LastField}
use Rattle.pc_scope.specs.Required.{is_required_type}
use Rattle.pc_rules.specs.Attributes.{Attributes, Marked, Node, nodes, missing, is_empty, at_kid, kids_below}
use Rattle.pc_rules.specs.Constants.{number_entries, value_of_found, signed}
use Rattle.pc_rules.specs.DeclaringNames.{names_in, repeats}
use Rattle.pc_rules.specs.Decorated.{Seen, rule_of, rule, with_kind}
use Rattle.pc_rules.specs.Denoters.{typed, some_typed, defined_here, enumerated_rule, pointer_rule, pointer_to, is_later_type, domain_entries}
use Rattle.pc_rules.specs.Meanings.{Ordinal, Meaning, Found, Here, Later, Component, Required, Missing, Local}
use Rattle.pc_rules.specs.NameClasses.{is_type_class}
use Rattle.pc_rules.specs.StructuredTypes.{arrays, array_rule, record_rule, set_rule}
use Rattle.pc_rules.specs.UsedNames.{missed, not_a, is_used_as}
use Rattle.pc_pointers.specs.Good.{Targets}
use Rattle.pc_closed.specs.Carried.{IsCarriedType}
use Rattle.pc_closed.specs.CarriedLaws.{carried-law}
use Rattle.pc_carrying.specs.Carrying.{IsCarriedName, IsConfinedName, IsCarriedAt, CarriedMarks, IsCarriedNode, AllNodesCarried, is_denoting}
use Rattle.pc_carrying.specs.ConfinedLaws.{AllConfined, kid-confined}
use Rattle.pc_carrying.specs.NodeLaws.{nodes-carried, kid-carried, fields-carried, denoter-carried, declaring-carried, handed-carried, constant-carried, string-carried, found-plain, signed-plain, elements-plain, judged-carried, judged-nowhere, type-carried, subrange-carried}

-- ---- forms of denoters

enumerated-carried : (targets : Targets) (own : List Domain) (l : Local) (names : Node) → IsCarriedAt targets own (enumerated_rule l names)
enumerated-carried targets own l names =
    let t = EnumeratedType (defined_here l) (names_in (kids_below names)) in
    let es = at_kid 1 (repeats l.passed 1 (kids_below names)) in
    record {
      meant = tt;
      unmeant = λ e. refl;
      type = judged-carried targets own names.hole es (some_typed t) (λ a b. record { others = tt; hosts = tt; further = tt; leads = tt; lead = tt });
      fixed = tt;
      declared = elements-plain l.owner _ 0 (names_in (kids_below names)) (judged-nowhere (names.hole || not (is_empty es)) t refl);
    }

elements-carried : (targets : Targets) (own : List Domain) (l : Local) (indexes : List Node) (e : Option Typed) → IsCarriedType targets own e →
    IsCarriedType targets own (option_and_then (arrays (defined_here l) 1 l.packed indexes) e)
elements-carried targets own l indexes None h = tt
elements-carried targets own l indexes (Some e) h = carried-law.array targets own (defined_here l) 1 l.packed indexes e h

array-carried : (targets : Targets) (own : List Domain) (l : Local) (indexes element : Node) → IsCarriedNode targets own indexes → IsCarriedNode targets own element →
    IsCarriedAt targets own (array_rule l indexes element)
array-carried targets own l indexes element g h =
    denoter-carried targets own (indexes ∷ element ∷ []) _ _ (g, (h, tt)) (λ a b. elements-carried targets own l (kids_below indexes) element.as_value.type h.here.type)

record-carried : (targets : Targets) (own : List Domain) (l : Local) (fields : Node) → IsCarriedNode targets own fields → IsCarriedAt targets own (record_rule l fields)
record-carried targets own l fields g =
    denoter-carried targets own (fields ∷ []) _ _ (g, tt)
    (λ a b. carried-law.fields targets own (defined_here l) l.packed (kids_below fields) (fields-carried targets own (kids_below fields) (nodes-carried targets own fields.below g.under)))

set-type : (targets : Targets) (own : List Domain) (l : Local) (t : Option Typed) → IsCarriedType targets own (option_map (λ (t : Typed). typed (SetType (defined_here l) l.packed t.shape)) t)
set-type targets own l None = tt
set-type targets own l (Some t) = record { others = tt; hosts = tt; further = tt; leads = tt; lead = tt }

set-carried : (targets : Targets) (own : List Domain) (l : Local) (base : Node) → IsCarriedNode targets own base → IsCarriedAt targets own (set_rule l base)
set-carried targets own l base g = denoter-carried targets own (base ∷ []) _ _ (g, tt) (λ a b. set-type targets own l base.as_value.type)

-- ---- pointers: where the name means no type, it has an entry

-- the entries at a name that is no type
no-type : (name : Node) (m : Meaning) → (is_hole name.kind ≡ true → Here m ≡ Missing) → is_type_class m.class ≡ false →
    is_empty (at_kid 1 (if is_hole name.kind then [] else missed name.word (Here m) ++ (if is_type_class m.class then [] else not_a (codes "type") name.word))) ≡ true → ⊥
no-type name m u c e = by (is_hole name.kind) u (is_type_class m.class) c e where
  by : (a : Bool) → (a ≡ true → Here m ≡ Missing) → (b : Bool) → b ≡ false →
      is_empty (at_kid 1 (if a then [] else missed name.word (Here m) ++ (if b then [] else not_a (codes "type") name.word))) ≡ true → ⊥
  by true u b c e = cc (u refl)
  by false u true c e = true≢false c
  by false u false c e = false≢true e

type-pointed : (targets : Targets) (own : List Domain) (l : Local) (name : Node) (m : Meaning) → IsCarriedName targets own (lowered name.word) (Here m) → (is_hole name.kind ≡ true → Here m ≡ Missing) →
    is_empty (at_kid 1 (if is_hole name.kind then [] else missed name.word (Here m) ++ (if is_type_class m.class then [] else not_a (codes "type") name.word))) ≡ true →
    IsCarriedType targets own (pointer_to l (lowered name.word) (Here m))
type-pointed targets own l name m h u e = by (is_type_class m.class) refl where
  by : (b : Bool) → is_type_class m.class ≡ b → IsCarriedType targets own (pointer_to l (lowered name.word) (Here m))
  by true c = carried-law.pointer targets own l (lowered name.word) (Here m) (h.named c) (λ k q. absurd (cc q))
  by false c = absurd (no-type name m u c e)

pointed : (targets : Targets) (own : List Domain) (l : Local) (name : Node) (f : Found) → IsCarriedName targets own (lowered name.word) f → (is_hole name.kind ≡ true → f ≡ Missing) →
    is_empty (at_kid 1 (if is_later_type f then [] else if is_hole name.kind then []
    else missed name.word f ++ (if is_used_as is_type_class is_required_type f then [] else not_a (codes "type") name.word))) ≡ true →
    IsConfinedName targets own l.owner (lowered name.word) f → IsCarriedType targets own (pointer_to l (lowered name.word) f)
pointed targets own l name (Here m) h u e k = type-pointed targets own l name m h u e
pointed targets own l name (Required r) h u e k = carried-law.pointer targets own l (lowered name.word) (Required r) h k
pointed targets own l name (Later c) h u e k = carried-law.pointer targets own l (lowered name.word) (Later c) tt k
pointed targets own l name (Component t p) h u e k = tt
pointed targets own l name Missing h u e k = tt

pointer-carried : (targets : Targets) (own : List Domain) (l : Local) (name : Node) → IsCarriedNode targets own name → IsConfinedName targets own l.owner (lowered name.word) name.found →
    IsCarriedAt targets own (pointer_rule l name)
pointer-carried targets own l name g k =
    denoter-carried targets own (name ∷ []) (at_kid 1 (domain_entries name)) (pointer_to l (lowered name.word) name.found) (g, tt)
    (λ a b. pointed targets own l name name.found g.here.meant g.here.unmeant b k)

-- ---- the rule

-- the same node with a kind and a word
with_kind-carried : (targets : Targets) (own : List Domain) (k : Kind) (w : List ℕ) (a : Attributes) → a.found ≡ Missing → IsCarriedAt targets own a → IsCarriedAt targets own (with_kind k w a)
with_kind-carried targets own k w a q g = record { meant = rw q tt; unmeant = λ e. q; type = g.type; fixed = g.fixed; declared = g.declared }

-- by the form, which has kids that are carried
rule_of-carried : (targets : Targets) (own : List Domain) (l : Local) (k : Kind) (w : List ℕ) (s : Seen) (ns : List Node) →
    is_denoting k ≡ true → IsCarriedName targets own (lowered w) s.found → AllNodesCarried targets own ns → AllConfined targets own l.owner ns → IsCarriedAt targets own (with_kind k w (rule_of l s (form_from k w ns missing)))
rule_of-carried targets own l kind.Cnumber w s ns e f g c =
    with_kind-carried targets own kind.Cnumber w _ refl (constant-carried targets own false (number_entries w) (Some (record { type = IntegerType; constant = Ordinal (pos (value_after 0 w)) })) refl)
rule_of-carried targets own l kind.Cstring w s ns e f g c = with_kind-carried targets own kind.Cstring w _ refl (string-carried targets own w)
rule_of-carried targets own l kind.Cname w s ns e f g c =
    let name = get_or ns 0 missing in
    with_kind-carried targets own kind.Cname w _ refl
    (constant-carried targets own (is_hole name.kind) _ (value_of_found name.found) (found-plain targets own (lowered name.word) name.found (kid-carried targets own ns 0 g).here.meant))
rule_of-carried targets own l kind.Csign w s ns e f g c =
    let x = get_or ns 0 missing in
    with_kind-carried targets own kind.Csign w _ refl
    (constant-carried targets own x.hole _ (option_map (signed (sign_of w)) x.constant) (signed-plain (sign_of w) x.constant (kid-carried targets own ns 0 g).here.fixed))
rule_of-carried targets own l kind.Tname w s ns e f g c =
    let name = get_or ns 0 missing in
    let h = kid-carried targets own ns 0 g in
    with_kind-carried targets own kind.Tname w _ refl
    (denoter-carried targets own (name ∷ []) _ _ (h, tt) (λ a b. type-carried targets own (lowered name.word) name.found h.here.meant))
rule_of-carried targets own l kind.Enum w s ns e f g c = with_kind-carried targets own kind.Enum w _ refl (enumerated-carried targets own l (get_or ns 0 missing))
rule_of-carried targets own l kind.Subrange w s ns e f g c =
    let low = get_or ns 0 missing in
    let high = get_or ns 1 missing in
    let h = kid-carried targets own ns 0 g in
    with_kind-carried targets own kind.Subrange w _ refl
    (denoter-carried targets own (low ∷ high ∷ []) _ _ (h, (kid-carried targets own ns 1 g, tt)) (λ a b. subrange-carried targets own (defined_here l) low.constant high.constant h.here.fixed))
rule_of-carried targets own l kind.Array w s ns e f g c =
    with_kind-carried targets own kind.Array w _ refl (array-carried targets own l (get_or ns 0 missing) (get_or ns 1 missing) (kid-carried targets own ns 0 g) (kid-carried targets own ns 1 g))
rule_of-carried targets own l kind.Record w s ns e f g c = with_kind-carried targets own kind.Record w _ refl (record-carried targets own l (get_or ns 0 missing) (kid-carried targets own ns 0 g))
rule_of-carried targets own l kind.Record0 w s ns e f g c =
    with_kind-carried targets own kind.Record0 w _ refl
    (denoter-carried targets own [] [] (some_typed (RecordType (defined_here l) l.packed LastField)) tt (λ a b. record { others = tt; hosts = tt; further = tt; leads = tt; lead = tt }))
rule_of-carried targets own l kind.Setof w s ns e f g c = with_kind-carried targets own kind.Setof w _ refl (set-carried targets own l (get_or ns 0 missing) (kid-carried targets own ns 0 g))
rule_of-carried targets own l kind.Packed w s ns e f g c =
    let h = kid-carried targets own ns 0 g in
    with_kind-carried targets own kind.Packed w _ refl (denoter-carried targets own (get_or ns 0 missing ∷ []) _ _ (h, tt) (λ a b. h.here.type))
rule_of-carried targets own l kind.Pointer w s ns e f g c = with_kind-carried targets own kind.Pointer w _ refl (pointer-carried targets own l (get_or ns 0 missing) (kid-carried targets own ns 0 g) (kid-confined targets own l.owner ns 0 c))
rule_of-carried targets own l kind.Name w s ns e f g c = record { meant = f; unmeant = λ q. absurd (false≢true q); type = tt; fixed = tt; declared = tt }
rule_of-carried targets own l kind.Names w s ns e f g c = with_kind-carried targets own kind.Names w _ refl (handed-carried targets own ns)
rule_of-carried targets own l kind.Indexes w s ns e f g c = with_kind-carried targets own kind.Indexes w _ refl (declaring-carried targets own ns g)
rule_of-carried targets own l kind.Fields w s ns e f g c = with_kind-carried targets own kind.Fields w _ refl (declaring-carried targets own ns g)
rule_of-carried targets own l kind.Field w s ns e f g c =
    with_kind-carried targets own kind.Field w _ refl
    (declaring-carried targets own (get_or ns 0 missing ∷ get_or ns 1 missing ∷ []) (kid-carried targets own ns 0 g, (kid-carried targets own ns 1 g, tt)))
rule_of-carried targets own l (kind.Hole x) w s ns e f g c = record { meant = tt; unmeant = λ q. refl; type = tt; fixed = tt; declared = tt }
rule_of-carried targets own l k w s ns e f g c = absurd (false≢true e)

-- above marks that are carried
pub rule-carried : (targets : Targets) (own : List Domain) (l : Local) (k : Kind) (w : List ℕ) (s : Seen) (m : Marked) →
    is_denoting k ≡ true → IsCarriedName targets own (lowered w) s.found → CarriedMarks targets own m → AllConfined targets own l.owner (nodes m) → IsCarriedAt targets own (rule l k w s m)
unfolding rule
rule-carried targets own l k w s m e f g c = rule_of-carried targets own l k w s (nodes m) e f (nodes-carried targets own m g) c
