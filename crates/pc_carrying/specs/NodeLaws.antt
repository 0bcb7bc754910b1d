-- Nodes at and below denoters: parts of what the rules make of them.
use Rattle.std.proofs.Common.{◌≡◌, ℕ, zero, suc, Bool, true, false, not, ◌||◌, if◌then◌else◌, List, [], ◌∷◌, ◌++◌, Option, Some, None, codes, option_map, pos, refl, sym, ◌∙◌, ap}
use Rattle.std.proofs.lemmas.Bool.{true≢false}
use Rattle.std.specs.Prelude.{get_or}
use Rattle.std.specs.Str.{bytes_eq}
use Rattle.std.specs.Option.{option_and_then}
use Rattle.pc_forms.specs.declared.operator.Sign.{Sign}
use Rattle.pc_types.specs.Shapes.{Owner, Definition, Shape, IntegerType, BooleanType, Domain, Typed}
use Rattle.pc_types.specs.TypeClasses.{maxint}
use Rattle.pc_rules.specs.Attributes.{Entry, Marked, Done, Mark, Node, plain, nodes, missing, is_empty, judged}
use Rattle.pc_rules.specs.Constants.{characters, text_value, typed_value, value_of_found, constant_node, signed}
use Rattle.pc_rules.specs.Denoters.{typed, some_typed, elements, denoter_node, type_of_found, bounded, subrange_of}
use Rattle.pc_rules.specs.HandedOn.{kid_entries, any_hole, all_defines, handed_on}
use Rattle.pc_rules.specs.Declarations.{declarations_rule}
use Rattle.pc_rules.specs.Meanings.{Constant, Ordinal, Chars, Value, Found, Here, Later, Component, Required, Missing, Meaning}
use Rattle.pc_rules.specs.NameClasses.{is_type_class}
use Rattle.pc_rules.specs.RequiredMeanings.{required_constant}
use Rattle.pc_rules.specs.StructuredTypes.{field_denoter}
use Rattle.pc_pointers.specs.Good.{Targets}
use Rattle.pc_closed.specs.Settled.{leads_nowhere}
use Rattle.pc_closed.specs.Carried.{IsCarriedType, AllCarried}
use Rattle.pc_closed.specs.CarriedLaws.{carried-law}
use Rattle.pc_carrying.specs.Carrying.{IsPlainValue, IsCarriedName, AllPlain, IsCarriedAt, CarriedMarks, IsCarriedNode, AllNodesCarried}

-- ---- kids

-- a node about which nothing is said
pub plain-carried : (targets : Targets) (own : List Domain) → IsCarriedAt targets own plain
plain-carried targets own = record { meant = tt; unmeant = λ e. refl; type = tt; fixed = tt; declared = tt }

-- the trees of a row as nodes
pub nodes-carried : (targets : Targets) (own : List Domain) (m : Marked) → CarriedMarks targets own m → AllNodesCarried targets own (nodes m)
nodes-carried targets own Done g = tt
nodes-carried targets own (Mark a below rest) g = (record { here = g.0; under = g.1 }, nodes-carried targets own rest g.2)

-- a kid, or what stands for it
pub kid-carried : (targets : Targets) (own : List Domain) (ns : List Node) (i : ℕ) → AllNodesCarried targets own ns → IsCarriedNode targets own (get_or ns i missing)
kid-carried targets own [] i g = record { here = plain-carried targets own; under = tt }
kid-carried targets own (n ∷ ns) zero g = g.0
kid-carried targets own (n ∷ ns) (suc i) g = kid-carried targets own ns i g.1

-- the denoters of fields
pub fields-carried : (targets : Targets) (own : List Domain) (ns : List Node) → AllNodesCarried targets own ns → AllCarried targets own field_denoter ns
fields-carried targets own [] g = tt
fields-carried targets own (n ∷ ns) g =
    ((kid-carried targets own (nodes n.below) 1 (nodes-carried targets own n.below g.0.under)).here.type, fields-carried targets own ns g.1)

pub plain-both : (ds es : List (List ℕ × Meaning)) → AllPlain ds → AllPlain es → AllPlain (ds ++ es)
plain-both [] es h g = g
plain-both (d ∷ ds) es h g = (h.0, plain-both ds es h.1 g)

-- what kids declare
pub defines-plain : (targets : Targets) (own : List Domain) (ns : List Node) → AllNodesCarried targets own ns → AllPlain (all_defines ns)
defines-plain targets own [] g = tt
defines-plain targets own (n ∷ ns) g = plain-both n.defines (all_defines ns) g.0.here.declared (defines-plain targets own ns g.1)

-- ---- types

either-type : (targets : Targets) (own : List Domain) (b : Bool) (t : Option Typed) → (b ≡ false → IsCarriedType targets own t) → IsCarriedType targets own (if b then None else t)
either-type targets own true t h = tt
either-type targets own false t h = h refl

neither : (a b : Bool) → (a || not b) ≡ false → (a ≡ false) × (b ≡ true)
neither true b e = absurd (true≢false e)
neither false true e = (refl, refl)
neither false false e = absurd (true≢false e)

-- a judgement of a type that is carried where nothing is wrong
pub judged-carried : (targets : Targets) (own : List Domain) (hole : Bool) (es : List Entry) (t : Option Typed) → (hole ≡ false → is_empty es ≡ true → IsCarriedType targets own t) →
    IsCarriedType targets own (judged hole es t).type
judged-carried targets own hole es t h = either-type targets own (hole || not (is_empty es)) t (λ e. let p = neither hole (is_empty es) e in h p.0 p.1)

-- a denoter
pub denoter-carried : (targets : Targets) (own : List Domain) (kids : List Node) (es : List Entry) (t : Option Typed) → AllNodesCarried targets own kids →
    (any_hole kids ≡ false → is_empty es ≡ true → IsCarriedType targets own t) → IsCarriedAt targets own (denoter_node kids es t)
denoter-carried targets own kids es t g h = record {
  meant = tt;
  unmeant = λ e. refl;
  type = judged-carried targets own (any_hole kids) es t h;
  fixed = tt;
  declared = defines-plain targets own kids g;
}

-- a list that hands on what its kids declare, and one that doesn't
pub declaring-carried : (targets : Targets) (own : List Domain) (kids : List Node) → AllNodesCarried targets own kids → IsCarriedAt targets own (declarations_rule kids)
declaring-carried targets own kids g = record {
  meant = tt;
  unmeant = λ e. refl;
  type = judged-carried targets own (any_hole kids) (kid_entries 1 kids) None (λ a b. tt);
  fixed = tt;
  declared = defines-plain targets own kids g;
}

pub handed-carried : (targets : Targets) (own : List Domain) (kids : List Node) → IsCarriedAt targets own (handed_on kids)
handed-carried targets own kids = record {
  meant = tt;
  unmeant = λ e. refl;
  type = judged-carried targets own (any_hole kids) (kid_entries 1 kids) None (λ a b. tt);
  fixed = tt;
  declared = tt;
}

-- ---- constants

value-carried : (targets : Targets) (own : List Domain) (v : Option Value) → IsPlainValue v → IsCarriedType targets own (option_map typed_value v)
value-carried targets own None h = tt
value-carried targets own (Some v) h = carried-law.alone targets own v.type h

either-value : (b : Bool) (v : Option Value) → IsPlainValue v → IsPlainValue (if b then None else v)
either-value true v h = tt
either-value false v h = h

-- a constant
pub constant-carried : (targets : Targets) (own : List Domain) (hole : Bool) (es : List Entry) (v : Option Value) → IsPlainValue v → IsCarriedAt targets own (constant_node hole es v)
constant-carried targets own hole es v h = record {
  meant = tt;
  unmeant = λ e. refl;
  type = judged-carried targets own hole es (option_map typed_value v) (λ a b. value-carried targets own v h);
  fixed = either-value (hole || not (is_empty es)) v h;
  declared = tt;
}

text-plain : (cs : List ℕ) → IsPlainValue (Some (text_value cs))
text-plain [] = refl
text-plain (c ∷ []) = refl
text-plain (c ∷ d ∷ cs) = refl

pub string-carried : (targets : Targets) (own : List Domain) (w : List ℕ) → IsCarriedAt targets own (constant_node false [] (Some (text_value (characters w))))
string-carried targets own w = constant-carried targets own false [] (Some (text_value (characters w))) (text-plain (characters w))

required-plain : (n : List ℕ) → IsPlainValue (required_constant n)
required-plain n = by (bytes_eq n (codes "maxint")) (bytes_eq n (codes "false")) (bytes_eq n (codes "true")) where
  by : (a b c : Bool) → IsPlainValue (if a then Some (record { type = IntegerType; constant = Ordinal maxint })
      else if b then Some (record { type = BooleanType; constant = Ordinal (pos 0) }) else if c then Some (record { type = BooleanType; constant = Ordinal (pos 1) }) else None)
  by true b c = refl
  by false true c = refl
  by false false true = refl
  by false false false = tt

pub found-plain : (targets : Targets) (own : List Domain) (n : List ℕ) (f : Found) → IsCarriedName targets own n f → IsPlainValue (value_of_found f)
found-plain targets own n (Here m) h = h.plain
found-plain targets own n (Required r) h = required-plain r
found-plain targets own n (Later c) h = tt
found-plain targets own n (Component t p) h = tt
found-plain targets own n Missing h = tt

pub signed-plain : (s : Sign) (v : Option Value) → IsPlainValue v → IsPlainValue (option_map (signed s) v)
signed-plain s None h = tt
signed-plain s (Some v) h = h

-- the constants of an enumerated type
shape-plain : (o : Owner) (t : Option Shape) (i : ℕ) → ((s : Shape) → t ≡ Some s → leads_nowhere s ≡ true) → IsPlainValue (option_map (λ s. record { type = s; constant = Ordinal (pos i) }) t)
shape-plain o None i h = tt
shape-plain o (Some s) i h = h s refl

pub elements-plain : (o : Owner) (t : Option Shape) (i : ℕ) (ns : List (List ℕ)) → ((s : Shape) → t ≡ Some s → leads_nowhere s ≡ true) → AllPlain (elements o t i ns)
elements-plain o t i [] h = tt
elements-plain o t i (n ∷ ns) h = (record { class = refl; untyped = refl; unsigned = refl; value = shape-plain o t i h }, elements-plain o t (suc i) ns h)

pub judged-nowhere : (b : Bool) (t : Shape) → leads_nowhere t ≡ true → (s : Shape) → option_map (λ (x : Typed). x.shape) (if b then None else some_typed t) ≡ Some s → leads_nowhere s ≡ true
judged-nowhere true t h s e = absurd (cc e)
judged-nowhere false t h s e = let q : t ≡ s = cc e in ap leads_nowhere (sym q) ∙ h

-- ---- names, and subranges

pub type-carried : (targets : Targets) (own : List Domain) (n : List ℕ) (f : Found) → IsCarriedName targets own n f → IsCarriedType targets own (type_of_found f)
type-carried targets own n (Here m) h = by (is_type_class m.class) refl where
  by : (b : Bool) → is_type_class m.class ≡ b → IsCarriedType targets own (if b then m.type else None)
  by true e = (h.named e).0
  by false e = tt
type-carried targets own n (Required r) h = carried-law.name targets own n (Required r) h
type-carried targets own n (Later c) h = tt
type-carried targets own n (Component t p) h = tt
type-carried targets own n Missing h = tt

bounded-carried : (targets : Targets) (own : List Domain) (d : Definition) (t : Shape) (a b : Constant) → leads_nowhere t ≡ true → IsCarriedType targets own (option_map typed (bounded d t a b))
bounded-carried targets own d t (Ordinal a) (Ordinal b) e = record { others = tt; hosts = e; further = tt; leads = tt; lead = tt }
bounded-carried targets own d t (Ordinal a) (Chars b) e = tt
bounded-carried targets own d t (Chars a) (Ordinal b) e = tt
bounded-carried targets own d t (Chars a) (Chars b) e = tt

pub subrange-carried : (targets : Targets) (own : List Domain) (d : Definition) (low high : Option Value) → IsPlainValue low →
    IsCarriedType targets own (option_map typed (option_and_then (λ a. option_and_then (subrange_of d a) high) low))
subrange-carried targets own d None high h = tt
subrange-carried targets own d (Some a) None h = tt
subrange-carried targets own d (Some a) (Some b) h = bounded-carried targets own d a.type a.constant b.constant h
