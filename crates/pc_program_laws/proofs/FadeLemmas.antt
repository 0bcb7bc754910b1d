-- Lists of nodes with other meanings of names: what the rules of declarations take from them is the same.
use Rattle.std.specs.Prelude.{ℕ, suc, ◌≡◌, Bool, true, false, ◌||◌, if◌then◌else◌, List, [], ◌∷◌, length, map, get_or, Option, option_map, ◌++◌}
use Rattle.std.specs.Option.{option_and_then}
use Rattle.std.proofs.Common.{refl, ap, sym, ◌∙◌}
use Rattle.pc_syntax.specs.Sorts.{is_hole}
use Rattle.pc_syntax.specs.Words.{lowered}
use Rattle.pc_types.specs.Shapes.{Owner, Definition, Typed, ArrayType}
use Rattle.pc_rules.specs.Attributes.{at_kid, Entry, Marked, Done, Mark, Node, plain, nodes, missing, kids_below, first_below, second_below, each_kid}
use Rattle.pc_rules.specs.Decorated.{Seen}
use Rattle.pc_rules.specs.DeclaringNames.{names_in, repeats}
use Rattle.pc_rules.specs.HandedOn.{kid_entries, any_hole, all_touches, all_defines, all_opens}
use Rattle.pc_rules.specs.Meanings.{Meaning, Found, Missing}
use Rattle.pc_rules.specs.StructuredTypes.{numbered, arrays, field_names, field_denoter, field_repeats, fields_named, Row, row_of}
use Rattle.pc_program_laws.specs.Unsigned.{faded, all_faded}

-- a node with another meaning of its name, and of those below it
abbrev pub fade : (Found → Found) → Node → Node
fade g n = record { at = faded g n.at; below = all_faded g n.below }

-- what a node looks up
abbrev pub fade_seen : (Found → Found) → Seen → Seen
fade_seen g s = record { found = g s.found; changed = false }

pub nodes-fade : (g : Found → Found) (m : Marked) → nodes (all_faded g m) ≡ map (fade g) (nodes m)
nodes-fade g Done = refl
nodes-fade g (Mark a below rest) = ap (λ (ns : List Node). fade g (record { at = a; below = below }) ∷ ns) (nodes-fade g rest)

pub missing-fade : (g : Found → Found) → g Missing ≡ Missing → fade g missing ≡ missing
missing-fade g e = λ i. record { at = record plain { found = e i }; below = Done }

pub first-fade : (g : Found → Found) → g Missing ≡ Missing → (n : Node) → first_below (fade g n) ≡ fade g (first_below n)
first-fade g e n = by n.below where
  by : (m : Marked) → get_or (nodes (all_faded g m)) 0 missing ≡ fade g (get_or (nodes m) 0 missing)
  by Done = sym (missing-fade g e)
  by (Mark a below rest) = refl

pub second-fade : (g : Found → Found) → g Missing ≡ Missing → (n : Node) → second_below (fade g n) ≡ fade g (second_below n)
second-fade g e n = by n.below where
  by : (m : Marked) → get_or (nodes (all_faded g m)) 1 missing ≡ fade g (get_or (nodes m) 1 missing)
  by Done = sym (missing-fade g e)
  by (Mark a below Done) = sym (missing-fade g e)
  by (Mark a below (Mark b under rest)) = refl

-- ---- what lists of nodes have together

pub any_hole-fade : (g : Found → Found) (ns : List Node) → any_hole (map (fade g) ns) ≡ any_hole ns
any_hole-fade g [] = refl
any_hole-fade g (n ∷ ns) = ap (λ (b : Bool). n.hole || b) (any_hole-fade g ns)

pub touches-fade : (g : Found → Found) (ns : List Node) → all_touches (map (fade g) ns) ≡ all_touches ns
touches-fade g [] = refl
touches-fade g (n ∷ ns) = ap (λ (vs : List (Owner × List ℕ)). n.touches ++ vs) (touches-fade g ns)

pub defines-fade : (g : Found → Found) (ns : List Node) → all_defines (map (fade g) ns) ≡ all_defines ns
defines-fade g [] = refl
defines-fade g (n ∷ ns) = ap (λ (ds : List (List ℕ × Meaning)). n.defines ++ ds) (defines-fade g ns)

pub opens-fade : (g : Found → Found) (ns : List Node) → all_opens (map (fade g) ns) ≡ all_opens ns
opens-fade g [] = refl
opens-fade g (n ∷ ns) = ap (λ (os : List (List ℕ × (Typed × Bool))). os ++ n.opens) (opens-fade g ns)

pub each_kid-fade : (g : Found → Found) (e : Node → List Entry) → ((n : Node) → e (fade g n) ≡ e n) → (i : ℕ) (ns : List Node) → each_kid e i (map (fade g) ns) ≡ each_kid e i ns
each_kid-fade g e h i [] = refl
each_kid-fade g e h i (n ∷ ns) = λ z. at_kid i (h n z) ++ each_kid-fade g e h (suc i) ns z

pub entries-fade : (g : Found → Found) (i : ℕ) (ns : List Node) → kid_entries i (map (fade g) ns) ≡ kid_entries i ns
entries-fade g i ns = each_kid-fade g (λ n. n.as_value.entries) (λ n. refl) i ns

pub length-fade : (g : Found → Found) (ns : List Node) → length (map (fade g) ns) ≡ length ns
length-fade g [] = refl
length-fade g (n ∷ ns) = ap suc (length-fade g ns)

-- ---- names that are declared

names-map : (g : Found → Found) (ns : List Node) → names_in (map (fade g) ns) ≡ names_in ns
names-map g [] = refl
names-map g (n ∷ ns) = λ i. if is_hole n.kind then names-map g ns i else lowered n.word ∷ names-map g ns i

pub names-fade : (g : Found → Found) (n : Node) → names_in (kids_below (fade g n)) ≡ names_in (kids_below n)
names-fade g n = ap names_in (nodes-fade g n.below) ∙ names-map g (kids_below n)

repeats-map : (g : Found → Found) (before : List (List ℕ)) (i : ℕ) (ns : List Node) → repeats before i (map (fade g) ns) ≡ repeats before i ns
repeats-map g before i [] = refl
repeats-map g before i (n ∷ ns) = by (is_hole n.kind) _ (repeats-map g before (suc i) ns) (repeats-map g (lowered n.word ∷ before) (suc i) ns) where
  by : {x y u v : List Entry} (b : Bool) (es : List Entry) → x ≡ y → u ≡ v → (if b then x else es ++ u) ≡ (if b then y else es ++ v)
  by true es p q = p
  by false es p q = ap (λ (z : List Entry). es ++ z) q

pub repeats-fade : (g : Found → Found) (before : List (List ℕ)) (n : Node) → repeats before 1 (kids_below (fade g n)) ≡ repeats before 1 (kids_below n)
repeats-fade g before n = ap (repeats before 1) (nodes-fade g n.below) ∙ repeats-map g before 1 (kids_below n)

-- ---- arrays and records

arrays-map : (g : Found → Found) (d : Definition) (i : ℕ) (p : Bool) (ns : List Node) (e : Typed) → arrays d i p (map (fade g) ns) e ≡ arrays d i p ns e
arrays-map g d i p [] e = refl
arrays-map g d i p (n ∷ ns) e =
    ap (λ (rest : Option Typed). option_and_then (λ (x : Typed). option_map (λ (inner : Typed). record { shape = ArrayType (numbered d i) p x.shape inner.shape; domains = inner.domains }) rest) n.as_value.type)
    (arrays-map g d (suc i) p ns e)

pub arrays-fade : (g : Found → Found) (d : Definition) (p : Bool) (n : Node) (e : Typed) → arrays d 1 p (kids_below (fade g n)) e ≡ arrays d 1 p (kids_below n) e
arrays-fade g d p n e = ap (λ (ns : List Node). arrays d 1 p ns e) (nodes-fade g n.below) ∙ arrays-map g d 1 p (kids_below n) e

pub indexes-fade : (g : Found → Found) (e : Node → List Entry) → ((n : Node) → e (fade g n) ≡ e n) → (n : Node) → each_kid e 1 (kids_below (fade g n)) ≡ each_kid e 1 (kids_below n)
indexes-fade g e h n = ap (each_kid e 1) (nodes-fade g n.below) ∙ each_kid-fade g e h 1 (kids_below n)

field-names : (g : Found → Found) → g Missing ≡ Missing → (n : Node) → names_in (field_names (fade g n)) ≡ names_in (field_names n)
field-names g e n = ap (λ (x : Node). names_in (kids_below x)) (first-fade g e n) ∙ names-fade g (first_below n)

field-repeated : (g : Found → Found) → g Missing ≡ Missing → (before : List (List ℕ)) (n : Node) → repeats before 1 (field_names (fade g n)) ≡ repeats before 1 (field_names n)
field-repeated g e before n = ap (λ (x : Node). repeats before 1 (kids_below x)) (first-fade g e n) ∙ repeats-fade g before (first_below n)

field-type : (g : Found → Found) → g Missing ≡ Missing → (n : Node) → (field_denoter (fade g n)).as_value.type ≡ (field_denoter n).as_value.type
field-type g e n = ap (λ (x : Node). x.as_value.type) (second-fade g e n)

field-repeats : (g : Found → Found) → g Missing ≡ Missing → (before : List (List ℕ)) (i : ℕ) (ns : List Node) → field_repeats before i (map (fade g) ns) ≡ field_repeats before i ns
field-repeats g e before i [] = refl
field-repeats g e before i (n ∷ ns) =
    (λ z. at_kid i (at_kid 1 (field-repeated g e before n z)) ++ field_repeats (field-names g e n z ++ before) (suc i) (map (fade g) ns))
    ∙ ap (λ (es : List Entry). at_kid i (at_kid 1 (repeats before 1 (field_names n))) ++ es) (field-repeats g e (names_in (field_names n) ++ before) (suc i) ns)

pub field_repeats-fade : (g : Found → Found) → g Missing ≡ Missing → (n : Node) → field_repeats [] 1 (kids_below (fade g n)) ≡ field_repeats [] 1 (kids_below n)
field_repeats-fade g e n = ap (field_repeats [] 1) (nodes-fade g n.below) ∙ field-repeats g e [] 1 (kids_below n)

row-map : (g : Found → Found) → g Missing ≡ Missing → (ns : List Node) → row_of (map (fade g) ns) ≡ row_of ns
row-map g e [] = refl
row-map g e (n ∷ ns) = λ z. option_and_then (λ (t : Typed). option_map (λ (r : Row). record { fields = fields_named (field-names g e n z) t.shape r.fields; domains = t.domains ++ r.domains }) (row-map g e ns z))
    (field-type g e n z)

pub row-fade : (g : Found → Found) → g Missing ≡ Missing → (n : Node) → row_of (kids_below (fade g n)) ≡ row_of (kids_below n)
row-fade g e n = ap row_of (nodes-fade g n.below) ∙ row-map g e (kids_below n)
