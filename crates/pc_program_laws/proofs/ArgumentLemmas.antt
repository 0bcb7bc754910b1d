-- Lists of nodes without what is changed: what the rules of expressions and of simple statements take from them is the same.
use Rattle.std.specs.Prelude.{ℕ, suc, ◌≡◌, Bool, true, false, not, ◌&&◌, ◌||◌, ◌==◌, if◌then◌else◌, List, [], ◌∷◌, length, map, Option, Some, None, codes, ◌++◌}
use Rattle.std.specs.Option.{is_some, is_none}
use Rattle.std.proofs.Common.{refl, ap, ◌∙◌}
use Rattle.pc_types.specs.Shapes.{Owner, Shape, Typed}
use Rattle.pc_rules.specs.Arguments.{is_width, is_by_place, no_width, head, tail, argument_entries, arguments_entries, argument_type, arguments_typed, passed_by_place, wrong_count, call_entries, formals_of}
use Rattle.pc_rules.specs.Attributes.{at_kid, Entry, Node, kids_below, first_below, second_below, each_kid}
use Rattle.pc_rules.specs.Components.{index_of, is_array, component_of, indexed, indexes_no_array, all_typed, indexed_type, indexes_packed}
use Rattle.pc_rules.specs.Entries.{note_if, wrong_number, unassignable, unless}
use Rattle.pc_rules.specs.HandedOn.{kid_entries}
use Rattle.pc_rules.specs.Meanings.{Formal, Signature}
use Rattle.pc_rules.specs.RequiredFunctions.{is_reference, means_file, has_file, type_of_first, one_argument, end_test_entries}
use Rattle.pc_rules.specs.RequiredProcedures.{is_integer_ordinal, unwritable, write_entries, read_variables, behind_file, number_behind_file, is_without, file_entries}
use Rattle.pc_rules.specs.SetConstructors.{is_span, member_values, ordinal_entries, member_entries, member_type}
use Rattle.pc_types.specs.TypeClasses.{is_packed}
use Rattle.pc_program_laws.specs.Changed.{as_found}
use Rattle.pc_program_laws.proofs.FadeLemmas.{fade, nodes-fade, first-fade, second-fade, each_kid-fade, entries-fade, length-fade}

-- a node without what is changed
abbrev pub calm : Node → Node
calm n = fade as_found n

-- what is taken from the kids of a node, where it is the same of each list
pub below-calm : {X : Type 0} (of : List Node → X) → ((ns : List Node) → of (map calm ns) ≡ of ns) → (n : Node) → of (kids_below (calm n)) ≡ of (kids_below n)
below-calm of h n = ap of (nodes-fade as_found n.below) ∙ h (kids_below n)

pub first-calm : (n : Node) → first_below (calm n) ≡ calm (first_below n)
first-calm n = first-fade as_found refl n

pub second-calm : (n : Node) → second_below (calm n) ≡ calm (second_below n)
second-calm n = second-fade as_found refl n

-- ---- arguments

pub arguments-calm : (fs : List Formal) (i : ℕ) (ns : List Node) → arguments_entries fs i (map calm ns) ≡ arguments_entries fs i ns
arguments-calm fs i [] = refl
arguments-calm fs i (n ∷ ns) = ap (λ (es : List Entry). at_kid i (argument_entries (head fs) n) ++ es) (arguments-calm (tail fs) (suc i) ns)

pub typed-calm : (fs : List Formal) (ns : List Node) → arguments_typed fs (map calm ns) ≡ arguments_typed fs ns
typed-calm fs [] = refl
typed-calm fs (n ∷ ns) = ap (λ (b : Bool). is_some (argument_type (head fs) n) && b) (typed-calm (tail fs) ns)

pub passed-calm : (fs : List Formal) (ns : List Node) → passed_by_place fs (map calm ns) ≡ passed_by_place fs ns
passed-calm fs [] = refl
passed-calm fs (n ∷ ns) = ap (λ (vs : List (Owner × List ℕ)). (if is_by_place (head fs) then n.variable else []) ++ vs) (passed-calm (tail fs) ns)

count-calm : (s : Option Signature) (ns : List Node) → wrong_count s (map calm ns) ≡ wrong_count s ns
count-calm None ns = refl
count-calm (Some s) ns = ap (λ (n : ℕ). if length s.formals == n then [] else wrong_number) (length-fade as_found ns)

pub call-calm : (es : List Entry) (s : Option Signature) (ns : List Node) → call_entries es s (map calm ns) ≡ call_entries es s ns
call-calm es s ns = λ i. at_kid 1 es ++ at_kid 2 (arguments-calm (formals_of s) 1 ns i) ++ count-calm s ns i

-- ---- required routines

file-calm : (file : List ℕ) (n : Node) → (is_reference n.kind && means_file file (first_below (calm n)).found) ≡ (is_reference n.kind && means_file file (first_below n).found)
file-calm file n = ap (λ (x : Node). is_reference n.kind && means_file file x.found) (first-calm n)

pub has-file-calm : (file : List ℕ) (ns : List Node) → has_file file (map calm ns) ≡ has_file file ns
has-file-calm file [] = refl
has-file-calm file (n ∷ ns) = file-calm file n

tail-calm : (ns : List Node) → tail (map calm ns) ≡ map calm (tail ns)
tail-calm [] = refl
tail-calm (n ∷ ns) = refl

pub first-type-calm : (ns : List Node) → type_of_first (map calm ns) ≡ type_of_first ns
first-type-calm [] = refl
first-type-calm (n ∷ ns) = refl

pub one-calm : (ns : List Node) (b : Bool) → one_argument (map calm ns) b ≡ one_argument ns b
one-calm [] b = refl
one-calm (m ∷ []) b = refl
one-calm (m ∷ n ∷ ns) b = ap (λ (k : ℕ). if k == 1 then note_if (not b) 11 (codes "types do not agree") else wrong_number) (ap (λ (k : ℕ). suc (suc k)) (length-fade as_found ns))

pub end-calm : (ns : List Node) → end_test_entries (map calm ns) ≡ end_test_entries ns
end-calm ns = which (has_file (codes "input") (map calm ns)) (has_file (codes "input") ns) (has-file-calm (codes "input") ns) where
  input : at_kid 2 (kid_entries 2 (tail (map calm ns))) ++ one_argument (map calm ns) true ≡ at_kid 2 (kid_entries 2 (tail ns)) ++ one_argument ns true
  input = λ i. at_kid 2 ((ap (kid_entries 2) (tail-calm ns) ∙ entries-fade as_found 2 (tail ns)) i) ++ one-calm ns true i

  other : at_kid 2 (kid_entries 1 (map calm ns)) ++ one_argument (map calm ns) (is_none (type_of_first (map calm ns))) ≡ at_kid 2 (kid_entries 1 ns) ++ one_argument ns (is_none (type_of_first ns))
  other = (λ i. at_kid 2 (entries-fade as_found 1 ns i) ++ one_argument (map calm ns) (is_none (first-type-calm ns i)))
      ∙ ap (λ (es : List Entry). at_kid 2 (kid_entries 1 ns) ++ es) (one-calm ns (is_none (type_of_first ns)))

  which : (b c : Bool) → b ≡ c →
      (if b then at_kid 2 (kid_entries 2 (tail (map calm ns))) ++ one_argument (map calm ns) true else at_kid 2 (kid_entries 1 (map calm ns)) ++ one_argument (map calm ns) (is_none (type_of_first (map calm ns))))
      ≡ (if c then at_kid 2 (kid_entries 2 (tail ns)) ++ one_argument ns true else at_kid 2 (kid_entries 1 ns) ++ one_argument ns (is_none (type_of_first ns)))
  which b c e = λ i. if e i then input i else other i

pub read-calm : (ns : List Node) → read_variables (map calm ns) ≡ read_variables ns
read-calm [] = refl
read-calm (n ∷ ns) = ap (λ (vs : List (Owner × List ℕ)). n.variable ++ vs) (read-calm ns)

pub behind-calm : (named : Bool) (ns : List Node) → behind_file named (map calm ns) ≡ map calm (behind_file named ns)
behind-calm true ns = tail-calm ns
behind-calm false ns = refl

without-calm : (ns : List Node) → is_without (map calm ns) ≡ is_without ns
without-calm [] = refl
without-calm (n ∷ ns) = refl

pub write-calm : (n : Node) → write_entries (calm n) ≡ write_entries n
write-calm n = λ i. if is_width n.kind then n.as_value.entries ++ unwritable (first-calm n i) ++ unless is_integer_ordinal (second-calm n i).as_value.type no_width else n.as_value.entries ++ unwritable n

pub files-calm : (entries : Node → List Entry) → ((n : Node) → entries (calm n) ≡ entries n) → (needs named : Bool) (ns : List Node) →
    file_entries entries needs named (map calm ns) ≡ file_entries entries needs named ns
files-calm entries h needs named ns = λ i. at_kid 2 (each i) ++ (if needs && without i then wrong_number else []) where
  each : each_kid entries (number_behind_file named) (behind_file named (map calm ns)) ≡ each_kid entries (number_behind_file named) (behind_file named ns)
  each = ap (each_kid entries (number_behind_file named)) (behind-calm named ns) ∙ each_kid-fade as_found entries h (number_behind_file named) (behind_file named ns)

  without : is_without (behind_file named (map calm ns)) ≡ is_without (behind_file named ns)
  without = ap is_without (behind-calm named ns) ∙ without-calm (behind_file named ns)

-- ---- indexes

pub indexed-calm : (t : Option Typed) (i : ℕ) (ns : List Node) → indexed t i (map calm ns) ≡ indexed t i ns
indexed-calm t i [] = refl
indexed-calm t i (n ∷ ns) = ap (λ (es : List Entry). at_kid i (n.as_value.entries ++ unassignable (index_of t) n.as_value.type) ++ es) (indexed-calm (component_of t) (suc i) ns)

pub no-array-calm : (t : Option Typed) (ns : List Node) → indexes_no_array t (map calm ns) ≡ indexes_no_array t ns
no-array-calm None [] = refl
no-array-calm (Some t) [] = refl
no-array-calm None (n ∷ ns) = refl
no-array-calm (Some t) (n ∷ ns) = ap (λ (b : Bool). not (is_array t.shape) || b) (no-array-calm (component_of (Some t)) ns)

pub all-typed-calm : (ns : List Node) → all_typed (map calm ns) ≡ all_typed ns
all-typed-calm [] = refl
all-typed-calm (n ∷ ns) = ap (λ (b : Bool). is_some n.as_value.type && b) (all-typed-calm ns)

pub indexed-type-calm : (t : Option Typed) (ns : List Node) → indexed_type t (map calm ns) ≡ indexed_type t ns
indexed-type-calm t [] = refl
indexed-type-calm t (n ∷ ns) = indexed-type-calm (component_of t) ns

pub packed-calm : (t : Option Typed) (ns : List Node) → indexes_packed t (map calm ns) ≡ indexes_packed t ns
packed-calm None [] = refl
packed-calm (Some t) [] = refl
packed-calm None (n ∷ ns) = refl
packed-calm (Some t) (n ∷ ns) = ap (λ (b : Bool). (is_array t.shape && is_packed t.shape) || b) (packed-calm (component_of (Some t)) ns)

-- ---- members of sets

pub member-calm : (n : Node) → member_entries (calm n) ≡ member_entries n
member-calm n = λ i. if is_span n.kind then each_kid ordinal_entries 1 (first-calm n i ∷ second-calm n i ∷ []) else ordinal_entries n

pub member-types-calm : (ns : List Node) → map member_type (member_values (map calm ns)) ≡ map member_type (member_values ns)
member-types-calm [] = refl
member-types-calm (n ∷ ns) = which (member-types-calm ns) (is_span n.kind) where
  which : map member_type (member_values (map calm ns)) ≡ map member_type (member_values ns) → (b : Bool) →
      map member_type (if b then first_below (calm n) ∷ second_below (calm n) ∷ member_values (map calm ns) else calm n ∷ member_values (map calm ns))
      ≡ map member_type (if b then first_below n ∷ second_below n ∷ member_values ns else n ∷ member_values ns)
  which rest true = λ i. member_type (first-calm n i) ∷ member_type (second-calm n i) ∷ rest i
  which rest false = ap (λ (ts : List (Option Shape)). member_type n ∷ ts) rest
