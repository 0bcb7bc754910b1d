-- Case statements (ISO 7185, 6.8.3.5).
use Rattle.std.specs.Prelude.{ℕ, Bool, true, false, not, ◌&&◌, ◌||◌, ◌==◌, if◌then◌else◌, List, [], ◌∷◌, Option, Some, None, codes, ◌++◌, suc, pos, ℤ, negsuc}
use Rattle.std.specs.Option.{option_and_then}
use Rattle.std.specs.Str.{bytes_eq}
use Rattle.pc_types.specs.Sameness.{same}
use Rattle.pc_types.specs.TypeClasses.{is_ordinal, host}
use Rattle.pc_types.specs.Shapes.{Shape, TextType, Typed}
use Rattle.pc_rules.specs.Attributes.{at_kid, Entry, Attributes, Node, kids_below, first_below}
use Rattle.pc_rules.specs.Entries.{note_if, disagree, no_ordinal}
use Rattle.pc_rules.specs.HandedOn.{kid_entries, statement_node}
use Rattle.pc_rules.specs.Meanings.{Constant, Ordinal, Chars, Value}
use Rattle.pc_rules.specs.Operators.{where_true}

-- the ordinal type of the expression; none where it is unknown or no ordinal type
abbrev pub selector_type : Option Typed → Option Shape
selector_type t = option_and_then (λ (x : Typed). where_true (is_ordinal x.shape) x.shape) t

-- whether two integers are equal
abbrev pub same_integer : ℤ → ℤ → Bool
same_integer (pos m) (pos n) = m == n
same_integer (negsuc m) (negsuc n) = m == n
same_integer _ _ = false

-- whether two constants are
abbrev pub same_constant : Constant → Constant → Bool
same_constant (Ordinal a) (Ordinal b) = same_integer a b
same_constant (Chars a) (Chars b) = bytes_eq a b
same_constant _ _ = false

-- whether a type is that of a text of more than one character
abbrev pub is_text_type : Shape → Bool
is_text_type (TextType n) = true
is_text_type _ = false

-- whether two values are equal, by their types too
abbrev pub same_value : Value → Value → Bool
same_value a b = ((is_text_type a.type && is_text_type b.type) || same a.type b.type) && same_constant a.constant b.constant

-- whether a value is among these
abbrev pub is_given : List Value → Value → Bool
is_given [] v = false
is_given (w ∷ ws) v = same_value w v || is_given ws v

-- whether a label's type isn't that of the expression
abbrev pub label_differs : Option Shape → Value → Bool
label_differs None v = false
label_differs (Some t) v = not (same (host t) v.type)

-- what a label gives: nothing where it has no value, or row 11
abbrev pub given_by : Option Shape → Option Value → List Value
given_by t None = []
given_by t (Some v) = if label_differs t v then [] else v ∷ []

-- rows 11 and 16 of a label, beside what the labels so far have given
abbrev pub label_entries : Option Shape → List Value → Option Value → List Entry
label_entries t given None = []
label_entries t given (Some v) = if label_differs t v then disagree else note_if (is_given given v) 16 (codes "constant given twice")

-- the same for labels from label i on
abbrev pub labels_entries : Option Shape → List Value → ℕ → List Node → List Entry
labels_entries t given i [] = []
labels_entries t given i (a ∷ rest) = at_kid i (label_entries t given a.constant) ++ labels_entries t (given ++ given_by t a.constant) (suc i) rest

-- what labels give together
abbrev pub all_given : Option Shape → List Node → List Value
all_given t [] = []
all_given t (a ∷ rest) = given_by t a.constant ++ all_given t rest

-- the labels of an arm; a hole has none
abbrev pub labels_of : Node → List Node
labels_of arm = kids_below (first_below arm)

-- rows 11 and 16 at the labels of the arms from arm i on
abbrev pub arms_entries : Option Shape → List Value → ℕ → List Node → List Entry
arms_entries t given i [] = []
arms_entries t given i (arm ∷ rest) = at_kid i (at_kid 1 (labels_entries t given 1 (labels_of arm))) ++ arms_entries t (given ++ all_given t (labels_of arm)) (suc i) rest

-- a case statement, with row 8 at its expression
abbrev pub case_rule : Node → Node → Attributes
case_rule selector arms =
    let t = selector.as_value.type in
    statement_node (selector ∷ arms ∷ [])
    (kid_entries 1 (selector ∷ arms ∷ []) ++ at_kid 1 (no_ordinal t) ++ at_kid 2 (arms_entries (selector_type t) [] 1 (kids_below arms))) []
