-- Values of labels by numbers, and when the values so far are these (ISO 7185, 6.8.3.5).
use Rattle.std.specs.Prelude.{◌≡◌, ℕ, Bool, false, not, ◌&&◌, ◌||◌, ℤ, List, [], ◌∷◌, ◌++◌, Option, Some, None, option_map, get_or, if◌then◌else◌}
use Rattle.std.specs.HashMap.{get}
use Rattle.std.specs.Ordering.{int_eq}
use Rattle.std.specs.Str.{bytes_eq}
use Rattle.pc_types.specs.Sameness.{same}
use Rattle.pc_types.specs.Shapes.{Shape}
use Rattle.pc_types.specs.Table.{Table, shape_at}
use Rattle.pc_types.specs.TypeClasses.{host}
use Rattle.pc_types.specs.declared.operand.Operand.{Operand}
use Rattle.pc_rules.specs.CaseStatements.{is_text_type, same_integer, labels_of, is_given}
use Rattle.pc_rules.specs.Attributes.{Node}
use Rattle.pc_rules.specs.Meanings as rules
use Rattle.pc_facts.specs.Known.{Known}
use Rattle.pc_facts.specs.Shows.{ShowsLabels}
use Rattle.pc_facts.specs.declared.facts.Arm.{Arm}
use Rattle.pc_statement_rules.specs.declared.given.Given.{Given}
use Rattle.pc_facts.specs.declared.sighting.Constant.{Constant}
use Rattle.pc_facts.specs.declared.sighting.Constant.TheVariants as constant
use Rattle.pc_facts.specs.declared.sighting.Value.{Value}

-- whether two types count as one for equal constants: all texts do
abbrev pub is_one_type : Shape → Shape → Bool
is_one_type a b = (is_text_type a && is_text_type b) || same a b

-- whether two constants are equal, given the characters of strings
abbrev pub same_constant_at : List (List ℕ) → Constant → Constant → Bool
same_constant_at texts (constant.Ordinal i) (constant.Ordinal j) = same_integer i j
same_constant_at texts (constant.Chars c) (constant.Chars d) = bytes_eq (get_or texts c.0 []) (get_or texts d.0 [])
same_constant_at texts _ _ = false

-- whether two values are
abbrev pub same_value_at : Table → List (List ℕ) → Value → Value → Bool
same_value_at t texts v w = is_one_type (shape_at t v.of) (shape_at t w.of) && same_constant_at texts v.constant w.constant

-- whether a value is among these
abbrev pub is_given_at : Table → List (List ℕ) → List Value → Value → Bool
is_given_at t texts [] v = false
is_given_at t texts (w ∷ ws) v = same_value_at t texts w v || is_given_at t texts ws v

-- whether a label's type isn't that of the expression
abbrev pub label_differs_at : Option Shape → Shape → Bool
label_differs_at None v = false
label_differs_at (Some t) v = not (same (host t) v)

-- the values of an arm's labels, where they have one
abbrev pub ShowsArmLabels : Known → Arm → Node → Type 0
ShowsArmLabels k g n = ShowsLabels k g.labels.items (labels_of n)

-- types, where there are some
abbrev pub types_at : Option (List Operand) → List Operand
types_at None = []
types_at (Some os) = os

-- types with one more, unless a condition holds
abbrev pub types_with : Bool → List Operand → Operand → List Operand
types_with b os o = if b then os else os ++ o ∷ []

-- whether one of these types counts as one with another
abbrev pub is_type_among : Table → List Operand → Shape → Bool
is_type_among t [] s = false
is_type_among t (o ∷ os) s = is_one_type (shape_at t o) s || is_type_among t os s

-- whether a constant is a string with these characters
abbrev pub is_text : List (List ℕ) → Constant → List ℕ → Bool
is_text texts (constant.Ordinal i) cs = false
is_text texts (constant.Chars c) cs = bytes_eq (get_or texts c.0 []) cs

-- whether a string with these characters is among values, with a type that counts as one with this
abbrev pub is_text_among : Table → List (List ℕ) → List Value → Shape → List ℕ → Bool
is_text_among t texts [] s cs = false
is_text_among t texts (v ∷ vs) s cs = (is_one_type (shape_at t v.of) s && is_text texts v.constant cs) || is_text_among t texts vs s cs

-- the types with which an ordinal was given
abbrev pub types_of : Given → ℤ → List Operand
types_of g i = types_at (option_map (λ v. v.items) (get int_eq g.ordinals i))

-- the values so far, by whether each value is among them
pub record ShowsGiven (k : Known) (g : Given) (ws : List rules.Value) : Type 0 where
  pub ordinals : (i : ℤ) (s : Shape) → is_type_among k.table (types_of g i) s ≡ is_given ws (record { type = s; constant = rules.Ordinal i })
  pub texts : (cs : List ℕ) (s : Shape) → is_text_among k.table k.texts g.texts.items s cs ≡ is_given ws (record { type = s; constant = rules.Chars cs })
