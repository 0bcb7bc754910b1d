-- Constants (ISO 7185, 6.3).
use Rattle.std.specs.Prelude.{ℕ, Bool, false, not, ◌||◌, ◌==◌, if◌then◌else◌, nat_le, List, [], ◌∷◌, drop, length, Option, Some, None, codes, option_map, ◌++◌, pos, neg_ℤ}
use Rattle.pc_syntax.specs.Sorts.{is_hole}
use Rattle.pc_syntax.specs.Words.{value_after}
use Rattle.pc_forms.specs.declared.operator.Sign.{Sign}
use Rattle.pc_types.specs.Shapes.{IntegerType, CharType, TextType, Typed}
use Rattle.pc_types.specs.TypeClasses.{is_integer, largest_number}
use Rattle.pc_scope.specs.Required.{is_required_constant}
use Rattle.pc_rules.specs.Attributes.{at_kid, is_empty, Entry, Attributes, Node, plain, judged}
use Rattle.pc_rules.specs.Entries.{note_if}
use Rattle.pc_rules.specs.Meanings.{Constant, Ordinal, Chars, Value, Found, Here, Required}
use Rattle.pc_rules.specs.NameClasses.{is_constant_class}
use Rattle.pc_rules.specs.RequiredMeanings.{required_constant}
use Rattle.pc_rules.specs.UsedNames.{name_entries}
use Rattle.pc_forms.specs.declared.operator.Sign.TheVariants as sign

-- the characters of a text after its opening apostrophe
abbrev pub characters_after : List ℕ → List ℕ
characters_after [] = []
characters_after (b ∷ []) = []
characters_after (b ∷ c ∷ bs) = if b == 39 then 39 ∷ characters_after bs else b ∷ characters_after (c ∷ bs)

-- the characters of a text
abbrev pub characters : List ℕ → List ℕ
characters w = characters_after (drop 1 w)

-- whether a numeral is over maxint
abbrev pub too_large_number : List ℕ → Bool
too_large_number w = not (nat_le (value_after 0 w) largest_number)

-- row 5
abbrev pub number_entries : List ℕ → List Entry
number_entries w = note_if (too_large_number w) 5 (codes "number too large")

-- a text of one character is a char, and every other a string
abbrev pub text_value : List ℕ → Value
text_value (c ∷ []) = record { type = CharType; constant = Ordinal (pos c) }
text_value cs = record { type = TextType (length cs); constant = Chars cs }

-- the value of a name that means a constant
abbrev pub value_of_found : Found → Option Value
value_of_found (Here m) = m.value
value_of_found (Required n) = required_constant n
value_of_found _ = None

-- a constant's type
abbrev pub typed_value : Value → Typed
typed_value v = record { shape = v.type; domains = [] }

-- a constant with its entries; it has no value where there is an entry or a hole
abbrev pub constant_node : Bool → List Entry → Option Value → Attributes
constant_node hole entries value = record plain {
  hole = hole;
  as_value = judged hole entries (option_map typed_value value);
  constant = if hole || not (is_empty entries) then None else value;
}

-- a numeral
abbrev pub number_rule : List ℕ → Attributes
number_rule word = constant_node false (number_entries word) (Some (record { type = IntegerType; constant = Ordinal (pos (value_after 0 word)) }))

-- a text
abbrev pub string_rule : List ℕ → Attributes
string_rule word = constant_node false [] (Some (text_value (characters word)))

-- a constant's name
abbrev pub constant_name_rule : Node → Attributes
constant_name_rule name =
    constant_node (is_hole name.kind) (at_kid 1 (name_entries name is_constant_class is_required_constant (codes "constant"))) (value_of_found name.found)

-- whether a signed constant is known and no integer
abbrev pub is_no_number : Option Value → Bool
is_no_number None = false
is_no_number (Some v) = not (is_integer v.type)

-- what a sign makes of a constant
abbrev pub signed_constant : Sign → Constant → Constant
signed_constant sign.Minus (Ordinal i) = Ordinal (neg_ℤ i)
signed_constant s c = c

-- the same, with the type
abbrev pub signed : Sign → Value → Value
signed s v = record v { constant = signed_constant s v.constant }

-- a signed constant, with row 6
abbrev pub signed_constant_rule : Sign → Node → Attributes
signed_constant_rule s constant =
    constant_node constant.hole (at_kid 1 constant.as_value.entries ++ note_if (is_no_number constant.constant) 6 (codes "not a number"))
    (option_map (signed s) constant.constant)
