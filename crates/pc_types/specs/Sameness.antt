-- Whether two types are the same: by one definition (ISO 7185, 6.4.1).
use Rattle.std.specs.Prelude.{ℕ, Bool, true, false, ◌&&◌, ◌==◌, if◌then◌else◌, List, [], ◌∷◌, Option, Some, None}
use Rattle.std.specs.Str.{bytes_eq}
use Rattle.pc_types.specs.Shapes.{Owner, Keyed, Placed, Definition, Shape, IntegerType, BooleanType, CharType, NilType, EnumeratedType, SubrangeType, ArrayType, RecordType, SetType, PointerType}

abbrev pub same_words : List (List ℕ) → List (List ℕ) → Bool
same_words [] [] = true
same_words [] (w ∷ ws) = false
same_words (v ∷ vs) [] = false
same_words (v ∷ vs) (w ∷ ws) = bytes_eq v w && same_words vs ws

abbrev pub same_owner : Owner → Owner → Bool
same_owner (Keyed k) (Keyed l) = same_words k l
same_owner (Keyed k) (Placed q) = false
same_owner (Placed p) (Keyed l) = false
same_owner (Placed p) (Placed q) = bytes_eq p q

abbrev pub same_definition : Definition → Definition → Bool
same_definition a b = same_owner a.owner b.owner && bytes_eq a.name b.name && a.number == b.number && bytes_eq a.inside b.inside

abbrev pub definition_of : Shape → Option Definition
definition_of (EnumeratedType d ns) = Some d
definition_of (SubrangeType d h a b) = Some d
definition_of (ArrayType d p i e) = Some d
definition_of (RecordType d p fs) = Some d
definition_of (SetType d p b) = Some d
definition_of (PointerType d o n) = Some d
definition_of _ = None

-- the required types by a number, 0 for all others
abbrev pub required_number : Shape → ℕ
required_number IntegerType = 1
required_number BooleanType = 2
required_number CharType = 3
required_number NilType = 4
required_number _ = 0

abbrev pub same_definitions : Option Definition → Option Definition → Bool
same_definitions (Some a) (Some b) = same_definition a b
same_definitions (Some a) None = false
same_definitions None b = false

-- one definition, or one required type
unfoldable pub same : Shape → Shape → Bool
same a b = if required_number a == 0 then same_definitions (definition_of a) (definition_of b) else required_number a == required_number b
