-- Variables, which are declared before the denoter of their type, and told again behind it, when their type is known.
use Rattle.std.specs.Prelude.{◌≡◌, ℕ, List, [], ◌∷◌, Option, Some, None}
use Rattle.pc_syntax.specs.Plain.{Plain}
use Rattle.pc_types.specs.Shapes.{Typed}
use Rattle.pc_types.specs.declared.form.OwnerId.{OwnerId}
use Rattle.pc_types.specs.declared.operand.Operand.{Operand}
use Rattle.pc_scope.specs.Headings.{names_of}
use Rattle.pc_names.specs.Numbers.{number_of}
use Rattle.pc_names.specs.declared.id.NameId.{NameId}
use Rattle.pc_names.specs.declared.name_class.NameClass.TheVariants as class
use Rattle.pc_rules.specs.DeclaringNames.{all_as}
use Rattle.pc_rules.specs.Meanings.{VariableName, Meaning, Local, Outside, declared_as, define_all}
use Rattle.pc_places.specs.Places.{known, IsPlace, Moves}
use Rattle.pc_places.specs.declared.tables.Tables.{Tables}
use Rattle.pc_definitions.specs.DefineLaws.{new_names, telling_all}
use Rattle.pc_definitions.specs.Namings.{ShowsParts}

-- a variable whose type isn't known
abbrev pub untyped : Local → Meaning
untyped l = declared_as VariableName l.owner

-- a variable with this type
abbrev pub variable_meaning : Local → Option Typed → Meaning
variable_meaning l ty = record (declared_as VariableName l.owner) { type = ty }

-- these are the numbers of these names
abbrev pub AreNames : List (List ℕ) → List NameId → List (List ℕ) → Type 0
AreNames texts [] [] = Unit {0}
AreNames texts (i ∷ is) (n ∷ ns) = (number_of texts n ≡ Some i.0) × AreNames texts is ns
AreNames texts _ _ = ⊥

-- the names of a list were declared as variables without a type, those with these numbers as the first ones
pub record EntersVariables (block owner : ℕ) (old new : Tables) (list : Plain) (news : List NameId) : Type 0 where
  pub place : (out : Outside) (l : Local) → IsPlace old block owner out l → IsPlace new block owner out (define_all l (all_as (untyped l) (names_of list.kids)))
  pub first : (out : Outside) (l : Local) → IsPlace old block owner out l → AreNames new.names.texts news (new_names l (untyped l) (names_of list.kids))
  pub moves : Moves block old new

-- the variables with these numbers were told again, with this type
pub record TellsVariables (block : ℕ) (o : OwnerId) (ty : Option Operand) (news : List NameId) (old new : Tables) : Type 0 where
  pub place : (own : ℕ) (out : Outside) (l : Local) (ns : List (List ℕ)) (m : Meaning) → AreNames old.names.texts news ns → ShowsParts (known old) class.Variable o None ty m →
      IsPlace old block own out l → IsPlace new block own out (telling_all l ns m)
  pub moves : Moves block old new
