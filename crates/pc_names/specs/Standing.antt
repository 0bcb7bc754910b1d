-- When a block of the table stands for a place of the rules (ISO 7185, 6.2.2).
use Rattle.std.specs.Prelude.{◌≡◌, ℕ, Bool, List, Option, Some, None, option_map}
use Rattle.pc_syntax.specs.Words.{is_among}
use Rattle.pc_rules.specs.Meanings.{Class, ConstantName, ElementName, TypeName, VariableName, ValueName, ReferenceName, ProcedureName, FunctionName, Meaning, Local, entry_of}
use Rattle.pc_names.specs.declared.id.DeclarationId.{DeclarationId}
use Rattle.pc_names.specs.declared.name_class.NameClass.{NameClass}
use Rattle.pc_names.specs.declared.name_class.NameClass.TheVariants as class
use Rattle.pc_names.specs.declared.slot.Slot.{Slot}
use Rattle.pc_names.specs.Table.{Table, slot_named}

-- as what a name is declared, in the words of the rules
abbrev pub meant : NameClass → Class
meant class.Constant = ConstantName
meant class.Element = ElementName
meant class.Type = TypeName
meant class.Variable = VariableName
meant class.Value = ValueName
meant class.Reference = ReferenceName
meant class.Procedure = ProcedureName
meant class.Function = FunctionName

-- the number of a declaration stands for the meaning that the rules know, given which meaning the declaration with a number has; or
-- there is neither
abbrev pub IsKnown : (ℕ → Meaning → Type 0) → Option DeclarationId → Option Meaning → Type 0
IsKnown declares None None = Unit {0}
IsKnown declares (Some d) (Some m) = declares d.0 m
IsKnown declares None (Some m) = ⊥
IsKnown declares (Some d) None = ⊥

-- what a block has of a name is this: as what it is declared, whether it stands before, and its complete declaration
pub record IsSlotOf (declares : ℕ → Meaning → Type 0) (s : Slot) (class : Option Class) (before : Bool) (known : Option Meaning) : Type 0 where
  pub is_class : option_map meant s.class ≡ class
  pub is_passed : s.passed ≡ before
  pub is_known : IsKnown declares s.known known

-- what a block has of a name is what a place of the rules says of it
abbrev pub Has : (ℕ → Meaning → Type 0) → Slot → Local → List ℕ → Type 0
Has declares s l n = IsSlotOf declares s (entry_of l.names n) (is_among l.passed n) (entry_of l.known n)

-- a block stands for a place: it has of each name in small letters what the place says of it
abbrev pub StandsFor : (ℕ → Meaning → Type 0) → Table → ℕ → Local → Type 0
StandsFor declares t block l = (n : List ℕ) → Has declares (slot_named t block n) l n
