-- What the labels of a case statement have come to (ISO 7185, 6.8.3.5).
use Rattle.std.specs.Prelude.{◌≡◌, ℕ, List, [], ◌∷◌, ◌++◌, Option, option_map}
use Rattle.pc_types.specs.Shapes.{Shape}
use Rattle.pc_types.specs.Table.{Table, shape_at}
use Rattle.pc_types.specs.declared.operand.Operand.{Operand}
use Rattle.pc_rules.specs.Attributes.{Entry, Node}
use Rattle.pc_rules.specs.CaseStatements.{all_given, labels_of}
use Rattle.pc_rules.specs.Meanings as rules
use Rattle.pc_facts.specs.Known.{Known}
use Rattle.pc_statement_rules.specs.Given.{ShowsGiven}
use Rattle.pc_statement_rules.specs.declared.given.Given.{Given}

-- the types and the characters are those of the tables at hand, and the type of the expression is this one
pub record IsSelected (k : Known) (t : Table) (characters : List (List ℕ)) (of : Option Operand) (type : Option Shape) : Type 0 where
  pub table : k.table ≡ t
  pub texts : k.texts ≡ characters
  pub selector : option_map (shape_at t) of ≡ type

-- these entries, and these values so far
pub record Gives (k : Known) (es : List Entry) (g : Given) (fs : List Entry) (ws : List rules.Value) : Type 0 where
  pub entries : es ≡ fs
  pub given : ShowsGiven k g ws

-- what the labels of arms give together
abbrev pub arms_given : Option Shape → List Node → List rules.Value
arms_given t [] = []
arms_given t (arm ∷ rest) = all_given t (labels_of arm) ++ arms_given t rest
