-- Formal parameters and signatures by numbers, where there may be none.
use Rattle.std.specs.Prelude.{◌≡◌, ℕ, Bool, false, not, ◌==◌, List, [], ◌∷◌, ◌++◌, Option, Some, None, length}
use Rattle.pc_types.specs.Shapes.{Owner}
use Rattle.pc_types.specs.Table.{numbered}
use Rattle.pc_types.specs.declared.operand.Operand.{Operand}
use Rattle.pc_types.specs.declared.operand.Operand.TheVariants.{Id}
use Rattle.pc_rules.specs.Meanings as rules
use Rattle.pc_facts.specs.Known.{Known}
use Rattle.pc_facts.specs.Shows.{ShowsSignature, ShowsVariable}
use Rattle.pc_facts.specs.declared.sighting.Formal.{Formal}
use Rattle.pc_facts.specs.declared.sighting.Signature.{Signature}
use Rattle.pc_facts.specs.declared.sighting.Variable.{Variable}

-- a formal parameter as a call needs it: whether it is a variable parameter, and its type
abbrev pub ShowsFormal : Known → Option Formal → Option rules.Formal → Type 0
ShowsFormal k None None = Unit {0}
ShowsFormal k (Some f) (Some g) = (f.by_place ≡ g.by_place) × (numbered k.table.shapes f.of ≡ g.type.shape)
ShowsFormal k _ _ = ⊥

-- whether there is a parameter, and it is a variable parameter
abbrev pub is_by_place : Option Formal → Bool
is_by_place None = false
is_by_place (Some f) = f.by_place

-- its type
abbrev pub type_in : Option Formal → Option Operand
type_in None = None
type_in (Some f) = Some (Id f.of)

-- a signature, where there may be none
abbrev pub ShowsRoutine : Known → Option Signature → Option rules.Signature → Type 0
ShowsRoutine k None None = Unit {0}
ShowsRoutine k (Some s) (Some r) = ShowsSignature k s r
ShowsRoutine k _ _ = ⊥

-- variables, one after the other
abbrev pub ShowsVariables : Known → List Variable → List (Owner × List ℕ) → Type 0
ShowsVariables k [] [] = Unit {0}
ShowsVariables k (v ∷ vs) (w ∷ ws) = ShowsVariable k (Some v) (w ∷ []) × ShowsVariables k vs ws
ShowsVariables k _ _ = ⊥

-- a list of variables has grown by these
abbrev pub Logs : Known → List Variable → List Variable → List (Owner × List ℕ) → Type 0
Logs k old new ws = (vs : List Variable) × (new ≡ old ++ vs) × ShowsVariables k vs ws
