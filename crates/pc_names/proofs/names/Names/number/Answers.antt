use Rattle.std.proofs.Common.{List, ℕ, ap, ◌∙◌}
use Rattle.pc_syntax.specs.Words.{lowered}
use Rattle.pc_names.specs.Numbers.{number_of}
use Rattle.pc_names.specs.Table.{Table, slot_at, slot_named}
use Rattle.pc_names.proofs.NumberSteps.{number_of-less}
use Rattle.pc_names.proofs.SlotSteps.{slot_named-with_name}
use Rattle.pc_names.proofs.names.Names.number.Goals as goal

pub returns-clause-within : goal.returns-clause-within
returns-clause-within c = number_of-less c.number.new.self (lowered c.args.word.now) c.in_ok-number.number c.in_ok-number.ensures.number

pub returns-clause-bindings : goal.returns-clause-bindings
returns-clause-bindings c = λ block n.
    ap (λ (ms : List (List ℕ)). slot_at c.self.inside.slots block (number_of ms n)) c.in_ok-number.ensures.texts
    ∙ slot_named-with_name (record { texts = c.self.inside.texts; slots = c.self.inside.slots; chains = c.self.inside.blocks }) c.self.invariant (lowered c.args.word.now) block n
    ∙ ap (λ (t : Table). slot_named t block n) c.self.view_is
