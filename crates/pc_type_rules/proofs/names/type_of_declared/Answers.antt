use Rattle.std.proofs.Common.{◌∙◌, ap}
use Rattle.pc_rules.specs.NameClasses.{is_type_class}
use Rattle.std.specs.Prelude.{if◌then◌else◌, None, Bool, Option}
use Rattle.pc_types.specs.declared.operand.Operand.{Operand}
use Rattle.pc_type_rules.proofs.NodeSteps.{shows-where}
use Rattle.pc_type_rules.proofs.names.type_of_declared.Goals as goal

pub returns : goal.returns
returns c = λ k n m h.
    shows-where k.table (is_type_class m.class) c.args.declared.of _ m.type
    (c.where_so.ensures ∙ ap (λ (b : Bool). let r : Option Operand = (if b then c.args.declared.of else None) in r) (c.is_type-is_so.ensures ∙ ap is_type_class h.class)) h.type
