use Rattle.std.proofs.Common.{arith}
use Rattle.pc_decl.proofs.Names.{none-past}
use Rattle.pc_decl.proofs.constant_text.push_name.Goals as goal

pub returns-else-number-names : goal.returns-else-number-names
returns-else-number-names c = none-past c.args.text.now.items c.args.number c.args.names.now (omega (arith, c.if-number-names.false))
