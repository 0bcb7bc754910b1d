use Rattle.pc_block_names.specs.FoundLaws.{names-found}
use Rattle.pc_block_names.proofs.own.own_names.Goals as goal

pub returns : goal.returns
returns c = λ all a owner ds declared small ends. names-found c.args.tables.now c.args.block.0 owner all a c.args.names.items c.in_ok-own.own.items ds c.in_ok-own.ensures declared small ends
