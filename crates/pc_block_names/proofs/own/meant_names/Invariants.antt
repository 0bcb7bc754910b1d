use Rattle.pc_block_names.specs.Found.{AreMeant}
use Rattle.pc_block_names.proofs.own.meant_names.Given as goal

abbrev pub invariant-loop-declared : goal.invariant-loop-declared
invariant-loop-declared l = AreMeant l.tables l.block.0 l.yielded l.own.items
