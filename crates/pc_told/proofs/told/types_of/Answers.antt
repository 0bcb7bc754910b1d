use Rattle.std.proofs.Common.{refl}
use Rattle.pc_told.specs.StartLaws.{finds-types-if}
use Rattle.pc_told.proofs.told.types_of.Goals as goal

pub returns-clause-found : goal.returns-clause-found
returns-clause-found c =
    finds-types-if (λ xs. xs.items) _ c.args.going.now c.args.node.now c.args.way.now c.types_in-told.result c.types_in-told.ensures.told c.args.tables.now refl refl c.as_slice.ensures.value c.as_slice-2.ensures.value
