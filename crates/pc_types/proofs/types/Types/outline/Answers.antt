use Rattle.std.proofs.Common.{length, sym, subst}
use Rattle.pc_types.specs.Rows.{seen}
use Rattle.pc_types.specs.Table.{shape_at}
use Rattle.pc_types.specs.Outlined.{IsOutline, OutlineThere}
use Rattle.pc_types.specs.declared.operand.Operand.{Operand}
use Rattle.pc_types.specs.declared.operand.Operand.TheVariants as operand
use Rattle.pc_types.specs.declared.operand.Outline.{Outline}
use Rattle.pc_types.proofs.RowsLaws.{outline-row}
use Rattle.pc_types.proofs.PartsLaws.{outline-parts}
use Rattle.pc_types.proofs.types.Types.outline.Goals as goal

pub returns-in-Some-clause-tells : goal.returns-in-Some-clause-tells
returns-in-Some-clause-tells c =
    subst (λ (x : Operand). IsOutline (seen c.args.self.now) x c.of.result (shape_at (seen c.args.self.now) x)) (sym c.in-Id.is)
    (subst (λ (o : Outline). IsOutline (seen c.args.self.now) (operand.Id c.in-Id.id) o (shape_at (seen c.args.self.now) (operand.Id c.in-Id.id))) (sym c.of.ensures)
    (outline-row _ c.in-Id.id c.in-Some.row.now c.in-Some.ensures))

pub returns-in-Some-clause-there : goal.returns-in-Some-clause-there
returns-in-Some-clause-there c = λ _.
    subst (λ (o : Outline). OutlineThere (length (seen c.args.self.now).shapes) o) (sym c.of.ensures)
    (outline-parts c.in-Id.id.0 _ _ c.in-Some.row.now.form c.in-Some.ensures.parts c.in-Some.ensures.there)
