use Rattle.std.proofs.Common.{ℕ, List, length, sym, subst}
use Rattle.pc_types.specs.Table.{FieldsThere}
use Rattle.pc_types.specs.Rows.{seen}
use Rattle.pc_types.specs.declared.form.TypeId.{TypeId}
use Rattle.pc_types.proofs.PartsLaws.{fields-there}
use Rattle.pc_types.proofs.types.Types.fields_at.Goals as goal

pub returns-in-Some-clause-there : goal.returns-in-Some-clause-there
returns-in-Some-clause-there c =
    subst (λ (fs : List (List ℕ × TypeId)). FieldsThere (length (seen c.args.self.now).shapes) fs) (sym c.fields_in.ensures)
    (fields-there c.args.id.0 _ _ c.in-Some.row.now.form c.in-Some.ensures.parts c.in-Some.ensures.there)
