use Rattle.std.proofs.Common.{◌<◌, IfSome, Option, length, sym, subst}
use Rattle.pc_types.specs.Rows.{seen}
use Rattle.pc_types.specs.declared.form.TypeId.{TypeId}
use Rattle.pc_types.proofs.PartsLaws.{find_field-there}
use Rattle.pc_types.proofs.types.Types.field.Goals as goal

pub returns-clause-there : goal.returns-clause-there
returns-clause-there c =
    subst (λ (r : Option TypeId). IfSome r (λ (i : TypeId). i.0 < length (seen c.args.self.now).shapes)) (sym c.find.ensures) (find_field-there _ _ _ c.fields.ensures.there)
