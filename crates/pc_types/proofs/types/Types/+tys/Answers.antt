use Rattle.pc_types.proofs.ExpandLaws.{tys-end, tys-step}
use Rattle.pc_types.proofs.types.Types.+tys.Goals as goal

pub field_tys-loop-rest-preserved : goal.field_tys-loop-rest-preserved
field_tys-loop-rest-preserved t c =
    tys-step c.args.id.0 _ c.loop-rest.rest.now c.field-item.result c.loop-rest.tys _ _ c.in_ok-ty.ty _ c.in-len1-up.len_at_least c.field-item.is c.in_ok-name.ensures c.in_ok-ty.ensures c.in_ok-push.ensures.ok c.loop-rest.invariant

pub field_tys-returns : goal.field_tys-returns
field_tys-returns t c = tys-end c.args.id.0 _ c.loop-rest.rest.now c.loop-rest.tys _ c.in_default.len_below c.loop-rest.invariant
