use Rattle.std.proofs.Common.{ap, arith}
use Rattle.std.proofs.Common.{Some}
use Rattle.pc_syntax.proofs.Numerals.{over_mul, over_add, within, value_whole}
use Rattle.pc_syntax.proofs.bytes.value_of.Goals as goal

pub returns-in_err-tens : goal.returns-in_err-tens
returns-in_err-tens c =
    rw (← c.loop-rest.invariant.0, over_mul c.loop-rest.value c.loop-rest.rest.now c.in-len1-up.len_at_least (omega (arith, c.in_err-tens.ensures))) c.from_residual.ensures

pub returns-in_err-value : goal.returns-in_err-value
returns-in_err-value c =
    rw (
      ← c.loop-rest.invariant.0,
      over_add c.loop-rest.value c.loop-rest.rest.now c.in-len1-up.len_at_least
          (omega (arith, c.in_err-value.ensures, c.in_ok-tens.ensures, c.from.ensures, c.saturating_sub.ensures)),
    )
    c.from_residual-in_err-value.ensures

pub returns : goal.returns
returns c =
    rw (← c.loop-rest.invariant.0, within c.loop-rest.value c.loop-rest.rest.now c.in_default.len_below c.loop-rest.invariant.1)
    (ap Some (value_whole c.loop-rest.value c.loop-rest.rest.now c.in_default.len_below))
