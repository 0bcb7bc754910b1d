use Rattle.std.proofs.Common.{◌≡◌, Option, Some, None}
use Rattle.pc_types.specs.Rows.{seen}
use Rattle.pc_call_rules.proofs.CallSteps.{applied-to, applied-none}
use Rattle.pc_call_rules.proofs.functions.applied.Goals as goal

pub returns-in-Some : goal.returns-in-Some
returns-in-Some c = λ ty h.
    let e : c.args.of ≡ Some c.in-Some.known = cc in
    applied-to (seen c.args.types.now) c.args.name.now c.args.of c.in-Some.known _ ty e c.function_result.ensures.shape c.function_result.ensures.there h

pub returns-in-None : goal.returns-in-None
returns-in-None c = λ ty h.
    let e : c.args.of ≡ None = cc in
    applied-none (seen c.args.types.now) c.args.name.now c.args.of ty e h
