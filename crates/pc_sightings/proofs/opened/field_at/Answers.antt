use Rattle.std.proofs.Common.{Some}
use Rattle.pc_syntax.specs.Words.{lowered}
use Rattle.pc_types.specs.Rows.{seen}
use Rattle.pc_sightings.proofs.OpenedSteps.{field-found, field-further, field-at}
use Rattle.pc_sightings.proofs.opened.field_at.Goals as goal

pub returns-in-Some-field_in : goal.returns-in-Some-field_in
returns-in-Some-field_in c = λ t fields same is.
    field-at t (seen c.args.types.now) c.args.opened.now (lowered c.args.word.now) (Some c.in-Some-field_in.field) same
    (field-found (seen c.args.types.now) c.args.opened.now c.loop-innermost.rest.now c.in-Some.outer.now c.in-Some.innermost.now (lowered c.args.word.now) c.in-Some-field_in.field c.in-Some.ensures.cases.0
    c.loop-innermost.invariant c.in-Some-field_in.ensures)
    fields is

pub loop-innermost-preserved : goal.loop-innermost-preserved
loop-innermost-preserved c =
    field-further (seen c.args.types.now) c.args.opened.now c.loop-innermost.rest.now c.in-Some.outer.now c.in-Some.innermost.now (lowered c.args.word.now) c.in-Some.ensures.cases.0
    c.loop-innermost.invariant c.in_default-field_in.ensures
