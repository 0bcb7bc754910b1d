use Rattle.pc_syntax.specs.Words.{lowered}
use Rattle.pc_types.specs.Rows.{seen}
use Rattle.pc_sightings.proofs.OpenedSteps.{field-some, field-none}
use Rattle.pc_sightings.proofs.opened.field_in.Goals as goal

pub returns-in-Some : goal.returns-in-Some
returns-in-Some c = λ ty shows.
    field-some (seen c.args.types.now) c.args.whole ty (lowered c.args.word.now) c.in-Some.id c.is_packed.result c.in-Some.ensures.shape c.in-Some.ensures.there c.is_packed.ensures shows

pub returns-in-None : goal.returns-in-None
returns-in-None c = λ ty shows. field-none (seen c.args.types.now) c.args.whole ty (lowered c.args.word.now) c.in-None.ensures.shape shows
