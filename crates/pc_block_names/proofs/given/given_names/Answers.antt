use Rattle.std.proofs.Common.{ap, ◌∙◌, subst}
use Rattle.pc_own_names.specs.OwnKinds.{HasSame}
use Rattle.pc_block_names.specs.Given.{small_names}
use Rattle.pc_block_names.proofs.GivenLemmas.{later-given}
use Rattle.pc_block_names.proofs.given.given_names.Goals as goal

pub returns-in_ok-names : goal.returns-in_ok-names
returns-in_ok-names c = λ t r blocks proper program one stands.
    let u = c.args.tables.now in
    subst (HasSame c.in_ok-names.names.texts) (ap (small_names u.names.texts) c.as_slice.ensures.value ∙ later-given t r u blocks c.args.site.now one stands c.if-site.true) c.in_ok-names.ensures
