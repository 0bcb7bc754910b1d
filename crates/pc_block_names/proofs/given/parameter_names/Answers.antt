use Rattle.std.proofs.Common.{ℕ, List, [], ◌∷◌, ◌++◌, ap, sym, subst, length, slice_index_or, take}
use Rattle.std.proofs.lemmas.Option.{slice_get-get_or}
use Rattle.pc_syntax.specs.Words.{lowered}
use Rattle.pc_names.specs.Table.{Table}
use Rattle.pc_places.specs.declared.parameter.Parameter.{Parameter}
use Rattle.pc_own_names.specs.OwnKinds.{HasSame}
use Rattle.pc_block_names.specs.Given.{small_names}
use Rattle.pc_block_names.proofs.GivenLemmas.{named-at, small-more}
use Rattle.pc_block_names.proofs.NumberedLemmas.{HasSame-more}
use Rattle.pc_block_names.proofs.given.parameter_names.Goals as goal

nobody : Parameter
nobody = record { name = record { 0 = 0 }; declaration = record { 0 = 0 } }

pub name-requires : goal.name-requires
unfolding nobody
name-requires c =
    let ps = c.args.parameters.now in
    let i = c.loop-parameter.parameter-index in
    named-at (length c.args.names.now.texts) ps i (slice_index_or ps i nobody) c.requires (slice_get-get_or ps i nobody c.loop-parameter-test.true)

pub loop-parameter-preserved : goal.loop-parameter-preserved
unfolding nobody
loop-parameter-preserved c =
    let texts = c.args.names.now.texts in
    let ps = c.args.parameters.now in
    let i = c.loop-parameter.parameter-index in
    let w = c.name.result.now in
    let old = c.loop-parameter.given.texts in
    let so_far = small_names texts (take i ps) in
    subst (HasSame c.number.new.self.texts) (sym (small-more texts ps i (slice_index_or ps i nobody) w (slice_get-get_or ps i nobody c.loop-parameter-test.true) c.name.ensures))
    (subst (λ (ms : List (List ℕ)). HasSame ms (so_far ++ lowered w ∷ [])) (sym (ap (λ (t : Table). t.texts) c.in_ok-number.ensures.table)) (HasSame-more old so_far (lowered w) c.loop-parameter.invariant))
