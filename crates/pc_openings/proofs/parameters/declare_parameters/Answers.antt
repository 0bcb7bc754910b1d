use Rattle.std.proofs.Common.{◌<◌, length, slice_index_or, sym, ◌∙◌, subst}
use Rattle.std.proofs.lemmas.Option.{slice_get-get_or}
use Rattle.pc_places.specs.declared.parameter.Parameter.{Parameter}
use Rattle.pc_openings.specs.CarriesLaws.{named-at, Carries-more}
use Rattle.pc_openings.proofs.parameters.declare_parameters.Goals as goal

nobody : Parameter
nobody = record { name = record { 0 = 0 }; declaration = record { 0 = 0 } }

pub announce-requires-clause-name : goal.announce-requires-clause-name
unfolding nobody
announce-requires-clause-name c =
    let ps = c.args.parameters.now in
    let i = c.loop-parameter.parameter-index in
    let p = slice_index_or ps i nobody in
    subst (λ ts. p.name.0 < length ts) (sym c.loop-parameter.invariant.texts)
    (named-at (length c.args.names.now.texts) ps i p c.requires.named (slice_get-get_or ps i nobody c.loop-parameter-test.true))

pub declare-requires-clause-name : goal.declare-requires-clause-name
unfolding nobody
declare-requires-clause-name c =
    let ps = c.args.parameters.now in
    let i = c.loop-parameter.parameter-index in
    let p = slice_index_or ps i nobody in
    subst (λ ts. p.name.0 < length ts) (sym (c.in_ok-announce.ensures.binding.texts ∙ c.loop-parameter.invariant.texts))
    (named-at (length c.args.names.now.texts) ps i p c.requires.named (slice_get-get_or ps i nobody c.loop-parameter-test.true))

pub loop-parameter-preserved : goal.loop-parameter-preserved
unfolding nobody
loop-parameter-preserved c =
    let ps = c.args.parameters.now in
    let i = c.loop-parameter.parameter-index in
    let p = slice_index_or ps i nobody in
    Carries-more c.args.declarations.now c.args.block.0 ps i p c.class_of-class.result c.args.names.now c.loop-parameter.names c.announce.new.self c.declare.new.self c.loop-parameter.invariant
    (slice_get-get_or ps i nobody c.loop-parameter-test.true) c.class_of-class.ensures c.in_ok-announce.ensures.binding c.in_ok-declare.ensures.binding
