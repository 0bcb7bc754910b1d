use Rattle.std.proofs.Common.{◌∙◌, ap, length, get_or, arith}
use Rattle.std.proofs.lemmas.Option.{slice_get_within, get_or_from_slice_get}
use Rattle.pc_pretty.specs.Spans.{span_at}
use Rattle.pc_pretty.specs.Preorder.{text_spans}
use Rattle.pc_pretty.proofs.PathSpans.{counted_none, counted_some}
use Rattle.pc_pretty.proofs.text.Text.span.Goals as goal

pub returns-in_err-place : goal.returns-in_err-place
returns-in_err-place c =
    c.from_residual.ensures ∙ counted_none c.args.path.now c.self.inside.tree c.in_err-place.ensures.value ∙ ap (span_at c.args.path.now) c.self.view_is

pub index-requires : goal.index-requires
index-requires c =
    let at = counted_some c.args.path.now c.self.inside.tree c.in_ok-place.place c.nodes_before.ensures.proper.sound c.in_ok-place.ensures.value in
    omega (arith, slice_get_within (text_spans c.self.inside.tree) c.in_ok-place.place (span_at c.args.path.now c.self.inside.tree) at, ap length c.self.invariant.spans_are, c.self.inside.spans.ok.0)

pub returns : goal.returns
returns c =
    let spans = text_spans c.self.inside.tree in
    let at = counted_some c.args.path.now c.self.inside.tree c.in_ok-place.place c.nodes_before.ensures.proper.sound c.in_ok-place.ensures.value in
    c.index.ensures ∙ ap (λ xs. get_or xs c.in_ok-place.place c.index.result.now) c.self.invariant.spans_are ∙
    get_or_from_slice_get spans c.in_ok-place.place (span_at c.args.path.now c.self.inside.tree) c.index.result.now at ∙ ap (span_at c.args.path.now) c.self.view_is
