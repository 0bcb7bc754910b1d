use Rattle.std.proofs.Common.{sym, ◌∙◌}
use Rattle.pc_syntax.specs.SoundLaws.{fits-sound, fits-unsound}
use Rattle.pc_syntax.proofs.CountedSoFar.{depth_of-counted, size_of-counted}
use Rattle.pc_syntax.proofs.make.admit.Goals as goal

pub returns-then-not-node_fits : goal.returns-then-not-node_fits
returns-then-not-node_fits c =
    fits-unsound c.args.kind c.args.word.now c.args.notes.now c.args.kids.now (sym c.node_fits.ensures ∙ c.if-not-node_fits.true)

pub returns : goal.returns
returns c =
    let k = c.args.kind in
    let w = c.args.word.now in
    let ns = c.args.notes.now in
    let ks = c.args.kids.now in
    let sound = fits-sound k w ns ks (sym c.node_fits.ensures ∙ c.if-not-node_fits.false) c.counts_of-counts.ensures.sound in
    c.admit.ensures _ sound (depth_of-counted k w ns ks _ c.counts_of-counts.ensures.depth) (size_of-counted k w ns ks _ c.counts_of-counts.ensures.size)
