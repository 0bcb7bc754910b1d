use Rattle.std.proofs.Common.{ap, length, subst, arith}
use Rattle.std.specs.Prelude.{◌↔◌, IsTrue, IsSomeAnd}
use Rattle.pc_syntax.specs.WellFormed.{size_of}
use Rattle.pc_pretty.specs.Innermost.{Holds}
use Rattle.pc_pretty.proofs.PathSpans.{text_spans-length}
use Rattle.pc_pretty.proofs.Deepest.{kept_span}
use Rattle.pc_pretty.proofs.text.Text.holds.Goals as goal

pub index-requires : goal.index-requires
index-requires c =
    let sizes = ap size_of c.self.view_is in
    omega (arith, c.requires, sizes, text_spans-length c.self.inside.tree c.size.ensures.proper.sound, ap length c.self.invariant.spans_are, c.self.inside.spans.ok.0)

pub returns : goal.returns
returns c =
    λ path there place.
    subst (λ o. IsTrue c.holds.result ↔ IsSomeAnd o (λ outer. Holds outer c.args.span))
    (kept_span c.self.inside.tree c.args.self.now path c.self.inside.spans.items c.args.place c.index.result.now c.size.ensures.proper.sound c.self.view_is c.self.invariant.spans_are c.index.ensures there place)
    c.holds.ensures
