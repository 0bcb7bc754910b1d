use Rattle.std.proofs.Common.{arith}
use Rattle.pc_syntax.proofs.Outlines.{not_false}
use Rattle.pc_syntax.proofs.outline.Outline.admit.Goals as goal

pub returns : goal.returns
returns c p o = c.admit.ensures p (o.sound (not_false c.args.self.fits c.if-not-self.false)) o.depth (omega (arith, o.size))
