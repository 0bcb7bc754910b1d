use Rattle.std.proofs.Common.{[], refl, subst}
use Rattle.pc_syntax.specs.WellFormed.{IsWellFormed}
use Rattle.pc_pretty.specs.Innermost.{IsInnermostOf, IsBelow}
use Rattle.pc_pretty.proofs.Deepest.{misses_false, innermost_at_root, innermost_nowhere}
use Rattle.pc_pretty.proofs.text.Text.innermost.Goals as goal

pub returns-then-not-holds : goal.returns-then-not-holds
returns-then-not-holds c =
    let formed : IsWellFormed c.args.self.now = rw (← c.tree.ensures.value) c.size.ensures.proper.sound in
    innermost_nowhere c.args.self.now c.args.span formed (λ held. misses_false c.holds.result c.if-not-holds.true ((c.holds.ensures [] refl refl).1 held))

pub returns : goal.returns
returns c = innermost_at_root c.args.self.now c.args.span c.in_ok-found.found (subst (λ p. IsInnermostOf c.args.self.now c.args.span (IsBelow p) c.in_ok-found.found) c.root.ensures c.in_ok-found.ensures)
