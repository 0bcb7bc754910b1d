use Rattle.std.proofs.Common.{◌∙◌}
use Rattle.pc_scope.specs.Around.{program_block}
use Rattle.pc_scope.proofs.FromTop.{program-stands, at-root, at-side, at-block}
use Rattle.pc_scope.proofs.scopes.Scopes.declaration.Goals as goal

pub returns-in_default : goal.returns-in_default
returns-in_default c = λ t stands. at-root t c.args.name.now c.args.at.now c.in_default.len_below

pub returns-then-first-ne3 : goal.returns-then-first-ne3
returns-then-first-ne3 c = λ t stands. at-side t c.args.name.now c.args.at.now c.in-len1-up.len_at_least c.if-first-ne3.true

pub returns : goal.returns
returns c = λ t stands.
    c.declaration_in.ensures (program_block t) (program-stands c.args.self.now t stands) ∙ at-block t c.args.name.now c.args.at.now c.in-len1-up.len_at_least c.if-first-ne3.false
