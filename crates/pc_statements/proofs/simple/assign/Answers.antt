use Rattle.std.proofs.Common.{refl}
use Rattle.pc_growth.specs.GrowsLaws.{Begins-same}
use Rattle.pc_bodies.specs.Resolved.{known}
use Rattle.pc_statements.specs.StatementLaws.{walks-assign}
use Rattle.pc_statements.proofs.simple.assign.Goals as goal

pub returns : goal.returns
returns c = λ o.
    let b = c.args.body.now in
    let g2 = c.expression-2.new.going in
    walks-assign b c.args.going.now c.expression.new.going g2 _ o c.args.target.now c.args.value.now c.in_ok-target.target c.in_ok-value.value c.in_ok-found.found c.requires.target
    c.in_ok-target.ensures c.in_ok-value.ensures refl (Begins-same g2.texts.items) c.in_ok-add_variable.ensures
    (λ w m n. c.in_ok-found.ensures (known b g2) w m n refl)
