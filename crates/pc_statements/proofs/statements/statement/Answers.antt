use Rattle.std.proofs.Common.{subst}
use Rattle.pc_bodies.specs.Resolved.{ShowsFacts}
use Rattle.pc_statements.specs.Walked.{Walks}
use Rattle.pc_statements.specs.WalkLaws.{resolves-of}
use Rattle.pc_statements.proofs.statements.statement.Goals as goal

pub returns : goal.returns
returns c =
    let b = c.args.body.now in
    let g1 = c.walk.new.going in
    let node = c.args.node.now in
    let found = c.in_ok-found.found in
    resolves-of ShowsFacts b c.args.going.now g1 c.walk.new.own node found (subst (λ o. Walks b c.args.going.now g1 o c.walk.new.own node found) c.new-own.ensures c.in_ok-found.ensures)
