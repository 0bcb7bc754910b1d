use Rattle.std.proofs.Common.{subst}
use Rattle.pc_environment.specs.Decorating.{attributes_at}
use Rattle.pc_syntax.specs.Classes.{is_expression}
use Rattle.pc_syntax.specs.Plain.{Plain}
use Rattle.pc_types.specs.Rows.{seen}
use Rattle.pc_bodies.specs.Resolved.{known, Resolves}
use Rattle.pc_told.specs.Contexts.{meant_role}
use Rattle.pc_told.specs.ToldLaws.{kept-same}
use Rattle.pc_told.specs.UntypedLaws.{is-whole, not-whole, shows-untyped}
use Rattle.pc_told.proofs.below.type_of.Goals as goal

pub returns-in_ok-found-in-Some : goal.returns-in_ok-found-in-Some
returns-in_ok-found-in-Some c =
    let b = c.args.body.now in
    let node = c.args.node.now in
    let new = c.expression.new.going in
    let one : Resolves b c.args.going.now new node c.in_ok-found-in-Some.found =
    subst (λ (q : Plain). Resolves b c.args.going.now new q c.in_ok-found-in-Some.found) (is-whole (is_expression node.kind) node c.in-Some.whole c.in-Some.ensures) c.in_ok-found-in-Some.ensures in
    record {
      shows = λ out l s sees stands. c.type_in.ensures (known b new) (attributes_at out l node) (one.shows out l s sees stands);
      kept = record { opened = one.opened; texts = one.texts };
    }

pub returns-in-None : goal.returns-in-None
returns-in-None c =
    let node = c.args.node.now in
    record {
      shows = λ out l s sees stands. shows-untyped (seen c.args.body.now.types.now) out l node (meant_role c.args.role) c.requires.operand (not-whole (is_expression node.kind) node c.in-None.ensures);
      kept = kept-same c.args.going.now;
    }
