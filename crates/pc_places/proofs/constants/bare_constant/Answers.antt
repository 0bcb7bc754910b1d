use Rattle.std.proofs.Common.{refl, sym, subst, ◌∙◌}
use Rattle.pc_syntax.specs.declared.kind.Kind.TheVariants as kind
use Rattle.pc_rules.specs.Constants.{number_rule}
use Rattle.pc_rules.specs.Decorated.{with_kind}
use Rattle.pc_facts.specs.Shows.{ShowsNode}
use Rattle.pc_places.specs.ConstantLaws.{only_place, sees-name, shows-number, shows-constant-hole, shows-constant-name}
use Rattle.pc_places.proofs.constants.bare_constant.Goals as goal

pub returns-in_ok-found-in-Cnumber : goal.returns-in_ok-found-in-Cnumber
returns-in_ok-found-in-Cnumber c = λ k out l table sees.
    let node = c.args.node.now in
    let found = c.in_ok-found-in-Cnumber.found in
    shows-number k found out l node (sym c.kind.ensures.value ∙ c.in-Cnumber.is)
    (subst (λ w. ShowsNode k found (with_kind kind.Cnumber node.word (number_rule w))) c.word.ensures (c.in_ok-found-in-Cnumber.ensures k node.word table))

pub returns-in_ok-found-in-Cname : goal.returns-in_ok-found-in-Cname
returns-in_ok-found-in-Cname c = λ k out l table sees.
    let node = c.args.node.now in
    let name = c.name_part-name.result.now in
    let named = c.in_ok-named-in-Cname.named in
    let found = c.in_ok-found-in-Cname.found in
    shows-constant-name k named found out l node name (sym c.kind.ensures.value ∙ c.in-Cname.is) c.name_part-name.ensures.kids
    (λ n shows word. c.in_ok-found-in-Cname.ensures k node.word n table shows (word ∙ sym c.word-in-Cname.ensures))
    (c.in_ok-named-in-Cname.ensures k out (only_place l kind.Cname name) c.name_part-name.ensures.class refl table
    (sees-name k c.args.names.now c.args.declarations.now c.args.block.0 c.args.opened.now out l name sees))

pub returns-in-Hole : goal.returns-in-Hole
returns-in-Hole c = λ k out l table sees.
    shows-constant-hole k _ out l c.args.node.now c.in-Hole.sort (sym c.kind.ensures.value ∙ c.in-Hole.is) (c.hole.ensures k c.args.node.now.word)
