use Rattle.std.proofs.Common.{refl, sym, subst, ap, ◌∙◌}
use Rattle.pc_syntax.specs.declared.kind.Kind.TheVariants as kind
use Rattle.pc_forms.specs.declared.form.Form.TheVariants as form
use Rattle.pc_rules.specs.Constants.{number_rule}
use Rattle.pc_rules.specs.Decorated.{with_kind}
use Rattle.pc_facts.specs.Shows.{ShowsNode}
use Rattle.pc_bodies.specs.Resolved.{known}
use Rattle.pc_bodies.specs.SeesLaws.{begins-kept, classes-at}
use Rattle.pc_statements.specs.ConstantLaws.{bare-is, resolves-number, resolves-hole, resolves-name}
use Rattle.pc_statements.proofs.constants.bare_constant.Goals as goal

pub returns-in_ok-found-in-Cnumber : goal.returns-in_ok-found-in-Cnumber
returns-in_ok-found-in-Cnumber c =
    let found = c.in_ok-found-in-Cnumber.found in
    resolves-number c.args.body.now c.args.going.now c.args.node.now found (sym c.kind.ensures.value ∙ c.in-Cnumber.is)
    (λ k w table. subst (λ u. ShowsNode k found (with_kind kind.Cnumber w (number_rule u))) c.word.ensures (c.in_ok-found-in-Cnumber.ensures k w table))

pub returns-in_ok-found-in-Cname : goal.returns-in_ok-found-in-Cname
returns-in_ok-found-in-Cname c =
    let b = c.args.body.now in
    let g0 = c.args.going.now in
    let g1 = c.used_name.new.going in
    let node = c.args.node.now in
    let name = c.name_part-name.result.now in
    let named = c.in_ok-named-in-Cname.ensures in
    let class = (classes-at node (form.Cname name) c.kind.ensures.proper c.name_part-name.ensures).0 in
    resolves-name b g0 g1 node name c.in_ok-named-in-Cname.named c.in_ok-found-in-Cname.found c.kind.ensures.proper c.name_part-name.ensures
    (ap (λ v. v.items) named.opened) (begins-kept g0.texts.items g1.texts.items (ap (λ v. v.items) named.texts)) (ap (λ v. v.items) named.touched)
    (λ out l s sees using stands. named.shows out l s class sees.sight using stands)
    (λ w n shown word. c.in_ok-found-in-Cname.ensures (known b g1) w n refl shown (word ∙ sym c.word-in-Cname.ensures))

pub returns-in-Hole : goal.returns-in-Hole
returns-in-Hole c =
    resolves-hole c.args.body.now c.args.going.now c.args.node.now _ c.in-Hole.sort (bare-is c.args.node.now.kind c.requires.constant) (sym c.kind.ensures.value ∙ c.in-Hole.is) (λ k w. c.hole.ensures k w)
