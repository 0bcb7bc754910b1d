use Rattle.std.proofs.Common.{refl, sym, subst, ◌∙◌}
use Rattle.pc_syntax.specs.declared.kind.Kind.TheVariants as kind
use Rattle.pc_forms.specs.declared.form.Form.TheVariants as form
use Rattle.pc_rules.specs.Constants.{string_rule}
use Rattle.pc_rules.specs.Decorated.{with_kind}
use Rattle.pc_facts.specs.Shows.{ShowsNode}
use Rattle.pc_bodies.specs.Resolved.{known}
use Rattle.pc_bodies.specs.SeesLaws.{classes-at}
use Rattle.pc_statements.specs.ConstantLaws.{bare-constant, bare-is, resolves-text, resolves-signed}
use Rattle.pc_statements.proofs.constants.constant.Goals as goal

pub returns-in_ok-found-in-Cstring : goal.returns-in_ok-found-in-Cstring
returns-in_ok-found-in-Cstring c =
    let b = c.args.body.now in
    let node = c.args.node.now in
    let found = c.in_ok-found-in-Cstring.found in
    let g1 = record c.args.going.now { texts = c.string_constant.new.texts } in
    resolves-text b c.args.going.now g1 node found (sym c.kind.ensures.value ∙ c.in-Cstring.is) refl (record { more = _; is = c.in_ok-found-in-Cstring.ensures.kept }) refl
    (λ w. subst (λ u. ShowsNode (known b g1) found (with_kind kind.Cstring w (string_rule u))) c.word.ensures (c.in_ok-found-in-Cstring.ensures.shown (known b g1) w refl refl))

pub bare_constant-requires : goal.bare_constant-requires
bare_constant-requires c = record {
  block = c.requires.block;
  constant = (classes-at c.args.node.now (form.Csign c.signed_part-sign.result.0 c.signed_part-sign.result.1.now) c.kind.ensures.proper c.signed_part-sign.ensures).0;
}

pub bare_constant-requires-in_default : goal.bare_constant-requires-in_default
bare_constant-requires-in_default c = record {
  block = c.requires.block;
  constant = bare-constant c.args.node.now.kind c.requires.constant (λ e. c.in_default.not-Cstring (c.kind.ensures.value ∙ e)) (λ e. c.in_default.not-Csign (c.kind.ensures.value ∙ e));
}

pub returns-in_ok-found-in-Csign : goal.returns-in_ok-found-in-Csign
returns-in_ok-found-in-Csign c =
    let b = c.args.body.now in
    let node = c.args.node.now in
    let sign = c.signed_part-sign.result.0 in
    let bare = c.signed_part-sign.result.1.now in
    let g1 = c.bare_constant.new.going in
    let class = (classes-at node (form.Csign sign bare) c.kind.ensures.proper c.signed_part-sign.ensures).0 in
    resolves-signed b c.args.going.now g1 node bare sign c.in_ok-value-in-Csign.value c.in_ok-found-in-Csign.found c.kind.ensures.proper c.signed_part-sign.ensures (bare-is bare.kind class)
    c.in_ok-value-in-Csign.ensures (λ w n shown. c.in_ok-found-in-Csign.ensures (known b g1) w n refl shown)
