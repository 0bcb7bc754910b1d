use Rattle.std.proofs.Common.{◌≡◌, Some, None, sym, ap, ◌∙◌}
use Rattle.std.specs.Prelude.{option_map}
use Rattle.pc_scope.specs.Lookup.{declaration, seen_from}
use Rattle.pc_scope.specs.Table.{declared_as}
use Rattle.pc_scope.proofs.FromTop.{lookup-some, lookup-none}
use Rattle.pc_scope.proofs.scopes.Scopes.lookup.Goals as goal

pub returns-in-Some-clause-meaning : goal.returns-in-Some-clause-meaning
returns-in-Some-clause-meaning c = λ t stands.
    let d = declared_as c.in-Some.entry.now.decl c.in-Some.entry.now.is_definition in
    let found : declaration t c.args.name.now c.args.at.now ≡ Some d =
    ap (declaration t c.args.name.now) (sym c.steps-steps.ensures) ∙ sym (c.declaration.ensures t stands) ∙ ap (option_map (λ e. declared_as e.now.decl e.now.is_definition)) c.in-Some.is in
    c.seen_from.ensures.meaning ∙ ap (λ q. seen_from q d.declared) c.steps-steps.ensures ∙ sym (lookup-some t c.args.name.now c.args.at.now d found)

pub returns-in-None-clause-meaning : goal.returns-in-None-clause-meaning
returns-in-None-clause-meaning c = λ t stands.
    let found : declaration t c.args.name.now c.args.at.now ≡ None =
    ap (declaration t c.args.name.now) (sym c.steps-steps.ensures) ∙ sym (c.declaration.ensures t stands) ∙ ap (option_map (λ e. declared_as e.now.decl e.now.is_definition)) c.in-None.is in
    c.required_or_not.ensures.meaning ∙ sym (lookup-none t c.args.name.now c.args.at.now found)
