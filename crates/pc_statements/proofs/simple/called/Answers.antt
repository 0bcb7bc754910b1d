use Rattle.std.proofs.Common.{◌++◌, refl, sym, ap, ◌∙◌}
use Rattle.pc_syntax.specs.Words.{lowered}
use Rattle.pc_name_rules.specs.Uses.{used_entries}
use Rattle.pc_name_rules.specs.declared.allowed.Allowed.TheVariants as allowed
use Rattle.pc_bodies.specs.ArgumentLaws.{args-kind}
use Rattle.pc_bodies.specs.Resolved.{known}
use Rattle.pc_bodies.specs.SeesLaws.{begins-kept}
use Rattle.pc_statements.specs.StatementLaws.{walks-called}
use Rattle.pc_statements.proofs.simple.called.Goals as goal

pub returns : goal.returns
returns c = λ o.
    let b = c.args.body.now in
    let g0 = c.args.going.now in
    let g1 = c.used_name.new.going in
    let g2 = c.arguments.new.going in
    let k = known b g2 in
    let name = c.args.name.now in
    let named = c.in_ok-named.ensures in
    walks-called b g0 g1 g2 _ o name c.args.args.now c.in_ok-named.named c.in_ok-args.args.items c.in_ok-found.found c.requires.name (args-kind c.args.args.now.kind c.requires.args)
    (ap (λ v. v.items) named.opened) (begins-kept g0.texts.items g1.texts.items (ap (λ v. v.items) named.texts)) (ap (λ v. v.items) named.touched)
    (λ out l s sees using stands. named.shows out l s c.requires.name sees.sight using stands) c.in_ok-args.ensures refl refl refl
    (λ w n a word call.
    c.in_ok-found.ensures.found k w n a call
    (c.in_ok-add_name_entries.ensures k n call.name (word ∙ sym c.word.ensures) ∙ ap (λ es. es ++ used_entries allowed.Procedure n) c.new-entries.ensures.items)
    (c.procedure_signature-signature.ensures k (lowered n.at.word) n.at.found refl call.name.found))
    (λ n a word call. c.in_ok-found.ensures.logged k n a call (c.procedure_signature-signature.ensures k (lowered n.at.word) n.at.found refl call.name.found))
