use Rattle.std.proofs.Common.{List, ◌++◌, refl, ap, subst, ◌∙◌}
use Rattle.pc_rules.specs.Attributes.{Entry, at_kid}
use Rattle.pc_facts.specs.Shows.{ShowsSignatures}
use Rattle.pc_headings.specs.AroundLaws.{Keeps-signatures}
use Rattle.pc_headings.specs.HeadingLaws.{function-step}
use Rattle.pc_headings.specs.Signatures.{signature_from}
use Rattle.pc_headings.proofs.headings.function.Goals as goal

pub returns : goal.returns
returns c =
    let a = c.args.tables.now in
    let b = c.parameters.new.tables in
    let d = c.result_type_of.new.tables in
    let part = c.in_ok-listed.part in
    let own = c.in_ok-own.own.items in
    function-step a b d _ c.args.outer.0 c.args.owner.0 c.args.params.now c.args.result_type.now c.in_ok-listed.listed part own c.in_ok-own.number c.is_some.result _ c.requires.there c.in_ok-listed.ensures c.in_ok-own.ensures
    (Keeps-signatures d _ refl refl c.in_ok-signature.ensures.begins refl refl)
    (c.in_ok-add_kid-2.ensures ∙ ap (λ (es : List Entry). es ++ at_kid 3 own) (c.in_ok-add_kid.ensures ∙ ap (λ (es : List Entry). es ++ at_kid 2 part.entries.items) c.new-entries.ensures.items))
    refl c.is_some.ensures
    (λ k r t gs all formals has. subst (λ (es : List Entry). ShowsSignatures k c.in_ok-signature.signature (signature_from part.hole es r t gs)) c.as_slice.ensures.value (c.in_ok-signature.ensures.shows k r t gs all formals has))
