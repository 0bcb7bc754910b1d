use Rattle.std.proofs.Common.{List, ◌++◌, refl, ap, subst, ◌∙◌}
use Rattle.pc_rules.specs.Attributes.{Entry, at_kid}
use Rattle.pc_facts.specs.Shows.{ShowsSignatures}
use Rattle.pc_headings.specs.AroundLaws.{Keeps-signatures}
use Rattle.pc_headings.specs.HeadingLaws.{procedure-step}
use Rattle.pc_headings.specs.Signatures.{signature_from}
use Rattle.pc_headings.proofs.headings.procedure.Goals as goal

pub returns : goal.returns
returns c =
    let a = c.args.tables.now in
    let b = c.parameters.new.tables in
    let part = c.in_ok-listed.part in
    procedure-step a b _ c.args.outer.0 c.args.owner.0 c.args.params.now c.in_ok-listed.listed part _ c.in_ok-listed.ensures
    (Keeps-signatures b _ refl refl c.in_ok-signature.ensures.begins refl refl)
    (c.in_ok-add_kid.ensures ∙ ap (λ (es : List Entry). es ++ at_kid 2 part.entries.items) c.new-entries.ensures.items)
    refl
    (λ k r t gs all formals has. subst (λ (es : List Entry). ShowsSignatures k c.in_ok-signature.signature (signature_from part.hole es r t gs)) c.as_slice.ensures.value (c.in_ok-signature.ensures.shows k r t gs all formals has))
