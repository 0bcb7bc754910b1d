use Rattle.std.proofs.Common.{Bool, ◌∙◌, subst, refl}
use Rattle.pc_headings.specs.Signatures.{IsWanted}
use Rattle.pc_headings.specs.SignatureLaws.{added-signature}
use Rattle.pc_headings.proofs.signatures.add_where.Goals as goal

pub returns-in_ok-push-clause-shows : goal.returns-in_ok-push-clause-shows
returns-in_ok-push-clause-shows c = λ k r all h.
    added-signature k c.args.signatures.now.items _ _ c.args.formals.items c.args.result_type r (all ∙ c.in_ok-push.ensures.items) (c.in_ok-id.ensures ∙ c.len.ensures ∙ c.args.signatures.now.ok.0) refl refl
    (subst (λ (b : Bool). IsWanted k b c.args.formals.items c.args.result_type r) c.if-is_right.true h)
