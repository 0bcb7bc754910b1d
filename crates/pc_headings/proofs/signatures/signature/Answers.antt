use Rattle.std.proofs.Common.{◌≡◌, Bool, ◌&&◌, not, ap, sym, ◌∙◌, subst}
use Rattle.pc_rules.specs.Attributes.{is_empty}
use Rattle.pc_headings.specs.Signatures.{signature_from, IsWanted}
use Rattle.pc_headings.specs.SignatureLaws.{wanted}
use Rattle.pc_headings.proofs.signatures.signature.Goals as goal

pub returns-clause-shows : goal.returns-clause-shows
returns-clause-shows c = λ k r t gs all formals has.
    let es = c.args.entries.now in
    let hole = c.args.hole in
    let whole = c.args.is_whole in
    let right : c.both-is_right.result ≡ ((not hole && is_empty es) && (whole && c.args.has_result)) =
    c.both-is_right.ensures ∙ (λ j. c.both.ensures j && c.both-2.ensures j) ∙ ap (λ (b : Bool). (not hole && b) && (whole && c.args.has_result)) c.is_empty.ensures in
    c.in_ok-id.ensures.shows k (signature_from hole es r t gs) all
    (subst (λ (b : Bool). IsWanted k b c.args.formals.items c.args.result_type (signature_from hole es r t gs)) (sym right)
    (wanted k hole es whole c.args.formals.items gs r c.args.has_result c.args.result_type t formals has))
