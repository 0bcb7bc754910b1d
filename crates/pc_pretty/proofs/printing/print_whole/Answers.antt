use Rattle.std.proofs.Common.{ℕ, List, ◌++◌, length, ap, ◌∙◌}
use Rattle.pc_lex.specs.declared.symbol.Span.{Span}
use Rattle.pc_pretty.specs.declared.spacing.Spacing.TheVariants.{Tight}
use Rattle.pc_pretty.specs.Printed.{Piece, place, pieces_of}
use Rattle.pc_pretty.specs.Joined.{joined, piece_spans}
use Rattle.pc_pretty.specs.Preorder.{spans_of}
use Rattle.pc_pretty.proofs.Joins.{stand_all}
use Rattle.pc_pretty.proofs.PrintedPlaces.{joined-text}
use Rattle.pc_pretty.proofs.printing.print_whole.Goals as goal

pub returns-clause-spans : goal.returns-clause-spans
returns-clause-spans c = λ asked.
    let t = c.args.tree.now in
    let pieces : List Piece = pieces_of t (place Tight 0) in
    let own : List ℕ → List Span = λ bs. piece_spans (length bs) pieces in
    let old = c.args.spans.now.items in
    c.in_ok-print_node.ensures.spans asked (own c.new-text.result.items) 0 (stand_all (own c.new-text.result.items)) ∙
    ap (λ bs. old ++ spans_of (joined (own bs)) t 0) c.new-text.ensures.items ∙ ap (λ xs. old ++ xs) (joined-text t)
