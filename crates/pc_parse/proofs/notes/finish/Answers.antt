use Rattle.std.proofs.Common.{◌≡◌, ◌+◌, ◌-◌, [], take, drop, length, sym, ◌∙◌, ap, rules}
use Rattle.std.proofs.lemmas.List.{nil_from_length}
use Rattle.pc_syntax.specs.Plain.{kids_of, node}
use Rattle.pc_layout.specs.Noted as noted
use Rattle.pc_parse.specs.Comments.{notes_of_lexed}
use Rattle.pc_parse.specs.Placing.{row, kept}
use Rattle.pc_parse.proofs.LexedNotes.{lexed_comments}
use Rattle.pc_parse.proofs.Walking.{unchanged, changed, placed-proper}
use Rattle.pc_parse.proofs.notes.finish.Goals as goal

pub returns-then-is_empty-3 : goal.returns-then-is_empty-3
returns-then-is_empty-3 c =
    let none : c.args.made.items ≡ [] = nil_from_length c.args.made.items (search rules) in
    let own : c.in_ok-notes.notes.items ≡ [] = nil_from_length c.in_ok-notes.notes.items (search rules) in
    let bare : c.args.tree.now.notes ≡ [] = sym c.notes.ensures ∙ nil_from_length c.notes.result.now (search rules) in
    let notes : c.in_ok-notes.notes.items ≡ noted.own_notes c.args.tree.now.kind (length (kids_of c.args.tree.now)) (take (c.args.end - c.args.start) (drop c.args.start (notes_of_lexed c.args.lexed.now))) =
    rw (c.kind-kind.ensures.value, c.kid_slice-kids.ensures.value) at c.in_ok-notes.ensures in
    let same = unchanged c.args.tree.now (notes_of_lexed c.args.lexed.now) c.args.start c.args.made.items c.args.end c.args.below c.requires.whole none bare (sym notes ∙ own) in
    record { tree = same.0; end = c.requires.whole.end; count = same.1 }

pub of_noted-requires : goal.of_noted-requires
of_noted-requires c =
    let kids : c.fill.new.made.items ≡ row c.args.made.items (kids_of c.args.tree.now) (length (kids_of c.args.tree.now)) = rw c.kid_slice-kids.ensures.value at c.in_ok-fill.ensures in
    let notes : c.in_ok-notes.notes.items ≡ noted.own_notes c.args.tree.now.kind (length (kids_of c.args.tree.now)) (take (c.args.end - c.args.start) (drop c.args.start (notes_of_lexed c.args.lexed.now))) = rw (c.kind-kind.ensures.value, c.kid_slice-kids.ensures.value) at c.in_ok-notes.ensures in
    let same = changed c.args.tree.now (notes_of_lexed c.args.lexed.now) c.args.start c.args.made.items c.args.end c.args.below c.requires.whole c.fill.new.made.items c.in_ok-notes.notes.items kids notes in
    rw (c.kind-kind.ensures.value, c.word.ensures, same.0) (placed-proper c.args.tree.now (notes_of_lexed c.args.lexed.now) c.args.start (lexed_comments c.args.lexed.now c.requires.lexed) c.kind-kind.ensures.proper)

pub returns : goal.returns
returns c =
    let kids : c.fill.new.made.items ≡ row c.args.made.items (kids_of c.args.tree.now) (length (kids_of c.args.tree.now)) = rw c.kid_slice-kids.ensures.value at c.in_ok-fill.ensures in
    let notes : c.in_ok-notes.notes.items ≡ noted.own_notes c.args.tree.now.kind (length (kids_of c.args.tree.now)) (take (c.args.end - c.args.start) (drop c.args.start (notes_of_lexed c.args.lexed.now))) = rw (c.kind-kind.ensures.value, c.kid_slice-kids.ensures.value) at c.in_ok-notes.ensures in
    let same = changed c.args.tree.now (notes_of_lexed c.args.lexed.now) c.args.start c.args.made.items c.args.end c.args.below c.requires.whole c.fill.new.made.items c.in_ok-notes.notes.items kids notes in
    let made : c.in_ok-noted.noted ≡ node c.args.tree.now.kind c.args.tree.now.word c.in_ok-notes.notes.items c.fill.new.made.items = rw (c.kind-kind.ensures.value, c.word.ensures) at c.in_ok-noted.ensures in
    record { tree = made ∙ same.0; end = c.requires.whole.end; count = c.saturating_add-count.ensures ∙ ap (λ n. kept (c.args.below + n)) (search rules) ∙ same.1 }
