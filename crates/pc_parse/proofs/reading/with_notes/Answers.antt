use Rattle.std.proofs.Common.{◌≡◌, sym, ◌∙◌, ap, arith}
use Rattle.pc_layout.specs.Noted.{noted_tree, notes_of}
use Rattle.pc_layout.specs.NotedLaws.{weight, noted_tree-bare}
use Rattle.pc_parse.specs.Comments.{notes_of_lexed}
use Rattle.pc_parse.proofs.LexedNotes.{counted-is, counted-weight}
use Rattle.pc_parse.proofs.NotesOnce.{placed-all, placed-count}
use Rattle.pc_parse.proofs.Unnoted.{bare_notes_of}
use Rattle.pc_parse.proofs.reading.with_notes.Goals as goal

pub returns-then-comments-len : goal.returns-then-comments-len
returns-then-comments-len c =
    let lexed = c.args.lexed.now in
    let total = counted-is lexed.symbols.items lexed.tail.items in
    let none : weight (notes_of_lexed lexed) ≡ 0 = omega (arith, total, counted-weight lexed.text.now lexed.symbols.items, c.comments_in-comments.ensures, c.if-comments-len.true, c.len.ensures, lexed.tail.ok) in
    record {
      tree = sym (noted_tree-bare c.args.tree (notes_of_lexed lexed) c.requires.bare none);
      dropped = omega (arith, bare_notes_of c.args.tree c.requires.bare, c.comments_in-comments.ensures);
    }

pub overflow_sub-dropped : goal.overflow_sub-dropped
overflow_sub-dropped c =
    (placed-count c.args.tree c.args.lexed.now c.depth.ensures.proper.sound c.requires.symbols c.in_ok-placed.placed c.comments_in-comments.result c.in_ok-placed.ensures c.comments_in-comments.ensures c.comments_in-comments.type_inv).1

pub returns : goal.returns
returns c =
    let count = placed-count c.args.tree c.args.lexed.now c.depth.ensures.proper.sound c.requires.symbols c.in_ok-placed.placed c.comments_in-comments.result c.in_ok-placed.ensures c.comments_in-comments.ensures c.comments_in-comments.type_inv in
    let tree : c.unwrap_or.result ≡ noted_tree c.args.tree (notes_of_lexed c.args.lexed.now) = c.unwrap_or.ensures ∙ c.in_ok-placed.ensures.tree ∙ placed-all c.args.tree c.args.lexed.now c.depth.ensures.proper.sound c.requires.symbols in
    record {
      tree = tree;
      dropped = omega (arith, count.0, count.1, ap notes_of tree, c.comments_in-comments.ensures);
    }
