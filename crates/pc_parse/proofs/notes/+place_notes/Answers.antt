use Rattle.std.proofs.Common.{◌≡◌, ◌+◌, ◌≤◌, true, length, drop, sym, ◌∙◌, ap, Vec, Global, arith}
use Rattle.std.proofs.lemmas.List.{drop_all}
use Rattle.pc_syntax.specs.declared.tree.Tree.{Tree}
use Rattle.pc_syntax.specs.PartsLaws.{size_of-kid}
use Rattle.pc_syntax.specs.WellFormed.{size_of}
use Rattle.pc_layout.specs.Items.{items_of}
use Rattle.pc_parse.specs.Comments.{notes_of_lexed}
use Rattle.pc_parse.specs.Quiet.{quiet}
use Rattle.pc_parse.proofs.NotesOnce.{quiet_placed}
use Rattle.pc_parse.proofs.Walking.{laid, starts, kid_next, kid_within, walked_symbol, walked_kid, ends}
use Rattle.pc_parse.proofs.notes.+place_notes.Goals as goal
use Rattle.pc_parse.proofs.notes.+place_notes.Goals.{then-is_kid+in_ok-below+in_ok-keep, else-is_kid}

pub node_items-requires : goal.node_items-requires
node_items-requires t c = rw (c.kind-kind.ensures.value, c.word.ensures, c.kid_slice-kids.ensures.value) (laid c.args.tree.now c.kind-kind.ensures.proper)

pub loop-n-init : goal.loop-n-init
loop-n-init t c =
    rw (c.kid_slice-kids.ensures.value, c.as_slice-item-items.ensures, c.new-made.ensures.items)
    (starts c.args.tree.now (notes_of_lexed c.args.lexed.now) c.args.start (items_of c.in_ok-items.items) c.kind-kind.ensures.proper
    (rw (c.kind-kind.ensures.value, c.word.ensures, c.kid_slice-kids.ensures.value) at c.in_ok-items.ensures))

pub place_notes-requires : goal.place_notes-requires
place_notes-requires t c =
    let l = kid_next c.args.tree.now (notes_of_lexed c.args.lexed.now) c.args.start c.as_slice-item-items.result.now c.loop-n.n _ c.kid_slice-kids.result.now c.kid_slice-kids.ensures.value c.loop-n.at c.loop-n.made.items c.loop-n.number c.loop-n.count c.loop-n-test.true c.loop-n.invariant c.if-is_kid.ensures in
    let s : size_of c.index-kids-number.result + 1 ≤ size_of c.args.tree.now =
    size_of-kid c.args.tree.now c.loop-n.number c.index-kids-number.result (rw (← c.kid_slice-kids.ensures.value) l) (rw (← c.kid_slice-kids.ensures.value) (sym c.index-kids-number.is)) in (
      omega (arith, s, c.decreases),
      (
        c.requires.lexed,
        kid_within c.args.tree.now (notes_of_lexed c.args.lexed.now) c.args.start c.as_slice-item-items.result.now c.loop-n.n _ c.kid_slice-kids.result.now c.kid_slice-kids.ensures.value c.loop-n.at c.loop-n.made.items c.loop-n.number c.loop-n.count c.loop-n-test.true c.loop-n.invariant
            c.index-kids-number.result (length c.args.lexed.now.symbols.items) c.if-is_kid.ensures c.index-kids-number.is c.requires.within,
      ),
    )

pub keep-requires-clause-there : goal.keep-requires-clause-there
keep-requires-clause-there t c =
    kid_next c.args.tree.now (notes_of_lexed c.args.lexed.now) c.args.start c.as_slice-item-items.result.now c.loop-n.n _ c.kid_slice-kids.result.now c.kid_slice-kids.ensures.value c.loop-n.at c.loop-n.made.items c.loop-n.number c.loop-n.count c.loop-n-test.true c.loop-n.invariant c.if-is_kid.ensures

pub loop-n-preserved : goal.loop-n-preserved
loop-n-preserved t c =
    elim c.if-is_kid.branch [
      | then-is_kid+in_ok-below+in_ok-keep w ↦
          walked_kid c.args.tree.now (notes_of_lexed c.args.lexed.now) c.args.start c.as_slice-item-items.result.now c.loop-n.n _ c.kid_slice-kids.result.now c.kid_slice-kids.ensures.value c.loop-n.at c.loop-n.made.items c.loop-n.number c.loop-n.count c.loop-n-test.true c.loop-n.invariant
          w.index-kids-number.result w.in_ok-below.below c.if-is_kid.at c.if-is_kid.made.items w.keep.new.made.items c.if-is_kid.number c.if-is_kid.count
          w.if-is_kid.ensures w.index-kids-number.is w.in_ok-keep.ensures.row w.in_ok-keep.ensures.few w.in_ok-below.ensures w.at-is (ap (λ (v : Vec Tree Global). v.items) w.made-is) w.number-is (w.count-is ∙ w.saturating_add-count.ensures)
      | else-is_kid w ↦
          walked_symbol c.args.tree.now (notes_of_lexed c.args.lexed.now) c.args.start c.as_slice-item-items.result.now c.loop-n.n _ c.kid_slice-kids.result.now c.kid_slice-kids.ensures.value c.loop-n.at c.loop-n.made.items c.loop-n.number c.loop-n.count c.loop-n-test.true c.loop-n.invariant
          c.if-is_kid.at c.if-is_kid.made.items c.if-is_kid.number c.if-is_kid.count
          w.if-is_kid.ensures w.at-is (ap (λ (v : Vec Tree Global). v.items) w.made-is) w.number-is w.count-is
    ]

pub finish-requires-clause-whole : goal.finish-requires-clause-whole
finish-requires-clause-whole t c =
    ends c.args.tree.now (notes_of_lexed c.args.lexed.now) c.args.start c.loop-n.at (drop c.loop-n.n c.as_slice-item-items.result.now) c.loop-n.made.items c.loop-n.number c.loop-n.count
    (drop_all c.loop-n.n c.as_slice-item-items.result.now c.loop-n-test.false) (rw c.kid_slice-kids.ensures.value at c.loop-n.invariant)

pub returns-then-is_quiet : goal.returns-then-is_quiet
returns-then-is_quiet t c =
    let is_quiet : quiet c.args.tree.now.kind ≡ true = ap quiet (sym c.kind-kind.ensures.value) ∙ sym c.is_quiet.ensures ∙ c.if-is_quiet.true in
    let same = quiet_placed c.args.tree.now (notes_of_lexed c.args.lexed.now) c.args.start c.kind-kind.ensures.proper.sound is_quiet in
    record { tree = same.0; end = c.behind.ensures; count = same.1 }
