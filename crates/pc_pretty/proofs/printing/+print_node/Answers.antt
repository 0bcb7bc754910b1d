use Rattle.std.proofs.Common.{◌≡◌, ℕ, ◌≤◌, ◌<◌, ◌+◌, ◌∷◌, Option, Some, drop, length, ap, sym, ◌∙◌, Vec, Global, arith}
use Rattle.std.proofs.lemmas.List.{drop_all}
use Rattle.pc_syntax.specs.declared.item.Item.TheVariants.{Literal, Word, Kid}
use Rattle.pc_syntax.specs.PartsLaws.{small-kids}
use Rattle.pc_syntax.specs.WellFormed.{depth_of}
use Rattle.pc_layout.specs.Items.{items_of}
use Rattle.pc_lex.specs.declared.symbol.Span.{Span}
use Rattle.pc_pretty.specs.Printed.{kept_next, pieces_of}
use Rattle.pc_pretty.proofs.Walks.{laid, starts, item_at, kid_at, kid_there, own_is, own_small, walked_literal, walked_word, walked_kid, walked_all, depth_of-kid}
use Rattle.pc_pretty.proofs.Listing.{layout_of}
use Rattle.pc_pretty.proofs.Marking.{marked_literal, marked_word, marked_kid, marking_starts, marking_room, marking_ends}
use Rattle.pc_pretty.proofs.printing.+print_node.Goals as goal
use Rattle.pc_pretty.proofs.printing.+print_node.Goals.{in-Literal+in_ok-push_symbol-in-Literal, in-Word+in_ok-push_symbol-in-Word, in-Kid+in_ok-printed-in-Kid}

pub node_items-requires : goal.node_items-requires
node_items-requires t c = rw (c.kind-kind.ensures.value, c.word-word.ensures, c.kid_slice-kids.ensures.value) (laid c.args.tree.now c.kind-kind.ensures.proper)

pub loop-n-init : goal.loop-n-init
loop-n-init t c =
    let laid_out = rw (c.kind-kind.ensures.value, c.word-word.ensures, c.kid_slice-kids.ensures.value) at c.in_ok-items.ensures in
    let text = rw c.notes.ensures at c.in_ok-push_notes.ensures.text in
    let behind = rw c.notes.ensures at c.in_ok-push_notes.ensures.behind in
    rw (c.kind-kind.ensures.value, c.word-word.ensures, c.kid_slice-kids.ensures.value, c.inner-indentation.ensures, c.as_slice-item-items.ensures) record {
      walk = starts c.args.tree.now c.args.place (items_of c.in_ok-items.items) c.args.out.now.items c.push_notes.new.out.items c.in_ok-push_notes.field-0 c.kind-kind.ensures.proper laid_out text behind;
      marking = λ asked. marking_starts c.args.tree.now c.args.place (items_of c.in_ok-items.items) c.args.out.now.items c.push_notes.new.out.items c.args.spans.now.items _ c.in_ok-push_notes.field-0 c.kind-kind.ensures.proper laid_out text behind
          (c.in_ok-at.ensures.kept asked);
    }

pub push_symbol-requires : goal.push_symbol-requires
push_symbol-requires t c =
    let h : c.own_place-own.result.indentation ≤ c.args.place.indentation + 2 = own_small c.args.place c.inner-indentation.result _ c.loop-n.kept c.own_place-own.result c.inner-indentation.ensures c.loop-n.invariant.walk.within c.own_place-own.ensures in
    omega (arith, h, c.requires)

pub push_symbol-requires-in-Word : goal.push_symbol-requires-in-Word
push_symbol-requires-in-Word t c =
    let h : c.own_place-own.result.indentation ≤ c.args.place.indentation + 2 = own_small c.args.place c.inner-indentation.result _ c.loop-n.kept c.own_place-own.result c.inner-indentation.ensures c.loop-n.invariant.walk.within c.own_place-own.ensures in
    omega (arith, h, c.requires)

pub bounds-kids-number : goal.bounds-kids-number
bounds-kids-number t c =
    let at : drop c.loop-n.n c.as_slice-item-items.result.now ≡ Kid c.in-Kid.field-0 ∷ drop (c.loop-n.n + 1) c.as_slice-item-items.result.now = item_at c.as_slice-item-items.result.now c.loop-n.n (Kid c.in-Kid.field-0) _ c.loop-n-test.true c.in-Kid.is in
    kid_there c.in-Kid.field-0 (drop (c.loop-n.n + 1) c.as_slice-item-items.result.now) c.kid_slice-kids.result.now c.loop-n.number (rw at at c.loop-n.invariant.walk.fits)

pub overflow_add-number : goal.overflow_add-number
overflow_add-number t c =
    let at : drop c.loop-n.n c.as_slice-item-items.result.now ≡ Kid c.in-Kid.field-0 ∷ drop (c.loop-n.n + 1) c.as_slice-item-items.result.now = item_at c.as_slice-item-items.result.now c.loop-n.n (Kid c.in-Kid.field-0) _ c.loop-n-test.true c.in-Kid.is in
    let l : c.loop-n.number < length c.kid_slice-kids.result.now = kid_there c.in-Kid.field-0 (drop (c.loop-n.n + 1) c.as_slice-item-items.result.now) c.kid_slice-kids.result.now c.loop-n.number (rw at at c.loop-n.invariant.walk.fits) in
    let m : length c.kid_slice-kids.result.now < 1000000 = rw c.kid_slice-kids.ensures.value (small-kids c.args.tree.now c.kind-kind.ensures.proper) in
    grind (arith, l, m)

pub print_node-requires : goal.print_node-requires
print_node-requires t c =
    let h : c.own_place-own.result.indentation ≤ c.args.place.indentation + 2 = own_small c.args.place c.inner-indentation.result _ c.loop-n.kept c.own_place-own.result c.inner-indentation.ensures c.loop-n.invariant.walk.within c.own_place-own.ensures in
    let at : drop c.loop-n.n c.as_slice-item-items.result.now ≡ Kid c.in-Kid.field-0 ∷ drop (c.loop-n.n + 1) c.as_slice-item-items.result.now = item_at c.as_slice-item-items.result.now c.loop-n.n (Kid c.in-Kid.field-0) _ c.loop-n-test.true c.in-Kid.is in
    let l : c.loop-n.number < length c.kid_slice-kids.result.now = kid_there c.in-Kid.field-0 (drop (c.loop-n.n + 1) c.as_slice-item-items.result.now) c.kid_slice-kids.result.now c.loop-n.number (rw at at c.loop-n.invariant.walk.fits) in
    let d : depth_of c.index-kids-number.result + 1 ≤ depth_of c.args.tree.now =
    depth_of-kid c.args.tree.now c.loop-n.number c.index-kids-number.result (rw (← c.kid_slice-kids.ensures.value) l) (rw (← c.kid_slice-kids.ensures.value) (sym c.index-kids-number.is)) in
    (omega (arith, d, c.decreases), omega (arith, h, d, c.requires))

pub returns-clause-text : goal.returns-clause-text
returns-clause-text t c =
    (walked_all (pieces_of c.args.tree.now c.args.place) c.args.out.now.items c.kind-kind.result c.word-word.result.now c.inner-indentation.result
    (drop c.loop-n.n c.as_slice-item-items.result.now) (drop c.loop-n.number c.kid_slice-kids.result.now) c.loop-n.n c.loop-n.kept c.loop-n.out.items c.loop-n.span
    (drop_all c.loop-n.n c.as_slice-item-items.result.now c.loop-n-test.false) c.loop-n.invariant.walk).0

pub returns-clause-span : goal.returns-clause-span
returns-clause-span t c =
    (walked_all (pieces_of c.args.tree.now c.args.place) c.args.out.now.items c.kind-kind.result c.word-word.result.now c.inner-indentation.result
    (drop c.loop-n.n c.as_slice-item-items.result.now) (drop c.loop-n.number c.kid_slice-kids.result.now) c.loop-n.n c.loop-n.kept c.loop-n.out.items c.loop-n.span
    (drop_all c.loop-n.n c.as_slice-item-items.result.now c.loop-n-test.false) c.loop-n.invariant.walk).1

pub put_span-requires : goal.put_span-requires
put_span-requires t c = λ asked.
    marking_room c.args.tree.now c.args.place c.args.out.now.items c.args.spans.now.items c.kind-kind.result c.word-word.result.now c.inner-indentation.result
    c.as_slice-item-items.result.now c.kid_slice-kids.result.now c.loop-n.n c.loop-n.number c.loop-n.kept c.loop-n.out.items c.loop-n.spans.items c.in_ok-at.at
    (c.loop-n.invariant.marking asked) (drop_all c.loop-n.n c.as_slice-item-items.result.now c.loop-n-test.false) c.in_ok-at.ensures.place

pub returns-clause-spans : goal.returns-clause-spans
returns-clause-spans t c = λ asked.
    marking_ends c.args.tree.now c.args.place c.args.out.now.items c.args.spans.now.items c.kind-kind.result c.word-word.result.now c.inner-indentation.result
    c.as_slice-item-items.result.now c.kid_slice-kids.result.now c.loop-n.n c.loop-n.number c.loop-n.kept c.loop-n.out.items c.loop-n.spans.items c.in_ok-at.at
    (c.loop-n.invariant.marking asked) (drop_all c.loop-n.n c.as_slice-item-items.result.now c.loop-n-test.false) c.in_ok-at.ensures.place
    c.loop-n.span _
    (layout_of c.args.tree.now _ _ _ _ _ c.in_ok-items.ensures c.kind-kind.ensures.value c.word-word.ensures c.kid_slice-kids.ensures.value c.as_slice-item-items.ensures)
    c.kid_slice-kids.ensures.value
    (walked_all (pieces_of c.args.tree.now c.args.place) c.args.out.now.items c.kind-kind.result c.word-word.result.now c.inner-indentation.result
    (drop c.loop-n.n c.as_slice-item-items.result.now) (drop c.loop-n.number c.kid_slice-kids.result.now) c.loop-n.n c.loop-n.kept c.loop-n.out.items c.loop-n.span
    (drop_all c.loop-n.n c.as_slice-item-items.result.now c.loop-n-test.false) c.loop-n.invariant.walk).1
    (c.put_span.ensures asked)

pub loop-n-preserved : goal.loop-n-preserved
loop-n-preserved t c =
    let n = c.loop-n.n in
    let items = c.as_slice-item-items.result.now in
    let kids = c.kid_slice-kids.result.now in
    let pieces = pieces_of c.args.tree.now c.args.place in
    let kept = c.kept_next-kept.ensures ∙ ap (kept_next c.kind-kind.result c.loop-n.kept c.own_place-own.result) c.is_some.ensures in
    elim c.match-item.branch [
      | in-Literal+in_ok-push_symbol-in-Literal w ↦
          let here = item_at items n (Literal w.in-Literal.lexeme) _ c.loop-n-test.true w.in-Literal.is in
          let own = own_is c.kind-kind.result c.inner-indentation.result n c.loop-n.kept _ (Literal w.in-Literal.lexeme) c.own_place-own.result c.own_place-own.ensures w.in-Literal.is in
          let out = ap (λ (v : Vec ℕ Global). v.items) w.out-is ∙ w.in_ok-push_symbol-in-Literal.ensures.text in
          let printed = w.printed-is ∙ ap Some w.in_ok-push_symbol-in-Literal.ensures.span in
          record {
            walk = walked_literal pieces c.args.out.now.items c.kind-kind.result c.word-word.result.now c.inner-indentation.result
                items kids n c.loop-n.number c.loop-n.kept c.loop-n.out.items c.loop-n.span
                c.match-item.number c.kept_next-kept.result c.match-item.out.items c.through-span.result c.own_place-own.result c.match-item.printed
                c.loop-n.invariant.walk kept c.through-span.ensures w.in-Literal.lexeme here own printed w.number-is out;
            marking = λ asked. marked_literal c.args.tree.now c.args.place c.args.out.now.items c.args.spans.now.items c.kind-kind.result c.word-word.result.now c.inner-indentation.result
                items kids n c.loop-n.number c.loop-n.kept c.loop-n.out.items c.loop-n.spans.items
                c.match-item.number c.kept_next-kept.result c.match-item.out.items c.match-item.spans.items c.own_place-own.result c.match-item.printed
                (c.loop-n.invariant.marking asked) kept w.in-Literal.lexeme _ here own printed w.number-is out (ap (λ (v : Vec (Option Span) Global). v.items) w.spans-is);
          }
      | in-Word+in_ok-push_symbol-in-Word w ↦
          let here = item_at items n (Word w.in-Word.lexeme) _ c.loop-n-test.true w.in-Word.is in
          let own = own_is c.kind-kind.result c.inner-indentation.result n c.loop-n.kept _ (Word w.in-Word.lexeme) c.own_place-own.result c.own_place-own.ensures w.in-Word.is in
          let out = ap (λ (v : Vec ℕ Global). v.items) w.out-is ∙ w.in_ok-push_symbol-in-Word.ensures.text in
          let printed = w.printed-is ∙ ap Some w.in_ok-push_symbol-in-Word.ensures.span in
          record {
            walk = walked_word pieces c.args.out.now.items c.kind-kind.result c.word-word.result.now c.inner-indentation.result
                items kids n c.loop-n.number c.loop-n.kept c.loop-n.out.items c.loop-n.span
                c.match-item.number c.kept_next-kept.result c.match-item.out.items c.through-span.result c.own_place-own.result c.match-item.printed
                c.loop-n.invariant.walk kept c.through-span.ensures w.in-Word.lexeme here own printed w.number-is out;
            marking = λ asked. marked_word c.args.tree.now c.args.place c.args.out.now.items c.args.spans.now.items c.kind-kind.result c.word-word.result.now c.inner-indentation.result
                items kids n c.loop-n.number c.loop-n.kept c.loop-n.out.items c.loop-n.spans.items
                c.match-item.number c.kept_next-kept.result c.match-item.out.items c.match-item.spans.items c.own_place-own.result c.match-item.printed
                (c.loop-n.invariant.marking asked) kept w.in-Word.lexeme _ here own printed w.number-is out (ap (λ (v : Vec (Option Span) Global). v.items) w.spans-is);
          }
      | in-Kid+in_ok-printed-in-Kid w ↦
          let here : drop n items ≡ Kid w.in-Kid.field-0 ∷ drop (n + 1) items = item_at items n (Kid w.in-Kid.field-0) _ c.loop-n-test.true w.in-Kid.is in
          let l : c.loop-n.number < length kids = kid_there w.in-Kid.field-0 (drop (n + 1) items) kids c.loop-n.number (rw here at c.loop-n.invariant.walk.fits) in
          let own = own_is c.kind-kind.result c.inner-indentation.result n c.loop-n.kept _ (Kid w.in-Kid.field-0) c.own_place-own.result c.own_place-own.ensures w.in-Kid.is in
          let kid = kid_at kids c.loop-n.number w.index-kids-number.result l (sym w.index-kids-number.is) in
          let out = ap (λ (v : Vec ℕ Global). v.items) w.out-is ∙ w.in_ok-printed-in-Kid.ensures.text in
          let printed = w.printed-is ∙ w.in_ok-printed-in-Kid.ensures.span in
          record {
            walk = walked_kid pieces c.args.out.now.items c.kind-kind.result c.word-word.result.now c.inner-indentation.result
                items kids n c.loop-n.number c.loop-n.kept c.loop-n.out.items c.loop-n.span
                c.match-item.number c.kept_next-kept.result c.match-item.out.items c.through-span.result c.own_place-own.result c.match-item.printed
                c.loop-n.invariant.walk kept c.through-span.ensures w.in-Kid.field-0 w.index-kids-number.result here own kid printed w.number-is out;
            marking = λ asked. marked_kid c.args.tree.now c.args.place c.args.out.now.items c.args.spans.now.items c.kind-kind.result c.word-word.result.now c.inner-indentation.result
                items kids n c.loop-n.number c.loop-n.kept c.loop-n.out.items c.loop-n.spans.items
                c.match-item.number c.kept_next-kept.result c.match-item.out.items c.match-item.spans.items c.own_place-own.result c.match-item.printed
                (c.loop-n.invariant.marking asked) kept w.in-Kid.field-0 w.index-kids-number.result here own kid printed w.number-is out
                (rw (ap (λ (v : Vec (Option Span) Global). v.items) w.spans-is) (w.in_ok-printed-in-Kid.ensures.spans asked));
          }
    ]
