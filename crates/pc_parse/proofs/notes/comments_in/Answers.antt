use Rattle.std.proofs.Common.{◌≡◌, ◌+◌, drop, length, arith, ap, sym, ◌∙◌}
use Rattle.std.proofs.lemmas.List.{at_drop_more, at_drop_all}
use Rattle.pc_lex.specs.declared.symbol.Symbol.{Symbol}
use Rattle.pc_parse.proofs.LexedNotes.{counted, counted-is, lexed_count}
use Rattle.pc_parse.proofs.notes.comments_in.Goals as goal

pub loop-symbol-preserved : goal.loop-symbol-preserved
loop-symbol-preserved c =
    let xs = c.deref-symbol-items.result.now in
    let more : counted (drop c.loop-symbol.symbol-index xs) ≡ length c.symbol-item.result.notes.items + counted (drop (c.loop-symbol.symbol-index + 1) xs) =
    at_drop_more counted xs c.loop-symbol.symbol-index c.symbol-item.result c.loop-symbol-test.true ∙ ap (λ (x : Symbol). length x.notes.items + counted (drop (c.loop-symbol.symbol-index + 1) xs)) (sym c.symbol-item.is) in
    omega (arith, more, c.loop-symbol.invariant, c.saturating_add-count.ensures, c.len.ensures, c.symbol-item.result.notes.ok)

pub returns : goal.returns
returns c =
    let xs = c.deref-symbol-items.result.now in
    let none : counted (drop c.loop-symbol.symbol-index xs) ≡ 0 = at_drop_all counted xs c.loop-symbol.symbol-index c.loop-symbol-test.false in
    let all = ap counted c.deref-symbol-items.ensures.value in
    omega (arith, none, all, c.loop-symbol.invariant, counted-is c.args.lexed.now.symbols.items c.args.lexed.now.tail.items, lexed_count c.args.lexed.now c.requires, c.bytes_in-most.ensures, c.bytes_in-most.type_inv)
