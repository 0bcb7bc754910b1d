use Rattle.std.proofs.Common.{arith, ◌≡◌, ◌+◌, ◌<◌, ◌≤◌, length, [], ap, ◌∙◌}
use Rattle.pc_lex.specs.declared.front.Front.TheVariants.{Symbol}
use Rattle.pc_lex.specs.Spells.{front_at}
use Rattle.pc_lex.specs.Views.{plain_symbols}
use Rattle.pc_lex.proofs.Reading.{read_none, read_blank, read_note, read_symbol, read_all, read_fault, blank_fits, note_some, note_fits, symbol_some, symbol_fits, fault_fits, plain_more}
use Rattle.pc_lex.proofs.lexing.lex.Goals as goal

pub reading-init : goal.reading-init
reading-init c = record {
  within = omega arith;
  read = rw (c.new-symbols.ensures.items, c.new-notes.ensures.items) (read_none c.args.text.now);
}

pub returns-in-End-clause-spelled : goal.returns-in-End-clause-spelled
returns-in-End-clause-spelled c =
    read_all c.args.text.now (plain_symbols c.reading.symbols.items) c.reading.notes.items c.reading.at c.reading.invariant.within c.reading.invariant.read (c.front_from.ensures ∙ c.in-End.is)

pub reading-smaller-in-Blank : goal.reading-smaller-in-Blank
reading-smaller-in-Blank c =
    let fits : c.reading.at + 1 ≤ length c.args.text.now = blank_fits c.args.text.now c.reading.at (c.front_from.ensures ∙ c.in-Blank.is) in omega arith

pub reading-preserved-in-Blank : goal.reading-preserved-in-Blank
reading-preserved-in-Blank c = record {
  within = blank_fits c.args.text.now c.reading.at (c.front_from.ensures ∙ c.in-Blank.is);
  read = read_blank c.args.text.now (plain_symbols c.reading.symbols.items) c.reading.notes.items c.reading.at c.reading.invariant.read (c.front_from.ensures ∙ c.in-Blank.is);
}

pub overflow_add-to : goal.overflow_add-to
overflow_add-to c =
    let fits : c.reading.at + c.in-Comment.len ≤ length c.args.text.now = note_fits c.args.text.now c.reading.at c.in-Comment.len (c.front_from.ensures ∙ c.in-Comment.is) in omega arith

pub reading-smaller-in-Comment : goal.reading-smaller-in-Comment
reading-smaller-in-Comment c =
    let some : 0 < c.in-Comment.len = note_some c.args.text.now c.reading.at c.in-Comment.len (c.front_from.ensures ∙ c.in-Comment.is) in
    let fits : c.reading.at + c.in-Comment.len ≤ length c.args.text.now = note_fits c.args.text.now c.reading.at c.in-Comment.len (c.front_from.ensures ∙ c.in-Comment.is) in omega arith

pub reading-preserved-in-Comment : goal.reading-preserved-in-Comment
reading-preserved-in-Comment c = record {
  within = note_fits c.args.text.now c.reading.at c.in-Comment.len (c.front_from.ensures ∙ c.in-Comment.is);
  read = rw c.in_ok-push-in-Comment.ensures.items (read_note c.args.text.now (plain_symbols c.reading.symbols.items) c.reading.notes.items c.reading.at c.in-Comment.len c.reading.invariant.read (c.front_from.ensures ∙ c.in-Comment.is));
}

pub overflow_add-to-in-Symbol : goal.overflow_add-to-in-Symbol
overflow_add-to-in-Symbol c =
    let fits : c.reading.at + c.in-Symbol.len ≤ length c.args.text.now = symbol_fits c.args.text.now c.reading.at c.in-Symbol.len c.in-Symbol.kind (c.front_from.ensures ∙ c.in-Symbol.is) in omega arith

pub reading-smaller : goal.reading-smaller
reading-smaller c =
    let some : 0 < c.in-Symbol.len = symbol_some c.args.text.now c.reading.at c.in-Symbol.len c.in-Symbol.kind (c.front_from.ensures ∙ c.in-Symbol.is) in
    let fits : c.reading.at + c.in-Symbol.len ≤ length c.args.text.now = symbol_fits c.args.text.now c.reading.at c.in-Symbol.len c.in-Symbol.kind (c.front_from.ensures ∙ c.in-Symbol.is) in omega arith

pub reading-preserved : goal.reading-preserved
reading-preserved c =
    let stands : front_at c.args.text.now c.reading.at ≡ Symbol c.in-Symbol.kind c.in-Symbol.len = c.front_from.ensures ∙ c.in-Symbol.is in
    let emptied : c.replace-before.new.dest.items ≡ [] = ap (λ v. v.items) c.replace-before.ensures.after ∙ c.new.ensures.items in
    record {
      within = symbol_fits c.args.text.now c.reading.at c.in-Symbol.len c.in-Symbol.kind stands;
      read = rw (c.in_ok-push-in-Symbol.ensures.items, plain_more c.reading.symbols.items c.symbol_from.result, c.symbol_from.ensures, c.replace-before.ensures.value, emptied)
          (read_symbol c.args.text.now (plain_symbols c.reading.symbols.items) c.reading.notes.items c.in-Symbol.kind c.reading.at c.in-Symbol.len c.reading.invariant.read stands);
    }

pub symbol_from-requires-clause-within : goal.symbol_from-requires-clause-within
symbol_from-requires-clause-within c = symbol_fits c.args.text.now c.reading.at c.in-Symbol.len c.in-Symbol.kind (c.front_from.ensures ∙ c.in-Symbol.is)

pub moved-requires : goal.moved-requires
moved-requires c =
    let fits = fault_fits c.args.text.now c.reading.at c.in-Fault.fault c.reading.invariant.within (c.front_from.ensures ∙ c.in-Fault.is) in omega arith

pub returns-in-Fault-clause-fault : goal.returns-in-Fault-clause-fault
returns-in-Fault-clause-fault c =
    λ free. rw c.moved.ensures (read_fault c.args.text.now (plain_symbols c.reading.symbols.items) c.reading.notes.items c.reading.at c.in-Fault.fault c.reading.invariant.read (c.front_from.ensures ∙ c.in-Fault.is))
