use Rattle.std.proofs.Common.{◌≡◌, ◌<◌, ◌-◌, List, take, drop, length, sym, ◌∙◌, map, arith}
use Rattle.pc_layout.specs.Noted.{Notes}
use Rattle.pc_parse.specs.Comments.{bytes_at, notes_of_lexed}
use Rattle.pc_layout.specs.Noted as noted
use Rattle.pc_parse.proofs.LexedNotes.{lexed_noted, symbol_noted, first-at, own-first}
use Rattle.pc_parse.proofs.notes.own_notes.Goals as goal

pub notes_of-requires : goal.notes_of-requires
notes_of-requires c =
    let there : c.args.start < length c.args.lexed.now.symbols.items = omega (arith, c.requires.within, c.if-end-start.false) in
    rw (c.deref.ensures.value, c.index.ensures) (symbol_noted c.args.lexed.now.text.now c.args.lexed.now.symbols.items c.args.start c.index.result.now (lexed_noted c.args.lexed.now c.requires.lexed) there)

pub returns : goal.returns
returns c =
    let there : c.args.start < length c.args.lexed.now.symbols.items = omega (arith, c.requires.within, c.if-end-start.false) in
    let first : noted.first_notes (take (c.args.end - c.args.start) (drop c.args.start (notes_of_lexed c.args.lexed.now))) ≡ map (bytes_at c.args.lexed.now.text.now) c.index.result.now.notes.items = first-at c.args.lexed.now.text.now c.args.lexed.now.symbols.items c.args.start c.args.end c.index.result.now c.if-end-start.false there c.index.ensures in
    let notes : List Notes = take (c.args.end - c.args.start) (drop c.args.start (notes_of_lexed c.args.lexed.now)) in
    let own : noted.own_notes c.args.kind c.args.kids notes ≡ noted.first_notes notes = own-first c.args.kind c.args.kids notes (sym c.keeps_notes.ensures ∙ c.if-not-keeps_notes.false) in
    let all = own ∙ first in
    rw (all, ← c.deref.ensures.value) c.notes_of.ensures
