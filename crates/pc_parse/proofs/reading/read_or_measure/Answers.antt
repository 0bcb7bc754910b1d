use Rattle.std.proofs.Common.{◌∙◌, ap}
use Rattle.pc_layout.specs.Noted.{noted_tree}
use Rattle.pc_syntax.specs.Plain.{Nil, Cons}
use Rattle.pc_lex.specs.Views.{plain_symbols}
use Rattle.pc_parse.specs.declared.reading.End.TheVariants.{Made}
use Rattle.pc_parse.specs.Comments.{notes_of_lexed}
use Rattle.pc_parse.specs.Ends.{EndsAt}
use Rattle.pc_parse.specs.Reading.{class_of}
use Rattle.pc_parse.proofs.Loop.{lexed_proper}
use Rattle.pc_parse.proofs.LexedNotes.{lexed_comments}
use Rattle.pc_parse.proofs.Unnoted.{good_bare, told_unread, told_tree}
use Rattle.pc_parse.proofs.reading.read_or_measure.Goals as goal

pub run_machine-end-requires : goal.run_machine-end-requires
run_machine-end-requires g c = rw c.deref.ensures.value (lexed_proper c.args.lexed.now c.requires)

pub returns-in-Err-clause-answered : goal.returns-in-Err-clause-answered
returns-in-Err-clause-answered g c =
    let lexed = c.args.lexed.now in
    let run : EndsAt (class_of c.args.sort) (plain_symbols lexed.symbols.items) c.run_machine-end.result.taken (Made c.in-Made.cut) = rw (c.deref.ensures.value, c.in-Made.is) at c.run_machine-end.ensures.ends in
    told_unread (class_of c.args.sort) lexed.text.now (plain_symbols lexed.symbols.items) lexed.tail.items run.0 (lexed_comments lexed c.requires) run.1 c.in-Err.unread (c.in-Err.ensures run.0 run.2)

pub with_notes-requires-clause-bare : goal.with_notes-requires-clause-bare
with_notes-requires-clause-bare g c =
    let lexed = c.args.lexed.now in
    let run : EndsAt (class_of c.args.sort) (plain_symbols lexed.symbols.items) c.run_machine-end.result.taken (Made c.in-Made.cut) = rw (c.deref.ensures.value, c.in-Made.is) at c.run_machine-end.ensures.ends in
    let same = (c.in-Ok.ensures run.0 run.2).0 in
    rw same (good_bare (Cons run.0.kind run.0.word run.0.notes run.0.kids Nil) run.1.reads.good)

pub returns-clause-answered : goal.returns-clause-answered
returns-clause-answered g c =
    let lexed = c.args.lexed.now in
    let run : EndsAt (class_of c.args.sort) (plain_symbols lexed.symbols.items) c.run_machine-end.result.taken (Made c.in-Made.cut) = rw (c.deref.ensures.value, c.in-Made.is) at c.run_machine-end.ensures.ends in
    let told = c.in-Ok.ensures run.0 run.2 in
    let noted = c.in-Ok-with_notes.ensures in
    let read = told_tree (class_of c.args.sort) lexed.text.now (plain_symbols lexed.symbols.items) lexed.tail.items run.0 (lexed_comments lexed c.requires) run.1 c.in-Ok-with_notes.reading.tree (noted.tree ∙ ap (λ t. noted_tree t (notes_of_lexed lexed)) told.0) told.1 in
    (read.0, read.1, noted.dropped)
