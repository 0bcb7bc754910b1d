use Rattle.std.proofs.Common.{◌≡◌, ℕ, true, List, Some}
use Rattle.pc_syntax.specs.declared.class.Class.{Class}
use Rattle.pc_syntax.specs.Plain.{Plain}
use Rattle.pc_syntax.specs.WellFormed.{depth_of}
use Rattle.pc_lex.specs.Spells.{PlainSymbol}
use Rattle.pc_lex.specs.Views.{plain_symbols}
use Rattle.pc_layout.specs.Noted.{noted_tree}
use Rattle.pc_layout.specs.NotedLaws.{depth_of-noted, are_comments}
use Rattle.pc_parse.specs.declared.rows.Cut.{Cut}
use Rattle.pc_parse.specs.declared.reading.End.TheVariants.{Made}
use Rattle.pc_parse.specs.Answers.{Deepens}
use Rattle.pc_parse.specs.Comments.{symbol_notes}
use Rattle.pc_parse.specs.Ends.{EndsAt, IsFound}
use Rattle.pc_parse.specs.Reading.{class_of}
use Rattle.pc_parse.specs.Rows.{cut}
use Rattle.pc_parse.proofs.Loop.{lexed_proper, kept_depth}
use Rattle.pc_parse.proofs.LexedNotes.{lexed_comments}
use Rattle.pc_parse.proofs.Unnoted.{noted_read}
use Rattle.pc_parse.proofs.reading.depth_of.Goals as goal

-- notes don't make a tree deeper
deepens : (c : Class) (text : List ℕ) (ss : List PlainSymbol) (t : Plain) (k : Cut) → are_comments (symbol_notes text ss) ≡ true → IsFound c ss t → k ≡ cut t → Deepens c text ss (Some k.depth)
deepens c text ss t k comments found e =
    let same : depth_of (noted_tree t (symbol_notes text ss)) ≡ depth_of t = depth_of-noted t (symbol_notes text ss) in
    (noted_tree t (symbol_notes text ss), noted_read c text ss t comments found, rw same (kept_depth t k e))

pub run_machine-end-requires : goal.run_machine-end-requires
run_machine-end-requires c = rw c.deref.ensures.value (lexed_proper c.args.lexed.now c.requires)

pub returns-in-Made : goal.returns-in-Made
returns-in-Made c =
    let lexed = c.args.lexed.now in
    let run : EndsAt (class_of c.args.sort) (plain_symbols lexed.symbols.items) c.run_machine-end.result.taken (Made c.in-Made.cut) = rw (c.deref.ensures.value, c.in-Made.is) at c.run_machine-end.ensures.ends in
    deepens (class_of c.args.sort) lexed.text.now (plain_symbols lexed.symbols.items) run.0 c.in-Made.cut (lexed_comments lexed c.requires) run.1 run.2
