-- A printed tree that has a sort is the one that was printed.
use Rattle.std.proofs.Common.{◌≡◌, ℕ, true, List, [], ap, sym, ◌∙◌}
use Rattle.pc_syntax.specs.declared.sort.Sort.{Sort}
use Rattle.pc_syntax.specs.Plain.{Plain}
use Rattle.pc_syntax.specs.Classes.{has}
use Rattle.pc_lex.specs.Spells.{PlainSymbol}
use Rattle.pc_lex.specs.Views.{syms}
use Rattle.pc_layout.specs.Noted.{Notes, noted_tree, unnoted}
use Rattle.pc_layout.specs.NotedLaws.{noted_tree-again}
use Rattle.pc_parse.specs.Answers.{HasText}
use Rattle.pc_parse.specs.Comments.{symbol_notes}
use Rattle.pc_parse.specs.Laws.{OneTree, SortsAreClasses}
use Rattle.pc_parse.specs.Reading.{class_of}
use Rattle.pc_pretty.specs.Laws.{Spelled}
use Rattle.pc_pretty.specs.Printed.{printed}
use Rattle.pc_pretty.specs.RoundTrip.{PrintedReadsBack}
use Rattle.pc_pretty.proofs.PrintedSpells.{printed_spelled}
use Rattle.pc_pretty.proofs.ReadsBack.{has_text, total-comments, reads_back}
use Rattle.pc_pretty.proofs.TreeNotes.{total, total-tree_notes}

-- trees that are the same without notes are the same where they have the same notes
same_notes : (t u : Plain) (ns : List Notes) → unnoted t ≡ unnoted u → t ≡ noted_tree t ns → u ≡ noted_tree u ns → t ≡ u
same_notes t u ns e f g =
    f ∙ sym (noted_tree-again t [] ns) ∙ ap (λ v. noted_tree v ns) e ∙ noted_tree-again u [] ns ∙ sym g

-- so a text has at most one tree of a sort
one_text : OneTree → (s : Sort) (text : List ℕ) (ss : List PlainSymbol) (t u : Plain) → HasText (class_of s) text ss t → HasText (class_of s) text ss u → t ≡ u
one_text one s text ss t u h g = same_notes t u (symbol_notes text ss) (one s t u (syms ss) h.reads g.reads) h.noted g.noted

pub tree_reads_back : OneTree → SortsAreClasses → PrintedReadsBack
tree_reads_back one classes s t sort formed =
    let member : has (class_of s) t.kind ≡ true = (classes s t.kind).0 sort in
    let out : Spelled (printed t) t = printed_spelled t formed in
    let own : HasText (class_of s) (printed t) out.symbols t = has_text (class_of s) t (printed t) out.symbols formed member out.seen out.noted in
    record {
      symbols = out.symbols;
      spells = out.spells;
      read = record { has_text = own; only = λ u h. one_text one s (printed t) out.symbols t u own h };
      kept = sym (total-comments (printed t) out.symbols ∙ ap total out.noted ∙ total-tree_notes t formed);
      answered = λ proper answer a. reads_back t proper (class_of s) out.symbols [] answer member out.spells a;
    }
