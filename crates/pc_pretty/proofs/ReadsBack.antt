-- What is printed reads back as the same tree, with all its notes.
use Rattle.std.proofs.Common.{◌≡◌, ℕ, ◌<◌, ◌+◌, true, List, [], ◌∷◌, Result, Ok, Err, refl, ap, sym, subst, ◌∙◌, arith}
use Rattle.std.proofs.lemmas.List.{length-map}
use Rattle.pc_syntax.specs.declared.class.Class.{Class}
use Rattle.pc_syntax.specs.Plain.{Plain}
use Rattle.pc_syntax.specs.Classes.{has}
use Rattle.pc_syntax.specs.Symbols.{symbols_of}
use Rattle.pc_syntax.specs.WellFormed.{IsProper, IsWellFormed, depth_of, size_of, size_limit}
use Rattle.pc_lex.specs.Spells.{PlainSymbol}
use Rattle.pc_lex.specs.Views.{syms}
use Rattle.pc_lex.specs.Laws.{Spells-unique}
use Rattle.pc_layout.specs.Noted.{HasNotes, notes_of}
use Rattle.pc_parse.specs.declared.reading.Reading.{Reading}
use Rattle.pc_parse.specs.declared.error.ParseError.{ParseError}
use Rattle.pc_parse.specs.declared.error.ParseError.TheVariants.{NotFit, TooDeep, TooLarge, NoMemory}
use Rattle.pc_parse.specs.Answers.{HasText, Answered}
use Rattle.pc_parse.specs.Comments.{bytes_at, symbol_notes, comments_in}
use Rattle.pc_pretty.specs.Notes.{tree_notes}
use Rattle.pc_pretty.specs.Printed.{printed}
use Rattle.pc_pretty.specs.Laws.{Spelled, IsSame, ReadsBack}
use Rattle.pc_pretty.proofs.PrintedSpells.{printed_spelled}
use Rattle.pc_pretty.proofs.TreeNotes.{total, has_tree_notes, total-tree_notes}

-- a tree has the text, where this spells its symbols and its notes
pub has_text : (c : Class) (t : Plain) (text : List ℕ) (ss : List PlainSymbol) → IsWellFormed t → has c t.kind ≡ true → syms ss ≡ symbols_of t → symbol_notes text ss ≡ tree_notes t → HasText c text ss t
has_text c t text ss p m seen noted = record {
  reads = record { member = m; formed = p; spelled = seen };
  noted = subst (HasNotes t) (sym noted) (has_tree_notes t p);
}

-- all comments are notes of the tree
pub total-comments : (text : List ℕ) (ss : List PlainSymbol) → comments_in ss [] ≡ total (symbol_notes text ss)
unfolding comments_in
total-comments text [] = refl
total-comments text (s ∷ ss) = omega (arith, length-map s.notes (bytes_at text), total-comments text ss)

none_dropped : (t : Plain) (text : List ℕ) (ss : List PlainSymbol) (u : Plain) (dropped : ℕ) → IsWellFormed t → symbol_notes text ss ≡ tree_notes t → u ≡ t → dropped + notes_of u ≡ comments_in ss [] → dropped ≡ 0
none_dropped t text ss u dropped p noted same e =
    omega (arith, e, ap notes_of same, total-comments text ss, ap total noted, total-tree_notes t p)

module _ (c : Class) (t : Plain) (text : List ℕ) (ss : List PlainSymbol) (p : IsProper t) (m : has c t.kind ≡ true) (seen : syms ss ≡ symbols_of t) (noted : symbol_notes text ss ≡ tree_notes t) where
  answered_same : (answer : Result Reading ParseError) → Answered c text ss [] answer → IsSame t answer
  answered_same (Ok r) a =
      let same : r.tree ≡ t = a.0.only t (has_text c t text ss p.sound m seen noted) in
      (same, none_dropped t text ss r.tree r.dropped p.sound noted same a.2)
  answered_same (Err (NotFit k)) a = a.none t (has_text c t text ss p.sound m seen noted).reads
  answered_same (Err (TooDeep d)) a =
      let same : a.tree ≡ t = a.read.only t (has_text c t text ss p.sound m seen noted) in
      let deep : 256 < depth_of t = rw same at a.deep in
      omega (arith, deep, p.shallow)
  answered_same (Err (TooLarge n)) a =
      let same : a.tree ≡ t = a.read.only t (has_text c t text ss p.sound m seen noted) in
      let large : size_limit < size_of t = rw same at a.large in
      omega (arith, large, p.small)
  answered_same (Err NoMemory) a = tt

pub reads_back : (t : Plain) → IsProper t → ReadsBack (printed t) t
reads_back t p = λ c ss tail answer m h a.
    let own : Spelled (printed t) t = printed_spelled t p.sound in
    let one : (ss ≡ own.symbols) × (tail ≡ []) = Spells-unique (printed t) ss own.symbols tail [] h own.spells in
    let answered : Answered c (printed t) ss [] answer = rw one.1 at a in
    answered_same c t (printed t) ss p m (ap syms one.0 ∙ own.seen) (ap (symbol_notes (printed t)) one.0 ∙ own.noted) answer answered
