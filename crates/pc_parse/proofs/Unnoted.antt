-- A tree with notes, and the tree without them that has the same symbols.
use Rattle.std.proofs.Common.{◌≡◌, ℕ, true, List, [], length, Err, refl, ap, sym, ◌∙◌, arith}
use Rattle.pc_syntax.specs.declared.class.Class.{Class}
use Rattle.pc_syntax.specs.declared.sort.Sort.{Sort}
use Rattle.pc_syntax.specs.Plain.{Forest, Nil, Cons, Plain}
use Rattle.pc_syntax.specs.Symbols.{Sym}
use Rattle.pc_syntax.specs.WellFormed.{WellFormed, size_of, depth_of}
use Rattle.pc_lex.specs.declared.symbol.Span.{Span}
use Rattle.pc_lex.specs.Spells.{PlainSymbol}
use Rattle.pc_lex.specs.Views.{syms}
use Rattle.pc_layout.specs.Noted.{Notes, noted_tree, unnoted, notes_in, notes_of}
use Rattle.pc_layout.specs.NotedLaws.{symbols_of-noted, size_of-noted, depth_of-noted, noted_tree-again, IsWellFormed-noted, HasNotes-noted, are_comments, Bare, IsBare, unnoted-bare}
use Rattle.pc_parse.specs.Comments.{symbol_notes}
use Rattle.pc_parse.specs.Reading.{Good, ReadsBare, Reads, class_of}
use Rattle.pc_parse.specs.declared.error.Unread.{Unread}
use Rattle.pc_parse.specs.declared.error.Unread.TheVariants.{NotFit, Over, NoMemory}
use Rattle.pc_parse.specs.Answers.{IsRead, IsWithin, ReadOrMeasured}
use Rattle.pc_parse.specs.Ends.{IsFound, Tells}
use Rattle.pc_parse.proofs.Reached.{good_formed}
use Rattle.pc_parse.proofs.Complete.{unique_sort}

pub good_bare : (ts : Forest) → Good ts → Bare ts
good_bare Nil h = tt
good_bare (Cons k w ns ks ts) h = (h.2, good_bare ks h.3, good_bare ts h.4)

pub formed_good : (ts : Forest) → WellFormed ts → Bare ts → Good ts
formed_good Nil h b = tt
formed_good (Cons k w ns ks ts) h b = (h.0, h.2, b.0, formed_good ks h.3 b.1, formed_good ts h.4 b.2)

-- the tree without notes reads where the tree does
pub bare_reads : (c : Class) (t : Plain) (ys : List Sym) → Reads c t ys → ReadsBare c (unnoted t) ys
bare_reads c t ys r = record {
  member = r.member;
  good = formed_good (Cons (unnoted t).kind (unnoted t).word (unnoted t).notes (unnoted t).kids Nil) (IsWellFormed-noted t [] r.formed refl) (unnoted-bare t);
  spelled = r.spelled ∙ sym (symbols_of-noted t []);
}

-- a tree without notes reads with any comments as its notes
pub noted_reads : (c : Class) (t : Plain) (ys : List Sym) (ns : List Notes) → are_comments ns ≡ true → ReadsBare c t ys → Reads c (noted_tree t ns) ys
noted_reads c t ys ns h r = record {
  member = r.member;
  formed = IsWellFormed-noted t ns (good_formed (Cons t.kind t.word t.notes t.kids Nil) r.good) h;
  spelled = r.spelled ∙ sym (symbols_of-noted t ns);
}

-- the one tree without notes gives the one tree with those of the text
pub noted_read : (c : Class) (text : List ℕ) (ss : List PlainSymbol) (t : Plain) → are_comments (symbol_notes text ss) ≡ true → IsFound c ss t → IsRead c text ss (noted_tree t (symbol_notes text ss))
noted_read c text ss t h found =
    let ns : List Notes = symbol_notes text ss in
    record {
      has_text = record { reads = noted_reads c t (syms ss) ns h found.reads; noted = HasNotes-noted t ns };
      only = λ u has. ap (λ x. noted_tree x ns) (found.only (unnoted u) (bare_reads c u (syms ss) has.reads)) ∙ noted_tree-again u [] ns ∙ sym has.noted;
    }

-- symbols have at most one tree of a sort, notes aside
pub one_tree : (s : Sort) (t u : Plain) (ys : List Sym) → Reads (class_of s) t ys → Reads (class_of s) u ys → unnoted t ≡ unnoted u
one_tree s t u ys r q = unique_sort s (unnoted t) (unnoted u) ys (bare_reads (class_of s) t ys r) (bare_reads (class_of s) u ys q)

-- what is told of the tree without notes holds of that with notes
module _ (c : Class) (text : List ℕ) (ss : List PlainSymbol) (tail : List Span) (t : Plain) (comments : are_comments (symbol_notes text ss) ≡ true) (found : IsFound c ss t) where
  pub told_unread : (e : Unread) → Tells t (Err e) → ReadOrMeasured c text ss tail (Err e)
  told_unread (NotFit k) h = absurd h
  told_unread (Over d n) h =
      let deep : depth_of (noted_tree t (symbol_notes text ss)) ≡ depth_of t = depth_of-noted t (symbol_notes text ss) in
      let large : size_of (noted_tree t (symbol_notes text ss)) ≡ size_of t = size_of-noted t (symbol_notes text ss) in
      record { tree = noted_tree t (symbol_notes text ss); read = noted_read c text ss t comments found; over = rw (deep, large) h.0; levels = rw deep h.1; nodes = rw large h.2 }
  told_unread NoMemory h = absurd h

  pub told_tree : (u : Plain) → u ≡ noted_tree t (symbol_notes text ss) → IsWithin t → IsRead c text ss u × IsWithin u
  told_tree u e w =
      let deep : depth_of (noted_tree t (symbol_notes text ss)) ≡ depth_of t = depth_of-noted t (symbol_notes text ss) in
      let large : size_of (noted_tree t (symbol_notes text ss)) ≡ size_of t = size_of-noted t (symbol_notes text ss) in
      rw e (noted_read c text ss t comments found, record { shallow = omega (arith, deep, w.shallow); small = omega (arith, large, w.small) })

bare_notes_in : (ts : Forest) → Bare ts → notes_in ts ≡ 0
unfolding notes_in
bare_notes_in Nil b = refl
bare_notes_in (Cons k w ms ks ts) b = omega (arith, ap (λ (m : Notes). length m) b.0, bare_notes_in ks b.1, bare_notes_in ts b.2)

pub bare_notes_of : (t : Plain) → IsBare t → notes_of t ≡ 0
bare_notes_of t b = omega (arith, ap (λ (m : Notes). length m) b.0, bare_notes_in t.kids b.1)
