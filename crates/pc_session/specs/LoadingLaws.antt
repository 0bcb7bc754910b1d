-- Of the three answers to a text that is read as a tree of a class at most one is possible, and it is determined but for a misfit's number.
use Rattle.std.specs.Prelude.{◌≡◌, ℕ, ◌+◌, List}
use Rattle.std.proofs.Common.{arith, sym, ◌∙◌}
use Rattle.pc_syntax.specs.declared.class.Class.{Class}
use Rattle.pc_syntax.specs.Plain.{Plain}
use Rattle.pc_layout.specs.Noted.{notes_of}
use Rattle.pc_lex.specs.declared.error.LexError.{LexError}
use Rattle.pc_lex.specs.Laws.{Spells-unique, FirstFault-unique, Spells-faultless}
use Rattle.pc_session.specs.Loading.{IsFaulty, IsWritten, Drops, IsMisfit}

-- A text has at most one tree of a class.
abbrev pub OneWritten : Type 0
OneWritten = (c : Class) (text : List ℕ) (t u : Plain) → IsWritten c text t → IsWritten c text u → t ≡ u

-- The number of the comments that a tree doesn't keep is one.
abbrev pub OneDropped : Type 0
OneDropped = (text : List ℕ) (t : Plain) (m n : ℕ) → Drops text t m → Drops text t n → m ≡ n

-- A text has at most one first fault.
abbrev pub OneFault : Type 0
OneFault = (text : List ℕ) (e f : LexError) → IsFaulty text e → IsFaulty text f → e ≡ f

-- A text with a tree of the class is no misfit.
abbrev pub WrittenFits : Type 0
WrittenFits = (c : Class) (text : List ℕ) (t : Plain) (number : ℕ) → IsWritten c text t → ¬ IsMisfit c text number

-- A text with a tree has no fault.
abbrev pub WrittenIsFaultless : Type 0
WrittenIsFaultless = (c : Class) (text : List ℕ) (t : Plain) (e : LexError) → IsWritten c text t → ¬ IsFaulty text e

-- Neither has a misfit.
abbrev pub MisfitIsFaultless : Type 0
MisfitIsFaultless = (c : Class) (text : List ℕ) (number : ℕ) (e : LexError) → IsMisfit c text number → ¬ IsFaulty text e

pub one_written : OneWritten
one_written c text t u p q =
    let e = (Spells-unique text p.symbols q.symbols p.tail q.tail p.spells q.spells).0 in
    p.read.only u (rw e q.read.has_text)

pub one_dropped : OneDropped
one_dropped text t m n p q =
    let e = Spells-unique text p.symbols q.symbols p.tail q.tail p.spells q.spells in
    let same : m + notes_of t ≡ n + notes_of t = p.counted ∙ rw (e.0, e.1) (sym q.counted) in
    omega (arith, same)

pub one_fault : OneFault
one_fault text e f p q = FirstFault-unique text e f p.first q.first

pub written_fits : WrittenFits
written_fits c text t number p m =
    let e = (Spells-unique text p.symbols m.symbols p.tail m.tail p.spells m.spells).0 in
    m.unfit.none t (rw e at p.read.has_text.reads)

pub written_is_faultless : WrittenIsFaultless
written_is_faultless c text t e p q = Spells-faultless text p.symbols p.tail e p.spells q.first

pub misfit_is_faultless : MisfitIsFaultless
misfit_is_faultless c text number e m q = Spells-faultless text m.symbols m.tail e m.spells q.first
