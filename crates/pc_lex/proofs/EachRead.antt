-- Each text spells symbols or has a first fault: what is read before either takes bytes of the text.
use Rattle.std.proofs.Common.{◌≡◌, ℕ, zero, suc, ◌+◌, ◌≤◌, List, [], ◌++◌, ◌∷◌, length, refl, arith, ◌⊎◌, inl, inr}
use Rattle.pc_lex.specs.declared.symbol.Span.{Span}
use Rattle.pc_lex.specs.declared.front.Front.{Front}
use Rattle.pc_lex.specs.declared.front.Front.TheVariants.{End, Blank, Comment, Symbol, Fault}
use Rattle.pc_lex.specs.Spells.{PlainSymbol, front_at, moved}
use Rattle.pc_lex.specs.Laws.{HasSymbols, HasFault, EachIsRead}
use Rattle.pc_lex.proofs.Reading.{HasRead, read_none, read_blank, read_note, symbol_there, read_symbol, read_all, read_fault, blank_fits, note_some, note_fits, symbol_some, symbol_fits}

-- from a place with at most so many bytes behind it the text is read to its end or to a fault
abbrev Finishes : List ℕ → ℕ → Type 0
Finishes text left = (ss : List PlainSymbol) (ns : List Span) (at : ℕ) → at ≤ length text → length text ≤ at + left → HasRead text ss ns at → HasSymbols text ⊎ HasFault text

module _ (text : List ℕ) (ss : List PlainSymbol) (ns : List Span) (at : ℕ) (within : at ≤ length text) (h : HasRead text ss ns at) where
  last_step : length text ≤ at → (f : Front) → front_at text at ≡ f → HasSymbols text ⊎ HasFault text
  last_step m End e = inl (record { symbols = ss; tail = ns; spells = read_all text ss ns at within h e })
  last_step m (Fault fault) e = inr (record { fault = moved at fault; first = read_fault text ss ns at fault h e })
  last_step m Blank e = absurd (omega (arith, blank_fits text at e))
  last_step m (Comment len) e = absurd (omega (arith, note_some text at len e, note_fits text at len e))
  last_step m (Symbol kind len) e = absurd (omega (arith, symbol_some text at len kind e, symbol_fits text at len kind e))

  step : (n : ℕ) → Finishes text n → length text ≤ at + suc n → (f : Front) → front_at text at ≡ f → HasSymbols text ⊎ HasFault text
  step n more m End e = inl (record { symbols = ss; tail = ns; spells = read_all text ss ns at within h e })
  step n more m (Fault fault) e = inr (record { fault = moved at fault; first = read_fault text ss ns at fault h e })
  step n more m Blank e = more ss ns (at + 1) (blank_fits text at e) (omega arith) (read_blank text ss ns at h e)
  step n more m (Comment len) e =
      more ss (ns ++ record { from = at; to = at + len } ∷ []) (at + len) (note_fits text at len e) (omega (arith, note_some text at len e)) (read_note text ss ns at len h e)
  step n more m (Symbol kind len) e =
      more (ss ++ symbol_there text kind ns at len ∷ []) [] (at + len) (symbol_fits text at len kind e) (omega (arith, symbol_some text at len kind e)) (read_symbol text ss ns kind at len h e)

finishes : (text : List ℕ) (left : ℕ) → Finishes text left
finishes text zero ss ns at within most h = last_step text ss ns at within h (omega arith) (front_at text at) refl
finishes text (suc n) ss ns at within most h = step text ss ns at within h n (finishes text n) most (front_at text at) refl

pub each_is_read : EachIsRead
each_is_read text = finishes text (length text) [] [] 0 (omega arith) (omega arith) (read_none text)
