-- Pieces that keep apart: before each stand white space and comments, a symbol stands directly behind another only where
-- it may, and names, numerals and texts are written as such.
use Rattle.std.proofs.Common.{◌≡◌, ℕ, zero, suc, ◌+◌, Bool, true, false, ◌||◌, ◌==◌, List, [], ◌∷◌, ◌++◌, Option, Some, None, refl, ◌∙◌, append_assoc}
use Rattle.std.proofs.lemmas.Bool.{and_parts}
use Rattle.std.specs.List.{list_all}
use Rattle.pc_syntax.specs.declared.lexeme.Lexeme.{Lexeme}
use Rattle.pc_syntax.specs.Words.{is_comment}
use Rattle.pc_lex.specs.Proper.{IsProper}
use Rattle.pc_layout.specs.Noted.{Notes}
use Rattle.pc_pretty.specs.declared.spacing.Place.{Place}
use Rattle.pc_pretty.specs.declared.spacing.Spacing.{Spacing}
use Rattle.pc_pretty.specs.declared.spacing.Spacing.TheVariants.{Tight, Space, Line, Deeper}
use Rattle.pc_pretty.specs.Spacing.{gap, spaces}
use Rattle.pc_pretty.specs.Printed.{Piece, gap_at, next_line, note_text, led, has_pieces}
use Rattle.pc_pretty.specs.Notes.{headed}
use Rattle.pc_pretty.proofs.Apart.{apart}
use Rattle.pc_pretty.proofs.Tidy.{tight}

-- a byte of white space that is printed
abbrev pub is_white : ℕ → Bool
is_white b = b == 32 || b == 10

-- whether a symbol may stand behind the last one after so much space
abbrev pub fits_gap : List ℕ → Option Lexeme → Lexeme → Bool
fits_gap [] None y = true
fits_gap [] (Some x) y = apart x y
fits_gap (b ∷ bs) o y = true

-- bytes before a symbol: white space, and these notes
abbrev pub IsLead : Notes → List ℕ → Type 0
IsLead [] g = list_all is_white g ≡ true
IsLead (n ∷ ns) g = (before : List ℕ) × (after : List ℕ) × (g ≡ before ++ (n ++ after)) × (list_all is_white before ≡ true) × (is_comment n ≡ true) × IsLead ns after

-- clean pieces, with these notes before each symbol
abbrev pub Clean : Option Lexeme → List Piece → List Notes → Type 0
Clean o [] [] = Unit {0}
Clean o [] (ns ∷ nss) = ⊥
Clean o (p ∷ ps) [] = ⊥
Clean o (p ∷ ps) (ns ∷ nss) = IsLead ns p.gap × (fits_gap p.gap o p.sym.lexeme ≡ true) × IsProper p.sym.lexeme p.sym.spelling × Clean (Some p.sym.lexeme) ps nss

-- the last symbol after some pieces
abbrev pub last_from : Option Lexeme → List Piece → Option Lexeme
last_from o [] = o
last_from o (p ∷ ps) = last_from (Some p.sym.lexeme) ps

pub Clean-append : (o : Option Lexeme) (ps qs : List Piece) (nss mss : List Notes) → Clean o ps nss → Clean (last_from o ps) qs mss → Clean o (ps ++ qs) (nss ++ mss)
Clean-append o [] qs [] mss h g = g
Clean-append o [] qs (ns ∷ nss) mss h g = absurd h
Clean-append o (p ∷ ps) qs [] mss h g = absurd h
Clean-append o (p ∷ ps) qs (ns ∷ nss) mss h g = (h.0, h.1, h.2, Clean-append (Some p.sym.lexeme) ps qs nss mss h.3 g)

pub last_from-append : (o : Option Lexeme) (ps qs : List Piece) → last_from o (ps ++ qs) ≡ last_from (last_from o ps) qs
last_from-append o [] qs = refl
last_from-append o (p ∷ ps) qs = last_from-append (Some p.sym.lexeme) ps qs

-- every gap is white
spaces_white : (n : ℕ) → list_all is_white (spaces n) ≡ true
spaces_white zero = refl
spaces_white (suc n) = spaces_white n

pub gap_white : (s : Spacing) (i : ℕ) → list_all is_white (gap s i) ≡ true
gap_white Tight i = refl
gap_white Space i = refl
gap_white Line i = spaces_white i
gap_white Deeper i = spaces_white (i + 2)

-- notes before what stands before a symbol already
note_lead : (ns ms : Notes) (p : Place) (g : List ℕ) → list_all is_comment ns ≡ true → IsLead ms g → IsLead (ns ++ ms) (note_text ns p ++ g)
note_lead [] ms p g c h = h
note_lead (n ∷ ns) ms p g c h =
    let both : (is_comment n ≡ true) × (list_all is_comment ns ≡ true) = and_parts (is_comment n) (list_all is_comment ns) c in
    let split : (gap_at p ++ n ++ note_text ns (next_line p)) ++ g ≡ gap_at p ++ (n ++ (note_text ns (next_line p) ++ g)) =
    append_assoc (gap_at p ++ n) (note_text ns (next_line p)) g ∙ append_assoc (gap_at p) n (note_text ns (next_line p) ++ g) in
    (gap_at p, note_text ns (next_line p) ++ g, split, gap_white p.spacing p.indentation, both.0, note_lead ns ms (next_line p) g both.1 h)

-- behind a comment every symbol may stand
some_fits : (bs cs : List ℕ) (b : ℕ) (o : Option Lexeme) (y : Lexeme) → fits_gap (bs ++ b ∷ cs) o y ≡ true
some_fits [] cs b o y = refl
some_fits (c ∷ bs) cs b o y = refl

comment_fits : (before n after : List ℕ) (o : Option Lexeme) (y : Lexeme) → is_comment n ≡ true → fits_gap (before ++ (n ++ after)) o y ≡ true
unfolding is_comment
comment_fits before [] after o y h = cc
comment_fits before (b ∷ n) after o y h = some_fits before (n ++ after) b o y

lead_fits : (ns : Notes) (n g : List ℕ) (o : Option Lexeme) (y : Lexeme) → IsLead (n ∷ ns) g → fits_gap g o y ≡ true
lead_fits ns n g o y h = rw h.2 (comment_fits h.0 n h.1 o y h.4)

-- clean pieces stay clean with notes before the first of them
pub Clean-led : (o : Option Lexeme) (n : List ℕ) (ns : Notes) (p : Place) (ps : List Piece) (nss : List Notes) → list_all is_comment (n ∷ ns) ≡ true → Clean None ps nss → has_pieces ps ≡ true →
    Clean o (led (note_text (n ∷ ns) p) ps) (headed (n ∷ ns) nss)
Clean-led o n ns p [] nss c h e = cc
Clean-led o n ns p (q ∷ ps) [] c h e = absurd h
Clean-led o n ns p (q ∷ ps) (ms ∷ nss) c h e =
    let lead : IsLead ((n ∷ ns) ++ ms) (note_text (n ∷ ns) p ++ q.gap) = note_lead (n ∷ ns) ms p q.gap c h.0 in
    (lead, lead_fits (ns ++ ms) n (note_text (n ∷ ns) p ++ q.gap) o q.sym.lexeme lead, h.2, h.3)

pub last_from-led : (o : Option Lexeme) (bs : List ℕ) (ps : List Piece) → has_pieces ps ≡ true → last_from o (led bs ps) ≡ last_from None ps
last_from-led o bs [] h = cc
last_from-led o bs (p ∷ ps) h = refl

-- a gap that isn't empty fits
pub loose_fits : (s : Spacing) (i : ℕ) (o : Option Lexeme) (y : Lexeme) → tight s ≡ false → fits_gap (gap s i) o y ≡ true
loose_fits Tight i o y h = cc
loose_fits Space i o y h = refl
loose_fits Line i o y h = refl
loose_fits Deeper i o y h = refl

pub tight_fits : (s : Spacing) (i : ℕ) (x y : Lexeme) → (tight s ≡ true → apart x y ≡ true) → fits_gap (gap s i) (Some x) y ≡ true
tight_fits Tight i x y h = h refl
tight_fits Space i x y h = refl
tight_fits Line i x y h = refl
tight_fits Deeper i x y h = refl
