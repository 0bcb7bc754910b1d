-- The printed text of a tree spells its symbols and its notes.
use Rattle.std.proofs.Common.{ℕ, ◌∷◌, ◌≡◌, true, List, Option, Some, None, refl, subst}
use Rattle.std.proofs.lemmas.Bool.{false≢true}
use Rattle.pc_syntax.specs.declared.kind.Kind.{Kind}
use Rattle.pc_syntax.specs.declared.item.Item.{Item}
use Rattle.pc_syntax.specs.Plain.{Forest, Nil, Cons, Plain, count, kinds}
use Rattle.pc_syntax.specs.Layout.{layout}
use Rattle.pc_syntax.specs.WellFormed.{fits, fits_some, WellFormed, IsWellFormed}
use Rattle.pc_layout.specs.Noted.{Notes}
use Rattle.pc_pretty.specs.declared.spacing.Place.{Place}
use Rattle.pc_pretty.specs.declared.spacing.Spacing.TheVariants.{Tight}
use Rattle.pc_pretty.specs.Printed.{Piece, place, next_line, arrange_some, printers, pieces, pieces_of, printed, has_pieces}
use Rattle.pc_pretty.specs.Notes.{tree_notes}
use Rattle.pc_pretty.specs.Laws.{SpelledFrom, Spelled}
use Rattle.pc_pretty.proofs.Tidy.{is_blank, is_loose}
use Rattle.pc_pretty.proofs.Arranged.{Fine, AllFine, node_fine, noted_there}
use Rattle.pc_pretty.proofs.Laid.{laid_passes}
use Rattle.pc_pretty.proofs.Spelling.{pieces_spelled}
use Rattle.pc_pretty.proofs.PieceSymbols.{syms_of-pieces}

laid : (o : Option (List Item)) (ks : List Kind) → fits_some o ks ≡ true → (items : List Item) × (o ≡ Some items) × (fits items ks ≡ true)
laid None ks h = absurd (false≢true h)
laid (Some items) ks h = (items, refl, h)

pub all_fine : (ts : Forest) → WellFormed ts → AllFine ts
all_fine Nil h = tt
all_fine (Cons k w ns ks ts) h =
    let row : (items : List Item) × (layout k w (count ks) ≡ Some items) × (fits items (kinds ks) ≡ true) = laid (layout k w (count ks)) (kinds ks) h.0 in
    (node_fine k w ks row.0 row.1 row.2 (all_fine ks h.3) (laid_passes k w (count ks) row.0 row.1).passes (laid_passes k w (count ks) row.0 row.1).words ns h.1, all_fine ts h.4)

pub printed_spelled : (t : Plain) → IsWellFormed t → Spelled (printed t) t
unfolding printed pieces_of
printed_spelled t h =
    let ps : List Piece = pieces t.kind t.word t.notes t.kids (place Tight 0) in
    let fine : Fine (is_blank t.kind) (is_loose t.kind) None ps (tree_notes t) = (all_fine (Cons t.kind t.word t.notes t.kids Nil) h).0 (place Tight 0) None (λ y e. refl) in
    subst (λ ys. SpelledFrom (printed t) 0 ys (tree_notes t)) (syms_of-pieces t.kind t.word t.notes t.kids (place Tight 0))
    (pieces_spelled (printed t) ps (tree_notes t) None 0 fine.clean refl)

-- a node with notes has symbols
pub symbols_there : (t : Plain) (c : List ℕ) (cs : Notes) (p : Place) → IsWellFormed t → t.notes ≡ c ∷ cs → has_pieces (arrange_some t.kind (layout t.kind t.word (count t.kids)) t.word (printers t.kids) (next_line p)) ≡ true
symbols_there t c cs p h e =
    let k : Kind = t.kind in
    let row : (items : List Item) × (layout k t.word (count t.kids) ≡ Some items) × (fits items (kinds t.kids) ≡ true) = laid (layout k t.word (count t.kids)) (kinds t.kids) h.0 in
    noted_there k t.word t.kids row.0 row.1 row.2 (all_fine t.kids h.3) (laid_passes k t.word (count t.kids) row.0 row.1).passes (laid_passes k t.word (count t.kids) row.0 row.1).words c cs p (rw e at h.1)
