-- The symbols of a tree's pieces are the tree's.
use Rattle.std.proofs.Common.{◌≡◌, ℕ, suc, List, [], ◌∷◌, ◌++◌, Option, Some, None, refl, ap, ◌∙◌}
use Rattle.pc_syntax.specs.declared.kind.Kind.{Kind}
use Rattle.pc_syntax.specs.declared.item.Item.{Item}
use Rattle.pc_syntax.specs.declared.item.Item.TheVariants.{Literal, Word, Kid}
use Rattle.pc_syntax.specs.Plain.{Forest, Nil, Cons, count}
use Rattle.pc_syntax.specs.Layout.{layout}
use Rattle.pc_syntax.specs.Symbols.{Sym, fill, fill_some, texts, symbols}
use Rattle.pc_pretty.specs.declared.spacing.Place.{Place}
use Rattle.pc_pretty.specs.Spacing.{space}
use Rattle.pc_pretty.specs.Printed.{Piece, place, behind, note_text, led, or_own, kept_after, inner, arrange, arrange_some, printers, pieces, syms_of}

abbrev AllSyms : Forest → Type 0
AllSyms Nil = Unit {0}
AllSyms (Cons k w ns ks ts) = ((p : Place) → syms_of (pieces k w ns ks p) ≡ symbols k w ks) × AllSyms ts

syms_of-append : (ps qs : List Piece) → syms_of (ps ++ qs) ≡ syms_of ps ++ syms_of qs
syms_of-append [] qs = refl
syms_of-append (p ∷ ps) qs = ap (λ ys. p.sym ∷ ys) (syms_of-append ps qs)

syms_of-led : (bs : List ℕ) (ps : List Piece) → syms_of (led bs ps) ≡ syms_of ps
syms_of-led bs [] = refl
syms_of-led bs (p ∷ ps) = refl

kid_syms : (without behind z : List Piece) (t r : List Sym) → syms_of z ≡ t → syms_of without ≡ r → syms_of behind ≡ r →
    syms_of (elim z [ [] ↦ without | y ∷ ys ↦ (y ∷ ys) ++ behind ]) ≡ t ++ r
kid_syms without behind [] t r hz hw hb = hw ∙ ap (λ u. u ++ r) hz
kid_syms without behind (y ∷ ys) t r hz hw hb = syms_of-append (y ∷ ys) behind ∙ ap (λ u. u ++ syms_of behind) hz ∙ ap (λ u. t ++ u) hb

arrange_syms : (k : Kind) (n : ℕ) (items : List Item) (w : List ℕ) (ts : Forest) (kept : Option Place) (i : ℕ) → AllSyms ts → syms_of (arrange k n items w (printers ts) kept i) ≡ fill items w (texts ts)
arrange_syms k n [] w ts kept i h = refl
arrange_syms k n (Literal x ∷ is) w ts kept i h = ap (λ ys. record { lexeme = x; spelling = [] } ∷ ys) (arrange_syms k (suc n) is w ts None i h)
arrange_syms k n (Word x ∷ is) w ts kept i h = ap (λ ys. record { lexeme = x; spelling = w } ∷ ys) (arrange_syms k (suc n) is w ts None i h)
arrange_syms k n (Kid c ∷ is) w Nil kept i h = refl
arrange_syms k n (Kid c ∷ is) w (Cons j v ns ks ts) kept i h =
    let own : Place = or_own kept (place (space k n (Kid c)) i) in
    kid_syms (arrange k (suc n) is w (printers ts) (kept_after k kept own) i) (arrange k (suc n) is w (printers ts) None i) (pieces j v ns ks own) (symbols j v ks) (fill is w (texts ts))
    (h.0 own) (arrange_syms k (suc n) is w ts (kept_after k kept own) i h.1) (arrange_syms k (suc n) is w ts None i h.1)

some_syms : (k : Kind) (o : Option (List Item)) (w : List ℕ) (ks : Forest) (p : Place) → AllSyms ks → syms_of (arrange_some k o w (printers ks) p) ≡ fill_some o w (texts ks)
some_syms k None w ks p h = refl
some_syms k (Some is) w ks p h = arrange_syms k 0 is w ks (Some p) (inner p) h

all_syms : (ts : Forest) → AllSyms ts
all_syms Nil = tt
all_syms (Cons k w ns ks ts) =
    (λ p. syms_of-led (note_text ns p) (arrange_some k (layout k w (count ks)) w (printers ks) (behind ns p)) ∙ some_syms k (layout k w (count ks)) w ks (behind ns p) (all_syms ks), all_syms ts)

-- the symbols of a node's pieces are the node's
pub syms_of-pieces : (k : Kind) (w : List ℕ) (ns : List (List ℕ)) (ks : Forest) (p : Place) → syms_of (pieces k w ns ks p) ≡ symbols k w ks
syms_of-pieces k w ns ks p = (all_syms (Cons k w ns ks Nil)).0 p
