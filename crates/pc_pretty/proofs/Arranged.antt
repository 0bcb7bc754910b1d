-- Items that pass the test are printed cleanly, where the kids are.
use Rattle.std.proofs.Common.{◌≡◌, ℕ, zero, suc, Bool, true, false, not, ◌||◌, ◌&&◌, ◌==◌, ◌⊎◌, inl, inr, List, [], ◌∷◌, ◌++◌, Option, Some, None, refl, sym, ap, subst, ◌∙◌}
use Rattle.std.proofs.lemmas.Bool.{and_parts, or_cases, not-true, false≢true, cases_Bool}
use Rattle.std.specs.Prelude.{IsSome}
use Rattle.std.specs.List.{list_all}
use Rattle.pc_syntax.specs.declared.kind.Kind.{Kind}
use Rattle.pc_syntax.specs.declared.kind.Kind.TheVariants.{Stmts, Consts, Types, Vars}
use Rattle.pc_syntax.specs.declared.class.Class.{Class}
use Rattle.pc_syntax.specs.declared.lexeme.Lexeme.{Lexeme}
use Rattle.pc_syntax.specs.declared.lexeme.Lexeme.TheVariants as lexeme
use Rattle.pc_syntax.specs.declared.item.Item.{Item}
use Rattle.pc_syntax.specs.declared.item.Item.TheVariants.{Literal, Word, Kid}
use Rattle.pc_syntax.specs.Plain.{Forest, Nil, Cons, count, kinds}
use Rattle.pc_syntax.specs.Layout.{layout}
use Rattle.pc_syntax.specs.Classes.{has}
use Rattle.pc_syntax.specs.Sorts.{bears_notes}
use Rattle.pc_syntax.specs.Slots.{is_list}
use Rattle.pc_syntax.specs.Words.{is_comment}
use Rattle.pc_syntax.specs.WellFormed.{fits, takes_notes}
use Rattle.pc_lex.specs.Proper.{IsProper}
use Rattle.pc_layout.specs.Noted.{Notes}
use Rattle.pc_pretty.specs.declared.spacing.Spacing.{Spacing}
use Rattle.pc_pretty.specs.declared.spacing.Place.{Place}
use Rattle.pc_pretty.specs.Spacing.{space}
use Rattle.pc_pretty.specs.Printed.{Piece, place, gap_at, next_line, note_text, led, or_own, kept_after, inner, Printer, arrange, arrange_some, printers, pieces, has_pieces}
use Rattle.pc_pretty.specs.Notes.{headed, fill_notes, fill_some_notes, forest_notes}
use Rattle.pc_pretty.proofs.Apart.{apart, good_first, good_last, opening, is_closing, first_byte, closing_apart, opening_apart, paren_apart, paren_first}
use Rattle.pc_pretty.proofs.Tidy.{Prev, AtStart, After, AfterKid, tight, tight_at, tight_at-ge, starts_paren, is_blank, is_loose, class_paren, class_blank, class_loose, first_ok, check, check_kid, may_end, is_fixed, after_kid, tidy, Member, member_all, kid_not_loose, kid_starts_paren, kid_not_blank}
use Rattle.pc_pretty.proofs.Clean.{fits_gap, Clean, last_from, Clean-append, last_from-append, Clean-led, last_from-led, gap_white, loose_fits, tight_fits}
use Rattle.pc_pretty.proofs.Headed.{headed-none}

-- at this place each symbol may come next that a node of the kind may begin with
abbrev pub Ready : Kind → Option Lexeme → Place → Type 0
Ready k o p = (y : Lexeme) → first_ok k y ≡ true → fits_gap (gap_at p) o y ≡ true

-- the last symbol is one behind which marks may stand, except for that of a program
abbrev pub LastGood : Bool → Option Lexeme → Type 0
LastGood loose o = (loose ≡ true) ⊎ ((x : Lexeme) × (o ≡ Some x) × (good_last x ≡ true))

-- pieces are clean with these notes before their symbols, are there unless there may be none, and end well
pub record Fine (blank loose : Bool) (o : Option Lexeme) (ps : List Piece) (nss : List Notes) : Type 0 where
  pub clean : Clean o ps nss
  pub empty : has_pieces ps ≡ false → blank ≡ true
  pub last : has_pieces ps ≡ true → LastGood loose (last_from o ps)

abbrev pub NodeFine : Kind → List ℕ → Notes → Forest → Type 0
NodeFine k w ns ks = (p : Place) (o : Option Lexeme) → Ready k o p → Fine (is_blank k) (is_loose k) o (pieces k w ns ks p) (headed ns (fill_some_notes (layout k w (count ks)) (forest_notes ks)))

abbrev pub AllFine : Forest → Type 0
AllFine Nil = Unit {0}
AllFine (Cons k w ns ks ts) = NodeFine k w ns ks × AllFine ts

-- words among items are written as such
abbrev pub Words : List Item → List ℕ → Type 0
Words [] w = Unit {0}
Words (Literal x ∷ is) w = Words is w
Words (Word x ∷ is) w = IsProper x w × Words is w
Words (Kid c ∷ is) w = Words is w

-- what is kept has space before it
abbrev Gapped : Option Place → Type 0
Gapped None = Unit {0}
Gapped (Some q) = tight q.spacing ≡ false

-- the last symbol and what is kept, where this was printed last of a node that stands at p behind o₀
abbrev At : Option Lexeme → Place → Prev → Option Lexeme → Option Place → Type 0
At o₀ p AtStart o kept = (o ≡ o₀) × (kept ≡ Some p)
At o₀ p (After x) o kept = (o ≡ Some x) × Gapped kept
At o₀ p AfterKid o kept = ((x : Lexeme) × (o ≡ Some x) × (good_last x ≡ true)) × Gapped kept

-- where nothing stands before an item, the test was made for that
implied : (s t b : Bool) → (s ≡ true → t ≡ true) → (not t || b) ≡ true → s ≡ true → b ≡ true
implied s true b h g e = g
implied s false b h g e = absurd (false≢true (h e))

-- a gap before an item that isn't the first
gap_fits : (k : Kind) (n i : ℕ) (it : Item) (kept : Option Place) (x y : Lexeme) → Gapped kept → (tight (space k n it) ≡ true → apart x y ≡ true) →
    fits_gap (gap_at (or_own kept (place (space k n it) i))) (Some x) y ≡ true
gap_fits k n i it None x y g h = tight_fits (space k n it) i x y h
gap_fits k n i it (Some q) x y g h = loose_fits q.spacing q.indentation (Some x) y g

own_fits : (k : Kind) (n i : ℕ) (it : Item) (y : Lexeme) (o₀ : Option Lexeme) (p : Place) (q : Prev) (o : Option Lexeme) (kept : Option Place) →
    Ready k o₀ p → At o₀ p q o kept → check k (tight_at k n it) y q ≡ true → fits_gap (gap_at (or_own kept (place (space k n it) i))) o y ≡ true
own_fits k n i it y o₀ p AtStart o kept r a c = rw (a.0, a.1) (r y c)
own_fits k n i it y o₀ p (After x) o kept r a c =
    rw a.0 (gap_fits k n i it kept x y a.1 (implied (tight (space k n it)) (tight_at k n it) (apart x y) (tight_at-ge k n it) c))
own_fits k n i it y o₀ p AfterKid o kept r a c =
    rw a.0.1 (gap_fits k n i it kept a.0.0 y a.1 (λ e. closing_apart a.0.0 y a.0.2 (implied (tight (space k n it)) (tight_at k n it) (is_closing y) (tight_at-ge k n it) c e)))

-- whatever a kind begins with is a good first symbol
first_good : (k : Kind) (y : Lexeme) → first_ok k y ≡ true → good_first y ≡ true
first_good k y h = elim (cases_Bool (starts_paren k)) [
  | inl e ↦ paren_first y (rw e at h)
  | inr e ↦ rw e at h
]

good_ok : (k : Kind) (y : Lexeme) → not (starts_paren k) ≡ true → good_first y ≡ true → first_ok k y ≡ true
good_ok k y e h = rw (not-true (starts_paren k) e) h

paren_ok : (k : Kind) (y : Lexeme) → starts_paren k ≡ true → first_ok k y ≡ true → (first_byte y == 40) ≡ true
paren_ok k y e h = rw e at h

kid_ready : (k : Kind) (n i : ℕ) (c : Class) (j : Kind) (o₀ : Option Lexeme) (p : Place) (q : Prev) (o : Option Lexeme) (kept : Option Place) →
    Ready k o₀ p → At o₀ p q o kept → check_kid k (tight_at k n (Kid c)) c q ≡ true → has c j ≡ true → Ready j o (or_own kept (place (space k n (Kid c)) i))
kid_ready k n i c j o₀ p AtStart o kept r a t h = λ y f. rw (a.0, a.1) (r y (good_ok k y t (first_good j y f)))
kid_ready k n i c j o₀ p (After x) o kept r a t h = λ y f.
    rw a.0 (gap_fits k n i (Kid c) kept x y a.1 (λ e. opening_apart x y (implied (tight (space k n (Kid c))) (tight_at k n (Kid c)) (opening x) (tight_at-ge k n (Kid c)) t e) (first_good j y f)))
kid_ready k n i c j o₀ p AfterKid o kept r a t h = λ y f.
    rw a.0.1 (gap_fits k n i (Kid c) kept a.0.0 y a.1 (λ e.
    paren_apart a.0.0 y a.0.2 (paren_ok j y (kid_starts_paren c j (implied (tight (space k n (Kid c))) (tight_at k n (Kid c)) (class_paren c) (tight_at-ge k n (Kid c)) t e) h) f)))

-- what is kept after a kid without symbols
own_gapped : (kept : Option Place) (s : Spacing) (i : ℕ) → Gapped kept → tight s ≡ false → Gapped (Some (or_own kept (place s i)))
own_gapped None s i g e = e
own_gapped (Some q) s i g e = g

kept_gapped : (k : Kind) (n i : ℕ) (c : Class) (kept : Option Place) → Gapped kept → Gapped (kept_after k kept (or_own kept (place (space k n (Kid c)) i)))
unfolding kept_after space
kept_gapped Stmts n i c kept g = own_gapped kept (space Stmts n (Kid c)) i g refl
kept_gapped _ n i c kept g = g

kept_start : (k : Kind) (n i : ℕ) (c : Class) (p : Place) → kept_after k (Some p) (or_own (Some p) (place (space k n (Kid c)) i)) ≡ Some p
unfolding kept_after
kept_start Stmts n i c p = refl
kept_start _ n i c p = refl

at_blank : (k : Kind) (n i : ℕ) (c : Class) (o₀ : Option Lexeme) (p : Place) (q : Prev) (o : Option Lexeme) (kept : Option Place) →
    At o₀ p q o kept → At o₀ p q o (kept_after k kept (or_own kept (place (space k n (Kid c)) i)))
at_blank k n i c o₀ p AtStart o kept a = (a.0, ap (λ r. kept_after k r (or_own r (place (space k n (Kid c)) i))) a.1 ∙ kept_start k n i c p)
at_blank k n i c o₀ p (After x) o kept a = (a.0, kept_gapped k n i c kept a.1)
at_blank k n i c o₀ p AfterKid o kept a = (a.0, kept_gapped k n i c kept a.1)

-- the end after more pieces
last_of_rest : (loose : Bool) (o : Option Lexeme) (r : List Piece) → (has_pieces r ≡ false → LastGood loose o) → (has_pieces r ≡ true → LastGood loose (last_from o r)) → LastGood loose (last_from o r)
last_of_rest loose o [] f g = f refl
last_of_rest loose o (p ∷ r) f g = g refl

after_good : (k : Kind) (y : Lexeme) → may_end k (After y) ≡ true → LastGood (is_loose k) (Some y)
after_good k y h = elim (or_cases (is_loose k) (good_last y) h) [ inl e ↦ inl e | inr e ↦ inr (y, refl, e) ]

kid_good : (loose kid_loose : Bool) (o : Option Lexeme) → kid_loose ≡ false → LastGood kid_loose o → (x : Lexeme) × (o ≡ Some x) × (good_last x ≡ true)
kid_good loose kid_loose o e h = elim h [ inl f ↦ absurd (false≢true (sym e ∙ f)) | inr g ↦ g ]

-- a kid's pieces, or what comes without them
kid_step : (end loose kid_blank kid_loose : Bool) (o : Option Lexeme) (without behind z : List Piece) (own rest : List Notes) → Fine kid_blank kid_loose o z own → kid_loose ≡ false →
    (kid_blank ≡ true → Fine end loose o without rest) →
    ((x : Lexeme) → last_from o z ≡ Some x → good_last x ≡ true → Fine true loose (last_from o z) behind rest) →
    Fine end loose o (elim z [ [] ↦ without | y ∷ ys ↦ (y ∷ ys) ++ behind ]) (own ++ rest)
kid_step end loose kid_blank kid_loose o without behind [] [] rest fine e f g = f (fine.empty refl)
kid_step end loose kid_blank kid_loose o without behind [] (n ∷ ns) rest fine e f g = absurd fine.clean
kid_step end loose kid_blank kid_loose o without behind (y ∷ ys) own rest fine e f g =
    let good : (x : Lexeme) × (last_from o (y ∷ ys) ≡ Some x) × (good_last x ≡ true) = kid_good loose kid_loose (last_from o (y ∷ ys)) e (fine.last refl) in
    let more : Fine true loose (last_from o (y ∷ ys)) behind rest = g good.0 good.1 good.2 in
    record {
      clean = Clean-append o (y ∷ ys) behind own rest fine.clean more.clean;
      empty = λ h. absurd (false≢true (sym h));
      last = λ h. rw (last_from-append o (y ∷ ys) behind) (last_of_rest loose (last_from o (y ∷ ys)) behind (λ s. inr good) more.last);
    }

fixed_proper : (x : Lexeme) → is_fixed x ≡ true → IsProper x []
unfolding is_fixed
fixed_proper lexeme.Identifier h = cc
fixed_proper lexeme.Numeral h = cc
fixed_proper lexeme.Text h = cc
fixed_proper _ h = refl

module _ (k : Kind) (w : List ℕ) (i : ℕ) (o₀ : Option Lexeme) (p : Place) (r : Ready k o₀ p) where
  -- a symbol of its own, and then the rest
  own_step : (n : ℕ) (it : Item) (y : Lexeme) (v : List ℕ) (kept : Option Place) (o : Option Lexeme) (q : Prev) (end : Bool) (rest : List Piece) (nss : List Notes) →
      IsProper y v → At o₀ p q o kept → check k (tight_at k n it) y q ≡ true → Fine (may_end k (After y)) (is_loose k) (Some y) rest nss →
      Fine end (is_loose k) o (record { gap = gap_at (or_own kept (place (space k n it) i)); sym = record { lexeme = y; spelling = v } } ∷ rest) ([] ∷ nss)
  own_step n it y v kept o q end rest nss pr a c f = record {
    clean = (gap_white (or_own kept (place (space k n it) i)).spacing (or_own kept (place (space k n it) i)).indentation, own_fits k n i it y o₀ p q o kept r a c, pr, f.clean);
    empty = λ h. absurd (false≢true (sym h));
    last = λ h. last_of_rest (is_loose k) (Some y) rest (λ e. after_good k y (f.empty e)) f.last;
  }

  pub arranged : (items : List Item) (ts : Forest) (n : ℕ) (kept : Option Place) (o : Option Lexeme) (ps : List Prev) (q : Prev) → Words items w → fits items (kinds ts) ≡ true → AllFine ts →
      tidy k n items ps ≡ true → Member q ps → At o₀ p q o kept → Fine (may_end k q) (is_loose k) o (arrange k n items w (printers ts) kept i) (fill_notes items (forest_notes ts))
  arranged [] ts n kept o ps q ws f af td m a = record { clean = tt; empty = λ h. member_all (may_end k) ps q td m; last = λ h. absurd (false≢true h) }
  arranged (Literal y ∷ is) ts n kept o ps q ws f af td m a =
      let t1 : (is_fixed y ≡ true) × ((list_all (check k (tight_at k n (Literal y)) y) ps && tidy k (suc n) is (After y ∷ [])) ≡ true) = and_parts _ _ td in
      let t2 : (list_all (check k (tight_at k n (Literal y)) y) ps ≡ true) × (tidy k (suc n) is (After y ∷ []) ≡ true) = and_parts _ _ t1.1 in
      own_step n (Literal y) y [] kept o q (may_end k q) (arrange k (suc n) is w (printers ts) None i) (fill_notes is (forest_notes ts)) (fixed_proper y t1.0) a (member_all (check k (tight_at k n (Literal y)) y) ps q t2.0 m)
      (arranged is ts (suc n) None (Some y) (After y ∷ []) (After y) ws f af t2.1 (inl refl) (refl, tt))
  arranged (Word y ∷ is) ts n kept o ps q ws f af td m a =
      let t2 : (list_all (check k (tight_at k n (Word y)) y) ps ≡ true) × (tidy k (suc n) is (After y ∷ []) ≡ true) = and_parts _ _ td in
      own_step n (Word y) y w kept o q (may_end k q) (arrange k (suc n) is w (printers ts) None i) (fill_notes is (forest_notes ts)) ws.0 a (member_all (check k (tight_at k n (Word y)) y) ps q t2.0 m)
      (arranged is ts (suc n) None (Some y) (After y ∷ []) (After y) ws.1 f af t2.1 (inl refl) (refl, tt))
  arranged (Kid c ∷ is) Nil n kept o ps q ws f af td m a = absurd (false≢true f)
  arranged (Kid c ∷ is) (Cons j v ns ks ts) n kept o ps q ws f af td m a =
      let own : Place = or_own kept (place (space k n (Kid c)) i) in
      let both : (has c j ≡ true) × (fits is (kinds ts) ≡ true) = and_parts _ _ f in
      let t1 : (not (class_loose c) ≡ true) × ((list_all (check_kid k (tight_at k n (Kid c)) c) ps && tidy k (suc n) is (after_kid c ps)) ≡ true) = and_parts _ _ td in
      let t2 : (list_all (check_kid k (tight_at k n (Kid c)) c) ps ≡ true) × (tidy k (suc n) is (after_kid c ps) ≡ true) = and_parts _ _ t1.1 in
      let ready : Ready j o own = kid_ready k n i c j o₀ p q o kept r a (member_all (check_kid k (tight_at k n (Kid c)) c) ps q t2.0 m) both.0 in
      kid_step (may_end k q) (is_loose k) (is_blank j) (is_loose j) o (arrange k (suc n) is w (printers ts) (kept_after k kept own) i) (arrange k (suc n) is w (printers ts) None i) (pieces j v ns ks own)
      (headed ns (fill_some_notes (layout j v (count ks)) (forest_notes ks))) (fill_notes is (forest_notes ts))
      (af.0 own o ready) (kid_not_loose c j both.0 (not-true (class_loose c) t1.0))
      (λ b. elim (cases_Bool (class_blank c)) [
        | inl e ↦ arranged is ts (suc n) (kept_after k kept own) o (after_kid c ps) q ws both.1 af.1 t2.1 (inr (rw e m)) (at_blank k n i c o₀ p q o kept a)
        | inr e ↦ absurd (kid_not_blank c j both.0 e b)
      ])
      (λ x e g. arranged is ts (suc n) None (last_from o (pieces j v ns ks own)) (after_kid c ps) AfterKid ws both.1 af.1 t2.1 (inl refl) ((x, e, g), tt))

-- where a node bears notes, each is a comment, and the node has symbols
comments : (k : Kind) (n : ℕ) (c : List ℕ) (cs : Notes) → takes_notes k n (c ∷ cs) ≡ true → list_all is_comment (c ∷ cs) ≡ true
comments k zero c cs h = (and_parts (bears_notes k && not (is_list k)) (list_all is_comment (c ∷ cs)) h).1
comments k (suc n) c cs h = (and_parts (bears_notes k) (list_all is_comment (c ∷ cs)) h).1

abbrev is_section : Kind → Bool
is_section Consts = true
is_section Types = true
is_section Vars = true
is_section _ = false

no_blank : (k : Kind) → is_section k ≡ false → bears_notes k ≡ true → is_blank k ≡ true → ⊥
unfolding is_blank
no_blank Consts s h e = cc
no_blank _ s h e = cc

no_blank_alone : (k : Kind) → (bears_notes k && not (is_list k)) ≡ true → is_blank k ≡ true → ⊥
unfolding is_blank
no_blank_alone Consts h e = cc
no_blank_alone _ h e = cc

abbrev begins_with_own : Option (List Item) → Bool
begins_with_own (Some (Literal x ∷ is)) = true
begins_with_own _ = false

begins_own : (k : Kind) (w : List ℕ) (n : ℕ) (c : List ℕ) (cs : Notes) → takes_notes k n (c ∷ cs) ≡ true → is_blank k ≡ true → IsSome (layout k w n) → begins_with_own (layout k w n) ≡ true
unfolding is_blank
begins_own Consts (b ∷ w) (suc n) c cs h e s = cc
begins_own Consts [] (suc n) c cs h e s = refl
begins_own Types (b ∷ w) (suc n) c cs h e s = cc
begins_own Types [] (suc n) c cs h e s = refl
begins_own Vars (b ∷ w) (suc n) c cs h e s = cc
begins_own Vars [] (suc n) c cs h e s = refl
begins_own k w zero c cs h e s = absurd (no_blank_alone k (and_parts (bears_notes k && not (is_list k)) (list_all is_comment (c ∷ cs)) h).0 e)
begins_own k w (suc n) c cs h e s = absurd (no_blank k refl (and_parts (bears_notes k) (list_all is_comment (c ∷ cs)) h).0 e)

own_pieces : (k : Kind) (items : List Item) (w : List ℕ) (ps : List Printer) (kept : Option Place) (i : ℕ) → begins_with_own (Some items) ≡ true → has_pieces (arrange k 0 items w ps kept i) ≡ true
own_pieces k [] w ps kept i h = cc
own_pieces k (Literal x ∷ is) w ps kept i h = refl
own_pieces k (Word x ∷ is) w ps kept i h = cc
own_pieces k (Kid c ∷ is) w ps kept i h = cc

pub led-none : (ps : List Piece) → led [] ps ≡ ps
led-none [] = refl
led-none (p ∷ ps) = refl

pub has_pieces-led : (bs : List ℕ) (ps : List Piece) → has_pieces (led bs ps) ≡ has_pieces ps
has_pieces-led bs [] = refl
has_pieces-led bs (p ∷ ps) = refl

-- a node with notes
noted_fine : (blank loose : Bool) (o : Option Lexeme) (n : List ℕ) (ns : Notes) (p : Place) (ps : List Piece) (nss : List Notes) → list_all is_comment (n ∷ ns) ≡ true → has_pieces ps ≡ true → Fine blank loose None ps nss →
    Fine blank loose o (led (note_text (n ∷ ns) p) ps) (headed (n ∷ ns) nss)
noted_fine blank loose o n ns p ps nss c h f = record {
  clean = Clean-led o n ns p ps nss c f.clean h;
  empty = λ e. absurd (false≢true (sym e ∙ has_pieces-led (note_text (n ∷ ns) p) ps ∙ h));
  last = λ e. rw (last_from-led o (note_text (n ∷ ns) p) ps h) (f.last h);
}

-- a node whose items pass is clean where its kids are
module _ (k : Kind) (w : List ℕ) (ks : Forest) (items : List Item) (e : layout k w (count ks) ≡ Some items) (f : fits items (kinds ks) ≡ true) (af : AllFine ks) (td : tidy k 0 items (AtStart ∷ []) ≡ true)
    (ws : Words items w) where
  -- its symbols at a place
  own_fine : (p : Place) (o : Option Lexeme) → Ready k o p → Fine (is_blank k) (is_loose k) o (arrange_some k (layout k w (count ks)) w (printers ks) p) (fill_some_notes (layout k w (count ks)) (forest_notes ks))
  own_fine p o r =
      let P : Option (List Item) → Type 0 = λ l. Fine (is_blank k) (is_loose k) o (arrange_some k l w (printers ks) p) (fill_some_notes l (forest_notes ks)) in
      subst P (sym e) (arranged k w (inner p) o p r items ks 0 (Some p) o (AtStart ∷ []) AtStart ws f af td (inl refl) (refl, refl))

  -- it has some where it bears notes
  pub noted_there : (c : List ℕ) (cs : Notes) (p : Place) → takes_notes k (count ks) (c ∷ cs) ≡ true → has_pieces (arrange_some k (layout k w (count ks)) w (printers ks) (next_line p)) ≡ true
  noted_there c cs p n =
      let ps : List Piece = arrange_some k (layout k w (count ks)) w (printers ks) (next_line p) in
      elim (cases_Bool (has_pieces ps)) [
        | inl h ↦ h
        | inr h ↦ let own : begins_with_own (Some items) ≡ true = rw e at (begins_own k w (count ks) c cs n ((own_fine (next_line p) None (λ y g. refl)).empty h) (rw e refl)) in
            rw e (own_pieces k items w (printers ks) (Some (next_line p)) (inner p) own)
      ]

  pub node_fine : (ns : Notes) → takes_notes k (count ks) ns ≡ true → NodeFine k w ns ks
  node_fine [] n = λ p o r.
      let ps : List Piece = arrange_some k (layout k w (count ks)) w (printers ks) p in
      let nss : List Notes = fill_some_notes (layout k w (count ks)) (forest_notes ks) in
      subst (λ qs. Fine (is_blank k) (is_loose k) o qs (headed [] nss)) (sym (led-none ps)) (subst (Fine (is_blank k) (is_loose k) o ps) (sym (headed-none nss)) (own_fine p o r))
  node_fine (c ∷ cs) n = λ p o r.
      noted_fine (is_blank k) (is_loose k) o c cs p (arrange_some k (layout k w (count ks)) w (printers ks) (next_line p)) (fill_some_notes (layout k w (count ks)) (forest_notes ks))
      (comments k (count ks) c cs n) (noted_there c cs p n) (own_fine (next_line p) None (λ y g. refl))
