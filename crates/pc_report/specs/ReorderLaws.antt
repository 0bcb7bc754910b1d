-- Entries that were noted in another sequence are the same in order: lemmas.
use Rattle.std.specs.Prelude.{◌≡◌, ◌≢◌, ◌⊎◌, ℕ, true, false, List, [], ◌∷◌, ◌++◌, filter, if◌then◌else◌}
use Rattle.std.proofs.Common.{refl, ap, sym, ◌∙◌, inl, inr, arith}
use Rattle.std.proofs.lemmas.Bool.Decides.{nat_tests, eqb_tells}
use Rattle.std.proofs.lemmas.List.{append-nil}
use Rattle.std.proofs.lemmas.List.Elements.{filter-append}
use Rattle.std.specs.List.Sorted.{ties}
use Rattle.pc_rules.specs.Attributes.{Entry, at_kid}
use Rattle.pc_rules.specs.Entries.{note}
use Rattle.pc_rules.specs.Errors.{put_in, in_order, from_place}
use Rattle.pc_report.specs.AscendingLaws.{Ascends-unique}
use Rattle.pc_report.specs.InOrderLaws.{Ascends-in_order, filter-in_order}
use Rattle.pc_report.specs.Order.{is_before}
use Rattle.pc_report.specs.OrderLaws.{is_before-IsStrictWeakOrder}

-- what ties with an entry, of some entries
abbrev pub tied : Entry → List Entry → List Entry
tied x es = filter (ties is_before x) es

pub in_order-same : (es fs : List Entry) → ((x : Entry) → tied x es ≡ tied x fs) → in_order es ≡ in_order fs
in_order-same es fs same =
    Ascends-unique is_before is_before-IsStrictWeakOrder (in_order es) (in_order fs) (Ascends-in_order es) (Ascends-in_order fs)
    (λ x. filter-in_order x es ∙ same x ∙ sym (filter-in_order x fs))

tied-same : (es fs : List Entry) → in_order es ≡ in_order fs → (x : Entry) → tied x es ≡ tied x fs
tied-same es fs e x = sym (filter-in_order x es) ∙ ap (tied x) e ∙ filter-in_order x fs

tied-append : (x : Entry) (es fs : List Entry) → tied x (es ++ fs) ≡ tied x es ++ tied x fs
tied-append x es fs = filter-append (ties is_before x) es fs

-- parts that are the same in order may take each other's place
pub in_order-append : (es fs gs hs : List Entry) → in_order es ≡ in_order fs → in_order gs ≡ in_order hs → in_order (es ++ gs) ≡ in_order (fs ++ hs)
in_order-append es fs gs hs e f = in_order-same (es ++ gs) (fs ++ hs)
    (λ x. tied-append x es gs ∙ ap (λ ys. ys ++ tied x gs) (tied-same es fs e x) ∙ ap (λ ys. tied x fs ++ ys) (tied-same gs hs f x) ∙ sym (tied-append x fs hs))

-- no entry of one list has the place and the row of an entry of the other
pub record AreApart (es fs : List Entry) : Type 0 where
  pub at : (x : Entry) → (tied x es ≡ []) ⊎ (tied x fs ≡ [])

-- such lists may change their places
pub in_order-swap : (es fs : List Entry) → AreApart es fs → in_order (es ++ fs) ≡ in_order (fs ++ es)
in_order-swap es fs apart = in_order-same (es ++ fs) (fs ++ es) (λ x. tied-append x es fs ∙ swapped x (apart.at x) ∙ sym (tied-append x fs es))
  where
    swapped : (x : Entry) → (tied x es ≡ []) ⊎ (tied x fs ≡ []) → tied x es ++ tied x fs ≡ tied x fs ++ tied x es
    swapped x (inl e) = ap (λ ys. ys ++ tied x fs) e ∙ sym (append-nil (tied x fs)) ∙ ap (λ ys. tied x fs ++ ys) (sym e)
    swapped x (inr e) = ap (λ ys. tied x es ++ ys) e ∙ append-nil (tied x es) ∙ ap (λ ys. ys ++ tied x es) (sym e)

pub AreApart-sym : (es fs : List Entry) → AreApart es fs → AreApart fs es
AreApart-sym es fs apart = record { at = λ x. elim (apart.at x) [ inl e ↦ inr e | inr e ↦ inl e ] }

pub AreApart-append : (es fs gs : List Entry) → AreApart es gs → AreApart fs gs → AreApart (es ++ fs) gs
AreApart-append es fs gs a b = record { at = λ x. both x (a.at x) (b.at x) }
  where
    both : (x : Entry) → (tied x es ≡ []) ⊎ (tied x gs ≡ []) → (tied x fs ≡ []) ⊎ (tied x gs ≡ []) → (tied x (es ++ fs) ≡ []) ⊎ (tied x gs ≡ [])
    both x (inr e) c = inr e
    both x (inl e) (inr f) = inr f
    both x (inl e) (inl f) = inl (tied-append x es fs ∙ ap (λ ys. ys ++ tied x fs) e ∙ f)

-- ---- entries of different kids, and of a node and a kid

abbrev entry : List ℕ → ℕ → List ℕ → Entry
entry p row text = record { place = p; row = row; text = text }

tied-at_kid-root : (row : ℕ) (text : List ℕ) (i : ℕ) (es : List Entry) → tied (entry [] row text) (at_kid i es) ≡ []
tied-at_kid-root row text i [] = refl
tied-at_kid-root row text i (e ∷ es) = tied-at_kid-root row text i es

tied-at_kid-other : (k : ℕ) (p : List ℕ) (row : ℕ) (text : List ℕ) (i : ℕ) (es : List Entry) → k ≢ i → tied (entry (k ∷ p) row text) (at_kid i es) ≡ []
tied-at_kid-other k p row text i [] ne = refl
tied-at_kid-other k p row text i (e ∷ es) ne = let more = tied-at_kid-other k p row text i es ne in grind (arith, nat_tests, more)

pub AreApart-kids : (i j : ℕ) (es fs : List Entry) → i ≢ j → AreApart (at_kid i es) (at_kid j fs)
AreApart-kids i j es fs ne = record { at = λ x. at_place x.place x.row x.text }
  where
    at_place : (p : List ℕ) (row : ℕ) (text : List ℕ) → (tied (entry p row text) (at_kid i es) ≡ []) ⊎ (tied (entry p row text) (at_kid j fs) ≡ [])
    at_place [] row text = inl (tied-at_kid-root row text i es)
    at_place (k ∷ p) row text = elim (eqb_tells k i) [
      | inl e ↦ inr (tied-at_kid-other k p row text j fs (λ same. ne (sym e.1 ∙ same)))
      | inr e ↦ inl (tied-at_kid-other k p row text i es e.1)
    ]

pub AreApart-note : (n : ℕ) (word : List ℕ) (i : ℕ) (es : List Entry) → AreApart (note n word) (at_kid i es)
AreApart-note n word i es = record { at = λ x. at_place x.place x.row x.text }
  where
    at_place : (p : List ℕ) (row : ℕ) (text : List ℕ) → (tied (entry p row text) (note n word) ≡ []) ⊎ (tied (entry p row text) (at_kid i es) ≡ [])
    at_place [] row text = inr (tied-at_kid-root row text i es)
    at_place (k ∷ p) row text = inl refl

-- ---- entries of a kid, in order

put_in-at_kid : (i : ℕ) (e : Entry) (fs : List Entry) → put_in (record e { place = i ∷ e.place }) (at_kid i fs) ≡ at_kid i (put_in e fs)
put_in-at_kid i e [] = refl
put_in-at_kid i e (f ∷ fs) =
    let more = put_in-at_kid i e fs in
    let same = eqb_tells i i in
    elim (is_before f e) as (λ b. is_before f e ≡ b → put_in (record e { place = i ∷ e.place }) (at_kid i (f ∷ fs)) ≡ at_kid i (if b then f ∷ put_in e fs else e ∷ f ∷ fs)) [
      | true ↦ λ h. grind (arith, nat_tests, h, more)
      | false ↦ λ h. grind (arith, nat_tests, h)
    ] refl

-- the entries of a kid are put in order as those seen from it
pub in_order-at_kid : (i : ℕ) (es : List Entry) → in_order (at_kid i es) ≡ at_kid i (in_order es)
in_order-at_kid i [] = refl
in_order-at_kid i (e ∷ es) = ap (put_in (record e { place = i ∷ e.place })) (in_order-at_kid i es) ∙ put_in-at_kid i e (in_order es)

pub in_order-from_place : (p : List ℕ) (es : List Entry) → in_order (from_place p es) ≡ from_place p (in_order es)
in_order-from_place [] es = refl
in_order-from_place (i ∷ p) es = in_order-at_kid i (from_place p es) ∙ ap (at_kid i) (in_order-from_place p es)
