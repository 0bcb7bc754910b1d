-- The entries of a list in order: lemmas.
use Rattle.std.specs.Prelude.{◌≡◌, true, false, List, [], ◌∷◌, cond, filter, if◌then◌else◌}
use Rattle.std.proofs.Common.{refl, ap, sym, ◌∙◌, arith}
use denote.Ref.{Bor}
use denote.Param.Members.{Mut}
use Rattle.std.proofs.lemmas.Fn.{always_returns_same}
use Rattle.std.proofs.lemmas.List.Sorted.{sorted_far}
use Rattle.std.specs.Fn.{Called}
use Rattle.std.specs.declared.cmp.Ordering.{Ordering}
use Rattle.std.specs.Ordering.{is_lt}
use Rattle.std.specs.List.Sorted.{IsSortedBy, IsSortedByClosure, IsStableBy, IsStableByClosure, ties}
use Rattle.pc_rules.specs.Attributes.{Entry}
use Rattle.pc_rules.specs.Errors.{put_in, in_order}
use Rattle.pc_report.specs.AscendingLaws.{IsFirst, Ascends, Ascends-far, ties-both, Ascends-unique}
use Rattle.pc_report.specs.Order.{is_before}
use Rattle.pc_report.specs.OrderLaws.{is_before-IsStrictWeakOrder}

-- what an entry that is put in leaves first
IsFirst-put_in : (x e : Entry) (fs : List Entry) → is_before e x ≡ false → IsFirst is_before x fs → IsFirst is_before x (put_in e fs)
IsFirst-put_in x e [] h first = (h, tt)
IsFirst-put_in x e (f ∷ fs) h first =
    elim (is_before f e) as (λ b. IsFirst is_before x (if b then f ∷ put_in e fs else e ∷ f ∷ fs)) [
      | true ↦ (first.0, IsFirst-put_in x e fs h first.1)
      | false ↦ (h, first)
    ]

IsFirst-under : (e f : Entry) (fs : List Entry) → is_before f e ≡ false → IsFirst is_before f fs → IsFirst is_before e fs
IsFirst-under e f [] h first = tt
IsFirst-under e f (g ∷ fs) h first = (is_before-IsStrictWeakOrder.chain g f e first.0 h, IsFirst-under e f fs h first.1)

Ascends-put_in : (e : Entry) (fs : List Entry) → Ascends is_before fs → Ascends is_before (put_in e fs)
Ascends-put_in e [] up = (tt, tt)
Ascends-put_in e (f ∷ fs) up =
    elim (is_before f e) as (λ b. is_before f e ≡ b → Ascends is_before (if b then f ∷ put_in e fs else e ∷ f ∷ fs)) [
      | true ↦ λ h. (IsFirst-put_in f e fs (is_before-IsStrictWeakOrder.one_way f e h) up.0, Ascends-put_in e fs up.1)
      | false ↦ λ h. ((h, IsFirst-under e f fs h up.0), up)
    ] refl

pub Ascends-in_order : (es : List Entry) → Ascends is_before (in_order es)
Ascends-in_order [] = tt
Ascends-in_order (e ∷ es) = Ascends-put_in e (in_order es) (Ascends-in_order es)

-- an entry is put before those that tie with it
filter-put_in : (x e : Entry) (fs : List Entry) → filter (ties is_before x) (put_in e fs) ≡ filter (ties is_before x) (e ∷ fs)
filter-put_in x e [] = refl
filter-put_in x e (f ∷ fs) =
    let more = filter-put_in x e fs in
    elim (is_before f e) as (λ b. is_before f e ≡ b → filter (ties is_before x) (if b then f ∷ put_in e fs else e ∷ f ∷ fs) ≡ filter (ties is_before x) (e ∷ f ∷ fs)) [
      | true ↦ λ h. swapped x e f fs h more
      | false ↦ λ h. refl
    ] refl
  where
    swapped : (x e f : Entry) (fs : List Entry) → is_before f e ≡ true → filter (ties is_before x) (put_in e fs) ≡ filter (ties is_before x) (e ∷ fs) →
        filter (ties is_before x) (f ∷ put_in e fs) ≡ filter (ties is_before x) (e ∷ f ∷ fs)
    swapped x e f fs h more =
        let apart = ties-both is_before is_before-IsStrictWeakOrder f e x in
        grind (arith, h, more, apart)

pub filter-in_order : (x : Entry) (es : List Entry) → filter (ties is_before x) (in_order es) ≡ filter (ties is_before x) es
filter-in_order x [] = refl
filter-in_order x (e ∷ es) =
    filter-put_in x e (in_order es) ∙ ap (λ fs. cond (ties is_before x e) (e ∷ fs) fs) (filter-in_order x es)

-- what a stable sort makes of some entries is what they are in order
pub in_order-sorted : (es fs : List Entry) → IsSortedBy is_before fs → IsStableBy is_before es fs → fs ≡ in_order es
in_order-sorted es fs up stable =
    Ascends-unique is_before is_before-IsStrictWeakOrder fs (in_order es)
    (Ascends-far is_before fs (sorted_far is_before is_before-IsStrictWeakOrder fs up)) (Ascends-in_order es) (λ x. stable x ∙ sym (filter-in_order x es))

-- what a stable sort by a comparison makes of some entries, where each call of it answers by their order
pub in_order-from_sort_by : {F : Type 0} {g : Mut F (Bor Entry × (Bor Entry × Unit {0})) Ordering} {f : F} (es fs : List Entry) →
    IsSortedByClosure g f fs → IsStableByClosure g f es fs →
    ((a : Bor Entry × (Bor Entry × Unit {0})) (r : Ordering) (f' : F) → Called g f a r f' → (is_lt r ≡ is_before a.0.now a.1.0.now) × (f' ≡ f)) → fs ≡ in_order es
in_order-from_sort_by {g = g} {f = f} es fs up stable calls =
    let compares = always_returns_same g (λ a r. is_lt r ≡ is_before a.0.now a.1.0.now) f calls in
    in_order-sorted es fs (up is_before is_before-IsStrictWeakOrder compares) (stable is_before is_before-IsStrictWeakOrder compares)
