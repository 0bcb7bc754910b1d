-- A list of accesses stands in a `with` alone.
use Rattle.std.specs.Prelude.{ℕ, zero, suc, ◌≡◌, Bool, true, false, not, ◌||◌, List, Some, slice_get}
use Rattle.std.proofs.Common.{refl, ap, sym, ◌∙◌, true≢false}
use Rattle.pc_syntax.specs.declared.kind.Kind.{Kind}
use Rattle.pc_syntax.specs.declared.kind.Kind.TheVariants as kind
use Rattle.pc_syntax.specs.declared.class.Class.{Class}
use Rattle.pc_syntax.specs.declared.class.Class.TheVariants as class
use Rattle.pc_syntax.specs.Classes.{has, is_accesses}
use Rattle.pc_syntax.specs.Layout.{layout}
use Rattle.pc_syntax.specs.Plain.{Forest, Nil, Cons, Plain, count, kinds, trees_of}
use Rattle.pc_syntax.specs.Slots.{places_of}
use Rattle.pc_syntax.specs.WellFormed.{fits_some}
use Rattle.pc_needs.proofs.BodyKinds.{either-way, Passes, all_classes, row-passes, node-takes}

-- ---- a list of accesses stands in a `with` alone

abbrev not_accesses : Kind → Bool
not_accesses k = not (is_accesses k)

abbrev is_other_class : Class → Bool
is_other_class class.Accesses = false
is_other_class c = true

accesses-alone : (c : Class) → (not (has c kind.Accesses) || not (is_other_class c)) ≡ true
accesses-alone class.Accesses = refl
accesses-alone _ = refl

class-other : (c : Class) (k : Kind) → is_other_class c ≡ true → has c k ≡ true → not_accesses k ≡ true
class-other c kind.Accesses e h = absurd (true≢false (sym (either-way (not (has c kind.Accesses)) (is_other_class c) (accesses-alone c) e) ∙ ap not h))
class-other c _ e h = refl

abbrev pub is_with : Kind → Bool
is_with kind.With = true
is_with k = false

kids-other : (k : Kind) → (all_classes is_other_class (places_of k) || not (not (is_with k))) ≡ true
kids-other (kind.Hole s) = refl
kids-other _ = refl

not-both : (k : Kind) → not_accesses k ≡ true → is_accesses k ≡ false
not-both kind.Accesses e = absurd (true≢false (sym e))
not-both _ e = refl

passes-at : (test : Kind → Bool) (f : Forest) (i : ℕ) (y : Plain) → Passes test f → slice_get (trees_of f) i ≡ Some y → test y.kind ≡ true
passes-at test Nil i y h e = cc e
passes-at test (Cons k w ns ks ts) zero y h e =
    let same : k ≡ y.kind = cc e in
    ap test (sym same) ∙ h.0
passes-at test (Cons k w ns ks ts) (suc i) y h e = passes-at test ts i y h.1 e

pub kid-other : (k : Kind) (w : List ℕ) (f : Forest) (i : ℕ) (y : Plain) → is_with k ≡ false → fits_some (layout k w (count f)) (kinds f) ≡ true → slice_get (trees_of f) i ≡ Some y →
    is_accesses y.kind ≡ false
kid-other k w f i y n fit e =
    not-both y.kind
    (passes-at not_accesses f i y
    (row-passes not_accesses is_other_class class-other k 0 f (either-way (all_classes is_other_class (places_of k)) (not (is_with k)) (kids-other k) (ap not n)) (node-takes k w f fit)) e)
