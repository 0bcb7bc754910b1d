-- The kids of lists below a denoter: their classes, and going through them one after the other.
use Rattle.std.specs.Prelude.{◌≡◌, ◌<◌, ◌+◌, ◌||◌, ℕ, Bool, true, List, [], ◌∷◌, Some, zero, suc, slice_get, take, length}
use Rattle.std.proofs.Common.{refl, ap, subst, arith}
use Rattle.std.proofs.lemmas.List.{length-take-le}
use Rattle.pc_syntax.specs.Classes.{has}
use Rattle.pc_syntax.specs.Plain.{Plain, kids_of}
use Rattle.pc_syntax.specs.Sorts.{is_hole}
use Rattle.pc_syntax.specs.WellFormed.{IsProper}
use Rattle.pc_syntax.specs.declared.class.Class.TheVariants as class
use Rattle.pc_syntax.specs.declared.kind.Kind.{Kind}
use Rattle.pc_syntax.specs.declared.kind.Kind.TheVariants as kind
use Rattle.pc_forms.specs.FormClasses.{Every}
use Rattle.pc_types.specs.declared.form.Definition.{Definition}
use Rattle.pc_denoters.specs.ArrayMakes.{indexes-kind, kids-classes}
use Rattle.pc_denoters.specs.EnumMakes.{names-kind}
use Rattle.pc_denoters.specs.RecordMakes.{fields-kind}
use Rattle.pc_denoters.specs.StructuredMakes.{IsInside}

-- what holds of each tree of a row holds of the one with a number
pub every-at : (P : Plain → Type 0) (ts : List Plain) (i : ℕ) (t : Plain) → Every P ts → slice_get ts i ≡ Some t → P t
every-at P [] i t h e = cc
every-at P (u ∷ ts) zero t h e = let same : u ≡ t = cc in subst P same h.0
every-at P (u ∷ ts) (suc i) t h e = every-at P ts i t h.1 e

-- an ordinal type is a denoter
ordinal-denoter : (k : Kind) → has class.Ordinal k ≡ true → has class.Denoter k ≡ true
ordinal-denoter kind.Tname e = refl
ordinal-denoter kind.Enum e = refl
ordinal-denoter kind.Subrange e = refl
ordinal-denoter (kind.Hole s) e = ap (λ (b : Bool). b || b) e
ordinal-denoter k e = cc

-- an index type is a denoter
pub indexes-kid : (t k : Plain) (i : ℕ) → IsProper t → has class.Indexes t.kind ≡ true → slice_get (kids_of t) i ≡ Some k → has class.Denoter k.kind ≡ true
indexes-kid t k i proper is at =
    ordinal-denoter k.kind (every-at (λ u. has class.Ordinal u.kind ≡ true) (kids_of t) i k (kids-classes t kind.Indexes proper (indexes-kind t.kind is)) at)

-- a list of fields, in a list of those
pub fields-kid : (t k : Plain) (i : ℕ) → IsProper t → has class.Fields t.kind ≡ true → slice_get (kids_of t) i ≡ Some k → has class.Field k.kind ≡ true
fields-kid t k i proper is at = every-at (λ u. has class.Field u.kind ≡ true) (kids_of t) i k (kids-classes t kind.Fields proper (fields-kind t.kind is)) at

-- a name in a list of names
pub names-kid : (t k : Plain) (i : ℕ) → IsProper t → has class.Names t.kind ≡ true → slice_get (kids_of t) i ≡ Some k → has class.Name k.kind ≡ true
names-kid t k i proper is at = every-at (λ u. has class.Name u.kind ≡ true) (kids_of t) i k (kids-classes t kind.Names proper (names-kind t.kind is)) at

-- in the place of a name that is none stands a hole
pub name-is-hole : (k : Kind) → has class.Name k ≡ true → (k ≡ kind.Name → ⊥) → is_hole k ≡ true
name-is-hole kind.Name e isnt = absurd (isnt refl)
name-is-hole (kind.Hole s) e isnt = refl
name-is-hole k e isnt = cc

-- the number of the next kid
pub next-number : {X : Type 0} (xs : List X) (i j n : ℕ) → i < length xs → j ≡ i → n ≡ j + 1 → n ≡ 1 + length (take i xs)
next-number xs i j n less same next = let taken = length-take-le i xs (omega (arith, less)) in omega (arith, taken, same, next)

-- the definition at the next kid
pub next-inside : {X : Type 0} (here d : Definition) (xs : List X) (i j n : ℕ) → i < length xs → j ≡ i → n ≡ j + 1 → IsInside here n d → IsInside here (1 + length (take i xs)) d
next-inside here d xs i j n less same next def = subst (λ m. IsInside here m d) (next-number xs i j n less same next) def
