-- Sizes up to a little over the limits.
use Rattle.std.proofs.Common.{◌≡◌, ℕ, zero, suc, ◌*◌, ◌≤◌, min, not, ◌||◌, nat_le, List, Some, None, refl, sym, ap, ◌∙◌, map, inl, inr, arith}
use Rattle.std.proofs.lemmas.Grind.{common_steps}
use Rattle.std.proofs.Math.Nat.{suc-mul, mul_comm, zero-mul}
use Rattle.std.proofs.lemmas.Bool.Decides.{leb_tells}
use Rattle.pc_types.specs.Shapes.{Definition, Shape}
use Rattle.pc_types.specs.Sizes.{cells, levels}
use Rattle.pc_types.specs.Table.{Place, place_of, definition_in, formed}
use Rattle.pc_types.specs.Rows.{Kept, seen, IsSized, form_cells, form_levels}
use Rattle.pc_types.specs.declared.types.Row.{Row}
use Rattle.pc_types.specs.declared.form.Form.{Form}
use Rattle.pc_types.specs.declared.form.Form.TheVariants as form

-- the sizes of a shape are those of its form
pub cells-formed : (places : List Place) (shapes : List Shape) (d : Definition) (f : Form) → cells (formed places shapes d f) ≡ form_cells shapes f
cells-formed places shapes d form.Integer = refl
cells-formed places shapes d form.Boolean = refl
cells-formed places shapes d form.Char = refl
cells-formed places shapes d form.Nil = refl
cells-formed places shapes d (form.Named ns) = refl
cells-formed places shapes d (form.Subrange h a b) = refl
cells-formed places shapes d (form.Array p i e) = refl
cells-formed places shapes d (form.Record p fs) = refl
cells-formed places shapes d (form.Set p b) = refl
cells-formed places shapes d (form.Members None) = refl
cells-formed places shapes d (form.Members (Some b)) = refl
cells-formed places shapes d (form.Text n) = refl
cells-formed places shapes d (form.Pointer j) = refl

pub levels-formed : (places : List Place) (shapes : List Shape) (d : Definition) (f : Form) → levels (formed places shapes d f) ≡ form_levels shapes f
levels-formed places shapes d form.Integer = refl
levels-formed places shapes d form.Boolean = refl
levels-formed places shapes d form.Char = refl
levels-formed places shapes d form.Nil = refl
levels-formed places shapes d (form.Named ns) = refl
levels-formed places shapes d (form.Subrange h a b) = refl
levels-formed places shapes d (form.Array p i e) = refl
levels-formed places shapes d (form.Record p fs) = refl
levels-formed places shapes d (form.Set p b) = refl
levels-formed places shapes d (form.Members None) = refl
levels-formed places shapes d (form.Members (Some b)) = refl
levels-formed places shapes d (form.Text n) = refl
levels-formed places shapes d (form.Pointer j) = refl

-- a product by a number that is not 0 is at least the other
at_least : (x y n : ℕ) → 1 ≤ x → n ≤ y → n ≤ x * y
at_least zero y n h l = absurd (omega (arith, h))
at_least (suc x) y n h l = omega (arith, suc-mul x y, l)

large-capped : (a b n : ℕ) → 1 ≤ n → n ≤ b → min (min a n * n) n ≡ min (a * b) n
large-capped zero b n h l = let e : min 0 n ≡ 0 = omega arith in rw (e, zero-mul n, zero-mul b) refl
large-capped (suc a) b n h l =
    omega (arith, at_least (min (suc a) n) n n (omega (arith, h)) (omega arith), at_least (suc a) b n (omega arith) l)

-- a product is over the limit where one of its factors is, but for a factor 0
pub times-capped : (a b n : ℕ) → 1 ≤ n → min (min a n * min b n) n ≡ min (a * b) n
times-capped a b n h = elim (leb_tells b n) [
  | inr q ↦ let e : min b n ≡ n = omega (arith, q.1) in rw e (large-capped a b n h (omega (arith, q.1)))
  | inl q ↦ elim (leb_tells a n) [
    | inl p ↦ let e : min a n ≡ a = omega (arith, p.1) in let f : min b n ≡ b = omega (arith, q.1) in rw (e, f) refl
    | inr p ↦ let e : min a n ≡ n = omega (arith, p.1) in
        rw e (ap (λ (m : ℕ). min m n) (mul_comm n (min b n)) ∙ large-capped b a n h (omega (arith, p.1)) ∙ ap (λ (m : ℕ). min m n) (mul_comm b a))
  ]
]

-- what is over the limits shows
pub over-capped : (a b : ℕ) → (not (nat_le (min a 1000001) 1000000) || not (nat_le (min b 257) 256)) ≡ (not (nat_le a 1000000) || not (nat_le b 256))
over-capped a b = grind (arith, common_steps)

pub ruleset limits = (over-capped)

-- a row made of a form has the sizes of its shape
pub sized-row : (k : Kept) (r : Row) → r.cells ≡ min (form_cells (seen k).shapes r.form) 1000001 → r.levels ≡ min (form_levels (seen k).shapes r.form) 257 → IsSized (seen k) r
sized-row k r c l = record {
  cells = c ∙ ap (λ (n : ℕ). min n 1000001) (sym (cells-formed (map place_of (seen k).domains) (seen k).shapes (definition_in (seen k).owners r.definition) r.form));
  levels = l ∙ ap (λ (n : ℕ). min n 257) (sym (levels-formed (map place_of (seen k).domains) (seen k).shapes (definition_in (seen k).owners r.definition) r.form));
}

pub ruleset sizes = (sized-row)
