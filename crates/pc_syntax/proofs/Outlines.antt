-- The outline of a tree with one kid changed, from that of the new kid.
use Rattle.std.proofs.Common.{◌≡◌, ℕ, ◌+◌, ◌-◌, ◌≤◌, Bool, true, false, ◌&&◌, not, Some, map, refl, sym, ◌∙◌, arith, slice_get}
use Rattle.std.proofs.Math.ListN.{set}
use Rattle.std.proofs.lemmas.Option.{slice_get_within, get_or_from_slice_get}
use Rattle.pc_syntax.specs.declared.outline.Outline.{Outline}
use Rattle.pc_syntax.specs.Plain.{Plain, forest_of, kids_of}
use Rattle.pc_syntax.specs.Slots.{class_from}
use Rattle.pc_syntax.specs.WellFormed.{size_of, depth_of, opens, last_open, IsProper}
use Rattle.pc_syntax.specs.Parts.{largest}
use Rattle.pc_syntax.specs.PartsLaws.{kind-node, depth_of-kids}
use Rattle.pc_syntax.specs.Fits.{takes}
use Rattle.pc_syntax.specs.Opening.{breaks_else_rule_at}
use Rattle.pc_syntax.specs.Places.{with_kid}
use Rattle.pc_syntax.specs.Outline.{IsOutline}
use Rattle.pc_syntax.proofs.Changed.{largest-set, depth_of-kid-le, size_of-kid-le, size_of-with_kid, depth_of-with_kid, is_open-with_kid, sound-with_kid, parts-with_kid}

-- how deep the tree gets
pub depth-with_kid : (p : Plain) (i : ℕ) (k : Plain) (depth : ℕ) → slice_get (kids_of p) i ≡ Some k → depth ≤ depth_of k + 257 →
    1 + largest (set (map depth_of (kids_of p)) i depth) ≤ depth_of p + 257
depth-with_kid p i k depth kid shallow =
    let l = slice_get_within (kids_of p) i k kid in
    let is = get_or_from_slice_get (kids_of p) i k k kid in
    omega (arith, largest-set (map depth_of (kids_of p)) i depth, depth_of-kids p, depth_of-kid-le p i k l k is)

-- three tests in a row
pub record AllThree (a b c all : Bool) : Type 0 where
  pub met : all ≡ true → (a ≡ true) × (b ≡ true) × (c ≡ false)
  pub unmet : all ≡ false → (a ≡ true) × (b ≡ true) × (c ≡ false) → ⊥

pub all_three : (a b c : Bool) → AllThree a b c (a && b && not c)
all_three true true true = record { met = λ e. cc; unmet = λ e h. cc (h.2) }
all_three true true false = record { met = λ e. (refl, refl, refl); unmet = λ e h. cc e }
all_three true false c = record { met = λ e. cc; unmet = λ e h. cc (h.1) }
all_three false b c = record { met = λ e. cc; unmet = λ e h. cc (h.0) }

pub not_false : (b : Bool) → not b ≡ false → b ≡ true
not_false true e = refl
not_false false e = cc

-- where the others are met, the first test isn't
decided : (fits : Bool) {X : Type 0} → (fits ≡ false → ¬ X) → (fits ≡ true → ⊥) → X → ⊥
decided true unsound not_met x = not_met refl
decided false unsound not_met x = unsound refl x

module _ (p k q : Plain) (i : ℕ) (new : Outline) (kid : slice_get (kids_of p) i ≡ Some k) (proper : IsProper p) (o : IsOutline new q) where
  pub outline-with_kid : (all : Bool) (so : Bool) (depth size : ℕ) →
      all ≡ (new.fits && takes (class_from p.kind i) new.kind && not (breaks_else_rule_at p.kind i new.is_open)) →
      so ≡ opens p.kind (last_open (forest_of (set (kids_of p) i q))) →
      depth ≡ largest (set (map depth_of (kids_of p)) i new.depth) + 1 →
      size ≡ size_of p - size_of k + new.size →
      IsOutline (record { kind = p.kind; fits = all; is_open = so; depth = depth; size = size }) (with_kid p i q)
  outline-with_kid all so depth size fits_is open_is depth_is size_is =
      let l = slice_get_within (kids_of p) i k kid in
      let is = get_or_from_slice_get (kids_of p) i k k kid in
      let tests = all_three new.fits (takes (class_from p.kind i) new.kind) (breaks_else_rule_at p.kind i new.is_open) in
      record {
        kind = sym (kind-node p.kind p.word p.notes (set (kids_of p) i q));
        sound = λ e.
            let met = tests.met (sym fits_is ∙ e) in
            sound-with_kid p i q l proper.sound (rw o.kind at met.1) (rw o.is_open at met.2) (o.sound met.0);
        unsound = λ e whole.
            let parts = parts-with_kid p i q l proper.sound whole in
            let stands : takes (class_from p.kind i) new.kind ≡ true = rw o.kind parts.0 in
            let apart : breaks_else_rule_at p.kind i new.is_open ≡ false = rw o.is_open parts.1 in
            decided new.fits (o.unsound) (λ fits. tests.unmet (sym fits_is ∙ e) (fits, stands, apart)) parts.2;
        is_open = open_is ∙ sym (is_open-with_kid p i q l);
        depth = omega (arith, rw o.depth at depth_is, depth_of-with_kid p i q l);
        size = omega (arith, size_of-with_kid p i q l k is, size_of-kid-le p i q l k is, o.size, size_is);
      }
