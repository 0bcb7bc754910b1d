-- The headings of a well-formed program: names and parameters, with the used names behind the routine's own name and before its block.
use Rattle.std.proofs.Common.{Bool, List, Some, [], ap, arith, false, if◌then◌else◌, ne_eqb, not, refl, subst, suc, sym, true, zero, ℕ, ◌&&◌, ◌+◌, ◌<◌, ◌==◌, ◌∙◌, ◌∷◌, ◌≡◌}
use Rattle.std.proofs.lemmas.Bool.{and_parts}
use Rattle.std.specs.Prelude.{slice_get}
use Rattle.pc_lookup_law.proofs.KidsLaws.{EndsInBlock, NameFirst, heading-other, heading_kind, is_whole}
use Rattle.pc_rule_laws.specs.Agreement.{Spot, spot}
use Rattle.pc_rule_laws.specs.HeadingNames.{HeadingTrees, InHeading}
use Rattle.pc_rule_laws.specs.Quiet.{asked, implied, implies, implies-true, name-nil, not-false}
use Rattle.pc_rule_laws.specs.Reached.{BehindIt, IntoIt, IsUse, ToIt, leads, spot-none}
use Rattle.pc_rule_laws.specs.Roles.{role}
use Rattle.pc_rules.specs.Attributes.{first}
use Rattle.pc_rules.specs.Decorated.{decorate}
use Rattle.pc_rules.specs.Meanings.{Local, Outside}
use Rattle.pc_rules.specs.OwnBlock.{heading_part}
use Rattle.pc_rules.specs.Places.{beside, inner, opens_records}
use Rattle.pc_rules.specs.Routines.{heading_start}
use Rattle.pc_scope.specs.Blocks.{kid_count}
use Rattle.pc_syntax.specs.Classes.{has, is_block}
use Rattle.pc_syntax.specs.Fits.{takes, takes_from}
use Rattle.pc_syntax.specs.Plain.{Cons, Forest, Nil, kinds}
use Rattle.pc_syntax.specs.Slots.{class_from, is_list, places_of}
use Rattle.pc_syntax.specs.WellFormed.{WellFormed}
use Rattle.pc_syntax.specs.declared.class.Class.{Class}
use Rattle.pc_syntax.specs.declared.class.Class.TheVariants as class
use Rattle.pc_syntax.specs.declared.kind.Kind.{Kind}
use Rattle.pc_syntax.specs.declared.kind.Kind.TheVariants as kind
use Rattle.pc_types.specs.Shapes.{Owner}

-- the classes of what stands in a heading
abbrev heading_class : Class → Bool
heading_class class.Name = true
heading_class class.Names = true
heading_class class.Parameter = true
heading_class class.Params = true
heading_class class.Heads = true
heading_class _ = false

heading-has : (c : Class) (j : Kind) → implies (heading_class c) (implies (has c j) (heading_kind j)) ≡ true
heading-has class.Name (kind.Hole s) = implies-true (has class.Name (kind.Hole s))
heading-has class.Name _ = refl
heading-has class.Names (kind.Hole s) = implies-true (has class.Names (kind.Hole s))
heading-has class.Names _ = refl
heading-has class.Parameter (kind.Hole s) = implies-true (has class.Parameter (kind.Hole s))
heading-has class.Parameter _ = refl
heading-has class.Params (kind.Hole s) = implies-true (has class.Params (kind.Hole s))
heading-has class.Params _ = refl
heading-has class.Heads (kind.Hole s) = implies-true (has class.Heads (kind.Hole s))
heading-has class.Heads _ = refl
heading-has _ j = refl

abbrev all_heading : List Class → Bool
all_heading [] = true
all_heading (c ∷ cs) = heading_class c && all_heading cs

takes-heading : (cs : List Class) (i : ℕ) (j : Kind) → all_heading cs ≡ true → takes (slice_get cs i) j ≡ true → heading_kind j ≡ true
takes-heading [] i j q e = cc e
takes-heading (c ∷ cs) zero j q e =
    implied (has c j) (heading_kind j) (implied (heading_class c) (implies (has c j) (heading_kind j)) (heading-has c j) (and_parts (heading_class c) (all_heading cs) q).0) e
takes-heading (c ∷ cs) (suc i) j q e = takes-heading cs i j (and_parts (heading_class c) (all_heading cs) q).1 e

-- trees of such kinds
abbrev pub HeadingKinds : Forest → Type 0
HeadingKinds Nil = Unit {0}
HeadingKinds (Cons k w ns ks ts) = (heading_kind k ≡ true) × HeadingKinds ts

taken-heading : (k : Kind) (i : ℕ) (ks : Forest) → all_heading (places_of k) ≡ true → takes_from k i (kinds ks) ≡ true → HeadingKinds ks
taken-heading k i Nil q e = tt
taken-heading k i (Cons j w ns ks ts) q e =
    let a = and_parts (takes (class_from k i) j) (takes_from k (suc i) (kinds ts)) e in
    (takes-heading (places_of k) (if is_list k then 0 else i) j q a.0, taken-heading k (suc i) ts q a.1)

heading-places : (k : Kind) → implies (heading_kind k) (all_heading (places_of k)) ≡ true
heading-places (kind.Hole s) = refl
heading-places _ = refl

-- what such a kind is
in-heading : (k : Kind) → heading_kind k ≡ true → InHeading (role k)
in-heading kind.Name e = tt
in-heading kind.Names e = tt
in-heading kind.Valparam e = tt
in-heading kind.Varparam e = tt
in-heading kind.Params e = tt
in-heading kind.Heads e = tt
in-heading kind.Forward e = tt
in-heading (kind.Hole s) e = tt
in-heading _ e = cc e

heading-closed : (k : Kind) → implies (heading_kind k) (not (opens_records k)) ≡ true
heading-closed (kind.Hole s) = refl
heading-closed _ = refl

pub heading-trees : (f : Forest) → WellFormed f → HeadingKinds f → HeadingTrees f
heading-trees Nil h q = tt
heading-trees (Cons k w ns ks ts) h q =
    let placed : takes_from k 0 (kinds ks) ≡ true = (asked k w ks h.0).placed in
    let below : HeadingKinds ks = taken-heading k 0 ks (implied (heading_kind k) (all_heading (places_of k)) (heading-places k) q.0) placed in (
      in-heading k q.0,
      not-false (opens_records k) (implied (heading_kind k) (not (opens_records k)) (heading-closed k) q.0),
      heading-trees ks h.3 below,
      heading-trees ts h.4 q.1,
    )

-- A heading has such trees, and its used names stand behind its first kid, and not in the kid with the number of the block.
pub record HeadingFits (f : Forest) (m : ℕ) : Type 0 where
  pub trees : HeadingTrees f
  pub used : (out : Outside) (o : Owner) (j : ℕ) (way : List ℕ) (s : Spot) → spot out (heading_start o) 1 f (j ∷ way) ≡ Some s → IsUse s → (1 < j) × ((j == m) ≡ false)

pub part-other : (k : Kind) (w : List ℕ) (ns : List (List ℕ)) (ks ts : Forest) → is_whole k ≡ false → heading_part (Cons k w ns ks ts) ≡ Cons k w ns ks (heading_part ts)
part-other kind.Block w ns ks ts e = cc e
part-other _ w ns ks ts e = refl

-- the block of a heading is bare
record BareBlock (o : Kind) (u : List ℕ) (ms : List (List ℕ)) (us : Forest) : Type 0 where
  part : heading_part (Cons o u ms us Nil) ≡ Cons o u ms Nil Nil
  trees : HeadingTrees (Cons o u ms Nil Nil)
  other : o ≡ kind.Name → ⊥

bare-block : (o : Kind) (u : List ℕ) (ms : List (List ℕ)) (us : Forest) → is_block o ≡ true → takes_from o 0 (kinds us) ≡ true → BareBlock o u ms us
bare-block kind.Block u ms us e t = record { part = refl; trees = (tt, refl, tt, tt); other = λ f. cc f }
bare-block kind.Forward u ms Nil e t = record { part = refl; trees = (tt, refl, tt, tt); other = λ f. cc f }
bare-block kind.Forward u ms (Cons k w ns ks ts) e t = cc t
bare-block (kind.Hole s) u ms Nil e t = record { part = refl; trees = (tt, refl, tt, tt); other = λ f. cc f }
bare-block (kind.Hole s) u ms (Cons k w ns ks ts) e t = cc t
bare-block _ u ms us e t = cc e

part-trees : (f : Forest) → WellFormed f → EndsInBlock f → HeadingTrees (heading_part f)
part-trees Nil h e = absurd e
part-trees (Cons k w ns ks Nil) h e =
    let b : BareBlock k w ns ks = bare-block k w ns ks e (asked k w ks h.0).placed in
    subst HeadingTrees (sym b.part) b.trees
part-trees (Cons k w ns ks (Cons j v os js ts)) h e =
    let one : HeadingTrees (Cons k w ns ks Nil) = heading-trees (Cons k w ns ks Nil) (h.0, h.1, h.2, h.3, tt) (e.0, tt) in
    subst HeadingTrees (sym (part-other k w ns ks (Cons j v os js ts) (heading-other k e.0))) (one.0, one.1, one.2, part-trees (Cons j v os js ts) h.4 e.1)

not-last : (out : Outside) (l : Local) (i n : ℕ) (f : Forest) (j : ℕ) (way : List ℕ) (s : Spot) → WellFormed f → EndsInBlock f → suc n ≡ i + kid_count f →
    spot out l i (heading_part f) (j ∷ way) ≡ Some s → IsUse s → (j == n) ≡ false
not-last out l i n Nil j way s h e c is u = absurd e
not-last out l i n (Cons k w ns ks Nil) j way s h e c is u =
    let b : BareBlock k w ns ks = bare-block k w ns ks e (asked k w ks h.0).placed in
    elim (leads out l i k w ns Nil Nil j way s (ap (λ f. spot out l i f (j ∷ way)) (sym b.part) ∙ is)) [
      | ToIt same end here kind ↦ absurd (b.other (sym kind ∙ u.kind))
      | IntoIt same m rest is apart e ↦ absurd (spot-none out (inner l k Nil) 1 Nil (m ∷ rest) s tt e)
      | BehindIt less e ↦ absurd (spot-none out (beside l k (first (decorate out l (Cons k w ns Nil Nil)))) (suc i) Nil (j ∷ way) s tt e)
    ]
not-last out l i n (Cons k w ns ks (Cons a v os js ts)) j way s h e c is u =
    let far : i < n = omega (arith, c) in
    elim (leads out l i k w ns ks (heading_part (Cons a v os js ts)) j way s (ap (λ f. spot out l i f (j ∷ way)) (sym (part-other k w ns ks (Cons a v os js ts) (heading-other k e.0))) ∙ is)) [
      | ToIt same end here kind ↦ ne_eqb j n (λ f. absurd (omega (arith, same, far, f)))
      | IntoIt same m rest is apart e ↦ ne_eqb j n (λ f. absurd (omega (arith, same, far, f)))
      | BehindIt less x ↦ not-last out (beside l k (first (decorate out l (Cons k w ns ks Nil)))) (suc i) n (Cons a v os js ts) j way s h.4 e.1 (omega (arith, c)) x u
    ]

not-first : (out : Outside) (o : Owner) (f : Forest) (j : ℕ) (way : List ℕ) (s : Spot) → WellFormed f → NameFirst f → EndsInBlock f → spot out (heading_start o) 1 (heading_part f) (j ∷ way) ≡ Some s → IsUse s → 1 < j
not-first out o Nil j way s h n e is u = absurd n
not-first out o (Cons k w ns ks Nil) j way s h n e is u = single (bare-block k w ns ks e (asked k w ks h.0).placed) where
  single : BareBlock k w ns ks → 1 < j
  single b = elim (leads out (heading_start o) 1 k w ns Nil Nil j way s (ap (λ f. spot out (heading_start o) 1 f (j ∷ way)) (sym b.part) ∙ is)) [
    | ToIt same end here kind ↦ absurd (b.other (sym kind ∙ u.kind))
    | IntoIt same m rest is apart x ↦ absurd (spot-none out (inner (heading_start o) k Nil) 1 Nil (m ∷ rest) s tt x)
    | BehindIt less x ↦ less
  ]
not-first out o (Cons k w ns ks (Cons a v os js ts)) j way s h n e is u =
    elim (leads out (heading_start o) 1 k w ns ks (heading_part (Cons a v os js ts)) j way s (ap (λ f. spot out (heading_start o) 1 f (j ∷ way)) (sym (part-other k w ns ks (Cons a v os js ts) (heading-other k e.0))) ∙ is)) [
      | ToIt same end here kind ↦ cc (sym u.using ∙ ap (λ (x : Local). x.using) here)
      | IntoIt same m rest is apart x ↦ absurd (spot-none out (inner (heading_start o) k ks) 1 ks (m ∷ rest) s (name-nil k ks n (asked k w ks h.0).placed) x)
      | BehindIt less x ↦ less
    ]

-- so it is with the heading of each routine, and of the program
pub heading-fits : (f : Forest) → WellFormed f → NameFirst f → EndsInBlock f → HeadingFits (heading_part f) (kid_count f)
heading-fits f h n e = record {
  trees = part-trees f h e;
  used = λ out o j way s is u. (not-first out o f j way s h n e is u, not-last out (heading_start o) 1 (kid_count f) f j way s h e (one-more (kid_count f)) is u);
} where
  one-more : (n : ℕ) → suc n ≡ 1 + n
  one-more n = omega arith
