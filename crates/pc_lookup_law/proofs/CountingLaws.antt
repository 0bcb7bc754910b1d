-- The routine whose heading counts for one of a list, by environment and by places.
use Rattle.std.proofs.Common.{Bool, List, None, Option, Some, [], ap, arith, eq-eqb, eqb-true, false, if◌then◌else◌, is_some, length, not, refl, subst, suc, sym, sym, true, ℕ, ◌&&◌, ◌+◌, ◌++◌, ◌-◌, ◌<◌, ◌==◌, ◌∙◌, ◌∷◌, ◌≡◌, ◌≤◌}
use Rattle.std.specs.Option.{option_map_or, option_or}
use Rattle.std.specs.Prelude.{take}
use Rattle.pc_lookup_law.proofs.ParameterLaws.{Parameters, block_number}
use Rattle.pc_rule_laws.specs.Forwards.{GivenBy}
use Rattle.pc_rule_laws.specs.Standing.{AllAre}
use Rattle.pc_rules.specs.Meanings.{Meaning}
use Rattle.pc_rules.specs.RoutineList.{Forwarded}
use Rattle.pc_scope.specs.Headings.{Heading, headings_in, pairs}
use Rattle.pc_scope.specs.Waiting.{counting, waiting_for, waits}
use Rattle.pc_syntax.specs.Plain.{Forest, Plain}

-- ---- its number

abbrev pub counted : Bool → ℕ → Option ℕ → ℕ
counted forward i o = if forward then i else option_map_or (λ (c : ℕ). c) o i

take-front : (gs hs : List Heading) → take (length gs) (gs ++ hs) ≡ gs
take-front [] [] = refl
take-front [] (h ∷ hs) = refl
take-front (g ∷ gs) hs = ap (λ z. g ∷ z) (take-front gs hs)

one-less : (n : ℕ) → suc n - 1 ≡ n
one-less n = omega arith

-- the routine behind those with the headings `gs`
pub counting-behind : (rs : Forest) (gs hs : List Heading) (h : Heading) → headings_in rs ≡ gs ++ hs → counting rs (suc (length gs)) h ≡ counted h.is_forward (suc (length gs)) (waiting_for h 1 None gs)
counting-behind rs gs hs h e = ap (λ z. counted h.is_forward (suc (length gs)) (waiting_for h 1 None z)) ((λ j. take (one-less (length gs) j) (e j)) ∙ take-front gs hs)

abbrev Below : Option ℕ → ℕ → Type 0
Below None n = Unit {0}
Below (Some c) n = c < n

waits-below : (h g : Heading) (n : ℕ) (o : Option ℕ) → Below o n → Below (waits h g n o) (suc n)
waits-below h g n o b = by (pairs h g) g.is_forward o b where
  more : (o : Option ℕ) → Below o n → Below o (suc n)
  more None b = tt
  more (Some c) b = omega (arith, b)

  by : (p f : Bool) (o : Option ℕ) → Below o n → Below (if p then (if f then option_or o (Some n) else None) else o) (suc n)
  by true true None b = omega arith
  by true true (Some c) b = omega (arith, b)
  by true false o b = tt
  by false f o b = more o b

waiting-below : (h : Heading) (n : ℕ) (o : Option ℕ) (gs : List Heading) → Below o n → Below (waiting_for h n o gs) (length gs + n)
waiting-below h n o [] b = subst (Below o) (same n) b where
  same : (m : ℕ) → m ≡ 0 + m
  same m = omega arith
waiting-below h n o (g ∷ gs) b = subst (Below (waiting_for h (suc n) (waits h g n o) gs)) (same (length gs) n) (waiting-below h (suc n) (waits h g n o) gs (waits-below h g n o b)) where
  same : (a m : ℕ) → a + suc m ≡ suc a + m
  same a m = omega arith

-- no later routine counts
pub counted-least : (h : Heading) (forward : Bool) (gs : List Heading) → counted forward (suc (length gs)) (waiting_for h 1 None gs) ≤ suc (length gs)
counted-least h forward gs = by forward (waiting_for h 1 None gs) (waiting-below h 1 None gs tt) where
  by : (f : Bool) (o : Option ℕ) → Below o (length gs + 1) → counted f (suc (length gs)) o ≤ suc (length gs)
  by true o b = omega arith
  by false None b = omega arith
  by false (Some c) b = omega (arith, b)

-- ---- its parameters

-- those of the routine that counts, from those by the own heading and those of the forward heading that waits
pub counted-parameters : (R : List (List ℕ × Meaning) → ℕ → Type 0) (forward : Bool) (x : Option Forwarded) (o : Option ℕ) (ds : List (List ℕ × Meaning)) (i : ℕ) → R ds i → GivenBy R x o →
    R (if not forward && is_some x then option_map_or (λ (f : Forwarded). f.parameters) x [] else ds) (counted forward i o)
counted-parameters R true x o ds i own g = own
counted-parameters R false None None ds i own g = own
counted-parameters R false (Some f) (Some c) ds i own g = g
counted-parameters R false None (Some c) ds i own g = absurd g
counted-parameters R false (Some f) None ds i own g = absurd g

-- they stand before the block of the routine for which they count
pub parameters-before : (t : Plain) (p : List ℕ) (rs : Forest) (ds : List (List ℕ × Meaning)) (c i : ℕ) (way : List ℕ) (h : Parameters t p rs ds c) → c ≤ i → AllAre true (p ++ i ∷ block_number i rs ∷ way) h.placed
parameters-before t p rs ds c i way h least = by (c == i) refl where
  by : (b : Bool) → (c == i) ≡ b → AllAre true (p ++ i ∷ block_number i rs ∷ way) h.placed
  by true e = subst (λ n. AllAre true (p ++ n ∷ block_number n rs ∷ way) h.placed) (eqb-true c i e) (h.own way)
  by false e =
      let apart : c ≡ i → ⊥ = λ f. cc (sym e ∙ eq-eqb c i f) in
      h.later i (block_number i rs) way (omega (arith, least, apart))
