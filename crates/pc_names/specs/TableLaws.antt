-- What the table has of each name after a change: lemmas.
use Rattle.std.proofs.Common.{◌≡◌, ℕ, ◌<◌, Bool, true, false, ◌&&◌, nat_eq, suc, List, [], ◌∷◌, ◌++◌, slice_get, Option, Some, None, refl, ap, sym, ◌∙◌, subst, arith, if◌then◌else◌}
use Rattle.std.proofs.lemmas.Bool.Decides.{nat_tests}
use Rattle.std.proofs.lemmas.Slice.Eq.{bytes_eq-Decides}
use Rattle.std.specs.Option.{option_map}
use Rattle.std.specs.Str.{bytes_eq}
use Rattle.pc_names.specs.declared.slot.Slot.{Slot}
use Rattle.pc_names.specs.Bindings.{empty_slot, slot_in, bound_or}
use Rattle.pc_names.specs.Chains.{AreBelow, found}
use Rattle.pc_names.specs.Numbers.{number_of, with_name, with_name_if}
use Rattle.pc_names.specs.Table.{Table, Rebinds, slot_at, slot_named, found_named}

-- ---- numbers

text-by : (b : Bool) (o : Option ℕ) (n m : List ℕ) (ms : List (List ℕ)) (i : ℕ) → bytes_eq n m ≡ b → ((j : ℕ) → o ≡ Some j → slice_get ms j ≡ Some n) →
    (if b then Some 0 else option_map suc o) ≡ Some i → slice_get (m ∷ ms) i ≡ Some n
text-by true o n m ms i same rest e =
    let z : 0 ≡ i = cc in subst (λ (k : ℕ). slice_get (m ∷ ms) k ≡ Some n) z (ap Some (sym ((bytes_eq-Decides n m).0 same)))
text-by false None n m ms i same rest e = cc
text-by false (Some j) n m ms i same rest e = let z : suc j ≡ i = cc in subst (λ (k : ℕ). slice_get (m ∷ ms) k ≡ Some n) z (rest j refl)

-- the name with the number that a name has
pub slice_get-number_of : (ms : List (List ℕ)) (n : List ℕ) (i : ℕ) → number_of ms n ≡ Some i → slice_get ms i ≡ Some n
slice_get-number_of [] n i e = cc
slice_get-number_of (m ∷ ms) n i e = text-by (bytes_eq n m) (number_of ms n) n m ms i refl (λ j is. slice_get-number_of ms n j is) e

number_of-by : (b : Bool) (o p : Option ℕ) (i : ℕ) → ((j : ℕ) → o ≡ Some j → p ≡ Some j) → (if b then Some 0 else option_map suc o) ≡ Some i → (if b then Some 0 else option_map suc p) ≡ Some i
number_of-by true o p i rest e = e
number_of-by false None p i rest e = cc
number_of-by false (Some j) p i rest e = ap (option_map suc) (rest j refl) ∙ e

number_of-append : (ms ns : List (List ℕ)) (n : List ℕ) (i : ℕ) → number_of ms n ≡ Some i → number_of (ms ++ ns) n ≡ Some i
number_of-append [] ns n i e = cc
number_of-append (m ∷ ms) ns n i e = number_of-by (bytes_eq n m) (number_of ms n) (number_of (ms ++ ns) n) i (λ j is. number_of-append ms ns n j is) e

with-if : (o : Option ℕ) (ms : List (List ℕ)) (w n : List ℕ) (i : ℕ) → number_of ms n ≡ Some i → number_of (with_name_if o ms w) n ≡ Some i
with-if (Some k) ms w n i e = e
with-if None ms w n i e = number_of-append ms (w ∷ []) n i e

-- a name keeps its number
pub number_of-with_name : (ms : List (List ℕ)) (w n : List ℕ) (i : ℕ) → number_of ms n ≡ Some i → number_of (with_name ms w) n ≡ Some i
number_of-with_name ms w n i e = with-if (number_of ms w) ms w n i e

-- names with one number are the same
pub number_of-same : (ms : List (List ℕ)) (n q : List ℕ) (i : ℕ) → number_of ms n ≡ Some i → number_of ms q ≡ Some i → n ≡ q
number_of-same ms n q i first second = let a = slice_get-number_of ms n i first in let b = slice_get-number_of ms q i second in cc

-- two names are the same where their numbers are
pub nat_eq-number_of : (ms : List (List ℕ)) (n q : List ℕ) (i j : ℕ) → number_of ms n ≡ Some i → number_of ms q ≡ Some j → nat_eq i j ≡ bytes_eq n q
nat_eq-number_of ms n q i j first second = by (bytes_eq n q) (nat_eq i j) refl refl
  where
    by : (b c : Bool) → bytes_eq n q ≡ b → nat_eq i j ≡ c → nat_eq i j ≡ bytes_eq n q
    by true true e f = f ∙ sym e
    by false false e f = f ∙ sym e
    by true false e f =
        let same : n ≡ q = (bytes_eq-Decides n q).0 e in
        let number : Some i ≡ Some j = sym first ∙ ap (number_of ms) same ∙ second in
        let equal : i ≡ j = cc in absurd (grind (arith, nat_tests))
    by false true e f =
        let equal : i ≡ j = grind (arith, nat_tests) in
        let same : n ≡ q = number_of-same ms n q i first (second ∙ ap Some (sym equal)) in
        let t : bytes_eq n q ≡ true = (bytes_eq-Decides n q).1 same in cc

-- ---- a change at a name of a block

rebound-at : (old new : Table) (block name : ℕ) (s : Slot) → Rebinds old new block name s → (n q : List ℕ) → number_of old.texts n ≡ Some name → (o : Option ℕ) →
    number_of old.texts q ≡ o → slot_at new.slots block o ≡ (if bytes_eq n q then s else slot_at old.slots block o)
rebound-at old new block name s changes n q is None at = by (bytes_eq n q) refl
  where
    by : (b : Bool) → bytes_eq n q ≡ b → empty_slot ≡ (if b then s else empty_slot)
    by false e = refl
    by true e = let same : n ≡ q = (bytes_eq-Decides n q).0 e in let number : Some name ≡ None = sym is ∙ ap (number_of old.texts) same ∙ at in cc
rebound-at old new block name s changes n q is (Some j) at =
    changes.slots block j
    ∙ ap (λ (b : Bool). if b && nat_eq name j then s else slot_in old.slots block j) (same-number block)
    ∙ ap (λ (b : Bool). if b then s else slot_in old.slots block j) (nat_eq-number_of old.texts n q name j is at)
  where
    same-number : (k : ℕ) → nat_eq k k ≡ true
    same-number k = grind (arith, nat_tests)

-- the block has this of the name from now on, and of each other name what it had
pub slot_named-Rebinds : (old new : Table) (block name : ℕ) (s : Slot) → Rebinds old new block name s → (n : List ℕ) → number_of old.texts n ≡ Some name → (q : List ℕ) →
    slot_named new block q ≡ (if bytes_eq n q then s else slot_named old block q)
slot_named-Rebinds old new block name s changes n is q =
    ap (λ (ms : List (List ℕ)). slot_at new.slots block (number_of ms q)) changes.texts
    ∙ rebound-at old new block name s changes n q is (number_of old.texts q) refl

other-at : (old new : Table) (block name : ℕ) (s : Slot) → Rebinds old new block name s → (other : ℕ) → (block ≡ other → ⊥) → (o : Option ℕ) →
    slot_at new.slots other o ≡ slot_at old.slots other o
other-at old new block name s changes other apart None = refl
other-at old new block name s changes other apart (Some j) =
    let different : nat_eq block other ≡ false = grind (arith, nat_tests) in
    changes.slots other j ∙ ap (λ (b : Bool). if b && nat_eq name j then s else slot_in old.slots other j) different

-- each other block has what it had
pub slot_named-other : (old new : Table) (block name : ℕ) (s : Slot) → Rebinds old new block name s → (other : ℕ) → (block ≡ other → ⊥) → (q : List ℕ) →
    slot_named new other q ≡ slot_named old other q
slot_named-other old new block name s changes other apart q =
    ap (λ (ms : List (List ℕ)). slot_at new.slots other (number_of ms q)) changes.texts ∙ other-at old new block name s changes other apart (number_of old.texts q)

-- ---- what is found

-- what is found for the number of a name is what is found for the name
pub found-number_of : (t : Table) (blocks : List ℕ) (n : List ℕ) (i : ℕ) → number_of t.texts n ≡ Some i → found (λ b. slot_in t.slots b i) blocks ≡ found_named t blocks n
found-number_of t [] n i is = refl
found-number_of t (b ∷ blocks) n i is =
    ap (bound_or (slot_in t.slots b i)) (found-number_of t blocks n i is)
    ∙ ap (λ (o : Option ℕ). bound_or (slot_at t.slots b o) (found_named t blocks n)) (sym is)

-- the same is found along blocks that have what they had
pub found_named-kept : (old new : Table) (block : ℕ) (blocks : List ℕ) → AreBelow block blocks →
    ((b : ℕ) → b < block → (q : List ℕ) → slot_named new b q ≡ slot_named old b q) → (q : List ℕ) → found_named new blocks q ≡ found_named old blocks q
found_named-kept old new block [] below kept q = refl
found_named-kept old new block (b ∷ blocks) below kept q =
    ap (λ (s : Slot). bound_or s (found_named new blocks q)) (kept b below.0 q)
    ∙ ap (bound_or (slot_named old b q)) (found_named-kept old new block blocks below.1 kept q)
