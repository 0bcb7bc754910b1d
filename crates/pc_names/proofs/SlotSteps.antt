-- What is bound, after a name or a block more.
use Rattle.std.proofs.Common.{◌≡◌, ℕ, ◌<◌, ◌≤◌, Bool, true, false, suc, List, [], ◌∷◌, ◌++◌, length, Option, Some, None, refl, ap, sym, ◌∙◌, arith, if◌then◌else◌, inl, inr, ◌⊎◌}
use Rattle.std.specs.Map.{lookup}
use Rattle.std.specs.Option.{unwrap_or, option_map}
use Rattle.std.specs.Str.{bytes_eq}
use Rattle.pc_names.specs.declared.slot.Slot.{Slot}
use Rattle.pc_names.specs.declared.bound.Bound.{Bound}
use Rattle.pc_names.specs.declared.bound.Bound.TheVariants.{Unbound}
use Rattle.pc_names.specs.declared.id.DeclarationId.{DeclarationId}
use Rattle.pc_names.specs.declared.name_class.NameClass.{NameClass}
use Rattle.pc_names.specs.Bindings.{empty_slot, is_at, slot_in, here_or, later_or, bound_or}
use Rattle.pc_names.specs.Chains.{found}
use Rattle.pc_names.specs.Numbers.{number_of, with_name, with_name_if}
use Rattle.pc_names.specs.Table.{Table, IsWithin, slot_at, slot_named}

-- ---- nothing is bound beyond the names and blocks that there are

empty-if : (o : Option Slot) → ((s : Slot) → o ≡ Some s → ⊥) → unwrap_or o empty_slot ≡ empty_slot
empty-if None none = refl
empty-if (Some s) none = absurd (none s refl)

pub slot_in-past_name : (slots : List ((ℕ × ℕ) × Slot)) (blocks names : ℕ) → IsWithin slots blocks names → (b n : ℕ) → names ≤ n → slot_in slots b n ≡ empty_slot
slot_in-past_name slots blocks names within b n past =
    empty-if (lookup (is_at b n) slots) (λ s e. let w : (b < blocks) × (n < names) = within b n s e in omega arith)

pub slot_in-past_block : (slots : List ((ℕ × ℕ) × Slot)) (blocks names : ℕ) → IsWithin slots blocks names → (b n : ℕ) → blocks ≤ b → slot_in slots b n ≡ empty_slot
slot_in-past_block slots blocks names within b n past =
    empty-if (lookup (is_at b n) slots) (λ s e. let w : (b < blocks) × (n < names) = within b n s e in omega arith)

-- ---- one more name

-- a name has the number that it had, or none or the last one where it had none
at-end : (ms : List (List ℕ)) (w n : List ℕ) → (number_of (ms ++ w ∷ []) n ≡ number_of ms n) ⊎ ((number_of ms n ≡ None) × (number_of (ms ++ w ∷ []) n ≡ Some (length ms)))
at-end [] w n = by (bytes_eq n w) None refl
  where
    by : (b : Bool) (o : Option ℕ) → o ≡ None → ((if b then Some 0 else o) ≡ o) ⊎ ((o ≡ None) × ((if b then Some 0 else o) ≡ Some 0))
    by true o is = inr (is, refl)
    by false o is = inl refl
at-end (m ∷ ms) w n = more (bytes_eq n m) (number_of ms n) (number_of (ms ++ w ∷ []) n) (length ms) (at-end ms w n)
  where
    more : (b : Bool) (o p : Option ℕ) (k : ℕ) → (p ≡ o) ⊎ ((o ≡ None) × (p ≡ Some k)) →
        ((if b then Some 0 else option_map suc p) ≡ (if b then Some 0 else option_map suc o)) ⊎
        (((if b then Some 0 else option_map suc o) ≡ None) × ((if b then Some 0 else option_map suc p) ≡ Some (suc k)))
    more true o p k h = inl refl
    more false o p k h = elim h [ inl e ↦ inl (ap (option_map suc) e) | inr e ↦ inr (ap (option_map suc) e.0, ap (option_map suc) e.1) ]

named-by : (t : Table) → IsWithin t.slots (length t.chains) (length t.texts) → (o : Option ℕ) (w : List ℕ) → number_of t.texts w ≡ o → (b : ℕ) (n : List ℕ) →
    slot_at t.slots b (number_of (with_name_if o t.texts w) n) ≡ slot_named t b n
named-by t within (Some i) w is b n = refl
named-by t within None w is b n =
    elim (at-end t.texts w n) [
      | inl e ↦ ap (slot_at t.slots b) e
      | inr e ↦ ap (slot_at t.slots b) e.1 ∙ slot_in-past_name t.slots (length t.chains) (length t.texts) within b (length t.texts) (omega arith) ∙ sym (ap (slot_at t.slots b) e.0)
    ]

-- what is bound to each name stays where one more name has a number
pub slot_named-with_name : (t : Table) → IsWithin t.slots (length t.chains) (length t.texts) → (w : List ℕ) (b : ℕ) (n : List ℕ) →
    slot_at t.slots b (number_of (with_name t.texts w) n) ≡ slot_named t b n
slot_named-with_name t within w b n = named-by t within (number_of t.texts w) w refl b n

-- ---- what is found

known-by : (k : Option DeclarationId) (c : Option NameClass) (x : Bound) → (here_or k (later_or c Unbound) ≡ Unbound → ⊥) → here_or k (later_or c x) ≡ here_or k (later_or c Unbound)
known-by (Some d) c x has = refl
known-by None (Some c) x has = refl
known-by None None x has = absurd (has refl)

-- where a block has something of a name, the blocks around don't count
pub bound_or-known : (s : Slot) (x : Bound) → (bound_or s Unbound ≡ Unbound → ⊥) → bound_or s x ≡ bound_or s Unbound
bound_or-known s x has = known-by s.known s.class x has

none-by : (k : Option DeclarationId) (c : Option NameClass) (x : Bound) → here_or k (later_or c Unbound) ≡ Unbound → here_or k (later_or c x) ≡ x
none-by (Some d) c x is = cc
none-by None (Some c) x is = cc
none-by None None x is = refl

-- where a block has nothing of a name, the blocks around decide
pub bound_or-none : (s : Slot) (x : Bound) → bound_or s Unbound ≡ Unbound → bound_or s x ≡ x
bound_or-none s x is = none-by s.known s.class x is

-- a block that has something of a name decides what is found
pub found-known : (slot : ℕ → Slot) (chain rest : List ℕ) (b : ℕ) (s : Slot) (r : Bound) → chain ≡ b ∷ rest → s ≡ slot b → r ≡ bound_or s Unbound →
    (r ≡ Unbound → ⊥) → r ≡ found slot chain
found-known slot chain rest b s r is at had known =
    had ∙ sym (bound_or-known s (found slot rest) (λ e. known (had ∙ e))) ∙ ap (λ (x : Slot). bound_or x (found slot rest)) at ∙ sym (ap (found slot) is)

-- from a block that has nothing of a name the same is found as from the blocks around it
pub found-none : (slot : ℕ → Slot) (chain rest : List ℕ) (b : ℕ) (s : Slot) (r : Bound) → chain ≡ b ∷ rest → s ≡ slot b → r ≡ bound_or s Unbound → r ≡ Unbound →
    found slot rest ≡ found slot chain
found-none slot chain rest b s r is at had none =
    sym (bound_or-none s (found slot rest) (sym had ∙ none)) ∙ ap (λ (x : Slot). bound_or x (found slot rest)) at ∙ sym (ap (found slot) is)
