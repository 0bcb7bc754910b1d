-- Complete declarations are declarations under the names that they are found by: lemmas.
use Rattle.std.proofs.Common.{◌≡◌, ℕ, Bool, true, false, ◌&&◌, nat_eq, ◌⊎◌, inl, inr, List, [], ◌∷◌, ◌++◌, length, slice_get, Option, Some, None, refl, ap, sym, ◌∙◌, subst, arith, if◌then◌else◌}
use Rattle.std.specs.Option.{unwrap_or}
use Rattle.std.proofs.lemmas.Bool.{and_parts}
use Rattle.std.proofs.lemmas.Bool.Decides.{nat_tests}
use Rattle.pc_names.specs.Bindings.{slot_in, completed, declared}
use Rattle.pc_names.specs.Numbers.{number_of}
use Rattle.pc_names.specs.Table.{Table, Rebinds, slot_at, slot_named}
use Rattle.pc_names.specs.TableLaws.{slice_get-number_of}
use Rattle.pc_names.specs.declared.id.DeclarationId.{DeclarationId}
use Rattle.pc_names.specs.declared.slot.Slot.{Slot}
use Rattle.pc_facts.specs.declared.sighting.Declared.{Declared}
use Rattle.pc_growth.specs.Grows.{Begins}
use Rattle.pc_growth.specs.GrowsLaws.{Begins-same, slice_get-begins}
use Rattle.pc_places.specs.declared.tables.Tables.{Tables}
use Rattle.pc_places.specs.Places.{HasName, IsUnder, IsNamed, Keeps, Rebound}

pub IsUnder-begins : (ns ms : List (List ℕ)) (ds es : List Declared) (n : List ℕ) (d : ℕ) → Begins ns ms → Begins ds es → IsUnder ns ds n d → IsUnder ms es n d
IsUnder-begins ns ms ds es n d names declarations h = (h.0, slice_get-begins ds es d h.0 declarations h.1, slice_get-begins ns ms h.0.name.0 n names h.2)

-- where each block has what it had
pub Keeps-named : (old new : Tables) → Keeps old new → IsNamed old.names old.declarations.items → IsNamed new.names new.declarations.items
Keeps-named old new h named = λ b n d is.
    IsUnder-begins old.names.texts new.names.texts old.declarations.items new.declarations.items n d.0 h.grows.names h.declarations
    (named b n d (sym (ap (λ (s : Slot). s.known) (h.slots b n)) ∙ is))

-- where more is declared
pub IsNamed-begins : (t : Table) (ds es : List Declared) → Begins ds es → IsNamed t ds → IsNamed t es
IsNamed-begins t ds es h named = λ b n d is. IsUnder-begins t.texts t.texts ds es n d.0 (Begins-same t.texts) h (named b n d is)

-- where more names have numbers, and each block has the same complete declarations
pub IsNamed-knows : (old new : Table) (ds : List Declared) → Begins old.texts new.texts → ((b : ℕ) (n : List ℕ) → (slot_named new b n).known ≡ (slot_named old b n).known) → IsNamed old ds → IsNamed new ds
IsNamed-knows old new ds h same named = λ b n d is. IsUnder-begins old.texts new.texts ds ds n d.0 h (Begins-same ds) (named b n d (sym (same b n) ∙ is))

-- ---- where a block has something else of one name

module _ (block name : ℕ) (slot : Slot) (old new : Table) (ds : List Declared) (h : Rebinds old new block name slot)
    (fresh : (e : DeclarationId) → slot.known ≡ Some e → HasName ds e.0 name ⊎ ((slot_in old.slots block name).known ≡ Some e)) (named : IsNamed old ds) where
  stayed : (b : ℕ) (n : List ℕ) (d : DeclarationId) (i : ℕ) → number_of old.texts n ≡ Some i → (slot_in old.slots b i).known ≡ Some d → IsUnder new.texts ds n d.0
  stayed b n d i number is =
      subst (λ (ts : List (List ℕ)). IsUnder ts ds n d.0) (sym h.texts) (named b n d (subst (λ (q : Option ℕ). (slot_at old.slots b q).known ≡ Some d) (sym number) is))

  told : (n : List ℕ) (d : DeclarationId) → number_of old.texts n ≡ Some name → HasName ds d.0 name ⊎ ((slot_in old.slots block name).known ≡ Some d) → IsUnder new.texts ds n d.0
  told n d number (inr was) = stayed block n d name number was
  told n d number (inl has) =
      (has.0, has.1, ap (slice_get new.texts) has.2 ∙ ap (λ (ts : List (List ℕ)). slice_get ts name) h.texts ∙ slice_get-number_of old.texts n name number)

  by-number : (b : ℕ) (n : List ℕ) (d : DeclarationId) (o : Option ℕ) → number_of old.texts n ≡ o → (slot_at new.slots b o).known ≡ Some d → IsUnder new.texts ds n d.0
  by-number b n d None e is = cc
  by-number b n d (Some i) e is = which (nat_eq block b && nat_eq name i) refl
    where
      here : (c : Bool) → (nat_eq block b && nat_eq name i) ≡ c → (if c then slot else slot_in old.slots b i).known ≡ Some d
      here c p = sym (ap (λ (s : Slot). s.known) (h.slots b i ∙ ap (λ (q : Bool). if q then slot else slot_in old.slots b i) p)) ∙ is

      which : (c : Bool) → (nat_eq block b && nat_eq name i) ≡ c → IsUnder new.texts ds n d.0
      which true p =
          let equal = (and_parts (nat_eq block b) (nat_eq name i) p).1 in
          let same : i ≡ name = grind (arith, nat_tests) in
          told n d (e ∙ ap Some same) (fresh d (here true p))
      which false p = stayed b n d i e (here false p)

  pub IsNamed-rebinds : IsNamed new ds
  IsNamed-rebinds = λ b n d is. by-number b n d (number_of old.texts n) refl (subst (λ (ts : List (List ℕ)). (slot_at new.slots b (number_of ts n)).known ≡ Some d) h.texts is)

-- the same declaration counts
pub IsNamed-kept : (block name : ℕ) (slot : Slot) (more : List Declared) (old new : Tables) → Rebound block name slot more old new →
    slot.known ≡ (slot_in old.names.slots block name).known → IsNamed old.names old.declarations.items → IsNamed new.names new.declarations.items
IsNamed-kept block name slot more old new h same named =
    IsNamed-rebinds block name slot old.names new.names new.declarations.items h.names (λ e is. inr (sym same ∙ is))
    (IsNamed-begins old.names old.declarations.items new.declarations.items (record { more = more; is = h.declarations }) named)

slice_get-last : {X : Type 0} (xs : List X) (x : X) → slice_get (xs ++ x ∷ []) (length xs) ≡ Some x
slice_get-last [] x = refl
slice_get-last (y ∷ ys) x = slice_get-last ys x

-- one more declaration, under the name, and the block has it or what it had of the name
pub IsNamed-last : (block name : ℕ) (slot : Slot) (d : DeclarationId) (x : Declared) (old new : Tables) → Rebound block name slot (x ∷ []) old new → d.0 ≡ length old.declarations.items →
    x.name.0 ≡ name → ((e : DeclarationId) → slot.known ≡ Some e → (e ≡ d) ⊎ ((slot_in old.names.slots block name).known ≡ Some e)) →
    IsNamed old.names old.declarations.items → IsNamed new.names new.declarations.items
IsNamed-last block name slot d x old new h last under which named =
    IsNamed-rebinds block name slot old.names new.names new.declarations.items h.names (λ e is. fresh e (which e is))
    (IsNamed-begins old.names old.declarations.items new.declarations.items (record { more = x ∷ []; is = h.declarations }) named)
  where
    fresh : (e : DeclarationId) → (e ≡ d) ⊎ ((slot_in old.names.slots block name).known ≡ Some e) → HasName new.declarations.items e.0 name ⊎ ((slot_in old.names.slots block name).known ≡ Some e)
    fresh e (inr was) = inr was
    fresh e (inl same) = inl (
      x,
      ap (λ (j : DeclarationId). slice_get new.declarations.items j.0) same
          ∙ ap (slice_get new.declarations.items) last
          ∙ ap (λ (ds : List Declared). slice_get ds (length old.declarations.items)) h.declarations
          ∙ slice_get-last old.declarations.items x,
      under,
    )

first-known : (o : Option DeclarationId) (d e : DeclarationId) → Some (unwrap_or o d) ≡ Some e → (e ≡ d) ⊎ (o ≡ Some e)
first-known None d e is = inl cc
first-known (Some j) d e is = inr is

-- it is complete, unless another one was
pub IsNamed-completed : (block name : ℕ) (d : DeclarationId) (x : Declared) (old new : Tables) →
    Rebound block name (completed (slot_in old.names.slots block name) d) (x ∷ []) old new → d.0 ≡ length old.declarations.items → x.name.0 ≡ name →
    IsNamed old.names old.declarations.items → IsNamed new.names new.declarations.items
IsNamed-completed block name d x old new h last under =
    IsNamed-last block name (completed (slot_in old.names.slots block name) d) d x old new h last under (λ e is. first-known (slot_in old.names.slots block name).known d e is)

-- it is complete, unless the name stood before
pub IsNamed-declared : (block name : ℕ) (d : DeclarationId) (x : Declared) (old new : Tables) →
    Rebound block name (declared (slot_in old.names.slots block name) d) (x ∷ []) old new → d.0 ≡ length old.declarations.items → x.name.0 ≡ name →
    IsNamed old.names old.declarations.items → IsNamed new.names new.declarations.items
IsNamed-declared block name d x old new h last under =
    IsNamed-last block name (declared (slot_in old.names.slots block name) d) d x old new h last under (λ e is. which (slot_in old.names.slots block name).passed e is)
  where
    which : (b : Bool) (e : DeclarationId) → (if b then slot_in old.names.slots block name else record (completed (slot_in old.names.slots block name) d) { passed = true }).known ≡ Some e →
        (e ≡ d) ⊎ ((slot_in old.names.slots block name).known ≡ Some e)
    which true e is = inr is
    which false e is = first-known (slot_in old.names.slots block name).known d e is
