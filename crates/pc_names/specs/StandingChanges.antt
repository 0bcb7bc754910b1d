-- A block stands for a place as long as it has what it had, and for the same place as more is known of its declarations: lemmas.
use Rattle.std.proofs.Common.{◌≡◌, ℕ, Bool, true, false, List, [], ◌∷◌, ◌++◌, map, Option, Some, None, refl, ap, sym, ◌∙◌, subst, if◌then◌else◌}
use Rattle.std.specs.Option.{option_map}
use Rattle.std.specs.Str.{bytes_eq}
use Rattle.pc_syntax.specs.Words.{is_among}
use Rattle.pc_types.specs.Domains.{closed}
use Rattle.pc_types.specs.Shapes.{Domain, Typed}
use Rattle.pc_rules.specs.ClosedTypes.{own_domains, carried, close_type, close_types}
use Rattle.pc_rules.specs.Meanings.{Meaning, Local, entry_of}
use Rattle.pc_rules.specs.NameClasses.{is_type_class}
use Rattle.pc_names.specs.declared.id.DeclarationId.{DeclarationId}
use Rattle.pc_names.specs.declared.slot.Slot.{Slot}
use Rattle.pc_names.specs.Bindings.{empty_slot, slot_in}
use Rattle.pc_names.specs.Numbers.{number_of}
use Rattle.pc_names.specs.Table.{Table, slot_at, slot_named}
use Rattle.pc_names.specs.Standing.{IsKnown, IsSlotOf, Has, StandsFor}

-- a block that has what it had stands for what it stood for: after a change in another block (`slot_named-other`), and after `number`
pub StandsFor-kept : (D : ℕ → Meaning → Type 0) (old new : Table) (block : ℕ) (l : Local) → ((n : List ℕ) → slot_named new block n ≡ slot_named old block n) →
    StandsFor D old block l → StandsFor D new block l
StandsFor-kept D old new block l kept stands = λ n. subst (λ (s : Slot). Has D s l n) (sym (kept n)) (stands n)

empty-at : (slots : List ((ℕ × ℕ) × Slot)) (block : ℕ) → ((n : ℕ) → slot_in slots block n ≡ empty_slot) → (o : Option ℕ) → slot_at slots block o ≡ empty_slot
empty-at slots block empty None = refl
empty-at slots block empty (Some i) = empty i

-- a block that was begun stands for a place where nothing is declared and no name stands before
pub StandsFor-begun : (D : ℕ → Meaning → Type 0) (t : Table) (block : ℕ) (l : Local) → ((n : ℕ) → slot_in t.slots block n ≡ empty_slot) →
    StandsFor D t block (record l { names = []; passed = []; known = [] })
StandsFor-begun D t block l empty = λ n.
    subst (λ (s : Slot). IsSlotOf D s None false None) (sym (empty-at t.slots block empty (number_of t.texts n)))
    (record { is_class = refl; is_passed = refl; is_known = tt })

-- a block stands for another place where that says the same of each name, given how the declarations that it has stand for those
pub StandsFor-retold : (D E : ℕ → Meaning → Type 0) (t : Table) (block : ℕ) (l l' : Local) → ((n : List ℕ) → entry_of l'.names n ≡ entry_of l.names n) →
    ((n : List ℕ) → is_among l'.passed n ≡ is_among l.passed n) →
    ((n : List ℕ) → IsKnown D (slot_named t block n).known (entry_of l.known n) → IsKnown E (slot_named t block n).known (entry_of l'.known n)) →
    StandsFor D t block l → StandsFor E t block l'
StandsFor-retold D E t block l l' names passed known stands = λ n. record {
  is_class = (stands n).is_class ∙ sym (names n);
  is_passed = (stands n).is_passed ∙ sym (passed n);
  is_known = known n (stands n).is_known;
}

known-mapped : (D E : ℕ → Meaning → Type 0) (g : Meaning → Meaning) → ((d : ℕ) (m : Meaning) → D d m → E d (g m)) → (k : Option DeclarationId) (o : Option Meaning) →
    IsKnown D k o → IsKnown E k (option_map g o)
known-mapped D E g told None None h = tt
known-mapped D E g told (Some d) (Some m) h = told d.0 m h
known-mapped D E g told None (Some m) h = absurd h
known-mapped D E g told (Some d) None h = absurd h

map-if : (g : Meaning → Meaning) (b : Bool) (m : Meaning) (o : Option Meaning) → (if b then Some (g m) else option_map g o) ≡ option_map g (if b then Some m else o)
map-if g true m o = refl
map-if g false m o = refl

-- what stands under a name in a list whose elements are changed but for their names
pub entry_of-map : (f : List ℕ × Meaning → List ℕ × Meaning) (g : Meaning → Meaning) → ((e : List ℕ × Meaning) → f e ≡ (e.0, g e.1)) → (es : List (List ℕ × Meaning)) (n : List ℕ) →
    entry_of (map f es) n ≡ option_map g (entry_of es n)
entry_of-map f g names [] n = refl
entry_of-map f g names (e ∷ es) n =
    ap (λ (x : List ℕ × Meaning). if bytes_eq x.0 n then Some x.1 else entry_of (map f es) n) (names e)
    ∙ ap (λ (o : Option Meaning). if bytes_eq e.0 n then Some (g e.1) else o) (entry_of-map f g names es n)
    ∙ map-if g (bytes_eq e.0 n) e.1 (entry_of es n)

-- the same block stands for the place with changed declarations, where each declaration that it has stands for the changed one
pub StandsFor-mapped : (D E : ℕ → Meaning → Type 0) (t : Table) (block : ℕ) (l : Local) (f : List ℕ × Meaning → List ℕ × Meaning) (g : Meaning → Meaning) →
    ((e : List ℕ × Meaning) → f e ≡ (e.0, g e.1)) → ((d : ℕ) (m : Meaning) → D d m → E d (g m)) → StandsFor D t block l →
    StandsFor E t block (record l { known = map f l.known })
StandsFor-mapped D E t block l f g names told stands =
    StandsFor-retold D E t block l (record l { known = map f l.known }) (λ n. refl) (λ n. refl)
    (λ n h. subst (IsKnown E (slot_named t block n).known) (sym (entry_of-map f g names l.known n)) (known-mapped D E g told (slot_named t block n).known (entry_of l.known n) h))
    stands

-- the same place, where more is known of the declarations
pub StandsFor-more : (D E : ℕ → Meaning → Type 0) (t : Table) (block : ℕ) (l : Local) → ((d : ℕ) (m : Meaning) → D d m → E d m) → StandsFor D t block l → StandsFor E t block l
StandsFor-more D E t block l told stands =
    StandsFor-retold D E t block l l (λ n. refl) (λ n. refl)
    (λ n h. more (slot_named t block n).known (entry_of l.known n) h) stands
  where
    more : (k : Option DeclarationId) (o : Option Meaning) → IsKnown D k o → IsKnown E k o
    more None None h = tt
    more (Some d) (Some m) h = told d.0 m h
    more None (Some m) h = absurd h
    more (Some d) None h = absurd h

-- a type's meaning with all that is reached from it, and each other meaning as it is
abbrev pub closed_meaning : List Domain → Meaning → Meaning
closed_meaning table m = if is_type_class m.class then record m { type = closed table (option_map (λ (t : Typed). t.shape) m.type) } else m

close_type-is : (table : List Domain) (e : List ℕ × Meaning) → close_type table e ≡ (e.0, closed_meaning table e.1)
close_type-is table e = by (is_type_class e.1.class)
  where
    by : (b : Bool) → (if b then (e.0, record e.1 { type = closed table (option_map (λ (t : Typed). t.shape) e.1.type) }) else e) ≡
        (e.0, (if b then record e.1 { type = closed table (option_map (λ (t : Typed). t.shape) e.1.type) } else e.1))
    by true = refl
    by false = refl

-- behind the type part, where each declaration stands for the one with its types closed
pub StandsFor-close_types : (D E : ℕ → Meaning → Type 0) (t : Table) (block : ℕ) (l : Local) →
    ((d : ℕ) (m : Meaning) → D d m → E d (closed_meaning (own_domains l.known ++ carried l.known) m)) → StandsFor D t block l → StandsFor E t block (close_types l)
StandsFor-close_types D E t block l told stands =
    StandsFor-mapped D E t block l (close_type (own_domains l.known ++ carried l.known)) (closed_meaning (own_domains l.known ++ carried l.known))
    (close_type-is (own_domains l.known ++ carried l.known)) told stands
