-- Names that a block declares somewhere, one after the other: lemmas.
use Rattle.std.proofs.Common.{◌≡◌, ℕ, Bool, true, false, List, [], ◌∷◌, ◌++◌, Option, Some, None, refl, ap, sym, ◌∙◌, subst, if◌then◌else◌, nat_eq, arith}
use Rattle.std.proofs.lemmas.Bool.Decides.{nat_tests}
use Rattle.std.proofs.lemmas.Slice.Eq.{bytes_eq-Decides}
use Rattle.std.specs.Option.{option_map, unwrap_or}
use Rattle.std.specs.Str.{bytes_eq}
use Rattle.pc_names.specs.Bindings.{slot_in, announced}
use Rattle.pc_names.specs.Numbers.{AreDistinct, number_of, with_name, with_name_if}
use Rattle.pc_names.specs.Standing.{meant, IsKnown, StandsFor}
use Rattle.pc_names.specs.StandingLaws.{first_of}
use Rattle.pc_names.specs.Table.{Table, Rebinds, slot_at, slot_named}
use Rattle.pc_names.specs.TableLaws.{slot_named-Rebinds, slot_named-other}
use Rattle.pc_names.specs.declared.id.DeclarationId.{DeclarationId}
use Rattle.pc_names.specs.declared.name_class.NameClass.{NameClass}
use Rattle.pc_names.specs.declared.slot.Slot.{Slot}
use Rattle.pc_rules.specs.Meanings.{Class, Meaning, Local, entry_of}
use Rattle.pc_facts.specs.declared.sighting.Declared.{Declared}
use Rattle.pc_growth.specs.Grows.{Begins}
use Rattle.pc_growth.specs.GrowsLaws.{Begins-same, Begins-then, Begins-append}
use Rattle.pc_places.specs.NamingLaws.{IsNamed-knows}
use Rattle.pc_places.specs.Places.{IsNamed}
use Rattle.pc_openings.specs.Announced.{Announced}

-- ---- the first of some entries

first_of-none : {X : Type 0} (o : Option X) → first_of o None ≡ o
first_of-none None = refl
first_of-none (Some x) = refl

first_of-assoc : {X : Type 0} (a b c : Option X) → first_of (first_of a b) c ≡ first_of a (first_of b c)
first_of-assoc None b c = refl
first_of-assoc (Some x) b c = refl

first_of-if : {X : Type 0} (b : Bool) (x : X) (o p : Option X) → (if b then Some x else first_of o p) ≡ first_of (if b then Some x else o) p
first_of-if true x o p = refl
first_of-if false x o p = refl

-- what stands under a name in two lists
pub entry_of-append : {X : Type 0} (xs ys : List (List ℕ × X)) (n : List ℕ) → entry_of (xs ++ ys) n ≡ first_of (entry_of xs n) (entry_of ys n)
entry_of-append [] ys n = refl
entry_of-append {X} (x ∷ xs) ys n =
    ap (λ (o : Option X). if bytes_eq x.0 n then Some x.1 else o) (entry_of-append xs ys n) ∙ first_of-if (bytes_eq x.0 n) x.1 (entry_of xs n) (entry_of ys n)

-- ---- none, and one list behind the other

pub Announced-none : (block : ℕ) (t : Table) → Announced block [] t t
Announced-none block t = record {
  chains = refl;
  texts = Begins-same t.texts;
  distinct = λ d. d;
  others = λ b n apart. refl;
  classes = λ n. sym (first_of-none (option_map meant (slot_named t block n).class));
  passes = λ n. refl;
  knows = λ n. refl;
}

pub Announced-then : (block : ℕ) (xs ys : List (List ℕ × Class)) (a b c : Table) → Announced block xs a b → Announced block ys b c → Announced block (xs ++ ys) a c
Announced-then block xs ys a b c h g = record {
  chains = g.chains ∙ h.chains;
  texts = Begins-then a.texts b.texts c.texts h.texts g.texts;
  distinct = λ d. g.distinct (h.distinct d);
  others = λ k n apart. g.others k n apart ∙ h.others k n apart;
  classes = λ n.
      let o = option_map meant (slot_named a block n).class in
      g.classes n ∙ ap (λ (c : Option Class). first_of c (entry_of ys n)) (h.classes n) ∙ first_of-assoc o (entry_of xs n) (entry_of ys n)
      ∙ ap (first_of o) (sym (entry_of-append xs ys n));
  passes = λ n. g.passes n ∙ h.passes n;
  knows = λ n. g.knows n ∙ h.knows n;
}

-- ---- one name

first-class : (c : Option NameClass) (k : NameClass) → Some (meant (unwrap_or c k)) ≡ first_of (option_map meant c) (Some (meant k))
first-class None k = refl
first-class (Some c) k = refl

-- what the block has of a name, by whether that is the one
class-by : (b : Bool) (s t : Slot) (c : NameClass) → (b ≡ true → s ≡ t) →
    option_map meant (if b then announced s c else t).class ≡ first_of (option_map meant t.class) (if b then Some (meant c) else None)
class-by true s t c same = first-class s.class c ∙ ap (λ (x : Slot). first_of (option_map meant x.class) (Some (meant c))) (same refl)
class-by false s t c same = sym (first_of-none (option_map meant t.class))

passed-by : (b : Bool) (s t : Slot) (c : NameClass) → (b ≡ true → s ≡ t) → (if b then announced s c else t).passed ≡ t.passed
passed-by true s t c same = ap (λ (x : Slot). x.passed) (same refl)
passed-by false s t c same = refl

known-by : (b : Bool) (s t : Slot) (c : NameClass) → (b ≡ true → s ≡ t) → (if b then announced s c else t).known ≡ t.known
known-by true s t c same = ap (λ (x : Slot). x.known) (same refl)
known-by false s t c same = refl

begins-by : (o : Option ℕ) (ms : List (List ℕ)) (w : List ℕ) → Begins ms (with_name_if o ms w)
begins-by (Some i) ms w = Begins-same ms
begins-by None ms w = Begins-append ms (w ∷ [])

same-slot : (t : Table) (block i : ℕ) (w n : List ℕ) → number_of t.texts w ≡ Some i → bytes_eq w n ≡ true → slot_in t.slots block i ≡ slot_named t block n
same-slot t block i w n number e = let same : w ≡ n = (bytes_eq-Decides w n).0 e in sym (ap (slot_at t.slots block) (sym (ap (number_of t.texts) same) ∙ number))

-- a name that was numbered first is declared as this class
pub Announced-one : (block i : ℕ) (w : List ℕ) (c : NameClass) (old mid new : Table) → mid ≡ record old { texts = with_name old.texts w } → AreDistinct mid.texts →
    ((b : ℕ) (n : List ℕ) → slot_named mid b n ≡ slot_named old b n) → number_of mid.texts w ≡ Some i → Rebinds mid new block i (announced (slot_in mid.slots block i) c) →
    Announced block ((w, meant c) ∷ []) old new
Announced-one block i w c old mid new numbered distinct kept number changes =
    let s = slot_in mid.slots block i in
    let at = λ (n : List ℕ). slot_named-Rebinds mid new block i (announced s c) changes w number n in
    record {
      chains = changes.chains ∙ ap (λ (t : Table). t.chains) numbered;
      texts = subst (Begins old.texts) (sym (changes.texts ∙ ap (λ (t : Table). t.texts) numbered)) (begins-by (number_of old.texts w) old.texts w);
      distinct = λ d. subst AreDistinct (sym changes.texts) distinct;
      others = λ b n apart. slot_named-other mid new block i (announced s c) changes b (λ e. apart (sym e)) n ∙ kept b n;
      classes = λ n.
          ap (λ (x : Slot). option_map meant x.class) (at n) ∙ class-by (bytes_eq w n) s (slot_named mid block n) c (same-slot mid block i w n number)
          ∙ ap (λ (x : Slot). first_of (option_map meant x.class) (if bytes_eq w n then Some (meant c) else None)) (kept block n);
      passes = λ n. ap (λ (x : Slot). x.passed) (at n) ∙ passed-by (bytes_eq w n) s (slot_named mid block n) c (same-slot mid block i w n number) ∙ ap (λ (x : Slot). x.passed) (kept block n);
      knows = λ n. ap (λ (x : Slot). x.known) (at n) ∙ known-by (bytes_eq w n) s (slot_named mid block n) c (same-slot mid block i w n number) ∙ ap (λ (x : Slot). x.known) (kept block n);
    }

-- complete declarations are ones under their names still
pub Announced-named : (block : ℕ) (more : List (List ℕ × Class)) (old new : Table) (ds : List Declared) → Announced block more old new → IsNamed old ds → IsNamed new ds
Announced-named block more old new ds h = IsNamed-knows old new ds h.texts (λ b n. by b n (nat_eq b block) refl)
  where
    by : (b : ℕ) (n : List ℕ) (e : Bool) → nat_eq b block ≡ e → (slot_named new b n).known ≡ (slot_named old b n).known
    by b n true e = let same : b ≡ block = grind (arith, nat_tests) in subst (λ (o : ℕ). (slot_named new o n).known ≡ (slot_named old o n).known) (sym same) (h.knows n)
    by b n false e = ap (λ (s : Slot). s.known) (h.others b n (λ same. absurd (let t : nat_eq b block ≡ false = e in grind (arith, nat_tests))))

-- ---- the place at which the block declares these names too

-- the block stands for that place, where no less is known of the declarations
pub StandsFor-announced : (D E : ℕ → Meaning → Type 0) (block : ℕ) (more : List (List ℕ × Class)) (old new : Table) (l : Local) → ((d : ℕ) (m : Meaning) → D d m → E d m) →
    Announced block more old new → StandsFor D old block l → StandsFor E new block (record l { names = l.names ++ more })
StandsFor-announced D E block more old new l told h stands = λ n. record {
  is_class = h.classes n ∙ ap (λ (o : Option Class). first_of o (entry_of more n)) (stands n).is_class ∙ sym (entry_of-append l.names more n);
  is_passed = h.passes n ∙ (stands n).is_passed;
  is_known = subst (λ (o : Option DeclarationId). IsKnown E o (entry_of l.known n)) (sym (h.knows n)) (known-more (slot_named old block n).known (entry_of l.known n) (stands n).is_known);
}
  where
    known-more : (k : Option DeclarationId) (o : Option Meaning) → IsKnown D k o → IsKnown E k o
    known-more None None h = tt
    known-more (Some d) (Some m) h = told d.0 m h
    known-more None (Some m) h = absurd h
    known-more (Some d) None h = absurd h
