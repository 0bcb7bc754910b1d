-- Types are entered under the names of a block: lemmas.
use Rattle.std.proofs.Common.{◌≡◌, inl, inr, ℕ, Bool, true, false, ◌||◌, ◌&&◌, nat_eq, if◌then◌else◌, List, [], ◌∷◌, ◌++◌, Option, Some, None, option_map, refl, ap, sym, ◌∙◌, subst, true≢false, arith}
use Rattle.std.proofs.lemmas.Bool.{or_cases, or_left, or_right, false_from_ne_true}
use Rattle.std.proofs.lemmas.Bool.Decides.{nat_tests}
use Rattle.std.specs.Option.{option_and_then}
use Rattle.pc_syntax.specs.Plain.{Plain}
use Rattle.pc_syntax.specs.Words.{is_among}
use Rattle.pc_types.specs.Table.{numbered}
use Rattle.pc_types.specs.declared.form.TypeId.{TypeId}
use Rattle.pc_rules.specs.Meanings.{Local, Outside}
use Rattle.pc_names.specs.Numbers.{number_of}
use Rattle.pc_names.specs.declared.id.NameId.{NameId}
use Rattle.pc_places.specs.Places.{known, IsPlace}
use Rattle.pc_places.specs.declared.tables.Tables.{Tables}
use Rattle.pc_block_laws.specs.Block.{block_says, OnceEach, OwnTypes, type_names}
use Rattle.pc_domains.specs.BlockLaws.{says-block, says-none, among-number}
use Rattle.pc_domains.specs.Rows.{type_named}
use Rattle.pc_domains.specs.Told.{type_at}
use Rattle.pc_domains.specs.Types.{AreNumbers, entered_names, ShowsRequired, is_id, Says, Enters}
use Rattle.pc_domains.specs.declared.naming.RequiredNames.{RequiredNames}

-- ---- one after another

pub enters-none : (t : Tables) (block owner : ℕ) (r : Option RequiredNames) (ts : List ((ℕ × ℕ) × Option TypeId)) → Enters t block owner r [] ts ts
enters-none t block owner r ts = record { entered = λ i h. absurd (true≢false (sym h)); others = λ o i h. refl }

is_id-end : (ids : List NameId) (k : NameId) (i : ℕ) → is_id (ids ++ k ∷ []) i ≡ (is_id ids i || nat_eq k.0 i)
is_id-end [] k i = by (nat_eq k.0 i)
  where
    by : (b : Bool) → (b || false) ≡ b
    by true = refl
    by false = refl
is_id-end (j ∷ ids) k i = ap (λ (b : Bool). nat_eq j.0 i || b) (is_id-end ids k i) ∙ by (nat_eq j.0 i)
  where
    by : (b : Bool) → (b || (is_id ids i || nat_eq k.0 i)) ≡ ((b || is_id ids i) || nat_eq k.0 i)
    by true = refl
    by false = refl

same-number : (k : ℕ) → nat_eq k k ≡ true
same-number k = grind (arith, nat_tests)

pub enters-more : (t : Tables) (block owner : ℕ) (r : Option RequiredNames) (ids : List NameId) (k : NameId) (x : Option TypeId) (old mid new : List ((ℕ × ℕ) × Option TypeId)) →
    Enters t block owner r ids old mid → Says t block r k.0 x →
    ((o i : ℕ) → type_at new o i ≡ (if nat_eq owner o && nat_eq k.0 i then x else type_at mid o i)) → Enters t block owner r (ids ++ k ∷ []) old new
enters-more t block owner r ids k x old mid new h says put = record { entered = entered; others = others }
  where
    entered : (i : ℕ) → is_id (ids ++ k ∷ []) i ≡ true → Says t block r i (type_at new owner i)
    entered i e = by (nat_eq k.0 i) refl
      where
        value : type_at new owner i ≡ (if nat_eq k.0 i then x else type_at mid owner i)
        value = put owner i ∙ ap (λ (b : Bool). if b && nat_eq k.0 i then x else type_at mid owner i) (same-number owner)

        by : (b : Bool) → nat_eq k.0 i ≡ b → Says t block r i (type_at new owner i)
        by true q =
            let same : k.0 ≡ i = grind (arith, nat_tests) in
            let is : type_at new owner i ≡ x = value ∙ ap (λ (b : Bool). if b then x else type_at mid owner i) q in
            subst (λ (y : Option TypeId). Says t block r i y) (sym is) (subst (λ (j : ℕ). Says t block r j x) same says)
        by false q =
            let is : type_at new owner i ≡ type_at mid owner i = value ∙ ap (λ (b : Bool). if b then x else type_at mid owner i) q in
            let before : is_id ids i ≡ true = elim (or_cases (is_id ids i) (nat_eq k.0 i) (sym (is_id-end ids k i) ∙ e)) [
              | inl a ↦ a
              | inr a ↦ absurd (true≢false (sym a ∙ q))
            ] in
            subst (λ (y : Option TypeId). Says t block r i y) (sym is) (h.entered i before)

    others : (o i : ℕ) → (nat_eq owner o && is_id (ids ++ k ∷ []) i) ≡ false → type_at new o i ≡ type_at old o i
    others o i e = by (nat_eq owner o) refl
      where
        by : (b : Bool) → nat_eq owner o ≡ b → type_at new o i ≡ type_at old o i
        by false q =
            put o i ∙ ap (λ (b : Bool). if b && nat_eq k.0 i then x else type_at mid o i) q ∙ h.others o i (ap (λ (b : Bool). b && is_id ids i) q)
        by true q =
            let neither : (is_id ids i || nat_eq k.0 i) ≡ false = sym (is_id-end ids k i) ∙ sym (ap (λ (b : Bool). b && is_id (ids ++ k ∷ []) i) q) ∙ e in
            let first : is_id ids i ≡ false = false_from_ne_true (is_id ids i) (λ a. true≢false (sym (or_left (is_id ids i) (nat_eq k.0 i) a) ∙ neither)) in
            let second : nat_eq k.0 i ≡ false = false_from_ne_true (nat_eq k.0 i) (λ a. true≢false (sym (or_right (is_id ids i) (nat_eq k.0 i) a) ∙ neither)) in
            put o i ∙ ap (λ (b : Bool). if b && nat_eq k.0 i then x else type_at mid o i) q ∙ ap (λ (b : Bool). if b then x else type_at mid o i) second
            ∙ h.others o i (ap (λ (b : Bool). b && is_id ids i) q ∙ first)

-- ---- what stands under names then

-- nothing stands under the other names of this owner
abbrev pub IsBare : ℕ → List NameId → List ((ℕ × ℕ) × Option TypeId) → Type 0
IsBare owner ids ts = (i : ℕ) → is_id ids i ≡ false → type_at ts owner i ≡ None

pub bare-after : (t : Tables) (block owner : ℕ) (r : Option RequiredNames) (ids : List NameId) (old new : List ((ℕ × ℕ) × Option TypeId)) → Enters t block owner r ids old new →
    IsBare owner ids old → IsBare owner ids new
bare-after t block owner r ids old new h bare i e = h.others owner i (ap (λ (b : Bool). b && is_id ids i) (same-number owner) ∙ e) ∙ bare i e

-- under each name of the block stands what the block says of it
pub entered-says : (list : Plain) (is_program : Bool) (t : Tables) (block owner : ℕ) (r : Option RequiredNames) (ids : List NameId) (old new : List ((ℕ × ℕ) × Option TypeId)) (out : Outside) (l : Local) →
    IsPlace t block owner out l → OnceEach l.known → OwnTypes list l → ShowsRequired t.names.texts is_program r → AreNumbers t.names.texts ids (entered_names is_program (type_names list.kids)) →
    IsBare owner ids old → Enters t block owner r ids old new → (n : List ℕ) →
    option_map (numbered (known t).table.shapes) (type_named new t.names.texts owner n) ≡ block_says is_program l n
entered-says list is_program t block owner r ids old new out l at once own required numbers bare h n = by (number_of t.names.texts n) refl
  where
    names : List (List ℕ)
    names = entered_names is_program (type_names list.kids)

    unnamed : (is_among names n ≡ true → ⊥) → block_says is_program l n ≡ None
    unnamed f = says-none list is_program l n once own (false_from_ne_true (is_among names n) f)

    at-number : (i : ℕ) → number_of t.names.texts n ≡ Some i → (b : Bool) → is_id ids i ≡ b → option_map (numbered (known t).table.shapes) (type_at new owner i) ≡ block_says is_program l n
    at-number i e true q = says-block list is_program t block owner i r out l n (type_at new owner i) at once own required e (h.entered i q)
    at-number i e false q =
        ap (option_map (numbered (known t).table.shapes)) (bare-after t block owner r ids old new h bare i q)
        ∙ sym (unnamed (λ a.
        let m = among-number t.names.texts ids names n numbers a in
        let same : Some m.number ≡ Some i = sym m.is ∙ e in
        let equal : m.number ≡ i = cc in
        true≢false (sym m.among ∙ ap (is_id ids) equal ∙ q)))

    by : (o : Option ℕ) → number_of t.names.texts n ≡ o → option_map (numbered (known t).table.shapes) (option_and_then (λ i. type_at new owner i) o) ≡ block_says is_program l n
    by (Some i) e = at-number i e (is_id ids i) refl
    by None e = sym (unnamed (λ a. let m = among-number t.names.texts ids names n numbers a in absurd (let bad : None ≡ Some m.number = sym e ∙ m.is in cc)))
