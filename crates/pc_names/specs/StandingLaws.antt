-- How a block that stands for a place comes to stand for the next one: lemmas.
use Rattle.std.proofs.Common.{◌≡◌, ℕ, Bool, true, false, ◌||◌, List, [], ◌∷◌, ◌++◌, Option, Some, None, refl, ap, sym, ◌∙◌, subst, if◌then◌else◌}
use Rattle.std.proofs.lemmas.Slice.Eq.{bytes_eq-Decides}
use Rattle.std.specs.Option.{option_map, unwrap_or}
use Rattle.std.specs.Str.{bytes_eq}
use Rattle.pc_syntax.specs.Words.{is_among}
use Rattle.pc_rules.specs.Meanings.{Class, Meaning, Local, entry_of, define, define_all}
use Rattle.pc_rules.specs.Places.{pass, pass_all}
use Rattle.pc_names.specs.declared.id.DeclarationId.{DeclarationId}
use Rattle.pc_names.specs.declared.name_class.NameClass.{NameClass}
use Rattle.pc_names.specs.declared.slot.Slot.{Slot}
use Rattle.pc_names.specs.Bindings.{slot_in, announced, passed, completed, declared}
use Rattle.pc_names.specs.Numbers.{number_of}
use Rattle.pc_names.specs.Table.{Table, Rebinds, slot_at, slot_named}
use Rattle.pc_names.specs.TableLaws.{slot_named-Rebinds}
use Rattle.pc_names.specs.Standing.{meant, IsKnown, Has, StandsFor}

-- ---- lists with one more element at their end

or-end : (b : Bool) → (b || false) ≡ b
or-end true = refl
or-end false = refl

or-assoc : (a b c : Bool) → (a || (b || c)) ≡ ((a || b) || c)
or-assoc true b c = refl
or-assoc false b c = refl

-- what stands among names with one more
pub is_among-end : (p : List (List ℕ)) (n q : List ℕ) → is_among (p ++ n ∷ []) q ≡ (is_among p q || bytes_eq n q)
is_among-end [] n q = or-end (bytes_eq n q)
is_among-end (m ∷ p) n q = ap (λ (b : Bool). bytes_eq m q || b) (is_among-end p n q) ∙ or-assoc (bytes_eq m q) (is_among p q) (bytes_eq n q)

-- the first of two that there are
abbrev pub first_of : {X : Type 0} → Option X → Option X → Option X
first_of (Some x) second = Some x
first_of None second = second

first_of-if : {X : Type 0} (b : Bool) (x : X) (o p : Option X) → (if b then Some x else first_of o p) ≡ first_of (if b then Some x else o) p
first_of-if true x o p = refl
first_of-if false x o p = refl

-- what stands under a name in a list with one more element
pub entry_of-end : {X : Type 0} (es : List (List ℕ × X)) (n : List ℕ) (x : X) (q : List ℕ) → entry_of (es ++ (n, x) ∷ []) q ≡ first_of (entry_of es q) (if bytes_eq n q then Some x else None)
entry_of-end [] n x q = refl
entry_of-end {X} (e ∷ es) n x q =
    ap (λ (o : Option X). if bytes_eq e.0 q then Some e.1 else o) (entry_of-end es n x q)
    ∙ first_of-if (bytes_eq e.0 q) e.1 (entry_of es q) (if bytes_eq n q then Some x else None)

first_of-none : {X : Type 0} (o : Option X) → first_of o None ≡ o
first_of-none None = refl
first_of-none (Some x) = refl

entry_of-apart : {X : Type 0} (es : List (List ℕ × X)) (n : List ℕ) (x : X) (q : List ℕ) → bytes_eq n q ≡ false → entry_of (es ++ (n, x) ∷ []) q ≡ entry_of es q
entry_of-apart {X} es n x q apart =
    entry_of-end es n x q ∙ ap (λ (b : Bool). first_of (entry_of es q) (if b then Some x else None)) apart ∙ first_of-none (entry_of es q)

bytes_eq-same : (n : List ℕ) → bytes_eq n n ≡ true
bytes_eq-same n = (bytes_eq-Decides n n).1 refl

entry_of-same : {X : Type 0} (es : List (List ℕ × X)) (n : List ℕ) (x : X) → entry_of (es ++ (n, x) ∷ []) n ≡ first_of (entry_of es n) (Some x)
entry_of-same {X} es n x = entry_of-end es n x n ∙ ap (λ (b : Bool). first_of (entry_of es n) (if b then Some x else None)) (bytes_eq-same n)

is_among-apart : (p : List (List ℕ)) (n q : List ℕ) → bytes_eq n q ≡ false → is_among (p ++ n ∷ []) q ≡ is_among p q
is_among-apart p n q apart = is_among-end p n q ∙ ap (λ (b : Bool). is_among p q || b) apart ∙ or-end (is_among p q)

or-true : (b : Bool) → (b || true) ≡ true
or-true true = refl
or-true false = refl

is_among-same : (p : List (List ℕ)) (n : List ℕ) → is_among (p ++ n ∷ []) n ≡ true
is_among-same p n = is_among-end p n n ∙ ap (λ (b : Bool). is_among p n || b) (bytes_eq-same n) ∙ or-true (is_among p n)

-- ---- a change at one name

at-name : (D : ℕ → Meaning → Type 0) (s o : Slot) (l l' : Local) (n q : List ℕ) (b : Bool) → bytes_eq n q ≡ b → Has D s l' n →
    (bytes_eq n q ≡ false → Has D o l q → Has D o l' q) → Has D o l q → Has D (if b then s else o) l' q
at-name D s o l l' n q true e here apart old = subst (λ (m : List ℕ). Has D s l' m) ((bytes_eq-Decides n q).0 e) here
at-name D s o l l' n q false e here apart old = apart e old

-- a block stands for another place where that differs at one name alone
pub StandsFor-Rebinds : (D : ℕ → Meaning → Type 0) (old new : Table) (block name : ℕ) (s : Slot) (l l' : Local) (n : List ℕ) → Rebinds old new block name s →
    number_of old.texts n ≡ Some name → Has D s l' n → ((o : Slot) (q : List ℕ) → bytes_eq n q ≡ false → Has D o l q → Has D o l' q) →
    StandsFor D old block l → StandsFor D new block l'
StandsFor-Rebinds D old new block name s l l' n changes is here apart stands = λ q.
    subst (λ (o : Slot). Has D o l' q) (sym (slot_named-Rebinds old new block name s changes n is q))
    (at-name D s (slot_named old block q) l l' n q (bytes_eq n q) refl here (apart (slot_named old block q) q) (stands q))

-- the block declares one more name
abbrev pub announce : Local → List ℕ → Class → Local
announce l n c = record l { names = l.names ++ (n, c) ∷ [] }

first-class : (c : Option NameClass) (k : NameClass) → Some (meant (unwrap_or c k)) ≡ first_of (option_map meant c) (Some (meant k))
first-class None k = refl
first-class (Some c) k = refl

-- `announce`
pub StandsFor-announce : (D : ℕ → Meaning → Type 0) (old new : Table) (block name : ℕ) (l : Local) (n : List ℕ) (c : NameClass) →
    Rebinds old new block name (announced (slot_in old.slots block name) c) → number_of old.texts n ≡ Some name → StandsFor D old block l → StandsFor D new block (announce l n (meant c))
StandsFor-announce D old new block name l n c changes is stands =
    let at : Has D (slot_in old.slots block name) l n = subst (λ (o : Option ℕ). Has D (slot_at old.slots block o) l n) is (stands n) in
    StandsFor-Rebinds D old new block name (announced (slot_in old.slots block name) c) l (announce l n (meant c)) n changes is
    (record {
      is_class = first-class (slot_in old.slots block name).class c ∙ ap (λ (o : Option Class). first_of o (Some (meant c))) at.is_class ∙ sym (entry_of-same l.names n (meant c));
      is_passed = at.is_passed;
      is_known = at.is_known;
    })
    (λ o q apart h. record { is_class = h.is_class ∙ sym (entry_of-apart l.names n (meant c) q apart); is_passed = h.is_passed; is_known = h.is_known })
    stands

-- one more name stands before
abbrev pub passing : Local → List ℕ → Local
passing l n = record l { passed = l.passed ++ n ∷ [] }

-- `pass`
pub StandsFor-passing : (D : ℕ → Meaning → Type 0) (old new : Table) (block name : ℕ) (l : Local) (n : List ℕ) →
    Rebinds old new block name (passed (slot_in old.slots block name)) → number_of old.texts n ≡ Some name → StandsFor D old block l → StandsFor D new block (passing l n)
StandsFor-passing D old new block name l n changes is stands =
    let at : Has D (slot_in old.slots block name) l n = subst (λ (o : Option ℕ). Has D (slot_at old.slots block o) l n) is (stands n) in
    StandsFor-Rebinds D old new block name (passed (slot_in old.slots block name)) l (passing l n) n changes is
    (record { is_class = at.is_class; is_passed = sym (is_among-same l.passed n); is_known = at.is_known })
    (λ o q apart h. record { is_class = h.is_class; is_passed = h.is_passed ∙ sym (is_among-apart l.passed n q apart); is_known = h.is_known })
    stands

-- `pass` at a name that isn't empty, as no name is
pub StandsFor-pass : (D : ℕ → Meaning → Type 0) (old new : Table) (block name : ℕ) (l : Local) (n : List ℕ) → (n ≡ [] → ⊥) →
    Rebinds old new block name (passed (slot_in old.slots block name)) → number_of old.texts n ≡ Some name → StandsFor D old block l → StandsFor D new block (pass l n)
StandsFor-pass D old new block name l [] some changes is stands = absurd (some refl)
StandsFor-pass D old new block name l (b ∷ bs) some changes is stands = StandsFor-passing D old new block name l (b ∷ bs) changes is stands

IsKnown-first : (D : ℕ → Meaning → Type 0) (k : Option DeclarationId) (d : DeclarationId) (o : Option Meaning) (m : Meaning) → IsKnown D k o → D d.0 m →
    IsKnown D (Some (unwrap_or k d)) (first_of o (Some m))
IsKnown-first D None d None m h is = is
IsKnown-first D (Some e) d (Some x) m h is = h
IsKnown-first D None d (Some x) m h is = absurd h
IsKnown-first D (Some e) d None m h is = absurd h

-- one more complete declaration, where the name doesn't count as one that stood before
abbrev pub knowing : Local → List ℕ → Meaning → Local
knowing l n m = record l { known = l.known ++ (n, m) ∷ [] }

-- `complete`
pub StandsFor-complete : (D : ℕ → Meaning → Type 0) (old new : Table) (block name : ℕ) (l : Local) (n : List ℕ) (d : DeclarationId) (m : Meaning) → D d.0 m →
    Rebinds old new block name (completed (slot_in old.slots block name) d) → number_of old.texts n ≡ Some name → StandsFor D old block l → StandsFor D new block (knowing l n m)
StandsFor-complete D old new block name l n d m is_declared changes is stands =
    let at : Has D (slot_in old.slots block name) l n = subst (λ (o : Option ℕ). Has D (slot_at old.slots block o) l n) is (stands n) in
    StandsFor-Rebinds D old new block name (completed (slot_in old.slots block name) d) l (knowing l n m) n changes is
    (record {
      is_class = at.is_class;
      is_passed = at.is_passed;
      is_known = subst (IsKnown D (Some (unwrap_or (slot_in old.slots block name).known d))) (sym (entry_of-same l.known n m))
          (IsKnown-first D (slot_in old.slots block name).known d (entry_of l.known n) m at.is_known is_declared);
    })
    (λ o q apart h. record { is_class = h.is_class; is_passed = h.is_passed; is_known = subst (IsKnown D o.known) (sym (entry_of-apart l.known n m q apart)) h.is_known })
    stands

-- what is declared at the name, by whether it stood before
declared-by : (D : ℕ → Meaning → Type 0) (s : Slot) (l : Local) (n : List ℕ) (d : DeclarationId) (m : Meaning) (b : Bool) → D d.0 m → s.passed ≡ b → Has D s l n →
    Has D (if b then s else passed (completed s d)) (record l { passed = l.passed ++ n ∷ []; known = if b then l.known else l.known ++ (n, m) ∷ [] }) n
declared-by D s l n d m true is_declared was at = record { is_class = at.is_class; is_passed = was ∙ sym (is_among-same l.passed n); is_known = at.is_known }
declared-by D s l n d m false is_declared was at = record {
  is_class = at.is_class;
  is_passed = sym (is_among-same l.passed n);
  is_known = subst (IsKnown D (Some (unwrap_or s.known d))) (sym (entry_of-same l.known n m)) (IsKnown-first D s.known d (entry_of l.known n) m at.is_known is_declared);
}

other-declared : (D : ℕ → Meaning → Type 0) (s : Slot) (l : Local) (n q : List ℕ) (m : Meaning) (b : Bool) → bytes_eq n q ≡ false → Has D s l q →
    Has D s (record l { passed = l.passed ++ n ∷ []; known = if b then l.known else l.known ++ (n, m) ∷ [] }) q
other-declared D s l n q m true apart h = record { is_class = h.is_class; is_passed = h.is_passed ∙ sym (is_among-apart l.passed n q apart); is_known = h.is_known }
other-declared D s l n q m false apart h =
    record { is_class = h.is_class; is_passed = h.is_passed ∙ sym (is_among-apart l.passed n q apart); is_known = subst (IsKnown D s.known) (sym (entry_of-apart l.known n m q apart)) h.is_known }

-- `declare`
pub StandsFor-define : (D : ℕ → Meaning → Type 0) (old new : Table) (block name : ℕ) (l : Local) (n : List ℕ) (d : DeclarationId) (m : Meaning) → D d.0 m →
    Rebinds old new block name (declared (slot_in old.slots block name) d) → number_of old.texts n ≡ Some name → StandsFor D old block l → StandsFor D new block (define l n m)
StandsFor-define D old new block name l n d m is_declared changes is stands =
    let at : Has D (slot_in old.slots block name) l n = subst (λ (o : Option ℕ). Has D (slot_at old.slots block o) l n) is (stands n) in
    StandsFor-Rebinds D old new block name (declared (slot_in old.slots block name) d) l (define l n m) n changes is
    (subst (λ (b : Bool). Has D (if b then slot_in old.slots block name else passed (completed (slot_in old.slots block name) d)) (define l n m) n) (sym at.is_passed)
    (declared-by D (slot_in old.slots block name) l n d m (is_among l.passed n) is_declared at.is_passed at))
    (λ o q apart h. other-declared D o l n q m (is_among l.passed n) apart h)
    stands

-- ---- the definition of a constant or a type, whose name stands before in it, and whose declaration is complete behind it

-- behind its definition the name is declared, if it is the first one
pub StandsFor-first : (D : ℕ → Meaning → Type 0) (t : Table) (block : ℕ) (l : Local) (n : List ℕ) (m : Meaning) → is_among l.passed n ≡ false →
    StandsFor D t block (knowing (passing l n) n m) → StandsFor D t block (define l n m)
StandsFor-first D t block l n m first stands =
    subst (λ (b : Bool). StandsFor D t block (record l { passed = l.passed ++ n ∷ []; known = if b then l.known else l.known ++ (n, m) ∷ [] })) (sym first) stands

-- a second one only stands before
pub StandsFor-second : (D : ℕ → Meaning → Type 0) (t : Table) (block : ℕ) (l : Local) (n : List ℕ) (m : Meaning) → is_among l.passed n ≡ true →
    StandsFor D t block (passing l n) → StandsFor D t block (define l n m)
StandsFor-second D t block l n m second stands =
    subst (λ (b : Bool). StandsFor D t block (record l { passed = l.passed ++ n ∷ []; known = if b then l.known else l.known ++ (n, m) ∷ [] })) (sym second) stands

-- ---- lists of declarations

-- one more declaration at the end
pub define_all-end : (l : Local) (ds : List (List ℕ × Meaning)) (n : List ℕ) (m : Meaning) → define_all l (ds ++ (n, m) ∷ []) ≡ define (define_all l ds) n m
define_all-end l [] n m = refl
define_all-end l (d ∷ ds) n m = define_all-end (define l d.0 d.1) ds n m

-- the same of names that only pass
pub pass_all-end : (l : Local) (ds : List (List ℕ × Meaning)) (n : List ℕ) (m : Meaning) → pass_all l (ds ++ (n, m) ∷ []) ≡ pass (pass_all l ds) n
pass_all-end l [] n m = refl
pass_all-end l (d ∷ ds) n m = pass_all-end (pass l d.0) ds n m
