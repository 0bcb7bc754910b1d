-- What names mean behind declarations.
use Rattle.std.proofs.Common.{◌≡◌, ℕ, Bool, true, false, if◌then◌else◌, List, [], ◌∷◌, ◌++◌, Option, Some, None, option_map, refl, sym, ◌∙◌, ap, subst}
use Rattle.std.proofs.lemmas.Bool.{true≢false}
use Rattle.std.proofs.lemmas.Slice.Eq.{bytes_eq-Decides}
use Rattle.std.specs.Str.{bytes_eq}
use Rattle.pc_syntax.specs.Words.{is_among}
use Rattle.pc_types.specs.Shapes.{Domain, Typed}
use Rattle.pc_types.specs.Domains.{stands_in}
use Rattle.pc_rules.specs.ClosedTypes.{own_domains}
use Rattle.pc_rules.specs.Meanings.{Class, Meaning, Found, Local, Outside, entry_of, is_routine_class, with_signature, known_or, later_or, field_or, find, define, define_all}
use Rattle.pc_rules.specs.NameClasses.{is_type_class}
use Rattle.pc_pointers.specs.Good.{Targets}
use Rattle.pc_closed.specs.PlaceLaws.{stands-front, stands-back, stands-first}
use Rattle.pc_closed.specs.Reached.{Covers}
use Rattle.pc_closed.specs.Carried.{IsCarriedType, AllTypesCarried}
use Rattle.pc_carrying.specs.Carrying.{IsPlainValue, IsCarriedMeaning, IsCarriedName, KnownCarried, CarriedPlace, AllPlain}
use Rattle.pc_carrying.specs.Parts.{AllSound, AllBeside}

-- ---- what a name means at a place

signed-carried : (targets : Targets) (own : List Domain) (out : Outside) (n : List ℕ) (m : Meaning) → IsCarriedMeaning targets own n m → IsCarriedMeaning targets own n (with_signature out n m)
signed-carried targets own out n m h = by (is_routine_class m.class) where
  by : (b : Bool) → IsCarriedMeaning targets own n (if b then record m { signature = out.heading n } else m)
  by true = record { named = h.named; plain = h.plain }
  by false = h

known-carried : (targets : Targets) (own : List Domain) (out : Outside) (n : List ℕ) (r : Option Meaning) (other : Found) → ((m : Meaning) → r ≡ Some m → IsCarriedMeaning targets own n m) →
    IsCarriedName targets own n other → IsCarriedName targets own n (known_or out n r other)
known-carried targets own out n None other h g = g
known-carried targets own out n (Some m) other h g = signed-carried targets own out n m (h m refl)

later-carried : (targets : Targets) (own : List Domain) (n : List ℕ) (c : Option Class) (other : Found) → IsCarriedName targets own n other → IsCarriedName targets own n (later_or c other)
later-carried targets own n None other g = g
later-carried targets own n (Some c) other g = tt

field-carried : (targets : Targets) (own : List Domain) (n : List ℕ) (f : Option (Typed × Bool)) (other : Found) → IsCarriedName targets own n other → IsCarriedName targets own n (field_or f other)
field-carried targets own n None other g = g
field-carried targets own n (Some f) other g = tt

-- what a name means there
pub found-carried : (targets : Targets) (own : List Domain) (out : Outside) (l : Local) → CarriedPlace targets own out l → (n : List ℕ) → IsCarriedName targets own n (find out l n)
unfolding find
found-carried targets own out l h n =
    field-carried targets own n (entry_of l.fields n) _
    (known-carried targets own out n (entry_of l.known n) _ (h.known n) (later-carried targets own n (entry_of l.names n) (out.means n) (h.outside n)))

-- ---- one more declaration

entry-more : {C : Type 0} → (ds : List (List ℕ × Meaning)) (x : List ℕ) (m : Meaning) (n : List ℕ) (r : Meaning) → (entry_of ds n ≡ Some r → C) → (bytes_eq x n ≡ true → m ≡ r → C) →
    entry_of (ds ++ (x, m) ∷ []) n ≡ Some r → C
entry-more {C = C} [] x m n r h g e = by (bytes_eq x n) refl e where
  by : (b : Bool) → bytes_eq x n ≡ b → (if b then Some m else None) ≡ Some r → C
  by true q e = g q (cc e)
  by false q e = absurd (cc e)
entry-more {C = C} (d ∷ ds) x m n r h g e = by (entry-more {C = C} ds x m n r) (bytes_eq d.0 n) h e where
  by : ((entry_of ds n ≡ Some r → C) → (bytes_eq x n ≡ true → m ≡ r → C) → entry_of (ds ++ (x, m) ∷ []) n ≡ Some r → C) →
      (b : Bool) → ((if b then Some d.1 else entry_of ds n) ≡ Some r → C) → (if b then Some d.1 else entry_of (ds ++ (x, m) ∷ []) n) ≡ Some r → C
  by rest true h e = h e
  by rest false h e = rest h g e

-- where it is the first of its name, it is carried
pub define-carried : (targets : Targets) (own : List Domain) (l : Local) (x : List ℕ) (m : Meaning) → KnownCarried targets own l.known →
    (is_among l.passed x ≡ false → IsCarriedMeaning targets own x m) → KnownCarried targets own (define l x m).known
define-carried targets own l x m h g = by (is_among l.passed x) refl where
  by : (b : Bool) → is_among l.passed x ≡ b → KnownCarried targets own (if b then l.known else l.known ++ (x, m) ∷ [])
  by true q = h
  by false q = λ n r e.
      entry-more {C = IsCarriedMeaning targets own n r} l.known x m n r (h n r)
      (λ s t. subst (λ (y : List ℕ). IsCarriedMeaning targets own y r) ((bytes_eq-Decides x n).0 s) (subst (IsCarriedMeaning targets own x) t (g q))) e

-- what is no type
pub plain-meaning : (targets : Targets) (own : List Domain) (x : List ℕ) (m : Meaning) → is_type_class m.class ≡ false → IsPlainValue m.value → IsCarriedMeaning targets own x m
plain-meaning targets own x m c v = record { named = λ e. absurd (true≢false (sym e ∙ c)); plain = v }

pub plain-beside : (ds : List (List ℕ × Meaning)) → AllPlain ds → AllBeside ds
plain-beside [] h = tt
plain-beside (d ∷ ds) h = (h.0.class, h.0.value, plain-beside ds h.1)

pub beside-both : (ds es : List (List ℕ × Meaning)) → AllBeside ds → AllBeside es → AllBeside (ds ++ es)
beside-both [] es h g = g
beside-both (d ∷ ds) es h g = (h.0, h.1, beside-both ds es h.2 g)

pub beside-carried : (targets : Targets) (own : List Domain) (l : Local) (ds : List (List ℕ × Meaning)) → AllBeside ds → KnownCarried targets own l.known → KnownCarried targets own (define_all l ds).known
beside-carried targets own l [] h g = g
beside-carried targets own l (d ∷ ds) h g =
    beside-carried targets own (define l d.0 d.1) ds h.2 (define-carried targets own l d.0 d.1 g (λ q. plain-meaning targets own d.0 d.1 h.0 h.1))

-- ---- types that the block tells itself

-- the types of a block
abbrev pub own_types : Local → List Domain
own_types l = own_domains l.known

domains-both : (ds es : List (List ℕ × Meaning)) → own_domains (ds ++ es) ≡ own_domains ds ++ own_domains es
domains-both [] es = refl
domains-both (d ∷ ds) es = by (domains-both ds es) (is_type_class d.1.class) where
  by : own_domains (ds ++ es) ≡ own_domains ds ++ own_domains es → (b : Bool) →
      (if b then record { owner = d.1.owner; name = d.0; shape = option_map (λ (t : Typed). t.shape) d.1.type } ∷ own_domains (ds ++ es) else own_domains (ds ++ es))
      ≡ (if b then record { owner = d.1.owner; name = d.0; shape = option_map (λ (t : Typed). t.shape) d.1.type } ∷ own_domains ds else own_domains ds) ++ own_domains es
  by rest true = ap (λ (xs : List Domain). record { owner = d.1.owner; name = d.0; shape = option_map (λ (t : Typed). t.shape) d.1.type } ∷ xs) rest
  by rest false = rest

-- one more declaration leaves them there
define-covers : (l : Local) (x : List ℕ) (m : Meaning) → Covers (own_types (define l x m)) (own_types l)
define-covers l x m = by (is_among l.passed x) where
  by : (b : Bool) → Covers (own_domains (if b then l.known else l.known ++ (x, m) ∷ [])) (own_domains l.known)
  by true = λ o n e. e
  by false = λ o n e. ap (λ (xs : List Domain). stands_in xs o n) (domains-both l.known ((x, m) ∷ [])) ∙ stands-front (own_domains l.known) (own_domains ((x, m) ∷ [])) o n e

-- and so do several
pub all-cover : (l : Local) (ds : List (List ℕ × Meaning)) → Covers (own_types (define_all l ds)) (own_types l)
all-cover l [] o n e = e
all-cover l (d ∷ ds) o n e = all-cover (define l d.0 d.1) ds o n (define-covers l d.0 d.1 o n e)

-- a type that is the first of its name is one of them
define-stands : (l : Local) (x : List ℕ) (m : Meaning) → is_among l.passed x ≡ false → is_type_class m.class ≡ true → stands_in (own_types (define l x m)) m.owner x ≡ true
define-stands l x m q c =
    ap (λ (b : Bool). stands_in (own_domains (if b then l.known else l.known ++ (x, m) ∷ [])) m.owner x) q
    ∙ ap (λ (xs : List Domain). stands_in xs m.owner x) (domains-both l.known ((x, m) ∷ []))
    ∙ stands-back (own_domains l.known) (own_domains ((x, m) ∷ [])) m.owner x (last (is_type_class m.class) c) where
      last : (b : Bool) → b ≡ true → stands_in (if b then record { owner = m.owner; name = x; shape = option_map (λ (t : Typed). t.shape) m.type } ∷ [] else []) m.owner x ≡ true
      last true e = stands-first (record { owner = m.owner; name = x; shape = option_map (λ (t : Typed). t.shape) m.type }) []
      last false e = absurd (true≢false (sym e))

pub sound-both : (targets : Targets) (own : List Domain) (ds es : List (List ℕ × Meaning)) → AllSound targets own ds → AllSound targets own es → AllSound targets own (ds ++ es)
sound-both targets own [] es h g = g
sound-both targets own (d ∷ ds) es h g = (h.0, sound-both targets own ds es h.1 g)

pub plain-sound : (targets : Targets) (own : List Domain) (ds : List (List ℕ × Meaning)) → AllPlain ds → AllSound targets own ds
plain-sound targets own [] h = tt
plain-sound targets own (d ∷ ds) h = (
  record { type = let e = h.0.untyped in rw e tt; value = h.0.value; untyped = λ c. h.0.untyped; unsigned = h.0.unsigned },
  plain-sound targets own ds h.1,
)

-- behind them names are carried, where the block's own types are all among `own`
pub sound-carried : (targets : Targets) (own : List Domain) (l : Local) (ds : List (List ℕ × Meaning)) → Covers own (own_types (define_all l ds)) → AllSound targets own ds →
    KnownCarried targets own l.known → KnownCarried targets own (define_all l ds).known
sound-carried targets own l [] c h g = g
sound-carried targets own l (d ∷ ds) c h g =
    sound-carried targets own (define l d.0 d.1) ds c h.1
    (define-carried targets own l d.0 d.1 g (λ q. record {
      named = λ e. (h.0.type, λ s. absurd (true≢false (sym (c d.1.owner d.0 (all-cover (define l d.0 d.1) ds d.1.owner d.0 (define-stands l d.0 d.1 q e))) ∙ s)));
      plain = h.0.value;
    }))

types-both : (targets : Targets) (own : List Domain) (ds es : List (List ℕ × Meaning)) → AllTypesCarried targets own ds → AllTypesCarried targets own es → AllTypesCarried targets own (ds ++ es)
types-both targets own [] es h g = g
types-both targets own (d ∷ ds) es h g = (h.0, types-both targets own ds es h.1 g)

define-types : (targets : Targets) (own : List Domain) (l : Local) (x : List ℕ) (m : Meaning) → IsCarriedType targets own m.type → AllTypesCarried targets own l.known →
    AllTypesCarried targets own (define l x m).known
define-types targets own l x m h g = by (is_among l.passed x) where
  by : (b : Bool) → AllTypesCarried targets own (if b then l.known else l.known ++ (x, m) ∷ [])
  by true = g
  by false = types-both targets own l.known ((x, m) ∷ []) g (h, tt)

-- and the types of what is declared are carried
pub sound-types : (targets : Targets) (own : List Domain) (l : Local) (ds : List (List ℕ × Meaning)) → AllSound targets own ds → AllTypesCarried targets own l.known →
    AllTypesCarried targets own (define_all l ds).known
sound-types targets own l [] h g = g
sound-types targets own l (d ∷ ds) h g = sound-types targets own (define l d.0 d.1) ds h.1 (define-types targets own l d.0 d.1 h.0.type g)

-- ---- the same names, elsewhere

-- declarations behind others
pub append-defined : (l : Local) (ds es : List (List ℕ × Meaning)) → define_all l (ds ++ es) ≡ define_all (define_all l ds) es
append-defined l [] es = refl
append-defined l (d ∷ ds) es = append-defined (define l d.0 d.1) ds es

-- places with the same names declare the same
pub record SameNames (l m : Local) : Type 0 where
  pub known : l.known ≡ m.known
  pub passed : l.passed ≡ m.passed

pub same-defined : (l m : Local) (ds : List (List ℕ × Meaning)) → SameNames l m → SameNames (define_all l ds) (define_all m ds)
same-defined l m [] h = h
same-defined l m (d ∷ ds) h = same-defined (define l d.0 d.1) (define m d.0 d.1) ds (record {
  known = λ i. if is_among (h.passed i) d.0 then h.known i else h.known i ++ (d.0, d.1) ∷ [];
  passed = λ i. h.passed i ++ d.0 ∷ [];
})
