-- The types among declarations that have each name once: lemmas.
use Rattle.std.proofs.Common.{◌≡◌, inl, inr, ℕ, Bool, true, false, if◌then◌else◌, List, [], ◌∷◌, ◌++◌, map, Option, Some, None, option_map, refl, ap, sym, ◌∙◌, subst, true≢false}
use Rattle.std.proofs.lemmas.Bool.{or_cases, or_left, or_right, false_from_ne_true}
use Rattle.std.proofs.lemmas.Option.{none-some, same_Some}
use Rattle.std.proofs.lemmas.Slice.Eq.{bytes_eq-Decides}
use Rattle.std.specs.Str.{bytes_eq}
use Rattle.pc_types.specs.Shapes.{Owner, Domain, Typed}
use Rattle.pc_types.specs.Domains.{is_domain, domain_in, stands_in, closed}
use Rattle.pc_rules.specs.ClosedTypes.{own_domains, carried, close_type, close_types}
use Rattle.pc_rules.specs.Meanings.{Meaning, Local, entry_of}
use Rattle.pc_rules.specs.NameClasses.{is_type_class}
use Rattle.pc_names.specs.StandingChanges.{entry_of-map, closed_meaning}
use Rattle.pc_facts.specs.Shows.{shape_of}
use Rattle.pc_closed.specs.PlaceLaws.{is_domain-tells, is_domain-self, domain-none}
use Rattle.pc_block_laws.specs.Block.{OnceEach}

-- a type's declaration as a domain
abbrev as_domain : List ℕ × Meaning → Domain
as_domain d = record { owner = d.1.owner; name = d.0; shape = option_map (λ (t : Typed). t.shape) d.1.type }

-- a declaration of a type under this name, of this owner
pub record IsOwnType (ds : List (List ℕ × Meaning)) (o : Owner) (n : List ℕ) : Type 0 where
  pub meaning : Meaning
  pub is : entry_of ds n ≡ Some meaning
  pub class : is_type_class meaning.class ≡ true
  pub owner : meaning.owner ≡ o

-- what stands behind a declaration of another name
behind : (d : List ℕ × Meaning) (ds : List (List ℕ × Meaning)) (o : Owner) (n : List ℕ) → entry_of ds d.0 ≡ None → IsOwnType ds o n → IsOwnType (d ∷ ds) o n
behind d ds o n once h = by (bytes_eq d.0 n) refl
  where
    by : (b : Bool) → bytes_eq d.0 n ≡ b → IsOwnType (d ∷ ds) o n
    by true e =
        let same : d.0 ≡ n = (bytes_eq-Decides d.0 n).0 e in
        absurd (none-some h.meaning (sym once ∙ ap (entry_of ds) same ∙ h.is))
    by false e = record {
      meaning = h.meaning;
      is = ap (λ (b : Bool). if b then Some d.1 else entry_of ds n) e ∙ h.is;
      class = h.class;
      owner = h.owner;
    }

-- where a type stands at a place, it is declared under that name
pub own-tells : (ds : List (List ℕ × Meaning)) (o : Owner) (n : List ℕ) → OnceEach ds → stands_in (own_domains ds) o n ≡ true → IsOwnType ds o n
own-tells [] o n once s = absurd (true≢false (sym s))
own-tells (d ∷ ds) o n once s = by (λ e. own-tells ds o n once.1 e) (is_type_class d.1.class) refl s
  where
    here : is_type_class d.1.class ≡ true → is_domain o n (as_domain d) ≡ true → IsOwnType (d ∷ ds) o n
    here c e =
        let at = is_domain-tells o n (as_domain d) e in
        record {
          meaning = d.1;
          is = ap (λ (b : Bool). if b then Some d.1 else entry_of ds n) ((bytes_eq-Decides d.0 n).1 (sym at.1));
          class = c;
          owner = sym at.0;
        }

    by : (stands_in (own_domains ds) o n ≡ true → IsOwnType ds o n) → (b : Bool) → is_type_class d.1.class ≡ b →
        stands_in (if b then as_domain d ∷ own_domains ds else own_domains ds) o n ≡ true → IsOwnType (d ∷ ds) o n
    by rest true c t = elim (or_cases (is_domain o n (as_domain d)) (stands_in (own_domains ds) o n) t) [
      | inl e ↦ here c e
      | inr e ↦ behind d ds o n once.0 (rest e)
    ]
    by rest false c t = behind d ds o n once.0 (rest t)

-- the type that is declared under a name stands at its place
pub record StandsThere (ds : List (List ℕ × Meaning)) (n : List ℕ) (m : Meaning) : Type 0 where
  pub stands : stands_in (own_domains ds) m.owner n ≡ true
  pub shape : domain_in (own_domains ds) m.owner n ≡ shape_of m.type

first-there : (d : List ℕ × Meaning) (ds : List (List ℕ × Meaning)) → is_type_class d.1.class ≡ true → StandsThere (d ∷ ds) d.0 d.1
first-there d ds c = by (is_type_class d.1.class) c
  where
    at : is_domain d.1.owner d.0 (as_domain d) ≡ true
    at = is_domain-self (as_domain d)

    by : (b : Bool) → b ≡ true → StandsThere (d ∷ ds) d.0 d.1
    by b e = record {
      stands = ap (λ (b : Bool). stands_in (if b then as_domain d ∷ own_domains ds else own_domains ds) d.1.owner d.0) c
          ∙ or_left (is_domain d.1.owner d.0 (as_domain d)) (stands_in (own_domains ds) d.1.owner d.0) at;
      shape = ap (λ (b : Bool). domain_in (if b then as_domain d ∷ own_domains ds else own_domains ds) d.1.owner d.0) c
          ∙ ap (λ (b : Bool). if b then (as_domain d).shape else domain_in (own_domains ds) d.1.owner d.0) at;
    }

next-there : (d : List ℕ × Meaning) (ds : List (List ℕ × Meaning)) (n : List ℕ) (m : Meaning) → bytes_eq d.0 n ≡ false → StandsThere ds n m → StandsThere (d ∷ ds) n m
next-there d ds n m apart h = by (is_type_class d.1.class) refl
  where
    other : is_domain m.owner n (as_domain d) ≡ false
    other = false_from_ne_true (is_domain m.owner n (as_domain d)) (λ t.
        let at = is_domain-tells m.owner n (as_domain d) t in true≢false (sym ((bytes_eq-Decides d.0 n).1 (sym at.1)) ∙ apart))

    by : (b : Bool) → is_type_class d.1.class ≡ b → StandsThere (d ∷ ds) n m
    by true c = record {
      stands = ap (λ (b : Bool). stands_in (if b then as_domain d ∷ own_domains ds else own_domains ds) m.owner n) c
          ∙ or_right (is_domain m.owner n (as_domain d)) (stands_in (own_domains ds) m.owner n) h.stands;
      shape = ap (λ (b : Bool). domain_in (if b then as_domain d ∷ own_domains ds else own_domains ds) m.owner n) c
          ∙ ap (λ (b : Bool). if b then (as_domain d).shape else domain_in (own_domains ds) m.owner n) other ∙ h.shape;
    }
    by false c = record {
      stands = ap (λ (b : Bool). stands_in (if b then as_domain d ∷ own_domains ds else own_domains ds) m.owner n) c ∙ h.stands;
      shape = ap (λ (b : Bool). domain_in (if b then as_domain d ∷ own_domains ds else own_domains ds) m.owner n) c ∙ h.shape;
    }

pub own-there : (ds : List (List ℕ × Meaning)) (n : List ℕ) (m : Meaning) → entry_of ds n ≡ Some m → is_type_class m.class ≡ true → StandsThere ds n m
own-there [] n m e c = absurd (none-some m e)
own-there (d ∷ ds) n m e c = by (λ q. own-there ds n m q c) (bytes_eq d.0 n) refl e
  where
    by : (entry_of ds n ≡ Some m → StandsThere ds n m) → (b : Bool) → bytes_eq d.0 n ≡ b → (if b then Some d.1 else entry_of ds n) ≡ Some m → StandsThere (d ∷ ds) n m
    by rest true q e =
        let same : d.1 ≡ m = same_Some d.1 m e in
        let name : d.0 ≡ n = (bytes_eq-Decides d.0 n).0 q in
        let class : is_type_class d.1.class ≡ true = ap (λ (x : Meaning). is_type_class x.class) same ∙ c in
        subst (λ (k : List ℕ). StandsThere (d ∷ ds) k m) name (subst (λ (x : Meaning). StandsThere (d ∷ ds) d.0 x) same (first-there d ds class))
    by rest false q e = next-there d ds n m q (rest e)

-- at a place under a name that is no type's nothing stands
pub own-none : (ds : List (List ℕ × Meaning)) (o : Owner) (n : List ℕ) → OnceEach ds → ((m : Meaning) → entry_of ds n ≡ Some m → is_type_class m.class ≡ true → ⊥) →
    domain_in (own_domains ds) o n ≡ None
own-none ds o n once not =
    domain-none (own_domains ds) o n (false_from_ne_true (stands_in (own_domains ds) o n) (λ t. let h = own-tells ds o n once t in not h.meaning h.is h.class))

-- ---- behind the type part

close_type-is : (table : List Domain) (e : List ℕ × Meaning) → close_type table e ≡ (e.0, closed_meaning table e.1)
close_type-is table e = by (is_type_class e.1.class)
  where
    by : (b : Bool) → (if b then (e.0, record e.1 { type = closed table (option_map (λ (t : Typed). t.shape) e.1.type) }) else e) ≡
        (e.0, (if b then record e.1 { type = closed table (option_map (λ (t : Typed). t.shape) e.1.type) } else e.1))
    by true = refl
    by false = refl

-- what each name is there
pub closed-entry : (table : List Domain) (ds : List (List ℕ × Meaning)) (n : List ℕ) → entry_of (map (close_type table) ds) n ≡ option_map (closed_meaning table) (entry_of ds n)
closed-entry table ds n = entry_of-map (close_type table) (closed_meaning table) (close_type-is table) ds n

mapped-none : {X Y : Type 0} (f : X → Y) (o : Option X) → o ≡ None → option_map f o ≡ None
mapped-none f o e = ap (option_map f) e

once-closed : (table : List Domain) (ds : List (List ℕ × Meaning)) → OnceEach ds → OnceEach (map (close_type table) ds)
once-closed table [] h = tt
once-closed table (d ∷ ds) h = (
  ap (λ (e : List ℕ × Meaning). entry_of (map (close_type table) ds) e.0) (close_type-is table d) ∙ closed-entry table ds d.0 ∙ ap (option_map (closed_meaning table)) h.0,
  once-closed table ds h.1,
)

pub OnceEach-closed : (l : Local) → OnceEach l.known → OnceEach (close_types l).known
OnceEach-closed l h = once-closed (own_domains l.known ++ carried l.known) l.known h

-- its class and its owner stay
pub closed-class : (table : List Domain) (m : Meaning) → (closed_meaning table m).class ≡ m.class
closed-class table m = by (is_type_class m.class)
  where
    by : (b : Bool) → (if b then record m { type = closed table (option_map (λ (t : Typed). t.shape) m.type) } else m).class ≡ m.class
    by true = refl
    by false = refl

pub closed-owner : (table : List Domain) (m : Meaning) → (closed_meaning table m).owner ≡ m.owner
closed-owner table m = by (is_type_class m.class)
  where
    by : (b : Bool) → (if b then record m { type = closed table (option_map (λ (t : Typed). t.shape) m.type) } else m).owner ≡ m.owner
    by true = refl
    by false = refl

pub closed-type : (table : List Domain) (m : Meaning) → is_type_class m.class ≡ true → (closed_meaning table m).type ≡ closed table (option_map (λ (t : Typed). t.shape) m.type)
closed-type table m c = ap (λ (b : Bool). (if b then record m { type = closed table (option_map (λ (t : Typed). t.shape) m.type) } else m).type) c
