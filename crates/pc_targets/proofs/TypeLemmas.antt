-- The types that a block declares are its own, and stand among the names that it declares.
use Rattle.std.proofs.Common.{◌≡◌, ℕ, Bool, true, false, ◌&&◌, ◌||◌, if◌then◌else◌, List, [], ◌∷◌, ◌++◌, Option, Some, None, option_map, map, refl, sym, ◌∙◌, ap, subst, true≢false}
use Rattle.std.proofs.lemmas.Bool.{and_parts}
use Rattle.std.proofs.lemmas.Slice.Eq.{bytes_eq-Decides}
use Rattle.std.specs.Option.{is_some}
use Rattle.std.specs.Str.{bytes_eq}
use Rattle.pc_syntax.specs.Words.{is_among}
use Rattle.pc_types.specs.Domains.{domain_in, stands_in, closed}
use Rattle.pc_types.specs.Sameness.{same_owner}
use Rattle.pc_types.specs.Shapes.{Owner, Domain, Typed}
use Rattle.pc_rules.specs.ClosedTypes.{own_domains, carried, close_type, close_types}
use Rattle.pc_rules.specs.Meanings.{Class, Meaning, Local, entry_of, define, define_all}
use Rattle.pc_rules.specs.NameClasses.{is_type_class}
use Rattle.pc_needs.proofs.Lists.{Each, each-append, each-map}
use Rattle.pc_needs.proofs.Owners.{same_owner-equal}
use Rattle.pc_rule_laws.specs.Roles.{keys}
use Rattle.pc_rule_laws.specs.Standing.{or_else, entry_of-append}

-- ---- names

-- a name stands among these
abbrev pub IsNamed : List (List ℕ × Class) → List ℕ → Type 0
IsNamed names n = is_some (entry_of names n) ≡ true

some-front : {X : Type 0} (a b : Option X) → is_some a ≡ true → is_some (or_else a b) ≡ true
some-front None b e = absurd (true≢false (sym e))
some-front (Some x) b e = refl

some-back : {X : Type 0} (a b : Option X) → is_some b ≡ true → is_some (or_else a b) ≡ true
some-back None b e = e
some-back (Some x) b e = refl

pub named-front : (xs ys : List (List ℕ × Class)) (n : List ℕ) → IsNamed xs n → IsNamed (xs ++ ys) n
named-front xs ys n e = ap (λ (o : Option Class). is_some o) (entry_of-append xs ys n) ∙ some-front (entry_of xs n) (entry_of ys n) e

pub named-back : (xs ys : List (List ℕ × Class)) (n : List ℕ) → IsNamed ys n → IsNamed (xs ++ ys) n
named-back xs ys n e = ap (λ (o : Option Class). is_some o) (entry_of-append xs ys n) ∙ some-back (entry_of xs n) (entry_of ys n) e

-- ---- declarations

-- if a declaration is a type, then of this block, and among these names
abbrev pub IsOwnType : Owner → List (List ℕ × Class) → List ℕ × Meaning → Type 0
IsOwnType o names d = is_type_class d.1.class ≡ true → (d.1.owner ≡ o) × IsNamed names d.0

-- the same of each of some declarations
abbrev pub AllOwnTypes : Owner → List (List ℕ × Class) → List (List ℕ × Meaning) → Type 0
AllOwnTypes o names ds = Each (IsOwnType o names) ds

-- no type is among some names with classes
abbrev pub NoTypes : List (List ℕ × Class) → Type 0
NoTypes cs = Each (λ (c : List ℕ × Class). is_type_class c.1 ≡ false) cs

pub none-own : (o : Owner) (names : List (List ℕ × Class)) (ds : List (List ℕ × Meaning)) → NoTypes (keys ds) → AllOwnTypes o names ds
none-own o names [] h = tt
none-own o names (d ∷ ds) h = ((λ e. absurd (true≢false (sym e ∙ h.0))), none-own o names ds h.1)

-- among more names
pub more-own : (o : Owner) (xs ys : List (List ℕ × Class)) (ds : List (List ℕ × Meaning)) → ((n : List ℕ) → IsNamed xs n → IsNamed ys n) → AllOwnTypes o xs ds → AllOwnTypes o ys ds
more-own o xs ys ds f h = each-map (IsOwnType o xs) (IsOwnType o ys) ds (λ d g e. let b = g e in (b.0, f d.0 b.1)) h

-- ---- places

define-own : (o : Owner) (names : List (List ℕ × Class)) (l : Local) (n : List ℕ) (m : Meaning) → AllOwnTypes o names l.known → IsOwnType o names (n, m) → AllOwnTypes o names (define l n m).known
define-own o names l n m h g = by (is_among l.passed n) where
  by : (b : Bool) → AllOwnTypes o names (if b then l.known else l.known ++ (n, m) ∷ [])
  by true = h
  by false = each-append (IsOwnType o names) l.known ((n, m) ∷ []) h (g, tt)

pub define_all-own : (o : Owner) (names : List (List ℕ × Class)) (l : Local) (ds : List (List ℕ × Meaning)) → AllOwnTypes o names l.known → AllOwnTypes o names ds → AllOwnTypes o names (define_all l ds).known
define_all-own o names l [] h g = h
define_all-own o names l (d ∷ ds) h g = define_all-own o names (define l d.0 d.1) ds (define-own o names l d.0 d.1 h g.0) g.1

close-one : (o : Owner) (names : List (List ℕ × Class)) (table : List Domain) (d : List ℕ × Meaning) → IsOwnType o names d → IsOwnType o names (close_type table d)
close-one o names table d h = by (is_type_class d.1.class) where
  by : (b : Bool) → IsOwnType o names (if b then (d.0, record d.1 { type = closed table (option_map (λ (t : Typed). t.shape) d.1.type) }) else d)
  by true = h
  by false = h

close-own : (o : Owner) (names : List (List ℕ × Class)) (table : List Domain) (ds : List (List ℕ × Meaning)) → AllOwnTypes o names ds → AllOwnTypes o names (map (close_type table) ds)
close-own o names table [] h = tt
close-own o names table (d ∷ ds) h = (close-one o names table d h.0, close-own o names table ds h.1)

pub closed-own : (o : Owner) (names : List (List ℕ × Class)) (l : Local) → AllOwnTypes o names l.known → AllOwnTypes o names (close_types l).known
closed-own o names l h = close-own o names (own_domains l.known ++ carried l.known) l.known h

-- ---- domains

-- a place at which one of them stands is of the block, and among the names
pub stands-own : (o : Owner) (names : List (List ℕ × Class)) (ds : List (List ℕ × Meaning)) (p : Owner) (n : List ℕ) → AllOwnTypes o names ds → stands_in (own_domains ds) p n ≡ true → (p ≡ o) × IsNamed names n
stands-own o names [] p n h e = absurd (true≢false (sym e))
stands-own o names (d ∷ ds) p n h e = by (stands-own o names ds p n h.1) (is_type_class d.1.class) refl e where
  here : (stands_in (own_domains ds) p n ≡ true → (p ≡ o) × IsNamed names n) → is_type_class d.1.class ≡ true → (b : Bool) → (same_owner p d.1.owner && bytes_eq n d.0) ≡ b →
      (b || stands_in (own_domains ds) p n) ≡ true → (p ≡ o) × IsNamed names n
  here rest c true q e =
      let parts = and_parts (same_owner p d.1.owner) (bytes_eq n d.0) q in
      let own = h.0 c in
      (same_owner-equal p d.1.owner parts.0 ∙ own.0, subst (IsNamed names) (sym ((bytes_eq-Decides n d.0).0 parts.1)) own.1)
  here rest c false q e = rest e

  by : (stands_in (own_domains ds) p n ≡ true → (p ≡ o) × IsNamed names n) → (b : Bool) → is_type_class d.1.class ≡ b →
      stands_in (if b then record { owner = d.1.owner; name = d.0; shape = option_map (λ (t : Typed). t.shape) d.1.type } ∷ own_domains ds else own_domains ds) p n ≡ true → (p ≡ o) × IsNamed names n
  by rest true c e = here rest c (same_owner p d.1.owner && bytes_eq n d.0) refl e
  by rest false c e = rest e

-- where none stands, there is no shape
pub none-stands : (ds : List Domain) (o : Owner) (n : List ℕ) → stands_in ds o n ≡ false → domain_in ds o n ≡ None
none-stands [] o n e = refl
none-stands (d ∷ ds) o n e = by (none-stands ds o n) (same_owner o d.owner && bytes_eq n d.name) e where
  by : (stands_in ds o n ≡ false → domain_in ds o n ≡ None) → (b : Bool) → (b || stands_in ds o n) ≡ false → (if b then d.shape else domain_in ds o n) ≡ None
  by rest true e = absurd (true≢false e)
  by rest false e = rest e
