-- Names that are declared later: what is so behind a node was so before it, since a block only declares more.
use Rattle.std.proofs.Common.{◌≡◌, ℕ, Bool, true, false, if◌then◌else◌, List, [], ◌∷◌, ◌++◌, Option, Some, None, option_map, map, refl, sym, ◌∙◌, ap}
use Rattle.std.specs.Str.{bytes_eq}
use Rattle.pc_syntax.specs.declared.kind.Kind.{Kind}
use Rattle.pc_syntax.specs.declared.kind.Kind.TheVariants as kind
use Rattle.pc_syntax.specs.Plain.{Forest}
use Rattle.pc_syntax.specs.Words.{is_among}
use Rattle.pc_types.specs.Shapes.{Domain, Typed}
use Rattle.pc_types.specs.Domains.{closed}
use Rattle.pc_scope.specs.Headings.{first_name, names_of_first}
use Rattle.pc_rules.specs.Attributes.{Attributes}
use Rattle.pc_rules.specs.ClosedTypes.{own_domains, carried, close_type, close_types}
use Rattle.pc_rules.specs.DeclaringNames.{all_as}
use Rattle.pc_rules.specs.Meanings.{Class, VariableName, Meaning, Later, Local, Outside, declared_as, entry_of, known_or, later_or, field_or, find, define, define_all}
use Rattle.pc_rules.specs.NameClasses.{is_type_class}
use Rattle.pc_rules.specs.Places.{pass, pass_all, entered, inner, behind, beside}

-- a place behind another one in the same block: it declares the same names, and has all that is declared or open there
pub record StaysLater (l m : Local) : Type 0 where
  pub owner : m.owner ≡ l.owner
  pub names : m.names ≡ l.names
  pub known : (n : List ℕ) → entry_of m.known n ≡ None → entry_of l.known n ≡ None
  pub fields : (n : List ℕ) → entry_of m.fields n ≡ None → entry_of l.fields n ≡ None

stays-same : (l : Local) → StaysLater l l
stays-same l = record { owner = refl; names = refl; known = λ n e. e; fields = λ n e. e }

stays-through : (l m p : Local) → StaysLater l m → StaysLater m p → StaysLater l p
stays-through l m p h g = record {
  owner = g.owner ∙ h.owner;
  names = g.names ∙ h.names;
  known = λ n e. h.known n (g.known n e);
  fields = λ n e. h.fields n (g.fields n e);
}

-- ---- what stands under a name

front-none : {X : Type 0} → (ds es : List (List ℕ × X)) (n : List ℕ) → entry_of (ds ++ es) n ≡ None → entry_of ds n ≡ None
front-none [] es n e = refl
front-none {X = X} (d ∷ ds) es n e = by (front-none {X = X} ds es n) (bytes_eq d.0 n) e where
  by : (entry_of (ds ++ es) n ≡ None → entry_of ds n ≡ None) → (b : Bool) → (if b then Some d.1 else entry_of (ds ++ es) n) ≡ None → (if b then Some d.1 else entry_of ds n) ≡ None
  by rest true e = absurd (cc e)
  by rest false e = rest e

back-none : {X : Type 0} → (ds es : List (List ℕ × X)) (n : List ℕ) → entry_of (ds ++ es) n ≡ None → entry_of es n ≡ None
back-none [] es n e = e
back-none {X = X} (d ∷ ds) es n e = by (back-none {X = X} ds es n) (bytes_eq d.0 n) e where
  by : (entry_of (ds ++ es) n ≡ None → entry_of es n ≡ None) → (b : Bool) → (if b then Some d.1 else entry_of (ds ++ es) n) ≡ None → entry_of es n ≡ None
  by rest true e = absurd (cc e)
  by rest false e = rest e

pub closed-name : (table : List Domain) (d : List ℕ × Meaning) → (close_type table d).0 ≡ d.0
closed-name table d = by (is_type_class d.1.class) where
  by : (b : Bool) → (if b then (d.0, record d.1 { type = closed table (option_map (λ (t : Typed). t.shape) d.1.type) }) else d).0 ≡ d.0
  by true = refl
  by false = refl

pub closed-none : (table : List Domain) (ds : List (List ℕ × Meaning)) (n : List ℕ) → entry_of (map (close_type table) ds) n ≡ None → entry_of ds n ≡ None
closed-none table [] n e = refl
closed-none table (d ∷ ds) n e =
    let r = close_type table d in
    by (closed-none table ds n) (bytes_eq d.0 n) (ap (λ (x : List ℕ). if bytes_eq x n then Some r.1 else entry_of (map (close_type table) ds) n) (sym (closed-name table d)) ∙ e) where
      by : (entry_of (map (close_type table) ds) n ≡ None → entry_of ds n ≡ None) → (b : Bool) →
          (if b then Some (close_type table d).1 else entry_of (map (close_type table) ds) n) ≡ None → (if b then Some d.1 else entry_of ds n) ≡ None
      by rest true e = absurd (cc e)
      by rest false e = rest e

-- ---- steps

define-later : (l : Local) (x : List ℕ) (m : Meaning) → StaysLater l (define l x m)
define-later l x m = record { owner = refl; names = refl; known = λ n. by n (is_among l.passed x); fields = λ n e. e } where
  by : (n : List ℕ) (b : Bool) → entry_of (if b then l.known else l.known ++ (x, m) ∷ []) n ≡ None → entry_of l.known n ≡ None
  by n true e = e
  by n false e = front-none {X = Meaning} l.known ((x, m) ∷ []) n e

pub all-later : (l : Local) (ds : List (List ℕ × Meaning)) → StaysLater l (define_all l ds)
all-later l [] = stays-same l
all-later l (d ∷ ds) = stays-through l (define l d.0 d.1) (define_all l (d ∷ ds)) (define-later l d.0 d.1) (all-later (define l d.0 d.1) ds)

closed-later : (l : Local) → StaysLater l (close_types l)
closed-later l = record { owner = refl; names = refl; known = closed-none (own_domains l.known ++ carried l.known) l.known; fields = λ n e. e }

pass-later : (l : Local) (x : List ℕ) → StaysLater l (pass l x)
pass-later l [] = stays-same l
pass-later l (c ∷ cs) = record { owner = refl; names = refl; known = λ n e. e; fields = λ n e. e }

pass_all-later : (l : Local) (ds : List (List ℕ × Meaning)) → StaysLater l (pass_all l ds)
pass_all-later l [] = stays-same l
pass_all-later l (d ∷ ds) = stays-through l (pass l d.0) (pass_all l (d ∷ ds)) (pass-later l d.0) (pass_all-later (pass l d.0) ds)

-- ---- nodes

-- where its first kid stands
entered-later : (l : Local) (k : Kind) (ks : Forest) → StaysLater l (entered l k ks)
entered-later l kind.Constdef ks = pass-later l (first_name ks)
entered-later l kind.Typedef ks = pass-later l (first_name ks)
entered-later l kind.Vardef ks = all-later l (all_as (declared_as VariableName l.owner) (names_of_first ks))
entered-later l kind.Routines ks = record { owner = refl; names = refl; known = λ n e. e; fields = λ n e. e }
entered-later l (kind.Hole s) ks = stays-same l
entered-later l _ ks = stays-same l

pub inner-later : (l : Local) (k : Kind) (ks : Forest) → StaysLater l (inner l k ks)
inner-later l k ks = let h = entered-later l k ks in record { owner = h.owner; names = h.names; known = h.known; fields = h.fields }

-- behind it
past-later : (l : Local) (ds : List (List ℕ × Meaning)) (m : Local) → StaysLater (define_all l ds) m → StaysLater l m
past-later l ds m h = stays-through l (define_all l ds) m (all-later l ds) h

behind-later : (l : Local) (k : Kind) (a : Attributes) → StaysLater l (behind l k a)
behind-later l kind.Types a = past-later l a.defines _ (closed-later (define_all l a.defines))
behind-later l kind.Procedure a = past-later l a.defines _ (record { owner = refl; names = refl; known = λ n e. e; fields = λ n e. e })
behind-later l kind.Function a = past-later l a.defines _ (record { owner = refl; names = refl; known = λ n e. e; fields = λ n e. e })
behind-later l kind.Funbody a = past-later l a.defines _ (record { owner = refl; names = refl; known = λ n e. e; fields = λ n e. e })
behind-later l (kind.Hole s) a = record { owner = refl; names = refl; known = λ n e. e; fields = λ n e. e }
behind-later l kind.Valparam a = pass_all-later l a.defines
behind-later l kind.Varparam a = pass_all-later l a.defines
behind-later l kind.Params a = pass_all-later l a.defines
behind-later l _ a = all-later l a.defines

pub beside-later : (l : Local) (k : Kind) (a : Attributes) → StaysLater l (beside l k a)
beside-later l k a = let h = behind-later l k a in record { owner = h.owner; names = h.names; known = h.known; fields = λ n. by n l.opening } where
  by : (n : List ℕ) (b : Bool) → entry_of (if b then a.opens ++ l.fields else l.fields) n ≡ None → entry_of l.fields n ≡ None
  by n true e = back-none {X = Typed × Bool} a.opens l.fields n e
  by n false e = e

-- ---- what is declared later

-- of such a name no field is open, and nothing is declared yet
pub later-parts : (out : Outside) (l : Local) (n : List ℕ) (c : Class) → find out l n ≡ Later c →
    (entry_of l.fields n ≡ None) × (entry_of l.known n ≡ None) × (later_or (entry_of l.names n) (out.means n) ≡ Later c)
unfolding find
later-parts out l n c e = by (entry_of l.fields n) (entry_of l.known n) e where
  by : (f : Option (Typed × Bool)) (k : Option Meaning) → field_or f (known_or out n k (later_or (entry_of l.names n) (out.means n))) ≡ Later c →
      (f ≡ None) × (k ≡ None) × (later_or (entry_of l.names n) (out.means n) ≡ Later c)
  by None None e = (refl, refl, e)
  by None (Some m) e = absurd (cc e)
  by (Some f) k e = absurd (cc e)

later-from : (out : Outside) (l : Local) (n : List ℕ) (c : Class) → entry_of l.fields n ≡ None → entry_of l.known n ≡ None → later_or (entry_of l.names n) (out.means n) ≡ Later c → find out l n ≡ Later c
unfolding find
later-from out l n c f k e =
    ap (λ (x : Option (Typed × Bool)). field_or x (known_or out n (entry_of l.known n) (later_or (entry_of l.names n) (out.means n)))) f
    ∙ ap (λ (x : Option Meaning). known_or out n x (later_or (entry_of l.names n) (out.means n))) k ∙ e

-- what is declared later behind was so before
pub later-before : (out : Outside) (l m : Local) (n : List ℕ) (c : Class) → StaysLater l m → find out m n ≡ Later c → find out l n ≡ Later c
later-before out l m n c h e =
    let p = later-parts out m n c e in
    later-from out l n c (h.fields n p.0) (h.known n p.1) (ap (λ (x : List (List ℕ × Class)). later_or (entry_of x n) (out.means n)) (sym h.names) ∙ p.2)
