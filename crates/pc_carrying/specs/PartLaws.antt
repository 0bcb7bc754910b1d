-- Behind the type part of a block: the types of the block are carried, targets fit it, and names are carried for the targets alone.
use Rattle.std.proofs.Common.{◌≡◌, ℕ, Bool, true, false, if◌then◌else◌, List, [], ◌∷◌, ◌++◌, Some, None, option_map, map, refl, sym, ◌∙◌, ap, subst}
use Rattle.std.proofs.lemmas.Bool.{true≢false, or_from, false_from_ne_true}
use Rattle.std.proofs.lemmas.Slice.Eq.{bytes_eq-Decides}
use Rattle.std.specs.Str.{bytes_eq}
use Rattle.pc_syntax.specs.declared.kind.Kind.{Kind}
use Rattle.pc_syntax.specs.declared.kind.Kind.TheVariants as kind
use Rattle.pc_syntax.specs.Plain.{Plain}
use Rattle.pc_types.specs.Shapes.{Owner, Domain, Typed}
use Rattle.pc_types.specs.Domains.{is_domain, stands_in, closed}
use Rattle.pc_rules.specs.ClosedTypes.{own_domains, carried, close_type, close_types}
use Rattle.pc_rules.specs.Meanings.{Class, Meaning, Later, Local, Outside, entry_of, find}
use Rattle.pc_rules.specs.NameClasses.{is_type_class}
use Rattle.pc_rules.specs.Places.{beside}
use Rattle.pc_environment.specs.Decorating.{attributes_at, place_behind}
use Rattle.pc_pointers.specs.Good.{Targets}
use Rattle.pc_closed.specs.PlaceLaws.{is_domain-tells}
use Rattle.pc_closed.specs.Settled.{Tells, FitsBlock}
use Rattle.pc_closed.specs.Carried.{AllTypesCarried}
use Rattle.pc_closed.specs.CarriedLaws.{carried-law}
use Rattle.pc_closed.specs.ClosesLaws.{closes-law}
use Rattle.pc_carrying.specs.Carrying.{IsPlainValue, ConfinedPlace, CarriedPlace, KnownCarried, AllDefining}
use Rattle.pc_carrying.specs.Parts.{declared_at}
use Rattle.pc_carrying.specs.KnownLaws.{sound-types}
use Rattle.pc_carrying.specs.LaterLaws.{closed-name, closed-none, beside-later, later-parts, later-before}
use Rattle.pc_carrying.specs.ConfinedLaws.{confined-moved}
use Rattle.pc_carrying.specs.TypeLaws.{is_part, part-carried}

-- ---- the types of the block

is-part : (k : Kind) → k ≡ kind.Types → (is_part k ≡ true)
is-part k e = ap is_part e

pub types-carried : (targets : Targets) (out : Outside) (l : Local) (t : Plain) → t.kind ≡ kind.Types → AllDefining t.kids →
    CarriedPlace targets (own_domains (declared_at out l t).known) out l → AllTypesCarried targets (own_domains (declared_at out l t).known) l.known →
    AllTypesCarried targets (own_domains (declared_at out l t).known) (declared_at out l t).known
types-carried targets out l t e a g h =
    let own = own_domains (declared_at out l t).known in
    sound-types targets own l (attributes_at out l t).defines (part-carried targets own out l t (is-part t.kind e) a (λ o n s. s) g).sound h

-- targets that say what these are behind the type part fit the block
pub fits-block : (targets : Targets) (l : Local) → AllTypesCarried targets (own_domains l.known) l.known → Tells targets (own_domains (close_types l).known) → FitsBlock targets l
fits-block targets l h t =
    let b = carried-law.block targets (own_domains l.known) l.known h in
    record { tells = t; others = b.0; own_hosts = b.2; other_hosts = b.1 }

-- ---- what names mean behind the type part

closed-value : (table : List Domain) (d : List ℕ × Meaning) → (close_type table d).1.value ≡ d.1.value
closed-value table d = by (is_type_class d.1.class) where
  by : (b : Bool) → (if b then (d.0, record d.1 { type = closed table (option_map (λ (t : Typed). t.shape) d.1.type) }) else d).1.value ≡ d.1.value
  by true = refl
  by false = refl

closed-plain : (table : List Domain) (ds : List (List ℕ × Meaning)) (n : List ℕ) (m : Meaning) → ((r : Meaning) → entry_of ds n ≡ Some r → IsPlainValue r.value) →
    entry_of (map (close_type table) ds) n ≡ Some m → IsPlainValue m.value
closed-plain table [] n m h e = absurd (cc e)
closed-plain table (d ∷ ds) n m h e =
    let same = closed-name table d in
    by (closed-plain table ds n m) (bytes_eq (close_type table d).0 n) (λ r q. h r (ap (λ (x : List ℕ). if bytes_eq x n then Some d.1 else entry_of ds n) (sym same) ∙ q)) e where
      by : (((r : Meaning) → entry_of ds n ≡ Some r → IsPlainValue r.value) → entry_of (map (close_type table) ds) n ≡ Some m → IsPlainValue m.value) → (b : Bool) →
          ((r : Meaning) → (if b then Some d.1 else entry_of ds n) ≡ Some r → IsPlainValue r.value) →
          (if b then Some (close_type table d).1 else entry_of (map (close_type table) ds) n) ≡ Some m → IsPlainValue m.value
      by rest true h e =
          let one : (close_type table d).1 ≡ m = cc e in
          subst (λ (x : Meaning). IsPlainValue x.value) one (subst IsPlainValue (sym (closed-value table d)) (h d.1 refl))
      by rest false h e = rest h e

-- what is declared is carried whatever types are left out
pub closed-known : (targets : Targets) (own others : List Domain) (l : Local) → FitsBlock targets l → KnownCarried targets own l.known → KnownCarried targets others (close_types l).known
closed-known targets own others l f g n m e = record {
  named = λ c. closes-law.types targets others l n m f e c;
  plain = closed-plain (own_domains l.known ++ carried l.known) l.known n m (λ r q. (g n r q).plain) e;
}

-- the place behind the type part is that
pub behind-known : (out : Outside) (l : Local) (t : Plain) → t.kind ≡ kind.Types → (place_behind out l t).known ≡ (close_types (declared_at out l t)).known
behind-known out l t e = ap (λ (k : Kind). (beside l k (attributes_at out l t)).known) e

-- ---- what is declared later behind the type part

none-parts : (d : List ℕ × Meaning) (ds : List (List ℕ × Meaning)) (n : List ℕ) → entry_of (d ∷ ds) n ≡ None → (bytes_eq d.0 n ≡ false) × (entry_of ds n ≡ None)
none-parts d ds n e = by (bytes_eq d.0 n) e where
  by : (b : Bool) → (if b then Some d.1 else entry_of ds n) ≡ None → (b ≡ false) × (entry_of ds n ≡ None)
  by true e = absurd (cc e)
  by false e = (refl, e)

-- a name under which nothing is declared is no type of the block
none-stands : (ds : List (List ℕ × Meaning)) (o : Owner) (n : List ℕ) → entry_of ds n ≡ None → stands_in (own_domains ds) o n ≡ false
none-stands [] o n e = refl
none-stands (d ∷ ds) o n e = let p = none-parts d ds n e in by p.0 (none-stands ds o n p.1) (is_type_class d.1.class) where
  by : bytes_eq d.0 n ≡ false → stands_in (own_domains ds) o n ≡ false → (b : Bool) →
      stands_in (if b then record { owner = d.1.owner; name = d.0; shape = option_map (λ (t : Typed). t.shape) d.1.type } ∷ own_domains ds else own_domains ds) o n ≡ false
  by q rest true =
      let x : Domain = record { owner = d.1.owner; name = d.0; shape = option_map (λ (t : Typed). t.shape) d.1.type } in
      let other : is_domain o n x ≡ false =
      false_from_ne_true (is_domain o n x) (λ t. let w = is_domain-tells o n x t in true≢false (sym ((bytes_eq-Decides d.0 n).1 (sym w.1)) ∙ q)) in
      or_from (is_domain o n x) (stands_in (own_domains ds) o n) other rest
  by q rest false = rest

types-later : (targets : Targets) (out : Outside) (l : Local) (t : Plain) → t.kind ≡ kind.Types → ConfinedPlace targets (own_domains (declared_at out l t).known) out l → (n : List ℕ) (c : Class) →
    find out (place_behind out l t) n ≡ Later c → targets l.owner n ≡ None
types-later targets out l t e g n c q =
    let m = declared_at out l t in
    let closed = subst (λ (ds : List (List ℕ × Meaning)). entry_of ds n ≡ None) (behind-known out l t e) (later-parts out (place_behind out l t) n c q).1 in
    let none = closed-none (own_domains m.known ++ carried m.known) m.known n closed in
    g n c (later-before out l (place_behind out l t) n c (beside-later l t.kind (attributes_at out l t)) q) (none-stands m.known l.owner n none)

-- from the start of the block
pub block-later : (targets : Targets) (out : Outside) (l : Local) (constants types : Plain) → types.kind ≡ kind.Types →
    ConfinedPlace targets (own_domains (declared_at out (place_behind out l constants) types).known) out l →
    (n : List ℕ) (c : Class) → find out (place_behind out (place_behind out l constants) types) n ≡ Later c → targets l.owner n ≡ None
block-later targets out l constants types e g n c q =
    let next = place_behind out l constants in
    let h = beside-later l constants.kind (attributes_at out l constants) in
    let own = own_domains (declared_at out next types).known in
    ap (λ (o : Owner). targets o n) (sym h.owner) ∙ types-later targets out next types e (confined-moved targets own out l next h g) n c q
