-- From the start of a routine's block to its statement part, for targets that say what the routine does.
use Rattle.std.proofs.Common.{◌≡◌, ℕ, Bool, true, false, if◌then◌else◌, List, [], ◌∷◌, ◌++◌, Option, Some, None, refl, sym, ◌∙◌, ap, true≢false}
use Rattle.std.specs.Option.{is_some}
use Rattle.pc_syntax.specs.Plain.{Plain, trees_of}
use Rattle.pc_types.specs.Domains.{domain_in, stands_in}
use Rattle.pc_types.specs.Shapes.{Owner, Domain}
use Rattle.pc_rules.specs.ClosedTypes.{own_domains, carried, close_types}
use Rattle.pc_rules.specs.Meanings.{Class, Meaning, Missing, Later, Found, Local, Outside, entry_of, later_or}
use Rattle.pc_rules.specs.Outsides.{outside_of}
use Rattle.pc_rules.specs.Routines.{Routine, start_of, parameters_of}
use Rattle.pc_environment.specs.Decorating.{attributes_at, place_behind, place_after}
use Rattle.pc_needs.proofs.Owners.{beside-owner}
use Rattle.pc_rule_laws.specs.Roles.{keys}
use Rattle.pc_pointers.specs.Good.{Targets, IsGoodFound}
use Rattle.pc_closed.specs.Settled.{Tells, FitsBlock}
use Rattle.pc_closed.specs.ClosedLaws.{own-stands}
use Rattle.pc_carrying.specs.Carrying.{IsCarriedName, ConfinedPlace}
use Rattle.pc_carrying.specs.InsideLaws.{block-start}
use Rattle.pc_carrying.specs.LaterLaws.{later-parts}
use Rattle.pc_carrying.specs.Parts.{AreParts, types_of, GoodHeadings, IsCarriedStart, IsSettledAround, IsGoodBehind, AllParameters}
use Rattle.pc_carrying.specs.StartLaws.{part-law}
use Rattle.pc_targets.specs.Program.{types_in, types_behind, declares, undeclared_type, said_by, hiding}
use Rattle.pc_targets.proofs.TypeLemmas.{NoTypes, none-own, none-stands, closed-own, stands-own}
use Rattle.pc_targets.proofs.WholeLemmas.{IsWhole, block-own}

-- the targets say of each name in the block of a routine what this does
abbrev pub Says : Targets → List Routine → Routine → Type 0
Says targets all r = (n : List ℕ) → targets r.owner n ≡ said_by all r r.owner n

-- a name that a routine doesn't declare is carried and good around it
abbrev pub GoodAround : Targets → Routine → Outside → Type 0
GoodAround targets r out = (n : List ℕ) → declares r n ≡ false → IsCarriedName targets [] n (out.means n) × IsGoodFound targets (out.means n)

-- ---- what the targets say of its types

parameters-none : (targets : Targets) (ds : List (List ℕ × Meaning)) → AllParameters targets ds → NoTypes (keys ds)
parameters-none targets [] h = tt
parameters-none targets (d ∷ ds) h = (h.0.class, parameters-none targets ds h.1)

-- the places at which its types stand are its own, and it declares their names
abbrev pub HasOwnTypes : List Routine → Routine → Type 0
HasOwnTypes all r = (o : Owner) (n : List ℕ) → stands_in (types_behind all r) o n ≡ true → (o ≡ r.owner) × (declares r n ≡ true)

pub named : (targets : Targets) (all : List Routine) (r : Routine) (c t v q : Plain) (rest : List Plain) → trees_of r.block ≡ c ∷ t ∷ v ∷ q ∷ rest → IsWhole c t v q →
    AllParameters targets (parameters_of r) → HasOwnTypes all r
named targets all r c t v q rest e w ps o n stands =
    let l = start_of r in
    let m = types_of (outside_of all r) l c t in
    let owned = block-own (outside_of all r) r c t v q rest e w (none-own r.owner l.names l.known (parameters-none targets l.known ps)) in
    let table : types_behind all r ≡ own_domains (close_types m).known = ap (types_in (outside_of all r) l) e in
    stands-own r.owner l.names (close_types m).known o n (closed-own r.owner l.names m owned) (ap (λ (ds : List Domain). stands_in ds o n) (sym table) ∙ stands)

-- so they are told
pub tells : (targets : Targets) (all : List Routine) (r : Routine) → HasOwnTypes all r → Says targets all r → Tells targets (types_behind all r)
tells targets all r own says o n stands =
    let at = own o n stands in
    ap (λ (x : Owner). targets x n) at.0
    ∙ says n
    ∙ ap (λ (b : Bool). if b then domain_in (types_behind all r) r.owner n else undeclared_type r.owner n) at.1
    ∙ ap (λ (x : Owner). domain_in (types_behind all r) x n) (sym at.0)

-- ---- what the targets say of what is declared later

-- a name that means a later declaration around a routine is no type where its block doesn't declare it
abbrev pub Confines : Routine → Outside → Type 0
Confines r out = (n : List ℕ) (c : Class) → out.means n ≡ Later c → undeclared_type r.owner n ≡ None

later-around : (o : Option Class) (f : Found) (c : Class) → is_some o ≡ false → later_or o (if is_some o then Missing else f) ≡ Later c → f ≡ Later c
later-around None f c e h = h
later-around (Some k) f c e h = absurd (true≢false e)

-- of a name that is declared later the targets say nothing, unless it is a type of the block
pub confined : (targets : Targets) (all : List Routine) (r : Routine) (out : Outside) (m : Local) → types_behind all r ≡ own_domains (close_types m).known → Says targets all r → Confines r out →
    ConfinedPlace targets (own_domains m.known) (hiding (start_of r).names out) (start_of r)
confined targets all r out m table says limits n c e s = says n ∙ by (declares r n) refl where
  by : (b : Bool) → declares r n ≡ b → (if b then domain_in (types_behind all r) r.owner n else undeclared_type r.owner n) ≡ None
  by true d =
      none-stands (types_behind all r) r.owner n
      (ap (λ (ds : List Domain). stands_in ds r.owner n) table ∙ own-stands (own_domains m.known ++ carried m.known) m.known r.owner n ∙ s)
  by false d = limits n c (later-around (entry_of (start_of r).names n) (out.means n) c d (later-parts (hiding (start_of r).names out) (start_of r) n c e).2)

-- ---- around the block

pub settled : (targets : Targets) (r : Routine) (out : Outside) → GoodAround targets r out → GoodHeadings targets out → IsSettledAround targets (hiding (start_of r).names out) (start_of r)
settled targets r out h g = record {
  carried = λ n. (both n (declares r n) refl).0;
  fields = tt;
  outside = λ n. (both n (declares r n) refl).1;
  headings = g;
} where
  both : (n : List ℕ) (b : Bool) → declares r n ≡ b → IsCarriedName targets [] n (if b then Missing else out.means n) × IsGoodFound targets (if b then Missing else out.means n)
  both n true e = (tt, tt)
  both n false e = h n e

-- ---- the chain

-- what holds along the parts of a block, from its start to its statement part
pub record IsChain (targets : Targets) (out : Outside) (l : Local) (constants definitions variables routines : Plain) : Type 0 where
  pub around : IsSettledAround targets out l
  pub start : IsCarriedStart targets (own_domains (types_of out l constants definitions).known) out l
  pub first : IsCarriedStart targets (own_domains (types_of out l constants definitions).known) out (place_after out l (constants ∷ []))
  pub types : IsCarriedStart targets (own_domains (types_of out l constants definitions).known) out (types_of out l constants definitions)
  pub fits : FitsBlock targets (types_of out l constants definitions)
  pub second : IsGoodBehind targets out (place_after out l (constants ∷ definitions ∷ []))
  pub third : IsGoodBehind targets out (place_after out l (constants ∷ definitions ∷ variables ∷ []))
  pub fourth : IsGoodBehind targets out (place_after out l (constants ∷ definitions ∷ variables ∷ routines ∷ []))

pub chain : (targets : Targets) (r : Routine) (out : Outside) (c t v q : Plain) → AreParts c t v q → Tells targets (own_domains (close_types (types_of (hiding (start_of r).names out) (start_of r) c t)).known) →
    ConfinedPlace targets (own_domains (types_of (hiding (start_of r).names out) (start_of r) c t).known) (hiding (start_of r).names out) (start_of r) →
    AllParameters targets (parameters_of r) → GoodAround targets r out → GoodHeadings targets out → IsChain targets (hiding (start_of r).names out) (start_of r) c t v q
chain targets r out c t v q p told limits ps h g =
    let l = start_of r in
    let o = hiding l.names out in
    let l1 = place_behind o l c in
    let l2 = place_behind o l1 t in
    let l3 = place_behind o l2 v in
    let m = types_of o l c t in
    let own = own_domains m.known in
    let around = settled targets r out h g in
    let around1 : IsSettledAround targets o l1 = record { carried = around.carried; fields = tt; outside = around.outside; headings = around.headings } in
    let start = block-start targets own o l around.carried ps limits in
    let first = part-law.constants targets own o l c p.first p.in_constants (part-law.grown l1 (attributes_at o l1 t).defines) start in
    let types = part-law.types targets o l1 t p.second p.in_types first in
    let later = part-law.later targets o l c t p.second limits in
    let second = part-law.behind targets o l1 t p.second p.in_types told around1 first (λ n k e. ap (λ (x : Owner). targets x n) (beside-owner l c.kind (attributes_at o l c)) ∙ later n k e) in
    let third = (part-law.variables targets o l2 v p.third p.in_variables g second).1 in
    record {
      around = around;
      start = start;
      first = first;
      types = types;
      fits = part-law.fits targets m types.types told;
      second = second;
      third = third;
      fourth = (part-law.routines targets o l3 q p.fourth p.in_routines g third).1;
    }
