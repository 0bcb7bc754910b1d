-- Blocks inside a block: what names mean around them, and their parameters.
use Rattle.std.proofs.Common.{◌≡◌, ℕ, Bool, true, false, ◌||◌, if◌then◌else◌, List, [], ◌∷◌, Option, Some, None, codes, option_map, refl, subst}
use Rattle.std.specs.Str.{bytes_eq}
use Rattle.pc_syntax.specs.Words.{is_among}
use Rattle.pc_types.specs.Shapes.{Owner, Keyed, Domain, IntegerType, BooleanType, CharType, Typed}
use Rattle.pc_rules.specs.Denoters.{type_of_found, typed}
use Rattle.pc_rules.specs.Meanings.{Class, Meaning, Found, Here, Later, Component, Required, Missing, Local, Outside, declared_as, entry_of}
use Rattle.pc_rules.specs.NameClasses.{is_type_class}
use Rattle.pc_rules.specs.RequiredMeanings.{required_type, required_or_missing}
use Rattle.pc_scope.specs.Required.{is_required_type, is_required_constant, is_required_function, is_required_procedure, is_required_file}
use Rattle.pc_rules.specs.Routines.{firsts}
use Rattle.pc_pointers.specs.Good.{Targets, IsGood, IsGoodType, IsGoodFound}
use Rattle.pc_closed.specs.Settled.{AllAgreeApart, AllGoodBeside}
use Rattle.pc_closed.specs.ApartLaws.{leads-apart, lead-apart}
use Rattle.pc_closed.specs.TogetherLaws.{together-law}
use Rattle.pc_closed.specs.Carried.{IsCarriedType, AllTypesCarried}
use Rattle.pc_carrying.specs.Carrying.{IsCarriedMeaning, IsCarriedName, KnownCarried, CarriedAround, ConfinedPlace}
use Rattle.pc_carrying.specs.Parts.{IsParameter, AllParameters, IsCarriedStart}
use Rattle.pc_carrying.specs.KnownLaws.{plain-meaning}
use Rattle.pc_carrying.specs.NodeLaws.{type-carried}

-- ---- what agrees with the targets alone agrees with them apart from some domains

all-apart : (targets : Targets) (own ds : List Domain) → AllAgreeApart targets [] ds → AllAgreeApart targets own ds
all-apart targets own [] h = tt
all-apart targets own (d ∷ ds) h = ((λ s. h.0 refl), all-apart targets own ds h.1)

type-apart : (targets : Targets) (own : List Domain) (t : Option Typed) → IsCarriedType targets [] t → IsCarriedType targets own t
type-apart targets own None h = tt
type-apart targets own (Some t) h = record {
  others = all-apart targets own t.domains h.others;
  hosts = h.hosts;
  further = h.further;
  leads = leads-apart targets own t.domains t.shape g.leads;
  lead = lead-apart targets own t.domains t.domains g.reached;
} where
  g : IsGood targets t
  g = together-law.good targets t h

found-apart : (targets : Targets) (own : List Domain) (n : List ℕ) (f : Found) → IsCarriedName targets [] n f → IsCarriedName targets own n f
found-apart targets own n (Here m) h = record { named = λ c. let g = h.named c in (type-apart targets own m.type g.0, λ s. g.1 refl); plain = h.plain }
found-apart targets own n (Required r) h = λ s. h refl
found-apart targets own n (Later c) h = tt
found-apart targets own n (Component t p) h = tt
found-apart targets own n Missing h = tt

around-apart : (targets : Targets) (own : List Domain) (out : Outside) → CarriedAround targets [] out → CarriedAround targets own out
around-apart targets own out h n = found-apart targets own n (out.means n) (h n)

-- ---- around a program

pub required-carried : (targets : Targets) → ((n : List ℕ) → required_type n ≡ targets (Keyed []) n) → (n : List ℕ) → IsCarriedName targets [] n (required_or_missing n) × IsGoodFound targets (required_or_missing n)
required-carried targets h n = by (is_required_type n || is_required_constant n || is_required_function n || is_required_procedure n || is_required_file n) where
  by : (b : Bool) → IsCarriedName targets [] n (if b then Required n else Missing) × IsGoodFound targets (if b then Required n else Missing)
  by true = ((λ s. h n), tt)
  by false = (tt, tt)

-- ---- parameters

required-good : (targets : Targets) (n : List ℕ) → IsGoodType targets (option_map typed (required_type n))
required-good targets n = by (bytes_eq n (codes "integer")) (bytes_eq n (codes "boolean")) (bytes_eq n (codes "char")) where
  by : (a b c : Bool) → IsGoodType targets (option_map typed (if a then Some IntegerType else if b then Some BooleanType else if c then Some CharType else None))
  by true b c = record { leads = tt; reached = tt }
  by false true c = record { leads = tt; reached = tt }
  by false false true = record { leads = tt; reached = tt }
  by false false false = tt

-- the type of a name that is good
pub type-good : (targets : Targets) (f : Found) → IsGoodFound targets f → IsGoodType targets (type_of_found f)
type-good targets (Here m) h = by (is_type_class m.class) where
  by : (b : Bool) → IsGoodType targets (if b then m.type else None)
  by true = h.typed
  by false = tt
type-good targets (Required r) h = required-good targets r
type-good targets (Later c) h = tt
type-good targets (Component t p) h = tt
type-good targets Missing h = tt

pub parameter-good : (targets : Targets) (c : Class) (o : Owner) (n : List ℕ) (f : Found) → is_type_class c ≡ false → IsCarriedName targets [] n f → IsGoodFound targets f →
    IsParameter targets (record (declared_as c o) { type = type_of_found f })
parameter-good targets c o n f e h g =
    let good = type-good targets f g in
    record { class = e; value = tt; carried = type-carried targets [] n f h; good = record { constant = tt; result = tt; typed = λ q. good } }

pub firsts-good : (targets : Targets) (before : List (List ℕ)) (ds : List (List ℕ × Meaning)) → AllParameters targets ds → AllParameters targets (firsts before ds)
firsts-good targets before [] h = tt
firsts-good targets before (d ∷ ds) h = by (firsts-good targets before ds h.1) (firsts-good targets (d.0 ∷ before) ds h.1) (is_among before d.0) where
  by : AllParameters targets (firsts before ds) → AllParameters targets (firsts (d.0 ∷ before) ds) → (b : Bool) → AllParameters targets (if b then firsts before ds else d ∷ firsts (d.0 ∷ before) ds)
  by old new true = old
  by old new false = (h.0, new)

-- ---- the start of a block

entry-carried : (targets : Targets) (own : List Domain) (ds : List (List ℕ × Meaning)) → AllParameters targets ds → KnownCarried targets own ds
entry-carried targets own [] h n m e = absurd (cc e)
entry-carried targets own (d ∷ ds) h n m e = by (entry-carried targets own ds h.1 n m) (bytes_eq d.0 n) e where
  by : (entry_of ds n ≡ Some m → IsCarriedMeaning targets own n m) → (b : Bool) → (if b then Some d.1 else entry_of ds n) ≡ Some m → IsCarriedMeaning targets own n m
  by rest true e = let q : d.1 ≡ m = cc e in subst (IsCarriedMeaning targets own n) q (plain-meaning targets own n d.1 h.0.class h.0.value)
  by rest false e = rest e

parameter-types : (targets : Targets) (own : List Domain) (ds : List (List ℕ × Meaning)) → AllParameters targets ds → AllTypesCarried targets own ds
parameter-types targets own [] h = tt
parameter-types targets own (d ∷ ds) h = (type-apart targets own d.1.type h.0.carried, parameter-types targets own ds h.1)

parameters-good : (targets : Targets) (ds : List (List ℕ × Meaning)) → AllParameters targets ds → AllGoodBeside targets ds
parameters-good targets [] h = tt
parameters-good targets (d ∷ ds) h = (h.0.good, parameters-good targets ds h.1)

pub block-start : (targets : Targets) (own : List Domain) (out : Outside) (l : Local) → CarriedAround targets [] out → AllParameters targets l.known → ConfinedPlace targets own out l →
    IsCarriedStart targets own out l
block-start targets own out l h p c = record {
  place = record { known = entry-carried targets own l.known p; outside = around-apart targets own out h; confined = c };
  types = parameter-types targets own l.known p;
  good = parameters-good targets l.known p;
}
