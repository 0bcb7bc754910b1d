-- What holds of the targets of a whole program: they say what its blocks declare, and each block is good for them.
use Rattle.std.specs.Prelude.{◌≡◌, ℕ, true, false, List, [], ◌∷◌, None}
use Rattle.pc_syntax.specs.declared.kind.Kind.{Kind}
use Rattle.pc_syntax.specs.declared.kind.Kind.TheVariants as kind
use Rattle.pc_syntax.specs.Plain.{Forest, Plain, forest_of}
use Rattle.pc_syntax.specs.WellFormed.{IsProper}
use Rattle.pc_types.specs.Domains.{domain_in, stands_in}
use Rattle.pc_types.specs.Shapes.{Owner, Keyed, Domain}
use Rattle.pc_rules.specs.ClosedTypes.{own_domains, close_types}
use Rattle.pc_rules.specs.Errors.{is_program}
use Rattle.pc_rules.specs.Meanings.{Class, Found, Local, Outside, find}
use Rattle.pc_rules.specs.Headings.{signature_in}
use Rattle.pc_rules.specs.Outsides.{outside_of}
use Rattle.pc_rules.specs.Places.{inner}
use Rattle.pc_rules.specs.RequiredMeanings.{required_type}
use Rattle.pc_rules.specs.RoutineList.{program_routine, routines_of}
use Rattle.pc_rules.specs.Routines.{Routine, parameters_of, start_of}
use Rattle.pc_rules.specs.Variables.{result_of}
use Rattle.pc_environment.specs.Decorating.{attributes_at, below_at, place_behind, place_after}
use Rattle.pc_needs.specs.Answers.{has_block}
use Rattle.pc_needs.specs.Unaffected.{IsOneOf}
use Rattle.pc_pointers.specs.Good.{Targets, IsGoodType, IsGoodFound, GoodPlace}
use Rattle.pc_closed.specs.Carried.{IsCarriedType, AllTypesCarried}
use Rattle.pc_closed.specs.Settled.{Tells, FitsBlock}
use Rattle.pc_carrying.specs.Carrying.{IsCarriedName, CarriedPlace, AllDenoting}
use Rattle.pc_carrying.specs.Parts.{AreParts, types_of, AllParameters, GoodHeadings, IsCarriedStart, IsSettledAround, IsGoodBehind, is_variable, is_routine}
use Rattle.pc_targets.specs.Program.{types_behind, declares, undeclared_type, targets_of, hiding, beyond}

-- ---- what is spoken of

-- a routine of a well-formed program that has a block
pub record HasBlock (t : Plain) (r : Routine) : Type 0 where
  pub proper : IsProper t
  pub program : is_program t.kind ≡ true
  pub among : IsOneOf (routines_of t) r
  pub block : has_block r.heading ≡ true

-- the trees of its own block: constants, types, variables, routines, and the statement part
abbrev pub HasParts : Routine → Plain → Plain → Plain → Plain → Plain → Type 0
HasParts r constants definitions variables routines body = r.block ≡ forest_of (constants ∷ definitions ∷ variables ∷ routines ∷ body ∷ [])

-- where the node behind the first trees of its block stands
abbrev pub place_in : List Routine → Routine → List Plain → Local
place_in all r ts = place_after (outside_of all r) (start_of r) ts

-- what its block declares up to the type part, before the types are closed
abbrev pub types_before : List Routine → Routine → Plain → Plain → Local
types_before all r constants definitions = types_of (outside_of all r) (start_of r) constants definitions

-- what names mean is carried, for the targets alone, and good
abbrev pub MeansGood : Targets → (List ℕ → Found) → Type 0
MeansGood targets m = (n : List ℕ) → IsCarriedName targets [] n (m n) × IsGoodFound targets (m n)

-- a routine, with a block or without: what names mean around it, but for those that the program declares itself; its parameters, and its result
pub record IsGoodRoutine (targets : Targets) (r : Routine) : Type 0 where
  pub around : (n : List ℕ) → declares r n ≡ false → IsCarriedName targets [] n (r.means n) × IsGoodFound targets (r.means n)
  pub inside : (r.owner ≡ Keyed [] → ⊥) → MeansGood targets r.means
  pub parameters : AllParameters targets (parameters_of r)
  pub result : IsGoodType targets (result_of (signature_in r))

-- a place of its block, behind the type part: the block's names are the same there, and what they mean is carried for the targets alone
pub record IsPlaceOf (targets : Targets) (all : List Routine) (r : Routine) (l : Local) : Type 0 where
  pub names : l.names ≡ (start_of r).names
  pub carried : CarriedPlace targets [] (beyond all r) l

-- what is good of a block, from its start to its statement part
pub record IsGoodBlock (targets : Targets) (all : List Routine) (r : Routine) (constants definitions variables routines : Plain) : Type 0 where
  pub kinds : AreParts constants definitions variables routines
  -- its start: what names mean around it, its parameters, and the results of the functions in it
  pub around : IsSettledAround targets (beyond all r) (start_of r)
  pub parameters : AllParameters targets (start_of r).known
  pub headings : GoodHeadings targets (outside_of all r)
  pub start : IsCarriedStart targets (own_domains (types_before all r constants definitions).known) (beyond all r) (start_of r)
  -- behind the constants
  pub first : IsCarriedStart targets (own_domains (types_before all r constants definitions).known) (beyond all r) (place_in all r (constants ∷ []))
  -- its types: their table behind the type part; that they are carried; and that the targets fit them
  pub table : types_behind all r ≡ own_domains (close_types (types_before all r constants definitions)).known
  pub types : AllTypesCarried targets (own_domains (types_before all r constants definitions).known) (types_before all r constants definitions).known
  pub fits : FitsBlock targets (types_before all r constants definitions)
  -- behind the type part, the variables and the routines
  pub second : IsGoodBehind targets (beyond all r) (place_in all r (constants ∷ definitions ∷ []))
  pub third : IsGoodBehind targets (beyond all r) (place_in all r (constants ∷ definitions ∷ variables ∷ []))
  pub fourth : IsGoodBehind targets (beyond all r) (place_in all r (constants ∷ definitions ∷ variables ∷ routines ∷ []))
  -- before the first of the variables, and of the routines
  pub in_variables : IsPlaceOf targets all r (inner (place_in all r (constants ∷ definitions ∷ [])) kind.Vars variables.kids)
  pub in_routines : IsGoodBehind targets (beyond all r) (inner (place_in all r (constants ∷ definitions ∷ variables ∷ [])) kind.Routines routines.kids)
  -- so at the statement part
  pub body : (n : List ℕ) → IsGoodFound targets (find (outside_of all r) (place_in all r (constants ∷ definitions ∷ variables ∷ routines ∷ [])) n)

-- ---- laws

-- what the targets of a program say
pub record SaidLaw : Type 0 where
  -- of the names of a routine's block: what this declares
  pub inside : (t : Plain) (r : Routine) → HasBlock t r → (r.owner ≡ Keyed [] → ⊥) → (n : List ℕ) → targets_of t r.owner n ≡ domain_in (types_behind (routines_of t) r) r.owner n
  -- of the program's own block too, where this declares the name; where it doesn't, what the required type of the name is
  pub declared : (t : Plain) (r : Routine) → HasBlock t r → (n : List ℕ) → declares r n ≡ true → targets_of t r.owner n ≡ domain_in (types_behind (routines_of t) r) r.owner n
  pub required : (t : Plain) (n : List ℕ) → declares (program_routine t) n ≡ false → targets_of t (Keyed []) n ≡ required_type n
  -- only a name that the block declares stands in its table, and in this block alone
  pub own : (t : Plain) (r : Routine) → HasBlock t r → (o : Owner) (n : List ℕ) → stands_in (types_behind (routines_of t) r) o n ≡ true → (o ≡ r.owner) × (declares r n ≡ true)
  -- so its types are told
  pub tells : (t : Plain) (r : Routine) → HasBlock t r → Tells (targets_of t) (types_behind (routines_of t) r)
  -- no other routine with a block has its owner
  pub one : (t : Plain) (r q : Routine) → HasBlock t r → HasBlock t q → r.owner ≡ q.owner → r ≡ q
  -- where no routine with a block is, only the required types are known
  pub elsewhere : (t : Plain) (o : Owner) (n : List ℕ) → ((r : Routine) → IsOneOf (routines_of t) r → has_block r.heading ≡ true → r.owner ≡ o → ⊥) → targets_of t o n ≡ undeclared_type o n
  -- nothing has the empty name
  pub nobody : (t : Plain) → IsProper t → is_program t.kind ≡ true → targets_of t (Keyed []) [] ≡ None

-- each routine of a program, and its block, is good for the program's targets
pub record GoodLaw : Type 0 where
  pub routine : (t : Plain) (r : Routine) → IsProper t → is_program t.kind ≡ true → IsOneOf (routines_of t) r → IsGoodRoutine (targets_of t) r
  -- a block has these parts
  pub parts : (t : Plain) (r : Routine) → HasBlock t r → (constants : Plain) × (definitions : Plain) × (variables : Plain) × (routines : Plain) × (body : Plain) × HasParts r constants definitions variables routines body
  pub block : (t : Plain) (r : Routine) (constants definitions variables routines body : Plain) → HasBlock t r → HasParts r constants definitions variables routines body →
      IsGoodBlock (targets_of t) (routines_of t) r constants definitions variables routines
  -- inside the program it sees from outside what is carried and good, the names that it declares included
  pub inside : (t : Plain) (r : Routine) → HasBlock t r → (r.owner ≡ Keyed [] → ⊥) → IsSettledAround (targets_of t) (outside_of (routines_of t) r) (start_of r)
  -- what names mean in it, those around it included
  pub carried : (targets : Targets) (own : List Domain) (all : List Routine) (r : Routine) (l : Local) → l.names ≡ (start_of r).names → CarriedPlace targets own (beyond all r) l →
      (n : List ℕ) → IsCarriedName targets own n (find (outside_of all r) l n)
  pub good : (targets : Targets) (all : List Routine) (r : Routine) (l : Local) → l.names ≡ (start_of r).names → IsGoodBehind targets (beyond all r) l → GoodPlace (outside_of all r) l targets
  -- behind a routine in it
  pub further : (targets : Targets) (all : List Routine) (r : Routine) (l : Local) (t : Plain) → l.names ≡ (start_of r).names → is_routine t.kind ≡ true → GoodHeadings targets (outside_of all r) →
      IsGoodBehind targets (beyond all r) l → IsGoodBehind targets (beyond all r) (place_behind (outside_of all r) l t)
  -- behind a variable declaration, and at the denoter in one
  pub next : (targets : Targets) (all : List Routine) (r : Routine) (l : Local) (t : Plain) → IsPlaceOf targets all r l → is_variable t.kind ≡ true → AllDenoting t.kids →
      IsPlaceOf targets all r (place_behind (outside_of all r) l t)
  pub denoter : (targets : Targets) (all : List Routine) (r : Routine) (l : Local) (names denoter : Plain) → IsPlaceOf targets all r l → AllDenoting (forest_of (names ∷ denoter ∷ [])) →
      IsCarriedType targets [] (attributes_at (outside_of all r) (place_behind (outside_of all r) (inner l kind.Vardef (forest_of (names ∷ denoter ∷ []))) names) denoter).as_value.type

-- a block whose names these are finds the same, whatever they mean around it
pub record HidingLaw : Type 0 where
  pub found : (names : List (List ℕ × Class)) (out : Outside) (l : Local) (n : List ℕ) → l.names ≡ names → find (hiding names out) l n ≡ find out l n
  pub node : (names : List (List ℕ × Class)) (out : Outside) (l : Local) (t : Plain) → l.names ≡ names → attributes_at (hiding names out) l t ≡ attributes_at out l t
  pub below : (names : List (List ℕ × Class)) (out : Outside) (l : Local) (t : Plain) → l.names ≡ names → below_at (hiding names out) l t ≡ below_at out l t
  pub behind : (names : List (List ℕ × Class)) (out : Outside) (l : Local) (t : Plain) → l.names ≡ names → place_behind (hiding names out) l t ≡ place_behind out l t
  pub after : (names : List (List ℕ × Class)) (out : Outside) (l : Local) (ts : List Plain) → l.names ≡ names → place_after (hiding names out) l ts ≡ place_after out l ts
  -- and no node changes which names these are
  pub names_behind : (out : Outside) (l : Local) (t : Plain) → (place_behind out l t).names ≡ l.names
  pub names_inner : (l : Local) (k : Kind) (ks : Forest) → (inner l k ks).names ≡ l.names
  pub names_after : (out : Outside) (l : Local) (ts : List Plain) → (place_after out l ts).names ≡ l.names
