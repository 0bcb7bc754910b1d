-- The declaration parts of a block: what they declare, and what names mean behind each (ISO 7185, 6.2.1).
use Rattle.std.specs.Prelude.{◌≡◌, ℕ, Bool, true, false, List, [], ◌∷◌, None}
use Rattle.pc_syntax.specs.declared.kind.Kind.{Kind}
use Rattle.pc_syntax.specs.declared.kind.Kind.TheVariants as kind
use Rattle.pc_syntax.specs.Plain.{Forest, Nil, Cons, Plain}
use Rattle.pc_syntax.specs.WellFormed.{IsWellFormed}
use Rattle.pc_types.specs.Shapes.{Owner, Keyed, Domain}
use Rattle.pc_rules.specs.OwnBlock.{own}
use Rattle.pc_rules.specs.ClosedTypes.{own_domains, close_types}
use Rattle.pc_rules.specs.Meanings.{Class, Meaning, Found, Later, Local, Outside, declared_as, find, define_all}
use Rattle.pc_rules.specs.NameClasses.{is_type_class}
use Rattle.pc_rules.specs.Denoters.{type_of_found}
use Rattle.pc_rules.specs.Places.{inner}
use Rattle.pc_rules.specs.RequiredMeanings.{required_type, required_or_missing}
use Rattle.pc_rules.specs.Routines.{firsts}
use Rattle.pc_rules.specs.Variables.{result_of}
use Rattle.pc_environment.specs.Decorating.{attributes_at, below_at, place_behind, place_after}
use Rattle.pc_pointers.specs.Good.{Targets, IsGoodType, IsGoodFound, AllOpenedGood, GoodPlace}
use Rattle.pc_closed.specs.Reached.{Covers}
use Rattle.pc_closed.specs.Settled.{Tells, FitsBlock, IsGoodBeside, AllGoodBeside}
use Rattle.pc_closed.specs.Carried.{IsCarriedType, AllTypesCarried}
use Rattle.pc_carrying.specs.Carrying.{IsPlainValue, IsCarriedName, CarriedAround, ConfinedPlace, CarriedPlace, IsCarriedAt, CarriedMarks, is_denoting, AllDenoting, is_defining, AllDefining}

-- ---- what is declared

-- a constant or a type: its type is carried, and it is plain beside
pub record IsSound (targets : Targets) (own : List Domain) (m : Meaning) : Type 0 where
  pub type : IsCarriedType targets own m.type
  pub value : IsPlainValue m.value
  pub untyped : is_type_class m.class ≡ false → m.type ≡ None
  pub unsigned : m.signature ≡ None

-- the same of each of some declarations
abbrev pub AllSound : Targets → List Domain → List (List ℕ × Meaning) → Type 0
AllSound targets own [] = Unit {0}
AllSound targets own (d ∷ ds) = IsSound targets own d.1 × AllSound targets own ds

-- each of some declarations is no type, and the types of constants have no pointers
abbrev pub AllBeside : List (List ℕ × Meaning) → Type 0
AllBeside [] = Unit {0}
AllBeside (d ∷ ds) = (is_type_class d.1.class ≡ false) × IsPlainValue d.1.value × AllBeside ds

-- declarations that are no types, and what goes with each is good
pub record IsSettledPart (targets : Targets) (ds : List (List ℕ × Meaning)) : Type 0 where
  pub good : AllGoodBeside targets ds
  pub beside : AllBeside ds

-- ---- nodes in a row

-- variable declarations, and holes
abbrev pub is_variable : Kind → Bool
is_variable kind.Vardef = true
is_variable (kind.Hole s) = true
is_variable _ = false

-- such nodes, with nodes at and below denoters in them
abbrev pub AllVariables : Forest → Type 0
AllVariables Nil = Unit {0}
AllVariables (Cons k w ns ks ts) = (is_variable k ≡ true) × AllDenoting ks × AllVariables ts

-- routines, and holes
abbrev pub is_routine : Kind → Bool
is_routine kind.Procedure = true
is_routine kind.Function = true
is_routine kind.Funbody = true
is_routine (kind.Hole s) = true
is_routine _ = false

-- such nodes, whatever stands in them
abbrev pub AllRoutines : Forest → Type 0
AllRoutines Nil = Unit {0}
AllRoutines (Cons k w ns ks ts) = (is_routine k ≡ true) × AllRoutines ts

-- the declaration parts of a block, with what stands in them
pub record AreParts (constants types variables routines : Plain) : Type 0 where
  pub first : constants.kind ≡ kind.Consts
  pub second : types.kind ≡ kind.Types
  pub third : variables.kind ≡ kind.Vars
  pub fourth : routines.kind ≡ kind.Routines
  pub in_constants : AllDefining constants.kids
  pub in_types : AllDefining types.kids
  pub in_variables : AllVariables variables.kids
  pub in_routines : AllRoutines routines.kids

-- ---- places

-- behind all that a node declares; the types of a type part are not closed there yet
abbrev pub declared_at : Outside → Local → Plain → Local
declared_at out l t = define_all l (attributes_at out l t).defines

-- the results of functions are good, where they stand
abbrev pub GoodHeadings : Targets → Outside → Type 0
GoodHeadings targets out = (n : List ℕ) → IsGoodType targets (result_of (out.heading n))

-- a place at or before the type part: names are carried, so are the types of declarations, and what else these have is good
pub record IsCarriedStart (targets : Targets) (own : List Domain) (out : Outside) (l : Local) : Type 0 where
  pub place : CarriedPlace targets own out l
  pub types : AllTypesCarried targets own l.known
  pub good : AllGoodBeside targets l.known

-- what a block sees from outside is good, and carried whatever its own types are: for the targets alone
pub record IsSettledAround (targets : Targets) (out : Outside) (l : Local) : Type 0 where
  pub carried : CarriedAround targets [] out
  pub fields : AllOpenedGood targets l.fields
  pub outside : (n : List ℕ) → IsGoodFound targets (out.means n)
  pub headings : GoodHeadings targets out

-- a place behind the type part: names are carried, for the targets alone, and what they mean is good
pub record IsGoodBehind (targets : Targets) (out : Outside) (l : Local) : Type 0 where
  pub place : CarriedPlace targets [] out l
  pub good : GoodPlace out l targets

-- ---- laws

-- what is found at a node of a declaration part, from what names mean before it, and what they mean behind it
pub record NodeLaw : Type 0 where
  -- a denoter, or a part of one
  pub denoter : (targets : Targets) (own : List Domain) (out : Outside) (l : Local) (t : Plain) → AllDenoting (Cons t.kind t.word t.notes t.kids Nil) → CarriedPlace targets own out l →
      IsCarriedAt targets own (attributes_at out l t) × CarriedMarks targets own (below_at out l t) × CarriedPlace targets own out (place_behind out l t)
  -- the definition of a constant or a type, where the block's types behind it are among `own`
  pub definition : (targets : Targets) (own : List Domain) (out : Outside) (l : Local) (t : Plain) → is_defining t.kind ≡ true → AllDenoting t.kids →
      Covers own (own_domains (place_behind out l t).known) → CarriedPlace targets own out l →
      AllSound targets own (attributes_at out l t).defines × CarriedPlace targets own out (place_behind out l t)
  -- a variable declaration behind the type part
  pub variable : (targets : Targets) (out : Outside) (l : Local) (t : Plain) → is_variable t.kind ≡ true → AllDenoting t.kids → CarriedPlace targets [] out l →
      IsSettledPart targets (attributes_at out l t).defines × CarriedPlace targets [] out (place_behind out l t)

-- from part to part
pub record PartLaw : Type 0 where
  -- the types of a block stay as it declares more
  pub grown : (l : Local) (ds : List (List ℕ × Meaning)) → Covers (own_domains (define_all l ds).known) (own_domains l.known)
  -- behind the constants
  pub constants : (targets : Targets) (own : List Domain) (out : Outside) (l : Local) (t : Plain) → t.kind ≡ kind.Consts → AllDefining t.kids →
      Covers own (own_domains (place_behind out l t).known) → IsCarriedStart targets own out l → IsCarriedStart targets own out (place_behind out l t)
  -- behind the type definitions, before the types are closed
  pub types : (targets : Targets) (out : Outside) (l : Local) (t : Plain) → t.kind ≡ kind.Types → AllDefining t.kids →
      IsCarriedStart targets (own_domains (declared_at out l t).known) out l → IsCarriedStart targets (own_domains (declared_at out l t).known) out (declared_at out l t)
  -- so targets fit the block that say what its types are behind the type part
  pub fits : (targets : Targets) (l : Local) → AllTypesCarried targets (own_domains l.known) l.known → Tells targets (own_domains (close_types l).known) → FitsBlock targets l
  -- and behind the type part what names mean is good, where the targets say nothing of what is declared later there
  pub behind : (targets : Targets) (out : Outside) (l : Local) (t : Plain) → t.kind ≡ kind.Types → AllDefining t.kids → Tells targets (own_domains (close_types (declared_at out l t)).known) →
      IsSettledAround targets out l → IsCarriedStart targets (own_domains (declared_at out l t).known) out l →
      ((n : List ℕ) (c : Class) → find out (place_behind out l t) n ≡ Later c → targets l.owner n ≡ None) → IsGoodBehind targets out (place_behind out l t)
  -- so it is where they say nothing of what is declared later at the start, but for the block's own types, since these are declared behind their part
  pub later : (targets : Targets) (out : Outside) (l : Local) (constants types : Plain) → types.kind ≡ kind.Types →
      ConfinedPlace targets (own_domains (declared_at out (place_behind out l constants) types).known) out l →
      (n : List ℕ) (c : Class) → find out (place_behind out (place_behind out l constants) types) n ≡ Later c → targets l.owner n ≡ None
  -- it stays so behind the variables and the routines
  pub variables : (targets : Targets) (out : Outside) (l : Local) (t : Plain) → t.kind ≡ kind.Vars → AllVariables t.kids → GoodHeadings targets out → IsGoodBehind targets out l →
      IsSettledPart targets (attributes_at out l t).defines × IsGoodBehind targets out (place_behind out l t)
  pub routines : (targets : Targets) (out : Outside) (l : Local) (t : Plain) → t.kind ≡ kind.Routines → AllRoutines t.kids → GoodHeadings targets out → IsGoodBehind targets out l →
      IsSettledPart targets (attributes_at out l t).defines × IsGoodBehind targets out (place_behind out l t)

-- at the first of the routines of a block, and behind each
pub record RoutineLaw : Type 0 where
  pub first : (targets : Targets) (out : Outside) (l : Local) (ks : Forest) → IsGoodBehind targets out l → IsGoodBehind targets out (inner l kind.Routines ks)
  pub behind : (targets : Targets) (out : Outside) (l : Local) (t : Plain) → is_routine t.kind ≡ true → GoodHeadings targets out → IsGoodBehind targets out l →
      IsGoodBehind targets out (place_behind out l t)

-- the block's types behind its type part, before they are closed
abbrev pub types_of : Outside → Local → Plain → Plain → Local
types_of out l constants types = declared_at out (place_behind out l constants) types

-- from the start of a block to its statement part, for targets that say what its types are behind the type part, and nothing of what is
-- declared later there
abbrev pub BlockLaw : Type 0
BlockLaw = (targets : Targets) (out : Outside) (l : Local) (constants types variables routines : Plain) → AreParts constants types variables routines →
    Tells targets (own_domains (close_types (types_of out l constants types)).known) → IsSettledAround targets out l →
    IsCarriedStart targets (own_domains (types_of out l constants types).known) out l →
    ((n : List ℕ) (c : Class) → find out (place_behind out (place_behind out l constants) types) n ≡ Later c → targets l.owner n ≡ None) →
    FitsBlock targets (types_of out l constants types) × IsGoodBehind targets out (place_after out l (constants ∷ types ∷ variables ∷ routines ∷ []))

-- ---- blocks inside a block

-- a parameter: its type is carried, for the targets alone, and good
pub record IsParameter (targets : Targets) (m : Meaning) : Type 0 where
  pub class : is_type_class m.class ≡ false
  pub value : IsPlainValue m.value
  pub carried : IsCarriedType targets [] m.type
  pub good : IsGoodBeside targets m

-- the same of each of some declarations
abbrev pub AllParameters : Targets → List (List ℕ × Meaning) → Type 0
AllParameters targets [] = Unit {0}
AllParameters targets (d ∷ ds) = IsParameter targets d.1 × AllParameters targets ds

-- names, lists of names, and holes
abbrev pub is_naming : Kind → Bool
is_naming kind.Name = true
is_naming kind.Names = true
is_naming (kind.Hole s) = true
is_naming _ = false

-- such nodes in a row
abbrev pub AllNaming : Forest → Type 0
AllNaming Nil = Unit {0}
AllNaming (Cons k w ns ks ts) = (is_naming k ≡ true) × AllNaming ts

-- groups of parameters, and holes
abbrev pub is_group : Kind → Bool
is_group kind.Valparam = true
is_group kind.Varparam = true
is_group (kind.Hole s) = true
is_group _ = false

-- such nodes, with names in them
abbrev pub AllGroups : Forest → Type 0
AllGroups Nil = Unit {0}
AllGroups (Cons k w ns ks ts) = (is_group k ≡ true) × AllNaming ks × AllGroups ts

-- what names mean at a place is carried, for the targets alone, and good
abbrev pub NamesGood : Targets → Outside → Local → Type 0
NamesGood targets out l = (n : List ℕ) → IsCarriedName targets [] n (find out l n) × IsGoodFound targets (find out l n)

-- what a block inside begins with
pub record InsideLaw : Type 0 where
  -- what names mean where the routine stands
  pub found : (targets : Targets) (own : List Domain) (out : Outside) (l : Local) → CarriedPlace targets own out l → (n : List ℕ) → IsCarriedName targets own n (find out l n)
  -- around a program, for targets that say what the required types are
  pub required : (targets : Targets) → ((n : List ℕ) → required_type n ≡ targets (Keyed []) n) → (n : List ℕ) → IsCarriedName targets [] n (required_or_missing n) × IsGoodFound targets (required_or_missing n)
  -- the result type of a function, and a parameter, by what the name of the type means
  pub result : (targets : Targets) (f : Found) → IsGoodFound targets f → IsGoodType targets (type_of_found f)
  pub parameter : (targets : Targets) (c : Class) (o : Owner) (n : List ℕ) (f : Found) → is_type_class c ≡ false → IsCarriedName targets [] n f → IsGoodFound targets f →
      IsParameter targets (record (declared_as c o) { type = type_of_found f })
  -- the parameters in a heading
  pub parameters : (targets : Targets) (out : Outside) (l : Local) (t : Plain) → t.kind ≡ kind.Params → AllGroups t.kids → NamesGood targets out l → AllParameters targets (attributes_at out l t).defines
  -- the first of each name
  pub firsts : (targets : Targets) (before : List (List ℕ)) (ds : List (List ℕ × Meaning)) → AllParameters targets ds → AllParameters targets (firsts before ds)
  -- the place where the block begins, whatever its own types are; of what is declared later there the targets say nothing, but for these
  pub start : (targets : Targets) (own : List Domain) (out : Outside) (l : Local) → CarriedAround targets [] out → AllParameters targets l.known → ConfinedPlace targets own out l →
      IsCarriedStart targets own out l

-- the kinds of nodes in well-formed trees are those that the laws ask for; so are those of the routines of an own block
pub record KindLaw : Type 0 where
  pub denoter : (t : Plain) → IsWellFormed t → is_denoting t.kind ≡ true → AllDenoting (Cons t.kind t.word t.notes t.kids Nil)
  pub definition : (t : Plain) → IsWellFormed t → is_defining t.kind ≡ true → AllDenoting t.kids
  pub variable : (t : Plain) → IsWellFormed t → is_variable t.kind ≡ true → AllDenoting t.kids
  pub constants : (t : Plain) → IsWellFormed t → t.kind ≡ kind.Consts → AllDefining t.kids
  pub types : (t : Plain) → IsWellFormed t → t.kind ≡ kind.Types → AllDefining t.kids
  pub variables : (t : Plain) → IsWellFormed t → t.kind ≡ kind.Vars → AllVariables t.kids
  pub routines : (t : Plain) → IsWellFormed t → t.kind ≡ kind.Routines → AllRoutines t.kids
  pub parameters : (t : Plain) → IsWellFormed t → t.kind ≡ kind.Params → AllGroups t.kids
  pub own_routines : (f : Forest) → AllRoutines f → AllRoutines (own f)
