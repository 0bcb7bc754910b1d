-- What the domains of a whole program are: the types that its blocks declare, and the required ones (ISO 7185, 6.2.2, 6.4.4).
use Rattle.std.specs.Prelude.{ℕ, Bool, ◌&&◌, if◌then◌else◌, List, [], ◌∷◌, Option, None}
use Rattle.std.specs.Option.{is_some}
use Rattle.pc_syntax.specs.Plain.{Plain, trees_of}
use Rattle.pc_types.specs.Domains.{domain_in}
use Rattle.pc_types.specs.Sameness.{same_owner}
use Rattle.pc_types.specs.Shapes.{Owner, Keyed, Shape, Domain}
use Rattle.pc_rules.specs.ClosedTypes.{own_domains, close_types}
use Rattle.pc_rules.specs.Meanings.{Class, Missing, Local, Outside, entry_of}
use Rattle.pc_rules.specs.Outsides.{outside_of}
use Rattle.pc_rules.specs.RequiredMeanings.{required_type}
use Rattle.pc_rules.specs.RoutineList.{routines_of}
use Rattle.pc_rules.specs.Routines.{Routine, start_of}
use Rattle.pc_needs.specs.Answers.{has_block}
use Rattle.pc_pointers.specs.Good.{Targets}
use Rattle.pc_carrying.specs.Parts.{types_of}

-- ---- the types of a routine's block

-- the types that a block declares, by their places, as they are behind its type part: by the first two of its trees, constants and types
abbrev pub types_in : Outside → Local → List Plain → List Domain
types_in out l (constants ∷ types ∷ rest) = own_domains (close_types (types_of out l constants types)).known
types_in out l ts = []

-- the types that the block of a routine declares, among all routines; none where it has no block
abbrev pub types_behind : List Routine → Routine → List Domain
types_behind all r = types_in (outside_of all r) (start_of r) (trees_of r.block)

-- whether a routine declares a name: as a parameter, or in its block
abbrev pub declares : Routine → List ℕ → Bool
declares r n = is_some (entry_of (start_of r).names n)

-- ---- the targets of a program

-- what a name is as a type, if its block doesn't declare it: a program's is then a required name
abbrev pub undeclared_type : Owner → List ℕ → Option Shape
undeclared_type (Keyed []) n = required_type n
undeclared_type o n = None

-- what the block of a routine, which is this block, says of a name
abbrev pub said_by : List Routine → Routine → Owner → List ℕ → Option Shape
said_by all r o n = if declares r n then domain_in (types_behind all r) o n else undeclared_type o n

-- what each domain is, by its block and its name: what the routine says that has this block, among all routines; it is looked for among some
abbrev pub program_targets : List Routine → List Routine → Targets
program_targets all [] o n = undeclared_type o n
program_targets all (r ∷ rs) o n = if same_owner o r.owner && has_block r.heading then said_by all r o n else program_targets all rs o n

-- the targets of a whole program
abbrev pub targets_of : Plain → Targets
targets_of t = program_targets (routines_of t) (routines_of t)

-- ---- what a block has from outside, of the names that it doesn't declare

-- the same from outside, but for names that a block declares: what these mean around it isn't seen in it
abbrev pub hiding : List (List ℕ × Class) → Outside → Outside
hiding names out = record out { means = λ n. if is_some (entry_of names n) then Missing else out.means n }

-- what the block of a routine sees from outside, among all routines
abbrev pub beyond : List Routine → Routine → Outside
beyond all r = hiding (start_of r).names (outside_of all r)
