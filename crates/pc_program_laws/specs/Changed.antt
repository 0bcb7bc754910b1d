-- Which variables a routine in a block changes is seen by the for statements alone, in their errors: not in what is touched (ISO 7185, 6.8.3.9).
use Rattle.std.specs.Prelude.{ℕ, ◌≡◌, Bool, true, false, if◌then◌else◌, List}
use Rattle.pc_syntax.specs.declared.kind.Kind.{Kind}
use Rattle.pc_syntax.specs.declared.kind.Kind.TheVariants as kind
use Rattle.pc_syntax.specs.Layout.{layout}
use Rattle.pc_syntax.specs.Plain.{Forest, Plain, count, kinds}
use Rattle.pc_syntax.specs.WellFormed.{WellFormed, IsProper, fits_some}
use Rattle.pc_rules.specs.Attributes.{Attributes, Marked, Done, Mark, nothing, nodes}
use Rattle.pc_rules.specs.Decorated.{decorate}
use Rattle.pc_rules.specs.HandedOn.{all_touches}
use Rattle.pc_rules.specs.Meanings.{Found, Local, Outside}
use Rattle.pc_rules.specs.Outsides.{outside_of, quiet}
use Rattle.pc_rules.specs.OwnBlock.{own}
use Rattle.pc_rules.specs.RoutineList.{routines_of}
use Rattle.pc_rules.specs.Routines.{Routine}
use Rattle.pc_needs.specs.Unaffected.{IsOneOf}
use Rattle.pc_program_laws.specs.Unsigned.{all_faded, AllOfKind}

-- the same from outside, but for which variables are changed
abbrev pub with_changed : Outside → (List ℕ → Bool) → Outside
with_changed out changed = record out { touched = changed }

-- statements that have others in them, and lists of these
abbrev pub is_structured : Kind → Bool
is_structured kind.Compound = true
is_structured kind.If = true
is_structured kind.Ifelse = true
is_structured kind.Case = true
is_structured kind.Arm = true
is_structured kind.Repeat = true
is_structured kind.While = true
is_structured kind.For = true
is_structured kind.With = true
is_structured kind.Stmts = true
is_structured kind.Arms = true
is_structured _ = false

-- all other kinds of nodes below a program
abbrev pub is_simple : Kind → Bool
is_simple kind.Program = false
is_simple k = if is_structured k then false else true

-- what is found at a node, but for its judgements and for whether its variable is changed
abbrev pub unjudged : Attributes → Attributes
unjudged a = record a { changed = false; as_value = nothing; as_place = nothing; as_target = nothing }

-- the same at all nodes
abbrev pub all_unjudged : Marked → Marked
all_unjudged Done = Done
all_unjudged (Mark a below rest) = Mark (unjudged a) (all_unjudged below) (all_unjudged rest)

-- a name means what it means
abbrev pub as_found : Found → Found
as_found f = f

-- trees without such statements: all that is found is the same, but for whether variables are changed
abbrev pub SimpleLaw : Type 0
SimpleLaw = (out : Outside) (changed : List ℕ → Bool) (l : Local) (f : Forest) → AllOfKind is_simple f →
    all_faded as_found (decorate (with_changed out changed) l f) ≡ all_faded as_found (decorate out l f)

-- a well-formed block: judgements aside the same is found
abbrev pub ChangedBlockLaw : Type 0
ChangedBlockLaw = (out : Outside) (changed : List ℕ → Bool) (l : Local) (w : List ℕ) (f : Forest) → fits_some (layout kind.Block w (count f)) (kinds f) ≡ true → WellFormed f →
    all_unjudged (decorate (with_changed out changed) l (own f)) ≡ all_unjudged (decorate out l (own f))

-- the block of a routine of a program touches the same, whether or not what others touch is known
abbrev pub QuietTouchesLaw : Type 0
QuietTouchesLaw = (t : Plain) (q : Routine) (rs : List Routine) (l : Local) → IsProper t → IsOneOf (routines_of t) q →
    all_touches (nodes (decorate (outside_of rs q) l q.block)) ≡ all_touches (nodes (decorate (quiet rs q) l q.block))

-- what is touched doesn't depend on what is changed
pub record ChangedLaw : Type 0 where
  pub simple : SimpleLaw
  pub block : ChangedBlockLaw
  pub touches : QuietTouchesLaw
