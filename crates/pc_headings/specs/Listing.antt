-- The parameters of a heading so far, by numbers, and the lists of names that they are declared in.
use Rattle.std.specs.Prelude.{◌≡◌, ◌<◌, ℕ, Bool, true, false, if◌then◌else◌, List, [], ◌∷◌, ◌++◌, Option, Some, None, is_some, get_or, length, codes}
use Rattle.pc_syntax.specs.Plain.{Plain}
use Rattle.pc_syntax.specs.Sorts.{is_hole}
use Rattle.pc_syntax.specs.Words.{lowered, is_among}
use Rattle.pc_types.specs.Shapes.{Typed}
use Rattle.pc_types.specs.Table.{nobody}
use Rattle.pc_names.specs.Numbers.{number_of}
use Rattle.pc_names.specs.Standing.{meant}
use Rattle.pc_rules.specs.Attributes.{Attributes, Node, Done, Entry, plain, at_kid}
use Rattle.pc_rules.specs.DeclaringNames.{names_in, repeats, all_as}
use Rattle.pc_rules.specs.Entries.{note_if, quoted}
use Rattle.pc_rules.specs.Headings.{formals_in}
use Rattle.pc_rules.specs.Meanings.{Meaning, Formal, is_routine_class}
use Rattle.pc_rules.specs.Routines.{firsts}
use Rattle.pc_facts.specs.Known.{Known}
use Rattle.pc_facts.specs.Shows.{ShowsType, ShowsFormals}
use Rattle.pc_facts.specs.declared.sighting.Declared.{Declared}
use Rattle.pc_facts.specs.declared.sighting.Formal.{Formal as Numbered}
use Rattle.pc_type_rules.specs.Denoted.{IsNumber}
use Rattle.pc_places.specs.Places.{known, Keeps}
use Rattle.pc_places.specs.declared.tables.Tables.{Tables}
use Rattle.pc_headings.specs.declared.listed.Group.{Group}
use Rattle.pc_headings.specs.declared.listed.Listed.{Listed}
use Rattle.pc_headings.specs.declared.listed.Part.{Part}
use Rattle.pc_places.specs.Parameters.{ShowsParameters, AreNamed, HaveNames, AreParameters}
use Rattle.pc_places.specs.declared.parameter.Parameter.{Parameter}

-- the names of declarations, in order
abbrev pub names_of : List (List ℕ × Meaning) → List (List ℕ)
names_of [] = []
names_of (d ∷ ds) = d.0 ∷ names_of ds

-- a table has numbered these names, and no others
abbrev pub HasPassed : List (List ℕ) → List (List ℕ) → Type 0
HasPassed texts before = (n : List ℕ) → is_some (number_of texts n) ≡ is_among before n

-- formal parameters by numbers, and whether the type of each is known
abbrev pub ShowsFormalsOf : Known → Bool → List Numbered → Option (List Formal) → Type 0
ShowsFormalsOf k true fs (Some gs) = ShowsFormals k fs gs
ShowsFormalsOf k false fs None = Unit {0}
ShowsFormalsOf k _ fs _ = ⊥

-- the formal parameters with one more, where the types of all are known
abbrev pub with_formal : Option (List Formal) → List ℕ → Bool → Option Typed → Option (List Formal)
with_formal (Some gs) n b (Some t) = Some (gs ++ record { name = n; by_place = b; type = t } ∷ [])
with_formal _ n b _ = None

-- the parameters so far are these declarations
pub record ShowsListed (k : Known) (ds : List Declared) (g : Listed) (es : List (List ℕ × Meaning)) : Type 0 where
  pub parameters : ShowsParameters k ds g.parameters.items (firsts [] es)
  pub formals : ShowsFormalsOf k g.is_whole g.formals.items (formals_in es)
  pub passed : HasPassed g.passed.texts (names_of es)

-- the parameters have names, of so many, and declarations under these, which are no routines'
pub record AreDeclared (names : ℕ) (ds : List Declared) (ps : List Parameter) : Type 0 where
  pub are_named : AreNamed names ps
  pub have_names : HaveNames ds ps
  pub fresh : AreParameters ds ps

-- the parameters so far are declared by these tables
abbrev pub AreListed : Tables → Listed → Type 0
AreListed t g = AreDeclared (length t.names.texts) t.declarations.items g.parameters.items

-- what a group of parameters is declared as is this meaning
pub record ShowsGroup (k : Known) (g : Group) (m : Meaning) : Type 0 where
  pub class : meant g.class ≡ m.class
  pub owner : get_or k.table.owners g.owner.0 nobody ≡ m.owner
  pub owner_there : g.owner.0 < length k.table.owners
  pub value : m.value ≡ None
  pub type : ShowsType k.table g.of m.type
  pub number : IsNumber k.table g.number m.type
  pub signature : m.signature ≡ None

-- a name that declares, or a hole in its place, as far as its rules look at it
abbrev pub named_node : Plain → Node
named_node t = record { at = record plain { kind = t.kind; word = t.word; hole = is_hole t.kind }; below = Done }

-- names in a row, likewise
abbrev pub named_nodes : List Plain → List Node
named_nodes [] = []
named_nodes (t ∷ ts) = named_node t ∷ named_nodes ts

-- row 3 at a name that is kid i, given the names that stand before
abbrev pub repeat_at : List (List ℕ) → ℕ → Node → List Entry
repeat_at before i a = if is_hole a.kind then [] else at_kid i (note_if (is_among before (lowered a.word)) 3 (quoted (codes "declared twice") a.word))

-- a name of a group, kid i, was gone through: its entries, and the parameters with it
pub record AddsName (old new : Tables) (g : Group) (before after : Listed) (i : ℕ) (t : Plain) (had has : List Entry) : Type 0 where
  pub keeps : Keeps old new
  pub shows : (es : List (List ℕ × Meaning)) (m : Meaning) → ShowsListed (known old) old.declarations.items before es → ShowsGroup (known old) g m →
      (has ≡ had ++ repeat_at (names_of es) i (named_node t)) × ShowsListed (known new) new.declarations.items after (es ++ all_as m (names_in (named_node t ∷ [])))
  pub declared : is_routine_class (meant g.class) ≡ false → AreListed old before → AreListed new after

-- the same of names in a row, the first of which is kid 1
pub record AddsNames (old new : Tables) (g : Group) (before after : Listed) (ts : List Plain) (found : List Entry) : Type 0 where
  pub keeps : Keeps old new
  pub shows : (es : List (List ℕ × Meaning)) (m : Meaning) → ShowsListed (known old) old.declarations.items before es → ShowsGroup (known old) g m →
      (found ≡ repeats (names_of es) 1 (named_nodes ts)) × ShowsListed (known new) new.declarations.items after (es ++ all_as m (names_in (named_nodes ts)))
  pub declared : is_routine_class (meant g.class) ≡ false → AreListed old before → AreListed new after

-- a part of a heading has the hole and the entries of this node
pub record ShowsPart (p : Part) (a : Attributes) : Type 0 where
  pub hole : p.hole ≡ a.hole
  pub entries : p.entries.items ≡ a.as_value.entries
