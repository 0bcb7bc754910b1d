-- Groups of parameters, and what is found at them where they stand in a heading.
use Rattle.std.specs.Prelude.{◌≡◌, ℕ, Bool, true, false, not, ◌||◌, List, [], ◌++◌, Option, Some, None}
use Rattle.pc_syntax.specs.Classes.{has}
use Rattle.pc_syntax.specs.Plain.{Plain, kids_of}
use Rattle.pc_syntax.specs.WellFormed.{IsProper}
use Rattle.pc_syntax.specs.declared.class.Class.TheVariants as class
use Rattle.pc_types.specs.Shapes.{Owner, Shape}
use Rattle.pc_types.specs.TypeClasses.{is_ordinal, is_pointer}
use Rattle.pc_names.specs.Standing.{meant}
use Rattle.pc_names.specs.declared.name_class.NameClass.{NameClass}
use Rattle.pc_rules.specs.Attributes.{Node, Entry, nodes, kids_below}
use Rattle.pc_rules.specs.Declarations.{parameter_rule}
use Rattle.pc_rules.specs.DeclaringNames.{names_in, repeats}
use Rattle.pc_rules.specs.Denoters.{type_of_found, type_name_entries}
use Rattle.pc_rules.specs.HandedOn.{any_hole, all_defines, kid_entries}
use Rattle.pc_rules.specs.Meanings.{Found, Local, Meaning, is_routine_class}
use Rattle.pc_rules.specs.Routines.{bare}
use Rattle.pc_environment.specs.Decorating.{attributes_at, marks_of}
use Rattle.pc_facts.specs.Known.{Known}
use Rattle.pc_facts.specs.Shows.{ShowsType}
use Rattle.pc_places.specs.Places.{known, Keeps, node_at}
use Rattle.pc_places.specs.declared.tables.Tables.{Tables}
use Rattle.pc_headings.specs.declared.listed.Listed.{Listed}
use Rattle.pc_headings.specs.declared.listed.Part.{Part}
use Rattle.pc_headings.specs.declared.listed.UsedType.{UsedType}
use Rattle.pc_headings.specs.Headed.{IsAround}
use Rattle.pc_headings.specs.Listing.{names_of, named_nodes, ShowsListed, ShowsPart, AreListed}

-- a place in the heading of a routine: nothing is declared, so names mean what they mean around it
pub record IsHeadingPlace (o : Owner) (l : Local) : Type 0 where
  pub owner_is : l.owner ≡ o
  pub names_are : l.names ≡ []
  pub known_are : l.known ≡ []
  pub fields_are : l.fields ≡ []
  pub closed : l.opening ≡ false

-- what was found at a type's name, or at a hole in its place
pub record ShowsUsed (k : Known) (u : UsedType) (n : Node) : Type 0 where
  pub hole : u.hole ≡ n.at.hole
  pub entries : u.entries.items ≡ type_name_entries n
  pub type : ShowsType k.table u.of (type_of_found n.at.found)

-- the names of a list, as they are found
pub record AreNames (ts : List Plain) (a : Node) : Type 0 where
  pub names : names_in (kids_below a) ≡ names_in (named_nodes ts)
  pub repeated : (before : List (List ℕ)) → repeats before 1 (kids_below a) ≡ repeats before 1 (named_nodes ts)
  pub hole : a.at.hole ≡ any_hole (named_nodes ts)

-- a group of this class was gone through, given its names and its type's name
pub record AddsGroup (old new : Tables) (block owner : ℕ) (c : NameClass) (before after : Listed) (names type_name : Plain) (p : Part) : Type 0 where
  pub keeps : Keeps old new
  pub shows : (means : List ℕ → Found) (o : Owner) (es : List (List ℕ × Meaning)) (l lt : Local) (a : Node) → IsAround old block owner means o → l.owner ≡ o → l.passed ≡ names_of es →
      IsHeadingPlace o lt → lt.using ≡ true → AreNames (kids_of names) a → ShowsListed (known old) old.declarations.items before es →
      ShowsPart p (parameter_rule l (meant c) a (node_at (bare means) lt type_name)) ×
      ShowsListed (known new) new.declarations.items after (es ++ (parameter_rule l (meant c) a (node_at (bare means) lt type_name)).defines)
  pub declared : is_routine_class (meant c) ≡ false → AreListed old before → AreListed new after

-- a node among the parameters was gone through: a group, or a hole
pub record AddsNode (old new : Tables) (block owner : ℕ) (before after : Listed) (t : Plain) (p : Part) : Type 0 where
  pub keeps : Keeps old new
  pub shows : (means : List ℕ → Found) (o : Owner) (es : List (List ℕ × Meaning)) (l : Local) → IsAround old block owner means o → IsHeadingPlace o l → l.passed ≡ names_of es →
      ShowsListed (known old) old.declarations.items before es →
      ShowsPart p (attributes_at (bare means) l t) × ShowsListed (known new) new.declarations.items after (es ++ (attributes_at (bare means) l t).defines)
  pub declared : AreListed old before → AreListed new after

-- what was found at nodes among the parameters, in a row
pub record ShowsRow (t : Tables) (g : Listed) (hole : Bool) (entries : List Entry) (ns : List Node) : Type 0 where
  pub hole_is : hole ≡ any_hole ns
  pub entries_are : entries ≡ kid_entries 1 ns
  pub lists : ShowsListed (known t) t.declarations.items g (all_defines ns)

-- nodes in a row from the first on were gone through
pub record AddsRow (old new : Tables) (block owner : ℕ) (before after : Listed) (ts : List Plain) (hole : Bool) (entries : List Entry) : Type 0 where
  pub keeps : Keeps old new
  pub shows : (means : List ℕ → Found) (o : Owner) (l : Local) → IsAround old block owner means o → IsHeadingPlace o l → l.passed ≡ [] → ShowsListed (known old) old.declarations.items before [] →
      ShowsRow new after hole entries (nodes (marks_of (bare means) l ts))
  pub declared : AreListed old before → AreListed new after

-- a list of parameters was gone through
pub record AddsParameters (old new : Tables) (block owner : ℕ) (t : Plain) (listed : Listed) (p : Part) : Type 0 where
  pub keeps : Keeps old new
  pub shows : (means : List ℕ → Found) (o : Owner) (l : Local) → IsAround old block owner means o → IsHeadingPlace o l → l.passed ≡ [] →
      ShowsPart p (attributes_at (bare means) l t) × ShowsListed (known new) new.declarations.items listed (attributes_at (bare means) l t).defines
  pub declared : AreListed new listed

-- a node that may stand among parameters
pub record IsParameter (t : Plain) : Type 0 where
  pub proper : IsProper t
  pub class_is : has class.Parameter t.kind ≡ true

-- known, and neither ordinal nor a pointer type
abbrev pub is_complex : Option Shape → Bool
is_complex None = false
is_complex (Some t) = not (is_ordinal t || is_pointer t)
