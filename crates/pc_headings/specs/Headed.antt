-- What is found at the heading of a routine, by numbers (ISO 7185, 6.6.1 to 6.6.3).
use Rattle.std.specs.Prelude.{◌≡◌, ◌<◌, ℕ, Bool, false, not, ◌||◌, if◌then◌else◌, List, [], ◌∷◌, Option, Some, None, slice_get, get_or, length}
use Rattle.std.specs.Option.{option_and_then}
use Rattle.pc_syntax.specs.Plain.{Plain}
use Rattle.pc_syntax.specs.declared.kind.Kind.{Kind}
use Rattle.pc_types.specs.Shapes.{Owner}
use Rattle.pc_types.specs.Table.{nobody}
use Rattle.pc_rules.specs.Attributes.{Marked, is_empty}
use Rattle.pc_rules.specs.Decorated.{decorate}
use Rattle.pc_rules.specs.Denoters.{type_of_found}
use Rattle.pc_rules.specs.Headings.{entries_of_heading, formals_in, with_result}
use Rattle.pc_rules.specs.Meanings.{Meaning, Found, Signature}
use Rattle.pc_rules.specs.OwnBlock.{heading_part}
use Rattle.pc_rules.specs.Routines.{bare, firsts, heading_start, params_in, result_in}
use Rattle.pc_facts.specs.Known.{Known}
use Rattle.pc_facts.specs.Shows.{ShowsSignatures}
use Rattle.pc_facts.specs.declared.sighting.Declared.{Declared}
use Rattle.pc_places.specs.Places.{known, Keeps}
use Rattle.pc_places.specs.Scenes.{SeesNames, ShowsUnsigned}
use Rattle.pc_places.specs.declared.tables.Tables.{Tables}
use Rattle.pc_places.specs.Parameters.{ShowsParameters, AreNamed, HaveNames, AreParameters}
use Rattle.pc_headings.specs.declared.routine_heading.RoutineHeading.{RoutineHeading}

-- from the block with this number names mean this, and the routine with that number is this one
pub record IsAround (t : Tables) (block owner : ℕ) (means : List ℕ → Found) (o : Owner) : Type 0 where
  pub sees : SeesNames (known t) t.names t.declarations.items block [] means
  pub owner_is : get_or (known t).table.owners owner nobody ≡ o

-- the block and the routine are there
pub record AreThere (t : Tables) (block owner : ℕ) : Type 0 where
  pub block_there : block < length t.names.chains
  pub owner_there : owner < length (known t).table.owners

-- what is found at the nodes of the heading of a routine, given what names mean around it
abbrev pub marks_in : (List ℕ → Found) → Owner → Plain → Marked
marks_in means o t = decorate (bare means) (heading_start o) (heading_part t.kids)

-- parameters and result, by what is found at the nodes of the heading; none where they have an error or a hole
abbrev pub signature_of : Kind → Bool → Marked → Option Signature
signature_of k later m =
    if (params_in m).hole || not (is_empty (entries_of_heading k later m)) then None
    else option_and_then (with_result k (type_of_found (result_in m).found)) (formals_in (params_in m).defines)

-- What was made of the heading of a routine, given the block around it and its own number: its entries; and, unless it is a later
-- declaration, the first parameter of each name, and its signature. Whatever is around, the parameters have names and declarations by the
-- tables, under these names, which are no routines'.
pub record Headed (old new : Tables) (block owner : ℕ) (later : Bool) (t : Plain) (r : RoutineHeading) : Type 0 where
  pub keeps : Keeps old new
  pub entries : (means : List ℕ → Found) (o : Owner) → IsAround old block owner means o → r.entries.items ≡ entries_of_heading t.kind later (marks_in means o t)
  pub parameters : (means : List ℕ → Found) (o : Owner) → later ≡ false → IsAround old block owner means o →
      ShowsParameters (known new) new.declarations.items r.parameters.items (firsts [] (params_in (marks_in means o t)).defines)
  pub signature : (means : List ℕ → Found) (o : Owner) → later ≡ false → IsAround old block owner means o →
      ShowsSignatures (known new) r.signature (signature_of t.kind later (marks_in means o t))
  pub are_named : AreNamed (length new.names.texts) r.parameters.items
  pub have_names : HaveNames new.declarations.items r.parameters.items
  pub fresh : AreParameters new.declarations.items r.parameters.items
