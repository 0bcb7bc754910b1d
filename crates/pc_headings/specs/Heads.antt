-- The parts of a heading, each gone through where it stands.
use Rattle.std.specs.Prelude.{◌≡◌, ℕ, true, false, List, [], ◌++◌, length, Option}
use Rattle.pc_syntax.specs.Plain.{Plain}
use Rattle.pc_syntax.specs.declared.kind.Kind.TheVariants as kind
use Rattle.pc_types.specs.Shapes.{Owner, Typed}
use Rattle.pc_types.specs.declared.form.TypeId.{TypeId}
use Rattle.pc_rules.specs.Attributes.{Entry, Node, at_kid}
use Rattle.pc_rules.specs.Denoters.{type_of_found}
use Rattle.pc_rules.specs.Headings.{result_entries, formals_in}
use Rattle.pc_rules.specs.Meanings.{Found, Local, Signature}
use Rattle.pc_rules.specs.Routines.{bare, firsts}
use Rattle.pc_environment.specs.Decorating.{place_behind}
use Rattle.pc_facts.specs.Shows.{ShowsSignatures}
use Rattle.pc_type_rules.specs.Denoted.{IsNumber}
use Rattle.pc_places.specs.Places.{known, Keeps, node_at}
use Rattle.pc_places.specs.declared.tables.Tables.{Tables}
use Rattle.pc_headings.specs.declared.routine_heading.RoutineHeading.{RoutineHeading}
use Rattle.pc_headings.specs.Groups.{IsHeadingPlace}
use Rattle.pc_headings.specs.Headed.{IsAround}
use Rattle.pc_headings.specs.Listing.{AreDeclared}
use Rattle.pc_places.specs.Parameters.{ShowsParameters}
use Rattle.pc_headings.specs.Signatures.{signature_from}

-- what was made of a heading is this, given what is found at its parameters, its entries, and its signature
pub record ShowsHeading (t : Tables) (r : RoutineHeading) (n : Node) (es : List Entry) (s : Option Signature) : Type 0 where
  pub entries : r.entries.items ≡ es
  pub parameters : ShowsParameters (known t) t.declarations.items r.parameters.items (firsts [] n.at.defines)
  pub signature : ShowsSignatures (known t) r.signature s

-- the heading of a procedure with these parameters was gone through
pub record HeadsProcedure (old new : Tables) (block owner : ℕ) (params : Plain) (r : RoutineHeading) : Type 0 where
  pub keeps : Keeps old new
  pub shows : (means : List ℕ → Found) (o : Owner) (l : Local) (t : Option Typed) → IsAround old block owner means o → IsHeadingPlace o l → l.passed ≡ [] →
      let n = node_at (bare means) l params in
      ShowsHeading new r n (at_kid 2 n.at.as_value.entries) (signature_from n.at.hole (at_kid 2 n.at.as_value.entries) kind.Procedure t (formals_in n.at.defines))
  pub declared : AreDeclared (length new.names.texts) new.declarations.items r.parameters.items

-- the entries of a function's heading, given what is found at its parameters and at its result type
abbrev pub function_entries : Node → Node → List Entry
function_entries n result = at_kid 2 n.at.as_value.entries ++ at_kid 3 (result_entries false result)

-- the heading of a function with these parameters and this result type was gone through
pub record HeadsFunction (old new : Tables) (block owner : ℕ) (params result_type : Plain) (r : RoutineHeading) : Type 0 where
  pub keeps : Keeps old new
  pub shows : (means : List ℕ → Found) (o : Owner) (l : Local) → IsAround old block owner means o → IsHeadingPlace o l → IsHeadingPlace o (place_behind (bare means) l params) → l.using_next ≡ true → l.passed ≡ [] →
      let n = node_at (bare means) l params in
      let result = node_at (bare means) (place_behind (bare means) l params) result_type in
      ShowsHeading new r n (function_entries n result) (signature_from n.at.hole (function_entries n result) kind.Function (type_of_found result.at.found) (formals_in n.at.defines))
  pub declared : AreDeclared (length new.names.texts) new.declarations.items r.parameters.items

-- a result type was gone through: its entries, and its number
pub record AddsResult (old new : Tables) (block : ℕ) (result_type : Plain) (es : List Entry) (i : Option TypeId) : Type 0 where
  pub keeps : Keeps old new
  pub shows : (means : List ℕ → Found) (o : Owner) (owner : ℕ) (l : Local) → IsAround old block owner means o → IsHeadingPlace o l → l.using ≡ true →
      let result = node_at (bare means) l result_type in
      (es ≡ result_entries false result) × IsNumber (known new).table i (type_of_found result.at.found)
