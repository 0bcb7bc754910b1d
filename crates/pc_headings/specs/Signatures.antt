-- The signature of a heading, from its parts.
use Rattle.std.specs.Prelude.{◌≡◌, ◌<◌, Bool, true, false, not, ◌||◌, if◌then◌else◌, List, length, Option, Some, None, is_some, option_map}
use Rattle.std.specs.Option.{ForSome, option_and_then}
use Rattle.pc_syntax.specs.declared.kind.Kind.{Kind}
use Rattle.pc_syntax.specs.declared.kind.Kind.TheVariants as kind
use Rattle.pc_types.specs.Shapes.{Typed}
use Rattle.pc_types.specs.Table.{numbered}
use Rattle.pc_types.specs.declared.form.TypeId.{TypeId}
use Rattle.pc_rules.specs.Attributes.{Entry, is_empty}
use Rattle.pc_rules.specs.Headings.{with_result}
use Rattle.pc_rules.specs.Meanings as rules
use Rattle.pc_facts.specs.Known.{Known}
use Rattle.pc_facts.specs.Shows.{ShowsFormals, shape_of}
use Rattle.pc_facts.specs.declared.sighting.Formal.{Formal}
use Rattle.pc_type_rules.specs.Denoted.{IsNumber}

-- the signature, given whether the parameters have a hole, the entries of the heading, the kind of the routine, its result type and
-- its formal parameters
abbrev pub signature_from : Bool → List Entry → Kind → Option Typed → Option (List rules.Formal) → Option rules.Signature
signature_from hole es k t fs = if hole || not (is_empty es) then None else option_and_then (with_result k t) fs

-- the number of the result type, and whether a routine of this kind has the result that it needs
abbrev pub HasResult : Known → Kind → Bool → Option TypeId → Option Typed → Type 0
HasResult k kind.Procedure has i t = (has ≡ true) × (i ≡ None)
HasResult k kind.Function has i t = (has ≡ is_some i) × IsNumber k.table i t
HasResult k _ has i t = ⊥

-- whether there is a signature, and then its parts by numbers
abbrev pub IsWanted : Known → Bool → List Formal → Option TypeId → Option rules.Signature → Type 0
IsWanted k true fs i (Some r) = ShowsFormals k fs r.formals × (option_map (numbered k.table.shapes) i ≡ shape_of r.result) × ForSome i (λ x. x.0 < length k.table.shapes)
IsWanted k false fs i None = Unit {0}
IsWanted k _ fs i _ = ⊥
