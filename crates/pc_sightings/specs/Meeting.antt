-- What a used name was met as, from the tables, and what it means by the rules (ISO 7185, 6.2.2).
use Rattle.std.specs.Prelude.{◌≡◌, ℕ, Bool, List, Option, Some, None, slice_get}
use Rattle.pc_types.specs.Shapes.{Typed}
use Rattle.pc_types.specs.Table.{Table}
use Rattle.pc_scope.specs.Spelled.{spelling}
use Rattle.pc_names.specs.declared.bound.Bound.{Bound}
use Rattle.pc_names.specs.declared.bound.Bound.TheVariants as bound
use Rattle.pc_names.specs.Standing.{meant}
use Rattle.pc_rules.specs.Meanings as rules
use Rattle.pc_rules.specs.Meanings.{Meaning, Found}
use Rattle.pc_rules.specs.RequiredMeanings.{required_or_missing}
use Rattle.pc_facts.specs.Known.{Known}
use Rattle.pc_facts.specs.Shows.{ShowsType}
use Rattle.pc_sightings.specs.declared.met.Met.{Met}
use Rattle.pc_sightings.specs.declared.met.Met.TheVariants as met

-- what a name, in small letters, was met as is what the rules find, given which meaning a declaration with a number shows
abbrev pub ShowsMet : (ℕ → Meaning → Type 0) → Known → List ℕ → Met → Found → Type 0
ShowsMet shows k n (met.Here d i) (rules.Here m) = shows d.0 m × (slice_get k.names i.0 ≡ Some n)
ShowsMet shows k n (met.Later c) (rules.Later x) = meant c ≡ x
ShowsMet shows k n (met.Component o p) (rules.Component t q) = ShowsType k.table (Some o) (Some t) × (p ≡ q)
ShowsMet shows k n (met.Required b) (rules.Required r) = spelling b ≡ r
ShowsMet shows k n met.Missing rules.Missing = Unit {0}
ShowsMet shows k n _ _ = ⊥

-- what a name that no block declares was met as: a required name, or nothing
abbrev pub MeetsOutermost : List ℕ → Met → Type 0
MeetsOutermost n (met.Required b) = (required_or_missing n ≡ rules.Required n) × (spelling b ≡ n)
MeetsOutermost n met.Missing = required_or_missing n ≡ rules.Missing
MeetsOutermost n _ = ⊥

-- what a name was met as is what the table of names, by their numbers, has it bound to
abbrev pub MeetsBound : List (List ℕ) → List ℕ → Met → Bound → Type 0
MeetsBound names n m bound.Unbound = MeetsOutermost n m
MeetsBound names n (met.Here d i) (bound.Here e) = (d ≡ e) × (slice_get names i.0 ≡ Some n)
MeetsBound names n (met.Later c) (bound.Later e) = c ≡ e
MeetsBound names n _ _ = ⊥

-- what a name was met as is this field
abbrev pub MeetsField : Table → Met → Typed × Bool → Type 0
MeetsField t (met.Component o p) f = ShowsType t (Some o) (Some f.0) × (p ≡ f.1)
MeetsField t _ f = ⊥

-- what a name was met as is the field of that name, if there is one, and else what the table has it bound to
abbrev pub Meets : Known → List ℕ → Met → Option (Typed × Bool) → Bound → Type 0
Meets k n m (Some f) b = MeetsField k.table m f
Meets k n m None b = MeetsBound k.names n m b
