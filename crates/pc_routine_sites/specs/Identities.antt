-- A routine as an owner: its key and its number, and what it has from a forward one and gives to a later declaration.
use Rattle.std.specs.Prelude.{◌≡◌, ◌&&◌, nat_lt, ℕ, Bool, true, false, if◌then◌else◌, List, [], ◌∷◌, ◌++◌, Option, Some, None, option_map, slice_get, length}
use Rattle.std.specs.Option.{is_some}
use Rattle.pc_syntax.specs.declared.kind.Kind.{Kind}
use Rattle.pc_types.specs.Growth.{AddsOwner}
use Rattle.pc_types.specs.Shapes.{Owner}
use Rattle.pc_types.specs.Table.{Table}
use Rattle.pc_types.specs.declared.form.OwnerId.{OwnerId}
use Rattle.pc_scope.specs.Headings.{is_function_kind}
use Rattle.pc_names.specs.declared.id.NameId.{NameId}
use Rattle.pc_facts.specs.declared.sighting.Variable.{Variable}
use Rattle.pc_places.specs.declared.parameter.Parameter.{Parameter}
use Rattle.pc_routines.specs.Heads.{found_at}
use Rattle.pc_routines.specs.Waits.{waiting_at}
use Rattle.pc_routines.specs.declared.forward.Forward.{Forward}
use Rattle.pc_routines.specs.declared.head.RoutineHead.{RoutineHead}

-- the key of a forward routine, where there is one that has one
abbrev pub waiting_key : Option Forward → Option (List (List ℕ))
waiting_key None = None
waiting_key (Some f) = f.key

-- the key of a routine with this name in the one with this key, where there are both
abbrev pub child_key : List (List ℕ) → Option (List (List ℕ)) → Option NameId → Option (List (List ℕ))
child_key names None name = None
child_key names (Some k) None = None
child_key names (Some k) (Some i) = option_map (λ (n : List ℕ). k ++ n ∷ []) (slice_get names i.0)

-- the key of a routine with this heading, given the key of the routine around, and whether it is a later declaration or the first of its name
abbrev pub own_key : List (List ℕ) → List ((ℕ × ℕ) × Option Forward) → Option (List (List ℕ)) → RoutineHead → Bool → Bool → Option (List (List ℕ))
own_key names w around x later first =
    if later then waiting_key (found_at (waiting_at w) x.name x.is_function) else (if first then child_key names around x.name else None)

-- a number, if it is one of so many
abbrev pub taken_at : ℕ → OwnerId → Option OwnerId
taken_at owners i = if nat_lt i.0 owners then Some i else None

-- the number of a forward routine that has a key, for its later declaration
abbrev pub taken_owner : Bool → ℕ → Option Forward → Option OwnerId
taken_owner false owners o = None
taken_owner true owners None = None
taken_owner true owners (Some f) = if is_some f.key then taken_at owners f.owner else None

-- an owner has the number that is taken, or else the next one
abbrev pub IsOwner : Option OwnerId → Owner → Table → Table → OwnerId → Type 0
IsOwner (Some d) o old new i = (i ≡ d) × (new ≡ old)
IsOwner None o old new i = (i.0 ≡ length old.owners) × AddsOwner old new o

-- the function that a routine of a kind is, as a variable of the block around it
abbrev pub own_function : Kind → Bool → OwnerId → Option NameId → Option Variable
own_function k has_key around name = if has_key && is_function_kind k then option_map (λ (n : NameId). record { owner = around; name = n }) name else None

-- the parameters of a forward routine, where there is one
abbrev pub waiting_parameters : Option Forward → List Parameter
waiting_parameters None = []
waiting_parameters (Some f) = f.parameters.items

-- what a forward routine gives to its later declaration; any other one gives nothing
abbrev pub IsForward : Bool → OwnerId → Option (List (List ℕ)) → List Parameter → Option Forward → Type 0
IsForward false o key ps None = Unit {0}
IsForward true o key ps (Some f) = (f.owner ≡ o) × (f.key ≡ key) × (f.parameters.items ≡ ps)
IsForward _ o key ps _ = ⊥
