-- The forward routines that wait for their later declarations, by the numbers of their names (ISO 7185, 6.6.1, 6.6.2).
use Rattle.std.specs.Prelude.{◌≡◌, ◌<◌, ◌≤◌, ◌&&◌, nat_eq, ℕ, Bool, true, false, List, Option, Some, None, length, get_or}
use Rattle.std.specs.Option.{is_some, option_and_then, option_or}
use Rattle.std.specs.Map.{lookup}
use Rattle.pc_types.specs.Shapes.{Keyed}
use Rattle.pc_types.specs.Table.{nobody}
use Rattle.pc_names.specs.Bindings.{is_at}
use Rattle.pc_names.specs.declared.id.NameId.{NameId}
use Rattle.pc_scope.specs.Headings.{Heading, any_pairs}
use Rattle.pc_rules.specs.Meanings.{Meaning}
use Rattle.pc_rules.specs.RoutineList.{Forwarded, forwarded_for, key_of}
use Rattle.pc_rules.specs.Routines.{Routine, parameters_of}
use Rattle.pc_places.specs.declared.tables.Tables.{Tables}
use Rattle.pc_places.specs.Parameters.{ShowsParameters, AreNamed, HaveNames}
use Rattle.pc_places.specs.Places.{known}
use Rattle.pc_routines.specs.declared.forward.Forward.{Forward}
use Rattle.pc_routines.specs.Heads.{side, found_for}

-- what a forward routine gives to its later declaration: its key, if it has one, and its parameters, whose declarations are ones under their
-- names
pub record ShowsForward (t : Tables) (f : Forward) (own : Option (List (List ℕ))) (ps : List (List ℕ × Meaning)) : Type 0 where
  pub key : f.key ≡ own
  pub owner : (k : List (List ℕ)) → own ≡ Some k → get_or (known t).table.owners f.owner.0 nobody ≡ Keyed k
  pub there : f.owner.0 < length (known t).table.owners
  pub parameters : ShowsParameters (known t) t.declarations.items f.parameters.items ps
  pub named : AreNamed (length t.names.texts) f.parameters.items
  pub have_names : HaveNames t.declarations.items f.parameters.items

-- a forward routine that the rules have, where there may be none
abbrev pub ShowsForwarded : Tables → Option Forward → Option Forwarded → Type 0
ShowsForwarded t None None = Unit {0}
ShowsForwarded t (Some f) (Some g) = ShowsForward t f g.key g.parameters
ShowsForwarded t _ _ = ⊥

-- what the table of those that wait has at a number and a side
abbrev pub waiting_at : List ((ℕ × ℕ) × Option Forward) → ℕ → ℕ → Option Forward
waiting_at w i s = option_and_then (λ (o : Option Forward). o) (lookup (is_at i s) w)

-- whether a number and a side are those of a heading
abbrev pub is_key : Option NameId → Bool → ℕ → ℕ → Bool
is_key None b i s = false
is_key (Some n) b i s = nat_eq n.0 i && nat_eq (side b) s

-- the table has the forward routines that wait at a place, by the headings there and by what the list of routines keeps of them
pub record Waits (t : Tables) (w : List ((ℕ × ℕ) × Option Forward)) (waiting : List Heading) (fs : List Forwarded) : Type 0 where
  pub shows : (h : Heading) → ShowsForwarded t (found_for (waiting_at w) t.names.texts h) (forwarded_for h fs)
  pub waits : (h : Heading) → is_some (forwarded_for h fs) ≡ any_pairs h waiting
  pub within : (i s : ℕ) → length t.names.texts ≤ i → waiting_at w i s ≡ None

-- what there is for a heading behind a routine that pairs with it: nothing but behind a forward one, where the first that waits counts
abbrev pub settled : Option Forward → Option Forward → Option Forward
settled None before = None
settled (Some f) before = option_or before (Some f)

-- what a routine leaves for those behind it, given whether it is a forward one
abbrev pub Gives : Tables → Option Forward → Routine → Bool → Type 0
Gives t None r b = b ≡ false
Gives t (Some f) r b = (b ≡ true) × ShowsForward t f (key_of r.owner) (parameters_of r)
