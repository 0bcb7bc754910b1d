-- Domains get the types that stand under their names (ISO 7185, 6.4.4).
use Rattle.std.specs.Prelude.{◌≡◌, ◌<◌, ◌≤◌, ℕ, Bool, true, false, List, Option, get_or, length, option_map}
use Rattle.std.specs.Option.{option_and_then}
use Rattle.pc_types.specs.Shapes.{Shape}
use Rattle.pc_types.specs.Growth.{Retargets}
use Rattle.pc_types.specs.Rows.{seen}
use Rattle.pc_types.specs.Table.{Table, numbered, nobody, place_at, domain_at}
use Rattle.pc_types.specs.declared.form.TypeId.{TypeId}
use Rattle.pc_types.specs.declared.form.DomainId.{DomainId}
use Rattle.pc_names.specs.Numbers.{number_of}
use Rattle.pc_closing.specs.Truth.{IsLonger}
use Rattle.pc_places.specs.Places.{known}
use Rattle.pc_places.specs.declared.tables.Tables.{Tables}
use Rattle.pc_domains.specs.Told.{type_at, Retargeted}

-- the type that stands under the number of an owner and a name
abbrev pub type_named : List ((ℕ × ℕ) × Option TypeId) → List (List ℕ) → ℕ → List ℕ → Option TypeId
type_named ts names o n = option_and_then (λ i. type_at ts o i) (number_of names n)

-- at the place of a domain stands this, under an owner whose types are closed
pub record StandsAt (closed : List Bool) (ts : List ((ℕ × ℕ) × Option TypeId)) (t : Tables) (x : DomainId) (shape : Option Shape) : Type 0 where
  pub owner : ℕ
  pub is_closed : get_or closed owner false ≡ true
  pub is : (place_at (known t).table x).owner ≡ get_or (known t).table.owners owner nobody
  pub target : shape ≡ option_map (numbered (known t).table.shapes) (type_named ts t.names.texts owner (place_at (known t).table x).name)

-- the domain with this number has the type that stands at its place, and all else stays
pub record TellsRow (closed : List Bool) (ts : List ((ℕ × ℕ) × Option TypeId)) (x : DomainId) (old new : Tables) : Type 0 where
  pub shape : Option Shape
  pub stands : StandsAt closed ts old x shape
  pub types : Retargets (seen old.types) (seen new.types) x.0 shape
  pub names : new.names ≡ old.names
  pub declarations : new.declarations.items ≡ old.declarations.items
  pub signatures : new.signatures.items ≡ old.signatures.items
  pub texts : new.texts.items ≡ old.texts.items

-- so have the domains between two numbers, and all else stays
pub record TellsRows (closed : List Bool) (ts : List ((ℕ × ℕ) × Option TypeId)) (from to : ℕ) (old new : Tables) : Type 0 where
  pub same : Retargeted old new
  pub before : (x : DomainId) → x.0 < from → domain_at (known new).table x ≡ domain_at (known old).table x
  pub longer : (a : Table) → length a.domains ≤ from → IsLonger a (known old).table → IsLonger a (known new).table
  pub told : (x : DomainId) → from ≤ x.0 → x.0 < to → StandsAt closed ts new x (domain_at (known new).table x).shape
