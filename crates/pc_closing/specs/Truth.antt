-- Types by their numbers and types with their lists of domains, where the pointers of both lead to what one truth says (ISO 7185, 6.4.4).
use Rattle.std.specs.Prelude.{◌≡◌, ℕ, ◌<◌, ◌≤◌, Bool, false, if◌then◌else◌, List, [], ◌++◌, Option, Some, None, ◌⊎◌, length}
use Rattle.pc_types.specs.Shapes.{Owner, Shape, Domain}
use Rattle.pc_types.specs.Table.{Table, nobody, shape_at, place_at, domain_at, IsThere}
use Rattle.pc_types.specs.Rows.{Kept, seen, IsInOrder}
use Rattle.pc_types.specs.declared.form.DomainId.{DomainId}
use Rattle.pc_types.specs.declared.operand.Operand.{Operand}
use Rattle.pc_pointers.specs.Good.{Targets, IsGood}
use Rattle.pc_closing.specs.Whole.{is_whole_in, AreWhole, AreFound, IfAny, closed_shape}

-- each row of a table from the first to this one leads to what the truth says of its place
abbrev pub TellRows : Targets → Table → ℕ → Type 0
TellRows truth table count = (x : DomainId) → x.0 < count → truth (place_at table x).owner (place_at table x).name ≡ (domain_at table x).shape

-- the second table has more shapes, owners and domains than the first one, at the end
pub record IsLonger (a b : Table) : Type 0 where
  pub more_shapes : List Shape
  pub more_owners : List Owner
  pub more_domains : List Domain
  pub shapes : b.shapes ≡ a.shapes ++ more_shapes
  pub owners : b.owners ≡ a.owners ++ more_owners
  pub domains : b.domains ≡ a.domains ++ more_domains

-- the second table has each domain at the place where the first one has it, and with the same shape, but for some shapes that are not whole in the first one
pub record Forgets (a b : Table) : Type 0 where
  pub places : (x : DomainId) → place_at b x ≡ place_at a x
  pub targets : (x : DomainId) → ((domain_at b x).shape ≡ (domain_at a x).shape) ⊎ (((domain_at b x).shape ≡ None) × IfAny (λ s. is_whole_in a.domains s ≡ false) (domain_at a x).shape)

-- the shape, if there is one and it is whole
abbrev pub if_whole : List Domain → Option Shape → Option Shape
if_whole ds None = None
if_whole ds (Some t) = if is_whole_in ds t then Some t else None

-- the same as `Forgets`, where no shape is left that is not whole in the first table
pub record KeepsWhole (a b : Table) : Type 0 where
  pub places : (x : DomainId) → place_at b x ≡ place_at a x
  pub targets : (x : DomainId) → (domain_at b x).shape ≡ if_whole a.domains (domain_at a x).shape

-- numbers and rules find the same types whole, and go on to do so while a table grows, and where targets that are not whole are forgotten
pub record TruthLaw : Type 0 where
  -- a type of the table is whole by numbers exactly where it is closed by domains that lead, as the rows do, to what the truth says
  pub whole : (truth : Targets) (k : Kept) (ds : List Domain) (o : Operand) → IsInOrder k → TellRows truth (seen k) (length (seen k).domains) → IsThere (seen k) o →
      IsGood truth (record { shape = shape_at (seen k) o; domains = ds }) →
      closed_shape ds (Some (shape_at (seen k) o)) ≡ (if is_whole_in (seen k).domains (shape_at (seen k) o) then Some (shape_at (seen k) o) else None)
  -- flags stay right where types and domains are added at the end, whatever the new domains lead to: what the old types reach stands among the old domains
  pub longer : (k j : Kept) (flags : List Bool) → IsInOrder k → IsLonger (seen k) (seen j) → length flags ≤ length (seen k).shapes → AreWhole (seen k) flags → AreWhole (seen j) flags
  -- at the place of each domain stands that domain's shape, where all rows tell the truth, and the truth says nothing of the place of no domain
  pub found : (truth : Targets) (table : Table) → TellRows truth table (length table.domains) → truth nobody [] ≡ None → AreFound table
  -- flags stay right where domains forget shapes that are not whole
  pub forgotten : (a b : Table) (flags : List Bool) → b.shapes ≡ a.shapes → Forgets a b → AreFound a → AreFound b → AreWhole a flags → AreWhole b flags
  -- where all of them are forgotten, the second table has at the place of each domain that domain's shape, if the first one does
  pub sifted : (a b : Table) → KeepsWhole a b → AreFound a → AreFound b × Forgets a b
