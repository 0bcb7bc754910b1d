-- Types from which nothing unknown is reached (ISO 7185, 6.4.4).
use Rattle.std.specs.Prelude.{◌≡◌, ℕ, ◌<◌, Bool, true, List, Option, Some, None, get_or, length, option_map}
use Rattle.pc_types.specs.Shapes.{Owner, Shape, NoMembers, Fields, LastField, FieldOf, Domain, Typed}
use Rattle.pc_types.specs.Domains.{domain_in, stands_in, reached, all_whole, closed}
use Rattle.pc_types.specs.TypeClasses.{fields_of}
use Rattle.pc_types.specs.Outlined.{element_of, domain_place}
use Rattle.pc_types.specs.Table.{Table, Place, place_at, domain_at}
use Rattle.pc_types.specs.declared.form.DomainId.{DomainId}

-- whether every domain that is reached from the shape has a shape
abbrev pub is_whole_in : List Domain → Shape → Bool
is_whole_in ds t = all_whole (reached ds t)

-- the same of the type with this number in a table
abbrev pub is_whole_at : Table → ℕ → Bool
is_whole_at table i = is_whole_in table.domains (get_or table.shapes i NoMembers)

-- each flag says whether the type with its number is whole
abbrev pub AreWhole : Table → List Bool → Type 0
AreWhole table flags = (i : ℕ) → i < length flags → get_or flags i true ≡ is_whole_at table i

-- at the place of each domain the table has that domain's shape
abbrev pub AreFound : Table → Type 0
AreFound table = (x : DomainId) → domain_in table.domains (place_at table x).owner (place_at table x).name ≡ (domain_at table x).shape

-- the shape has the property, if there is one
abbrev pub IfAny : (Shape → Type 0) → Option Shape → Type 0
IfAny P None = Unit {0}
IfAny P (Some t) = P t

-- there is a shape, and it has the property
abbrev pub IsKnown : (Shape → Type 0) → Option Shape → Type 0
IsKnown P None = ⊥
IsKnown P (Some t) = P t

-- the type of each field has the property
abbrev pub EachField : (Shape → Type 0) → Fields → Type 0
EachField P LastField = Unit {0}
EachField P (FieldOf n t fs) = P t × EachField P fs

-- the table has a shape at the place, if there is one, and it has the property
abbrev pub IsFound : (Shape → Type 0) → List Domain → Option Place → Type 0
IsFound P ds None = Unit {0}
IsFound P ds (Some p) = IsKnown P (domain_in ds p.owner p.name)

-- what a shape leads to has the property: the type of its elements, those of its fields, and what it points to, which is known
pub record LeadsOn (P : Shape → Type 0) (ds : List Domain) (t : Shape) : Type 0 where
  pub element : IfAny P (element_of t)
  pub fields : EachField P (fields_of t)
  pub target : IsFound P ds (domain_place t)

-- a whole shape leads to whole shapes; a shape is whole if it passes a test by which shapes lead only to shapes that pass it too
pub record WholeLaw : Type 0 where
  pub parts : (ds : List Domain) (t : Shape) → is_whole_in ds t ≡ true → LeadsOn (λ s. is_whole_in ds s ≡ true) ds t
  pub whole : (p : Shape → Bool) (ds : List Domain) → ((t : Shape) → p t ≡ true → LeadsOn (λ s. p s ≡ true) ds t) → (t : Shape) → p t ≡ true → is_whole_in ds t ≡ true

-- two tables have the same at each place that is reached from the shape by the first
abbrev pub AgreeAt : List Domain → List Domain → Shape → Type 0
AgreeAt a b t = (o : Owner) (n : List ℕ) → stands_in (reached a t) o n ≡ true → domain_in a o n ≡ domain_in b o n

-- the shape that a type has, once it is closed
abbrev pub closed_shape : List Domain → Option Shape → Option Shape
closed_shape ds t = option_map (λ (x : Typed). x.shape) (closed ds t)

-- whether a shape is whole depends only on what the table has at the places that are reached from it, and so does the shape of its
-- closed type
pub record AgreeLaw : Type 0 where
  pub whole : (a b : List Domain) (t : Shape) → AgreeAt a b t → is_whole_in a t ≡ is_whole_in b t
  pub closed : (a b : List Domain) (t : Shape) → AgreeAt a b t → closed_shape a (Some t) ≡ closed_shape b (Some t)
