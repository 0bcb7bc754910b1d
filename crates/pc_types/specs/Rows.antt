-- How types are kept: a row for each, with its definition and its size.
use Rattle.std.specs.Prelude.{◌≡◌, ℕ, ◌<◌, List, [], ◌∷◌, ◌++◌, Option, Some, None, get_or, length, map, option_map, min, max, ◌+◌, ◌*◌, if◌then◌else◌}
use Rattle.std.specs.Str.{bytes_eq}
use Rattle.pc_types.specs.Shapes.{Owner, Keyed, Placed, Shape, Domain}
use Rattle.pc_types.specs.Sizes.{cells, levels, cells_in, levels_in, values_of}
use Rattle.pc_types.specs.Table.{Table, shape_in, Place, nobody, numbered, formed, fields_from, definition_in, PartsThere}
use Rattle.pc_types.specs.declared.form.TypeId.{TypeId}
use Rattle.pc_types.specs.declared.form.Form.{Form}
use Rattle.pc_types.specs.declared.form.Form.TheVariants as form
use Rattle.pc_types.specs.declared.owner.Owner.{Owner as Written}
use Rattle.pc_types.specs.declared.owner.Owner.TheVariants as owner
use Rattle.pc_types.specs.declared.types.Row.{Row}
use Rattle.pc_types.specs.declared.types.DomainRow.{DomainRow}

abbrev pub seen_owner : Written → Owner
seen_owner (owner.Keyed key) = Keyed key
seen_owner (owner.Placed place key) = Placed place

-- where a domain is declared
abbrev pub row_place : List Owner → DomainRow → Place
row_place owners d = record { owner = get_or owners d.owner.0 nobody; name = d.name }

abbrev pub row_domain : List Owner → List Shape → DomainRow → Domain
row_domain owners shapes d = record { owner = get_or owners d.owner.0 nobody; name = d.name; shape = option_map (numbered shapes) d.of }

-- the shape of a row, whose parts stand before it
abbrev pub row_shape : List Owner → List Place → List Shape → Row → Shape
row_shape owners places shapes r = formed places shapes (definition_in owners r.definition) r.form

-- the shapes that are known, and then those of the rows
abbrev pub shapes_from : List Owner → List Place → List Shape → List Row → List Shape
shapes_from owners places known [] = known
shapes_from owners places known (r ∷ rows) = shapes_from owners places (known ++ row_shape owners places known r ∷ []) rows

-- what a row names stands before it, and its size is that of its shape, up to a little over the limits
pub record IsRow (owners : List Owner) (places : List Place) (known : List Shape) (r : Row) : Type 0 where
  pub owner : r.definition.owner.0 < length owners
  pub parts : PartsThere (length known) (length places) r.form
  pub cells : r.cells ≡ min (cells (row_shape owners places known r)) 1000001
  pub levels : r.levels ≡ min (levels (row_shape owners places known r)) 257

abbrev pub AreRows : List Owner → List Place → List Shape → List Row → Type 0
AreRows owners places known [] = Unit {0}
AreRows owners places known (r ∷ rows) = IsRow owners places known r × AreRows owners places (known ++ row_shape owners places known r ∷ []) rows

-- what a domain names is there
abbrev pub TargetThere : ℕ → Option ℕ → Type 0
TargetThere types None = Unit {0}
TargetThere types (Some i) = i < types

pub record IsDomainRow (owners types : ℕ) (d : DomainRow) : Type 0 where
  pub owner : d.owner.0 < owners
  pub target : TargetThere types (option_map (λ i. i.0) d.of)

abbrev pub AreDomainRows : ℕ → ℕ → List DomainRow → Type 0
AreDomainRows owners types [] = Unit {0}
AreDomainRows owners types (d ∷ domains) = IsDomainRow owners types d × AreDomainRows owners types domains

-- what is kept, as the code has it
pub record Kept : Type 0 where
  pub rows : List Row
  pub owners : List Written
  pub domains : List DomainRow

abbrev pub kept_owners : Kept → List Owner
kept_owners k = map seen_owner k.owners

abbrev pub kept_places : Kept → List Place
kept_places k = map (row_place (kept_owners k)) k.domains

abbrev pub kept_shapes : Kept → List Shape
kept_shapes k = shapes_from (kept_owners k) (kept_places k) [] k.rows

-- the table that is kept
unfoldable pub seen : Kept → Table
seen k = record { shapes = kept_shapes k; owners = kept_owners k; domains = map (row_domain (kept_owners k) (kept_shapes k)) k.domains }

-- the first rows are the required types: integer, Boolean, char, and that of `nil`
abbrev pub BeginRequired : List Row → Type 0
BeginRequired (a ∷ b ∷ c ∷ d ∷ rows) = (a.form ≡ form.Integer) × (b.form ≡ form.Boolean) × (c.form ≡ form.Char) × (d.form ≡ form.Nil)
BeginRequired _ = ⊥

-- the first owner is the program
abbrev pub BeginProgram : List Written → Type 0
BeginProgram [] = ⊥
BeginProgram (o ∷ owners) = seen_owner o ≡ Keyed []

-- the row of a required type of this form
pub record IsRequiredRow (f : Form) (r : Row) : Type 0 where
  pub is : r.form ≡ f
  pub owner : r.definition.owner.0 ≡ 0
  pub cells : r.cells ≡ 1
  pub levels : r.levels ≡ 1

-- what is kept is in order
pub record IsInOrder (k : Kept) : Type 0 where
  pub rows_are : AreRows (kept_owners k) (kept_places k) [] k.rows
  pub domains_are : AreDomainRows (length k.owners) (length k.rows) k.domains
  pub begins : BeginRequired k.rows
  pub program : BeginProgram k.owners

-- what the row at a number says of the table
pub record StandsFor (table : Table) (i : TypeId) (r : Row) : Type 0 where
  pub there : i.0 < length table.shapes
  pub shape : numbered table.shapes i ≡ shape_in table r.definition r.form
  pub cells : r.cells ≡ min (cells (numbered table.shapes i)) 1000001
  pub levels : r.levels ≡ min (levels (numbered table.shapes i)) 257
  pub parts : PartsThere i.0 (length table.domains) r.form
  pub owner : r.definition.owner.0 < length table.owners

-- the sizes of a row are those of its shape, up to a little over the limits
pub record IsSized (table : Table) (r : Row) : Type 0 where
  pub cells : r.cells ≡ min (cells (shape_in table r.definition r.form)) 1000001
  pub levels : r.levels ≡ min (levels (shape_in table r.definition r.form)) 257

-- how many cells, and how many levels, a type of this form has
abbrev pub form_cells : List Shape → Form → ℕ
form_cells shapes (form.Text n) = n
form_cells shapes (form.Array packed index element) = values_of (numbered shapes index) * cells (numbered shapes element)
form_cells shapes (form.Record packed fields) = max 1 (cells_in (fields_from shapes fields))
form_cells shapes _ = 1

abbrev pub form_levels : List Shape → Form → ℕ
form_levels shapes (form.Subrange host low high) = 1 + levels (numbered shapes host)
form_levels shapes (form.Array packed index element) = 1 + max (levels (numbered shapes index)) (levels (numbered shapes element))
form_levels shapes (form.Record packed fields) = 1 + levels_in (fields_from shapes fields)
form_levels shapes (form.Set packed base) = 1 + levels (numbered shapes base)
form_levels shapes (form.Members (Some base)) = 1 + levels (numbered shapes base)
form_levels shapes (form.Text n) = 3
form_levels shapes _ = 1

-- the fields of a form, and the type of the first that has a name
abbrev pub form_fields : Form → List (List ℕ × TypeId)
form_fields (form.Record packed fields) = fields
form_fields _ = []

abbrev pub find_field : List (List ℕ × TypeId) → List ℕ → Option TypeId
find_field [] n = None
find_field (f ∷ rest) n = if bytes_eq f.0 n then Some f.1 else find_field rest n
