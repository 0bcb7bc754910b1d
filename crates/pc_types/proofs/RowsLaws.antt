-- What a row says is true of its shape.
use Rattle.std.proofs.Common.{◌≡◌, Bor, MatchOption, ℕ, zero, suc, ◌+◌, ◌<◌, ◌≤◌, List, [], ◌∷◌, ◌++◌, Option, Some, None, slice_get, get_or, length, map, min, refl, sym, ◌∙◌, ap, subst, arith, inl, inr, add-zero, zero-add, append_assoc, length-append}
use Rattle.std.proofs.lemmas.List.{length-map}
use Rattle.std.proofs.lemmas.List.{get_or_append_left, get_or_past, append-nil}
use Rattle.std.proofs.lemmas.Option.{slice_get_cases}
use Rattle.std.specs.Option.{option_copied}
use Rattle.std.proofs.Math.Seq.{get_or-append_seam}
use Rattle.pc_types.specs.Shapes.{Owner, Definition, Shape, NoMembers, SubrangeType, ArrayType, RecordType, SetType, MembersType, FieldOf}
use Rattle.pc_types.specs.Table.{Table, Place, definition_in, place_of, numbered, formed, fields_from, shape_at, PartsThere, FieldsThere, IsFormOf}
use Rattle.pc_types.specs.Outlines.{outline_of}
use Rattle.pc_types.specs.Sizes.{cells, levels}
use Rattle.pc_types.specs.Outlined.{IsOutline}
use Rattle.pc_types.specs.Rows.{row_shape, IsRow, StandsFor, shapes_from, AreRows, Kept, kept_owners, kept_places, kept_shapes, seen, IsInOrder, row_place, row_domain}
use Rattle.pc_types.specs.declared.form.TypeId.{TypeId}
use Rattle.pc_types.specs.declared.form.Form.{Form}
use Rattle.pc_types.specs.declared.form.Form.TheVariants as form
use Rattle.pc_types.specs.declared.operand.Operand.{Operand}
use Rattle.pc_types.specs.declared.operand.Operand.TheVariants as operand
use Rattle.pc_types.specs.declared.types.Row.{Row}
use Rattle.pc_types.specs.declared.types.DomainRow.{DomainRow}

-- a part that was there stays
pub numbered-append : (known more : List Shape) (i : TypeId) → i.0 < length known → numbered (known ++ more) i ≡ numbered known i
numbered-append known more i h = get_or_append_left known more NoMembers i.0 h

pub fields_from-append : (known more : List Shape) (fs : List (List ℕ × TypeId)) → FieldsThere (length known) fs → fields_from (known ++ more) fs ≡ fields_from known fs
fields_from-append known more [] h = refl
fields_from-append known more (f ∷ fs) h =
    ap (λ t. FieldOf f.0 t (fields_from (known ++ more) fs)) (numbered-append known more f.1 h.0) ∙ ap (FieldOf f.0 (numbered known f.1)) (fields_from-append known more fs h.1)

-- the shape of a form stays where its parts were there
pub formed-append : (places : List Place) (known more : List Shape) (d : Definition) (f : Form) (n : ℕ) → PartsThere (length known) n f →
    formed places (known ++ more) d f ≡ formed places known d f
formed-append places known more d form.Integer n h = refl
formed-append places known more d form.Boolean n h = refl
formed-append places known more d form.Char n h = refl
formed-append places known more d form.Nil n h = refl
formed-append places known more d (form.Named ns) n h = refl
formed-append places known more d (form.Subrange t a b) n h = ap (λ q. SubrangeType d q a b) (numbered-append known more t h)
formed-append places known more d (form.Array p i e) n h =
    ap (λ q. ArrayType d p q (numbered (known ++ more) e)) (numbered-append known more i h.0) ∙ ap (ArrayType d p (numbered known i)) (numbered-append known more e h.1)
formed-append places known more d (form.Record p fs) n h = ap (RecordType d p) (fields_from-append known more fs h)
formed-append places known more d (form.Set p b) n h = ap (SetType d p) (numbered-append known more b h)
formed-append places known more d (form.Members None) n h = refl
formed-append places known more d (form.Members (Some b)) n h = ap MembersType (numbered-append known more b h)
formed-append places known more d (form.Text m) n h = refl
formed-append places known more d (form.Pointer j) n h = refl

-- the shapes of the rows stand behind those that are known
pub shapes_from-append : (owners : List Owner) (places : List Place) (known : List Shape) (rows : List Row) → (more : List Shape) × (shapes_from owners places known rows ≡ known ++ more)
shapes_from-append owners places known [] = ([], sym (append-nil known))
shapes_from-append owners places known (r ∷ rows) =
    let s = row_shape owners places known r in
    let rest = shapes_from-append owners places (known ++ s ∷ []) rows in
    (s ∷ rest.0, rest.1 ∙ append_assoc known (s ∷ []) rest.0)

pub length-shapes_from : (owners : List Owner) (places : List Place) (known : List Shape) (rows : List Row) → length (shapes_from owners places known rows) ≡ length known + length rows
length-shapes_from owners places known [] = omega arith
length-shapes_from owners places known (r ∷ rows) =
    let s = row_shape owners places known r in
    omega (arith, length-shapes_from owners places (known ++ s ∷ []) rows, length-append known (s ∷ []))

pub none_is_some : {A : Type 0} {a : A} → None ≡ Some a → ⊥
none_is_some h = cc

pub some_is : {A : Type 0} {a b : A} → Some a ≡ Some b → a ≡ b
some_is h = cc

-- what stands before a row: its parts, of which its shape is made
record Before (owners : List Owner) (places : List Place) (shapes : List Shape) (n : ℕ) (r : Row) : Type 0 where
  before : List Shape
  more : List Shape
  whole : shapes ≡ before ++ more
  len : length before ≡ n
  row : IsRow owners places before r
  at : get_or shapes n NoMembers ≡ row_shape owners places before r

before-row : (owners : List Owner) (places : List Place) (known : List Shape) (rows : List Row) (i : ℕ) (r : Row) → AreRows owners places known rows → slice_get rows i ≡ Some r →
    Before owners places (shapes_from owners places known rows) (length known + i) r
before-row owners places known [] i r are is = absurd (none_is_some is)
before-row owners places known (q ∷ rows) zero r are is =
    let s = row_shape owners places known q in
    let rest = shapes_from-append owners places (known ++ s ∷ []) rows in
    let whole : shapes_from owners places (known ++ s ∷ []) rows ≡ known ++ s ∷ rest.0 = rest.1 ∙ append_assoc known (s ∷ []) rest.0 in
    let none : length known + 0 ≡ length known = add-zero (length known) in
    let at : get_or (known ++ s ∷ rest.0) (length known + 0) NoMembers ≡ s =
    ap (λ (n : ℕ). get_or (known ++ s ∷ rest.0) n NoMembers) none ∙ get_or-append_seam known s rest.0 NoMembers in
    subst (λ (v : Row). Before owners places (shapes_from owners places (known ++ s ∷ []) rows) (length known + 0) v) (some_is is)
    record { before = known; more = s ∷ rest.0; whole = whole; len = sym none; row = are.0; at = ap (λ (v : List Shape). get_or v (length known + 0) NoMembers) whole ∙ at }
before-row owners places known (q ∷ rows) (suc i) r are is =
    let s = row_shape owners places known q in
    let n : length (known ++ s ∷ []) + i ≡ length known + suc i = omega (arith, length-append known (s ∷ [])) in
    subst (λ (m : ℕ). Before owners places (shapes_from owners places (known ++ s ∷ []) rows) m r) n (before-row owners places (known ++ s ∷ []) rows i r are.1 is)

-- the outline of a form tells of its shape
pub outline_of-tells : (table : Table) (x : Operand) (d : Definition) (f : Form) → shape_at table x ≡ formed (map place_of table.domains) table.shapes d f →
    IsOutline table x (outline_of f) (formed (map place_of table.domains) table.shapes d f)
outline_of-tells table x d form.Integer at = record { number = refl; defined = refl; ordinal = refl; subrange = refl; set = refl; constructed = refl; pointer = refl; array = refl; fields = refl; packed = refl; host = at; low = refl; high = refl; base = refl; packing = refl; index = refl; element = refl; text = refl; domain = refl }
outline_of-tells table x d form.Boolean at = record { number = refl; defined = refl; ordinal = refl; subrange = refl; set = refl; constructed = refl; pointer = refl; array = refl; fields = refl; packed = refl; host = at; low = refl; high = refl; base = refl; packing = refl; index = refl; element = refl; text = refl; domain = refl }
outline_of-tells table x d form.Char at = record { number = refl; defined = refl; ordinal = refl; subrange = refl; set = refl; constructed = refl; pointer = refl; array = refl; fields = refl; packed = refl; host = at; low = refl; high = refl; base = refl; packing = refl; index = refl; element = refl; text = refl; domain = refl }
outline_of-tells table x d form.Nil at = record { number = refl; defined = refl; ordinal = refl; subrange = refl; set = refl; constructed = refl; pointer = refl; array = refl; fields = refl; packed = refl; host = at; low = refl; high = refl; base = refl; packing = refl; index = refl; element = refl; text = refl; domain = refl }
outline_of-tells table x d (form.Named ns) at = record { number = refl; defined = refl; ordinal = refl; subrange = refl; set = refl; constructed = refl; pointer = refl; array = refl; fields = refl; packed = refl; host = at; low = refl; high = refl; base = refl; packing = refl; index = refl; element = refl; text = refl; domain = refl }
outline_of-tells table x d (form.Subrange h a b) at = record { number = refl; defined = refl; ordinal = refl; subrange = refl; set = refl; constructed = refl; pointer = refl; array = refl; fields = refl; packed = refl; host = refl; low = refl; high = refl; base = refl; packing = refl; index = refl; element = refl; text = refl; domain = refl }
outline_of-tells table x d (form.Array p i e) at = record { number = refl; defined = refl; ordinal = refl; subrange = refl; set = refl; constructed = refl; pointer = refl; array = refl; fields = refl; packed = refl; host = at; low = refl; high = refl; base = refl; packing = refl; index = refl; element = refl; text = refl; domain = refl }
outline_of-tells table x d (form.Record p fs) at = record { number = refl; defined = refl; ordinal = refl; subrange = refl; set = refl; constructed = refl; pointer = refl; array = refl; fields = refl; packed = refl; host = at; low = refl; high = refl; base = refl; packing = refl; index = refl; element = refl; text = refl; domain = refl }
outline_of-tells table x d (form.Set p b) at = record { number = refl; defined = refl; ordinal = refl; subrange = refl; set = refl; constructed = refl; pointer = refl; array = refl; fields = refl; packed = refl; host = at; low = refl; high = refl; base = refl; packing = refl; index = refl; element = refl; text = refl; domain = refl }
outline_of-tells table x d (form.Members None) at = record { number = refl; defined = refl; ordinal = refl; subrange = refl; set = refl; constructed = refl; pointer = refl; array = refl; fields = refl; packed = refl; host = at; low = refl; high = refl; base = refl; packing = refl; index = refl; element = refl; text = refl; domain = refl }
outline_of-tells table x d (form.Members (Some b)) at = record { number = refl; defined = refl; ordinal = refl; subrange = refl; set = refl; constructed = refl; pointer = refl; array = refl; fields = refl; packed = refl; host = at; low = refl; high = refl; base = refl; packing = refl; index = refl; element = refl; text = refl; domain = refl }
outline_of-tells table x d (form.Text n) at = record { number = refl; defined = refl; ordinal = refl; subrange = refl; set = refl; constructed = refl; pointer = refl; array = refl; fields = refl; packed = refl; host = at; low = refl; high = refl; base = refl; packing = refl; index = refl; element = refl; text = refl; domain = refl }
outline_of-tells table x d (form.Pointer j) at = record { number = refl; defined = refl; ordinal = refl; subrange = refl; set = refl; constructed = refl; pointer = refl; array = refl; fields = refl; packed = refl; host = at; low = refl; high = refl; base = refl; packing = refl; index = refl; element = refl; text = refl; domain = refl }

-- the places of the domains
pub places-domains : (owners : List Owner) (shapes : List Shape) (domains : List DomainRow) → map place_of (map (row_domain owners shapes) domains) ≡ map (row_place owners) domains
places-domains owners shapes [] = refl
places-domains owners shapes (d ∷ domains) = ap (λ ds. row_place owners d ∷ ds) (places-domains owners shapes domains)

-- a row that is found is among the rows
pub slice_get_below : {X : Type 0} (xs : List X) (i : ℕ) (x : X) → slice_get xs i ≡ Some x → i < length xs
slice_get_below xs i x h = elim (slice_get_cases xs i).1 [ inl w ↦ w.1 | inr w ↦ absurd (none_is_some (sym w.1 ∙ h)) ]

-- what a row says of its number
pub stands-row : (k : Kept) (i : TypeId) (r : Row) → IsInOrder k → slice_get k.rows i.0 ≡ Some r → StandsFor (seen k) i r
unfolding seen
stands-row k i r h is =
    let b : Before (kept_owners k) (kept_places k) (kept_shapes k) i.0 r =
    subst (λ (n : ℕ). Before (kept_owners k) (kept_places k) (kept_shapes k) n r) (zero-add i.0) (before-row (kept_owners k) (kept_places k) [] k.rows i.0 r h.rows_are is) in
    let small : PartsThere (length b.before) (length (kept_places k)) r.form = b.row.parts in
    let grown : row_shape (kept_owners k) (kept_places k) (b.before ++ b.more) r ≡ row_shape (kept_owners k) (kept_places k) b.before r =
    formed-append (kept_places k) b.before b.more (definition_in (kept_owners k) r.definition) r.form (length (kept_places k)) small in
    let all : row_shape (kept_owners k) (kept_places k) (kept_shapes k) r ≡ row_shape (kept_owners k) (kept_places k) b.before r =
    ap (λ (v : List Shape). row_shape (kept_owners k) (kept_places k) v r) b.whole ∙ grown in
    record {
      there = omega (arith, slice_get_below k.rows i.0 r is, length-shapes_from (kept_owners k) (kept_places k) [] k.rows);
      shape = b.at ∙ sym all ∙ ap (λ (ps : List Place). row_shape (kept_owners k) ps (kept_shapes k) r) (sym (places-domains (kept_owners k) (kept_shapes k) k.domains));
      cells = b.row.cells ∙ ap (λ t. min (cells t) 1000001) (sym b.at);
      levels = b.row.levels ∙ ap (λ t. min (levels t) 257) (sym b.at);
      parts = subst (λ (n : ℕ). PartsThere n (length (map (row_domain (kept_owners k) (kept_shapes k)) k.domains)) r.form) b.len
          (subst (λ (n : ℕ). PartsThere (length b.before) n r.form) (length-map k.domains (row_place (kept_owners k)) ∙ sym (length-map k.domains (row_domain (kept_owners k) (kept_shapes k)))) small);
      owner = b.row.owner;
    }

-- the form of a row is that of its number
pub form_row : (table : Table) (i : TypeId) (r : Row) → StandsFor table i r → IsFormOf table i r.form
form_row table i r h = record { definition = r.definition; there = h.there; shape = h.shape; parts = h.parts }

-- the outline of a row tells of the shape at its number
pub outline-row : (table : Table) (i : TypeId) (r : Row) → StandsFor table i r → IsOutline table (operand.Id i) (outline_of r.form) (shape_at table (operand.Id i))
outline-row table i r h =
    subst (IsOutline table (operand.Id i) (outline_of r.form)) (sym h.shape) (outline_of-tells table (operand.Id i) (definition_in table.owners r.definition) r.form h.shape)

pub slice_get_none : {X : Type 0} (xs : List X) (i : ℕ) → slice_get xs i ≡ None → length xs ≤ i
slice_get_none xs i h = elim (slice_get_cases xs i).1 [ inl w ↦ absurd (none_is_some (sym h ∙ w.2)) | inr w ↦ w.0 ]

-- there is nothing behind the last row
pub shape_at-past : (k : Kept) (i : TypeId) → slice_get k.rows i.0 ≡ None → shape_at (seen k) (operand.Id i) ≡ NoMembers
unfolding seen
shape_at-past k i h = get_or_past (kept_shapes k) i.0 NoMembers (omega (arith, length-shapes_from (kept_owners k) (kept_places k) [] k.rows, slice_get_none k.rows i.0 h))

-- the answer of a look-up
pub row-match : (k : Kept) (i : TypeId) (r : Option (Bor Row)) → IsInOrder k → option_copied r ≡ slice_get k.rows i.0 →
    MatchOption r (numbered (seen k).shapes i ≡ NoMembers) (λ r. StandsFor (seen k) i r.now)
row-match k i None h e = shape_at-past k i (sym e)
row-match k i (Some b) h e = stands-row k i b.now h (sym e)
