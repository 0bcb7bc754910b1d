-- Fields of records by the numbers of their types: laws.
use Rattle.std.specs.Prelude.{◌≡◌, ℕ, ◌<◌, Bool, true, false, ◌&&◌, List, [], ◌∷◌, ◌++◌, Option, Some, None, length, option_map}
use Rattle.std.specs.Option.{is_some, option_and_then}
use Rattle.std.proofs.Common.{refl, ap, sym, ◌∙◌, subst, append_assoc, append-nil}
use Rattle.pc_types.specs.Shapes.{Shape, Typed, Fields, FieldOf, LastField}
use Rattle.pc_types.specs.Table.{Table, numbered, fields_from, FieldsThere}
use Rattle.pc_types.specs.declared.form.TypeId.{TypeId}
use Rattle.pc_rules.specs.Attributes.{Node}
use Rattle.pc_rules.specs.DeclaringNames.{names_in}
use Rattle.pc_rules.specs.StructuredTypes.{field_names, field_denoter, fields_named, row_of, Row}
use Rattle.pc_facts.specs.Shows.{AllShow, shape_of}
use Rattle.pc_type_rules.specs.declared.records.FieldList.{FieldList}
use Rattle.pc_type_rules.specs.Records.{ShowsFields, number_or, fields_with, all_fields, all_known}

pub fields_with-more : (i : TypeId) (ns : List (List ℕ)) (n : List ℕ) → fields_with i (ns ++ n ∷ []) ≡ fields_with i ns ++ (n, i) ∷ []
fields_with-more i [] n = refl
fields_with-more i (m ∷ ns) n = ap (λ (v : List (List ℕ × TypeId)). (m, i) ∷ v) (fields_with-more i ns n)

pub all_fields-more : (fs : List FieldList) (f : FieldList) → all_fields (fs ++ f ∷ []) ≡ all_fields fs ++ fields_with (number_or f.of) f.names.items
all_fields-more [] f = append-nil (fields_with (number_or f.of) f.names.items)
all_fields-more (g ∷ fs) f =
    ap (λ (v : List (List ℕ × TypeId)). fields_with (number_or g.of) g.names.items ++ v) (all_fields-more fs f) ∙ sym (append_assoc (fields_with (number_or g.of) g.names.items) (all_fields fs) (fields_with (number_or f.of) f.names.items))

-- fields with one type, before others
pub fields_from-with : (shapes : List Shape) (i : TypeId) (ns : List (List ℕ)) (rest : List (List ℕ × TypeId)) →
    fields_from shapes (fields_with i ns ++ rest) ≡ fields_named ns (numbered shapes i) (fields_from shapes rest)
fields_from-with shapes i [] rest = refl
fields_from-with shapes i (n ∷ ns) rest = ap (λ (v : Fields). FieldOf n (numbered shapes i) v) (fields_from-with shapes i ns rest)

pub there-with : (types : ℕ) (i : TypeId) (ns : List (List ℕ)) (rest : List (List ℕ × TypeId)) → i.0 < types → FieldsThere types rest → FieldsThere types (fields_with i ns ++ rest)
there-with types i [] rest h r = r
there-with types i (n ∷ ns) rest h r = (h, there-with types i ns rest h r)

-- the row of these lists has these fields, which are there
pub record IsRow (t : Table) (fs : List FieldList) (ns : List Node) : Type 0 where
  pub row : Row
  pub is : row_of ns ≡ Some row
  pub fields : row.fields ≡ fields_from t.shapes (all_fields fs)
  pub there : FieldsThere (length t.shapes) (all_fields fs)

-- with one list more
abbrev pub with_row : Node → Typed → Option Row → Option Row
with_row n ty r = option_map (λ (r : Row). record { fields = fields_named (names_in (field_names n)) ty.shape r.fields; domains = ty.domains ++ r.domains }) r

abbrev pub row_before : Node → Option Row → Option Typed → Option Row
row_before n r ty = option_and_then (λ (t : Typed). with_row n t r) ty

row-more : (t : Table) (f : FieldList) (fs : List FieldList) (n : Node) (ns : List Node) (o : Option TypeId) (ty : Option Typed) → f.of ≡ o → (field_denoter n).as_value.type ≡ ty → ShowsFields t f n → is_some o ≡ true → IsRow t fs ns → IsRow t (f ∷ fs) (n ∷ ns)
row-more t f fs n ns None ty of is h some r = absurd (let e = some in cc)
row-more t f fs n ns (Some i) None of is h some r =
    let a : option_map (numbered t.shapes) (Some i) ≡ shape_of None = ap (option_map (numbered t.shapes)) (sym of) ∙ h.type.shape ∙ ap shape_of is in absurd (let e : Some (numbered t.shapes i) ≡ None = a in cc)
row-more t f fs n ns (Some i) (Some ty) of is h some r =
    let a : Some (numbered t.shapes i) ≡ Some ty.shape = ap (option_map (numbered t.shapes)) (sym of) ∙ h.type.shape ∙ ap shape_of is in
    let e : numbered t.shapes i ≡ ty.shape = cc in
    let number : number_or f.of ≡ i = ap number_or of in
    record {
      row = record { fields = fields_named (names_in (field_names n)) ty.shape r.row.fields; domains = ty.domains ++ r.row.domains };
      is = ap (row_before n (row_of ns)) is ∙ ap (with_row n ty) r.is;
      fields =
          ap (λ (v : Fields). fields_named (names_in (field_names n)) ty.shape v) r.fields
          ∙ ap (λ (v : Shape). fields_named (names_in (field_names n)) v (fields_from t.shapes (all_fields fs))) (sym e)
          ∙ ap (λ (v : List (List ℕ)). fields_named v (numbered t.shapes i) (fields_from t.shapes (all_fields fs))) (sym h.names)
          ∙ sym (fields_from-with t.shapes i f.names.items (all_fields fs))
          ∙ ap (λ (v : TypeId). fields_from t.shapes (fields_with v f.names.items ++ all_fields fs)) (sym number);
      there =
          subst (λ (v : TypeId). FieldsThere (length t.shapes) (fields_with v f.names.items ++ all_fields fs)) (sym number)
          (there-with (length t.shapes) i f.names.items (all_fields fs) (h.type.there i of) r.there);
    }

both-true : (a b : Bool) → (a && b) ≡ true → (a ≡ true) × (b ≡ true)
both-true true b e = (refl, e)
both-true false b e = absurd (let f = e in cc)

pub rows-known : (t : Table) (fs : List FieldList) (ns : List Node) → AllShow (ShowsFields t) fs ns → all_known fs ≡ true → IsRow t fs ns
rows-known t [] [] h e = record { row = record { fields = LastField; domains = [] }; is = refl; fields = refl; there = tt }
rows-known t (f ∷ fs) (n ∷ ns) h e =
    let p = both-true (is_some f.of) (all_known fs) e in
    row-more t f fs n ns f.of (field_denoter n).as_value.type refl refl h.0 p.0 (rows-known t fs ns h.1 p.1)
rows-known t [] (n ∷ ns) h e = absurd h
rows-known t (f ∷ fs) [] h e = absurd h

no-row-more : (t : Table) (f : FieldList) (fs : List FieldList) (n : Node) (ns : List Node) (o : Option TypeId) (ty : Option Typed) → f.of ≡ o → (field_denoter n).as_value.type ≡ ty → ShowsFields t f n → (is_some o && all_known fs) ≡ false →
    (all_known fs ≡ false → row_of ns ≡ None) → row_of (n ∷ ns) ≡ None
no-row-more t f fs n ns o None of is h e r = ap (row_before n (row_of ns)) is
no-row-more t f fs n ns None (Some ty) of is h e r =
    let a : option_map (numbered t.shapes) None ≡ shape_of (Some ty) = ap (option_map (numbered t.shapes)) (sym of) ∙ h.type.shape ∙ ap shape_of is in absurd (let e : None ≡ Some ty.shape = a in cc)
no-row-more t f fs n ns (Some i) (Some ty) of is h e r = ap (row_before n (row_of ns)) is ∙ ap (with_row n ty) (r e)

pub rows-unknown : (t : Table) (fs : List FieldList) (ns : List Node) → AllShow (ShowsFields t) fs ns → all_known fs ≡ false → row_of ns ≡ None
rows-unknown t [] [] h e = absurd (let f = e in cc)
rows-unknown t (f ∷ fs) (n ∷ ns) h e =
    no-row-more t f fs n ns f.of (field_denoter n).as_value.type refl refl h.0 e (rows-unknown t fs ns h.1)
rows-unknown t [] (n ∷ ns) h e = absurd h
rows-unknown t (f ∷ fs) [] h e = absurd h
