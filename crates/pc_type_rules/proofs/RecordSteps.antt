-- The record of lists of fields: lemmas.
use Rattle.std.specs.Prelude.{◌≡◌, ℕ, Bool, true, false, List, Option, Some, None, length, option_map}
use Rattle.std.proofs.Common.{refl, ap, sym, ◌∙◌, subst}
use Rattle.pc_types.specs.Shapes.{Definition, Typed, Fields, RecordType}
use Rattle.pc_types.specs.Table.{Table, fields_from, FieldsThere}
use Rattle.pc_types.specs.declared.form.TypeId.{TypeId}
use Rattle.pc_types.specs.declared.operand.Operand.{Operand}
use Rattle.pc_rules.specs.Attributes.{Node}
use Rattle.pc_rules.specs.StructuredTypes.{row_of, Row}
use Rattle.pc_facts.specs.Shows.{AllShow, ShowsType}
use Rattle.pc_type_rules.specs.declared.records.FieldList.{FieldList}
use Rattle.pc_type_rules.specs.Records.{ShowsFields, all_fields, all_known}
use Rattle.pc_type_rules.specs.RecordsLaws.{rows-known, rows-unknown}
use Rattle.pc_type_rules.proofs.NodeSteps.{shows-as, shows-none}

-- the record type of a row
abbrev pub record_in : Definition → Bool → Row → Typed
record_in d p r = record { shape = RecordType d p r.fields; domains = r.domains }

-- what the record of these fields is shown to be, where their types are known and there
abbrev pub RecordMade : Table → Table → Bool → Bool → List (List ℕ × TypeId) → Definition → Option Operand → Type 0
RecordMade t u p known fields e o =
    (x : Typed) (d : Definition) → known ≡ true → FieldsThere (length t.shapes) fields → e ≡ d → x.shape ≡ RecordType d p (fields_from t.shapes fields) → ShowsType u o (Some x)

record-known : (t u : Table) (lists : List FieldList) (nodes : List Node) (fields : List (List ℕ × TypeId)) (p known b : Bool) (o : Option Operand) (e d : Definition) → known ≡ b → AllShow (ShowsFields t) lists nodes → known ≡ all_known lists →
    fields ≡ all_fields lists → (known ≡ false → o ≡ None) → RecordMade t u p known fields e o → e ≡ d → ShowsType u o (option_map (record_in d p) (row_of nodes))
record-known t u lists nodes fields p known true o e d is h all same none made def =
    let r = rows-known t lists nodes h (sym all ∙ is) in
    shows-as u o (Some (record_in d p r.row)) (option_map (record_in d p) (row_of nodes)) (ap (option_map (record_in d p)) (sym r.is))
    (made (record_in d p r.row) d is (subst (λ (v : List (List ℕ × TypeId)). FieldsThere (length t.shapes) v) (sym same) r.there) def
    (ap (λ (v : Fields). RecordType d p v) (r.fields ∙ ap (λ (v : List (List ℕ × TypeId)). fields_from t.shapes v) (sym same))))
record-known t u lists nodes fields p known false o e d is h all same none made def =
    shows-as u o None (option_map (record_in d p) (row_of nodes)) (ap (option_map (record_in d p)) (sym (rows-unknown t lists nodes h (sym all ∙ is))))
    (subst (λ (x : Option Operand). ShowsType u x None) (sym (none is)) (shows-none u))

pub record-shown : (t u : Table) (lists : List FieldList) (nodes : List Node) (fields : List (List ℕ × TypeId)) (p known : Bool) (o : Option Operand) (e d : Definition) → AllShow (ShowsFields t) lists nodes → known ≡ all_known lists →
    fields ≡ all_fields lists → (known ≡ false → o ≡ None) → RecordMade t u p known fields e o → e ≡ d → ShowsType u o (option_map (record_in d p) (row_of nodes))
record-shown t u lists nodes fields p known o e d h all same none made def = record-known t u lists nodes fields p known known o e d refl h all same none made def
