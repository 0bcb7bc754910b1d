use Rattle.std.proofs.Common.{◌∙◌, sym, ap, Some}
use Rattle.std.specs.Prelude.{List, ℕ}
use Rattle.pc_types.specs.Shapes.{Definition, RecordType}
use Rattle.pc_types.specs.Table.{definition_in, fields_from}
use Rattle.pc_types.specs.Rows.{seen}
use Rattle.pc_types.specs.declared.form.TypeId.{TypeId}
use Rattle.pc_type_rules.proofs.records.record_over.Goals as goal

pub returns-in_ok-whole-clause-shows : goal.returns-in_ok-whole-clause-shows
returns-in_ok-whole-clause-shows c = λ t d known there def shape.
    c.in_ok-whole.ensures.shows (Some t)
    (ap Some (shape ∙ ap (λ (e : Definition). RecordType e c.args.packed (fields_from (seen c.args.types.now).shapes c.args.fields.items)) (sym def)
    ∙ ap (λ (v : List (List ℕ × TypeId)). RecordType (definition_in (seen c.args.types.now).owners c.args.here) c.args.packed (fields_from (seen c.args.types.now).shapes v)) (sym c.from_vec.ensures)))
