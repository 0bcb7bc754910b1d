use Rattle.std.proofs.Common.{◌++◌, ◌∙◌, sym, ap}
use Rattle.std.specs.Prelude.{List, ℕ}
use Rattle.pc_types.specs.declared.form.TypeId.{TypeId}
use Rattle.pc_type_rules.specs.Records.{fields_with, all_fields}
use Rattle.pc_type_rules.specs.RecordsLaws.{all_fields-more}
use Rattle.pc_type_rules.proofs.records.fields_of.Goals as goal

pub loop-list-preserved : goal.loop-list-preserved
loop-list-preserved c =
    c.in_ok-add_fields.ensures ∙ ap (λ (v : List (List ℕ × TypeId)). v ++ fields_with c.number_or.result c.in-Some.list.names.items) c.loop-list.invariant
    ∙ ap (λ (i : TypeId). all_fields c.loop-list.yielded ++ fields_with i c.in-Some.list.names.items) c.number_or.ensures
    ∙ sym (all_fields-more c.loop-list.yielded c.in-Some.list)
