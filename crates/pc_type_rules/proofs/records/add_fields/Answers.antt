use Rattle.std.proofs.Common.{◌∷◌, [], ◌++◌, ◌∙◌, sym, ap, append_assoc}
use Rattle.std.specs.Prelude.{List, ℕ}
use Rattle.pc_types.specs.declared.form.TypeId.{TypeId}
use Rattle.pc_type_rules.specs.Records.{fields_with}
use Rattle.pc_type_rules.specs.RecordsLaws.{fields_with-more}
use Rattle.pc_type_rules.proofs.records.add_fields.Goals as goal

pub loop-name-preserved : goal.loop-name-preserved
loop-name-preserved c =
    c.in_ok-push.ensures.items ∙ ap (λ (v : List (List ℕ × TypeId)). v ++ (c.in-Some.name, c.args.of) ∷ []) c.loop-name.invariant
    ∙ append_assoc c.args.fields.now.items (fields_with c.args.of c.loop-name.yielded) ((c.in-Some.name, c.args.of) ∷ [])
    ∙ ap (λ (v : List (List ℕ × TypeId)). c.args.fields.now.items ++ v) (sym (fields_with-more c.args.of c.loop-name.yielded c.in-Some.name))
