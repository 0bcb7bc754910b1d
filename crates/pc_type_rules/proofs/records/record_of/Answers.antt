use Rattle.std.proofs.Common.{◌∙◌, ap}
use Rattle.pc_types.specs.Rows.{seen}
use Rattle.pc_types.specs.Table.{definition_in}
use Rattle.pc_type_rules.specs.Records.{all_known}
use Rattle.pc_type_rules.proofs.RecordSteps.{record-shown}
use Rattle.pc_type_rules.proofs.records.record_of.Goals as goal

pub returns-clause-shows : goal.returns-clause-shows
returns-clause-shows c = λ d nodes def h.
    record-shown (seen c.args.types.now) (seen c.record_over.new.types) c.args.lists.items nodes _ c.args.packed _ _ (definition_in (seen c.args.types.now).owners c.args.here) d h
    (c.are_known-known.ensures ∙ ap all_known c.deref.ensures.value) c.in_ok-fields.ensures c.in_ok-whole.ensures.unknown (λ x e known there same shape. c.in_ok-whole.ensures.shows x e known there same shape) def
