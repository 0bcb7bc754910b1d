use Rattle.std.proofs.Common.{◌∙◌, ap, codes, option_map}
use Rattle.pc_types.specs.Rows.{seen}
use Rattle.pc_types.specs.Table.{shape_at}
use Rattle.pc_rules.specs.Attributes.{first_below, second_below}
use Rattle.pc_rules.specs.RequiredProcedures as rule
use Rattle.pc_call_rules.proofs.EntrySteps.{two-unfit}
use Rattle.pc_call_rules.proofs.purpose.write_with_width.Goals as goal

pub returns : goal.returns
returns c = λ k n same shows one other.
    let s = one.shape in
    let t = other.shape in
    two-unfit _ _ _ n.as_value.entries _ _ rule.can_be_written rule.is_integer_ordinal (option_map (shape_at (seen c.args.types.now)) c.args.first) (option_map (shape_at (seen c.args.types.now)) c.args.second) (first_below n).as_value.type (second_below n).as_value.type 23 24 (codes "cannot be written") (codes "width not allowed")
    (ap (λ j. j.entries.items) c.into_value.ensures ∙ shows.value.entries) c.in_ok-add_note_if.ensures c.in_ok-add_note_if-2.ensures c.is_unwritable-unfit.ensures (cc) c.is_no_width-misfit.ensures (cc)
