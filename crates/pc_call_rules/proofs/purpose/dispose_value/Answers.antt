use Rattle.std.proofs.Common.{◌∙◌, ap, codes, option_map}
use Rattle.pc_types.specs.Rows.{seen}
use Rattle.pc_types.specs.Table.{shape_at}
use Rattle.pc_types.specs.TypeClasses.{is_pointer}
use Rattle.pc_rules.specs.RequiredProcedures as rule
use Rattle.pc_call_rules.proofs.EntrySteps.{unfit-entries}
use Rattle.pc_call_rules.proofs.purpose.dispose_value.Goals as goal

pub returns : goal.returns
returns c = λ k n same shows.
    let e = c.value_type.ensures in
    let s = shows.value.type.shape in
    unfit-entries _ _ n.as_value.entries _ is_pointer (option_map (shape_at (seen c.args.types.now)) c.value_type.result) n.as_value.type 15 (codes "not a pointer") (ap (λ j. j.entries.items) c.into_value.ensures ∙ shows.value.entries) c.in_ok-add_note_if.ensures c.is_no_pointer-unfit.ensures (cc)
