use Rattle.std.proofs.Common.{[], refl, Some}
use Rattle.std.specs.Prelude.{false}
use Rattle.pc_types.specs.Shapes.{RecordType, LastField}
use Rattle.pc_types.specs.Rows.{seen}
use Rattle.pc_rules.specs.Denoters.{defined_here, typed}
use Rattle.pc_type_rules.proofs.MadeSteps.{no-fields-made}
use Rattle.pc_type_rules.proofs.simple.no_fields.Goals as goal

pub returns-clause-shows : goal.returns-clause-shows
returns-clause-shows c = λ k w l def pack.
    c.denoter.ensures (record k { table = seen c.made.new.types }) w false [] (Some (typed (RecordType (defined_here l) l.packed LastField))) [] refl c.new-2.ensures.items
    (no-fields-made (seen c.args.types.now) (seen c.made.new.types) c.args.here c.args.packed l.packed c.new.result _ (defined_here l) c.new.ensures pack c.in_ok-whole.ensures.shows def)
