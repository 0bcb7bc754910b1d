use Rattle.pc_types.specs.Rows.{seen}
use Rattle.pc_type_rules.proofs.MadeSteps.{pointer-made, no-pointer}
use Rattle.pc_type_rules.proofs.pointers.pointer_type.Goals as goal

pub returns-in_ok-whole-in-Some-clause-shows : goal.returns-in_ok-whole-in-Some-clause-shows
returns-in_ok-whole-in-Some-clause-shows c = λ l n f def h. pointer-made (seen c.args.types.now) (seen c.made.new.types) c.args.here c.in-Some.id _ _ l n f c.in-Some.is c.in_ok-whole-in-Some.ensures.shows def h

pub returns-in-None-clause-shows : goal.returns-in-None-clause-shows
returns-in-None-clause-shows c = λ l n f def h. no-pointer (seen c.args.types.now) (seen c.args.types.now) _ l n f c.in-None.is h
