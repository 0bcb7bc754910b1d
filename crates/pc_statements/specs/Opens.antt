-- When accesses that a with names were gone through, each with the records of those before it open.
use Rattle.std.specs.Prelude.{List, []}
use Rattle.pc_syntax.specs.Plain.{Plain}
use Rattle.pc_rules.specs.Attributes.{Node, nodes}
use Rattle.pc_rules.specs.HandedOn.{all_opens, all_touches}
use Rattle.pc_rules.specs.Meanings.{Local, Outside}
use Rattle.pc_environment.specs.Decorating.{marks_of}
use Rattle.pc_environment.specs.Sight.{Sight}
use Rattle.pc_sightings.specs.Withs.{SeesWith, opened_sight}
use Rattle.pc_call_rules.specs.Parameters.{Logs}
use Rattle.pc_growth.specs.Grows.{Begins}
use Rattle.pc_statement_rules.specs.Handed.{ShowsOpened}
use Rattle.pc_statement_rules.specs.declared.accesses.Opening.{Opening}
use Rattle.pc_bodies.specs.declared.body.Body.{Body}
use Rattle.pc_bodies.specs.declared.body.Going.{Going}
use Rattle.pc_bodies.specs.Resolved.{known, Stands}

-- behind accesses: their entries, the variables that they touch, and that the stack stands for the records that they open
pub record FindsOpened (b : Body) (old new : Going) (o : Opening) (s : Sight) (ns : List Node) : Type 0 where
  pub shows : ShowsOpened (known b new) o ns
  pub touched : Logs (known b new) old.touched.items new.touched.items (all_touches ns)
  pub stands : Stands b (known b new) new.opened.items (opened_sight (all_opens ns) s)

-- the same wherever the accesses stand, of a with that stands where this is seen
pub record OpensRow (b : Body) (old new : Going) (ts : List Plain) (o : Opening) : Type 0 where
  pub found : (out : Outside) (l : Local) (s : Sight) → SeesWith out l [] s → Stands b (known b old) old.opened.items s → FindsOpened b old new o s (nodes (marks_of out l ts))
  pub outer : Begins old.opened.items new.opened.items
  pub texts : Begins old.texts.items new.texts.items
