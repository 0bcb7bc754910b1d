-- When accesses that a with names were gone through, each with the records of those before it open.
use Rattle.std.specs.Prelude.{List}
use Rattle.pc_syntax.specs.Plain.{Plain}
use Rattle.pc_statement_rules.specs.declared.accesses.Opening.{Opening}
use Rattle.pc_statements.specs.Opens.{OpensRow}
use Rattle.pc_bodies.specs.declared.body.Body.{Body}
use Rattle.pc_bodies.specs.declared.body.Going.{Going}

-- the records of these accesses were opened, whatever entries were found at them
pub record Opens (b : Body) (old new : Going) (ts : List Plain) : Type 0 where
  pub opening : Opening
  pub row : OpensRow b old new ts opening
