-- The types of a block are closed: lemmas.
use Rattle.std.proofs.Common.{ℕ, Bool}
use Rattle.pc_syntax.specs.Plain.{Plain}
use Rattle.pc_places.specs.Places.{Changes}
use Rattle.pc_places.specs.ChangesLaws.{Changes-moved, Changes-then}
use Rattle.pc_places.specs.MovesLaws.{Moves-kept}
use Rattle.pc_places.specs.declared.tables.Tables.{Tables}
use Rattle.pc_domains.specs.Closing.{Closing}
use Rattle.pc_domains.specs.RetargetedLaws.{Changes-retargeted}
use Rattle.pc_domains.specs.Told.{Told}

pub closing-changes : (is_program : Bool) (block owner : ℕ) (list : Plain) (d e : Told) (a z : Tables) → Closing is_program block owner list d e a z → Changes block a z
closing-changes is_program block owner list d e a z c =
    Changes-then block a c.three z
    (Changes-then block a c.two c.three
    (Changes-then block a c.one c.two (Changes-moved block a c.one (Moves-kept block a c.one c.named.keeps)) (Changes-retargeted block c.one c.two c.enters.rows.same))
    (Changes-moved block c.two c.three c.sifts.moves))
    (Changes-retargeted block c.three z c.again.rows.same)
