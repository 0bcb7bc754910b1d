use Rattle.std.proofs.Common.{◌∙◌, w64}
use Rattle.std.proofs.lemmas.Int.{to_z-of_z}
use Rattle.pc_type_rules.proofs.MadeSteps.{same-bounds}
use Rattle.pc_type_rules.proofs.SubrangeSteps.{bounded-shown}
use Rattle.pc_type_rules.proofs.subranges.bounded.Goals as goal

pub returns-in_ok-of-in-Ordinal-Ordinal-clause-shows : goal.returns-in_ok-of-in-Ordinal-Ordinal-clause-shows
returns-in_ok-of-in-Ordinal-Ordinal-clause-shows c = let l = c.in-Ordinal-Ordinal in λ k d t a b def shape there x y.
    bounded-shown k _ _ d t _ _ _ _ a b c.in-Ordinal-Ordinal.is-0 c.in-Ordinal-Ordinal.is-1
    (same-bounds _ _ d t _ _ _ _ (to_z-of_z w64 c.ordinal_of-first.result (record { sfits = c.ordinal_of-first.type_inv }) ∙ c.ordinal_of-first.ensures _ c.in-Ordinal-Ordinal.is-0) (to_z-of_z w64 c.ordinal_of-last.result (record { sfits = c.ordinal_of-last.type_inv }) ∙ c.ordinal_of-last.ensures _ c.in-Ordinal-Ordinal.is-1)
    (c.in_ok-of-in-Ordinal-Ordinal.ensures.shows d t def shape there)) x y
