use Rattle.std.proofs.Common.{◌≡◌, true, [], sym, ap, ◌∙◌, subst, if◌then◌else◌}
use Rattle.pc_syntax.specs.Sorts.{is_hole}
use Rattle.pc_syntax.specs.Words.{lowered}
use Rattle.pc_counts.specs.Counted.{Counted}
use Rattle.pc_counts.specs.CountedLaws.{Counted-none}
use Rattle.pc_counts.specs.Counting.{if_named}
use Rattle.pc_counts.proofs.counting.count_name.Goals as goal

pub returns-then-is_hole : goal.returns-then-is_hole
returns-then-is_hole c =
    let counts = c.args.counts.now in
    let tables = c.args.tables.now in
    let h : is_hole c.args.name.now.kind ≡ true = sym (ap is_hole c.kind.ensures.value) ∙ sym c.is_hole.ensures ∙ c.if-is_hole.true in
    subst (λ b. Counted (if_named (if b then [] else lowered c.args.name.now.word)) counts counts tables tables) (sym h) (Counted-none counts tables)
