use Rattle.std.proofs.Common.{◌≡◌, true, false, [], sym, ap, ◌∙◌, if◌then◌else◌}
use Rattle.pc_syntax.specs.Sorts.{is_hole}
use Rattle.pc_syntax.specs.Words.{lowered}
use Rattle.pc_counts.proofs.before.word_of.Goals as goal

pub returns-then-is_hole : goal.returns-then-is_hole
returns-then-is_hole c =
    let h : is_hole c.args.name.now.kind ≡ true = sym (ap is_hole c.kind.ensures.value) ∙ sym c.is_hole.ensures ∙ c.if-is_hole.true in
    sym (ap (λ b. if b then [] else lowered c.args.name.now.word) h)

pub returns : goal.returns
returns c =
    let h : is_hole c.args.name.now.kind ≡ false = sym (ap is_hole c.kind.ensures.value) ∙ sym c.is_hole.ensures ∙ c.if-is_hole.false in
    ap lowered c.word.ensures ∙ sym (ap (λ b. if b then [] else lowered c.args.name.now.word) h)
