use Rattle.std.proofs.Common.{◌≡◌, true, false, [], ◌∷◌, sym, ap, ◌∙◌, subst, if◌then◌else◌}
use Rattle.pc_syntax.specs.Sorts.{is_hole}
use Rattle.pc_syntax.specs.Words.{lowered}
use Rattle.pc_names.specs.Standing.{meant}
use Rattle.pc_openings.specs.Announced.{Announced}
use Rattle.pc_openings.specs.AnnouncedLaws.{Announced-none}
use Rattle.pc_openings.proofs.announcing.announce_listed.Goals as goal

pub returns-then-is_hole : goal.returns-then-is_hole
returns-then-is_hole c =
    let names = c.args.names.now in
    let h : is_hole c.args.name.now.kind ≡ true = sym (ap is_hole c.kind.ensures.value) ∙ sym c.is_hole.ensures ∙ c.if-is_hole.true in
    subst (λ b. Announced c.args.block.0 (if b then [] else (lowered c.args.name.now.word, meant c.args.class) ∷ []) names names) (sym h) (Announced-none c.args.block.0 names)

pub returns : goal.returns
returns c =
    let names = c.args.names.now in
    let new = c.announce_word.new.names in
    let h : is_hole c.args.name.now.kind ≡ false = sym (ap is_hole c.kind.ensures.value) ∙ sym c.is_hole.ensures ∙ c.if-is_hole.false in
    subst (λ b. Announced c.args.block.0 (if b then [] else (lowered c.args.name.now.word, meant c.args.class) ∷ []) names new) (sym h)
    (subst (λ w. Announced c.args.block.0 ((lowered w, meant c.args.class) ∷ []) names new) c.word.ensures c.in_ok-announce_word.ensures)
