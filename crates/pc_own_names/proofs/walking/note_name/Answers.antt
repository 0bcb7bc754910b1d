use Rattle.std.proofs.Common.{◌≡◌, true, false, [], ◌∷◌, sym, ap, ◌∙◌, subst, if◌then◌else◌}
use Rattle.pc_syntax.specs.Sorts.{is_hole}
use Rattle.pc_syntax.specs.Words.{lowered}
use Rattle.pc_own_names.specs.Noting.{Notes}
use Rattle.pc_own_names.specs.NotingLaws.{Notes-none}
use Rattle.pc_own_names.specs.Walking.{all_of_kind}
use Rattle.pc_own_names.proofs.walking.note_name.Goals as goal

pub returns-then-is_hole : goal.returns-then-is_hole
returns-then-is_hole c =
    let texts = c.args.names.now.texts in
    let found = c.args.found.now.items in
    let h : is_hole c.args.name.now.kind ≡ true = sym (ap is_hole c.kind.ensures.value) ∙ sym c.is_hole.ensures ∙ c.if-is_hole.true in
    subst (λ b. Notes (all_of_kind c.args.kind (if b then [] else lowered c.args.name.now.word ∷ [])) texts texts found found) (sym h) (Notes-none texts found)

pub returns : goal.returns
returns c =
    let texts = c.args.names.now.texts in
    let found = c.args.found.now.items in
    let new = c.note_word.new.names.texts in
    let now = c.note_word.new.found.items in
    let h : is_hole c.args.name.now.kind ≡ false = sym (ap is_hole c.kind.ensures.value) ∙ sym c.is_hole.ensures ∙ c.if-is_hole.false in
    subst (λ b. Notes (all_of_kind c.args.kind (if b then [] else lowered c.args.name.now.word ∷ [])) texts new found now) (sym h)
    (subst (λ w. Notes ((lowered w, c.args.kind) ∷ []) texts new found now) c.word.ensures c.in_ok-note_word.ensures)
