use Rattle.std.proofs.Common.{◌≡◌, ◌+◌, ◌++◌, ◌∷◌, [], take, sym, ap, ◌∙◌, subst}
use Rattle.std.proofs.lemmas.List.{take_more, take_all}
use Rattle.pc_own_names.specs.Noting.{Notes}
use Rattle.pc_own_names.specs.NotingLaws.{Notes-then}
use Rattle.pc_own_names.specs.Walking.{all_of_kind, name_here, names_here}
use Rattle.pc_own_names.specs.WalkingLaws.{listed-end, names_here-kids}
use Rattle.pc_own_names.proofs.walking.note_names.Goals as goal

pub loop-name-preserved : goal.loop-name-preserved
loop-name-preserved c =
    let kids = c.kid_slice-name-items.result.now in
    let i = c.loop-name.name-index in
    let t = c.name-item.result in
    let k = c.args.kind in
    let first = c.args.names.now.texts in
    let was = c.args.found.now.items in
    let last = c.note_name.new.names.texts in
    let now = c.note_name.new.found.items in
    let taken : take (i + 1) kids ≡ take i kids ++ t ∷ [] = take_more kids i t c.loop-name-test.true ∙ ap (λ x. take i kids ++ x ∷ []) (sym c.name-item.is) in
    subst (λ es. Notes es first last was now) (sym (ap (λ ts. all_of_kind k (names_here ts)) taken ∙ listed-end k (take i kids) t))
    (Notes-then (all_of_kind k (names_here (take i kids))) (all_of_kind k (name_here t)) first c.loop-name.names.texts last was c.loop-name.found.items now c.loop-name.invariant c.in_ok-note_name.ensures)

pub returns : goal.returns
returns c =
    let kids = c.kid_slice-name-items.result.now in
    let k = c.args.kind in
    let all : take c.loop-name.name-index kids ≡ kids = take_all c.loop-name.name-index kids c.loop-name-test.false in
    subst (λ ns. Notes (all_of_kind k ns) c.args.names.now.texts c.loop-name.names.texts c.args.found.now.items c.loop-name.found.items)
    (ap names_here (all ∙ c.kid_slice-name-items.ensures.value) ∙ sym (names_here-kids c.args.list.now)) c.loop-name.invariant
