use Rattle.std.proofs.Common.{◌++◌, [], sym, ap, ◌∙◌, subst, map, if◌then◌else◌}
use Rattle.pc_scope.specs.Blocks.{block_kids}
use Rattle.pc_decl.specs.Declared.{given_names}
use Rattle.pc_decl_laws.specs.Kinds.{routine_kinds}
use Rattle.pc_own_names.specs.Noting.{new_among, kept}
use Rattle.pc_own_names.specs.NotingLaws.{Notes-then}
use Rattle.pc_own_names.specs.OwnKinds.{own_kinds, AreDeclared}
use Rattle.pc_own_names.specs.Walking.{in_heading, in_trees}
use Rattle.pc_own_names.proofs.Firsts.{kept-first}
use Rattle.pc_own_names.proofs.Placed.{unplaced-routine}
use Rattle.pc_own_names.proofs.declaring.declared_names.Goals as goal

pub returns : goal.returns
returns c = λ t r here later same.
    let kids = c.args.routine.now.kids in
    let texts = c.args.before.texts in
    let none = c.new-found.result.items in
    let all =
    Notes-then (if c.args.is_later then [] else in_heading kids) (in_trees (block_kids kids)) texts c.note_heading.new.names.texts c.note_block.new.names.texts none c.note_heading.new.found.items
    c.note_block.new.found.items c.in_ok-note_heading.ensures c.in_ok-note_block.ensures in
    let es = (if c.args.is_later then [] else in_heading kids) ++ in_trees (block_kids kids) in
    subst (λ xs. AreDeclared xs (own_kinds t r))
    (sym (all.found ∙ ap (λ ds. ds ++ map kept (new_among texts es)) c.new-found.ensures.items
    ∙ ap (λ xs. map kept (new_among texts xs)) (sym (unplaced-routine t r kids c.args.is_later here later))))
    (kept-first texts (given_names r) (routine_kinds t r) same)
