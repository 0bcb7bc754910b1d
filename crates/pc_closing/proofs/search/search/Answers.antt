use Rattle.std.proofs.Common.{◌≡◌, ◌++◌, List, Bool, length, sym, ◌∙◌, subst, arith}
use Rattle.std.proofs.lemmas.List.{take_at}
use Rattle.pc_types.specs.Rows.{seen}
use Rattle.pc_closing.specs.Whole.{AreWhole}
use Rattle.pc_closing.specs.Searched.{Spreads}
use Rattle.pc_closing.specs.EndLaws.{search-right}
use Rattle.pc_closing.specs.ChangesLaws.{changed-counts}
use Rattle.pc_closing.proofs.search.search.Goals as goal

pub spread-requires : goal.spread-requires
spread-requires c = changed-counts c.args.count c.deref_mut.result.now c.gather.new.users c.in_ok-marks.marks c.gather.new.marks c.in_ok-marks.ensures c.in_ok-gather.ensures.changes

pub returns-clause-right : goal.returns-clause-right
returns-clause-right c = λ are_right found.
    let g = c.in_ok-gather.ensures.gathered are_right found in
    let users : length c.gather.new.users ≡ c.in_ok-users.users.len = omega (arith, g.moves.users, c.deref_mut.ensures.len) in
    let same = c.deref.ensures.value ∙ take_at c.gather.new.users _ c.in_ok-users.users.len users in
    let spread = subst (λ us. Spreads us c.gather.new.marks c.spread.new.marks (length c.spread.new.marks.found)) same c.in_ok-spread.ensures in
    let right =
    search-right c.args.flags.now (seen c.args.types.now) c.args.count c.deref_mut.result.now c.gather.new.users c.in_ok-marks.marks c.gather.new.marks c.spread.new.marks are_right
    (c.deref_mut.ensures.value ∙ c.in_ok-users.ensures) c.in_ok-marks.ensures g spread in
    subst (λ (more : List Bool). AreWhole (seen c.args.types.now) (c.args.flags.now ++ more)) (sym c.into_flags.ensures) right
