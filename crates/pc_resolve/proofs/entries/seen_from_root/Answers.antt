use Rattle.std.proofs.Common.{List, ℕ, ap, sym, ◌∙◌}
use Rattle.pc_rules.specs.Errors.{from_place}
use Rattle.pc_resolve.specs.EntriesLaws.{one-up}
use Rattle.pc_resolve.proofs.RoutineEntries.{at-root}
use Rattle.pc_resolve.proofs.entries.seen_from_root.Goals as goal

pub loop-last-init : goal.loop-last-init
loop-last-init c = ap (λ (p : List ℕ). from_place p c.args.entries.items) c.steps-rest.ensures

pub loop-last-preserved : goal.loop-last-preserved
loop-last-preserved c =
    one-up c.args.place.now c.in-Some.front.now c.loop-last.rest.now c.in-Some.last.now c.args.entries.items c.loop-last.seen.items c.new-above.result.items c.add_kid.new.entries.items c.in-Some.ensures.cases.0
    c.new-above.ensures.items c.in_ok-add_kid.ensures c.loop-last.invariant

pub returns : goal.returns
returns c = sym (at-root c.loop-last.rest.now c.loop-last.seen.items c.in_default.ensures.cases) ∙ c.loop-last.invariant
