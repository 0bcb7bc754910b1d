use Rattle.pc_types.proofs.OpeningLaws.{rows-pushed, owner-pushed, seen-built}
use Rattle.pc_types.proofs.types.Types.new.Goals as goal

pub returns : goal.returns
returns c =
    seen-built _ _ _ _ _ _ _ c.in_ok-required.ensures c.in_ok-required-2.ensures c.in_ok-required-3.ensures c.in_ok-required-4.ensures
    (rows-pushed _ _ _ _ _ _ _ _ _ c.new-rows.ensures.items c.in_ok-push.ensures.items c.in_ok-push-2.ensures.items c.in_ok-push-3.ensures.items c.in_ok-push-4.ensures.items)
    (owner-pushed _ _ _ c.new-owners.ensures.items c.root.ensures c.in_ok-push-5.ensures.items) c.new.ensures.items
