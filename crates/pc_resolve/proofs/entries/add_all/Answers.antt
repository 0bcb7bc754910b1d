use Rattle.pc_resolve.specs.EntriesLaws.{one-more}
use Rattle.pc_resolve.proofs.entries.add_all.Goals as goal

pub loop-entry-preserved : goal.loop-entry-preserved
loop-entry-preserved c =
    one-more c.args.entries.now.items c.loop-entry.entries.items c.loop-entry.yielded c.push.new.self.items c.in-Some.entry c.loop-entry.invariant c.in_ok-push.ensures.items
