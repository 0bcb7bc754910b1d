use Rattle.pc_facts.specs.EntriesLaws.{kid-so-far}
use Rattle.pc_facts.proofs.entries.add_kid.Goals as goal

pub loop-entry-preserved : goal.loop-entry-preserved
loop-entry-preserved c =
    kid-so-far c.args.i c.args.entries.now.items c.loop-entry.entries.items c.push.new.self.items c.loop-entry.yielded c.in-Some.entry c.in_ok-seen_from_above.field-0
    c.loop-entry.invariant c.in_ok-seen_from_above.ensures c.in_ok-push.ensures.items
