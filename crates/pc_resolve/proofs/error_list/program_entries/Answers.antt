use Rattle.std.proofs.Common.{[], false}
use Rattle.pc_types.specs.Shapes.{Keyed}
use Rattle.pc_rules.specs.RequiredMeanings.{required_or_missing}
use Rattle.pc_resolve.proofs.RootLemmas.{all-entries, if-ok}
use Rattle.pc_resolve.proofs.error_list.program_entries.Goals as goal

pub returns : goal.returns
returns c =
    if-ok c.routine_entries.result
    (λ es. all-entries c.routines_come_in_order.ensures c.args.tree.now c.in_ok-heading.heading.items es.items c.in_ok-found.found c.program_site-site.result.place c.program_site-site.ensures.place
    (c.in_ok-heading.ensures required_or_missing (Keyed []) false) c.in_ok-found.ensures.found) c.routine_entries.ensures
