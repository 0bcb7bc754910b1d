use Rattle.std.proofs.Common.{rules}
use Rattle.pc_report.specs.InOrderLaws.{in_order-from_sort_by}
use Rattle.pc_report.proofs.order.put_in_order.Goals as goal

pub returns-clause-order : goal.returns-clause-order
returns-clause-order c = in_order-from_sort_by _ _ c.in_ok-sort_by.ensures.sorted c.sort_by.ensures.stable (λ a r q k. search rules)
