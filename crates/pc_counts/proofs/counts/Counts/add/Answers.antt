use Rattle.std.proofs.Common.{ℕ, List, Some, ◌+◌, nat_eq, if◌then◌else◌, ap, ◌∙◌}
use Rattle.std.specs.Map.{lookup}
use Rattle.pc_counts.specs.CountingLaws.{times-added}
use Rattle.pc_counts.proofs.counts.Counts.add.Goals as goal

pub returns : goal.returns
returns c = λ i.
    times-added c.args.self.now c.insert.new.self.entries c.args.name.0 c.in_ok-times.times
    (λ j. c.in_ok-insert.ensures.updates.0 j ∙ ap (λ (v : List (ℕ × ℕ)). if nat_eq c.args.name.0 j then Some c.in_ok-times.times else lookup (nat_eq j) v) c.self.view_is) (c.in_ok-times.ensures ∙ ap (λ n. n + 1) c.count.ensures) i
