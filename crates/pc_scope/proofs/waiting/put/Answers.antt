use Rattle.std.proofs.Common.{◌≡◌, Some, ap, ◌∙◌, rules}
use Rattle.std.specs.HashMap.{get_by}
use Rattle.std.specs.Prelude.{if◌then◌else◌}
use Rattle.std.specs.Str.{bytes_eq}
use Rattle.pc_scope.proofs.ByName.{updates}
use Rattle.pc_scope.proofs.waiting.put.Goals as goal

pub returns : goal.returns
returns c = λ n.
    let is : c.in_ok-name.name.items ≡ c.args.name.now = search rules in
    updates (λ k. k.items) c.args.waiting.now c.insert.new.self c.in_ok-name.name.items (Some c.args.number) c.in_ok-insert.ensures.updates n
    ∙ ap (λ m. if bytes_eq m n then Some c.args.number else get_by (λ k. bytes_eq n k.items) c.args.waiting.now) is
