use Rattle.std.proofs.Common.{Option, ◌&&◌, nat_eq, if◌then◌else◌, ap, ◌∙◌}
use Rattle.std.specs.Option.{option_and_then}
use Rattle.std.specs.Map.{lookup}
use Rattle.pc_types.specs.declared.form.TypeId.{TypeId}
use Rattle.pc_names.specs.Bindings.{is_at}
use Rattle.pc_domains.specs.Told.{type_at}
use Rattle.pc_domains.specs.ByNameLaws.{inside-put}
use Rattle.pc_domains.proofs.by_name.TypesByName.put.Goals as goal

pub returns : goal.returns
returns c = λ o i.
    ap (option_and_then (λ (x : Option TypeId). x)) (c.in_ok-insert.ensures.updates.0 (o, i))
    ∙ inside-put (nat_eq c.args.owner.0 o && nat_eq c.args.name.0 i) c.args.of (lookup (is_at o i) c.self.inside.table.entries)
    ∙ (λ k. if nat_eq c.args.owner.0 o && nat_eq c.args.name.0 i then c.args.of else type_at (c.self.view_is k) o i)
