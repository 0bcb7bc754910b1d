use Rattle.std.proofs.Common.{◌≡◌, ◌<◌, List, Option, None, IfSome, length, slice_get, option_map, sym, ◌∙◌, ap, subst}
use Rattle.pc_types.specs.Table.{numbered, domain_at}
use Rattle.pc_types.specs.Shapes.{Shape}
use Rattle.pc_types.specs.Rows.{Kept, seen}
use Rattle.pc_types.specs.declared.types.DomainRow.{DomainRow}
use Rattle.pc_types.specs.contracts.types.Types.{the_view}
use Rattle.pc_types.proofs.TargetsLaws.{domain-some, domain-none}
use Rattle.pc_types.proofs.PartsLaws.{target-there}
use Rattle.pc_types.specs.declared.form.TypeId.{TypeId}
use Rattle.pc_types.proofs.types.Types.domain.Goals as goal

pub returns-in-Some-clause-shape : goal.returns-in-Some-clause-shape
returns-in-Some-clause-shape c =
    subst (λ (k : Kept). option_map (numbered (seen k).shapes) c.in-Some.row.now.of ≡ (domain_at (seen k) c.args.id).shape) c.self.view_is
    (domain-some (the_view c.self.inside) c.args.id c.in-Some.row.now (ap (λ (ds : List DomainRow). slice_get ds c.args.id.0) (sym c.deref.ensures.value) ∙ sym c.in-Some.ensures))

pub returns-in-None-clause-shape : goal.returns-in-None-clause-shape
returns-in-None-clause-shape c =
    subst (λ (k : Kept). let none : Option Shape = None in none ≡ (domain_at (seen k) c.args.id).shape) c.self.view_is
    (domain-none (the_view c.self.inside) c.args.id (ap (λ (ds : List DomainRow). slice_get ds c.args.id.0) (sym c.deref.ensures.value) ∙ sym c.in-None.ensures))

pub returns-in-Some-clause-there : goal.returns-in-Some-clause-there
returns-in-Some-clause-there c =
    subst (λ (k : Kept). IfSome c.in-Some.row.now.of (λ (i : TypeId). i.0 < length (seen k).shapes)) c.self.view_is
    (target-there (the_view c.self.inside) c.args.id.0 c.in-Some.row.now c.self.invariant (ap (λ (ds : List DomainRow). slice_get ds c.args.id.0) (sym c.deref.ensures.value) ∙ sym c.in-Some.ensures))
