-- What pointers lead to in a statement part.
use Rattle.std.specs.Prelude.{◌≡◌, List, true, Option, Some, None}
use Rattle.std.proofs.Common.{ap, sym, subst}
use Rattle.pc_syntax.specs.Plain.{Nil, Cons, Plain}
use Rattle.pc_syntax.specs.WellFormed.{IsProper}
use Rattle.pc_types.specs.Shapes.{Typed, Shape}
use Rattle.pc_types.specs.declared.operand.Operand.{Operand}
use Rattle.pc_rules.specs.Decorated.{decorate}
use Rattle.pc_rules.specs.Meanings.{Local, Outside}
use Rattle.pc_environment.specs.Decorating.{attributes_at}
use Rattle.pc_environment.specs.RowLaws.{SeesFrom}
use Rattle.pc_environment.specs.Sight.{Sight, is_body}
use Rattle.pc_pointers.specs.Good.{Targets, Leads, IsGoodType, IsGoodFound, IsGoodAt, GoodPlace, AllBody}
use Rattle.pc_pointers.specs.PointerLaws.{good-marks}
use Rattle.pc_access_rules.specs.Pointers.{LeadsTo}
use Rattle.pc_facts.specs.Known.{Known}
use Rattle.pc_bodies.specs.declared.body.Body.{Body}
use Rattle.pc_bodies.specs.Resolved.{Stands}
use Rattle.pc_bodies.specs.WholeLaws.{whole-body}

at-good : (out : Outside) (l : Local) (t : Plain) (targets : Targets) → GoodPlace out l targets → AllBody (Cons t.kind t.word t.notes t.kids Nil) → IsGoodAt targets (attributes_at out l t)
unfolding decorate
at-good out l t targets place body = (good-marks out l targets (Cons t.kind t.word t.notes t.kids Nil) place body).0

leads-type : (targets : Targets) (ty : Option Typed) → IsGoodType targets ty → LeadsTo targets ty
leads-type targets None h = tt
leads-type targets (Some t) h = λ d o n e. subst (λ (s : Shape). Leads t.domains targets s) e h.leads

-- the type of a node of a statement part, as a variable, leads to what the targets say
pub leads-at : (b : Body) (k : Known) (opened : List Operand) (out : Outside) (l : Local) (s : Sight) (t : Plain) → IsProper t → is_body t.kind ≡ true → SeesFrom out l s → (stands : Stands b k opened s) →
    LeadsTo stands.targets (attributes_at out l t).as_place.type
leads-at b k opened out l s t proper body sees stands =
    let place : GoodPlace out l stands.targets = λ n. subst (IsGoodFound stands.targets) (sym (ap (λ (x : Sight). x.means n) sees.sight)) (stands.good n) in
    leads-type stands.targets (attributes_at out l t).as_place.type (at-good out l t stands.targets place (whole-body t proper body)).place
