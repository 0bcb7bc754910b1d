use Rattle.std.proofs.Common.{Option, subst}
use Rattle.pc_names.specs.declared.id.NameId.{NameId}
use Rattle.pc_routines.specs.Heads.{ShowsHeadName}
use Rattle.pc_routines.specs.RoutineLaws.{passed-named, passed-unnamed}
use Rattle.pc_routines.proofs.routine_at.stands_before.Goals as goal

pub returns-in-Some : goal.returns-in-Some
returns-in-Some c = λ owner out l n shows at.
    let names = c.args.tables.now.names.texts in
    passed-named l.passed names c.in-Some.id n c.is_passed.result (subst (λ (o : Option NameId). ShowsHeadName names o n) c.in-Some.is shows) (λ number. c.is_passed.ensures owner out l n number at)

pub returns-in-None : goal.returns-in-None
returns-in-None c = λ owner out l n shows at.
    let names = c.args.tables.now.names.texts in
    passed-unnamed l.passed names n (subst (λ (o : Option NameId). ShowsHeadName names o n) c.in-None.is shows)
