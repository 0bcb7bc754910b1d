use Rattle.std.proofs.Common.{refl, subst, sym, List}
use Rattle.pc_decl.specs.Annotated.{annotated}
use Rattle.pc_own_names.specs.ShowsNames.{AllShowRoutines}
use Rattle.pc_own_names.specs.declared.own_name.RoutineNames.{RoutineNames}
use Rattle.pc_places.specs.Places.{known}
use Rattle.pc_session.proofs.declarations.declarations.Goals as goal

pub returns : goal.returns
returns c =
    let t = c.args.tree.now in
    let k = known c.in_ok-resolved.resolved.tables in
    c.in_ok-text.ensures t k c.kind.ensures.proper refl (sym c.as_slice-signatures.ensures.value) c.in_ok-resolved.ensures.apart
    (subst (λ (xs : List RoutineNames). AllShowRoutines t k xs (annotated t).routines) (sym c.as_slice-routines.ensures.value) c.in_ok-resolved.ensures.shown)
