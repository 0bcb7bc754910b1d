use Rattle.std.proofs.Common.{ap, sym, ◌∙◌}
use Rattle.std.proofs.lemmas.Result.{IfOk-weaker}
use Rattle.pc_rules.specs.Errors.{is_program}
use Rattle.pc_rules.specs.RoutineList.{routines_of}
use Rattle.pc_decl.specs.Annotated.{annotated}
use Rattle.pc_own_names.specs.ShowsNames.{AllShowRoutines}
use Rattle.pc_places.specs.Places.{known}
use Rattle.pc_resolve.specs.Kept.{AreKept}
use Rattle.pc_resolve.proofs.ResolvedLemmas.{first-apart, none-shown, other-kind, program-shown}
use Rattle.pc_resolve.proofs.resolving.resolve.Goals as goal

pub returns-in-Program-clause-shown : goal.returns-in-Program-clause-shown
returns-in-Program-clause-shown c =
    IfOk-weaker c.program_resolved.result (λ x. AreKept (routines_of c.args.tree.now) (known x.tables) x.routines.items (routines_of c.args.tree.now))
    (λ x. AllShowRoutines c.args.tree.now (known x.tables) x.routines.items (annotated c.args.tree.now).routines)
    (λ x kept. program-shown c.args.tree.now (known x.tables) x.routines.items c.kind.ensures.proper (ap is_program (sym c.kind.ensures.value ∙ c.in-Program.is)) kept) c.program_resolved.ensures.kept

pub returns-in_ok-none-in_default : goal.returns-in_ok-none-in_default
returns-in_ok-none-in_default c =
    let begun = c.in_ok-none-in_default.ensures in
    record {
      shown =
          none-shown c.args.tree.now (known c.behind.result.tables) c.behind.result.routines.items (other-kind c.args.tree.now.kind (λ e. c.in_default.not-Program (c.kind.ensures.value ∙ e)))
          (ap (λ v. v.items) c.behind.ensures.routines ∙ begun.kept);
      apart = first-apart (known c.behind.result.tables).table.owners (ap (λ s. (known s).table.owners) c.behind.ensures.tables ∙ ap (λ k. k.owners) begun.types);
    }
