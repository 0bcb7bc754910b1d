use Rattle.std.proofs.Common.{ap, sym, ◌∙◌}
use Rattle.pc_rules.specs.Errors.{is_program}
use Rattle.pc_resolve.proofs.RoutineEntries.{errors-of-other, errors-of-program}
use Rattle.pc_resolve.proofs.error_list.errors.Goals as goal

pub returns-in_ok-ordered-in-Program : goal.returns-in_ok-ordered-in-Program
returns-in_ok-ordered-in-Program c =
    errors-of-program c.args.tree.now c.in_ok-entries-in-Program.entries.items c.in_ok-ordered-in-Program.ordered.items (ap is_program (sym c.kind.ensures.value ∙ c.in-Program.is)) c.in_ok-entries-in-Program.ensures
    c.in_ok-ordered-in-Program.ensures

pub returns-in_default : goal.returns-in_default
returns-in_default c = c.new.ensures.items ∙ sym (errors-of-other c.args.tree.now (λ e. c.in_default.not-Program (c.kind.ensures.value ∙ e)))
