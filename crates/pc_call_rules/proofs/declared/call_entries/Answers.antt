use Rattle.std.proofs.Common.{List, codes, length, ◌∙◌, ap, sym, subst}
use Rattle.pc_rules.specs.Arguments as rule
use Rattle.pc_rules.specs.Entries.{note_if}
use Rattle.pc_facts.specs.Shows.{ShowsArgument, ShowsFormals}
use Rattle.pc_facts.specs.declared.sighting.Formal.{Formal}
use Rattle.pc_call_rules.proofs.CallSteps.{called-entries, miscounted, routine-formals}
use Rattle.pc_call_rules.proofs.ListSteps.{same-length}
use Rattle.pc_call_rules.proofs.declared.call_entries.Goals as goal

pub returns : goal.returns
returns c = λ k s ns same routine shown.
    let formals = subst (λ (x : List Formal). ShowsFormals k x (rule.formals_of s)) (sym c.formals_of.ensures) (routine-formals k _ s routine) in
    called-entries _ _ _ _ _ c.args.name.items _ (rule.arguments_entries (rule.formals_of s) 1 ns) (rule.wrong_count s ns) c.new-entries.ensures.items c.in_ok-add_kid.ensures
    (c.in_ok-of_all.ensures k (rule.formals_of s) ns same formals shown) c.in_ok-add_kid-2.ensures c.in_ok-add_note_if.ensures
    (ap (λ x. note_if x 12 (codes "wrong number of arguments")) c.is_miscounted-wrong.ensures
    ∙ miscounted k _ s _ ns routine (ap length c.as_slice.ensures.value ∙ same-length (ShowsArgument k) c.args.args.items ns shown))
