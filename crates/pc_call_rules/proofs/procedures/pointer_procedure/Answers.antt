use Rattle.std.proofs.Common.{List, [], ◌∷◌, ◌∙◌, ◌==◌, if◌then◌else◌, length, refl, ap, sym, subst}
use Rattle.pc_types.specs.Rows.{seen}
use Rattle.pc_rules.specs.Attributes.{kids_below, each_kid}
use Rattle.pc_rules.specs.Entries.{wrong_number}
use Rattle.pc_facts.specs.Shows.{ShowsArgument}
use Rattle.pc_facts.specs.declared.facts.Argument.{Argument}
use Rattle.pc_call_rules.specs.Calls.{ShowsCall}
use Rattle.pc_call_rules.specs.Purposes.{entries_by}
use Rattle.pc_call_rules.proofs.CallSteps.{two-pieces, not-one}
use Rattle.pc_call_rules.proofs.ListSteps.{same-length}
use Rattle.pc_call_rules.proofs.procedures.pointer_procedure.Goals as goal

pub returns : goal.returns
returns c = λ k w n a call.
    let ns = kids_below a in
    let shown = subst (λ (x : List Argument). ShowsCall k (seen c.args.types.now) c.args.named x n a) (sym c.as_slice-passed.ensures.value) call in
    c.statement.ensures k w (n ∷ a ∷ []) _ [] (c.has_hole-hole.ensures k _ n a shown)
    (two-pieces _ _ _ _ (each_kid (entries_by c.args.purpose) 1 ns) _ (if length ns == 1 then [] else wrong_number) c.new-entries.ensures.items c.in_ok-add_kid.ensures
    (c.in_ok-of_all.ensures k ns call.table call.passed) c.in_ok-add_note_if.ensures
    (not-one c.is_single-wrong.result _ _ ns refl c.is_single-wrong.ensures (same-length (ShowsArgument k) c.as_slice-passed.result.now ns shown.passed)))
