use Rattle.std.proofs.Common.{List, [], ◌∷◌, ◌∙◌, ◌&&◌, if◌then◌else◌, length, ap, sym, subst}
use Rattle.pc_types.specs.Rows.{seen}
use Rattle.pc_rules.specs.Attributes.{kids_below, each_kid}
use Rattle.pc_rules.specs.Entries.{wrong_number}
use Rattle.pc_rules.specs.RequiredProcedures.{behind_file, number_behind_file, is_without}
use Rattle.pc_facts.specs.Shows.{ShowsArgument, AllShow}
use Rattle.pc_facts.specs.declared.facts.Argument.{Argument}
use Rattle.pc_call_rules.specs.Calls.{ShowsCall}
use Rattle.pc_call_rules.specs.Purposes.{entries_by}
use Rattle.pc_call_rules.proofs.CallSteps.{two-pieces, lacking, behind-shown}
use Rattle.pc_call_rules.proofs.ListSteps.{same-length}
use Rattle.pc_call_rules.proofs.procedures.file_procedure.Goals as goal

pub returns : goal.returns
returns c = λ k w n a ts call.
    let ns = behind_file c.args.of_file (kids_below a) in
    let shown = subst (λ (x : List Argument). ShowsCall k (seen c.args.types.now) c.args.named x n a) (sym c.as_slice.ensures.value) call in
    let rest = subst (λ (x : List Argument). AllShow (ShowsArgument k) x ns) (sym c.behind_file-rest.ensures) (behind-shown (ShowsArgument k) c.args.of_file c.args.args.items (kids_below a) call.passed) in
    c.statement.ensures k w (n ∷ a ∷ []) _ ts (c.has_hole-hole.ensures k _ n a shown)
    (two-pieces _ _ _ _ (each_kid (entries_by c.args.purpose) (number_behind_file c.args.of_file) ns) _ (if c.args.needs && is_without ns then wrong_number else []) c.new-entries.ensures.items c.in_ok-add_kid.ensures
    (c.in_ok-of_all.ensures k ns call.table rest ∙ ap (λ x. each_kid (entries_by c.args.purpose) x ns) c.number_behind.ensures) c.in_ok-add_note_if.ensures
    (lacking c.args.needs _ _ _ ns c.both-lacking.ensures c.is_without.ensures (ap length c.as_slice-2.ensures.value ∙ same-length (ShowsArgument k) c.behind_file-rest.result.items ns rest)))
