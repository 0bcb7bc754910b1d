use Rattle.std.proofs.Common.{ℕ, List, [], ◌∷◌, ◌∙◌, ◌||◌, length, Some, ap, sym, subst}
use Rattle.std.specs.Option.{is_none}
use Rattle.pc_types.specs.Rows.{seen}
use Rattle.pc_types.specs.Shapes.{BooleanType, Typed}
use Rattle.pc_types.specs.Table.{Table}
use Rattle.pc_rules.specs.Attributes.{kids_below, at_kid}
use Rattle.pc_rules.specs.Denoters.{some_typed}
use Rattle.pc_rules.specs.HandedOn.{kid_entries}
use Rattle.pc_rules.specs.RequiredFunctions.{type_of_first}
use Rattle.pc_rules.specs.RequiredProcedures.{behind_file}
use Rattle.pc_facts.specs.Shows.{ShowsArgument, ShowsType, AllShow}
use Rattle.pc_facts.specs.declared.facts.Argument.{Argument}
use Rattle.pc_call_rules.specs.Calls.{ShowsCall}
use Rattle.pc_call_rules.proofs.CallSteps.{one-entries, fits-file, end-entries, behind-shown, known-type}
use Rattle.pc_call_rules.proofs.ListSteps.{same-length}
use Rattle.pc_call_rules.proofs.functions.end_test.Goals as goal

pub returns : goal.returns
returns c = λ k w n a call.
    let ns = kids_below a in
    let file = c.has_file-of_file.result in
    let shown = subst (λ (x : List Argument). ShowsCall k (seen c.args.types.now) c.args.named x n a) (sym c.as_slice-passed.ensures.value) call in
    let rest = subst (λ (x : List Argument). AllShow (ShowsArgument k) x (behind_file file ns)) (sym c.behind_file-rest.ensures) (behind-shown (ShowsArgument k) file c.args.args.items ns call.passed) in
    c.expression.ensures k w (n ∷ a ∷ []) _ (some_typed BooleanType) (c.has_hole-hole.ensures k _ n a shown)
    (end-entries _ file c.number_behind.result ns
    (one-entries _ (at_kid 2 (kid_entries c.number_behind.result (behind_file file ns))) _ _ (file || is_none (type_of_first ns)) _ ns (c.in_ok-all.ensures k (behind_file file ns) call.table rest) c.is_single-single.ensures
    (same-length (ShowsArgument k) c.as_slice-passed.result.now ns shown.passed)
    (fits-file k.table _ _ _ _ (type_of_first ns) c.either-fits.ensures c.is_unknown.ensures (c.first_type.ensures k ns shown.passed)))
    c.number_behind.ensures (c.has_file-of_file.ensures k ns shown.passed))
    (subst (λ (t : Table). ShowsType t (Some c.boolean.result) (some_typed BooleanType)) (sym call.table) (known-type (seen c.args.types.now) c.boolean.result BooleanType c.boolean.ensures.shape c.boolean.ensures.there))
