use Rattle.std.proofs.Common.{ℕ, List, [], ◌∷◌, ◌∙◌, ◌||◌, length, ap, sym, subst}
use Rattle.std.specs.Option.{is_some, is_none}
use Rattle.pc_scope.specs.Spelled.{spelling}
use Rattle.pc_types.specs.Rows.{seen}
use Rattle.pc_types.specs.Table.{Table}
use Rattle.pc_rules.specs.Attributes.{kids_below, at_kid}
use Rattle.pc_rules.specs.HandedOn.{kid_entries}
use Rattle.pc_rules.specs.RequiredFunctions.{apply_function, type_of_first}
use Rattle.pc_facts.specs.Shows.{ShowsArgument, ShowsType}
use Rattle.pc_facts.specs.declared.facts.Argument.{Argument}
use Rattle.pc_call_rules.specs.Calls.{ShowsCall}
use Rattle.pc_call_rules.proofs.CallSteps.{one-entries, fits-one}
use Rattle.pc_call_rules.proofs.ListSteps.{same-length}
use Rattle.pc_call_rules.proofs.functions.function_of_one.Goals as goal

pub returns : goal.returns
returns c = λ k w n a call.
    let ns = kids_below a in
    let name = spelling c.args.builtin in
    let shown = subst (λ (x : List Argument). ShowsCall k (seen c.args.types.now) c.args.named x n a) (sym c.as_slice-passed.ensures.value) call in
    let first = c.first_type-first.ensures k ns shown.passed in
    let here = subst (λ (t : Table). ShowsType t c.first_type-first.result (type_of_first ns)) call.table first in
    let spelled = subst (λ (x : List ℕ). ShowsType (seen c.args.types.now) c.applied-of.result (apply_function x (type_of_first ns))) c.spelled.ensures (c.applied-of.ensures (type_of_first ns) here) in
    let of = subst (λ (t : Table). ShowsType t c.applied-of.result (apply_function name (type_of_first ns))) (sym call.table) spelled in
    c.expression.ensures k w (n ∷ a ∷ []) _ (apply_function name (type_of_first ns)) (c.has_hole-hole.ensures k _ n a shown)
    (one-entries _ (at_kid 2 (kid_entries 1 ns)) _ _ (is_none (type_of_first ns) || is_some (apply_function name (type_of_first ns))) _ ns (c.in_ok-all.ensures k ns call.table call.passed) c.is_single-single.ensures
    (same-length (ShowsArgument k) c.as_slice-passed.result.now ns shown.passed)
    (fits-one k.table _ _ _ _ _ (type_of_first ns) (apply_function name (type_of_first ns)) c.either-fits.ensures c.is_unknown.ensures c.is_known.ensures first of))
    of
