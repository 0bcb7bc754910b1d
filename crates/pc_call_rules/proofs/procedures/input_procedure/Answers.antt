use Rattle.std.proofs.Common.{Bool, List, [], ◌∷◌, codes, sym, subst}
use Rattle.pc_syntax.specs.declared.kind.Kind.TheVariants as kind
use Rattle.pc_types.specs.Rows.{seen}
use Rattle.pc_rules.specs.Attributes.{kids_below}
use Rattle.pc_rules.specs.Decorated.{with_kind}
use Rattle.pc_rules.specs.HandedOn.{statement_node}
use Rattle.pc_rules.specs.RequiredFunctions.{has_file}
use Rattle.pc_rules.specs.RequiredProcedures as rule
use Rattle.pc_facts.specs.Shows.{ShowsNode, ShowsArgument, AllShow}
use Rattle.pc_facts.specs.declared.facts.Argument.{Argument}
use Rattle.pc_call_rules.specs.Calls.{ShowsCall}
use Rattle.pc_call_rules.specs.Parameters.{Logs}
use Rattle.pc_call_rules.proofs.CallSteps.{behind-shown}
use Rattle.pc_call_rules.proofs.procedures.input_procedure.Goals as goal

pub returns-clause-found : goal.returns-clause-found
returns-clause-found c = λ k w n a call.
    let ns = kids_below a in
    let shown = subst (λ (x : List Argument). AllShow (ShowsArgument k) x ns) (sym c.as_slice-passed.ensures.value) call.passed in
    subst (λ (b : Bool). ShowsNode k c.in_ok-file_procedure.field-0 (with_kind kind.Proc w (statement_node (n ∷ a ∷ []) (rule.file_entries rule.read_entries c.args.needs b ns) (rule.read_variables (rule.behind_file b ns)))))
    (c.has_file-of_file.ensures k ns shown) (c.in_ok-file_procedure.ensures k w n a (rule.read_variables (rule.behind_file c.has_file-of_file.result ns)) call)

pub returns-clause-logged : goal.returns-clause-logged
returns-clause-logged c = λ k n a call.
    let ns = kids_below a in
    let file = c.has_file-of_file.result in
    let shown = subst (λ (x : List Argument). AllShow (ShowsArgument k) x ns) (sym c.as_slice-passed.ensures.value) call.passed in
    let rest = subst (λ (x : List Argument). AllShow (ShowsArgument k) x (rule.behind_file file ns)) (sym c.behind.ensures) (behind-shown (ShowsArgument k) file c.as_slice-passed.result.now ns shown) in
    subst (λ (b : Bool). Logs k c.args.touched.now.items c.read_variables.new.touched.items (rule.read_variables (rule.behind_file b ns))) (c.has_file-of_file.ensures k ns shown) (c.in_ok-read_variables.ensures k (rule.behind_file file ns) rest)
