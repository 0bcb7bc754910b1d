use Rattle.std.proofs.Common.{Bool, List, [], ◌∷◌, sym, subst}
use Rattle.pc_syntax.specs.declared.kind.Kind.TheVariants as kind
use Rattle.pc_rules.specs.Attributes.{kids_below}
use Rattle.pc_rules.specs.Decorated.{with_kind}
use Rattle.pc_rules.specs.HandedOn.{statement_node}
use Rattle.pc_rules.specs.RequiredProcedures as rule
use Rattle.pc_facts.specs.Shows.{ShowsNode, ShowsArgument, AllShow}
use Rattle.pc_facts.specs.declared.facts.Argument.{Argument}
use Rattle.pc_call_rules.proofs.procedures.output_procedure.Goals as goal

pub returns : goal.returns
returns c = λ k w n a call.
    let ns = kids_below a in
    let shown = subst (λ (x : List Argument). AllShow (ShowsArgument k) x ns) (sym c.as_slice.ensures.value) call.passed in
    subst (λ (b : Bool). ShowsNode k c.in_ok-file_procedure.field-0 (with_kind kind.Proc w (statement_node (n ∷ a ∷ []) (rule.file_entries rule.write_entries c.args.needs b ns) [])))
    (c.has_file-of_file.ensures k ns shown) (c.in_ok-file_procedure.ensures k w n a [] call)
