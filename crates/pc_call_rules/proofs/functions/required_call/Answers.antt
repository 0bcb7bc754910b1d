use Rattle.std.proofs.Common.{◌≡◌, ℕ, Bool, true, false, List, IfOk, if◌then◌else◌, sym, subst}
use Rattle.pc_scope.specs.Spelled.{spelling}
use Rattle.pc_syntax.specs.declared.kind.Kind.TheVariants as kind
use Rattle.pc_types.specs.Rows.{seen}
use Rattle.pc_rules.specs.Attributes.{Node}
use Rattle.pc_rules.specs.Decorated.{with_kind}
use Rattle.pc_rules.specs.RequiredFunctions as rule
use Rattle.pc_rules.specs.Variables.{is_end_test}
use Rattle.pc_facts.specs.Known.{Known}
use Rattle.pc_facts.specs.Shows.{ShowsNode}
use Rattle.pc_facts.specs.declared.facts.Facts.{Facts}
use Rattle.pc_call_rules.specs.Calls.{ShowsCall}
use Rattle.pc_call_rules.proofs.functions.required_call.Goals as goal

pub returns-then-is_end_test : goal.returns-then-is_end_test
returns-then-is_end_test c =
    let e : is_end_test (spelling c.args.builtin) ≡ true = cc in
    subst (λ (t : Bool). IfOk c.end_test.result (λ (f : Facts). (k : Known) (w : List ℕ) (n a : Node) → ShowsCall k (seen c.args.types.now) c.args.named c.args.args.items n a →
    ShowsNode k f (with_kind kind.Call w (if t then rule.end_test n a else rule.function_of_one (spelling c.args.builtin) n a)))) (sym e) c.end_test.ensures

pub returns-else-is_end_test : goal.returns-else-is_end_test
returns-else-is_end_test c =
    let e : is_end_test (spelling c.args.builtin) ≡ false = cc in
    subst (λ (t : Bool). IfOk c.function_of_one.result (λ (f : Facts). (k : Known) (w : List ℕ) (n a : Node) → ShowsCall k (seen c.args.types.now) c.args.named c.args.args.items n a →
    ShowsNode k f (with_kind kind.Call w (if t then rule.end_test n a else rule.function_of_one (spelling c.args.builtin) n a)))) (sym e) c.function_of_one.ensures
