-- The rule at each kind of node of a statement part finds good types, where what is looked up and what is below is good.
use Rattle.std.proofs.Common.{◌≡◌, ℕ, List, [], ◌∷◌, true, false, Some}
use Rattle.std.proofs.lemmas.Bool.{false≢true}
use Rattle.std.specs.Prelude.{get_or, pos}
use Rattle.pc_syntax.specs.declared.kind.Kind.{Kind}
use Rattle.pc_syntax.specs.declared.kind.Kind.TheVariants as kind
use Rattle.pc_forms.specs.Form.{form_from}
use Rattle.pc_types.specs.Shapes.{IntegerType, BooleanType, NilType}
use Rattle.pc_types.specs.TypeClasses.{is_integer, is_boolean}
use Rattle.pc_syntax.specs.Words.{value_after}
use Rattle.pc_forms.specs.Operators.{sign_of, mul_of, add_of, rel_of}
use Rattle.pc_rules.specs.Constants.{number_entries, characters, text_value}
use Rattle.pc_rules.specs.Operators.{multiplied, added, compared}
use Rattle.pc_rules.specs.Meanings.{Ordinal, Local}
use Rattle.pc_rules.specs.Attributes.{Marked, Node, nodes, missing}
use Rattle.pc_rules.specs.Decorated.{Seen, rule_of, rule}
use Rattle.pc_environment.specs.Sight.{is_body}
use Rattle.pc_pointers.specs.Good.{Targets, IsGoodFound, IsGoodAt, GoodMarks, AllNodesGood}
use Rattle.pc_pointers.specs.GoodLaws.{alone-good}
use Rattle.pc_pointers.specs.ResultLaws.{multiplied-leads, added-leads, compared-leads}
use Rattle.pc_pointers.specs.NameLaws.{text-good}
use Rattle.pc_pointers.specs.ExpressionLaws.{constant_name-good, signed_constant-good, procedure-good, call-good, reference-good, index-good, select-good, dereference-good, constant_expression-good, text_expression-good, unary_rule-good, binary_rule-good, set_constructor-good, records-good}
use Rattle.pc_pointers.specs.NodeLaws.{kid-good, nodes-good, with_kind-good, handed-good, statement-good, expression-good, constant_node-good}

-- the rule by the form, which has kids that are good
rule_of-good : (targets : Targets) (l : Local) (k : Kind) (w : List ℕ) (s : Seen) (ns : List Node) →
    is_body k ≡ true → IsGoodFound targets s.found → AllNodesGood targets ns → IsGoodAt targets (rule_of l s (form_from k w ns missing))
rule_of-good targets l kind.Cnumber w s ns e f g = constant_node-good targets false (number_entries w) (Some (record { type = IntegerType; constant = Ordinal (pos (value_after 0 w)) })) (alone-good targets IntegerType tt)
rule_of-good targets l kind.Cstring w s ns e f g = constant_node-good targets false [] (Some (text_value (characters w))) (text-good targets (characters w))
rule_of-good targets l kind.Cname w s ns e f g = constant_name-good targets (get_or ns 0 missing) (kid-good targets ns 0 g)
rule_of-good targets l kind.Csign w s ns e f g = signed_constant-good targets (sign_of w) (get_or ns 0 missing) (kid-good targets ns 0 g)
rule_of-good targets l kind.Empty w s ns e f g = handed-good targets []
rule_of-good targets l kind.Assign w s ns e f g = statement-good targets (get_or ns 0 missing ∷ get_or ns 1 missing ∷ []) _ _
rule_of-good targets l kind.Proc w s ns e f g = procedure-good targets (get_or ns 0 missing).found (get_or ns 0 missing) (get_or ns 1 missing)
rule_of-good targets l kind.Compound w s ns e f g = handed-good targets (get_or ns 0 missing ∷ [])
rule_of-good targets l kind.If w s ns e f g = statement-good targets (get_or ns 0 missing ∷ get_or ns 1 missing ∷ []) _ _
rule_of-good targets l kind.Ifelse w s ns e f g = statement-good targets (get_or ns 0 missing ∷ get_or ns 1 missing ∷ get_or ns 2 missing ∷ []) _ _
rule_of-good targets l kind.Case w s ns e f g = statement-good targets (get_or ns 0 missing ∷ get_or ns 1 missing ∷ []) _ _
rule_of-good targets l kind.Arm w s ns e f g = handed-good targets (get_or ns 0 missing ∷ get_or ns 1 missing ∷ [])
rule_of-good targets l kind.Repeat w s ns e f g = statement-good targets (get_or ns 0 missing ∷ get_or ns 1 missing ∷ []) _ _
rule_of-good targets l kind.While w s ns e f g = statement-good targets (get_or ns 0 missing ∷ get_or ns 1 missing ∷ []) _ _
rule_of-good targets l kind.For w s ns e f g = statement-good targets (get_or ns 0 missing ∷ get_or ns 1 missing ∷ get_or ns 2 missing ∷ get_or ns 3 missing ∷ []) _ _
rule_of-good targets l kind.With w s ns e f g = handed-good targets (get_or ns 0 missing ∷ get_or ns 1 missing ∷ [])
rule_of-good targets l kind.Ref w s ns e f g = reference-good targets l (get_or ns 0 missing) (kid-good targets ns 0 g)
rule_of-good targets l kind.Index w s ns e f g = index-good targets (get_or ns 0 missing) (get_or ns 1 missing) (kid-good targets ns 0 g)
rule_of-good targets l kind.Select w s ns e f g = select-good targets (get_or ns 0 missing) (get_or ns 1 missing) (kid-good targets ns 0 g)
rule_of-good targets l kind.Deref w s ns e f g = dereference-good targets (get_or ns 0 missing) (kid-good targets ns 0 g)
rule_of-good targets l kind.Number w s ns e f g = constant_expression-good targets (number_entries w) IntegerType tt
rule_of-good targets l kind.Text w s ns e f g = text_expression-good targets w
rule_of-good targets l kind.Nil w s ns e f g = constant_expression-good targets [] NilType tt
rule_of-good targets l kind.Call w s ns e f g = call-good targets (get_or ns 0 missing).found (get_or ns 0 missing) (get_or ns 1 missing) (kid-good targets ns 0 g) (kid-good targets ns 1 g)
rule_of-good targets l kind.Parens w s ns e f g = expression-good targets (get_or ns 0 missing ∷ []) _ (get_or ns 0 missing).as_value.type (kid-good targets ns 0 g).here.value
rule_of-good targets l kind.Not w s ns e f g = unary_rule-good targets is_boolean BooleanType (get_or ns 0 missing) tt
rule_of-good targets l kind.Setcon w s ns e f g = set_constructor-good targets (get_or ns 0 missing)
rule_of-good targets l kind.Mul w s ns e f g = binary_rule-good targets (multiplied (mul_of w)) (get_or ns 0 missing) (get_or ns 1 missing) (multiplied-leads targets (mul_of w))
rule_of-good targets l kind.Add w s ns e f g = binary_rule-good targets (added (add_of w)) (get_or ns 0 missing) (get_or ns 1 missing) (added-leads targets (add_of w))
rule_of-good targets l kind.Sign w s ns e f g = unary_rule-good targets is_integer IntegerType (get_or ns 0 missing) tt
rule_of-good targets l kind.Rel w s ns e f g = binary_rule-good targets (compared (rel_of w)) (get_or ns 0 missing) (get_or ns 1 missing) (compared-leads targets (rel_of w))
rule_of-good targets l kind.Width w s ns e f g = handed-good targets (get_or ns 0 missing ∷ get_or ns 1 missing ∷ [])
rule_of-good targets l kind.Span w s ns e f g = handed-good targets (get_or ns 0 missing ∷ get_or ns 1 missing ∷ [])
rule_of-good targets l kind.Name w s ns e f g = record { meant = f; value = tt; place = tt; target = tt; fixed = tt; opened = tt }
rule_of-good targets l kind.Args w s ns e f g = handed-good targets ns
rule_of-good targets l kind.Labels w s ns e f g = handed-good targets ns
rule_of-good targets l kind.Exprs w s ns e f g = handed-good targets ns
rule_of-good targets l kind.Accesses w s ns e f g = records-good targets ns g
rule_of-good targets l kind.Members w s ns e f g = handed-good targets ns
rule_of-good targets l kind.Stmts w s ns e f g = handed-good targets ns
rule_of-good targets l kind.Arms w s ns e f g = handed-good targets ns
rule_of-good targets l (kind.Hole x) w s ns e f g = record { meant = tt; value = tt; place = tt; target = tt; fixed = tt; opened = tt }
rule_of-good targets l k w s ns e f g = absurd (false≢true e)

-- the rule, above marks that are good
pub rule-good : (targets : Targets) (l : Local) (k : Kind) (w : List ℕ) (s : Seen) (m : Marked) →
    is_body k ≡ true → IsGoodFound targets s.found → GoodMarks targets m → IsGoodAt targets (rule l k w s m)
unfolding rule
rule-good targets l k w s m e f g = with_kind-good targets k w (rule_of l s (form_from k w (nodes m) missing)) (rule_of-good targets l k w s (nodes m) e f (nodes-good targets m g))
