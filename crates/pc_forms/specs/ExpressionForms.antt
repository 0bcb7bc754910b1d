-- What an expression is, as a form.
use Rattle.std.specs.Prelude.{ℕ, List}
use Rattle.std.specs.Borrow.{Bor}
use Rattle.pc_syntax.specs.declared.sort.Sort.TheVariants as sort
use Rattle.pc_syntax.specs.Plain.{Plain}
use Rattle.pc_forms.specs.declared.form.Form.TheVariants as form
use Rattle.pc_forms.specs.declared.expression_form.ExpressionForm.{ExpressionForm}
use Rattle.pc_forms.specs.declared.expression_form.ExpressionForm.TheVariants as expression
use Rattle.pc_forms.specs.Form.{PlainForm}

-- the form of a node that an expression's form in code stands for
abbrev pub seen_expression : ExpressionForm (Bor Plain) Plain (Bor (List ℕ)) → PlainForm
seen_expression (expression.Ref name) = form.Ref name.now
seen_expression (expression.Index array indexes) = form.Index array indexes.now
seen_expression (expression.Select whole field) = form.Select whole field.now
seen_expression (expression.Deref pointer) = form.Deref pointer
seen_expression (expression.Number word) = form.Number word.now
seen_expression (expression.Text word) = form.Text word.now
seen_expression expression.Nil = form.Nil
seen_expression (expression.Call name args) = form.Call name.now args.now
seen_expression (expression.Parens inner) = form.Parens inner
seen_expression (expression.Not operand) = form.Not operand
seen_expression (expression.Setcon members) = form.Setcon members.now
seen_expression (expression.Mul left operator right) = form.Mul left operator right
seen_expression (expression.Add left operator right) = form.Add left operator right
seen_expression (expression.Sign sign operand) = form.Sign sign operand
seen_expression (expression.Rel left operator right) = form.Rel left operator right
seen_expression expression.Hole = form.Hole sort.Expression
