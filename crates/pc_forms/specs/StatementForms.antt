-- What a statement is, as a form.
use Rattle.std.specs.Borrow.{Bor}
use Rattle.pc_syntax.specs.declared.sort.Sort.TheVariants as sort
use Rattle.pc_syntax.specs.Plain.{Plain}
use Rattle.pc_forms.specs.declared.form.Form.TheVariants as form
use Rattle.pc_forms.specs.declared.statement_form.StatementForm.{StatementForm}
use Rattle.pc_forms.specs.declared.statement_form.StatementForm.TheVariants as statement
use Rattle.pc_forms.specs.Form.{PlainForm}

-- the form of a node that a statement's form in code stands for
abbrev pub seen_statement : StatementForm (Bor Plain) Plain Plain Plain → PlainForm
seen_statement statement.Empty = form.Empty
seen_statement (statement.Assign target value) = form.Assign target value
seen_statement (statement.Proc name args) = form.Proc name.now args.now
seen_statement (statement.Compound stmts) = form.Compound stmts
seen_statement (statement.If condition body) = form.If condition body
seen_statement (statement.Ifelse condition body otherwise) = form.Ifelse condition body otherwise
seen_statement (statement.Case selector arms) = form.Case selector arms.now
seen_statement (statement.Repeat stmts condition) = form.Repeat stmts condition
seen_statement (statement.While condition body) = form.While condition body
seen_statement (statement.For control first downwards last body) = form.For control.now first downwards last body
seen_statement (statement.With records body) = form.With records.now body
seen_statement statement.Hole = form.Hole sort.Statement
