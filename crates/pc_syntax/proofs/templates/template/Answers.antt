use Rattle.std.proofs.Common.{sym, refl}
use Rattle.pc_syntax.specs.Templates.{template_of}
use Rattle.pc_syntax.proofs.TemplateTests.{proper-template}
use Rattle.pc_syntax.proofs.templates.template.Goals as goal

pub fresh-requires : goal.fresh-requires
fresh-requires c = rw c.template_word.ensures (proper-template c.args.name.now c.in-Some.kind (sym c.in-Some.ensures))

pub returns-in_ok-tree-in-Some : goal.returns-in_ok-tree-in-Some
unfolding template_of
returns-in_ok-tree-in-Some c = rw (← c.in-Some.ensures, c.in_ok-tree-in-Some.ensures, c.template_word.ensures) refl

pub returns-in-None : goal.returns-in-None
unfolding template_of
returns-in-None c = rw (← c.in-None.ensures) refl
