use Rattle.pc_forms.specs.FormLaws.{kind_in-form_of, kids_in-form_of, size-form_of, smaller-form_of, classes-form_of}
use Rattle.pc_forms.proofs.view.form_of.Goals as goal

pub returns-clause-kind : goal.returns-clause-kind
returns-clause-kind c = rw c.parts.ensures.value (kind_in-form_of _)

pub returns-clause-kids : goal.returns-clause-kids
returns-clause-kids c = rw c.parts.ensures.value (kids_in-form_of _ c.parts.ensures.proper)

pub returns-clause-size : goal.returns-clause-size
returns-clause-size c = rw c.parts.ensures.value (size-form_of _ c.parts.ensures.proper)

pub returns-clause-small : goal.returns-clause-small
returns-clause-small c = c.parts.ensures.proper.small

pub returns-clause-smaller : goal.returns-clause-smaller
returns-clause-smaller c = rw c.parts.ensures.value (smaller-form_of _ c.parts.ensures.proper)

pub returns-clause-classes : goal.returns-clause-classes
returns-clause-classes c = rw c.parts.ensures.value (classes-form_of _ c.parts.ensures.proper)
