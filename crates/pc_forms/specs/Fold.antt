-- Definitions over trees by the forms of their nodes: the value of a node from those of its kids.
use Rattle.std.specs.Prelude.{List, [], ◌∷◌}
use Rattle.pc_syntax.specs.declared.sort.Sort.TheVariants as sort
use Rattle.pc_syntax.specs.Plain.{Forest, Nil, Cons, Plain}
use Rattle.pc_forms.specs.declared.form.Form.TheVariants as form
use Rattle.pc_forms.specs.Form.{form_from}
use Rattle.pc_forms.specs.FormMap.{FormOf}

-- the values of the trees of a forest, where a step gives that of a node from the form of its kids' values
unfoldable pub values : {A : Type 0} → (FormOf A → A) → Forest → List A
values step Nil = []
values step (Cons k w ns ks ts) = step (form_from k w (values step ks) (step (form.Hole sort.Program))) ∷ values step ts

-- the value of a tree; `fold-is` of `FoldLaws` says it by the tree's form
unfoldable pub fold : {A : Type 0} → (FormOf A → A) → Plain → A
fold step p = step (form_from p.kind p.word (values step p.kids) (step (form.Hole sort.Program)))
