-- A function whose heading was given before: lemmas.
use Rattle.std.proofs.Common.{◌≡◌, ℕ, Bool, true, false, if◌then◌else◌, List, [], ◌∷◌, Option, Some, None, get_or, refl, ap, sym, ◌∙◌}
use Rattle.std.specs.Option.{option_and_then}
use Rattle.pc_syntax.specs.Classes.{has, is_block}
use Rattle.pc_syntax.specs.Plain.{Forest, Nil, Cons, Plain, forest_of, kids_of}
use Rattle.pc_syntax.specs.declared.class.Class.TheVariants as class
use Rattle.pc_syntax.specs.declared.kind.Kind.{Kind}
use Rattle.pc_syntax.specs.declared.kind.Kind.TheVariants as kind
use Rattle.pc_syntax.specs.WellFormed.{IsProper}
use Rattle.pc_scope.specs.Headings.{is_routine_kind}
use Rattle.pc_types.specs.Shapes.{Owner, Typed}
use Rattle.pc_forms.specs.Form.{form_from, form_of, nothing}
use Rattle.pc_forms.specs.declared.form.Form.TheVariants as form
use Rattle.pc_rules.specs.Attributes.{Node, nodes, missing}
use Rattle.pc_rules.specs.Decorated.{rule, decorate}
use Rattle.pc_rules.specs.Headings.{with_result}
use Rattle.pc_rules.specs.Meanings.{Found, Local, Outside, Formal}
use Rattle.pc_rules.specs.OwnBlock.{heading_part}
use Rattle.pc_rules.specs.Routines.{bare, heading_start, params_in}
use Rattle.pc_environment.specs.Decorating.{place_behind}
use Rattle.pc_headings.specs.AtLaws.{classes-form, kids-form}
use Rattle.pc_headings.specs.Headed.{marks_in}
use Rattle.pc_headings.specs.HeadLaws.{name-stays, nodes-one, part-of}

-- ---- a function whose heading was given before

block-by : (out : Outside) (l : Local) (k : Kind) (w : List ℕ) (ns : List (List ℕ)) (ks ts : Forest) → is_block k ≡ true → (get_or (nodes (decorate out l (heading_part (Cons k w ns ks ts)))) 0 missing).defines ≡ []
unfolding decorate rule
block-by out l kind.Block w ns ks ts is = refl
block-by out l kind.Forward w ns ks ts is = refl
block-by out l (kind.Hole s) w ns ks ts is = refl
block-by out l k w ns ks ts is = cc

-- it has no parameters
pub funbody-defines : (means : List ℕ → Found) (o : Owner) (t a b : Plain) → kids_of t ≡ a ∷ b ∷ [] → has class.Name a.kind ≡ true → has class.Block b.kind ≡ true → (params_in (marks_in means o t)).defines ≡ []
funbody-defines means o t a b kids is block =
    let out = bare means in
    let l = heading_start o in
    ap (λ (f : Forest). (get_or (nodes (decorate out l f)) 1 missing).defines)
    (ap heading_part (part-of t (a ∷ b ∷ []) kids) ∙ name-stays a.kind is a.word a.notes a.kids (forest_of (b ∷ [])))
    ∙ ap (λ (ns : List Node). (get_or ns 1 missing).defines) (nodes-one out l a (heading_part (forest_of (b ∷ []))))
    ∙ block-by out (place_behind out l a) b.kind b.word b.notes b.kids Nil block

-- it gives no signature
pub funbody-signature : (b : Bool) (t : Option Typed) (fs : Option (List Formal)) → (if b then None else option_and_then (with_result kind.Funbody t) fs) ≡ None
funbody-signature true t fs = refl
funbody-signature false t None = refl
funbody-signature false t (Some fs) = refl

-- what is neither a procedure nor a function with a heading is such a function
pub funbody-kind : (k : Kind) → is_routine_kind k ≡ true → (k ≡ kind.Procedure → ⊥) → (k ≡ kind.Function → ⊥) → k ≡ kind.Funbody
funbody-kind kind.Procedure is procedure function = absurd (procedure refl)
funbody-kind kind.Function is procedure function = absurd (function refl)
funbody-kind kind.Funbody is procedure function = refl
funbody-kind k is procedure function = cc

-- its parts
pub record HasBody (t : Plain) : Type 0 where
  pub name : Plain
  pub body : Plain
  pub kids : kids_of t ≡ name ∷ body ∷ []
  pub name_is : has class.Name name.kind ≡ true
  pub block_is : has class.Block body.kind ≡ true

funbody-form : (t : Plain) → t.kind ≡ kind.Funbody → form.Funbody (get_or (kids_of t) 0 nothing) (get_or (kids_of t) 1 nothing) ≡ form_of t
unfolding form_of
funbody-form t e = sym (λ i. form_from (e i) t.word (kids_of t) nothing)

pub funbody-parts : (t : Plain) → t.kind ≡ kind.Funbody → IsProper t → HasBody t
funbody-parts t e proper =
    let f = form.Funbody (get_or (kids_of t) 0 nothing) (get_or (kids_of t) 1 nothing) in
    let is = funbody-form t e in
    let classes = classes-form t f proper is in
    record { name = get_or (kids_of t) 0 nothing; body = get_or (kids_of t) 1 nothing; kids = kids-form t f proper is; name_is = classes.0; block_is = classes.1.0 }
