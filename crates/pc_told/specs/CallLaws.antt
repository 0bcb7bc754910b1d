-- What is found at the name that a call or a procedure statement begins with: lemmas.
use Rattle.std.specs.Prelude.{◌≡◌, Bool, true, List, [], ◌∷◌, Some, None, slice_get}
use Rattle.std.proofs.Common.{refl, ap, sym, ◌∙◌, subst}
use Rattle.pc_syntax.specs.Classes.{has}
use Rattle.pc_syntax.specs.Plain.{Forest, Nil, Cons, Plain, trees_of, kids_of}
use Rattle.pc_syntax.specs.PartsLaws.{kids_of-is}
use Rattle.pc_syntax.specs.WellFormed.{IsProper}
use Rattle.pc_syntax.specs.declared.class.Class.TheVariants as class
use Rattle.pc_syntax.specs.declared.kind.Kind.{Kind}
use Rattle.pc_syntax.specs.declared.kind.Kind.TheVariants as kind
use Rattle.pc_forms.specs.Form.{form_of}
use Rattle.pc_forms.specs.FormClasses.{HasKids}
use Rattle.pc_forms.specs.FormKids.{kids_in}
use Rattle.pc_forms.specs.FormLaws.{kids_in-form_of, kind_in-form_of, classes-form_of}
use Rattle.pc_rules.specs.Attributes.{plain, first}
use Rattle.pc_rules.specs.Decorated.{decorate}
use Rattle.pc_rules.specs.Meanings.{Local, Outside}
use Rattle.pc_rules.specs.Places.{inner, uses_first}
use Rattle.pc_environment.specs.Decorating.{attributes_at}
use Rattle.pc_environment.specs.Sight.{is_body}
use Rattle.pc_told.specs.Contexts.{is_call}

first-tree : (out : Outside) (l : Local) (ks : Forest) (x : Plain) → slice_get (trees_of ks) 0 ≡ Some x → first (decorate out l ks) ≡ attributes_at out l x
unfolding decorate
first-tree out l Nil x e = cc
first-tree out l (Cons k w ns ks ts) x e =
    let t : Plain = record { kind = k; word = w; notes = ns; kids = ks } in
    let same : t ≡ x = cc in
    ap (attributes_at out l) same

no-tree : (out : Outside) (l : Local) (ks : Forest) → slice_get (trees_of ks) 0 ≡ None → first (decorate out l ks) ≡ plain
unfolding decorate
no-tree out l Nil e = refl
no-tree out l (Cons k w ns ks ts) e = cc

-- what is found at the first kid of a node
pub first-kid : (out : Outside) (l : Local) (t x : Plain) → slice_get (kids_of t) 0 ≡ Some x → first (decorate out (inner l t.kind t.kids) t.kids) ≡ attributes_at out (inner l t.kind t.kids) x
first-kid out l t x e = first-tree out (inner l t.kind t.kids) t.kids x (ap (λ (ks : List Plain). slice_get ks 0) (sym (kids_of-is t)) ∙ e)

-- nothing where there is no kid
pub no-kid : (out : Outside) (l : Local) (t : Plain) → slice_get (kids_of t) 0 ≡ None → first (decorate out (inner l t.kind t.kids) t.kids) ≡ plain
no-kid out l t e = no-tree out (inner l t.kind t.kids) t.kids (ap (λ (ks : List Plain). slice_get ks 0) (sym (kids_of-is t)) ∙ e)

name-first : (k : Kind) (ks : List Plain) (x : Plain) → is_call k ≡ true → HasKids k ks → slice_get ks 0 ≡ Some x → has class.Name x.kind ≡ true
name-first kind.Call [] x is h e = cc
name-first kind.Call (y ∷ ys) x is h e = let same : y ≡ x = cc in subst (λ (z : Plain). has class.Name z.kind ≡ true) same h.0
name-first kind.Proc [] x is h e = cc
name-first kind.Proc (y ∷ ys) x is h e = let same : y ≡ x = cc in subst (λ (z : Plain). has class.Name z.kind ≡ true) same h.0
name-first k ks x is h e = cc

-- there stands a name, or a hole for one
pub name-class : (t x : Plain) → IsProper t → is_call t.kind ≡ true → slice_get (kids_of t) 0 ≡ Some x → has class.Name x.kind ≡ true
name-class t x proper is e =
    let h : HasKids t.kind (kids_of t) =
    subst (λ (ks : List Plain). HasKids t.kind ks) (kids_in-form_of t proper) (subst (λ (k : Kind). HasKids k (kids_in (form_of t))) (kind_in-form_of t) (classes-form_of t proper)) in
    name-first t.kind (kids_of t) x is h e

-- it is a used one
pub call-uses : (k : Kind) (u : Bool) → is_call k ≡ true → uses_first k u ≡ true
call-uses kind.Call u e = refl
call-uses kind.Proc u e = refl
call-uses k u e = cc

-- it stands in a statement part
pub call-body : (k : Kind) → is_call k ≡ true → is_body k ≡ true
call-body kind.Call e = refl
call-body kind.Proc e = refl
call-body k e = cc
