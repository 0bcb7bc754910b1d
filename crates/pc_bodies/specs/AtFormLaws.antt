-- What is found at a node, from its form and what is found at its kids.
use Rattle.std.specs.Prelude.{◌≡◌, ℕ, List}
use Rattle.std.proofs.Common.{refl, ap, sym, ◌∙◌}
use Rattle.pc_syntax.specs.Plain.{Plain, kids_of}
use Rattle.pc_syntax.specs.WellFormed.{IsProper}
use Rattle.pc_syntax.specs.declared.kind.Kind.{Kind}
use Rattle.pc_forms.specs.Form.{PlainForm, form_from, form_of, nothing}
use Rattle.pc_forms.specs.FormKids.{kids_in}
use Rattle.pc_forms.specs.FormKind.{kind_in}
use Rattle.pc_forms.specs.FormLaws.{kind_in-form_of, kids_in-form_of}
use Rattle.pc_forms.specs.Operators.{sign_of, mul_of, add_of, rel_of}
use Rattle.pc_forms.specs.declared.operator.Sign.{Sign}
use Rattle.pc_forms.specs.declared.operator.MulOperator.{MulOperator}
use Rattle.pc_forms.specs.declared.operator.AddOperator.{AddOperator}
use Rattle.pc_forms.specs.declared.operator.RelOperator.{RelOperator}
use Rattle.pc_forms.specs.declared.form.Form.TheVariants as form
use Rattle.pc_rules.specs.Decorated.{seen, rule}
use Rattle.pc_rules.specs.Meanings.{Local, Outside}
use Rattle.pc_environment.specs.Decorating.{attributes_at, marks_of}
use Rattle.pc_environment.specs.DecoratingLaws.{at-kids}
use Rattle.pc_bodies.specs.NodesAt.{first_place, found_at}

rule-is : (l : Local) (k : Kind) (w : List ℕ) (out : Outside) (ks : List Plain) → rule l k w (seen out l k w) (marks_of out (first_place l k ks) ks) ≡ found_at out l k w ks
unfolding rule
rule-is l k w out ks = refl

-- a node whose form is known
pub at-form : (out : Outside) (l : Local) (t : Plain) (f : PlainForm) → IsProper t → f ≡ form_of t → attributes_at out l t ≡ found_at out l (kind_in f) t.word (kids_in f)
at-form out l t f proper e =
    at-kids out l t (kind_in f) (kids_in f) (sym (kind_in-form_of t) ∙ ap kind_in (sym e)) (sym (kids_in-form_of t proper) ∙ ap kids_in (sym e))
    ∙ rule-is l (kind_in f) t.word out (kids_in f)

pub kind-form : (t : Plain) (f : PlainForm) → f ≡ form_of t → t.kind ≡ kind_in f
kind-form t f e = sym (kind_in-form_of t) ∙ ap kind_in (sym e)

-- ---- the word of a node whose form is known

abbrev mul_in : PlainForm → MulOperator → MulOperator
mul_in (form.Mul a o b) d = o
mul_in _ d = d

abbrev add_in : PlainForm → AddOperator → AddOperator
add_in (form.Add a o b) d = o
add_in _ d = d

abbrev rel_in : PlainForm → RelOperator → RelOperator
rel_in (form.Rel a o b) d = o
rel_in _ d = d

abbrev sign_in : PlainForm → Sign → Sign
sign_in (form.Sign o a) d = o
sign_in (form.Csign o a) d = o
sign_in _ d = d

abbrev word_in : PlainForm → List ℕ → List ℕ
word_in (form.Number w) d = w
word_in (form.Text w) d = w
word_in (form.Cnumber w) d = w
word_in (form.Cstring w) d = w
word_in (form.Name w) d = w
word_in _ d = d

from-kind : (t : Plain) (f : PlainForm) → f ≡ form_of t → f ≡ form_from (kind_in f) t.word (kids_of t) nothing
unfolding form_of
from-kind t f e = e ∙ ap (λ k. form_from k t.word (kids_of t) nothing) (kind-form t f e)

pub mul-word : (t a b : Plain) (o : MulOperator) → form.Mul a o b ≡ form_of t → mul_of t.word ≡ o
mul-word t a b o e = sym (ap (λ (f : PlainForm). mul_in f o) (from-kind t (form.Mul a o b) e))

pub add-word : (t a b : Plain) (o : AddOperator) → form.Add a o b ≡ form_of t → add_of t.word ≡ o
add-word t a b o e = sym (ap (λ (f : PlainForm). add_in f o) (from-kind t (form.Add a o b) e))

pub rel-word : (t a b : Plain) (o : RelOperator) → form.Rel a o b ≡ form_of t → rel_of t.word ≡ o
rel-word t a b o e = sym (ap (λ (f : PlainForm). rel_in f o) (from-kind t (form.Rel a o b) e))

pub sign-word : (t a : Plain) (o : Sign) → form.Sign o a ≡ form_of t → sign_of t.word ≡ o
sign-word t a o e = sym (ap (λ (f : PlainForm). sign_in f o) (from-kind t (form.Sign o a) e))

pub number-word : (t : Plain) (w : List ℕ) → form.Number w ≡ form_of t → t.word ≡ w
number-word t w e = sym (ap (λ (f : PlainForm). word_in f w) (from-kind t (form.Number w) e))

pub text-word : (t : Plain) (w : List ℕ) → form.Text w ≡ form_of t → t.word ≡ w
text-word t w e = sym (ap (λ (f : PlainForm). word_in f w) (from-kind t (form.Text w) e))
