-- Lists of statements, accesses, labels and arms: their kinds and their elements; and the size of an arm.
use Rattle.std.specs.Prelude.{◌≡◌, ℕ, ◌+◌, true, List, [], ◌∷◌, Some, map, slice_get, sum_by}
use Rattle.std.proofs.Common.{refl, ap, sym, ◌∙◌, subst}
use Rattle.pc_syntax.specs.Classes.{has, is_access, is_arm, is_constant, is_expression, is_statement}
use Rattle.pc_syntax.specs.Plain.{Plain, kids_of}
use Rattle.pc_syntax.specs.WellFormed.{IsProper, size_of}
use Rattle.pc_syntax.specs.declared.class.Class.TheVariants as class
use Rattle.pc_syntax.specs.declared.kind.Kind.{Kind}
use Rattle.pc_syntax.specs.declared.kind.Kind.TheVariants as kind
use Rattle.pc_syntax.specs.declared.sort.Sort.{Sort}
use Rattle.pc_forms.specs.Form.{PlainForm, form_from, form_of, nothing}
use Rattle.pc_forms.specs.FormClasses.{Every, HasKids}
use Rattle.pc_forms.specs.FormKids.{kids_in}
use Rattle.pc_forms.specs.FormLaws.{kids_in-form_of, kind_in-form_of, classes-form_of, proper-form_of, size-form_of}
use Rattle.pc_forms.specs.declared.form.Form.TheVariants as form
use Rattle.pc_bodies.specs.ListLaws.{every-at}

-- each list has its kind
pub stmts-kind : (k : Kind) → has class.Stmts k ≡ true → k ≡ kind.Stmts
stmts-kind kind.Stmts e = refl
stmts-kind k e = cc

pub accesses-kind : (k : Kind) → has class.Accesses k ≡ true → k ≡ kind.Accesses
accesses-kind kind.Accesses e = refl
accesses-kind k e = cc

pub labels-kind : (k : Kind) → has class.Labels k ≡ true → k ≡ kind.Labels
labels-kind kind.Labels e = refl
labels-kind k e = cc

pub arms-kind : (k : Kind) → has class.Arms k ≡ true → k ≡ kind.Arms
arms-kind kind.Arms e = refl
arms-kind k e = cc

list-kids : (t : Plain) (k : Kind) → IsProper t → t.kind ≡ k → HasKids k (kids_of t)
list-kids t k proper e =
    subst (λ (ks : List Plain). HasKids k ks) (kids_in-form_of t proper) (subst (λ (j : Kind). HasKids j (kids_in (form_of t))) (kind_in-form_of t ∙ e) (classes-form_of t proper))

-- an element has the class of its list
pub stmts-kid : (t k : Plain) (i : ℕ) → IsProper t → t.kind ≡ kind.Stmts → slice_get (kids_of t) i ≡ Some k → is_statement k.kind ≡ true
stmts-kid t k i proper e at = every-at (λ u. is_statement u.kind ≡ true) (kids_of t) i k (list-kids t kind.Stmts proper e) at

pub accesses-kid : (t k : Plain) (i : ℕ) → IsProper t → t.kind ≡ kind.Accesses → slice_get (kids_of t) i ≡ Some k → is_access k.kind ≡ true
accesses-kid t k i proper e at = every-at (λ u. is_access u.kind ≡ true) (kids_of t) i k (list-kids t kind.Accesses proper e) at

pub labels-kid : (t k : Plain) (i : ℕ) → IsProper t → t.kind ≡ kind.Labels → slice_get (kids_of t) i ≡ Some k → is_constant k.kind ≡ true
labels-kid t k i proper e at = every-at (λ u. is_constant u.kind ≡ true) (kids_of t) i k (list-kids t kind.Labels proper e) at

pub arms-kid : (t k : Plain) (i : ℕ) → IsProper t → t.kind ≡ kind.Arms → slice_get (kids_of t) i ≡ Some k → is_arm k.kind ≡ true
arms-kid t k i proper e at = every-at (λ u. is_arm u.kind ≡ true) (kids_of t) i k (list-kids t kind.Arms proper e) at

-- an arm has one node more than its labels and its statement
pub arm-size : (t x y : Plain) → IsProper t → form.Arm x y ≡ form_of t → size_of t ≡ 1 + sum_by size_of (x ∷ y ∷ [])
arm-size t x y proper e = size-form_of t proper ∙ ap (λ (f : PlainForm). 1 + sum_by size_of (kids_in f)) (sym e)

-- a hole has no kids
pub hole-bare : (t : Plain) (s : Sort) → IsProper t → t.kind ≡ kind.Hole s → kids_of t ≡ []
unfolding form_of
hole-bare t s proper e = sym (kids_in-form_of t proper) ∙ ap (λ (k : Kind). kids_in (form_from k t.word (kids_of t) nothing)) e

-- an access is an expression
pub access-expression : (k : Kind) → is_access k ≡ true → is_expression k ≡ true
access-expression kind.Ref e = refl
access-expression kind.Index e = refl
access-expression kind.Select e = refl
access-expression kind.Deref e = refl
access-expression (kind.Hole s) e = e
access-expression k e = cc

-- an element of a proper list is proper
pub proper-at : (t k : Plain) (i : ℕ) → IsProper t → slice_get (kids_of t) i ≡ Some k → IsProper k
proper-at t k i proper at = every-at IsProper (kids_of t) i k (subst (λ (ks : List Plain). Every IsProper ks) (kids_in-form_of t proper) (proper-form_of t proper)) at

-- a list with nothing made of its elements
pub map-same : {X : Type 0} (xs : List X) → map (λ x. x) xs ≡ xs
map-same [] = refl
map-same (x ∷ xs) = ap (λ ys. x ∷ ys) (map-same xs)
