-- Lists of a statement part, and the places of names that aren't used: what stands there.
use Rattle.std.specs.Prelude.{◌≡◌, ℕ, true, false, List, [], ◌∷◌, Some, slice_get, take, zero, suc}
use Rattle.std.proofs.Common.{refl, ap, ◌∙◌, subst}
use Rattle.pc_syntax.specs.Classes.{has, is_name, is_expression}
use Rattle.pc_syntax.specs.Plain.{Plain, kids_of}
use Rattle.pc_syntax.specs.WellFormed.{IsProper}
use Rattle.pc_syntax.specs.Sorts.{is_hole}
use Rattle.pc_syntax.specs.declared.class.Class.TheVariants as class
use Rattle.pc_syntax.specs.declared.kind.Kind.{Kind}
use Rattle.pc_syntax.specs.declared.kind.Kind.TheVariants as kind
use Rattle.pc_forms.specs.Form.{form_of}
use Rattle.pc_forms.specs.FormClasses.{Every, HasKids}
use Rattle.pc_forms.specs.FormKids.{kids_in}
use Rattle.pc_forms.specs.FormLaws.{kids_in-form_of, kind_in-form_of, classes-form_of}
use Rattle.pc_rules.specs.Attributes.{Attributes}
use Rattle.pc_rules.specs.Decorated.{seen, rule}
use Rattle.pc_rules.specs.Meanings.{Local, Outside}
use Rattle.pc_environment.specs.Decorating.{attributes_at, below_at}
use Rattle.pc_environment.specs.DecoratingLaws.{at-node}
use Rattle.pc_environment.specs.Sight.{is_body}

-- the list of indexes has its kind
pub exprs-kind : (k : Kind) → has class.Exprs k ≡ true → k ≡ kind.Exprs
exprs-kind kind.Exprs e = refl
exprs-kind k e = cc

unused-name : (out : Outside) (l : Local) (t : Plain) → t.kind ≡ kind.Name → (attributes_at out l t).hole ≡ false
unfolding rule
unused-name out l t e = ap (λ (a : Attributes). a.hole) (at-node out l t) ∙ (λ i. (rule l (e i) t.word (seen out l (e i) t.word) (below_at out l t)).hole)

a-hole : (out : Outside) (l : Local) (t : Plain) (k : Kind) → t.kind ≡ k → is_name k ≡ true → (attributes_at out l t).hole ≡ is_hole k
unfolding rule
a-hole out l t kind.Name e is = unused-name out l t e
a-hole out l t (kind.Hole s) e is = ap (λ (a : Attributes). a.hole) (at-node out l t) ∙ (λ i. (rule l (e i) t.word (seen out l (e i) t.word) (below_at out l t)).hole)
a-hole out l t k e is = cc

-- a name, or a hole in its place, has a hole where it is one
pub field-hole : (out : Outside) (l : Local) (t : Plain) → is_name t.kind ≡ true → (attributes_at out l t).hole ≡ is_hole t.kind
field-hole out l t is = a-hole out l t t.kind refl is

a-name : (out : Outside) (l : Local) (t : Plain) (k : Kind) → t.kind ≡ k → is_name k ≡ true → (attributes_at out l t).touches ≡ []
unfolding rule
a-name out l t kind.Name e is = ap (λ (a : Attributes). a.touches) (at-node out l t) ∙ (λ i. (rule l (e i) t.word (seen out l (e i) t.word) (below_at out l t)).touches)
a-name out l t (kind.Hole s) e is = ap (λ (a : Attributes). a.touches) (at-node out l t) ∙ (λ i. (rule l (e i) t.word (seen out l (e i) t.word) (below_at out l t)).touches)
a-name out l t k e is = cc

-- a name, or a hole in its place, touches no variable by itself
pub name-touches : (out : Outside) (l : Local) (t : Plain) → is_name t.kind ≡ true → (attributes_at out l t).touches ≡ []
name-touches out l t is = a-name out l t t.kind refl is

-- the first nodes of a row stand in a statement part, if all do
pub take-body : (n : ℕ) (ts : List Plain) → Every (λ u. is_body u.kind ≡ true) ts → Every (λ u. is_body u.kind ≡ true) (take n ts)
take-body zero ts h = tt
take-body (suc n) [] h = tt
take-body (suc n) (t ∷ ts) h = (h.0, take-body n ts h.1)

-- what holds of each tree of a row holds of the one with a number
pub every-at : (P : Plain → Type 0) (ts : List Plain) (i : ℕ) (t : Plain) → Every P ts → slice_get ts i ≡ Some t → P t
every-at P [] i t h e = cc
every-at P (u ∷ ts) zero t h e = let same : u ≡ t = cc in subst P same h.0
every-at P (u ∷ ts) (suc i) t h e = every-at P ts i t h.1 e

-- an element of a list of indexes is an expression
pub exprs-kid : (t k : Plain) (i : ℕ) → IsProper t → t.kind ≡ kind.Exprs → slice_get (kids_of t) i ≡ Some k → is_expression k.kind ≡ true
exprs-kid t k i proper e at =
    let h : HasKids kind.Exprs (kids_of t) =
    subst (λ (ks : List Plain). HasKids kind.Exprs ks) (kids_in-form_of t proper) (subst (λ (j : Kind). HasKids j (kids_in (form_of t))) (kind_in-form_of t ∙ e) (classes-form_of t proper)) in
    every-at (λ u. is_expression u.kind ≡ true) (kids_of t) i k h at
