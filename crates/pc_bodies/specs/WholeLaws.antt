-- All nodes below a node of a statement part stand in it.
use Rattle.std.specs.Prelude.{◌≡◌, ℕ, Bool, true, false, ◌&&◌, List, [], ◌∷◌, length, Some, None, if◌then◌else◌}
use Rattle.std.proofs.Common.{refl, subst, arith}
use Rattle.std.proofs.lemmas.Bool.{and_parts}
use Rattle.pc_syntax.specs.Classes.{has}
use Rattle.pc_syntax.specs.Plain.{Forest, Nil, Cons, Plain, forest_of, kids_of}
use Rattle.pc_syntax.specs.PartsLaws.{forest_of-kids_of}
use Rattle.pc_syntax.specs.Slots.{is_list, places_of}
use Rattle.pc_syntax.specs.WellFormed.{IsProper}
use Rattle.pc_syntax.specs.declared.class.Class.{Class}
use Rattle.pc_syntax.specs.declared.kind.Kind.{Kind}
use Rattle.pc_syntax.specs.declared.kind.Kind.TheVariants as kind
use Rattle.pc_forms.specs.CountLaws.{fixed_length}
use Rattle.pc_forms.specs.FormClasses.{Every, HasKids, HasKidsIf, HasClasses, fixed_count}
use Rattle.pc_forms.specs.FormKids.{kids_in}
use Rattle.pc_forms.specs.Form.{form_of}
use Rattle.pc_forms.specs.FormLaws.{kids_in-form_of, kind_in-form_of, classes-form_of, by_form}
use Rattle.pc_environment.specs.Sight.{is_body}
use Rattle.pc_pointers.specs.Good.{AllBody}
use Rattle.pc_bodies.specs.BodyLaws.{is_body_class, class-body}

abbrev all_body_classes : List Class → Bool
all_body_classes [] = true
all_body_classes (c ∷ cs) = is_body_class c && all_body_classes cs

places-body : (k : Kind) → is_body k ≡ true → all_body_classes (places_of k) ≡ true
places-body kind.Cnumber e = refl
places-body kind.Cstring e = refl
places-body kind.Cname e = refl
places-body kind.Csign e = refl
places-body kind.Empty e = refl
places-body kind.Assign e = refl
places-body kind.Proc e = refl
places-body kind.Compound e = refl
places-body kind.If e = refl
places-body kind.Ifelse e = refl
places-body kind.Case e = refl
places-body kind.Arm e = refl
places-body kind.Repeat e = refl
places-body kind.While e = refl
places-body kind.For e = refl
places-body kind.With e = refl
places-body kind.Ref e = refl
places-body kind.Index e = refl
places-body kind.Select e = refl
places-body kind.Deref e = refl
places-body kind.Number e = refl
places-body kind.Text e = refl
places-body kind.Nil e = refl
places-body kind.Call e = refl
places-body kind.Parens e = refl
places-body kind.Not e = refl
places-body kind.Setcon e = refl
places-body kind.Mul e = refl
places-body kind.Add e = refl
places-body kind.Sign e = refl
places-body kind.Rel e = refl
places-body kind.Width e = refl
places-body kind.Span e = refl
places-body kind.Name e = refl
places-body kind.Args e = refl
places-body kind.Labels e = refl
places-body kind.Exprs e = refl
places-body kind.Accesses e = refl
places-body kind.Members e = refl
places-body kind.Stmts e = refl
places-body kind.Arms e = refl
places-body (kind.Hole s) e = refl
places-body k e = cc

fixed-body : (cs : List Class) (ks : List Plain) → all_body_classes cs ≡ true → HasClasses cs ks → length ks ≡ length cs → Every (λ x. is_body x.kind ≡ true) ks
fixed-body cs [] b h e = tt
fixed-body [] (k ∷ ks) b h e = cc
fixed-body (c ∷ cs) (k ∷ ks) b h e = let a = and_parts (is_body_class c) (all_body_classes cs) b in (class-body c k.kind a.0 h.0, fixed-body cs ks a.1 h.1 (omega (arith, e)))

list-body : (c : Class) (ks : List Plain) → is_body_class c ≡ true → Every (λ k. has c k.kind ≡ true) ks → Every (λ x. is_body x.kind ≡ true) ks
list-body c [] b h = tt
list-body c (k ∷ ks) b h = (class-body c k.kind b h.0, list-body c ks b h.1)

either-body : (l : Bool) (cs : List Class) (ks : List Plain) → all_body_classes cs ≡ true → HasKidsIf l cs ks → (l ≡ false → length ks ≡ length cs) → (l ≡ true → (c : Class) × (rest : List Class) × (cs ≡ c ∷ rest)) →
    Every (λ x. is_body x.kind ≡ true) ks
either-body false cs ks b h count first = fixed-body cs ks b h (count refl)
either-body true [] ks b h count first = let f = first refl in let e = f.2 in cc
either-body true (c ∷ cs) ks b h count first = let a = and_parts (is_body_class c) (all_body_classes cs) b in list-body c ks a.0 h

list-first : (k : Kind) → is_body k ≡ true → is_list k ≡ true → (c : Class) × (rest : List Class) × (places_of k ≡ c ∷ rest)
list-first kind.Cnumber e l = cc
list-first kind.Cstring e l = cc
list-first kind.Cname e l = cc
list-first kind.Csign e l = cc
list-first kind.Empty e l = cc
list-first kind.Assign e l = cc
list-first kind.Proc e l = cc
list-first kind.Compound e l = cc
list-first kind.If e l = cc
list-first kind.Ifelse e l = cc
list-first kind.Case e l = cc
list-first kind.Arm e l = cc
list-first kind.Repeat e l = cc
list-first kind.While e l = cc
list-first kind.For e l = cc
list-first kind.With e l = cc
list-first kind.Ref e l = cc
list-first kind.Index e l = cc
list-first kind.Select e l = cc
list-first kind.Deref e l = cc
list-first kind.Number e l = cc
list-first kind.Text e l = cc
list-first kind.Nil e l = cc
list-first kind.Call e l = cc
list-first kind.Parens e l = cc
list-first kind.Not e l = cc
list-first kind.Setcon e l = cc
list-first kind.Mul e l = cc
list-first kind.Add e l = cc
list-first kind.Sign e l = cc
list-first kind.Rel e l = cc
list-first kind.Width e l = cc
list-first kind.Span e l = cc
list-first kind.Name e l = cc
list-first kind.Args e l = (_, _, refl)
list-first kind.Labels e l = (_, _, refl)
list-first kind.Exprs e l = (_, _, refl)
list-first kind.Accesses e l = (_, _, refl)
list-first kind.Members e l = (_, _, refl)
list-first kind.Stmts e l = (_, _, refl)
list-first kind.Arms e l = (_, _, refl)
list-first (kind.Hole s) e l = cc
list-first k e l = cc

-- the kids of a node of a statement part
pub kids-body : (t : Plain) → IsProper t → is_body t.kind ≡ true → Every (λ x. is_body x.kind ≡ true) (kids_of t)
kids-body t proper e =
    let h : HasKids t.kind (kids_of t) =
    subst (λ (ks : List Plain). HasKids t.kind ks) (kids_in-form_of t proper) (subst (λ (k : Kind). HasKids k (kids_in (form_of t))) (kind_in-form_of t) (classes-form_of t proper)) in
    either-body (is_list t.kind) (places_of t.kind) (kids_of t) (places-body t.kind e) h (λ no_list. fixed_length t (length (places_of t.kind)) proper (fixed-is t.kind no_list)) (list-first t.kind e)
  where
    fixed-by : (l : Bool) (n : ℕ) → l ≡ false → (if l then None else Some n) ≡ Some n
    fixed-by false n f = refl
    fixed-by true n f = cc

    fixed-is : (k : Kind) → is_list k ≡ false → fixed_count k ≡ Some (length (places_of k))
    fixed-is k f = fixed-by (is_list k) (length (places_of k)) f

abbrev WholeBody : Plain → Type 0
WholeBody t = is_body t.kind ≡ true → AllBody (Cons t.kind t.word t.notes t.kids Nil)

all-body : (ks : List Plain) → Every (λ x. is_body x.kind ≡ true) ks → Every WholeBody ks → AllBody (forest_of ks)
all-body [] b w = tt
all-body (k ∷ ks) b w = let one = w.0 b.0 in (one.0, one.1, all-body ks b.1 w.1)

-- every node of a tree that stands in a statement part does
pub whole-body : (t : Plain) → IsProper t → WholeBody t
whole-body = by_form WholeBody (λ t proper below e.
    let kids : Every WholeBody (kids_of t) = subst (λ (ks : List Plain). Every WholeBody ks) (kids_in-form_of t proper) below in
    (e, subst (λ (ks : Forest). AllBody ks) (forest_of-kids_of t) (all-body (kids_of t) (kids-body t proper e) kids), tt))
