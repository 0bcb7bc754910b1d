-- The kids of nodes at and below an expression are such nodes.
use Rattle.std.specs.Prelude.{◌≡◌, Bool, true, false, List, [], ◌∷◌, length, Some, None, if◌then◌else◌, ℕ}
use Rattle.std.proofs.Common.{refl, subst, arith}
use Rattle.std.proofs.lemmas.Bool.{and_parts}
use Rattle.pc_syntax.specs.Classes.{has}
use Rattle.pc_syntax.specs.Plain.{Plain, kids_of}
use Rattle.pc_syntax.specs.Slots.{is_list, places_of}
use Rattle.pc_syntax.specs.WellFormed.{IsProper}
use Rattle.pc_syntax.specs.declared.class.Class.{Class}
use Rattle.pc_syntax.specs.declared.kind.Kind.{Kind}
use Rattle.pc_syntax.specs.declared.kind.Kind.TheVariants as kind
use Rattle.pc_forms.specs.CountLaws.{fixed_length}
use Rattle.pc_forms.specs.FormClasses.{Every, HasKids, HasKidsIf, HasClasses, fixed_count}
use Rattle.pc_forms.specs.FormKids.{kids_in}
use Rattle.pc_forms.specs.Form.{form_of}
use Rattle.pc_forms.specs.FormLaws.{kids_in-form_of, kind_in-form_of, classes-form_of}
use Rattle.pc_rules.specs.Places.{opens_records}
use Rattle.pc_environment.specs.Sight.{is_body}
use Rattle.pc_told.specs.PartClassLaws.{is_part_class, class-part, all_part_classes, places-part}
use Rattle.pc_told.specs.Parts.{is_part}

fixed-part : (cs : List Class) (ks : List Plain) → all_part_classes cs ≡ true → HasClasses cs ks → length ks ≡ length cs → Every (λ x. is_part x.kind ≡ true) ks
fixed-part cs [] b h e = tt
fixed-part [] (k ∷ ks) b h e = cc
fixed-part (c ∷ cs) (k ∷ ks) b h e = let a = and_parts (is_part_class c) (all_part_classes cs) b in (class-part c k.kind a.0 h.0, fixed-part cs ks a.1 h.1 (omega (arith, e)))

list-part : (c : Class) (ks : List Plain) → is_part_class c ≡ true → Every (λ k. has c k.kind ≡ true) ks → Every (λ x. is_part x.kind ≡ true) ks
list-part c [] b h = tt
list-part c (k ∷ ks) b h = (class-part c k.kind b h.0, list-part c ks b h.1)

either-part : (l : Bool) (cs : List Class) (ks : List Plain) → all_part_classes cs ≡ true → HasKidsIf l cs ks → (l ≡ false → length ks ≡ length cs) → (l ≡ true → (c : Class) × (rest : List Class) × (cs ≡ c ∷ rest)) →
    Every (λ x. is_part x.kind ≡ true) ks
either-part false cs ks b h count first = fixed-part cs ks b h (count refl)
either-part true [] ks b h count first = let f = first refl in let e = f.2 in cc
either-part true (c ∷ cs) ks b h count first = let a = and_parts (is_part_class c) (all_part_classes cs) b in list-part c ks a.0 h

list-first : (k : Kind) → is_part k ≡ true → is_list k ≡ true → (c : Class) × (rest : List Class) × (places_of k ≡ c ∷ rest)
list-first kind.Ref e l = cc
list-first kind.Index e l = cc
list-first kind.Select e l = cc
list-first kind.Deref e l = cc
list-first kind.Number e l = cc
list-first kind.Text e l = cc
list-first kind.Nil e l = cc
list-first kind.Call e l = cc
list-first kind.Parens e l = cc
list-first kind.Not e l = cc
list-first kind.Setcon e l = cc
list-first kind.Mul e l = cc
list-first kind.Add e l = cc
list-first kind.Sign e l = cc
list-first kind.Rel e l = cc
list-first kind.Width e l = cc
list-first kind.Span e l = cc
list-first kind.Name e l = cc
list-first kind.Exprs e l = (_, _, refl)
list-first kind.Members e l = (_, _, refl)
list-first (kind.Hole s) e l = cc
list-first k e l = cc

-- the kids of a node of an expression
pub kids-part : (t : Plain) → IsProper t → is_part t.kind ≡ true → Every (λ x. is_part x.kind ≡ true) (kids_of t)
kids-part t proper e =
    let h : HasKids t.kind (kids_of t) =
    subst (λ (ks : List Plain). HasKids t.kind ks) (kids_in-form_of t proper) (subst (λ (k : Kind). HasKids k (kids_in (form_of t))) (kind_in-form_of t) (classes-form_of t proper)) in
    either-part (is_list t.kind) (places_of t.kind) (kids_of t) (places-part t.kind e) h (λ no_list. fixed_length t (length (places_of t.kind)) proper (fixed-is t.kind no_list)) (list-first t.kind e)
  where
    fixed-by : (l : Bool) (n : ℕ) → l ≡ false → (if l then None else Some n) ≡ Some n
    fixed-by false n f = refl
    fixed-by true n f = cc

    fixed-is : (k : Kind) → is_list k ≡ false → fixed_count k ≡ Some (length (places_of k))
    fixed-is k f = fixed-by (is_list k) (length (places_of k)) f

-- such a node stands in a statement part
pub part-body : (k : Kind) → is_part k ≡ true → is_body k ≡ true
part-body kind.Ref e = refl
part-body kind.Index e = refl
part-body kind.Select e = refl
part-body kind.Deref e = refl
part-body kind.Number e = refl
part-body kind.Text e = refl
part-body kind.Nil e = refl
part-body kind.Call e = refl
part-body kind.Parens e = refl
part-body kind.Not e = refl
part-body kind.Setcon e = refl
part-body kind.Mul e = refl
part-body kind.Add e = refl
part-body kind.Sign e = refl
part-body kind.Rel e = refl
part-body kind.Width e = refl
part-body kind.Span e = refl
part-body kind.Name e = refl
part-body kind.Exprs e = refl
part-body kind.Members e = refl
part-body (kind.Hole s) e = refl
part-body k e = cc

-- such a node opens no records
pub part-closed : (k : Kind) → is_part k ≡ true → opens_records k ≡ false
part-closed kind.Ref e = refl
part-closed kind.Index e = refl
part-closed kind.Select e = refl
part-closed kind.Deref e = refl
part-closed kind.Number e = refl
part-closed kind.Text e = refl
part-closed kind.Nil e = refl
part-closed kind.Call e = refl
part-closed kind.Parens e = refl
part-closed kind.Not e = refl
part-closed kind.Setcon e = refl
part-closed kind.Mul e = refl
part-closed kind.Add e = refl
part-closed kind.Sign e = refl
part-closed kind.Rel e = refl
part-closed kind.Width e = refl
part-closed kind.Span e = refl
part-closed kind.Name e = refl
part-closed kind.Exprs e = refl
part-closed kind.Members e = refl
part-closed (kind.Hole s) e = refl
part-closed k e = cc
