-- The kids of a node have the classes of its places, where its kind takes them.
use Rattle.std.proofs.Common.{◌≡◌, ℕ, suc, Bool, true, false, List, [], ◌∷◌, Option, Some, None, slice_get, if◌then◌else◌, refl, sym, ap, ◌∙◌}
use Rattle.std.proofs.lemmas.Bool.{and_parts}
use Rattle.pc_syntax.specs.declared.kind.Kind.{Kind}
use Rattle.pc_syntax.specs.declared.class.Class.{Class}
use Rattle.pc_syntax.specs.Plain.{Plain}
use Rattle.pc_syntax.specs.Slots.{is_list, places_of, class_from}
use Rattle.pc_syntax.specs.Classes.{has}
use Rattle.pc_syntax.specs.Fits.{takes, takes_from, kinds_of}
use Rattle.pc_syntax.specs.FitsLayoutLaws.{walk, walk-suc, takes_from-walk}
use Rattle.pc_forms.specs.FormClasses.{Every, HasClasses, AllHave, HasKidsIf}

-- a class that takes a kind has it
has-from : (o : Option Class) (c : Class) (k : Kind) → takes o k ≡ true → o ≡ Some c → has c k ≡ true
has-from None c k e f = cc
has-from (Some b) c k e f =
    let same : b ≡ c = cc in
    ap (λ x. has x k) (sym same) ∙ e

-- of a node that is no list
HasClasses-from : (cs : List Class) (ks : List Plain) → walk cs 0 (kinds_of ks) ≡ true → HasClasses cs ks
HasClasses-from [] ks e = tt
HasClasses-from (c ∷ cs) [] e = tt
HasClasses-from (c ∷ cs) (k ∷ ks) e =
    let a = and_parts (has c k.kind) _ e in
    (a.0, HasClasses-from cs ks (sym (walk-suc c cs 0 (kinds_of ks)) ∙ a.1))

-- of a list, from a place on
AllHave-from : (k : Kind) (c : Class) (i : ℕ) (ks : List Plain) → ((i : ℕ) → class_from k i ≡ Some c) → takes_from k i (kinds_of ks) ≡ true → Every (λ k. has c k.kind ≡ true) ks
AllHave-from k c i [] h e = tt
AllHave-from k c i (j ∷ ks) h e =
    let a = and_parts (takes (class_from k i) j.kind) _ e in
    (has-from (class_from k i) c j.kind a.0 (h i), AllHave-from k c (suc i) ks h a.1)

-- of a list, by the one class of its elements
AllHave-is : (k : Kind) (cs : List Class) (ks : List Plain) → places_of k ≡ cs → is_list k ≡ true → takes_from k 0 (kinds_of ks) ≡ true → AllHave cs ks
AllHave-is k [] ks p l e = tt
AllHave-is k (c ∷ cs) ks p l e =
    let first : (i : ℕ) → class_from k i ≡ Some c = λ i. ap (λ b. slice_get (places_of k) (if b then 0 else i)) l ∙ ap (λ xs. slice_get xs 0) p in
    AllHave-from k c 0 ks first e

-- of any node
pub HasKids-from : (k : Kind) (ks : List Plain) (b : Bool) → is_list k ≡ b → takes_from k 0 (kinds_of ks) ≡ true → HasKidsIf b (places_of k) ks
HasKids-from k ks true l e = AllHave-is k (places_of k) ks refl l e
HasKids-from k ks false l e = HasClasses-from (places_of k) ks (sym (takes_from-walk k l 0 (kinds_of ks)) ∙ e)
