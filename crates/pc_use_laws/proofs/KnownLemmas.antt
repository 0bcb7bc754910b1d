-- The fields that an access opens are those of its type.
use Rattle.std.specs.Prelude.{ℕ, suc, ◌≡◌, ◌+◌, Bool, true, false, List, [], ◌∷◌, ◌++◌, Option, Some}
use Rattle.std.specs.Option.{option_and_then}
use Rattle.std.proofs.Common.{refl, ap, sym, ◌∙◌, true≢false, arith, append_assoc}
use Rattle.pc_syntax.specs.declared.kind.Kind.{Kind}
use Rattle.pc_syntax.specs.declared.kind.Kind.TheVariants as kind
use Rattle.pc_syntax.specs.declared.class.Class.{Class}
use Rattle.pc_syntax.specs.declared.class.Class.TheVariants as class
use Rattle.pc_syntax.specs.Classes.{has, is_access, is_accesses}
use Rattle.pc_syntax.specs.Layout.{layout}
use Rattle.pc_syntax.specs.Places.{at}
use Rattle.pc_syntax.specs.Plain.{Forest, Nil, Cons, count, kinds}
use Rattle.pc_syntax.specs.WellFormed.{WellFormed, fits_some}
use Rattle.pc_rules.specs.Attributes.{Attributes, Marked, first}
use Rattle.pc_rules.specs.Decorated.{Seen, decorate, rule, seen}
use Rattle.pc_rules.specs.Meanings.{Local, Outside}
use Rattle.pc_rules.specs.Places.{inner, beside}
use Rattle.pc_rules.specs.Variables.{opened_by}
use Rattle.pc_decl.specs.Annotated.{Annotated}
use Rattle.pc_decl.specs.Found.{found_on, attributes_at}
use Rattle.pc_decl.specs.Nodes.{kind_at}
use Rattle.pc_needs.proofs.BodyKinds.{Passes, row-passes, node-takes}
use Rattle.pc_decl_laws.proofs.LeadLemmas.{tree_of}
use Rattle.pc_decl_laws.proofs.NameLemmas.{above-kid}
use Rattle.pc_use_laws.specs.FieldsSeen.{opens_at}
use Rattle.pc_use_laws.proofs.RecordNameLemmas.{access-type-law}
use Rattle.pc_use_laws.proofs.RowLemmas.{Knows}
use Rattle.pc_use_laws.proofs.SitLemmas.{Sits, sits-kids, kind-of}

-- ---- the rule of an access

access-opens : (l : Local) (k : Kind) (w : List ℕ) (s : Seen) (m : Marked) → is_access k ≡ true → (rule l k w s m).opens ≡ opened_by (rule l k w s m).as_place.type
unfolding rule
access-opens l kind.Ref w s m e = refl
access-opens l kind.Index w s m e = refl
access-opens l kind.Select w s m e = refl
access-opens l kind.Deref w s m e = refl
access-opens l (kind.Hole z) w s m e = refl
access-opens l _ w s m e = absurd (true≢false (sym e))

node-opens : (out : Outside) (l : Local) (k : Kind) (w : List ℕ) (ns : List (List ℕ)) (ks : Forest) → is_access k ≡ true →
    (first (decorate out l (Cons k w ns ks Nil))).opens ≡ opened_by (first (decorate out l (Cons k w ns ks Nil))).as_place.type
unfolding decorate
node-opens out l k w ns ks e = access-opens l k w (seen out l k w) (decorate out (inner l k ks) ks) e

-- ---- the kids of a list of accesses

abbrev is_access_class : Class → Bool
is_access_class class.Access = true
is_access_class c = false

class-access : (c : Class) (k : Kind) → is_access_class c ≡ true → has c k ≡ true → is_access k ≡ true
class-access class.Access k e h = h
class-access c k e h = absurd (true≢false (sym e))

-- these are the kids of one, or it isn't asked
abbrev pub AreAccesses : Annotated → Bool → List ℕ → Forest → Type 0
AreAccesses p b q f = b ≡ true → (kind_at p.tree q ≡ kind.Accesses) × Passes is_access f

are-accesses : (p : Annotated) (q : List ℕ) (k : Kind) (w : List ℕ) (ns : List (List ℕ)) (ks : Forest) → at q p.tree ≡ Some (tree_of k w ns ks) →
    fits_some (layout k w (count ks)) (kinds ks) ≡ true → AreAccesses p (is_accesses k) q ks
are-accesses p q kind.Accesses w ns ks here fit e = (
  kind-of p.tree q (tree_of kind.Accesses w ns ks) here,
  row-passes is_access is_access_class class-access kind.Accesses 0 ks refl (node-takes kind.Accesses w ks fit),
)
are-accesses p q _ w ns ks here fit e = absurd (true≢false (sym e))

behind-them : (p : Annotated) (b : Bool) (q : List ℕ) (k : Kind) (w : List ℕ) (ns : List (List ℕ)) (ks ts : Forest) → AreAccesses p b q (Cons k w ns ks ts) → AreAccesses p b q ts
behind-them p b q k w ns ks ts h e = let both = h e in (both.0, both.1.1)

one-on : (n : ℕ) → suc n ≡ n + 1
one-on n = omega arith

next-on : (n i : ℕ) → suc n + suc i ≡ n + suc (suc i)
next-on n i = omega arith

from-none : (i : ℕ) → 0 + suc i ≡ suc i
from-none i = omega arith

-- what they open is known by their types, where what is found this way is what is found at their places
pub knows-from : (p : Annotated) (b : Bool) (q : List ℕ) (out : Outside) (l : Local) (n : ℕ) (f : Forest) → Sits p.tree q (suc n) f → WellFormed f → AreAccesses p b q f →
    ((i : ℕ) (way : List ℕ) → attributes_at p (q ++ (n + suc i) ∷ way) ≡ found_on (suc i ∷ way) (decorate out l f)) → Knows (opens_at p) b q out l (suc n) f
unfolding decorate
knows-from p b q out l n Nil sits well are h = tt
knows-from p b q out l n (Cons k w ns ks ts) sits well are h = (
  λ e. here (are e),
  knows-from p (is_accesses k) (q ++ suc n ∷ []) out (inner l k ks) 0 ks (sits-kids p.tree (q ++ suc n ∷ []) (tree_of k w ns ks) sits.0) well.3
      (are-accesses p (q ++ suc n ∷ []) k w ns ks sits.0 well.0)
      (λ i way. ap (attributes_at p) (append_assoc q (suc n ∷ []) ((0 + suc i) ∷ way)) ∙ (λ z. attributes_at p (q ++ one-on n z ∷ from-none i z ∷ way)) ∙ h 0 (suc i ∷ way)),
  knows-from p b q out (beside l k (first (decorate out l (Cons k w ns ks Nil)))) (suc n) ts sits.1 well.4 (behind-them p b q k w ns ks ts are)
      (λ i way. ap (λ (m : ℕ). attributes_at p (q ++ m ∷ way)) (next-on n i) ∙ h (suc i) way ∙ behind i way),
) where
  a : Attributes
  a = first (decorate out l (Cons k w ns ks Nil))

  behind : (i : ℕ) (way : List ℕ) → found_on (suc (suc i) ∷ way) (decorate out l (Cons k w ns ks ts)) ≡ found_on (suc i ∷ way) (decorate out (beside l k a) ts)
  behind i [] = refl
  behind i (j ∷ way) = refl

  here : (kind_at p.tree q ≡ kind.Accesses) × Passes is_access (Cons k w ns ks ts) → opens_at p (q ++ suc n ∷ []) ≡ a.opens
  here both =
      ap opened_by
      (access-type-law p (q ++ suc n ∷ []) (ap (kind_at p.tree) (above-kid q (suc n)) ∙ both.0)
      ∙ ap (λ (o : Option Attributes). option_and_then (λ (x : Attributes). x.as_place.type) o) (ap (λ (m : ℕ). attributes_at p (q ++ m ∷ [])) (one-on n) ∙ h 0 []))
      ∙ sym (node-opens out l k w ns ks both.1.0)
