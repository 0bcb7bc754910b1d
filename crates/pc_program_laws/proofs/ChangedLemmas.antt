-- What a block touches doesn't depend on which variables a routine in it changes.
use Rattle.std.specs.Prelude.{ℕ, ◌≡◌, Bool, true, ◌||◌, List, [], ◌∷◌, map, ◌++◌, ◌⊎◌}
use Rattle.std.proofs.Common.{refl, ap, sym, subst, ◌∙◌, true≢false, inl, inr}
use Rattle.pc_syntax.specs.declared.kind.Kind.{Kind}
use Rattle.pc_syntax.specs.declared.kind.Kind.TheVariants as kind
use Rattle.pc_syntax.specs.Layout.{layout}
use Rattle.pc_syntax.specs.Plain.{Forest, Nil, Cons, count, kinds}
use Rattle.pc_syntax.specs.WellFormed.{WellFormed, fits_some}
use Rattle.pc_forms.specs.Form.{form_from}
use Rattle.pc_forms.specs.FormKind.{kind_in}
use Rattle.pc_forms.specs.FormKidsLaws.{kind_in-form_from}
use Rattle.pc_forms.specs.FoldLaws.{form_from-map}
use Rattle.pc_forms.specs.FormMap.{FormOf, each}
use Rattle.pc_forms.specs.declared.form.Form.TheVariants as form
use Rattle.pc_types.specs.Shapes.{Owner}
use Rattle.pc_rules.specs.Attributes.{Attributes, Marked, Done, Mark, Node, plain, nodes, missing}
use Rattle.pc_rules.specs.Decorated.{Seen, seen, rule_of, rule, with_kind, decorate}
use Rattle.pc_rules.specs.HandedOn.{any_hole, all_touches, handed_on}
use Rattle.pc_rules.specs.Meanings.{Local, Outside, find}
use Rattle.pc_rules.specs.Outsides.{outside_of, quiet}
use Rattle.pc_rules.specs.OwnBlock.{own}
use Rattle.pc_rules.specs.Places.{inner, beside}
use Rattle.pc_rules.specs.RoutineList.{routines_of}
use Rattle.pc_needs.proofs.Lists.{each-one}
use Rattle.pc_program_laws.specs.Changed.{with_changed, is_structured, is_simple, unjudged, all_unjudged, as_found, ChangedBlockLaw, QuietTouchesLaw, ChangedLaw}
use Rattle.pc_program_laws.specs.Unsigned.{faded, all_faded, AllOfKind, is_declaring, declarations_of}
use Rattle.pc_program_laws.proofs.AlikeLemmas.{beside-by, seen-alike}
use Rattle.pc_program_laws.proofs.BlockLemmas.{block-parts}
use Rattle.pc_program_laws.proofs.FineLemmas.{is_fine, AllFine, all-fine, own-fine, body-fine, declaring-simple}
use Rattle.pc_program_laws.proofs.KindLemmas.{declaring-law}
use Rattle.pc_program_laws.proofs.SimpleLemmas.{node-calm}
use Rattle.pc_program_laws.proofs.TouchLemmas.{IsOwn, HasOwn, routines-own}

-- ---- simple trees

module _ (out : Outside) (changed : List ℕ → Bool) where
  find-same : (l : Local) (n : List ℕ) → find (with_changed out changed) l n ≡ find out l n
  unfolding find
  find-same l n = refl

  simple-node : (l : Local) (k : Kind) (w : List ℕ) (m n : Marked) → is_simple k ≡ true → all_faded as_found m ≡ all_faded as_found n →
      faded as_found (rule l k w (seen (with_changed out changed) l k w) m) ≡ faded as_found (rule l k w (seen out l k w) n)
  simple-node l k w m n e h =
      sym (node-calm l k w (seen (with_changed out changed) l k w) m e)
      ∙ (λ i. faded as_found (rule l k w (seen-alike as_found (with_changed out changed) out l k w find-same i) (h i)))
      ∙ node-calm l k w (seen out l k w) n e

  simple-trees : (l : Local) (f : Forest) → AllOfKind is_simple f → all_faded as_found (decorate (with_changed out changed) l f) ≡ all_faded as_found (decorate out l f)
  unfolding decorate
  simple-trees l Nil c = refl
  simple-trees l (Cons k w ns ks ts) c =
      let m : Marked = decorate (with_changed out changed) (inner l k ks) ks in
      let n : Marked = decorate out (inner l k ks) ks in
      let below : all_faded as_found m ≡ all_faded as_found n = simple-trees (inner l k ks) ks c.1 in
      let x : Attributes = rule l k w (seen (with_changed out changed) l k w) m in
      let y : Attributes = rule l k w (seen out l k w) n in
      let at : faded as_found x ≡ faded as_found y = simple-node l k w m n c.0 below in
      let behind : beside l k x ≡ beside l k y = beside-by l k x y (ap (λ (z : Attributes). z.defines) at) (ap (λ (z : Attributes). z.opens) at) in
      let rest : all_faded as_found (decorate (with_changed out changed) (beside l k x) ts) ≡ all_faded as_found (decorate out (beside l k y) ts) =
      simple-trees (beside l k x) ts c.2 ∙ ap (λ (z : Local). all_faded as_found (decorate out z ts)) behind in
      λ i. Mark (at i) (below i) (rest i)

-- ---- statements with others in them

-- a node without its judgements
shed : Node → Node
shed n = record { at = unjudged n.at; below = all_unjudged n.below }

nodes-shed : (m : Marked) → nodes (all_unjudged m) ≡ map shed (nodes m)
unfolding shed
nodes-shed Done = refl
nodes-shed (Mark a below rest) = ap (λ (ns : List Node). shed (record { at = a; below = below }) ∷ ns) (nodes-shed rest)

hole-shed : (ns : List Node) → any_hole (map shed ns) ≡ any_hole ns
unfolding shed
hole-shed [] = refl
hole-shed (n ∷ ns) = ap (λ (b : Bool). n.hole || b) (hole-shed ns)

touches-shed : (ns : List Node) → all_touches (map shed ns) ≡ all_touches ns
unfolding shed
touches-shed [] = refl
touches-shed (n ∷ ns) = ap (λ (vs : List (Owner × List ℕ)). n.touches ++ vs) (touches-shed ns)

handed-shed : (ns : List Node) → unjudged (handed_on (map shed ns)) ≡ unjudged (handed_on ns)
handed-shed ns = λ i. record plain { hole = hole-shed ns i; touches = touches-shed ns i }

rule-shed : (l : Local) (s t : Seen) (f : FormOf Node) → is_structured (kind_in f) ≡ true → unjudged (rule_of l s (each shed f)) ≡ unjudged (rule_of l t f)
unfolding shed
rule-shed l s t (form.Compound stmts) e = refl
rule-shed l s t (form.If condition body) e = refl
rule-shed l s t (form.Ifelse condition body otherwise) e = refl
rule-shed l s t (form.Case selector arms) e = refl
rule-shed l s t (form.Arm labels body) e = refl
rule-shed l s t (form.Repeat stmts condition) e = refl
rule-shed l s t (form.While condition body) e = refl
rule-shed l s t (form.For control first downwards last body) e = refl
rule-shed l s t (form.With records body) e = refl
rule-shed l s t (form.Stmts stmts) e = handed-shed stmts
rule-shed l s t (form.Arms arms) e = handed-shed arms
rule-shed l s t _ e = absurd (true≢false (sym e))

node-shed : (l : Local) (k : Kind) (w : List ℕ) (s t : Seen) (m : Marked) → is_structured k ≡ true → unjudged (rule l k w s (all_unjudged m)) ≡ unjudged (rule l k w t m)
unfolding rule shed
node-shed l k w s t m e =
    ap (λ (f : FormOf Node). with_kind k w (unjudged (rule_of l s f))) (ap (λ (ns : List Node). form_from k w ns missing) (nodes-shed m) ∙ form_from-map shed k w (nodes m) missing)
    ∙ ap (with_kind k w) (rule-shed l s t (form_from k w (nodes m) missing) (ap is_structured (kind_in-form_from k w (nodes m) missing) ∙ e))

structured-node : (l : Local) (k : Kind) (w : List ℕ) (s t : Seen) (m n : Marked) → is_structured k ≡ true → all_unjudged m ≡ all_unjudged n →
    unjudged (rule l k w s m) ≡ unjudged (rule l k w t n)
structured-node l k w s t m n e h = sym (node-shed l k w s s m e) ∙ ap (λ (x : Marked). unjudged (rule l k w s x)) h ∙ node-shed l k w s t n e

-- what is the same but for what is changed is the same without judgements
faded-unjudged : (m : Marked) → all_unjudged (all_faded as_found m) ≡ all_unjudged m
faded-unjudged Done = refl
faded-unjudged (Mark a below rest) = λ i. Mark (unjudged a) (faded-unjudged below i) (faded-unjudged rest i)

from-faded : (m n : Marked) → all_faded as_found m ≡ all_faded as_found n → all_unjudged m ≡ all_unjudged n
from-faded m n h = sym (faded-unjudged m) ∙ ap all_unjudged h ∙ faded-unjudged n

-- ---- statements

module _ (out : Outside) (changed : List ℕ → Bool) where
  -- a node and those below it
  SameNode : Local → Kind → List ℕ → Forest → Type 0
  SameNode l k w ks =
      (unjudged (rule l k w (seen (with_changed out changed) l k w) (decorate (with_changed out changed) (inner l k ks) ks)) ≡ unjudged (rule l k w (seen out l k w) (decorate out (inner l k ks) ks)))
      × (all_unjudged (decorate (with_changed out changed) (inner l k ks) ks) ≡ all_unjudged (decorate out (inner l k ks) ks))

  same-node : (l : Local) (k : Kind) (w : List ℕ) (ks : Forest) →
      ((is_structured k ≡ true) × (all_unjudged (decorate (with_changed out changed) (inner l k ks) ks) ≡ all_unjudged (decorate out (inner l k ks) ks))) ⊎ ((is_simple k ≡ true) × AllOfKind is_simple ks) →
      SameNode l k w ks
  unfolding SameNode
  same-node l k w ks (inl h) =
      (structured-node l k w (seen (with_changed out changed) l k w) (seen out l k w) (decorate (with_changed out changed) (inner l k ks) ks) (decorate out (inner l k ks) ks) h.0 h.1, h.1)
  same-node l k w ks (inr h) =
      let m : Marked = decorate (with_changed out changed) (inner l k ks) ks in
      let n : Marked = decorate out (inner l k ks) ks in
      let below : all_faded as_found m ≡ all_faded as_found n = simple-trees out changed (inner l k ks) ks h.1 in
      (ap unjudged (simple-node out changed l k w m n h.0 below), from-faded m n below)

  fine-trees : (l : Local) (f : Forest) → AllFine f → all_unjudged (decorate (with_changed out changed) l f) ≡ all_unjudged (decorate out l f)
  unfolding decorate SameNode
  fine-trees l Nil c = refl
  fine-trees l (Cons k w ns ks ts) c =
      let x : Attributes = rule l k w (seen (with_changed out changed) l k w) (decorate (with_changed out changed) (inner l k ks) ks) in
      let y : Attributes = rule l k w (seen out l k w) (decorate out (inner l k ks) ks) in
      let both : SameNode l k w ks = same-node l k w ks (given (fine-trees (inner l k ks) ks) c.0) in
      let behind : beside l k x ≡ beside l k y = beside-by l k x y (ap (λ (z : Attributes). z.defines) both.0) (ap (λ (z : Attributes). z.opens) both.0) in
      let rest : all_unjudged (decorate (with_changed out changed) (beside l k x) ts) ≡ all_unjudged (decorate out (beside l k y) ts) =
      fine-trees (beside l k x) ts c.1 ∙ ap (λ (z : Local). all_unjudged (decorate out z ts)) behind in
      λ i. Mark (both.0 i) (both.1 i) (rest i) where
        given : {X Y Z P : Type 0} → (X → Y) → (P × X) ⊎ Z → (P × Y) ⊎ Z
        given g (inl h) = inl (h.0, g h.1)
        given g (inr h) = inr h

-- ---- a block

block-fine : (w : List ℕ) (f : Forest) → fits_some (layout kind.Block w (count f)) (kinds f) ≡ true → WellFormed f → AllFine (own f)
unfolding own
block-fine w f e g =
    let b = block-parts w f e in
    let h = subst WellFormed b.is g in
    let a = subst (λ (x : Forest). AllOfKind is_declaring (declarations_of (own x))) b.is (declaring-law w f e g) in
    let passes : (is_fine b.j ≡ true) × Unit {0} = (body-fine b.j b.body, tt) in
    let body : AllFine (own (Cons b.j b.v5 b.n5 b.k5 Nil)) =
    subst AllFine (sym (own-fine (Cons b.j b.v5 b.n5 b.k5 Nil) h.4.4.4.4 passes)) (all-fine (Cons b.j b.v5 b.n5 b.k5 Nil) h.4.4.4.4 passes) in
    subst (λ (x : Forest). AllFine (own x)) (sym b.is) (
      inr (refl, declaring-simple (own b.k1) a.1),
      (inr (refl, declaring-simple (own b.k2) a.2.1), (inr (refl, declaring-simple (own b.k3) a.2.2.1), (inr (refl, declaring-simple (own b.k4) a.2.2.2.1), body))),
    )

block-changed : ChangedBlockLaw
block-changed out changed l w f e g = fine-trees out changed l (own f) (block-fine w f e g)

touches-unjudged : (m : Marked) → all_touches (nodes (all_unjudged m)) ≡ all_touches (nodes m)
touches-unjudged Done = refl
touches-unjudged (Mark a below rest) = ap (λ (vs : List (Owner × List ℕ)). a.touches ++ vs) (touches-unjudged rest)

own-changed : (out : Outside) (changed : List ℕ → Bool) (l : Local) (b : Forest) → IsOwn b → all_unjudged (decorate (with_changed out changed) l b) ≡ all_unjudged (decorate out l b)
unfolding decorate
own-changed out changed l b (inl e) = subst (λ (x : Forest). all_unjudged (decorate (with_changed out changed) l x) ≡ all_unjudged (decorate out l x)) (sym e) refl
own-changed out changed l b (inr x) =
    subst (λ (y : Forest). all_unjudged (decorate (with_changed out changed) l y) ≡ all_unjudged (decorate out l y)) (sym x.4) (block-changed out changed l x.0 x.1 x.2 x.3)

quiet-touches : QuietTouchesLaw
unfolding outside_of
quiet-touches t q rs l proper i =
    let same = own-changed (quiet rs q) (outside_of rs q).touched l q.block (each-one HasOwn (routines_of t) q i (routines-own t proper)) in
    sym (touches-unjudged (decorate (outside_of rs q) l q.block)) ∙ ap (λ (m : Marked). all_touches (nodes m)) same ∙ touches-unjudged (decorate (quiet rs q) l q.block)

pub changed-law : ChangedLaw
changed-law = record { simple = simple-trees; block = block-changed; touches = quiet-touches }
