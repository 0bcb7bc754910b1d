-- What is found at a node whose form is known, and at its kids where they stand.
use Rattle.std.specs.Prelude.{◌≡◌, ℕ, List, [], ◌∷◌, ◌++◌}
use Rattle.std.proofs.Common.{refl, ap, sym, ◌∙◌, subst}
use Rattle.pc_syntax.specs.Plain.{Forest, Plain, forest_of, kids_of}
use Rattle.pc_syntax.specs.PartsLaws.{forest_of-kids_of}
use Rattle.pc_syntax.specs.WellFormed.{IsProper}
use Rattle.pc_syntax.specs.declared.kind.Kind.{Kind}
use Rattle.pc_forms.specs.Form.{PlainForm, form_from, form_of}
use Rattle.pc_forms.specs.FormClasses.{HasKids}
use Rattle.pc_forms.specs.FormKids.{kids_in}
use Rattle.pc_forms.specs.FormKind.{kind_in}
use Rattle.pc_forms.specs.FormLaws.{kind_in-form_of, kids_in-form_of, classes-form_of}
use Rattle.pc_rules.specs.Attributes.{Attributes, Node, nodes, missing}
use Rattle.pc_rules.specs.Decorated.{seen, rule, rule_of, with_kind, decorate}
use Rattle.pc_rules.specs.ListRuleLaws.{rule-kind, rule-word}
use Rattle.pc_rules.specs.Meanings.{Local, Outside}
use Rattle.pc_rules.specs.Places.{inner}
use Rattle.pc_environment.specs.Decorating.{attributes_at, below_at, place_behind, place_after, marks_of}
use Rattle.pc_environment.specs.DecoratingLaws.{at-node, at-kids, decorate-forest_of}
use Rattle.pc_facts.specs.Shows.{AllShow}
use Rattle.pc_places.specs.Places.{node_at}

-- where the first kid of a node with these kids stands
abbrev pub first_place : Local → Kind → List Plain → Local
first_place l k ks = inner l k (forest_of ks)

-- what is found at a node of a kind with this word and these kids
abbrev pub found_at : Outside → Local → Kind → List ℕ → List Plain → Attributes
found_at out l k w ks = with_kind k w (rule_of l (seen out l k w) (form_from k w (nodes (marks_of out (first_place l k ks) ks)) missing))

rule-is : (l : Local) (k : Kind) (w : List ℕ) (out : Outside) (ks : List Plain) → rule l k w (seen out l k w) (marks_of out (first_place l k ks) ks) ≡ found_at out l k w ks
unfolding rule
rule-is l k w out ks = refl

-- a node whose form is known
pub at-form : (out : Outside) (l : Local) (t : Plain) (f : PlainForm) → IsProper t → f ≡ form_of t → attributes_at out l t ≡ found_at out l (kind_in f) t.word (kids_in f)
at-form out l t f proper e =
    at-kids out l t (kind_in f) (kids_in f) (sym (kind_in-form_of t) ∙ ap kind_in (sym e)) (sym (kids_in-form_of t proper) ∙ ap kids_in (sym e))
    ∙ rule-is l (kind_in f) t.word out (kids_in f)

pub kind-form : (t : Plain) (f : PlainForm) → f ≡ form_of t → t.kind ≡ kind_in f
kind-form t f e = sym (kind_in-form_of t) ∙ ap kind_in (sym e)

-- the classes of the kids of a node whose form is known
pub classes-at : (t : Plain) (f : PlainForm) → IsProper t → f ≡ form_of t → HasKids (kind_in f) (kids_in f)
classes-at t f proper e = subst (λ (g : PlainForm). HasKids (kind_in g) (kids_in g)) (sym e) (classes-form_of t proper)

-- the kids of a node whose kind is known
pub kids-of-kind : (out : Outside) (l : Local) (t : Plain) (k : Kind) → t.kind ≡ k → nodes (below_at out l t) ≡ nodes (marks_of out (first_place l k (kids_of t)) (kids_of t))
kids-of-kind out l t k e =
    ap nodes (ap (λ (ks : Forest). decorate out (inner l t.kind ks) ks) (sym (forest_of-kids_of t)) ∙ decorate-forest_of out (first_place l t.kind (kids_of t)) (kids_of t))
    ∙ ap (λ (j : Kind). nodes (marks_of out (first_place l j (kids_of t)) (kids_of t))) e

-- a node whose kind is known
pub at-kind-of : (out : Outside) (l : Local) (t : Plain) (k : Kind) → t.kind ≡ k → attributes_at out l t ≡ found_at out l k t.word (kids_of t)
at-kind-of out l t k e = at-kids out l t k (kids_of t) e refl ∙ rule-is l k t.word out (kids_of t)

-- the word of a node, and its kind
pub word-at : (out : Outside) (l : Local) (t : Plain) → (attributes_at out l t).word ≡ t.word
word-at out l t = ap (λ (a : Attributes). a.word) (at-node out l t) ∙ rule-word l t.kind t.word (seen out l t.kind t.word) (below_at out l t)

pub kind-at : (out : Outside) (l : Local) (t : Plain) → (attributes_at out l t).kind ≡ t.kind
kind-at out l t = ap (λ (a : Attributes). a.kind) (at-node out l t) ∙ rule-kind l t.kind t.word (seen out l t.kind t.word) (below_at out l t)

-- one more node behind others
pub nodes-one-more : (out : Outside) (l : Local) (ts : List Plain) (t : Plain) → nodes (marks_of out l (ts ++ t ∷ [])) ≡ nodes (marks_of out l ts) ++ node_at out (place_after out l ts) t ∷ []
nodes-one-more out l [] t = refl
nodes-one-more out l (u ∷ ts) t = ap (λ (ns : List Node). node_at out l u ∷ ns) (nodes-one-more out (place_behind out l u) ts t)

-- the place behind it
pub place-one-more : (out : Outside) (l : Local) (ts : List Plain) (t : Plain) → place_after out l (ts ++ t ∷ []) ≡ place_behind out (place_after out l ts) t
place-one-more out l [] t = refl
place-one-more out l (u ∷ ts) t = place-one-more out (place_behind out l u) ts t

pub AllShow-one-more : {X : Type 0} (S : X → Node → Type 0) (fs : List X) (ns : List Node) (f : X) (n : Node) → AllShow S fs ns → S f n → AllShow S (fs ++ f ∷ []) (ns ++ n ∷ [])
AllShow-one-more S [] [] f n all one = (one, tt)
AllShow-one-more S (g ∷ fs) (m ∷ ns) f n all one = (all.0, AllShow-one-more S fs ns f n all.1 one)
AllShow-one-more S [] (m ∷ ns) f n all one = absurd all
AllShow-one-more S (g ∷ fs) [] f n all one = absurd all
