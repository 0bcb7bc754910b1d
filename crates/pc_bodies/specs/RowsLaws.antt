-- Nodes in a row of a statement part, one after the other.
use Rattle.std.specs.Prelude.{◌≡◌, ℕ, List, [], ◌∷◌, ◌++◌, true, false}
use Rattle.std.proofs.Common.{refl, ap, sym, ◌∙◌, subst, append-nil, append_assoc}
use Rattle.pc_syntax.specs.Classes.{is_name}
use Rattle.pc_syntax.specs.Plain.{Forest, Plain, kids_of}
use Rattle.pc_syntax.specs.PartsLaws.{forest_of-kids_of}
use Rattle.pc_syntax.specs.declared.kind.Kind.{Kind}
use Rattle.pc_syntax.specs.declared.kind.Kind.TheVariants as kind
use Rattle.pc_forms.specs.FormClasses.{Every}
use Rattle.pc_rules.specs.Attributes.{Attributes, Node, nodes}
use Rattle.pc_types.specs.Shapes.{Owner}
use Rattle.pc_rules.specs.HandedOn.{all_touches, any_hole, handed_on}
use Rattle.pc_rules.specs.Decorated.{seen, rule, with_kind, decorate}
use Rattle.pc_rules.specs.ListRuleLaws.{rule-kind, rule-word}
use Rattle.pc_rules.specs.Places.{inner, opens_records}
use Rattle.pc_rules.specs.Meanings.{Local, Outside}
use Rattle.pc_environment.specs.Sight.{is_body}
use Rattle.pc_environment.specs.RowLaws.{sees-after}
use Rattle.pc_environment.specs.Decorating.{attributes_at, below_at, place_behind, place_after, marks_of}
use Rattle.pc_environment.specs.DecoratingLaws.{at-node, decorate-forest_of}
use Rattle.pc_facts.specs.Known.{Known}
use Rattle.pc_facts.specs.Shows.{AllShow}
use Rattle.pc_call_rules.specs.Parameters.{Logs}
use Rattle.pc_growth.specs.Grows.{Grows}
use Rattle.pc_growth.specs.GrowsLaws.{Begins-same, Begins-then, AllShow-with, Logs-none}
use Rattle.pc_bodies.specs.declared.body.Body.{Body}
use Rattle.pc_bodies.specs.declared.body.Going.{Going}
use Rattle.pc_bodies.specs.NodesAt.{node_at, first_place}
use Rattle.pc_bodies.specs.Resolved.{known, ResolvesAs, ResolveAs}
use Rattle.pc_bodies.specs.ListLaws.{name-touches}
use Rattle.pc_bodies.specs.SeesLaws.{known-grows, stands-kept, sees-first, logs-two, logs-kept, LogsAt}

-- one more node behind others
pub nodes-more : (out : Outside) (l : Local) (ts : List Plain) (t : Plain) → nodes (marks_of out l (ts ++ t ∷ [])) ≡ nodes (marks_of out l ts) ++ node_at out (place_after out l ts) t ∷ []
nodes-more out l [] t = refl
nodes-more out l (u ∷ ts) t = ap (λ (ns : List Node). node_at out l u ∷ ns) (nodes-more out (place_behind out l u) ts t)

pub AllShow-more : {X : Type 0} (S : X → Node → Type 0) (fs : List X) (ns : List Node) (f : X) (n : Node) → AllShow S fs ns → S f n → AllShow S (fs ++ f ∷ []) (ns ++ n ∷ [])
AllShow-more S [] [] f n all one = (one, tt)
AllShow-more S (g ∷ fs) (m ∷ ns) f n all one = (all.0, AllShow-more S fs ns f n all.1 one)
AllShow-more S [] (m ∷ ns) f n all one = absurd all
AllShow-more S (g ∷ fs) [] f n all one = absurd all

-- the variables that nodes in a row touch, and those of one more behind them
pub all_touches-more : (ns : List Node) (n : Node) → all_touches (ns ++ n ∷ []) ≡ all_touches ns ++ n.at.touches
all_touches-more [] n = append-nil n.at.touches
all_touches-more (m ∷ ns) n = ap (λ (ws : List (Owner × List ℕ)). m.at.touches ++ ws) (all_touches-more ns n) ∙ sym (append_assoc m.at.touches (all_touches ns) n.at.touches)

-- no nodes
pub row-none : {X : Type 0} (S : Known → X → Node → Type 0) (b : Body) (g : Going) → ResolveAs S b g g [] []
row-none S b g = record {
  shows = λ out l s sees stands. tt;
  touched = λ out l s sees stands. Logs-none (known b g) g.touched.items;
  opened = refl;
  texts = Begins-same g.texts.items;
}

-- one more node behind those so far, by a relation that stays as more is numbered
pub row-more : {X : Type 0} (S : Known → X → Node → Type 0) → ((a c : Known) (x : X) (n : Node) → Grows a c → S a x n → S c x n) → (b : Body) (g0 g1 g2 : Going) (ts : List Plain) (t : Plain) (xs : List X) (x : X) →
    Every (λ u. is_body u.kind ≡ true) ts → ResolveAs S b g0 g1 ts xs → ResolvesAs S b g1 g2 t x → ResolveAs S b g0 g2 (ts ++ t ∷ []) (xs ++ x ∷ [])
row-more S stays b g0 g1 g2 ts t xs x bodies row one = record {
  shows = λ out l s sees stands.
      subst (λ (ns : List Node). AllShow (S (known b g2)) (xs ++ x ∷ []) ns) (sym (nodes-more out l ts t))
      (AllShow-more (S (known b g2)) xs (nodes (marks_of out l ts)) x (node_at out (place_after out l ts) t)
      (AllShow-with (S (known b g1)) (S (known b g2)) (λ y n h. stays (known b g1) (known b g2) y n (known-grows b g1 g2 one.texts) h) xs (nodes (marks_of out l ts)) (row.shows out l s sees stands))
      (one.shows out (place_after out l ts) s (sees-after out l s ts bodies sees) (stands-kept b g0 g1 s row.opened row.texts stands)));
  touched = λ out l s sees stands.
      subst (λ (ws : List (Owner × List ℕ)). Logs (known b g2) g0.touched.items g2.touched.items ws)
      (sym (ap all_touches (nodes-more out l ts t) ∙ all_touches-more (nodes (marks_of out l ts)) (node_at out (place_after out l ts) t)))
      (logs-two b g0 g1 g2 (all_touches (nodes (marks_of out l ts))) (attributes_at out (place_after out l ts) t).touches one.texts (row.touched out l s sees stands)
      (one.touched out (place_after out l ts) s (sees-after out l s ts bodies sees) (stands-kept b g0 g1 s row.opened row.texts stands)));
  opened = one.opened ∙ row.opened;
  texts = Begins-then g0.texts.items g1.texts.items g2.texts.items row.texts one.texts;
}

-- the kids of a node as nodes in a row
pub kids-at : (out : Outside) (l : Local) (t : Plain) → nodes (below_at out l t) ≡ nodes (marks_of out (first_place l t.kind (kids_of t)) (kids_of t))
kids-at out l t =
    ap nodes (ap (λ (ks : Forest). decorate out (inner l t.kind ks) ks) (sym (forest_of-kids_of t)) ∙ decorate-forest_of out (first_place l t.kind (kids_of t)) (kids_of t))

-- the kids of a node whose kind is known
pub kids-of-kind : (out : Outside) (l : Local) (t : Plain) (k : Kind) → t.kind ≡ k → nodes (below_at out l t) ≡ nodes (marks_of out (first_place l k (kids_of t)) (kids_of t))
kids-of-kind out l t k e = kids-at out l t ∙ ap (λ (j : Kind). nodes (marks_of out (first_place l j (kids_of t)) (kids_of t))) e

-- the word of a node
pub at-word : (out : Outside) (l : Local) (t : Plain) → (attributes_at out l t).word ≡ t.word
at-word out l t = ap (λ (a : Attributes). a.word) (at-node out l t) ∙ rule-word l t.kind t.word (seen out l t.kind t.word) (below_at out l t)

-- the kind of a node
pub at-kind : (out : Outside) (l : Local) (t : Plain) → (attributes_at out l t).kind ≡ t.kind
at-kind out l t = ap (λ (a : Attributes). a.kind) (at-node out l t) ∙ rule-kind l t.kind t.word (seen out l t.kind t.word) (below_at out l t)

-- lists have a hole where one of their elements has, and touch what their elements do
exprs-rule : (out : Outside) (l : Local) (t : Plain) → t.kind ≡ kind.Exprs → attributes_at out l t ≡ with_kind kind.Exprs t.word (handed_on (nodes (below_at out l t)))
unfolding rule
exprs-rule out l t e = at-node out l t ∙ (λ i. rule l (e i) t.word (seen out l (e i) t.word) (below_at out l t))

pub exprs-hole : (out : Outside) (l : Local) (t : Plain) → t.kind ≡ kind.Exprs → (attributes_at out l t).hole ≡ any_hole (nodes (below_at out l t))
exprs-hole out l t e = ap (λ (a : Attributes). a.hole) (exprs-rule out l t e)

pub exprs-touches : (out : Outside) (l : Local) (t : Plain) → t.kind ≡ kind.Exprs → (attributes_at out l t).touches ≡ all_touches (nodes (below_at out l t))
exprs-touches out l t e = ap (λ (a : Attributes). a.touches) (exprs-rule out l t e)

args-rule : (out : Outside) (l : Local) (t : Plain) → t.kind ≡ kind.Args → attributes_at out l t ≡ with_kind kind.Args t.word (handed_on (nodes (below_at out l t)))
unfolding rule
args-rule out l t e = at-node out l t ∙ (λ i. rule l (e i) t.word (seen out l (e i) t.word) (below_at out l t))

pub args-hole : (out : Outside) (l : Local) (t : Plain) → t.kind ≡ kind.Args → (attributes_at out l t).hole ≡ any_hole (nodes (below_at out l t))
args-hole out l t e = ap (λ (a : Attributes). a.hole) (args-rule out l t e)

pub args-touches : (out : Outside) (l : Local) (t : Plain) → t.kind ≡ kind.Args → (attributes_at out l t).touches ≡ all_touches (nodes (below_at out l t))
args-touches out l t e = ap (λ (a : Attributes). a.touches) (args-rule out l t e)

members-rule : (out : Outside) (l : Local) (t : Plain) → t.kind ≡ kind.Members → attributes_at out l t ≡ with_kind kind.Members t.word (handed_on (nodes (below_at out l t)))
unfolding rule
members-rule out l t e = at-node out l t ∙ (λ i. rule l (e i) t.word (seen out l (e i) t.word) (below_at out l t))

pub members-hole : (out : Outside) (l : Local) (t : Plain) → t.kind ≡ kind.Members → (attributes_at out l t).hole ≡ any_hole (nodes (below_at out l t))
members-hole out l t e = ap (λ (a : Attributes). a.hole) (members-rule out l t e)

pub members-touches : (out : Outside) (l : Local) (t : Plain) → t.kind ≡ kind.Members → (attributes_at out l t).touches ≡ all_touches (nodes (below_at out l t))
members-touches out l t e = ap (λ (a : Attributes). a.touches) (members-rule out l t e)

-- ---- what lists and names add to the log

list-logs : {X : Type 0} (S : Known → X → Node → Type 0) (b : Body) (g0 g1 : Going) (t : Plain) (xs : List X) (k : Kind) → t.kind ≡ k → is_body k ≡ true → opens_records k ≡ false →
    ((out : Outside) (l : Local) → (attributes_at out l t).touches ≡ all_touches (nodes (below_at out l t))) → ResolveAs S b g0 g1 (kids_of t) xs → LogsAt b g0 g1 t
list-logs S b g0 g1 t xs k is body opens touches row = λ out l s sees stands.
    subst (Logs (known b g1) g0.touched.items g1.touched.items) (sym (touches out l ∙ ap all_touches (kids-of-kind out l t k is)))
    (row.touched out (first_place l k (kids_of t)) s (sees-first out l s k (kids_of t) body opens sees) stands)

pub exprs-logs : {X : Type 0} (S : Known → X → Node → Type 0) (b : Body) (g0 g1 : Going) (t : Plain) (xs : List X) → t.kind ≡ kind.Exprs → ResolveAs S b g0 g1 (kids_of t) xs → LogsAt b g0 g1 t
exprs-logs S b g0 g1 t xs is row = list-logs S b g0 g1 t xs kind.Exprs is refl refl (λ out l. exprs-touches out l t is) row

pub args-logs : {X : Type 0} (S : Known → X → Node → Type 0) (b : Body) (g0 g1 : Going) (t : Plain) (xs : List X) → t.kind ≡ kind.Args → ResolveAs S b g0 g1 (kids_of t) xs → LogsAt b g0 g1 t
args-logs S b g0 g1 t xs is row = list-logs S b g0 g1 t xs kind.Args is refl refl (λ out l. args-touches out l t is) row

pub members-logs : {X : Type 0} (S : Known → X → Node → Type 0) (b : Body) (g0 g1 : Going) (t : Plain) (xs : List X) → t.kind ≡ kind.Members → ResolveAs S b g0 g1 (kids_of t) xs → LogsAt b g0 g1 t
members-logs S b g0 g1 t xs is row = list-logs S b g0 g1 t xs kind.Members is refl refl (λ out l. members-touches out l t is) row

-- where a name or a hole in its place stands, the log stays
pub name-logs : (b : Body) (g0 g1 : Going) (t : Plain) → is_name t.kind ≡ true → g1.touched.items ≡ g0.touched.items → LogsAt b g0 g1 t
name-logs b g0 g1 t is same = λ out l s sees stands.
    subst (Logs (known b g1) g0.touched.items g1.touched.items) (sym (name-touches out l t is)) (logs-kept b g0 g1 same)
