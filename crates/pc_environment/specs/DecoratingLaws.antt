-- What is found at a node, from its kind and what is found at its kids.
use Rattle.std.proofs.Common.{◌≡◌, ℕ, List, [], ◌∷◌, refl, ap, sym, subst, ◌∙◌}
use Rattle.pc_syntax.specs.Plain.{Forest, Nil, Cons, Plain, forest_of, kids_of}
use Rattle.pc_syntax.specs.PartsLaws.{forest_of-kids_of}
use Rattle.pc_syntax.specs.declared.kind.Kind.{Kind}
use Rattle.pc_rules.specs.Meanings.{Local, Outside}
use Rattle.pc_rules.specs.Attributes.{Attributes, Marked, Mark}
use Rattle.pc_rules.specs.Places.{inner, beside}
use Rattle.pc_rules.specs.Decorated.{seen, rule, decorate}
use Rattle.pc_environment.specs.Decorating.{attributes_at, below_at, place_behind, marks_of}

-- trees in a row are found one after the other
pub decorate-forest_of : (out : Outside) (l : Local) (ts : List Plain) → decorate out l (forest_of ts) ≡ marks_of out l ts
unfolding decorate
decorate-forest_of out l [] = refl
decorate-forest_of out l (t ∷ ts) = ap (Mark (attributes_at out l t) (below_at out l t)) (decorate-forest_of out (place_behind out l t) ts)

-- a node has what the rule of its kind gives
pub at-node : (out : Outside) (l : Local) (t : Plain) → attributes_at out l t ≡ rule l t.kind t.word (seen out l t.kind t.word) (below_at out l t)
unfolding decorate
at-node out l t = refl

-- a node whose kind and kids are known
pub at-kids : (out : Outside) (l : Local) (t : Plain) (k : Kind) (ks : List Plain) → t.kind ≡ k → kids_of t ≡ ks →
    attributes_at out l t ≡ rule l k t.word (seen out l k t.word) (marks_of out (inner l k (forest_of ks)) ks)
at-kids out l t k ks e f =
    let kids : t.kids ≡ forest_of ks = sym (forest_of-kids_of t) ∙ ap forest_of f in
    at-node out l t
    ∙ (λ i. rule l (e i) t.word (seen out l (e i) t.word) (decorate out (inner l (e i) (kids i)) (kids i)))
    ∙ ap (rule l k t.word (seen out l k t.word)) (decorate-forest_of out (inner l k (forest_of ks)) ks)
