-- A value with a width, and the ends of a span, have no type of their own: lemmas.
use Rattle.std.specs.Prelude.{◌≡◌, ℕ, Bool, true, false, not, ◌||◌, if◌then◌else◌, List, [], ◌∷◌, Option, Some, None, get_or}
use Rattle.std.proofs.Common.{refl, ap, sym, ◌∙◌, subst}
use Rattle.pc_syntax.specs.Classes.{is_expression, is_operand}
use Rattle.pc_syntax.specs.Plain.{Plain}
use Rattle.pc_syntax.specs.declared.kind.Kind.{Kind}
use Rattle.pc_syntax.specs.declared.kind.Kind.TheVariants as kind
use Rattle.pc_types.specs.Shapes.{Typed}
use Rattle.pc_types.specs.Table.{Table}
use Rattle.pc_rules.specs.Attributes.{Attributes, Marked, Node, nodes, missing, is_empty}
use Rattle.pc_rules.specs.Decorated.{seen, rule, with_kind}
use Rattle.pc_rules.specs.HandedOn.{handed_on, any_hole, kid_entries}
use Rattle.pc_rules.specs.Meanings.{Local, Outside}
use Rattle.pc_environment.specs.Decorating.{attributes_at, below_at}
use Rattle.pc_environment.specs.DecoratingLaws.{at-node}
use Rattle.pc_facts.specs.Shows.{ShowsType}
use Rattle.pc_decl.specs.Roles.{Role, AsValue, AsVariable, AsTarget, judged_as}

either-none : (b : Bool) → (let none : Option Typed = None in (if b then none else none)) ≡ None
either-none true = refl
either-none false = refl

handed-untyped : (k : Kind) (w : List ℕ) (ks : List Node) (r : Role) → (judged_as r (with_kind k w (handed_on ks))).type ≡ None
handed-untyped k w ks AsValue = either-none (any_hole ks || not (is_empty (kid_entries 1 ks)))
handed-untyped k w ks AsVariable = refl
handed-untyped k w ks AsTarget = refl

-- the two kids of such a node
abbrev both : Marked → List Node
both m = get_or (nodes m) 0 missing ∷ get_or (nodes m) 1 missing ∷ []

untyped : (out : Outside) (l : Local) (t : Plain) (k : Kind) (r : Role) → t.kind ≡ k → is_operand k ≡ true → is_expression k ≡ false → (judged_as r (attributes_at out l t)).type ≡ None
unfolding rule
untyped out l t kind.Width r e is isnt =
    ap (λ (a : Attributes). (judged_as r a).type) (at-node out l t ∙ (λ i. rule l (e i) t.word (seen out l (e i) t.word) (below_at out l t))) ∙ handed-untyped kind.Width t.word (both (below_at out l t)) r
untyped out l t kind.Span r e is isnt =
    ap (λ (a : Attributes). (judged_as r a).type) (at-node out l t ∙ (λ i. rule l (e i) t.word (seen out l (e i) t.word) (below_at out l t))) ∙ handed-untyped kind.Span t.word (both (below_at out l t)) r
untyped out l t (kind.Hole s) r e is isnt = let clash = sym is ∙ isnt in cc
untyped out l t k r e is isnt = cc

-- no type is shown of such a node, in whichever role
pub shows-untyped : (table : Table) (out : Outside) (l : Local) (t : Plain) (r : Role) → is_operand t.kind ≡ true → is_expression t.kind ≡ false → ShowsType table None (judged_as r (attributes_at out l t)).type
shows-untyped table out l t r is isnt =
    subst (λ (ty : Option Typed). ShowsType table None ty) (sym (untyped out l t t.kind r refl is isnt)) (record { shape = refl; there = λ x e. cc })

-- what stands where an expression may
pub is-whole : (b : Bool) (t x : Plain) → Some x ≡ (if b then Some t else None) → x ≡ t
is-whole true t x e = cc
is-whole false t x e = cc

-- what does where none may
pub not-whole : (b : Bool) (t : Plain) → None ≡ (if b then Some t else None) → b ≡ false
not-whole true t e = cc
not-whole false t e = refl
