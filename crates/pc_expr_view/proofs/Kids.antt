-- The kids of a node, as they are read.
use Rattle.std.proofs.Common.{◌≡◌, ℕ, ◌+◌, ◌<◌, ◌≤◌, Bool, true, false, List, [], ◌∷◌, length, get_or, suc, refl, sym, ap, ◌∙◌, arith}
use Rattle.std.specs.Prelude.{if◌then◌else◌}
use Rattle.pc_syntax.specs.declared.kind.Kind.{Kind}
use Rattle.pc_syntax.specs.declared.kind.Kind.TheVariants as kind
use Rattle.pc_syntax.specs.Plain.{Plain, forest_of, kids_of}
use Rattle.pc_syntax.specs.PartsLaws.{forest_of-kids_of}
use Rattle.pc_decl.specs.Nodes.{is_expression}
use Rattle.pc_decl.specs.ExprText.{is_nil}
use Rattle.pc_expr_view.specs.ToldText.{level_below}

pub ruleset read = (forest_of-kids_of)

-- whether the first of some nodes is `nil`, in parentheses too
abbrev first_is_nil : List Plain → Bool
first_is_nil [] = false
first_is_nil (first ∷ more) = is_nil first.kind first.kids

nil-list : (kids : List Plain) → is_nil kind.Parens (forest_of kids) ≡ first_is_nil kids
nil-list [] = refl
nil-list (first ∷ more) = refl

nil-parens : (node : Plain) (kids : List Plain) → node.kind ≡ kind.Parens → kids ≡ kids_of node → is_nil node.kind node.kids ≡ first_is_nil kids
nil-parens node kids e f =
    ap (λ (k : Kind). is_nil k node.kids) e ∙ ap (is_nil kind.Parens) (sym (ap forest_of f ∙ forest_of-kids_of node)) ∙ nil-list kids

none-nil : (kids : List Plain) → length kids < 1 → false ≡ first_is_nil kids
none-nil [] h = refl
none-nil (first ∷ more) h = absurd (omega (arith, h))

first-nil : (kids : List Plain) (first : Plain) → 1 ≤ length kids → first ≡ get_or kids 0 first → is_nil first.kind first.kids ≡ first_is_nil kids
first-nil [] first h is = absurd (omega (arith, h))
first-nil (t ∷ ts) first h is = ap (λ (u : Plain). is_nil u.kind u.kids) is

-- nothing in parentheses isn't `nil`
pub nil-none : (node : Plain) (kids : List Plain) → node.kind ≡ kind.Parens → kids ≡ kids_of node → length kids < 1 → false ≡ is_nil node.kind node.kids
nil-none node kids e f h = none-nil kids h ∙ sym (nil-parens node kids e f)

-- parentheses are `nil` as what is in them
pub nil-first : (node : Plain) (kids : List Plain) (first : Plain) (answer : Bool) → node.kind ≡ kind.Parens → kids ≡ kids_of node → 1 ≤ length kids → first ≡ get_or kids 0 first →
    answer ≡ is_nil first.kind first.kids → answer ≡ is_nil node.kind node.kids
nil-first node kids first answer e f h is own = own ∙ first-nil kids first h is ∙ sym (nil-parens node kids e f)

-- what is below is at most one level deeper
pub level_below-le : (k : Kind) (level : ℕ) → level_below k level ≤ level + 1
level_below-le k level = elim (is_expression k) as (λ (b : Bool). (if b then suc level else level) ≤ level + 1) [ true ↦ omega arith | false ↦ omega arith ]
