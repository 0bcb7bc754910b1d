-- The deepest node whose span holds another span.
use Rattle.std.specs.Prelude.{◌≡◌, ◌⊎◌, ◌<◌, ◌≤◌, ℕ, List, [], ◌∷◌, ◌++◌, length, nat_lt, if◌then◌else◌, Option, Some, None, IsSomeAnd}
use Rattle.pc_syntax.specs.Plain.{Plain}
use Rattle.pc_lex.specs.declared.symbol.Span.{Span}
use Rattle.pc_pretty.specs.Spans.{span_at}

-- the first span holds the second one
abbrev pub Holds : Span → Span → Type 0
Holds outer inner = (outer.from ≤ inner.from) × (inner.to ≤ outer.to)

-- the node at a path has a span, and it holds this one
abbrev pub HoldsAt : Plain → Span → List ℕ → Type 0
HoldsAt t span path = IsSomeAnd (span_at path t) (λ outer. Holds outer span)

-- of two paths the first has the smaller number at the first step at which they differ: its node stands before the other
abbrev pub Precedes : List ℕ → List ℕ → Type 0
Precedes [] js = ⊥
Precedes (i ∷ is) [] = ⊥
Precedes (i ∷ is) (j ∷ js) = (i < j) ⊎ ((i ≡ j) × Precedes is js)

-- the path is that of the deepest node whose span holds this one, and of the first where several are equally deep
pub record IsInnermost (t : Plain) (span : Span) (path : List ℕ) : Type 0 where
  pub holds : HoldsAt t span path
  pub deepest : (other : List ℕ) → HoldsAt t span other → length other ≤ length path
  pub first : (other : List ℕ) → HoldsAt t span other → length other ≡ length path → ¬ Precedes other path

-- what is found: that path, or none exactly where no node's span holds this one
abbrev pub FindsInnermost : Plain → Span → Option (List ℕ) → Type 0
FindsInnermost t span None = (path : List ℕ) → ¬ HoldsAt t span path
FindsInnermost t span (Some path) = IsInnermost t span path

-- the same among the paths with a property
pub record IsInnermostOf (t : Plain) (span : Span) (P : List ℕ → Type 0) (path : List ℕ) : Type 0 where
  pub member : P path
  pub holds : HoldsAt t span path
  pub deepest : (other : List ℕ) → P other → HoldsAt t span other → length other ≤ length path
  pub first : (other : List ℕ) → P other → HoldsAt t span other → length other ≡ length path → ¬ Precedes other path

-- the second path leads to the node with the first one, or below it
abbrev pub IsBelow : List ℕ → List ℕ → Type 0
IsBelow path other = (rest : List ℕ) × (other ≡ path ++ rest)

-- the longer one of two paths, the first where they are equally long
abbrev pub longer : Option (List ℕ) → List ℕ → List ℕ
longer None path = path
longer (Some best) path = if nat_lt (length best) (length path) then path else best
