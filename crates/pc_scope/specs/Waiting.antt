-- Which heading counts for a routine: its own, or that of the forward routine whose later declaration it is (ISO 7185, 6.6.1).
use Rattle.std.specs.Prelude.{ℕ, suc, ◌-◌, if◌then◌else◌, List, [], ◌∷◌, Option, Some, None, take, ◌++◌}
use Rattle.std.specs.Option.{option_or, option_map_or}
use Rattle.pc_syntax.specs.Plain.{Forest, Cons}
use Rattle.pc_scope.specs.Blocks.{tree_at}
use Rattle.pc_scope.specs.Declarations.{Declared, declared_at}
use Rattle.pc_scope.specs.Headings.{Heading, headings_in, pairs}
use Rattle.pc_syntax.specs.declared.kind.Kind.TheVariants as kind

-- The forward routine that waits for the heading `h`, by its number, behind the routine with number `n` and heading `g`: of forward routines
-- in a row the first waits, and a routine with a block ends the waiting of all.
abbrev pub waits : Heading → Heading → ℕ → Option ℕ → Option ℕ
waits h g n before = if pairs h g then (if g.is_forward then option_or before (Some n) else None) else before

-- the forward routine that waits for a heading behind these routines, of which the first has the number `n`
abbrev pub waiting_for : Heading → ℕ → Option ℕ → List Heading → Option ℕ
waiting_for h n before [] = before
waiting_for h n before (g ∷ gs) = waiting_for h (suc n) (waits h g n before) gs

-- the number of the routine whose heading counts for the n-th of these routines, which has the heading `h`
abbrev pub counting : Forest → ℕ → Heading → ℕ
counting routines n h = if h.is_forward then n else option_map_or (λ c. c) (waiting_for h 1 None (take (n - 1) (headings_in routines))) n

-- the parameters that a routine at a place declares by its own heading
abbrev pub parameters_of : List ℕ → Forest → List Declared
parameters_of q (Cons k w ns ks (Cons kind.Params v ms js ts)) = declared_at (q ++ 2 ∷ []) 1 js
parameters_of q ks = []

-- the parameters of the n-th of some routines, whose list has this place
abbrev pub parameters_at : List ℕ → ℕ → Forest → List Declared
parameters_at p n routines = option_map_or (λ r. parameters_of (p ++ n ∷ []) r.kids) (tree_at n routines) []
