-- Steps of loops over kids.
use Rattle.std.proofs.Common.{◌≡◌, ◌+◌, ◌≤◌, ℕ, Bool, ◌||◌, List, [], ◌∷◌, ◌++◌, length, ap, sym, ◌∙◌, arith, length-append, take}
use Rattle.std.proofs.lemmas.List.{take_all}
use Rattle.pc_syntax.specs.Plain.{Plain}
use Rattle.pc_syntax.specs.Sorts.{is_hole}
use Rattle.pc_rules.specs.HandedOn.{any_hole}
use Rattle.pc_headings.specs.NameListLaws.{named_nodes-more}
use Rattle.pc_headings.specs.Listing.{named_node, named_nodes}
use Rattle.pc_headings.specs.RowLaws.{any_hole-more}

-- the number of the next kid
pub count-next : (ts : List Plain) (old new : ℕ) → old ≡ length ts → new ≡ old + 1 → new ≡ 1 + length ts
count-next ts old new e f = omega (arith, e, f)

-- how many kids there were
pub count-more : (ts : List Plain) (t : Plain) (old new : ℕ) → old ≡ length ts → new ≡ old + 1 → new ≡ length (ts ++ t ∷ [])
count-more ts t old new e f = let n : length (ts ++ t ∷ []) ≡ length ts + 1 = length-append ts (t ∷ []) in omega (arith, e, f, n)

-- whether a hole stands among one name more
pub hole-more : (ts : List Plain) (t : Plain) (old new : Bool) → old ≡ any_hole (named_nodes ts) → new ≡ (old || is_hole t.kind) → new ≡ any_hole (named_nodes (ts ++ t ∷ []))
hole-more ts t old new e f =
    f ∙ ap (λ (b : Bool). b || is_hole t.kind) e ∙ sym (any_hole-more (named_nodes ts) (named_node t)) ∙ ap any_hole (sym (named_nodes-more ts t))

-- behind the last kid
pub taken-all : (ts : List Plain) (i : ℕ) → length ts ≤ i → take i ts ≡ ts
taken-all ts i h = take_all i ts h
