-- A text for each part of a list, part by part, up to the limit.
use Rattle.std.proofs.Common.{◌≡◌, ℕ, ◌+◌, ◌<◌, ◌≤◌, List, ◌∷◌, ◌++◌, length, get_or, drop, refl, sym, ap, ◌∙◌, append-nil, inl, subst}
use Rattle.std.proofs.lemmas.List.{drop_more, drop_all}
use Rattle.std.specs.List.{flat_map}
use Rattle.pc_views.specs.Limit.{text_limit, Agrees}
use Rattle.pc_decl.specs.AgreesLaws.{agrees-stopped, agrees-then, agrees-trans}

-- the whole by another name
pub agrees-is : (text whole whole' : List ℕ) → whole ≡ whole' → Agrees text whole → Agrees text whole'
agrees-is text whole whole' e a = subst (λ (bs : List ℕ). Agrees text bs) e a

-- a piece behind which others were left is put before them
agrees-step : (text text' piece rest whole : List ℕ) → Agrees text' (text ++ piece) → Agrees (text ++ (piece ++ rest)) whole → Agrees (text' ++ rest) whole
agrees-step text text' piece rest whole new before =
    agrees-trans (text' ++ rest) (text ++ (piece ++ rest)) whole (agrees-then text text' (text' ++ rest) piece rest new (inl refl)) before

-- with the text of one more part, those of the parts behind it are left
pub rows-more : {X : Type 0} (f : X → List ℕ) (text text' whole : List ℕ) (i : ℕ) (xs : List X) (x : X) → i < length xs → x ≡ get_or xs i x →
    Agrees (text ++ flat_map f (drop i xs)) whole → Agrees text' (text ++ f x) → Agrees (text' ++ flat_map f (drop (i + 1) xs)) whole
rows-more {X} f text text' whole i xs x below is before new =
    let first : drop i xs ≡ x ∷ drop (i + 1) xs = drop_more xs i x below ∙ ap (λ (y : X). y ∷ drop (i + 1) xs) (sym is) in
    agrees-step text text' (f x) (flat_map f (drop (i + 1) xs)) whole new
    (subst (λ (ys : List X). Agrees (text ++ flat_map f ys) whole) first before)

-- with no part left all is there
pub rows-end : {X : Type 0} (f : X → List ℕ) (text whole : List ℕ) (i : ℕ) (xs : List X) → length xs ≤ i → Agrees (text ++ flat_map f (drop i xs)) whole → Agrees text whole
rows-end {X} f text whole i xs past before =
    subst (λ (bs : List ℕ). Agrees bs whole) (ap (λ (ys : List X). text ++ flat_map f ys) (drop_all i xs past) ∙ append-nil text) before

-- over the limit the parts that are left needn't be there
pub rows-stopped : {X : Type 0} (f : X → List ℕ) (text whole : List ℕ) (i : ℕ) (xs : List X) → text_limit < length text → Agrees (text ++ flat_map f (drop i xs)) whole → Agrees text whole
rows-stopped f text whole i xs over before = agrees-trans text (text ++ flat_map f (drop i xs)) whole (agrees-stopped text (flat_map f (drop i xs)) over) before
