-- A text for each part of a list, part by part.
use Rattle.std.proofs.Common.{◌≡◌, ℕ, ◌+◌, ◌<◌, ◌≤◌, List, [], ◌∷◌, ◌++◌, length, get_or, take, drop, refl, sym, ap, ◌∙◌, append_assoc, append-nil, subst}
use Rattle.std.proofs.lemmas.List.{take_more, take_all, take-append-drop}
use Rattle.std.specs.List.{flat_map}
use Rattle.pc_views.specs.Limit.{text_limit, Agrees}
use Rattle.pc_decl.specs.AgreesLaws.{agrees-stopped}

flat_map-append : {X : Type 0} (f : X → List ℕ) (xs ys : List X) → flat_map f (xs ++ ys) ≡ flat_map f xs ++ flat_map f ys
flat_map-append f [] ys = refl
flat_map-append f (x ∷ xs) ys = ap (λ (bs : List ℕ). f x ++ bs) (flat_map-append f xs ys) ∙ sym (append_assoc (f x) (flat_map f xs) (flat_map f ys))

-- with the text of one more part
pub row-more : {X : Type 0} (f : X → List ℕ) (old text text' : List ℕ) (i : ℕ) (xs : List X) (x : X) →
    i < length xs → x ≡ get_or xs i x → text ≡ old ++ flat_map f (take i xs) → text' ≡ text ++ f x → text' ≡ old ++ flat_map f (take (i + 1) xs)
row-more {X} f old text text' i xs x below is before new =
    let last : take (i + 1) xs ≡ take i xs ++ x ∷ [] = take_more xs i x below ∙ ap (λ (y : X). take i xs ++ y ∷ []) (sym is) in
    new ∙ ap (λ (bs : List ℕ). bs ++ f x) before ∙ append_assoc old (flat_map f (take i xs)) (f x)
    ∙ ap (λ (bs : List ℕ). old ++ bs) (
    ap (λ (bs : List ℕ). flat_map f (take i xs) ++ bs) (sym (append-nil (f x)))
    ∙ sym (flat_map-append f (take i xs) (x ∷ [])) ∙ ap (flat_map f) (sym last))

-- with no part left all is there
pub row-end : {X : Type 0} (f : X → List ℕ) (old text : List ℕ) (i : ℕ) (xs : List X) → length xs ≤ i → text ≡ old ++ flat_map f (take i xs) → text ≡ old ++ flat_map f xs
row-end {X} f old text i xs past before = before ∙ ap (λ (ys : List X). old ++ flat_map f ys) (take_all i xs past)

-- over the limit the parts that are left needn't be there
pub row-stopped : {X : Type 0} (f : X → List ℕ) (old text : List ℕ) (i : ℕ) (xs : List X) →
    text_limit < length text → text ≡ old ++ flat_map f (take i xs) → Agrees text (old ++ flat_map f xs)
row-stopped {X} f old text i xs over before =
    let split : text ++ flat_map f (drop i xs) ≡ old ++ flat_map f xs =
    ap (λ (bs : List ℕ). bs ++ flat_map f (drop i xs)) before ∙ append_assoc old (flat_map f (take i xs)) (flat_map f (drop i xs))
    ∙ ap (λ (bs : List ℕ). old ++ bs) (sym (flat_map-append f (take i xs) (drop i xs)) ∙ ap (flat_map f) (take-append-drop i xs)) in
    subst (λ (bs : List ℕ). Agrees text bs) split (agrees-stopped text (flat_map f (drop i xs)) over)
