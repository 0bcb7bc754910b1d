-- Lists of names and of fields, part by part.
use Rattle.std.proofs.Common.{◌≡◌, ℕ, zero, suc, ◌+◌, ◌-◌, ◌<◌, ◌≤◌, List, [], ◌∷◌, ◌++◌, length, get_or, drop, refl, sym, ap, ◌∙◌, append_assoc, append-nil, length-drop, arith}
use Rattle.std.proofs.lemmas.List.{drop_more, drop_all}
use Rattle.pc_decl.specs.TypeText.{listed, name_with}
use Rattle.pc_decl.specs.Pieces.{comma}

pub name_with-read : (i : ℕ) (names : List (List ℕ)) (d : List ℕ) → i < length names → name_with i names ≡ get_or names i d
name_with-read i [] d below = absurd (omega (arith, below))
name_with-read zero (n ∷ ns) d below = refl
name_with-read (suc i) (n ∷ ns) d below = name_with-read i ns d (omega (arith, below))

pub name_with-past : (i : ℕ) (names : List (List ℕ)) → length names ≤ i → name_with i names ≡ []
name_with-past i [] past = refl
name_with-past zero (n ∷ ns) past = absurd (omega (arith, past))
name_with-past (suc i) (n ∷ ns) past = name_with-past i ns (omega (arith, past))

pub none-past : (text : List ℕ) (i : ℕ) (names : List (List ℕ)) → length names ≤ i → text ≡ text ++ name_with i names
none-past text i names past = sym (ap (λ (n : List ℕ). text ++ n) (name_with-past i names past) ∙ append-nil text)

pub ruleset numbered = (name_with-read)

-- a list of names begins with a name and what stands behind it
listed-cons : (name : List ℕ) (names : List (List ℕ)) → listed (name ∷ names) ≡ (name ++ comma (length names)) ++ listed names
listed-cons name [] = sym (append-nil (name ++ []) ∙ append-nil name)
listed-cons name (n ∷ ns) = refl

-- with one more name there, the names behind it are left
pub listed-more : (text text' whole : List ℕ) (i left left' : ℕ) (names : List (List ℕ)) (name : List ℕ) →
    i < length names → name ≡ get_or names i name → left + i ≡ length names → left' ≡ left - 1 →
    text ++ listed (drop i names) ≡ whole → text' ≡ text ++ (name ++ comma left') → text' ++ listed (drop (i + 1) names) ≡ whole
listed-more text text' whole i left left' names name below is count less before new =
    let rest : List (List ℕ) = drop (i + 1) names in
    let number : left' ≡ length rest = omega (arith, count, less, below, length-drop (i + 1) names) in
    let first : drop i names ≡ name ∷ rest = drop_more names i name below ∙ ap (λ (n : List ℕ). n ∷ rest) (sym is) in
    ap (λ (bs : List ℕ). bs ++ listed rest) (new ∙ ap (λ (n : ℕ). text ++ (name ++ comma n)) number)
    ∙ append_assoc text (name ++ comma (length rest)) (listed rest)
    ∙ ap (λ (bs : List ℕ). text ++ bs) (sym (ap listed first ∙ listed-cons name rest)) ∙ before

-- with no name left all is there
pub listed-end : (text whole : List ℕ) (i : ℕ) (names : List (List ℕ)) → length names ≤ i → text ++ listed (drop i names) ≡ whole → text ≡ whole
listed-end text whole i names past before = sym (ap (λ (ns : List (List ℕ)). text ++ listed ns) (drop_all i names past) ∙ append-nil text) ∙ before
