-- The lines of a tree, kid by kid, up to the limit.
use Rattle.std.proofs.Common.{◌≡◌, ℕ, ◌+◌, ◌<◌, ◌≤◌, List, [], ◌∷◌, ◌++◌, length, get_or, take, drop, inl, inr, refl, ap, sym, ◌∙◌, append_assoc, append-nil, length-append, arith}
use Rattle.std.proofs.lemmas.List.{drop_all, drop_more}
use Rattle.std.proofs.Math.Seq.{take-append_seam}
use Rattle.std.specs.Prelude.{codes}
use Rattle.std.specs.Fmt.{decimal}
use Rattle.pc_syntax.specs.Plain.{Plain, forest_of, kids_of}
use Rattle.pc_syntax.specs.PartsLaws.{forest_of-kids_of}
use Rattle.pc_syntax.specs.Templates.{kind_name}
use Rattle.pc_views.specs.Limit.{Agrees}
use Rattle.pc_views.specs.TreeView.{kid_path, line, kid_lines, lines_of}

Agrees-append : (text whole more : List ℕ) → Agrees text whole → Agrees (text ++ more) (whole ++ more)
Agrees-append text whole more (inl e) = inl (ap (λ bs. bs ++ more) e)
Agrees-append text whole more (inr h) = inr (omega (arith, h.0, length-append text more), omega (arith, h.1, length-append whole more))

Agrees-trans : (text middle whole : List ℕ) → Agrees text middle → Agrees middle whole → Agrees text whole
Agrees-trans text middle whole (inl e) (inl f) = inl (e ∙ f)
Agrees-trans text middle whole (inl e) (inr h) = inr (omega (arith, h.0, ap length e), h.1)
Agrees-trans text middle whole (inr h) (inl f) = inr (h.0, omega (arith, h.1, ap length f))
Agrees-trans text middle whole (inr h) (inr g) = inr (h.0, g.1)

-- behind its own line a node has the lines of all its kids
pub lines-start : (old text path name word : List ℕ) (tree : Plain) (kids : List Plain) →
    text ≡ old ++ line path name word → name ≡ kind_name tree.kind → word ≡ tree.word → kids ≡ kids_of tree →
    Agrees (text ++ kid_lines path 1 (forest_of kids)) (old ++ lines_of path tree)
lines-start old text path name word tree kids e f g h =
    let own : text ≡ old ++ line path (kind_name tree.kind) tree.word = e ∙ ap (λ n. old ++ line path n word) f ∙ ap (λ w. old ++ line path (kind_name tree.kind) w) g in
    let below : kid_lines path 1 (forest_of kids) ≡ kid_lines path 1 tree.kids = ap (λ ks. kid_lines path 1 (forest_of ks)) h ∙ ap (kid_lines path 1) (forest_of-kids_of tree) in
    inl (ap (λ bs. bs ++ kid_lines path 1 (forest_of kids)) own ∙ ap (λ bs. (old ++ line path (kind_name tree.kind) tree.word) ++ bs) below
    ∙ append_assoc old (line path (kind_name tree.kind) tree.word) (kid_lines path 1 tree.kids))

kid_lines-cons : (path : List ℕ) (number : ℕ) (kid : Plain) (more : List Plain) →
    kid_lines path number (forest_of (kid ∷ more)) ≡ lines_of (kid_path path number) kid ++ kid_lines path (number + 1) (forest_of more)
unfolding kid_lines
kid_lines-cons path number kid more = refl

kid_lines-none : (path : List ℕ) (number : ℕ) → kid_lines path number (forest_of []) ≡ []
unfolding kid_lines
kid_lines-none path number = refl

-- with the lines of one more kid, the lines of the kids after it are left
pub lines-more : (text text' path whole : List ℕ) (i : ℕ) (kids : List Plain) (kid : Plain) →
    i < length kids → kid ≡ get_or kids i kid →
    Agrees (text ++ kid_lines path (i + 1) (forest_of (drop i kids))) whole →
    Agrees text' (text ++ lines_of (kid_path path (i + 1)) kid) →
    Agrees (text' ++ kid_lines path (i + 1 + 1) (forest_of (drop (i + 1) kids))) whole
lines-more text text' path whole i kids kid below is left new =
    let rest : List ℕ = kid_lines path (i + 1 + 1) (forest_of (drop (i + 1) kids)) in
    let own : List ℕ = lines_of (kid_path path (i + 1)) kid in
    let first : drop i kids ≡ kid ∷ drop (i + 1) kids = drop_more kids i kid below ∙ ap (λ k. k ∷ drop (i + 1) kids) (sym is) in
    let split : kid_lines path (i + 1) (forest_of (drop i kids)) ≡ own ++ rest = ap (λ ks. kid_lines path (i + 1) (forest_of ks)) first ∙ kid_lines-cons path (i + 1) kid (drop (i + 1) kids) in
    let same : text ++ kid_lines path (i + 1) (forest_of (drop i kids)) ≡ (text ++ own) ++ rest = ap (λ bs. text ++ bs) split ∙ sym (append_assoc text own rest) in
    Agrees-trans (text' ++ rest) ((text ++ own) ++ rest) whole (Agrees-append text' (text ++ own) rest new) (rw same at left)

-- with no kid left all is there
pub lines-end : (text path whole : List ℕ) (i : ℕ) (kids : List Plain) →
    length kids ≤ i → Agrees (text ++ kid_lines path (i + 1) (forest_of (drop i kids))) whole → Agrees text whole
lines-end text path whole i kids past left =
    let none : text ++ kid_lines path (i + 1) (forest_of (drop i kids)) ≡ text =
    ap (λ ks. text ++ kid_lines path (i + 1) (forest_of ks)) (drop_all i kids past) ∙ ap (λ bs. text ++ bs) (kid_lines-none path (i + 1)) ∙ append-nil text in
    rw none at left

-- the path of a kid, cut to the length of its parent's
pub path-back : (old path path' : List ℕ) (len number : ℕ) → path' ≡ take len path → path ≡ kid_path old number → len ≡ length old → path' ≡ old
path-back old path path' len number e f g =
    e ∙ ap (λ n. take n path) g ∙ ap (take (length old)) (f ∙ append_assoc old (codes "/") (decimal number)) ∙ take-append_seam old (codes "/" ++ decimal number)
