-- Other notes leave all else of trees as it is: lemmas.
use Rattle.std.proofs.Common.{◌≡◌, ℕ, zero, suc, ◌+◌, max, Bool, true, false, ◌&&◌, not, if◌then◌else◌, List, [], ◌∷◌, Option, Some, None, map, length, take, drop, refl, ap, sym, ◌∙◌, ◌≤◌, arith}
use Rattle.std.proofs.lemmas.List.{nil_from_length}
use Rattle.std.specs.List.{list_all}
use Rattle.std.proofs.lemmas.Bool.{and_parts, and_from}
use Rattle.pc_syntax.specs.declared.kind.Kind.{Kind}
use Rattle.pc_syntax.specs.declared.kind.Kind.TheVariants.{Ifelse}
use Rattle.pc_syntax.specs.declared.item.Item.{Item}
use Rattle.pc_syntax.specs.declared.item.Item.TheVariants.{Literal, Word, Kid}
use Rattle.pc_syntax.specs.Plain.{Forest, Nil, Cons, Plain, count, kinds}
use Rattle.pc_syntax.specs.Layout.{layout}
use Rattle.pc_syntax.specs.Symbols.{texts, fill_some, symbols_of}
use Rattle.pc_syntax.specs.Sorts.{bears_notes}
use Rattle.pc_syntax.specs.Slots.{is_list}
use Rattle.pc_syntax.specs.Words.{is_comment}
use Rattle.pc_syntax.specs.WellFormed.{fits_some, takes_notes, opens, last_open, second_open, breaks_else_rule, WellFormed, IsWellFormed, size_in, size_of, depth_in, depth_of}
use Rattle.pc_layout.specs.Noted.{Notes, first_notes, keeps_notes, own_notes, portions, portions_some, kid_notes, first_of, rest_of, noted, noted_tree, HasNotes, unnoted}

pub count-noted : (ts : Forest) (nss : List (List Notes)) → count (noted ts nss) ≡ count ts
count-noted Nil nss = refl
count-noted (Cons k w ms ks ts) nss = ap suc (count-noted ts (rest_of nss))

pub kinds-noted : (ts : Forest) (nss : List (List Notes)) → kinds (noted ts nss) ≡ kinds ts
kinds-noted Nil nss = refl
kinds-noted (Cons k w ms ks ts) nss = ap (λ js. k ∷ js) (kinds-noted ts (rest_of nss))

pub texts-noted : (ts : Forest) (nss : List (List Notes)) → texts (noted ts nss) ≡ texts ts
texts-noted Nil nss = refl
texts-noted (Cons k w ms ks ts) nss = λ i.
    fill_some (layout k w (count-noted ks (kid_notes k w ks (first_of nss)) i)) w (texts-noted ks (kid_notes k w ks (first_of nss)) i) ∷ texts-noted ts (rest_of nss) i

pub size_in-noted : (ts : Forest) (nss : List (List Notes)) → size_in (noted ts nss) ≡ size_in ts
unfolding size_in
size_in-noted Nil nss = refl
size_in-noted (Cons k w ms ks ts) nss = λ i. 1 + size_in-noted ks (kid_notes k w ks (first_of nss)) i + size_in-noted ts (rest_of nss) i

pub depth_in-noted : (ts : Forest) (nss : List (List Notes)) → depth_in (noted ts nss) ≡ depth_in ts
unfolding depth_in
depth_in-noted Nil nss = refl
depth_in-noted (Cons k w ms ks ts) nss = λ i. max (1 + depth_in-noted ks (kid_notes k w ks (first_of nss)) i) (depth_in-noted ts (rest_of nss) i)

pub last_open-noted : (ts : Forest) (nss : List (List Notes)) → last_open (noted ts nss) ≡ last_open ts
last_open-noted Nil nss = refl
last_open-noted (Cons k w ms ks Nil) nss = ap (opens k) (last_open-noted ks (kid_notes k w ks (first_of nss)))
last_open-noted (Cons k w ms ks (Cons j v ns js ts)) nss = last_open-noted (Cons j v ns js ts) (rest_of nss)

second_open-noted : (ts : Forest) (nss : List (List Notes)) → second_open (noted ts nss) ≡ second_open ts
second_open-noted Nil nss = refl
second_open-noted (Cons k w ms ks Nil) nss = refl
second_open-noted (Cons k w ms ks (Cons j v ns js ts)) nss = ap (opens j) (last_open-noted js (kid_notes j v js (first_of (rest_of nss))))

pub else_rule-noted : (k : Kind) (ts : Forest) (nss : List (List Notes)) → breaks_else_rule k (noted ts nss) ≡ breaks_else_rule k ts
else_rule-noted Ifelse ts nss = second_open-noted ts nss
else_rule-noted _ ts nss = refl

-- the kids' shares of the notes don't depend on the notes that they bear
kid_notes-noted : (k : Kind) (w : List ℕ) (ks : Forest) (nss : List (List Notes)) (ns : List Notes) → kid_notes k w (noted ks nss) ns ≡ kid_notes k w ks ns
kid_notes-noted k w ks nss ns = λ i. portions_some (layout k w (count-noted ks nss i)) (map length (texts-noted ks nss i)) ns

-- notes given last are the only ones
pub noted-noted : (ts : Forest) (ass bss : List (List Notes)) → noted (noted ts ass) bss ≡ noted ts bss
noted-noted Nil ass bss = refl
noted-noted (Cons k w ms ks ts) ass bss =
    let kids : noted (noted ks (kid_notes k w ks (first_of ass))) (kid_notes k w (noted ks (kid_notes k w ks (first_of ass))) (first_of bss)) ≡ noted ks (kid_notes k w ks (first_of bss)) =
    ap (noted (noted ks (kid_notes k w ks (first_of ass)))) (kid_notes-noted k w ks (kid_notes k w ks (first_of ass)) (first_of bss)) ∙ noted-noted ks (kid_notes k w ks (first_of ass)) (kid_notes k w ks (first_of bss)) in
    λ i. Cons k w (own_notes k (count-noted ks (kid_notes k w ks (first_of ass)) i) (first_of bss)) (kids i) (noted-noted ts (rest_of ass) (rest_of bss) i)

-- all notes of some symbols are comments
abbrev pub are_comments : List Notes → Bool
are_comments ns = list_all (list_all is_comment) ns

pub comments-drop : (n : ℕ) (ns : List Notes) → are_comments ns ≡ true → are_comments (drop n ns) ≡ true
comments-drop zero ns h = h
comments-drop (suc n) [] h = h
comments-drop (suc n) (m ∷ ns) h = comments-drop n ns (and_parts (list_all is_comment m) (are_comments ns) h).1

pub comments-take : (n : ℕ) (ns : List Notes) → are_comments ns ≡ true → are_comments (take n ns) ≡ true
comments-take zero ns h = refl
comments-take (suc n) [] h = h
comments-take (suc n) (m ∷ ns) h =
    let p = and_parts (list_all is_comment m) (are_comments ns) h in
    and_from (list_all is_comment m) (are_comments (take n ns)) p.0 (comments-take n ns p.1)

comments-portions : (is : List Item) (ls : List ℕ) (ns : List Notes) → are_comments ns ≡ true → list_all are_comments (portions is ls ns) ≡ true
comments-portions [] ls ns h = refl
comments-portions (Literal x ∷ is) ls ns h = comments-portions is ls (drop 1 ns) (comments-drop 1 ns h)
comments-portions (Word x ∷ is) ls ns h = comments-portions is ls (drop 1 ns) (comments-drop 1 ns h)
comments-portions (Kid c ∷ is) [] ns h = refl
comments-portions (Kid c ∷ is) (l ∷ ls) ns h =
    and_from (are_comments (take l ns)) (list_all are_comments (portions is ls (drop l ns))) (comments-take l ns h) (comments-portions is ls (drop l ns) (comments-drop l ns h))

comments-portions_some : (o : Option (List Item)) (ls : List ℕ) (ns : List Notes) → are_comments ns ≡ true → list_all are_comments (portions_some o ls ns) ≡ true
comments-portions_some None ls ns h = refl
comments-portions_some (Some is) ls ns h = comments-portions is ls ns h

comments-first_of : (nss : List (List Notes)) → list_all are_comments nss ≡ true → are_comments (first_of nss) ≡ true
comments-first_of [] h = refl
comments-first_of (n ∷ nss) h = (and_parts (are_comments n) (list_all are_comments nss) h).0

comments-rest_of : (nss : List (List Notes)) → list_all are_comments nss ≡ true → list_all are_comments (rest_of nss) ≡ true
comments-rest_of [] h = refl
comments-rest_of (n ∷ nss) h = (and_parts (are_comments n) (list_all are_comments nss) h).1

comments-first_notes : (ns : List Notes) → are_comments ns ≡ true → list_all is_comment (first_notes ns) ≡ true
comments-first_notes [] h = refl
comments-first_notes (m ∷ ns) h = (and_parts (list_all is_comment m) (are_comments ns) h).0

-- a node that keeps notes may bear comments
takes-kept : (k : Kind) (n : ℕ) (m : Notes) → keeps_notes k n ≡ true → list_all is_comment m ≡ true → takes_notes k n m ≡ true
takes-kept k n [] h e = refl
takes-kept k zero (c ∷ cs) h e = and_from (bears_notes k && not (is_list k)) (list_all is_comment (c ∷ cs)) h e
takes-kept k (suc n) (c ∷ cs) h e = and_from (bears_notes k) (list_all is_comment (c ∷ cs)) h e

takes-own : (k : Kind) (n : ℕ) (ns : List Notes) → are_comments ns ≡ true → takes_notes k n (own_notes k n ns) ≡ true
takes-own k n ns h = go (keeps_notes k n) refl
  where
    go : (b : Bool) → keeps_notes k n ≡ b → takes_notes k n (if b then first_notes ns else []) ≡ true
    go true e = takes-kept k n (first_notes ns) e (comments-first_notes ns h)
    go false e = refl

-- well-formed trees stay so with comments as their notes
pub WellFormed-noted : (ts : Forest) (nss : List (List Notes)) → WellFormed ts → list_all are_comments nss ≡ true → WellFormed (noted ts nss)
WellFormed-noted Nil nss h e = tt
WellFormed-noted (Cons k w ms ks ts) nss h e =
    let given : are_comments (first_of nss) ≡ true = comments-first_of nss e in
    let below : list_all are_comments (kid_notes k w ks (first_of nss)) ≡ true = comments-portions_some (layout k w (count ks)) (map length (texts ks)) (first_of nss) given in
    let kid = kid_notes k w ks (first_of nss) in (
      (λ i. fits_some (layout k w (count-noted ks kid i)) (kinds-noted ks kid i)) ∙ h.0,
      (λ i. takes_notes k (count-noted ks kid i) (own_notes k (count ks) (first_of nss))) ∙ takes-own k (count ks) (first_of nss) given,
      else_rule-noted k ks kid ∙ h.2,
      WellFormed-noted ks kid h.3 below,
      WellFormed-noted ts (rest_of nss) h.4 (comments-rest_of nss e),
    )

-- the same of one tree
pub symbols_of-noted : (t : Plain) (ns : List Notes) → symbols_of (noted_tree t ns) ≡ symbols_of t
symbols_of-noted t ns = let kid = kid_notes t.kind t.word t.kids ns in λ i. fill_some (layout t.kind t.word (count-noted t.kids kid i)) t.word (texts-noted t.kids kid i)

pub size_of-noted : (t : Plain) (ns : List Notes) → size_of (noted_tree t ns) ≡ size_of t
size_of-noted t ns = ap (λ n. 1 + n) (size_in-noted t.kids (kid_notes t.kind t.word t.kids ns))

pub depth_of-noted : (t : Plain) (ns : List Notes) → depth_of (noted_tree t ns) ≡ depth_of t
depth_of-noted t ns = ap (λ n. 1 + n) (depth_in-noted t.kids (kid_notes t.kind t.word t.kids ns))

abbrev first : Forest → Plain → Plain
first Nil d = d
first (Cons k w ns ks ts) d = record { kind = k; word = w; notes = ns; kids = ks }

pub noted_tree-again : (t : Plain) (ms ns : List Notes) → noted_tree (noted_tree t ms) ns ≡ noted_tree t ns
noted_tree-again t ms ns = ap (λ f. first f t) (noted-noted (Cons t.kind t.word t.notes t.kids Nil) (ms ∷ []) (ns ∷ []))

pub IsWellFormed-noted : (t : Plain) (ns : List Notes) → IsWellFormed t → are_comments ns ≡ true → IsWellFormed (noted_tree t ns)
IsWellFormed-noted t ns h e = WellFormed-noted (Cons t.kind t.word t.notes t.kids Nil) (ns ∷ []) h (and_from (are_comments ns) true e refl)

-- a tree has the notes that it was given
pub HasNotes-noted : (t : Plain) (ns : List Notes) → HasNotes (noted_tree t ns) ns
HasNotes-noted t ns = sym (noted_tree-again t ns ns)

-- how many notes some symbols have
abbrev pub weight : List Notes → ℕ
weight [] = 0
weight (n ∷ ns) = length n + weight ns

abbrev pub total : List (List Notes) → ℕ
total [] = 0
total (n ∷ ns) = weight n + total ns

pub weight-drop : (n : ℕ) (ns : List Notes) → weight (drop n ns) ≤ weight ns
weight-drop zero ns = omega arith
weight-drop (suc n) [] = omega arith
weight-drop (suc n) (m ∷ ns) = omega (arith, weight-drop n ns)

pub weight-split : (n : ℕ) (ns : List Notes) → weight (take n ns) + weight (drop n ns) ≡ weight ns
weight-split zero ns = omega arith
weight-split (suc n) [] = omega arith
weight-split (suc n) (m ∷ ns) = omega (arith, weight-split n ns)

pub weight-first : (ns : List Notes) → length (first_notes ns) + weight (drop 1 ns) ≡ weight ns
weight-first [] = refl
weight-first (n ∷ ns) = refl

pub total-first : (nss : List (List Notes)) → weight (first_of nss) + total (rest_of nss) ≡ total nss
total-first [] = refl
total-first (n ∷ ns) = refl

-- the kids have no more than the node
pub total-portions : (is : List Item) (ls : List ℕ) (ns : List Notes) → total (portions is ls ns) ≤ weight ns
total-portions [] ls ns = omega arith
total-portions (Literal x ∷ is) ls ns = omega (arith, total-portions is ls (drop 1 ns), weight-drop 1 ns)
total-portions (Word x ∷ is) ls ns = omega (arith, total-portions is ls (drop 1 ns), weight-drop 1 ns)
total-portions (Kid c ∷ is) [] ns = omega arith
total-portions (Kid c ∷ is) (l ∷ ls) ns = omega (arith, total-portions is ls (drop l ns), weight-split l ns)

pub total-portions_some : (o : Option (List Item)) (ls : List ℕ) (ns : List Notes) → total (portions_some o ls ns) ≤ weight ns
total-portions_some None ls ns = omega arith
total-portions_some (Some is) ls ns = total-portions is ls ns

first-none : (ns : List Notes) → weight ns ≡ 0 → first_notes ns ≡ []
first-none [] h = refl
first-none (n ∷ ns) h = nil_from_length n (omega (arith, h))

own-none : (k : Kind) (n : ℕ) (ns : List Notes) → weight ns ≡ 0 → own_notes k n ns ≡ []
own-none k n ns h = go (keeps_notes k n)
  where
    go : (b : Bool) → (if b then first_notes ns else []) ≡ []
    go true = first-none ns h
    go false = refl

-- no node has notes
abbrev pub Bare : Forest → Type 0
Bare Nil = Unit {0}
Bare (Cons k w ms ks ts) = (ms ≡ []) × Bare ks × Bare ts

abbrev pub IsBare : Plain → Type 0
IsBare t = Bare (Cons t.kind t.word t.notes t.kids Nil)

-- trees without notes stay so where there are none
pub noted-bare : (ts : Forest) (nss : List (List Notes)) → Bare ts → total nss ≡ 0 → noted ts nss ≡ ts
noted-bare Nil nss b h = refl
noted-bare (Cons k w ms ks ts) nss b h =
    let none : weight (first_of nss) ≡ 0 = omega (arith, total-first nss, h) in
    let rest : total (rest_of nss) ≡ 0 = omega (arith, total-first nss, h) in
    let below : total (kid_notes k w ks (first_of nss)) ≡ 0 = omega (arith, total-portions_some (layout k w (count ks)) (map length (texts ks)) (first_of nss), none) in
    let own : own_notes k (count ks) (first_of nss) ≡ ms = own-none k (count ks) (first_of nss) none ∙ sym b.0 in
    λ i. Cons k w (own i) (noted-bare ks (kid_notes k w ks (first_of nss)) b.1 below i) (noted-bare ts (rest_of nss) b.2 rest i)

pub noted_tree-bare : (t : Plain) (ns : List Notes) → IsBare t → weight ns ≡ 0 → noted_tree t ns ≡ t
noted_tree-bare t ns b h = ap (λ f. first f t) (noted-bare (Cons t.kind t.word t.notes t.kids Nil) (ns ∷ []) b (omega (arith, h)))

pub bare-noted : (ts : Forest) (nss : List (List Notes)) → total nss ≡ 0 → Bare (noted ts nss)
bare-noted Nil nss h = tt
bare-noted (Cons k w ms ks ts) nss h =
    let none : weight (first_of nss) ≡ 0 = omega (arith, total-first nss, h) in
    let rest : total (rest_of nss) ≡ 0 = omega (arith, total-first nss, h) in
    let below : total (kid_notes k w ks (first_of nss)) ≡ 0 = omega (arith, total-portions_some (layout k w (count ks)) (map length (texts ks)) (first_of nss), none) in
    (own-none k (count ks) (first_of nss) none, bare-noted ks (kid_notes k w ks (first_of nss)) below, bare-noted ts (rest_of nss) rest)

pub unnoted-bare : (t : Plain) → IsBare (unnoted t)
unnoted-bare t = bare-noted (Cons t.kind t.word t.notes t.kids Nil) ([] ∷ []) refl
