-- The names of a list, with one more: lemmas.
use Rattle.std.proofs.Common.{◌≡◌, ℕ, ◌+◌, Bool, true, false, ◌||◌, if◌then◌else◌, List, [], ◌∷◌, ◌++◌, suc, length, Option, Some, None, is_some, codes, option_map, refl, ap, sym, ◌∙◌, append-nil, append_assoc, arith, slice_get}
use Rattle.std.specs.Str.{bytes_eq}
use Rattle.std.proofs.lemmas.Slice.Eq.{bytes_eq-Decides}
use Rattle.pc_syntax.specs.Plain.{Plain}
use Rattle.pc_syntax.specs.Sorts.{is_hole}
use Rattle.pc_syntax.specs.Words.{lowered, is_among}
use Rattle.pc_names.specs.Numbers.{number_of, with_name, with_name_if}
use Rattle.pc_rules.specs.Attributes.{Node, Entry, at_kid}
use Rattle.pc_rules.specs.DeclaringNames.{names_in, repeats}
use Rattle.pc_rules.specs.Entries.{note_if, quoted}
use Rattle.pc_headings.specs.Listing.{HasPassed, named_node, named_nodes, repeat_at}
use Rattle.pc_headings.specs.ListLaws.{among-append, among-moved, or-assoc, or-none}

-- ---- names of a list

pub named_nodes-more : (ts : List Plain) (t : Plain) → named_nodes (ts ++ t ∷ []) ≡ named_nodes ts ++ named_node t ∷ []
named_nodes-more [] t = refl
named_nodes-more (u ∷ ts) t = ap (λ (ns : List Node). named_node u ∷ ns) (named_nodes-more ts t)

names-by : (b : Bool) (n : List ℕ) (xs ys zs : List (List ℕ)) → xs ≡ ys ++ zs → (if b then xs else n ∷ xs) ≡ (if b then ys else n ∷ ys) ++ zs
names-by true n xs ys zs e = e
names-by false n xs ys zs e = ap (λ (ns : List (List ℕ)). n ∷ ns) e

pub names_in-append : (ks bs : List Node) → names_in (ks ++ bs) ≡ names_in ks ++ names_in bs
names_in-append [] bs = refl
names_in-append (a ∷ ks) bs = names-by (is_hole a.kind) (lowered a.word) (names_in (ks ++ bs)) (names_in ks) (names_in bs) (names_in-append ks bs)

pub length-named : (ts : List Plain) → length (named_nodes ts) ≡ length ts
length-named [] = refl
length-named (t ∷ ts) = ap suc (length-named ts)

repeat-names : (before after : List (List ℕ)) (i j : ℕ) (a : Node) → ((w : List ℕ) → is_among before w ≡ is_among after w) → i ≡ j → repeat_at before i a ≡ repeat_at after j a
repeat-names before after i j a same e =
    ap (λ (b : Bool). if is_hole a.kind then [] else at_kid i (note_if b 3 (quoted (codes "declared twice") a.word))) (same (lowered a.word))
    ∙ ap (λ (k : ℕ). repeat_at after k a) e

repeats-by : (h : Bool) (n : List ℕ) (x : List Entry) (before : List (List ℕ)) (i : ℕ) (ks : List Node) (a : Node) →
    ((b : List (List ℕ)) → repeats b (suc i) (ks ++ a ∷ []) ≡ repeats b (suc i) ks ++ repeat_at (b ++ names_in ks) (suc i + length ks) a) →
    (if h then repeats before (suc i) (ks ++ a ∷ []) else x ++ repeats (n ∷ before) (suc i) (ks ++ a ∷ [])) ≡
    (if h then repeats before (suc i) ks else x ++ repeats (n ∷ before) (suc i) ks) ++ repeat_at (before ++ (if h then names_in ks else n ∷ names_in ks)) (i + suc (length ks)) a
repeats-by true n x before i ks a rest =
    let e : suc i + length ks ≡ i + suc (length ks) = omega arith in
    rest before ∙ ap (λ (k : ℕ). repeats before (suc i) ks ++ repeat_at (before ++ names_in ks) k a) e
repeats-by false n x before i ks a rest =
    let e : suc i + length ks ≡ i + suc (length ks) = omega arith in
    ap (λ (es : List Entry). x ++ es) (rest (n ∷ before))
    ∙ sym (append_assoc x (repeats (n ∷ before) (suc i) ks) (repeat_at ((n ∷ before) ++ names_in ks) (suc i + length ks) a))
    ∙ ap (λ (es : List Entry). (x ++ repeats (n ∷ before) (suc i) ks) ++ es) (repeat-names ((n ∷ before) ++ names_in ks) (before ++ n ∷ names_in ks) (suc i + length ks) (i + suc (length ks)) a (among-moved n before (names_in ks)) e)

repeats-end : (before : List (List ℕ)) (i : ℕ) (ks : List Node) (a : Node) → repeats before i (ks ++ a ∷ []) ≡ repeats before i ks ++ repeat_at (before ++ names_in ks) (i + length ks) a
repeats-end before i [] a = repeat-alone (is_hole a.kind) refl
  where
    zero-more : i ≡ i + 0
    zero-more = omega arith

    repeat-alone : (h : Bool) → is_hole a.kind ≡ h → repeats before i (a ∷ []) ≡ repeat_at (before ++ []) (i + 0) a
    repeat-alone h e =
        by h e ∙ repeat-names before (before ++ []) i (i + 0) a (λ w. ap (λ (ns : List (List ℕ)). is_among ns w) (sym (append-nil before))) zero-more
      where
        by : (h : Bool) → is_hole a.kind ≡ h → repeats before i (a ∷ []) ≡ repeat_at before i a
        by true e = ap (λ (b : Bool). if b then [] else at_kid i (note_if (is_among before (lowered a.word)) 3 (quoted (codes "declared twice") a.word)) ++ []) e ∙ sym (ap (λ (b : Bool). if b then [] else at_kid i (note_if (is_among before (lowered a.word)) 3 (quoted (codes "declared twice") a.word))) e)
        by false e = ap (λ (b : Bool). if b then [] else at_kid i (note_if (is_among before (lowered a.word)) 3 (quoted (codes "declared twice") a.word)) ++ []) e ∙ append-nil _ ∙ sym (ap (λ (b : Bool). if b then [] else at_kid i (note_if (is_among before (lowered a.word)) 3 (quoted (codes "declared twice") a.word))) e)
repeats-end before i (b ∷ ks) a =
    repeats-by (is_hole b.kind) (lowered b.word) (at_kid i (note_if (is_among before (lowered b.word)) 3 (quoted (codes "declared twice") b.word))) before i ks a (λ before. repeats-end before (suc i) ks a)

-- row 3 at one name more
pub repeats-more : (before : List (List ℕ)) (ts : List Plain) (t : Plain) →
    repeats before 1 (named_nodes (ts ++ t ∷ [])) ≡ repeats before 1 (named_nodes ts) ++ repeat_at (before ++ names_in (named_nodes ts)) (1 + length ts) (named_node t)
repeats-more before ts t =
    ap (repeats before 1) (named_nodes-more ts t)
    ∙ repeats-end before 1 (named_nodes ts) (named_node t)
    ∙ ap (λ (k : ℕ). repeats before 1 (named_nodes ts) ++ repeat_at (before ++ names_in (named_nodes ts)) (1 + k) (named_node t)) (length-named ts)

-- ---- names that were numbered

some-by : (b : Bool) (o : Option ℕ) → is_some (if b then Some 0 else option_map suc o) ≡ (b || is_some o)
some-by true o = refl
some-by false None = refl
some-by false (Some i) = refl

some-append : (ms : List (List ℕ)) (w n : List ℕ) → is_some (number_of (ms ++ w ∷ []) n) ≡ (is_some (number_of ms n) || bytes_eq n w)
some-append [] w n = some-by (bytes_eq n w) None ∙ or-none (bytes_eq n w)
some-append (m ∷ ms) w n =
    some-by (bytes_eq n m) (number_of (ms ++ w ∷ []) n)
    ∙ ap (λ (b : Bool). bytes_eq n m || b) (some-append ms w n)
    ∙ sym (or-assoc (bytes_eq n m) (is_some (number_of ms n)) (bytes_eq n w))
    ∙ ap (λ (b : Bool). b || bytes_eq n w) (sym (some-by (bytes_eq n m) (number_of ms n)))

equal-turned : (n w : List ℕ) → bytes_eq n w ≡ bytes_eq w n
equal-turned n w = by (bytes_eq n w) (bytes_eq w n) refl refl
  where
    by : (a b : Bool) → bytes_eq n w ≡ a → bytes_eq w n ≡ b → bytes_eq n w ≡ bytes_eq w n
    by true true e f = e ∙ sym f
    by false false e f = e ∙ sym f
    by true false e f = e ∙ sym ((bytes_eq-Decides w n).1 (sym ((bytes_eq-Decides n w).0 e)))
    by false true e f = (bytes_eq-Decides n w).1 (sym ((bytes_eq-Decides w n).0 f)) ∙ sym f

known-or : (s b : Bool) → (b ≡ true → s ≡ true) → s ≡ (s || b)
known-or true b h = refl
known-or false true h = h refl
known-or false false h = refl

some-with : (o : Option ℕ) (ms : List (List ℕ)) (w n : List ℕ) → number_of ms w ≡ o → is_some (number_of (with_name_if o ms w) n) ≡ (is_some (number_of ms n) || bytes_eq w n)
some-with (Some i) ms w n e =
    known-or (is_some (number_of ms n)) (bytes_eq w n) (λ same. ap (λ (q : List ℕ). is_some (number_of ms q)) (sym ((bytes_eq-Decides w n).0 same)) ∙ ap is_some e)
some-with None ms w n e = some-append ms w n ∙ ap (λ (b : Bool). is_some (number_of ms n) || b) (equal-turned n w)

-- one name more
pub passed-more : (texts ns : List (List ℕ)) (w : List ℕ) → HasPassed texts ns → HasPassed (with_name texts w) (ns ++ w ∷ [])
passed-more texts ns w h = λ n.
    some-with (number_of texts w) texts w n refl
    ∙ ap (λ (b : Bool). b || bytes_eq w n) (h n)
    ∙ ap (λ (b : Bool). is_among ns n || b) (sym (or-none (bytes_eq w n)))
    ∙ sym (among-append ns (w ∷ []) n)

-- one more at the end of a list
pub slice_get-last : {X : Type 0} (xs : List X) (x : X) → slice_get (xs ++ x ∷ []) (length xs) ≡ Some x
slice_get-last [] x = refl
slice_get-last (y ∷ xs) x = slice_get-last xs x
