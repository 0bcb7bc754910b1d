-- Where the machine refuses a symbol, what comes before it begins a text of the class, and with it none does.
use Rattle.std.proofs.Common.{◌≡◌, ℕ, zero, suc, ◌+◌, ◌<◌, ◌≤◌, List, [], ◌∷◌, ◌++◌, length, take, drop, refl, ap, sym, ◌∙◌, append_assoc, length-append, length-drop, arith}
use Rattle.std.proofs.lemmas.List.{take-append-drop, append_cancel_right}
use Rattle.pc_syntax.specs.declared.class.Class.{Class}
use Rattle.pc_syntax.specs.declared.sort.Sort.{Sort}
use Rattle.pc_syntax.specs.Plain.{Plain}
use Rattle.pc_syntax.specs.Symbols.{Sym}
use Rattle.pc_parse.specs.Reading.{class_of, ReadsBare}
use Rattle.pc_parse.specs.Lookahead.{look, word_at, after}
use Rattle.pc_parse.specs.Machine.{State, Opening, Plan, Stay, Take, End, Stuck, plan}
use Rattle.pc_parse.specs.Runs.{make_plain, Go, Refuse, apply, step, continue, exec}
use Rattle.pc_parse.specs.Proper.{Proper}
use Rattle.pc_parse.proofs.BarePartial.{Begins, Nothing, Whole, Partly}
use Rattle.pc_parse.proofs.SoundStates.{StepOk}
use Rattle.pc_parse.proofs.Sound.{exec_ok}
use Rattle.pc_parse.proofs.Complete.{unfit_sort}
use Rattle.pc_parse.proofs.Reached.{exec_then}
use Rattle.pc_parse.proofs.Viable.{viable}
use Rattle.pc_parse.proofs.Completion.{completes}

after_less : (ys : List Sym) → length (after ys) ≤ length ys
after_less [] = omega arith
after_less (y ∷ ys) = omega arith

-- symbols are only taken
shrinks : (c : Class) (n : ℕ) (a : State Plain) (xs : List Sym) (b : State Plain) (ys : List Sym) → exec c n a xs ≡ Go b ys → length ys ≤ length xs
shrinks c zero a xs b ys e = let p : xs ≡ ys = cc in rw p (omega arith)
shrinks c (suc n) a xs b ys e = go (plan make_plain c a (look xs) (word_at xs)) e (λ st zs h. shrinks c n st zs b ys h)
  where
    go : (p : Plan Plain) → continue (apply p xs) (exec c n) ≡ Go b ys → ((st : State Plain) (zs : List Sym) → exec c n st zs ≡ Go b ys → length ys ≤ length zs) → length ys ≤ length xs
    go (Stay st) h less = less st xs h
    go (Take st) h less = let k : length ys ≤ length (after xs) = less st (after xs) h in omega (arith, after_less xs)
    go (End t) h less = cc
    go Stuck h less = cc

-- what the machine does up to a symbol doesn't hang on what follows that symbol
carry : (c : Class) (n : ℕ) (a : State Plain) (pre : List Sym) (y : Sym) (ys more : List Sym) (b : State Plain) → exec c n a (pre ++ y ∷ ys) ≡ Go b (y ∷ ys) → exec c n a (pre ++ y ∷ more) ≡ Go b (y ∷ more)
carry c zero a [] y ys more b e = let p : a ≡ b = cc in rw p refl
carry c zero a (x ∷ pre) y ys more b e =
    let p : x ∷ (pre ++ y ∷ ys) ≡ y ∷ ys = cc in
    absurd (omega (arith, ap length p, length-append pre (y ∷ ys)))
carry c (suc n) a [] y ys more b e = go (plan make_plain c a (look (y ∷ ys)) y.spelling) e (λ st h. carry c n st [] y ys more b h)
  where
    go : (p : Plan Plain) → continue (apply p (y ∷ ys)) (exec c n) ≡ Go b (y ∷ ys) → ((st : State Plain) → exec c n st (y ∷ ys) ≡ Go b (y ∷ ys) → exec c n st (y ∷ more) ≡ Go b (y ∷ more))
        → continue (apply p (y ∷ more)) (exec c n) ≡ Go b (y ∷ more)
    go (Stay st) h same = same st h
    go (Take st) h same = let k : length (y ∷ ys) ≤ length ys = shrinks c n st ys b (y ∷ ys) h in absurd (omega arith)
    go (End t) h same = cc
    go Stuck h same = cc
carry c (suc n) a (x ∷ pre) y ys more b e =
    go (plan make_plain c a (look (x ∷ pre)) x.spelling) e (λ st h. carry c n st (x ∷ pre) y ys more b h) (λ st h. carry c n st pre y ys more b h)
  where
    go : (p : Plan Plain) → continue (apply p (x ∷ (pre ++ y ∷ ys))) (exec c n) ≡ Go b (y ∷ ys)
        → ((st : State Plain) → exec c n st (x ∷ (pre ++ y ∷ ys)) ≡ Go b (y ∷ ys) → exec c n st (x ∷ (pre ++ y ∷ more)) ≡ Go b (y ∷ more))
        → ((st : State Plain) → exec c n st (pre ++ y ∷ ys) ≡ Go b (y ∷ ys) → exec c n st (pre ++ y ∷ more) ≡ Go b (y ∷ more))
        → continue (apply p (x ∷ (pre ++ y ∷ more))) (exec c n) ≡ Go b (y ∷ more)
    go (Stay st) h same shorter = same st h
    go (Take st) h same shorter = shorter st h
    go (End t) h same shorter = cc
    go Stuck h same shorter = cc

-- The machine comes to a place of the symbols.
record Comes (c : Class) (a : State Plain) (xs ys : List Sym) : Type 0 where
  count : ℕ
  state : State Plain
  run : exec c count a xs ≡ Go state ys

-- on its way to a place of the symbols it comes to each place before
passes : (c : Class) (n : ℕ) (a : State Plain) (xs : List Sym) (b : State Plain) (m j : ℕ) → m ≤ length xs → j ≤ m → exec c n a xs ≡ Go b (drop m xs) → Comes c a xs (drop j xs)
passes c n a xs b m zero within le e = record { count = 0; state = a; run = refl }
passes c zero a xs b m (suc j) within le e =
    let p : xs ≡ drop m xs = cc in
    absurd (omega (arith, ap length p, length-drop m xs))
passes c (suc n) a [] b m (suc j) within le e = absurd (omega (arith, le, within))
passes c (suc n) a (x ∷ xs) b zero (suc j) within le e = absurd (omega (arith, le))
passes c (suc n) a (x ∷ xs) b (suc m) (suc j) within le e =
    let found = go (plan make_plain c a (look (x ∷ xs)) x.spelling) e (λ st h. passes c n st (x ∷ xs) b (suc m) (suc j) within le h) (λ st h. passes c n st xs b m j (omega (arith, within)) (omega (arith, le)) h) in
    record { count = suc found.0; state = found.1; run = found.2 }
  where
    go : (p : Plan Plain) → continue (apply p (x ∷ xs)) (exec c n) ≡ Go b (drop m xs)
        → ((st : State Plain) → exec c n st (x ∷ xs) ≡ Go b (drop m xs) → Comes c st (x ∷ xs) (drop j xs))
        → ((st : State Plain) → exec c n st xs ≡ Go b (drop m xs) → Comes c st xs (drop j xs))
        → (k : ℕ) × (st : State Plain) × (continue (apply p (x ∷ xs)) (exec c k) ≡ Go st (drop j xs))
    go (Stay st) h same shorter = let r = same st h in (r.count, r.state, r.run)
    go (Take st) h same shorter = let r = shorter st h in (r.count, r.state, r.run)
    go (End t) h same shorter = cc
    go Stuck h same shorter = cc

-- the symbols before a place to which the machine comes begin a text
begun : (c : Class) (input : List Sym) (j : ℕ) → Proper input → Comes c Opening input (drop j input) → Begins c (take j input)
begun c input j clean r =
    let ok : StepOk c input (Go r.state (drop j input)) = rw r.run at (exec_ok r.count c Opening input [] input refl refl clean) in
    let used_is : ok.0 ≡ take j input = append_cancel_right ok.0 (take j input) (drop j input) (ok.1 ∙ sym (take-append-drop j input)) in
    rw (← used_is) (viable c r.state ok.0 (drop j input) ok.3)

-- up to the place at which the machine stands, the symbols begin a text
pub begins_before : (c : Class) (input : List Sym) (st : State Plain) (n m j : ℕ) → Proper input → exec c n Opening input ≡ Go st (drop m input) → m ≤ length input → j < m + 1 → Begins c (take j input)
begins_before c input st n m j clean run within lt = begun c input j clean (passes c n Opening input st m j within (omega (arith, lt)) run)

module _ (s : Sort) (used : List Sym) (y : Sym) (ys : List Sym) (st : State Plain) (n : ℕ) (run : exec (class_of s) n Opening (used ++ y ∷ ys) ≡ Go st (y ∷ ys)) (stuck : plan make_plain (class_of s) st (look (y ∷ ys)) y.spelling ≡ Stuck) where
  -- no tree goes on from a symbol that is refused
  no_tree : (t : Plain) (more : List Sym) → ¬ ReadsBare (class_of s) t (used ++ y ∷ more)
  no_tree t more h =
      let carried : exec (class_of s) n Opening (used ++ y ∷ more) ≡ Go st (y ∷ more) = carry (class_of s) n Opening used y ys more st run in
      let refuses : step (class_of s) st (y ∷ more) ≡ Refuse (y ∷ more) = ap (λ p. apply p (y ∷ more)) stuck in
      unfit_sort s (suc n) t (used ++ y ∷ more) (y ∷ more) (exec_then (class_of s) n Opening (used ++ y ∷ more) st (y ∷ more) carried ∙ refuses) h

  -- so no text begins with it
  unfit : ¬ Begins (class_of s) (used ++ y ∷ [])
  unfit (Nothing h) = absurd (omega (arith, ap length h, length-append used (y ∷ [])))
  unfit (Whole t h) = no_tree t [] h
  unfit (Partly [] p h) = absurd p
  unfit (Partly (f ∷ fs) p h) =
      let g = completes (class_of s) f fs p.0 p.1 in
      let text : (used ++ y ∷ []) ++ g.more ≡ used ++ y ∷ g.more = append_assoc used (y ∷ []) g.more in
      no_tree g.tree g.more (rw (← text, h) g.reads)

take_next : (n : ℕ) (xs : List Sym) (y : Sym) (ys : List Sym) → drop n xs ≡ y ∷ ys → take (suc n) xs ≡ take n xs ++ y ∷ []
take_next zero [] y ys e = cc
take_next zero (x ∷ xs) y ys e = let p : x ≡ y = cc in rw p refl
take_next (suc n) [] y ys e = cc
take_next (suc n) (x ∷ xs) y ys e = ap (λ l. x ∷ l) (take_next n xs y ys e)

-- with the symbol that the machine refuses, they begin none
pub begins_none : (s : Sort) (input : List Sym) (st : State Plain) (n m : ℕ) → exec (class_of s) n Opening input ≡ Go st (drop m input)
    → plan make_plain (class_of s) st (look (drop m input)) (word_at (drop m input)) ≡ Stuck → m + 1 ≤ length input → ¬ Begins (class_of s) (take (m + 1) input)
begins_none s input st n m run stuck within = go (drop m input) refl
  where
    go : (rest : List Sym) → drop m input ≡ rest → ¬ Begins (class_of s) (take (m + 1) input)
    go [] i b = absurd (omega (arith, ap length i, length-drop m input, within))
    go (y ∷ ys) i b =
        let whole : take m input ++ y ∷ ys ≡ input = ap (λ l. take m input ++ l) (sym i) ∙ take-append-drop m input in
        let comes : exec (class_of s) n Opening (take m input ++ y ∷ ys) ≡ Go st (y ∷ ys) = rw whole (rw i at run) in
        let refuses : plan make_plain (class_of s) st (look (y ∷ ys)) y.spelling ≡ Stuck = rw i at stuck in
        let number : m + 1 ≡ suc m = omega arith in
        let begins : Begins (class_of s) (take m input ++ y ∷ []) = rw (number, take_next m input y ys i) at b in
        unfit s (take m input) y ys st n comes refuses begins
