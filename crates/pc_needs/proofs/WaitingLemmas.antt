-- Names that stand before, and forward headings that wait for their later declarations.
use Rattle.std.specs.Prelude.{ℕ, ◌≡◌, Bool, true, false, ◌||◌, ◌==◌, if◌then◌else◌, List, [], ◌∷◌, length, get_or, Some, ◌++◌, ◌⊎◌}
use Rattle.std.specs.Option.{is_some, option_and_then}
use Rattle.std.specs.Str.{bytes_eq}
use Rattle.std.proofs.Common.{refl, ap, sym, subst, ◌∙◌, true≢false, inl, inr}
use Rattle.std.proofs.lemmas.Bool.{or_right}
use Rattle.std.proofs.lemmas.Slice.Eq.{bytes_eq-Decides}
use Rattle.pc_syntax.specs.declared.kind.Kind.{Kind}
use Rattle.pc_syntax.specs.declared.kind.Kind.TheVariants as kind
use Rattle.pc_syntax.specs.Plain.{Forest, Nil, Cons}
use Rattle.pc_syntax.specs.Sorts.{is_hole}
use Rattle.pc_syntax.specs.Words.{is_among, lowered}
use Rattle.pc_scope.specs.Headings.{Heading, pairs, first_name}
use Rattle.pc_rules.specs.Attributes.{Attributes, Node, first, nodes, missing}
use Rattle.pc_rules.specs.Declarations.{is_later_declaration, rest_of}
use Rattle.pc_rules.specs.DeclaringNames.{declares}
use Rattle.pc_rules.specs.Decorated.{rule, decorate}
use Rattle.pc_rules.specs.Meanings.{Meaning, Found, Local, Outside, define, define_all}
use Rattle.pc_rules.specs.OwnBlock.{own, bare_heading}
use Rattle.pc_rules.specs.Places.{inner, beside}
use Rattle.pc_rules.specs.RoutineList.{Forwarded, forwarded_for, without_forwarded, ARoutine, part_of}
use Rattle.pc_rules.specs.Routines.{bare}
use Rattle.pc_needs.proofs.KeyLemmas.{Key, none-some, paired-name}
use Rattle.pc_needs.proofs.ParameterLemmas.{not-none, not-all}

-- ---- names that stand before

among-front : (xs ys : List (List ℕ)) (n : List ℕ) → is_among xs n ≡ true → is_among (xs ++ ys) n ≡ true
among-front [] ys n e = absurd (true≢false (sym e))
among-front (x ∷ xs) ys n e = which (among-front xs ys n) (bytes_eq x n) e where
  which : (is_among xs n ≡ true → is_among (xs ++ ys) n ≡ true) → (b : Bool) → (b || is_among xs n) ≡ true → (b || is_among (xs ++ ys) n) ≡ true
  which rest true p = refl
  which rest false p = rest p

among-last : (xs : List (List ℕ)) (n : List ℕ) → is_among (xs ++ n ∷ []) n ≡ true
among-last [] n = which (bytes_eq n n) ((bytes_eq-Decides n n).1 refl) where
  which : (b : Bool) → b ≡ true → (b || false) ≡ true
  which true e = refl
  which false e = e
among-last (x ∷ xs) n = or_right (bytes_eq x n) _ (among-last xs n)

pub define_all-keeps : (l : Local) (ds : List (List ℕ × Meaning)) (n : List ℕ) → is_among l.passed n ≡ true → is_among (define_all l ds).passed n ≡ true
define_all-keeps l [] n e = e
define_all-keeps l (d ∷ ds) n e = define_all-keeps (define l d.0 d.1) ds n (among-front l.passed (d.0 ∷ []) n e)

define_all-ahead : (l : Local) (ds : List (List ℕ × Meaning)) → (define_all l ds).ahead ≡ l.ahead
define_all-ahead l [] = refl
define_all-ahead l (d ∷ ds) = define_all-ahead (define l d.0 d.1) ds

-- ---- behind a routine

pub routine-passed : (l : Local) (k : Kind) (a : Attributes) → part_of k ≡ ARoutine → (beside l k a).passed ≡ (define_all l a.defines).passed
routine-passed l kind.Procedure a p = refl
routine-passed l kind.Function a p = refl
routine-passed l kind.Funbody a p = refl
routine-passed l kind.Routines a p = absurd (not-all p)
routine-passed l k a p = absurd (not-none p)

pub routine-ahead : (l : Local) (k : Kind) (a : Attributes) → part_of k ≡ ARoutine → (beside l k a).ahead ≡ rest_of l.ahead
routine-ahead l kind.Procedure a p = ap rest_of (define_all-ahead l a.defines)
routine-ahead l kind.Function a p = ap rest_of (define_all-ahead l a.defines)
routine-ahead l kind.Funbody a p = ap rest_of (define_all-ahead l a.defines)
routine-ahead l kind.Routines a p = absurd (not-all p)
routine-ahead l k a p = absurd (not-none p)

-- the name of a routine that declares it stands before what is behind
passes : (l : Local) (later b : Bool) (n : List ℕ) (m : Meaning) → later ≡ false → b ≡ false → is_among (define_all l (if later then [] else (if b then [] else (n, m) ∷ []))).passed n ≡ true
passes l true b n m e f = absurd (true≢false e)
passes l false true n m e f = absurd (true≢false f)
passes l false false n m e f = among-last l.passed n

first-node : (out : Outside) (l : Local) (k : Kind) (w : List ℕ) (ns : List (List ℕ)) (ks ts : Forest) →
    ((get_or (nodes (decorate out l (bare_heading (Cons k w ns ks ts)))) 0 missing).kind ≡ k) × ((get_or (nodes (decorate out l (bare_heading (Cons k w ns ks ts)))) 0 missing).word ≡ w)
unfolding decorate rule
first-node out l kind.Params w ns ks ts = (refl, refl)
first-node out l kind.Block w ns ks ts = (refl, refl)
first-node out l k w ns ks ts = (refl, refl)

node-passes : (l : Local) (later : Bool) (x : Node) (m : Meaning) (k : Kind) (w n : List ℕ) → later ≡ false → x.kind ≡ k → x.word ≡ w → is_hole k ≡ false → lowered w ≡ n →
    is_among (define_all l (if later then [] else declares x m)).passed n ≡ true
node-passes l later x m k w n e f g h i =
    subst (λ (v : List ℕ). is_among (define_all l (if later then [] else declares x m)).passed v ≡ true) (ap lowered g ∙ i)
    (passes l later (is_hole x.kind) (lowered x.word) m e (ap is_hole f ∙ h))

named-node : (k : Kind) (w : List ℕ) → (length (if is_hole k then [] else lowered w) == 0) ≡ false → is_hole k ≡ false
named-node k w e = which (is_hole k) refl e where
  which : (b : Bool) → is_hole k ≡ b → (length (if b then [] else lowered w) == 0) ≡ false → is_hole k ≡ false
  which true p q = absurd (true≢false q)
  which false p q = p

named-word : (b : Bool) (w : List ℕ) → b ≡ false → lowered w ≡ (if b then [] else lowered w)
named-word true w e = absurd (true≢false e)
named-word false w e = refl

pub name-defined : (m : List ℕ → Found) (l : Local) (k : Kind) (v : List ℕ) (ns : List (List ℕ)) (ks : Forest) → part_of k ≡ ARoutine → is_later_declaration l ≡ false →
    (length (first_name ks) == 0) ≡ false → is_among (define_all l (first (decorate (bare m) l (own (Cons k v ns ks Nil)))).defines).passed (first_name ks) ≡ true
unfolding own decorate rule
name-defined m l k v ns Nil p e h = absurd (true≢false h)
name-defined m l kind.Procedure v ns (Cons j w ms js ts) p e h =
    let x = first-node (bare m) (inner l kind.Procedure (bare_heading (Cons j w ms js ts))) j w ms js ts in
    let hole = named-node j w h in
    node-passes l (is_later_declaration l) (get_or (nodes (decorate (bare m) (inner l kind.Procedure (bare_heading (Cons j w ms js ts))) (bare_heading (Cons j w ms js ts)))) 0 missing) _ j w _ e x.0 x.1 hole (named-word (is_hole j) w hole)
name-defined m l kind.Function v ns (Cons j w ms js ts) p e h =
    let x = first-node (bare m) (inner l kind.Function (bare_heading (Cons j w ms js ts))) j w ms js ts in
    let hole = named-node j w h in
    node-passes l (is_later_declaration l) (get_or (nodes (decorate (bare m) (inner l kind.Function (bare_heading (Cons j w ms js ts))) (bare_heading (Cons j w ms js ts)))) 0 missing) _ j w _ e x.0 x.1 hole (named-word (is_hole j) w hole)
name-defined m l kind.Funbody v ns (Cons j w ms js ts) p e h =
    let x = first-node (bare m) (inner l kind.Funbody (bare_heading (Cons j w ms js ts))) j w ms js ts in
    let hole = named-node j w h in
    node-passes l (is_later_declaration l) (get_or (nodes (decorate (bare m) (inner l kind.Funbody (bare_heading (Cons j w ms js ts))) (bare_heading (Cons j w ms js ts)))) 0 missing) _ j w _ e x.0 x.1 hole (named-word (is_hole j) w hole)
name-defined m l kind.Routines v ns (Cons j w ms js ts) p e h = absurd (not-all p)
name-defined m l k v ns (Cons j w ms js ts) p e h = absurd (not-none p)

-- ---- forward headings that wait

-- one that has a key has this name
abbrev pub Waits : List Forwarded → List ℕ → Type 0
Waits [] n = ⊥
Waits (f ∷ fs) n = ((is_some f.key ≡ true) × (f.heading.name ≡ n)) ⊎ Waits fs n

-- those that have keys have different names
abbrev pub WaitApart : List Forwarded → Type 0
WaitApart [] = Unit {0}
WaitApart (f ∷ fs) = (is_some f.key ≡ true → Waits fs f.heading.name → ⊥) × WaitApart fs

pub waits-split : (fs gs : List Forwarded) (n : List ℕ) → Waits (fs ++ gs) n → Waits fs n ⊎ Waits gs n
waits-split [] gs n w = inr w
waits-split (f ∷ fs) gs n (inl h) = inl (inl h)
waits-split (f ∷ fs) gs n (inr w) = which (waits-split fs gs n w) where
  which : Waits fs n ⊎ Waits gs n → Waits (f ∷ fs) n ⊎ Waits gs n
  which (inl x) = inl (inr x)
  which (inr x) = inr x

waits-in : (b : Bool) (f : Forwarded) (fs gs : List Forwarded) (n : List ℕ) → (Waits fs n → Waits gs n) → Waits (if b then fs else f ∷ fs) n → Waits (f ∷ gs) n
waits-in true f fs gs n g w = inr (g w)
waits-in false f fs gs n g (inl h) = inl h
waits-in false f fs gs n g (inr w) = inr (g w)

pub without-waits : (h : Heading) (fs : List Forwarded) (n : List ℕ) → Waits (without_forwarded h fs) n → Waits fs n
without-waits h [] n w = w
without-waits h (f ∷ fs) n w = waits-in (pairs h f.heading) f (without_forwarded h fs) fs n (without-waits h fs n) w

pub without-apart : (h : Heading) (fs : List Forwarded) → WaitApart fs → WaitApart (without_forwarded h fs)
without-apart h [] a = tt
without-apart h (f ∷ fs) a = which (without-apart h fs a.1) (pairs h f.heading) where
  which : WaitApart (without_forwarded h fs) → (b : Bool) → WaitApart (if b then without_forwarded h fs else f ∷ without_forwarded h fs)
  which rest true = rest
  which rest false = ((λ s w. a.0 s (without-waits h fs f.heading.name w)), rest)

pub append-apart : (fs : List Forwarded) (f : Forwarded) → WaitApart fs → (is_some f.key ≡ true → Waits fs f.heading.name → ⊥) → WaitApart (fs ++ f ∷ [])
append-apart [] f a h = ((λ s w. w), tt)
append-apart (g ∷ fs) f a h = ((λ s w. which (waits-split fs (f ∷ []) g.heading.name w) s), append-apart fs f a.1 (λ s w. h s (inr w))) where
  which : Waits fs g.heading.name ⊎ Waits (f ∷ []) g.heading.name → is_some g.key ≡ true → ⊥
  which (inl w) s = a.0 s w
  which (inr (inl p)) s = h p.0 (inl (s, sym p.1))
  which (inr (inr w)) s = w

-- the key of the one that a heading pairs with
pub forwarded-waits-for : (h : Heading) (fs : List Forwarded) (k : Key) → option_and_then (λ (x : Forwarded). x.key) (forwarded_for h fs) ≡ Some k → Waits fs h.name
forwarded-waits-for h [] k e = absurd (none-some k e)
forwarded-waits-for h (f ∷ fs) k e = which (forwarded-waits-for h fs k) (pairs h f.heading) refl e where
  which : (option_and_then (λ (x : Forwarded). x.key) (forwarded_for h fs) ≡ Some k → Waits fs h.name) → (b : Bool) → pairs h f.heading ≡ b →
      option_and_then (λ (x : Forwarded). x.key) (if b then Some f else forwarded_for h fs) ≡ Some k → Waits (f ∷ fs) h.name
  which rest true p q = inl (ap is_some q, paired-name h f.heading p)
  which rest false p q = inr (rest q)

-- behind a later declaration no other waits with its name
pub later-alone : (h : Heading) (fs : List Forwarded) (k : Key) → WaitApart fs → option_and_then (λ (x : Forwarded). x.key) (forwarded_for h fs) ≡ Some k →
    Waits (without_forwarded h fs) h.name → ⊥
later-alone h [] k a e w = w
later-alone h (f ∷ fs) k a e w = which (later-alone h fs k a.1) (pairs h f.heading) refl e w where
  which : (option_and_then (λ (x : Forwarded). x.key) (forwarded_for h fs) ≡ Some k → Waits (without_forwarded h fs) h.name → ⊥) → (b : Bool) → pairs h f.heading ≡ b →
      option_and_then (λ (x : Forwarded). x.key) (if b then Some f else forwarded_for h fs) ≡ Some k → Waits (if b then without_forwarded h fs else f ∷ without_forwarded h fs) h.name → ⊥
  which rest true p q v = a.0 (ap is_some q) (subst (Waits fs) (sym (paired-name h f.heading p)) (without-waits h fs h.name v))
  which rest false p q (inl v) = a.0 v.0 (subst (Waits fs) (sym v.1) (forwarded-waits-for h fs k q))
  which rest false p q (inr v) = rest q v
