-- What is declared, node by node.
use Rattle.std.proofs.Common.{◌≡◌, ℕ, suc, ◌+◌, ◌-◌, ◌<◌, ◌≤◌, ◌⊎◌, inl, inr, Bool, true, false, List, [], ◌∷◌, ◌++◌, length, take, drop, refl, ap, sym, ◌∙◌, append_assoc, append-nil, length-append, arith, add-one, get_or}
use Rattle.std.proofs.lemmas.List.{drop_all, drop_more}
use Rattle.std.proofs.Math.Seq.{take-append_seam}
use Rattle.std.specs.Prelude.{Option, None, if◌then◌else◌}
use Rattle.pc_syntax.specs.declared.kind.Kind.{Kind}
use Rattle.pc_syntax.specs.declared.kind.Kind.TheVariants as kind
use Rattle.pc_syntax.specs.Plain.{Forest, Nil, Cons, Plain, forest_of, kids_of, count}
use Rattle.pc_syntax.specs.PartsLaws.{forest_of-kids_of, small-kids, length-kids_of}
use Rattle.pc_syntax.specs.WellFormed.{IsProper}
use Rattle.pc_syntax.specs.Sorts.{is_hole}
use Rattle.pc_scope.specs.Declarations.{Declared, names_at, declared_by_node, declared_at}
use Rattle.pc_scope.specs.Entries.{above, definition_of, declared_by_name, declared_by, is_declarer, IsSilent, IsSilentBelow}
use Rattle.pc_scope.specs.Headings.{is_routine_kind}

-- the place above a kid's
pub above-kid : (p : List ℕ) (i : ℕ) → above (p ++ i ∷ []) ≡ p
above-kid p i =
    let e : length (p ++ i ∷ []) - 1 ≡ length p = omega (arith, length-append p (i ∷ [])) in
    ap (λ n. take n (p ++ i ∷ [])) e ∙ take-append_seam p (i ∷ [])

-- A list that is gathered from trees in order, where `F j ts` is what the trees give, the first of number `j`, and `one j t` what one gives.
module _ (F : ℕ → List Plain → List Declared) (one : ℕ → Plain → List Declared) where
  -- with what one more tree gives, what the trees behind it give is left
  pub gather-more : (cons : (j : ℕ) (t : Plain) (ts : List Plain) → F j (t ∷ ts) ≡ one j t ++ F (j + 1) ts) (ts : List Plain) (i : ℕ) (t : Plain) (a a' whole : List Declared) →
      i < length ts → t ≡ get_or ts i t → a ++ F (i + 1) (drop i ts) ≡ whole → a' ≡ a ++ one (i + 1) t → a' ++ F (i + 1 + 1) (drop (i + 1) ts) ≡ whole
  gather-more cons ts i t a a' whole below is left new =
      let first : drop i ts ≡ t ∷ drop (i + 1) ts = drop_more ts i t below ∙ ap (λ k. k ∷ drop (i + 1) ts) (sym is) in
      let split : F (i + 1) (drop i ts) ≡ one (i + 1) t ++ F (i + 1 + 1) (drop (i + 1) ts) = ap (F (i + 1)) first ∙ cons (i + 1) t (drop (i + 1) ts) in
      ap (λ x. x ++ F (i + 1 + 1) (drop (i + 1) ts)) new ∙ append_assoc a (one (i + 1) t) (F (i + 1 + 1) (drop (i + 1) ts)) ∙ ap (λ x. a ++ x) (sym split) ∙ left

  -- with no tree left all is there
  pub gather-end : (none : (j : ℕ) → F j [] ≡ []) (ts : List Plain) (i : ℕ) (a whole : List Declared) → length ts ≤ i → a ++ F (i + 1) (drop i ts) ≡ whole → a ≡ whole
  gather-end none ts i a whole past left =
      let e : a ++ F (i + 1) (drop i ts) ≡ a = ap (λ us. a ++ F (i + 1) us) (drop_all i ts past) ∙ ap (λ x. a ++ x) (none (i + 1)) ∙ append-nil a in
      sym e ∙ left

names-by : (b : Bool) (d : Declared) (rest : List Declared) → (if b then rest else d ∷ rest) ≡ (if b then [] else d ∷ []) ++ rest
names-by true d rest = refl
names-by false d rest = refl

-- the first name of a list and the names behind
names_at-cons : (d : Option (List ℕ)) (p : List ℕ) (j : ℕ) (t : Plain) (ts : List Plain) →
    names_at d p j (forest_of (t ∷ ts)) ≡ declared_by_name d (p ++ j ∷ []) t ++ names_at d p (j + 1) (forest_of ts)
names_at-cons d p j t ts = rw add-one (names-by (is_hole t.kind) _ (names_at d p (suc j) (forest_of ts)))

-- the first node and the nodes behind
declared_at-cons : (p : List ℕ) (i : ℕ) (t : Plain) (ts : List Plain) →
    declared_at p i (forest_of (t ∷ ts)) ≡ declared_by (p ++ i ∷ []) t ++ declared_at p (i + 1) (forest_of ts)
declared_at-cons p i t ts = rw add-one refl

-- names gathered from a list
module _ (p : List ℕ) where
  pub names-more : (ts : List Plain) (i : ℕ) (t : Plain) (a a' whole : List Declared) →
      i < length ts → t ≡ get_or ts i t → a ++ names_at None p (i + 1) (forest_of (drop i ts)) ≡ whole → a' ≡ a ++ declared_by_name None (p ++ (i + 1) ∷ []) t →
      a' ++ names_at None p (i + 1 + 1) (forest_of (drop (i + 1) ts)) ≡ whole
  names-more = gather-more (λ j ts. names_at None p j (forest_of ts)) (λ j t. declared_by_name None (p ++ j ∷ []) t) (names_at-cons None p)

  pub names-end : (ts : List Plain) (i : ℕ) (a whole : List Declared) → length ts ≤ i → a ++ names_at None p (i + 1) (forest_of (drop i ts)) ≡ whole → a ≡ whole
  names-end = gather-end (λ j ts. names_at None p j (forest_of ts)) (λ j t. declared_by_name None (p ++ j ∷ []) t) (λ j. refl)

  pub below-more : (ts : List Plain) (i : ℕ) (t : Plain) (a a' whole : List Declared) →
      i < length ts → t ≡ get_or ts i t → a ++ declared_at p (i + 1) (forest_of (drop i ts)) ≡ whole → a' ≡ a ++ declared_by (p ++ (i + 1) ∷ []) t →
      a' ++ declared_at p (i + 1 + 1) (forest_of (drop (i + 1) ts)) ≡ whole
  below-more = gather-more (λ j ts. declared_at p j (forest_of ts)) (λ j t. declared_by (p ++ j ∷ []) t) (declared_at-cons p)

  pub below-end : (ts : List Plain) (i : ℕ) (a whole : List Declared) → length ts ≤ i → a ++ declared_at p (i + 1) (forest_of (drop i ts)) ≡ whole → a ≡ whole
  below-end = gather-end (λ j ts. declared_at p j (forest_of ts)) (λ j t. declared_by (p ++ j ∷ []) t) (λ j. refl)

-- a node that is no declarer has no names of its own
declarer-none : (k : Kind) (q : List ℕ) (ks : Forest) → is_declarer k ≡ false → declared_by_node k q ks ≡ []
declarer-none kind.Constdef q ks e = cc
declarer-none kind.Typedef q ks e = cc
declarer-none kind.Vardef q ks e = cc
declarer-none kind.Enum q ks e = cc
declarer-none kind.Valparam q ks e = cc
declarer-none kind.Varparam q ks e = cc
declarer-none kind.Procedure q ks e = cc
declarer-none kind.Function q ks e = cc
declarer-none kind.Funbody q ks e = cc
declarer-none _ q ks e = refl

if-none : (b : Bool) (ds : List Declared) → ds ≡ [] → (if b then [] else ds) ≡ []
if-none true ds e = refl
if-none false ds e = e

-- a node that is no declarer, with nothing declared below it, is silent
pub silent-node : (t : Plain) → is_declarer t.kind ≡ false → IsSilentBelow t → IsSilent t
silent-node t e h = λ q. rw (declarer-none t.kind q t.kids e) (if-none (is_routine_kind t.kind) (declared_at q 1 t.kids) (h q))

-- nodes that are all silent declare nothing
pub silent-forest : (ts : List Plain) → ((j : ℕ) (d : Plain) → j < length ts → IsSilent (get_or ts j d)) → (q : List ℕ) (i : ℕ) → declared_at q i (forest_of ts) ≡ []
silent-forest [] h q i = refl
silent-forest (t ∷ ts) h q i =
    declared_at-cons q i t ts ∙ ap (λ x. x ++ declared_at q (i + 1) (forest_of ts)) (h 0 t (omega arith) (q ++ i ∷ []))
    ∙ silent-forest ts (λ j d l. h (suc j) d (omega arith)) q (i + 1)

-- the kids of a tree, from the first on
pub names-start : (p : List ℕ) (t : Plain) (ts : List Plain) (a : List Declared) → ts ≡ kids_of t → a ++ names_at None p (0 + 1) (forest_of (drop 0 ts)) ≡ a ++ names_at None p 1 t.kids
names-start p t ts a e = ap (λ us. a ++ names_at None p 1 (forest_of us)) e ∙ ap (λ us. a ++ names_at None p 1 us) (forest_of-kids_of t)

pub below-start : (p : List ℕ) (t : Plain) (ts : List Plain) (a : List Declared) → ts ≡ kids_of t → a ++ declared_at p (0 + 1) (forest_of (drop 0 ts)) ≡ a ++ declared_at p 1 t.kids
below-start p t ts a e = ap (λ us. a ++ declared_at p 1 (forest_of us)) e ∙ ap (λ us. a ++ declared_at p 1 us) (forest_of-kids_of t)

-- a kid's number fits
pub kid-below : (t : Plain) (ts : List Plain) (i : ℕ) → ts ≡ kids_of t → IsProper t → i < length ts → i + 1 < 1000001
kid-below t ts i e h l = let small : length ts < 1000000 = rw e (small-kids t h) in omega arith

-- what a routine declares around it, and what any other node with all below it declares
pub node-routine : (q : List ℕ) (t : Plain) (a a' : List Declared) → is_routine_kind t.kind ≡ true → a' ≡ a ++ declared_by_node t.kind q t.kids → a' ≡ a ++ declared_by q t
node-routine q t a a' r own = rw r (own ∙ ap (λ x. a ++ x) (sym (append-nil (declared_by_node t.kind q t.kids))))

pub node-other : (q : List ℕ) (t : Plain) (a a' a'' : List Declared) → is_routine_kind t.kind ≡ false →
    a' ≡ a ++ declared_by_node t.kind q t.kids → a'' ≡ a' ++ declared_at q 1 t.kids → a'' ≡ a ++ declared_by q t
node-other q t a a' a'' r own below =
    rw r (below ∙ ap (λ x. x ++ declared_at q 1 t.kids) own ∙ append_assoc a (declared_by_node t.kind q t.kids) (declared_at q 1 t.kids))

-- the name that a definition or a routine declares, and the names that other nodes declare
module _ (q : List ℕ) (t : Plain) (first : Plain) (rest : List Plain) (is : kids_of t ≡ first ∷ rest) where
  kids-are : t.kids ≡ forest_of (first ∷ rest)
  kids-are = sym (forest_of-kids_of t) ∙ ap forest_of is

  pub own-definition : (t.kind ≡ kind.Constdef) ⊎ (t.kind ≡ kind.Typedef) → declared_by_name (definition_of true (q ++ 1 ∷ [])) (q ++ 1 ∷ []) first ≡ declared_by_node t.kind q t.kids
  own-definition (inl e) = rw (e, kids-are, above-kid q 1) refl
  own-definition (inr e) = rw (e, kids-are, above-kid q 1) refl

  pub own-routine : (t.kind ≡ kind.Procedure) ⊎ ((t.kind ≡ kind.Function) ⊎ (t.kind ≡ kind.Funbody)) → declared_by_name (definition_of false (q ++ 1 ∷ [])) (q ++ 1 ∷ []) first ≡ declared_by_node t.kind q t.kids
  own-routine (inl e) = rw (e, kids-are) refl
  own-routine (inr (inl e)) = rw (e, kids-are) refl
  own-routine (inr (inr e)) = rw (e, kids-are) refl

  pub own-names : (t.kind ≡ kind.Vardef) ⊎ ((t.kind ≡ kind.Enum) ⊎ ((t.kind ≡ kind.Valparam) ⊎ (t.kind ≡ kind.Varparam))) → names_at None (q ++ 1 ∷ []) 1 first.kids ≡ declared_by_node t.kind q t.kids
  own-names (inl e) = rw (e, kids-are) refl
  own-names (inr (inl e)) = rw (e, kids-are) refl
  own-names (inr (inr (inl e))) = rw (e, kids-are) refl
  own-names (inr (inr (inr e))) = rw (e, kids-are) refl

own-empty : (k : Kind) (q : List ℕ) → declared_by_node k q Nil ≡ []
own-empty kind.Constdef q = refl
own-empty kind.Typedef q = refl
own-empty kind.Vardef q = refl
own-empty kind.Enum q = refl
own-empty kind.Valparam q = refl
own-empty kind.Varparam q = refl
own-empty kind.Procedure q = refl
own-empty kind.Function q = refl
own-empty kind.Funbody q = refl
own-empty _ q = refl

empty : (ts : Forest) → count ts < 1 → ts ≡ Nil
empty Nil l = refl
empty (Cons k w ns ks ts) l = absurd (omega arith)

-- a node without kids has no names of its own
pub own-none : (q : List ℕ) (t : Plain) (ts : List Plain) (a : List Declared) → ts ≡ kids_of t → length ts < 1 → a ≡ a ++ declared_by_node t.kind q t.kids
own-none q t ts a e l =
    let none : t.kids ≡ Nil = empty t.kids (omega (arith, l, ap length e, length-kids_of t)) in
    sym (append-nil a) ∙ ap (λ x. a ++ x) (sym (own-empty t.kind q) ∙ ap (declared_by_node t.kind q) (sym none))

-- the first kid
pub first-kid : (t : Plain) (ts : List Plain) (first : Plain) → ts ≡ kids_of t → 1 ≤ length ts → first ≡ get_or ts 0 first → kids_of t ≡ first ∷ drop (0 + 1) ts
first-kid t ts first e l is = sym e ∙ drop_more ts 0 first (omega arith) ∙ ap (λ k. k ∷ drop (0 + 1) ts) (sym is)
