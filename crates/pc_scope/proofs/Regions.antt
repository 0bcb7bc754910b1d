-- What the regions of code say of the blocks that they stand for.
use Rattle.std.proofs.Common.{◌≡◌, ◌≢◌, ℕ, suc, ◌<◌, ◌≤◌, Bool, true, false, List, [], ◌∷◌, refl, ap, sym, ◌∙◌, subst, length, get_or, drop, take, length-drop, ◌-◌, arith}
use Rattle.std.specs.Prelude.{Option, Some, None, slice_get, ◌==◌, ◌&&◌, if◌then◌else◌}
use Rattle.std.specs.Option.{option_and_then, option_or}
use Rattle.std.proofs.lemmas.Bool.Decides.{Decides-ltb, Decides-eqb}
use Rattle.std.proofs.lemmas.Option.{slice_get_read, slice_get_past}
use Rattle.std.proofs.lemmas.List.{take_all}
use lib.Dec.{ltb}
use Rattle.pc_scope.specs.Around.{Block, inner_block}
use Rattle.pc_scope.specs.Lookup.{Declaration, declared_here, declaration_in, entered}
use Rattle.pc_scope.specs.Stands.{inner_of, Both, Stands, StandsForBlock}
use Rattle.pc_scope.specs.Table.{first_of, declarations_in}
use Rattle.pc_scope.specs.declared.region.Region.{Region}
use Rattle.pc_scope.proofs.Chains.{Some-inj}
use Rattle.pc_scope.proofs.Firsts.{not-true}

-- what a look at an index of the regions says
pub got : (xs ys : List Region) (i : ℕ) (g : Region) → ys ≡ xs → true ≡ ltb i (length ys) → g ≡ get_or ys i g → slice_get xs i ≡ Some g
got xs ys i g e l is = ap (λ zs. slice_get zs i) (sym e) ∙ slice_get_read ys (length ys) i g refl ((Decides-ltb i (length ys)).0 (sym l)) is

pub got-none : (xs ys : List Region) (i : ℕ) → ys ≡ xs → false ≡ ltb i (length ys) → slice_get xs i ≡ None
got-none xs ys i e l = ap (λ zs. slice_get zs i) (sym e) ∙ slice_get_past ys i (let n : ¬ (i < length ys) = λ b. cc ((Decides-ltb i (length ys)).1 b) in omega arith)

-- a region that stands for a block
pub record IsOf (rs : List Region) (g : Region) (b : Block) : Type 0 where
  pub names : (n : List ℕ) → first_of n (declarations_in g.names.entries.items) ≡ declared_here n b
  pub number : g.number ≡ b.number
  pub inner : (n : ℕ) → Both (StandsForBlock rs) (inner_of g n) (inner_block b n)

both-all : (rs : List Region) (o : Option ℕ) (c : Option Block) → ((levels : ℕ) → Both (Stands levels rs) o c) → Both (StandsForBlock rs) o c
both-all rs None None h = tt
both-all rs (Some r) (Some b) h = h
both-all rs None (Some b) h = h 0
both-all rs (Some r) None h = h 0

module _ (rs : List Region) (r : ℕ) (b : Block) (stands : StandsForBlock rs r b) where
  pub region-there : (g : Region) × (slice_get rs r ≡ Some g)
  unfolding Stands
  region-there = let s = stands 1 in (s.0, s.1)

  pub no-region : slice_get rs r ≡ None → ⊥
  no-region e = cc (region-there.1)

  pub region-of : (g : Region) → slice_get rs r ≡ Some g → IsOf rs g b
  unfolding Stands
  region-of g is =
      let s = stands 1 in
      let same : s.0 ≡ g = Some-inj _ _ (sym s.1 ∙ is) in
      record {
        names = λ n. ap (λ x. first_of n (declarations_in x.names.entries.items)) (sym same) ∙ s.2 n;
        number = ap (λ x. x.number) (sym same) ∙ s.3;
        inner = λ n.
            both-all rs (inner_of g n) (inner_block b n)
            (λ levels.
            let u = stands (suc levels) in
            let P : Region → Type 0 = λ x. Both (Stands levels rs) (inner_of x n) (inner_block b n) in
            subst P (Some-inj _ _ (sym u.1 ∙ is)) (u.4 n));
      }

-- the block that the way enters, by the region of the routine
module _ (rs : List Region) (k : ℕ) where
  enters-some : (r : ℕ) (c : Block) → StandsForBlock rs r c → (n : Bool) → Both (StandsForBlock rs) (if n then Some r else None) (if n then Some c else None)
  enters-some r c h true = h
  enters-some r c h false = tt

  -- the region of a routine, where the test says whether its block has the number
  pub enters-by : (r : ℕ) (c : Option Block) → Both (StandsForBlock rs) (Some r) c → (n : Bool) → ((d : Block) → StandsForBlock rs r d → n ≡ (d.number == k)) →
      Both (StandsForBlock rs) (if n then Some r else None) (option_and_then (λ x. if x.number == k then Some x else None) c)
  enters-by r None h n e = absurd h
  enters-by r (Some c) h n e =
      let P : Bool → Type 0 = λ t. Both (StandsForBlock rs) (if n then Some r else None) (if t then Some c else None) in
      subst P (e c h) (enters-some r c h n)

-- the declaration found in the block that the way enters, or else that found here
pub entered-found : (rs : List Region) (o : Option ℕ) (c : Option Block) (below : Block → Option Declaration) (here : Option Declaration) (r : ℕ) (found : Option Declaration) →
    Both (StandsForBlock rs) o c → o ≡ Some r → ((d : Block) → StandsForBlock rs r d → found ≡ below d) →
    option_or found here ≡ elim c as (λ x. Option Declaration) [ None ↦ here | Some d ↦ option_or (below d) here ]
entered-found rs None c below here r found h e f = cc
entered-found rs (Some q) None below here r found h e f = absurd h
entered-found rs (Some q) (Some d) below here r found h e f =
    let P : ℕ → Type 0 = λ x. StandsForBlock rs x d in
    ap (λ x. option_or x here) (f d (subst P (Some-inj q r e) h))

pub entered-none : (rs : List Region) (o : Option ℕ) (c : Option Block) (below : Block → Option Declaration) (here : Option Declaration) →
    Both (StandsForBlock rs) o c → o ≡ None → here ≡ elim c as (λ x. Option Declaration) [ None ↦ here | Some d ↦ option_or (below d) here ]
entered-none rs None None below here h e = refl
entered-none rs None (Some d) below here h e = absurd h
entered-none rs (Some q) c below here h e = cc

module _ (n : List ℕ) (b : Block) where
  -- a way that is too short to enter a block
  pub way-short : (way : List ℕ) → length way < 3 → declared_here n b ≡ declaration_in n b way
  unfolding declaration_in
  way-short [] l = refl
  way-short (a ∷ []) l = refl
  way-short (a ∷ i ∷ []) l = refl
  way-short (a ∷ i ∷ k ∷ way) l = absurd (omega arith)

  -- a longer way
  pub way-long : (way : List ℕ) → 3 ≤ length way → declaration_in n b way ≡
      elim (entered b (get_or way 0 0) (get_or way 1 0) (get_or way 2 0)) as (λ x. Option Declaration) [ None ↦ declared_here n b | Some c ↦ option_or (declaration_in n c (drop 3 way)) (declared_here n b) ]
  unfolding declaration_in
  way-long [] l = absurd (omega arith)
  way-long (a ∷ []) l = absurd (omega arith)
  way-long (a ∷ i ∷ []) l = absurd (omega arith)
  way-long (a ∷ i ∷ k ∷ way) l = refl

not-eq : (a b : ℕ) → a ≢ b → (a == b) ≡ false
not-eq a b e = not-true (a == b) (λ t. e ((Decides-eqb a b).0 t))

entered-by-none : (c : Option Block) (t : Block → Bool) → ((d : Block) → t d ≡ false) → option_and_then (λ d. if t d then Some d else None) c ≡ None
entered-by-none None t f = refl
entered-by-none (Some d) t f = rw (f d) refl

-- a way that leads elsewhere than to a routine
pub entered-other : (b : Block) (a i k : ℕ) → a ≢ 4 → entered b a i k ≡ None
entered-other b a i k e = entered-by-none (inner_block b i) (λ d. a == 4 && d.number == k) (λ d. let f : (a == 4) ≡ false = not-eq a 4 e in rw f refl)

-- the rest of a way, as a slice of it is written
pub rest-is : (way : List ℕ) → take (length way - 3) (drop 3 way) ≡ drop 3 way
rest-is way = take_all (length way - 3) (drop 3 way) (omega (arith, length-drop 3 way))

-- the declaration on a way of three steps or more, as the steps tell
module _ (rs : List Region) (n : List ℕ) (b : Block) (way : List ℕ) (long : 3 ≤ length way) where
  pub way-elsewhere : get_or way 0 0 ≢ 4 → declared_here n b ≡ declaration_in n b way
  way-elsewhere e =
      let F : Option Block → Option Declaration = λ o. elim o as (λ x. Option Declaration) [ None ↦ declared_here n b | Some c ↦ option_or (declaration_in n c (drop 3 way)) (declared_here n b) ] in
      sym (way-long n b way long ∙ ap F (entered-other b (get_or way 0 0) (get_or way 1 0) (get_or way 2 0) e))

  module _ (four : get_or way 0 0 ≡ 4) (o : Option ℕ) (both : Both (StandsForBlock rs) o (entered b 4 (get_or way 1 0) (get_or way 2 0))) where
    to-four : declaration_in n b way ≡
        elim (entered b 4 (get_or way 1 0) (get_or way 2 0)) as (λ x. Option Declaration) [ None ↦ declared_here n b | Some c ↦ option_or (declaration_in n c (drop 3 way)) (declared_here n b) ]
    to-four =
        let F : ℕ → Option Declaration = λ a. elim (entered b a (get_or way 1 0) (get_or way 2 0)) as (λ x. Option Declaration) [ None ↦ declared_here n b | Some c ↦ option_or (declaration_in n c (drop 3 way)) (declared_here n b) ] in
        way-long n b way long ∙ ap F four

    pub way-missed : o ≡ None → declared_here n b ≡ declaration_in n b way
    way-missed e = entered-none rs o (entered b 4 (get_or way 1 0) (get_or way 2 0)) (λ d. declaration_in n d (drop 3 way)) (declared_here n b) both e ∙ sym to-four

    pub way-entered : (r : ℕ) (found : Option Declaration) → o ≡ Some r → ((d : Block) → StandsForBlock rs r d → found ≡ declaration_in n d (drop 3 way)) → option_or found (declared_here n b) ≡ declaration_in n b way
    way-entered r found e f = entered-found rs o (entered b 4 (get_or way 1 0) (get_or way 2 0)) (λ d. declaration_in n d (drop 3 way)) (declared_here n b) r found both e f ∙ sym to-four
