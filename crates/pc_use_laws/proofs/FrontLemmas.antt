-- Nothing is open in headings and in declarations.
use Rattle.std.specs.Prelude.{ℕ, zero, suc, ◌≡◌, ◌+◌, Bool, true, false, ◌||◌, List, [], ◌∷◌, ◌++◌, Option, Some, None, slice_get}
use Rattle.std.specs.Option.{option_map_or}
use Rattle.std.proofs.Common.{refl, ap, sym, subst, ◌∙◌, true≢false, arith, append_assoc}
use Rattle.std.proofs.lemmas.Bool.{and_parts}
use Rattle.pc_syntax.specs.declared.kind.Kind.{Kind}
use Rattle.pc_syntax.specs.declared.kind.Kind.TheVariants as kind
use Rattle.pc_syntax.specs.declared.class.Class.TheVariants as class
use Rattle.pc_syntax.specs.Classes.{has}
use Rattle.pc_syntax.specs.Fits.{takes, takes_from}
use Rattle.pc_syntax.specs.Layout.{layout}
use Rattle.pc_syntax.specs.Parts.{kid_at}
use Rattle.pc_syntax.specs.Places.{at}
use Rattle.pc_syntax.specs.Plain.{Forest, Nil, Cons, Plain, count, kinds, trees_of, kids_of}
use Rattle.pc_syntax.specs.Slots.{class_from}
use Rattle.pc_syntax.specs.WellFormed.{WellFormed, IsWellFormed, IsProper, fits_some}
use Rattle.pc_scope.specs.Blocks.{kid_count}
use Rattle.pc_decl.specs.Annotated.{Annotation, annotated}
use Rattle.pc_decl.specs.Uses.{opened_on, opened_at}
use Rattle.pc_needs.proofs.BodyKinds.{Passes, node-takes}
use Rattle.pc_needs.proofs.BodyParts.{BlockLast}
use Rattle.pc_needs.proofs.HeadingKinds.{is_the_block}
use Rattle.pc_decl_laws.proofs.LeadLemmas.{tree_of}
use Rattle.pc_decl_laws.proofs.TypeLemmas.{each-among}
use Rattle.pc_use_laws.specs.OpenedSteps.{opens_nothing, HeadingLaw, DeclarationLaw, OpenedLaw}
use Rattle.pc_use_laws.proofs.ClearLemmas.{routine-law, part-law, block-law}
use Rattle.pc_use_laws.proofs.OpenedLemmas.{kid-well, at-below, nothing-opened, nothing-accesses, kid-law, statement-law, accesses-law, access-law}
use Rattle.pc_use_laws.proofs.QuietKindLemmas.{is_quiet, class-quiet, quiet-opens}
use Rattle.pc_use_laws.proofs.QuietLemmas.{AllQuiet, quiet-below, is_quiet_or_block, heading-parts, heading-opens}
use Rattle.pc_use_laws.proofs.SeatLemmas.{IsSeated, annotations-seated}
use Rattle.pc_use_laws.proofs.SitLemmas.{Sits, sits-kids}

-- ---- below a node of a quiet kind

-- it opens nothing, nor does what is below it
abbrev IsQuietNode : Plain → Type 0
IsQuietNode x = (is_quiet x.kind ≡ true) × AllQuiet x.kids

quiet-kid : (f : Forest) (i : ℕ) (y : Plain) → AllQuiet f → slice_get (trees_of f) i ≡ Some y → IsQuietNode y
quiet-kid Nil i y h e = cc e
quiet-kid (Cons k w ns ks ts) zero y h e =
    let same : tree_of k w ns ks ≡ y = cc e in
    subst IsQuietNode same (h.0, h.1)
quiet-kid (Cons k w ns ks ts) (suc i) y h e = quiet-kid ts i y h.2 e

kid-node : (x y : Plain) (i : ℕ) → IsQuietNode x → kid_at x i ≡ Some y → IsQuietNode y
unfolding kids_of
kid-node x y zero h e = cc e
kid-node x y (suc i) h e = quiet-kid x.kids i y h.1 e

quiet-on : (q : List ℕ) (o : List (List ℕ)) (way : List ℕ) (x : Plain) → IsQuietNode x → opened_on q o way x ≡ o
quiet-on q o [] x h = refl
quiet-on q o (i ∷ way) x h =
    ap (λ (p : List (List ℕ)). option_map_or (opened_on (q ++ i ∷ []) (p ++ o) way) (kid_at x i) (p ++ o)) (nothing-opened x.kind x.kids q (i ∷ way) (quiet-opens x.kind h.0))
    ∙ by (λ y e. quiet-on (q ++ i ∷ []) o way y (kid-node x y i h e)) (kid_at x i) refl where
      by : ((y : Plain) → kid_at x i ≡ Some y → opened_on (q ++ i ∷ []) o way y ≡ o) → (k : Option Plain) → kid_at x i ≡ k → option_map_or (opened_on (q ++ i ∷ []) o way) k o ≡ o
      by next None e = refl
      by next (Some y) e = next y e

quiet-node : (y : Plain) → IsWellFormed y → is_quiet y.kind ≡ true → IsQuietNode y
quiet-node y well e = (e, quiet-below y.kind y.word y.kids e well.0 well.3)

-- below a node that opens nothing, this way into a kid of a quiet kind
into-kid : (t x : Plain) (p : List ℕ) (i : ℕ) (way : List ℕ) → IsProper t → at p t ≡ Some x → opens_nothing x.kind ≡ true → opened_at t p ≡ [] →
    ((y : Plain) → kid_at x i ≡ Some y → IsQuietNode y) → opened_at t (p ++ i ∷ way) ≡ []
into-kid t x p i way proper e n none quiet =
    at-below t x p i way proper e (nothing-accesses x.kind n)
    ∙ ap (λ (o : List (List ℕ)). option_map_or (opened_on (p ++ i ∷ []) (o ++ opened_at t p) way) (kid_at x i) (o ++ opened_at t p)) (nothing-opened x.kind x.kids p (i ∷ way) n)
    ∙ ap (λ (o : List (List ℕ)). option_map_or (opened_on (p ++ i ∷ []) o way) (kid_at x i) o) none
    ∙ by (kid_at x i) refl where
      by : (k : Option Plain) → kid_at x i ≡ k → option_map_or (opened_on (p ++ i ∷ []) [] way) k [] ≡ []
      by None f = refl
      by (Some y) f = quiet-on (p ++ i ∷ []) [] way y (quiet y f)

-- ---- headings

passes-at : (test : Kind → Bool) (f : Forest) (i : ℕ) (y : Plain) → Passes test f → slice_get (trees_of f) i ≡ Some y → test y.kind ≡ true
passes-at test Nil i y h e = cc e
passes-at test (Cons k w ns ks ts) zero y h e =
    let same : k ≡ y.kind = cc e in
    ap test (sym same) ∙ h.0
passes-at test (Cons k w ns ks ts) (suc i) y h e = passes-at test ts i y h.1 e

-- the block is the last kid
block-at : (f : Forest) (i : ℕ) (y : Plain) → BlockLast f → slice_get (trees_of f) i ≡ Some y → is_the_block y.kind ≡ true → suc i ≡ kid_count f
block-at Nil i y last e b = cc e
block-at (Cons k w ns ks Nil) zero y last e b = refl
block-at (Cons k w ns ks Nil) (suc i) y last e b = cc e
block-at (Cons k w ns ks (Cons j v ms js ts)) zero y last e b =
    let same : k ≡ y.kind = cc e in
    absurd (true≢false (sym b ∙ ap is_the_block (sym same) ∙ last.0))
block-at (Cons k w ns ks (Cons j v ms js ts)) (suc i) y last e b = ap suc (block-at (Cons j v ms js ts) i y last.1 e b)

quiet-or : (x y : Bool) → (x || y) ≡ true → (y ≡ true → ⊥) → x ≡ true
quiet-or true y e n = refl
quiet-or false y e n = absurd (n e)

pub heading-law : HeadingLaw
unfolding kids_of
heading-law t r i way proper a other =
    let s = each-among (λ (x : Annotation). IsSeated t x.routine) (annotated t).routines r a (annotations-seated t proper) in
    into-kid t s.node r.routine.place i way proper s.here (heading-opens s.node.kind s.headed) (routine-law t r proper a) (by s i other) where
      by : (s : IsSeated t r.routine) (i : ℕ) → (i ≡ r.routine.block_kid → ⊥) → (y : Plain) → kid_at s.node i ≡ Some y → IsQuietNode y
      by s zero other y e = cc e
      by s (suc n) other y e =
          quiet-node y (kid-well s.node.kids n y s.well e)
          (quiet-or (is_quiet y.kind) (is_the_block y.kind) (passes-at is_quiet_or_block s.node.kids n y (heading-parts s.node.kind s.node.word s.node.kids s.headed s.fits) e)
          (λ b. other (block-at s.node.kids n y s.last e b ∙ sym s.count)))

-- ---- declarations

taken-at : (k : Kind) (i n : ℕ) (f : Forest) (y : Plain) → takes_from k i (kinds f) ≡ true → slice_get (trees_of f) n ≡ Some y → takes (class_from k (i + n)) y.kind ≡ true
taken-at k i n Nil y h e = cc e
taken-at k i zero (Cons j w ns ks ts) y h e =
    let same : j ≡ y.kind = cc e in
    (λ z. takes (class_from k (no-more z)) (sym same z)) ∙ (and_parts (takes (class_from k i) j) (takes_from k (suc i) (kinds ts)) h).0 where
      no-more : i + 0 ≡ i
      no-more = omega arith
taken-at k i (suc n) (Cons j w ns ks ts) y h e =
    ap (λ (m : ℕ). takes (class_from k m) y.kind) (one-on i n) ∙ taken-at k (suc i) n ts y (and_parts (takes (class_from k i) j) (takes_from k (suc i) (kinds ts)) h).1 e where
      one-on : (i n : ℕ) → i + suc n ≡ suc i + n
      one-on i n = omega arith

-- the kids of a block but the last two
front-quiet : (n : ℕ) (k : Kind) → takes (class_from kind.Block n) k ≡ true → (suc n ≡ 4 → ⊥) → (suc n ≡ 5 → ⊥) → is_quiet k ≡ true
front-quiet zero k e a b = class-quiet class.Consts k refl e
front-quiet (suc zero) k e a b = class-quiet class.Types k refl e
front-quiet (suc (suc zero)) k e a b = class-quiet class.Vars k refl e
front-quiet (suc (suc (suc zero))) k e a b = absurd (a refl)
front-quiet (suc (suc (suc (suc zero)))) k e a b = absurd (b refl)
front-quiet (suc (suc (suc (suc (suc n))))) k e a b = absurd (true≢false (sym e))

block-kid : (k : Kind) (w : List ℕ) (f : Forest) → has class.Block k ≡ true → fits_some (layout k w (count f)) (kinds f) ≡ true → WellFormed f → (n : ℕ) (y : Plain) →
    (suc n ≡ 4 → ⊥) → (suc n ≡ 5 → ⊥) → slice_get (trees_of f) n ≡ Some y → is_quiet y.kind ≡ true
block-kid kind.Block w f h fit well n y a b e = front-quiet n y.kind (ap (λ (m : ℕ). takes (class_from kind.Block m) y.kind) (same n) ∙ taken-at kind.Block 0 n f y (node-takes kind.Block w f fit) e) a b where
  same : (n : ℕ) → n ≡ 0 + n
  same n = omega arith
block-kid kind.Forward w f h fit well n y a b e = (quiet-kid f n y (quiet-below kind.Forward w f refl fit well) e).0
block-kid (kind.Hole s) w f h fit well n y a b e = (quiet-kid f n y (quiet-below (kind.Hole s) w f refl fit well) e).0
block-kid _ w f h fit well n y a b e = absurd (true≢false (sym h))

block-opens : (k : Kind) → has class.Block k ≡ true → opens_nothing k ≡ true
block-opens kind.With e = absurd (true≢false (sym e))
block-opens kind.Accesses e = absurd (true≢false (sym e))
block-opens _ e = refl

-- from the kids of a routine to those of its block
block-front : (t : Plain) (q : List ℕ) (c n j : ℕ) (way : List ℕ) (f : Forest) → IsProper t → BlockLast f → WellFormed f → c + kid_count f ≡ suc n → Sits t q c f →
    ((i : ℕ) → opened_at t (q ++ i ∷ []) ≡ []) → (j ≡ 4 → ⊥) → (j ≡ 5 → ⊥) → opened_at t ((q ++ n ∷ []) ++ j ∷ way) ≡ []
unfolding kids_of
block-front t q c n j way Nil proper last well e sits none a b = absurd last
block-front t q c n j way (Cons k w ns ks Nil) proper last well e sits none a b =
    subst (λ (i : ℕ). opened_at t ((q ++ i ∷ []) ++ j ∷ way) ≡ []) (omega (arith, e))
    (into-kid t (tree_of k w ns ks) (q ++ c ∷ []) j way proper sits.0 (block-opens k last) (none c) (by j a b)) where
      by : (j : ℕ) → (j ≡ 4 → ⊥) → (j ≡ 5 → ⊥) → (y : Plain) → kid_at (tree_of k w ns ks) j ≡ Some y → IsQuietNode y
      by zero a b y f = cc f
      by (suc i) a b y f = quiet-node y (kid-well ks i y well.3 f) (block-kid k w ks last well.0 well.3 i y a b f)
block-front t q c n j way (Cons k w ns ks (Cons l v ms js ts)) proper last well e sits none a b =
    block-front t q (suc c) n j way (Cons l v ms js ts) proper last.1 well.4 (omega (arith, e)) sits.1 none a b

pub declaration-law : DeclarationLaw
declaration-law t r j way proper a other last =
    let s = each-among (λ (x : Annotation). IsSeated t x.routine) (annotated t).routines r a (annotations-seated t proper) in
    let p : List ℕ = r.routine.place in
    ap (opened_at t) (sym (append_assoc p (r.routine.block_kid ∷ []) (j ∷ way)))
    ∙ ap (λ (n : ℕ). opened_at t ((p ++ n ∷ []) ++ j ∷ way)) s.count
    ∙ block-front t p 1 (kid_count s.node.kids) j way s.node.kids proper s.last s.well (omega arith) (sits-kids t p s.node s.here) (λ i. part-law t r i proper a) other last

pub opened-law : OpenedLaw
opened-law = record {
  kid = kid-law;
  statement = statement-law;
  accesses = accesses-law;
  access = access-law;
  routine = routine-law;
  part = part-law;
  block = block-law;
  heading = heading-law;
  declaration = declaration-law;
}
