-- A program and the same with a hole in the place of each statement part have the same routines, but for their blocks.
use Rattle.std.specs.Prelude.{ℕ, suc, ◌≡◌, true, false, List, [], ◌∷◌, Option, ◌++◌, map}
use Rattle.std.proofs.Common.{◌⊎◌, refl, ap, sym, subst, subst₂, ◌∙◌, true≢false, inl, inr}
use Rattle.std.proofs.lemmas.Bool.{and_parts}
use Rattle.pc_syntax.specs.declared.kind.Kind.{Kind}
use Rattle.pc_syntax.specs.declared.kind.Kind.TheVariants as kind
use Rattle.pc_syntax.specs.Plain.{Forest, Nil, Cons, count, kinds, Plain}
use Rattle.pc_syntax.specs.WellFormed.{WellFormed, fits_some, IsProper}
use Rattle.pc_scope.specs.Blocks.{block_kids}
use Rattle.pc_syntax.specs.Layout.{layout}
use Rattle.pc_scope.specs.Headings.{Heading, is_routine_kind}
use Rattle.pc_rules.specs.Errors.{is_program}
use Rattle.pc_rules.specs.Attributes.{Attributes, first}
use Rattle.pc_rules.specs.Decorated.{decorate}
use Rattle.pc_rules.specs.Meanings.{Meaning, Found, Local, find}
use Rattle.pc_rules.specs.OwnBlock.{own, bare_heading, declared_in}
use Rattle.pc_rules.specs.Places.{inner, beside}
use Rattle.pc_rules.specs.RoutineList.{Forwarded, routine_of, key_of, forwarded_by, Part, ARoutine, AllRoutines, NoRoutine, part_of, routines_in, routines_below, program_routine, routines_of}
use Rattle.pc_rules.specs.Routines.{Routine, bare, heading_marks, parameters_of, start_of}
use Rattle.pc_needs.specs.Answers.{has_block}
use Rattle.pc_needs.specs.Bodies.{without_bodies, AreTwins}
use Rattle.pc_needs.specs.UsedNames.{is_nil}
use Rattle.pc_needs.proofs.BodyKinds.{Passes}
use Rattle.pc_needs.proofs.HeadingKinds.{is_of_heading, is_the_block, is_front, is_none, heading-row, routine-part}
use Rattle.pc_needs.proofs.BodyRows.{block-next, without-front, without-routine, without-heading, by-block, heading-without, count-without, bare-without, ListRow, list-of, by-element, headings-without, BlockRow, block-row, declared-without, nil-without, no-block}

-- two routines that are the same but for their blocks, which declare the same names
pub record AreLike (x y : Routine) : Type 0 where
  pub same : AreTwins x y
  pub declared : declared_in x.block ≡ declared_in y.block
  pub nil : is_nil x.block ≡ is_nil y.block
  pub blank : has_block y.heading ≡ false → y.block ≡ Nil

-- the routines of two lists, one by one
abbrev pub AllLike : List Routine → List Routine → Type 0
AllLike [] [] = Unit {0}
AllLike [] (y ∷ ys) = ⊥
AllLike (x ∷ xs) [] = ⊥
AllLike (x ∷ xs) (y ∷ ys) = AreLike x y × AllLike xs ys

like-append : (xs ys us vs : List Routine) → AllLike xs ys → AllLike us vs → AllLike (xs ++ us) (ys ++ vs)
like-append [] [] us vs h g = g
like-append [] (y ∷ ys) us vs h g = absurd h
like-append (x ∷ xs) [] us vs h g = absurd h
like-append (x ∷ xs) (y ∷ ys) us vs h g = (h.0, like-append xs ys us vs h.1 g)

-- their blocks begin at the same
pub like-start : (x y : Routine) → AreLike x y → start_of x ≡ start_of y
unfolding heading_marks
like-start x y h = λ i. record (start_of (h.same i)) { names = map (λ (d : List ℕ × Meaning). (d.0, d.1.class)) (parameters_of (h.same i)) ++ h.declared i }

-- ---- a node of a list

-- a node that is no routine and has none
pub routines-front : (m : List ℕ → Found) (l : Local) (fs : List Forwarded) (p : List ℕ) (key : Option (List (List ℕ))) (k : Kind) (w : List ℕ) (ns : List (List ℕ)) (ks ts : Forest) → part_of k ≡ NoRoutine →
    routines_in m l fs p key (Cons k w ns ks ts) ≡ routines_in m (beside l k (first (decorate (bare m) l (own (Cons k w ns ks Nil))))) fs p key ts
unfolding routines_in
routines-front m l fs p key k w ns ks ts e =
    let after = beside l k (first (decorate (bare m) l (own (Cons k w ns ks Nil)))) in
    let r = routine_of (find (bare m) after) l fs (p ++ l.kid ∷ []) key k ks in
    ap (λ (q : Part). elim q [
      | ARoutine ↦ (r ∷ routines_below r 1 ks) ++ routines_in m after (forwarded_by l r fs) p key ts
      | AllRoutines ↦ routines_in m (inner l k ks) [] (p ++ l.kid ∷ []) key ks
      | NoRoutine ↦ routines_in m after fs p key ts
    ]) e

-- a routine
pub routines-routine : (m : List ℕ → Found) (l : Local) (fs : List Forwarded) (p : List ℕ) (key : Option (List (List ℕ))) (k : Kind) (w : List ℕ) (ns : List (List ℕ)) (ks ts : Forest) (a : Attributes) →
    part_of k ≡ ARoutine → first (decorate (bare m) l (own (Cons k w ns ks Nil))) ≡ a →
    routines_in m l fs p key (Cons k w ns ks ts) ≡
    (routine_of (find (bare m) (beside l k a)) l fs (p ++ l.kid ∷ []) key k ks ∷ routines_below (routine_of (find (bare m) (beside l k a)) l fs (p ++ l.kid ∷ []) key k ks) 1 ks)
    ++ routines_in m (beside l k a) (forwarded_by l (routine_of (find (bare m) (beside l k a)) l fs (p ++ l.kid ∷ []) key k ks) fs) p key ts
unfolding routines_in
routines-routine m l fs p key k w ns ks ts a e h =
    let after = λ (b : Attributes). beside l k b in
    let r = λ (b : Attributes). routine_of (find (bare m) (beside l k b)) l fs (p ++ l.kid ∷ []) key k ks in
    ap (λ (q : Part). elim q [
      | ARoutine ↦ (r (first (decorate (bare m) l (own (Cons k w ns ks Nil)))) ∷ routines_below (r (first (decorate (bare m) l (own (Cons k w ns ks Nil))))) 1 ks)
          ++ routines_in m (after (first (decorate (bare m) l (own (Cons k w ns ks Nil))))) (forwarded_by l (r (first (decorate (bare m) l (own (Cons k w ns ks Nil))))) fs) p key ts
      | AllRoutines ↦ routines_in m (inner l k ks) [] (p ++ l.kid ∷ []) key ks
      | NoRoutine ↦ routines_in m (after (first (decorate (bare m) l (own (Cons k w ns ks Nil))))) fs p key ts
    ]) e
    ∙ ap (λ (b : Attributes). (r b ∷ routines_below (r b) 1 ks) ++ routines_in m (after b) (forwarded_by l (r b) fs) p key ts) h

none-part : (q : Part) → is_none q ≡ true → q ≡ NoRoutine
none-part ARoutine e = absurd (true≢false (sym e))
none-part AllRoutines e = absurd (true≢false (sym e))
none-part NoRoutine e = refl

pub front-part : (k : Kind) → is_front k ≡ true → part_of k ≡ NoRoutine
front-part k f = none-part (part_of k) (and_parts (is_none (part_of k)) _ (and_parts _ _ (and_parts _ _ f).1).1).0

-- the bare routine in a list is the same
own-bare : (k : Kind) (w : List ℕ) (ns : List (List ℕ)) (ks : Forest) → is_routine_kind k ≡ true → Passes is_of_heading ks → own (Cons k w ns (without_bodies ks) Nil) ≡ own (Cons k w ns ks Nil)
unfolding own
own-bare k w ns ks r p = let e : bare_heading (without_bodies ks) ≡ bare_heading ks = bare-without ks p in rw (r, e) refl

-- a routine and the same with holes
like-routine : (m : List ℕ → Found) (l : Local) (fs : List Forwarded) (p : List ℕ) (key : Option (List (List ℕ))) (k : Kind) (ks : Forest) → Passes is_of_heading ks →
    (declared_in (own (block_kids (without_bodies ks))) ≡ declared_in (own (block_kids ks))) →
    AreLike (routine_of m l fs p key k (without_bodies ks)) (routine_of m l fs p key k ks)
like-routine m l fs p key k ks h d = record {
  same = λ i. record (routine_of m l fs p key k ks) { heading = heading-without ks h i; block_kid = count-without ks h i };
  declared = d;
  nil = nil-without ks h;
  blank = λ e. no-block ks e;
}

like-forwarded : (l : Local) (x y : Routine) (fs : List Forwarded) → AreLike x y → forwarded_by l x fs ≡ forwarded_by l y fs
unfolding heading_marks
like-forwarded l x y fs h = λ i. forwarded_by l (h.same i) fs

below-next : (r : Routine) (i : ℕ) (k : Kind) (w : List ℕ) (ns : List (List ℕ)) (ks ts : Forest) → is_the_block k ≡ false → routines_below r i (Cons k w ns ks ts) ≡ routines_below r (suc i) ts
unfolding routines_below
below-next r i kind.Block w ns ks ts e = absurd (true≢false e)
below-next r i _ w ns ks ts e = refl

-- the names that a routine's block declares
declared-kids : (f : Forest) → Passes is_of_heading f → WellFormed f → declared_in (own (block_kids (without_bodies f))) ≡ declared_in (own (block_kids f))
unfolding without_bodies own
declared-kids Nil p c = refl
declared-kids (Cons k w ns ks ts) p c =
    by-block (λ j. is_of_heading j ≡ true → WellFormed (Cons j w ns ks ts) → declared_in (own (block_kids (without_bodies (Cons j w ns ks ts)))) ≡ declared_in (own (block_kids (Cons j w ns ks ts)))) k
    (λ h d. declared-without ks (block-row w ks d.0 d.3))
    (λ e h d. ap (λ g. declared_in (own (block_kids g))) (without-heading k w ns ks ts h e) ∙ ap (λ g. declared_in (own g)) (block-next k w ns ks (without_bodies ts) e)
    ∙ declared-kids ts p.1 c.4 ∙ ap (λ g. declared_in (own g)) (sym (block-next k w ns ks ts e))) p.0 c

-- the kids of a block, up to its routines
abbrev pub BlockFront : Forest → Type 0
BlockFront Nil = Unit {0}
BlockFront (Cons k w ns ks ts) = ((is_front k ≡ true) × BlockFront ts) ⊎ ((k ≡ kind.Routines) × ListRow ks × WellFormed ks)

pub block-front : (f : Forest) → BlockRow f → BlockFront f
block-front f r = subst BlockFront (sym r.is) (inl (r.front_a, inl (r.front_b, inl (r.front_c, inr (refl, list-of r.k4 r.list r.list_well, r.list_well)))))

-- where the routines of a block begin
inner-same : (l : Local) (ks : Forest) → ListRow ks → inner l kind.Routines (without_bodies ks) ≡ inner l kind.Routines ks
inner-same l ks row = ap (λ (hs : List Heading). record (inner l kind.Routines ks) { ahead = hs }) (headings-without ks row)

-- ---- all routines

mutual
  unfolding without_bodies routines_in routines_below

  pub like-list : (m : List ℕ → Found) (l : Local) (fs : List Forwarded) (p : List ℕ) (key : Option (List (List ℕ))) (f : Forest) → ListRow f → WellFormed f →
      AllLike (routines_in m l fs p key (without_bodies f)) (routines_in m l fs p key f)
  like-list m l fs p key Nil row c = tt
  like-list m l fs p key (Cons k w ns ks ts) row c =
      by-element (AllLike (routines_in m l fs p key (without_bodies (Cons k w ns ks ts))) (routines_in m l fs p key (Cons k w ns ks ts))) k row.0
      (λ r.
      let h = row.1 r in
      let a = first (decorate (bare m) l (own (Cons k w ns ks Nil))) in
      let q = p ++ l.kid ∷ [] in
      let x = routine_of (find (bare m) (beside l k a)) l fs q key k (without_bodies ks) in
      let y = routine_of (find (bare m) (beside l k a)) l fs q key k ks in
      let like = like-routine (find (bare m) (beside l k a)) l fs q key k ks h (declared-kids ks h c.3) in
      let e : routines_in m l fs p key (without_bodies (Cons k w ns ks ts)) ≡ (x ∷ routines_below x 1 (without_bodies ks)) ++ routines_in m (beside l k a) (forwarded_by l x fs) p key (without_bodies ts) =
      ap (routines_in m l fs p key) (without-routine k w ns ks ts r)
      ∙ routines-routine m l fs p key k w ns (without_bodies ks) (without_bodies ts) a (routine-part k r) (ap (λ (g : Forest). first (decorate (bare m) l g)) (own-bare k w ns ks r h)) in
      let g : routines_in m l fs p key (Cons k w ns ks ts) ≡ (y ∷ routines_below y 1 ks) ++ routines_in m (beside l k a) (forwarded_by l y fs) p key ts =
      routines-routine m l fs p key k w ns ks ts a (routine-part k r) refl in
      let behind : AllLike (routines_in m (beside l k a) (forwarded_by l x fs) p key (without_bodies ts)) (routines_in m (beside l k a) (forwarded_by l y fs) p key ts) =
      subst (λ (gs : List Forwarded). AllLike (routines_in m (beside l k a) gs p key (without_bodies ts)) (routines_in m (beside l k a) (forwarded_by l y fs) p key ts)) (sym (like-forwarded l x y fs like))
      (like-list m (beside l k a) (forwarded_by l y fs) p key ts row.2 c.4) in
      subst₂ AllLike (sym e) (sym g)
      (like, like-append (routines_below x 1 (without_bodies ks)) (routines_below y 1 ks) _ _ (like-below x y 1 ks like h c.3) behind))
      (λ r f.
      let a = first (decorate (bare m) l (own (Cons k w ns ks Nil))) in
      subst₂ AllLike
      (sym (ap (routines_in m l fs p key) (without-front k w ns ks ts f) ∙ routines-front m l fs p key k w ns ks (without_bodies ts) (front-part k f)))
      (sym (routines-front m l fs p key k w ns ks ts (front-part k f)))
      (like-list m (beside l k a) fs p key ts row.2 c.4))

  -- below a routine
  pub like-below : (x y : Routine) (i : ℕ) (f : Forest) → AreLike x y → Passes is_of_heading f → WellFormed f → AllLike (routines_below x i (without_bodies f)) (routines_below y i f)
  like-below x y i Nil like h c = tt
  like-below x y i (Cons k w ns ks ts) like h c =
      by-block (λ j. is_of_heading j ≡ true → WellFormed (Cons j w ns ks ts) → AllLike (routines_below x i (without_bodies (Cons j w ns ks ts))) (routines_below y i (Cons j w ns ks ts))) k
      (λ g d.
      subst (λ (rs : List Routine). AllLike rs (routines_in y.means (start_of y) [] (y.place ++ i ∷ []) (key_of y.owner) ks))
      (sym (λ z. routines_in (like.same z).means (like-start x y like z) [] ((like.same z).place ++ i ∷ []) (key_of (like.same z).owner) (without_bodies ks)))
      (like-block y.means (start_of y) [] (y.place ++ i ∷ []) (key_of y.owner) ks (block-front ks (block-row w ks d.0 d.3))))
      (λ e g d.
      subst₂ AllLike
      (sym (ap (routines_below x i) (without-heading k w ns ks ts g e) ∙ below-next x i k w ns ks (without_bodies ts) e))
      (sym (below-next y i k w ns ks ts e))
      (like-below x y (suc i) ts like h.1 c.4)) h.0 c

  -- of a block
  pub like-block : (m : List ℕ → Found) (l : Local) (fs : List Forwarded) (p : List ℕ) (key : Option (List (List ℕ))) (f : Forest) → BlockFront f →
      AllLike (routines_in m l fs p key (without_bodies f)) (routines_in m l fs p key f)
  like-block m l fs p key Nil b = tt
  like-block m l fs p key (Cons k w ns ks ts) (inl b) =
      subst₂ AllLike
      (sym (ap (routines_in m l fs p key) (without-front k w ns ks ts b.0) ∙ routines-front m l fs p key k w ns ks (without_bodies ts) (front-part k b.0)))
      (sym (routines-front m l fs p key k w ns ks ts (front-part k b.0)))
      (like-block m (beside l k (first (decorate (bare m) l (own (Cons k w ns ks Nil))))) fs p key ts b.1)
  like-block m l fs p key (Cons k w ns ks ts) (inr b) =
      subst (λ (j : Kind). AllLike (routines_in m l fs p key (without_bodies (Cons j w ns ks ts))) (routines_in m l fs p key (Cons j w ns ks ts))) (sym b.0)
      (subst (λ (n : Local). AllLike (routines_in m n [] (p ++ l.kid ∷ []) key (without_bodies ks)) (routines_in m (inner l kind.Routines ks) [] (p ++ l.kid ∷ []) key ks)) (sym (inner-same l ks b.1))
      (like-list m (inner l kind.Routines ks) [] (p ++ l.kid ∷ []) key ks b.1 b.2))

-- ---- a program

-- the program with a hole in the place of each statement part
abbrev pub hollow : Plain → Plain
hollow t = record t { kids = without_bodies t.kids }

-- a program is of that kind
pub program-kind : (k : Kind) → is_program k ≡ true → k ≡ kind.Program
program-kind kind.Program e = refl
program-kind _ e = absurd (true≢false (sym e))

pub program-heading : (t : Plain) → IsProper t → is_program t.kind ≡ true → Passes is_of_heading t.kids
program-heading t proper e =
    heading-row kind.Program t.word t.kids refl (subst (λ (k : Kind). fits_some (layout k t.word (count t.kids)) (kinds t.kids) ≡ true) (program-kind t.kind e) proper.sound.0)

pub like-program : (t : Plain) → IsProper t → is_program t.kind ≡ true → AreLike (program_routine (hollow t)) (program_routine t)
like-program t proper e =
    let h = program-heading t proper e in
    record {
      same = λ i. record (program_routine t) { heading = heading-without t.kids h i };
      declared = declared-kids t.kids h proper.sound.3;
      nil = nil-without t.kids h;
      blank = λ b. no-block t.kids b;
    }

pub like-routines : (t : Plain) → IsProper t → is_program t.kind ≡ true → AllLike (routines_of (hollow t)) (routines_of t)
unfolding routines_of
like-routines t proper e =
    let like = like-program t proper e in
    (like, like-below (program_routine (hollow t)) (program_routine t) 1 t.kids like (program-heading t proper e) proper.sound.3)
