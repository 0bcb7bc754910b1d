-- The path to an expression leads into the statement part of a routine.
use Rattle.std.specs.Prelude.{ℕ, suc, ◌≡◌, ◌⊎◌, ◌+◌, Bool, true, false, ◌||◌, List, [], ◌∷◌, ◌++◌, Some, slice_get}
use Rattle.std.specs.Option.{option_and_then}
use Rattle.std.proofs.Common.{refl, ap, sym, subst, ◌∙◌, true≢false, inl, inr, arith, append_assoc}
use Rattle.pc_syntax.specs.declared.kind.Kind.{Kind}
use Rattle.pc_syntax.specs.declared.kind.Kind.TheVariants as kind
use Rattle.pc_syntax.specs.Layout.{layout}
use Rattle.pc_syntax.specs.Places.{at}
use Rattle.pc_syntax.specs.Plain.{Forest, Plain, trees_of, count, kinds}
use Rattle.pc_syntax.specs.WellFormed.{WellFormed, fits_some}
use Rattle.pc_scope.specs.Blocks.{block_kids, kid_count, routines_among}
use Rattle.pc_scope.specs.Headings.{is_routine_kind}
use Rattle.pc_decl.specs.Nodes.{is_expression}
use Rattle.pc_needs.specs.Unaffected.{IsOneOf}
use Rattle.pc_needs.proofs.BodyKinds.{Passes}
use Rattle.pc_needs.proofs.BodyParts.{block-last}
use Rattle.pc_program_laws.specs.Routines.{has_heading, routines_start}
use Rattle.pc_program_laws.proofs.BlockLemmas.{BlockParts, block-parts}
use Rattle.pc_program_laws.proofs.RoutineLemmas.{routines-law}
use Rattle.pc_rules.specs.Meanings.{Local}
use Rattle.pc_rules.specs.RoutineList.{key_of, routines_in, routines_below}
use Rattle.pc_rules.specs.Routines.{Routine, start_of}
use Rattle.pc_found_laws.proofs.BlockWays.{kid-way, tree-there, tree-well, block-way, IsInBlock, head-way}
use Rattle.pc_found_laws.proofs.NodeLemmas.{tree_of}
use Rattle.pc_found_laws.proofs.OuterKinds.{is_outer}
use Rattle.pc_found_laws.proofs.OuterRows.{is_listed, headed-row, listed-row, routine-none}
use Rattle.pc_found_laws.proofs.OuterWays.{tree-outer, outer-way}
use Rattle.pc_found_laws.proofs.ListedLemmas.{IsListed, listed, start-kid, pass-at, routine-headed}

-- ---- the way to an expression

-- a path leads into the statement part of one of these routines
abbrev pub IsIn : List Routine → List ℕ → Type 0
IsIn rs q = (r : Routine) × IsOneOf rs r × (way : List ℕ) × (q ≡ r.place ++ r.block_kid ∷ 5 ∷ way)

in-more : (rs us : List Routine) (q : List ℕ) → ((s : Routine) → IsOneOf rs s → IsOneOf us s) → IsIn rs q → IsIn us q
in-more rs us q f h = (h.0, f h.0 h.1, h.2, h.3)

-- each path to an expression below a routine does so, where it goes on by these numbers below one of its kids
abbrev pub IsWithin : List ℕ → Type 0
IsWithin js = (i : ℕ) (r : Routine) (k : Kind) (w : List ℕ) (ks : Forest) (x : Plain) → has_heading k ≡ true → fits_some (layout k w (count ks)) (kinds ks) ≡ true → WellFormed ks →
    r.block_kid ≡ kid_count ks → is_expression x.kind ≡ true → option_and_then (at js) (slice_get (trees_of ks) i) ≡ Some x → IsIn (r ∷ routines_below r 1 ks) (r.place ++ suc i ∷ js)

-- the path of a node below a routine inside the block
inner-path : (r s : Routine) (n i c d first : ℕ) (more : List ℕ) → s.place ≡ (r.place ++ n ∷ 4 ∷ []) ++ (first + c) ∷ [] → n ≡ suc i → first ≡ 1 →
    s.place ++ d ∷ more ≡ r.place ++ suc i ∷ 4 ∷ suc c ∷ d ∷ more
inner-path r s n i c d first more e last one =
    let next : first + c ≡ suc c = omega arith in
    ap (λ (q : List ℕ). q ++ d ∷ more) e
    ∙ append_assoc (r.place ++ n ∷ 4 ∷ []) ((first + c) ∷ []) (d ∷ more)
    ∙ append_assoc r.place (n ∷ 4 ∷ []) ((first + c) ∷ d ∷ more)
    ∙ (λ z. r.place ++ last z ∷ 4 ∷ next z ∷ d ∷ more)

-- a routine with its kids, whose block has these routines
record IsAbout (r : Routine) (k : Kind) (w : List ℕ) (ks : Forest) (i : ℕ) (f : Forest) : Type 0 where
  pub headed : has_heading k ≡ true
  pub fits : fits_some (layout k w (count ks)) (kinds ks) ≡ true
  pub well : WellFormed ks
  pub last : kid_count ks ≡ suc i
  pub among : routines_among (block_kids ks) ≡ f
  pub pass : Passes is_listed f
  pub sound : WellFormed f

-- below a routine inside the block
below-routine : (r : Routine) (k : Kind) (w : List ℕ) (ks : Forest) (i : ℕ) (f : Forest) → IsAbout r k w ks i f → (c a : ℕ) (more : List ℕ) (z x : Plain) →
    slice_get (trees_of f) c ≡ Some z → is_routine_kind z.kind ≡ true → at (a ∷ more) z ≡ Some x → is_expression x.kind ≡ true → IsWithin more →
    IsIn (routines_below r 1 ks) (r.place ++ suc i ∷ 4 ∷ suc c ∷ a ∷ more)
below-routine r k w ks i f about c a more z x e is g expr within =
    let l : Local = routines_start r.means (start_of r) (block_kids ks) in
    let p : List ℕ = r.place ++ kid_count ks ∷ 4 ∷ [] in
    let found : IsListed (routines_in r.means l [] p (key_of r.owner) f) (p ++ (l.kid + c) ∷ []) z = listed c r.means l [] p (key_of r.owner) f z about.pass e is in
    let on = kid-way a more z x g in
    let well = tree-well f c z about.sound e in
    let inside : routines_below r 1 ks ≡ routines_in r.means l [] p (key_of r.owner) f =
    routines-law.inside r k w ks about.headed about.fits about.well ∙ ap (routines_in r.means l [] p (key_of r.owner)) about.among in
    let deeper = within on.0 found.routine z.kind z.word z.kids x (routine-headed z.kind is) well.0 well.3 found.count_is expr on.2 in
    let path : found.routine.place ++ suc on.0 ∷ more ≡ r.place ++ suc i ∷ 4 ∷ suc c ∷ a ∷ more =
    ap (λ (n : ℕ). found.routine.place ++ n ∷ more) (sym on.1)
    ∙ inner-path r found.routine (kid_count ks) i c a l.kid more found.place_is about.last (start-kid r.means (start_of r) (block_kids ks) refl) in
    subst (λ (rs : List Routine). IsIn rs (r.place ++ suc i ∷ 4 ∷ suc c ∷ a ∷ more)) (sym inside)
    (subst (IsIn (routines_in r.means l [] p (key_of r.owner) f)) path
    (in-more (found.routine ∷ routines_below found.routine 1 z.kids) (routines_in r.means l [] p (key_of r.owner) f) (found.routine.place ++ suc on.0 ∷ more) found.all deeper))

-- through the list of routines
through-list : (r : Routine) (k : Kind) (w : List ℕ) (ks : Forest) (i : ℕ) (f : Forest) → IsAbout r k w ks i f → (c : ℕ) (rest : List ℕ) (z x : Plain) →
    slice_get (trees_of f) c ≡ Some z → at rest z ≡ Some x → is_expression x.kind ≡ true → ((a : ℕ) (more : List ℕ) → rest ≡ a ∷ more → IsWithin more) →
    IsIn (routines_below r 1 ks) (r.place ++ suc i ∷ 4 ∷ suc c ∷ rest)
through-list r k w ks i f about c rest z x e g expr deeper = which (is_routine_kind z.kind) refl (pass-at f c z about.pass e) where
  routine : (way : List ℕ) → at way z ≡ Some x → is_routine_kind z.kind ≡ true → ((a : ℕ) (more : List ℕ) → way ≡ a ∷ more → IsWithin more) →
      IsIn (routines_below r 1 ks) (r.place ++ suc i ∷ 4 ∷ suc c ∷ way)
  routine [] h is rec = let same : z ≡ x = cc in absurd (routine-none z.kind is (subst (λ (y : Plain). is_expression y.kind ≡ true) (sym same) expr))
  routine (a ∷ more) h is rec = below-routine r k w ks i f about c a more z x e is h expr (rec a more refl)

  which : (b : Bool) → is_routine_kind z.kind ≡ b → (b || is_outer z.kind) ≡ true → IsIn (routines_below r 1 ks) (r.place ++ suc i ∷ 4 ∷ suc c ∷ rest)
  which true is h = routine rest g is deeper
  which false is h = absurd (outer-way rest z x (tree-outer z.kind z.word z.notes z.kids h (tree-well f c z about.sound e)) g expr)

-- through the block
through-block : (r : Routine) (k : Kind) (w : List ℕ) (ks : Forest) (i : ℕ) (js : List ℕ) (x : Plain) (d : IsInBlock ks i js x) → BlockParts d.kids → has_heading k ≡ true →
    fits_some (layout k w (count ks)) (kinds ks) ≡ true → WellFormed ks → r.block_kid ≡ kid_count ks → is_expression x.kind ≡ true →
    ((a b c : ℕ) (more : List ℕ) → js ≡ a ∷ b ∷ c ∷ more → IsWithin more) → IsIn (r ∷ routines_below r 1 ks) (r.place ++ suc i ∷ js)
through-block r k w ks i js x d b headed fits well count_is expr deeper = which (block-way d.kids b d.number d.rest x d.block.well expr d.found) where
  about : IsAbout r k w ks i b.k4
  about =
      let h = subst WellFormed b.is d.block.well in
      record {
        headed = headed;
        fits = fits;
        well = well;
        last = d.last;
        among = ap routines_among (d.block.same ∙ b.is);
        pass = listed-row b.v4 b.k4 h.4.4.4.0;
        sound = h.4.4.4.3;
      }

  list : (rest : List ℕ) → js ≡ 4 ∷ rest → at rest (tree_of kind.Routines b.v4 b.n4 b.k4) ≡ Some x → IsIn (r ∷ routines_below r 1 ks) (r.place ++ suc i ∷ js)
  list [] is g = let same : tree_of kind.Routines b.v4 b.n4 b.k4 ≡ x = cc in absurd (true≢false (sym (subst (λ (y : Plain). is_expression y.kind ≡ true) (sym same) expr)))
  list (a ∷ rest) is g =
      let on = kid-way a rest (tree_of kind.Routines b.v4 b.n4 b.k4) x g in
      let z = tree-there rest b.k4 on.0 x on.2 in
      let inside = through-list r k w ks i b.k4 about on.0 rest z.0 x z.1 z.2 expr (λ c more e. deeper 4 a c more (is ∙ ap (λ (q : List ℕ). 4 ∷ a ∷ q) e)) in
      let path : r.place ++ suc i ∷ 4 ∷ suc on.0 ∷ rest ≡ r.place ++ suc i ∷ js = ap (λ (n : ℕ). r.place ++ suc i ∷ 4 ∷ n ∷ rest) (sym on.1) ∙ ap (λ (q : List ℕ). r.place ++ suc i ∷ q) (sym is) in
      in-more (routines_below r 1 ks) (r ∷ routines_below r 1 ks) (r.place ++ suc i ∷ js) (λ s one. inr one) (subst (IsIn (routines_below r 1 ks)) path inside)

  which : (d.number ≡ 4) ⊎ ((d.number ≡ 3) × (at d.rest (tree_of kind.Routines b.v4 b.n4 b.k4) ≡ Some x)) → IsIn (r ∷ routines_below r 1 ks) (r.place ++ suc i ∷ js)
  which (inl four) =
      let way : js ≡ 5 ∷ d.rest = d.way_is ∙ ap (λ (n : ℕ). suc n ∷ d.rest) four in
      let kid : suc i ≡ r.block_kid = sym d.last ∙ sym count_is in
      (r, inl refl, d.rest, λ y. r.place ++ kid y ∷ way y)
  which (inr h) = list d.rest (d.way_is ∙ ap (λ (n : ℕ). suc n ∷ d.rest) h.0) h.1

step : (js : List ℕ) → ((a b c : ℕ) (more : List ℕ) → js ≡ a ∷ b ∷ c ∷ more → IsWithin more) → IsWithin js
step js deeper i r k w ks x headed fits well count_is expr e =
    let d : IsInBlock ks i js x = head-way ks i js x (headed-row k w ks headed fits) well (block-last k w ks headed fits) expr e in
    through-block r k w ks i js x d (block-parts d.block.word d.kids d.block.fits) headed fits well count_is expr deeper

pub within : (js : List ℕ) → IsWithin js
within [] = step [] (λ a b c more e. absurd cc)
within (n ∷ []) = step (n ∷ []) (λ a b c more e. absurd cc)
within (n ∷ m ∷ []) = step (n ∷ m ∷ []) (λ a b c more e. absurd cc)
within (n ∷ m ∷ k ∷ js) = step (n ∷ m ∷ k ∷ js) (λ a b c more e. let same : js ≡ more = cc in subst IsWithin same (within js))
