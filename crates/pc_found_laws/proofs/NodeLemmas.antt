-- The node of each routine of a program: its block is the last kid, and the routine's own block is that one's.
use Rattle.std.specs.Prelude.{ℕ, suc, ◌≡◌, ◌+◌, true, List, [], ◌∷◌, ◌++◌, Option, Some, slice_get}
use Rattle.std.specs.Option.{option_and_then}
use Rattle.std.proofs.Common.{refl, ap, sym, ◌∙◌, true≢false, arith}
use Rattle.pc_syntax.specs.declared.kind.Kind.{Kind}
use Rattle.pc_syntax.specs.declared.kind.Kind.TheVariants as kind
use Rattle.pc_syntax.specs.Layout.{layout}
use Rattle.pc_syntax.specs.Places.{at}
use Rattle.pc_syntax.specs.Plain.{Forest, Nil, Cons, Plain, trees_of, kids_of, count, kinds}
use Rattle.pc_syntax.specs.WellFormed.{WellFormed, IsProper, fits_some}
use Rattle.pc_scope.specs.Blocks.{block_kids, kid_count}
use Rattle.pc_rules.specs.Attributes.{Attributes, first}
use Rattle.pc_rules.specs.Decorated.{decorate}
use Rattle.pc_rules.specs.Errors.{is_program}
use Rattle.pc_rules.specs.Meanings.{Found, Local, find}
use Rattle.pc_rules.specs.OwnBlock.{own}
use Rattle.pc_rules.specs.Places.{inner, beside}
use Rattle.pc_rules.specs.RoutineList.{Forwarded, routine_of, key_of, forwarded_by, ARoutine, part_of, routines_in, routines_below, program_routine, routines_of}
use Rattle.pc_rules.specs.Routines.{Routine, bare, start_of}
use Rattle.pc_needs.proofs.Lists.{Each, each-append}
use Rattle.pc_needs.proofs.PlaceLemmas.{of-part}
use Rattle.pc_program_laws.specs.Routines.{has_heading}
use Rattle.pc_program_laws.proofs.RoutineLemmas.{routines-law}
use Rattle.pc_found_laws.proofs.WayLemmas.{at-append}

-- ---- nodes by their places

-- the node of these
abbrev pub tree_of : Kind → List ℕ → List (List ℕ) → Forest → Plain
tree_of k w ns ks = record { kind = k; word = w; notes = ns; kids = ks }

-- trees in a row stand below a place of the program, the first as the kid of this number
abbrev pub StandBelow : Plain → List ℕ → ℕ → Forest → Type 0
StandBelow t p c Nil = Unit {0}
StandBelow t p c (Cons k w ns ks ts) = (at (p ++ c ∷ []) t ≡ Some (tree_of k w ns ks)) × StandBelow t p (suc c) ts

-- a kid by its place
kid-there : (t : Plain) (q : List ℕ) (x : Plain) (i : ℕ) (y : Plain) → at q t ≡ Some x → slice_get (kids_of x) i ≡ Some y → at (q ++ suc i ∷ []) t ≡ Some y
kid-there t q x i y here e =
    at-append q (suc i ∷ []) t ∙ ap (λ (o : Option Plain). option_and_then (at (suc i ∷ [])) o) here ∙ ap (λ (o : Option Plain). option_and_then (at []) o) e

kids-from : (t : Plain) (q : List ℕ) (x : Plain) (i : ℕ) (f : Forest) → at q t ≡ Some x → ((j : ℕ) → slice_get (trees_of f) j ≡ slice_get (kids_of x) (i + j)) → StandBelow t q (suc i) f
kids-from t q x i Nil here h = tt
kids-from t q x i (Cons k w ns ks ts) here h =
    let zero_more : i ≡ i + 0 = omega arith in (
      kid-there t q x i (tree_of k w ns ks) here (ap (slice_get (kids_of x)) zero_more ∙ sym (h 0)),
      kids-from t q x (suc i) ts here (λ j. let next : i + suc j ≡ suc i + j = omega arith in h (suc j) ∙ ap (slice_get (kids_of x)) next),
    )

-- the kids of a node
pub kids-stand : (t : Plain) (q : List ℕ) (x : Plain) → at q t ≡ Some x → StandBelow t q 1 x.kids
unfolding kids_of
kids-stand t q x here = kids-from t q x 0 x.kids here (λ j. let same : j ≡ 0 + j = omega arith in ap (slice_get (trees_of x.kids)) same)

-- ---- the node of a routine

pub record IsNode (t : Plain) (r : Routine) : Type 0 where
  pub node : Plain
  pub here : at r.place t ≡ Some node
  pub headed : has_heading node.kind ≡ true
  pub fits : fits_some (layout node.kind node.word (count node.kids)) (kinds node.kids) ≡ true
  pub well : WellFormed node.kids
  pub count_is : r.block_kid ≡ kid_count node.kids
  pub block : r.block ≡ own (block_kids node.kids)

pub part-headed : (k : Kind) → part_of k ≡ ARoutine → has_heading k ≡ true
part-headed kind.Procedure e = refl
part-headed kind.Function e = refl
part-headed kind.Funbody e = refl
part-headed kind.Routines e = cc
part-headed _ e = cc

mutual
  unfolding routines_in

  nodes-in : (t : Plain) (m : List ℕ → Found) (l : Local) (fs : List Forwarded) (p : List ℕ) (key : Option (List (List ℕ))) (f : Forest) → WellFormed f →
      StandBelow t p l.kid f → Each (IsNode t) (routines_in m l fs p key f)
  nodes-in t m l fs p key Nil well stand = tt
  nodes-in t m l fs p key (Cons k w ns ks ts) well stand =
      let a : Attributes = first (decorate (bare m) l (own (Cons k w ns ks Nil))) in
      let after : Local = beside l k a in
      let r : Routine = routine_of (find (bare m) after) l fs (p ++ l.kid ∷ []) key k ks in
      of-part (Each (IsNode t)) (part_of k) _ _ _
      (λ e. each-append (IsNode t) (r ∷ routines_below r 1 ks) (routines_in m after (forwarded_by l r fs) p key ts) (
        record { node = tree_of k w ns ks; here = stand.0; headed = part-headed k e; fits = well.0; well = well.3; count_is = refl; block = refl },
        nodes-below t r 1 ks well.3 (kids-stand t (p ++ l.kid ∷ []) (tree_of k w ns ks) stand.0),
      )
      (nodes-in t m after (forwarded_by l r fs) p key ts well.4 stand.1))
      (λ e. nodes-in t m (inner l k ks) [] (p ++ l.kid ∷ []) key ks well.3 (kids-stand t (p ++ l.kid ∷ []) (tree_of k w ns ks) stand.0))
      (λ e. nodes-in t m after fs p key ts well.4 stand.1)

  nodes-below : (t : Plain) (r : Routine) (i : ℕ) (f : Forest) → WellFormed f → StandBelow t r.place i f → Each (IsNode t) (routines_below r i f)
  nodes-below t r i Nil well stand = tt
  nodes-below t r i (Cons kind.Block w ns ks ts) well stand =
      nodes-in t r.means (start_of r) [] (r.place ++ i ∷ []) (key_of r.owner) ks well.3 (kids-stand t (r.place ++ i ∷ []) (tree_of kind.Block w ns ks) stand.0)
  nodes-below t r i (Cons k w ns ks ts) well stand = nodes-below t r (suc i) ts well.4 stand.1

pub program-headed : (k : Kind) → is_program k ≡ true → has_heading k ≡ true
program-headed kind.Program e = refl
program-headed _ e = absurd (true≢false (sym e))

pub routines-nodes : (t : Plain) → IsProper t → is_program t.kind ≡ true → Each (IsNode t) (routines_of t)
unfolding routines_of
routines-nodes t proper e = (
  record {
    node = t;
    here = refl;
    headed = program-headed t.kind e;
    fits = proper.sound.0;
    well = proper.sound.3;
    count_is = sym (routines-law.program_kids t proper e);
    block = refl;
  },
  nodes-below t (program_routine t) 1 t.kids proper.sound.3 (kids-stand t [] t refl),
)
