-- Each name that a routine of a program declares stands where a name is, inside that routine.
use Rattle.std.specs.Prelude.{ℕ, suc, ◌≡◌, ◌+◌, ◌==◌, ◌&&◌, not, Bool, true, false, if◌then◌else◌, List, [], ◌∷◌, length, Option, Some, None, ◌++◌}
use Rattle.std.specs.Option.{option_map_or, option_and_then, is_some}
use Rattle.std.proofs.Common.{refl, ap, sym, subst, ◌∙◌, true≢false, inl, inr, arith}
use Rattle.pc_syntax.specs.declared.kind.Kind.{Kind}
use Rattle.pc_syntax.specs.declared.kind.Kind.TheVariants as kind
use Rattle.pc_syntax.specs.Plain.{Forest, Nil, Cons, Plain}
use Rattle.pc_syntax.specs.WellFormed.{WellFormed, IsProper}
use Rattle.pc_syntax.specs.Words.{is_among}
use Rattle.pc_scope.specs.Blocks.{block_kids, kid_count}
use Rattle.pc_scope.specs.Declarations.{Declared, declared_at}
use Rattle.pc_scope.specs.Headings.{is_routine_kind}
use Rattle.pc_scope.specs.Waiting.{parameters_of}
use Rattle.pc_rules.specs.Attributes.{Attributes, first}
use Rattle.pc_rules.specs.Declarations.{heading_here, is_later_declaration}
use Rattle.pc_rules.specs.Decorated.{decorate}
use Rattle.pc_rules.specs.Errors.{is_program}
use Rattle.pc_rules.specs.Meanings.{Found, Local, find}
use Rattle.pc_rules.specs.OwnBlock.{own, heading_part}
use Rattle.pc_rules.specs.Places.{inner, beside}
use Rattle.pc_rules.specs.RoutineList.{Forwarded, forwarded_for, owner_of, extended, routine_of, key_of, forwarded_by, ARoutine, AllRoutines, part_of, routines_in, routines_below, program_routine, routines_of}
use Rattle.pc_rules.specs.Routines.{Routine, bare, start_of}
use Rattle.pc_decl.specs.Declared.{without_seconds, heading_names, block_names, given_names, names_of}
use Rattle.pc_decl.specs.FieldTypes.{is_field_kind}
use Rattle.pc_decl.specs.Nodes.{kids_at}
use Rattle.pc_needs.proofs.BodyParts.{BlockLast, block-last}
use Rattle.pc_needs.proofs.HeadingKinds.{has_heading, routine-has-heading}
use Rattle.pc_needs.proofs.Lists.{Each, each-append}
use Rattle.pc_needs.proofs.PlaceLemmas.{of-part}
use Rattle.pc_program_laws.proofs.RoutineLemmas.{routines-law}
use Rattle.pc_decl_laws.proofs.LeadLemmas.{tree_of, InProgram, program-at, Lifts, LiftsFirst, LiftsBelow, lifts-behind, first-behind, below-behind, below-kids, lifts-kids, kids-first, kids-below}
use Rattle.pc_decl_laws.proofs.NameLemmas.{Stands, kind-there, trees-stand}

-- ---- the node of a routine

-- the kids of a routine are those of the node at its place, its heading and its own block are made of them, and what is below them is inside it; it
-- has a key where its owner has one
pub record IsRooted (t : Plain) (r : Routine) : Type 0 where
  pub kids : Forest
  pub here : kids_at t r.place ≡ kids
  pub well : WellFormed kids
  pub last : BlockLast kids
  pub count : r.block_kid ≡ kid_count kids
  pub heading : r.heading ≡ heading_part kids
  pub block : r.block ≡ own (block_kids kids)
  pub keyed : r.has_key ≡ is_some (key_of r.owner)
  pub outer : List ℕ
  pub lift_first : LiftsFirst t outer r.place 1 kids
  pub lift_below : LiftsBelow t r.place r.place 1 kids

kids-there : (t : Plain) (q : List ℕ) (x : Plain) (h : List ℕ) → InProgram t q x h → kids_at t q ≡ x.kids
kids-there t q x h l = ap (λ (o : Option Plain). option_map_or (λ (n : Plain). n.kids) o Nil) (program-at t q x h l)

part-routine : (k : Kind) → part_of k ≡ ARoutine → is_routine_kind k ≡ true
part-routine kind.Procedure e = refl
part-routine kind.Function e = refl
part-routine kind.Funbody e = refl
part-routine kind.Routines e = cc e
part-routine _ e = cc e

part-list : (k : Kind) → part_of k ≡ AllRoutines → is_routine_kind k ≡ false
part-list kind.Procedure e = cc e
part-list kind.Function e = cc e
part-list kind.Funbody e = cc e
part-list _ e = refl

-- the key of the routine that stands there
abbrev key_here : Local → List Forwarded → Option (List (List ℕ)) → Option (List (List ℕ))
key_here l fs key =
    let later = is_later_declaration l in
    let h = heading_here l in
    let is_first = not later && not (length h.name == 0) && not (is_among l.passed h.name) in
    if later then option_and_then (λ (x : Forwarded). x.key) (forwarded_for h fs) else if is_first then extended key h.name else None

-- an owner has the key that it is made of
key-owner : (o : Option (List (List ℕ))) (p : List ℕ) → is_some o ≡ is_some (key_of (owner_of o p))
key-owner (Some k) p = refl
key-owner None p = refl

mutual
  unfolding routines_in

  rooted-in : (t : Plain) (b : List ℕ) (m : List ℕ → Found) (l : Local) (fs : List Forwarded) (p : List ℕ) (key : Option (List (List ℕ))) (f : Forest) → WellFormed f →
      Lifts t b p l.kid f → Each (IsRooted t) (routines_in m l fs p key f)
  rooted-in t b m l fs p key Nil well lift = tt
  rooted-in t b m l fs p key (Cons k w ns ks ts) well lift =
      let a : Attributes = first (decorate (bare m) l (own (Cons k w ns ks Nil))) in
      let after : Local = beside l k a in
      let r : Routine = routine_of (find (bare m) after) l fs (p ++ l.kid ∷ []) key k ks in
      of-part (Each (IsRooted t)) (part_of k) _ _ _
      (λ e. each-append (IsRooted t) (r ∷ routines_below r 1 ks) (routines_in m after (forwarded_by l r fs) p key ts) (
        record {
          kids = ks;
          here = kids-there t (p ++ l.kid ∷ []) (tree_of k w ns ks) b (lift l.kid [] (tree_of k w ns ks) b (inl (refl, refl, refl)));
          well = well.3;
          last = block-last k w ks (routine-has-heading k (part-routine k e)) well.0;
          count = refl;
          heading = refl;
          block = refl;
          keyed = key-owner (key_here l fs key) (p ++ l.kid ∷ []);
          outer = b;
          lift_first = kids-first t b p l.kid k w ns ks ts lift;
          lift_below = kids-below t b p l.kid k w ns ks ts (part-routine k e) lift;
        },
        rooted-below t r 1 ks well.3 (kids-below t b p l.kid k w ns ks ts (part-routine k e) lift),
      )
      (rooted-in t b m after (forwarded_by l r fs) p key ts well.4 (lifts-behind t b p l.kid k w ns ks ts lift)))
      (λ e. rooted-in t b m (inner l k ks) [] (p ++ l.kid ∷ []) key ks well.3 (lifts-kids t b p l.kid k w ns ks ts (part-list k e) lift))
      (λ e. rooted-in t b m after fs p key ts well.4 (lifts-behind t b p l.kid k w ns ks ts lift))

  rooted-below : (t : Plain) (r : Routine) (i : ℕ) (f : Forest) → WellFormed f → LiftsBelow t r.place r.place i f → Each (IsRooted t) (routines_below r i f)
  rooted-below t r i Nil well lift = tt
  rooted-below t r i (Cons kind.Block w ns ks ts) well lift =
      rooted-in t r.place r.means (start_of r) [] (r.place ++ i ∷ []) (key_of r.owner) ks well.3 (below-kids t r.place r.place i kind.Block w ns ks ts refl lift)
  rooted-below t r i (Cons k w ns ks ts) well lift = rooted-below t r (suc i) ts well.4 (below-behind t r.place r.place i k w ns ks ts lift)

program-heading : (k : Kind) → is_program k ≡ true → has_heading k ≡ true
program-heading kind.Program e = refl
program-heading _ e = absurd (true≢false (sym e))

pub routines-rooted : (t : Plain) → IsProper t → is_program t.kind ≡ true → Each (IsRooted t) (routines_of t)
unfolding routines_of
routines-rooted t proper e = (
  record {
    kids = t.kids;
    here = refl;
    well = proper.sound.3;
    last = block-last t.kind t.word t.kids (program-heading t.kind e) proper.sound.0;
    count = sym (routines-law.program_kids t proper e);
    heading = refl;
    block = refl;
    keyed = refl;
    outer = [];
    lift_first = λ j x h l. l;
    lift_below = λ j a more x h l. l;
  },
  rooted-below t (program_routine t) 1 t.kids proper.sound.3 (λ j a more x h l. l),
)

-- ---- the names of a routine

-- its parameters
parameters-stand : (t : Plain) (o q : List ℕ) (f : Forest) → WellFormed f → LiftsFirst t o q 1 f → LiftsBelow t q q 1 f → Each (Stands t q) (parameters_of q f)
parameters-stand t o q (Cons k w ns ks (Cons kind.Params v ms js ts)) well first below =
    trees-stand t q (q ++ 2 ∷ []) 1 js
    (below-kids t q q 2 kind.Params v ms js ts refl (below-behind t q q 1 k w ns ks (Cons kind.Params v ms js ts) below)) well.4.3
    (λ e. absurd (true≢false (sym e ∙ ap is_field_kind (kind-there t (q ++ 2 ∷ []) (tree_of kind.Params v ms js) o (first 2 (tree_of kind.Params v ms js) o (inr (inl (refl, refl, refl))))))))
parameters-stand t o q f well first below = tt

-- what its block declares
block-stands : (t : Plain) (o q : List ℕ) (c n : ℕ) (f : Forest) → WellFormed f → BlockLast f → c + kid_count f ≡ suc n → LiftsFirst t o q c f → LiftsBelow t q q c f →
    Each (Stands t q) (declared_at (q ++ n ∷ []) 1 (block_kids f))
block-stands t o q c n Nil well last e first below = absurd last
block-stands t o q c n (Cons kind.Block w ns ks Nil) well last e first below =
    subst (λ (i : ℕ). Each (Stands t q) (declared_at (q ++ i ∷ []) 1 ks)) (omega (arith, e))
    (trees-stand t q (q ++ c ∷ []) 1 ks (below-kids t q q c kind.Block w ns ks Nil refl below) well.3
    (λ g. absurd (true≢false (sym g ∙ ap is_field_kind (kind-there t (q ++ c ∷ []) (tree_of kind.Block w ns ks) o (first c (tree_of kind.Block w ns ks) o (inl (refl, refl, refl))))))))
block-stands t o q c n (Cons kind.Block w ns ks (Cons j v ms js ts)) well last e first below = absurd (true≢false last.0)
block-stands t o q c n (Cons k w ns ks Nil) well last e first below = tt
block-stands t o q c n (Cons k w ns ks (Cons j v ms js ts)) well last e first below =
    block-stands t o q (suc c) n (Cons j v ms js ts) well.4 last.1 (omega (arith, e))
    (first-behind t o q c k w ns ks (Cons j v ms js ts) first) (below-behind t q q c k w ns ks (Cons j v ms js ts) below)

-- the first of equal names alone
firsts-stand : (P : Declared → Type 0) (before : List (List ℕ)) (ds : List Declared) → Each P ds → Each P (without_seconds before ds)
firsts-stand P before [] h = tt
firsts-stand P before (d ∷ ds) h = which (firsts-stand P before ds h.1) (firsts-stand P (d.name ∷ before) ds h.1) (is_among before d.name) where
  which : Each P (without_seconds before ds) → Each P (without_seconds (d.name ∷ before) ds) → (z : Bool) → Each P (if z then without_seconds before ds else d ∷ without_seconds (d.name ∷ before) ds)
  which old new true = old
  which old new false = (h.0, new)

pub names-rooted : (t : Plain) (r : Routine) → IsRooted t r → Each (Stands t r.place) (names_of t r)
names-rooted t r s =
    firsts-stand (Stands t r.place) (given_names r) (heading_names t r ++ block_names t r)
    (each-append (Stands t r.place) (heading_names t r) (block_names t r) (heading r.is_later) block) where
      heading : (z : Bool) → Each (Stands t r.place) (if z then [] else parameters_of r.place (kids_at t r.place))
      heading true = tt
      heading false = subst (λ (f : Forest). Each (Stands t r.place) (parameters_of r.place f)) (sym s.here) (parameters-stand t s.outer r.place s.kids s.well s.lift_first s.lift_below)

      block : Each (Stands t r.place) (declared_at (r.place ++ r.block_kid ∷ []) 1 (block_kids (kids_at t r.place)))
      block =
          subst (λ (f : Forest). Each (Stands t r.place) (declared_at (r.place ++ r.block_kid ∷ []) 1 (block_kids f))) (sym s.here)
          (subst (λ (n : ℕ). Each (Stands t r.place) (declared_at (r.place ++ n ∷ []) 1 (block_kids s.kids))) (sym s.count)
          (block-stands t s.outer r.place 1 (kid_count s.kids) s.kids s.well s.last (omega arith) s.lift_first s.lift_below))
