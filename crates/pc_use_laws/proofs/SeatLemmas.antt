-- Each routine of a program has its node, and its own block is made of the block there.
use Rattle.std.specs.Prelude.{ℕ, suc, ◌≡◌, ◌+◌, true, false, if◌then◌else◌, Bool, List, [], ◌∷◌, ◌++◌, Option, Some, map}
use Rattle.std.proofs.Common.{refl, sym, subst, true≢false, arith}
use Rattle.pc_syntax.specs.declared.kind.Kind.{Kind}
use Rattle.pc_syntax.specs.declared.kind.Kind.TheVariants as kind
use Rattle.pc_syntax.specs.Layout.{layout}
use Rattle.pc_syntax.specs.Places.{at}
use Rattle.pc_syntax.specs.Plain.{Forest, Nil, Cons, Plain, count, kinds}
use Rattle.pc_syntax.specs.WellFormed.{WellFormed, IsProper, fits_some}
use Rattle.pc_scope.specs.Blocks.{block_kids, kid_count}
use Rattle.pc_scope.specs.Headings.{is_routine_kind}
use Rattle.pc_rules.specs.Attributes.{Attributes, first}
use Rattle.pc_rules.specs.Decorated.{decorate}
use Rattle.pc_rules.specs.Errors.{is_program}
use Rattle.pc_rules.specs.Meanings.{Found, Local, find}
use Rattle.pc_rules.specs.OwnBlock.{own}
use Rattle.pc_rules.specs.Places.{inner, beside}
use Rattle.pc_rules.specs.RoutineList.{Forwarded, routine_of, key_of, forwarded_by, ARoutine, part_of, routines_in, routines_below, program_routine, routines_of}
use Rattle.pc_rules.specs.Routines.{Routine, bare, start_of}
use Rattle.pc_decl.specs.Annotated.{Annotation, annotated, annotation_of}
use Rattle.pc_needs.proofs.BodyParts.{BlockLast, block-last}
use Rattle.pc_needs.proofs.HeadingKinds.{has_heading, routine-has-heading}
use Rattle.pc_needs.proofs.Lists.{Each, each-append}
use Rattle.pc_needs.proofs.PlaceLemmas.{of-part}
use Rattle.pc_program_laws.proofs.RoutineLemmas.{routines-law}
use Rattle.pc_decl_laws.proofs.LeadLemmas.{tree_of}
use Rattle.pc_use_laws.proofs.SitLemmas.{Sits, sits-kids}

-- a routine's node stands at its place, and has its block
pub record IsSeated (t : Plain) (r : Routine) : Type 0 where
  pub node : Plain
  pub here : at r.place t ≡ Some node
  pub headed : has_heading node.kind ≡ true
  pub fits : fits_some (layout node.kind node.word (count node.kids)) (kinds node.kids) ≡ true
  pub well : WellFormed node.kids
  pub last : BlockLast node.kids
  pub block : r.block ≡ own (block_kids node.kids)
  pub count : r.block_kid ≡ kid_count node.kids

part-routine : (k : Kind) → part_of k ≡ ARoutine → is_routine_kind k ≡ true
part-routine kind.Procedure e = refl
part-routine kind.Function e = refl
part-routine kind.Funbody e = refl
part-routine kind.Routines e = cc e
part-routine _ e = cc e

mutual
  unfolding routines_in

  seated-in : (t : Plain) (m : List ℕ → Found) (l : Local) (fs : List Forwarded) (p : List ℕ) (key : Option (List (List ℕ))) (f : Forest) → WellFormed f →
      Sits t p l.kid f → Each (IsSeated t) (routines_in m l fs p key f)
  seated-in t m l fs p key Nil well sits = tt
  seated-in t m l fs p key (Cons k w ns ks ts) well sits =
      let a : Attributes = first (decorate (bare m) l (own (Cons k w ns ks Nil))) in
      let after : Local = beside l k a in
      let r : Routine = routine_of (find (bare m) after) l fs (p ++ l.kid ∷ []) key k ks in
      of-part (Each (IsSeated t)) (part_of k) _ _ _
      (λ e. each-append (IsSeated t) (r ∷ routines_below r 1 ks) (routines_in m after (forwarded_by l r fs) p key ts) (
        record {
          node = tree_of k w ns ks;
          here = sits.0;
          headed = routine-has-heading k (part-routine k e);
          fits = well.0;
          well = well.3;
          last = block-last k w ks (routine-has-heading k (part-routine k e)) well.0;
          block = refl;
          count = refl;
        },
        seated-below t r 1 ks well.3 (sits-kids t (p ++ l.kid ∷ []) (tree_of k w ns ks) sits.0),
      )
      (seated-in t m after (forwarded_by l r fs) p key ts well.4 sits.1))
      (λ e. seated-in t m (inner l k ks) [] (p ++ l.kid ∷ []) key ks well.3 (sits-kids t (p ++ l.kid ∷ []) (tree_of k w ns ks) sits.0))
      (λ e. seated-in t m after fs p key ts well.4 sits.1)

  seated-below : (t : Plain) (r : Routine) (i : ℕ) (f : Forest) → WellFormed f → Sits t r.place i f → Each (IsSeated t) (routines_below r i f)
  seated-below t r i Nil well sits = tt
  seated-below t r i (Cons kind.Block w ns ks ts) well sits =
      seated-in t r.means (start_of r) [] (r.place ++ i ∷ []) (key_of r.owner) ks well.3 (sits-kids t (r.place ++ i ∷ []) (tree_of kind.Block w ns ks) sits.0)
  seated-below t r i (Cons k w ns ks ts) well sits = seated-below t r (suc i) ts well.4 sits.1

program-heading : (k : Kind) → is_program k ≡ true → has_heading k ≡ true
program-heading kind.Program e = refl
program-heading _ e = absurd (true≢false (sym e))

pub routines-seated : (t : Plain) → IsProper t → is_program t.kind ≡ true → Each (IsSeated t) (routines_of t)
unfolding routines_of
routines-seated t proper e = (
  record {
    node = t;
    here = refl;
    headed = program-heading t.kind e;
    fits = proper.sound.0;
    well = proper.sound.3;
    last = block-last t.kind t.word t.kids (program-heading t.kind e) proper.sound.0;
    block = refl;
    count = sym (routines-law.program_kids t proper e);
  },
  seated-below t (program_routine t) 1 t.kids proper.sound.3 (sits-kids t [] t refl),
)

-- so have those with what is found in them
annotations-of : (t : Plain) (all rs : List Routine) → Each (IsSeated t) rs → Each (λ (a : Annotation). IsSeated t a.routine) (map (annotation_of all) rs)
annotations-of t all [] h = tt
annotations-of t all (r ∷ rs) h = (h.0, annotations-of t all rs h.1)

pub annotations-seated : (t : Plain) → IsProper t → Each (λ (a : Annotation). IsSeated t a.routine) (annotated t).routines
unfolding annotated
annotations-seated t proper = which (is_program t.kind) refl where
  which : (z : Bool) → is_program t.kind ≡ z → Each (λ (a : Annotation). IsSeated t a.routine) (map (annotation_of (if z then routines_of t else [])) (if z then routines_of t else []))
  which true e = annotations-of t (routines_of t) (routines_of t) (routines-seated t proper e)
  which false e = tt

-- ---- the block

block-sits : (t : Plain) (q : List ℕ) (c n : ℕ) (f : Forest) → BlockLast f → c + kid_count f ≡ suc n → Sits t q c f → Sits t (q ++ n ∷ []) 1 (block_kids f)
block-sits t q c n Nil last e sits = absurd last
block-sits t q c n (Cons kind.Block w ns ks Nil) last e sits =
    subst (λ (i : ℕ). Sits t (q ++ i ∷ []) 1 ks) (omega (arith, e)) (sits-kids t (q ++ c ∷ []) (tree_of kind.Block w ns ks) sits.0)
block-sits t q c n (Cons kind.Block w ns ks (Cons j v ms js ts)) last e sits = absurd (true≢false last.0)
block-sits t q c n (Cons k w ns ks Nil) last e sits = tt
block-sits t q c n (Cons k w ns ks (Cons j v ms js ts)) last e sits = block-sits t q (suc c) n (Cons j v ms js ts) last.1 (omega (arith, e)) sits.1

block-well : (f : Forest) → WellFormed f → WellFormed (block_kids f)
block-well Nil well = tt
block-well (Cons kind.Block w ns ks ts) well = well.3
block-well (Cons k w ns ks ts) well = block-well ts well.4

-- the kids of the block stand below it, and are well formed
pub seat-sits : (t : Plain) (r : Routine) (s : IsSeated t r) → Sits t (r.place ++ r.block_kid ∷ []) 1 (block_kids s.node.kids)
seat-sits t r s =
    subst (λ (n : ℕ). Sits t (r.place ++ n ∷ []) 1 (block_kids s.node.kids)) (sym s.count)
    (block-sits t r.place 1 (kid_count s.node.kids) s.node.kids s.last (omega arith) (sits-kids t r.place s.node s.here))

pub seat-well : (t : Plain) (r : Routine) (s : IsSeated t r) → WellFormed (block_kids s.node.kids)
seat-well t r s = block-well s.node.kids s.well
