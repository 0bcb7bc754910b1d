-- Nothing is open at the node of a routine, nor at its parts and those of its block.
use Rattle.std.specs.Prelude.{ℕ, suc, ◌≡◌, ◌+◌, true, false, if◌then◌else◌, Bool, List, [], ◌∷◌, ◌++◌, Option, map}
use Rattle.std.proofs.Common.{refl, ap, sym, subst, ◌∙◌, true≢false, arith, append_assoc}
use Rattle.pc_syntax.specs.declared.kind.Kind.{Kind}
use Rattle.pc_syntax.specs.declared.kind.Kind.TheVariants as kind
use Rattle.pc_syntax.specs.declared.class.Class.TheVariants as class
use Rattle.pc_syntax.specs.Classes.{has}
use Rattle.pc_syntax.specs.Plain.{Forest, Nil, Cons, Plain}
use Rattle.pc_syntax.specs.WellFormed.{IsProper}
use Rattle.pc_scope.specs.Blocks.{kid_count}
use Rattle.pc_rules.specs.Attributes.{Attributes, first}
use Rattle.pc_rules.specs.Decorated.{decorate}
use Rattle.pc_rules.specs.Errors.{is_program}
use Rattle.pc_rules.specs.Meanings.{Found, Local, find}
use Rattle.pc_rules.specs.OwnBlock.{own}
use Rattle.pc_rules.specs.Places.{inner, beside}
use Rattle.pc_rules.specs.RoutineList.{Forwarded, routine_of, key_of, forwarded_by, ARoutine, AllRoutines, part_of, routines_in, routines_below, program_routine, routines_of}
use Rattle.pc_rules.specs.Routines.{Routine, bare, start_of}
use Rattle.pc_decl.specs.Annotated.{Annotation, annotated, annotation_of}
use Rattle.pc_decl.specs.Uses.{opened_at}
use Rattle.pc_needs.proofs.BodyParts.{BlockLast}
use Rattle.pc_needs.proofs.Lists.{Each, each-append}
use Rattle.pc_needs.proofs.PlaceLemmas.{of-part}
use Rattle.pc_decl_laws.proofs.LeadLemmas.{tree_of}
use Rattle.pc_decl_laws.proofs.TypeLemmas.{each-among}
use Rattle.pc_use_laws.specs.OpenedSteps.{opens_nothing, RoutineLaw, PartLaw, BlockLaw}
use Rattle.pc_use_laws.proofs.OpenedLemmas.{kid-law}
use Rattle.pc_use_laws.proofs.SeatLemmas.{IsSeated, annotations-seated}
use Rattle.pc_use_laws.proofs.SitLemmas.{Sits, sits-kids}

-- nothing is open at a place and at its kids
abbrev IsClearAt : Plain → List ℕ → Type 0
IsClearAt t p = (opened_at t p ≡ []) × ((i : ℕ) → opened_at t (p ++ i ∷ []) ≡ [])

-- so it is at a kid that opens nothing
clear-kid : (t : Plain) (p : List ℕ) (c : ℕ) (k : Kind) (w : List ℕ) (ns : List (List ℕ)) (ks ts : Forest) → IsProper t → opens_nothing k ≡ true →
    Sits t p c (Cons k w ns ks ts) → ((i : ℕ) → opened_at t (p ++ i ∷ []) ≡ []) → IsClearAt t (p ++ c ∷ [])
clear-kid t p c k w ns ks ts proper n sits none = (none c, λ i. kid-law t (tree_of k w ns ks) (p ++ c ∷ []) i proper sits.0 n ∙ none c)

routine-opens : (k : Kind) → part_of k ≡ ARoutine → opens_nothing k ≡ true
routine-opens kind.Procedure e = refl
routine-opens kind.Function e = refl
routine-opens kind.Funbody e = refl
routine-opens kind.Routines e = cc
routine-opens _ e = cc

list-opens : (k : Kind) → part_of k ≡ AllRoutines → opens_nothing k ≡ true
list-opens kind.Routines e = refl
list-opens kind.Procedure e = cc
list-opens kind.Function e = cc
list-opens kind.Funbody e = cc
list-opens _ e = cc

-- nothing is open at a routine
abbrev IsClear : Plain → Routine → Type 0
IsClear t r = IsClearAt t r.place

mutual
  unfolding routines_in

  clear-in : (t : Plain) (m : List ℕ → Found) (l : Local) (fs : List Forwarded) (p : List ℕ) (key : Option (List (List ℕ))) (f : Forest) → IsProper t →
      Sits t p l.kid f → ((i : ℕ) → opened_at t (p ++ i ∷ []) ≡ []) → Each (IsClear t) (routines_in m l fs p key f)
  clear-in t m l fs p key Nil proper sits none = tt
  clear-in t m l fs p key (Cons k w ns ks ts) proper sits none =
      let a : Attributes = first (decorate (bare m) l (own (Cons k w ns ks Nil))) in
      let after : Local = beside l k a in
      let r : Routine = routine_of (find (bare m) after) l fs (p ++ l.kid ∷ []) key k ks in
      of-part (Each (IsClear t)) (part_of k) _ _ _
      (λ e. let c : IsClearAt t (p ++ l.kid ∷ []) = clear-kid t p l.kid k w ns ks ts proper (routine-opens k e) sits none in
      each-append (IsClear t) (r ∷ routines_below r 1 ks) (routines_in m after (forwarded_by l r fs) p key ts)
      (c, clear-below t r 1 ks proper (sits-kids t (p ++ l.kid ∷ []) (tree_of k w ns ks) sits.0) c.1)
      (clear-in t m after (forwarded_by l r fs) p key ts proper sits.1 none))
      (λ e. clear-in t m (inner l k ks) [] (p ++ l.kid ∷ []) key ks proper (sits-kids t (p ++ l.kid ∷ []) (tree_of k w ns ks) sits.0)
      (clear-kid t p l.kid k w ns ks ts proper (list-opens k e) sits none).1)
      (λ e. clear-in t m after fs p key ts proper sits.1 none)

  clear-below : (t : Plain) (r : Routine) (i : ℕ) (f : Forest) → IsProper t → Sits t r.place i f → ((j : ℕ) → opened_at t (r.place ++ j ∷ []) ≡ []) →
      Each (IsClear t) (routines_below r i f)
  clear-below t r i Nil proper sits none = tt
  clear-below t r i (Cons kind.Block w ns ks ts) proper sits none =
      clear-in t r.means (start_of r) [] (r.place ++ i ∷ []) (key_of r.owner) ks proper (sits-kids t (r.place ++ i ∷ []) (tree_of kind.Block w ns ks) sits.0)
      (clear-kid t r.place i kind.Block w ns ks ts proper refl sits none).1
  clear-below t r i (Cons k w ns ks ts) proper sits none = clear-below t r (suc i) ts proper sits.1 none

program-opens : (k : Kind) → is_program k ≡ true → opens_nothing k ≡ true
program-opens kind.Program e = refl
program-opens _ e = absurd (true≢false (sym e))

nothing-around : (t : Plain) → opened_at t [] ≡ []
unfolding opened_at
nothing-around t = refl

routines-clear : (t : Plain) → IsProper t → is_program t.kind ≡ true → Each (IsClear t) (routines_of t)
unfolding routines_of
routines-clear t proper e =
    let c : IsClearAt t [] = (nothing-around t, λ i. kid-law t t [] i proper refl (program-opens t.kind e) ∙ nothing-around t) in
    (c, clear-below t (program_routine t) 1 t.kids proper (sits-kids t [] t refl) c.1)

annotations-of : (t : Plain) (all rs : List Routine) → Each (IsClear t) rs → Each (λ (a : Annotation). IsClear t a.routine) (map (annotation_of all) rs)
annotations-of t all [] h = tt
annotations-of t all (r ∷ rs) h = (h.0, annotations-of t all rs h.1)

annotations-clear : (t : Plain) → IsProper t → Each (λ (a : Annotation). IsClear t a.routine) (annotated t).routines
unfolding annotated
annotations-clear t proper = which (is_program t.kind) refl where
  which : (z : Bool) → is_program t.kind ≡ z → Each (λ (a : Annotation). IsClear t a.routine) (map (annotation_of (if z then routines_of t else [])) (if z then routines_of t else []))
  which true e = annotations-of t (routines_of t) (routines_of t) (routines-clear t proper e)
  which false e = tt

-- ---- the block

block-opens : (k : Kind) → has class.Block k ≡ true → opens_nothing k ≡ true
block-opens kind.With e = absurd (true≢false (sym e))
block-opens kind.Accesses e = absurd (true≢false (sym e))
block-opens _ e = refl

block-clear : (t : Plain) (q : List ℕ) (c n : ℕ) (f : Forest) → IsProper t → BlockLast f → c + kid_count f ≡ suc n → Sits t q c f → ((i : ℕ) → opened_at t (q ++ i ∷ []) ≡ []) →
    IsClearAt t (q ++ n ∷ [])
block-clear t q c n Nil proper last e sits none = absurd last
block-clear t q c n (Cons k w ns ks Nil) proper last e sits none =
    subst (λ (i : ℕ). IsClearAt t (q ++ i ∷ [])) (omega (arith, e)) (clear-kid t q c k w ns ks Nil proper (block-opens k last) sits none)
block-clear t q c n (Cons k w ns ks (Cons j v ms js ts)) proper last e sits none = block-clear t q (suc c) n (Cons j v ms js ts) proper last.1 (omega (arith, e)) sits.1 none

pub routine-law : RoutineLaw
routine-law t r proper a = (each-among (λ (x : Annotation). IsClear t x.routine) (annotated t).routines r a (annotations-clear t proper)).0

pub part-law : PartLaw
part-law t r i proper a = (each-among (λ (x : Annotation). IsClear t x.routine) (annotated t).routines r a (annotations-clear t proper)).1 i

pub block-law : BlockLaw
block-law t r i proper a =
    let s = each-among (λ (x : Annotation). IsSeated t x.routine) (annotated t).routines r a (annotations-seated t proper) in
    let p : List ℕ = r.routine.place in
    ap (opened_at t) (sym (append_assoc p (r.routine.block_kid ∷ []) (i ∷ [])))
    ∙ ap (λ (n : ℕ). opened_at t ((p ++ n ∷ []) ++ i ∷ [])) s.count
    ∙ (block-clear t p 1 (kid_count s.node.kids) s.node.kids proper s.last (omega arith) (sits-kids t p s.node s.here) (λ j. part-law t r j proper a)).1 i
