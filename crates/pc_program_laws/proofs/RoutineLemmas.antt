-- The list of the routines of a program, node by node.
use Rattle.std.specs.Prelude.{ℕ, suc, ◌≡◌, true, List, [], ◌∷◌, ◌+◌, ◌++◌}
use Rattle.std.proofs.Common.{refl, ap, sym, subst, ◌∙◌, true≢false, arith, append_assoc}
use Rattle.std.proofs.lemmas.Bool.{and_parts}
use Rattle.pc_syntax.specs.declared.kind.Kind.{Kind}
use Rattle.pc_syntax.specs.declared.kind.Kind.TheVariants as kind
use Rattle.pc_syntax.specs.declared.class.Class.TheVariants as class
use Rattle.pc_syntax.specs.Classes.{has}
use Rattle.pc_syntax.specs.Layout.{layout}
use Rattle.pc_syntax.specs.Plain.{Forest, Nil, Cons, Plain, count, kinds}
use Rattle.pc_syntax.specs.WellFormed.{WellFormed, fits_some}
use Rattle.pc_scope.specs.Blocks.{block_kids, kid_count, routines_among}
use Rattle.pc_scope.specs.Headings.{Heading}
use Rattle.pc_rules.specs.Errors.{is_program, from_place, own_entries, entries_of}
use Rattle.pc_rules.specs.Places.{inner}
use Rattle.pc_rules.specs.RoutineList.{key_of, forwarded_by, Part, ARoutine, AllRoutines, NoRoutine, routines_in, routines_below, program_routine, routines_of}
use Rattle.pc_rules.specs.Routines.{Routine, start_of}
use Rattle.pc_needs.proofs.BodyParts.{BlockLast, block-last}
use Rattle.pc_rule_laws.specs.Levels.{own-headings}
use Rattle.pc_program_laws.specs.Routines.{behind_first, routine_here, routines_start, NextRoutineLaw, NoRoutineLaw, BlockRoutinesLaw, InsideRoutinesLaw, SamePlaceLaw, EntriesLaw, RoutinesLaw}
use Rattle.pc_program_laws.proofs.BlockLemmas.{block-parts}
use Rattle.pc_program_laws.proofs.OwnLemmas.{own-block}

next-routine : NextRoutineLaw
unfolding routines_in
next-routine m l fs p key k w ns ks ts e = ap (λ (x : Part). elim x [
  | ARoutine ↦ (routine_here m l fs p key k w ns ks ∷ routines_below (routine_here m l fs p key k w ns ks) 1 ks)
      ++ routines_in m (behind_first m l k w ns ks) (forwarded_by l (routine_here m l fs p key k w ns ks) fs) p key ts
  | AllRoutines ↦ routines_in m (inner l k ks) [] (p ++ l.kid ∷ []) key ks
  | NoRoutine ↦ routines_in m (behind_first m l k w ns ks) fs p key ts
]) e

no-routine : NoRoutineLaw
unfolding routines_in
no-routine m l fs p key k w ns ks ts e = ap (λ (x : Part). elim x [
  | ARoutine ↦ (routine_here m l fs p key k w ns ks ∷ routines_below (routine_here m l fs p key k w ns ks) 1 ks)
      ++ routines_in m (behind_first m l k w ns ks) (forwarded_by l (routine_here m l fs p key k w ns ks) fs) p key ts
  | AllRoutines ↦ routines_in m (inner l k ks) [] (p ++ l.kid ∷ []) key ks
  | NoRoutine ↦ routines_in m (behind_first m l k w ns ks) fs p key ts
]) e

-- the fourth kid of a block
fourth : (n : ℕ) → suc (suc (suc n)) ≡ n + 3
fourth n = omega arith

block-routines : BlockRoutinesLaw
unfolding routines_in
block-routines m l fs p key w f e =
    let b = block-parts w f e in
    subst (λ (x : Forest). routines_in m l fs p key x ≡ routines_in m (routines_start m l x) [] (p ++ (l.kid + 3) ∷ []) key (routines_among x)) (sym b.is)
    (ap (λ (n : ℕ). routines_in m (routines_start m l (Cons kind.Consts b.v1 b.n1 b.k1 (Cons kind.Types b.v2 b.n2 b.k2 (Cons kind.Vars b.v3 b.n3 b.k3 (Cons kind.Routines b.v4 b.n4 b.k4 (Cons b.j b.v5 b.n5 b.k5 Nil))))))
    [] (p ++ n ∷ []) key b.k4) (fourth l.kid))

-- the routines of the block among a routine's kids, which is the last
below-last : (r : Routine) (i n : ℕ) (f : Forest) → BlockLast f → i + kid_count f ≡ suc n →
    routines_below r i f ≡ routines_in r.means (start_of r) [] (r.place ++ n ∷ []) (key_of r.owner) (block_kids f)
unfolding routines_in
below-last r i n Nil h e = absurd h
below-last r i n (Cons kind.Block w ns ks Nil) h e = ap (λ (c : ℕ). routines_in r.means (start_of r) [] (r.place ++ c ∷ []) (key_of r.owner) ks) (omega (arith, e))
below-last r i n (Cons kind.Block w ns ks (Cons j v ms js ts)) h e = absurd (true≢false h.0)
below-last r i n (Cons k w ns ks Nil) h e = refl
below-last r i n (Cons k w ns ks (Cons j v ms js ts)) h e = below-last r (suc i) n (Cons j v ms js ts) h.1 (omega (arith, e))

-- a block among well-formed trees is well-formed, and where there is none there is no routine
block-or-nil : (r : Routine) (n : ℕ) (f : Forest) → WellFormed f →
    routines_in r.means (start_of r) [] (r.place ++ n ∷ []) (key_of r.owner) (block_kids f)
    ≡ routines_in r.means (routines_start r.means (start_of r) (block_kids f)) [] (r.place ++ n ∷ 4 ∷ []) (key_of r.owner) (routines_among (block_kids f))
unfolding routines_in
block-or-nil r n Nil h = refl
block-or-nil r n (Cons kind.Block w ns ks ts) h =
    block-routines r.means (start_of r) [] (r.place ++ n ∷ []) (key_of r.owner) w ks h.0
    ∙ ap (λ (p : List ℕ). routines_in r.means (routines_start r.means (start_of r) ks) [] p (key_of r.owner) (routines_among ks)) (append_assoc r.place (n ∷ []) (4 ∷ []))
block-or-nil r n (Cons k w ns ks ts) h = block-or-nil r n ts h.4

inside-routines : InsideRoutinesLaw
inside-routines r k w ks h e g = below-last r 1 (kid_count ks) ks (block-last k w ks h e) (omega arith) ∙ block-or-nil r (kid_count ks) ks g

same-place : SamePlaceLaw
same-place l rs = ap (λ (hs : List Heading). record (inner l kind.Routines rs) { ahead = hs }) (own-headings rs)

entries-law : EntriesLaw
entries-law all [] us = refl
entries-law all (r ∷ rs) us =
    ap (λ es. from_place r.place (own_entries all r) ++ es) (entries-law all rs us) ∙ sym (append_assoc (from_place r.place (own_entries all r)) (entries_of all rs) (entries_of all us))

program-kids : (k : Kind) (w : List ℕ) (f : Forest) → is_program k ≡ true → fits_some (layout k w (count f)) (kinds f) ≡ true → kid_count f ≡ 3
program-kids kind.Program (x ∷ w) f p e = absurd (true≢false (sym e))
program-kids kind.Program [] Nil p e = absurd (true≢false (sym e))
program-kids kind.Program [] (Cons a v1 n1 k1 Nil) p e = absurd (true≢false (sym (and_parts (has class.Name a) _ e).1))
program-kids kind.Program [] (Cons a v1 n1 k1 (Cons b v2 n2 k2 Nil)) p e = absurd (true≢false (sym (and_parts (has class.Heads b) _ (and_parts (has class.Name a) _ e).1).1))
program-kids kind.Program [] (Cons a v1 n1 k1 (Cons b v2 n2 k2 (Cons c v3 n3 k3 Nil))) p e = refl
program-kids kind.Program [] (Cons a v1 n1 k1 (Cons b v2 n2 k2 (Cons c v3 n3 k3 (Cons d v4 n4 k4 ts)))) p e =
    absurd (true≢false (sym (and_parts (has class.Block c) _ (and_parts (has class.Heads b) _ (and_parts (has class.Name a) _ e).1).1).1))
program-kids k w f p e = absurd (true≢false (sym p))

the-program : (t : Plain) → routines_of t ≡ program_routine t ∷ routines_below (program_routine t) 1 t.kids
unfolding routines_of
the-program t = refl

pub routines-law : RoutinesLaw
routines-law = record {
  program = the-program;
  next = next-routine;
  other = no-routine;
  block = block-routines;
  inside = inside-routines;
  start = same-place;
  own_block = own-block;
  program_kids = λ t proper p. program-kids t.kind t.word t.kids p proper.sound.0;
  entries = entries-law;
}
