-- A plain list with one more element.
use Rattle.std.proofs.Common.{◌≡◌, ℕ, zero, suc, ◌+◌, ◌≤◌, max, Bool, true, false, ◌&&◌, not, Some, List, [], ◌∷◌, length, map, insert, refl, sym, ap, ◌∙◌, arith}
use Rattle.std.specs.Option.{IsSome}
use Rattle.std.proofs.Math.Bool.{and-true}
use Rattle.std.proofs.lemmas.Bool.{and_parts, and_from, le-leb, leb-true}
use Rattle.std.proofs.lemmas.List.Edits.{length-insert}
use Rattle.std.proofs.lemmas.List.Sums.{sum_by-insert}
use Rattle.pc_syntax.specs.declared.kind.Kind.{Kind}
use Rattle.pc_syntax.specs.Plain.{Plain, forest_of, kids_of}
use Rattle.pc_syntax.specs.Slots.{is_list, least_of, class_from}
use Rattle.pc_syntax.specs.WellFormed.{size_of, depth_of, takes_notes, WellFormed, IsWellFormed, IsProper}
use Rattle.pc_syntax.specs.Parts.{largest, kid_at}
use Rattle.pc_syntax.specs.PartsLaws.{kind-node, is_open-node, size_of-node, depth_of-node, size_of-kids, depth_of-kids}
use Rattle.pc_syntax.specs.Fits.{word_fits, takes_count, takes, takes_from, kinds_of, node_fits}
use Rattle.pc_syntax.specs.SoundLaws.{fits-sound, sound-fits}
use Rattle.pc_syntax.specs.Places.{at, put}
use Rattle.pc_syntax.specs.Edits.{with_more}
use Rattle.pc_syntax.specs.Outline.{IsOutline}
use Rattle.pc_syntax.proofs.Changed.{sound-parts, at-step, proper-step}
use Rattle.pc_syntax.proofs.Fewer.{opens-list, apart-list, shift, takes_notes-fewer, kid_there}

largest-insert : (ks : List Plain) (i : ℕ) (q : Plain) → largest (map depth_of (insert ks i q)) ≡ max (largest (map depth_of ks)) (depth_of q)
largest-insert [] zero q = omega arith
largest-insert [] (suc i) q = omega arith
largest-insert (k ∷ ks) zero q = omega arith
largest-insert (k ∷ ks) (suc i) q = omega (arith, largest-insert ks i q)

WellFormed-insert : (ks : List Plain) (i : ℕ) (q : Plain) → WellFormed (forest_of ks) → IsWellFormed q → WellFormed (forest_of (insert ks i q))
WellFormed-insert [] zero q h s = s
WellFormed-insert [] (suc i) q h s = s
WellFormed-insert (k ∷ ks) zero q h s = (s.0, s.1, s.2, s.3, h)
WellFormed-insert (k ∷ ks) (suc i) q h s = (h.0, h.1, h.2, h.3, WellFormed-insert ks i q h.4 s)

unnoted : (bears list comments : Bool) → list ≡ true → (bears && not list && comments) ≡ true → ⊥
unnoted true true comments e h = cc
unnoted false true comments e h = cc
unnoted bears false comments e h = cc

-- in a list each place has one class, and one element more breaks nothing
module _ (k : Kind) (list : is_list k ≡ true) where
  one_class : (n : ℕ) → class_from k n ≡ class_from k 0
  one_class n = rw list refl

  takes_from-insert : (n : ℕ) (ks : List Plain) (i : ℕ) (q : Plain) → takes_from k n (kinds_of ks) ≡ true → takes_from k n (kinds_of (insert ks i q)) ≡ takes (class_from k 0) q.kind
  takes_from-insert n [] zero q h = rw (one_class n) (and-true _)
  takes_from-insert n [] (suc i) q h = rw (one_class n) (and-true _)
  takes_from-insert n (p ∷ ps) zero q h =
      let rest : takes_from k (suc n) (kinds_of (p ∷ ps)) ≡ true = shift k list n (p ∷ ps) ∙ h in
      rw (rest, one_class n) (and-true _)
  takes_from-insert n (p ∷ ps) (suc i) q h =
      let parts = and_parts (takes (class_from k n) p.kind) _ h in
      rw parts.0 (takes_from-insert (suc n) ps i q parts.1)

  takes_notes-more : (n : ℕ) (ns : List (List ℕ)) → takes_notes k n ns ≡ true → takes_notes k (n + 1) ns ≡ true
  takes_notes-more n [] h = refl
  takes_notes-more zero (c ∷ cs) h = absurd (unnoted _ (is_list k) _ list h)
  takes_notes-more (suc n) (c ∷ cs) h = takes_notes-fewer k (suc n + 1) (suc n) (c ∷ cs) (omega arith) (omega arith) h

-- the list with one more element
module _ (p : Plain) (i : ℕ) (q : Plain) (l : i ≤ length (kids_of p)) (list : is_list p.kind ≡ true) (h : IsWellFormed p) where
  abbrev more : List Plain
  more = insert (kids_of p) i q

  takes_count-more : takes_count p.kind (length more) ≡ true
  takes_count-more =
      let s = sound-parts p h in
      let count = rw list at s.count in
      let least : least_of p.kind ≤ length (kids_of p) = leb-true _ _ count in
      rw list (le-leb _ _ (omega (arith, least, length-insert (kids_of p) i q l)))

  sound-with_more : takes (class_from p.kind 0) q.kind ≡ true → IsWellFormed q → IsWellFormed (with_more p i q)
  unfolding node_fits
  sound-with_more stands sound =
      let s = sound-parts p h in
      let places : takes_from p.kind 0 (kinds_of more) ≡ true = takes_from-insert p.kind list 0 (kids_of p) i q s.places ∙ stands in
      let notes : takes_notes p.kind (length more) p.notes ≡ true = rw (length-insert (kids_of p) i q l) (takes_notes-more p.kind list (length (kids_of p)) p.notes s.notes) in
      fits-sound p.kind p.word p.notes more (and_from _ _ s.word (and_from _ _ takes_count-more (and_from _ _ places (and_from _ _ notes (ap not (apart-list p.kind more list))))))
      (WellFormed-insert (kids_of p) i q s.kids sound)

  stands-with_more : IsWellFormed (with_more p i q) → takes (class_from p.kind 0) q.kind ≡ true
  unfolding node_fits
  stands-with_more whole =
      let a = and_parts (word_fits p.kind p.word) _ (sound-fits p.kind p.word p.notes more whole) in
      let b = and_parts (takes_count p.kind (length more)) _ a.1 in
      let c = and_parts (takes_from p.kind 0 (kinds_of more)) _ b.1 in
      sym (takes_from-insert p.kind list 0 (kids_of p) i q (sound-parts p h).places) ∙ c.0

  pub outline-with_more : (fits : Bool) (depth size : ℕ) → IsWellFormed q → fits ≡ takes (class_from p.kind 0) q.kind → depth ≡ max (depth_of p) (depth_of q + 1) → size ≡ size_of p + size_of q →
      IsOutline (record { kind = p.kind; fits = fits; is_open = false; depth = depth; size = size }) (with_more p i q)
  outline-with_more fits depth size sound fits_is depth_is size_is = record {
    kind = sym (kind-node p.kind p.word p.notes more);
    sound = λ e. sound-with_more (sym fits_is ∙ e) sound;
    unsound = λ e whole. let no : false ≡ true = sym e ∙ fits_is ∙ stands-with_more whole in cc;
    is_open = sym (is_open-node p.kind p.word p.notes more ∙ opens-list p.kind _ list);
    depth = omega (arith, depth_is, depth_of-node p.kind p.word p.notes more, largest-insert (kids_of p) i q, depth_of-kids p);
    size = omega (arith, size_is, size_of-node p.kind p.word p.notes more, sum_by-insert size_of (kids_of p) i q, size_of-kids p);
  }

-- what is put into a tree that becomes proper is proper
pub proper-at : (is : List ℕ) (p k q : Plain) → at is p ≡ Some k → IsProper (put is p q) → IsProper q
proper-at [] p k q e h = h
proper-at (i ∷ is) p k q e h =
    let there : IsSome (at (i ∷ is) p) = rw e refl in
    let t = kid_there p i is (kid_at p i) refl there in
    proper-at is t.0 k q (sym (at-step p t.0 i is t.1) ∙ e) (proper-step p t.0 i is t.1 q h)
