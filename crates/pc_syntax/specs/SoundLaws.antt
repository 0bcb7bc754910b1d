-- When a node is well formed, from its parts.
use Rattle.std.proofs.Common.{◌≡◌, ℕ, Bool, true, false, not, List, [], ◌∷◌, ◌++◌, refl, sym, ap, ◌∙◌}
use Rattle.std.proofs.lemmas.Bool.{and_parts, and_from}
use Rattle.pc_syntax.specs.declared.kind.Kind.{Kind}
use Rattle.pc_syntax.specs.Plain.{Plain, forest_of, node}
use Rattle.pc_syntax.specs.WellFormed.{takes_notes, WellFormed, IsWellFormed}
use Rattle.pc_syntax.specs.PartsLaws.{count-forest_of}
use Rattle.pc_syntax.specs.Fits.{word_fits, takes_count, takes_from, kinds_of, node_fits}
use Rattle.pc_syntax.specs.FitsLayoutLaws.{layout-kids}

not-true : (b : Bool) → not b ≡ true → b ≡ false
not-true true e = cc
not-true false e = refl

-- one well-formed tree more
pub WellFormed-push : (ts : List Plain) (t : Plain) → WellFormed (forest_of ts) → IsWellFormed t → WellFormed (forest_of (ts ++ t ∷ []))
WellFormed-push [] t h s = s
WellFormed-push (u ∷ ts) t h s = (h.0, h.1, h.2, h.3, WellFormed-push ts t h.4 s)

-- the tests of a node decide whether it is well formed, where its kids are
module _ (k : Kind) (w : List ℕ) (ns : List (List ℕ)) (ks : List Plain) where
  pub fits-sound : node_fits k w ns ks ≡ true → WellFormed (forest_of ks) → IsWellFormed (node k w ns ks)
  unfolding node node_fits
  fits-sound e sound =
      let a = and_parts (word_fits k w) _ e in
      let b = and_parts (takes_count k _) _ a.1 in
      let c = and_parts (takes_from k 0 (kinds_of ks)) _ b.1 in
      let d = and_parts (takes_notes k _ ns) _ c.1 in
      (layout-kids k w ks ∙ and_from _ _ a.0 (and_from _ _ b.0 c.0), ap (λ n. takes_notes k n ns) (count-forest_of ks) ∙ d.0, not-true _ d.1, sound, tt)

  pub sound-fits : IsWellFormed (node k w ns ks) → node_fits k w ns ks ≡ true
  unfolding node node_fits
  sound-fits h =
      let parts = sym (layout-kids k w ks) ∙ h.0 in
      let a = and_parts (word_fits k w) _ parts in
      let b = and_parts (takes_count k _) _ a.1 in
      let notes = sym (ap (λ n. takes_notes k n ns) (count-forest_of ks)) ∙ h.1 in
      and_from _ _ a.0 (and_from _ _ b.0 (and_from _ _ b.1 (and_from _ _ notes (ap not h.2))))

  pub fits-unsound : node_fits k w ns ks ≡ false → ¬ IsWellFormed (node k w ns ks)
  fits-unsound e h = cc (sound-fits h)
