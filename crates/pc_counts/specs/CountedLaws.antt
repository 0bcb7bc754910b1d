-- Names that were counted, one after the other: lemmas.
use Rattle.std.proofs.Common.{◌≡◌, ℕ, suc, nat_eq, List, [], ◌∷◌, ◌++◌, Some, sym, subst, if◌then◌else◌, append_assoc, append-nil}
use Rattle.pc_names.specs.Numbers.{number_of}
use Rattle.pc_places.specs.MovesLaws.{Keeps-same, Keeps-then}
use Rattle.pc_places.specs.Places.{Keeps}
use Rattle.pc_places.specs.declared.tables.Tables.{Tables}
use Rattle.pc_counts.specs.Counting.{times_of, AreCounted}
use Rattle.pc_counts.specs.CountingLaws.{AreCounted-begins, AreCounted-one}
use Rattle.pc_counts.specs.Counted.{Counted}

-- more names have numbers
pub Counted-kept : (c : List (ℕ × ℕ)) (before after : Tables) → Keeps before after → Counted [] c c before after
Counted-kept c before after keeps = record {
  keeps = keeps;
  counts = λ passed h. subst (AreCounted c after.names.texts) (sym (append-nil passed)) (AreCounted-begins c before.names.texts after.names.texts passed keeps.grows.names h);
}

pub Counted-none : (c : List (ℕ × ℕ)) (t : Tables) → Counted [] c c t t
Counted-none c t = Counted-kept c t t (Keeps-same t)

-- some names behind others
pub Counted-then : (xs ys : List (List ℕ)) (c0 c1 c2 : List (ℕ × ℕ)) (t0 t1 t2 : Tables) → Counted xs c0 c1 t0 t1 → Counted ys c1 c2 t1 t2 → Counted (xs ++ ys) c0 c2 t0 t2
Counted-then xs ys c0 c1 c2 t0 t1 t2 h g = record {
  keeps = Keeps-then t0 t1 t2 h.keeps g.keeps;
  counts = λ passed a. subst (AreCounted c2 t2.names.texts) (append_assoc passed xs ys) (g.counts (passed ++ xs) (h.counts passed a));
}

-- one name, which got a number
pub Counted-one : (n : List ℕ) (i : ℕ) (c d : List (ℕ × ℕ)) (before after : Tables) → Keeps before after → number_of after.names.texts n ≡ Some i →
    ((j : ℕ) → times_of d j ≡ (if nat_eq i j then suc (times_of c j) else times_of c j)) → Counted (n ∷ []) c d before after
Counted-one n i c d before after keeps number more = record {
  keeps = keeps;
  counts = λ passed h. AreCounted-one c d after.names.texts passed n i number more (AreCounted-begins c before.names.texts after.names.texts passed keeps.grows.names h);
}
