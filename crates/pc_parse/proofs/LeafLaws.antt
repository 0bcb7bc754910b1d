-- A tree without kids and notes is the leaf of its kind and word.
use Rattle.std.proofs.Common.{◌≡◌, ℕ, List, [], sym}
use Rattle.pc_syntax.specs.declared.kind.Kind.{Kind}
use Rattle.pc_syntax.specs.Plain.{Plain, node, kids_of}
use Rattle.pc_syntax.specs.PartsLaws.{node-parts}

pub leaf_is : (p : Plain) (k : Kind) (w : List ℕ) → p.kind ≡ k → p.word ≡ w → p.notes ≡ [] → kids_of p ≡ [] → p ≡ node k w [] []
leaf_is p k w a b c d = rw (← a, ← b, ← c, ← d) (sym (node-parts p))
