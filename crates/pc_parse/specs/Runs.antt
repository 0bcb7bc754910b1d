-- Runs of the reading machine over plain trees.
use Rattle.std.specs.Prelude.{ℕ, zero, suc, List, []}
use Rattle.pc_syntax.specs.declared.kind.Kind.{Kind}
use Rattle.pc_syntax.specs.declared.class.Class.{Class}
use Rattle.pc_syntax.specs.Plain.{Plain, forest_of}
use Rattle.pc_syntax.specs.Symbols.{Sym}
use Rattle.pc_parse.specs.Lookahead.{look, word_at, after}
use Rattle.pc_parse.specs.Machine.{State, Plan, Stay, Take, End, Stuck, plan}

-- a node without notes
abbrev pub make_plain : Kind → List ℕ → List Plain → Plain
make_plain k w ks = record { kind = k; word = w; notes = []; kids = forest_of ks }

-- what a step leads to: a state before the symbols that are left, the tree, or the symbols that don't fit
pub data Step : Type 0 where
  Go : State Plain → List Sym → Step
  Accept : Plain → Step
  Refuse : List Sym → Step

abbrev pub apply : Plan Plain → List Sym → Step
apply (Stay st) ys = Go st ys
apply (Take st) ys = Go st (after ys)
apply (End t) ys = Accept t
apply Stuck ys = Refuse ys

abbrev pub step : Class → State Plain → List Sym → Step
step root st ys = apply (plan make_plain root st (look ys) (word_at ys)) ys

abbrev pub continue : Step → (State Plain → List Sym → Step) → Step
continue (Go st ys) go = go st ys
continue (Accept t) go = Accept t
continue (Refuse ys) go = Refuse ys

-- at most n steps
abbrev pub exec : Class → ℕ → State Plain → List Sym → Step
exec root zero st ys = Go st ys
exec root (suc n) st ys = continue (step root st ys) (exec root n)
