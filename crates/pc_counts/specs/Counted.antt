-- What it does to counts and tables that names were counted, and how often those of definitions stood before.
use Rattle.std.specs.Prelude.{◌≡◌, ℕ, List, ◌++◌, length}
use Rattle.pc_syntax.specs.Plain.{Plain}
use Rattle.pc_syntax.specs.declared.kind.Kind.{Kind}
use Rattle.pc_rules.specs.Meanings.{Local, Outside}
use Rattle.pc_places.specs.Places.{Keeps}
use Rattle.pc_places.specs.declared.tables.Tables.{Tables}
use Rattle.pc_definitions.specs.Numbered.{AreBefore}
use Rattle.pc_counts.specs.Counting.{AreCounted}

-- these names were counted: from counts of names that stand before to counts where these stand before too
pub record Counted (more : List (List ℕ)) (old new : List (ℕ × ℕ)) (before after : Tables) : Type 0 where
  pub keeps : Keeps before after
  pub counts : (passed : List (List ℕ)) → AreCounted old before.names.texts passed → AreCounted new after.names.texts (passed ++ more)

-- so often did the names of some definitions stand before, wherever these counts are right at the first of them
pub record TellsBefore (ts : List Plain) (counts : List (ℕ × ℕ)) (names : List (List ℕ)) (bs : List ℕ) : Type 0 where
  pub many : length bs ≡ length ts
  pub before : (k : Kind) (out : Outside) (l : Local) → AreCounted counts names l.passed → AreBefore k out l ts bs
