-- When what was made of statements is what the rules find, wherever they stand, given an index of the log of variables.
use Rattle.std.specs.Prelude.{◌≡◌, ℕ, List, map}
use Rattle.pc_syntax.specs.Plain.{Plain}
use Rattle.pc_syntax.specs.declared.kind.Kind.{Kind}
use Rattle.pc_types.specs.Shapes.{Owner}
use Rattle.pc_rules.specs.Attributes.{Node, nodes}
use Rattle.pc_rules.specs.HandedOn.{all_touches}
use Rattle.pc_rules.specs.Meanings.{Local, Outside}
use Rattle.pc_environment.specs.Decorating.{attributes_at, marks_of}
use Rattle.pc_environment.specs.RowLaws.{SeesFrom}
use Rattle.pc_environment.specs.Sight.{Sight}
use Rattle.pc_sightings.specs.TouchedLog.{numbers_of}
use Rattle.pc_facts.specs.Known.{Known}
use Rattle.pc_facts.specs.Shows.{AllShow, ShowsNode}
use Rattle.pc_facts.specs.declared.facts.Facts.{Facts}
use Rattle.pc_call_rules.specs.Parameters.{Logs}
use Rattle.pc_growth.specs.Grows.{Begins}
use Rattle.pc_bodies.specs.declared.body.Body.{Body}
use Rattle.pc_bodies.specs.declared.body.Going.{Going}
use Rattle.pc_bodies.specs.NodesAt.{node_at, found_at}
use Rattle.pc_bodies.specs.Resolved.{known, Stands, ShowsFacts}

-- the variables of an index are the first of those that were touched
abbrev pub IsIndex : List (ℕ × ℕ) → Going → Type 0
IsIndex own g = Begins own (map numbers_of g.touched.items)

-- behind a part: what it shows, that the log has grown by these variables, and that the index is one
pub record Finds (b : Body) (old new : Going) (own : List (ℕ × ℕ)) (ws : List (Owner × List ℕ)) (P : Type 0) : Type 0 where
  pub shows : P
  pub touched : Logs (known b new) old.touched.items new.touched.items ws
  pub index : IsIndex own new

-- what was made of a node is what the rules find there, by this relation, given an index before it and one behind it
pub record WalksAs {X : Type 0} (S : Known → X → Node → Type 0) (b : Body) (old new : Going) (before after : List (ℕ × ℕ)) (t : Plain) (x : X) : Type 0 where
  pub found : (out : Outside) (l : Local) (s : Sight) → SeesFrom out l s → Stands b (known b old) old.opened.items s → IsIndex before old →
      Finds b old new after (attributes_at out l t).touches (S (known b new) x (node_at out l t))
  pub opened : new.opened.items ≡ old.opened.items
  pub texts : Begins old.texts.items new.texts.items

-- the same of nodes in a row
pub record WalkAs {X : Type 0} (S : Known → X → Node → Type 0) (b : Body) (old new : Going) (before after : List (ℕ × ℕ)) (ts : List Plain) (xs : List X) : Type 0 where
  pub found : (out : Outside) (l : Local) (s : Sight) → SeesFrom out l s → Stands b (known b old) old.opened.items s → IsIndex before old →
      Finds b old new after (all_touches (nodes (marks_of out l ts))) (AllShow (S (known b new)) xs (nodes (marks_of out l ts)))
  pub opened : new.opened.items ≡ old.opened.items
  pub texts : Begins old.texts.items new.texts.items

-- the facts of a node, and of nodes in a row
abbrev pub Walks : Body → Going → Going → List (ℕ × ℕ) → List (ℕ × ℕ) → Plain → Facts → Type 0
Walks = WalksAs ShowsFacts

abbrev pub WalksRow : Body → Going → Going → List (ℕ × ℕ) → List (ℕ × ℕ) → List Plain → List Facts → Type 0
WalksRow = WalkAs ShowsFacts

-- the same of a node of this kind with these kids, whatever its word is
pub record WalksKind (b : Body) (old new : Going) (before after : List (ℕ × ℕ)) (k : Kind) (ks : List Plain) (f : Facts) : Type 0 where
  pub found : (w : List ℕ) (out : Outside) (l : Local) (s : Sight) → SeesFrom out l s → Stands b (known b old) old.opened.items s → IsIndex before old →
      Finds b old new after (found_at out l k w ks).touches (ShowsNode (known b new) f (found_at out l k w ks))
  pub opened : new.opened.items ≡ old.opened.items
  pub texts : Begins old.texts.items new.texts.items
