-- When facts are what the rules find at a node, wherever it stands.
use Rattle.std.specs.Prelude.{◌≡◌, ◌<◌, ℕ, Bool, false, List, Some, length, get_or, slice_get}
use Rattle.std.specs.Option.{option_map_or}
use Rattle.pc_syntax.specs.Plain.{Plain}
use Rattle.pc_types.specs.Shapes.{Typed}
use Rattle.pc_types.specs.Rows.{seen}
use Rattle.pc_types.specs.Table.{nobody}
use Rattle.pc_types.specs.declared.operand.Operand.{Operand}
use Rattle.pc_names.specs.Chains.{chain_of}
use Rattle.pc_names.specs.Finding.{FindsAlong}
use Rattle.pc_names.specs.declared.id.NameId.{NameId}
use Rattle.pc_rules.specs.Meanings.{Local, Outside, Meaning, Found, entry_of, field_or}
use Rattle.pc_rules.specs.Attributes.{Node, nodes}
use Rattle.pc_rules.specs.RequiredMeanings.{required_or_missing}
use Rattle.pc_pointers.specs.Good.{Targets, IsGoodFound}
use Rattle.pc_sightings.specs.Opened.{ShowsOpened}
use Rattle.pc_sightings.specs.TouchedLog.{AreApart, stands_since}
use Rattle.pc_environment.specs.Sight.{Sight}
use Rattle.pc_environment.specs.RowLaws.{SeesFrom}
use Rattle.pc_environment.specs.Decorating.{attributes_at, marks_of}
use Rattle.pc_access_rules.specs.Pointers.{AreTold}
use Rattle.pc_access_rules.specs.Selves.{ShowsSelf}
use Rattle.pc_call_rules.specs.Parameters.{Logs}
use Rattle.pc_growth.specs.Grows.{Begins}
use Rattle.pc_rules.specs.HandedOn.{all_touches}
use Rattle.pc_names.specs.Numbers.{AreDistinct, number_of}
use Rattle.pc_bodies.specs.NodesAt.{node_at}
use Rattle.pc_facts.specs.Known.{Known}
use Rattle.pc_facts.specs.Shows.{AllShow, ShowsMeaning, ShowsNode}
use Rattle.pc_facts.specs.declared.sighting.Declared.{Declared}
use Rattle.pc_facts.specs.declared.facts.Facts.{Facts}
use Rattle.pc_bodies.specs.declared.body.Body.{Body}
use Rattle.pc_bodies.specs.declared.body.Going.{Going}

-- what the numbers of a statement part stand for
abbrev pub known : Body → Going → Known
known b g = record { table = seen b.types.now; names = b.names.now.texts; texts = g.texts.items; signatures = b.signatures.now }

-- a declaration by its number shows this meaning under each name that is used for it
abbrev pub ShowsDeclaration : Known → List Declared → ℕ → Meaning → Type 0
ShowsDeclaration k ds d m = (x : Declared) × (slice_get ds d ≡ Some x) × ((i : NameId) (n : List ℕ) → slice_get k.names i.0 ≡ Some n → ShowsMeaning k n (record x { name = i }) m)

-- what a statement part is for the rules, given what numbers stand for and which records are opened: what names mean around the withs,
-- and the fields that these open; its block; that pointers lead to what some targets say, as the table of domains has it; and which of the block's variables
-- the routines in it have touched, which are those in a log since a mark
pub record Stands (b : Body) (k : Known) (opened : List Operand) (s : Sight) : Type 0 where
  pub outer : List ℕ → Found
  pub fields : List (List ℕ × (Typed × Bool))
  pub along : FindsAlong (ShowsDeclaration k b.declarations.now) required_or_missing b.names.now (chain_of b.names.now.chains b.block.0) outer
  pub opens : ShowsOpened (seen b.types.now) opened fields
  pub means : (n : List ℕ) → s.means n ≡ field_or (entry_of fields n) (outer n)
  pub owner : get_or (seen b.types.now).owners b.owner.0 nobody ≡ s.owner
  pub there : b.owner.0 < length (seen b.types.now).owners
  pub own : ShowsSelf k b.own_function s.self
  pub distinct : AreDistinct b.names.now.texts
  pub apart : AreApart (seen b.types.now).owners
  pub targets : Targets
  pub told : AreTold targets (seen b.types.now)
  pub good : (n : List ℕ) → IsGoodFound targets (s.means n)
  pub inside : (n : List ℕ) → s.touched n ≡ option_map_or (λ i. stands_since b.mark b.inside.now (b.owner.0, i)) (number_of b.names.now.texts n) false

-- what was made of a node is what the rules find there, by this relation; the log of variables has grown by those that the node touches;
-- the same records are opened behind it, and the texts have grown
pub record ResolvesAs {X : Type 0} (S : Known → X → Node → Type 0) (b : Body) (old new : Going) (t : Plain) (x : X) : Type 0 where
  pub shows : (out : Outside) (l : Local) (s : Sight) → SeesFrom out l s → Stands b (known b old) old.opened.items s → S (known b new) x (node_at out l t)
  pub touched : (out : Outside) (l : Local) (s : Sight) → SeesFrom out l s → Stands b (known b old) old.opened.items s →
      Logs (known b new) old.touched.items new.touched.items (attributes_at out l t).touches
  pub opened : new.opened.items ≡ old.opened.items
  pub texts : Begins old.texts.items new.texts.items

-- the same of nodes in a row
pub record ResolveAs {X : Type 0} (S : Known → X → Node → Type 0) (b : Body) (old new : Going) (ts : List Plain) (xs : List X) : Type 0 where
  pub shows : (out : Outside) (l : Local) (s : Sight) → SeesFrom out l s → Stands b (known b old) old.opened.items s → AllShow (S (known b new)) xs (nodes (marks_of out l ts))
  pub touched : (out : Outside) (l : Local) (s : Sight) → SeesFrom out l s → Stands b (known b old) old.opened.items s →
      Logs (known b new) old.touched.items new.touched.items (all_touches (nodes (marks_of out l ts)))
  pub opened : new.opened.items ≡ old.opened.items
  pub texts : Begins old.texts.items new.texts.items

-- facts are what is found at a node
abbrev pub ShowsFacts : Known → Facts → Node → Type 0
ShowsFacts k f n = ShowsNode k f n.at

-- the facts of a node, and of nodes in a row
abbrev pub Resolves : Body → Going → Going → Plain → Facts → Type 0
Resolves = ResolvesAs ShowsFacts

abbrev pub ResolvesRow : Body → Going → Going → List Plain → List Facts → Type 0
ResolvesRow = ResolveAs ShowsFacts
