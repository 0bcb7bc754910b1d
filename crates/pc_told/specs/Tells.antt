-- When the types that the code told are those that the rules find, wherever the nodes stand that were gone through.
use Rattle.std.specs.Prelude.{◌≡◌, ◌+◌, ◌++◌, ℕ, true, List, Option}
use Rattle.pc_syntax.specs.Plain.{Plain, forest_of}
use Rattle.pc_types.specs.Rows.{seen}
use Rattle.pc_types.specs.Shapes.{Typed}
use Rattle.pc_types.specs.Table.{Table}
use Rattle.pc_types.specs.declared.operand.Operand.{Operand}
use Rattle.pc_rules.specs.Meanings.{Found, Local, Outside}
use Rattle.pc_environment.specs.Decorating.{attributes_at}
use Rattle.pc_environment.specs.RowLaws.{SeesFrom}
use Rattle.pc_environment.specs.Sight.{Sight, sight_of}
use Rattle.pc_facts.specs.Shows.{ShowsType}
use Rattle.pc_growth.specs.Grows.{Begins}
use Rattle.pc_bodies.specs.Resolved.{known, Stands}
use Rattle.pc_bodies.specs.declared.body.Body.{Body}
use Rattle.pc_bodies.specs.declared.body.Going.{Going}
use Rattle.pc_decl.specs.Nodes.{is_expression}
use Rattle.pc_decl.specs.Roles.{Role, judged_as}
use Rattle.pc_told.specs.Contexts.{ShowsContext, ShowsWanted}
use Rattle.pc_told.specs.Place.{AllTypes}
use Rattle.pc_told.specs.Told.{Above, told_here, told_among, told_at, told_down}
use Rattle.pc_told.specs.declared.roles.Context.{Context}
use Rattle.pc_told.specs.declared.roles.Wanted.{Wanted}

-- these types were told behind others
pub record ToldMore (t : Table) (before after : List (Option Operand)) (ts : List (Option Typed)) : Type 0 where
  pub more : List (Option Operand)
  pub is : after ≡ before ++ more
  pub shows : AllTypes t more ts

-- a statement part stands for what is seen from a place
abbrev pub StandsAt : Body → Going → Outside → Local → Type 0
StandsAt b g out l = Stands b (known b g) g.opened.items (sight_of out l)

-- behind a part the same records are open, and the texts have grown
pub record Kept (old new : Going) : Type 0 where
  pub opened : new.opened.items ≡ old.opened.items
  pub texts : Begins old.texts.items new.texts.items

-- this is the type of a node in a role
pub record Typing (b : Body) (old new : Going) (r : Role) (t : Plain) (x : Option Operand) : Type 0 where
  pub shows : (out : Outside) (l : Local) (s : Sight) → SeesFrom out l s → Stands b (known b old) old.opened.items s → ShowsType (seen b.types.now) x (judged_as r (attributes_at out l t)).type
  pub kept : Kept old new

-- what was told of a node by itself, in a role
pub record TellsOwn (b : Body) (old new : Going) (before after : List (Option Operand)) (r : Role) (t : Plain) : Type 0 where
  pub told : (out : Outside) (l : Local) (s : Sight) → SeesFrom out l s → Stands b (known b old) old.opened.items s → ToldMore (seen b.types.now) before after (told_here r t.kind (attributes_at out l t))
  pub kept : Kept old new

-- what was told of a node and of those below it
pub record TellsNode (b : Body) (old new : Going) (before after : List (Option Operand)) (c : Context) (w : Wanted) (index : ℕ) (t : Plain) : Type 0 where
  pub told : (out : Outside) (l : Local) (s : Sight) (h : Above) (f : Found) → SeesFrom out l s → Stands b (known b old) old.opened.items s → ShowsContext b.signatures.now c h →
      ShowsWanted b.signatures.now w h.kind f → l.kid ≡ index + 1 → ToldMore (seen b.types.now) before after (told_at out l h f t)
  pub kept : Kept old new

-- what was told of the first kids of a node and of those below them
pub record TellsRow (b : Body) (old new : Going) (before after : List (Option Operand)) (c : Context) (w : Wanted) (ts : List Plain) : Type 0 where
  pub told : (out : Outside) (l : Local) (s : Sight) (h : Above) (f : Found) → SeesFrom out l s → Stands b (known b old) old.opened.items s → ShowsContext b.signatures.now c h →
      ShowsWanted b.signatures.now w h.kind f → l.kid ≡ 1 → ToldMore (seen b.types.now) before after (told_among out l h f (forest_of ts))
  pub kept : Kept old new

-- what was told at the end of a way from a node
abbrev pub TellsDown : Body → Going → List (Option Operand) → List (Option Operand) → Context → Wanted → ℕ → Plain → List ℕ → Type 0
TellsDown b old before after c w index t way =
    (out : Outside) (l : Local) (h : Above) (f : Found) → StandsAt b old out l → ShowsContext b.signatures.now c h → ShowsWanted b.signatures.now w h.kind f → (is_expression t.kind ≡ true → l.kid ≡ index + 1) →
    ToldMore (seen b.types.now) before after (told_down way out l h f t)
