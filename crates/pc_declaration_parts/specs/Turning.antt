-- What is made of the variable declarations of a block, behind which domains may have got their types.
use Rattle.std.specs.Prelude.{◌≡◌, ℕ, List, [], None}
use Rattle.pc_syntax.specs.Plain.{Plain}
use Rattle.pc_syntax.specs.WellFormed.{IsProper}
use Rattle.pc_types.specs.Table.{nobody}
use Rattle.pc_forms.specs.Form.{PlainForm, form_of}
use Rattle.pc_rules.specs.Attributes.{nodes}
use Rattle.pc_rules.specs.Meanings.{Local, Outside}
use Rattle.pc_environment.specs.Decorating.{attributes_at, marks_of, place_behind, place_after}
use Rattle.pc_facts.specs.Shows.{AllShow, ShowsNode}
use Rattle.pc_facts.specs.declared.facts.Facts.{Facts}
use Rattle.pc_pointers.specs.Good.{Targets}
use Rattle.pc_carrying.specs.Carrying.{CarriedPlace}
use Rattle.pc_places.specs.Places.{known, Changes, IsPlace}
use Rattle.pc_places.specs.declared.tables.Tables.{Tables}
use Rattle.pc_denoters.specs.Goings.{ShowsFacts}
use Rattle.pc_targets.specs.Program.{hiding}
use Rattle.pc_domains.specs.Told.{Told, IsTold}

-- what names mean at a place is carried, but for what those that its block declares mean around it
abbrev pub CarriedHere : Targets → Outside → Local → Type 0
CarriedHere targets out l = CarriedPlace targets [] (hiding l.names out) l

-- the tables stand for a place behind the type part of a block, at which what names mean is carried; what is kept of domains says what the
-- targets say, which say nothing of the place of no domain
pub record StandsTold (targets : Targets) (d : Told) (t : Tables) (block owner : ℕ) (out : Outside) (l : Local) : Type 0 where
  pub place : IsPlace t block owner out l
  pub carried : CarriedHere targets out l
  pub told : IsTold targets d (known t)
  pub none : targets nobody [] ≡ None

-- what was made of a node behind the type part, at each such place that satisfies a condition: this is what the rules find, and behind the
-- node all stands for the place behind
pub record Turns (At : Tables → Local → Type 0) (block owner : ℕ) (d e : Told) (old new : Tables) (t : Plain) (r : Facts) : Type 0 where
  pub changes : Changes block old new
  pub shows : (targets : Targets) (out : Outside) (l : Local) → StandsTold targets d old block owner out l → At old l → ShowsNode (known new) r (attributes_at out l t)
  pub behind : (targets : Targets) (out : Outside) (l : Local) → StandsTold targets d old block owner out l → At old l → StandsTold targets e new block owner out (place_behind out l t)

-- the same of nodes in a row
pub record TurnsRow (At : Tables → Local → Type 0) (block owner : ℕ) (d e : Told) (old new : Tables) (ts : List Plain) (rs : List Facts) : Type 0 where
  pub changes : Changes block old new
  pub shows : (targets : Targets) (out : Outside) (l : Local) → StandsTold targets d old block owner out l → At old l → AllShow (ShowsFacts (known new)) rs (nodes (marks_of out l ts))
  pub behind : (targets : Targets) (out : Outside) (l : Local) → StandsTold targets d old block owner out l → At old l → StandsTold targets e new block owner out (place_after out l ts)

-- the same of a node with this form
abbrev pub TurnsForm : (Tables → Local → Type 0) → ℕ → ℕ → Told → Told → Tables → Tables → PlainForm → Facts → Type 0
TurnsForm At block owner d e old new f r = (t : Plain) → IsProper t → f ≡ form_of t → Turns At block owner d e old new t r
