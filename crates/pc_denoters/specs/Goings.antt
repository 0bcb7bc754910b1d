-- How denoters are gone through: where they and their kids stand, and what was made of nodes in a row.
use Rattle.std.specs.Prelude.{◌≡◌, ◌<◌, ℕ, Bool, List, length}
use Rattle.pc_syntax.specs.Plain.{Plain}
use Rattle.pc_syntax.specs.WellFormed.{IsProper}
use Rattle.pc_forms.specs.Form.{PlainForm, form_of}
use Rattle.pc_types.specs.Table.{definition_in}
use Rattle.pc_types.specs.declared.form.Definition.{Definition}
use Rattle.pc_rules.specs.Attributes.{Node, nodes, kids_below}
use Rattle.pc_rules.specs.Meanings.{Local, Outside}
use Rattle.pc_environment.specs.Decorating.{marks_of, place_after}
use Rattle.pc_facts.specs.Known.{Known}
use Rattle.pc_facts.specs.Shows.{AllShow, ShowsNode}
use Rattle.pc_facts.specs.declared.facts.Facts.{Facts}
use Rattle.pc_places.specs.Places.{known, IsPlace, IsHere, Moves, Makes}
use Rattle.pc_places.specs.declared.tables.Tables.{Tables}

-- facts are what is found at a node
abbrev pub ShowsFacts : Known → Facts → Node → Type 0
ShowsFacts k f n = ShowsNode k f n.at

-- facts are what is found at the kids of a list
abbrev pub ShowsKids : Known → List Facts → Node → Type 0
ShowsKids k fs n = AllShow (ShowsFacts k) fs (kids_below n)

-- the place at which a denoter with this definition stands
abbrev pub AtHere : Definition → Bool → Tables → Local → Type 0
AtHere here packed t l = IsHere t here packed l

-- the block, its owner and the owner of the definition have their numbers
pub record AreThere (t : Tables) (block owner : ℕ) (here : Definition) : Type 0 where
  pub block_there : block < length t.names.chains
  pub owner_there : owner < length (known t).table.owners
  pub here_there : here.owner.0 < length (known t).table.owners

-- the place of kid i of a node with this definition, where its kids are packed or not
pub record IsAmong (here : Definition) (i : ℕ) (packed : Bool) (t : Tables) (l : Local) : Type 0 where
  pub around : definition_in (known t).table.owners here ≡ l.around
  pub number : l.kid ≡ i
  pub as_packed : packed ≡ l.packed

-- what was made of nodes in a row among the declarations of a block, at each place that satisfies a condition
pub record MakesRow {X : Type 0} (S : Known → X → Node → Type 0) (At : Tables → Local → Type 0) (block owner : ℕ) (old new : Tables) (ts : List Plain) (xs : List X) : Type 0 where
  pub moves : Moves block old new
  pub shows : (out : Outside) (l : Local) → IsPlace old block owner out l → At old l → AllShow (S (known new)) xs (nodes (marks_of out l ts))
  pub behind : (out : Outside) (l : Local) → IsPlace old block owner out l → At old l → IsPlace new block owner out (place_after out l ts)

-- the same of a node with this form
abbrev pub MakesForm : (Tables → Local → Type 0) → ℕ → ℕ → Tables → Tables → PlainForm → Facts → Type 0
MakesForm At block owner old new f r = (t : Plain) → IsProper t → f ≡ form_of t → Makes ShowsFacts At block owner old new t r

-- any place
abbrev pub Anywhere : Tables → Local → Type 0
Anywhere t l = Unit {0}
