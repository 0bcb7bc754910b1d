-- A definition by what is made of its name and of its part.
use Rattle.std.specs.Prelude.{ℕ, [], ◌∷◌, Option}
use Rattle.pc_syntax.specs.Plain.{Plain}
use Rattle.pc_syntax.specs.declared.kind.Kind.{Kind}
use Rattle.pc_types.specs.declared.form.OwnerId.{OwnerId}
use Rattle.pc_types.specs.declared.operand.Operand.{Operand}
use Rattle.pc_names.specs.declared.name_class.NameClass.{NameClass}
use Rattle.pc_rules.specs.Meanings.{Meaning, Local, Outside}
use Rattle.pc_environment.specs.Decorating.{place_behind}
use Rattle.pc_facts.specs.declared.sighting.Value.{Value}
use Rattle.pc_places.specs.Places.{known, IsPlace, Moves}
use Rattle.pc_places.specs.declared.tables.Tables.{Tables}
use Rattle.pc_denoters.specs.FormsAt.{first_place}
use Rattle.pc_definitions.specs.Namings.{ShowsNaming, FitsNaming, ShowsParts, entering, leaving}
use Rattle.pc_definitions.specs.declared.naming.Naming.{Naming}

-- the name of a definition came to stand before
pub record EntersName (block : ℕ) (old new : Tables) (name : Plain) (n : Naming) : Type 0 where
  pub shows : ShowsNaming new.names.texts name n
  pub place : (owner : ℕ) (out : Outside) (l : Local) → IsPlace old block owner out l → FitsNaming l name n × IsPlace new block owner out (entering l name n)
  pub moves : Moves block old new

-- its declaration was made of these parts, if it is the first one
pub record LeavesName (block : ℕ) (o : OwnerId) (c : NameClass) (v : Option Value) (ty : Option Operand) (n : Naming) (old new : Tables) : Type 0 where
  pub place : (own : ℕ) (out : Outside) (l : Local) (t : Plain) (m : Meaning) → ShowsNaming old.names.texts t n → ShowsParts (known old) c o v ty m → IsPlace old block own out l →
      IsPlace new block own out (leaving l t n m)
  pub moves : Moves block old new

-- where the part of a definition stands, behind its name
abbrev pub part_place : Outside → Local → Kind → Plain → Plain → Local
part_place out l k name part = place_behind out (first_place l k (name ∷ part ∷ [])) name
