-- What is known of the declarations of a block beforehand, and what is found at its parts (ISO 7185, 6.2.1).
use Rattle.std.specs.Prelude.{◌≡◌, ℕ, Bool, List, [], None}
use Rattle.pc_syntax.specs.Plain.{Plain}
use Rattle.pc_types.specs.Table.{nobody}
use Rattle.pc_rules.specs.ClosedTypes.{own_domains}
use Rattle.pc_rules.specs.Meanings.{Local, Outside}
use Rattle.pc_environment.specs.Decorating.{attributes_at, place_behind}
use Rattle.pc_facts.specs.Known.{Known}
use Rattle.pc_facts.specs.Shows.{ShowsNode}
use Rattle.pc_pointers.specs.Good.{Targets}
use Rattle.pc_closed.specs.Carried.{AllTypesCarried}
use Rattle.pc_carrying.specs.Carrying.{CarriedPlace}
use Rattle.pc_carrying.specs.Parts.{types_of}
use Rattle.pc_block_laws.specs.Block.{OnceEach, OwnTypes, block_targets}
use Rattle.pc_targets.specs.Program.{hiding}
use Rattle.pc_declaration_parts.specs.declared.parts.Parts.{Parts}

-- What is known of a block's declarations by the rules alone, where its first kid stands: its types, each once, are its own, and are carried;
-- the targets are those of the block where they are asked of it, and say nothing of the place of no domain; and what names mean behind the
-- type part is carried, but for what those that the block declares mean around it.
pub record BlockFacts (targets : Targets) (is_program : Bool) (out : Outside) (l : Local) (constants types : Plain) : Type 0 where
  pub none : targets nobody [] ≡ None
  pub once : OnceEach (types_of out l constants types).known
  pub own : OwnTypes types (types_of out l constants types)
  pub carried : AllTypesCarried targets (own_domains (types_of out l constants types).known) (types_of out l constants types).known
  pub tells : (n : List ℕ) → targets l.owner n ≡ block_targets is_program (types_of out l constants types) n
  pub behind : CarriedPlace targets [] (hiding l.names out) (place_behind out (place_behind out l constants) types)

-- what was found at the constants, the types and the variables of a block, the first of which stand here
pub record ShowsParts (k : Known) (p : Parts) (out : Outside) (l : Local) (constants types variables : Plain) : Type 0 where
  pub constants_shown : ShowsNode k p.constants (attributes_at out l constants)
  pub types_shown : ShowsNode k p.types (attributes_at out (place_behind out l constants) types)
  pub variables_shown : ShowsNode k p.variables (attributes_at out (place_behind out (place_behind out l constants) types) variables)
