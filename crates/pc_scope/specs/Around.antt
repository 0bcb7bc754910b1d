-- The blocks around a place, and their keys (ISO 7185, 6.2.2).
use Rattle.std.specs.Prelude.{ℕ, Bool, true, false, not, ◌&&◌, ◌==◌, if◌then◌else◌, List, [], ◌∷◌, ◌++◌, length, Option, Some, None}
use Rattle.std.specs.Option.{option_and_then, option_map_or}
use Rattle.std.specs.Str.{bytes_eq}
use Rattle.pc_syntax.specs.Plain.{Forest, Plain}
use Rattle.pc_scope.specs.Blocks.{block_kids, kid_count, routines_among, tree_at}
use Rattle.pc_scope.specs.Declarations.{Declared, declared_at}
use Rattle.pc_scope.specs.Headings.{heading_of, is_routine_kind}
use Rattle.pc_scope.specs.Waiting.{counting, parameters_at}

-- the key of a routine or the program, which is its own or that of the nearest around it that has one: the names below the program
pub record Owner : Type 0 where
  pub key : List (List ℕ)
  pub is_own : Bool

-- a block: its place, its number among the kids of its routine, the parameters that are declared in it, and its kids
pub record Block : Type 0 where
  pub owner : Owner
  pub place : List ℕ
  pub number : ℕ
  pub parameters : List Declared
  pub kids : Forest

-- the block of a program
abbrev pub program_block : Plain → Block
program_block t = record { owner = record { key = []; is_own = true }; place = 3 ∷ []; number = 3; parameters = []; kids = block_kids t.kids }

-- what a block declares, in text order
abbrev pub declared_in : Block → List Declared
declared_in b = b.parameters ++ declared_at b.place 1 b.kids

-- the first declaration of a name
abbrev pub first_declared : List ℕ → List Declared → Option Declared
first_declared n [] = None
first_declared n (d ∷ ds) = if bytes_eq d.name n then Some d else first_declared n ds

-- whether the first declaration of a name in a block is that in the heading of its c-th routine
abbrev pub is_first : Block → List ℕ → ℕ → Bool
is_first b n c = not (length n == 0) && option_map_or (λ d. bytes_eq d.place (b.place ++ 4 ∷ c ∷ 1 ∷ [])) (first_declared n (declared_in b)) false

-- the owner of a routine in a block, by its name and the number of the routine whose heading counts
abbrev pub owner_of : Block → List ℕ → ℕ → Owner
owner_of b n c =
    if b.owner.is_own && is_first b n c then record { key = b.owner.key ++ n ∷ []; is_own = true } else record { key = b.owner.key; is_own = false }

-- the block of a routine, which is the n-th of this block and whose heading is that of the c-th
abbrev pub block_of : Block → ℕ → Plain → ℕ → Block
block_of b n r c =
    record {
      owner = owner_of b (heading_of r.kind r.kids).name c;
      place = b.place ++ 4 ∷ n ∷ kid_count r.kids ∷ [];
      number = kid_count r.kids;
      parameters = parameters_at (b.place ++ 4 ∷ []) c (routines_among b.kids);
      kids = block_kids r.kids;
    }

-- the block of the n-th routine in a block
abbrev pub inner_block : Block → ℕ → Option Block
inner_block b n =
    option_and_then
    (λ r. if is_routine_kind r.kind then Some (block_of b n r (counting (routines_among b.kids) n (heading_of r.kind r.kids))) else None)
    (tree_at n (routines_among b.kids))
