-- What a block knows of its declarations: the first of each name alone, and only names that stand before (ISO 7185, 6.2.2.7).
use Rattle.std.specs.Prelude.{◌≡◌, ℕ, true, List, Option, Some}
use Rattle.pc_syntax.specs.declared.kind.Kind.{Kind}
use Rattle.pc_syntax.specs.Plain.{Forest, Plain}
use Rattle.pc_syntax.specs.WellFormed.{IsProper}
use Rattle.pc_syntax.specs.Words.{is_among}
use Rattle.pc_types.specs.Shapes.{Owner}
use Rattle.pc_rules.specs.Attributes.{Attributes}
use Rattle.pc_rules.specs.ClosedTypes.{close_types}
use Rattle.pc_rules.specs.Errors.{is_program}
use Rattle.pc_rules.specs.Meanings.{Meaning, Local, Outside, entry_of, define, define_all}
use Rattle.pc_rules.specs.Places.{inner, beside}
use Rattle.pc_rules.specs.RoutineList.{routines_of}
use Rattle.pc_rules.specs.Routines.{Routine, block_start, firsts, parameters_of, start_of}
use Rattle.pc_environment.specs.Decorating.{place_after}
use Rattle.pc_needs.specs.Unaffected.{IsOneOf}
use Rattle.pc_carrying.specs.Parts.{types_of}
use Rattle.pc_block_laws.specs.Block.{OnceEach}

-- each name is known once at a place, and stands before it
pub record KnowsOnce (l : Local) : Type 0 where
  pub once : OnceEach l.known
  pub passed : (n : List ℕ) (m : Meaning) → entry_of l.known n ≡ Some m → is_among l.passed n ≡ true

-- that is so where a block begins with the first of each name, and from node to node
pub record OnceLaw : Type 0 where
  -- the parameters with which a block begins: the first of each name
  pub firsts : (before : List (List ℕ)) (ds : List (List ℕ × Meaning)) → OnceEach (firsts before ds)
  pub start : (o : Owner) (self : Option (Owner × List ℕ)) (parameters : List (List ℕ × Meaning)) (b : Forest) → OnceEach parameters → KnowsOnce (block_start o self parameters b)
  -- the block of a routine
  pub parameters : (t : Plain) (r : Routine) → IsProper t → is_program t.kind ≡ true → IsOneOf (routines_of t) r → OnceEach (parameters_of r)
  pub routine : (t : Plain) (r : Routine) → IsProper t → is_program t.kind ≡ true → IsOneOf (routines_of t) r → KnowsOnce (start_of r)
  -- behind declarations, and behind the type part
  pub define : (l : Local) (n : List ℕ) (m : Meaning) → KnowsOnce l → KnowsOnce (define l n m)
  pub all : (l : Local) (ds : List (List ℕ × Meaning)) → KnowsOnce l → KnowsOnce (define_all l ds)
  pub closed : (l : Local) → KnowsOnce l → KnowsOnce (close_types l)
  pub types : (out : Outside) (l : Local) (constants types : Plain) → KnowsOnce l → KnowsOnce (types_of out l constants types)
  -- at the first kid of a node, beside it, and behind several
  pub kid : (l : Local) (k : Kind) (ks : Forest) → KnowsOnce l → KnowsOnce (inner l k ks)
  pub next : (l : Local) (k : Kind) (a : Attributes) → KnowsOnce l → KnowsOnce (beside l k a)
  pub behind : (out : Outside) (l : Local) (ts : List Plain) → KnowsOnce l → KnowsOnce (place_after out l ts)
  -- so in a list of routines of the block, behind some parts and some routines
  pub listed : (t : Plain) (r : Routine) (out : Outside) (parts routines : List Plain) (k : Kind) (ks : Forest) → IsProper t → is_program t.kind ≡ true → IsOneOf (routines_of t) r →
      KnowsOnce (place_after out (inner (place_after out (start_of r) parts) k ks) routines)
