-- What a name means in a routine: the answers of the look-up, with what goes with a declaration (ISO 7185, 6.2.2).
use Rattle.std.specs.Prelude.{ℕ, Bool, true, false, ◌&&◌, ◌||◌, if◌then◌else◌, List, [], ◌∷◌, Option, Some, None}
use Rattle.std.specs.Str.{bytes_eq}
use Rattle.pc_syntax.specs.Plain.{Forest, Nil, Cons}
use Rattle.pc_syntax.specs.Words.{is_among}
use Rattle.pc_syntax.specs.declared.kind.Kind.TheVariants as kind
use Rattle.pc_types.specs.Sameness.{same_owner}
use Rattle.pc_types.specs.Shapes.{Owner}
use Rattle.pc_rules.specs.Decorated.{seen, rule, decorate}
use Rattle.pc_rules.specs.Meanings.{Signature, Class, Found, Here, Local, Outside, entry_of, is_routine_class, find}
use Rattle.pc_rules.specs.Outsides.{signature_named, outside_of, touched_by_others}
use Rattle.pc_rules.specs.Places.{inner, beside}
use Rattle.pc_rules.specs.Routines.{Routine, start_of}
use Rattle.pc_needs.specs.UsedNames.{used_in_heading, forward_of}

-- whether a heading stands before a block, and not before a hole or the word `forward`
abbrev pub has_block : Forest → Bool
has_block Nil = false
has_block (Cons kind.Block w ns ks ts) = true
has_block (Cons k w ns ks ts) = has_block ts

-- whether one of the declarations of a routine has a block
abbrev pub any_block : List Routine → Owner → Bool
any_block [] o = false
any_block (r ∷ rs) o = (same_owner r.owner o && has_block r.heading) || any_block rs o

-- whether the routine of this name that a block declares has a block, given all routines, and those among which to look for it
abbrev pub block_named : List Routine → List Routine → Owner → List ℕ → Bool
block_named all [] o n = false
block_named all (r ∷ rs) o n = if same_owner r.parent o && r.is_first && bytes_eq r.name n then any_block all r.owner else block_named all rs o n

-- an answer of the look-up: a declaration has its block, its class, and a constant's value or a type with all that is reached from it;
-- beside it, for a routine, its parameters and result, and whether it has a block
pub record Answer : Type 0 where
  pub found : Found
  pub signature : Option Signature
  pub has_block : Bool

-- an answer, with what goes with it
abbrev pub answer : List Routine → List ℕ → Found → Answer
answer rs n (Here m) = record {
  found = Here m;
  signature = if is_routine_class m.class then signature_named rs m.owner n else None;
  has_block = is_routine_class m.class && block_named rs rs m.owner n;
}
answer rs n f = record { found = f; signature = None; has_block = false }

-- where the next tree behind some trees stands
unfoldable pub place_behind : Outside → Local → Forest → Local
place_behind out l Nil = l
place_behind out l (Cons k w ns ks ts) = place_behind out (beside l k (rule l k w (seen out l k w) (decorate out (inner l k ks) ks))) ts

-- what a name means behind all declarations of a routine's block
unfoldable pub found_behind : List Routine → Routine → List ℕ → Found
found_behind rs r n = find (outside_of rs r) (place_behind (outside_of rs r) (start_of r) r.block) n

-- the answer at a routine's body, given what its block declares the name as: if it doesn't, what it means around
abbrev pub body_answer : List Routine → Routine → List ℕ → Option Class → Answer
body_answer rs r n None = answer rs n (r.means n)
body_answer rs r n (Some c) = answer rs n (found_behind rs r n)

-- the answer at a routine's heading, if that uses the name
abbrev pub heading_answer : List Routine → Routine → List ℕ → Option Answer
heading_answer rs r n = if is_among (used_in_heading r) n then Some (answer rs n (r.means n)) else None

-- the same for the forward heading, if there is one
abbrev pub forward_answer : List Routine → Option Routine → List ℕ → Option Answer
forward_answer rs None n = None
forward_answer rs (Some f) n = heading_answer rs f n

-- The meaning of a name in a routine: the answer at its body; the answers at its heading and at its forward heading, where these use
-- the name; parameters and result of the routine of this name that its block declares; and, for a variable of its block, whether a
-- routine inside assigns, reads, passes as a variable argument or controls it.
pub record NameMeaning : Type 0 where
  pub body : Answer
  pub heading : Option Answer
  pub forward : Option Answer
  pub declared : Option Signature
  pub changed : Bool

-- that meaning
unfoldable pub meaning : List Routine → Routine → List ℕ → NameMeaning
meaning rs r n = record {
  body = body_answer rs r n (entry_of (start_of r).names n);
  heading = heading_answer rs r n;
  forward = forward_answer rs (forward_of rs r) n;
  declared = signature_named rs r.owner n;
  changed = touched_by_others rs rs r.owner n;
}
