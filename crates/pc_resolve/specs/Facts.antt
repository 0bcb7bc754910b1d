-- What is known of a program by the rules alone, before its errors are looked for.
use Rattle.std.specs.Prelude.{◌≡◌, ◌&&◌, ℕ, Bool, true, false, List, [], ◌∷◌, ◌++◌, None}
use Rattle.pc_syntax.specs.Plain.{Plain}
use Rattle.pc_syntax.specs.WellFormed.{IsProper}
use Rattle.pc_types.specs.Sameness.{same_owner}
use Rattle.pc_types.specs.Table.{nobody}
use Rattle.pc_rules.specs.Errors.{is_program}
use Rattle.pc_rules.specs.Meanings.{find}
use Rattle.pc_rules.specs.Outsides.{outside_of}
use Rattle.pc_rules.specs.RoutineList.{routines_of}
use Rattle.pc_rules.specs.Routines.{Routine, start_of}
use Rattle.pc_environment.specs.Decorating.{place_after}
use Rattle.pc_needs.specs.Answers.{has_block}
use Rattle.pc_needs.specs.Unaffected.{IsOneOf}
use Rattle.pc_pointers.specs.Good.{Targets, IsGoodFound}
use Rattle.pc_block_laws.specs.OwnTypes.{IsOwnBlock}
use Rattle.pc_declaration_parts.specs.Blocks.{BlockFacts}
use Rattle.pc_routine_sites.specs.Sites.{FreshOwner}

-- whether a routine is the program itself, by its owner
abbrev pub is_root : Routine → Bool
is_root r = same_owner r.owner nobody

-- This is a well-formed program. These targets say of each block of it what it declares, and what names mean at its statement part is good
-- for them; and a routine has an owner of its own, unless it is the later declaration of a forward one with a key.
pub record ProgramFacts (t : Plain) (targets : Targets) : Type 0 where
  pub proper : IsProper t
  pub program : is_program t.kind ≡ true
  pub none : targets nobody [] ≡ None
  pub blocks : (r : Routine) (constants types variables routines body : Plain) → IsOneOf (routines_of t) r → has_block r.heading ≡ true → IsOwnBlock r constants types variables routines body →
      BlockFacts targets (is_root r) (outside_of (routines_of t) r) (start_of r) constants types
  pub bodies : (r : Routine) (constants types variables routines body : Plain) → IsOneOf (routines_of t) r → has_block r.heading ≡ true → IsOwnBlock r constants types variables routines body → (n : List ℕ) →
      IsGoodFound targets (find (outside_of (routines_of t) r) (place_after (outside_of (routines_of t) r) (start_of r) (constants ∷ types ∷ variables ∷ routines ∷ [])) n)
  pub other : (done beyond : List Routine) (r q : Routine) → IsOneOf done r → routines_of t ≡ done ++ q ∷ beyond → is_root q ≡ false
  pub fresh : (done beyond : List Routine) (r : Routine) → routines_of t ≡ done ++ r ∷ beyond → (r.is_later && r.has_key) ≡ false → FreshOwner done r
