-- The declaration at a place, from the program's block down.
use Rattle.std.proofs.Common.{◌≡◌, ◌≢◌, ℕ, ◌-◌, ◌<◌, ◌≤◌, Bool, true, false, List, [], ◌∷◌, length, get_or, take, drop, refl, ap, ◌∙◌, arith}
use Rattle.std.proofs.lemmas.List.{take_all}
use Rattle.std.proofs.lemmas.Bool.Decides.{Decides-eqb}
use Rattle.std.specs.Prelude.{Option, Some, None, ◌==◌, if◌then◌else◌}
use Rattle.std.specs.Option.{option_map_or}
use Rattle.pc_syntax.specs.Plain.{Plain}
use Rattle.pc_syntax.specs.Words.{lowered}
use Rattle.pc_scope.specs.Around.{program_block}
use Rattle.pc_scope.specs.Lookup.{Declaration, declaration_in, declaration, lookup, seen_from, required_or_not}
use Rattle.pc_scope.specs.Stands.{StandsFor, StandsForBlock}
use Rattle.pc_scope.specs.declared.scopes.Scopes.{Scopes}
use Rattle.pc_scope.proofs.Firsts.{not-true}

-- what it is that scopes stand for a tree
pub program-stands : (s : Scopes) (t : Plain) → StandsFor s t → StandsForBlock s.regions.items s.root (program_block t)
unfolding StandsFor
program-stands s t h = h

module _ (t : Plain) (name : List ℕ) where
  -- no block is around the root
  pub at-root : (q : List ℕ) → length q < 1 → None ≡ declaration t name q
  unfolding declaration
  at-root [] l = refl
  at-root (a ∷ q) l = absurd (omega arith)

  at-if : (b : Bool) (o : Option Declaration) → b ≡ false → None ≡ (if b then o else None)
  at-if true o e = cc
  at-if false o e = refl

  -- nor around what isn't in the program's block
  pub at-side : (q : List ℕ) → 1 ≤ length q → get_or q 0 0 ≢ 3 → None ≡ declaration t name q
  unfolding declaration
  at-side [] l e = absurd (omega arith)
  at-side (a ∷ q) l e = at-if (a == 3) (declaration_in (lowered name) (program_block t) q) (not-true (a == 3) (λ s. e ((Decides-eqb a 3).0 s)))

  at-then : (b : Bool) (o : Option Declaration) → b ≡ true → o ≡ (if b then o else None)
  at-then true o e = refl
  at-then false o e = cc

  -- in the program's block the way leads on from it
  pub at-block : (q : List ℕ) → 1 ≤ length q → get_or q 0 0 ≡ 3 → declaration_in (lowered name) (program_block t) (take (length q - 1) (drop 1 q)) ≡ declaration t name q
  unfolding declaration
  at-block [] l e = absurd (omega arith)
  at-block (a ∷ q) l e =
      ap (declaration_in (lowered name) (program_block t)) (take_all (length (a ∷ q) - 1) q (omega arith))
      ∙ at-then (a == 3) (declaration_in (lowered name) (program_block t) q) ((Decides-eqb a 3).1 e)

  -- what a name means that a declaration counts for, and one that none does
  pub lookup-some : (q : List ℕ) (d : Declaration) → declaration t name q ≡ Some d → lookup t name q ≡ seen_from q d.declared
  unfolding lookup
  lookup-some q d e = ap (λ o. option_map_or (λ x. seen_from q x.declared) o (required_or_not (lowered name))) e

  pub lookup-none : (q : List ℕ) → declaration t name q ≡ None → lookup t name q ≡ required_or_not (lowered name)
  unfolding lookup
  lookup-none q e = ap (λ o. option_map_or (λ x. seen_from q x.declared) o (required_or_not (lowered name))) e
