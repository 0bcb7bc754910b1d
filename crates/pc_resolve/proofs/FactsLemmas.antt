-- Each well-formed program has its facts: lemmas.
use Rattle.std.proofs.Common.{◌≡◌, ℕ, Bool, true, false, ◌&&◌, inl, inr, if◌then◌else◌, List, [], ◌∷◌, ◌++◌, None, refl, ap, sym, ◌∙◌, subst}
use Rattle.std.specs.Option.{is_some}
use Rattle.pc_syntax.specs.Plain.{Plain}
use Rattle.pc_syntax.specs.WellFormed.{IsProper}
use Rattle.pc_types.specs.Domains.{domain_in}
use Rattle.pc_types.specs.Sameness.{same_owner}
use Rattle.pc_types.specs.Shapes.{Owner, Keyed, Placed, Domain}
use Rattle.pc_types.specs.Table.{nobody}
use Rattle.pc_rules.specs.ClosedTypes.{own_domains, close_types}
use Rattle.pc_rules.specs.Errors.{is_program}
use Rattle.pc_rules.specs.Meanings.{Class, entry_of}
use Rattle.pc_rules.specs.Outsides.{outside_of}
use Rattle.pc_rules.specs.RequiredMeanings.{required_type}
use Rattle.pc_rules.specs.RoutineList.{program_routine, routines_below, routines_of}
use Rattle.pc_rules.specs.Routines.{Routine, start_of}
use Rattle.pc_needs.specs.Answers.{has_block}
use Rattle.pc_needs.specs.Unaffected.{IsOneOf}
use Rattle.pc_needs.proofs.Lists.{each-one}
use Rattle.pc_needs.proofs.PlaceLemmas.{one-back}
use Rattle.pc_carrying.specs.Parts.{types_of}
use Rattle.pc_targets.specs.Blocks.{GoodLaw, HasBlock, SaidLaw}
use Rattle.pc_targets.specs.Program.{declares, targets_of, undeclared_type}
use Rattle.pc_targets.proofs.ProgramLemmas.{others}
use Rattle.pc_targets.proofs.UniqueLemmas.{targets-said}
use Rattle.pc_block_laws.specs.Block.{block_targets}
use Rattle.pc_block_laws.specs.BodyPlace.{BodyPlaceLaw}
use Rattle.pc_block_laws.specs.Once.{OnceLaw}
use Rattle.pc_block_laws.specs.OwnTypes.{IsOwnBlock, OwnLaw}
use Rattle.pc_block_laws.specs.Owners.{BeginsOwner, OwnersLaw}
use Rattle.pc_resolve.specs.Facts.{ProgramFacts, is_root}

-- what a name is that its block doesn't declare
undeclared-is : (o : Owner) (n : List ℕ) → undeclared_type o n ≡ (if same_owner o nobody then required_type n else None)
undeclared-is (Keyed []) n = refl
undeclared-is (Keyed (k ∷ ks)) n = refl
undeclared-is (Placed p) n = refl

-- what the targets say of the names of a block
block-says : SaidLaw → GoodLaw → BodyPlaceLaw → (t : Plain) (r : Routine) (c ty vs rs b : Plain) → HasBlock t r → IsOwnBlock r c ty vs rs b → (n : List ℕ) →
    targets_of t (start_of r).owner n ≡ block_targets (is_root r) (types_of (outside_of (routines_of t) r) (start_of r) c ty) n
block-says said good body t r c ty vs rs b has five n =
    let all = routines_of t in
    let m = types_of (outside_of all r) (start_of r) c ty in
    let table : List Domain = own_domains (close_types m).known in
    let place = body.types (outside_of all r) (start_of r) c ty in
    targets-said t r n has.proper has.program has.among has.block
    ∙ ap (λ (ds : List Domain). if declares r n then domain_in ds r.owner n else undeclared_type r.owner n) (good.block t r c ty vs rs b has five).table
    ∙ (λ i. if declares r n then domain_in table r.owner n else undeclared-is r.owner n i)
    ∙ ap (λ (p : List (List ℕ × Class) × Owner). if is_some (entry_of p.0 n) then domain_in table p.1 n else (if is_root r then required_type n else None)) (λ i. (sym place.names i, sym place.owner i))

-- a routine behind another is not the program
not-first : (p : Routine) (rest done beyond all : List Routine) (r q : Routine) → all ≡ p ∷ rest → all ≡ done ++ q ∷ beyond → IsOneOf done r → IsOneOf rest q
not-first p rest [] beyond all r q e f one = absurd one
not-first p rest (d ∷ done) beyond all r q e f one = subst (λ (rs : List Routine). IsOneOf rs q) (ap behind (sym f ∙ e)) (one-back done (q ∷ beyond) q (inl refl))
  where
    behind : List Routine → List Routine
    behind [] = []
    behind (x ∷ xs) = xs

-- a routine whose owner is not the program's
abbrev HasOther : Routine → Type 0
HasOther r = (r.owner ≡ Keyed []) → ⊥

not-root : (r : Routine) → HasOther r → is_root r ≡ false
not-root r other = by r.owner refl
  where
    by : (o : Owner) → r.owner ≡ o → is_root r ≡ false
    by (Keyed []) e = absurd (other e)
    by (Keyed (k ∷ ks)) e = ap (λ (o : Owner). same_owner o nobody) e
    by (Placed p) e = ap (λ (o : Owner). same_owner o nobody) e

begins-owner : (r : Routine) → (r.is_later && r.has_key) ≡ false → BeginsOwner r
begins-owner r e = by r.is_later r.has_key refl refl e
  where
    by : (a b : Bool) → r.is_later ≡ a → r.has_key ≡ b → (a && b) ≡ false → BeginsOwner r
    by false b p q h = inl p
    by true false p q h = inr q
    by true true p q h = cc

-- a program's targets
pub program-facts : SaidLaw → GoodLaw → OnceLaw → OwnLaw → BodyPlaceLaw → OwnersLaw → (t : Plain) → IsProper t → is_program t.kind ≡ true → ProgramFacts t (targets_of t)
unfolding routines_of
program-facts said good once own body owners t proper program =
    let all = routines_of t in
    let has : (r : Routine) → IsOneOf all r → has_block r.heading ≡ true → HasBlock t r = λ r among block. record { proper = proper; program = program; among = among; block = block } in
    record {
      proper = proper;
      program = program;
      none = said.nobody t proper program;
      blocks = λ r c ty vs rs b among block five.
          let good_block = good.block t r c ty vs rs b (has r among block) five in
          record {
            none = said.nobody t proper program;
            once = (once.types (outside_of all r) (start_of r) c ty (once.routine t r proper program among)).once;
            own = own.routine t r (outside_of all r) c ty vs rs b proper program among five;
            carried = good_block.types;
            tells = block-says said good body t r c ty vs rs b (has r among block) five;
            behind = good_block.second.place;
          };
      bodies = λ r c ty vs rs b among block five. (good.block t r c ty vs rs b (has r among block) five).body;
      other = λ done beyond r q one order.
          let rest = routines_below (program_routine t) 1 t.kids in
          not-root q (each-one HasOther rest q (not-first (program_routine t) rest done beyond all r q refl order one) (others t proper));
      fresh = λ done beyond r order begins q one. owners.fresh t done beyond r q proper order (begins-owner r begins) one;
    }
