-- The log says since a mark what the routines inside a routine touch: lemmas.
use Rattle.std.proofs.Common.{◌≡◌, ◌<◌, ℕ, Bool, true, false, List, ◌++◌, Option, Some, None, length, get_or, refl, ap, sym, ◌∙◌}
use Rattle.std.specs.Option.{option_map_or}
use Rattle.pc_syntax.specs.Places.{at}
use Rattle.pc_syntax.specs.Plain.{Plain}
use Rattle.pc_syntax.specs.WellFormed.{IsProper}
use Rattle.pc_types.specs.Shapes.{Owner}
use Rattle.pc_types.specs.Table.{nobody}
use Rattle.pc_names.specs.Numbers.{number_of, AreDistinct}
use Rattle.pc_rules.specs.Errors.{is_program}
use Rattle.pc_rules.specs.ForStatements.{stands_among}
use Rattle.pc_rules.specs.Outsides.{outside_of}
use Rattle.pc_rules.specs.RoutineList.{routines_below, routines_of}
use Rattle.pc_rules.specs.Routines.{Routine}
use Rattle.pc_needs.specs.Answers.{has_block}
use Rattle.pc_needs.specs.Unaffected.{IsOneOf}
use Rattle.pc_program_laws.specs.Inside.{InsideLaw}
use Rattle.pc_sightings.specs.TouchedLog.{AreApart, stands_in, stands_since}
use Rattle.pc_places.specs.Places.{known}
use Rattle.pc_block_laws.specs.Touched.{TouchedLaw}
use Rattle.pc_resolve.specs.Blocks.{Notes}
use Rattle.pc_resolve.specs.declared.resolver.Resolver.{Resolver}

named-since : TouchedLaw → (old more : List (ℕ × ℕ)) (owner : ℕ) (o : Option ℕ) →
    option_map_or (λ (i : ℕ). stands_in more (owner, i)) o false ≡ option_map_or (λ (i : ℕ). stands_since (length old) (old ++ more) (owner, i)) o false
named-since law old more owner None = refl
named-since law old more owner (Some i) = sym ((law.since old more).1 (owner, i))

-- which variables of a routine's block others touch
pub touched-inside : InsideLaw → TouchedLaw → (t x : Plain) (r : Routine) (owner mark : ℕ) (a b : Resolver) → IsProper t → is_program t.kind ≡ true → IsOneOf (routines_of t) r → has_block r.heading ≡ true →
    at r.place t ≡ Some x → Notes (routines_of t) (routines_below r 1 x.kids) a b → mark ≡ length a.touched → AreApart (known b.tables).table.owners → AreDistinct (known b.tables).names →
    owner < length (known b.tables).table.owners → get_or (known b.tables).table.owners owner nobody ≡ r.owner → (n : List ℕ) →
    (outside_of (routines_of t) r).touched n ≡ option_map_or (λ (i : ℕ). stands_since mark b.touched (owner, i)) (number_of (known b.tables).names n) false
unfolding outside_of
touched-inside inside law t x r owner mark a b proper program among has here notes start apart distinct there is n =
    let all = routines_of t in
    let k = known b.tables in
    let log : (c : ℕ × List (ℕ × ℕ)) → Bool = λ c. option_map_or (λ (i : ℕ). stands_since c.0 c.1 (owner, i)) (number_of k.names n) false in
    inside.touched_below t x r n proper program among has here
    ∙ sym (notes.same r.owner n)
    ∙ ap (λ (o : Owner). stands_among notes.variables o n) (sym is)
    ∙ sym (law.says k.table.owners k.names notes.more notes.variables apart distinct notes.shown owner n there)
    ∙ named-since law a.touched notes.more owner (number_of k.names n)
    ∙ ap (λ (m : ℕ). log (m, a.touched ++ notes.more)) (sym start)
    ∙ ap (λ (l : List (ℕ × ℕ)). log (mark, l)) (sym notes.log)
