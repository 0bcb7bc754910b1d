use Rattle.std.proofs.Common.{sym, ◌∙◌, ap, false}
use Rattle.std.specs.Prelude.{Option}
use Rattle.std.specs.Option.{option_map_or}
use Rattle.pc_facts.specs.declared.sighting.Formal.{Formal}
use Rattle.pc_told.specs.RoleLaws.{variable_at}
use Rattle.pc_told.proofs.Got.{got, missed}
use Rattle.pc_told.proofs.roles.is_by_place.Goals as goal

pub returns-in-Some : goal.returns-in-Some
returns-in-Some c =
    let there = got c.args.formals.now c.args.index c.in-Some.formal.now c.in-Some.ensures.lookup.0 c.in-Some.ensures.lookup.1 in
    sym (variable_at c.args.formals.now c.args.index ∙ ap (λ (o : Option Formal). option_map_or (λ (f : Formal). f.by_place) o false) there)

pub returns-in-None : goal.returns-in-None
returns-in-None c =
    let there = missed c.args.formals.now c.args.index c.in-None.ensures.lookup.0 in
    sym (variable_at c.args.formals.now c.args.index ∙ ap (λ (o : Option Formal). option_map_or (λ (f : Formal). f.by_place) o false) there)
