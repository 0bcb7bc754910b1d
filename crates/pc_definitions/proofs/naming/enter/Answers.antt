use Rattle.std.proofs.Common.{sym, subst, ◌∙◌, ap}
use Rattle.pc_syntax.specs.Words.{lowered, is_among}
use Rattle.pc_names.specs.StandingLaws.{passing}
use Rattle.pc_rules.specs.Meanings.{Local}
use Rattle.pc_places.specs.Places.{IsPlace}
use Rattle.pc_definitions.specs.Namings.{FitsNaming, entering}
use Rattle.pc_definitions.specs.NamingLaws.{fits-by, entering-by}
use Rattle.pc_definitions.specs.declared.naming.Naming.{Naming}
use Rattle.pc_definitions.proofs.naming.enter.Goals as goal

pub returns-in_ok-name-in-Name-clause-place : goal.returns-in_ok-name-in-Name-clause-place
returns-in_ok-name-in-Name-clause-place c = λ owner out l place.
    let node = c.args.node.now in
    let block = c.args.block.0 in
    let new = c.pass_name.new.tables in
    let name = c.in_ok-name-in-Name.name in
    let second = c.in_ok-name-in-Name.second in
    let at = c.in_ok-name-in-Name.ensures.place owner out l place in
    let here = subst (λ w. IsPlace new block owner out (passing l (lowered w))) c.word.ensures at.1 in
    subst (λ (n : Naming). FitsNaming l node n × IsPlace new block owner out (entering l node n)) (sym c.naming_of.ensures)
    (fits-by l node second name (at.0 ∙ ap (λ w. is_among l.passed (lowered w)) c.word.ensures), subst (λ (p : Local). IsPlace new block owner out p) (sym (entering-by l node second name)) here)
