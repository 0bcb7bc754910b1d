use Rattle.std.proofs.Common.{refl, sym, ap, ◌∙◌}
use Rattle.pc_syntax.specs.Sorts.{is_hole}
use Rattle.pc_definitions.specs.NamingLaws.{nameless-hole}
use Rattle.pc_definitions.specs.VariableNamesLaws.{declared-hole}
use Rattle.pc_definitions.proofs.variables.enter_kid.Goals as goal

pub returns-in_ok-enter_name-in-Name : goal.returns-in_ok-enter_name-in-Name
returns-in_ok-enter_name-in-Name c = λ base ts count so.
    c.in_ok-enter_name-in-Name.ensures base ts c.args.kid.now count (ap is_hole (sym c.kind.ensures.value ∙ c.in-Name.is)) (sym c.word.ensures) so

pub returns-in_default : goal.returns-in_default
returns-in_default c = λ base ts count so.
    declared-hole c.args.block.0 c.args.owner.0 base c.args.tables.now ts c.args.kid.now c.args.found.now _ (nameless-hole c.args.kid.now.kind (λ e. c.in_default.not-Name (c.kind.ensures.value ∙ e)) c.requires.name) so refl refl refl
