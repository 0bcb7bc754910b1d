use Rattle.std.proofs.Common.{◌∙◌, ap, sym, refl}
use Rattle.pc_syntax.specs.Sorts.{is_hole}
use Rattle.pc_denoters.specs.KidLaws.{name-is-hole}
use Rattle.pc_denoters.specs.PassingLaws.{passed-hole}
use Rattle.pc_denoters.proofs.enumerations.pass_kid.Goals as goal

pub returns-in_ok-pass_name-in-Name : goal.returns-in_ok-pass_name-in-Name
returns-in_ok-pass_name-in-Name c = λ base ts at so. c.in_ok-pass_name-in-Name.ensures base ts c.args.kid.now at (ap is_hole (sym c.kind.ensures.value ∙ c.in-Name.is)) (sym c.word.ensures) so

pub returns-in_default : goal.returns-in_default
returns-in_default c = λ base ts at so.
    passed-hole c.args.block.0 base c.args.tables.now ts c.args.kid.now c.args.found.now _ (name-is-hole c.args.kid.now.kind c.requires.name (λ e. c.in_default.not-Name (c.kind.ensures.value ∙ e))) so refl refl refl refl
