use Rattle.std.proofs.Common.{ap, sym, ◌∙◌}
use Rattle.std.specs.Option.{option_map_or}
use Rattle.std.specs.Prelude.{false}
use Rattle.pc_syntax.specs.Parts.{is_open}
use Rattle.pc_syntax.specs.PartsLaws.{last_open-forest_of}
use Rattle.pc_syntax.proofs.make.is_last_open.Goals as goal

pub returns-in-Some : goal.returns-in-Some
returns-in-Some c =
    c.is_open.ensures ∙ ap (λ o. option_map_or is_open o false) c.in-Some.ensures.value ∙ sym (last_open-forest_of c.args.trees.now)
