use Rattle.pc_types.specs.Rows.{seen}
use Rattle.pc_rules.specs.Attributes.{kids_below}
use Rattle.pc_rules.specs.DeclaringNames.{names_in}
use Rattle.pc_rules.specs.Denoters.{defined_here, enumerated_rule}
use Rattle.pc_type_rules.proofs.MadeSteps.{named-made}
use Rattle.pc_type_rules.proofs.enumerations.enumerated.Goals as goal

pub returns-clause-shows : goal.returns-clause-shows
returns-clause-shows c = λ k w l a def hole names entries.
    c.denoter.ensures (record k { table = seen c.made.new.types }) w a.at.hole _ _ (enumerated_rule l a).defines hole entries
    (named-made (seen c.args.types.now) (seen c.made.new.types) c.args.here c.args.names (names_in (kids_below a)) _ (defined_here l) names c.in_ok-whole.ensures.shows def)
