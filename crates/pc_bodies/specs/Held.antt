-- Members of a set constructor: what is found, and that a span hands on the holes of its ends.
use Rattle.pc_rules.specs.Attributes.{Node}
use Rattle.pc_expression_rules.specs.Members.{HandsOn}
use Rattle.pc_facts.specs.Known.{Known}
use Rattle.pc_facts.specs.Shows.{ShowsMember}
use Rattle.pc_facts.specs.declared.facts.Member.{Member}

abbrev pub ShowsHeld : Known → Member → Node → Type 0
ShowsHeld k m n = ShowsMember k m n × HandsOn n
