use Rattle.std.proofs.Common.{◌≡◌, ℕ, List, [], take, length}
use Rattle.pc_types.specs.Rows.{seen}
use Rattle.pc_types.specs.Shapes.{Owner}
use Rattle.pc_rules.specs.Attributes.{nodes, each_kid}
use Rattle.pc_rules.specs.Headings.{repeated_entries}
use Rattle.pc_rules.specs.Meanings.{Found, Local}
use Rattle.pc_rules.specs.Routines.{bare}
use Rattle.pc_environment.specs.Decorating.{marks_of}
use Rattle.pc_facts.specs.Known.{Known}
use Rattle.pc_places.specs.Scenes.{SeesNames}
use Rattle.pc_headings.specs.Groups.{IsHeadingPlace}
use Rattle.pc_headings.proofs.repeated.repeated.Given as goal

abbrev pub invariant-loop-kid : goal.invariant-loop-kid
invariant-loop-kid l =
    ((k : Known) (means : List ℕ → Found) (o : Owner) (m : Local) → k.table ≡ seen l.types → SeesNames k l.names l.declarations l.outer.0 [] means → IsHeadingPlace o m →
    l.entries.items ≡ each_kid repeated_entries 1 (nodes (marks_of (bare means) m (take l.kid-index l.kid-items)))) × (l.count ≡ length (take l.kid-index l.kid-items))
