use Rattle.std.proofs.Common.{◌≡◌, List, ◌++◌, length}
use Rattle.pc_types.specs.Rows.{seen}
use Rattle.pc_rules.specs.Attributes.{Node, each_kid}
use Rattle.pc_rules.specs.SetConstructors as rule
use Rattle.pc_facts.specs.Known.{Known}
use Rattle.pc_facts.specs.Shows.{ShowsMember, AllShow}
use Rattle.pc_expression_rules.specs.Members.{ShowsOrdinal}
use Rattle.pc_expression_rules.proofs.members.add_members.Given as goal

-- what the members so far have
abbrev pub invariant-loop-member : goal.invariant-loop-member
invariant-loop-member l =
    (l.i ≡ length l.yielded) ×
    ((k : Known) (ns : List Node) → k.table ≡ seen l.types → AllShow (ShowsMember k) l.yielded ns → l.entries.items ≡ each_kid rule.member_entries 1 ns) ×
    ((k : Known) (os ns : List Node) → k.table ≡ seen l.types → AllShow (ShowsOrdinal k.table) l.initial.of.items os → AllShow (ShowsMember k) l.yielded ns →
    AllShow (ShowsOrdinal k.table) l.of.items (os ++ rule.member_values ns))
