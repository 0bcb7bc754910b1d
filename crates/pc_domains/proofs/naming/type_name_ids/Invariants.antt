use Rattle.std.proofs.Common.{drop}
use Rattle.pc_syntax.specs.Plain.{forest_of}
use Rattle.pc_domains.specs.NamingLaws.{Gathered}
use Rattle.pc_domains.specs.Types.{OnlyNames}
use Rattle.pc_domains.proofs.naming.type_name_ids.Given as goal

abbrev pub invariant-loop-kid : goal.invariant-loop-kid
invariant-loop-kid l = record {
  gathered : Gathered l.tables.names.texts l.ids.items (forest_of (drop l.kid-index l.kid-items)) l.fn.list.kids;
  names : OnlyNames l.fn.tables l.tables;
}
