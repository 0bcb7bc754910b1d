use Rattle.std.proofs.Common.{refl}
use Rattle.pc_statement_parts.specs.PartLaws.{finds-part-if, texts-if}
use Rattle.pc_statement_parts.proofs.parts.facts_of.Goals as goal

pub returns : goal.returns
returns c = record {
  found = finds-part-if _ _ _ _ _ c.statement-found.result c.statement-found.ensures c.new.ensures c.requires.statement c.args.tables.now refl refl c.as_slice.ensures.value c.as_slice-2.ensures.value;
  texts = texts-if _ _ _ _ c.statement-found.result c.statement-found.ensures;
}
