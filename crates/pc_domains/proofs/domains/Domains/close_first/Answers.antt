use Rattle.std.proofs.Common.{◌<◌, length, sym, subst}
use Rattle.pc_growth.specs.GrowsLaws.{less-begins}
use Rattle.pc_names.specs.Table.{Table}
use Rattle.pc_domains.specs.Types.{AllBelow}
use Rattle.pc_domains.proofs.domains.Domains.close_first.Goals as goal

pub sift-requires-clause-block : goal.sift-requires-clause-block
sift-requires-clause-block c =
    subst (λ (t : Table). c.args.block.0 < length t.chains) (sym c.in_ok-enter.ensures.rows.same.names)
    (less-begins c.args.tables.now.names.chains c.block_names.new.tables.names.chains c.args.block.0 c.in_ok-names.ensures.names.keeps.chains c.requires.block)

pub sift-requires-clause-there : goal.sift-requires-clause-there
sift-requires-clause-there c =
    subst (λ (t : Table). AllBelow (length t.texts) c.in_ok-names.names.ids.items) (sym c.in_ok-enter.ensures.rows.same.names) c.in_ok-names.ensures.shows.there

pub returns : goal.returns
returns c = record {
  names = c.in_ok-names.names;
  first = c.begin.new.self;
  second = c.enter.new.self;
  third = c.settle.new.self;
  fourth = c.enter-2.new.self;
  one = c.block_names.new.tables;
  two = c.enter.new.tables;
  three = c.sift.new.tables;
  fresh = c.requires.fresh;
  begins = c.in_ok-begin.ensures;
  named = c.in_ok-names.ensures.names;
  shows = c.in_ok-names.ensures.shows;
  enters = c.in_ok-enter.ensures;
  settles = c.in_ok-settle.ensures;
  sifts = c.in_ok-sift.ensures;
  again = c.in_ok-enter-2.ensures;
  ends = c.end.ensures;
}
