use Rattle.std.proofs.Common.{sym, ap, ◌∙◌, ◌++◌}
use Rattle.pc_rules.specs.Attributes.{at_kid}
use Rattle.pc_rules.specs.HandedOn.{kid_entries}
use Rattle.pc_statement_rules.proofs.kids.Handing.finish_with.Goals as goal

pub returns : goal.returns
returns c = λ k w ns es ts s e. c.statement.ensures k w ns (kid_entries 1 ns ++ at_kid c.args.i es) ts (sym s.hole)
    (c.in_ok-add_kid.ensures ∙ ap (λ xs. xs ++ at_kid c.args.i c.args.own.items) s.entries ∙ ap (λ xs. kid_entries 1 ns ++ at_kid c.args.i xs) e)
