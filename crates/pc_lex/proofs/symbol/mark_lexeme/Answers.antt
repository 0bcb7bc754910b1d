use Rattle.std.proofs.Common.{arith, sym, ◌-◌}
use Rattle.std.proofs.lemmas.List.{get_or_past}
use Rattle.pc_syntax.specs.declared.lexeme.Lexeme.TheVariants.{Plus}
use Rattle.pc_lex.specs.Views.{mark_lexemes}
use Rattle.pc_lex.proofs.symbol.mark_lexeme.Goals as goal

pub returns-else-at-lt21 : goal.returns-else-at-lt21
returns-else-at-lt21 c = sym (get_or_past mark_lexemes (c.args.row - 1) Plus (omega arith))
