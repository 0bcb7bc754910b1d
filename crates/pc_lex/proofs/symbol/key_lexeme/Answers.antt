use Rattle.std.proofs.Common.{arith, sym, ◌-◌}
use Rattle.std.proofs.lemmas.List.{get_or_past}
use Rattle.pc_syntax.specs.declared.lexeme.Lexeme.TheVariants.{KeyAnd}
use Rattle.pc_lex.specs.Views.{key_lexemes}
use Rattle.pc_lex.proofs.symbol.key_lexeme.Goals as goal

pub returns-else-at-lt35 : goal.returns-else-at-lt35
returns-else-at-lt35 c = sym (get_or_past key_lexemes (c.args.row - 1) KeyAnd (omega arith))
