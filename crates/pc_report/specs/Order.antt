-- The order of two entries.
use Rattle.std.specs.Prelude.{Bool, nat_lt}
use Rattle.pc_rules.specs.Attributes.{Entry}
use Rattle.pc_rules.specs.Errors.{comes_first}

-- whether an entry stands before another one in the error list: by their places, and at one place by their rows
abbrev pub is_before : Entry → Entry → Bool
is_before e f = comes_first e.place f.place (nat_lt e.row f.row)
