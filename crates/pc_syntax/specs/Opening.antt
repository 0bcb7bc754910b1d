-- Where an `else` would be that of a changed kid.
use Rattle.std.specs.Prelude.{ℕ, Bool, false, ◌&&◌, ◌==◌}
use Rattle.pc_syntax.specs.declared.kind.Kind.{Kind}
use Rattle.pc_syntax.specs.declared.kind.Kind.TheVariants.{Ifelse}

-- whether an `else` of a node of this kind would be that of its kid at a place, counted from 0, if that ended so
abbrev pub breaks_else_rule_at : Kind → ℕ → Bool → Bool
breaks_else_rule_at Ifelse i so = (i == 1) && so
breaks_else_rule_at _ i so = false
