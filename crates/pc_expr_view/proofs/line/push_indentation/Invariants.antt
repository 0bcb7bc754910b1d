use Rattle.std.proofs.Common.{◌≡◌, ◌-◌, ◌++◌}
use Rattle.pc_decl.specs.ExprText.{indentation}
use Rattle.pc_expr_view.proofs.line.push_indentation.Given as goal

-- what is there and the levels that are left make up the whole
abbrev pub invariant-loop-done : goal.invariant-loop-done
invariant-loop-done l = l.text.items ++ indentation (l.level - l.done) ≡ l.fn.text.items ++ indentation l.level
