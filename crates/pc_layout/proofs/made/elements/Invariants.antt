use Rattle.std.proofs.Common.{◌≡◌, ◌++◌, ◌∷◌, ◌-◌}
use Rattle.pc_syntax.specs.declared.item.Item.TheVariants.{Kid}
use Rattle.pc_syntax.specs.Layout.{further}
use Rattle.pc_layout.proofs.made.elements.Given as goal

abbrev pub invariant-loop-i : goal.invariant-loop-i
invariant-loop-i l =
    l.opening ++ Kid l.class ∷ further l.separator l.class (l.count - 1) l.close ≡ l.items.items ++ further l.separator l.class (l.count - l._i) l.close
