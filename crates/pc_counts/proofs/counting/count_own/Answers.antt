use Rattle.std.proofs.Common.{sym, ◌∙◌, subst}
use Rattle.pc_counts.specs.Counted.{Counted}
use Rattle.pc_counts.specs.CountedLaws.{Counted-none}
use Rattle.pc_counts.specs.NamesLaws.{definition-names, list-names, none-declared, routine-names}
use Rattle.pc_counts.proofs.counting.count_own.Goals as goal

pub returns-in_default : goal.returns-in_default
returns-in_default c =
    let counts = c.args.counts.now in
    let tables = c.args.tables.now in
    let node = c.args.node.now in
    let is = c.kind.ensures.value in
    subst (λ ns. Counted ns counts counts tables tables)
    (sym (none-declared node.kind node.kids (λ e. c.in_default.not-Constdef (is ∙ e)) (λ e. c.in_default.not-Typedef (is ∙ e)) (λ e. c.in_default.not-Vardef (is ∙ e)) (λ e. c.in_default.not-Enum (is ∙ e))
    (λ e. c.in_default.not-Procedure (is ∙ e)) (λ e. c.in_default.not-Function (is ∙ e)) (λ e. c.in_default.not-Funbody (is ∙ e))))
    (Counted-none counts tables)

pub returns-in_ok-count_first-in-Constdef : goal.returns-in_ok-count_first-in-Constdef
returns-in_ok-count_first-in-Constdef c =
    let node = c.args.node.now in
    subst (λ ns. Counted ns c.args.counts.now c.count_first.new.counts c.args.tables.now c.count_first.new.tables) (sym (definition-names node.kind node.kids (rw c.kind.ensures.value at c.in-Constdef.is))) c.in_ok-count_first-in-Constdef.ensures

pub returns-in_ok-count_list-in-Vardef : goal.returns-in_ok-count_list-in-Vardef
returns-in_ok-count_list-in-Vardef c =
    let node = c.args.node.now in
    subst (λ ns. Counted ns c.args.counts.now c.count_list.new.counts c.args.tables.now c.count_list.new.tables) (sym (list-names node.kind node.kids (rw c.kind.ensures.value at c.in-Vardef.is))) c.in_ok-count_list-in-Vardef.ensures

pub returns-in_ok-count_first-in-Procedure : goal.returns-in_ok-count_first-in-Procedure
returns-in_ok-count_first-in-Procedure c =
    let node = c.args.node.now in
    subst (λ ns. Counted ns c.args.counts.now c.count_first-in-Procedure.new.counts c.args.tables.now c.count_first-in-Procedure.new.tables) (sym (routine-names node.kind node.kids (rw c.kind.ensures.value at c.in-Procedure.is))) c.in_ok-count_first-in-Procedure.ensures
