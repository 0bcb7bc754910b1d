use Rattle.std.proofs.Common.{Option, sym, subst}
use Rattle.pc_types.specs.Rows.{seen}
use Rattle.pc_types.specs.declared.operand.Operand.{Operand}
use Rattle.pc_rules.specs.Declarations.{completed}
use Rattle.pc_facts.specs.Shows.{ShowsType}
use Rattle.pc_growth.specs.GrowsLaws.{ShowsType-grows}
use Rattle.pc_domains.specs.FinishLaws.{all-settled, completed-shows}
use Rattle.pc_domains.specs.RetargetedLaws.{Grows-retargeted}
use Rattle.pc_domains.proofs.domains.Domains.completed.Goals as goal

pub returns-clause-shows : goal.returns-clause-shows
returns-clause-shows c = λ targets t none told shows carried.
    let old = c.args.tables.now in
    let new = c.catch_up.new.tables in
    let e = c.catch_up.new.self in
    let all = c.in_ok-catch_up.ensures.told targets none told in
    let grows = Grows-retargeted old new c.in_ok-catch_up.ensures.retargeted in
    let here = ShowsType-grows (seen old.types) (seen new.types) c.args.of t grows.shapes grows.owners shows in (
      subst (λ (o : Option Operand). ShowsType (seen new.types) o (completed t)) (sym (c.whole_type.ensures (all-settled targets e new all)))
          (completed-shows targets e new c.args.of t all c.stays_in_order.ensures here carried),
      all,
    )
