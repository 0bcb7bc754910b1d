use Rattle.std.proofs.Common.{[], ◌∷◌, sym}
use Rattle.pc_rules.specs.Attributes.{kids_below}
use Rattle.pc_rules.specs.CaseStatements.{selector_type}
use Rattle.pc_statement_rules.proofs.OwnSteps.{shown-at}
use Rattle.pc_statement_rules.proofs.CaseSteps.{is_selected, case-entries}
use Rattle.pc_statement_rules.proofs.cases.case.Goals as goal

pub returns : goal.returns
returns c = λ k w a b same texts g arms h.
    let of = shown-at _ _ _ _ c.value_type-of.ensures g.value.type in
    let handed = c.in_ok-add-2.ensures k (a ∷ []) b (c.in_ok-add.ensures k [] a (c.new-handing.ensures k) g) h in
    c.statement.ensures k w (a ∷ b ∷ []) _ [] (sym handed.hole)
    (case-entries (a ∷ b ∷ []) _ _ _ _ _ _ _ handed.entries
    (c.in_ok-at_selector.ensures k.table a.as_value.type same of)
    (c.in_ok-at_arms.ensures k (selector_type a.as_value.type) (kids_below b) (is_selected k _ _ _ _ a.as_value.type same texts of c.member_type.ensures.shape) arms)
    c.in_ok-add_kid.ensures c.in_ok-add_kid-2.ensures)
