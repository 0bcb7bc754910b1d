use Rattle.std.proofs.Common.{ap}
use Rattle.pc_syntax.specs.Words.{lowered}
use Rattle.pc_syntax.specs.Sorts.{is_hole}
use Rattle.pc_access_rules.proofs.JudgedSteps.{judged-shown, place-entries}
use Rattle.pc_access_rules.proofs.referenced.variable_judged.Goals as goal

pub returns : goal.returns
returns c = λ k name h w.
    judged-shown k.table _ _ _ c.args.named.hole (is_hole name.kind) _ _ h.hole
    (place-entries _ _ _ _ _ c.new-own.ensures.items (c.in_ok-add_variable_entries.ensures k name h w) c.new-entries.ensures.items c.in_ok-add_kid.ensures)
    (ap (λ v. v.items) c.of_parts.ensures.entries) c.of_parts.ensures.known (c.variable_type-of.ensures k (lowered name.word) name.found h.found)
