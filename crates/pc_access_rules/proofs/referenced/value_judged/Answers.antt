use Rattle.std.proofs.Common.{ap}
use Rattle.pc_syntax.specs.Words.{lowered}
use Rattle.pc_syntax.specs.Sorts.{is_hole}
use Rattle.pc_access_rules.proofs.JudgedSteps.{judged-shown, value-entries}
use Rattle.pc_access_rules.proofs.referenced.value_judged.Goals as goal

pub returns : goal.returns
returns c = λ k name e s h w.
    judged-shown k.table _ _ _ c.args.named.hole (is_hole name.kind) _ _ h.hole
    (value-entries _ _ _ _ _ _ _ _ c.new-own.ensures.items (c.in_ok-add_value_entries.ensures k name h w) c.new-entries.ensures.items c.in_ok-add_kid.ensures c.in_ok-add_note_if.ensures
    (c.lacks_arguments.ensures k (lowered name.word) name.found s h.found))
    (ap (λ v. v.items) c.of_parts.ensures.entries) c.of_parts.ensures.known (c.value_type-of.ensures k (lowered name.word) name.found e s h.found)
