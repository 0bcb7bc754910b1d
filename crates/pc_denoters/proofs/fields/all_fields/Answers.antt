use Rattle.std.proofs.Common.{◌≡◌, ◌+◌, ◌++◌, ◌∷◌, ◌||◌, [], ◌∙◌, ap, sym, length, length-append, arith}
use Rattle.pc_rules.specs.Attributes.{at_kid}
use Rattle.pc_denoters.specs.FieldRows.{below_of, twice_of, lists_of-end, open_field-end, below_of-end, twice_of-end}
use Rattle.pc_denoters.proofs.fields.all_fields.Goals as goal

pub loop-row-preserved : goal.loop-row-preserved
loop-row-preserved c =
    let fs = c.loop-row.yielded in
    let row = c.in-Some.row in
    let so = c.loop-row.invariant in
    let next : c.in_ok-i.i ≡ 1 + length fs = omega (arith, c.in_ok-i.ensures, so.4) in
    let own = c.in_ok-add_kid-2.ensures ∙ ap (λ es. es ++ at_kid 1 row.twice.items) c.new-own.ensures.items in (
      c.in_ok-push.ensures.items ∙ ap (λ v. v ++ row.list ∷ []) so.0 ∙ sym (lists_of-end fs row),
      c.either-hole.ensures ∙ ap (λ h. h || row.hole) so.1 ∙ sym (open_field-end fs row),
      c.in_ok-add_kid.ensures ∙ ap (λ es. es ++ at_kid c.in_ok-i.i row.below.items) so.2 ∙ ap (λ n. below_of 1 fs ++ at_kid n row.below.items) next ∙ sym (below_of-end 1 fs row),
      c.in_ok-add_kid-3.ensures ∙ ap (λ es. es ++ at_kid c.in_ok-i.i c.add_kid-in-loop-row.new.entries.items) so.3 ∙ ap (λ es. twice_of 1 fs ++ at_kid c.in_ok-i.i es) own
          ∙ ap (λ n. twice_of 1 fs ++ at_kid n (at_kid 1 row.twice.items)) next ∙ sym (twice_of-end 1 fs row),
      (let n = length-append fs (row ∷ []) in omega (arith, n, next)),
    )
