use Rattle.std.proofs.Common.{◌≡◌, ◌+◌, List, ◌∷◌, [], ◌++◌, take, length, refl, ap, sym, ◌∙◌, subst}
use Rattle.std.proofs.lemmas.List.{take_more}
use Rattle.std.proofs.lemmas.Option.{slice_get_read}
use Rattle.pc_syntax.specs.Plain.{Plain}
use Rattle.pc_forms.specs.FormClasses.{Every}
use Rattle.pc_rules.specs.Attributes.{nodes, each_kid}
use Rattle.pc_rules.specs.Headings.{repeated_entries}
use Rattle.pc_rules.specs.Routines.{bare}
use Rattle.pc_environment.specs.Decorating.{marks_of}
use Rattle.pc_headings.specs.Groups.{IsParameter}
use Rattle.pc_headings.specs.RepeatedLaws.{repeated-more, repeated-list}
use Rattle.pc_headings.specs.AddsLaws.{are-parameters, every-at, take-every}
use Rattle.pc_headings.proofs.LoopSteps.{count-next, count-more, taken-all}
use Rattle.pc_headings.proofs.repeated.repeated.Goals as goal

pub repeated_at-requires-clause-class : goal.repeated_at-requires-clause-class
repeated_at-requires-clause-class c =
    let kids = c.kid_slice-kid-items.result.now in
    let params = subst (λ (ts : List Plain). Every IsParameter ts) (sym c.kid_slice-kid-items.ensures.value) (are-parameters c.args.list.now c.kid_slice-kid-items.ensures.proper c.requires.class) in
    (every-at IsParameter kids c.loop-kid.kid-index c.kid-item.result params (slice_get_read kids (length kids) c.loop-kid.kid-index c.kid-item.result refl c.loop-kid-test.true c.kid-item.is)).class_is

pub loop-kid-preserved : goal.loop-kid-preserved
loop-kid-preserved c =
    let kids = c.kid_slice-kid-items.result.now in
    let i = c.loop-kid.kid-index in
    let kid = c.kid-item.result in
    let has = c.add_kid.new.entries.items in
    let row = c.loop-kid.invariant in
    let count = c.in_ok-count.count in
    let params = take-every IsParameter i kids (subst (λ (ts : List Plain). Every IsParameter ts) (sym c.kid_slice-kid-items.ensures.value) (are-parameters c.args.list.now c.kid_slice-kid-items.ensures.proper c.requires.class)) in
    let taken : take (i + 1) kids ≡ take i kids ++ kid ∷ [] = take_more kids i kid c.loop-kid-test.true ∙ ap (λ k. take i kids ++ k ∷ []) (sym c.kid-item.is) in (
      λ k means o m table sees place.
          subst (λ (ts : List Plain). has ≡ each_kid repeated_entries 1 (nodes (marks_of (bare means) m ts))) (sym taken)
          (repeated-more means o m (take i kids) kid count c.loop-kid.entries.items c.in_ok-own.own.items has params place (count-next (take i kids) c.loop-kid.count count row.1 c.in_ok-count.ensures)
          (row.0 k means o m table sees place) (λ q at. c.in_ok-own.ensures k means o q table sees at) c.in_ok-add_kid.ensures),
      subst (λ (ts : List Plain). count ≡ length ts) (sym taken) (count-more (take i kids) kid c.loop-kid.count count row.1 c.in_ok-count.ensures),
    )

pub returns : goal.returns
returns c = λ k means o l table sees place.
    let all = taken-all c.kid_slice-kid-items.result.now c.loop-kid.kid-index c.loop-kid-test.false ∙ c.kid_slice-kid-items.ensures.value in
    repeated-list means o l c.args.list.now c.loop-kid.entries.items c.requires.class place
    (λ m at. subst (λ (ts : List Plain). c.loop-kid.entries.items ≡ each_kid repeated_entries 1 (nodes (marks_of (bare means) m ts))) all (c.loop-kid.invariant.0 k means o m table sees at))
