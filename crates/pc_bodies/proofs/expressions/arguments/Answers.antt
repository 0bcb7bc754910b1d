use Rattle.std.proofs.Common.{◌≡◌, ◌+◌, ◌++◌, true, [], ◌∷◌, Some, List, slice_get, take, refl, sym, subst, ap, ◌∙◌}
use Rattle.std.proofs.lemmas.List.{take_more}
use Rattle.std.proofs.lemmas.Option.{slice_get_read}
use Rattle.pc_syntax.specs.Plain.{Plain, kids_of}
use Rattle.pc_syntax.specs.declared.class.Class.TheVariants as class
use Rattle.pc_forms.specs.FormClasses.{Every}
use Rattle.pc_environment.specs.Sight.{is_body}
use Rattle.pc_facts.specs.Shows.{ShowsArgument}
use Rattle.pc_facts.specs.declared.facts.Argument.{Argument}
use Rattle.pc_growth.specs.GrowsLaws.{ShowsArgument-grows}
use Rattle.pc_bodies.specs.ArgumentLaws.{args-kind, args-kid}
use Rattle.pc_bodies.specs.BodyLaws.{class-body}
use Rattle.pc_bodies.specs.ListLaws.{take-body}
use Rattle.pc_bodies.specs.Resolved.{ResolveAs}
use Rattle.pc_bodies.specs.RowsLaws.{row-more}
use Rattle.pc_bodies.specs.WholeLaws.{kids-body}
use Rattle.pc_bodies.proofs.expressions.arguments.Goals as goal

pub argument-requires : goal.argument-requires
argument-requires c =
    let at : slice_get (kids_of c.args.list.now) c.loop-kid.kid-index ≡ Some c.kid-item.result =
    subst (λ ks. slice_get ks c.loop-kid.kid-index ≡ Some c.kid-item.result) c.kid_slice-kid-items.ensures.value
    (slice_get_read c.kid_slice-kid-items.result.now _ c.loop-kid.kid-index c.kid-item.result refl c.loop-kid-test.true c.kid-item.is) in
    record { block = c.requires.block; argument = args-kid c.args.list.now c.kid-item.result c.loop-kid.kid-index c.kid_slice-kid-items.ensures.proper (args-kind c.args.list.now.kind c.requires.list) at }

pub loop-kid-preserved : goal.loop-kid-preserved
loop-kid-preserved c =
    let b = c.args.body.now in
    let kids = c.kid_slice-kid-items.result.now in
    let i = c.loop-kid.kid-index in
    let list = c.args.list.now in
    let bodies = take-body i kids (subst (λ ks. Every (λ u. is_body u.kind ≡ true) ks) (sym {A = List Plain} c.kid_slice-kid-items.ensures.value)
    (kids-body list c.kid_slice-kid-items.ensures.proper (class-body class.Args list.kind refl c.requires.list))) in
    let more = row-more ShowsArgument ShowsArgument-grows b c.args.going.now c.loop-kid.going c.argument.new.going (take i kids) c.kid-item.result c.loop-kid.found.items c.in_ok-one.one bodies c.loop-kid.invariant c.in_ok-one.ensures in
    let taken : take (i + 1) kids ≡ take i kids ++ c.kid-item.result ∷ [] = take_more kids i c.kid-item.result c.loop-kid-test.true ∙ ap (λ k. take i kids ++ k ∷ []) (sym c.kid-item.is) in
    subst (λ ts. ResolveAs ShowsArgument b c.args.going.now c.argument.new.going ts c.push.new.self.items) (sym taken)
    (subst (λ xs. ResolveAs ShowsArgument b c.args.going.now c.argument.new.going (take i kids ++ c.kid-item.result ∷ []) xs) (sym {A = List Argument} c.in_ok-push.ensures.items) more)
