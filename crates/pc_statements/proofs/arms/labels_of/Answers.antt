use Rattle.std.proofs.Common.{◌≡◌, ◌+◌, ◌++◌, true, [], ◌∷◌, Some, slice_get, take, map, refl, sym, subst, ap, ◌∙◌}
use Rattle.std.proofs.lemmas.List.{take_more, take_all}
use Rattle.std.proofs.lemmas.Option.{slice_get_read}
use Rattle.pc_syntax.specs.Plain.{kids_of}
use Rattle.pc_syntax.specs.declared.class.Class.TheVariants as class
use Rattle.pc_forms.specs.FormClasses.{Every}
use Rattle.pc_environment.specs.Sight.{is_body}
use Rattle.pc_bodies.specs.BodyLaws.{class-body}
use Rattle.pc_bodies.specs.ListLaws.{take-body}
use Rattle.pc_bodies.specs.Resolved.{ShowsFacts, ResolvesRow}
use Rattle.pc_bodies.specs.RowsLaws.{row-none, row-more}
use Rattle.pc_bodies.specs.WholeLaws.{kids-body}
use Rattle.pc_statements.specs.ArmLaws.{resolves-labels}
use Rattle.pc_statements.specs.ListKinds.{labels-kind, labels-kid}
use Rattle.pc_statements.specs.WalkLaws.{facts-stay}
use Rattle.pc_statements.proofs.arms.labels_of.Goals as goal

pub constant-requires : goal.constant-requires
constant-requires c =
    let at : slice_get (kids_of c.args.list.now) c.loop-kid.kid-index ≡ Some c.kid-item.result =
    subst (λ ks. slice_get ks c.loop-kid.kid-index ≡ Some c.kid-item.result) c.kid_slice-kid-items.ensures.value
    (slice_get_read c.kid_slice-kid-items.result.now _ c.loop-kid.kid-index c.kid-item.result refl c.loop-kid-test.true c.kid-item.is) in
    record {
      block = c.requires.block;
      constant = labels-kid c.args.list.now c.kid-item.result c.loop-kid.kid-index c.kid_slice-kid-items.ensures.proper (labels-kind c.args.list.now.kind c.requires.list) at;
    }

pub loop-kid-init : goal.loop-kid-init
loop-kid-init c = subst (λ fs. ResolvesRow c.args.body.now c.args.going.now c.args.going.now [] fs) (sym c.new-kids.ensures.items) (row-none ShowsFacts c.args.body.now c.args.going.now)

pub loop-kid-preserved : goal.loop-kid-preserved
loop-kid-preserved c =
    let b = c.args.body.now in
    let kids = c.kid_slice-kid-items.result.now in
    let i = c.loop-kid.kid-index in
    let list = c.args.list.now in
    let g0 = c.args.going.now in
    let g2 = c.constant.new.going in
    let kid = c.kid-item.result in
    let bodies = take-body i kids (subst (λ ks. Every (λ u. is_body u.kind ≡ true) ks) (sym c.kid_slice-kid-items.ensures.value)
    (kids-body list c.kid_slice-kid-items.ensures.proper (class-body class.Labels list.kind refl c.requires.list))) in
    let more = row-more ShowsFacts facts-stay b g0 c.loop-kid.going g2 (take i kids) kid c.loop-kid.kids.items c.in_ok-one.one bodies c.loop-kid.invariant c.in_ok-one.ensures in
    let taken : take (i + 1) kids ≡ take i kids ++ kid ∷ [] = take_more kids i kid c.loop-kid-test.true ∙ ap (λ k. take i kids ++ k ∷ []) (sym c.kid-item.is) in
    subst (λ ts. ResolvesRow b g0 g2 ts c.push.new.self.items) (sym taken) (subst (λ xs. ResolvesRow b g0 g2 (take i kids ++ kid ∷ []) xs) (sym c.in_ok-push.ensures.items) more)

pub returns : goal.returns
returns c =
    let b = c.args.body.now in
    let g0 = c.args.going.now in
    let list = c.args.list.now in
    let ks = c.kid_slice-kid-items.result.now in
    let n = c.loop-kid.kid-index in
    let fs = c.loop-kid.kids.items in
    let all : take n ks ≡ kids_of list = take_all n ks c.loop-kid-test.false ∙ c.kid_slice-kid-items.ensures.value in
    resolves-labels b g0 c.loop-kid.going list fs _ (labels-kind list.kind c.requires.list) (subst (λ ts. ResolvesRow b g0 c.loop-kid.going ts fs) all c.loop-kid.invariant)
    (c.in_ok-values.ensures ∙ ap (λ gs. map (λ f. f.constant) gs) c.as_slice.ensures.value) c.in_ok-at.ensures
