use Rattle.std.proofs.Common.{◌≡◌, ◌≤◌, ◌+◌, ◌++◌, [], ◌∷◌, true, Some, List, ℕ, length, slice_get, take, refl, sym, subst, ap, ◌∙◌, arith}
use Rattle.std.proofs.lemmas.List.{take_more, take_all, length-take}
use Rattle.std.proofs.lemmas.Option.{slice_get_read}
use Rattle.pc_syntax.specs.Plain.{Plain, kids_of}
use Rattle.pc_syntax.specs.PartsLaws.{size_of-kid}
use Rattle.pc_syntax.specs.WellFormed.{size_of}
use Rattle.pc_syntax.specs.declared.kind.Kind.{Kind}
use Rattle.pc_environment.specs.Sight.{is_body}
use Rattle.pc_forms.specs.FormClasses.{Every}
use Rattle.pc_bodies.specs.ListLaws.{take-body, every-at}
use Rattle.pc_bodies.specs.WholeLaws.{kids-body}
use Rattle.pc_told.specs.Contexts.{meant_role}
use Rattle.pc_told.specs.PartLaws.{kids-part, part-body}
use Rattle.pc_told.specs.Parts.{is_part}
use Rattle.pc_told.specs.Tells.{TellsNode, TellsRow}
use Rattle.pc_told.specs.TellsLaws.{row-none, row-more, tells-node}
use Rattle.pc_told.specs.declared.roles.Context.{Context}
use Rattle.pc_told.proofs.below.+tell.Goals as goal

pub tell-requires : goal.tell-requires
tell-requires t c =
    let node = c.args.node.now in
    let kid = c.kid-item.result in
    let d : size_of kid + 1 ≤ size_of node =
    size_of-kid node c.loop-i.i kid (rw c.kid_slice-kid-items.ensures.value at c.loop-i-test.true) (rw c.kid_slice-kid-items.ensures.value at (sym c.kid-item.is)) in
    let at : slice_get (kids_of node) c.loop-i.i ≡ Some kid =
    subst (λ ks. slice_get ks c.loop-i.i ≡ Some kid) c.kid_slice-kid-items.ensures.value
    (slice_get_read c.kid_slice-kid-items.result.now _ c.loop-i.i kid refl c.loop-i-test.true c.kid-item.is) in
    let part = every-at (λ u. is_part u.kind ≡ true) (kids_of node) c.loop-i.i kid (kids-part node c.kid_slice-kid-items.ensures.proper c.requires.part) at in
    (omega (arith, d, c.decreases), (c.requires.block, part))

pub loop-i-init : goal.loop-i-init
loop-i-init t c = row-none c.args.body.now c.wanted_by.new.going c.tell_own.new.told.items _ c.in_ok-own.own

pub loop-i-preserved : goal.loop-i-preserved
loop-i-preserved t c =
    let b = c.args.body.now in
    let kids = c.kid_slice-kid-items.result.now in
    let i = c.loop-i.i in
    let node = c.args.node.now in
    let kid = c.kid-item.result in
    let own = c.in_ok-own.own in
    let below : Context = record { kind = c.kind.result; outer = c.args.context.kind; wanted = c.args.wanted } in
    let bodies = take-body i kids (subst (λ ks. Every (λ u. is_body u.kind ≡ true) ks) (sym {A = List Plain} c.kid_slice-kid-items.ensures.value)
    (kids-body node c.kid_slice-kid-items.ensures.proper (part-body node.kind c.requires.part))) in
    let within = c.loop-i-test.true in
    let number : length (take i kids) ≡ i = simp length-take (omega arith) in
    let one : TellsNode b c.loop-i.going c.tell.new.going c.loop-i.told.items c.tell.new.told.items below own (length (take i kids)) kid =
    subst (λ (n : ℕ). TellsNode b c.loop-i.going c.tell.new.going c.loop-i.told.items c.tell.new.told.items below own n kid) (sym number) c.in_ok-tell.ensures in
    let more = row-more b c.wanted_by.new.going c.loop-i.going c.tell.new.going c.tell_own.new.told.items c.loop-i.told.items c.tell.new.told.items below own (take i kids) kid bodies c.loop-i.invariant one in
    let taken : take (i + 1) kids ≡ take i kids ++ kid ∷ [] = take_more kids i kid c.loop-i-test.true ∙ ap (λ k. take i kids ++ k ∷ []) (sym c.kid-item.is) in
    subst (λ ts. TellsRow b c.wanted_by.new.going c.tell.new.going c.tell_own.new.told.items c.tell.new.told.items below own ts) (sym taken) more

pub returns : goal.returns
returns t c =
    let b = c.args.body.now in
    let node = c.args.node.now in
    let g0 = c.args.going.now in
    let g1 = c.tell_own.new.going in
    let g2 = c.wanted_by.new.going in
    let g3 = c.loop-i.going in
    let x0 = c.args.told.now.items in
    let x1 = c.tell_own.new.told.items in
    let x2 = c.loop-i.told.items in
    let ks = c.kid_slice-kid-items.result.now in
    let n = c.loop-i.i in
    let own = c.in_ok-own.own in
    let context = c.args.context in
    let wanted = c.args.wanted in
    let all : take n ks ≡ kids_of node = take_all n ks c.loop-i-test.false ∙ c.kid_slice-kid-items.ensures.value in
    let row : TellsRow b g2 g3 x1 x2 (record { kind = c.kind.result; outer = context.kind; wanted = wanted }) own (kids_of node) =
    subst (λ ts. TellsRow b g2 g3 x1 x2 (record { kind = c.kind.result; outer = context.kind; wanted = wanted }) own ts) all c.loop-i.invariant in
    let below : TellsRow b g2 g3 x1 x2 (record { kind = node.kind; outer = context.kind; wanted = wanted }) own (kids_of node) =
    subst (λ (k : Kind). TellsRow b g2 g3 x1 x2 (record { kind = k; outer = context.kind; wanted = wanted }) own (kids_of node)) c.kind.ensures.value row in
    tells-node b g0 g1 g2 g3 x0 x1 x2 context wanted own c.args.index node (meant_role c.role_of.result) c.requires.part c.role_of.ensures c.in_ok-tell_own.ensures c.in_ok-own.ensures.kept
    c.in_ok-own.ensures.wanted below
