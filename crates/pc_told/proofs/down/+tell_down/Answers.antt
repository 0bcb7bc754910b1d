use Rattle.std.proofs.Common.{◌≡◌, ◌-◌, ℕ, true, List, ◌∷◌, sym, subst, arith}
use Rattle.pc_syntax.specs.Plain.{kids_of}
use Rattle.pc_syntax.specs.declared.kind.Kind.{Kind}
use Rattle.pc_environment.specs.Sight.{is_body, sight_of}
use Rattle.pc_bodies.specs.ListLaws.{every-at}
use Rattle.pc_bodies.specs.SeesLaws.{stands-kept}
use Rattle.pc_bodies.specs.WholeLaws.{kids-body}
use Rattle.pc_told.specs.DownLaws.{down-step}
use Rattle.pc_told.specs.Tells.{TellsDown}
use Rattle.pc_told.proofs.Got.{within, kid-there, empty}
use Rattle.pc_told.proofs.down.+tell_down.Goals as goal

pub returns-in_default-clause-told : goal.returns-in_default-clause-told
returns-in_default-clause-told t c =
    subst (λ (w : List ℕ). TellsDown c.args.body.now c.args.going.now c.args.told.now.items c.tell_end.new.told.items c.args.context c.args.wanted c.args.index c.args.node.now w)
    (sym (empty c.args.way.now c.in_default.ensures.cases)) c.in_ok-tell_end.ensures.told

pub open_before-requires-clause-in_bounds : goal.open_before-requires-clause-in_bounds
open_before-requires-clause-in_bounds t c =
    let node = c.args.node.now in
    let kid = c.in-Some-kid.kid.now in
    let n = c.in-Some.number.now in
    within (kids_of node) (n - 1) kid (kid-there node kid n (sym c.in-Some-kid.ensures.value))

pub tell_down-requires : goal.tell_down-requires
tell_down-requires t c =
    let node = c.args.node.now in
    let kid = c.in-Some-kid.kid.now in
    let n = c.in-Some.number.now in
    let steps = c.in-Some.ensures.cases in
    let at = kid-there node kid n (sym c.in-Some-kid.ensures.value) in
    let body = every-at (λ u. is_body u.kind ≡ true) (kids_of node) (n - 1) kid (kids-body node c.in-Some-kid.ensures.proper c.requires.body) at in
    (omega (arith, steps.1, c.decreases), (c.requires.block, body))

pub returns-clause-told : goal.returns-clause-told
returns-clause-told t c =
    let b = c.args.body.now in
    let node = c.args.node.now in
    let kid = c.in-Some-kid.kid.now in
    let n = c.in-Some.number.now in
    let rest = c.in-Some.rest.now in
    let g0 = c.args.going.now in
    let g1 = c.wanted_by.new.going in
    let g2 = c.open_before.new.going in
    let before = c.args.told.now.items in
    let after = c.tell_down.new.told.items in
    let context = c.args.context in
    let wanted = c.args.wanted in
    let own = c.in_ok-own.own in
    let kept = c.in_ok-own.ensures.kept in
    let there = sym c.in-Some-kid.ensures.value in
    let down : TellsDown b g2 before after (record { kind = node.kind; outer = context.kind; wanted = wanted }) own (n - 1) kid rest =
    subst (λ (k : Kind). TellsDown b g2 before after (record { kind = k; outer = context.kind; wanted = wanted }) own (n - 1) kid rest) c.kind.ensures.value c.in_ok-tell_down.ensures.told in
    let step : TellsDown b g0 before after context wanted c.args.index node (n ∷ rest) =
    down-step b g0 g2 before after context wanted own c.args.index n node kid rest there (within (kids_of node) (n - 1) kid (kid-there node kid n there)) c.in_ok-own.ensures.wanted
    (λ out l stands. c.in_ok-open_before.ensures.stands out l (stands-kept b g0 g1 (sight_of out l) kept.opened kept.texts stands)) down in
    subst (λ (w : List ℕ). TellsDown b g0 before after context wanted c.args.index node w) (sym c.in-Some.ensures.cases.0) step
