use Rattle.std.proofs.Common.{ℕ, ◌≡◌, ◌<◌, length, arith, subst, sym, ◌∙◌, ap}
use Rattle.pc_syntax.specs.Words.{lowered}
use Rattle.pc_scope.specs.Table.{chain_of, names_in, links_in}
use Rattle.pc_scope.proofs.Chains.{Walks, walk-start}
use Rattle.pc_scope.proofs.Firsts.{get_or-any, chain-lowered, link-below, walk-on, walk-found, walk-missed}
use Rattle.pc_scope.proofs.names.Names.find.Goals as goal

pub returns-then-is_spelled-clause-first : goal.returns-then-is_spelled-clause-first
returns-then-is_spelled-clause-first c =
    walk-found c.args.self.now.entries.items c.args.self.now.heads.items c.args.self.now.linked (lowered c.args.name.now) c.loop-at.at c.index-entry.result.now
    c.loop-at-test.true c.loop-at.invariant c.index-entry.ensures (rw c.bytes.ensures at (sym c.is_spelled.ensures ∙ c.if-is_spelled.true))

pub loop-at-init : goal.loop-at-init
loop-at-init c =
    let size : length c.args.self.now.heads.items ≡ c.len.result = omega (arith, c.len.ensures, c.args.self.now.heads.ok.0) in
    let within : c.chain.result < length c.args.self.now.heads.items = omega (arith, c.chain.ensures.within, size) in
    let P : ℕ → Type 0 = λ x. Walks (names_in c.args.self.now.entries.items) (length c.args.self.now.heads.items) (lowered c.args.name.now) x in
    subst P (sym (c.index-at.ensures ∙ get_or-any c.args.self.now.heads.items c.chain.result c.index-at.result.now 0 within))
    (walk-start (names_in c.args.self.now.entries.items) (links_in c.args.self.now.entries.items) c.args.self.now.heads.items (lowered c.args.name.now) c.args.self.now.linked c.chain.result
    (c.chain.ensures.value ∙ ap (chain_of c.args.name.now) (sym size) ∙ sym (chain-lowered c.args.name.now (length c.args.self.now.heads.items))) within)

pub loop-at-smaller : goal.loop-at-smaller
loop-at-smaller c =
    link-below c.args.self.now.entries.items c.args.self.now.heads.items c.args.self.now.linked (lowered c.args.name.now) c.loop-at.at c.index-entry.result.now
    c.loop-at-test.true c.loop-at.invariant c.index-entry.ensures

pub loop-at-preserved : goal.loop-at-preserved
loop-at-preserved c =
    walk-on c.args.self.now.entries.items c.args.self.now.heads.items c.args.self.now.linked (lowered c.args.name.now) c.loop-at.at c.index-entry.result.now
    c.loop-at-test.true c.loop-at.invariant c.index-entry.ensures (rw c.bytes.ensures at (sym c.is_spelled.ensures ∙ c.if-is_spelled.false))

pub returns-clause-first : goal.returns-clause-first
returns-clause-first c =
    walk-missed c.args.self.now.entries.items c.args.self.now.heads.items c.args.self.now.linked (lowered c.args.name.now) c.loop-at.at c.loop-at-test.false c.loop-at.invariant
