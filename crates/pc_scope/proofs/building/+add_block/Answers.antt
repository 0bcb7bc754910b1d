use Rattle.std.proofs.Common.{◌≡◌, suc, ◌+◌, ◌-◌, ◌≤◌, true, false, Some, None, length, refl, ap, sym, ◌∙◌, subst, arith, length-append}
use Rattle.std.proofs.lemmas.Option.{slice_get_read}
use Rattle.std.specs.Prelude.{Option, slice_get, slice_index}
use Rattle.pc_syntax.specs.Plain.{trees_of, forest_of}
use Rattle.pc_syntax.specs.PartsLaws.{trees_of-forest_of}
use Rattle.pc_syntax.specs.WellFormed.{size_in, size_of}
use Rattle.pc_scope.specs.Around.{Block, inner_block, block_of}
use Rattle.pc_scope.specs.Blocks.{block_kids}
use Rattle.pc_scope.specs.Headings.{is_routine_kind}
use Rattle.pc_scope.specs.Sites.{block_at}
use Rattle.pc_scope.specs.Stands.{Both, StandsForBlock}
use Rattle.pc_scope.specs.declared.region.Region.{Region}
use Rattle.pc_scope.proofs.Regions.{IsOf}
use Rattle.pc_scope.proofs.RegionSteps.{kept-push, stands-push, other-block, routine-block, inner-more, inner-all, among-smaller}
use Rattle.pc_scope.proofs.building.+add_block.Goals as goal

pub loop-i-preserved-then-not-is_routine_kind : goal.loop-i-preserved-then-not-is_routine_kind
loop-i-preserved-then-not-is_routine_kind t c =
    let ts = c.routines_of-routines.result.now in
    let b : Block = block_at c.args.site (block_kids c.args.tree.now.kids) in
    let at : slice_get ts c.loop-i.i ≡ Some c.index-routines-i.result = slice_get_read ts (length ts) c.loop-i.i c.index-routines-i.result refl c.loop-i-test.true c.index-routines-i.is in
    let other : is_routine_kind c.index-routines-i.result.kind ≡ false = sym (ap is_routine_kind c.kind.ensures.value) ∙ sym c.is_routine_kind.ensures ∙ c.if-not-is_routine_kind.true in
    let none : inner_block b (suc c.loop-i.i) ≡ None = other-block b ts (sym c.routines_of-routines.ensures.value) c.loop-i.i c.index-routines-i.result at other in
    let P : Option Block → Type 0 = λ x. Both (StandsForBlock c.loop-i.regions.items) None x in
    record {
      count = ap length c.in_ok-push.ensures.items ∙ length-append c.loop-i.inner.items _ ∙ ap (λ n. n + 1) c.loop-i.invariant.count;
      kept = c.loop-i.invariant.kept;
      inner = inner-more c.loop-i.regions.items c.loop-i.regions.items b c.loop-i.inner.items c.push.new.self.items c.loop-i.i None c.loop-i.invariant.count c.in_ok-push.ensures.items
          (λ r x s. s) (subst P (sym none) tt) c.loop-i.invariant.inner;
    }

pub site-requires-clause-numbers : goal.site-requires-clause-numbers
site-requires-clause-numbers t c =
    c.in_ok-opened.ensures.numbers.count ∙ ap (λ f. length (trees_of f)) (sym c.routines_of-routines.ensures.value) ∙ ap length (trees_of-forest_of c.routines_of-routines.result.now)

pub add_block-requires : goal.add_block-requires
add_block-requires t c =
    let ts = c.routines_of-routines.result.now in
    let at : slice_get ts c.loop-i.i ≡ Some c.index-routines-i.result = slice_get_read ts (length ts) c.loop-i.i c.index-routines-i.result refl c.loop-i-test.true c.index-routines-i.is in
    let d : size_of c.index-routines-i.result ≤ size_in (forest_of ts) = among-smaller ts c.loop-i.i c.index-routines-i.result at in
    (omega (arith, d, c.routines_of-routines.ensures.smaller, c.decreases), tt)

pub loop-i-preserved : goal.loop-i-preserved
loop-i-preserved t c =
    let ts = c.routines_of-routines.result.now in
    let b : Block = block_at c.args.site (block_kids c.args.tree.now.kids) in
    let r = c.index-routines-i.result in
    let at : slice_get ts c.loop-i.i ≡ Some r = slice_get_read ts (length ts) c.loop-i.i r refl c.loop-i-test.true c.index-routines-i.is in
    let e : is_routine_kind r.kind ≡ true = sym (ap is_routine_kind c.kind.ensures.value) ∙ sym c.is_routine_kind.ensures ∙ c.if-not-is_routine_kind.false in
    let x : Block = block_at c.in_ok-site.site (block_kids r.kids) in
    let is : x ≡ block_of b (c.loop-i.i + 1) r (slice_index c.in_ok-opened.opened.numbers.items c.loop-i.i) = c.in_ok-site.ensures b r c.in_ok-opened.ensures (sym c.routines_of-routines.ensures.value) at in
    let some : inner_block b (suc c.loop-i.i) ≡ Some x =
    routine-block b ts (sym c.routines_of-routines.ensures.value) c.loop-i.i r at c.in_ok-opened.opened c.in_ok-opened.ensures e x is in
    let P : Option Block → Type 0 = λ y. Both (StandsForBlock c.add_block.new.regions.items) (Some c.in_ok-region.region) y in
    record {
      count = ap length c.in_ok-push-2.ensures.items ∙ length-append c.loop-i.inner.items _ ∙ ap (λ n. n + 1) c.loop-i.invariant.count;
      kept = λ q y s. c.in_ok-region.ensures.kept q y (c.loop-i.invariant.kept q y s);
      inner = inner-more c.loop-i.regions.items c.add_block.new.regions.items b c.loop-i.inner.items c.push-in-loop-i.new.self.items c.loop-i.i (Some c.in_ok-region.region) c.loop-i.invariant.count
          c.in_ok-push-2.ensures.items c.in_ok-region.ensures.kept (subst P (sym some) c.in_ok-region.ensures.stands) c.loop-i.invariant.inner;
    }

pub returns-clause-stands : goal.returns-clause-stands
returns-clause-stands t c =
    let ts = c.routines_of-routines.result.now in
    let b : Block = block_at c.args.site (block_kids c.args.tree.now.kids) in
    let g : Region = record { names = c.in_ok-opened.opened.names; number = c.args.site.number; inner = c.loop-i.inner } in
    let all : c.loop-i.i ≡ length ts = omega arith in
    let is : IsOf c.loop-i.regions.items g b = record {
      names = c.in_ok-opened.ensures.names;
      number = refl;
      inner = inner-all c.loop-i.regions.items b ts (sym c.routines_of-routines.ensures.value) g (c.loop-i.invariant.count ∙ all) (λ j l. c.loop-i.invariant.inner j (omega (arith, l, all)));
    } in
    let size : length c.push-2.new.self.items ≡ length c.loop-i.regions.items + 1 = ap length c.in_ok-push-3.ensures.items ∙ length-append c.loop-i.regions.items _ in
    stands-push c.loop-i.regions.items g b is c.push-2.new.self.items (c.len.result - 1) c.in_ok-push-3.ensures.items (omega (arith, size, c.len.ensures, c.push-2.new.self.ok.0))

pub returns-clause-kept : goal.returns-clause-kept
returns-clause-kept t c = λ r b s.
    let g : Region = record { names = c.in_ok-opened.opened.names; number = c.args.site.number; inner = c.loop-i.inner } in
    kept-push c.loop-i.regions.items c.push-2.new.self.items g c.in_ok-push-3.ensures.items r b (c.loop-i.invariant.kept r b s)
