use Rattle.std.proofs.Common.{◌≡◌, ◌≤◌, ◌+◌, ◌++◌, ◌∷◌, [], true, false, take, sym, ap, ◌∙◌, subst, if◌then◌else◌, arith}
use Rattle.std.proofs.lemmas.List.{take_more, take_all}
use Rattle.pc_syntax.specs.WellFormed.{size_of}
use Rattle.pc_syntax.specs.PartsLaws.{size_of-kid}
use Rattle.pc_scope.specs.Headings.{is_routine_kind}
use Rattle.pc_rules.specs.OwnBlock.{declared_in}
use Rattle.pc_openings.specs.Declaring.{all_declared}
use Rattle.pc_openings.specs.DeclaringLaws.{all_declared-kids}
use Rattle.pc_places.specs.MovesLaws.{Keeps-same}
use Rattle.pc_counts.specs.BeforeLaws.{Counted-end}
use Rattle.pc_counts.specs.Counted.{Counted}
use Rattle.pc_counts.specs.CountedLaws.{Counted-none}
use Rattle.pc_counts.specs.Counting.{all_names}
use Rattle.pc_counts.proofs.counting.+count_below.Goals as goal

pub returns-then-is_routine-clause-counted : goal.returns-then-is_routine-clause-counted
returns-then-is_routine-clause-counted t c =
    let node = c.args.node.now in
    let counts = c.args.counts.now in
    let tables = c.args.tables.now in
    let h : is_routine_kind node.kind ≡ true = ap is_routine_kind (sym c.kind.ensures.value) ∙ sym c.is_routine.ensures ∙ c.if-is_routine.true in
    subst (λ b. Counted (all_names (if b then [] else declared_in node.kids)) counts counts tables tables) (sym h) (Counted-none counts tables)

pub count_below-requires : goal.count_below-requires
count_below-requires t c =
    let smaller : size_of c.kid-item.result + 1 ≤ size_of c.args.node.now =
    size_of-kid c.args.node.now c.loop-kid.kid-index c.kid-item.result (rw c.kid_slice-kid-items.ensures.value at c.loop-kid-test.true) (rw c.kid_slice-kid-items.ensures.value at (sym c.kid-item.is)) in
    omega (arith, smaller, c.decreases)

pub loop-kid-preserved : goal.loop-kid-preserved
loop-kid-preserved t c =
    let kids = c.kid_slice-kid-items.result.now in
    let i = c.loop-kid.kid-index in
    let k = c.kid-item.result in
    let taken : take (i + 1) kids ≡ take i kids ++ k ∷ [] = take_more kids i k c.loop-kid-test.true ∙ ap (λ x. take i kids ++ x ∷ []) (sym c.kid-item.is) in
    subst (λ ts. Counted (all_names (all_declared ts)) c.args.counts.now c.count_below.new.counts c.args.tables.now c.count_below.new.tables) (sym taken)
    (Counted-end (take i kids) k c.args.counts.now c.loop-kid.counts c.count_own.new.counts c.count_below.new.counts c.args.tables.now c.loop-kid.tables c.loop-kid.tables c.count_own.new.tables
    c.count_below.new.tables c.loop-kid.invariant (Keeps-same c.loop-kid.tables) c.in_ok-count_own.ensures c.in_ok-count_below.ensures.counted)

pub returns-clause-counted : goal.returns-clause-counted
returns-clause-counted t c =
    let kids = c.kid_slice-kid-items.result.now in
    let node = c.args.node.now in
    let h : is_routine_kind node.kind ≡ false = ap is_routine_kind (sym c.kind.ensures.value) ∙ sym c.is_routine.ensures ∙ c.if-is_routine.false in
    let all : take c.loop-kid.kid-index kids ≡ kids = take_all c.loop-kid.kid-index kids c.loop-kid-test.false in
    let is : declared_in node.kids ≡ all_declared (take c.loop-kid.kid-index kids) = all_declared-kids node ∙ sym (ap all_declared (all ∙ c.kid_slice-kid-items.ensures.value)) in
    subst (λ b. Counted (all_names (if b then [] else declared_in node.kids)) c.args.counts.now c.loop-kid.counts c.args.tables.now c.loop-kid.tables) (sym h)
    (subst (λ ds. Counted (all_names ds) c.args.counts.now c.loop-kid.counts c.args.tables.now c.loop-kid.tables) (sym is) c.loop-kid.invariant)
