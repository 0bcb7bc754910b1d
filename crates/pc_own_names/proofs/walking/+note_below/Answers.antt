use Rattle.std.proofs.Common.{◌≡◌, ◌≤◌, ◌+◌, ◌++◌, ◌∷◌, [], true, false, take, sym, ap, ◌∙◌, subst, if◌then◌else◌, arith}
use Rattle.std.proofs.lemmas.List.{take_more, take_all}
use Rattle.pc_syntax.specs.WellFormed.{size_of}
use Rattle.pc_syntax.specs.PartsLaws.{size_of-kid}
use Rattle.pc_scope.specs.Headings.{is_routine_kind}
use Rattle.pc_own_names.specs.Noting.{Notes}
use Rattle.pc_own_names.specs.NotingLaws.{Notes-none, Notes-then}
use Rattle.pc_own_names.specs.Walking.{all_of_kind, own_names, in_trees, below_node, at_node, at_nodes}
use Rattle.pc_own_names.specs.WalkingLaws.{at_nodes-end, at_nodes-kids}
use Rattle.pc_own_names.proofs.walking.+note_below.Goals as goal

pub returns-then-is_routine : goal.returns-then-is_routine
returns-then-is_routine t c =
    let node = c.args.node.now in
    let texts = c.args.names.now.texts in
    let found = c.args.found.now.items in
    let h : is_routine_kind node.kind ≡ true = ap is_routine_kind (sym c.kind.ensures.value) ∙ sym c.is_routine.ensures ∙ c.if-is_routine.true in
    subst (λ b. Notes (if b then [] else in_trees node.kids) texts texts found found) (sym h) (Notes-none texts found)

pub note_below-requires : goal.note_below-requires
note_below-requires t c =
    let smaller : size_of c.kid-item.result + 1 ≤ size_of c.args.node.now =
    size_of-kid c.args.node.now c.loop-kid.kid-index c.kid-item.result (rw c.kid_slice-kid-items.ensures.value at c.loop-kid-test.true) (rw c.kid_slice-kid-items.ensures.value at (sym c.kid-item.is)) in
    (omega (arith, smaller, c.decreases), tt)

pub loop-kid-preserved : goal.loop-kid-preserved
loop-kid-preserved t c =
    let kids = c.kid_slice-kid-items.result.now in
    let i = c.loop-kid.kid-index in
    let k = c.kid-item.result in
    let first = c.args.names.now.texts in
    let was = c.args.found.now.items in
    let last = c.note_below.new.names.texts in
    let now = c.note_below.new.found.items in
    let here =
    Notes-then (all_of_kind k.kind (own_names k.kind k.kids)) (below_node k) c.loop-kid.names.texts c.note_own.new.names.texts last c.loop-kid.found.items c.note_own.new.found.items now
    c.in_ok-note_own.ensures c.in_ok-note_below.ensures in
    let taken : take (i + 1) kids ≡ take i kids ++ k ∷ [] = take_more kids i k c.loop-kid-test.true ∙ ap (λ x. take i kids ++ x ∷ []) (sym c.kid-item.is) in
    subst (λ es. Notes es first last was now) (sym (ap at_nodes taken ∙ at_nodes-end (take i kids) k))
    (Notes-then (at_nodes (take i kids)) (at_node k) first c.loop-kid.names.texts last was c.loop-kid.found.items now c.loop-kid.invariant here)

pub returns : goal.returns
returns t c =
    let kids = c.kid_slice-kid-items.result.now in
    let node = c.args.node.now in
    let h : is_routine_kind node.kind ≡ false = ap is_routine_kind (sym c.kind.ensures.value) ∙ sym c.is_routine.ensures ∙ c.if-is_routine.false in
    let all : take c.loop-kid.kid-index kids ≡ kids = take_all c.loop-kid.kid-index kids c.loop-kid-test.false in
    let is : in_trees node.kids ≡ at_nodes (take c.loop-kid.kid-index kids) = at_nodes-kids node ∙ sym (ap at_nodes (all ∙ c.kid_slice-kid-items.ensures.value)) in
    subst (λ b. Notes (if b then [] else in_trees node.kids) c.args.names.now.texts c.loop-kid.names.texts c.args.found.now.items c.loop-kid.found.items) (sym h)
    (subst (λ es. Notes es c.args.names.now.texts c.loop-kid.names.texts c.args.found.now.items c.loop-kid.found.items) (sym is) c.loop-kid.invariant)
