use Rattle.std.proofs.Common.{◌≡◌, ◌<◌, true, Some, sym, ◌∙◌, length}
use Rattle.pc_syntax.specs.Plain.{kids_of}
use Rattle.pc_syntax.specs.Slots.{is_list, least_of, class_from}
use Rattle.pc_syntax.proofs.Fewer.{shrinks-proper, shrinks-without_kid, proper-written_anew}
use Rattle.pc_syntax.proofs.tree.Tree.cut_kid.Goals as goal

pub without_kid-requires-clause-proper : goal.without_kid-requires-clause-proper
without_kid-requires-clause-proper c =
    let p = c.args.self.now in
    let proper = c.kind-kind.ensures.proper in
    let list : is_list p.kind ≡ true = rw c.kind-kind.ensures.value at (sym c.slots-slots.ensures.list ∙ c.if-slots.true) in
    let count : c.slots-slots.result.count ≡ least_of p.kind = rw (c.kind-kind.ensures.value, list) at c.slots-slots.ensures.count in
    let spare : least_of p.kind < length (kids_of p) = rw (count, c.kid_slice.ensures.value) at c.if-slots-kid_slice.true in
    shrinks-proper _ p (shrinks-without_kid p c.args.i c.requires list spare proper.sound) proper

pub with_kid-requires-clause-proper : goal.with_kid-requires-clause-proper
with_kid-requires-clause-proper c =
    let p = c.args.self.now in
    let class : class_from p.kind c.args.i ≡ Some c.in-Some.class = rw c.kind-kind.ensures.value at (sym c.in-Some.ensures) in
    rw c.in_ok-new-in-Some.ensures (proper-written_anew p c.args.i c.in-Some.class c.requires c.kind-kind.ensures.proper class)
