use Rattle.std.proofs.Common.{◌≡◌, ◌++◌, List, IfOk, subst}
use Rattle.pc_scope.specs.Declarations.{Declared}
use Rattle.pc_scope.specs.Entries.{all_declared}
use Rattle.pc_scope.proofs.InOrder.{own-none, first-kid, own-definition, own-routine, own-names}
use Rattle.pc_scope.proofs.naming.add_own.Goals as goal

pub returns-in_default : goal.returns-in_default
returns-in_default c = own-none c.args.at.now c.args.tree.now c.kid_slice.result.now _ c.kid_slice.ensures.value c.in_default.len_below

pub returns-in-Constdef : goal.returns-in-Constdef
returns-in-Constdef c =
    let P : List Declared → Type 0 = λ ds. IfOk c.add_name.result (λ _. all_declared c.add_name.new.into.items ≡ all_declared c.args.into.now.items ++ ds) in
    subst P
    (own-definition c.args.at.now c.args.tree.now c.first-item.result _
    (first-kid c.args.tree.now c.kid_slice.result.now c.first-item.result c.kid_slice.ensures.value c.in-len1-up.len_at_least c.first-item.is)
    (rw c.kind.ensures.value at c.in-Constdef.is))
    (rw c.in_ok-place.ensures at c.add_name.ensures)

pub returns-in-Procedure : goal.returns-in-Procedure
returns-in-Procedure c =
    let P : List Declared → Type 0 = λ ds. IfOk c.add_name-in-Procedure.result (λ _. all_declared c.add_name-in-Procedure.new.into.items ≡ all_declared c.args.into.now.items ++ ds) in
    subst P
    (own-routine c.args.at.now c.args.tree.now c.first-item.result _
    (first-kid c.args.tree.now c.kid_slice.result.now c.first-item.result c.kid_slice.ensures.value c.in-len1-up.len_at_least c.first-item.is)
    (rw c.kind.ensures.value at c.in-Procedure.is))
    (rw c.in_ok-place.ensures at c.add_name-in-Procedure.ensures)

pub returns-in-Vardef : goal.returns-in-Vardef
returns-in-Vardef c =
    let P : List Declared → Type 0 = λ ds. IfOk c.add_names.result (λ _. all_declared c.add_names.new.into.items ≡ all_declared c.args.into.now.items ++ ds) in
    subst P
    (own-names c.args.at.now c.args.tree.now c.first-item.result _
    (first-kid c.args.tree.now c.kid_slice.result.now c.first-item.result c.kid_slice.ensures.value c.in-len1-up.len_at_least c.first-item.is)
    (rw c.kind.ensures.value at c.in-Vardef.is))
    (rw c.in_ok-place.ensures at c.add_names.ensures)
