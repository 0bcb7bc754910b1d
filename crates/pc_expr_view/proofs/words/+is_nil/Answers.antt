use Rattle.std.proofs.Common.{◌≤◌, ◌+◌, sym, ◌∙◌, arith}
use Rattle.pc_syntax.specs.WellFormed.{size_of}
use Rattle.pc_syntax.specs.PartsLaws.{size_of-kid}
use Rattle.pc_expr_view.proofs.Kids.{nil-none, nil-first}
use Rattle.pc_expr_view.proofs.words.+is_nil.Goals as goal

pub is_nil-requires : goal.is_nil-requires
is_nil-requires t c =
    let smaller : size_of c.first-item.result + 1 ≤ size_of c.args.node.now =
    size_of-kid c.args.node.now 0 c.first-item.result (rw c.kid_slice.ensures.value at c.in-len1-up.len_at_least) (rw c.kid_slice.ensures.value at (sym c.first-item.is)) in
    (omega (arith, smaller, c.decreases), tt)

pub returns-in-empty : goal.returns-in-empty
returns-in-empty t c =
    nil-none c.args.node.now c.kid_slice.result.now (sym c.kind.ensures.value ∙ c.in-Parens.is) c.kid_slice.ensures.value c.in-empty.len_below

pub returns-in-len1-up : goal.returns-in-len1-up
returns-in-len1-up t c =
    nil-first c.args.node.now c.kid_slice.result.now c.first-item.result c.is_nil.result (sym c.kind.ensures.value ∙ c.in-Parens.is) c.kid_slice.ensures.value
    c.in-len1-up.len_at_least c.first-item.is c.is_nil.ensures
