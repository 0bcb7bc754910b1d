use Rattle.std.proofs.Common.{◌+◌, arith, ap, refl}
use Rattle.std.proofs.lemmas.Option.{slice_get_within, get_or_from_slice_get}
use Rattle.pc_syntax.specs.Plain.{kids_of}
use Rattle.pc_syntax.specs.PartsLaws.{small-size}
use Rattle.pc_syntax.proofs.Changed.{size_of-kid-le}
use Rattle.pc_syntax.proofs.Outlines.{outline-with_kid, depth-with_kid}
use Rattle.pc_syntax.proofs.outline.Outline.with_kid.Goals as goal

pub overflow_add-result : goal.overflow_add-result
overflow_add-result c =
    let d = depth-with_kid c.args.tree.now c.args.i c.args.kid.now c.args.new.depth c.requires.is_kid c.requires.shallow in
    let e = rw c.kid_slice-2.ensures.value at c.deepest_with.ensures in
    omega (arith, d, e, c.kind-kind.ensures.proper.shallow)

pub overflow_sub-result : goal.overflow_sub-result
overflow_sub-result c =
    let p = c.args.tree.now in
    let k = c.args.kid.now in
    let l = slice_get_within (kids_of p) c.args.i k c.requires.is_kid in
    let is = get_or_from_slice_get (kids_of p) c.args.i k k c.requires.is_kid in
    omega (arith, size_of-kid-le p c.args.i k l k is)

pub overflow_add-result-2 : goal.overflow_add-result-2
overflow_add-result-2 c =
    let p = c.args.tree.now in
    let k = c.args.kid.now in
    let l = slice_get_within (kids_of p) c.args.i k c.requires.is_kid in
    let is = get_or_from_slice_get (kids_of p) c.args.i k k c.requires.is_kid in
    omega (arith, size_of-kid-le p c.args.i k l k is, small-size p c.kind-kind.ensures.proper, c.size.ensures.value, c.size-2.ensures.value)

pub returns-clause-outline : goal.returns-clause-outline
returns-clause-outline c q h =
    let so = c.is_last_open_with.ensures q h.is_open in
    rw c.kind-kind.ensures.value (outline-with_kid c.args.tree.now c.args.kid.now q c.args.i c.args.new c.requires.is_kid c.kind-kind.ensures.proper h _ _ _ _
    (rw c.kind-kind.ensures.value at c.fits_with.ensures)
    (rw (c.kind-kind.ensures.value, so, c.kid_slice.ensures.value) at c.opens.ensures)
    (ap (λ n. n + 1) (rw c.kid_slice-2.ensures.value at c.deepest_with.ensures))
    (rw (c.size.ensures.value, c.size-2.ensures.value) refl))

pub returns-clause-shallow : goal.returns-clause-shallow
returns-clause-shallow c =
    let d = depth-with_kid c.args.tree.now c.args.i c.args.kid.now c.args.new.depth c.requires.is_kid c.requires.shallow in
    let e = rw c.kid_slice-2.ensures.value at c.deepest_with.ensures in
    omega (arith, d, e)

pub returns-clause-small : goal.returns-clause-small
returns-clause-small c =
    let p = c.args.tree.now in
    let k = c.args.kid.now in
    let l = slice_get_within (kids_of p) c.args.i k c.requires.is_kid in
    let is = get_or_from_slice_get (kids_of p) c.args.i k k c.requires.is_kid in
    omega (arith, size_of-kid-le p c.args.i k l k is)
