use Rattle.std.proofs.Common.{◌+◌, ◌<◌, ◌≤◌, length, Some, None, ap, sym, ◌∙◌, arith}
use Rattle.std.specs.Option.{option_copied}
use Rattle.pc_syntax.specs.Plain.{forest_of}
use Rattle.pc_syntax.specs.PartsLaws.{forest_of-kids_of, small-kids}
use Rattle.pc_syntax.specs.WellFormed.{size_of}
use Rattle.pc_scope.proofs.Parts.{routines-by, kid-smaller, below-smaller, none-smaller}
use Rattle.pc_scope.proofs.headings.routines_in.Goals as goal

pub returns-in-Some-clause-value : goal.returns-in-Some-clause-value
returns-in-Some-clause-value c =
    ap forest_of c.kid_slice.ensures.value ∙ forest_of-kids_of c.in-Some.routines.now
    ∙ sym (routines-by c.args.block.now (Some c.in-Some.routines.now) (ap option_copied (sym c.in-Some.is) ∙ c.kid.ensures.value))

pub returns-in-Some-clause-smaller : goal.returns-in-Some-clause-smaller
returns-in-Some-clause-smaller c =
    let k : size_of c.in-Some.routines.now + 1 ≤ size_of c.args.block.now =
    kid-smaller c.args.block.now c.in-Some.routines.now 3 (sym c.kid.ensures.value ∙ ap option_copied c.in-Some.is) in
    omega (arith, k, below-smaller c.in-Some.routines.now c.kid_slice.result.now c.kid_slice.ensures.value)

pub returns-in-None-clause-value : goal.returns-in-None-clause-value
returns-in-None-clause-value c = sym (routines-by c.args.block.now None (ap option_copied (sym c.in-None.is) ∙ c.kid.ensures.value))

pub returns-in-None-clause-smaller : goal.returns-in-None-clause-smaller
returns-in-None-clause-smaller c = none-smaller c.args.block.now

pub returns-in-Some-clause-few : goal.returns-in-Some-clause-few
returns-in-Some-clause-few c = let few : length c.kid_slice.result.now < 1000000 = rw c.kid_slice.ensures.value (small-kids c.in-Some.routines.now c.kid_slice.ensures.proper) in omega arith
