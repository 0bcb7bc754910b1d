use Rattle.std.proofs.Common.{◌<◌, length, ap, sym, subst, arith}
use Rattle.pc_names.specs.Chains.{IsNested}
use Rattle.pc_names.proofs.ChainSteps.{length-chains_of, IsNested-end, below-begun}
use Rattle.pc_names.proofs.blocks.Blocks.begin.Goals as goal

pub returns-in_err-number-clause-below : goal.returns-in_err-number-clause-below
returns-in_err-number-clause-below c = below-begun c.self.inside.arounds.items c.self.invariant c.args.self.now c.self.view_is c.args.around c.requires

pub returns-in_err-push-clause-below : goal.returns-in_err-push-clause-below
returns-in_err-push-clause-below c = below-begun c.self.inside.arounds.items c.self.invariant c.args.self.now c.self.view_is c.args.around c.requires

pub invariant_of-self-2 : goal.invariant_of-self-2
invariant_of-self-2 c =
    subst IsNested (sym c.in_ok-push.ensures.items)
    (IsNested-end c.self.inside.arounds.items c.self.invariant c.args.around
    (λ a is. let less : a < length c.args.self.now = c.requires a is in omega (arith, length-chains_of c.self.inside.arounds.items, ap length c.self.view_is)))

pub returns-clause-number : goal.returns-clause-number
returns-clause-number c = omega (arith, length-chains_of c.self.inside.arounds.items, ap length c.self.view_is)

pub returns-clause-below : goal.returns-clause-below
returns-clause-below c = below-begun c.self.inside.arounds.items c.self.invariant c.args.self.now c.self.view_is c.args.around c.requires
