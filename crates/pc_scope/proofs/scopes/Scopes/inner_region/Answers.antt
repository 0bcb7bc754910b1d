use Rattle.std.proofs.Common.{◌≡◌, Some}
use Rattle.std.specs.Prelude.{slice_get}
use Rattle.pc_scope.proofs.Regions.{got, got-none, region-of, no-region}
use Rattle.pc_scope.proofs.scopes.Scopes.inner_region.Goals as goal

pub returns-in-Some : goal.returns-in-Some
returns-in-Some c = λ b stands.
    let is : slice_get c.args.self.now.regions.items c.args.region ≡ Some c.in-Some.region.now =
    got c.args.self.now.regions.items c.deref.result.now c.args.region c.in-Some.region.now c.deref.ensures.value c.in-Some.ensures.lookup.0 c.in-Some.ensures.lookup.1 in
    let g = region-of c.args.self.now.regions.items c.args.region b stands c.in-Some.region.now is in
    rw c.inner.ensures (g.inner c.args.i)

pub returns-in-None : goal.returns-in-None
returns-in-None c = λ b stands.
    absurd (no-region c.args.self.now.regions.items c.args.region b stands (got-none c.args.self.now.regions.items c.deref.result.now c.args.region c.deref.ensures.value c.in-None.ensures.lookup.0))
