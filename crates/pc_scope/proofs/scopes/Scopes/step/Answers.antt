use Rattle.std.proofs.Common.{ℕ, Bool, Some, None, subst}
use Rattle.std.specs.Prelude.{Option, if◌then◌else◌}
use Rattle.pc_scope.specs.Around.{inner_block}
use Rattle.pc_scope.specs.Lookup.{entered}
use Rattle.pc_scope.specs.Stands.{Both, StandsForBlock}
use Rattle.pc_scope.proofs.Regions.{enters-by}
use Rattle.pc_scope.proofs.scopes.Scopes.step.Goals as goal

pub returns-then-has_number : goal.returns-then-has_number
returns-then-has_number c = λ b stands.
    let P : Option ℕ → Type 0 = λ o. Both (StandsForBlock c.args.self.now.regions.items) o (inner_block b c.args.i) in
    let Q : Bool → Type 0 = λ n. Both (StandsForBlock c.args.self.now.regions.items) (if n then Some c.in-Some.inner else None) (entered b 4 c.args.i c.args.k) in
    subst Q c.if-has_number.true
    (enters-by c.args.self.now.regions.items c.args.k c.in-Some.inner (inner_block b c.args.i) (subst P c.in-Some.is (c.inner_region.ensures b stands)) c.has_number.result c.has_number.ensures)

pub returns-else-has_number : goal.returns-else-has_number
returns-else-has_number c = λ b stands.
    let P : Option ℕ → Type 0 = λ o. Both (StandsForBlock c.args.self.now.regions.items) o (inner_block b c.args.i) in
    let Q : Bool → Type 0 = λ n. Both (StandsForBlock c.args.self.now.regions.items) (if n then Some c.in-Some.inner else None) (entered b 4 c.args.i c.args.k) in
    subst Q c.if-has_number.false
    (enters-by c.args.self.now.regions.items c.args.k c.in-Some.inner (inner_block b c.args.i) (subst P c.in-Some.is (c.inner_region.ensures b stands)) c.has_number.result c.has_number.ensures)
