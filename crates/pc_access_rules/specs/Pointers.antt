-- What pointers lead to, by the one table of types.
use Rattle.std.specs.Prelude.{◌≡◌, ℕ, List, Option, Some, None}
use Rattle.std.specs.Option.{option_and_then}
use Rattle.pc_types.specs.Domains.{domain_in}
use Rattle.pc_types.specs.Shapes.{Owner, Definition, Shape, PointerType, Typed}
use Rattle.pc_types.specs.Table.{Table, domain_at, place_at}
use Rattle.pc_types.specs.declared.form.DomainId.{DomainId}

-- what each domain is, by its block and its name, where it has neither an error nor a hole
abbrev pub Targets : Type 0
Targets = Owner → List ℕ → Option Shape

-- what pointers of this type lead to by the targets, if it is a pointer type of a denoter
abbrev pub target_in : Targets → Shape → Option Shape
target_in targets (PointerType d o n) = targets o n
target_in targets _ = None

-- the same of a type that may be unknown
abbrev pub target_of : Targets → Option Shape → Option Shape
target_of targets t = option_and_then (target_in targets) t

-- what a pointer of this type leads to by the type's own domains, it leads to by the targets
abbrev pub LeadsTo : Targets → Option Typed → Type 0
LeadsTo targets None = Unit {0}
LeadsTo targets (Some t) = (d : Definition) (o : Owner) (n : List ℕ) → t.shape ≡ PointerType d o n → domain_in t.domains o n ≡ targets o n

-- the targets have at the place of each domain of a table that domain's shape, and none at the place that numbers without a domain have
abbrev pub AreTold : Targets → Table → Type 0
AreTold targets t = (x : DomainId) → targets (place_at t x).owner (place_at t x).name ≡ (domain_at t x).shape
