-- Names that are noted one after the other, of equal ones the first alone.
use Rattle.std.specs.Prelude.{◌≡◌, ℕ, if◌then◌else◌, List, [], ◌∷◌, ◌++◌, map}
use Rattle.std.specs.Option.{is_some}
use Rattle.pc_syntax.specs.declared.kind.Kind.{Kind}
use Rattle.pc_names.specs.Numbers.{number_of, with_name}
use Rattle.pc_own_names.specs.declared.own_name.DeclaredName.{DeclaredName}

-- those of these names that have no number among the names that stand before
abbrev pub new_among : List (List ℕ) → List (List ℕ × Kind) → List (List ℕ × Kind)
new_among ms [] = []
new_among ms (e ∷ es) = if is_some (number_of ms e.0) then new_among ms es else e ∷ new_among (with_name ms e.0) es

-- the names with these among them
abbrev pub with_names : List (List ℕ) → List (List ℕ × Kind) → List (List ℕ)
with_names ms [] = ms
with_names ms (e ∷ es) = with_names (with_name ms e.0) es

-- a name with a kind, as it is kept
abbrev pub kept : List ℕ × Kind → DeclaredName
kept e = record { name = e.0; kind = e.1 }

-- these names are noted: each has a number from now on, and those that had none are kept behind what was kept
pub record Notes (es : List (List ℕ × Kind)) (old new : List (List ℕ)) (was now : List DeclaredName) : Type 0 where
  pub texts : new ≡ with_names old es
  pub found : now ≡ was ++ map kept (new_among old es)
