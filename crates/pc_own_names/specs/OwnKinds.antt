-- The names that a routine declares, each with the kind of the node that declares it.
use Rattle.std.specs.Prelude.{◌≡◌, ℕ, if◌then◌else◌, List, [], ◌∷◌}
use Rattle.std.specs.Option.{is_some}
use Rattle.pc_syntax.specs.declared.kind.Kind.{Kind}
use Rattle.pc_syntax.specs.Plain.{Plain}
use Rattle.pc_syntax.specs.Words.{is_among}
use Rattle.pc_scope.specs.Declarations.{Declared}
use Rattle.pc_names.specs.Numbers.{number_of}
use Rattle.pc_rules.specs.Routines.{Routine}
use Rattle.pc_decl.specs.Declared.{given_names}
use Rattle.pc_decl_laws.specs.Kinds.{routine_kinds}
use Rattle.pc_own_names.specs.declared.own_name.DeclaredName.{DeclaredName}

-- these names without those that stand before, and of equal ones the first alone
abbrev pub first_kinds : List (List ℕ) → List (Declared × Kind) → List (Declared × Kind)
first_kinds before [] = []
first_kinds before (x ∷ xs) = if is_among before x.0.name then first_kinds before xs else x ∷ first_kinds (x.0.name ∷ before) xs

-- the names that a routine declares in its heading and its own block, in text order, of equal ones the first alone
abbrev pub own_kinds : Plain → Routine → List (Declared × Kind)
own_kinds t r = first_kinds (given_names r) (routine_kinds t r)

-- a name with a kind is this declaration
pub record IsDeclared (x : DeclaredName) (d : Declared × Kind) : Type 0 where
  pub name : x.name ≡ d.0.name
  pub kind : x.kind ≡ d.1

-- so are all, in their order
abbrev pub AreDeclared : List DeclaredName → List (Declared × Kind) → Type 0
AreDeclared [] [] = Unit {0}
AreDeclared (x ∷ xs) (d ∷ ds) = IsDeclared x d × AreDeclared xs ds
AreDeclared _ _ = ⊥

-- the same names have a number as are among these
abbrev pub HasSame : List (List ℕ) → List (List ℕ) → Type 0
HasSame numbered names = (n : List ℕ) → is_some (number_of numbered n) ≡ is_among names n
