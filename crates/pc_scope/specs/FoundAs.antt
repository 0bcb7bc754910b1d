-- What an answer of a look-up says.
use Rattle.std.specs.Prelude.{◌≡◌, ℕ, List, true, Option, Some}
use Rattle.std.specs.Str.{bytes_eq}
use Rattle.pc_scope.specs.Declarations.{Meant, HereAt, LaterAt, RequiredAt, MissingAt}
use Rattle.pc_scope.specs.Lookup.{Declaration}
use Rattle.pc_scope.specs.Spelled.{spelling}
use Rattle.pc_scope.specs.declared.decl.Decl.{Decl}
use Rattle.pc_scope.specs.declared.found.Found.{Found}
use Rattle.pc_scope.specs.declared.found.Found.TheVariants.{Here, Later, Required, Missing}

-- what the name means
abbrev pub meant_by : Found → Meant
meant_by (Here d) = HereAt d.now.place
meant_by (Later d) = LaterAt d.now.place
meant_by (Required b) = RequiredAt
meant_by Missing = MissingAt

-- the declaration has this owner and name
abbrev pub IsDeclared : Decl → Option Declaration → Type 0
IsDeclared d o = (x : Declaration) × (o ≡ Some x) × (d.owner ≡ x.owner) × (d.name ≡ x.declared.name) × (d.place ≡ x.declared.place)

-- the answer holds this declaration, or this required name
abbrev pub Holds : Found → List ℕ → Option Declaration → Type 0
Holds (Here d) n o = IsDeclared d.now o
Holds (Later d) n o = IsDeclared d.now o
Holds (Required b) n o = bytes_eq (spelling b) n ≡ true
Holds Missing n o = Unit
