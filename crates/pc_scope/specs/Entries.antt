-- What the names that code gathers stand for.
use Rattle.std.specs.Prelude.{◌≡◌, ℕ, ◌-◌, Bool, true, false, if◌then◌else◌, List, [], ◌∷◌, ◌++◌, length, Option, Some, None, map, take}
use Rattle.pc_syntax.specs.declared.kind.Kind.{Kind}
use Rattle.pc_syntax.specs.declared.kind.Kind.TheVariants as kind
use Rattle.pc_syntax.specs.Plain.{Plain}
use Rattle.pc_syntax.specs.Sorts.{is_hole}
use Rattle.pc_syntax.specs.Words.{lowered}
use Rattle.pc_scope.specs.Declarations.{Declared, declared_by_node, declared_at}
use Rattle.pc_scope.specs.Headings.{is_routine_kind}
use Rattle.pc_scope.specs.declared.named.Named.{Named}

-- the place of the node above
abbrev pub above : List ℕ → List ℕ
above place = take (length place - 1) place

-- the constant or type definition that a name stands in directly, if it is one's name
abbrev pub definition_of : Bool → List ℕ → Option (List ℕ)
definition_of is_definition place = if is_definition then Some (above place) else None

-- a declaration
abbrev pub declared_of : Named → Declared
declared_of n = record { name = n.name; place = n.place; definition = definition_of n.is_definition n.place }

-- declarations
abbrev pub all_declared : List Named → List Declared
all_declared ns = map declared_of ns

-- what a name at a place declares; a hole declares nothing
abbrev pub declared_by_name : Option (List ℕ) → List ℕ → Plain → List Declared
declared_by_name d place t = if is_hole t.kind then [] else record { name = lowered t.word; place = place; definition = d } ∷ []

-- what a node at a place declares, with all below it; what stands inside a routine aside
abbrev pub declared_by : List ℕ → Plain → List Declared
declared_by q t = declared_by_node t.kind q t.kids ++ (if is_routine_kind t.kind then [] else declared_at q 1 t.kids)

-- whether a node of this kind declares names of its own
abbrev pub is_declarer : Kind → Bool
is_declarer kind.Constdef = true
is_declarer kind.Typedef = true
is_declarer kind.Vardef = true
is_declarer kind.Enum = true
is_declarer kind.Valparam = true
is_declarer kind.Varparam = true
is_declarer k = is_routine_kind k

-- nothing is declared by the node or below it, wherever it stands
abbrev pub IsSilent : Plain → Type 0
IsSilent t = (q : List ℕ) → declared_by q t ≡ []

-- nothing is declared below the node, wherever it stands
abbrev pub IsSilentBelow : Plain → Type 0
IsSilentBelow t = (q : List ℕ) → declared_at q 1 t.kids ≡ []

-- whether a node of this kind is a list of parameters
abbrev pub is_parameters : Kind → Bool
is_parameters kind.Params = true
is_parameters k = false
