-- The type of an expression: how it is judged depends on where it stands.
use Rattle.std.specs.Prelude.{ℕ, Bool, false, ◌==◌, ◌-◌, if◌then◌else◌, List, [], ◌∷◌, ◌++◌, Option, Some, codes}
use Rattle.std.specs.Option.{option_and_then, option_map_or}
use Rattle.pc_syntax.specs.declared.kind.Kind.{Kind}
use Rattle.pc_syntax.specs.Words.{is_among}
use Rattle.pc_types.specs.Shapes.{Typed}
use Rattle.pc_rules.specs.Meanings.{Class, ProcedureName, FunctionName, Formal, Signature, Found, Here, Required, Missing}
use Rattle.pc_rules.specs.Attributes.{Judged, Attributes}
use Rattle.pc_decl.specs.Nodes.{above, kid_number, kind_at}
use Rattle.pc_decl.specs.Annotated.{Annotated}
use Rattle.pc_decl.specs.Found.{attributes_at}
use Rattle.pc_syntax.specs.declared.kind.Kind.TheVariants as kind

-- an expression is wanted for its value, as a variable, or as the target of an assignment, where a function's name may stand
pub data Role : Type 0 where
  AsValue : Role
  AsVariable : Role
  AsTarget : Role

-- the judgement of an expression in a role
abbrev pub judged_as : Role → Attributes → Judged
judged_as AsValue a = a.as_value
judged_as AsVariable a = a.as_place
judged_as AsTarget a = a.as_target

-- whether the i-th of these is a var parameter
abbrev pub is_reference : List Formal → ℕ → Bool
is_reference [] i = false
is_reference (f ∷ fs) i = if i == 1 then f.by_place else is_reference fs (i - 1)

-- the parameters of a routine that is called: a statement calls procedures, an expression functions
abbrev pub parameters_called : Kind → Class → Option Signature → List Formal
parameters_called kind.Proc ProcedureName (Some s) = s.formals
parameters_called kind.Call FunctionName (Some s) = s.formals
parameters_called k c s = []

-- whether a required procedure needs variables (ISO 7185, 6.6.5.3, 6.9.1, 6.9.2)
abbrev pub needs_variables : Kind → List ℕ → Bool
needs_variables kind.Proc n = is_among (codes "read" ∷ codes "readln" ∷ codes "new" ∷ []) n
needs_variables k n = false

-- the role of the i-th argument of a node of this kind, whose name means this
abbrev pub argument_role : Kind → ℕ → Found → Role
argument_role k i (Here m) = if is_reference (parameters_called k m.class m.signature) i then AsVariable else AsValue
argument_role k i (Required n) = if needs_variables k n then AsVariable else AsValue
argument_role k i f = AsValue

-- what the name that is the first kid of the node at a place means
abbrev pub name_found : Annotated → List ℕ → Found
name_found p q = option_map_or (λ (a : Attributes). a.found) (attributes_at p (q ++ 1 ∷ [])) Missing

-- the role of kid i of the node at a place, whose kind is given
abbrev pub role_below : Annotated → List ℕ → ℕ → Kind → Role
role_below p q i kind.Assign = if i == 1 then AsTarget else AsValue
role_below p q i kind.Index = AsVariable
role_below p q i kind.Select = AsVariable
role_below p q i kind.Deref = AsVariable
role_below p q i kind.Accesses = AsVariable
role_below p q i kind.Args = argument_role (kind_at p.tree (above q)) i (name_found p (above q))
role_below p q i kind.Exprs = argument_role (kind_at p.tree (above q)) i (name_found p (above q))
role_below p q i k = AsValue

-- the role of the expression at a place
abbrev pub role_at : Annotated → List ℕ → Role
role_at p q = role_below p (above q) (kid_number q) (kind_at p.tree (above q))

-- the type of the expression at a place; none where it has none
unfoldable pub expression_type : Annotated → List ℕ → Option Typed
expression_type p q = option_and_then (λ (a : Attributes). (judged_as (role_at p q) a).type) (attributes_at p q)
