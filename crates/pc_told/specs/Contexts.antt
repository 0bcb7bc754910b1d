-- What the code knows of where kids stand, and when that gives them the roles of the rules.
use Rattle.std.specs.Prelude.{◌≡◌, ℕ, ◌==◌, ◌-◌, Bool, true, false, if◌then◌else◌, List, [], ◌∷◌, Option, Some, None, slice_get}
use Rattle.pc_syntax.specs.declared.kind.Kind.{Kind}
use Rattle.pc_syntax.specs.declared.kind.Kind.TheVariants as kind
use Rattle.pc_rules.specs.Meanings.{Found}
use Rattle.pc_scope.specs.declared.builtin.Builtin.{Builtin}
use Rattle.pc_scope.specs.declared.builtin.Builtin.TheVariants as builtin
use Rattle.pc_names.specs.declared.name_class.NameClass.{NameClass}
use Rattle.pc_names.specs.declared.name_class.NameClass.TheVariants as class
use Rattle.pc_facts.specs.declared.sighting.Formal.{Formal}
use Rattle.pc_facts.specs.declared.sighting.Sighting.{Sighting}
use Rattle.pc_facts.specs.declared.sighting.Sighting.TheVariants as sighting
use Rattle.pc_facts.specs.declared.sighting.SignatureId.{SignatureId}
use Rattle.pc_facts.specs.declared.sighting.Signature.{Signature}
use Rattle.pc_decl.specs.Roles as roles
use Rattle.pc_told.specs.Told.{Above}
use Rattle.pc_told.specs.declared.roles.Context.{Context}
use Rattle.pc_told.specs.declared.roles.Role.{Role}
use Rattle.pc_told.specs.declared.roles.Role.TheVariants as role
use Rattle.pc_told.specs.declared.roles.Wanted.{Wanted}
use Rattle.pc_told.specs.declared.roles.Wanted.TheVariants as wanted

-- a role, in the words of the rules
abbrev pub meant_role : Role → roles.Role
meant_role role.Value = roles.AsValue
meant_role role.Variable = roles.AsVariable
meant_role role.Target = roles.AsTarget

-- whether the i-th of these, counted from 1, is a variable parameter
abbrev pub is_variable : List Formal → ℕ → Bool
is_variable [] i = false
is_variable (f ∷ fs) i = if i == 1 then f.by_place else is_variable fs (i - 1)

-- the formal parameters of a signature, if there is one
abbrev pub formals_in : Option Signature → List Formal
formals_in None = []
formals_in (Some s) = s.formals.items

-- the role of the i-th argument where this is wanted of arguments
abbrev pub argument_by : List Signature → Wanted → ℕ → roles.Role
argument_by ss wanted.Values i = roles.AsValue
argument_by ss wanted.Variables i = roles.AsVariable
argument_by ss (wanted.Parameters d) i = if is_variable (formals_in (slice_get ss d.0)) i then roles.AsVariable else roles.AsValue

-- the role of kid i of a node of this kind, below one that wants this of its arguments
abbrev pub role_by : List Signature → Kind → Wanted → ℕ → roles.Role
role_by ss kind.Assign w i = if i == 1 then roles.AsTarget else roles.AsValue
role_by ss kind.Index w i = roles.AsVariable
role_by ss kind.Select w i = roles.AsVariable
role_by ss kind.Deref w i = roles.AsVariable
role_by ss kind.Accesses w i = roles.AsVariable
role_by ss kind.Args w i = argument_by ss w i
role_by ss kind.Exprs w i = argument_by ss w i
role_by ss k w i = roles.AsValue

-- what is wanted of the arguments of a node of this kind whose name means this
abbrev pub ShowsWanted : List Signature → Wanted → Kind → Found → Type 0
ShowsWanted ss w k f = (i : ℕ) → argument_by ss w i ≡ roles.argument_role k i f

-- kids stand there
pub record ShowsContext (ss : List Signature) (c : Context) (h : Above) : Type 0 where
  pub kind : c.kind ≡ h.kind
  pub outer : c.outer ≡ h.outer
  pub wanted : ShowsWanted ss c.wanted h.outer h.found

-- ---- what names want of the arguments that stand behind them

-- whether a node of this kind has arguments behind a name
abbrev pub is_call : Kind → Bool
is_call kind.Call = true
is_call kind.Proc = true
is_call k = false

-- what a signature wants, if there is one
abbrev pub signature_wants : Option SignatureId → Wanted
signature_wants None = wanted.Values
signature_wants (Some d) = wanted.Parameters d

-- what a declared name wants that a call begins with
abbrev pub function_wants : NameClass → Option SignatureId → Wanted
function_wants class.Function d = signature_wants d
function_wants c d = wanted.Values

-- the same of a procedure statement
abbrev pub procedure_wants : NameClass → Option SignatureId → Wanted
procedure_wants class.Procedure d = signature_wants d
procedure_wants c d = wanted.Values

-- what a required procedure wants
abbrev pub required_wants : Builtin → Wanted
required_wants builtin.Read = wanted.Variables
required_wants builtin.Readln = wanted.Variables
required_wants builtin.New = wanted.Variables
required_wants b = wanted.Values

-- what a node of this kind wants whose name was met as this
abbrev pub wanted_of_name : Kind → Sighting → Wanted
wanted_of_name kind.Call (sighting.Here d) = function_wants d.class d.signature
wanted_of_name kind.Proc (sighting.Here d) = procedure_wants d.class d.signature
wanted_of_name kind.Proc (sighting.Required b) = required_wants b
wanted_of_name k s = wanted.Values
