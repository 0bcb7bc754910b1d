-- What a kind of node does to the names of its block: one row for each kind, in place of the rules.
use Rattle.std.proofs.Common.{Bool, List, None, Option, Some, [], ap, bytes_eq, codes, false, get_or, if◌then◌else◌, map, refl, suc, true, ℕ, ◌++◌, ◌∙◌, ◌∷◌, ◌≡◌}
use Rattle.pc_rules.specs.Attributes.{Attributes, Marked, Node, kids_below, missing, nodes}
use Rattle.pc_rules.specs.HandedOn.{all_defines}
use Rattle.pc_rules.specs.DeclaringNames.{names_in}
use Rattle.pc_rules.specs.RequiredFunctions.{call_by, end_test, function_of_one, required_call}
use Rattle.pc_rules.specs.Arguments.{declared_call, declared_procedure}
use Rattle.pc_rules.specs.RequiredProcedures.{procedure_by, required_procedure}
use Rattle.pc_rules.specs.DeclaringNames.{all_as, declares}
use Rattle.pc_rules.specs.Places.{behind, entered, pass, pass_all, past_routine}
use Rattle.pc_rules.specs.ClosedTypes.{close_types}
use Rattle.pc_rules.specs.Declarations.{is_later_declaration, rest_of}
use Rattle.pc_rules.specs.Decorated.{Seen, rule}
use Rattle.pc_rules.specs.Denoters.{elements}
use Rattle.pc_rules.specs.Variables.{is_end_test}
use Rattle.pc_rules.specs.Meanings.{Class, Component, ConstantName, ElementName, Found, FunctionName, Here, Later, Local, Meaning, Missing, ProcedureName, ReferenceName, Required, TypeName, ValueName, VariableName, declared_as, define_all}
use Rattle.pc_rules.specs.OwnBlock.{all_of_class, declared_by, named_of_class}
use Rattle.pc_scope.specs.Declarations.{Declared, declared_by_node, name_at, names_below}
use Rattle.pc_scope.specs.Headings.{first_name, headings_in, is_routine_kind, names_of_first}
use Rattle.pc_scope.specs.Required.{is_required_function, is_required_procedure}
use Rattle.pc_syntax.specs.Plain.{Forest}
use Rattle.pc_syntax.specs.Sorts.{is_hole}
use Rattle.pc_syntax.specs.Words.{lowered}
use Rattle.pc_syntax.specs.declared.kind.Kind.{Kind}
use Rattle.pc_types.specs.Shapes.{Owner, Shape}
use Rattle.pc_syntax.specs.declared.kind.Kind.TheVariants as kind

-- the roles: nothing, a hole, handing on what a list of kids, one kid or two kids declare, the list of types, of routines, of parameters; and the
-- declarations
pub data Role : Type 0 where
  Quiet : Role
  Gap : Role
  Gathers : Role
  GathersOne : Role
  GathersTwo : Role
  TypePart : Role
  RoutinePart : Role
  ParameterPart : Role
  DefinesConstant : Role
  DefinesType : Role
  DeclaresVariables : Role
  ListsElements : Role
  DeclaresRoutine : Class → Role
  DeclaresParameters : Class → Role

abbrev pub role : Kind → Role
role (kind.Hole s) = Gap
role kind.Tname = GathersOne
role kind.Subrange = GathersTwo
role kind.Array = GathersTwo
role kind.Record = GathersOne
role kind.Record0 = Quiet
role kind.Setof = GathersOne
role kind.Packed = GathersOne
role kind.Pointer = GathersOne
role kind.Indexes = Gathers
role kind.Fields = Gathers
role kind.Field = GathersTwo
role kind.Consts = Gathers
role kind.Vars = Gathers
role kind.Types = TypePart
role kind.Routines = RoutinePart
role kind.Params = ParameterPart
role kind.Constdef = DefinesConstant
role kind.Typedef = DefinesType
role kind.Vardef = DeclaresVariables
role kind.Enum = ListsElements
role kind.Procedure = DeclaresRoutine ProcedureName
role kind.Function = DeclaresRoutine FunctionName
role kind.Funbody = DeclaresRoutine FunctionName
role kind.Valparam = DeclaresParameters ValueName
role kind.Varparam = DeclaresParameters ReferenceName
role _ = Quiet

-- names with what they were declared as
abbrev pub keys : List (List ℕ × Meaning) → List (List ℕ × Class)
keys ds = map (λ (d : List ℕ × Meaning). (d.0, d.1.class)) ds

-- the first node of a row, and the second
abbrev pub first_node : Marked → Node
first_node m = get_or (nodes m) 0 missing

abbrev pub second_node : Marked → Node
second_node m = get_or (nodes m) 1 missing

-- a name with its class; a hole is none
abbrev pub one : Class → Node → List (List ℕ × Class)
one c a = if is_hole a.kind then [] else (lowered a.word, c) ∷ []

-- what a node declares, by its role and what is found below
abbrev pub defines_by : Role → Local → Marked → List (List ℕ × Class)
defines_by Quiet l m = []
defines_by Gap l m = []
defines_by Gathers l m = keys (all_defines (nodes m))
defines_by GathersOne l m = keys (all_defines (first_node m ∷ []))
defines_by GathersTwo l m = keys (all_defines (first_node m ∷ second_node m ∷ []))
defines_by TypePart l m = keys (all_defines (nodes m))
defines_by RoutinePart l m = keys (all_defines (nodes m))
defines_by ParameterPart l m = keys (all_defines (nodes m))
defines_by DefinesConstant l m = one ConstantName (first_node m)
defines_by DefinesType l m = one TypeName (first_node m) ++ keys (second_node m).defines
defines_by DeclaresVariables l m = all_of_class VariableName (names_in (kids_below (first_node m))) ++ keys (second_node m).defines
defines_by ListsElements l m = all_of_class ElementName (names_in (kids_below (first_node m)))
defines_by (DeclaresRoutine c) l m = if is_later_declaration l then [] else one c (first_node m)
defines_by (DeclaresParameters c) l m = all_of_class c (names_in (kids_below (first_node m)))

-- where its first kid stands
abbrev pub entered_by : Role → Local → Forest → Local
entered_by DefinesConstant l ks = pass l (first_name ks)
entered_by DefinesType l ks = pass l (first_name ks)
entered_by DeclaresVariables l ks = define_all l (all_as (declared_as VariableName l.owner) (names_of_first ks))
entered_by RoutinePart l ks = record l { ahead = headings_in ks; waiting = [] }
entered_by _ l ks = l

-- what stands behind it
abbrev pub behind_by : Role → Local → List (List ℕ × Meaning) → Local
behind_by TypePart l ds = close_types (define_all l ds)
behind_by (DeclaresRoutine c) l ds = past_routine (define_all l ds)
behind_by Gap l ds = record l { ahead = rest_of l.ahead }
behind_by (DeclaresParameters c) l ds = pass_all l ds
behind_by ParameterPart l ds = pass_all l ds
behind_by _ l ds = define_all l ds

-- the declarations by its own names, with their places
abbrev pub places_by : Role → List ℕ → Forest → List Declared
places_by DefinesConstant q ks = name_at (Some q) q ks
places_by DefinesType q ks = name_at (Some q) q ks
places_by DeclaresVariables q ks = names_below q ks
places_by ListsElements q ks = names_below q ks
places_by (DeclaresRoutine c) q ks = name_at None q ks
places_by (DeclaresParameters c) q ks = names_below q ks
places_by _ q ks = []

-- its own names, with their classes; parameters aside
abbrev pub names_by : Role → Forest → List (List ℕ × Class)
names_by DefinesConstant ks = named_of_class ConstantName (first_name ks)
names_by DefinesType ks = named_of_class TypeName (first_name ks)
names_by DeclaresVariables ks = all_of_class VariableName (names_of_first ks)
names_by ListsElements ks = all_of_class ElementName (names_of_first ks)
names_by (DeclaresRoutine c) ks = named_of_class c (first_name ks)
names_by _ ks = []

abbrev pub class_by : Role → Class
class_by DefinesConstant = ConstantName
class_by DefinesType = TypeName
class_by ListsElements = ElementName
class_by (DeclaresRoutine c) = c
class_by (DeclaresParameters c) = c
class_by _ = VariableName

abbrev pub is_routine_role : Role → Bool
is_routine_role (DeclaresRoutine c) = true
is_routine_role _ = false

-- ---- the rows are right

pub entered-role : (l : Local) (k : Kind) (ks : Forest) → entered l k ks ≡ entered_by (role k) l ks
entered-role l (kind.Hole s) ks = refl
entered-role l _ ks = refl

pub behind-role : (l : Local) (k : Kind) (a : Attributes) → behind l k a ≡ behind_by (role k) l a.defines
behind-role l (kind.Hole s) a = refl
behind-role l _ a = refl

pub places-role : (k : Kind) (q : List ℕ) (ks : Forest) → declared_by_node k q ks ≡ places_by (role k) q ks
places-role (kind.Hole s) q ks = refl
places-role _ q ks = refl

pub names-role : (k : Kind) (ks : Forest) → declared_by k ks ≡ names_by (role k) ks
names-role (kind.Hole s) ks = refl
names-role _ ks = refl

pub routine-role : (k : Kind) → is_routine_kind k ≡ is_routine_role (role k)
routine-role (kind.Hole s) = refl
routine-role _ = refl

-- the keys of some lists
pub keys-append : (xs ys : List (List ℕ × Meaning)) → keys (xs ++ ys) ≡ keys xs ++ keys ys
keys-append [] ys = refl
keys-append (x ∷ xs) ys = ap (λ zs. (x.0, x.1.class) ∷ zs) (keys-append xs ys)

pub keys-declares : (a : Node) (m : Meaning) → keys (declares a m) ≡ one m.class a
keys-declares a m = by (is_hole a.kind) where
  by : (b : Bool) → keys (if b then [] else (lowered a.word, m) ∷ []) ≡ (if b then [] else (lowered a.word, m.class) ∷ [])
  by true = refl
  by false = refl

pub keys-routine : (b : Bool) (a : Node) (m : Meaning) → keys (if b then [] else declares a m) ≡ (if b then [] else one m.class a)
keys-routine true a m = refl
keys-routine false a m = keys-declares a m

pub keys-all_as : (m : Meaning) (ns : List (List ℕ)) → keys (all_as m ns) ≡ all_of_class m.class ns
keys-all_as m [] = refl
keys-all_as m (n ∷ ns) = ap (λ zs. (n, m.class) ∷ zs) (keys-all_as m ns)

pub keys-elements : (o : Owner) (t : Option Shape) (i : ℕ) (ns : List (List ℕ)) → keys (elements o t i ns) ≡ all_of_class ElementName ns
keys-elements o t i [] = refl
keys-elements o t i (n ∷ ns) = ap (λ zs. (n, ElementName) ∷ zs) (keys-elements o t (suc i) ns)

-- a node that declares nothing, whatever it calls
if-defines : (b : Bool) (x y : Attributes) → x.defines ≡ [] → y.defines ≡ [] → (if b then x else y).defines ≡ []
if-defines true x y e f = e
if-defines false x y e f = f

call-defines : (f : Found) (name args : Node) → (call_by f name args).defines ≡ []
call-defines (Required n) name args =
    if-defines (is_required_function n) (required_call n name args) (declared_call name args) (if-defines (is_end_test n) (end_test name args) (function_of_one n name args) refl refl) refl
call-defines (Here m) name args = refl
call-defines (Later c) name args = refl
call-defines (Component t p) name args = refl
call-defines Missing name args = refl

procedure-defines : (f : Found) (name args : Node) → (procedure_by f name args).defines ≡ []
procedure-defines (Required n) name args =
    if-defines (is_required_procedure n) (required_procedure n name args) (declared_procedure name args)
    (if-defines (bytes_eq n (codes "read")) _ _ refl
    (if-defines (bytes_eq n (codes "readln")) _ _ refl
    (if-defines (bytes_eq n (codes "write")) _ _ refl (if-defines (bytes_eq n (codes "writeln")) _ _ refl (if-defines (bytes_eq n (codes "new")) _ _ refl refl)))))
    refl
procedure-defines (Here m) name args = refl
procedure-defines (Later c) name args = refl
procedure-defines (Component t p) name args = refl
procedure-defines Missing name args = refl

-- what the rule of a node says that it declares: of all that a rule says, this alone is used here
pub defines-role : (l : Local) (k : Kind) (w : List ℕ) (s : Seen) (m : Marked) → keys (rule l k w s m).defines ≡ defines_by (role k) l m
unfolding rule
defines-role l kind.Constdef w s m = keys-declares (first_node m) _
defines-role l kind.Typedef w s m = keys-append (declares (first_node m) _) (second_node m).defines ∙ ap (λ zs. zs ++ keys (second_node m).defines) (keys-declares (first_node m) _)
defines-role l kind.Vardef w s m =
    keys-append (all_as _ (names_in (kids_below (first_node m)))) (second_node m).defines ∙ ap (λ zs. zs ++ keys (second_node m).defines) (keys-all_as _ (names_in (kids_below (first_node m))))
defines-role l kind.Enum w s m = keys-elements l.owner _ 0 (names_in (kids_below (first_node m)))
defines-role l kind.Valparam w s m = keys-all_as _ (names_in (kids_below (first_node m)))
defines-role l kind.Varparam w s m = keys-all_as _ (names_in (kids_below (first_node m)))
defines-role l kind.Procedure w s m = keys-routine (is_later_declaration l) (first_node m) _
defines-role l kind.Function w s m = keys-routine (is_later_declaration l) (first_node m) _
defines-role l kind.Funbody w s m = keys-routine (is_later_declaration l) (first_node m) _
defines-role l kind.Call w s m = ap keys (call-defines (first_node m).found (first_node m) (second_node m))
defines-role l kind.Proc w s m = ap keys (procedure-defines (first_node m).found (first_node m) (second_node m))
defines-role l _ w s m = refl
