-- Kinds of nodes below which nothing is declared in the block, and those of their kids (ISO 7185, 6.2.1): lemmas.
use Rattle.std.proofs.Common.{◌≡◌, ℕ, Bool, true, false, ◌&&◌, List, [], ◌∷◌, refl, if◌then◌else◌}
use Rattle.pc_syntax.specs.Classes.{has}
use Rattle.pc_syntax.specs.Plain.{Forest}
use Rattle.pc_syntax.specs.Slots.{places_of}
use Rattle.pc_syntax.specs.declared.class.Class.{Class}
use Rattle.pc_syntax.specs.declared.class.Class.TheVariants as class
use Rattle.pc_syntax.specs.declared.kind.Kind.{Kind}
use Rattle.pc_syntax.specs.declared.kind.Kind.TheVariants as kind
use Rattle.pc_scope.specs.Headings.{is_routine_kind}
use Rattle.pc_environment.specs.Sight.{is_body}
use Rattle.pc_rules.specs.Meanings as meanings
use Rattle.pc_rules.specs.OwnBlock.{declared_by}
use Rattle.pc_openings.specs.Declaring.{may_declare_below}

-- the classes whose nodes are such as stand in a statement part, constants and names among them
abbrev pub is_still_class : Class → Bool
is_still_class class.Constant = true
is_still_class class.Bare = true
is_still_class class.Statement = true
is_still_class class.Body = true
is_still_class class.Arm = true
is_still_class class.Argument = true
is_still_class class.Member = true
is_still_class class.Operand = true
is_still_class class.Expression = true
is_still_class class.Simple = true
is_still_class class.Term = true
is_still_class class.Factor = true
is_still_class class.Access = true
is_still_class class.Name = true
is_still_class class.Args = true
is_still_class class.Labels = true
is_still_class class.Exprs = true
is_still_class class.Accesses = true
is_still_class class.Members = true
is_still_class class.Stmts = true
is_still_class class.Arms = true
is_still_class _ = false

-- a node of such a class is one of a statement part, or a constant or a name
pub class-still : (c : Class) (k : Kind) → is_still_class c ≡ true → has c k ≡ true → is_body k ≡ true
class-still c kind.Cnumber b e = refl
class-still c kind.Cstring b e = refl
class-still c kind.Cname b e = refl
class-still c kind.Csign b e = refl
class-still c kind.Empty b e = refl
class-still c kind.Assign b e = refl
class-still c kind.Proc b e = refl
class-still c kind.Compound b e = refl
class-still c kind.If b e = refl
class-still c kind.Ifelse b e = refl
class-still c kind.Case b e = refl
class-still c kind.Arm b e = refl
class-still c kind.Repeat b e = refl
class-still c kind.While b e = refl
class-still c kind.For b e = refl
class-still c kind.With b e = refl
class-still c kind.Ref b e = refl
class-still c kind.Index b e = refl
class-still c kind.Select b e = refl
class-still c kind.Deref b e = refl
class-still c kind.Number b e = refl
class-still c kind.Text b e = refl
class-still c kind.Nil b e = refl
class-still c kind.Call b e = refl
class-still c kind.Parens b e = refl
class-still c kind.Not b e = refl
class-still c kind.Setcon b e = refl
class-still c kind.Mul b e = refl
class-still c kind.Add b e = refl
class-still c kind.Sign b e = refl
class-still c kind.Rel b e = refl
class-still c kind.Width b e = refl
class-still c kind.Span b e = refl
class-still c kind.Name b e = refl
class-still c kind.Args b e = refl
class-still c kind.Labels b e = refl
class-still c kind.Exprs b e = refl
class-still c kind.Accesses b e = refl
class-still c kind.Members b e = refl
class-still c kind.Stmts b e = refl
class-still c kind.Arms b e = refl
class-still c (kind.Hole s) b e = refl
class-still class.Constant k b e = cc
class-still class.Bare k b e = cc
class-still class.Statement k b e = cc
class-still class.Body k b e = cc
class-still class.Arm k b e = cc
class-still class.Argument k b e = cc
class-still class.Member k b e = cc
class-still class.Operand k b e = cc
class-still class.Expression k b e = cc
class-still class.Simple k b e = cc
class-still class.Term k b e = cc
class-still class.Factor k b e = cc
class-still class.Access k b e = cc
class-still class.Name k b e = cc
class-still class.Args k b e = cc
class-still class.Labels k b e = cc
class-still class.Exprs k b e = cc
class-still class.Accesses k b e = cc
class-still class.Members k b e = cc
class-still class.Stmts k b e = cc
class-still class.Arms k b e = cc
class-still c k b e = cc

-- the same of all of these classes
abbrev pub all_still : List Class → Bool
all_still [] = true
all_still (c ∷ cs) = is_still_class c && all_still cs

-- the classes of the kids of a node of a statement part
pub places-still-body : (k : Kind) → is_body k ≡ true → all_still (places_of k) ≡ true
places-still-body kind.Cnumber e = refl
places-still-body kind.Cstring e = refl
places-still-body kind.Cname e = refl
places-still-body kind.Csign e = refl
places-still-body kind.Empty e = refl
places-still-body kind.Assign e = refl
places-still-body kind.Proc e = refl
places-still-body kind.Compound e = refl
places-still-body kind.If e = refl
places-still-body kind.Ifelse e = refl
places-still-body kind.Case e = refl
places-still-body kind.Arm e = refl
places-still-body kind.Repeat e = refl
places-still-body kind.While e = refl
places-still-body kind.For e = refl
places-still-body kind.With e = refl
places-still-body kind.Ref e = refl
places-still-body kind.Index e = refl
places-still-body kind.Select e = refl
places-still-body kind.Deref e = refl
places-still-body kind.Number e = refl
places-still-body kind.Text e = refl
places-still-body kind.Nil e = refl
places-still-body kind.Call e = refl
places-still-body kind.Parens e = refl
places-still-body kind.Not e = refl
places-still-body kind.Setcon e = refl
places-still-body kind.Mul e = refl
places-still-body kind.Add e = refl
places-still-body kind.Sign e = refl
places-still-body kind.Rel e = refl
places-still-body kind.Width e = refl
places-still-body kind.Span e = refl
places-still-body kind.Name e = refl
places-still-body kind.Args e = refl
places-still-body kind.Labels e = refl
places-still-body kind.Exprs e = refl
places-still-body kind.Accesses e = refl
places-still-body kind.Members e = refl
places-still-body kind.Stmts e = refl
places-still-body kind.Arms e = refl
places-still-body (kind.Hole s) e = refl
places-still-body k e = cc

-- the classes of the kids of a node below which nothing is declared
pub places-still : (k : Kind) → may_declare_below k ≡ false → is_routine_kind k ≡ false → all_still (places_of k) ≡ true
places-still kind.Program e r = cc
places-still kind.Block e r = cc
places-still kind.Typedef e r = cc
places-still kind.Vardef e r = cc
places-still kind.Field e r = cc
places-still kind.Valparam e r = cc
places-still kind.Varparam e r = cc
places-still kind.Enum e r = cc
places-still kind.Array e r = cc
places-still kind.Record e r = cc
places-still kind.Setof e r = cc
places-still kind.Packed e r = cc
places-still kind.Params e r = cc
places-still kind.Indexes e r = cc
places-still kind.Consts e r = cc
places-still kind.Types e r = cc
places-still kind.Vars e r = cc
places-still kind.Routines e r = cc
places-still kind.Fields e r = cc
places-still kind.Procedure e r = cc
places-still kind.Function e r = cc
places-still kind.Funbody e r = cc
places-still k e r = refl

-- a node of a statement part declares nothing itself
pub still-declares : (k : Kind) (ks : Forest) → is_body k ≡ true → declared_by k ks ≡ []
still-declares kind.Constdef ks e = cc
still-declares kind.Typedef ks e = cc
still-declares kind.Vardef ks e = cc
still-declares kind.Enum ks e = cc
still-declares kind.Procedure ks e = cc
still-declares kind.Function ks e = cc
still-declares kind.Funbody ks e = cc
still-declares k ks e = refl

-- a routine is none of the kinds below which something may be declared
pub no-routine : (k : Kind) (xs : List (List ℕ × meanings.Class)) → may_declare_below k ≡ true → (if is_routine_kind k then [] else xs) ≡ xs
no-routine kind.Procedure xs e = cc
no-routine kind.Function xs e = cc
no-routine kind.Funbody xs e = cc
no-routine k xs e = refl
