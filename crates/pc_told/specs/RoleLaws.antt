-- The roles that the code finds are those of the rules: lemmas.
use Rattle.std.specs.Prelude.{◌≡◌, ℕ, ◌+◌, ◌-◌, ◌==◌, Bool, false, if◌then◌else◌, List, [], ◌∷◌, Option, Some, None, slice_get, zero, suc}
use Rattle.std.specs.Option.{option_map_or}
use Rattle.std.proofs.Common.{refl, ap, sym, ◌∙◌, subst, arith}
use Rattle.std.proofs.lemmas.Bool.Decides.{nat_tests}
use Rattle.pc_syntax.specs.declared.kind.Kind.{Kind}
use Rattle.pc_syntax.specs.declared.kind.Kind.TheVariants as kind
use Rattle.pc_scope.specs.Spelled.{spelling}
use Rattle.pc_scope.specs.declared.builtin.Builtin.{Builtin}
use Rattle.pc_scope.specs.declared.builtin.Builtin.TheVariants as builtin
use Rattle.pc_names.specs.Standing.{meant}
use Rattle.pc_names.specs.declared.name_class.NameClass.{NameClass}
use Rattle.pc_names.specs.declared.name_class.NameClass.TheVariants as class
use Rattle.pc_rules.specs.Meanings as rules
use Rattle.pc_facts.specs.Known.{Known}
use Rattle.pc_facts.specs.Shows.{ShowsFormals, ShowsFound, ShowsSignatures}
use Rattle.pc_facts.specs.declared.sighting.Formal.{Formal}
use Rattle.pc_facts.specs.declared.sighting.Sighting.{Sighting}
use Rattle.pc_facts.specs.declared.sighting.Sighting.TheVariants as sighting
use Rattle.pc_facts.specs.declared.sighting.Signature.{Signature}
use Rattle.pc_facts.specs.declared.sighting.SignatureId.{SignatureId}
use Rattle.pc_decl.specs.Roles as roles
use Rattle.pc_told.specs.Contexts.{is_variable, formals_in, argument_by, role_by, ShowsWanted, ShowsContext, signature_wants, function_wants, procedure_wants, required_wants, wanted_of_name}
use Rattle.pc_told.specs.Told.{Above, role_under, role_of}
use Rattle.pc_told.specs.declared.roles.Context.{Context}
use Rattle.pc_told.specs.declared.roles.Wanted.{Wanted}
use Rattle.pc_told.specs.declared.roles.Wanted.TheVariants as wanted

-- ---- parameters

-- whether a parameter is a variable parameter, by how many stand before it
pub variable_at : (fs : List Formal) (i : ℕ) → is_variable fs (i + 1) ≡ option_map_or (λ (f : Formal). f.by_place) (slice_get fs i) false
variable_at [] i = refl
variable_at (f ∷ fs) zero = refl
variable_at (f ∷ fs) (suc i) =
    let other : (suc i + 1 == 1) ≡ false = grind (arith, nat_tests) in
    let back : suc i + 1 - 1 ≡ i + 1 = omega arith in
    ap (λ (b : Bool). if b then f.by_place else is_variable fs (suc i + 1 - 1)) other ∙ ap (is_variable fs) back ∙ variable_at fs i

formals-alike : (k : Known) (fs : List Formal) (gs : List rules.Formal) (i : ℕ) → ShowsFormals k fs gs → is_variable fs i ≡ roles.is_reference gs i
formals-alike k [] [] i h = refl
formals-alike k (f ∷ fs) (g ∷ gs) i h =
    ap (λ (b : Bool). if i == 1 then b else is_variable fs (i - 1)) h.1 ∙ ap (λ (b : Bool). if i == 1 then g.by_place else b) (formals-alike k fs gs (i - 1) h.4)
formals-alike k [] (g ∷ gs) i h = absurd h
formals-alike k (f ∷ fs) [] i h = absurd h

-- the formal parameters of a signature of the rules
abbrev formals_of : Option rules.Signature → List rules.Formal
formals_of None = []
formals_of (Some s) = s.formals

signature-wants : (k : Known) (d : Option SignatureId) (r : Option rules.Signature) (i : ℕ) → ShowsSignatures k d r →
    argument_by k.signatures (signature_wants d) i ≡ (if roles.is_reference (formals_of r) i then roles.AsVariable else roles.AsValue)
signature-wants k None None i h = refl
signature-wants k (Some d) (Some r) i h =
    let found : formals_in (slice_get k.signatures d.0) ≡ h.0.formals.items = ap formals_in h.1 in
    ap (λ (b : Bool). if b then roles.AsVariable else roles.AsValue) (ap (λ (fs : List Formal). is_variable fs i) found ∙ formals-alike k h.0.formals.items r.formals i h.2.formals)
signature-wants k None (Some r) i h = absurd h
signature-wants k (Some d) None i h = absurd h

-- ---- names

called-function : (r : Option rules.Signature) → roles.parameters_called kind.Call rules.FunctionName r ≡ formals_of r
called-function None = refl
called-function (Some s) = refl

called-procedure : (r : Option rules.Signature) → roles.parameters_called kind.Proc rules.ProcedureName r ≡ formals_of r
called-procedure None = refl
called-procedure (Some s) = refl

function-class : (k : Known) (c : NameClass) (x : rules.Class) (d : Option SignatureId) (r : Option rules.Signature) (i : ℕ) → meant c ≡ x → ShowsSignatures k d r →
    argument_by k.signatures (function_wants c d) i ≡ (if roles.is_reference (roles.parameters_called kind.Call x r) i then roles.AsVariable else roles.AsValue)
function-class k c x d r i e h =
    subst (λ (y : rules.Class). argument_by k.signatures (function_wants c d) i ≡ (if roles.is_reference (roles.parameters_called kind.Call y r) i then roles.AsVariable else roles.AsValue)) e (at c)
  where
    at : (c : NameClass) → argument_by k.signatures (function_wants c d) i ≡ (if roles.is_reference (roles.parameters_called kind.Call (meant c) r) i then roles.AsVariable else roles.AsValue)
    at class.Function = signature-wants k d r i h ∙ ap (λ (gs : List rules.Formal). if roles.is_reference gs i then roles.AsVariable else roles.AsValue) (sym (called-function r))
    at c = refl

procedure-class : (k : Known) (c : NameClass) (x : rules.Class) (d : Option SignatureId) (r : Option rules.Signature) (i : ℕ) → meant c ≡ x → ShowsSignatures k d r →
    argument_by k.signatures (procedure_wants c d) i ≡ (if roles.is_reference (roles.parameters_called kind.Proc x r) i then roles.AsVariable else roles.AsValue)
procedure-class k c x d r i e h =
    subst (λ (y : rules.Class). argument_by k.signatures (procedure_wants c d) i ≡ (if roles.is_reference (roles.parameters_called kind.Proc y r) i then roles.AsVariable else roles.AsValue)) e (at c)
  where
    at : (c : NameClass) → argument_by k.signatures (procedure_wants c d) i ≡ (if roles.is_reference (roles.parameters_called kind.Proc (meant c) r) i then roles.AsVariable else roles.AsValue)
    at class.Procedure = signature-wants k d r i h ∙ ap (λ (gs : List rules.Formal). if roles.is_reference gs i then roles.AsVariable else roles.AsValue) (sym (called-procedure r))
    at c = refl

required-wants : (ss : List Signature) (b : Builtin) (i : ℕ) → argument_by ss (required_wants b) i ≡ roles.argument_role kind.Proc i (rules.Required (spelling b))
required-wants ss builtin.Read i = refl
required-wants ss builtin.Readln i = refl
required-wants ss builtin.New i = refl
required-wants ss b i = refl

-- what a call wants whose name means this
pub call-wants : (k : Known) (n : List ℕ) (s : Sighting) (f : rules.Found) → ShowsFound k n s f → ShowsWanted k.signatures (wanted_of_name kind.Call s) kind.Call f
call-wants k n (sighting.Here d) (rules.Here m) h = λ i. function-class k d.class m.class d.signature m.signature i h.class h.signature
call-wants k n (sighting.Later c) (rules.Later x) h = λ i. refl
call-wants k n (sighting.Component o p) (rules.Component t q) h = λ i. refl
call-wants k n (sighting.Required b) (rules.Required r) h = λ i. refl
call-wants k n sighting.Missing rules.Missing h = λ i. refl
call-wants k n s f h = absurd h

-- the same of a procedure statement
pub procedure-wants : (k : Known) (n : List ℕ) (s : Sighting) (f : rules.Found) → ShowsFound k n s f → ShowsWanted k.signatures (wanted_of_name kind.Proc s) kind.Proc f
procedure-wants k n (sighting.Here d) (rules.Here m) h = λ i. procedure-class k d.class m.class d.signature m.signature i h.class h.signature
procedure-wants k n (sighting.Later c) (rules.Later x) h = λ i. refl
procedure-wants k n (sighting.Component o p) (rules.Component t q) h = λ i. refl
procedure-wants k n (sighting.Required b) (rules.Required r) h = λ i. required-wants k.signatures b i ∙ ap (λ (w : List ℕ). roles.argument_role kind.Proc i (rules.Required w)) h
procedure-wants k n sighting.Missing rules.Missing h = λ i. refl
procedure-wants k n s f h = absurd h

-- any other node wants values
pub other-wants : (ss : List Signature) (k : Kind) (f : rules.Found) → (k ≡ kind.Call → ⊥) → (k ≡ kind.Proc → ⊥) → ShowsWanted ss wanted.Values k f
other-wants ss kind.Call f first second = absurd (first refl)
other-wants ss kind.Proc f first second = absurd (second refl)
other-wants ss k (rules.Here m) first second = λ i. refl
other-wants ss k (rules.Required n) first second = λ i. refl
other-wants ss k f first second = λ i. refl

-- ---- roles

role-under : (ss : List Signature) (k outer : Kind) (w : Wanted) (f : rules.Found) (i : ℕ) → ShowsWanted ss w outer f → role_by ss k w i ≡ role_under k outer f i
role-under ss kind.Args outer w f i h = h i
role-under ss kind.Exprs outer w f i h = h i
role-under ss k outer w f i h = refl

-- the role of a kid where the kids stand so
pub role-is : (ss : List Signature) (c : Context) (h : Above) (i : ℕ) → ShowsContext ss c h → role_by ss c.kind c.wanted i ≡ role_of h i
role-is ss c h i shown = ap (λ (k : Kind). role_by ss k c.wanted i) shown.kind ∙ role-under ss h.kind h.outer c.wanted h.found i shown.wanted
