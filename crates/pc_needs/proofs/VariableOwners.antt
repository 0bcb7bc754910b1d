-- The variables that the nodes of a block touch: whose they may be (ISO 7185, 6.2.2).
use Rattle.std.specs.Prelude.{ℕ, zero, suc, ◌≡◌, Bool, true, false, if◌then◌else◌, List, [], ◌∷◌, get_or, codes, Option, ◌++◌}
use Rattle.std.proofs.Common.{refl}
use Rattle.pc_syntax.specs.declared.kind.Kind.{Kind}
use Rattle.pc_syntax.specs.declared.kind.Kind.TheVariants as kind
use Rattle.pc_syntax.specs.Sorts.{is_hole}
use Rattle.pc_syntax.specs.Words.{lowered}
use Rattle.pc_scope.specs.Required.{is_required_function, is_required_procedure}
use Rattle.pc_forms.specs.Form.{form_from}
use Rattle.pc_forms.specs.FormKids.{kids_in}
use Rattle.pc_forms.specs.FormMap.{FormOf}
use Rattle.pc_forms.specs.declared.form.Form.TheVariants as form
use Rattle.pc_types.specs.Shapes.{Owner, Shape}
use Rattle.pc_rules.specs.Arguments.{tail, head, is_by_place, passed_by_place, formals_of, function_signature, procedure_signature, declared_procedure, declared_call}
use Rattle.pc_rules.specs.Attributes.{Entry, Attributes, Marked, Done, Mark, Node, nodes, missing, kids_below}
use Rattle.pc_rules.specs.Declarations.{is_later_declaration}
use Rattle.pc_rules.specs.DeclaringNames.{names_in, all_as}
use Rattle.pc_rules.specs.Decorated.{Seen, rule_of, rule}
use Rattle.pc_rules.specs.Denoters.{elements}
use Rattle.pc_rules.specs.HandedOn.{all_touches, all_defines}
use Rattle.pc_rules.specs.Meanings.{Formal, Meaning, Found, Here, Later, Component, Required, Missing, Local}
use Rattle.pc_rules.specs.NameClasses.{is_own_variable}
use Rattle.pc_rules.specs.RequiredFunctions.{call_by, required_call, has_file, end_test, function_of_one}
use Rattle.pc_rules.specs.RequiredProcedures.{read_variables, behind_file, procedure_by, required_procedure, input_procedure, output_procedure, pointer_procedure, new_entries, dispose_entries}
use Rattle.pc_rules.specs.Variables.{is_end_test, variable_of}
use Rattle.pc_needs.proofs.Lists.{Each, each-append}

-- a variable of a variable declaration part has an owner of which something holds
abbrev pub OfMeaning : (Owner → Type 0) → Meaning → Type 0
OfMeaning P m = is_own_variable m.class ≡ true → P m.owner

-- the same of what a name means
abbrev pub OfFound : (Owner → Type 0) → Found → Type 0
OfFound P (Here m) = OfMeaning P m
OfFound P f = Unit {0}

-- of variables, and of declarations
abbrev pub OfVariables : (Owner → Type 0) → List (Owner × List ℕ) → Type 0
OfVariables P vs = Each (λ (v : Owner × List ℕ). P v.0) vs

abbrev pub OfDefines : (Owner → Type 0) → List (List ℕ × Meaning) → Type 0
OfDefines P ds = Each (λ (d : List ℕ × Meaning). OfMeaning P d.1) ds

-- of what is found at a node: what it means, what it touches, which variable it is, what it declares
abbrev pub OfNodeItself : (Owner → Type 0) → Attributes → Type 0
OfNodeItself P a = OfFound P a.found × OfVariables P a.touches × OfVariables P a.variable × OfDefines P a.defines

-- of all nodes
abbrev pub OfMarked : (Owner → Type 0) → Marked → Type 0
OfMarked P Done = Unit {0}
OfMarked P (Mark a below rest) = OfNodeItself P a × OfMarked P below × OfMarked P rest

-- of a node and all below it
abbrev pub OfNode : (Owner → Type 0) → Node → Type 0
OfNode P n = OfNodeItself P n.at × OfMarked P n.below

-- of the trees of a row
pub of-nodes : (P : Owner → Type 0) (m : Marked) → OfMarked P m → Each (OfNode P) (nodes m)
of-nodes P Done h = tt
of-nodes P (Mark a below rest) h = ((h.0, h.1), of-nodes P rest h.2)

-- of one of some kids
pub at : (P : Owner → Type 0) (ns : List Node) (i : ℕ) → Each (OfNode P) ns → OfNode P (get_or ns i missing)
at P [] i h = ((tt, tt, tt, tt), tt)
at P (n ∷ ns) zero h = h.0
at P (n ∷ ns) (suc i) h = at P ns i h.1

-- of the kids of a form
kids-of-form : (P : Owner → Type 0) (k : Kind) (w : List ℕ) (ns : List Node) → Each (OfNode P) ns → Each (OfNode P) (kids_in (form_from k w ns missing))
kids-of-form P kind.Program w ns h = (at P ns 0 h, (at P ns 1 h, (at P ns 2 h, tt)))
kids-of-form P kind.Block w ns h = (at P ns 0 h, (at P ns 1 h, (at P ns 2 h, (at P ns 3 h, (at P ns 4 h, tt)))))
kids-of-form P kind.Forward w ns h = tt
kids-of-form P kind.Constdef w ns h = (at P ns 0 h, (at P ns 1 h, tt))
kids-of-form P kind.Typedef w ns h = (at P ns 0 h, (at P ns 1 h, tt))
kids-of-form P kind.Vardef w ns h = (at P ns 0 h, (at P ns 1 h, tt))
kids-of-form P kind.Field w ns h = (at P ns 0 h, (at P ns 1 h, tt))
kids-of-form P kind.Valparam w ns h = (at P ns 0 h, (at P ns 1 h, tt))
kids-of-form P kind.Varparam w ns h = (at P ns 0 h, (at P ns 1 h, tt))
kids-of-form P kind.Procedure w ns h = (at P ns 0 h, (at P ns 1 h, (at P ns 2 h, tt)))
kids-of-form P kind.Function w ns h = (at P ns 0 h, (at P ns 1 h, (at P ns 2 h, (at P ns 3 h, tt))))
kids-of-form P kind.Funbody w ns h = (at P ns 0 h, (at P ns 1 h, tt))
kids-of-form P kind.Tname w ns h = (at P ns 0 h, tt)
kids-of-form P kind.Enum w ns h = (at P ns 0 h, tt)
kids-of-form P kind.Subrange w ns h = (at P ns 0 h, (at P ns 1 h, tt))
kids-of-form P kind.Array w ns h = (at P ns 0 h, (at P ns 1 h, tt))
kids-of-form P kind.Record w ns h = (at P ns 0 h, tt)
kids-of-form P kind.Record0 w ns h = tt
kids-of-form P kind.Setof w ns h = (at P ns 0 h, tt)
kids-of-form P kind.Packed w ns h = (at P ns 0 h, tt)
kids-of-form P kind.Pointer w ns h = (at P ns 0 h, tt)
kids-of-form P kind.Cnumber w ns h = tt
kids-of-form P kind.Cstring w ns h = tt
kids-of-form P kind.Cname w ns h = (at P ns 0 h, tt)
kids-of-form P kind.Csign w ns h = (at P ns 0 h, tt)
kids-of-form P kind.Empty w ns h = tt
kids-of-form P kind.Assign w ns h = (at P ns 0 h, (at P ns 1 h, tt))
kids-of-form P kind.Proc w ns h = (at P ns 0 h, (at P ns 1 h, tt))
kids-of-form P kind.Compound w ns h = (at P ns 0 h, tt)
kids-of-form P kind.If w ns h = (at P ns 0 h, (at P ns 1 h, tt))
kids-of-form P kind.Ifelse w ns h = (at P ns 0 h, (at P ns 1 h, (at P ns 2 h, tt)))
kids-of-form P kind.Case w ns h = (at P ns 0 h, (at P ns 1 h, tt))
kids-of-form P kind.Arm w ns h = (at P ns 0 h, (at P ns 1 h, tt))
kids-of-form P kind.Repeat w ns h = (at P ns 0 h, (at P ns 1 h, tt))
kids-of-form P kind.While w ns h = (at P ns 0 h, (at P ns 1 h, tt))
kids-of-form P kind.For w ns h = (at P ns 0 h, (at P ns 1 h, (at P ns 2 h, (at P ns 3 h, tt))))
kids-of-form P kind.With w ns h = (at P ns 0 h, (at P ns 1 h, tt))
kids-of-form P kind.Ref w ns h = (at P ns 0 h, tt)
kids-of-form P kind.Index w ns h = (at P ns 0 h, (at P ns 1 h, tt))
kids-of-form P kind.Select w ns h = (at P ns 0 h, (at P ns 1 h, tt))
kids-of-form P kind.Deref w ns h = (at P ns 0 h, tt)
kids-of-form P kind.Number w ns h = tt
kids-of-form P kind.Text w ns h = tt
kids-of-form P kind.Nil w ns h = tt
kids-of-form P kind.Call w ns h = (at P ns 0 h, (at P ns 1 h, tt))
kids-of-form P kind.Parens w ns h = (at P ns 0 h, tt)
kids-of-form P kind.Not w ns h = (at P ns 0 h, tt)
kids-of-form P kind.Setcon w ns h = (at P ns 0 h, tt)
kids-of-form P kind.Mul w ns h = (at P ns 0 h, (at P ns 1 h, tt))
kids-of-form P kind.Add w ns h = (at P ns 0 h, (at P ns 1 h, tt))
kids-of-form P kind.Sign w ns h = (at P ns 0 h, tt)
kids-of-form P kind.Rel w ns h = (at P ns 0 h, (at P ns 1 h, tt))
kids-of-form P kind.Width w ns h = (at P ns 0 h, (at P ns 1 h, tt))
kids-of-form P kind.Span w ns h = (at P ns 0 h, (at P ns 1 h, tt))
kids-of-form P kind.Name w ns h = tt
kids-of-form P kind.Heads w ns h = h
kids-of-form P kind.Args w ns h = h
kids-of-form P kind.Params w ns h = h
kids-of-form P kind.Names w ns h = h
kids-of-form P kind.Labels w ns h = h
kids-of-form P kind.Indexes w ns h = h
kids-of-form P kind.Exprs w ns h = h
kids-of-form P kind.Accesses w ns h = h
kids-of-form P kind.Members w ns h = h
kids-of-form P kind.Consts w ns h = h
kids-of-form P kind.Types w ns h = h
kids-of-form P kind.Vars w ns h = h
kids-of-form P kind.Routines w ns h = h
kids-of-form P kind.Fields w ns h = h
kids-of-form P kind.Stmts w ns h = h
kids-of-form P kind.Arms w ns h = h
kids-of-form P (kind.Hole s) w ns h = tt

-- ---- what kids have together
pub touches-all : (P : Owner → Type 0) (ks : List Node) → Each (OfNode P) ks → OfVariables P (all_touches ks)
touches-all P [] h = tt
touches-all P (k ∷ ks) h = each-append (λ (v : Owner × List ℕ). P v.0) k.touches (all_touches ks) h.0.0.1 (touches-all P ks h.1)

pub defines-all : (P : Owner → Type 0) (ks : List Node) → Each (OfNode P) ks → OfDefines P (all_defines ks)
defines-all P [] h = tt
defines-all P (k ∷ ks) h = each-append (λ (d : List ℕ × Meaning). OfMeaning P d.1) k.defines (all_defines ks) h.0.0.3 (defines-all P ks h.1)

passed-all : (P : Owner → Type 0) (fs : List Formal) (args : List Node) → Each (OfNode P) args → OfVariables P (passed_by_place fs args)
passed-all P fs [] h = tt
passed-all P fs (a ∷ args) h = each-append (λ (v : Owner × List ℕ). P v.0) (if is_by_place (head fs) then a.variable else []) (passed_by_place (tail fs) args) (picked (is_by_place (head fs))) (passed-all P (tail fs) args h.1) where
  picked : (b : Bool) → OfVariables P (if b then a.variable else [])
  picked true = h.0.0.2
  picked false = tt

read-all : (P : Owner → Type 0) (args : List Node) → Each (OfNode P) args → OfVariables P (read_variables args)
read-all P [] h = tt
read-all P (a ∷ args) h = each-append (λ (v : Owner × List ℕ). P v.0) a.variable (read_variables args) h.0.0.2 (read-all P args h.1)

behind-all : (P : Owner → Type 0) (b : Bool) (args : List Node) → Each (OfNode P) args → Each (OfNode P) (behind_file b args)
behind-all P true [] h = tt
behind-all P true (a ∷ args) h = h.1
behind-all P false args h = h

-- ---- what a name means
variable-named : (P : Owner → Type 0) (n : List ℕ) (f : Found) → OfFound P f → OfVariables P (variable_of n f)
variable-named P n (Here m) h = picked (is_own_variable m.class) refl where
  picked : (b : Bool) → is_own_variable m.class ≡ b → OfVariables P (if b then (m.owner, n) ∷ [] else [])
  picked true e = (h e, tt)
  picked false e = tt
variable-named P n (Later c) h = tt
variable-named P n (Component t p) h = tt
variable-named P n (Required m) h = tt
variable-named P n Missing h = tt

-- ---- declarations of a block
pub declared-all : (P : Owner → Type 0) (m : Meaning) (ns : List (List ℕ)) → OfMeaning P m → OfDefines P (all_as m ns)
declared-all P m [] h = tt
declared-all P m (n ∷ ns) h = (h, declared-all P m ns h)

elements-all : (P : Owner → Type 0) (o : Owner) (t : Option Shape) (i : ℕ) (ns : List (List ℕ)) → P o → OfDefines P (elements o t i ns)
elements-all P o t i [] h = tt
elements-all P o t i (n ∷ ns) h = ((λ e. h), elements-all P o t (suc i) ns h)

declares-one : (P : Owner → Type 0) (b : Bool) (n : List ℕ) (m : Meaning) → OfMeaning P m → OfDefines P (if b then [] else (n, m) ∷ [])
declares-one P true n m h = tt
declares-one P false n m h = (h, tt)

-- a routine's name
routine-declares : (P : Owner → Type 0) (later b : Bool) (n : List ℕ) (m : Meaning) → OfMeaning P m → OfDefines P (if later then [] else (if b then [] else (n, m) ∷ []))
routine-declares P true b n m h = tt
routine-declares P false b n m h = declares-one P b n m h

-- ---- calls
declared-procedure-of : (P : Owner → Type 0) (name args : Node) → OfNode P name → OfNode P args → OfNodeItself P (declared_procedure name args)
declared-procedure-of P name args h g = (
  tt,
  each-append (λ (v : Owner × List ℕ). P v.0) (all_touches (name ∷ args ∷ [])) _ (touches-all P (name ∷ args ∷ []) (h, (g, tt)))
      (passed-all P (formals_of (procedure_signature name.found)) (kids_below args) (of-nodes P args.below g.1)),
  tt,
  tt,
)

declared-call-of : (P : Owner → Type 0) (name args : Node) → OfNode P name → OfNode P args → OfNodeItself P (declared_call name args)
declared-call-of P name args h g = (
  tt,
  each-append (λ (v : Owner × List ℕ). P v.0) (all_touches (name ∷ args ∷ [])) _ (touches-all P (name ∷ args ∷ []) (h, (g, tt)))
      (passed-all P (formals_of (function_signature name.found)) (kids_below args) (of-nodes P args.below g.1)),
  tt,
  tt,
)

required-procedure-of : (P : Owner → Type 0) (n : List ℕ) (name args : Node) → OfNode P name → OfNode P args → OfNodeItself P (required_procedure n name args)
required-procedure-of P n name args h g = by-name _ _ _ _ _ where
  kids : OfVariables P (all_touches (name ∷ args ∷ []))
  kids = touches-all P (name ∷ args ∷ []) (h, (g, tt))

  reads : (needs : Bool) → OfNodeItself P (input_procedure needs name args)
  reads needs = (
    tt,
    each-append (λ (v : Owner × List ℕ). P v.0) (all_touches (name ∷ args ∷ [])) _ kids
        (read-all P _ (behind-all P (has_file (codes "input") (kids_below args)) (kids_below args) (of-nodes P args.below g.1))),
    tt,
    tt,
  )

  writes : (needs : Bool) → OfNodeItself P (output_procedure needs name args)
  writes needs = (tt, each-append (λ (v : Owner × List ℕ). P v.0) (all_touches (name ∷ args ∷ [])) [] kids tt, tt, tt)

  points : (entries : Node → List Entry) → OfNodeItself P (pointer_procedure entries name args)
  points entries = (tt, each-append (λ (v : Owner × List ℕ). P v.0) (all_touches (name ∷ args ∷ [])) [] kids tt, tt, tt)

  by-name : (a b c d e : Bool) → OfNodeItself P (if a then input_procedure true name args
      else if b then input_procedure false name args
      else if c then output_procedure true name args
      else if d then output_procedure false name args
      else if e then pointer_procedure new_entries name args
      else pointer_procedure dispose_entries name args)
  by-name true b c d e = reads true
  by-name false true c d e = reads false
  by-name false false true d e = writes true
  by-name false false false true e = writes false
  by-name false false false false true = points new_entries
  by-name false false false false false = points dispose_entries

procedure-of : (P : Owner → Type 0) (f : Found) (name args : Node) → OfNode P name → OfNode P args → OfNodeItself P (procedure_by f name args)
procedure-of P (Required n) name args h g = which (is_required_procedure n) where
  which : (b : Bool) → OfNodeItself P (if b then required_procedure n name args else declared_procedure name args)
  which true = required-procedure-of P n name args h g
  which false = declared-procedure-of P name args h g
procedure-of P f name args h g = declared-procedure-of P name args h g

required-call-of : (P : Owner → Type 0) (b : Bool) (n : List ℕ) (name args : Node) → OfNode P name → OfNode P args →
    OfNodeItself P (if b then end_test name args else function_of_one n name args)
required-call-of P true n name args h g = (tt, touches-all P (name ∷ args ∷ []) (h, (g, tt)), tt, tt)
required-call-of P false n name args h g = (tt, touches-all P (name ∷ args ∷ []) (h, (g, tt)), tt, tt)

call-of : (P : Owner → Type 0) (f : Found) (name args : Node) → OfNode P name → OfNode P args → OfNodeItself P (call_by f name args)
call-of P (Required n) name args h g = which (is_required_function n) where
  which : (b : Bool) → OfNodeItself P (if b then required_call n name args else declared_call name args)
  which true = required-call-of P (is_end_test n) n name args h g
  which false = declared-call-of P name args h g
call-of P f name args h g = declared-call-of P name args h g

-- ---- the rules

-- a statement
statement-of : (P : Owner → Type 0) (kids : List Node) (vs : List (Owner × List ℕ)) → Each (OfNode P) kids → OfVariables P vs → OfVariables P (all_touches kids ++ vs)
statement-of P kids vs h g = each-append (λ (v : Owner × List ℕ). P v.0) (all_touches kids) vs (touches-all P kids h) g

-- what is declared before, and then in a type
declared-before : (P : Owner → Type 0) (ds es : List (List ℕ × Meaning)) → OfDefines P ds → OfDefines P es → OfDefines P (ds ++ es)
declared-before P ds es h g = each-append (λ (d : List ℕ × Meaning). OfMeaning P d.1) ds es h g

-- what is found at a node, by its form
rule-of-form : (P : Owner → Type 0) (l : Local) (s : Seen) → P l.owner → OfFound P s.found → (f : FormOf Node) → Each (OfNode P) (kids_in f) → OfNodeItself P (rule_of l s f)
rule-of-form P l s o d (form.Name word) h = (d, tt, tt, tt)
rule-of-form P l s o d (form.Hole sort) h = (tt, tt, tt, tt)
rule-of-form P l s o d (form.Cnumber word) h = (tt, tt, tt, tt)
rule-of-form P l s o d (form.Cstring word) h = (tt, tt, tt, tt)
rule-of-form P l s o d (form.Cname name) h = (tt, tt, tt, tt)
rule-of-form P l s o d (form.Csign sign constant) h = (tt, tt, tt, tt)
rule-of-form P l s o d (form.Tname name) h = (tt, tt, tt, defines-all P (name ∷ []) h)
rule-of-form P l s o d (form.Enum names) h = (tt, tt, tt, elements-all P l.owner _ 0 (names_in (kids_below names)) o)
rule-of-form P l s o d (form.Subrange low high) h = (tt, tt, tt, defines-all P (low ∷ high ∷ []) h)
rule-of-form P l s o d (form.Array indexes element) h = (tt, tt, tt, defines-all P (indexes ∷ element ∷ []) h)
rule-of-form P l s o d (form.Record fields) h = (tt, tt, tt, defines-all P (fields ∷ []) h)
rule-of-form P l s o d form.Record0 h = (tt, tt, tt, tt)
rule-of-form P l s o d (form.Setof base) h = (tt, tt, tt, defines-all P (base ∷ []) h)
rule-of-form P l s o d (form.Packed unpacked) h = (tt, tt, tt, defines-all P (unpacked ∷ []) h)
rule-of-form P l s o d (form.Pointer name) h = (tt, tt, tt, defines-all P (name ∷ []) h)
rule-of-form P l s o d (form.Ref name) h = (tt, tt, variable-named P (lowered name.word) name.found h.0.0.0, tt)
rule-of-form P l s o d (form.Index array indexes) h = (tt, touches-all P (array ∷ indexes ∷ []) h, tt, tt)
rule-of-form P l s o d (form.Select whole field) h = (tt, touches-all P (whole ∷ field ∷ []) h, tt, tt)
rule-of-form P l s o d (form.Deref pointer) h = (tt, touches-all P (pointer ∷ []) h, tt, tt)
rule-of-form P l s o d (form.Number word) h = (tt, tt, tt, tt)
rule-of-form P l s o d (form.Text word) h = (tt, tt, tt, tt)
rule-of-form P l s o d form.Nil h = (tt, tt, tt, tt)
rule-of-form P l s o d (form.Parens inner) h = (tt, touches-all P (inner ∷ []) h, tt, tt)
rule-of-form P l s o d (form.Not operand) h = (tt, touches-all P (operand ∷ []) h, tt, tt)
rule-of-form P l s o d (form.Sign sign operand) h = (tt, touches-all P (operand ∷ []) h, tt, tt)
rule-of-form P l s o d (form.Mul left operator right) h = (tt, touches-all P (left ∷ right ∷ []) h, tt, tt)
rule-of-form P l s o d (form.Add left operator right) h = (tt, touches-all P (left ∷ right ∷ []) h, tt, tt)
rule-of-form P l s o d (form.Rel left operator right) h = (tt, touches-all P (left ∷ right ∷ []) h, tt, tt)
rule-of-form P l s o d (form.Setcon members) h = (tt, touches-all P (members ∷ []) h, tt, tt)
rule-of-form P l s o d (form.Call name args) h = call-of P name.found name args h.0 h.1.0
rule-of-form P l s o d (form.Proc name args) h = procedure-of P name.found name args h.0 h.1.0
rule-of-form P l s o d (form.Assign target value) h = (tt, statement-of P (target ∷ value ∷ []) target.variable h h.0.0.2, tt, tt)
rule-of-form P l s o d (form.If condition body) h = (tt, statement-of P (condition ∷ body ∷ []) [] h tt, tt, tt)
rule-of-form P l s o d (form.Ifelse condition body otherwise) h = (tt, statement-of P (condition ∷ body ∷ otherwise ∷ []) [] h tt, tt, tt)
rule-of-form P l s o d (form.While condition body) h = (tt, statement-of P (condition ∷ body ∷ []) [] h tt, tt, tt)
rule-of-form P l s o d (form.Repeat stmts condition) h = (tt, statement-of P (stmts ∷ condition ∷ []) [] h tt, tt, tt)
rule-of-form P l s o d (form.Case selector arms) h = (tt, statement-of P (selector ∷ arms ∷ []) [] h tt, tt, tt)
rule-of-form P l s o d (form.For control first downwards last body) h =
    (tt, statement-of P (control ∷ first ∷ last ∷ body ∷ []) (variable_of (lowered control.word) control.found) h (variable-named P (lowered control.word) control.found h.0.0.0), tt, tt)
rule-of-form P l s o d (form.Accesses accesses) h = (tt, touches-all P accesses h, tt, tt)
rule-of-form P l s o d (form.Constdef name value) h = (tt, tt, tt, declares-one P (is_hole name.kind) (lowered name.word) _ (λ e. o))
rule-of-form P l s o d (form.Typedef name denoter) h =
    (tt, tt, tt, declared-before P _ denoter.defines (declares-one P (is_hole name.kind) (lowered name.word) _ (λ e. o)) h.1.0.0.3)
rule-of-form P l s o d (form.Vardef names denoter) h =
    (tt, tt, tt, declared-before P _ denoter.defines (declared-all P _ (names_in (kids_below names)) (λ e. o)) h.1.0.0.3)
rule-of-form P l s o d (form.Consts definitions) h = (tt, touches-all P definitions h, tt, defines-all P definitions h)
rule-of-form P l s o d (form.Types definitions) h = (tt, touches-all P definitions h, tt, defines-all P definitions h)
rule-of-form P l s o d (form.Vars declarations) h = (tt, touches-all P declarations h, tt, defines-all P declarations h)
rule-of-form P l s o d (form.Routines routines) h = (tt, touches-all P routines h, tt, defines-all P routines h)
rule-of-form P l s o d (form.Indexes indexes) h = (tt, touches-all P indexes h, tt, defines-all P indexes h)
rule-of-form P l s o d (form.Fields fields) h = (tt, touches-all P fields h, tt, defines-all P fields h)
rule-of-form P l s o d (form.Field names denoter) h = (tt, touches-all P (names ∷ denoter ∷ []) h, tt, defines-all P (names ∷ denoter ∷ []) h)
rule-of-form P l s o d (form.Params groups) h = (tt, touches-all P groups h, tt, defines-all P groups h)
rule-of-form P l s o d (form.Procedure name params block) h =
    (tt, tt, tt, routine-declares P (is_later_declaration l) (is_hole name.kind) (lowered name.word) _ (λ e. o))
rule-of-form P l s o d (form.Function name params result block) h =
    (tt, tt, tt, routine-declares P (is_later_declaration l) (is_hole name.kind) (lowered name.word) _ (λ e. o))
rule-of-form P l s o d (form.Funbody name block) h =
    (tt, tt, tt, routine-declares P (is_later_declaration l) (is_hole name.kind) (lowered name.word) _ (λ e. o))
rule-of-form P l s o d (form.Valparam names type_name) h = (tt, tt, tt, declared-all P _ (names_in (kids_below names)) (λ e. o))
rule-of-form P l s o d (form.Varparam names type_name) h = (tt, tt, tt, declared-all P _ (names_in (kids_below names)) (λ e. o))
rule-of-form P l s o d f h = (tt, touches-all P (kids_in f) h, tt, tt)

-- what is found at a node
pub of-rule : (P : Owner → Type 0) (l : Local) (k : Kind) (w : List ℕ) (s : Seen) (below : Marked) → P l.owner → OfFound P s.found → OfMarked P below → OfNodeItself P (rule l k w s below)
unfolding rule
of-rule P l k w s below o d h = rule-of-form P l s o d (form_from k w (nodes below) missing) (kids-of-form P k w (nodes below) (of-nodes P below h))
