-- The rules of expressions and of simple statements don't look at what is changed.
use Rattle.std.specs.Prelude.{ℕ, ◌≡◌, Bool, true, false, ◌||◌, ◌&&◌, if◌then◌else◌, List, [], ◌∷◌, ◌==◌, length, map, codes, Option, Some, None, ◌++◌}
use Rattle.std.specs.Option.{is_some, is_none}
use Rattle.std.specs.Str.{bytes_eq}
use Rattle.std.proofs.Common.{refl, ap, ◌∙◌}
use Rattle.pc_syntax.specs.Words.{lowered}
use Rattle.pc_syntax.specs.declared.kind.Kind.{Kind}
use Rattle.pc_forms.specs.Form.{form_from}
use Rattle.pc_forms.specs.FormKind.{kind_in}
use Rattle.pc_forms.specs.FormKidsLaws.{kind_in-form_from}
use Rattle.pc_forms.specs.FormMap.{FormOf, each}
use Rattle.pc_forms.specs.declared.form.Form.TheVariants as form
use Rattle.pc_types.specs.Shapes.{Owner, Shape, BooleanType, Typed}
use Rattle.pc_scope.specs.Required.{is_required_function, is_required_procedure}
use Rattle.pc_rules.specs.Arguments.{passed_by_place, call_entries, arguments_typed, formals_of, function_signature, procedure_signature, declared_procedure, declared_call}
use Rattle.pc_rules.specs.Attributes.{at_kid, Entry, Judged, Attributes, Marked, Node, plain, nodes, missing, kids_below, judged, each_kid}
use Rattle.pc_rules.specs.Components.{component_node, index_rule, no_record, no_field, field_type, packed_type, indexed, indexes_no_array, all_typed, indexed_type, indexes_packed}
use Rattle.pc_rules.specs.Decorated.{Seen, rule_of, rule, with_kind}
use Rattle.pc_rules.specs.Denoters.{some_typed}
use Rattle.pc_rules.specs.Entries.{note_if, wrong_number}
use Rattle.pc_rules.specs.HandedOn.{kid_entries, statement_node}
use Rattle.pc_rules.specs.Meanings.{Signature, Found, Here, Later, Component, Required, Missing, Local}
use Rattle.pc_rules.specs.NameClasses.{is_function_class, is_procedure_class}
use Rattle.pc_rules.specs.Operators.{expression_node}
use Rattle.pc_rules.specs.RequiredFunctions.{has_file, apply_function, type_of_first, one_argument, function_of_one, end_test_entries, end_test, required_call, call_by}
use Rattle.pc_rules.specs.RequiredProcedures.{read_entries, read_variables, write_entries, new_entries, dispose_entries, behind_file, file_entries, input_procedure, output_procedure, pointer_procedure, required_procedure, procedure_by}
use Rattle.pc_rules.specs.SetConstructors.{member_entries, member_type, member_values, all_known, members_type}
use Rattle.pc_rules.specs.Statements.{opened_entries, records_rule}
use Rattle.pc_rules.specs.UsedNames.{name_entries}
use Rattle.pc_rules.specs.Variables.{result_of, is_end_test}
use Rattle.pc_needs.proofs.BodyKinds.{either-way}
use Rattle.pc_program_laws.specs.Changed.{is_simple, as_found}
use Rattle.pc_program_laws.specs.Unsigned.{faded, all_faded, is_declaring}
use Rattle.pc_program_laws.proofs.ArgumentLemmas.{calm, below-calm, typed-calm, passed-calm, call-calm, has-file-calm, first-type-calm, one-calm, end-calm, read-calm, behind-calm, write-calm, files-calm, indexed-calm, no-array-calm, all-typed-calm, indexed-type-calm, packed-calm, member-calm, member-types-calm}
use Rattle.pc_program_laws.proofs.FadeLemmas.{fade_seen, any_hole-fade, touches-fade, opens-fade, each_kid-fade, entries-fade, length-fade}
use Rattle.pc_program_laws.proofs.RuleLemmas.{IsSameForTypes, handed-fade, rule-fade, form-fade}

-- what a name means is what it means
pub same-found : IsSameForTypes as_found
same-found = record {
  twice = λ f. refl;
  keeps = refl;
  types = λ f. refl;
  values = λ f. refl;
  misses = λ w f. refl;
  uses = λ declared required f. refl;
  later = λ f. refl;
  pointers = λ l n f. refl;
}

-- ---- nodes from what their rules take of their kids

called : Node → Node → Option Signature → List Entry → Bool → List (Owner × List ℕ) → Attributes
called name args s entries typed passed =
    let a = expression_node (name ∷ args ∷ []) entries (if typed then result_of s else None) in
    record a { touches = a.touches ++ passed }

set_made : Node → List Entry → List (Option Shape) → Attributes
set_made members entries types =
    expression_node (members ∷ []) (at_kid 1 entries ++ note_if (all_known types && is_none (members_type types)) 11 (codes "types do not agree")) (members_type types)

one_made : List ℕ → Node → Node → List Entry → Option Typed → (Bool → List Entry) → Attributes
one_made n name args entries argument one =
    let type = apply_function n argument in
    expression_node (name ∷ args ∷ []) (at_kid 2 entries ++ one (is_none argument || is_some type)) type

opening_made : Bool → List (Owner × List ℕ) → List Entry → List (List ℕ × (Typed × Bool)) → Attributes
opening_made hole touched entries opens = record plain { hole = hole; touches = touched; as_value = judged hole entries None; opens = opens }

-- ---- calls

-- what is found at two nodes is the same, but for what is changed
abbrev Calm : Attributes → Attributes → Type 0
Calm a b = faded as_found a ≡ faded as_found b

either-calm : (b : Bool) (x y u v : Attributes) → Calm x y → Calm u v → Calm (if b then x else u) (if b then y else v)
either-calm true x y u v h g = h
either-calm false x y u v h g = g

declared-call-calm : (name args : Node) → Calm (declared_call (calm name) (calm args)) (declared_call name args)
unfolding called
declared-call-calm name args =
    let s : Option Signature = function_signature name.found in
    let es : List Entry = name_entries name is_function_class is_required_function (codes "function") in
    λ i. faded as_found (called name args s (below-calm (call_entries es s) (call-calm es s) args i) (below-calm (arguments_typed (formals_of s)) (typed-calm (formals_of s)) args i)
    (below-calm (passed_by_place (formals_of s)) (passed-calm (formals_of s)) args i))

end-test-calm : (name args : Node) → Calm (end_test (calm name) (calm args)) (end_test name args)
end-test-calm name args = λ i. faded as_found (expression_node (name ∷ args ∷ []) (below-calm end_test_entries end-calm args i) (some_typed BooleanType))

one-function-calm : (n : List ℕ) (name args : Node) → Calm (function_of_one n (calm name) (calm args)) (function_of_one n name args)
unfolding one_made
one-function-calm n name args =
    λ i. faded as_found (one_made n name args (below-calm (kid_entries 1) (entries-fade as_found 1) args i) (below-calm type_of_first first-type-calm args i)
    (λ b. below-calm (λ ns. one_argument ns b) (λ ns. one-calm ns b) args i))

call-by-calm : (f : Found) (name args : Node) → Calm (call_by f (calm name) (calm args)) (call_by f name args)
call-by-calm (Required n) name args =
    either-calm (is_required_function n) (required_call n (calm name) (calm args)) (required_call n name args) (declared_call (calm name) (calm args)) (declared_call name args)
    (either-calm (is_end_test n) (end_test (calm name) (calm args)) (end_test name args) (function_of_one n (calm name) (calm args)) (function_of_one n name args)
    (end-test-calm name args) (one-function-calm n name args)) (declared-call-calm name args)
call-by-calm (Here m) name args = declared-call-calm name args
call-by-calm (Later c) name args = declared-call-calm name args
call-by-calm (Component t p) name args = declared-call-calm name args
call-by-calm Missing name args = declared-call-calm name args

-- ---- procedure statements

declared-procedure-calm : (name args : Node) → Calm (declared_procedure (calm name) (calm args)) (declared_procedure name args)
declared-procedure-calm name args =
    let s : Option Signature = procedure_signature name.found in
    let es : List Entry = name_entries name is_procedure_class is_required_procedure (codes "procedure") in
    λ i. faded as_found (statement_node (name ∷ args ∷ []) (below-calm (call_entries es s) (call-calm es s) args i) (below-calm (passed_by_place (formals_of s)) (passed-calm (formals_of s)) args i))

files-below : (entries : Node → List Entry) → ((n : Node) → entries (calm n) ≡ entries n) → (needs : Bool) (file : List ℕ) (args : Node) →
    file_entries entries needs (has_file file (kids_below (calm args))) (kids_below (calm args)) ≡ file_entries entries needs (has_file file (kids_below args)) (kids_below args)
files-below entries h needs file args =
    below-calm (λ ns. file_entries entries needs (has_file file ns) ns)
    (λ ns. ap (λ (b : Bool). file_entries entries needs b (map calm ns)) (has-file-calm file ns) ∙ files-calm entries h needs (has_file file ns) ns) args

read-below : (args : Node) → read_variables (behind_file (has_file (codes "input") (kids_below (calm args))) (kids_below (calm args)))
    ≡ read_variables (behind_file (has_file (codes "input") (kids_below args)) (kids_below args))
read-below args =
    below-calm (λ ns. read_variables (behind_file (has_file (codes "input") ns) ns))
    (λ ns. ap (λ (b : Bool). read_variables (behind_file b (map calm ns))) (has-file-calm (codes "input") ns)
    ∙ ap read_variables (behind-calm (has_file (codes "input") ns) ns) ∙ read-calm (behind_file (has_file (codes "input") ns) ns)) args

input-calm : (needs : Bool) (name args : Node) → Calm (input_procedure needs (calm name) (calm args)) (input_procedure needs name args)
input-calm needs name args = λ i. faded as_found (statement_node (name ∷ args ∷ []) (files-below read_entries (λ n. refl) needs (codes "input") args i) (read-below args i))

output-calm : (needs : Bool) (name args : Node) → Calm (output_procedure needs (calm name) (calm args)) (output_procedure needs name args)
output-calm needs name args = λ i. faded as_found (statement_node (name ∷ args ∷ []) (files-below write_entries write-calm needs (codes "output") args i) [])

pointer-calm : (entries : Node → List Entry) → ((n : Node) → entries (calm n) ≡ entries n) → (name args : Node) → Calm (pointer_procedure entries (calm name) (calm args)) (pointer_procedure entries name args)
pointer-calm entries h name args =
    λ i. faded as_found (statement_node (name ∷ args ∷ []) (at_kid 2 (below-calm (each_kid entries 1) (each_kid-fade as_found entries h 1) args i)
    ++ (if below-calm (λ ns. has_one ns) one args i then [] else wrong_number)) []) where
      has_one : List Node → Bool
      has_one ns = length ns == 1

      one : (ns : List Node) → has_one (map calm ns) ≡ has_one ns
      one ns = ap (λ (n : ℕ). n == 1) (length-fade as_found ns)

required-procedure-calm : (n : List ℕ) (name args : Node) → Calm (required_procedure n (calm name) (calm args)) (required_procedure n name args)
required-procedure-calm n name args =
    either-calm (bytes_eq n (codes "read")) _ _ _ _ (input-calm true name args)
    (either-calm (bytes_eq n (codes "readln")) _ _ _ _ (input-calm false name args)
    (either-calm (bytes_eq n (codes "write")) _ _ _ _ (output-calm true name args)
    (either-calm (bytes_eq n (codes "writeln")) _ _ _ _ (output-calm false name args)
    (either-calm (bytes_eq n (codes "new")) _ _ _ _ (pointer-calm new_entries (λ a. refl) name args) (pointer-calm dispose_entries (λ a. refl) name args)))))

procedure-by-calm : (f : Found) (name args : Node) → Calm (procedure_by f (calm name) (calm args)) (procedure_by f name args)
procedure-by-calm (Required n) name args =
    either-calm (is_required_procedure n) (required_procedure n (calm name) (calm args)) (required_procedure n name args) (declared_procedure (calm name) (calm args)) (declared_procedure name args)
    (required-procedure-calm n name args) (declared-procedure-calm name args)
procedure-by-calm (Here m) name args = declared-procedure-calm name args
procedure-by-calm (Later c) name args = declared-procedure-calm name args
procedure-by-calm (Component t p) name args = declared-procedure-calm name args
procedure-by-calm Missing name args = declared-procedure-calm name args

-- ---- other rules

index-calm : (array indexes : Node) → Calm (index_rule (calm array) (calm indexes)) (index_rule array indexes)
index-calm array indexes =
    let base : Judged = array.as_place in
    λ i. faded as_found (component_node (array ∷ indexes ∷ [])
    (at_kid 1 base.entries ++ at_kid 2 (below-calm (indexed base.type 1) (indexed-calm base.type 1) indexes i)
    ++ at_kid 1 (note_if (below-calm (indexes_no_array base.type) (no-array-calm base.type) indexes i) 15 (codes "not an array")))
    (if below-calm all_typed all-typed-calm indexes i then below-calm (indexed_type base.type) (indexed-type-calm base.type) indexes i else None)
    (is_some base.type && (below-calm (indexes_packed base.type) (packed-calm base.type) indexes i || array.packed_part)))

no-field-calm : (t : Option Typed) (n : Node) → no_field t (calm n) ≡ no_field t n
no-field-calm None n = refl
no-field-calm (Some t) n = refl

records-calm : (ns : List Node) → records_rule (map calm ns) ≡ records_rule ns
unfolding opening_made
records-calm ns = λ i. opening_made (any_hole-fade as_found ns i) (touches-fade as_found ns i) (each_kid-fade as_found opened_entries (λ n. refl) 1 ns i) (opens-fade as_found ns i)

-- what is found at a node
rule-calm : (l : Local) (s : Seen) (f : FormOf Node) → is_simple (kind_in f) ≡ true → Calm (rule_of l (fade_seen as_found s) (each calm f)) (rule_of l s f)
unfolding set_made
rule-calm l s (form.Ref name) e = refl
rule-calm l s (form.Index array indexes) e = index-calm array indexes
rule-calm l s (form.Select whole field) e =
    let base : Judged = whole.as_place in
    λ i. faded as_found (component_node (whole ∷ field ∷ []) (at_kid 1 (base.entries ++ no_record base.type) ++ at_kid 2 (no-field-calm base.type field i))
    (field_type base.type (lowered field.word)) (is_some base.type && (packed_type base.type || whole.packed_part)))
rule-calm l s (form.Deref pointer) e = refl
rule-calm l s (form.Number word) e = refl
rule-calm l s (form.Text word) e = refl
rule-calm l s form.Nil e = refl
rule-calm l s (form.Call name args) e = call-by-calm name.found name args
rule-calm l s (form.Parens inner) e = refl
rule-calm l s (form.Not operand) e = refl
rule-calm l s (form.Setcon members) e =
    λ i. faded as_found (set_made members (below-calm (each_kid member_entries 1) (each_kid-fade as_found member_entries member-calm 1) members i)
    (below-calm (λ ns. map member_type (member_values ns)) member-types-calm members i))
rule-calm l s (form.Mul left operator right) e = refl
rule-calm l s (form.Add left operator right) e = refl
rule-calm l s (form.Sign sign operand) e = refl
rule-calm l s (form.Rel left operator right) e = refl
rule-calm l s (form.Width value width) e = refl
rule-calm l s (form.Span low high) e = refl
rule-calm l s (form.Heads names) e = ap (faded as_found) (handed-fade as_found same-found names)
rule-calm l s (form.Args args) e = ap (faded as_found) (handed-fade as_found same-found args)
rule-calm l s (form.Labels labels) e = ap (faded as_found) (handed-fade as_found same-found labels)
rule-calm l s (form.Exprs expressions) e = ap (faded as_found) (handed-fade as_found same-found expressions)
rule-calm l s (form.Members members) e = ap (faded as_found) (handed-fade as_found same-found members)
rule-calm l s (form.Accesses accesses) e = ap (faded as_found) (records-calm accesses)
rule-calm l s form.Empty e = refl
rule-calm l s (form.Assign target value) e = refl
rule-calm l s (form.Proc name args) e = procedure-by-calm name.found name args
rule-calm l s f e = rule-fade as_found same-found l s f (either-way (is_declaring (kind_in f)) (is_simple (kind_in f)) refl e)

pub node-calm : (l : Local) (k : Kind) (w : List ℕ) (s : Seen) (m : Marked) → is_simple k ≡ true →
    faded as_found (rule l k w (fade_seen as_found s) (all_faded as_found m)) ≡ faded as_found (rule l k w s m)
unfolding rule
node-calm l k w s m e =
    ap (λ (f : FormOf Node). with_kind k w (faded as_found (rule_of l (fade_seen as_found s) f))) (form-fade as_found same-found k w m)
    ∙ ap (with_kind k w) (rule-calm l s (form_from k w (nodes m) missing) (ap is_simple (kind_in-form_from k w (nodes m) missing) ∙ e))
