-- The rules of declarations with other meanings of names, as long as types, values and entries of these are the same.
use Rattle.std.specs.Prelude.{ℕ, ◌≡◌, Bool, true, not, ◌==◌, if◌then◌else◌, List, [], ◌∷◌, length, map, codes, Option, None, option_map, ◌++◌}
use Rattle.std.specs.Option.{option_and_then}
use Rattle.std.proofs.Common.{refl, ap, sym, ◌∙◌, true≢false}
use Rattle.pc_syntax.specs.Sorts.{is_hole}
use Rattle.pc_syntax.specs.Words.{lowered}
use Rattle.pc_syntax.specs.declared.kind.Kind.{Kind}
use Rattle.pc_forms.specs.Form.{form_from}
use Rattle.pc_forms.specs.FormKind.{kind_in}
use Rattle.pc_forms.specs.FormKidsLaws.{kind_in-form_from}
use Rattle.pc_forms.specs.FoldLaws.{form_from-map}
use Rattle.pc_forms.specs.FormMap.{FormOf, each}
use Rattle.pc_forms.specs.declared.form.Form.TheVariants as form
use Rattle.pc_types.specs.Shapes.{Owner, EnumeratedType, RecordType, Typed}
use Rattle.pc_scope.specs.Required.{is_required_constant, is_required_type}
use Rattle.pc_rules.specs.Attributes.{at_kid, Entry, Attributes, Marked, Node, plain, nodes, missing, kids_below, judged}
use Rattle.pc_rules.specs.Constants.{value_of_found, constant_node}
use Rattle.pc_rules.specs.Declarations.{declaration, declarations_rule, completed, routine_rule}
use Rattle.pc_rules.specs.DeclaringNames.{names_in, repeats, all_as}
use Rattle.pc_rules.specs.Decorated.{Seen, rule_of, rule, with_kind}
use Rattle.pc_rules.specs.Denoters.{defined_here, type_of_found, denoter_node, type_name_entries, elements, some_typed, pointer_to, is_later_type}
use Rattle.pc_rules.specs.HandedOn.{handed_on}
use Rattle.pc_rules.specs.Meanings.{Class, ProcedureName, ValueName, ReferenceName, VariableName, Meaning, declared_as, Found, Missing, Local}
use Rattle.pc_rules.specs.NameClasses.{is_constant_class, is_type_class}
use Rattle.pc_rules.specs.StructuredTypes.{Row, sized, index_type_entries}
use Rattle.pc_rules.specs.UsedNames.{missed, not_a, is_used_as, name_entries}
use Rattle.pc_program_laws.specs.Unsigned.{faded, all_faded, is_declaring}
use Rattle.pc_program_laws.proofs.FadeLemmas.{fade, fade_seen, nodes-fade, missing-fade, any_hole-fade, touches-fade, defines-fade, entries-fade, length-fade, names-fade, repeats-fade, arrays-fade, indexes-fade, field_repeats-fade, row-fade}

-- the rules of declarations find the same in another meaning of a name
pub record IsSameForTypes (g : Found → Found) : Type 0 where
  pub twice : (f : Found) → g (g f) ≡ g f
  pub keeps : g Missing ≡ Missing
  pub types : (f : Found) → type_of_found (g f) ≡ type_of_found f
  pub values : (f : Found) → value_of_found (g f) ≡ value_of_found f
  pub misses : (w : List ℕ) (f : Found) → missed w (g f) ≡ missed w f
  pub uses : (declared : Class → Bool) (required : List ℕ → Bool) (f : Found) → is_used_as declared required (g f) ≡ is_used_as declared required f
  pub later : (f : Found) → is_later_type (g f) ≡ is_later_type f
  pub pointers : (l : Local) (n : List ℕ) (f : Found) → pointer_to l n (g f) ≡ pointer_to l n f

-- ---- rules, from what they take of their kids

enumerated : Local → Bool → List Entry → List (List ℕ) → Attributes
enumerated l hole entries names =
    let type = judged hole (at_kid 1 entries) (some_typed (EnumeratedType (defined_here l) names)) in
    record plain {
      hole = hole;
      as_value = type;
      defines = elements l.owner (option_map (λ (t : Typed). t.shape) type.type) 0 names;
    }

handing : Bool → List (Owner × List ℕ) → List Entry → List (List ℕ × Meaning) → Attributes
handing hole touched entries defined = record plain { hole = hole; touches = touched; as_value = judged hole entries None; defines = defined }

record_made : Local → Node → List Entry → Option Row → Attributes
record_made l fields entries row =
    sized (fields ∷ []) (at_kid 1 fields.as_value.entries ++ at_kid 1 entries) (option_map (λ (r : Row). record { shape = RecordType (defined_here l) l.packed r.fields; domains = r.domains }) row)

module _ (g : Found → Found) (same : IsSameForTypes g) where
  pub name-fade : (n : Node) (declared : Class → Bool) (required : List ℕ → Bool) (what : List ℕ) → name_entries (fade g n) declared required what ≡ name_entries n declared required what
  name-fade n declared required what = λ i. if is_hole n.kind then [] else same.misses n.word n.found i ++ (if same.uses declared required n.found i then [] else not_a what n.word)

  types-fade : (n : Node) → type_name_entries (fade g n) ≡ type_name_entries n
  types-fade n = name-fade n is_type_class is_required_type (codes "type")

  -- a list whose elements declare names
  list-fade : (ns : List Node) → declarations_rule (map (fade g) ns) ≡ declarations_rule ns
  unfolding handing
  list-fade ns = λ i. handing (any_hole-fade g ns i) (touches-fade g ns i) (entries-fade g 1 ns i) (defines-fade g ns i)

  pub handed-fade : (ns : List Node) → handed_on (map (fade g) ns) ≡ handed_on ns
  unfolding handing
  handed-fade ns = λ i. handing (any_hole-fade g ns i) (touches-fade g ns i) (entries-fade g 1 ns i) []

  parameters-fade : (l : Local) (c : Class) (names type_name : Node) →
      declaration (names ∷ type_name ∷ []) (at_kid 1 (repeats l.passed 1 (kids_below (fade g names))) ++ at_kid 2 (type_name_entries (fade g type_name)))
      (all_as (record (declared_as c l.owner) { type = type_of_found (g type_name.found) }) (names_in (kids_below (fade g names))))
      ≡ declaration (names ∷ type_name ∷ []) (at_kid 1 (repeats l.passed 1 (kids_below names)) ++ at_kid 2 (type_name_entries type_name))
      (all_as (record (declared_as c l.owner) { type = type_of_found type_name.found }) (names_in (kids_below names)))
  parameters-fade l c names type_name = λ i. declaration (names ∷ type_name ∷ []) (at_kid 1 (repeats-fade g l.passed names i) ++ at_kid 2 (types-fade type_name i))
      (all_as (record (declared_as c l.owner) { type = same.types type_name.found i }) (names-fade g names i))

  -- what is found at a node of declarations
  pub rule-fade : (l : Local) (s : Seen) (f : FormOf Node) → is_declaring (kind_in f) ≡ true → faded g (rule_of l (fade_seen g s) (each (fade g) f)) ≡ faded g (rule_of l s f)
  unfolding enumerated record_made
  rule-fade l s (form.Name word) e = λ i. record plain { found = same.twice s.found i }
  rule-fade l s (form.Hole sort) e = refl
  rule-fade l s (form.Cnumber word) e = refl
  rule-fade l s (form.Cstring word) e = refl
  rule-fade l s (form.Cname name) e =
      λ i. faded g (constant_node (is_hole name.kind) (at_kid 1 (name-fade name is_constant_class is_required_constant (codes "constant") i)) (same.values name.found i))
  rule-fade l s (form.Csign sign constant) e = refl
  rule-fade l s (form.Tname name) e = λ i. faded g (denoter_node (name ∷ []) (at_kid 1 (types-fade name i)) (same.types name.found i))
  rule-fade l s (form.Enum names) e = λ i. faded g (enumerated l names.hole (repeats-fade g l.passed names i) (names-fade g names i))
  rule-fade l s (form.Subrange low high) e = refl
  rule-fade l s (form.Array indexes element) e =
      λ i. faded g (sized (indexes ∷ element ∷ []) (at_kid 1 (indexes-fade g index_type_entries (λ n. refl) indexes i) ++ at_kid 2 element.as_value.entries)
      (option_and_then (λ (t : Typed). arrays-fade g (defined_here l) l.packed indexes t i) element.as_value.type))
  rule-fade l s (form.Record fields) e = λ i. faded g (record_made l fields (field_repeats-fade g same.keeps fields i) (row-fade g same.keeps fields i))
  rule-fade l s form.Record0 e = refl
  rule-fade l s (form.Setof base) e = refl
  rule-fade l s (form.Packed unpacked) e = refl
  rule-fade l s (form.Pointer name) e =
      λ i. faded g (denoter_node (name ∷ []) (at_kid 1 (if same.later name.found i then [] else types-fade name i)) (same.pointers l (lowered name.word) name.found i))
  rule-fade l s (form.Constdef name value) e = refl
  rule-fade l s (form.Typedef name denoter) e = refl
  rule-fade l s (form.Vardef names denoter) e =
      λ i. faded g (declaration (names ∷ denoter ∷ []) (at_kid 1 (repeats-fade g l.passed names i) ++ at_kid 2 denoter.as_value.entries)
      (all_as (record (declared_as VariableName l.owner) { type = completed denoter.as_value.type }) (names-fade g names i) ++ denoter.defines))
  rule-fade l s (form.Consts definitions) e = ap (faded g) (list-fade definitions)
  rule-fade l s (form.Types definitions) e = ap (faded g) (list-fade definitions)
  rule-fade l s (form.Vars declarations) e = ap (faded g) (list-fade declarations)
  rule-fade l s (form.Routines routines) e = ap (faded g) (list-fade routines)
  rule-fade l s (form.Indexes indexes) e = ap (faded g) (list-fade indexes)
  rule-fade l s (form.Fields fields) e = ap (faded g) (list-fade fields)
  rule-fade l s (form.Field names denoter) e = refl
  rule-fade l s (form.Params groups) e = ap (faded g) (list-fade groups)
  rule-fade l s (form.Procedure name params block) e =
      ap (λ (b : Bool). faded g (routine_rule l ProcedureName b true name (params ∷ block ∷ [])))
      (ap (λ (ns : List Node). not (length ns == 0)) (nodes-fade g params.below) ∙ ap (λ (n : ℕ). not (n == 0)) (length-fade g (kids_below params)))
  rule-fade l s (form.Function name params result block) e = refl
  rule-fade l s (form.Funbody name block) e = refl
  rule-fade l s (form.Valparam names type_name) e = ap (faded g) (parameters-fade l ValueName names type_name)
  rule-fade l s (form.Varparam names type_name) e = ap (faded g) (parameters-fade l ReferenceName names type_name)
  rule-fade l s (form.Names names) e = ap (faded g) (handed-fade names)
  rule-fade l s (form.Block consts types vars routines body) e = refl
  rule-fade l s (form.Forward word) e = refl
  rule-fade l s _ e = absurd (true≢false (sym e))

  -- the form of its kids
  pub form-fade : (k : Kind) (w : List ℕ) (m : Marked) → form_from k w (nodes (all_faded g m)) missing ≡ each (fade g) (form_from k w (nodes m) missing)
  form-fade k w m = (λ i. form_from k w (nodes-fade g m i) (sym (missing-fade g same.keeps) i)) ∙ form_from-map (fade g) k w (nodes m) missing

  pub node-fade : (l : Local) (k : Kind) (w : List ℕ) (s : Seen) (m : Marked) → is_declaring k ≡ true →
      faded g (rule l k w (fade_seen g s) (all_faded g m)) ≡ faded g (rule l k w s m)
  unfolding rule
  node-fade l k w s m e =
      ap (λ (f : FormOf Node). with_kind k w (faded g (rule_of l (fade_seen g s) f))) (form-fade k w m)
      ∙ ap (with_kind k w) (rule-fade l s (form_from k w (nodes m) missing) (ap is_declaring (kind_in-form_from k w (nodes m) missing) ∙ e))
