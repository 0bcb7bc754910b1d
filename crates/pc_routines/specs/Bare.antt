-- A routine in the own block around it: its entries there, and what it declares (ISO 7185, 6.2.2.7, 6.6.1, 6.6.2).
use Rattle.std.specs.Prelude.{◌≡◌, ℕ, Bool, true, false, not, ◌&&◌, ◌==◌, if◌then◌else◌, List, [], ◌∷◌, length, Option, Some, None, codes, ◌++◌, slice_get}
use Rattle.std.specs.Option.{option_map_or}
use Rattle.pc_syntax.specs.Plain.{Forest, Nil, Cons, Plain, count, trees_of}
use Rattle.pc_syntax.specs.declared.kind.Kind.{Kind}
use Rattle.pc_syntax.specs.declared.kind.Kind.TheVariants as kind
use Rattle.pc_syntax.specs.Words.{is_among}
use Rattle.pc_types.specs.declared.form.OwnerId.{OwnerId}
use Rattle.pc_scope.specs.Headings.{first_name, has_later}
use Rattle.pc_names.specs.declared.id.NameId.{NameId}
use Rattle.pc_names.specs.declared.name_class.NameClass.{NameClass}
use Rattle.pc_names.specs.declared.name_class.NameClass.TheVariants as class
use Rattle.pc_rules.specs.Attributes.{at_kid, Entry}
use Rattle.pc_rules.specs.Declarations.{heading_here, rest_of, is_later_declaration, routine_class}
use Rattle.pc_rules.specs.Meanings.{Meaning, Local, Outside, declared_as}
use Rattle.pc_environment.specs.Decorating.{attributes_at}
use Rattle.pc_facts.specs.declared.sighting.Declared.{Declared}
use Rattle.pc_places.specs.Places.{AddsDeclaration}
use Rattle.pc_places.specs.declared.tables.Tables.{Tables}
use Rattle.pc_routines.specs.declared.facts.RoutineFacts.{RoutineFacts}
use Rattle.pc_rules.specs.Entries.{note_if, quoted}
use Rattle.pc_rules.specs.OwnBlock.{bare_heading}

-- a routine without its block, and its parameters as nodes alone
abbrev pub bare_routine : Plain → Plain
bare_routine t = record { kind = t.kind; word = t.word; notes = t.notes; kids = bare_heading t.kids }

-- whether the second of some trees has kids
abbrev pub second_has_kids : Forest → Bool
second_has_kids ks = option_map_or (λ (p : Plain). not (count p.kids == 0)) (slice_get (trees_of ks) 1) false

-- whether the heading of a routine has parameters or a result type
abbrev pub is_given : Kind → Forest → Bool
is_given kind.Procedure ks = second_has_kids ks
is_given kind.Function ks = true
is_given _ ks = false

-- whether the heading has the result type that it needs
abbrev pub is_typed : Kind → Bool
is_typed kind.Funbody = false
is_typed _ = true

-- the word of the first of some trees
abbrev pub first_word : Forest → List ℕ
first_word Nil = []
first_word (Cons k w ns ks ts) = w

-- rows 3, 20, 21 and 22 of a routine with this name, by whether each is met
abbrev pub routine_notes : Bool → Bool → Bool → Bool → Bool → List ℕ → List Entry
routine_notes later given second untyped unfinished w =
    if later then note_if given 21 (quoted (codes "heading given again") w)
    else at_kid 1 (note_if second 3 (quoted (codes "declared twice") w) ++ note_if untyped 22 (quoted (codes "result type not simple") w))
    ++ note_if unfinished 20 (quoted (codes "forward has no block") w)

-- the kind of the first of some trees
abbrev pub first_kind : Forest → Kind
first_kind Nil = kind.Empty
first_kind (Cons k w ns ks ts) = k

-- the entries of a routine with this kind and these kids where it stands
abbrev pub routine_notes_at : Local → Kind → Forest → List Entry
routine_notes_at l k ks =
    let is_named = not (length (first_name ks) == 0) in
    routine_notes (is_later_declaration l) (is_given k ks) (is_named && is_among l.passed (first_name ks)) (not (is_typed k) && is_named)
    ((heading_here l).is_forward && is_named && not (has_later (heading_here l) (rest_of l.ahead))) (first_word ks)

-- what a routine with this kind and these kids declares where it stands
abbrev pub routine_defines_at : Local → Kind → Forest → List (List ℕ × Meaning)
routine_defines_at l k ks =
    if is_later_declaration l then [] else (if length (first_name ks) == 0 then [] else (first_name ks, declared_as (routine_class k) l.owner) ∷ [])

-- what was made of a routine is what the rules find where it stands: its entries in its own block, whether it is the later declaration of a
-- forward one, and whether it is the first of its name
pub record IsRoutine (out : Outside) (l : Local) (t : Plain) (f : RoutineFacts) : Type 0 where
  pub entries : f.entries.items ≡ (attributes_at out l (bare_routine t)).as_value.entries
  pub later : f.later ≡ is_later_declaration l
  pub first : f.first ≡ (not (is_later_declaration l) && not (length (heading_here l).name == 0) && not (is_among l.passed (heading_here l).name))

-- as what the name of a routine is declared
abbrev pub class_of : Bool → NameClass
class_of true = class.Function
class_of false = class.Procedure

-- the declaration of a routine, its signature aside
abbrev pub declared_routine : OwnerId → NameId → Bool → Declared
declared_routine owner name is_function = record { class = class_of is_function; owner = owner; name = name; value = None; of = None; signature = None }

-- the last declaration is that of a routine with this name; a later declaration of a forward one, or one without a name, adds none
abbrev pub AddsRoutine : ℕ → OwnerId → Option NameId → Bool → Bool → Tables → Tables → Type 0
AddsRoutine block owner name is_function true old new = new ≡ old
AddsRoutine block owner None is_function false old new = new ≡ old
AddsRoutine block owner (Some name) is_function false old new = AddsDeclaration block name.0 (declared_routine owner name is_function) old new
