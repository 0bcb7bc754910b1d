-- Where what the rules find at a name, and what `meant` and `type_at` say of it, don't agree.
use Rattle.std.specs.Prelude.{ℕ, Bool, true, false, not, ◌&&◌, ◌||◌, if◌then◌else◌, List, [], ◌∷◌, ◌++◌, Option, Some, None, map, suc}
use Rattle.std.specs.Option.{option_map_or, option_and_then, is_none}
use Rattle.std.specs.List.{flat_map}
use Rattle.std.specs.Str.{bytes_eq}
use Rattle.pc_syntax.specs.declared.kind.Kind.{Kind}
use Rattle.pc_syntax.specs.Plain.{Plain, Forest, Nil, Cons}
use Rattle.pc_syntax.specs.Words.{is_among}
use Rattle.pc_types.specs.Shapes.{Shape}
use Rattle.pc_scope.specs.Declarations.{Declared}
use Rattle.pc_rules.specs.Meanings.{Found, Here, Later, Component, Required, Missing}
use Rattle.pc_rules.specs.Attributes.{Attributes}
use Rattle.pc_decl.specs.Nodes.{above, kind_at}
use Rattle.pc_decl.specs.Annotated.{Annotation, Annotated, annotated}
use Rattle.pc_decl.specs.Found.{attributes_at}
use Rattle.pc_decl.specs.Roles.{expression_type}
use Rattle.pc_decl.specs.Uses.{Use, LookedUp, OfField, Unused, use_of}
use Rattle.pc_decl.specs.Meant.{meant_in}
use Rattle.pc_decl.specs.Declared.{names_of, meaning_in, shape_declared}
use Rattle.pc_decl.specs.FieldTypes.{shape_of, is_field_kind}
use Rattle.pc_decl.specs.TypeAt.{structure_of, type_in}
use Rattle.pc_decl.specs.TypeText.{known_or}
use Rattle.pc_syntax.specs.declared.kind.Kind.TheVariants as kind

-- whether the name at a place is that of a field
abbrev pub is_field_place : Annotated → List ℕ → Bool
is_field_place p q = is_field_kind (kind_at p.tree (above (above q)))

-- the places of all names that the routines declare
abbrev pub declared_places : Annotated → List (List ℕ)
declared_places p = flat_map (λ (r : Annotation). map (λ (d : Declared). d.place) (names_of p.tree r.routine)) p.routines

-- whether a place is there, and is that of a field or of a declaration
abbrev pub declares : Annotated → Bool → Option (List ℕ) → Bool
declares p field None = false
declares p field (Some q) = if field then is_field_place p q else is_among (declared_places p) q

-- whether the type at a place of a declaration is this
abbrev pub has_type : Annotated → Option Shape → Option (List ℕ) → Bool
has_type p t q = bytes_eq (known_or [] (option_and_then structure_of t)) (known_or [] (option_and_then (type_in p) q))

-- whether a name has this parent in a statement part, where each declaration is complete
abbrev pub in_statements : Kind → Bool
in_statements kind.Ref = true
in_statements kind.Call = true
in_statements kind.For = true
in_statements kind.Proc = true
in_statements k = false

-- whether what is found agrees with the place that a name means
abbrev pub found_agrees : Annotated → Kind → Option (List ℕ) → Found → Bool
found_agrees p outer q (Here m) = declares p false q && (not (in_statements outer) || has_type p (shape_declared m.class m) q)
found_agrees p outer q (Later c) = declares p false q
found_agrees p outer q (Component t packed) = declares p true q && has_type p (Some t.shape) q
found_agrees p outer q (Required n) = is_none q
found_agrees p outer q Missing = is_none q

-- whether nothing is found
abbrev pub is_missing : Found → Bool
is_missing Missing = true
is_missing f = false

-- whether the use of a node agrees with what is found at it; that of a field with the type of the selection
abbrev pub use_agrees : Annotated → Kind → List ℕ → Attributes → Use → Bool
use_agrees p outer q a LookedUp = found_agrees p outer (meant_in p q) a.found
use_agrees p outer q a OfField = is_missing a.found && has_type p (shape_of (expression_type p (above q))) (meant_in p q)
use_agrees p outer q a Unused = is_missing a.found && is_none (meant_in p q)

-- whether they agree at the node at a place, the kid with a number of one with a kind; something is found at each node
abbrev pub agrees_at : Annotated → Kind → List ℕ → Kind → ℕ → Bool
agrees_at p outer q k i = option_map_or (λ (a : Attributes). use_agrees p outer q a (use_of k outer i)) (attributes_at p q) false

-- the places among kids of the node at a place with a kind, and below them, where they don't; the first is kid i
abbrev pub disagreeing : Annotated → List ℕ → Kind → ℕ → Forest → List (List ℕ)
disagreeing p q outer i Nil = []
disagreeing p q outer i (Cons k w ns ks ts) =
    (if agrees_at p outer (q ++ i ∷ []) k i then [] else (q ++ i ∷ []) ∷ []) ++ disagreeing p (q ++ i ∷ []) k 1 ks ++ disagreeing p q outer (suc i) ts

-- the place of a name that a routine declares, if it means nothing where the block ends
abbrev pub place_if_meaningless : Annotation → Declared → List (List ℕ)
place_if_meaningless r d = if is_none (meaning_in r d.name) then d.place ∷ [] else []

-- the places of such names of a routine
abbrev pub meaningless : Plain → Annotation → List (List ℕ)
meaningless t r = flat_map (place_if_meaningless r) (names_of t r.routine)

-- whether there is no such place, or the first of them
pub data Disagreement : Type 0 where
  Agrees : Disagreement
  DisagreesAt : List ℕ → Disagreement

-- the first of these places, if there is one
abbrev pub first_of : List (List ℕ) → Disagreement
first_of [] = Agrees
first_of (q ∷ qs) = DisagreesAt q

-- where a program first disagrees
unfoldable pub disagreement : Plain → Disagreement
disagreement t = let p = annotated t in first_of (disagreeing p [] t.kind 1 t.kids ++ flat_map (meaningless t) p.routines)
