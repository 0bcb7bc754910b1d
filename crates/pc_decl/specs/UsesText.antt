-- The text of the view `uses`: where each declared name is used.
use Rattle.std.specs.Prelude.{ℕ, Bool, false, if◌then◌else◌, List, [], ◌∷◌, ◌++◌, Option, Some, None, codes, map, suc}
use Rattle.std.specs.Option.{option_map_or}
use Rattle.std.specs.List.{flat_map}
use Rattle.std.specs.Str.{bytes_eq}
use Rattle.pc_syntax.specs.declared.kind.Kind.{Kind}
use Rattle.pc_syntax.specs.Plain.{Plain, Forest, Nil, Cons}
use Rattle.pc_scope.specs.Declarations.{Declared}
use Rattle.pc_decl.specs.Annotated.{Annotation, Annotated, annotated}
use Rattle.pc_decl.specs.Uses.{Use, LookedUp, use_of}
use Rattle.pc_decl.specs.Meant.{meant_in}
use Rattle.pc_decl.specs.Declared.{names_of, later_of, routines_with_key}
use Rattle.pc_decl.specs.Shown.{path_text, owner_text}

-- the place of a name that is looked up; a field is no declared name
abbrev pub place_used : Use → List ℕ → List (List ℕ)
place_used LookedUp q = q ∷ []
place_used u q = []

-- the places of the names that are looked up, in preorder, among kids of the node at a place with a kind, and below them; the first is kid i
abbrev pub used_among : List ℕ → Kind → ℕ → Forest → List (List ℕ)
used_among p outer i Nil = []
used_among p outer i (Cons k w ns ks ts) =
    place_used (use_of k outer i) (p ++ i ∷ []) ++ used_among (p ++ i ∷ []) k 1 ks ++ used_among p outer (suc i) ts

-- a used name: its place, and what it means
pub record UsedName : Type 0 where
  pub place : List ℕ
  pub meaning : Option (List ℕ)

-- the used names of a program, in preorder
abbrev pub used_names : Annotated → List UsedName
used_names p = map (λ (q : List ℕ). record { place = q; meaning = meant_in p q }) (used_among [] p.tree.kind 1 p.tree.kids)

-- whether a used name means what is declared at a place
abbrev pub means_place : List ℕ → Option (List ℕ) → Bool
means_place q None = false
means_place q (Some r) = bytes_eq q r

-- the path of a used name behind a space, if it means what is declared at a place
abbrev pub path_if_meant : List ℕ → UsedName → List ℕ
path_if_meant q u = if means_place q u.meaning then codes " " ++ path_text u.place else []

-- the line of a name: the key of the routine, the name, and the paths of those that mean it
abbrev pub uses_line : List UsedName → List ℕ → Declared → List ℕ
uses_line us key d = key ++ codes " " ++ d.name ++ codes ":" ++ flat_map (path_if_meant d.place) us ++ codes "\n"

-- the lines of the names of a routine
abbrev pub uses_lines : Plain → List UsedName → List ℕ → Annotation → List ℕ
uses_lines t us key r = flat_map (uses_line us key) (names_of t r.routine)

-- the lines of a routine: its names, and those of its later declaration
abbrev pub routine_uses : Annotated → List UsedName → Annotation → List ℕ
routine_uses p us r =
    let key = owner_text r.routine.owner in uses_lines p.tree us key r ++ option_map_or (uses_lines p.tree us key) (later_of p.routines r) []

-- the text of the view, of a program with what is found at its nodes
abbrev pub uses_in : Annotated → List ℕ
uses_in p = let us = used_names p in flat_map (routine_uses p us) (routines_with_key p)

-- the text of the view
unfoldable pub uses_text : Plain → List ℕ
uses_text t = uses_in (annotated t)
