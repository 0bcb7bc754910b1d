-- The text of the view `uses` by pairs: each used name with the place of its declaration.
use Rattle.std.specs.Prelude.{◌≡◌, ℕ, if◌then◌else◌, List, [], ◌∷◌, ◌++◌, codes, Option, Some, None}
use Rattle.std.specs.Option.{option_and_then, option_map_or, is_some}
use Rattle.std.specs.List.{flat_map}
use Rattle.std.specs.Str.{bytes_eq}
use Rattle.pc_syntax.specs.Places.{at}
use Rattle.pc_syntax.specs.Plain.{Plain}
use Rattle.pc_syntax.specs.WellFormed.{IsProper}
use Rattle.pc_syntax.specs.Words.{lowered}
use Rattle.pc_scope.specs.Declarations.{Declared}
use Rattle.pc_scope.specs.Lookup.{lookup}
use Rattle.pc_decl.specs.Annotated.{Annotation, Annotated, annotated}
use Rattle.pc_decl.specs.Declared.{names_of, later_of, routines_with_key}
use Rattle.pc_decl.specs.Meant.{open_field, place_of}
use Rattle.pc_decl.specs.Shown.{owner_text, path_text}
use Rattle.pc_decl.specs.Uses.{opened_at}
use Rattle.pc_decl.specs.UsesText.{used_among, uses_text}

-- a used name: its place, and that of the declaration that it means
pub record UsePair : Type 0 where
  pub place : List ℕ
  pub declaration : List ℕ

-- the place of the declaration that a name at a place means by look-up; none where an open record has a field of this name
abbrev pub declaration_meant : Annotated → List ℕ → List ℕ → Option (List ℕ)
declaration_meant p q n = if is_some (open_field p n (opened_at p.tree q)) then None else place_of (lookup p.tree n q)

-- the pair of a name with what it means, if it means a declaration
abbrev pub pair_with : List ℕ → Option (List ℕ) → List UsePair
pair_with q None = []
pair_with q (Some d) = record { place = q; declaration = d } ∷ []

-- the pair of the name that is looked up at a place
abbrev pub pair_at : Annotated → List ℕ → List UsePair
pair_at p q = pair_with q (option_and_then (λ (node : Plain). declaration_meant p q (lowered node.word)) (at q p.tree))

-- the pairs of the names that are looked up in a program, in preorder of the uses
abbrev pub use_pairs : Annotated → List UsePair
use_pairs p = flat_map (pair_at p) (used_among [] p.tree.kind 1 p.tree.kids)

-- the path of a use behind a space, if it is one of the name that is declared at a place
abbrev pub path_if_paired : List ℕ → UsePair → List ℕ
path_if_paired q u = if bytes_eq q u.declaration then codes " " ++ path_text u.place else []

-- the line of a name: the key of the routine, the name, and the paths of its uses
abbrev pub pairs_line : List UsePair → List ℕ → Declared → List ℕ
pairs_line us key d = key ++ codes " " ++ d.name ++ codes ":" ++ flat_map (path_if_paired d.place) us ++ codes "\n"

-- the lines of the names of a routine
abbrev pub pairs_lines : Plain → List UsePair → List ℕ → Annotation → List ℕ
pairs_lines t us key r = flat_map (pairs_line us key) (names_of t r.routine)

-- the lines of a routine: its names, and those of its later declaration
abbrev pub routine_pairs : Annotated → List UsePair → Annotation → List ℕ
routine_pairs p us r =
    let key = owner_text r.routine.owner in pairs_lines p.tree us key r ++ option_map_or (pairs_lines p.tree us key) (later_of p.routines r) []

-- they are the text of the view
abbrev pub PairsLaw : Type 0
PairsLaw = (t : Plain) → IsProper t → uses_text t ≡ flat_map (routine_pairs (annotated t) (use_pairs (annotated t))) (routines_with_key (annotated t))
