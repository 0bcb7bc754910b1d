-- What a used name means: the place of the first name that declares it (ISO 7185, 6.2.2, 6.8.3.10).
use Rattle.std.specs.Prelude.{ℕ, List, [], ◌∷◌, ◌++◌, Option, Some, None}
use Rattle.std.specs.Option.{option_and_then, option_or}
use Rattle.pc_syntax.specs.Plain.{Plain}
use Rattle.pc_syntax.specs.Places.{at}
use Rattle.pc_syntax.specs.Words.{lowered}
use Rattle.pc_scope.specs.Declarations.{Meant, HereAt, LaterAt, RequiredAt, MissingAt}
use Rattle.pc_scope.specs.Lookup.{lookup}
use Rattle.pc_decl.specs.Nodes.{above, kid_number, kind_at}
use Rattle.pc_decl.specs.Annotated.{Annotated, annotated}
use Rattle.pc_decl.specs.Uses.{Use, LookedUp, OfField, Unused, use_of, opened_at}
use Rattle.pc_decl.specs.Records.{field_of}

-- the place of a field that has this name, of the first of these accesses that has one
abbrev pub open_field : Annotated → List ℕ → List (List ℕ) → Option (List ℕ)
open_field p n [] = None
open_field p n (q ∷ qs) = option_or (field_of p n q) (open_field p n qs)

-- the place of a declaration that is looked up, also of one that stands later
abbrev pub place_of : Meant → Option (List ℕ)
place_of (HereAt q) = Some q
place_of (LaterAt q) = Some q
place_of RequiredAt = None
place_of MissingAt = None

-- what a name at a place means by its use there: a field that a `with` opens comes before a declaration
abbrev pub meant_by : Annotated → List ℕ → List ℕ → Use → Option (List ℕ)
meant_by p q n LookedUp = option_or (open_field p n (opened_at p.tree q)) (place_of (lookup p.tree n q))
meant_by p q n OfField = field_of p n (above q ++ 1 ∷ [])
meant_by p q n Unused = None

-- what the node at a place means
abbrev pub meant_of : Annotated → List ℕ → Plain → Option (List ℕ)
meant_of p q node = meant_by p q (lowered node.word) (use_of node.kind (kind_at p.tree (above q)) (kid_number q))

-- the same of a program with what is found at its nodes
unfoldable pub meant_in : Annotated → List ℕ → Option (List ℕ)
meant_in p q = option_and_then (meant_of p q) (at q p.tree)

-- The place of the first name that declares what the used name at a place means. None where no name of the program does, as for a required
-- name, and where there is no used name.
unfoldable pub meant : Plain → List ℕ → Option (List ℕ)
meant t q = meant_in (annotated t) q
