-- The text of the view `expr`: the types of the parts of an expression.
use Rattle.std.specs.Prelude.{ℕ, Bool, true, false, if◌then◌else◌, List, [], ◌∷◌, ◌++◌, codes, zero, suc}
use Rattle.std.specs.Option.{option_map_or}
use Rattle.pc_syntax.specs.declared.kind.Kind.{Kind}
use Rattle.pc_syntax.specs.Plain.{Plain, Forest, Nil, Cons}
use Rattle.pc_syntax.specs.Places.{at}
use Rattle.pc_syntax.specs.Sorts.{is_hole}
use Rattle.pc_syntax.specs.Templates.{kind_name}
use Rattle.pc_decl.specs.Nodes.{above, kid_number, is_expression}
use Rattle.pc_decl.specs.Annotated.{Annotated, annotated}
use Rattle.pc_decl.specs.TypeAt.{type_in}
use Rattle.pc_decl.specs.TypeText.{known_or}
use Rattle.pc_syntax.specs.declared.kind.Kind.TheVariants as kind

-- two spaces a level
abbrev pub indentation : ℕ → List ℕ
indentation zero = []
indentation (suc n) = codes "  " ++ indentation n

-- the name that is the first of these nodes, as written; a hole as it prints
abbrev pub first_as_written : Forest → List ℕ
first_as_written Nil = []
first_as_written (Cons k w ns ks ts) = if is_hole k then kind_name k else w

-- the nodes behind the first
abbrev pub behind_first : Forest → Forest
behind_first Nil = Nil
behind_first (Cons k w ns ks ts) = ts

-- the word that is shown of a node: the name of a variable or a function, the field that is selected, and else the node's own
abbrev pub word_shown : Kind → List ℕ → Forest → List ℕ
word_shown kind.Ref w ks = first_as_written ks
word_shown kind.Call w ks = first_as_written ks
word_shown kind.Select w ks = first_as_written (behind_first ks)
word_shown k w ks = w

-- a word behind a space, where it isn't empty
abbrev pub behind_space : List ℕ → List ℕ
behind_space [] = []
behind_space (b ∷ bs) = codes " " ++ b ∷ bs

-- whether a node is `nil`, in parentheses too
abbrev pub is_nil : Kind → Forest → Bool
is_nil kind.Nil ks = true
is_nil kind.Parens (Cons k w ns ks ts) = is_nil k ks
is_nil k ks = false

-- the text for a node whose type has no structure: `nil`, or a question mark
abbrev pub without_structure : Kind → Forest → List ℕ
without_structure k ks = if is_nil k ks then codes "nil" else codes "?"

-- what is shown of the node at a place: its kind, its word, and its type
abbrev pub part_text : Annotated → List ℕ → Kind → List ℕ → Forest → List ℕ
part_text p q k w ks = kind_name k ++ behind_space (word_shown k w ks) ++ codes " " ++ known_or (without_structure k ks) (type_in p q)

-- the lines of the expressions among kids of the node at a place, the first of which is kid i, and of those below them, a level deeper
abbrev pub part_lines : Annotated → ℕ → List ℕ → ℕ → Forest → List ℕ
part_lines p level q i Nil = []
part_lines p level q i (Cons k w ns ks ts) =
    (if is_expression k then indentation level ++ part_text p (q ++ i ∷ []) k w ks ++ codes "\n" else [])
    ++ part_lines p (if is_expression k then suc level else level) (q ++ i ∷ []) 1 ks ++ part_lines p level q (suc i) ts

-- the lines of the node at a place
abbrev pub lines_of : Plain → List ℕ → Plain → List ℕ
lines_of t q node =
    if is_expression node.kind then part_lines (annotated t) 0 (above q) (kid_number q) (Cons node.kind node.word node.notes node.kids Nil)
    else codes "not an expression\n"

-- the text of the view of a place
unfoldable pub expr_text : Plain → List ℕ → List ℕ
expr_text t q = option_map_or (lines_of t q) (at q t) (codes "no such place\n")
