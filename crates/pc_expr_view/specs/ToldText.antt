-- The text of the view `expr` from types that are told by their numbers, in preorder.
use Rattle.std.specs.Prelude.{ℕ, Bool, true, false, if◌then◌else◌, List, [], ◌∷◌, ◌++◌, Option, None, codes, suc}
use Rattle.std.specs.Option.{option_map_or}
use Rattle.pc_syntax.specs.declared.kind.Kind.{Kind}
use Rattle.pc_syntax.specs.Plain.{Plain, Forest, Nil, Cons}
use Rattle.pc_syntax.specs.Sorts.{is_hole}
use Rattle.pc_syntax.specs.Templates.{kind_name}
use Rattle.pc_types.specs.Shapes.{Shape, NilType, NoMembers}
use Rattle.pc_types.specs.Table.{Table}
use Rattle.pc_types.specs.declared.form.Form.{Form}
use Rattle.pc_types.specs.declared.form.Form.TheVariants as form
use Rattle.pc_types.specs.declared.operand.Operand.{Operand}
use Rattle.pc_decl.specs.Nodes.{is_expression}
use Rattle.pc_decl.specs.TypeText.{known_or}
use Rattle.pc_decl.specs.ExprText.{indentation, word_shown, behind_space, without_structure}
use Rattle.pc_expr_view.specs.PartTypes.{has_type}

-- the first of the types that are told; unknown where there is none
abbrev pub first_told : List (Option Operand) → Option Operand
first_told [] = None
first_told (o ∷ os) = o

-- the types that are told behind the first
abbrev pub behind_told : List (Option Operand) → List (Option Operand)
behind_told [] = []
behind_told (o ∷ os) = os

-- the types that are told behind that of a node of this kind, if it is an expression
abbrev pub behind_own : Kind → List (Option Operand) → List (Option Operand)
behind_own k os = if is_expression k then behind_told os else os

-- the types that are told behind those of trees in a row and of all below them
abbrev pub behind_all : Forest → List (Option Operand) → List (Option Operand)
behind_all Nil os = os
behind_all (Cons k w ns ks ts) os = behind_all ts (behind_all ks (behind_own k os))

-- the types that are told behind those of a node and of all below it
abbrev pub behind_node : Plain → List (Option Operand) → List (Option Operand)
behind_node node os = behind_all node.kids (behind_own node.kind os)

-- the level of what is below a node of this kind
abbrev pub level_below : Kind → ℕ → ℕ
level_below k level = if is_expression k then suc level else level

-- what is shown of the type of a node of this kind and these kids, by its number
abbrev pub type_told : Table → Kind → Forest → Option Operand → List ℕ
type_told table k ks o = known_or (without_structure k ks) (has_type table o)

-- what is shown of a node: its kind, its word, and its type
abbrev pub part_told : Table → Kind → List ℕ → Forest → Option Operand → List ℕ
part_told table k w ks o = kind_name k ++ behind_space (word_shown k w ks) ++ codes " " ++ type_told table k ks o

-- the line of a node with the first type that is told; nothing where it is no expression
abbrev pub line_told : Table → ℕ → Kind → List ℕ → Forest → List (Option Operand) → List ℕ
line_told table level k w ks os = if is_expression k then indentation level ++ part_told table k w ks (first_told os) ++ codes "\n" else []

-- the lines of the expressions among trees in a row, and of those below them, a level deeper
abbrev pub lines_told : Table → ℕ → Forest → List (Option Operand) → List ℕ
lines_told table level Nil os = []
lines_told table level (Cons k w ns ks ts) os =
    line_told table level k w ks os ++ lines_told table (level_below k level) ks (behind_own k os) ++ lines_told table level ts (behind_all ks (behind_own k os))

-- the lines of a node and of the expressions below it
abbrev pub node_told : Table → ℕ → Plain → List (Option Operand) → List ℕ
node_told table level node os =
    line_told table level node.kind node.word node.kids os ++ lines_told table (level_below node.kind level) node.kids (behind_own node.kind os)

-- the lines of the node at a place
abbrev pub place_told : Table → List (Option Operand) → Plain → List ℕ
place_told table os node = if is_expression node.kind then node_told table 0 node os else codes "not an expression\n"

-- the text of the view of a place
abbrev pub text_told : Table → List (Option Operand) → Option Plain → List ℕ
text_told table os found = option_map_or (place_told table os) found (codes "no such place\n")

-- a name as it is written; a hole as it prints
abbrev pub as_written : Plain → List ℕ
as_written name = if is_hole name.kind then kind_name name.kind else name.word

-- whether a type has a structure: all but that of `nil` and that of a set constructor without members
abbrev pub has_structure : Shape → Bool
has_structure NilType = false
has_structure NoMembers = false
has_structure t = true

-- whether a type of this form has a structure
abbrev pub form_has_structure : Form → Bool
form_has_structure form.Nil = false
form_has_structure (form.Members None) = false
form_has_structure f = true
