-- The types of the parts of an expression, in the order of their lines, and what it is to have them by their numbers.
use Rattle.std.specs.Prelude.{◌≡◌, ℕ, if◌then◌else◌, List, [], ◌∷◌, ◌++◌, Option, suc}
use Rattle.std.specs.Option.{option_and_then, option_map, option_map_or}
use Rattle.pc_syntax.specs.Plain.{Plain, Forest, Nil, Cons}
use Rattle.pc_syntax.specs.Places.{at}
use Rattle.pc_types.specs.Expanded.{Ty}
use Rattle.pc_types.specs.Table.{Table, shape_at}
use Rattle.pc_types.specs.declared.operand.Operand.{Operand}
use Rattle.pc_decl.specs.Nodes.{above, kid_number, is_expression}
use Rattle.pc_decl.specs.Annotated.{Annotated, annotated}
use Rattle.pc_decl.specs.TypeAt.{structure_of, type_in}

-- the types of the expressions among kids of the node at a place, the first of which is kid i, and of those below them, in preorder
abbrev pub types_among : Annotated → List ℕ → ℕ → Forest → List (Option Ty)
types_among p q i Nil = []
types_among p q i (Cons k w ns ks ts) =
    (if is_expression k then type_in p (q ++ i ∷ []) ∷ [] else []) ++ types_among p (q ++ i ∷ []) 1 ks ++ types_among p q (suc i) ts

-- the types of the node at a place and of the expressions below it; none where the node is no expression
abbrev pub types_of_node : Plain → List ℕ → Plain → List (Option Ty)
types_of_node t q node =
    if is_expression node.kind then types_among (annotated t) (above q) (kid_number q) (Cons node.kind node.word node.notes node.kids Nil) else []

-- the types of the expression at a place of a program and of those below it, in preorder; none where no expression is there
unfoldable pub types_at : Plain → List ℕ → List (Option Ty)
types_at t q = option_map_or (types_of_node t q) (at q t) []

-- the structure that a type by its number has, if one is known
abbrev pub has_type : Table → Option Operand → Option Ty
has_type table o = option_and_then structure_of (option_map (shape_at table) o)

-- types by their numbers have these structures, one by one, and are as many
abbrev pub HaveTypes : Table → List (Option Operand) → List (Option Ty) → Type 0
HaveTypes table [] [] = Unit {0}
HaveTypes table [] (t ∷ ts) = ⊥
HaveTypes table (o ∷ os) [] = ⊥
HaveTypes table (o ∷ os) (t ∷ ts) = (has_type table o ≡ t) × HaveTypes table os ts
