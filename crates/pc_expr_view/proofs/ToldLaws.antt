-- The text from what is told is the text of the view, where the types are those of the program.
use Rattle.std.proofs.Common.{◌≡◌, ℕ, true, false, List, [], ◌∷◌, ◌++◌, Option, Some, None, map, suc, refl, ap, sym, ◌∙◌, append_assoc, append-nil}
use Rattle.std.specs.Prelude.{codes, Bool, if◌then◌else◌}
use Rattle.std.specs.Option.{option_map_or}
use Rattle.pc_syntax.specs.declared.kind.Kind.{Kind}
use Rattle.pc_syntax.specs.Plain.{Plain, Forest, Nil, Cons}
use Rattle.pc_syntax.specs.Places.{at}
use Rattle.pc_types.specs.Expanded.{Ty}
use Rattle.pc_types.specs.Table.{Table}
use Rattle.pc_types.specs.declared.operand.Operand.{Operand}
use Rattle.pc_views.specs.Limit.{limited, Agrees}
use Rattle.pc_decl.specs.Nodes.{above, kid_number, is_expression}
use Rattle.pc_decl.specs.Annotated.{Annotated, annotated}
use Rattle.pc_decl.specs.TypeAt.{type_in}
use Rattle.pc_syntax.specs.Templates.{kind_name}
use Rattle.pc_decl.specs.TypeText.{known_or}
use Rattle.pc_decl.specs.ExprText.{indentation, behind_space, word_shown, without_structure, part_text, part_lines, lines_of, expr_text}
use Rattle.pc_decl.specs.AgreesLaws.{limited-agrees}
use Rattle.pc_expr_view.specs.PartTypes.{types_among, types_of_node, types_at, has_type, HaveTypes}
use Rattle.pc_expr_view.specs.ToldText.{first_told, behind_told, behind_own, behind_all, level_below, part_told, line_told, lines_told, node_told, place_told, text_told}

-- the structures of types by their numbers
abbrev structures : Table → List (Option Operand) → List (Option Ty)
structures table os = map (has_type table) os

-- types that have these structures have them as a list
structures-are : (table : Table) (os : List (Option Operand)) (ts : List (Option Ty)) → HaveTypes table os ts → structures table os ≡ ts
structures-are table [] [] h = refl
structures-are table [] (t ∷ ts) h = absurd h
structures-are table (o ∷ os) [] h = absurd h
structures-are table (o ∷ os) (t ∷ ts) h = ap (λ (u : Option Ty). u ∷ structures table os) h.0 ∙ ap (λ (us : List (Option Ty)). t ∷ us) (structures-are table os ts h.1)

-- of a list that begins with one structure, the first type has it
first-has : (table : Table) (os : List (Option Operand)) (t : Option Ty) (ts : List (Option Ty)) → structures table os ≡ t ∷ ts → has_type table (first_told os) ≡ t
first-has table [] t ts e = cc
first-has table (o ∷ os) t ts e = cc

-- and those behind it have the others
behind-has : (table : Table) (os : List (Option Operand)) (t : Option Ty) (ts : List (Option Ty)) → structures table os ≡ t ∷ ts → structures table (behind_told os) ≡ ts
behind-has table [] t ts e = cc
behind-has table (o ∷ os) t ts e = cc

-- the type of a node of this kind at a place, if it is an expression
abbrev own_type : Annotated → List ℕ → Kind → List (Option Ty)
own_type p q k = if is_expression k then type_in p q ∷ [] else []

-- the line of a node of this kind at a place, if it is an expression
abbrev own_line : Annotated → ℕ → List ℕ → Kind → List ℕ → Forest → List ℕ
own_line p level q k w ks = if is_expression k then indentation level ++ part_text p q k w ks ++ codes "\n" else []

-- the line from what is told is that of the node
own-told : (p : Annotated) (table : Table) (level : ℕ) (q : List ℕ) (k : Kind) (w : List ℕ) (ks : Forest) (os : List (Option Operand)) (more : List (Option Ty)) →
    structures table os ≡ own_type p q k ++ more → (line_told table level k w ks os ≡ own_line p level q k w ks) × (structures table (behind_own k os) ≡ more)
own-told p table level q k w ks os more =
    elim (is_expression k) as (λ (b : Bool). structures table os ≡ (if b then type_in p q ∷ [] else []) ++ more →
    ((if b then indentation level ++ part_told table k w ks (first_told os) ++ codes "\n" else []) ≡ (if b then indentation level ++ part_text p q k w ks ++ codes "\n" else []))
    × (structures table (if b then behind_told os else os) ≡ more)) [
      | true ↦ λ e. (
        ap (λ (t : Option Ty). indentation level ++ (kind_name k ++ behind_space (word_shown k w ks) ++ codes " " ++ known_or (without_structure k ks) t) ++ codes "\n") (first-has table os (type_in p q) more e),
        behind-has table os (type_in p q) more e,
      )
      | false ↦ λ e. (refl, e)
    ]

regroup : {A : Type 0} (a b c d : List A) → a ++ b ++ c ++ d ≡ a ++ (b ++ (c ++ d))
regroup a b c d = simp append_assoc

three : (a b c d e f : List ℕ) → a ≡ d → b ≡ e → c ≡ f → a ++ b ++ c ≡ d ++ e ++ f
three a b c d e f x y z = cc

-- the lines from what is told are those of the expressions among trees in a row, and what is told behind them is left
lines-told : (p : Annotated) (table : Table) (level : ℕ) (q : List ℕ) (i : ℕ) (ks : Forest) (os : List (Option Operand)) (more : List (Option Ty)) →
    structures table os ≡ types_among p q i ks ++ more → (lines_told table level ks os ≡ part_lines p level q i ks) × (structures table (behind_all ks os) ≡ more)
lines-told p table level q i Nil os more e = (refl, e)
lines-told p table level q i (Cons k w ns ks ts) os more e =
    let place : List ℕ = q ++ i ∷ [] in
    let below : List (Option Ty) = types_among p place 1 ks in
    let after : List (Option Ty) = types_among p q (suc i) ts in
    let own = own-told p table level place k w ks os (below ++ (after ++ more)) (e ∙ regroup (own_type p place k) below after more) in
    let kids = lines-told p table (level_below k level) place 1 ks (behind_own k os) (after ++ more) own.1 in
    let rest = lines-told p table level q (suc i) ts (behind_all ks (behind_own k os)) more kids.1 in
    (three _ _ _ _ _ _ own.0 kids.0 rest.0, rest.1)

-- the text for a node at a place
node-told : (table : Table) (t : Plain) (q : List ℕ) (node : Plain) (os : List (Option Operand)) →
    HaveTypes table os (types_of_node t q node) → place_told table os node ≡ lines_of t q node
node-told table t q node os =
    let row : Forest = Cons node.kind node.word node.notes node.kids Nil in
    let types : List (Option Ty) = types_among (annotated t) (above q) (kid_number q) row in
    let lines : List ℕ = part_lines (annotated t) 0 (above q) (kid_number q) row in
    elim (is_expression node.kind) as (λ (b : Bool). HaveTypes table os (if b then types else []) →
    (if b then node_told table 0 node os else codes "not an expression\n") ≡ (if b then lines else codes "not an expression\n")) [
      | true ↦ λ h. sym (append-nil (node_told table 0 node os))
          ∙ (lines-told (annotated t) table 0 (above q) (kid_number q) row os [] (structures-are table os types h ∙ sym (append-nil types))).0
      | false ↦ λ h. refl
    ]

-- the text for a node that is there or isn't
found-told : (table : Table) (t : Plain) (q : List ℕ) (found : Option Plain) (os : List (Option Operand)) →
    HaveTypes table os (option_map_or (types_of_node t q) found []) → text_told table os found ≡ option_map_or (lines_of t q) found (codes "no such place\n")
found-told table t q None os h = refl
found-told table t q (Some node) os h = node-told table t q node os h

-- the text from what is told is that of the view, where it has the types of the program
pub expr-told : (table : Table) (t : Plain) (q : List ℕ) (os : List (Option Operand)) → HaveTypes table os (types_at t q) → text_told table os (at q t) ≡ expr_text t q
unfolding types_at expr_text
expr-told table t q os h = found-told table t q (at q t) os h

-- what is shown of a text that agrees with what is told is the text of the view
pub view-told : (table : Table) (t : Plain) (q : List ℕ) (os : List (Option Operand)) (found : Option Plain) (text shown : List ℕ) →
    found ≡ at q t → Agrees text (text_told table os found) → shown ≡ limited text → HaveTypes table os (types_at t q) → shown ≡ limited (expr_text t q)
view-told table t q os found text shown e agrees f h =
    f ∙ limited-agrees text (text_told table os found) agrees ∙ ap limited (ap (text_told table os) e ∙ expr-told table t q os h)
