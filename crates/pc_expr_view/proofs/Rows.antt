-- The lines of the kids of a node, kid by kid.
use Rattle.std.proofs.Common.{◌≡◌, ℕ, ◌+◌, ◌<◌, ◌≤◌, List, ◌∷◌, ◌++◌, Option, length, get_or, drop, inl, ap, sym, ◌∙◌, append-nil, subst}
use Rattle.std.proofs.lemmas.List.{drop_all, drop_more}
use Rattle.pc_syntax.specs.Plain.{Plain, Forest, forest_of, kids_of}
use Rattle.pc_syntax.specs.PartsLaws.{forest_of-kids_of}
use Rattle.pc_types.specs.Table.{Table}
use Rattle.pc_types.specs.declared.operand.Operand.{Operand}
use Rattle.pc_views.specs.Limit.{Agrees}
use Rattle.pc_decl.specs.AgreesLaws.{agrees-trans, agrees-then}
use Rattle.pc_expr_view.specs.ToldText.{behind_own, behind_all, behind_node, level_below, line_told, lines_told, node_told}

-- what is told behind the kids that are left
abbrev pub behind_list : List Plain → List (Option Operand) → List (Option Operand)
behind_list kids os = behind_all (forest_of kids) os

-- the lines of the kids that are left
abbrev pub list_told : Table → ℕ → List Plain → List (Option Operand) → List ℕ
list_told table level kids os = lines_told table level (forest_of kids) os

module _ (table : Table) (level : ℕ) where
  -- behind its own line a node has the lines of all its kids
  pub lines-start : (old text : List ℕ) (node : Plain) (kids : List Plain) (below : ℕ) (told rest : List (Option Operand)) →
      Agrees text (old ++ line_told table level node.kind node.word node.kids told) → kids ≡ kids_of node → below ≡ level_below node.kind level → rest ≡ behind_own node.kind told →
      Agrees (text ++ list_told table below kids rest) (old ++ node_told table level node told)
  lines-start old text node kids below told rest own e f g =
      let all : forest_of kids ≡ node.kids = ap forest_of e ∙ forest_of-kids_of node in
      let same : list_told table below kids rest ≡ lines_told table (level_below node.kind level) node.kids (behind_own node.kind told) =
      ap (λ (ks : Forest). lines_told table below ks rest) all ∙ ap (λ (n : ℕ). lines_told table n node.kids rest) f ∙ ap (lines_told table (level_below node.kind level) node.kids) g in
      agrees-then old text (text ++ list_told table below kids rest) (line_told table level node.kind node.word node.kids told)
      (lines_told table (level_below node.kind level) node.kids (behind_own node.kind told)) own (inl (ap (λ (bs : List ℕ). text ++ bs) same))

-- behind a node all of its kids are told
pub behind-start : (node : Plain) (kids : List Plain) (told rest : List (Option Operand)) → kids ≡ kids_of node → rest ≡ behind_own node.kind told →
    behind_list kids rest ≡ behind_node node told
behind-start node kids told rest e g =
    ap (λ (ks : Forest). behind_all ks rest) (ap forest_of e ∙ forest_of-kids_of node) ∙ ap (behind_all node.kids) g

module _ (i : ℕ) (kids : List Plain) (kid : Plain) (below : i < length kids) (is : kid ≡ get_or kids i kid) where
  first-left : drop i kids ≡ kid ∷ drop (i + 1) kids
  first-left = drop_more kids i kid below ∙ ap (λ (k : Plain). k ∷ drop (i + 1) kids) (sym is)

  -- with what one more kid is told, that of the kids after it is left
  pub behind-more : (rest rest' whole : List (Option Operand)) → behind_list (drop i kids) rest ≡ whole → rest' ≡ behind_node kid rest →
      behind_list (drop (i + 1) kids) rest' ≡ whole
  behind-more rest rest' whole before e =
      ap (behind_list (drop (i + 1) kids)) e ∙ ap (λ (ks : List Plain). behind_list ks rest) (sym first-left) ∙ before

  -- with the lines of one more kid, the lines of the kids after it are left
  pub lines-more : (table : Table) (level : ℕ) (text text' whole : List ℕ) (rest rest' : List (Option Operand)) →
      Agrees (text ++ list_told table level (drop i kids) rest) whole → Agrees text' (text ++ node_told table level kid rest) → rest' ≡ behind_node kid rest →
      Agrees (text' ++ list_told table level (drop (i + 1) kids) rest') whole
  lines-more table level text text' whole rest rest' left new e =
      let own : List ℕ = node_told table level kid rest in
      let more : List ℕ = list_told table level (drop (i + 1) kids) (behind_node kid rest) in
      let split : list_told table level (drop i kids) rest ≡ own ++ more = ap (λ (ks : List Plain). list_told table level ks rest) first-left in
      let same : text' ++ list_told table level (drop (i + 1) kids) rest' ≡ text' ++ more = ap (λ (os : List (Option Operand)). text' ++ list_told table level (drop (i + 1) kids) os) e in
      let next : Agrees (text' ++ list_told table level (drop (i + 1) kids) rest') (text ++ (own ++ more)) =
      agrees-then text text' (text' ++ list_told table level (drop (i + 1) kids) rest') own more new (inl same) in
      agrees-trans (text' ++ list_told table level (drop (i + 1) kids) rest') (text ++ (own ++ more)) whole next
      (subst (λ (bs : List ℕ). Agrees (text ++ bs) whole) split left)

module _ (i : ℕ) (kids : List Plain) (past : length kids ≤ i) where
  -- with no kid left all is told
  pub behind-end : (rest whole : List (Option Operand)) → behind_list (drop i kids) rest ≡ whole → rest ≡ whole
  behind-end rest whole before = ap (λ (ks : List Plain). behind_list ks rest) (sym (drop_all i kids past)) ∙ before

  -- with no kid left all lines are there
  pub lines-end : (table : Table) (level : ℕ) (text whole : List ℕ) (rest : List (Option Operand)) →
      Agrees (text ++ list_told table level (drop i kids) rest) whole → Agrees text whole
  lines-end table level text whole rest left =
      let none : text ++ list_told table level (drop i kids) rest ≡ text =
      ap (λ (ks : List Plain). text ++ list_told table level ks rest) (drop_all i kids past) ∙ append-nil text in
      subst (λ (bs : List ℕ). Agrees bs whole) none left
