-- The reading machine over what is kept of trees: the code runs it, so that a text of any depth and size is measured,
-- and no tree is made that is not within the limits. Its steps are those of the machine over trees.
use Rattle.std.specs.Prelude.{ℕ, Bool, true, false, ◌&&◌, if◌then◌else◌, List, [], ◌∷◌, Option, Some, None}
use Rattle.pc_syntax.specs.declared.lexeme.Lexeme.{Lexeme}
use Rattle.pc_syntax.specs.declared.lexeme.Lexeme.TheVariants as lexeme
use Rattle.pc_syntax.specs.declared.kind.Kind.{Kind}
use Rattle.pc_syntax.specs.declared.class.Class.{Class}
use Rattle.pc_syntax.specs.declared.item.Item.{Item}
use Rattle.pc_syntax.specs.declared.item.Item.TheVariants.{Literal, Word, Kid}
use Rattle.pc_syntax.specs.Classes.{has}
use Rattle.pc_syntax.specs.Spellings.{spelling_of}
use Rattle.pc_parse.specs.declared.rows.Cut.{Cut}
use Rattle.pc_parse.specs.Lookahead.{same_at}
use Rattle.pc_parse.specs.Tables.{Start, Leaf, Open, Predict, Blank, NoStart, start, Grow, Give, Wrap, Shift, Enter, grow, switch, recast, closes, turned_word, again}
use Rattle.pc_parse.specs.Machine.{leaf_word, awaited}
use Rattle.pc_parse.specs.Rows.{Row, no_kids, has_kids, made, added}

-- the front of a node: what is kept of the kids so far, and what is left of its items
pub record Frame : Type 0 where
  pub kind : Kind
  pub word : List ℕ
  pub kids : Row
  pub items : List Item

abbrev pub frame : Kind → List ℕ → Row → List Item → Frame
frame k w ks m = record { kind = k; word = w; kids = ks; items = m }

-- where the machine stands, as over trees
pub data State : Type 0 where
  Opening : State
  Reading : Frame → List Frame → State
  Holding : Kind → Cut → List Frame → State

-- what it does, as over trees
pub data Plan : Type 0 where
  Stay : State → Plan
  Take : State → Plan
  End : Cut → Plan
  Stuck : Plan

abbrev pub on_leaf : Bool → Kind → List ℕ → List Frame → Plan
on_leaf true k w fs = Take (Holding k (made k w no_kids) fs)
on_leaf false k w fs = Stuck

abbrev pub on_start : Start → List ℕ → List Frame → Plan
on_start (Leaf k) w fs = on_leaf (leaf_word k w) k w fs
on_start (Open k v m) w fs = Take (Reading (frame k v no_kids m) fs)
on_start (Predict k m) w fs = Stay (Reading (frame k [] no_kids m) fs)
on_start (Blank k) w fs = Stay (Holding k (made k [] no_kids) fs)
on_start NoStart w fs = Stuck

abbrev pub on_switch : Option (Kind × List Item) → Plan → Frame → List Frame → Plan
on_switch None other f fs = other
on_switch (Some p) other f fs = Take (Reading (frame p.0 (turned_word p.0 f.word) f.kids p.1) fs)

abbrev pub on_recast : Option (Kind × List Item) → Plan → Frame → List Frame → Plan
on_recast None other f fs = other
on_recast (Some p) other f fs = Stay (Reading (frame p.0 f.word f.kids p.1) fs)

abbrev pub on_close : Bool → Frame → Frame → List Frame → Plan
on_close false f g fs = Stuck
on_close true f g fs = Stay (Reading (frame g.kind (spelling_of lexeme.Semicolon) (added g.kids (made f.kind f.word f.kids)) (Literal lexeme.KeyEnd ∷ [])) fs)

abbrev pub at_close : List Item → Frame → List Frame → Plan
at_close items f [] = Stuck
at_close items f (g ∷ fs) = on_close (has_kids f.kids && closes f.kind items g.kind g.items) f g fs

abbrev pub on_kid : Start → Plan → List ℕ → List Frame → Plan
on_kid NoStart other w fs = other
on_kid g other w fs = on_start g w fs

abbrev pub on_again : Option Class → Option Lexeme → List ℕ → Frame → List Frame → Plan
on_again None x w f fs = Stay (Holding f.kind (made f.kind f.word f.kids) fs)
on_again (Some c) x w f fs = on_start (start c x) w (frame f.kind f.word f.kids (Kid c ∷ []) ∷ fs)

abbrev pub at_items : List Item → Frame → List Frame → Option Lexeme → List ℕ → Plan
at_items [] f fs x w = on_switch (switch f.kind [] x) (on_again (again f.kind x) x w f fs) f fs
at_items (Literal y ∷ m) f fs x w =
    if same_at y x then Take (Reading (frame f.kind f.word f.kids m) fs)
    else on_switch (switch f.kind (Literal y ∷ m) x) (on_recast (recast f.kind (Literal y ∷ m) x) Stuck f fs) f fs
at_items (Word y ∷ m) f fs x w = Stuck
at_items (Kid c ∷ m) f fs x w = on_kid (start c x) (on_recast (recast f.kind (Kid c ∷ m) x) (at_close (Kid c ∷ m) f fs) f fs) w (f ∷ fs)

abbrev pub on_give : Bool → Cut → List Item → List Frame → Option Lexeme → Plan
on_give false a m fs x = Stuck
on_give true a m [] None = End a
on_give true a m [] (Some y) = Stuck
on_give true a m (f ∷ fs) x = Stay (Reading (frame f.kind f.word (added f.kids a) m) fs)

abbrev pub on_grow : Grow → Bool → Cut → List Item → List Frame → Option Lexeme → Plan
on_grow Give member a m fs x = on_give member a m fs x
on_grow (Wrap j) member a m fs x = Stay (Holding j (made j [] (added no_kids a)) fs)
on_grow (Shift j v n) member a m fs x = Take (Reading (frame j v (added no_kids a) n) fs)
on_grow (Enter j n) member a m fs x = Stay (Reading (frame j [] (added no_kids a) n) fs)

abbrev pub at_kid : Option (Class × List Item) → Kind → Cut → List Frame → Option Lexeme → Plan
at_kid None k a fs x = Stuck
at_kid (Some p) k a fs x = on_grow (grow k p.0 x) (has p.0 k) a p.1 fs x

abbrev pub awaited_by : Class → List Frame → Option (Class × List Item)
awaited_by root [] = Some (root, [])
awaited_by root (f ∷ fs) = awaited f.items

-- what the machine does at the next symbol and its spelling
abbrev pub plan : Class → State → Option Lexeme → List ℕ → Plan
plan root Opening x w = on_start (start root x) w []
plan root (Reading f fs) x w = at_items f.items f fs x w
plan root (Holding k a fs) x w = at_kid (awaited_by root fs) k a fs x
