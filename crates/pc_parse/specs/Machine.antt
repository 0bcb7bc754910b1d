-- The reading machine: from a state and the next symbol to what it does. A finished node is kept as a value of any
-- type, its payload, which is made from the kind, the word and the payloads of the kids: the machine decides by
-- kinds alone.
use Rattle.std.specs.Prelude.{ℕ, Bool, true, false, ◌&&◌, if◌then◌else◌, List, [], ◌∷◌, ◌++◌, Option, Some, None}
use Rattle.pc_syntax.specs.declared.lexeme.Lexeme.{Lexeme}
use Rattle.pc_syntax.specs.declared.lexeme.Lexeme.TheVariants as lexeme
use Rattle.pc_syntax.specs.declared.kind.Kind.{Kind}
use Rattle.pc_syntax.specs.declared.kind.Kind.TheVariants.{Forward}
use Rattle.pc_syntax.specs.declared.class.Class.{Class}
use Rattle.pc_syntax.specs.declared.item.Item.{Item}
use Rattle.pc_syntax.specs.declared.item.Item.TheVariants.{Literal, Word, Kid}
use Rattle.pc_syntax.specs.Classes.{has}
use Rattle.pc_syntax.specs.Spellings.{spelling_of}
use Rattle.pc_syntax.specs.Words.{is_forward}
use Rattle.pc_parse.specs.Lookahead.{same_at}
use Rattle.pc_parse.specs.Tables.{Start, Leaf, Open, Predict, Blank, NoStart, start, Grow, Give, Wrap, Shift, Enter, grow, switch, recast, closes, turned_word, again}

-- the front of a node: the kids so far, and what is left of its items
pub record Frame (A : Type 0) : Type 0 where
  pub kind : Kind
  pub word : List ℕ
  pub kids : List A
  pub items : List Item

abbrev pub frame : {A : Type 0} → Kind → List ℕ → List A → List Item → Frame A
frame k w ks m = record { kind = k; word = w; kids = ks; items = m }

-- where the machine stands: nothing is read yet; within a node; or at a finished node that isn't placed yet
pub data State (A : Type 0) : Type 0 where
  Opening : State A
  Reading : Frame A → List (Frame A) → State A
  Holding : Kind → A → List (Frame A) → State A

-- what it does: go on and leave the symbol, go on and take it, end with the tree, or refuse the symbol
pub data Plan (A : Type 0) : Type 0 where
  Stay : State A → Plan A
  Take : State A → Plan A
  End : A → Plan A
  Stuck : Plan A

-- the word of a leaf is any that its symbol may have, but that of a forward
abbrev pub leaf_word : Kind → List ℕ → Bool
leaf_word Forward w = is_forward w
leaf_word _ w = true

abbrev pub has_kids : {A : Type 0} → List A → Bool
has_kids [] = false
has_kids (a ∷ kids) = true

module _ {A : Type 0} (make : Kind → List ℕ → List A → A) where
  abbrev pub on_leaf : Bool → Kind → List ℕ → List (Frame A) → Plan A
  on_leaf true k w fs = Take (Holding k (make k w []) fs)
  on_leaf false k w fs = Stuck

  abbrev pub on_start : Start → List ℕ → List (Frame A) → Plan A
  on_start (Leaf k) w fs = on_leaf (leaf_word k w) k w fs
  on_start (Open k v m) w fs = Take (Reading (frame k v [] m) fs)
  on_start (Predict k m) w fs = Stay (Reading (frame k [] [] m) fs)
  on_start (Blank k) w fs = Stay (Holding k (make k [] []) fs)
  on_start NoStart w fs = Stuck

  abbrev pub on_switch : Option (Kind × List Item) → Plan A → Frame A → List (Frame A) → Plan A
  on_switch None other f fs = other
  on_switch (Some p) other f fs = Take (Reading (frame p.0 (turned_word p.0 f.word) f.kids p.1) fs)

  -- a node whose next item can't come goes on as another
  abbrev pub on_recast : Option (Kind × List Item) → Plan A → Frame A → List (Frame A) → Plan A
  on_recast None other f fs = other
  on_recast (Some p) other f fs = Stay (Reading (frame p.0 f.word f.kids p.1) fs)

  -- a list that ends in front of its last separator is given to the node below, which goes on past its last `;`
  abbrev pub on_close : Bool → Frame A → Frame A → List (Frame A) → Plan A
  on_close false f g fs = Stuck
  on_close true f g fs = Stay (Reading (frame g.kind (spelling_of lexeme.Semicolon) (g.kids ++ make f.kind f.word f.kids ∷ []) (Literal lexeme.KeyEnd ∷ [])) fs)

  abbrev pub at_close : List Item → Frame A → List (Frame A) → Plan A
  at_close items f [] = Stuck
  at_close items f (g ∷ fs) = on_close (has_kids f.kids && closes f.kind items g.kind g.items) f g fs

  -- an awaited kid begins, where it can
  abbrev pub on_kid : Start → Plan A → List ℕ → List (Frame A) → Plan A
  on_kid NoStart other w fs = other
  on_kid g other w fs = on_start g w fs

  -- a node whose items are done ends, or begins a further element
  abbrev pub on_again : Option Class → Option Lexeme → List ℕ → Frame A → List (Frame A) → Plan A
  on_again None x w f fs = Stay (Holding f.kind (make f.kind f.word f.kids) fs)
  on_again (Some c) x w f fs = on_start (start c x) w (frame f.kind f.word f.kids (Kid c ∷ []) ∷ fs)

  abbrev pub at_items : List Item → Frame A → List (Frame A) → Option Lexeme → List ℕ → Plan A
  at_items [] f fs x w = on_switch (switch f.kind [] x) (on_again (again f.kind x) x w f fs) f fs
  at_items (Literal y ∷ m) f fs x w =
      if same_at y x then Take (Reading (frame f.kind f.word f.kids m) fs)
      else on_switch (switch f.kind (Literal y ∷ m) x) (on_recast (recast f.kind (Literal y ∷ m) x) Stuck f fs) f fs
  at_items (Word y ∷ m) f fs x w = Stuck
  at_items (Kid c ∷ m) f fs x w = on_kid (start c x) (on_recast (recast f.kind (Kid c ∷ m) x) (at_close (Kid c ∷ m) f fs) f fs) w (f ∷ fs)

  -- the finished node is the awaited kid
  abbrev pub on_give : Bool → A → List Item → List (Frame A) → Option Lexeme → Plan A
  on_give false a m fs x = Stuck
  on_give true a m [] None = End a
  on_give true a m [] (Some y) = Stuck
  on_give true a m (f ∷ fs) x = Stay (Reading (frame f.kind f.word (f.kids ++ a ∷ []) m) fs)

  abbrev pub on_grow : Grow → Bool → A → List Item → List (Frame A) → Option Lexeme → Plan A
  on_grow Give member a m fs x = on_give member a m fs x
  on_grow (Wrap j) member a m fs x = Stay (Holding j (make j [] (a ∷ [])) fs)
  on_grow (Shift j v n) member a m fs x = Take (Reading (frame j v (a ∷ []) n) fs)
  on_grow (Enter j n) member a m fs x = Stay (Reading (frame j [] (a ∷ []) n) fs)

  abbrev pub at_kid : Option (Class × List Item) → Kind → A → List (Frame A) → Option Lexeme → Plan A
  at_kid None k a fs x = Stuck
  at_kid (Some p) k a fs x = on_grow (grow k p.0 x) (has p.0 k) a p.1 fs x

-- the kid that items await, and the items after it
abbrev pub awaited : List Item → Option (Class × List Item)
awaited [] = None
awaited (Literal x ∷ m) = None
awaited (Word x ∷ m) = None
awaited (Kid c ∷ m) = Some (c, m)

-- the kid that the innermost node awaits; where there is none, the whole is awaited
abbrev pub awaited_by : {A : Type 0} → Class → List (Frame A) → Option (Class × List Item)
awaited_by root [] = Some (root, [])
awaited_by root (f ∷ fs) = awaited f.items

-- what the machine does that reads a tree of the class root, at the next symbol and its spelling
abbrev pub plan : {A : Type 0} → (Kind → List ℕ → List A → A) → Class → State A → Option Lexeme → List ℕ → Plan A
plan make root Opening x w = on_start make (start root x) w []
plan make root (Reading f fs) x w = at_items make f.items f fs x w
plan make root (Holding k a fs) x w = at_kid make (awaited_by root fs) k a fs x
