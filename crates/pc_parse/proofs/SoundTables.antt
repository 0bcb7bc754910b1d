-- The tables of the reading machine, against the grammar.
use Rattle.std.proofs.Common.{◌≡◌, suc, Bool, true, false, ◌&&◌, not, List, [], ◌∷◌, Option, Some, None, refl, ap}
use Rattle.pc_syntax.specs.declared.lexeme.Lexeme.{Lexeme}
use Rattle.pc_syntax.specs.declared.lexeme.Lexeme.TheVariants as lexeme
use Rattle.pc_syntax.specs.declared.kind.Kind.{Kind}
use Rattle.pc_syntax.specs.declared.kind.Kind.TheVariants as kind
use Rattle.pc_syntax.specs.declared.sort.Sort.TheVariants as sort
use Rattle.pc_syntax.specs.declared.class.Class.{Class}
use Rattle.pc_syntax.specs.declared.class.Class.TheVariants as class
use Rattle.pc_syntax.specs.declared.item.Item.{Item}
use Rattle.pc_syntax.specs.declared.item.Item.TheVariants.{Literal, Word, Kid}
use Rattle.pc_syntax.specs.Layout.{layout}
use Rattle.pc_syntax.specs.Classes.{has}
use Rattle.pc_syntax.specs.WellFormed.{opens}
use Rattle.pc_parse.specs.Partial.{kids_in}
use Rattle.pc_parse.specs.Lookahead.{same_at}
use Rattle.pc_parse.specs.Tables.{Start, Leaf, Open, Predict, Blank, NoStart, start, Grow, Give, Wrap, Shift, Enter, grow}
use Rattle.pc_parse.proofs.Entries.{each, implies, implies_true, &&_split, all_kinds, all_lookaheads, at_kind, at_class, at_lookahead}
use Rattle.pc_parse.proofs.Items.{same_items, same_items_eq}

-- the kinds that can stand finished where a node of the class is awaited
abbrev pub corner : Class → Kind → Bool
corner class.Denoter kind.Name = true
corner class.Statement kind.Name = true
corner class.Statement kind.Ref = true
corner class.Statement kind.Index = true
corner class.Statement kind.Select = true
corner class.Statement kind.Deref = true
corner class.Argument kind.Name = true
corner class.Member kind.Name = true
corner class.Operand kind.Name = true
corner class.Expression kind.Name = true
corner class.Simple kind.Name = true
corner class.Term kind.Name = true
corner class.Factor kind.Name = true
corner class.Access kind.Name = true
corner class.Denoter (kind.Hole sort.Name) = true
corner class.Statement (kind.Hole sort.Name) = true
corner class.Argument (kind.Hole sort.Name) = true
corner class.Member (kind.Hole sort.Name) = true
corner class.Operand (kind.Hole sort.Name) = true
corner class.Expression (kind.Hole sort.Name) = true
corner class.Simple (kind.Hole sort.Name) = true
corner class.Term (kind.Hole sort.Name) = true
corner class.Factor (kind.Hole sort.Name) = true
corner class.Access (kind.Hole sort.Name) = true
corner class.Statement (kind.Hole sort.Expression) = true
corner class.Constdef kind.Name = true
corner class.Constdef (kind.Hole sort.Name) = true
corner class.Constant kind.Name = true
corner class.Constant (kind.Hole sort.Name) = true
corner class.Bare kind.Name = true
corner class.Bare (kind.Hole sort.Name) = true
corner class.Typedef kind.Name = true
corner class.Typedef (kind.Hole sort.Name) = true
corner class.Ordinal kind.Name = true
corner class.Ordinal (kind.Hole sort.Name) = true
corner class.Denoter kind.Cnumber = true
corner class.Denoter kind.Cstring = true
corner class.Denoter kind.Cname = true
corner class.Denoter kind.Csign = true
corner class.Denoter (kind.Hole sort.Constant) = true
corner class.Ordinal kind.Cnumber = true
corner class.Ordinal kind.Cstring = true
corner class.Ordinal kind.Cname = true
corner class.Ordinal kind.Csign = true
corner class.Ordinal (kind.Hole sort.Constant) = true
corner c k = has c k

-- a key word, a mark or a hole
abbrev pub is_mark : Lexeme → Bool
is_mark lexeme.Identifier = false
is_mark lexeme.Numeral = false
is_mark lexeme.Text = false
is_mark _ = true

abbrev pub is_mark_at : Option Lexeme → Bool
is_mark_at None = false
is_mark_at (Some x) = is_mark x

-- the leaf has its word from the symbol
abbrev pub is_word : Kind → Option Lexeme → Bool
is_word kind.Name x = same_at lexeme.Identifier x
is_word kind.Number x = same_at lexeme.Numeral x
is_word kind.Text x = same_at lexeme.Text x
is_word kind.Cnumber x = same_at lexeme.Numeral x
is_word kind.Cstring x = same_at lexeme.Text x
is_word kind.Forward x = same_at lexeme.Identifier x
is_word _ x = false

-- the items, after the symbol
abbrev pub behind : Option Lexeme → List Item → List Item
behind None m = m
behind (Some x) m = Literal x ∷ m

abbrev pub marks : List Item → Bool
marks [] = true
marks (Literal x ∷ m) = is_mark x && marks m
marks (Word x ∷ m) = false
marks (Kid c ∷ m) = marks m

abbrev pub is_empty : List Item → Bool
is_empty [] = true
is_empty (i ∷ m) = false

-- a node with an else begins as one without
abbrev pub has_else : Kind → Bool
has_else kind.Ifelse = true
has_else _ = false

abbrev pub lays : Option (List Item) → List Item → Bool
lays None l = false
lays (Some m) l = same_items m l

abbrev pub first_kid_lays : Option (List Item) → Kind → List Item → Bool
first_kid_lays (Some (Kid d ∷ m)) k l = has d k && same_items m l
first_kid_lays _ k l = false

abbrev pub start_ok : Class → Option Lexeme → Start → Bool
start_ok c x (Leaf k) = is_word k x && corner c k
start_ok c x (Open k v m) = is_mark_at x && corner c k && not (has_else k) && marks m && lays (layout k v (kids_in m)) (behind x m)
start_ok c x (Predict k m) = corner c k && not (has_else k) && not (is_empty m) && marks m && lays (layout k [] (kids_in m)) m
start_ok c x (Blank k) = corner c k && not (opens k false) && lays (layout k [] 0) []
start_ok c x NoStart = true

abbrev pub grow_ok : Class → Kind → Option Lexeme → Grow → Bool
grow_ok c k x Give = true
grow_ok c k x (Wrap j) = corner c j && not (opens j true) && first_kid_lays (layout j [] 1) k []
grow_ok c k x (Shift j v m) = is_mark_at x && corner c j && not (has_else j) && marks m && first_kid_lays (layout j v (suc (kids_in m))) k (behind x m)
grow_ok c k x (Enter j m) = corner c j && not (has_else j) && marks m && first_kid_lays (layout j [] (suc (kids_in m))) k m

pub starts_ok : (c : Class) (x : Option Lexeme) → start_ok c x (start c x) ≡ true
starts_ok c x = at_lookahead (λ y. start_ok c y (start c y)) x (at_class (λ b. each (λ y. start_ok b y (start b y)) all_lookaheads) c refl)

pub grows_ok : (c : Class) (k : Kind) (x : Option Lexeme) → corner c k ≡ true → grow_ok c k x (grow k c x) ≡ true
grows_ok c k x h =
    let by_class : each (λ j. implies (corner c j) (each (λ y. grow_ok c j y (grow j c y)) all_lookaheads)) all_kinds ≡ true =
    at_class (λ b. each (λ j. implies (corner b j) (each (λ y. grow_ok b j y (grow j b y)) all_lookaheads)) all_kinds) c refl in
    let by_kind : each (λ y. grow_ok c k y (grow k c y)) all_lookaheads ≡ true =
    implies_true _ _ (at_kind (λ j. implies (corner c j) (each (λ y. grow_ok c j y (grow j c y)) all_lookaheads)) k by_class) h in
    at_lookahead (λ y. grow_ok c k y (grow k c y)) x by_kind

pub lays_eq : (o : Option (List Item)) (l : List Item) → lays o l ≡ true → o ≡ Some l
lays_eq None l h = cc
lays_eq (Some m) l h = ap Some (same_items_eq m l h)

pub first_kid_eq : (o : Option (List Item)) (k : Kind) (l : List Item) → first_kid_lays o k l ≡ true → (d : Class) × (o ≡ Some (Kid d ∷ l)) × (has d k ≡ true)
first_kid_eq None k l h = cc
first_kid_eq (Some []) k l h = cc
first_kid_eq (Some (Literal x ∷ m)) k l h = cc
first_kid_eq (Some (Word x ∷ m)) k l h = cc
first_kid_eq (Some (Kid d ∷ m)) k l h =
    let p : (has d k ≡ true) × (same_items m l ≡ true) = &&_split _ _ h in
    (d, ap (λ n. Some (Kid d ∷ n)) (same_items_eq m l p.1), p.0)
