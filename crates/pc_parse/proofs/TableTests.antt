-- Equality that computes, and the tests of the machine's tables: how a node of each kind begins.
use Rattle.std.proofs.Common.{◌≡◌, ℕ, ◌==◌, Bool, true, false, ◌&&◌, ◌||◌, bytes_eq, List, [], ◌∷◌, Option, Some, None, refl, ap, sym, ◌∙◌, eqb-true, eq-eqb}
use Rattle.std.proofs.lemmas.Slice.Eq.{bytes_eq-Decides}
use Rattle.pc_syntax.specs.declared.lexeme.Lexeme.{Lexeme}
use Rattle.pc_syntax.specs.declared.kind.Kind.{Kind}
use Rattle.pc_syntax.specs.declared.class.Class.{Class}
use Rattle.pc_syntax.specs.declared.item.Item.{Item}
use Rattle.pc_syntax.specs.declared.item.Item.TheVariants.{Literal, Word, Kid}
use Rattle.pc_syntax.specs.Classes.{has}
use Rattle.pc_syntax.specs.Layout.{operator}
use Rattle.pc_syntax.specs.Spellings.{spelling_of}
use Rattle.pc_parse.specs.Tables.{Start, Leaf, Open, Predict, Blank, NoStart, start, Grow, Give, Wrap, Shift, Enter, grow, spelling_at}
use Rattle.pc_parse.proofs.Entries.{each, implies, implies_true, &&_split, nth, all_kinds, all_classes, all_lookaheads, kind_place, class_place, lookahead_place, kind_nth, class_nth, lookahead_nth, at_kind, at_class, at_lookahead}
use Rattle.pc_parse.proofs.Follows.{known, corner, tail}

-- equality that computes
abbrev pub same_kind : Kind → Kind → Bool
same_kind a b = kind_place a == kind_place b

abbrev pub same_look : Option Lexeme → Option Lexeme → Bool
same_look a b = lookahead_place a == lookahead_place b

abbrev pub same_class : Class → Class → Bool
same_class a b = class_place a == class_place b

abbrev pub same_item : Item → Item → Bool
same_item (Literal x) (Literal y) = same_look (Some x) (Some y)
same_item (Word x) (Word y) = same_look (Some x) (Some y)
same_item (Kid c) (Kid d) = same_class c d
same_item _ _ = false

abbrev pub same_items : List Item → List Item → Bool
same_items [] [] = true
same_items [] (y ∷ ys) = false
same_items (x ∷ xs) [] = false
same_items (x ∷ xs) (y ∷ ys) = same_item x y && same_items xs ys

some_eq : {A : Type 0} (x y : A) → Some x ≡ Some y → x ≡ y
some_eq x y h = cc

pub same_kind_eq : (a b : Kind) → same_kind a b ≡ true → a ≡ b
same_kind_eq a b h = some_eq a b (sym (kind_nth a) ∙ ap (nth all_kinds) (eqb-true (kind_place a) (kind_place b) h) ∙ kind_nth b)

pub same_class_eq : (a b : Class) → same_class a b ≡ true → a ≡ b
same_class_eq a b h = some_eq a b (sym (class_nth a) ∙ ap (nth all_classes) (eqb-true (class_place a) (class_place b) h) ∙ class_nth b)

pub same_look_eq : (a b : Option Lexeme) → same_look a b ≡ true → a ≡ b
same_look_eq a b h = some_eq a b (sym (lookahead_nth a) ∙ ap (nth all_lookaheads) (eqb-true (lookahead_place a) (lookahead_place b) h) ∙ lookahead_nth b)

pub same_word_eq : (v w : List ℕ) → bytes_eq v w ≡ true → v ≡ w
same_word_eq v w h = (bytes_eq-Decides v w).0 h

same_item_eq : (a b : Item) → same_item a b ≡ true → a ≡ b
same_item_eq (Literal x) (Literal y) h = ap Literal (some_eq x y (same_look_eq (Some x) (Some y) h))
same_item_eq (Literal x) (Word y) h = cc
same_item_eq (Literal x) (Kid y) h = cc
same_item_eq (Word x) (Literal y) h = cc
same_item_eq (Word x) (Word y) h = ap Word (some_eq x y (same_look_eq (Some x) (Some y) h))
same_item_eq (Word x) (Kid y) h = cc
same_item_eq (Kid x) (Literal y) h = cc
same_item_eq (Kid x) (Word y) h = cc
same_item_eq (Kid x) (Kid y) h = ap Kid (same_class_eq x y h)

pub same_items_eq : (a b : List Item) → same_items a b ≡ true → a ≡ b
same_items_eq [] [] h = refl
same_items_eq [] (y ∷ ys) h = cc
same_items_eq (x ∷ xs) [] h = cc
same_items_eq (x ∷ xs) (y ∷ ys) h =
    let p = &&_split _ _ h in
    let e : x ≡ y = same_item_eq x y p.0 in
    let f : xs ≡ ys = same_items_eq xs ys p.1 in cc

-- the node's first kid, finished, becomes the first of a node of kind k
abbrev pub shifts_to : Grow → Kind → List ℕ → List Item → Bool
shifts_to Give k w l = false
shifts_to (Wrap j) k w l = false
shifts_to (Shift j v m) k w l = same_kind j k && bytes_eq v w && same_items m l
shifts_to (Enter j m) k w l = false

pub shifts_to_eq : (g : Grow) (k : Kind) (w : List ℕ) (l : List Item) → shifts_to g k w l ≡ true → g ≡ Shift k w l
shifts_to_eq Give k w l h = cc
shifts_to_eq (Wrap j) k w l h = cc
shifts_to_eq (Shift j v m) k w l h =
    let p = &&_split _ _ h in
    let q = &&_split _ _ p.0 in
    let a : j ≡ k = same_kind_eq j k q.0 in
    let b : v ≡ w = same_word_eq v w q.1 in
    let c : m ≡ l = same_items_eq m l p.1 in cc
shifts_to_eq (Enter j m) k w l h = cc

-- the test of a node that begins with a kid of class d and then the symbol x
abbrev pub first_kid_grows : Kind → List ℕ → Option Lexeme → List Item → Class → Kind → Bool
first_kid_grows k w x l c i = corner c i && tail c i x && shifts_to (grow i c x) k w l

abbrev pub grows_from : Kind → List ℕ → Class → Option Lexeme → List Item → Bool
grows_from k w d x l = each (λ c. implies (corner c k) (each (λ i. implies (has d i && known i) (first_kid_grows k w x l c i)) all_kinds)) all_classes

-- the kid may stand there, x may follow it, and the machine goes on from it as the node
abbrev pub Grows : Kind → List ℕ → Option Lexeme → List Item → Class → Kind → Type 0
Grows k w x l c i = (corner c i ≡ true) × (tail c i x ≡ true) × (grow i c x ≡ Shift k w l)

pub grows_at : (k : Kind) (w : List ℕ) (d : Class) (x : Option Lexeme) (l : List Item) (c : Class) (i : Kind) → grows_from k w d x l ≡ true → corner c k ≡ true → has d i && known i ≡ true
    → Grows k w x l c i
grows_at k w d x l c i test h member =
    let by_class : each (λ j. implies (has d j && known j) (first_kid_grows k w x l c j)) all_kinds ≡ true =
    implies_true _ _ (at_class (λ b. implies (corner b k) (each (λ j. implies (has d j && known j) (first_kid_grows k w x l b j)) all_kinds)) c test) h in
    let found : first_kid_grows k w x l c i ≡ true = implies_true _ _ (at_kind (λ j. implies (has d j && known j) (first_kid_grows k w x l c j)) i by_class) member in
    let p = &&_split _ _ found in
    let q = &&_split _ _ p.0 in
    (q.0, q.1, shifts_to_eq (grow i c x) k w l p.1)

-- the same of each operator
abbrev pub grow_all : (Option Lexeme → Bool) → Kind → Class → List Item → Bool
grow_all is k d l = each (λ x. implies (is x) (grows_from k (spelling_at x) d x l)) all_lookaheads

pub all_grow : (is : Option Lexeme → Bool) (k : Kind) (d : Class) (x : Lexeme) (l : List Item) (c : Class) (i : Kind)
    → grow_all is k d l ≡ true → is (Some x) ≡ true → corner c k ≡ true → has d i && known i ≡ true → Grows k (spelling_of x) (Some x) l c i
all_grow is k d x l c i test e h member =
    grows_at k (spelling_of x) d (Some x) l c i (implies_true _ _ (at_lookahead (λ y. implies (is y) (grows_from k (spelling_at y) d y l)) (Some x) test) e) h member

-- the test of a node that begins with the symbol x
abbrev pub opens_to : Start → Kind → List ℕ → List Item → Bool
opens_to (Leaf j) k w l = false
opens_to (Open j v m) k w l = same_kind j k && bytes_eq v w && same_items m l
opens_to (Predict j m) k w l = false
opens_to (Blank j) k w l = false
opens_to NoStart k w l = false

pub opens_to_eq : (g : Start) (k : Kind) (w : List ℕ) (l : List Item) → opens_to g k w l ≡ true → g ≡ Open k w l
opens_to_eq (Leaf j) k w l h = cc
opens_to_eq (Open j v m) k w l h =
    let p = &&_split _ _ h in
    let q = &&_split _ _ p.0 in
    let a : j ≡ k = same_kind_eq j k q.0 in
    let b : v ≡ w = same_word_eq v w q.1 in
    let c : m ≡ l = same_items_eq m l p.1 in cc
opens_to_eq (Predict j m) k w l h = cc
opens_to_eq (Blank j) k w l h = cc
opens_to_eq NoStart k w l h = cc

-- k is the node's kind, j the kind that the machine begins with
abbrev pub opens_from : Kind → Kind → List ℕ → Option Lexeme → List Item → Bool
opens_from k j w x l = each (λ c. implies (corner c k) (opens_to (start c x) j w l)) all_classes

pub opens_at : (k j : Kind) (w : List ℕ) (x : Option Lexeme) (l : List Item) (c : Class) → opens_from k j w x l ≡ true → corner c k ≡ true → start c x ≡ Open j w l
opens_at k j w x l c test h = opens_to_eq (start c x) j w l (implies_true _ _ (at_class (λ b. implies (corner b k) (opens_to (start b x) j w l)) c test) h)

-- the test of a node of one symbol
abbrev pub leaf_to : Start → Kind → Bool
leaf_to (Leaf j) k = same_kind j k
leaf_to _ k = false

leaf_to_eq : (g : Start) (k : Kind) → leaf_to g k ≡ true → g ≡ Leaf k
leaf_to_eq (Leaf j) k h = ap Leaf (same_kind_eq j k h)
leaf_to_eq (Open j v m) k h = cc
leaf_to_eq (Predict j m) k h = cc
leaf_to_eq (Blank j) k h = cc
leaf_to_eq NoStart k h = cc

abbrev pub leaf_from : Kind → Option Lexeme → Bool
leaf_from k x = each (λ c. implies (corner c k) (leaf_to (start c x) k)) all_classes

pub leaf_at : (k : Kind) (x : Option Lexeme) (c : Class) → leaf_from k x ≡ true → corner c k ≡ true → start c x ≡ Leaf k
leaf_at k x c test h = leaf_to_eq (start c x) k (implies_true _ _ (at_class (λ b. implies (corner b k) (leaf_to (start b x) k)) c test) h)

-- the test of a node of one class
abbrev pub only_from : Kind → Class → Bool
only_from k d = each (λ c. implies (corner c k) (same_class c d)) all_classes

pub only_at : (k : Kind) (d c : Class) → only_from k d ≡ true → corner c k ≡ true → c ≡ d
only_at k d c test h = same_class_eq c d (implies_true _ _ (at_class (λ b. implies (corner b k) (same_class b d)) c test) h)

-- the test of a known kind of a class that has no other
abbrev pub one_from : Class → Kind → Bool
one_from c k = each (λ j. implies (has c j && known j) (same_kind j k)) all_kinds

pub one_at : (c : Class) (k j : Kind) → one_from c k ≡ true → has c j && known j ≡ true → j ≡ k
one_at c k j test h = same_kind_eq j k (implies_true _ _ (at_kind (λ i. implies (has c i && known i) (same_kind i k)) j test) h)

-- the symbol of an operator's word
abbrev pub among : List Lexeme → Lexeme → Bool
among [] x = false
among (y ∷ ys) x = same_look (Some y) (Some x) || among ys x

pub or_left : (a b : Bool) → a ≡ true → a || b ≡ true
or_left true b h = refl
or_left false b h = cc

pub or_right : (a b : Bool) → b ≡ true → a || b ≡ true
or_right true b h = refl
or_right false b h = h

pub same_look_refl : (x : Option Lexeme) → same_look x x ≡ true
same_look_refl x = eq-eqb (lookahead_place x) (lookahead_place x) refl

-- an operator's word is the spelling of one of the operators
pub operator_found : (ops : List Lexeme) (w : List ℕ) (x : Lexeme) → operator ops w ≡ Some x → (w ≡ spelling_of x) × (among ops x ≡ true)
operator_found [] w x h = cc
operator_found (y ∷ ys) w x h = go (bytes_eq (spelling_of y) w) refl (λ e. operator_found ys w x e)
  where
    go : (b : Bool) → bytes_eq (spelling_of y) w ≡ b → (operator ys w ≡ Some x → (w ≡ spelling_of x) × (among ys x ≡ true)) → (w ≡ spelling_of x) × (among (y ∷ ys) x ≡ true)
    go true e more =
        let is : operator (y ∷ ys) w ≡ Some y = rw e refl in
        let z : y ≡ x = some_eq y x (sym is ∙ h) in
        (sym (same_word_eq (spelling_of y) w e) ∙ ap spelling_of z, or_left (same_look (Some y) (Some x)) (among ys x) (rw z (same_look_refl (Some x))))
    go false e more =
        let is : operator (y ∷ ys) w ≡ operator ys w = rw e refl in
        let found = more (sym is ∙ h) in
        (found.0, or_right (same_look (Some y) (Some x)) (among ys x) found.1)

-- the same for the next symbol
abbrev pub among_at : List Lexeme → Option Lexeme → Bool
among_at ops None = false
among_at ops (Some x) = among ops x

-- a test of each next symbol
abbrev pub whenever : (Option Lexeme → Bool) → (Option Lexeme → Bool) → Bool
whenever p q = each (λ x. implies (p x) (q x)) all_lookaheads

pub at_whenever : (p q : Option Lexeme → Bool) (x : Option Lexeme) → whenever p q ≡ true → p x ≡ true → q x ≡ true
at_whenever p q x test h = implies_true _ _ (at_lookahead (λ y. implies (p y) (q y)) x test) h

-- the test of a node of no symbol
abbrev pub blank_to : Start → Kind → Bool
blank_to (Blank j) k = same_kind j k
blank_to _ k = false

pub blank_to_eq : (g : Start) (k : Kind) → blank_to g k ≡ true → g ≡ Blank k
blank_to_eq (Leaf j) k h = cc
blank_to_eq (Open j v m) k h = cc
blank_to_eq (Predict j m) k h = cc
blank_to_eq (Blank j) k h = ap Blank (same_kind_eq j k h)
blank_to_eq NoStart k h = cc

-- the test of a list without a symbol in front
abbrev pub predicts_to : Start → Kind → List Item → Bool
predicts_to (Predict j m) k l = same_kind j k && same_items m l
predicts_to _ k l = false

pub predicts_to_eq : (g : Start) (k : Kind) (l : List Item) → predicts_to g k l ≡ true → g ≡ Predict k l
predicts_to_eq (Leaf j) k l h = cc
predicts_to_eq (Open j v m) k l h = cc
predicts_to_eq (Predict j m) k l h =
    let p = &&_split _ _ h in
    let a : j ≡ k = same_kind_eq j k p.0 in
    let c : m ≡ l = same_items_eq m l p.1 in cc
predicts_to_eq (Blank j) k l h = cc
predicts_to_eq NoStart k l h = cc

-- the test of a finished node that becomes the only kid of another, or the first kid of one that goes on
abbrev pub wraps_to : Grow → Kind → Bool
wraps_to (Wrap j) k = same_kind j k
wraps_to _ k = false

pub wraps_to_eq : (g : Grow) (k : Kind) → wraps_to g k ≡ true → g ≡ Wrap k
wraps_to_eq Give k h = cc
wraps_to_eq (Wrap j) k h = ap Wrap (same_kind_eq j k h)
wraps_to_eq (Shift j v m) k h = cc
wraps_to_eq (Enter j m) k h = cc

abbrev pub enters_to : Grow → Kind → List Item → Bool
enters_to (Enter j m) k l = same_kind j k && same_items m l
enters_to _ k l = false

pub enters_to_eq : (g : Grow) (k : Kind) (l : List Item) → enters_to g k l ≡ true → g ≡ Enter k l
enters_to_eq Give k l h = cc
enters_to_eq (Wrap j) k l h = cc
enters_to_eq (Shift j v m) k l h = cc
enters_to_eq (Enter j m) k l h =
    let p = &&_split _ _ h in
    let a : j ≡ k = same_kind_eq j k p.0 in
    let c : m ≡ l = same_items_eq m l p.1 in cc

-- the test of a node that goes on as another
abbrev pub recasts_to : Option (Kind × List Item) → Kind → List Item → Bool
recasts_to None k l = false
recasts_to (Some p) k l = same_kind p.0 k && same_items p.1 l

pub recasts_to_eq : (o : Option (Kind × List Item)) (k : Kind) (l : List Item) → recasts_to o k l ≡ true → o ≡ Some (k, l)
recasts_to_eq None k l h = cc
recasts_to_eq (Some p) k l h =
    let q : (same_kind p.0 k ≡ true) × (same_items p.1 l ≡ true) = &&_split _ _ h in
    let a : p.0 ≡ k = same_kind_eq p.0 k q.0 in
    let c : p.1 ≡ l = same_items_eq p.1 l q.1 in
    λ i. Some (a i, c i)
