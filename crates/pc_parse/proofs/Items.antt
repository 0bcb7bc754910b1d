-- Items are compared by computation.
use Rattle.std.proofs.Common.{◌≡◌, suc, Bool, true, false, ◌&&◌, eqb, List, [], ◌∷◌, Some, refl, ap, sym, ◌∙◌}
use Rattle.std.proofs.lemmas.Bool.{eqb-true}
use Rattle.pc_syntax.specs.declared.sort.Sort.TheVariants as sort
use Rattle.pc_syntax.specs.declared.lexeme.Lexeme.{Lexeme}
use Rattle.pc_syntax.specs.declared.lexeme.Lexeme.TheVariants as lexeme
use Rattle.pc_syntax.specs.declared.class.Class.{Class}
use Rattle.pc_syntax.specs.declared.item.Item.{Item}
use Rattle.pc_syntax.specs.declared.item.Item.TheVariants.{Literal, Word, Kid}
use Rattle.pc_parse.specs.Lookahead.{lexeme_number, same}
use Rattle.pc_parse.proofs.Entries.{nth, all_classes, all_lookaheads, class_place, class_nth, &&_split}

lexeme_nth : (x : Lexeme) → nth all_lookaheads (suc (lexeme_number x)) ≡ Some (Some x)
lexeme_nth lexeme.KeyAnd = refl
lexeme_nth (lexeme.Hole sort.Program) = refl
lexeme_nth (lexeme.Hole _) = refl
lexeme_nth _ = refl

some_eq : {A : Type 0} (x y : A) → Some x ≡ Some y → x ≡ y
some_eq x y h = cc

pub same_eq : (x y : Lexeme) → same x y ≡ true → x ≡ y
same_eq x y h =
    let n : lexeme_number x ≡ lexeme_number y = eqb-true _ _ h in
    some_eq _ _ (some_eq _ _ (sym (lexeme_nth x) ∙ ap (λ k. nth all_lookaheads (suc k)) n ∙ lexeme_nth y))

abbrev pub same_class : Class → Class → Bool
same_class c d = eqb (class_place c) (class_place d)

pub same_class_eq : (c d : Class) → same_class c d ≡ true → c ≡ d
same_class_eq c d h =
    let n : class_place c ≡ class_place d = eqb-true _ _ h in
    some_eq _ _ (sym (class_nth c) ∙ ap (nth all_classes) n ∙ class_nth d)

abbrev pub same_item : Item → Item → Bool
same_item (Literal x) (Literal y) = same x y
same_item (Word x) (Word y) = same x y
same_item (Kid c) (Kid d) = same_class c d
same_item _ _ = false

pub same_item_eq : (i j : Item) → same_item i j ≡ true → i ≡ j
same_item_eq (Literal x) (Literal y) h = ap Literal (same_eq x y h)
same_item_eq (Word x) (Word y) h = ap Word (same_eq x y h)
same_item_eq (Kid c) (Kid d) h = ap Kid (same_class_eq c d h)
same_item_eq _ _ h = cc

abbrev pub same_items : List Item → List Item → Bool
same_items [] [] = true
same_items [] (j ∷ m) = false
same_items (i ∷ l) [] = false
same_items (i ∷ l) (j ∷ m) = same_item i j && same_items l m

pub same_items_eq : (l m : List Item) → same_items l m ≡ true → l ≡ m
same_items_eq [] [] h = refl
same_items_eq [] (j ∷ m) h = cc
same_items_eq (i ∷ l) [] h = cc
same_items_eq (i ∷ l) (j ∷ m) h =
    let p : (same_item i j ≡ true) × (same_items l m ≡ true) = &&_split _ _ h in
    let e : i ≡ j = same_item_eq i j p.0 in
    let es : l ≡ m = same_items_eq l m p.1 in
    rw (e, es) refl
