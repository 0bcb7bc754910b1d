-- A layout that is there has the items of its row.
use Rattle.std.proofs.Common.{◌≡◌, ℕ, ◌+◌, ◌-◌, ◌<◌, suc, zero, Bool, true, false, List, [], ◌∷◌, ◌++◌, Option, Some, None, refl, ap, sym, ◌∙◌, append_assoc, arith}
use Rattle.std.specs.Prelude.{IsSome}
use Rattle.pc_syntax.specs.declared.item.Item.{Item}
use Rattle.pc_syntax.specs.declared.item.Item.TheVariants.{Word, Kid}
use Rattle.pc_syntax.specs.declared.lexeme.Lexeme.{Lexeme}
use Rattle.pc_syntax.specs.declared.class.Class.{Class}
use Rattle.pc_syntax.specs.Layout.{wordless, spelled, further, elements}
use Rattle.pc_layout.specs.Items.{one_more}

pub wordless_is : (w : List ℕ) (o : Option (List Item)) → IsSome (wordless w o) → wordless w o ≡ o
wordless_is [] o s = refl
wordless_is (b ∷ w) o s = cc

pub spelled_is : (b : Bool) (x : Lexeme) → IsSome (spelled b x) → spelled b x ≡ Some (Word x ∷ [])
spelled_is true x s = refl
spelled_is false x s = cc

further_suc : (sep : Option Lexeme) (c : Class) (n : ℕ) (close : List Item) → further sep c (suc n) close ≡ one_more sep c ++ further sep c n close
further_suc None c n close = refl
further_suc (Some x) c n close = refl

-- what further elements stand behind the items so far, one step on
pub further_more : (sep : Option Lexeme) (c : Class) (n i : ℕ) (close so_far : List Item) → i < n →
    so_far ++ further sep c (n - i) close ≡ (so_far ++ one_more sep c) ++ further sep c (n - (i + 1)) close
further_more sep c n i close so_far l =
    let e : n - i ≡ suc (n - (i + 1)) = omega arith in
    rw e (ap (λ is. so_far ++ is) (further_suc sep c (n - (i + 1)) close) ∙ sym (append_assoc so_far (one_more sep c) (further sep c (n - (i + 1)) close)))

-- when no further element is to come
pub further_done : (sep : Option Lexeme) (c : Class) (n i : ℕ) (close so_far : List Item) → n < i + 1 → so_far ++ further sep c (n - i) close ≡ so_far ++ close
further_done sep c n i close so_far l =
    let e : n - i ≡ zero = omega arith in
    rw e refl

-- a list with an element
pub elements_is : (opening : List Item) (sep : Option Lexeme) (c : Class) (close : List Item) (n : ℕ) (h : n ≡ zero → ⊥) →
    elements opening sep c close n ≡ Some (opening ++ Kid c ∷ further sep c (n - 1) close)
elements_is opening sep c close zero h = absurd (h refl)
elements_is opening sep c close (suc n) h =
    let e : suc n - 1 ≡ n = omega arith in
    rw e refl
