-- The text of a constant by the outermost level of its type.
use Rattle.std.proofs.Common.{◌≡◌, ℕ, ℤ, ◌%◌, List, ◌++◌, sym, ap, ◌∙◌, nat_abs}
use Rattle.std.specs.Fmt.{signed_decimal}
use Rattle.pc_types.specs.Expanded.{Ty, TruthTy, LetterTy, NamedTy}
use Rattle.pc_heads.specs.declared.ty.Ty.{Ty as Head, fold-roll-Ty, ind-Ty, roll-Ty}
use Rattle.pc_heads.specs.declared.ty.Ty.TheOpen.{Ty-F}
use Rattle.pc_heads.specs.declared.ty.Ty.TheVariants as head
use Rattle.pc_decl.specs.TypeText.{name_with, character_text, truth_text, constant_text}
use Rattle.pc_decl.specs.Structures.{level_of, structure}
use Rattle.pc_decl.specs.StructuresLaws.{structure-Truth, structure-Letter, structure-Named}

-- a text with the constant behind it, where the structure of the type is known
constant-of : (text text' piece : List ℕ) (h : Head) (t : Ty) (i : ℤ) → structure h ≡ t → text' ≡ text ++ piece → piece ≡ constant_text t i →
    text' ≡ text ++ constant_text (structure h) i
constant-of text text' piece h t i is new same = new ∙ ap (λ (s : List ℕ). text ++ s) (same ∙ ap (λ (u : Ty). constant_text u i) (sym is))

pub truth-of : (text text' : List ℕ) (h : Head) (i : ℤ) (n : ℕ) → h ≡ head.Truth → n ≡ nat_abs i → text' ≡ text ++ truth_text n → text' ≡ text ++ constant_text (structure h) i
truth-of text text' h i n is number new = constant-of text text' (truth_text n) h TruthTy i (ap structure is ∙ structure-Truth) new (ap truth_text number)

pub letter-of : (text text' : List ℕ) (h : Head) (i : ℤ) (n : ℕ) → h ≡ head.Letter → n ≡ nat_abs i → text' ≡ text ++ character_text (n % 256) → text' ≡ text ++ constant_text (structure h) i
letter-of text text' h i n is number new =
    constant-of text text' (character_text (n % 256)) h LetterTy i (ap structure is ∙ structure-Letter) new (ap (λ (m : ℕ). character_text (m % 256)) number)

pub name-of : (text text' : List ℕ) (h : Head) (i : ℤ) (n : ℕ) (names : List (List ℕ)) → h ≡ head.Named names → n ≡ nat_abs i →
    text' ≡ text ++ name_with n names → text' ≡ text ++ constant_text (structure h) i
name-of text text' h i n names is number new =
    constant-of text text' (name_with n names) h (NamedTy names) i (ap structure is ∙ structure-Named names) new (ap (λ (m : ℕ). name_with m names) number)

-- a type whose constants are shown as numbers
abbrev IsNumbered : Head → Type 0
IsNumbered h = (h ≡ head.Truth → ⊥) × (h ≡ head.Letter → ⊥) × ((names : List (List ℕ)) → h ≡ head.Named names → ⊥)

level-number : (x : Ty-F Head) (i : ℤ) → IsNumbered (roll-Ty x) → constant_text (structure (roll-Ty x)) i ≡ signed_decimal i
unfolding structure
level-number Ty-F.Int i other = ap (λ (t : Ty). constant_text t i) (fold-roll-Ty Ty level_of Ty-F.Int)
level-number Ty-F.Truth i other = absurd (other.0 head.rolls-Truth)
level-number Ty-F.Letter i other = absurd (other.1 head.rolls-Letter)
level-number (Ty-F.Named names) i other = absurd (other.2 names (head.rolls-Named names))
level-number (Ty-F.Sub host low high) i other = ap (λ (t : Ty). constant_text t i) (fold-roll-Ty Ty level_of (Ty-F.Sub host low high))
level-number (Ty-F.Array packed index element) i other = ap (λ (t : Ty). constant_text t i) (fold-roll-Ty Ty level_of (Ty-F.Array packed index element))
level-number (Ty-F.Record packed fields) i other = ap (λ (t : Ty). constant_text t i) (fold-roll-Ty Ty level_of (Ty-F.Record packed fields))
level-number (Ty-F.Set packed base) i other = ap (λ (t : Ty). constant_text t i) (fold-roll-Ty Ty level_of (Ty-F.Set packed base))
level-number (Ty-F.Pointer key name) i other = ap (λ (t : Ty). constant_text t i) (fold-roll-Ty Ty level_of (Ty-F.Pointer key name))

number-is : (i : ℤ) (h : Head) → IsNumbered h → constant_text (structure h) i ≡ signed_decimal i
number-is i = ind-Ty (λ (h : Head). IsNumbered h → constant_text (structure h) i ≡ signed_decimal i) (λ x y is. level-number x i)

pub number-of : (text text' : List ℕ) (h : Head) (i : ℤ) → (h ≡ head.Truth → ⊥) → (h ≡ head.Letter → ⊥) → ((names : List (List ℕ)) → h ≡ head.Named names → ⊥) →
    text' ≡ text ++ signed_decimal i → text' ≡ text ++ constant_text (structure h) i
number-of text text' h i t l n new = new ∙ ap (λ (s : List ℕ). text ++ s) (sym (number-is i h (t, l, n)))
