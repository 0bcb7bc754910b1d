-- The word of a node with an operator is the spelling of the operator that it is read as.
use Rattle.std.proofs.Common.{◌≡◌, ℕ, Bool, true, false, ◌||◌, if◌then◌else◌, List, refl}
use Rattle.std.proofs.lemmas.Slice.Eq.{bytes_eq-Decides}
use Rattle.pc_syntax.specs.declared.kind.Kind.TheVariants.{For, Mul, Add, Sign, Rel}
use Rattle.pc_syntax.specs.declared.lexeme.Lexeme.{Lexeme}
use Rattle.pc_syntax.specs.declared.lexeme.Lexeme.TheVariants as lexeme
use Rattle.pc_syntax.specs.Fits.{word_fits}
use Rattle.pc_syntax.specs.Spellings.{spelling_of}
use Rattle.pc_forms.specs.declared.operator.Sign.TheVariants as sign
use Rattle.pc_forms.specs.declared.operator.MulOperator.TheVariants as mul
use Rattle.pc_forms.specs.declared.operator.AddOperator.TheVariants as add
use Rattle.pc_forms.specs.declared.operator.RelOperator.TheVariants as rel
use Rattle.pc_forms.specs.Operators.{is_spelling, is_downto, sign_of, mul_of, add_of, rel_of, sign_symbol, mul_symbol, add_symbol, rel_symbol, direction_symbol}

-- a choice is spelled so, where either choice is
chosen : {A : Type 0} (symbol : A → Lexeme) (b : Bool) (x y : A) (w : List ℕ) → (b ≡ true → spelling_of (symbol x) ≡ w) → (b ≡ false → spelling_of (symbol y) ≡ w) → spelling_of (symbol (if b then x else y)) ≡ w
chosen symbol true x y w h g = h refl
chosen symbol false x y w h g = g refl

-- what is spelled so
same : (x : Lexeme) (w : List ℕ) → is_spelling x w ≡ true → spelling_of x ≡ w
same x w e = (bytes_eq-Decides (spelling_of x) w).0 e

-- one of two holds, where the other one doesn't
other : (a b : Bool) → (a || b) ≡ true → a ≡ false → b ≡ true
other true b e f = cc
other false b e f = e

first : (a : Bool) → (a || false) ≡ true → a ≡ true
first true e = refl
first false e = e

but_second : (a b : Bool) → (a || (b || false)) ≡ true → b ≡ false → a ≡ true
but_second true b e f = refl
but_second false true e f = cc
but_second false false e f = e

-- the last of a list of symbols
only : (x : Lexeme) (w : List ℕ) → (is_spelling x w || false) ≡ true → spelling_of x ≡ w
only x w e = same x w (first (is_spelling x w) e)

-- of `*`, `div`, `mod` and `and`
pub mul_symbol-mul_of : (w : List ℕ) → word_fits Mul w ≡ true → spelling_of (mul_symbol (mul_of w)) ≡ w
mul_symbol-mul_of w e =
    chosen mul_symbol (is_spelling lexeme.Star w) mul.Times _ w (same lexeme.Star w) (λ n0.
    let e0 = other (is_spelling lexeme.Star w) _ e n0 in
    chosen mul_symbol (is_spelling lexeme.KeyDiv w) mul.Div _ w (same lexeme.KeyDiv w) (λ n1.
    let e1 = other (is_spelling lexeme.KeyDiv w) _ e0 n1 in
    chosen mul_symbol (is_spelling lexeme.KeyMod w) mul.Mod _ w (same lexeme.KeyMod w) (λ n2.
    let e2 = other (is_spelling lexeme.KeyMod w) _ e1 n2 in
    only lexeme.KeyAnd w e2)))

-- of `+`, `-` and `or`
pub add_symbol-add_of : (w : List ℕ) → word_fits Add w ≡ true → spelling_of (add_symbol (add_of w)) ≡ w
add_symbol-add_of w e =
    chosen add_symbol (is_spelling lexeme.Plus w) add.Plus _ w (same lexeme.Plus w) (λ n0.
    let e0 = other (is_spelling lexeme.Plus w) _ e n0 in
    chosen add_symbol (is_spelling lexeme.Minus w) add.Minus _ w (same lexeme.Minus w) (λ n1.
    let e1 = other (is_spelling lexeme.Minus w) _ e0 n1 in
    only lexeme.KeyOr w e1))

-- of `=`, `<>`, `<`, `>`, `<=`, `>=` and `in`
pub rel_symbol-rel_of : (w : List ℕ) → word_fits Rel w ≡ true → spelling_of (rel_symbol (rel_of w)) ≡ w
rel_symbol-rel_of w e =
    chosen rel_symbol (is_spelling lexeme.Equal w) rel.Equal _ w (same lexeme.Equal w) (λ n0.
    let e0 = other (is_spelling lexeme.Equal w) _ e n0 in
    chosen rel_symbol (is_spelling lexeme.Unequal w) rel.Unequal _ w (same lexeme.Unequal w) (λ n1.
    let e1 = other (is_spelling lexeme.Unequal w) _ e0 n1 in
    chosen rel_symbol (is_spelling lexeme.Less w) rel.Less _ w (same lexeme.Less w) (λ n2.
    let e2 = other (is_spelling lexeme.Less w) _ e1 n2 in
    chosen rel_symbol (is_spelling lexeme.Greater w) rel.Greater _ w (same lexeme.Greater w) (λ n3.
    let e3 = other (is_spelling lexeme.Greater w) _ e2 n3 in
    chosen rel_symbol (is_spelling lexeme.AtMost w) rel.AtMost _ w (same lexeme.AtMost w) (λ n4.
    let e4 = other (is_spelling lexeme.AtMost w) _ e3 n4 in
    chosen rel_symbol (is_spelling lexeme.AtLeast w) rel.AtLeast _ w (same lexeme.AtLeast w) (λ n5.
    let e5 = other (is_spelling lexeme.AtLeast w) _ e4 n5 in
    only lexeme.KeyIn w e5))))))

-- of `+` and `-`, of which the second is asked for first
pub sign_symbol-sign_of : (w : List ℕ) → word_fits Sign w ≡ true → spelling_of (sign_symbol (sign_of w)) ≡ w
sign_symbol-sign_of w e = chosen sign_symbol (is_spelling lexeme.Minus w) sign.Minus sign.Plus w (same lexeme.Minus w) (λ n. same lexeme.Plus w (but_second (is_spelling lexeme.Plus w) (is_spelling lexeme.Minus w) e n))

-- of `to` and `downto`
pub direction_symbol-is_downto : (w : List ℕ) → word_fits For w ≡ true → spelling_of (direction_symbol (is_downto w)) ≡ w
direction_symbol-is_downto w e = chosen (λ x. x) (is_downto w) lexeme.KeyDownto lexeme.KeyTo w (same lexeme.KeyDownto w) (λ n. same lexeme.KeyTo w (but_second (is_spelling lexeme.KeyTo w) (is_downto w) e n))
