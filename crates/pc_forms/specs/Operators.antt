-- Operators and signs, by the words of the nodes that have them.
use Rattle.std.specs.Prelude.{ℕ, Bool, List, if◌then◌else◌}
use Rattle.std.specs.Str.{bytes_eq}
use Rattle.pc_syntax.specs.declared.lexeme.Lexeme.{Lexeme}
use Rattle.pc_syntax.specs.declared.lexeme.Lexeme.TheVariants as lexeme
use Rattle.pc_forms.specs.declared.operator.Sign.{Sign}
use Rattle.pc_forms.specs.declared.operator.Sign.TheVariants as sign
use Rattle.pc_forms.specs.declared.operator.MulOperator.{MulOperator}
use Rattle.pc_forms.specs.declared.operator.MulOperator.TheVariants as mul
use Rattle.pc_forms.specs.declared.operator.AddOperator.{AddOperator}
use Rattle.pc_forms.specs.declared.operator.AddOperator.TheVariants as add
use Rattle.pc_forms.specs.declared.operator.RelOperator.{RelOperator}
use Rattle.pc_forms.specs.declared.operator.RelOperator.TheVariants as rel
use Rattle.pc_syntax.specs.Spellings.{spelling_of}

-- whether the word is that of a symbol
abbrev pub is_spelling : Lexeme → List ℕ → Bool
is_spelling x w = bytes_eq (spelling_of x) w

-- whether a `for` goes downwards, by its word
abbrev pub is_downto : List ℕ → Bool
is_downto w = is_spelling lexeme.KeyDownto w

-- the sign that is written so; of a word of such a node, which is `+` or `-`
abbrev pub sign_of : List ℕ → Sign
sign_of w = if is_spelling lexeme.Minus w then sign.Minus else sign.Plus

-- the operator that is written so; the last one is `and`, for a node with such an operator has no other word
abbrev pub mul_of : List ℕ → MulOperator
mul_of w =
    if is_spelling lexeme.Star w then mul.Times else
    if is_spelling lexeme.KeyDiv w then mul.Div else
    if is_spelling lexeme.KeyMod w then mul.Mod else mul.And

-- the same, the last one is `or`
abbrev pub add_of : List ℕ → AddOperator
add_of w =
    if is_spelling lexeme.Plus w then add.Plus else
    if is_spelling lexeme.Minus w then add.Minus else add.Or

-- the same, the last one is `in`
abbrev pub rel_of : List ℕ → RelOperator
rel_of w =
    if is_spelling lexeme.Equal w then rel.Equal else
    if is_spelling lexeme.Unequal w then rel.Unequal else
    if is_spelling lexeme.Less w then rel.Less else
    if is_spelling lexeme.Greater w then rel.Greater else
    if is_spelling lexeme.AtMost w then rel.AtMost else
    if is_spelling lexeme.AtLeast w then rel.AtLeast else rel.In

-- the symbol that is written for a sign, for each operator, and for the direction of a `for`
abbrev pub sign_symbol : Sign → Lexeme
sign_symbol sign.Plus = lexeme.Plus
sign_symbol sign.Minus = lexeme.Minus

abbrev pub mul_symbol : MulOperator → Lexeme
mul_symbol mul.Times = lexeme.Star
mul_symbol mul.Div = lexeme.KeyDiv
mul_symbol mul.Mod = lexeme.KeyMod
mul_symbol mul.And = lexeme.KeyAnd

abbrev pub add_symbol : AddOperator → Lexeme
add_symbol add.Plus = lexeme.Plus
add_symbol add.Minus = lexeme.Minus
add_symbol add.Or = lexeme.KeyOr

abbrev pub rel_symbol : RelOperator → Lexeme
rel_symbol rel.Equal = lexeme.Equal
rel_symbol rel.Unequal = lexeme.Unequal
rel_symbol rel.Less = lexeme.Less
rel_symbol rel.Greater = lexeme.Greater
rel_symbol rel.AtMost = lexeme.AtMost
rel_symbol rel.AtLeast = lexeme.AtLeast
rel_symbol rel.In = lexeme.KeyIn

abbrev pub direction_symbol : Bool → Lexeme
direction_symbol downwards = if downwards then lexeme.KeyDownto else lexeme.KeyTo
