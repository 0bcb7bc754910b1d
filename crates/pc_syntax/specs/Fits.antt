-- What the grammar asks of a node, in parts: its word, the number of its kids, and the class of each.
use Rattle.std.specs.Prelude.{ℕ, suc, Bool, true, false, ◌&&◌, not, ◌==◌, nat_le, if◌then◌else◌, List, [], ◌∷◌, Option, Some, None, map, length}
use Rattle.std.specs.Str.{bytes_eq}
use Rattle.pc_syntax.specs.declared.kind.Kind.{Kind}
use Rattle.pc_syntax.specs.declared.kind.Kind.TheVariants.{Forward, Record, Cnumber, Cstring, Csign, Case, For, Number, Text, Mul, Add, Sign, Rel, Name}
use Rattle.pc_syntax.specs.declared.lexeme.Lexeme.{Lexeme}
use Rattle.pc_syntax.specs.declared.lexeme.Lexeme.TheVariants as lexeme
use Rattle.pc_syntax.specs.declared.class.Class.{Class}
use Rattle.pc_syntax.specs.Plain.{Plain, forest_of}
use Rattle.pc_syntax.specs.Spellings.{spelling_of}
use Rattle.pc_syntax.specs.Words.{is_identifier, is_forward, is_numeral, is_text, is_among}
use Rattle.pc_syntax.specs.Classes.{has}
use Rattle.pc_syntax.specs.Slots.{is_list, count_of, class_from}
use Rattle.pc_syntax.specs.WellFormed.{takes_notes, breaks_else_rule}

-- whether there is no word
abbrev pub is_wordless : List ℕ → Bool
is_wordless [] = true
is_wordless (b ∷ w) = false

-- whether there is no word, or `;`
abbrev pub is_last_semicolon : List ℕ → Bool
is_last_semicolon [] = true
is_last_semicolon (b ∷ w) = bytes_eq (b ∷ w) (spelling_of lexeme.Semicolon)

-- whether one of these symbols is written like the word
abbrev pub is_operator : List Lexeme → List ℕ → Bool
is_operator xs w = is_among (map spelling_of xs) w

-- whether a node of this kind may have this word
abbrev pub word_fits : Kind → List ℕ → Bool
word_fits Forward w = is_forward w
word_fits Record w = is_last_semicolon w
word_fits Cnumber w = is_numeral w
word_fits Cstring w = is_text w
word_fits Csign w = is_operator (lexeme.Plus ∷ lexeme.Minus ∷ []) w
word_fits Case w = is_last_semicolon w
word_fits For w = is_operator (lexeme.KeyTo ∷ lexeme.KeyDownto ∷ []) w
word_fits Number w = is_numeral w
word_fits Text w = is_text w
word_fits Mul w = is_operator (lexeme.Star ∷ lexeme.KeyDiv ∷ lexeme.KeyMod ∷ lexeme.KeyAnd ∷ []) w
word_fits Add w = is_operator (lexeme.Plus ∷ lexeme.Minus ∷ lexeme.KeyOr ∷ []) w
word_fits Sign w = is_operator (lexeme.Plus ∷ lexeme.Minus ∷ []) w
word_fits Rel w = is_operator (lexeme.Equal ∷ lexeme.Unequal ∷ lexeme.Less ∷ lexeme.Greater ∷ lexeme.AtMost ∷ lexeme.AtLeast ∷ lexeme.KeyIn ∷ []) w
word_fits Name w = is_identifier w
word_fits _ w = is_wordless w

-- whether a node of this kind may have so many kids
abbrev pub takes_count : Kind → ℕ → Bool
takes_count k n = if is_list k then nat_le (count_of k) n else n == count_of k

-- whether a kid of this kind may stand at a place of this class; no kid where there is no place
abbrev pub takes : Option Class → Kind → Bool
takes None j = false
takes (Some c) j = has c j

-- whether kids of these kinds may stand at the places from one on, counted from 0
abbrev pub takes_from : Kind → ℕ → List Kind → Bool
takes_from k i [] = true
takes_from k i (j ∷ js) = takes (class_from k i) j && takes_from k (suc i) js

abbrev pub kinds_of : List Plain → List Kind
kinds_of ks = map (λ p. p.kind) ks

-- whether a node may have this word, these notes and these kids, which are well formed
unfoldable pub node_fits : Kind → List ℕ → List (List ℕ) → List Plain → Bool
node_fits k w ns ks = word_fits k w && (takes_count k (length ks) && (takes_from k 0 (kinds_of ks) && (takes_notes k (length ks) ns && not (breaks_else_rule k (forest_of ks)))))
