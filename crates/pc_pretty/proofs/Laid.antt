-- Every node's items pass the test.
use Rattle.std.proofs.Common.{◌≡◌, ℕ, zero, suc, Bool, true, false, inl, inr, List, [], ◌∷◌, ◌++◌, Option, Some, None, refl, ap, subst, ◌∙◌}
use Rattle.std.proofs.lemmas.Bool.{and_parts, cases_Bool, false≢true}
use Rattle.std.specs.List.{list_all}
use Rattle.std.specs.Str.{bytes_eq}
use Rattle.pc_syntax.specs.declared.kind.Kind.{Kind}
use Rattle.pc_syntax.specs.declared.kind.Kind.TheVariants as kind
use Rattle.pc_syntax.specs.declared.class.Class.{Class}
use Rattle.pc_syntax.specs.declared.class.Class.TheVariants as class
use Rattle.pc_syntax.specs.declared.lexeme.Lexeme.{Lexeme}
use Rattle.pc_syntax.specs.declared.lexeme.Lexeme.TheVariants as lexeme
use Rattle.pc_syntax.specs.declared.item.Item.{Item}
use Rattle.pc_syntax.specs.declared.item.Item.TheVariants.{Literal, Word, Kid}
use Rattle.pc_syntax.specs.Layout.{wordless, spelled, operator, around, last_semicolon, further, elements, some_elements, layout}
use Rattle.pc_syntax.specs.Spellings.{spelling_of}
use Rattle.pc_syntax.specs.Words.{is_forward, is_identifier, is_numeral, is_text}
use Rattle.pc_lex.specs.Proper.{IsProper}
use Rattle.pc_pretty.specs.Spacing.{space, spacings}
use Rattle.pc_pretty.proofs.Apart.{extends, first_byte, good_first, good_last, opening}
use Rattle.pc_pretty.proofs.Tidy.{Prev, AtStart, After, tight_at, starts_paren, is_blank, is_loose, class_paren, class_blank, class_loose, is_fixed, after_kid, tidy}
use Rattle.pc_pretty.proofs.Arranged.{Words}
use Rattle.pc_pretty.proofs.Forward.{forward_identifier}

-- items pass the test, and their words are written as such
pub record Passes (k : Kind) (w : List ℕ) (items : List Item) : Type 0 where
  pub passes : tidy k 0 items (AtStart ∷ []) ≡ true
  pub words : Words items w

-- no item is the node's word
abbrev has_no_word : List Item → Bool
has_no_word [] = true
has_no_word (Literal x ∷ is) = has_no_word is
has_no_word (Word x ∷ is) = false
has_no_word (Kid c ∷ is) = has_no_word is

no_words : (is : List Item) (w : List ℕ) → has_no_word is ≡ true → Words is w
no_words [] w h = tt
no_words (Literal x ∷ is) w h = no_words is w h
no_words (Word x ∷ is) w h = absurd (false≢true h)
no_words (Kid c ∷ is) w h = no_words is w h

no_word-append : (is js : List Item) → has_no_word is ≡ true → has_no_word js ≡ true → has_no_word (is ++ js) ≡ true
no_word-append [] js h g = g
no_word-append (Literal x ∷ is) js h g = no_word-append is js h g
no_word-append (Word x ∷ is) js h g = absurd (false≢true h)
no_word-append (Kid c ∷ is) js h g = no_word-append is js h g

value_or : Option (List Item) → List Item → List Item
value_or None d = d
value_or (Some is) d = is

same_items : (is items : List Item) → Some is ≡ Some items → is ≡ items
unfolding value_or
same_items is items e = ap (λ o. value_or o is) e

passing : (k : Kind) (w : List ℕ) (is items : List Item) → tidy k 0 is (AtStart ∷ []) ≡ true → has_no_word is ≡ true → Some is ≡ Some items → Passes k w items
passing k w is items t n e = subst (Passes k w) (same_items is items e) record { passes = t; words = no_words is w n }

wordless_row : (k : Kind) (w : List ℕ) (is items : List Item) → tidy k 0 is (AtStart ∷ []) ≡ true → has_no_word is ≡ true → wordless w (Some is) ≡ Some items → Passes k w items
wordless_row k [] is items t n e = passing k [] is items t n e
wordless_row k (b ∷ w) is items t n e = cc

word_row : (k : Kind) (w : List ℕ) (b : Bool) (x : Lexeme) (items : List Item) → tidy k 0 (Word x ∷ []) (AtStart ∷ []) ≡ true → (b ≡ true → IsProper x w) → spelled b x ≡ Some items → Passes k w items
word_row k w true x items t p e = subst (Passes k w) (same_items (Word x ∷ []) items e) record { passes = t; words = (p refl, tt) }
word_row k w false x items t p e = cc

around_row : (k : Kind) (ops : List Lexeme) (w : List ℕ) (before behind items : List Item) → list_all (λ x. tidy k 0 (before ++ Literal x ∷ behind) (AtStart ∷ [])) ops ≡ true →
    has_no_word before ≡ true → has_no_word behind ≡ true → around (operator ops w) before behind ≡ Some items → Passes k w items
around_row k [] w before behind items t n m e = cc
around_row k (x ∷ xs) w before behind items t n m e =
    let both : (tidy k 0 (before ++ Literal x ∷ behind) (AtStart ∷ []) ≡ true) × (list_all (λ y. tidy k 0 (before ++ Literal y ∷ behind) (AtStart ∷ [])) xs ≡ true) = and_parts _ _ t in
    elim (cases_Bool (bytes_eq (spelling_of x) w)) [
      | inl s ↦ passing k w (before ++ Literal x ∷ behind) items both.0 (no_word-append before (Literal x ∷ behind) n m) (rw s at e)
      | inr s ↦ around_row k xs w before behind items both.1 n m (rw s at e)
    ]

last_row : (k : Kind) (w : List ℕ) (before behind items : List Item) → tidy k 0 (before ++ behind) (AtStart ∷ []) ≡ true → tidy k 0 (before ++ Literal lexeme.Semicolon ∷ behind) (AtStart ∷ []) ≡ true →
    has_no_word before ≡ true → has_no_word behind ≡ true → last_semicolon w before behind ≡ Some items → Passes k w items
last_row k [] before behind items t u n m e = passing k [] (before ++ behind) items t (no_word-append before behind n m) e
last_row k (b ∷ w) before behind items t u n m e = elim (cases_Bool (bytes_eq (b ∷ w) (spelling_of lexeme.Semicolon))) [
  | inl s ↦ passing k (b ∷ w) (before ++ Literal lexeme.Semicolon ∷ behind) items u (no_word-append before (Literal lexeme.Semicolon ∷ behind) n m) (rw s at e)
  | inr s ↦ let no : None ≡ Some items = rw s at e in cc
]

further_no_word : (sep : Option Lexeme) (c : Class) (m : ℕ) (close : List Item) → has_no_word close ≡ true → has_no_word (further sep c m close) ≡ true
further_no_word sep c zero close h = h
further_no_word None c (suc m) close h = further_no_word None c m close h
further_no_word (Some x) c (suc m) close h = further_no_word (Some x) c m close h

-- further elements behind separators pass, where one does
further_row : (k : Kind) (x : Lexeme) (c : Class) (close : List Item) (first later : List Prev) → ((n : ℕ) → tidy k n close first ≡ true) → ((n : ℕ) → tidy k n close later ≡ true) →
    ((n : ℕ) (is : List Item) → tidy k n (Literal x ∷ Kid c ∷ is) first ≡ tidy k (suc (suc n)) is later) →
    ((n : ℕ) (is : List Item) → tidy k n (Literal x ∷ Kid c ∷ is) later ≡ tidy k (suc (suc n)) is later) →
    (m n : ℕ) → tidy k n (further (Some x) c m close) first ≡ true
further_row k x c close first later e f g h zero n = e n
further_row k x c close first later e f g h (suc m) n = g n (further (Some x) c m close) ∙ further_row k x c close later later f f h h m (suc (suc n))

-- and without separators
bare_row : (k : Kind) (c : Class) (ps : List Prev) → ((n : ℕ) → tidy k n [] ps ≡ true) → ((n : ℕ) (is : List Item) → tidy k n (Kid c ∷ is) ps ≡ tidy k (suc n) is ps) →
    (m n : ℕ) → tidy k n (further None c m []) ps ≡ true
bare_row k c ps e g zero n = e n
bare_row k c ps e g (suc m) n = g n (further None c m []) ∙ bare_row k c ps e g m (suc n)

elements_row : (k : Kind) (w : List ℕ) (opening : List Item) (sep : Option Lexeme) (c : Class) (close : List Item) (n : ℕ) (items : List Item) → tidy k 0 [] (AtStart ∷ []) ≡ true →
    ((m : ℕ) → tidy k 0 (opening ++ Kid c ∷ further sep c m close) (AtStart ∷ []) ≡ true) → has_no_word opening ≡ true → has_no_word close ≡ true →
    wordless w (elements opening sep c close n) ≡ Some items → Passes k w items
elements_row k [] opening sep c close zero items t u a b e = passing k [] [] items t refl e
elements_row k [] opening sep c close (suc n) items t u a b e =
    passing k [] (opening ++ Kid c ∷ further sep c n close) items (u n) (no_word-append opening (Kid c ∷ further sep c n close) a (further_no_word sep c n close b)) e
elements_row k (v ∷ w) opening sep c close n items t u a b e = cc

some_row : (k : Kind) (w : List ℕ) (sep : Option Lexeme) (c : Class) (n : ℕ) (items : List Item) →
    ((m : ℕ) → tidy k 0 (Kid c ∷ further sep c m []) (AtStart ∷ []) ≡ true) →
    wordless w (some_elements sep c n) ≡ Some items → Passes k w items
some_row k [] sep c zero items u e = cc
some_row k [] sep c (suc n) items u e = passing k [] (Kid c ∷ further sep c n []) items (u n) (further_no_word sep c n [] refl) e
some_row k (v ∷ w) sep c n items u e = cc

-- what every node is made of passes
pub laid_passes : (k : Kind) (w : List ℕ) (n : ℕ) (items : List Item) → layout k w n ≡ Some items → Passes k w items
unfolding extends first_byte good_first good_last opening tight_at starts_paren is_blank is_loose class_paren class_blank class_loose is_fixed space spacings
laid_passes kind.Program w n items e = wordless_row kind.Program w (Literal lexeme.KeyProgram ∷ Kid class.Name ∷ Kid class.Heads ∷ Literal lexeme.Semicolon ∷ Kid class.Block ∷ Literal lexeme.Dot ∷ []) items refl refl e
laid_passes kind.Block w n items e = wordless_row kind.Block w (Kid class.Consts ∷ Kid class.Types ∷ Kid class.Vars ∷ Kid class.Routines ∷ Kid class.Body ∷ []) items refl refl e
laid_passes kind.Forward w n items e = word_row kind.Forward w (is_forward w) lexeme.Identifier items refl (forward_identifier w) e
laid_passes kind.Constdef w n items e = wordless_row kind.Constdef w (Kid class.Name ∷ Literal lexeme.Equal ∷ Kid class.Constant ∷ Literal lexeme.Semicolon ∷ []) items refl refl e
laid_passes kind.Typedef w n items e = wordless_row kind.Typedef w (Kid class.Name ∷ Literal lexeme.Equal ∷ Kid class.Denoter ∷ Literal lexeme.Semicolon ∷ []) items refl refl e
laid_passes kind.Vardef w n items e = wordless_row kind.Vardef w (Kid class.Names ∷ Literal lexeme.Colon ∷ Kid class.Denoter ∷ Literal lexeme.Semicolon ∷ []) items refl refl e
laid_passes kind.Field w n items e = wordless_row kind.Field w (Kid class.Names ∷ Literal lexeme.Colon ∷ Kid class.Denoter ∷ []) items refl refl e
laid_passes kind.Valparam w n items e = wordless_row kind.Valparam w (Kid class.Names ∷ Literal lexeme.Colon ∷ Kid class.Name ∷ []) items refl refl e
laid_passes kind.Varparam w n items e = wordless_row kind.Varparam w (Literal lexeme.KeyVar ∷ Kid class.Names ∷ Literal lexeme.Colon ∷ Kid class.Name ∷ []) items refl refl e
laid_passes kind.Procedure w n items e = wordless_row kind.Procedure w (Literal lexeme.KeyProcedure ∷ Kid class.Name ∷ Kid class.Params ∷ Literal lexeme.Semicolon ∷ Kid class.Block ∷ Literal lexeme.Semicolon ∷ []) items refl refl e
laid_passes kind.Function w n items e = wordless_row kind.Function w (Literal lexeme.KeyFunction ∷ Kid class.Name ∷ Kid class.Params ∷ Literal lexeme.Colon ∷ Kid class.Name ∷ Literal lexeme.Semicolon ∷ Kid class.Block ∷ Literal lexeme.Semicolon ∷ []) items refl refl e
laid_passes kind.Funbody w n items e = wordless_row kind.Funbody w (Literal lexeme.KeyFunction ∷ Kid class.Name ∷ Literal lexeme.Semicolon ∷ Kid class.Block ∷ Literal lexeme.Semicolon ∷ []) items refl refl e
laid_passes kind.Tname w n items e = wordless_row kind.Tname w (Kid class.Name ∷ []) items refl refl e
laid_passes kind.Enum w n items e = wordless_row kind.Enum w (Literal lexeme.OpenParen ∷ Kid class.Names ∷ Literal lexeme.CloseParen ∷ []) items refl refl e
laid_passes kind.Subrange w n items e = wordless_row kind.Subrange w (Kid class.Constant ∷ Literal lexeme.DotDot ∷ Kid class.Constant ∷ []) items refl refl e
laid_passes kind.Array w n items e = wordless_row kind.Array w (Literal lexeme.KeyArray ∷ Literal lexeme.OpenBracket ∷ Kid class.Indexes ∷ Literal lexeme.CloseBracket ∷ Literal lexeme.KeyOf ∷ Kid class.Denoter ∷ []) items refl refl e
laid_passes kind.Record w n items e = last_row kind.Record w (Literal lexeme.KeyRecord ∷ Kid class.Fields ∷ []) (Literal lexeme.KeyEnd ∷ []) items refl refl refl refl e
laid_passes kind.Record0 w n items e = wordless_row kind.Record0 w (Literal lexeme.KeyRecord ∷ Literal lexeme.KeyEnd ∷ []) items refl refl e
laid_passes kind.Setof w n items e = wordless_row kind.Setof w (Literal lexeme.KeySet ∷ Literal lexeme.KeyOf ∷ Kid class.Ordinal ∷ []) items refl refl e
laid_passes kind.Packed w n items e = wordless_row kind.Packed w (Literal lexeme.KeyPacked ∷ Kid class.Structured ∷ []) items refl refl e
laid_passes kind.Pointer w n items e = wordless_row kind.Pointer w (Literal lexeme.Caret ∷ Kid class.Name ∷ []) items refl refl e
laid_passes kind.Cnumber w n items e = word_row kind.Cnumber w (is_numeral w) lexeme.Numeral items refl (λ h. h) e
laid_passes kind.Cstring w n items e = word_row kind.Cstring w (is_text w) lexeme.Text items refl (λ h. h) e
laid_passes kind.Cname w n items e = wordless_row kind.Cname w (Kid class.Name ∷ []) items refl refl e
laid_passes kind.Csign w n items e = around_row kind.Csign (lexeme.Plus ∷ lexeme.Minus ∷ []) w [] (Kid class.Bare ∷ []) items refl refl refl e
laid_passes kind.Empty w n items e = wordless_row kind.Empty w ([]) items refl refl e
laid_passes kind.Assign w n items e = wordless_row kind.Assign w (Kid class.Access ∷ Literal lexeme.Becomes ∷ Kid class.Expression ∷ []) items refl refl e
laid_passes kind.Proc w n items e = wordless_row kind.Proc w (Kid class.Name ∷ Kid class.Args ∷ []) items refl refl e
laid_passes kind.Compound w n items e = wordless_row kind.Compound w (Literal lexeme.KeyBegin ∷ Kid class.Stmts ∷ Literal lexeme.KeyEnd ∷ []) items refl refl e
laid_passes kind.If w n items e = wordless_row kind.If w (Literal lexeme.KeyIf ∷ Kid class.Expression ∷ Literal lexeme.KeyThen ∷ Kid class.Statement ∷ []) items refl refl e
laid_passes kind.Ifelse w n items e = wordless_row kind.Ifelse w (Literal lexeme.KeyIf ∷ Kid class.Expression ∷ Literal lexeme.KeyThen ∷ Kid class.Statement ∷ Literal lexeme.KeyElse ∷ Kid class.Statement ∷ []) items refl refl e
laid_passes kind.Case w n items e = last_row kind.Case w (Literal lexeme.KeyCase ∷ Kid class.Expression ∷ Literal lexeme.KeyOf ∷ Kid class.Arms ∷ []) (Literal lexeme.KeyEnd ∷ []) items refl refl refl refl e
laid_passes kind.Arm w n items e = wordless_row kind.Arm w (Kid class.Labels ∷ Literal lexeme.Colon ∷ Kid class.Statement ∷ []) items refl refl e
laid_passes kind.Repeat w n items e = wordless_row kind.Repeat w (Literal lexeme.KeyRepeat ∷ Kid class.Stmts ∷ Literal lexeme.KeyUntil ∷ Kid class.Expression ∷ []) items refl refl e
laid_passes kind.While w n items e = wordless_row kind.While w (Literal lexeme.KeyWhile ∷ Kid class.Expression ∷ Literal lexeme.KeyDo ∷ Kid class.Statement ∷ []) items refl refl e
laid_passes kind.For w n items e = around_row kind.For (lexeme.KeyTo ∷ lexeme.KeyDownto ∷ []) w (Literal lexeme.KeyFor ∷ Kid class.Name ∷ Literal lexeme.Becomes ∷ Kid class.Expression ∷ []) (Kid class.Expression ∷ Literal lexeme.KeyDo ∷ Kid class.Statement ∷ []) items refl refl refl e
laid_passes kind.With w n items e = wordless_row kind.With w (Literal lexeme.KeyWith ∷ Kid class.Accesses ∷ Literal lexeme.KeyDo ∷ Kid class.Statement ∷ []) items refl refl e
laid_passes kind.Ref w n items e = wordless_row kind.Ref w (Kid class.Name ∷ []) items refl refl e
laid_passes kind.Index w n items e = wordless_row kind.Index w (Kid class.Access ∷ Literal lexeme.OpenBracket ∷ Kid class.Exprs ∷ Literal lexeme.CloseBracket ∷ []) items refl refl e
laid_passes kind.Select w n items e = wordless_row kind.Select w (Kid class.Access ∷ Literal lexeme.Dot ∷ Kid class.Name ∷ []) items refl refl e
laid_passes kind.Deref w n items e = wordless_row kind.Deref w (Kid class.Access ∷ Literal lexeme.Caret ∷ []) items refl refl e
laid_passes kind.Number w n items e = word_row kind.Number w (is_numeral w) lexeme.Numeral items refl (λ h. h) e
laid_passes kind.Text w n items e = word_row kind.Text w (is_text w) lexeme.Text items refl (λ h. h) e
laid_passes kind.Nil w n items e = wordless_row kind.Nil w (Literal lexeme.KeyNil ∷ []) items refl refl e
laid_passes kind.Call w n items e = wordless_row kind.Call w (Kid class.Name ∷ Literal lexeme.OpenParen ∷ Kid class.Exprs ∷ Literal lexeme.CloseParen ∷ []) items refl refl e
laid_passes kind.Parens w n items e = wordless_row kind.Parens w (Literal lexeme.OpenParen ∷ Kid class.Expression ∷ Literal lexeme.CloseParen ∷ []) items refl refl e
laid_passes kind.Not w n items e = wordless_row kind.Not w (Literal lexeme.KeyNot ∷ Kid class.Factor ∷ []) items refl refl e
laid_passes kind.Setcon w n items e = wordless_row kind.Setcon w (Literal lexeme.OpenBracket ∷ Kid class.Members ∷ Literal lexeme.CloseBracket ∷ []) items refl refl e
laid_passes kind.Mul w n items e = around_row kind.Mul (lexeme.Star ∷ lexeme.KeyDiv ∷ lexeme.KeyMod ∷ lexeme.KeyAnd ∷ []) w (Kid class.Term ∷ []) (Kid class.Factor ∷ []) items refl refl refl e
laid_passes kind.Add w n items e = around_row kind.Add (lexeme.Plus ∷ lexeme.Minus ∷ lexeme.KeyOr ∷ []) w (Kid class.Simple ∷ []) (Kid class.Term ∷ []) items refl refl refl e
laid_passes kind.Sign w n items e = around_row kind.Sign (lexeme.Plus ∷ lexeme.Minus ∷ []) w [] (Kid class.Term ∷ []) items refl refl refl e
laid_passes kind.Rel w n items e = around_row kind.Rel (lexeme.Equal ∷ lexeme.Unequal ∷ lexeme.Less ∷ lexeme.Greater ∷ lexeme.AtMost ∷ lexeme.AtLeast ∷ lexeme.KeyIn ∷ []) w (Kid class.Simple ∷ []) (Kid class.Simple ∷ []) items refl refl refl e
laid_passes kind.Width w n items e = wordless_row kind.Width w (Kid class.Expression ∷ Literal lexeme.Colon ∷ Kid class.Expression ∷ []) items refl refl e
laid_passes kind.Span w n items e = wordless_row kind.Span w (Kid class.Expression ∷ Literal lexeme.DotDot ∷ Kid class.Expression ∷ []) items refl refl e
laid_passes kind.Name w n items e = word_row kind.Name w (is_identifier w) lexeme.Identifier items refl (λ h. h) e
laid_passes kind.Heads w n items e =
    elements_row kind.Heads w (Literal lexeme.OpenParen ∷ []) (Some lexeme.Comma) class.Name (Literal lexeme.CloseParen ∷ []) n items refl (λ m. further_row kind.Heads lexeme.Comma class.Name (Literal lexeme.CloseParen ∷ []) (after_kid class.Name (After lexeme.OpenParen ∷ [])) (after_kid class.Name (After lexeme.Comma ∷ [])) (λ i. refl) (λ i. refl) (λ i is. refl) (λ i is. refl) m 2) refl refl e
laid_passes kind.Args w n items e =
    elements_row kind.Args w (Literal lexeme.OpenParen ∷ []) (Some lexeme.Comma) class.Argument (Literal lexeme.CloseParen ∷ []) n items refl (λ m. further_row kind.Args lexeme.Comma class.Argument (Literal lexeme.CloseParen ∷ []) (after_kid class.Argument (After lexeme.OpenParen ∷ [])) (after_kid class.Argument (After lexeme.Comma ∷ [])) (λ i. refl) (λ i. refl) (λ i is. refl) (λ i is. refl) m 2) refl refl e
laid_passes kind.Params w n items e =
    elements_row kind.Params w (Literal lexeme.OpenParen ∷ []) (Some lexeme.Semicolon) class.Parameter (Literal lexeme.CloseParen ∷ []) n items refl (λ m. further_row kind.Params lexeme.Semicolon class.Parameter (Literal lexeme.CloseParen ∷ []) (after_kid class.Parameter (After lexeme.OpenParen ∷ [])) (after_kid class.Parameter (After lexeme.Semicolon ∷ [])) (λ i. refl) (λ i. refl) (λ i is. refl) (λ i is. refl) m 2) refl refl e
laid_passes kind.Names w n items e =
    some_row kind.Names w (Some lexeme.Comma) class.Name n items (λ m. further_row kind.Names lexeme.Comma class.Name [] (after_kid class.Name (AtStart ∷ [])) (after_kid class.Name (After lexeme.Comma ∷ [])) (λ i. refl) (λ i. refl) (λ i is. refl) (λ i is. refl) m 1) e
laid_passes kind.Labels w n items e =
    some_row kind.Labels w (Some lexeme.Comma) class.Constant n items (λ m. further_row kind.Labels lexeme.Comma class.Constant [] (after_kid class.Constant (AtStart ∷ [])) (after_kid class.Constant (After lexeme.Comma ∷ [])) (λ i. refl) (λ i. refl) (λ i is. refl) (λ i is. refl) m 1) e
laid_passes kind.Indexes w n items e =
    some_row kind.Indexes w (Some lexeme.Comma) class.Ordinal n items (λ m. further_row kind.Indexes lexeme.Comma class.Ordinal [] (after_kid class.Ordinal (AtStart ∷ [])) (after_kid class.Ordinal (After lexeme.Comma ∷ [])) (λ i. refl) (λ i. refl) (λ i is. refl) (λ i is. refl) m 1) e
laid_passes kind.Exprs w n items e =
    some_row kind.Exprs w (Some lexeme.Comma) class.Expression n items (λ m. further_row kind.Exprs lexeme.Comma class.Expression [] (after_kid class.Expression (AtStart ∷ [])) (after_kid class.Expression (After lexeme.Comma ∷ [])) (λ i. refl) (λ i. refl) (λ i is. refl) (λ i is. refl) m 1) e
laid_passes kind.Accesses w n items e =
    some_row kind.Accesses w (Some lexeme.Comma) class.Access n items (λ m. further_row kind.Accesses lexeme.Comma class.Access [] (after_kid class.Access (AtStart ∷ [])) (after_kid class.Access (After lexeme.Comma ∷ [])) (λ i. refl) (λ i. refl) (λ i is. refl) (λ i is. refl) m 1) e
laid_passes kind.Members w n items e =
    elements_row kind.Members w [] (Some lexeme.Comma) class.Member [] n items refl (λ m. further_row kind.Members lexeme.Comma class.Member [] (after_kid class.Member (AtStart ∷ [])) (after_kid class.Member (After lexeme.Comma ∷ [])) (λ i. refl) (λ i. refl) (λ i is. refl) (λ i is. refl) m 1) refl refl e
laid_passes kind.Consts w n items e =
    elements_row kind.Consts w (Literal lexeme.KeyConst ∷ []) None class.Constdef [] n items refl (λ m. bare_row kind.Consts class.Constdef (after_kid class.Constdef (After lexeme.KeyConst ∷ [])) (λ i. refl) (λ i is. refl) m 2) refl refl e
laid_passes kind.Types w n items e =
    elements_row kind.Types w (Literal lexeme.KeyType ∷ []) None class.Typedef [] n items refl (λ m. bare_row kind.Types class.Typedef (after_kid class.Typedef (After lexeme.KeyType ∷ [])) (λ i. refl) (λ i is. refl) m 2) refl refl e
laid_passes kind.Vars w n items e =
    elements_row kind.Vars w (Literal lexeme.KeyVar ∷ []) None class.Vardef [] n items refl (λ m. bare_row kind.Vars class.Vardef (after_kid class.Vardef (After lexeme.KeyVar ∷ [])) (λ i. refl) (λ i is. refl) m 2) refl refl e
laid_passes kind.Routines w n items e =
    elements_row kind.Routines w [] None class.Routine [] n items refl (λ m. bare_row kind.Routines class.Routine (after_kid class.Routine (AtStart ∷ [])) (λ i. refl) (λ i is. refl) m 1) refl refl e
laid_passes kind.Fields w n items e =
    some_row kind.Fields w (Some lexeme.Semicolon) class.Field n items (λ m. further_row kind.Fields lexeme.Semicolon class.Field [] (after_kid class.Field (AtStart ∷ [])) (after_kid class.Field (After lexeme.Semicolon ∷ [])) (λ i. refl) (λ i. refl) (λ i is. refl) (λ i is. refl) m 1) e
laid_passes kind.Stmts w n items e =
    some_row kind.Stmts w (Some lexeme.Semicolon) class.Statement n items (λ m. further_row kind.Stmts lexeme.Semicolon class.Statement [] (after_kid class.Statement (AtStart ∷ [])) (after_kid class.Statement (After lexeme.Semicolon ∷ [])) (λ i. refl) (λ i. refl) (λ i is. refl) (λ i is. refl) m 1) e
laid_passes kind.Arms w n items e =
    some_row kind.Arms w (Some lexeme.Semicolon) class.Arm n items (λ m. further_row kind.Arms lexeme.Semicolon class.Arm [] (after_kid class.Arm (AtStart ∷ [])) (after_kid class.Arm (After lexeme.Semicolon ∷ [])) (λ i. refl) (λ i. refl) (λ i is. refl) (λ i is. refl) m 1) e
laid_passes (kind.Hole s) w n items e = wordless_row (kind.Hole s) w (Literal (lexeme.Hole s) ∷ []) items refl refl e
