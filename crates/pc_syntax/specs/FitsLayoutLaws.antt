-- The layout of a node says the same as its parts: word, number of kids, and their classes.
use Rattle.std.specs.Prelude.{◌≡◌, ℕ, suc, Bool, true, false, ◌&&◌, ◌||◌, ◌==◌, nat_le, if◌then◌else◌, List, [], ◌∷◌, ◌++◌, Option, Some, None, length, slice_get}
use Rattle.std.proofs.Common.{refl, sym, ap, subst, ◌∙◌, inl, inr, arith}
use Rattle.std.proofs.lemmas.Bool.{le-leb, eq-eqb, ne_eqb}
use Rattle.std.proofs.lemmas.Bool.Decides.{eqb_tells}
use Rattle.std.specs.Str.{bytes_eq}
use Rattle.pc_syntax.specs.declared.kind.Kind.{Kind}
use Rattle.pc_syntax.specs.declared.kind.Kind.TheVariants.{Program, Block, Forward, Constdef, Typedef, Vardef, Field, Valparam, Varparam, Procedure, Function, Funbody, Tname, Enum, Subrange, Array, Record, Record0, Setof, Packed, Pointer, Cnumber, Cstring, Cname, Csign, Empty, Assign, Proc, Compound, If, Ifelse, Case, Arm, Repeat, While, For, With, Ref, Index, Select, Deref, Number, Text, Nil, Call, Parens, Not, Setcon, Mul, Add, Sign, Rel, Width, Span, Name, Heads, Args, Params, Names, Labels, Indexes, Exprs, Accesses, Members, Consts, Types, Vars, Routines, Fields, Stmts, Arms, Hole}
use Rattle.pc_syntax.specs.declared.lexeme.Lexeme.{Lexeme}
use Rattle.pc_syntax.specs.declared.lexeme.Lexeme.TheVariants as lexeme
use Rattle.pc_syntax.specs.declared.class.Class.{Class}
use Rattle.pc_syntax.specs.declared.class.Class.TheVariants as class
use Rattle.pc_syntax.specs.declared.item.Item.{Item}
use Rattle.pc_syntax.specs.declared.item.Item.TheVariants.{Literal, Word, Kid}
use Rattle.pc_syntax.specs.Plain.{Forest, Nil, Cons, Plain, count, kinds, forest_of}
use Rattle.pc_syntax.specs.PartsLaws.{count-forest_of}
use Rattle.pc_syntax.specs.Spellings.{spelling_of}
use Rattle.pc_syntax.specs.Words.{is_identifier, is_forward, is_numeral, is_text}
use Rattle.pc_syntax.specs.Layout.{layout, wordless, spelled, operator, around, last_semicolon, further, elements, some_elements}
use Rattle.pc_syntax.specs.Classes.{has}
use Rattle.pc_syntax.specs.Slots.{is_list, places_of, class_from}
use Rattle.pc_syntax.specs.WellFormed.{fits, fits_some}
use Rattle.pc_syntax.specs.Fits.{is_wordless, is_last_semicolon, is_operator, word_fits, takes_count, takes, takes_from, kinds_of}

-- the classes of the items that are kids
abbrev places : List Item → List Class
places [] = []
places (Literal x ∷ is) = places is
places (Word x ∷ is) = places is
places (Kid c ∷ is) = c ∷ places is

-- kids of these kinds stand at places of these classes, one at each
abbrev fits_places : List Class → List Kind → Bool
fits_places [] [] = true
fits_places [] (j ∷ js) = false
fits_places (c ∷ cs) [] = false
fits_places (c ∷ cs) (j ∷ js) = has c j && fits_places cs js

fits-places : (is : List Item) (js : List Kind) → fits is js ≡ fits_places (places is) js
fits-places [] [] = refl
fits-places [] (j ∷ js) = refl
fits-places (Literal x ∷ is) js = fits-places is js
fits-places (Word x ∷ is) js = fits-places is js
fits-places (Kid c ∷ is) [] = refl
fits-places (Kid c ∷ is) (j ∷ js) = ap (λ b. has c j && b) (fits-places is js)

-- the items before and behind a symbol
places-around : (before : List Item) (x : Lexeme) (behind : List Item) → places (before ++ Literal x ∷ behind) ≡ places (before ++ behind)
places-around [] x behind = refl
places-around (Literal y ∷ is) x behind = places-around is x behind
places-around (Word y ∷ is) x behind = places-around is x behind
places-around (Kid c ∷ is) x behind = ap (λ cs. c ∷ cs) (places-around is x behind)

-- kids from a place on, by a list of classes
abbrev pub walk : List Class → ℕ → List Kind → Bool
walk cs i [] = true
walk cs i (j ∷ js) = takes (slice_get cs i) j && walk cs (suc i) js

pub walk-suc : (c : Class) (cs : List Class) (i : ℕ) (js : List Kind) → walk (c ∷ cs) (suc i) js ≡ walk cs i js
walk-suc c cs i [] = refl
walk-suc c cs i (j ∷ js) = ap (λ b. takes (slice_get cs i) j && b) (walk-suc c cs (suc i) js)

swap_and : (a b c : Bool) → (a && (b && c)) ≡ (b && (a && c))
swap_and true b c = refl
swap_and false true c = refl
swap_and false false c = refl

eqb-suc : (m n : ℕ) → (suc m == suc n) ≡ (m == n)
eqb-suc m n = elim (eqb_tells m n) [
  | inl e ↦ eq-eqb _ _ (ap suc e.1) ∙ sym e.0
  | inr e ↦ ne_eqb _ _ (λ f. e.1 (omega arith)) ∙ sym e.0
]

fits_places-walk : (cs : List Class) (js : List Kind) → fits_places cs js ≡ ((length js == length cs) && walk cs 0 js)
fits_places-walk [] [] = refl
fits_places-walk [] (j ∷ js) =
    let e : (length (j ∷ js) == 0) ≡ false = ne_eqb _ _ (λ f. absurd (omega arith)) in
    rw e refl
fits_places-walk (c ∷ cs) [] =
    let e : (0 == length (c ∷ cs)) ≡ false = ne_eqb _ _ (λ f. absurd (omega arith)) in
    rw e refl
fits_places-walk (c ∷ cs) (j ∷ js) =
    rw (fits_places-walk cs js, walk-suc c cs 0 js, eqb-suc (length js) (length cs)) (swap_and (has c j) (length js == length cs) (walk cs 0 js))

module _ (k : Kind) (single : is_list k ≡ false) where
  pub takes_from-walk : (i : ℕ) (js : List Kind) → takes_from k i js ≡ walk (places_of k) i js
  takes_from-walk i [] = refl
  takes_from-walk i (j ∷ js) =
      let e : class_from k i ≡ slice_get (places_of k) i = rw single in
      rw (e, takes_from-walk (suc i) js)

  fits-single : (is : List Item) (js : List Kind) → places is ≡ places_of k → fits is js ≡ (takes_count k (length js) && takes_from k 0 js)
  fits-single is js e =
      let n : takes_count k (length js) ≡ (length js == length (places_of k)) = rw single in
      rw (n, takes_from-walk 0 js) (fits-places is js ∙ ap (λ cs. fits_places cs js) e ∙ fits_places-walk (places_of k) js)

-- a node without a word
plain-fits : (k : Kind) (w : List ℕ) (is : List Item) (js : List Kind) → is_list k ≡ false → places is ≡ places_of k → fits_some (wordless w (Some is)) js ≡ (is_wordless w && (takes_count k (length js) && takes_from k 0 js))
plain-fits k [] is js single e = fits-single k single is js e
plain-fits k (b ∷ w) is js single e = refl

-- a node whose word is the spelling of a symbol
spelled-fits : (k : Kind) (b : Bool) (x : Lexeme) (js : List Kind) → is_list k ≡ false → [] ≡ places_of k → fits_some (spelled b x) js ≡ (b && (takes_count k (length js) && takes_from k 0 js))
spelled-fits k true x js single e = fits-single k single (Word x ∷ []) js e
spelled-fits k false x js single e = refl

-- a node whose word is that of an operator
spelled_like : (k : Kind) (b c : Bool) (x : Lexeme) (o : Option Lexeme) (before behind : List Item) (js : List Kind) → is_list k ≡ false → places (before ++ behind) ≡ places_of k → fits_some (around o before behind) js ≡ (c && (takes_count k (length js) && takes_from k 0 js)) → fits_some (around (if b then Some x else o) before behind) js ≡ ((b || c) && (takes_count k (length js) && takes_from k 0 js))
spelled_like k true c x o before behind js single e h = fits-single k single (before ++ Literal x ∷ behind) js (places-around before x behind ∙ e)
spelled_like k false c x o before behind js single e h = h

around-fits : (k : Kind) (xs : List Lexeme) (w : List ℕ) (before behind : List Item) (js : List Kind) → is_list k ≡ false → places (before ++ behind) ≡ places_of k → fits_some (around (operator xs w) before behind) js ≡ (is_operator xs w && (takes_count k (length js) && takes_from k 0 js))
around-fits k [] w before behind js single e = refl
around-fits k (x ∷ xs) w before behind js single e = spelled_like k (bytes_eq (spelling_of x) w) (is_operator xs w) x (operator xs w) before behind js single e (around-fits k xs w before behind js single e)

-- a node with a last `;` or none
semicolon_if : (k : Kind) (b : Bool) (before behind : List Item) (js : List Kind) → is_list k ≡ false → places (before ++ behind) ≡ places_of k → fits_some (if b then Some (before ++ Literal lexeme.Semicolon ∷ behind) else None) js ≡ (b && (takes_count k (length js) && takes_from k 0 js))
semicolon_if k true before behind js single e = fits-single k single (before ++ Literal lexeme.Semicolon ∷ behind) js (places-around before lexeme.Semicolon behind ∙ e)
semicolon_if k false before behind js single e = refl

semicolon-fits : (k : Kind) (w : List ℕ) (before behind : List Item) (js : List Kind) → is_list k ≡ false → places (before ++ behind) ≡ places_of k → fits_some (last_semicolon w before behind) js ≡ (is_last_semicolon w && (takes_count k (length js) && takes_from k 0 js))
semicolon-fits k [] before behind js single e = fits-single k single (before ++ behind) js e
semicolon-fits k (b ∷ w) before behind js single e = semicolon_if k (bytes_eq (b ∷ w) (spelling_of lexeme.Semicolon)) before behind js single e

-- all of one class
abbrev all_have : Class → List Kind → Bool
all_have c [] = true
all_have c (j ∷ js) = has c j && all_have c js

takes_from-all_have : (k : Kind) (c : Class) (i : ℕ) (js : List Kind) → ((i : ℕ) → class_from k i ≡ Some c) → takes_from k i js ≡ all_have c js
takes_from-all_have k c i [] h = refl
takes_from-all_have k c i (j ∷ js) h = rw (h i, takes_from-all_have k c (suc i) js h)

further-fits : (sep : Option Lexeme) (c : Class) (close : List Item) (js : List Kind) → fits close [] ≡ true → fits (further sep c (length js) close) js ≡ all_have c js
further-fits None c close [] h = h
further-fits (Some x) c close [] h = h
further-fits None c close (j ∷ js) h = ap (λ b. has c j && b) (further-fits None c close js h)
further-fits (Some x) c close (j ∷ js) h = ap (λ b. has c j && b) (further-fits (Some x) c close js h)

elements-fits : (k : Kind) (w : List ℕ) (opening : List Item) (sep : Option Lexeme) (c : Class) (close : List Item) (js : List Kind) → ((is : List Item) (us : List Kind) → fits (opening ++ is) us ≡ fits is us) → fits close [] ≡ true → ((i : ℕ) → class_from k i ≡ Some c) → ((n : ℕ) → takes_count k n ≡ true) → fits_some (wordless w (elements opening sep c close (length js))) js ≡ (is_wordless w && (takes_count k (length js) && takes_from k 0 js))
elements-fits k (b ∷ w) opening sep c close js o e h n = refl
elements-fits k [] opening sep c close [] o e h n = rw (n 0) refl
elements-fits k [] opening sep c close (j ∷ js) o e h n =
    rw (n (length (j ∷ js)), takes_from-all_have k c 0 (j ∷ js) h, o (Kid c ∷ further sep c (length js) close) (j ∷ js)) (ap (λ b. has c j && b) (further-fits sep c close js e))

some_elements-fits : (k : Kind) (w : List ℕ) (sep : Option Lexeme) (c : Class) (js : List Kind) → ((i : ℕ) → class_from k i ≡ Some c) → ((n : ℕ) → takes_count k n ≡ nat_le 1 n) → fits_some (wordless w (some_elements sep c (length js))) js ≡ (is_wordless w && (takes_count k (length js) && takes_from k 0 js))
some_elements-fits k (b ∷ w) sep c js h n = refl
some_elements-fits k [] sep c [] h n = rw (n 0) refl
some_elements-fits k [] sep c (j ∷ js) h n =
    let e : takes_count k (length (j ∷ js)) ≡ true = n (length (j ∷ js)) ∙ le-leb _ _ (omega arith) in
    rw (e, takes_from-all_have k c 0 (j ∷ js) h) (ap (λ b. has c j && b) (further-fits sep c [] js refl))

-- the layout of a node has its kids exactly where its word, their number and their classes fit
pub layout-fits : (k : Kind) (w : List ℕ) (js : List Kind) → fits_some (layout k w (length js)) js ≡ (word_fits k w && (takes_count k (length js) && takes_from k 0 js))
layout-fits Program w js = plain-fits Program w (Literal lexeme.KeyProgram ∷ Kid class.Name ∷ Kid class.Heads ∷ Literal lexeme.Semicolon ∷ Kid class.Block ∷ Literal lexeme.Dot ∷ []) js refl refl
layout-fits Block w js = plain-fits Block w (Kid class.Consts ∷ Kid class.Types ∷ Kid class.Vars ∷ Kid class.Routines ∷ Kid class.Body ∷ []) js refl refl
layout-fits Forward w js = spelled-fits Forward (is_forward w) lexeme.Identifier js refl refl
layout-fits Constdef w js = plain-fits Constdef w (Kid class.Name ∷ Literal lexeme.Equal ∷ Kid class.Constant ∷ Literal lexeme.Semicolon ∷ []) js refl refl
layout-fits Typedef w js = plain-fits Typedef w (Kid class.Name ∷ Literal lexeme.Equal ∷ Kid class.Denoter ∷ Literal lexeme.Semicolon ∷ []) js refl refl
layout-fits Vardef w js = plain-fits Vardef w (Kid class.Names ∷ Literal lexeme.Colon ∷ Kid class.Denoter ∷ Literal lexeme.Semicolon ∷ []) js refl refl
layout-fits Field w js = plain-fits Field w (Kid class.Names ∷ Literal lexeme.Colon ∷ Kid class.Denoter ∷ []) js refl refl
layout-fits Valparam w js = plain-fits Valparam w (Kid class.Names ∷ Literal lexeme.Colon ∷ Kid class.Name ∷ []) js refl refl
layout-fits Varparam w js = plain-fits Varparam w (Literal lexeme.KeyVar ∷ Kid class.Names ∷ Literal lexeme.Colon ∷ Kid class.Name ∷ []) js refl refl
layout-fits Procedure w js = plain-fits Procedure w (Literal lexeme.KeyProcedure ∷ Kid class.Name ∷ Kid class.Params ∷ Literal lexeme.Semicolon ∷ Kid class.Block ∷ Literal lexeme.Semicolon ∷ []) js refl refl
layout-fits Function w js = plain-fits Function w (Literal lexeme.KeyFunction ∷ Kid class.Name ∷ Kid class.Params ∷ Literal lexeme.Colon ∷ Kid class.Name ∷ Literal lexeme.Semicolon ∷ Kid class.Block ∷ Literal lexeme.Semicolon ∷ []) js refl refl
layout-fits Funbody w js = plain-fits Funbody w (Literal lexeme.KeyFunction ∷ Kid class.Name ∷ Literal lexeme.Semicolon ∷ Kid class.Block ∷ Literal lexeme.Semicolon ∷ []) js refl refl
layout-fits Tname w js = plain-fits Tname w (Kid class.Name ∷ []) js refl refl
layout-fits Enum w js = plain-fits Enum w (Literal lexeme.OpenParen ∷ Kid class.Names ∷ Literal lexeme.CloseParen ∷ []) js refl refl
layout-fits Subrange w js = plain-fits Subrange w (Kid class.Constant ∷ Literal lexeme.DotDot ∷ Kid class.Constant ∷ []) js refl refl
layout-fits Array w js = plain-fits Array w (Literal lexeme.KeyArray ∷ Literal lexeme.OpenBracket ∷ Kid class.Indexes ∷ Literal lexeme.CloseBracket ∷ Literal lexeme.KeyOf ∷ Kid class.Denoter ∷ []) js refl refl
layout-fits Record w js = semicolon-fits Record w (Literal lexeme.KeyRecord ∷ Kid class.Fields ∷ []) (Literal lexeme.KeyEnd ∷ []) js refl refl
layout-fits Record0 w js = plain-fits Record0 w (Literal lexeme.KeyRecord ∷ Literal lexeme.KeyEnd ∷ []) js refl refl
layout-fits Setof w js = plain-fits Setof w (Literal lexeme.KeySet ∷ Literal lexeme.KeyOf ∷ Kid class.Ordinal ∷ []) js refl refl
layout-fits Packed w js = plain-fits Packed w (Literal lexeme.KeyPacked ∷ Kid class.Structured ∷ []) js refl refl
layout-fits Pointer w js = plain-fits Pointer w (Literal lexeme.Caret ∷ Kid class.Name ∷ []) js refl refl
layout-fits Cnumber w js = spelled-fits Cnumber (is_numeral w) lexeme.Numeral js refl refl
layout-fits Cstring w js = spelled-fits Cstring (is_text w) lexeme.Text js refl refl
layout-fits Cname w js = plain-fits Cname w (Kid class.Name ∷ []) js refl refl
layout-fits Csign w js = around-fits Csign (lexeme.Plus ∷ lexeme.Minus ∷ []) w [] (Kid class.Bare ∷ []) js refl refl
layout-fits Empty w js = plain-fits Empty w [] js refl refl
layout-fits Assign w js = plain-fits Assign w (Kid class.Access ∷ Literal lexeme.Becomes ∷ Kid class.Expression ∷ []) js refl refl
layout-fits Proc w js = plain-fits Proc w (Kid class.Name ∷ Kid class.Args ∷ []) js refl refl
layout-fits Compound w js = plain-fits Compound w (Literal lexeme.KeyBegin ∷ Kid class.Stmts ∷ Literal lexeme.KeyEnd ∷ []) js refl refl
layout-fits If w js = plain-fits If w (Literal lexeme.KeyIf ∷ Kid class.Expression ∷ Literal lexeme.KeyThen ∷ Kid class.Statement ∷ []) js refl refl
layout-fits Ifelse w js = plain-fits Ifelse w (Literal lexeme.KeyIf ∷ Kid class.Expression ∷ Literal lexeme.KeyThen ∷ Kid class.Statement ∷ Literal lexeme.KeyElse ∷ Kid class.Statement ∷ []) js refl refl
layout-fits Case w js = semicolon-fits Case w (Literal lexeme.KeyCase ∷ Kid class.Expression ∷ Literal lexeme.KeyOf ∷ Kid class.Arms ∷ []) (Literal lexeme.KeyEnd ∷ []) js refl refl
layout-fits Arm w js = plain-fits Arm w (Kid class.Labels ∷ Literal lexeme.Colon ∷ Kid class.Statement ∷ []) js refl refl
layout-fits Repeat w js = plain-fits Repeat w (Literal lexeme.KeyRepeat ∷ Kid class.Stmts ∷ Literal lexeme.KeyUntil ∷ Kid class.Expression ∷ []) js refl refl
layout-fits While w js = plain-fits While w (Literal lexeme.KeyWhile ∷ Kid class.Expression ∷ Literal lexeme.KeyDo ∷ Kid class.Statement ∷ []) js refl refl
layout-fits For w js = around-fits For (lexeme.KeyTo ∷ lexeme.KeyDownto ∷ []) w (Literal lexeme.KeyFor ∷ Kid class.Name ∷ Literal lexeme.Becomes ∷ Kid class.Expression ∷ []) (Kid class.Expression ∷ Literal lexeme.KeyDo ∷ Kid class.Statement ∷ []) js refl refl
layout-fits With w js = plain-fits With w (Literal lexeme.KeyWith ∷ Kid class.Accesses ∷ Literal lexeme.KeyDo ∷ Kid class.Statement ∷ []) js refl refl
layout-fits Ref w js = plain-fits Ref w (Kid class.Name ∷ []) js refl refl
layout-fits Index w js = plain-fits Index w (Kid class.Access ∷ Literal lexeme.OpenBracket ∷ Kid class.Exprs ∷ Literal lexeme.CloseBracket ∷ []) js refl refl
layout-fits Select w js = plain-fits Select w (Kid class.Access ∷ Literal lexeme.Dot ∷ Kid class.Name ∷ []) js refl refl
layout-fits Deref w js = plain-fits Deref w (Kid class.Access ∷ Literal lexeme.Caret ∷ []) js refl refl
layout-fits Number w js = spelled-fits Number (is_numeral w) lexeme.Numeral js refl refl
layout-fits Text w js = spelled-fits Text (is_text w) lexeme.Text js refl refl
layout-fits Nil w js = plain-fits Nil w (Literal lexeme.KeyNil ∷ []) js refl refl
layout-fits Call w js = plain-fits Call w (Kid class.Name ∷ Literal lexeme.OpenParen ∷ Kid class.Exprs ∷ Literal lexeme.CloseParen ∷ []) js refl refl
layout-fits Parens w js = plain-fits Parens w (Literal lexeme.OpenParen ∷ Kid class.Expression ∷ Literal lexeme.CloseParen ∷ []) js refl refl
layout-fits Not w js = plain-fits Not w (Literal lexeme.KeyNot ∷ Kid class.Factor ∷ []) js refl refl
layout-fits Setcon w js = plain-fits Setcon w (Literal lexeme.OpenBracket ∷ Kid class.Members ∷ Literal lexeme.CloseBracket ∷ []) js refl refl
layout-fits Mul w js = around-fits Mul (lexeme.Star ∷ lexeme.KeyDiv ∷ lexeme.KeyMod ∷ lexeme.KeyAnd ∷ []) w (Kid class.Term ∷ []) (Kid class.Factor ∷ []) js refl refl
layout-fits Add w js = around-fits Add (lexeme.Plus ∷ lexeme.Minus ∷ lexeme.KeyOr ∷ []) w (Kid class.Simple ∷ []) (Kid class.Term ∷ []) js refl refl
layout-fits Sign w js = around-fits Sign (lexeme.Plus ∷ lexeme.Minus ∷ []) w [] (Kid class.Term ∷ []) js refl refl
layout-fits Rel w js = around-fits Rel (lexeme.Equal ∷ lexeme.Unequal ∷ lexeme.Less ∷ lexeme.Greater ∷ lexeme.AtMost ∷ lexeme.AtLeast ∷ lexeme.KeyIn ∷ []) w (Kid class.Simple ∷ []) (Kid class.Simple ∷ []) js refl refl
layout-fits Width w js = plain-fits Width w (Kid class.Expression ∷ Literal lexeme.Colon ∷ Kid class.Expression ∷ []) js refl refl
layout-fits Span w js = plain-fits Span w (Kid class.Expression ∷ Literal lexeme.DotDot ∷ Kid class.Expression ∷ []) js refl refl
layout-fits Name w js = spelled-fits Name (is_identifier w) lexeme.Identifier js refl refl
layout-fits Heads w js = elements-fits Heads w (Literal lexeme.OpenParen ∷ []) (Some lexeme.Comma) class.Name (Literal lexeme.CloseParen ∷ []) js (λ is us. refl) refl (λ i. refl) (λ n. le-leb 0 n (omega arith))
layout-fits Args w js = elements-fits Args w (Literal lexeme.OpenParen ∷ []) (Some lexeme.Comma) class.Argument (Literal lexeme.CloseParen ∷ []) js (λ is us. refl) refl (λ i. refl) (λ n. le-leb 0 n (omega arith))
layout-fits Params w js = elements-fits Params w (Literal lexeme.OpenParen ∷ []) (Some lexeme.Semicolon) class.Parameter (Literal lexeme.CloseParen ∷ []) js (λ is us. refl) refl (λ i. refl) (λ n. le-leb 0 n (omega arith))
layout-fits Names w js = some_elements-fits Names w (Some lexeme.Comma) class.Name js (λ i. refl) (λ n. refl)
layout-fits Labels w js = some_elements-fits Labels w (Some lexeme.Comma) class.Constant js (λ i. refl) (λ n. refl)
layout-fits Indexes w js = some_elements-fits Indexes w (Some lexeme.Comma) class.Ordinal js (λ i. refl) (λ n. refl)
layout-fits Exprs w js = some_elements-fits Exprs w (Some lexeme.Comma) class.Expression js (λ i. refl) (λ n. refl)
layout-fits Accesses w js = some_elements-fits Accesses w (Some lexeme.Comma) class.Access js (λ i. refl) (λ n. refl)
layout-fits Members w js = elements-fits Members w [] (Some lexeme.Comma) class.Member [] js (λ is us. refl) refl (λ i. refl) (λ n. le-leb 0 n (omega arith))
layout-fits Consts w js = elements-fits Consts w (Literal lexeme.KeyConst ∷ []) None class.Constdef [] js (λ is us. refl) refl (λ i. refl) (λ n. le-leb 0 n (omega arith))
layout-fits Types w js = elements-fits Types w (Literal lexeme.KeyType ∷ []) None class.Typedef [] js (λ is us. refl) refl (λ i. refl) (λ n. le-leb 0 n (omega arith))
layout-fits Vars w js = elements-fits Vars w (Literal lexeme.KeyVar ∷ []) None class.Vardef [] js (λ is us. refl) refl (λ i. refl) (λ n. le-leb 0 n (omega arith))
layout-fits Routines w js = elements-fits Routines w [] None class.Routine [] js (λ is us. refl) refl (λ i. refl) (λ n. le-leb 0 n (omega arith))
layout-fits Fields w js = some_elements-fits Fields w (Some lexeme.Semicolon) class.Field js (λ i. refl) (λ n. refl)
layout-fits Stmts w js = some_elements-fits Stmts w (Some lexeme.Semicolon) class.Statement js (λ i. refl) (λ n. refl)
layout-fits Arms w js = some_elements-fits Arms w (Some lexeme.Semicolon) class.Arm js (λ i. refl) (λ n. refl)
layout-fits (Hole s) w js = plain-fits (Hole s) w (Literal (lexeme.Hole s) ∷ []) js refl refl

-- the same of a node's kids as a forest, and as a list
length-kinds : (ts : Forest) → length (kinds ts) ≡ count ts
length-kinds Nil = refl
length-kinds (Cons k w ns ks ts) = ap suc (length-kinds ts)

kinds-forest_of : (ts : List Plain) → kinds (forest_of ts) ≡ kinds_of ts
kinds-forest_of [] = refl
kinds-forest_of (t ∷ ts) = ap (λ js. t.kind ∷ js) (kinds-forest_of ts)

pub layout-forest : (k : Kind) (w : List ℕ) (ts : Forest) → fits_some (layout k w (count ts)) (kinds ts) ≡ (word_fits k w && (takes_count k (count ts) && takes_from k 0 (kinds ts)))
layout-forest k w ts = subst (λ n. fits_some (layout k w n) (kinds ts) ≡ (word_fits k w && (takes_count k n && takes_from k 0 (kinds ts)))) (length-kinds ts) (layout-fits k w (kinds ts))

pub layout-kids : (k : Kind) (w : List ℕ) (ts : List Plain) → fits_some (layout k w (count (forest_of ts))) (kinds (forest_of ts)) ≡ (word_fits k w && (takes_count k (length ts) && takes_from k 0 (kinds_of ts)))
layout-kids k w ts =
    let e = layout-forest k w (forest_of ts) in
    e ∙ ap (λ n. word_fits k w && (takes_count k n && takes_from k 0 (kinds (forest_of ts)))) (count-forest_of ts) ∙ ap (λ js. word_fits k w && (takes_count k (length ts) && takes_from k 0 js)) (kinds-forest_of ts)
