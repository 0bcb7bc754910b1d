-- How many symbols a quiet tree has.
use Rattle.std.proofs.Common.{◌≡◌, ℕ, zero, suc, ◌+◌, ◌-◌, ◌<◌, ◌==◌, Bool, true, false, if◌then◌else◌, List, [], ◌∷◌, ◌++◌, Option, Some, None, map, length, drop, get_or, sum_by, refl, ap, sym, ◌∙◌, arith}
use Rattle.std.specs.List.{list_all}
use Rattle.std.proofs.lemmas.Bool.{ne_eqb}
use Rattle.std.proofs.lemmas.List.{drop_more}
use Rattle.std.proofs.lemmas.List.Sums.{sum_by-cons}
use Rattle.pc_syntax.specs.declared.kind.Kind.{Kind}
use Rattle.pc_syntax.specs.declared.kind.Kind.TheVariants as kind
use Rattle.pc_syntax.specs.declared.class.Class.{Class}
use Rattle.pc_syntax.specs.declared.class.Class.TheVariants as class
use Rattle.pc_syntax.specs.declared.lexeme.Lexeme.{Lexeme}
use Rattle.pc_syntax.specs.declared.lexeme.Lexeme.TheVariants as lexeme
use Rattle.pc_syntax.specs.declared.item.Item.{Item}
use Rattle.pc_syntax.specs.declared.item.Item.TheVariants.{Literal, Word, Kid}
use Rattle.pc_syntax.specs.Plain.{Forest, Plain, trees_of, kids_of, count, kinds}
use Rattle.pc_syntax.specs.PartsLaws.{length-kids_of, kids_of-is}
use Rattle.pc_syntax.specs.Symbols.{fill_some, texts}
use Rattle.pc_syntax.specs.Layout.{layout, wordless, spelled, operator, around, further, elements, some_elements}
use Rattle.pc_syntax.specs.WellFormed.{fits, fits_some, IsWellFormed}
use Rattle.pc_syntax.specs.Words.{is_identifier, is_numeral, is_text}
use Rattle.pc_parse.specs.Placing.{breadth}
use Rattle.pc_parse.specs.Quiet.{quiet, own_symbols}
use Rattle.pc_parse.proofs.Entries.{&&_split}
use Rattle.pc_parse.proofs.NotesOnce.{quiet_kids, fitting_kids}
use Rattle.pc_parse.proofs.Walking.{kind_of, kinds-is, width, width-fill}

-- how many of the items are symbols
abbrev literals : List Item → ℕ
literals [] = 0
literals (Literal x ∷ is) = suc (literals is)
literals (Word x ∷ is) = suc (literals is)
literals (Kid c ∷ is) = literals is

width-literals : (is : List Item) (ks : List Plain) → fits is (map kind_of ks) ≡ true → width is ks ≡ literals is + sum_by breadth ks
width-literals [] [] h = refl
width-literals [] (k ∷ ks) h = cc
width-literals (Literal x ∷ is) ks h = omega (arith, width-literals is ks h)
width-literals (Word x ∷ is) ks h = omega (arith, width-literals is ks h)
width-literals (Kid c ∷ is) [] h = cc
width-literals (Kid c ∷ is) (k ∷ ks) h = omega (arith, width-literals is ks (&&_split _ _ h).1, sum_by-cons breadth k ks)

some_same : (is js : List Item) → Some is ≡ Some js → is ≡ js
some_same is js e = cc

module _ (js : List Item) where
  of_plain : (w : List ℕ) (is : List Item) (n : ℕ) → literals is ≡ n → wordless w (Some is) ≡ Some js → literals js ≡ n
  of_plain [] is n h e = ap literals (sym (some_same is js e)) ∙ h
  of_plain (b ∷ w) is n h e = cc

  of_spelled : (b : Bool) (x : Lexeme) → spelled b x ≡ Some js → literals js ≡ 1
  of_spelled true x e = ap literals (sym (some_same (Word x ∷ []) js e))
  of_spelled false x e = cc

  of_around : (o : Option Lexeme) (before behind : List Item) → ((x : Lexeme) → literals (before ++ Literal x ∷ behind) ≡ 1) → around o before behind ≡ Some js → literals js ≡ 1
  of_around None before behind h e = cc
  of_around (Some x) before behind h e = ap literals (sym (some_same (before ++ Literal x ∷ behind) js e)) ∙ h x

  further-literals : (x : Lexeme) (c : Class) (n : ℕ) (close : List Item) → literals (further (Some x) c n close) ≡ n + literals close
  further-literals x c zero close = omega arith
  further-literals x c (suc n) close = omega (arith, further-literals x c n close)

  of_some_elements : (w : List ℕ) (x : Lexeme) (c : Class) (n : ℕ) → wordless w (some_elements (Some x) c n) ≡ Some js → literals js ≡ n - 1
  of_some_elements [] x c zero e = cc
  of_some_elements [] x c (suc n) e = ap literals (sym (some_same (Kid c ∷ further (Some x) c n []) js e)) ∙ omega (arith, further-literals x c n [])
  of_some_elements (b ∷ w) x c n e = cc

  of_elements : (w : List ℕ) (x : Lexeme) (c : Class) (n : ℕ) → wordless w (elements [] (Some x) c [] n) ≡ Some js → literals js ≡ n - 1
  of_elements [] x c zero e = ap literals (sym (some_same [] js e))
  of_elements [] x c (suc n) e = ap literals (sym (some_same (Kid c ∷ further (Some x) c n []) js e)) ∙ omega (arith, further-literals x c n [])
  of_elements (b ∷ w) x c n e = cc

  of_args : (w : List ℕ) (n : ℕ) → layout kind.Args w n ≡ Some js → literals js ≡ own_symbols kind.Args n
  of_args [] zero e = ap literals (sym (some_same [] js e))
  of_args [] (suc n) e =
      let some : (suc n == 0) ≡ false = ne_eqb (suc n) 0 (λ h. omega (arith, h)) in
      let size : own_symbols kind.Args (suc n) ≡ suc n + 1 = ap (λ b. if b then 0 else suc n + 1) some in
      ap literals (sym (some_same (Literal lexeme.OpenParen ∷ Kid class.Argument ∷ further (Some lexeme.Comma) class.Argument n (Literal lexeme.CloseParen ∷ [])) js e))
      ∙ omega (arith, size, further-literals lexeme.Comma class.Argument n (Literal lexeme.CloseParen ∷ []))
  of_args (b ∷ w) n e = cc

  own : (k : Kind) (w : List ℕ) (n : ℕ) → quiet k ≡ true → layout k w n ≡ Some js → literals js ≡ own_symbols k n
  own kind.Cnumber w n q e = of_spelled (is_numeral w) lexeme.Numeral e
  own kind.Cstring w n q e = of_spelled (is_text w) lexeme.Text e
  own kind.Cname w n q e = of_plain w _ 0 refl e
  own kind.Csign w n q e = of_around (operator (lexeme.Plus ∷ lexeme.Minus ∷ []) w) [] (Kid class.Bare ∷ []) (λ x. refl) e
  own kind.Ref w n q e = of_plain w _ 0 refl e
  own kind.Index w n q e = of_plain w _ 2 refl e
  own kind.Select w n q e = of_plain w _ 1 refl e
  own kind.Deref w n q e = of_plain w _ 1 refl e
  own kind.Number w n q e = of_spelled (is_numeral w) lexeme.Numeral e
  own kind.Text w n q e = of_spelled (is_text w) lexeme.Text e
  own kind.Nil w n q e = of_plain w _ 1 refl e
  own kind.Call w n q e = of_plain w _ 2 refl e
  own kind.Parens w n q e = of_plain w _ 2 refl e
  own kind.Not w n q e = of_plain w _ 1 refl e
  own kind.Setcon w n q e = of_plain w _ 2 refl e
  own kind.Mul w n q e = of_around (operator (lexeme.Star ∷ lexeme.KeyDiv ∷ lexeme.KeyMod ∷ lexeme.KeyAnd ∷ []) w) (Kid class.Term ∷ []) (Kid class.Factor ∷ []) (λ x. refl) e
  own kind.Add w n q e = of_around (operator (lexeme.Plus ∷ lexeme.Minus ∷ lexeme.KeyOr ∷ []) w) (Kid class.Simple ∷ []) (Kid class.Term ∷ []) (λ x. refl) e
  own kind.Sign w n q e = of_around (operator (lexeme.Plus ∷ lexeme.Minus ∷ []) w) [] (Kid class.Term ∷ []) (λ x. refl) e
  own kind.Rel w n q e = of_around (operator (lexeme.Equal ∷ lexeme.Unequal ∷ lexeme.Less ∷ lexeme.Greater ∷ lexeme.AtMost ∷ lexeme.AtLeast ∷ lexeme.KeyIn ∷ []) w) (Kid class.Simple ∷ []) (Kid class.Simple ∷ []) (λ x. refl) e
  own kind.Width w n q e = of_plain w _ 1 refl e
  own kind.Span w n q e = of_plain w _ 1 refl e
  own kind.Name w n q e = of_spelled (is_identifier w) lexeme.Identifier e
  own kind.Args w n q e = of_args w n e
  own kind.Names w n q e = of_some_elements w lexeme.Comma class.Name n e
  own kind.Labels w n q e = of_some_elements w lexeme.Comma class.Constant n e
  own kind.Exprs w n q e = of_some_elements w lexeme.Comma class.Expression n e
  own kind.Members w n q e = of_elements w lexeme.Comma class.Member n e
  own (kind.Hole s) w n q e = of_plain w (Literal (lexeme.Hole s) ∷ []) 1 refl e
  own _ w n q e = cc

fitting : (o : Option (List Item)) (k : Kind) (w : List ℕ) (n : ℕ) (ts : Forest) → quiet k ≡ true → layout k w n ≡ o → fits_some o (kinds ts) ≡ true →
    length (fill_some o w (texts ts)) ≡ own_symbols k n + sum_by breadth (trees_of ts)
fitting None k w n ts q e h = cc
fitting (Some is) k w n ts q e h = width-fill is w ts ∙ width-literals is (trees_of ts) (ap (fits is) (sym (kinds-is ts)) ∙ h) ∙ ap (λ m. m + sum_by breadth (trees_of ts)) (own is k w n q e)

-- the symbols of a quiet node are its own and those of its kids
pub breadth-kids : (t : Plain) → quiet t.kind ≡ true → IsWellFormed t → breadth t ≡ own_symbols t.kind (length (kids_of t)) + sum_by breadth (kids_of t)
breadth-kids t q h = rw (length-kids_of t, kids_of-is t) (fitting (layout t.kind t.word (count t.kids)) t.kind t.word (count t.kids) t.kids q refl h.0)

quiet_all : (ks : List Plain) (i : ℕ) (k : Plain) → list_all quiet (map kind_of ks) ≡ true → i < length ks → k ≡ get_or ks i k → quiet k.kind ≡ true
quiet_all [] i k h l e = absurd (omega arith)
quiet_all (u ∷ ks) zero k h l e = ap (λ (v : Plain). quiet v.kind) e ∙ (&&_split _ _ h).0
quiet_all (u ∷ ks) (suc i) k h l e = quiet_all ks i k (&&_split _ _ h).1 (omega arith) e

-- and its kids are quiet
pub quiet_kid : (t : Plain) (i : ℕ) (k : Plain) → quiet t.kind ≡ true → IsWellFormed t → i < length (kids_of t) → k ≡ get_or (kids_of t) i k → quiet k.kind ≡ true
quiet_kid t i k q h l e =
    let kids : list_all quiet (map kind_of (kids_of t)) ≡ true = rw (kids_of-is t, ← kinds-is t.kids) (quiet_kids t.kind 0 (kinds t.kids) q (fitting_kids t.kind t.word t.kids h.0)) in
    quiet_all (kids_of t) i k kids l e

-- one kid on
pub sum-more : (ks : List Plain) (i : ℕ) (k : Plain) → i < length ks → k ≡ get_or ks i k → sum_by breadth (drop i ks) ≡ breadth k + sum_by breadth (drop (i + 1) ks)
sum-more ks i k l e = ap (sum_by breadth) (drop_more ks i k l ∙ ap (λ u. u ∷ drop (i + 1) ks) (sym e)) ∙ sum_by-cons breadth k (drop (i + 1) ks)
