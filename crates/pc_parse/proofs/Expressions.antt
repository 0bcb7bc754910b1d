-- The nodes of expressions are read.
use Rattle.std.proofs.Common.{◌≡◌, ℕ, Bool, true, false, ◌&&◌, not, List, [], ◌∷◌, ◌++◌, Option, Some, refl, ap, sym, ◌∙◌}
use Rattle.pc_syntax.specs.declared.lexeme.Lexeme.{Lexeme}
use Rattle.pc_syntax.specs.declared.lexeme.Lexeme.TheVariants as lexeme
use Rattle.pc_syntax.specs.declared.kind.Kind.{Kind}
use Rattle.pc_syntax.specs.declared.kind.Kind.TheVariants as kind
use Rattle.pc_syntax.specs.declared.sort.Sort.TheVariants as sort
use Rattle.pc_syntax.specs.declared.class.Class.{Class}
use Rattle.pc_syntax.specs.declared.class.Class.TheVariants as class
use Rattle.pc_syntax.specs.declared.item.Item.TheVariants.{Literal, Word, Kid}
use Rattle.pc_syntax.specs.Plain.{Forest, Nil, Cons, count, kinds}
use Rattle.pc_syntax.specs.Classes.{has}
use Rattle.pc_syntax.specs.Layout.{layout, operator, around, further}
use Rattle.pc_syntax.specs.Spellings.{spelling_of}
use Rattle.pc_syntax.specs.Symbols.{symbols}
use Rattle.pc_syntax.specs.Words.{is_identifier, is_numeral, is_text}
use Rattle.pc_syntax.specs.WellFormed.{fits_some}
use Rattle.pc_parse.specs.Lookahead.{look}
use Rattle.pc_parse.specs.Tables.{Open, Predict, Blank, start, Wrap, Shift, grow, spelling_at}
use Rattle.pc_parse.proofs.Entries.{each, implies, implies_true, &&_split, &&_join, all_classes, all_lookaheads, at_class, at_lookahead}
use Rattle.pc_parse.proofs.Follows.{known, corner, follow, tail, ends_expression, ends_exprs, ends_access, ends_accesses, ends_member, ends_members, plain_class}
use Rattle.pc_parse.proofs.TableTests.{same_look, grows_at, Grows, opens_from, opens_at, leaf_at, only_at, among_at, operator_found, grow_all, all_grow, whenever, at_whenever, blank_to, blank_to_eq, predicts_to, predicts_to_eq, wraps_to, wraps_to_eq}
use Rattle.pc_parse.proofs.Simulates.{Found, AllRead, halts, is_in_set}
use Rattle.pc_parse.proofs.Nodes.{true-false, quiet_plain, okay_of, predicted, blank, leaf, wrapped, straight, led, tracks_open, inner_further, plain_further}
use Rattle.pc_parse.proofs.Statements.{IsFound}
use Rattle.pc_parse.proofs.Fronts.{by_name, signs, leaf_fits, around_fits, begins_with}

pub name : IsFound kind.Name
name w Nil fit all root c st m fs rest begins awaits cor tl quiet =
    let p = leaf_fits (is_identifier w) lexeme.Identifier [] fit in
    let made : layout kind.Name w 0 ≡ Some (Word lexeme.Identifier ∷ []) = rw p.0 refl in
    leaf root kind.Name lexeme.Identifier w c st fs rest made (leaf_at kind.Name (Some lexeme.Identifier) c refl cor) refl begins
name w (Cons i v ns is ts) fit all root c st m fs rest begins awaits cor tl quiet =
    let p = leaf_fits (is_identifier w) lexeme.Identifier (i ∷ kinds ts) fit in
    let e : i ∷ kinds ts ≡ [] = p.1 in cc

pub number : IsFound kind.Number
number w Nil fit all root c st m fs rest begins awaits cor tl quiet =
    let p = leaf_fits (is_numeral w) lexeme.Numeral [] fit in
    let made : layout kind.Number w 0 ≡ Some (Word lexeme.Numeral ∷ []) = rw p.0 refl in
    leaf root kind.Number lexeme.Numeral w c st fs rest made (leaf_at kind.Number (Some lexeme.Numeral) c refl cor) refl begins
number w (Cons i v ns is ts) fit all root c st m fs rest begins awaits cor tl quiet =
    let p = leaf_fits (is_numeral w) lexeme.Numeral (i ∷ kinds ts) fit in
    let e : i ∷ kinds ts ≡ [] = p.1 in cc

pub text : IsFound kind.Text
text w Nil fit all root c st m fs rest begins awaits cor tl quiet =
    let p = leaf_fits (is_text w) lexeme.Text [] fit in
    let made : layout kind.Text w 0 ≡ Some (Word lexeme.Text ∷ []) = rw p.0 refl in
    leaf root kind.Text lexeme.Text w c st fs rest made (leaf_at kind.Text (Some lexeme.Text) c refl cor) refl begins
text w (Cons i v ns is ts) fit all root c st m fs rest begins awaits cor tl quiet =
    let p = leaf_fits (is_text w) lexeme.Text (i ∷ kinds ts) fit in
    let e : i ∷ kinds ts ≡ [] = p.1 in cc

pub nil : IsFound kind.Nil
nil [] ks fit all root c st m fs rest begins awaits cor tl quiet =
    straight root kind.Nil [] ks lexeme.KeyNil [] c st fs rest refl (opens_at kind.Nil kind.Nil [] (Some lexeme.KeyNil) [] c refl cor) refl begins all fit refl (λ p e. true-false p) refl
nil (b ∷ w) ks fit all root c st m fs rest begins awaits cor tl quiet = cc

pub negation : IsFound kind.Not
negation [] ks fit all root c st m fs rest begins awaits cor tl quiet =
    let l = Kid class.Factor ∷ [] in
    straight root kind.Not [] ks lexeme.KeyNot l c st fs rest refl (opens_at kind.Not kind.Not [] (Some lexeme.KeyNot) l c refl cor) refl begins all fit tl (λ p e. true-false p) refl
negation (b ∷ w) ks fit all root c st m fs rest begins awaits cor tl quiet = cc

abbrev ref_test : Kind → Class → Option Lexeme → Bool
ref_test i c x = implies (tail c kind.Ref x) (wraps_to (grow i c x) kind.Ref)

ref_wrap : (i : Kind) (c : Class) (x : Option Lexeme) → each (λ b. implies (corner b kind.Ref) (each (ref_test i b) all_lookaheads)) all_classes ≡ true
    → corner c kind.Ref ≡ true → tail c kind.Ref x ≡ true → grow i c x ≡ Wrap kind.Ref
ref_wrap i c x test h t =
    let by_class : each (ref_test i c) all_lookaheads ≡ true = implies_true _ _ (at_class (λ b. implies (corner b kind.Ref) (each (ref_test i b) all_lookaheads)) c test) h in
    wraps_to_eq _ _ (implies_true _ _ (at_lookahead (ref_test i c) x by_class) t)

ref_corner : (i : Kind) (c : Class) → each (λ b. implies (corner b kind.Ref) (corner b i)) all_classes ≡ true → corner c kind.Ref ≡ true → corner c i ≡ true
ref_corner i c test h = implies_true _ _ (at_class (λ b. implies (corner b kind.Ref) (corner b i)) c test) h

pub ref : IsFound kind.Ref
ref [] Nil fit all root c st m fs rest begins awaits cor tl quiet = cc
ref [] (Cons i v ns is (Cons j u ms js ts)) fit all root c st m fs rest begins awaits cor tl quiet = true-false (sym (&&_split _ _ fit).1)
ref [] (Cons i v ns is Nil) fit all root c st m fs rest begins awaits cor tl quiet =
    let fits_name : has class.Name i ≡ true = (&&_split _ _ fit).0 in
    let member : has class.Name i && known i ≡ true = &&_join _ _ fits_name all.0 in
    let grows : grow i c (look rest) ≡ Wrap kind.Ref = by_name (λ o. grow o c (look rest) ≡ Wrap kind.Ref) (ref_wrap kind.Name c (look rest) refl cor tl) (ref_wrap (kind.Hole sort.Name) c (look rest) refl cor tl) i member in
    wrapped root kind.Ref i v ns is class.Name c st m fs rest refl (by_name (λ o. corner c o ≡ true) (ref_corner kind.Name c refl cor) (ref_corner (kind.Hole sort.Name) c refl cor) i member)
    (by_name (λ o. tail c o (look rest) ≡ true) refl refl i member) grows (quiet_plain class.Name i is (look rest) fits_name refl) begins awaits all
ref (b ∷ w) ks fit all root c st m fs rest begins awaits cor tl quiet = cc

pub index : IsFound kind.Index
index [] Nil fit all root c st m fs rest begins awaits cor tl quiet = cc
index [] (Cons i v ns is ts) fit all root c st m fs rest begins awaits cor tl quiet =
    let l = Kid class.Exprs ∷ Literal lexeme.CloseBracket ∷ [] in
    let fit2 = &&_split _ _ fit in
    led root kind.Index [] i v ns is ts class.Access lexeme.OpenBracket l c st m fs rest refl (grows_at kind.Index [] class.Access (Some lexeme.OpenBracket) l c i refl cor (&&_join _ _ fit2.0 all.0)) refl refl begins awaits all fit2.1 refl refl refl
index (b ∷ w) ks fit all root c st m fs rest begins awaits cor tl quiet = cc

pub select : IsFound kind.Select
select [] Nil fit all root c st m fs rest begins awaits cor tl quiet = cc
select [] (Cons i v ns is ts) fit all root c st m fs rest begins awaits cor tl quiet =
    let l = Kid class.Name ∷ [] in
    let fit2 = &&_split _ _ fit in
    led root kind.Select [] i v ns is ts class.Access lexeme.Dot l c st m fs rest refl (grows_at kind.Select [] class.Access (Some lexeme.Dot) l c i refl cor (&&_join _ _ fit2.0 all.0)) refl refl begins awaits all fit2.1 refl refl refl
select (b ∷ w) ks fit all root c st m fs rest begins awaits cor tl quiet = cc

pub deref : IsFound kind.Deref
deref [] Nil fit all root c st m fs rest begins awaits cor tl quiet = cc
deref [] (Cons i v ns is ts) fit all root c st m fs rest begins awaits cor tl quiet =
    let fit2 = &&_split _ _ fit in
    led root kind.Deref [] i v ns is ts class.Access lexeme.Caret [] c st m fs rest refl (grows_at kind.Deref [] class.Access (Some lexeme.Caret) [] c i refl cor (&&_join _ _ fit2.0 all.0)) refl refl begins awaits all fit2.1 refl refl refl
deref (b ∷ w) ks fit all root c st m fs rest begins awaits cor tl quiet = cc

pub call : IsFound kind.Call
call [] Nil fit all root c st m fs rest begins awaits cor tl quiet = cc
call [] (Cons i v ns is ts) fit all root c st m fs rest begins awaits cor tl quiet =
    let l = Kid class.Exprs ∷ Literal lexeme.CloseParen ∷ [] in
    let fit2 = &&_split _ _ fit in
    led root kind.Call [] i v ns is ts class.Name lexeme.OpenParen l c st m fs rest refl (grows_at kind.Call [] class.Name (Some lexeme.OpenParen) l c i refl cor (&&_join _ _ fit2.0 all.0)) refl refl begins awaits all fit2.1 refl refl refl
call (b ∷ w) ks fit all root c st m fs rest begins awaits cor tl quiet = cc

pub width : IsFound kind.Width
width [] Nil fit all root c st m fs rest begins awaits cor tl quiet = cc
width [] (Cons i v ns is ts) fit all root c st m fs rest begins awaits cor tl quiet =
    let l = Kid class.Expression ∷ [] in
    let fit2 = &&_split _ _ fit in
    led root kind.Width [] i v ns is ts class.Expression lexeme.Colon l c st m fs rest refl (grows_at kind.Width [] class.Expression (Some lexeme.Colon) l c i refl cor (&&_join _ _ fit2.0 all.0)) refl refl begins awaits all fit2.1 tl refl refl
width (b ∷ w) ks fit all root c st m fs rest begins awaits cor tl quiet = cc

pub span : IsFound kind.Span
span [] Nil fit all root c st m fs rest begins awaits cor tl quiet = cc
span [] (Cons i v ns is ts) fit all root c st m fs rest begins awaits cor tl quiet =
    let l = Kid class.Expression ∷ [] in
    let fit2 = &&_split _ _ fit in
    led root kind.Span [] i v ns is ts class.Expression lexeme.DotDot l c st m fs rest refl (grows_at kind.Span [] class.Expression (Some lexeme.DotDot) l c i refl cor (&&_join _ _ fit2.0 all.0)) refl refl begins awaits all fit2.1 tl refl refl
span (b ∷ w) ks fit all root c st m fs rest begins awaits cor tl quiet = cc

pub setcon : IsFound kind.Setcon
setcon [] ks fit all root c st m fs rest begins awaits cor tl quiet =
    let l = Kid class.Members ∷ Literal lexeme.CloseBracket ∷ [] in
    straight root kind.Setcon [] ks lexeme.OpenBracket l c st fs rest refl (opens_at kind.Setcon kind.Setcon [] (Some lexeme.OpenBracket) l c refl cor) refl begins all fit refl (λ p e. true-false p) refl
setcon (b ∷ w) ks fit all root c st m fs rest begins awaits cor tl quiet = cc

pub parens : IsFound kind.Parens
parens [] ks fit all root c st m fs rest begins awaits cor tl quiet =
    let l = Kid class.Expression ∷ Literal lexeme.CloseParen ∷ [] in
    straight root kind.Parens [] ks lexeme.OpenParen l c st fs rest refl (opens_at kind.Parens kind.Parens [] (Some lexeme.OpenParen) l c refl cor) refl begins all fit refl (λ p e. true-false p) refl
parens (b ∷ w) ks fit all root c st m fs rest begins awaits cor tl quiet = cc

-- A node of an operator between two operands.
binary : (k : Kind) (ops : List Lexeme) (d b : Class)
    → ((w : List ℕ) (n : ℕ) → layout k w n ≡ around (operator ops w) (Kid d ∷ []) (Kid b ∷ [])) → grow_all (among_at ops) k d (Kid b ∷ []) ≡ true
    → whenever (among_at ops) (λ x. not (same_look x (Some lexeme.KeyElse))) ≡ true → plain_class b ≡ true
    → ((c : Class) (x : Option Lexeme) → tail c k x ≡ true → follow b x ≡ true) → ((x : Option Lexeme) → halts k x ≡ true)
    → (w : List ℕ) (ks : Forest) → fits_some (around (operator ops w) (Kid d ∷ []) (Kid b ∷ [])) (kinds ks) ≡ true → AllRead ks → Found k w ks
binary k ops d b lays grows quiets plain tails ends w Nil fit all root c st m fs rest begins awaits cor tl quiet =
    let a = around_fits (operator ops w) (Kid d ∷ []) (Kid b ∷ []) [] fit in
    let z : false ≡ true = a.2 in cc
binary k ops d b lays grows quiets plain tails ends w (Cons i v ns is ts) fit all root c st m fs rest begins awaits cor tl quiet =
    let a = around_fits (operator ops w) (Kid d ∷ []) (Kid b ∷ []) (i ∷ kinds ts) fit in
    let x = a.0 in
    let l = Kid b ∷ [] in
    let fit2 = &&_split _ _ a.2 in
    let found = operator_found ops w x a.1 in
    let made : layout k w (count (Cons i v ns is ts)) ≡ Some (Kid d ∷ Literal x ∷ l) = lays w (count (Cons i v ns is ts)) ∙ ap (λ o. around o (Kid d ∷ []) (Kid b ∷ [])) a.1 in
    let at_op : Grows k (spelling_of x) (Some x) l c i = all_grow (among_at ops) k d x l c i grows found.1 cor (&&_join _ _ fit2.0 all.0) in
    let here : Grows k w (Some x) l c i = (at_op.0, at_op.1, at_op.2 ∙ ap (λ u. Shift k u l) (sym found.0)) in
    led root k w i v ns is ts d x l c st m fs rest made here (at_whenever (among_at ops) (λ y. not (same_look y (Some lexeme.KeyElse))) (Some x) quiets found.1) refl begins awaits all fit2.1 (tails c (look rest) tl) plain (ends (look rest))

pub mul : IsFound kind.Mul
mul w ks fit all =
    binary kind.Mul (lexeme.Star ∷ lexeme.KeyDiv ∷ lexeme.KeyMod ∷ lexeme.KeyAnd ∷ []) class.Term class.Factor (λ v n. refl) refl refl refl (λ c x h. h) (λ x. refl) w ks fit all

pub add : IsFound kind.Add
add w ks fit all =
    binary kind.Add (lexeme.Plus ∷ lexeme.Minus ∷ lexeme.KeyOr ∷ []) class.Simple class.Term (λ v n. refl) refl refl refl (λ c x h. h) (λ x. refl) w ks fit all

pub rel : IsFound kind.Rel
rel w ks fit all =
    binary kind.Rel (lexeme.Equal ∷ lexeme.Unequal ∷ lexeme.Less ∷ lexeme.Greater ∷ lexeme.AtMost ∷ lexeme.AtLeast ∷ lexeme.KeyIn ∷ []) class.Simple class.Simple (λ v n. refl) refl refl refl (λ c x h. h) (λ x. refl) w ks fit all

pub sign : IsFound kind.Sign
sign w ks fit all root c st m fs rest begins awaits cor tl quiet =
    let a = around_fits (operator signs w) [] (Kid class.Term ∷ []) (kinds ks) fit in
    let x = a.0 in
    let l = Kid class.Term ∷ [] in
    let found = operator_found signs w x a.1 in
    let made : layout kind.Sign w (count ks) ≡ Some (Literal x ∷ l) = ap (λ o. around o [] (Kid class.Term ∷ [])) a.1 in
    let test : opens_from kind.Sign kind.Sign (spelling_of x) (Some x) l ≡ true = at_whenever (among_at signs) (λ y. opens_from kind.Sign kind.Sign (spelling_at y) y l) (Some x) refl found.1 in
    let at_op : start c (Some x) ≡ Open kind.Sign (spelling_of x) l = opens_at kind.Sign kind.Sign (spelling_of x) (Some x) l c test cor in
    let here : start c (Some x) ≡ Open kind.Sign w l = at_op ∙ ap (λ u. Open kind.Sign u l) (sym found.0) in
    straight root kind.Sign w ks x l c st fs rest made here refl begins all a.2 tl (λ p e. true-false p) refl

pub exprs : IsFound kind.Exprs
exprs [] Nil fit all root c st m fs rest begins awaits cor tl quiet = cc
exprs [] (Cons i v ns is ts) fit all root c st m fs rest begins awaits cor tl quiet =
    let l = Kid class.Expression ∷ further (Some lexeme.Comma) class.Expression (count ts) [] in
    let n = Kid class.Expression ∷ [] in
    let ks = Cons i v ns is ts in
    let e : c ≡ class.Exprs = only_at kind.Exprs class.Exprs c refl cor in
    let behind : ends_expression (look rest) ≡ true = at_whenever ends_exprs ends_expression (look rest) refl tl in
    predicted root kind.Exprs [] ks l n c st fs rest refl (rw e refl) refl begins all fit
    (okay_of l [] ks rest fit (inner_further lexeme.Comma class.Expression (count ts) [] (look rest) refl refl behind) (λ p h. true-false (sym (plain_further (Some lexeme.Comma) class.Expression (count ts) [] refl) ∙ p)))
    (refl, tracks_open kind.Exprs lexeme.Comma class.Expression (count ts) refl) (at_whenever ends_exprs (halts kind.Exprs) (look rest) refl tl)
exprs (b ∷ w) ks fit all root c st m fs rest begins awaits cor tl quiet = cc

pub accesses : IsFound kind.Accesses
accesses [] Nil fit all root c st m fs rest begins awaits cor tl quiet = cc
accesses [] (Cons i v ns is ts) fit all root c st m fs rest begins awaits cor tl quiet =
    let l = Kid class.Access ∷ further (Some lexeme.Comma) class.Access (count ts) [] in
    let n = Kid class.Access ∷ [] in
    let ks = Cons i v ns is ts in
    let e : c ≡ class.Accesses = only_at kind.Accesses class.Accesses c refl cor in
    let behind : ends_access (look rest) ≡ true = at_whenever ends_accesses ends_access (look rest) refl tl in
    predicted root kind.Accesses [] ks l n c st fs rest refl (rw e refl) refl begins all fit
    (okay_of l [] ks rest fit (inner_further lexeme.Comma class.Access (count ts) [] (look rest) refl refl behind) (λ p h. true-false (sym (plain_further (Some lexeme.Comma) class.Access (count ts) [] refl) ∙ p)))
    (refl, tracks_open kind.Accesses lexeme.Comma class.Access (count ts) refl) (at_whenever ends_accesses (halts kind.Accesses) (look rest) refl tl)
accesses (b ∷ w) ks fit all root c st m fs rest begins awaits cor tl quiet = cc

pub members : IsFound kind.Members
members [] Nil fit all root c st m fs rest begins awaits cor tl quiet =
    let e : c ≡ class.Members = only_at kind.Members class.Members c refl cor in
    let opening : start c (look rest) ≡ Blank kind.Members = rw e (blank_to_eq _ _ (at_whenever ends_members (λ x. blank_to (start class.Members x) kind.Members) (look rest) refl tl)) in
    blank root kind.Members c st fs rest opening begins
members [] (Cons i v ns is ts) fit all root c st m fs rest begins awaits cor tl quiet =
    let l = Kid class.Member ∷ further (Some lexeme.Comma) class.Member (count ts) [] in
    let n = Kid class.Member ∷ [] in
    let ks = Cons i v ns is ts in
    let x = look (symbols kind.Members [] ks ++ rest) in
    let e : c ≡ class.Members = only_at kind.Members class.Members c refl cor in
    let begun : is_in_set x ≡ true = begins_with class.Member i v is (further (Some lexeme.Comma) class.Member (count ts) []) [] ts rest (&&_join _ _ (&&_split _ _ fit).0 all.0) refl all.2 in
    let opening : start class.Members x ≡ Predict kind.Members n = predicts_to_eq _ _ _ (at_whenever is_in_set (λ y. predicts_to (start class.Members y) kind.Members n) x refl begun) in
    let here : start c x ≡ Predict kind.Members n = ap (λ b. start b x) e ∙ opening in
    let behind : ends_member (look rest) ≡ true = at_whenever ends_members ends_member (look rest) refl tl in
    predicted root kind.Members [] ks l n c st fs rest refl here refl begins all fit
    (okay_of l [] ks rest fit (inner_further lexeme.Comma class.Member (count ts) [] (look rest) refl refl behind) (λ p h. true-false (sym (plain_further (Some lexeme.Comma) class.Member (count ts) [] refl) ∙ p)))
    (refl, tracks_open kind.Members lexeme.Comma class.Member (count ts) refl) (at_whenever ends_members (halts kind.Members) (look rest) refl tl)
members (b ∷ w) ks fit all root c st m fs rest begins awaits cor tl quiet = cc
