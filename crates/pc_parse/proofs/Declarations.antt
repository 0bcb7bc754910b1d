-- The nodes of programs, blocks and declarations are read.
use Rattle.std.proofs.Common.{◌≡◌, ℕ, zero, suc, Bool, true, ◌&&◌, ◌||◌, ◌⊎◌, inl, inr, List, [], ◌∷◌, ◌++◌, Option, Some, None, refl, ap, sym, ◌∙◌}
use Rattle.pc_syntax.specs.declared.lexeme.Lexeme.{Lexeme}
use Rattle.pc_syntax.specs.declared.lexeme.Lexeme.TheVariants as lexeme
use Rattle.pc_syntax.specs.declared.kind.Kind.{Kind}
use Rattle.pc_syntax.specs.declared.kind.Kind.TheVariants as kind
use Rattle.pc_syntax.specs.declared.sort.Sort.TheVariants as sort
use Rattle.pc_syntax.specs.declared.class.Class.{Class}
use Rattle.pc_syntax.specs.declared.class.Class.TheVariants as class
use Rattle.pc_syntax.specs.declared.item.Item.{Item}
use Rattle.pc_syntax.specs.declared.item.Item.TheVariants.{Literal, Word, Kid}
use Rattle.pc_syntax.specs.Plain.{Forest, Nil, Cons, count, kinds}
use Rattle.pc_syntax.specs.Classes.{has}
use Rattle.pc_syntax.specs.Layout.{layout, operator, around, further}
use Rattle.pc_syntax.specs.Spellings.{spelling_of}
use Rattle.pc_syntax.specs.Symbols.{Sym, fill, texts, symbols}
use Rattle.pc_syntax.specs.Words.{is_forward, is_numeral, is_text}
use Rattle.pc_parse.specs.Lookahead.{look}
use Rattle.pc_parse.specs.Tables.{Open, Predict, Blank, start, Wrap, grow, spelling_at}
use Rattle.pc_parse.proofs.Entries.{each, implies, implies_true, &&_split, &&_join, all_classes, all_lookaheads, at_class, at_lookahead}
use Rattle.pc_parse.proofs.Follows.{known, corner, follow, tail, ends_names, ends_heads, ends_consts, ends_types, ends_ordinal, ends_indexes, ends_vars}
use Rattle.pc_parse.proofs.TableTests.{same_look, same_look_eq, or_left, or_right, grows_at, opens_from, opens_at, leaf_at, among_at, operator_found, wraps_to, wraps_to_eq, only_at, one_at, at_whenever, blank_to, blank_to_eq, predicts_to, predicts_to_eq}
use Rattle.pc_parse.proofs.Simulates.{Front, Okay, Tracks, halts, first, begins_name, begins_body, begins_routine}
use Rattle.pc_parse.proofs.Nodes.{or_split, true-false, quiet_plain, inner, okay_of, opened, predicted, blank, leaf, wrapped, straight, led, tracks_self, tracks_open, tracks_closed, inner_further, plain_further}
use Rattle.pc_parse.proofs.Statements.{IsFound}
use Rattle.pc_parse.proofs.Fronts.{signs, leaf_fits, around_fits, by_name, body_begins, kid_first, front}

pub program : IsFound kind.Program
program [] ks fit all root c st m fs rest begins awaits cor tl quiet =
    let l = Kid class.Name ∷ Kid class.Heads ∷ Literal lexeme.Semicolon ∷ Kid class.Block ∷ Literal lexeme.Dot ∷ [] in
    straight root kind.Program [] ks lexeme.KeyProgram l c st fs rest refl (opens_at kind.Program kind.Program [] (Some lexeme.KeyProgram) l c refl cor) refl begins all fit refl (λ p e. true-false p) refl
program (b ∷ w) ks fit all root c st m fs rest begins awaits cor tl quiet = cc

pub forward : IsFound kind.Forward
forward w Nil fit all root c st m fs rest begins awaits cor tl quiet =
    let p = leaf_fits (is_forward w) lexeme.Identifier [] fit in
    let made : layout kind.Forward w 0 ≡ Some (Word lexeme.Identifier ∷ []) = rw p.0 refl in
    leaf root kind.Forward lexeme.Identifier w c st fs rest made (leaf_at kind.Forward (Some lexeme.Identifier) c refl cor) p.0 begins
forward w (Cons i v ns is ts) fit all root c st m fs rest begins awaits cor tl quiet =
    let p = leaf_fits (is_forward w) lexeme.Identifier (i ∷ kinds ts) fit in
    let e : i ∷ kinds ts ≡ [] = p.1 in cc

pub enum : IsFound kind.Enum
enum [] ks fit all root c st m fs rest begins awaits cor tl quiet =
    let l = Kid class.Names ∷ Literal lexeme.CloseParen ∷ [] in
    straight root kind.Enum [] ks lexeme.OpenParen l c st fs rest refl (opens_at kind.Enum kind.Enum [] (Some lexeme.OpenParen) l c refl cor) refl begins all fit refl (λ p e. true-false p) refl
enum (b ∷ w) ks fit all root c st m fs rest begins awaits cor tl quiet = cc

pub heads : IsFound kind.Heads
heads [] Nil fit all root c st m fs rest begins awaits cor tl quiet =
    let e : c ≡ class.Heads = only_at kind.Heads class.Heads c refl cor in
    let opening : start c (look rest) ≡ Blank kind.Heads = rw e (blank_to_eq _ _ (at_whenever ends_heads (λ x. blank_to (start class.Heads x) kind.Heads) (look rest) refl tl)) in
    blank root kind.Heads c st fs rest opening begins
heads [] (Cons i v ns is ts) fit all root c st m fs rest begins awaits cor tl quiet =
    let l = Kid class.Name ∷ further (Some lexeme.Comma) class.Name (count ts) (Literal lexeme.CloseParen ∷ []) in
    let n = Kid class.Name ∷ Literal lexeme.CloseParen ∷ [] in
    let ks = Cons i v ns is ts in
    opened root kind.Heads [] ks lexeme.OpenParen l kind.Heads n c st fs rest refl (opens_at kind.Heads kind.Heads [] (Some lexeme.OpenParen) n c refl cor) begins all fit
    (okay_of l [] ks rest fit (inner_further lexeme.Comma class.Name (count ts) (Literal lexeme.CloseParen ∷ []) (look rest) refl refl refl) (λ p e. true-false (sym (plain_further (Some lexeme.Comma) class.Name (count ts) (Literal lexeme.CloseParen ∷ []) refl) ∙ p)))
    (refl, tracks_closed kind.Heads lexeme.Comma lexeme.CloseParen class.Name (count ts) refl refl) refl
heads (b ∷ w) ks fit all root c st m fs rest begins awaits cor tl quiet = cc

pub names : IsFound kind.Names
names [] Nil fit all root c st m fs rest begins awaits cor tl quiet = cc
names [] (Cons i v ns is ts) fit all root c st m fs rest begins awaits cor tl quiet =
    let l = Kid class.Name ∷ further (Some lexeme.Comma) class.Name (count ts) [] in
    let n = Kid class.Name ∷ [] in
    let ks = Cons i v ns is ts in
    let e : c ≡ class.Names = only_at kind.Names class.Names c refl cor in
    predicted root kind.Names [] ks l n c st fs rest refl (rw e refl) refl begins all fit
    (okay_of l [] ks rest fit (inner_further lexeme.Comma class.Name (count ts) [] (look rest) refl refl refl) (λ p h. true-false (sym (plain_further (Some lexeme.Comma) class.Name (count ts) [] refl) ∙ p)))
    (refl, tracks_open kind.Names lexeme.Comma class.Name (count ts) refl) (at_whenever ends_names (halts kind.Names) (look rest) refl tl)
names (b ∷ w) ks fit all root c st m fs rest begins awaits cor tl quiet = cc

pub cnumber : IsFound kind.Cnumber
cnumber w Nil fit all root c st m fs rest begins awaits cor tl quiet =
    let p = leaf_fits (is_numeral w) lexeme.Numeral [] fit in
    let made : layout kind.Cnumber w 0 ≡ Some (Word lexeme.Numeral ∷ []) = rw p.0 refl in
    leaf root kind.Cnumber lexeme.Numeral w c st fs rest made (leaf_at kind.Cnumber (Some lexeme.Numeral) c refl cor) refl begins
cnumber w (Cons i v ns is ts) fit all root c st m fs rest begins awaits cor tl quiet =
    let p = leaf_fits (is_numeral w) lexeme.Numeral (i ∷ kinds ts) fit in
    let e : i ∷ kinds ts ≡ [] = p.1 in cc

pub cstring : IsFound kind.Cstring
cstring w Nil fit all root c st m fs rest begins awaits cor tl quiet =
    let p = leaf_fits (is_text w) lexeme.Text [] fit in
    let made : layout kind.Cstring w 0 ≡ Some (Word lexeme.Text ∷ []) = rw p.0 refl in
    leaf root kind.Cstring lexeme.Text w c st fs rest made (leaf_at kind.Cstring (Some lexeme.Text) c refl cor) refl begins
cstring w (Cons i v ns is ts) fit all root c st m fs rest begins awaits cor tl quiet =
    let p = leaf_fits (is_text w) lexeme.Text (i ∷ kinds ts) fit in
    let e : i ∷ kinds ts ≡ [] = p.1 in cc

-- a node that is made of another alone, which comes first wherever it may stand
abbrev wrap_test : Kind → Kind → Class → Option Lexeme → Bool
wrap_test k i c x = implies (tail c k x) (wraps_to (grow i c x) k)

wrap_at : (k i : Kind) (c : Class) (x : Option Lexeme) → each (λ b. implies (corner b k) (each (wrap_test k i b) all_lookaheads)) all_classes ≡ true
    → corner c k ≡ true → tail c k x ≡ true → grow i c x ≡ Wrap k
wrap_at k i c x test h t =
    let by_class : each (wrap_test k i c) all_lookaheads ≡ true = implies_true _ _ (at_class (λ b. implies (corner b k) (each (wrap_test k i b) all_lookaheads)) c test) h in
    wraps_to_eq _ _ (implies_true _ _ (at_lookahead (wrap_test k i c) x by_class) t)

wrap_corner : (k i : Kind) (c : Class) → each (λ b. implies (corner b k) (corner b i)) all_classes ≡ true → corner c k ≡ true → corner c i ≡ true
wrap_corner k i c test h = implies_true _ _ (at_class (λ b. implies (corner b k) (corner b i)) c test) h

pub tname : IsFound kind.Tname
tname [] Nil fit all root c st m fs rest begins awaits cor tl quiet = cc
tname [] (Cons i v ns is (Cons j u ms js ts)) fit all root c st m fs rest begins awaits cor tl quiet = true-false (sym (&&_split _ _ fit).1)
tname [] (Cons i v ns is Nil) fit all root c st m fs rest begins awaits cor tl quiet =
    let member : has class.Name i ≡ true = (&&_split _ _ fit).0 in
    let known_name : has class.Name i && known i ≡ true = &&_join _ _ member all.0 in
    let grows : grow i c (look rest) ≡ Wrap kind.Tname = by_name (λ o. grow o c (look rest) ≡ Wrap kind.Tname) (wrap_at kind.Tname kind.Name c (look rest) refl cor tl) (wrap_at kind.Tname (kind.Hole sort.Name) c (look rest) refl cor tl) i known_name in
    wrapped root kind.Tname i v ns is class.Name c st m fs rest refl (by_name (λ o. corner c o ≡ true) (wrap_corner kind.Tname kind.Name c refl cor) (wrap_corner kind.Tname (kind.Hole sort.Name) c refl cor) i known_name)
    (by_name (λ o. tail c o (look rest) ≡ true) refl refl i known_name) grows (quiet_plain class.Name i is (look rest) member refl) begins awaits all
tname (b ∷ w) ks fit all root c st m fs rest begins awaits cor tl quiet = cc

pub cname : IsFound kind.Cname
cname [] Nil fit all root c st m fs rest begins awaits cor tl quiet = cc
cname [] (Cons i v ns is (Cons j u ms js ts)) fit all root c st m fs rest begins awaits cor tl quiet = true-false (sym (&&_split _ _ fit).1)
cname [] (Cons i v ns is Nil) fit all root c st m fs rest begins awaits cor tl quiet =
    let member : has class.Name i ≡ true = (&&_split _ _ fit).0 in
    let known_name : has class.Name i && known i ≡ true = &&_join _ _ member all.0 in
    let grows : grow i c (look rest) ≡ Wrap kind.Cname = by_name (λ o. grow o c (look rest) ≡ Wrap kind.Cname) (wrap_at kind.Cname kind.Name c (look rest) refl cor tl) (wrap_at kind.Cname (kind.Hole sort.Name) c (look rest) refl cor tl) i known_name in
    wrapped root kind.Cname i v ns is class.Name c st m fs rest refl (by_name (λ o. corner c o ≡ true) (wrap_corner kind.Cname kind.Name c refl cor) (wrap_corner kind.Cname (kind.Hole sort.Name) c refl cor) i known_name)
    (by_name (λ o. tail c o (look rest) ≡ true) refl refl i known_name) grows (quiet_plain class.Name i is (look rest) member refl) begins awaits all
cname (b ∷ w) ks fit all root c st m fs rest begins awaits cor tl quiet = cc

pub subrange : IsFound kind.Subrange
subrange [] Nil fit all root c st m fs rest begins awaits cor tl quiet = cc
subrange [] (Cons i v ns is ts) fit all root c st m fs rest begins awaits cor tl quiet =
    let l = Kid class.Constant ∷ [] in
    let fit2 = &&_split _ _ fit in
    led root kind.Subrange [] i v ns is ts class.Constant lexeme.DotDot l c st m fs rest refl (grows_at kind.Subrange [] class.Constant (Some lexeme.DotDot) l c i refl cor (&&_join _ _ fit2.0 all.0)) refl refl begins awaits all fit2.1 refl refl refl
subrange (b ∷ w) ks fit all root c st m fs rest begins awaits cor tl quiet = cc

pub array : IsFound kind.Array
array [] ks fit all root c st m fs rest begins awaits cor tl quiet =
    let l = Literal lexeme.OpenBracket ∷ Kid class.Indexes ∷ Literal lexeme.CloseBracket ∷ Literal lexeme.KeyOf ∷ Kid class.Denoter ∷ [] in
    straight root kind.Array [] ks lexeme.KeyArray l c st fs rest refl (opens_at kind.Array kind.Array [] (Some lexeme.KeyArray) l c refl cor) refl begins all fit tl (λ p e. true-false p) refl
array (b ∷ w) ks fit all root c st m fs rest begins awaits cor tl quiet = cc

pub set_of : IsFound kind.Setof
set_of [] ks fit all root c st m fs rest begins awaits cor tl quiet =
    let l = Literal lexeme.KeyOf ∷ Kid class.Ordinal ∷ [] in
    straight root kind.Setof [] ks lexeme.KeySet l c st fs rest refl (opens_at kind.Setof kind.Setof [] (Some lexeme.KeySet) l c refl cor) refl begins all fit tl (λ p e. true-false p) refl
set_of (b ∷ w) ks fit all root c st m fs rest begins awaits cor tl quiet = cc

pub packed : IsFound kind.Packed
packed [] ks fit all root c st m fs rest begins awaits cor tl quiet =
    let l = Kid class.Structured ∷ [] in
    straight root kind.Packed [] ks lexeme.KeyPacked l c st fs rest refl (opens_at kind.Packed kind.Packed [] (Some lexeme.KeyPacked) l c refl cor) refl begins all fit tl (λ p e. true-false p) refl
packed (b ∷ w) ks fit all root c st m fs rest begins awaits cor tl quiet = cc

pub pointer : IsFound kind.Pointer
pointer [] ks fit all root c st m fs rest begins awaits cor tl quiet =
    let l = Kid class.Name ∷ [] in
    straight root kind.Pointer [] ks lexeme.Caret l c st fs rest refl (opens_at kind.Pointer kind.Pointer [] (Some lexeme.Caret) l c refl cor) refl begins all fit refl (λ p e. true-false p) refl
pointer (b ∷ w) ks fit all root c st m fs rest begins awaits cor tl quiet = cc

pub indexes : IsFound kind.Indexes
indexes [] Nil fit all root c st m fs rest begins awaits cor tl quiet = cc
indexes [] (Cons i v ns is ts) fit all root c st m fs rest begins awaits cor tl quiet =
    let l = Kid class.Ordinal ∷ further (Some lexeme.Comma) class.Ordinal (count ts) [] in
    let n = Kid class.Ordinal ∷ [] in
    let ks = Cons i v ns is ts in
    let e : c ≡ class.Indexes = only_at kind.Indexes class.Indexes c refl cor in
    let behind : ends_ordinal (look rest) ≡ true = at_whenever ends_indexes ends_ordinal (look rest) refl tl in
    predicted root kind.Indexes [] ks l n c st fs rest refl (rw e refl) refl begins all fit
    (okay_of l [] ks rest fit (inner_further lexeme.Comma class.Ordinal (count ts) [] (look rest) refl refl behind) (λ p h. true-false (sym (plain_further (Some lexeme.Comma) class.Ordinal (count ts) [] refl) ∙ p)))
    (refl, tracks_open kind.Indexes lexeme.Comma class.Ordinal (count ts) refl) (at_whenever ends_indexes (halts kind.Indexes) (look rest) refl tl)
indexes (b ∷ w) ks fit all root c st m fs rest begins awaits cor tl quiet = cc

pub csign : IsFound kind.Csign
csign w ks fit all root c st m fs rest begins awaits cor tl quiet =
    let a = around_fits (operator signs w) [] (Kid class.Bare ∷ []) (kinds ks) fit in
    let x = a.0 in
    let l = Kid class.Bare ∷ [] in
    let found = operator_found signs w x a.1 in
    let made : layout kind.Csign w (count ks) ≡ Some (Literal x ∷ l) = ap (λ o. around o [] (Kid class.Bare ∷ [])) a.1 in
    let test : opens_from kind.Csign kind.Csign (spelling_of x) (Some x) l ≡ true = at_whenever (among_at signs) (λ y. opens_from kind.Csign kind.Csign (spelling_at y) y l) (Some x) refl found.1 in
    let at_op : start c (Some x) ≡ Open kind.Csign (spelling_of x) l = opens_at kind.Csign kind.Csign (spelling_of x) (Some x) l c test cor in
    let here : start c (Some x) ≡ Open kind.Csign w l = at_op ∙ ap (λ u. Open kind.Csign u l) (sym found.0) in
    straight root kind.Csign w ks x l c st fs rest made here refl begins all a.2 refl (λ p e. true-false p) refl

pub constdef : IsFound kind.Constdef
constdef [] Nil fit all root c st m fs rest begins awaits cor tl quiet = cc
constdef [] (Cons i v ns is ts) fit all root c st m fs rest begins awaits cor tl quiet =
    let l = Kid class.Constant ∷ Literal lexeme.Semicolon ∷ [] in
    let fit2 = &&_split _ _ fit in
    led root kind.Constdef [] i v ns is ts class.Name lexeme.Equal l c st m fs rest refl (grows_at kind.Constdef [] class.Name (Some lexeme.Equal) l c i refl cor (&&_join _ _ fit2.0 all.0)) refl refl begins awaits all fit2.1 refl refl refl
constdef (b ∷ w) ks fit all root c st m fs rest begins awaits cor tl quiet = cc

pub typedef : IsFound kind.Typedef
typedef [] Nil fit all root c st m fs rest begins awaits cor tl quiet = cc
typedef [] (Cons i v ns is ts) fit all root c st m fs rest begins awaits cor tl quiet =
    let l = Kid class.Denoter ∷ Literal lexeme.Semicolon ∷ [] in
    let fit2 = &&_split _ _ fit in
    led root kind.Typedef [] i v ns is ts class.Name lexeme.Equal l c st m fs rest refl (grows_at kind.Typedef [] class.Name (Some lexeme.Equal) l c i refl cor (&&_join _ _ fit2.0 all.0)) refl refl begins awaits all fit2.1 refl refl refl
typedef (b ∷ w) ks fit all root c st m fs rest begins awaits cor tl quiet = cc

pub consts : IsFound kind.Consts
consts [] Nil fit all root c st m fs rest begins awaits cor tl quiet =
    let e : c ≡ class.Consts = only_at kind.Consts class.Consts c refl cor in
    let opening : start c (look rest) ≡ Blank kind.Consts = rw e (blank_to_eq _ _ (at_whenever ends_consts (λ x. blank_to (start class.Consts x) kind.Consts) (look rest) refl tl)) in
    blank root kind.Consts c st fs rest opening begins
consts [] (Cons i v ns is ts) fit all root c st m fs rest begins awaits cor tl quiet =
    let l = Kid class.Constdef ∷ further None class.Constdef (count ts) [] in
    let n = Kid class.Constdef ∷ [] in
    let ks = Cons i v ns is ts in
    opened root kind.Consts [] ks lexeme.KeyConst l kind.Consts n c st fs rest refl (opens_at kind.Consts kind.Consts [] (Some lexeme.KeyConst) n c refl cor) begins all fit
    (okay_of l [] ks rest fit (inner_consts (count ts) (look rest)) (λ p e. true-false (sym (plain_further None class.Constdef (count ts) [] refl) ∙ p)))
    (refl, tracks_consts (count ts)) (at_whenever ends_consts (halts kind.Consts) (look rest) refl tl)
  where
    inner_consts : (n : ℕ) (x : Option Lexeme) → inner (Kid class.Constdef ∷ further None class.Constdef n []) x ≡ true
    inner_consts zero x = refl
    inner_consts (suc n) x = inner_consts n x

    tracks_consts : (n : ℕ) → Tracks kind.Consts [] (further None class.Constdef n []) kind.Consts []
    tracks_consts zero = (refl, refl)
    tracks_consts (suc n) = (refl, tracks_consts n)
consts (b ∷ w) ks fit all root c st m fs rest begins awaits cor tl quiet = cc

pub types : IsFound kind.Types
types [] Nil fit all root c st m fs rest begins awaits cor tl quiet =
    let e : c ≡ class.Types = only_at kind.Types class.Types c refl cor in
    let opening : start c (look rest) ≡ Blank kind.Types = rw e (blank_to_eq _ _ (at_whenever ends_types (λ x. blank_to (start class.Types x) kind.Types) (look rest) refl tl)) in
    blank root kind.Types c st fs rest opening begins
types [] (Cons i v ns is ts) fit all root c st m fs rest begins awaits cor tl quiet =
    let l = Kid class.Typedef ∷ further None class.Typedef (count ts) [] in
    let n = Kid class.Typedef ∷ [] in
    let ks = Cons i v ns is ts in
    opened root kind.Types [] ks lexeme.KeyType l kind.Types n c st fs rest refl (opens_at kind.Types kind.Types [] (Some lexeme.KeyType) n c refl cor) begins all fit
    (okay_of l [] ks rest fit (inner_types (count ts) (look rest)) (λ p e. true-false (sym (plain_further None class.Typedef (count ts) [] refl) ∙ p)))
    (refl, tracks_types (count ts)) (at_whenever ends_types (halts kind.Types) (look rest) refl tl)
  where
    inner_types : (n : ℕ) (x : Option Lexeme) → inner (Kid class.Typedef ∷ further None class.Typedef n []) x ≡ true
    inner_types zero x = refl
    inner_types (suc n) x = inner_types n x

    tracks_types : (n : ℕ) → Tracks kind.Types [] (further None class.Typedef n []) kind.Types []
    tracks_types zero = (refl, refl)
    tracks_types (suc n) = (refl, tracks_types n)
types (b ∷ w) ks fit all root c st m fs rest begins awaits cor tl quiet = cc

pub vars : IsFound kind.Vars
vars [] Nil fit all root c st m fs rest begins awaits cor tl quiet =
    let e : c ≡ class.Vars = only_at kind.Vars class.Vars c refl cor in
    let opening : start c (look rest) ≡ Blank kind.Vars = rw e (blank_to_eq _ _ (at_whenever ends_vars (λ x. blank_to (start class.Vars x) kind.Vars) (look rest) refl tl)) in
    blank root kind.Vars c st fs rest opening begins
vars [] (Cons i v ns is ts) fit all root c st m fs rest begins awaits cor tl quiet =
    let l = Kid class.Vardef ∷ further None class.Vardef (count ts) [] in
    let n = Kid class.Vardef ∷ [] in
    let ks = Cons i v ns is ts in
    opened root kind.Vars [] ks lexeme.KeyVar l kind.Vars n c st fs rest refl (opens_at kind.Vars kind.Vars [] (Some lexeme.KeyVar) n c refl cor) begins all fit
    (okay_of l [] ks rest fit (inner_vars (count ts) (look rest)) (λ p e. true-false (sym (plain_further None class.Vardef (count ts) [] refl) ∙ p)))
    (refl, tracks_vars (count ts)) (at_whenever ends_vars (halts kind.Vars) (look rest) refl tl)
  where
    inner_vars : (n : ℕ) (x : Option Lexeme) → inner (Kid class.Vardef ∷ further None class.Vardef n []) x ≡ true
    inner_vars zero x = refl
    inner_vars (suc n) x = inner_vars n x

    tracks_vars : (n : ℕ) → Tracks kind.Vars [] (further None class.Vardef n []) kind.Vars []
    tracks_vars zero = (refl, refl)
    tracks_vars (suc n) = (refl, tracks_vars n)
vars (b ∷ w) ks fit all root c st m fs rest begins awaits cor tl quiet = cc

pub vardef : IsFound kind.Vardef
vardef [] ks fit all root c st m fs rest begins awaits cor tl quiet =
    let l = Kid class.Names ∷ Literal lexeme.Colon ∷ Kid class.Denoter ∷ Literal lexeme.Semicolon ∷ [] in
    let e : c ≡ class.Vardef = only_at kind.Vardef class.Vardef c refl cor in
    let x = look (symbols kind.Vardef [] ks ++ rest) in
    let begun : begins_name x ≡ true = front kind.Vardef [] ks fit all rest in
    let opening : start class.Vardef x ≡ Predict kind.Vardef l = predicts_to_eq _ _ _ (at_whenever begins_name (λ y. predicts_to (start class.Vardef y) kind.Vardef l) x refl begun) in
    predicted root kind.Vardef [] ks l l c st fs rest refl (ap (λ b. start b x) e ∙ opening) refl begins all fit (okay_of l [] ks rest fit refl (λ p h. true-false p)) (tracks_self kind.Vardef l refl) refl
vardef (b ∷ w) ks fit all root c st m fs rest begins awaits cor tl quiet = cc

abbrev block_items : List Item
block_items = Kid class.Consts ∷ Kid class.Types ∷ Kid class.Vars ∷ Kid class.Routines ∷ Kid class.Body ∷ []

-- what a block without definitions of constants, types and variables may begin with
abbrev may_route : Option Lexeme → Bool
may_route x = begins_routine x || begins_body x

-- the same, or with variables first
abbrev may_begin : Option Lexeme → Bool
may_begin x = same_look x (Some lexeme.KeyVar) || may_route x

-- the same, or with definitions of types first
abbrev may_type : Option Lexeme → Bool
may_type x = same_look x (Some lexeme.KeyType) || may_begin x

-- the same, or with definitions of constants first
abbrev may_start : Option Lexeme → Bool
may_start x = same_look x (Some lexeme.KeyConst) || may_type x

either_or : (q p : Option Lexeme → Bool) (x y : Option Lexeme) → q y ≡ true → p x || same_look x y ≡ true → p x || q x ≡ true
either_or q p x y b h = go (or_split (p x) (same_look x y) h)
  where
    go : (p x ≡ true) ⊎ (same_look x y ≡ true) → p x || q x ≡ true
    go (inl e) = or_left (p x) (q x) e
    go (inr e) = or_right (p x) (q x) (ap q (same_look_eq x y e) ∙ b)

-- the first of the symbols of a kid of a class that has one kind
pub first_of_kid : (d : Class) (k i : Kind) (v : List ℕ) (is : Forest) (l : List Item) (ts : Forest) (rest : List Sym) → i ≡ k → Front i v is
    → first k (look (fill l [] (texts ts) ++ rest)) (look ((symbols i v is ++ fill l [] (texts ts)) ++ rest)) ≡ true
first_of_kid d k i v is l ts rest e begins =
    ap (λ o. first o (look (fill l [] (texts ts) ++ rest)) (look ((symbols i v is ++ fill l [] (texts ts)) ++ rest))) (sym e) ∙ kid_first i v is l [] ts rest begins

pub block : IsFound kind.Block
block [] Nil fit all root c st m fs rest begins awaits cor tl quiet = cc
block [] (Cons k1 w1 n1 f1 Nil) fit all root c st m fs rest begins awaits cor tl quiet =
    let s1 = &&_split (has class.Consts k1) _ fit in
    true-false (sym s1.1)
block [] (Cons k1 w1 n1 f1 (Cons k2 w2 n2 f2 Nil)) fit all root c st m fs rest begins awaits cor tl quiet =
    let s1 = &&_split (has class.Consts k1) _ fit in
    let s2 = &&_split (has class.Types k2) _ s1.1 in
    true-false (sym s2.1)
block [] (Cons k1 w1 n1 f1 (Cons k2 w2 n2 f2 (Cons k3 w3 n3 f3 Nil))) fit all root c st m fs rest begins awaits cor tl quiet =
    let s1 = &&_split (has class.Consts k1) _ fit in
    let s2 = &&_split (has class.Types k2) _ s1.1 in
    let s3 = &&_split (has class.Vars k3) _ s2.1 in
    true-false (sym s3.1)
block [] (Cons k1 w1 n1 f1 (Cons k2 w2 n2 f2 (Cons k3 w3 n3 f3 (Cons k4 w4 n4 f4 Nil)))) fit all root c st m fs rest begins awaits cor tl quiet =
    let s1 = &&_split (has class.Consts k1) _ fit in
    let s2 = &&_split (has class.Types k2) _ s1.1 in
    let s3 = &&_split (has class.Vars k3) _ s2.1 in
    let s4 = &&_split (has class.Routines k4) _ s3.1 in
    true-false (sym s4.1)
block [] (Cons k1 w1 n1 f1 (Cons k2 w2 n2 f2 (Cons k3 w3 n3 f3 (Cons k4 w4 n4 f4 (Cons k5 w5 n5 f5 ts))))) fit all root c st m fs rest begins awaits cor tl quiet =
    let t5 = Cons k5 w5 n5 f5 ts in
    let t4 = Cons k4 w4 n4 f4 t5 in
    let t3 = Cons k3 w3 n3 f3 t4 in
    let t2 = Cons k2 w2 n2 f2 t3 in
    let t1 = Cons k1 w1 n1 f1 t2 in
    let l5 = Kid class.Body ∷ [] in
    let l4 = Kid class.Routines ∷ l5 in
    let l3 = Kid class.Vars ∷ l4 in
    let l2 = Kid class.Types ∷ l3 in
    let x5 = look (fill l5 [] (texts t5) ++ rest) in
    let x4 = look (fill l4 [] (texts t4) ++ rest) in
    let x3 = look (fill l3 [] (texts t3) ++ rest) in
    let x2 = look (fill l2 [] (texts t2) ++ rest) in
    let x1 = look (fill block_items [] (texts t1) ++ rest) in
    let s1 = &&_split _ _ fit in
    let s2 = &&_split _ _ s1.1 in
    let s3 = &&_split _ _ s2.1 in
    let s4 = &&_split _ _ s3.1 in
    let s5 = &&_split _ _ s4.1 in
    let a2 = all.4 in
    let a3 = a2.4 in
    let a4 = a3.4 in
    let a5 = a4.4 in
    let h5 : begins_body x5 ≡ true = body_begins k5 (look (fill [] [] (texts ts) ++ rest)) x5 (&&_join _ _ s5.0 a5.0) (kid_first k5 w5 f5 [] [] ts rest a5.2) in
    let h4 : begins_routine x4 || same_look x4 x5 ≡ true = first_of_kid class.Routines kind.Routines k4 w4 f4 l5 t5 rest (one_at class.Routines kind.Routines k4 refl (&&_join _ _ s4.0 a4.0)) a4.2 in
    let h3 : same_look x3 (Some lexeme.KeyVar) || same_look x3 x4 ≡ true = first_of_kid class.Vars kind.Vars k3 w3 f3 l4 t4 rest (one_at class.Vars kind.Vars k3 refl (&&_join _ _ s3.0 a3.0)) a3.2 in
    let h2 : same_look x2 (Some lexeme.KeyType) || same_look x2 x3 ≡ true = first_of_kid class.Types kind.Types k2 w2 f2 l3 t3 rest (one_at class.Types kind.Types k2 refl (&&_join _ _ s2.0 a2.0)) a2.2 in
    let h1 : same_look x1 (Some lexeme.KeyConst) || same_look x1 x2 ≡ true = first_of_kid class.Consts kind.Consts k1 w1 f1 l2 t2 rest (one_at class.Consts kind.Consts k1 refl (&&_join _ _ s1.0 all.0)) all.2 in
    let e : c ≡ class.Block = only_at kind.Block class.Block c refl cor in
    let may4 : may_route x4 ≡ true = either_or begins_body begins_routine x4 x5 h5 h4 in
    let may3 : may_begin x3 ≡ true = either_or may_route (λ x. same_look x (Some lexeme.KeyVar)) x3 x4 may4 h3 in
    let may2 : may_type x2 ≡ true = either_or may_begin (λ x. same_look x (Some lexeme.KeyType)) x2 x3 may3 h2 in
    let may1 : may_start x1 ≡ true = either_or may_type (λ x. same_look x (Some lexeme.KeyConst)) x1 x2 may2 h1 in
    let consts_follow : follow class.Consts x2 ≡ true = at_whenever may_type (follow class.Consts) x2 refl may2 in
    let types_follow : follow class.Types x3 ≡ true = at_whenever may_begin (follow class.Types) x3 refl may3 in
    let opening : start class.Block x1 ≡ Predict kind.Block block_items = predicts_to_eq _ _ _ (at_whenever may_start (λ x. predicts_to (start class.Block x) kind.Block block_items) x1 refl may1) in
    let here : start c x1 ≡ Predict kind.Block block_items = ap (λ b. start b x1) e ∙ opening in
    let vars_follow : follow class.Vars x4 ≡ true = at_whenever may_route (follow class.Vars) x4 refl may4 in
    let routines_follow : follow class.Routines x5 ≡ true = at_whenever begins_body (follow class.Routines) x5 refl h5 in
    let okay : Okay block_items [] t1 rest = (
      consts_follow,
      quiet_plain class.Consts k1 f1 x2 s1.0 refl,
      (
        types_follow,
        quiet_plain class.Types k2 f2 x3 s2.0 refl,
        (
          vars_follow,
          quiet_plain class.Vars k3 f3 x4 s3.0 refl,
          (
            routines_follow,
            quiet_plain class.Routines k4 f4 x5 s4.0 refl,
            okay_of l5 [] t5 rest s4.1 refl (λ p h. true-false p),
          ),
        ),
      ),
    ) in
    predicted root kind.Block [] t1 block_items block_items c st fs rest refl here refl begins all fit okay (tracks_self kind.Block block_items refl) refl
block (b ∷ w) ks fit all root c st m fs rest begins awaits cor tl quiet = cc
