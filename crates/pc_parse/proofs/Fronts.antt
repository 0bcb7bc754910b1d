-- What the nodes of some kinds begin with.
use Rattle.std.proofs.Common.{◌≡◌, ℕ, Bool, true, false, ◌&&◌, List, [], ◌∷◌, ◌++◌, Option, Some, None, refl, ap, sym, ◌∙◌, append_assoc}
use Rattle.pc_syntax.specs.declared.lexeme.Lexeme.{Lexeme}
use Rattle.pc_syntax.specs.declared.lexeme.Lexeme.TheVariants as lexeme
use Rattle.pc_syntax.specs.declared.kind.Kind.{Kind}
use Rattle.pc_syntax.specs.declared.kind.Kind.TheVariants as kind
use Rattle.pc_syntax.specs.declared.sort.Sort.{Sort}
use Rattle.pc_syntax.specs.declared.sort.Sort.TheVariants as sort
use Rattle.pc_syntax.specs.declared.class.Class.{Class}
use Rattle.pc_syntax.specs.declared.class.Class.TheVariants as class
use Rattle.pc_syntax.specs.declared.item.Item.{Item}
use Rattle.pc_syntax.specs.declared.item.Item.TheVariants.{Literal, Kid}
use Rattle.pc_syntax.specs.Plain.{Forest, Nil, Cons, count, kinds}
use Rattle.pc_syntax.specs.Classes.{has}
use Rattle.pc_syntax.specs.Layout.{layout, operator, around, spelled, further}
use Rattle.pc_syntax.specs.Symbols.{Sym, fill, texts, symbols}
use Rattle.pc_syntax.specs.Words.{is_identifier, is_numeral, is_text}
use Rattle.pc_syntax.specs.WellFormed.{fits, fits_some}
use Rattle.pc_parse.specs.Lookahead.{look}
use Rattle.pc_parse.proofs.Entries.{each, implies, implies_true, &&_split, &&_join, all_kinds, at_kind}
use Rattle.pc_parse.proofs.Follows.{known}
use Rattle.pc_parse.proofs.TableTests.{same_look, same_look_refl, or_left, or_right, one_at, among_at, operator_found, at_whenever}
use Rattle.pc_parse.proofs.Simulates.{Front, AllRead, first, is_in_set, begins_name, begins_body, begins_routine, begins_constant}

-- a leaf's word passes its test, and a leaf has no kids
pub leaf_fits : (b : Bool) (x : Lexeme) (ks : List Kind) → fits_some (spelled b x) ks ≡ true → (b ≡ true) × (ks ≡ [])
leaf_fits true x [] h = (refl, refl)
leaf_fits true x (k ∷ ks) h = cc
leaf_fits false x ks h = cc

-- a node around an operator has one
pub around_fits : (o : Option Lexeme) (before behind : List Item) (ks : List Kind) → fits_some (around o before behind) ks ≡ true
    → (x : Lexeme) × (o ≡ Some x) × (fits (before ++ Literal x ∷ behind) ks ≡ true)
around_fits None before behind ks h = cc
around_fits (Some x) before behind ks h = (x, refl, h)

-- what is asked of each kind
abbrev pub IsFront : Kind → Type 0
IsFront k = (w : List ℕ) (ks : Forest) → fits_some (layout k w (count ks)) (kinds ks) ≡ true → AllRead ks → Front k w ks

-- the first symbol of a kid and what follows it
pub kid_first : (i : Kind) (v : List ℕ) (is : Forest) (l : List Item) (w : List ℕ) (ts : Forest) (rest : List Sym) → Front i v is
    → first i (look (fill l w (texts ts) ++ rest)) (look ((symbols i v is ++ fill l w (texts ts)) ++ rest)) ≡ true
kid_first i v is l w ts rest front = rw (append_assoc (symbols i v is) (fill l w (texts ts)) rest) (front (fill l w (texts ts) ++ rest))

-- what an expression or a range begins with
pub member_first : (i : Kind) (s x : Option Lexeme) → has class.Member i && known i ≡ true → first i s x ≡ true → is_in_set x ≡ true
member_first kind.Ref s x h e = e
member_first (kind.Hole sort.Expression) s x h e = at_whenever (λ y. same_look y (Some (lexeme.Hole sort.Expression))) is_in_set x refl e
member_first (kind.Hole _) s x h e = cc
member_first _ s x h e = cc

-- a node whose first kid is an expression or a range
pub begins_with : (d : Class) (i : Kind) (v : List ℕ) (is : Forest) (l : List Item) (w : List ℕ) (ts : Forest) (rest : List Sym)
    → has d i && known i ≡ true → each (λ j. implies (has d j && known j) (has class.Member j && known j)) all_kinds ≡ true → Front i v is
    → is_in_set (look ((symbols i v is ++ fill l w (texts ts)) ++ rest)) ≡ true
begins_with d i v is l w ts rest member test begins =
    member_first i (look (fill l w (texts ts) ++ rest)) (look ((symbols i v is ++ fill l w (texts ts)) ++ rest))
    (implies_true _ _ (at_kind (λ j. implies (has d j && known j) (has class.Member j && known j)) i test) member) (kid_first i v is l w ts rest begins)

-- what is true of names and their hole is true of each known kind of name
pub by_name : (P : Kind → Type 0) → P kind.Name → P (kind.Hole sort.Name) → (i : Kind) → has class.Name i && known i ≡ true → P i
by_name P a b kind.Name h = a
by_name P a b (kind.Hole sort.Name) h = b
by_name P a b (kind.Hole _) h = cc
by_name P a b _ h = cc

-- the same of the body of a block
pub by_body : (P : Kind → Type 0) → P kind.Compound → P (kind.Hole sort.Statement) → (i : Kind) → has class.Body i && known i ≡ true → P i
by_body P a b kind.Compound h = a
by_body P a b (kind.Hole sort.Statement) h = b
by_body P a b (kind.Hole _) h = cc
by_body P a b _ h = cc

name_begins : (i : Kind) (s x : Option Lexeme) → has class.Name i && known i ≡ true → first i s x ≡ true → begins_name x ≡ true
name_begins i s x =
    by_name (λ k. first k s x ≡ true → begins_name x ≡ true) (λ f. or_left (same_look x (Some lexeme.Identifier)) (same_look x (Some (lexeme.Hole sort.Name))) f)
    (λ f. or_right (same_look x (Some lexeme.Identifier)) (same_look x (Some (lexeme.Hole sort.Name))) f) i

pub body_begins : (i : Kind) (s x : Option Lexeme) → has class.Body i && known i ≡ true → first i s x ≡ true → begins_body x ≡ true
body_begins i s x =
    by_body (λ k. first k s x ≡ true → begins_body x ≡ true) (λ f. or_left (same_look x (Some lexeme.KeyBegin)) (same_look x (Some (lexeme.Hole sort.Statement))) f)
    (λ f. or_right (same_look x (Some lexeme.KeyBegin)) (same_look x (Some (lexeme.Hole sort.Statement))) f) i

-- what a name begins with isn't the close of a set
name_in_set : (i : Kind) (s x : Option Lexeme) → has class.Name i && known i ≡ true → first i s x ≡ true → is_in_set x ≡ true
name_in_set i s x h e =
    at_whenever begins_name is_in_set x refl (name_begins i s x h e)

name : IsFront kind.Name
name w Nil fit all rest =
    let p = leaf_fits (is_identifier w) lexeme.Identifier [] fit in
    rw p.0 refl
name w (Cons i v ns is ts) fit all rest =
    let p = leaf_fits (is_identifier w) lexeme.Identifier (i ∷ kinds ts) fit in
    let e : i ∷ kinds ts ≡ [] = p.1 in cc

ref : IsFront kind.Ref
ref [] Nil fit all rest = cc
ref [] (Cons i v ns is ts) fit all rest =
    name_in_set i _ _ (&&_join _ _ (&&_split _ _ fit).0 all.0) (kid_first i v is [] [] ts rest all.2)
ref (b ∷ w) ks fit all rest = cc

call : IsFront kind.Call
call [] Nil fit all rest = cc
call [] (Cons i v ns is ts) fit all rest =
    name_in_set i _ _ (&&_join _ _ (&&_split _ _ fit).0 all.0) (kid_first i v is (Literal lexeme.OpenParen ∷ Kid class.Exprs ∷ Literal lexeme.CloseParen ∷ []) [] ts rest all.2)
call (b ∷ w) ks fit all rest = cc

index : IsFront kind.Index
index [] Nil fit all rest = cc
index [] (Cons i v ns is ts) fit all rest =
    begins_with class.Access i v is (Literal lexeme.OpenBracket ∷ Kid class.Exprs ∷ Literal lexeme.CloseBracket ∷ []) [] ts rest (&&_join _ _ (&&_split _ _ fit).0 all.0) refl all.2
index (b ∷ w) ks fit all rest = cc

select : IsFront kind.Select
select [] Nil fit all rest = cc
select [] (Cons i v ns is ts) fit all rest = begins_with class.Access i v is (Literal lexeme.Dot ∷ Kid class.Name ∷ []) [] ts rest (&&_join _ _ (&&_split _ _ fit).0 all.0) refl all.2
select (b ∷ w) ks fit all rest = cc

deref : IsFront kind.Deref
deref [] Nil fit all rest = cc
deref [] (Cons i v ns is ts) fit all rest = begins_with class.Access i v is (Literal lexeme.Caret ∷ []) [] ts rest (&&_join _ _ (&&_split _ _ fit).0 all.0) refl all.2
deref (b ∷ w) ks fit all rest = cc

span : IsFront kind.Span
span [] Nil fit all rest = cc
span [] (Cons i v ns is ts) fit all rest = begins_with class.Expression i v is (Literal lexeme.DotDot ∷ Kid class.Expression ∷ []) [] ts rest (&&_join _ _ (&&_split _ _ fit).0 all.0) refl all.2
span (b ∷ w) ks fit all rest = cc

number : IsFront kind.Number
number w Nil fit all rest =
    let p = leaf_fits (is_numeral w) lexeme.Numeral [] fit in
    rw p.0 refl
number w (Cons i v ns is ts) fit all rest =
    let p = leaf_fits (is_numeral w) lexeme.Numeral (i ∷ kinds ts) fit in
    let e : i ∷ kinds ts ≡ [] = p.1 in cc

text : IsFront kind.Text
text w Nil fit all rest =
    let p = leaf_fits (is_text w) lexeme.Text [] fit in
    rw p.0 refl
text w (Cons i v ns is ts) fit all rest =
    let p = leaf_fits (is_text w) lexeme.Text (i ∷ kinds ts) fit in
    let e : i ∷ kinds ts ≡ [] = p.1 in cc

nil : IsFront kind.Nil
nil [] ks fit all rest = refl
nil (b ∷ w) ks fit all rest = cc

parens : IsFront kind.Parens
parens [] ks fit all rest = refl
parens (b ∷ w) ks fit all rest = cc

negation : IsFront kind.Not
negation [] ks fit all rest = refl
negation (b ∷ w) ks fit all rest = cc

setcon : IsFront kind.Setcon
setcon [] ks fit all rest = refl
setcon (b ∷ w) ks fit all rest = cc

-- a node of an operator between two operands
binary : (k : Kind) (ops : List Lexeme) (d b : Class)
    → ((w : List ℕ) (n : ℕ) → layout k w n ≡ around (operator ops w) (Kid d ∷ []) (Kid b ∷ [])) → each (λ j. implies (has d j && known j) (has class.Member j && known j)) all_kinds ≡ true
    → (w : List ℕ) (ks : Forest) → fits_some (around (operator ops w) (Kid d ∷ []) (Kid b ∷ [])) (kinds ks) ≡ true → AllRead ks
    → (rest : List Sym) → is_in_set (look (symbols k w ks ++ rest)) ≡ true
binary k ops d b lays test w Nil fit all rest =
    let a = around_fits (operator ops w) (Kid d ∷ []) (Kid b ∷ []) [] fit in
    let z : false ≡ true = a.2 in cc
binary k ops d b lays test w (Cons i v ns is ts) fit all rest =
    let a = around_fits (operator ops w) (Kid d ∷ []) (Kid b ∷ []) (i ∷ kinds ts) fit in
    let l = Literal a.0 ∷ Kid b ∷ [] in
    let made : layout k w (count (Cons i v ns is ts)) ≡ Some (Kid d ∷ l) = lays w (count (Cons i v ns is ts)) ∙ ap (λ o. around o (Kid d ∷ []) (Kid b ∷ [])) a.1 in
    rw made (begins_with d i v is l w ts rest (&&_join _ _ (&&_split _ _ a.2).0 all.0) test all.2)

mul : IsFront kind.Mul
mul w ks fit all = binary kind.Mul (lexeme.Star ∷ lexeme.KeyDiv ∷ lexeme.KeyMod ∷ lexeme.KeyAnd ∷ []) class.Term class.Factor (λ v n. refl) refl w ks fit all

add : IsFront kind.Add
add w ks fit all = binary kind.Add (lexeme.Plus ∷ lexeme.Minus ∷ lexeme.KeyOr ∷ []) class.Simple class.Term (λ v n. refl) refl w ks fit all

rel : IsFront kind.Rel
rel w ks fit all = binary kind.Rel (lexeme.Equal ∷ lexeme.Unequal ∷ lexeme.Less ∷ lexeme.Greater ∷ lexeme.AtMost ∷ lexeme.AtLeast ∷ lexeme.KeyIn ∷ []) class.Simple class.Simple (λ v n. refl) refl w ks fit all

abbrev pub signs : List Lexeme
signs = lexeme.Plus ∷ lexeme.Minus ∷ []

sign : IsFront kind.Sign
sign w ks fit all rest =
    let a = around_fits (operator signs w) [] (Kid class.Term ∷ []) (kinds ks) fit in
    let found = operator_found signs w a.0 a.1 in
    let made : layout kind.Sign w (count ks) ≡ Some (Literal a.0 ∷ Kid class.Term ∷ []) = ap (λ o. around o [] (Kid class.Term ∷ [])) a.1 in
    let begun : is_in_set (Some a.0) ≡ true = at_whenever (among_at signs) is_in_set (Some a.0) refl found.1 in
    rw made begun

names : IsFront kind.Names
names [] Nil fit all rest = cc
names [] (Cons i v ns is ts) fit all rest =
    let l = further (Some lexeme.Comma) class.Name (count ts) [] in
    name_begins i (look (fill l [] (texts ts) ++ rest)) (look ((symbols i v is ++ fill l [] (texts ts)) ++ rest)) (&&_join _ _ (&&_split _ _ fit).0 all.0) (kid_first i v is l [] ts rest all.2)
names (b ∷ w) ks fit all rest = cc

vardef : IsFront kind.Vardef
vardef [] Nil fit all rest = cc
vardef [] (Cons i v ns is ts) fit all rest =
    let l = Literal lexeme.Colon ∷ Kid class.Denoter ∷ Literal lexeme.Semicolon ∷ [] in
    let e : i ≡ kind.Names = one_at class.Names kind.Names i refl (&&_join _ _ (&&_split _ _ fit).0 all.0) in
    ap (λ o. first o (look (fill l [] (texts ts) ++ rest)) (look ((symbols i v is ++ fill l [] (texts ts)) ++ rest))) (sym e) ∙ kid_first i v is l [] ts rest all.2
vardef (b ∷ w) ks fit all rest = cc

field : IsFront kind.Field
field [] Nil fit all rest = cc
field [] (Cons i v ns is ts) fit all rest =
    let l = Literal lexeme.Colon ∷ Kid class.Denoter ∷ [] in
    let e : i ≡ kind.Names = one_at class.Names kind.Names i refl (&&_join _ _ (&&_split _ _ fit).0 all.0) in
    ap (λ o. first o (look (fill l [] (texts ts) ++ rest)) (look ((symbols i v is ++ fill l [] (texts ts)) ++ rest))) (sym e) ∙ kid_first i v is l [] ts rest all.2
field (b ∷ w) ks fit all rest = cc

compound : IsFront kind.Compound
compound [] ks fit all rest = refl
compound (b ∷ w) ks fit all rest = cc

vars : IsFront kind.Vars
vars [] Nil fit all rest = or_right (same_look (look rest) (Some lexeme.KeyVar)) (same_look (look rest) (look rest)) (same_look_refl (look rest))
vars [] (Cons i v ns is ts) fit all rest = refl
vars (b ∷ w) ks fit all rest = cc

args : IsFront kind.Args
args [] Nil fit all rest = or_right (same_look (look rest) (Some lexeme.OpenParen)) (same_look (look rest) (look rest)) (same_look_refl (look rest))
args [] (Cons i v ns is ts) fit all rest = refl
args (b ∷ w) ks fit all rest = cc

consts : IsFront kind.Consts
consts [] Nil fit all rest = or_right (same_look (look rest) (Some lexeme.KeyConst)) (same_look (look rest) (look rest)) (same_look_refl (look rest))
consts [] (Cons i v ns is ts) fit all rest = refl
consts (b ∷ w) ks fit all rest = cc

constdef : IsFront kind.Constdef
constdef [] Nil fit all rest = cc
constdef [] (Cons i v ns is ts) fit all rest =
    let l = Literal lexeme.Equal ∷ Kid class.Constant ∷ Literal lexeme.Semicolon ∷ [] in
    name_begins i (look (fill l [] (texts ts) ++ rest)) (look ((symbols i v is ++ fill l [] (texts ts)) ++ rest)) (&&_join _ _ (&&_split _ _ fit).0 all.0) (kid_first i v is l [] ts rest all.2)
constdef (b ∷ w) ks fit all rest = cc

types : IsFront kind.Types
types [] Nil fit all rest = or_right (same_look (look rest) (Some lexeme.KeyType)) (same_look (look rest) (look rest)) (same_look_refl (look rest))
types [] (Cons i v ns is ts) fit all rest = refl
types (b ∷ w) ks fit all rest = cc

typedef : IsFront kind.Typedef
typedef [] Nil fit all rest = cc
typedef [] (Cons i v ns is ts) fit all rest =
    let l = Literal lexeme.Equal ∷ Kid class.Denoter ∷ Literal lexeme.Semicolon ∷ [] in
    name_begins i (look (fill l [] (texts ts) ++ rest)) (look ((symbols i v is ++ fill l [] (texts ts)) ++ rest)) (&&_join _ _ (&&_split _ _ fit).0 all.0) (kid_first i v is l [] ts rest all.2)
typedef (b ∷ w) ks fit all rest = cc

cnumber : IsFront kind.Cnumber
cnumber w Nil fit all rest =
    let p = leaf_fits (is_numeral w) lexeme.Numeral [] fit in
    rw p.0 refl
cnumber w (Cons i v ns is ts) fit all rest =
    let p = leaf_fits (is_numeral w) lexeme.Numeral (i ∷ kinds ts) fit in
    let e : i ∷ kinds ts ≡ [] = p.1 in cc

cstring : IsFront kind.Cstring
cstring w Nil fit all rest =
    let p = leaf_fits (is_text w) lexeme.Text [] fit in
    rw p.0 refl
cstring w (Cons i v ns is ts) fit all rest =
    let p = leaf_fits (is_text w) lexeme.Text (i ∷ kinds ts) fit in
    let e : i ∷ kinds ts ≡ [] = p.1 in cc

cname : IsFront kind.Cname
cname [] Nil fit all rest = cc
cname [] (Cons i v ns is ts) fit all rest =
    at_whenever begins_name begins_constant (look ((symbols i v is ++ fill [] [] (texts ts)) ++ rest)) refl
    (name_begins i (look (fill [] [] (texts ts) ++ rest)) (look ((symbols i v is ++ fill [] [] (texts ts)) ++ rest)) (&&_join _ _ (&&_split _ _ fit).0 all.0) (kid_first i v is [] [] ts rest all.2))
cname (b ∷ w) ks fit all rest = cc

csign : IsFront kind.Csign
csign w ks fit all rest =
    let a = around_fits (operator signs w) [] (Kid class.Bare ∷ []) (kinds ks) fit in
    let found = operator_found signs w a.0 a.1 in
    let made : layout kind.Csign w (count ks) ≡ Some (Literal a.0 ∷ Kid class.Bare ∷ []) = ap (λ o. around o [] (Kid class.Bare ∷ [])) a.1 in
    let begun : begins_constant (Some a.0) ≡ true = at_whenever (among_at signs) begins_constant (Some a.0) refl found.1 in
    rw made begun

-- what a constant begins with
constant_first : (i : Kind) (s x : Option Lexeme) → has class.Constant i && known i ≡ true → first i s x ≡ true → begins_constant x ≡ true
constant_first kind.Cnumber s x h e = e
constant_first (kind.Hole sort.Constant) s x h e = at_whenever (λ y. same_look y (Some (lexeme.Hole sort.Constant))) begins_constant x refl e
constant_first (kind.Hole _) s x h e = cc
constant_first _ s x h e = cc

labels : IsFront kind.Labels
labels [] Nil fit all rest = cc
labels [] (Cons i v ns is ts) fit all rest =
    let l = further (Some lexeme.Comma) class.Constant (count ts) [] in
    constant_first i (look (fill l [] (texts ts) ++ rest)) (look ((symbols i v is ++ fill l [] (texts ts)) ++ rest)) (&&_join _ _ (&&_split _ _ fit).0 all.0) (kid_first i v is l [] ts rest all.2)
labels (b ∷ w) ks fit all rest = cc

params : IsFront kind.Params
params [] Nil fit all rest = or_right (same_look (look rest) (Some lexeme.OpenParen)) (same_look (look rest) (look rest)) (same_look_refl (look rest))
params [] (Cons i v ns is ts) fit all rest = refl
params (b ∷ w) ks fit all rest = cc

valparam : IsFront kind.Valparam
valparam [] Nil fit all rest = cc
valparam [] (Cons i v ns is ts) fit all rest =
    let l = Literal lexeme.Colon ∷ Kid class.Name ∷ [] in
    let e : i ≡ kind.Names = one_at class.Names kind.Names i refl (&&_join _ _ (&&_split _ _ fit).0 all.0) in
    ap (λ o. first o (look (fill l [] (texts ts) ++ rest)) (look ((symbols i v is ++ fill l [] (texts ts)) ++ rest))) (sym e) ∙ kid_first i v is l [] ts rest all.2
valparam (b ∷ w) ks fit all rest = cc

procedure : IsFront kind.Procedure
procedure [] ks fit all rest = refl
procedure (b ∷ w) ks fit all rest = cc

function : IsFront kind.Function
function [] ks fit all rest = refl
function (b ∷ w) ks fit all rest = cc

funbody : IsFront kind.Funbody
funbody [] ks fit all rest = refl
funbody (b ∷ w) ks fit all rest = cc

-- what a procedure or a function begins with
pub routine_begins : (i : Kind) (s x : Option Lexeme) → has class.Routine i && known i ≡ true → first i s x ≡ true → begins_routine x ≡ true
routine_begins kind.Procedure s x h e = at_whenever (λ y. same_look y (Some lexeme.KeyProcedure)) begins_routine x refl e
routine_begins kind.Function s x h e = at_whenever (λ y. same_look y (Some lexeme.KeyFunction)) begins_routine x refl e
routine_begins kind.Funbody s x h e = at_whenever (λ y. same_look y (Some lexeme.KeyFunction)) begins_routine x refl e
routine_begins (kind.Hole sort.Routine) s x h e = at_whenever (λ y. same_look y (Some (lexeme.Hole sort.Routine))) begins_routine x refl e
routine_begins (kind.Hole _) s x h e = cc
routine_begins _ s x h e = cc

-- what a list of them begins with
pub routines_begin : (i : Kind) (v : List ℕ) (is ts : Forest) (rest : List Sym) → has class.Routine i && known i ≡ true → Front i v is
    → begins_routine (look ((symbols i v is ++ fill (further None class.Routine (count ts) []) [] (texts ts)) ++ rest)) ≡ true
routines_begin i v is ts rest member begins =
    let l = further None class.Routine (count ts) [] in
    routine_begins i (look (fill l [] (texts ts) ++ rest)) (look ((symbols i v is ++ fill l [] (texts ts)) ++ rest)) member (kid_first i v is l [] ts rest begins)

routines : IsFront kind.Routines
routines [] Nil fit all rest = or_right (begins_routine (look rest)) (same_look (look rest) (look rest)) (same_look_refl (look rest))
routines [] (Cons i v ns is ts) fit all rest =
    let x = look (symbols kind.Routines [] (Cons i v ns is ts) ++ rest) in
    or_left (begins_routine x) (same_look x (look rest)) (routines_begin i v is ts rest (&&_join _ _ (&&_split _ _ fit).0 all.0) all.2)
routines (b ∷ w) ks fit all rest = cc

hole : (r : Sort) → IsFront (kind.Hole r)
hole r [] Nil fit all rest = same_look_refl (Some (lexeme.Hole r))
hole r [] (Cons i v ns is ts) fit all rest = cc
hole r (b ∷ w) ks fit all rest = cc

-- each kind
pub front : (k : Kind) → IsFront k
front kind.Name w ks fit all = name w ks fit all
front kind.Ref w ks fit all = ref w ks fit all
front kind.Index w ks fit all = index w ks fit all
front kind.Select w ks fit all = select w ks fit all
front kind.Deref w ks fit all = deref w ks fit all
front kind.Number w ks fit all = number w ks fit all
front kind.Text w ks fit all = text w ks fit all
front kind.Nil w ks fit all = nil w ks fit all
front kind.Call w ks fit all = call w ks fit all
front kind.Parens w ks fit all = parens w ks fit all
front kind.Not w ks fit all = negation w ks fit all
front kind.Setcon w ks fit all = setcon w ks fit all
front kind.Mul w ks fit all = mul w ks fit all
front kind.Add w ks fit all = add w ks fit all
front kind.Sign w ks fit all = sign w ks fit all
front kind.Rel w ks fit all = rel w ks fit all
front kind.Span w ks fit all = span w ks fit all
front kind.Names w ks fit all = names w ks fit all
front kind.Vardef w ks fit all = vardef w ks fit all
front kind.Field w ks fit all = field w ks fit all
front kind.Compound w ks fit all = compound w ks fit all
front kind.Vars w ks fit all = vars w ks fit all
front kind.Args w ks fit all = args w ks fit all
front kind.Constdef w ks fit all = constdef w ks fit all
front kind.Consts w ks fit all = consts w ks fit all
front kind.Typedef w ks fit all = typedef w ks fit all
front kind.Types w ks fit all = types w ks fit all
front kind.Params w ks fit all = params w ks fit all
front kind.Valparam w ks fit all = valparam w ks fit all
front kind.Procedure w ks fit all = procedure w ks fit all
front kind.Function w ks fit all = function w ks fit all
front kind.Funbody w ks fit all = funbody w ks fit all
front kind.Routines w ks fit all = routines w ks fit all
front kind.Cnumber w ks fit all = cnumber w ks fit all
front kind.Cstring w ks fit all = cstring w ks fit all
front kind.Cname w ks fit all = cname w ks fit all
front kind.Csign w ks fit all = csign w ks fit all
front kind.Labels w ks fit all = labels w ks fit all
front (kind.Hole r) w ks fit all = hole r w ks fit all
front _ w ks fit all = λ rest. refl
