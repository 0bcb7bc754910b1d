-- The nodes of statements are read.
use Rattle.std.proofs.Common.{◌≡◌, ℕ, Bool, true, false, ◌&&◌, ◌||◌, not, List, [], ◌∷◌, ◌++◌, Option, Some, refl, ap, sym, ◌∙◌, append_assoc, append-nil, ◌⊎◌, inl, inr}
use Rattle.pc_syntax.specs.declared.lexeme.Lexeme.{Lexeme}
use Rattle.pc_syntax.specs.declared.lexeme.Lexeme.TheVariants as lexeme
use Rattle.pc_syntax.specs.declared.kind.Kind.{Kind}
use Rattle.pc_syntax.specs.declared.kind.Kind.TheVariants as kind
use Rattle.pc_syntax.specs.declared.sort.Sort.{Sort}
use Rattle.pc_syntax.specs.declared.sort.Sort.TheVariants as sort
use Rattle.pc_syntax.specs.declared.class.Class.TheVariants as class
use Rattle.pc_syntax.specs.declared.item.Item.{Item}
use Rattle.pc_syntax.specs.declared.item.Item.TheVariants.{Literal, Kid}
use Rattle.pc_syntax.specs.Plain.{Forest, Nil, Cons, count, kinds, trees_of}
use Rattle.pc_syntax.specs.Classes.{has}
use Rattle.pc_syntax.specs.Layout.{layout, operator, further}
use Rattle.pc_syntax.specs.Spellings.{spelling_of}
use Rattle.pc_syntax.specs.Symbols.{fill, texts, symbols}
use Rattle.pc_syntax.specs.WellFormed.{fits, fits_some, second_open}
use Rattle.pc_parse.specs.Lookahead.{look}
use Rattle.pc_parse.specs.Tables.{Open, Blank, start, Enter, grow}
use Rattle.pc_parse.specs.Machine.{frame, Reading, Holding}
use Rattle.pc_parse.specs.Runs.{Go, step}
use Rattle.pc_parse.proofs.Entries.{&&_split, &&_join}
use Rattle.pc_parse.proofs.Follows.{known, corner, tail, ends_statement, ends_stmts}
use Rattle.pc_parse.proofs.TableTests.{same_look, same_look_eq, or_left, or_right, grows_at, opens_from, opens_at, operator_found, only_at, one_at, at_whenever, blank_to, blank_to_eq, enters_to, enters_to_eq}
use Rattle.pc_parse.proofs.Simulates.{bare, trees_back, mark, Begins, Found, AllRead, Okay, halts, first, arrive, reads_front, reads_items}
use Rattle.pc_parse.proofs.Leading.{one, onward}
use Rattle.pc_parse.proofs.Nodes.{or_split, last_open_after, true-false, quiet_plain, okay_of, opened, predicted, blank, entered, straight, led, tracks_self, tracks_open, tracks_closed, inner_further, plain_further}
use Rattle.pc_parse.proofs.Fronts.{by_name, around_fits}

-- what is asked of each kind
abbrev pub IsFound : Kind → Type 0
IsFound k = (w : List ℕ) (ks : Forest) → fits_some (layout k w (count ks)) (kinds ks) ≡ true → AllRead ks → Found k w ks

holes_open : (r : Sort) → opens_from (kind.Hole r) (kind.Hole r) [] (Some (lexeme.Hole r)) [] ≡ true
holes_open sort.Program = refl
holes_open _ = refl

pub hole : (r : Sort) → IsFound (kind.Hole r)
hole r [] ks fit all root c st m fs rest begins awaits cor tl quiet =
    straight root (kind.Hole r) [] ks (lexeme.Hole r) [] c st fs rest refl (opens_at (kind.Hole r) (kind.Hole r) [] (Some (lexeme.Hole r)) [] c (holes_open r) cor) refl begins all fit refl (λ p e. true-false p) refl
hole r (b ∷ w) ks fit all root c st m fs rest begins awaits cor tl quiet = cc

pub empty : IsFound kind.Empty
empty [] Nil fit all root c st m fs rest begins awaits cor tl quiet =
    let e : c ≡ class.Statement = only_at kind.Empty class.Statement c refl cor in
    let opening : start c (look rest) ≡ Blank kind.Empty = rw e (blank_to_eq _ _ (at_whenever ends_statement (λ x. blank_to (start class.Statement x) kind.Empty) (look rest) refl tl)) in
    blank root kind.Empty c st fs rest opening begins
empty [] (Cons i v ns is ts) fit all root c st m fs rest begins awaits cor tl quiet = cc
empty (b ∷ w) ks fit all root c st m fs rest begins awaits cor tl quiet = cc

pub compound : IsFound kind.Compound
compound [] ks fit all root c st m fs rest begins awaits cor tl quiet =
    let l = Kid class.Stmts ∷ Literal lexeme.KeyEnd ∷ [] in
    straight root kind.Compound [] ks lexeme.KeyBegin l c st fs rest refl (opens_at kind.Compound kind.Compound [] (Some lexeme.KeyBegin) l c refl cor) refl begins all fit refl (λ p e. true-false p) refl
compound (b ∷ w) ks fit all root c st m fs rest begins awaits cor tl quiet = cc

pub while_loop : IsFound kind.While
while_loop [] ks fit all root c st m fs rest begins awaits cor tl quiet =
    let l = Kid class.Expression ∷ Literal lexeme.KeyDo ∷ Kid class.Statement ∷ [] in
    straight root kind.While [] ks lexeme.KeyWhile l c st fs rest refl (opens_at kind.While kind.While [] (Some lexeme.KeyWhile) l c refl cor) refl begins all fit tl (λ p e. quiet.closed e) refl
while_loop (b ∷ w) ks fit all root c st m fs rest begins awaits cor tl quiet = cc

pub repeat_until : IsFound kind.Repeat
repeat_until [] ks fit all root c st m fs rest begins awaits cor tl quiet =
    let l = Kid class.Stmts ∷ Literal lexeme.KeyUntil ∷ Kid class.Expression ∷ [] in
    straight root kind.Repeat [] ks lexeme.KeyRepeat l c st fs rest refl (opens_at kind.Repeat kind.Repeat [] (Some lexeme.KeyRepeat) l c refl cor) refl begins all fit tl (λ p e. true-false p) refl
repeat_until (b ∷ w) ks fit all root c st m fs rest begins awaits cor tl quiet = cc

pub with_do : IsFound kind.With
with_do [] ks fit all root c st m fs rest begins awaits cor tl quiet =
    let l = Kid class.Accesses ∷ Literal lexeme.KeyDo ∷ Kid class.Statement ∷ [] in
    straight root kind.With [] ks lexeme.KeyWith l c st fs rest refl (opens_at kind.With kind.With [] (Some lexeme.KeyWith) l c refl cor) refl begins all fit tl (λ p e. quiet.closed e) refl
with_do (b ∷ w) ks fit all root c st m fs rest begins awaits cor tl quiet = cc

-- the items of a loop after its first symbol
abbrev loop_items : Lexeme → List Item
loop_items x = Kid class.Name ∷ Literal lexeme.Becomes ∷ Kid class.Expression ∷ Literal x ∷ Kid class.Expression ∷ Literal lexeme.KeyDo ∷ Kid class.Statement ∷ []

for_to : (ks : Forest) → fits (loop_items lexeme.KeyTo) (kinds ks) ≡ true → AllRead ks → Found kind.For (spelling_of lexeme.KeyTo) ks
for_to ks fit all root c st m fs rest begins awaits cor tl quiet =
    let l = loop_items lexeme.KeyTo in
    let up = spelling_of lexeme.KeyTo in
    straight root kind.For up ks lexeme.KeyFor l c st fs rest refl (opens_at kind.For kind.For up (Some lexeme.KeyFor) l c refl cor) refl begins all fit tl (λ p e. quiet.closed e) refl

for_downto : (ks : Forest) → fits (loop_items lexeme.KeyDownto) (kinds ks) ≡ true → AllRead ks → Found kind.For (spelling_of lexeme.KeyDownto) ks
for_downto Nil fit all root c st m fs rest begins awaits cor tl quiet = cc
for_downto (Cons a u os hs Nil) fit all root c st m fs rest begins awaits cor tl quiet = true-false (sym (&&_split _ _ fit).1)
for_downto (Cons a u os hs (Cons b v ps bs ts)) fit all root c st m fs rest begins awaits cor tl quiet =
    let up = spelling_of lexeme.KeyTo in
    let down = spelling_of lexeme.KeyDownto in
    let l1 = Kid class.Name ∷ Literal lexeme.Becomes ∷ Kid class.Expression ∷ [] in
    let l2 = Kid class.Expression ∷ Literal lexeme.KeyDo ∷ Kid class.Statement ∷ [] in
    let n = loop_items lexeme.KeyTo in
    let two = Cons a u os hs (Cons b v ps bs Nil) in
    let first_name = symbols a u hs in
    let first_bound = symbols b v bs in
    let behind = mark lexeme.KeyDownto ∷ fill l2 down (texts ts) in
    let more = behind ++ rest in
    let fit2 = &&_split _ _ fit in
    let fit3 = &&_split _ _ fit2.1 in
    let fit_two : fits l1 (kinds two) ≡ true = &&_join _ _ fit2.0 (&&_join _ _ fit3.0 refl) in
    let all_two : AllRead two = (all.0, all.1, all.2, all.3, (all.4.0, all.4.1, all.4.2, all.4.3, tt)) in
    let left : (first_name ++ (mark lexeme.Becomes ∷ (first_bound ++ behind))) ++ rest ≡ first_name ++ (mark lexeme.Becomes ∷ (first_bound ++ more)) =
    append_assoc first_name (mark lexeme.Becomes ∷ (first_bound ++ behind)) rest ∙ ap (λ z. first_name ++ (mark lexeme.Becomes ∷ z)) (append_assoc first_bound behind rest) in
    let right : fill l1 up (texts two) ++ more ≡ first_name ++ (mark lexeme.Becomes ∷ (first_bound ++ more)) =
    append_assoc first_name (mark lexeme.Becomes ∷ (first_bound ++ [])) more ∙ ap (λ z. first_name ++ (mark lexeme.Becomes ∷ (z ++ more))) (append-nil first_bound) in
    let input : symbols kind.For down (Cons a u os hs (Cons b v ps bs ts)) ++ rest ≡ mark lexeme.KeyFor ∷ (fill l1 up (texts two) ++ more) = ap (λ ys. mark lexeme.KeyFor ∷ ys) (left ∙ sym right) in
    let begun : Begins root st c fs (mark lexeme.KeyFor ∷ (fill l1 up (texts two) ++ more)) = rw input at begins in
    let opening : start c (Some lexeme.KeyFor) ≡ Open kind.For up n = opens_at kind.For kind.For up (Some lexeme.KeyFor) n c refl cor in
    let next : step root st (mark lexeme.KeyFor ∷ (fill l1 up (texts two) ++ more)) ≡ Go (Reading (frame kind.For up [] n) fs) (fill l1 up (texts two) ++ more) = begun (rw opening refl) ∙ rw opening refl in
    let turn : step root (Reading (frame kind.For up (trees_of two) (Literal lexeme.KeyTo ∷ l2)) fs) more ≡ Go (Reading (frame kind.For down (trees_of two) l2) fs) (fill l2 down (texts ts) ++ rest) = refl in
    let okay_two : Okay l1 up two more = okay_of l1 up two more fit_two refl (λ p e. true-false p) in
    let okay_rest : Okay l2 down ts rest = okay_of l2 down ts rest fit3.1 tl (λ p e. last_open_after b v ps bs ts (quiet.closed e)) in
    rw input
    (onward (one root _ _ _ _ next)
    (onward (reads_front root l1 two kind.For n kind.For (Literal lexeme.KeyTo ∷ l2) up [] fs more all_two fit_two okay_two (refl, (refl, (refl, refl))))
    (onward (one root _ _ _ _ turn)
    (arrive root _ _ _ _ _ (ap (λ us. Holding kind.For (bare kind.For down (Cons a u os hs (Cons b v ps bs us))) fs) (trees_back ts))
    (reads_items root l2 ts kind.For l2 kind.For down (trees_of two) fs rest all.4.4 fit3.1 okay_rest (tracks_self kind.For l2 refl) refl)))))

abbrev loops : List Lexeme
loops = lexeme.KeyTo ∷ lexeme.KeyDownto ∷ []

or_last : (b : Bool) → b || false ≡ true → b ≡ true
or_last true h = refl
or_last false h = cc

same_lexeme : (x y : Lexeme) → same_look (Some x) (Some y) ≡ true → x ≡ y
same_lexeme x y h = let e : Some x ≡ Some y = same_look_eq (Some x) (Some y) h in cc

pub for_loop : IsFound kind.For
for_loop w ks fit all =
    let a = around_fits (operator loops w) (Literal lexeme.KeyFor ∷ Kid class.Name ∷ Literal lexeme.Becomes ∷ Kid class.Expression ∷ []) (Kid class.Expression ∷ Literal lexeme.KeyDo ∷ Kid class.Statement ∷ []) (kinds ks) fit in
    let found = operator_found loops w a.0 a.1 in
    go a.0 found.0 a.2 (or_split (same_look (Some lexeme.KeyTo) (Some a.0)) (same_look (Some lexeme.KeyDownto) (Some a.0) || false) found.1)
  where
    go : (x : Lexeme) → w ≡ spelling_of x → fits (loop_items x) (kinds ks) ≡ true
        → (same_look (Some lexeme.KeyTo) (Some x) ≡ true) ⊎ (same_look (Some lexeme.KeyDownto) (Some x) || false ≡ true) → Found kind.For w ks
    go x e f (inl s) =
        let i : lexeme.KeyTo ≡ x = same_lexeme lexeme.KeyTo x s in
        let g : fits (loop_items lexeme.KeyTo) (kinds ks) ≡ true = rw (← i) at f in
        let o : w ≡ spelling_of lexeme.KeyTo = e ∙ ap spelling_of (sym i) in
        rw o (for_to ks g all)
    go x e f (inr s) =
        let i : lexeme.KeyDownto ≡ x = same_lexeme lexeme.KeyDownto x (or_last _ s) in
        let g : fits (loop_items lexeme.KeyDownto) (kinds ks) ≡ true = rw (← i) at f in
        let o : w ≡ spelling_of lexeme.KeyDownto = e ∙ ap spelling_of (sym i) in
        rw o (for_downto ks g all)

-- an if without else ends before what isn't else
if_ends : (x : Option Lexeme) → (x ≡ Some lexeme.KeyElse → true ≡ false) → halts kind.If x ≡ true
if_ends x h = go (same_look x (Some lexeme.KeyElse)) refl
  where
    go : (b : Bool) → same_look x (Some lexeme.KeyElse) ≡ b → halts kind.If x ≡ true
    go true e = true-false (h (same_look_eq x (Some lexeme.KeyElse) e))
    go false e = at_whenever (λ y. not (same_look y (Some lexeme.KeyElse))) (halts kind.If) x refl (ap not e)

pub if_then : IsFound kind.If
if_then [] ks fit all root c st m fs rest begins awaits cor tl quiet =
    let l = Kid class.Expression ∷ Literal lexeme.KeyThen ∷ Kid class.Statement ∷ [] in
    straight root kind.If [] ks lexeme.KeyIf l c st fs rest refl (opens_at kind.If kind.If [] (Some lexeme.KeyIf) l c refl cor) refl begins all fit tl (λ p e. true-false (quiet.closed e)) (if_ends (look rest) quiet.closed)
if_then (b ∷ w) ks fit all root c st m fs rest begins awaits cor tl quiet = cc

pub if_else : (w : List ℕ) (ks : Forest) → fits_some (layout kind.Ifelse w (count ks)) (kinds ks) ≡ true → second_open ks ≡ false → AllRead ks → Found kind.Ifelse w ks
if_else [] Nil fit rule all root c st m fs rest begins awaits cor tl quiet = cc
if_else [] (Cons a u os hs Nil) fit rule all root c st m fs rest begins awaits cor tl quiet = true-false (sym (&&_split _ _ fit).1)
if_else [] (Cons a u os hs (Cons b v ps bs Nil)) fit rule all root c st m fs rest begins awaits cor tl quiet = true-false (sym (&&_split _ _ (&&_split _ _ fit).1).1)
if_else [] (Cons a u os hs (Cons b v ps bs (Cons d z qs ds ts))) fit rule all root c st m fs rest begins awaits cor tl quiet =
    let l = Kid class.Expression ∷ Literal lexeme.KeyThen ∷ Kid class.Statement ∷ Literal lexeme.KeyElse ∷ Kid class.Statement ∷ [] in
    let n = Kid class.Expression ∷ Literal lexeme.KeyThen ∷ Kid class.Statement ∷ [] in
    let ks = Cons a u os hs (Cons b v ps bs (Cons d z qs ds ts)) in
    let fit2 = (&&_split _ _ (&&_split _ _ fit).1) in
    let member : has class.Expression a ≡ true = (&&_split _ _ fit).0 in
    let okay : Okay l [] ks rest = (
      refl,
      quiet_plain class.Expression a hs (Some lexeme.KeyThen) member refl,
      (
        refl,
        record { closed = λ i. rule },
        okay_of (Kid class.Statement ∷ []) [] (Cons d z qs ds ts) rest fit2.1 tl (λ p e. quiet.closed e),
      ),
    ) in
    opened root kind.Ifelse [] ks lexeme.KeyIf l kind.If n c st fs rest refl (opens_at kind.Ifelse kind.If [] (Some lexeme.KeyIf) n c refl cor) begins all fit okay (refl, (refl, (refl, (refl, refl)))) refl
if_else (b ∷ w) ks fit rule all root c st m fs rest begins awaits cor tl quiet = cc

pub assign : IsFound kind.Assign
assign [] Nil fit all root c st m fs rest begins awaits cor tl quiet = cc
assign [] (Cons i v ns is ts) fit all root c st m fs rest begins awaits cor tl quiet =
    let l = Kid class.Expression ∷ [] in
    let fit2 = &&_split _ _ fit in
    led root kind.Assign [] i v ns is ts class.Access lexeme.Becomes l c st m fs rest refl (grows_at kind.Assign [] class.Access (Some lexeme.Becomes) l c i refl cor (&&_join _ _ fit2.0 all.0)) refl refl begins awaits all fit2.1 tl refl refl
assign (b ∷ w) ks fit all root c st m fs rest begins awaits cor tl quiet = cc

abbrev may_call : Option Lexeme → Bool
may_call x = same_look x (Some lexeme.OpenParen) || ends_statement x

-- what comes after the name of a procedure
call_look : (s x : Option Lexeme) → first kind.Args s x ≡ true → ends_statement s ≡ true → may_call x ≡ true
call_look s x h e = go (same_look x (Some lexeme.OpenParen)) refl
  where
    go : (b : Bool) → same_look x (Some lexeme.OpenParen) ≡ b → may_call x ≡ true
    go true i = or_left (same_look x (Some lexeme.OpenParen)) (ends_statement x) i
    go false i =
        let h2 : same_look x s ≡ true = rw i at h in
        let z : ends_statement x ≡ true = rw (same_look_eq x s h2) e in
        or_right (same_look x (Some lexeme.OpenParen)) (ends_statement x) z

pub proc : IsFound kind.Proc
proc [] Nil fit all root c st m fs rest begins awaits cor tl quiet = cc
proc [] (Cons i v ns is Nil) fit all root c st m fs rest begins awaits cor tl quiet = true-false (sym (&&_split _ _ fit).1)
proc [] (Cons i v ns is (Cons j u ms js ts)) fit all root c st m fs rest begins awaits cor tl quiet =
    let l = Kid class.Args ∷ [] in
    let ks = Cons j u ms js ts in
    let more = fill l [] (texts ks) ++ rest in
    let fit2 = &&_split _ _ fit in
    let fit3 = &&_split _ _ fit2.1 in
    let member : has class.Name i && known i ≡ true = &&_join _ _ fit2.0 all.0 in
    let g : c ≡ class.Statement = only_at kind.Proc class.Statement c refl cor in
    let argument : j ≡ kind.Args = one_at class.Args kind.Args j refl (&&_join _ _ fit3.0 all.4.0) in
    let input : more ≡ symbols j u js ++ rest = ap (λ ys. ys ++ rest) (append-nil (symbols j u js)) in
    let begun : first kind.Args (look rest) (look more) ≡ true = ap (λ ys. first kind.Args (look rest) (look ys)) input ∙ ap (λ o. first o (look rest) (look (symbols j u js ++ rest))) (sym argument) ∙ all.4.2 rest in
    let may : may_call (look more) ≡ true = call_look (look rest) (look more) begun tl in
    let grows : grow i c (look more) ≡ Enter kind.Proc l = rw g (by_name (λ o. grow o class.Statement (look more) ≡ Enter kind.Proc l)
    (enters_to_eq _ _ _ (at_whenever may_call (λ x. enters_to (grow kind.Name class.Statement x) kind.Proc l) (look more) refl may))
    (enters_to_eq _ _ _ (at_whenever may_call (λ x. enters_to (grow (kind.Hole sort.Name) class.Statement x) kind.Proc l) (look more) refl may)) i member) in
    entered root kind.Proc i v ns is ks class.Name l c st m fs rest refl (rw g (by_name (λ o. corner class.Statement o ≡ true) refl refl i member)) (by_name (λ o. tail c o (look more) ≡ true) refl refl i member) grows (quiet_plain class.Name i is (look more) fit2.0 refl) begins awaits all fit2.1
    (okay_of l [] ks rest fit2.1 tl (λ p h. true-false p)) (tracks_self kind.Proc l refl) refl
proc (b ∷ w) ks fit all root c st m fs rest begins awaits cor tl quiet = cc

pub args : IsFound kind.Args
args [] Nil fit all root c st m fs rest begins awaits cor tl quiet =
    let e : c ≡ class.Args = only_at kind.Args class.Args c refl cor in
    let opening : start c (look rest) ≡ Blank kind.Args = rw e (blank_to_eq _ _ (at_whenever ends_statement (λ x. blank_to (start class.Args x) kind.Args) (look rest) refl tl)) in
    blank root kind.Args c st fs rest opening begins
args [] (Cons i v ns is ts) fit all root c st m fs rest begins awaits cor tl quiet =
    let l = Kid class.Argument ∷ further (Some lexeme.Comma) class.Argument (count ts) (Literal lexeme.CloseParen ∷ []) in
    let n = Kid class.Argument ∷ Literal lexeme.CloseParen ∷ [] in
    let ks = Cons i v ns is ts in
    opened root kind.Args [] ks lexeme.OpenParen l kind.Args n c st fs rest refl (opens_at kind.Args kind.Args [] (Some lexeme.OpenParen) n c refl cor) begins all fit
    (okay_of l [] ks rest fit (inner_further lexeme.Comma class.Argument (count ts) (Literal lexeme.CloseParen ∷ []) (look rest) refl refl refl) (λ p e. true-false (sym (plain_further (Some lexeme.Comma) class.Argument (count ts) (Literal lexeme.CloseParen ∷ []) refl) ∙ p)))
    (refl, tracks_closed kind.Args lexeme.Comma lexeme.CloseParen class.Argument (count ts) refl refl) refl
args (b ∷ w) ks fit all root c st m fs rest begins awaits cor tl quiet = cc

pub stmts : IsFound kind.Stmts
stmts [] Nil fit all root c st m fs rest begins awaits cor tl quiet = cc
stmts [] (Cons i v ns is ts) fit all root c st m fs rest begins awaits cor tl quiet =
    let l = Kid class.Statement ∷ further (Some lexeme.Semicolon) class.Statement (count ts) [] in
    let n = Kid class.Statement ∷ [] in
    let ks = Cons i v ns is ts in
    let e : c ≡ class.Stmts = only_at kind.Stmts class.Stmts c refl cor in
    let behind : ends_statement (look rest) ≡ true = at_whenever ends_stmts ends_statement (look rest) refl tl in
    predicted root kind.Stmts [] ks l n c st fs rest refl (rw e refl) refl begins all fit
    (okay_of l [] ks rest fit (inner_further lexeme.Semicolon class.Statement (count ts) [] (look rest) refl refl behind) (λ p h. true-false (sym tl ∙ ap ends_stmts h)))
    (refl, tracks_open kind.Stmts lexeme.Semicolon class.Statement (count ts) refl) (at_whenever ends_stmts (halts kind.Stmts) (look rest) refl tl)
stmts (b ∷ w) ks fit all root c st m fs rest begins awaits cor tl quiet = cc
