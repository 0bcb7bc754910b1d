-- The nodes of parameters, procedures and functions are read.
use Rattle.std.proofs.Common.{◌≡◌, ℕ, zero, suc, Bool, true, false, ◌||◌, not, List, [], ◌∷◌, ◌++◌, Option, Some, None, refl, ap, sym, ◌∙◌, append_assoc, append-nil}
use Rattle.pc_syntax.specs.declared.lexeme.Lexeme.{Lexeme}
use Rattle.pc_syntax.specs.declared.lexeme.Lexeme.TheVariants as lexeme
use Rattle.pc_syntax.specs.declared.kind.Kind.TheVariants as kind
use Rattle.pc_syntax.specs.declared.class.Class.{Class}
use Rattle.pc_syntax.specs.declared.class.Class.TheVariants as class
use Rattle.pc_syntax.specs.declared.item.Item.{Item}
use Rattle.pc_syntax.specs.declared.item.Item.TheVariants.{Literal, Kid}
use Rattle.pc_syntax.specs.Plain.{Nil, Cons, Plain, count, kinds, trees_of}
use Rattle.pc_syntax.specs.Layout.{further}
use Rattle.pc_syntax.specs.Symbols.{Sym, fill, texts, symbols}
use Rattle.pc_syntax.specs.WellFormed.{fits}
use Rattle.pc_parse.specs.Lookahead.{same_at, look}
use Rattle.pc_parse.specs.Tables.{Open, Predict, Blank, start, recast}
use Rattle.pc_parse.specs.Machine.{Frame, frame, Reading, Holding}
use Rattle.pc_parse.specs.Runs.{Go, step}
use Rattle.pc_parse.proofs.Entries.{&&_split, &&_join}
use Rattle.pc_parse.proofs.Follows.{ends_params, ends_routines}
use Rattle.pc_parse.proofs.TableTests.{same_look, opens_at, only_at, one_at, at_whenever, blank_to, blank_to_eq, predicts_to, predicts_to_eq, recasts_to, recasts_to_eq}
use Rattle.pc_parse.proofs.Leading.{one, onward}
use Rattle.pc_parse.proofs.Simulates.{bare, trees_back, Begins, AllRead, Okay, Tracks, halts, begins_name, begins_routine, mark, arrive, reads_front, reads_items}
use Rattle.pc_parse.proofs.Nodes.{true-false, inner, okay_of, opened, predicted, blank, straight, tracks_self, tracks_closed, inner_further, plain_further}
use Rattle.pc_parse.proofs.Statements.{IsFound}
use Rattle.pc_parse.proofs.Fronts.{routines_begin, front}
use Rattle.pc_parse.proofs.Declarations.{first_of_kid}

abbrev parameter_items : List Item
parameter_items = Kid class.Names ∷ Literal lexeme.Colon ∷ Kid class.Name ∷ []

pub valparam : IsFound kind.Valparam
valparam [] ks fit all root c st m fs rest begins awaits cor tl quiet =
    let l = parameter_items in
    let e : c ≡ class.Parameter = only_at kind.Valparam class.Parameter c refl cor in
    let x = look (symbols kind.Valparam [] ks ++ rest) in
    let begun : begins_name x ≡ true = front kind.Valparam [] ks fit all rest in
    let opening : start class.Parameter x ≡ Predict kind.Valparam l = predicts_to_eq _ _ _ (at_whenever begins_name (λ y. predicts_to (start class.Parameter y) kind.Valparam l) x refl begun) in
    predicted root kind.Valparam [] ks l l c st fs rest refl (ap (λ b. start b x) e ∙ opening) refl begins all fit (okay_of l [] ks rest fit refl (λ p h. true-false p)) (tracks_self kind.Valparam l refl) refl
valparam (b ∷ w) ks fit all root c st m fs rest begins awaits cor tl quiet = cc

pub varparam : IsFound kind.Varparam
varparam [] ks fit all root c st m fs rest begins awaits cor tl quiet =
    let l = parameter_items in
    straight root kind.Varparam [] ks lexeme.KeyVar l c st fs rest refl (opens_at kind.Varparam kind.Varparam [] (Some lexeme.KeyVar) l c refl cor) refl begins all fit refl (λ p e. true-false p) refl
varparam (b ∷ w) ks fit all root c st m fs rest begins awaits cor tl quiet = cc

pub params : IsFound kind.Params
params [] Nil fit all root c st m fs rest begins awaits cor tl quiet =
    let e : c ≡ class.Params = only_at kind.Params class.Params c refl cor in
    let opening : start c (look rest) ≡ Blank kind.Params = rw e (blank_to_eq _ _ (at_whenever ends_params (λ x. blank_to (start class.Params x) kind.Params) (look rest) refl tl)) in
    blank root kind.Params c st fs rest opening begins
params [] (Cons i v ns is ts) fit all root c st m fs rest begins awaits cor tl quiet =
    let close = Literal lexeme.CloseParen ∷ [] in
    let l = Kid class.Parameter ∷ further (Some lexeme.Semicolon) class.Parameter (count ts) close in
    let n = Kid class.Parameter ∷ close in
    let ks = Cons i v ns is ts in
    opened root kind.Params [] ks lexeme.OpenParen l kind.Params n c st fs rest refl (opens_at kind.Params kind.Params [] (Some lexeme.OpenParen) n c refl cor) begins all fit
    (okay_of l [] ks rest fit (inner_further lexeme.Semicolon class.Parameter (count ts) close (look rest) refl refl refl) (λ p e. true-false (sym (plain_further (Some lexeme.Semicolon) class.Parameter (count ts) close refl) ∙ p)))
    (refl, tracks_closed kind.Params lexeme.Semicolon lexeme.CloseParen class.Parameter (count ts) refl refl) refl
params (b ∷ w) ks fit all root c st m fs rest begins awaits cor tl quiet = cc

abbrev body_items : List Item
body_items = Literal lexeme.Semicolon ∷ Kid class.Block ∷ Literal lexeme.Semicolon ∷ []

pub procedure : IsFound kind.Procedure
procedure [] ks fit all root c st m fs rest begins awaits cor tl quiet =
    let l = Kid class.Name ∷ Kid class.Params ∷ body_items in
    straight root kind.Procedure [] ks lexeme.KeyProcedure l c st fs rest refl (opens_at kind.Procedure kind.Procedure [] (Some lexeme.KeyProcedure) l c refl cor) refl begins all fit refl (λ p e. true-false p) refl
procedure (b ∷ w) ks fit all root c st m fs rest begins awaits cor tl quiet = cc

pub funbody : IsFound kind.Funbody
funbody [] ks fit all root c st m fs rest begins awaits cor tl quiet =
    let l = Kid class.Name ∷ body_items in
    straight root kind.Funbody [] ks lexeme.KeyFunction l c st fs rest refl (opens_at kind.Funbody kind.Funbody [] (Some lexeme.KeyFunction) l c refl cor) refl begins all fit refl (λ p e. true-false p) refl
funbody (b ∷ w) ks fit all root c st m fs rest begins awaits cor tl quiet = cc

-- what tells a function from one that was announced before
abbrev tells_result : Option Lexeme → Bool
tells_result x = same_look x (Some lexeme.OpenParen) || same_look x (Some lexeme.Colon)

abbrev result_items : List Item
result_items = Kid class.Params ∷ Literal lexeme.Colon ∷ Kid class.Name ∷ body_items

-- a function is told from one that was announced before
function_told : (root : Class) (kids : List Plain) (fs : List (Frame Plain)) (ys : List Sym) → tells_result (look ys) ≡ true
    → step root (Reading (frame kind.Funbody [] kids body_items) fs) ys ≡ Go (Reading (frame kind.Function [] kids result_items) fs) ys
function_told root kids fs ys h =
    let no_body : same_at lexeme.Semicolon (look ys) ≡ false = falsely _ (at_whenever tells_result (λ x. not (same_at lexeme.Semicolon x)) (look ys) refl h) in
    let turned : recast kind.Funbody body_items (look ys) ≡ Some (kind.Function, result_items) =
    recasts_to_eq _ _ _ (at_whenever tells_result (λ x. recasts_to (recast kind.Funbody body_items x) kind.Function result_items) (look ys) refl h) in
    rw (no_body, turned) refl
  where
    falsely : (b : Bool) → not b ≡ true → b ≡ false
    falsely true e = cc
    falsely false e = refl

pub function : IsFound kind.Function
function [] Nil fit all root c st m fs rest begins awaits cor tl quiet = cc
function [] (Cons a u os hs Nil) fit all root c st m fs rest begins awaits cor tl quiet = true-false (sym (&&_split _ _ fit).1)
function [] (Cons a u os hs (Cons b v ps bs ts)) fit all root c st m fs rest begins awaits cor tl quiet =
    let n = Kid class.Name ∷ body_items in
    let l1 = Kid class.Name ∷ [] in
    let l3 = Literal lexeme.Colon ∷ Kid class.Name ∷ body_items in
    let one_kid = Cons a u os hs Nil in
    let us = Cons b v ps bs ts in
    let its_name = symbols a u hs in
    let more = fill result_items [] (texts us) ++ rest in
    let fit2 = &&_split _ _ fit in
    let fit3 = &&_split _ _ fit2.1 in
    let fit_one : fits l1 (kinds one_kid) ≡ true = &&_join _ _ fit2.0 refl in
    let all_one : AllRead one_kid = (all.0, all.1, all.2, all.3, tt) in
    let input : symbols kind.Function [] (Cons a u os hs us) ++ rest ≡ mark lexeme.KeyFunction ∷ (fill l1 [] (texts one_kid) ++ more) =
    ap (λ ys. mark lexeme.KeyFunction ∷ ys) (append_assoc its_name (fill result_items [] (texts us)) rest ∙ sym (ap (λ z. z ++ more) (append-nil its_name))) in
    let begun : Begins root st c fs (mark lexeme.KeyFunction ∷ (fill l1 [] (texts one_kid) ++ more)) = rw input at begins in
    let opening : start c (Some lexeme.KeyFunction) ≡ Open kind.Funbody [] n = opens_at kind.Function kind.Funbody [] (Some lexeme.KeyFunction) n c refl cor in
    let next : step root st (mark lexeme.KeyFunction ∷ (fill l1 [] (texts one_kid) ++ more)) ≡ Go (Reading (frame kind.Funbody [] [] n) fs) (fill l1 [] (texts one_kid) ++ more) = begun (rw opening refl) ∙ rw opening refl in
    let tells : tells_result (look more) ≡ true = first_of_kid class.Params kind.Params b v bs l3 ts rest (one_at class.Params kind.Params b refl (&&_join _ _ fit3.0 all.4.0)) all.4.2 in
    let okay_one : Okay l1 [] one_kid more = okay_of l1 [] one_kid more fit_one refl (λ p e. true-false p) in
    let okay_rest : Okay result_items [] us rest = okay_of result_items [] us rest fit2.1 refl (λ p e. true-false p) in
    rw input
    (onward (one root _ _ _ _ next)
    (onward (reads_front root l1 one_kid kind.Funbody n kind.Funbody body_items [] [] fs more all_one fit_one okay_one (refl, (refl, refl)))
    (onward (one root _ _ _ _ (function_told root (trees_of one_kid) fs more tells))
    (arrive root _ _ _ _ _ (ap (λ ts2. Holding kind.Function (bare kind.Function [] (Cons a u os hs ts2)) fs) (trees_back us))
    (reads_items root result_items us kind.Function result_items kind.Function [] (trees_of one_kid) fs rest all.4 fit2.1 okay_rest (tracks_self kind.Function result_items refl) refl)))))
function (b ∷ w) ks fit all root c st m fs rest begins awaits cor tl quiet = cc

pub routines : IsFound kind.Routines
routines [] Nil fit all root c st m fs rest begins awaits cor tl quiet =
    let e : c ≡ class.Routines = only_at kind.Routines class.Routines c refl cor in
    let opening : start c (look rest) ≡ Blank kind.Routines = rw e (blank_to_eq _ _ (at_whenever ends_routines (λ x. blank_to (start class.Routines x) kind.Routines) (look rest) refl tl)) in
    blank root kind.Routines c st fs rest opening begins
routines [] (Cons i v ns is ts) fit all root c st m fs rest begins awaits cor tl quiet =
    let l = Kid class.Routine ∷ further None class.Routine (count ts) [] in
    let n = Kid class.Routine ∷ [] in
    let ks = Cons i v ns is ts in
    let x = look (symbols kind.Routines [] ks ++ rest) in
    let e : c ≡ class.Routines = only_at kind.Routines class.Routines c refl cor in
    let begun : begins_routine x ≡ true = routines_begin i v is ts rest (&&_join _ _ (&&_split _ _ fit).0 all.0) all.2 in
    let opening : start class.Routines x ≡ Predict kind.Routines n = predicts_to_eq _ _ _ (at_whenever begins_routine (λ y. predicts_to (start class.Routines y) kind.Routines n) x refl begun) in
    predicted root kind.Routines [] ks l n c st fs rest refl (ap (λ b. start b x) e ∙ opening) refl begins all fit
    (okay_of l [] ks rest fit (inner_routines (count ts) (look rest)) (λ p h. true-false (sym (plain_further None class.Routine (count ts) [] refl) ∙ p)))
    (refl, tracks_routines (count ts)) (at_whenever ends_routines (halts kind.Routines) (look rest) refl tl)
  where
    inner_routines : (n : ℕ) (x : Option Lexeme) → inner (Kid class.Routine ∷ further None class.Routine n []) x ≡ true
    inner_routines zero x = refl
    inner_routines (suc n) x = inner_routines n x

    tracks_routines : (n : ℕ) → Tracks kind.Routines [] (further None class.Routine n []) kind.Routines []
    tracks_routines zero = (refl, refl)
    tracks_routines (suc n) = (refl, tracks_routines n)
routines (b ∷ w) ks fit all root c st m fs rest begins awaits cor tl quiet = cc
