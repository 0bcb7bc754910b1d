-- The value of a tree by its form.
use Rattle.std.specs.Prelude.{◌≡◌, ℕ, List, ◌∷◌, map}
use Rattle.std.proofs.Common.{refl, ap, ◌∙◌}
use Rattle.std.proofs.Math.ListN.{get_or-map}
use Rattle.pc_syntax.specs.declared.kind.Kind.{Kind}
use Rattle.pc_syntax.specs.declared.kind.Kind.TheVariants.{Program, Block, Forward, Constdef, Typedef, Vardef, Field, Valparam, Varparam, Procedure, Function, Funbody, Tname, Enum, Subrange, Array, Record, Record0, Setof, Packed, Pointer, Cnumber, Cstring, Cname, Csign, Empty, Assign, Proc, Compound, If, Ifelse, Case, Arm, Repeat, While, For, With, Ref, Index, Select, Deref, Number, Text, Nil, Call, Parens, Not, Setcon, Mul, Add, Sign, Rel, Width, Span, Name, Heads, Args, Params, Names, Labels, Indexes, Exprs, Accesses, Members, Consts, Types, Vars, Routines, Fields, Stmts, Arms, Hole}
use Rattle.pc_syntax.specs.declared.sort.Sort.TheVariants as sort
use Rattle.pc_syntax.specs.Plain.{Forest, Nil, Cons, Plain, trees_of, kids_of}
use Rattle.pc_forms.specs.declared.form.Form.TheVariants as form
use Rattle.pc_forms.specs.Operators.{is_downto, sign_of, mul_of, add_of, rel_of}
use Rattle.pc_forms.specs.Form.{form_from, nothing, form_of}
use Rattle.pc_forms.specs.FormMap.{FormOf, each}
use Rattle.pc_forms.specs.Fold.{values, fold}

-- the form of a node is the same over values as over trees
pub form_from-map : {A B : Type 0} (g : A → B) (k : Kind) (w : List ℕ) (ks : List A) (d : A) → form_from k w (map g ks) (g d) ≡ each g (form_from k w ks d)
form_from-map g Program w ks d = λ i. form.Program (get_or-map g ks 0 d i) (get_or-map g ks 1 d i) (get_or-map g ks 2 d i)
form_from-map g Block w ks d = λ i. form.Block (get_or-map g ks 0 d i) (get_or-map g ks 1 d i) (get_or-map g ks 2 d i) (get_or-map g ks 3 d i) (get_or-map g ks 4 d i)
form_from-map g Forward w ks d = refl
form_from-map g Constdef w ks d = λ i. form.Constdef (get_or-map g ks 0 d i) (get_or-map g ks 1 d i)
form_from-map g Typedef w ks d = λ i. form.Typedef (get_or-map g ks 0 d i) (get_or-map g ks 1 d i)
form_from-map g Vardef w ks d = λ i. form.Vardef (get_or-map g ks 0 d i) (get_or-map g ks 1 d i)
form_from-map g Field w ks d = λ i. form.Field (get_or-map g ks 0 d i) (get_or-map g ks 1 d i)
form_from-map g Valparam w ks d = λ i. form.Valparam (get_or-map g ks 0 d i) (get_or-map g ks 1 d i)
form_from-map g Varparam w ks d = λ i. form.Varparam (get_or-map g ks 0 d i) (get_or-map g ks 1 d i)
form_from-map g Procedure w ks d = λ i. form.Procedure (get_or-map g ks 0 d i) (get_or-map g ks 1 d i) (get_or-map g ks 2 d i)
form_from-map g Function w ks d = λ i. form.Function (get_or-map g ks 0 d i) (get_or-map g ks 1 d i) (get_or-map g ks 2 d i) (get_or-map g ks 3 d i)
form_from-map g Funbody w ks d = λ i. form.Funbody (get_or-map g ks 0 d i) (get_or-map g ks 1 d i)
form_from-map g Tname w ks d = λ i. form.Tname (get_or-map g ks 0 d i)
form_from-map g Enum w ks d = λ i. form.Enum (get_or-map g ks 0 d i)
form_from-map g Subrange w ks d = λ i. form.Subrange (get_or-map g ks 0 d i) (get_or-map g ks 1 d i)
form_from-map g Array w ks d = λ i. form.Array (get_or-map g ks 0 d i) (get_or-map g ks 1 d i)
form_from-map g Record w ks d = λ i. form.Record (get_or-map g ks 0 d i)
form_from-map g Record0 w ks d = refl
form_from-map g Setof w ks d = λ i. form.Setof (get_or-map g ks 0 d i)
form_from-map g Packed w ks d = λ i. form.Packed (get_or-map g ks 0 d i)
form_from-map g Pointer w ks d = λ i. form.Pointer (get_or-map g ks 0 d i)
form_from-map g Cnumber w ks d = refl
form_from-map g Cstring w ks d = refl
form_from-map g Cname w ks d = λ i. form.Cname (get_or-map g ks 0 d i)
form_from-map g Csign w ks d = λ i. form.Csign (sign_of w) (get_or-map g ks 0 d i)
form_from-map g Empty w ks d = refl
form_from-map g Assign w ks d = λ i. form.Assign (get_or-map g ks 0 d i) (get_or-map g ks 1 d i)
form_from-map g Proc w ks d = λ i. form.Proc (get_or-map g ks 0 d i) (get_or-map g ks 1 d i)
form_from-map g Compound w ks d = λ i. form.Compound (get_or-map g ks 0 d i)
form_from-map g If w ks d = λ i. form.If (get_or-map g ks 0 d i) (get_or-map g ks 1 d i)
form_from-map g Ifelse w ks d = λ i. form.Ifelse (get_or-map g ks 0 d i) (get_or-map g ks 1 d i) (get_or-map g ks 2 d i)
form_from-map g Case w ks d = λ i. form.Case (get_or-map g ks 0 d i) (get_or-map g ks 1 d i)
form_from-map g Arm w ks d = λ i. form.Arm (get_or-map g ks 0 d i) (get_or-map g ks 1 d i)
form_from-map g Repeat w ks d = λ i. form.Repeat (get_or-map g ks 0 d i) (get_or-map g ks 1 d i)
form_from-map g While w ks d = λ i. form.While (get_or-map g ks 0 d i) (get_or-map g ks 1 d i)
form_from-map g For w ks d = λ i. form.For (get_or-map g ks 0 d i) (get_or-map g ks 1 d i) (is_downto w) (get_or-map g ks 2 d i) (get_or-map g ks 3 d i)
form_from-map g With w ks d = λ i. form.With (get_or-map g ks 0 d i) (get_or-map g ks 1 d i)
form_from-map g Ref w ks d = λ i. form.Ref (get_or-map g ks 0 d i)
form_from-map g Index w ks d = λ i. form.Index (get_or-map g ks 0 d i) (get_or-map g ks 1 d i)
form_from-map g Select w ks d = λ i. form.Select (get_or-map g ks 0 d i) (get_or-map g ks 1 d i)
form_from-map g Deref w ks d = λ i. form.Deref (get_or-map g ks 0 d i)
form_from-map g Number w ks d = refl
form_from-map g Text w ks d = refl
form_from-map g Nil w ks d = refl
form_from-map g Call w ks d = λ i. form.Call (get_or-map g ks 0 d i) (get_or-map g ks 1 d i)
form_from-map g Parens w ks d = λ i. form.Parens (get_or-map g ks 0 d i)
form_from-map g Not w ks d = λ i. form.Not (get_or-map g ks 0 d i)
form_from-map g Setcon w ks d = λ i. form.Setcon (get_or-map g ks 0 d i)
form_from-map g Mul w ks d = λ i. form.Mul (get_or-map g ks 0 d i) (mul_of w) (get_or-map g ks 1 d i)
form_from-map g Add w ks d = λ i. form.Add (get_or-map g ks 0 d i) (add_of w) (get_or-map g ks 1 d i)
form_from-map g Sign w ks d = λ i. form.Sign (sign_of w) (get_or-map g ks 0 d i)
form_from-map g Rel w ks d = λ i. form.Rel (get_or-map g ks 0 d i) (rel_of w) (get_or-map g ks 1 d i)
form_from-map g Width w ks d = λ i. form.Width (get_or-map g ks 0 d i) (get_or-map g ks 1 d i)
form_from-map g Span w ks d = λ i. form.Span (get_or-map g ks 0 d i) (get_or-map g ks 1 d i)
form_from-map g Name w ks d = refl
form_from-map g Heads w ks d = refl
form_from-map g Args w ks d = refl
form_from-map g Params w ks d = refl
form_from-map g Names w ks d = refl
form_from-map g Labels w ks d = refl
form_from-map g Indexes w ks d = refl
form_from-map g Exprs w ks d = refl
form_from-map g Accesses w ks d = refl
form_from-map g Members w ks d = refl
form_from-map g Consts w ks d = refl
form_from-map g Types w ks d = refl
form_from-map g Vars w ks d = refl
form_from-map g Routines w ks d = refl
form_from-map g Fields w ks d = refl
form_from-map g Stmts w ks d = refl
form_from-map g Arms w ks d = refl
form_from-map g (Hole s) w ks d = refl

values-map : {A : Type 0} (step : FormOf A → A) (ts : Forest) → values step ts ≡ map (fold step) (trees_of ts)
unfolding values fold
values-map step Nil = refl
values-map step (Cons k w ns ks ts) = ap (λ vs. fold step (record { kind = k; word = w; notes = ns; kids = ks }) ∷ vs) (values-map step ts)

-- the value of a tree is what the step gives for its form, with the values of the kids
pub fold-is : {A : Type 0} (step : FormOf A → A) (p : Plain) → fold step p ≡ step (each (fold step) (form_of p))
unfolding values fold form_of kids_of
fold-is step p =
    let d : fold step nothing ≡ step (form.Hole sort.Program) = refl in
    ap (λ vs. step (form_from p.kind p.word vs (fold step nothing))) (values-map step p.kids) ∙ ap step (form_from-map (fold step) p.kind p.word (trees_of p.kids) nothing)
