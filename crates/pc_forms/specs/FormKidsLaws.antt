-- A form has the kids and the kind that it was made of.
use Rattle.std.proofs.Common.{◌≡◌, ℕ, List, [], ◌∷◌, Some, get_or, length, refl, ap, arith}
use Rattle.pc_syntax.specs.declared.kind.Kind.{Kind}
use Rattle.pc_syntax.specs.declared.kind.Kind.TheVariants.{Program, Block, Forward, Constdef, Typedef, Vardef, Field, Valparam, Varparam, Procedure, Function, Funbody, Tname, Enum, Subrange, Array, Record, Record0, Setof, Packed, Pointer, Cnumber, Cstring, Cname, Csign, Empty, Assign, Proc, Compound, If, Ifelse, Case, Arm, Repeat, While, For, With, Ref, Index, Select, Deref, Number, Text, Nil, Call, Parens, Not, Setcon, Mul, Add, Sign, Rel, Width, Span, Name, Heads, Args, Params, Names, Labels, Indexes, Exprs, Accesses, Members, Consts, Types, Vars, Routines, Fields, Stmts, Arms, Hole}
use Rattle.pc_forms.specs.Form.{form_from}
use Rattle.pc_forms.specs.FormClasses.{fixed_count}
use Rattle.pc_forms.specs.FormKids.{kids_in}
use Rattle.pc_forms.specs.FormKind.{kind_in}

module _ {A : Type 0} where
  all0 : (ks : List A) → length ks ≡ 0 → [] ≡ ks
  all0 [] e = refl
  all0 (a ∷ ks) e = absurd (omega arith)

  all1 : (ks : List A) (d : A) → length ks ≡ 1 → get_or ks 0 d ∷ [] ≡ ks
  all1 [] d e = absurd (omega arith)
  all1 (a ∷ ks) d e = ap (λ xs. a ∷ xs) (all0 ks (omega arith))

  all2 : (ks : List A) (d : A) → length ks ≡ 2 → get_or ks 0 d ∷ get_or ks 1 d ∷ [] ≡ ks
  all2 [] d e = absurd (omega arith)
  all2 (a ∷ ks) d e = ap (λ xs. a ∷ xs) (all1 ks d (omega arith))

  all3 : (ks : List A) (d : A) → length ks ≡ 3 → get_or ks 0 d ∷ get_or ks 1 d ∷ get_or ks 2 d ∷ [] ≡ ks
  all3 [] d e = absurd (omega arith)
  all3 (a ∷ ks) d e = ap (λ xs. a ∷ xs) (all2 ks d (omega arith))

  all4 : (ks : List A) (d : A) → length ks ≡ 4 → get_or ks 0 d ∷ get_or ks 1 d ∷ get_or ks 2 d ∷ get_or ks 3 d ∷ [] ≡ ks
  all4 [] d e = absurd (omega arith)
  all4 (a ∷ ks) d e = ap (λ xs. a ∷ xs) (all3 ks d (omega arith))

  all5 : (ks : List A) (d : A) → length ks ≡ 5 → get_or ks 0 d ∷ get_or ks 1 d ∷ get_or ks 2 d ∷ get_or ks 3 d ∷ get_or ks 4 d ∷ [] ≡ ks
  all5 [] d e = absurd (omega arith)
  all5 (a ∷ ks) d e = ap (λ xs. a ∷ xs) (all4 ks d (omega arith))

-- the kids, where they are as many as the kind has
pub kids_in-form_from : {A : Type 0} (k : Kind) (w : List ℕ) (ks : List A) (d : A) → ((n : ℕ) → fixed_count k ≡ Some n → length ks ≡ n) → kids_in (form_from k w ks d) ≡ ks
kids_in-form_from Program w ks d h = all3 ks d (h 3 refl)
kids_in-form_from Block w ks d h = all5 ks d (h 5 refl)
kids_in-form_from Forward w ks d h = all0 ks (h 0 refl)
kids_in-form_from Constdef w ks d h = all2 ks d (h 2 refl)
kids_in-form_from Typedef w ks d h = all2 ks d (h 2 refl)
kids_in-form_from Vardef w ks d h = all2 ks d (h 2 refl)
kids_in-form_from Field w ks d h = all2 ks d (h 2 refl)
kids_in-form_from Valparam w ks d h = all2 ks d (h 2 refl)
kids_in-form_from Varparam w ks d h = all2 ks d (h 2 refl)
kids_in-form_from Procedure w ks d h = all3 ks d (h 3 refl)
kids_in-form_from Function w ks d h = all4 ks d (h 4 refl)
kids_in-form_from Funbody w ks d h = all2 ks d (h 2 refl)
kids_in-form_from Tname w ks d h = all1 ks d (h 1 refl)
kids_in-form_from Enum w ks d h = all1 ks d (h 1 refl)
kids_in-form_from Subrange w ks d h = all2 ks d (h 2 refl)
kids_in-form_from Array w ks d h = all2 ks d (h 2 refl)
kids_in-form_from Record w ks d h = all1 ks d (h 1 refl)
kids_in-form_from Record0 w ks d h = all0 ks (h 0 refl)
kids_in-form_from Setof w ks d h = all1 ks d (h 1 refl)
kids_in-form_from Packed w ks d h = all1 ks d (h 1 refl)
kids_in-form_from Pointer w ks d h = all1 ks d (h 1 refl)
kids_in-form_from Cnumber w ks d h = all0 ks (h 0 refl)
kids_in-form_from Cstring w ks d h = all0 ks (h 0 refl)
kids_in-form_from Cname w ks d h = all1 ks d (h 1 refl)
kids_in-form_from Csign w ks d h = all1 ks d (h 1 refl)
kids_in-form_from Empty w ks d h = all0 ks (h 0 refl)
kids_in-form_from Assign w ks d h = all2 ks d (h 2 refl)
kids_in-form_from Proc w ks d h = all2 ks d (h 2 refl)
kids_in-form_from Compound w ks d h = all1 ks d (h 1 refl)
kids_in-form_from If w ks d h = all2 ks d (h 2 refl)
kids_in-form_from Ifelse w ks d h = all3 ks d (h 3 refl)
kids_in-form_from Case w ks d h = all2 ks d (h 2 refl)
kids_in-form_from Arm w ks d h = all2 ks d (h 2 refl)
kids_in-form_from Repeat w ks d h = all2 ks d (h 2 refl)
kids_in-form_from While w ks d h = all2 ks d (h 2 refl)
kids_in-form_from For w ks d h = all4 ks d (h 4 refl)
kids_in-form_from With w ks d h = all2 ks d (h 2 refl)
kids_in-form_from Ref w ks d h = all1 ks d (h 1 refl)
kids_in-form_from Index w ks d h = all2 ks d (h 2 refl)
kids_in-form_from Select w ks d h = all2 ks d (h 2 refl)
kids_in-form_from Deref w ks d h = all1 ks d (h 1 refl)
kids_in-form_from Number w ks d h = all0 ks (h 0 refl)
kids_in-form_from Text w ks d h = all0 ks (h 0 refl)
kids_in-form_from Nil w ks d h = all0 ks (h 0 refl)
kids_in-form_from Call w ks d h = all2 ks d (h 2 refl)
kids_in-form_from Parens w ks d h = all1 ks d (h 1 refl)
kids_in-form_from Not w ks d h = all1 ks d (h 1 refl)
kids_in-form_from Setcon w ks d h = all1 ks d (h 1 refl)
kids_in-form_from Mul w ks d h = all2 ks d (h 2 refl)
kids_in-form_from Add w ks d h = all2 ks d (h 2 refl)
kids_in-form_from Sign w ks d h = all1 ks d (h 1 refl)
kids_in-form_from Rel w ks d h = all2 ks d (h 2 refl)
kids_in-form_from Width w ks d h = all2 ks d (h 2 refl)
kids_in-form_from Span w ks d h = all2 ks d (h 2 refl)
kids_in-form_from Name w ks d h = all0 ks (h 0 refl)
kids_in-form_from Heads w ks d h = refl
kids_in-form_from Args w ks d h = refl
kids_in-form_from Params w ks d h = refl
kids_in-form_from Names w ks d h = refl
kids_in-form_from Labels w ks d h = refl
kids_in-form_from Indexes w ks d h = refl
kids_in-form_from Exprs w ks d h = refl
kids_in-form_from Accesses w ks d h = refl
kids_in-form_from Members w ks d h = refl
kids_in-form_from Consts w ks d h = refl
kids_in-form_from Types w ks d h = refl
kids_in-form_from Vars w ks d h = refl
kids_in-form_from Routines w ks d h = refl
kids_in-form_from Fields w ks d h = refl
kids_in-form_from Stmts w ks d h = refl
kids_in-form_from Arms w ks d h = refl
kids_in-form_from (Hole s) w ks d h = all0 ks (h 0 refl)

-- the kind
pub kind_in-form_from : {A : Type 0} (k : Kind) (w : List ℕ) (ks : List A) (d : A) → kind_in (form_from k w ks d) ≡ k
kind_in-form_from Program w ks d = refl
kind_in-form_from Block w ks d = refl
kind_in-form_from Forward w ks d = refl
kind_in-form_from Constdef w ks d = refl
kind_in-form_from Typedef w ks d = refl
kind_in-form_from Vardef w ks d = refl
kind_in-form_from Field w ks d = refl
kind_in-form_from Valparam w ks d = refl
kind_in-form_from Varparam w ks d = refl
kind_in-form_from Procedure w ks d = refl
kind_in-form_from Function w ks d = refl
kind_in-form_from Funbody w ks d = refl
kind_in-form_from Tname w ks d = refl
kind_in-form_from Enum w ks d = refl
kind_in-form_from Subrange w ks d = refl
kind_in-form_from Array w ks d = refl
kind_in-form_from Record w ks d = refl
kind_in-form_from Record0 w ks d = refl
kind_in-form_from Setof w ks d = refl
kind_in-form_from Packed w ks d = refl
kind_in-form_from Pointer w ks d = refl
kind_in-form_from Cnumber w ks d = refl
kind_in-form_from Cstring w ks d = refl
kind_in-form_from Cname w ks d = refl
kind_in-form_from Csign w ks d = refl
kind_in-form_from Empty w ks d = refl
kind_in-form_from Assign w ks d = refl
kind_in-form_from Proc w ks d = refl
kind_in-form_from Compound w ks d = refl
kind_in-form_from If w ks d = refl
kind_in-form_from Ifelse w ks d = refl
kind_in-form_from Case w ks d = refl
kind_in-form_from Arm w ks d = refl
kind_in-form_from Repeat w ks d = refl
kind_in-form_from While w ks d = refl
kind_in-form_from For w ks d = refl
kind_in-form_from With w ks d = refl
kind_in-form_from Ref w ks d = refl
kind_in-form_from Index w ks d = refl
kind_in-form_from Select w ks d = refl
kind_in-form_from Deref w ks d = refl
kind_in-form_from Number w ks d = refl
kind_in-form_from Text w ks d = refl
kind_in-form_from Nil w ks d = refl
kind_in-form_from Call w ks d = refl
kind_in-form_from Parens w ks d = refl
kind_in-form_from Not w ks d = refl
kind_in-form_from Setcon w ks d = refl
kind_in-form_from Mul w ks d = refl
kind_in-form_from Add w ks d = refl
kind_in-form_from Sign w ks d = refl
kind_in-form_from Rel w ks d = refl
kind_in-form_from Width w ks d = refl
kind_in-form_from Span w ks d = refl
kind_in-form_from Name w ks d = refl
kind_in-form_from Heads w ks d = refl
kind_in-form_from Args w ks d = refl
kind_in-form_from Params w ks d = refl
kind_in-form_from Names w ks d = refl
kind_in-form_from Labels w ks d = refl
kind_in-form_from Indexes w ks d = refl
kind_in-form_from Exprs w ks d = refl
kind_in-form_from Accesses w ks d = refl
kind_in-form_from Members w ks d = refl
kind_in-form_from Consts w ks d = refl
kind_in-form_from Types w ks d = refl
kind_in-form_from Vars w ks d = refl
kind_in-form_from Routines w ks d = refl
kind_in-form_from Fields w ks d = refl
kind_in-form_from Stmts w ks d = refl
kind_in-form_from Arms w ks d = refl
kind_in-form_from (Hole s) w ks d = refl
