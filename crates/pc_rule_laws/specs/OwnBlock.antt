-- The own block of a routine of a well-formed program is in order.
use Rattle.std.proofs.Common.{Bool, List, Some, [], ap, arith, eqb-true, false, if◌then◌else◌, not, refl, subst, suc, sym, true, zero, ℕ, ◌&&◌, ◌==◌, ◌∙◌, ◌∷◌, ◌≡◌}
use Rattle.std.proofs.lemmas.Bool.{and_parts}
use Rattle.std.specs.Prelude.{slice_get}
use Rattle.pc_rule_laws.specs.Orderly.{HeadName, HeadNames, InOrder, IsNil, IsPair, IsRoutineOrGap, IsSingle, NameList, Orderly, RoutineList}
use Rattle.pc_rule_laws.specs.Quiet.{Asked, asked, hole-nil, implied, implies, implies-true, name-nil, nil-own, not-false, quiet-silent, taken-quiet}
use Rattle.pc_rule_laws.specs.Roles.{role}
use Rattle.pc_rules.specs.OwnBlock.{bare_heading, own}
use Rattle.pc_scope.specs.Headings.{is_routine_kind}
use Rattle.pc_syntax.specs.Classes.{has, is_name, is_names, is_routine}
use Rattle.pc_syntax.specs.Fits.{takes, takes_count, takes_from}
use Rattle.pc_syntax.specs.Layout.{layout}
use Rattle.pc_syntax.specs.Plain.{Cons, Forest, Nil, count, kinds}
use Rattle.pc_syntax.specs.Slots.{class_from, is_list, places_of}
use Rattle.pc_syntax.specs.WellFormed.{WellFormed, fits_some}
use Rattle.pc_syntax.specs.declared.kind.Kind.{Kind}
use Rattle.pc_syntax.specs.declared.class.Class.TheVariants as class
use Rattle.pc_syntax.specs.declared.class.Class.{Class}
use Rattle.pc_syntax.specs.declared.kind.Kind.TheVariants as kind

-- the classes and the kinds of an own block, its routines aside
abbrev pub fine_class : Class → Bool
fine_class class.Program = false
fine_class class.Block = false
fine_class class.Routine = false
fine_class class.Parameter = false
fine_class class.Heads = false
fine_class class.Params = false
fine_class _ = true

abbrev pub fine_kind : Kind → Bool
fine_kind kind.Program = false
fine_kind kind.Block = false
fine_kind kind.Forward = false
fine_kind kind.Heads = false
fine_kind kind.Params = false
fine_kind kind.Valparam = false
fine_kind kind.Varparam = false
fine_kind kind.Procedure = false
fine_kind kind.Function = false
fine_kind kind.Funbody = false
fine_kind _ = true

fine-has : (c : Class) (j : Kind) → implies (fine_class c) (implies (has c j) (fine_kind j)) ≡ true
fine-has class.Constdef (kind.Hole s) = implies-true (has class.Constdef (kind.Hole s))
fine-has class.Constdef _ = refl
fine-has class.Typedef (kind.Hole s) = implies-true (has class.Typedef (kind.Hole s))
fine-has class.Typedef _ = refl
fine-has class.Vardef (kind.Hole s) = implies-true (has class.Vardef (kind.Hole s))
fine-has class.Vardef _ = refl
fine-has class.Denoter (kind.Hole s) = implies-true (has class.Denoter (kind.Hole s))
fine-has class.Denoter _ = refl
fine-has class.Structured (kind.Hole s) = implies-true (has class.Structured (kind.Hole s))
fine-has class.Structured _ = refl
fine-has class.Ordinal (kind.Hole s) = implies-true (has class.Ordinal (kind.Hole s))
fine-has class.Ordinal _ = refl
fine-has class.Field (kind.Hole s) = implies-true (has class.Field (kind.Hole s))
fine-has class.Field _ = refl
fine-has class.Constant (kind.Hole s) = implies-true (has class.Constant (kind.Hole s))
fine-has class.Constant _ = refl
fine-has class.Bare (kind.Hole s) = implies-true (has class.Bare (kind.Hole s))
fine-has class.Bare _ = refl
fine-has class.Statement (kind.Hole s) = implies-true (has class.Statement (kind.Hole s))
fine-has class.Statement _ = refl
fine-has class.Body (kind.Hole s) = implies-true (has class.Body (kind.Hole s))
fine-has class.Body _ = refl
fine-has class.Arm (kind.Hole s) = implies-true (has class.Arm (kind.Hole s))
fine-has class.Arm _ = refl
fine-has class.Argument (kind.Hole s) = implies-true (has class.Argument (kind.Hole s))
fine-has class.Argument _ = refl
fine-has class.Member (kind.Hole s) = implies-true (has class.Member (kind.Hole s))
fine-has class.Member _ = refl
fine-has class.Operand (kind.Hole s) = implies-true (has class.Operand (kind.Hole s))
fine-has class.Operand _ = refl
fine-has class.Expression (kind.Hole s) = implies-true (has class.Expression (kind.Hole s))
fine-has class.Expression _ = refl
fine-has class.Simple (kind.Hole s) = implies-true (has class.Simple (kind.Hole s))
fine-has class.Simple _ = refl
fine-has class.Term (kind.Hole s) = implies-true (has class.Term (kind.Hole s))
fine-has class.Term _ = refl
fine-has class.Factor (kind.Hole s) = implies-true (has class.Factor (kind.Hole s))
fine-has class.Factor _ = refl
fine-has class.Access (kind.Hole s) = implies-true (has class.Access (kind.Hole s))
fine-has class.Access _ = refl
fine-has class.Name (kind.Hole s) = implies-true (has class.Name (kind.Hole s))
fine-has class.Name _ = refl
fine-has class.Args (kind.Hole s) = implies-true (has class.Args (kind.Hole s))
fine-has class.Args _ = refl
fine-has class.Names (kind.Hole s) = implies-true (has class.Names (kind.Hole s))
fine-has class.Names _ = refl
fine-has class.Labels (kind.Hole s) = implies-true (has class.Labels (kind.Hole s))
fine-has class.Labels _ = refl
fine-has class.Indexes (kind.Hole s) = implies-true (has class.Indexes (kind.Hole s))
fine-has class.Indexes _ = refl
fine-has class.Exprs (kind.Hole s) = implies-true (has class.Exprs (kind.Hole s))
fine-has class.Exprs _ = refl
fine-has class.Accesses (kind.Hole s) = implies-true (has class.Accesses (kind.Hole s))
fine-has class.Accesses _ = refl
fine-has class.Members (kind.Hole s) = implies-true (has class.Members (kind.Hole s))
fine-has class.Members _ = refl
fine-has class.Consts (kind.Hole s) = implies-true (has class.Consts (kind.Hole s))
fine-has class.Consts _ = refl
fine-has class.Types (kind.Hole s) = implies-true (has class.Types (kind.Hole s))
fine-has class.Types _ = refl
fine-has class.Vars (kind.Hole s) = implies-true (has class.Vars (kind.Hole s))
fine-has class.Vars _ = refl
fine-has class.Routines (kind.Hole s) = implies-true (has class.Routines (kind.Hole s))
fine-has class.Routines _ = refl
fine-has class.Fields (kind.Hole s) = implies-true (has class.Fields (kind.Hole s))
fine-has class.Fields _ = refl
fine-has class.Stmts (kind.Hole s) = implies-true (has class.Stmts (kind.Hole s))
fine-has class.Stmts _ = refl
fine-has class.Arms (kind.Hole s) = implies-true (has class.Arms (kind.Hole s))
fine-has class.Arms _ = refl
fine-has _ j = refl

abbrev pub all_fine : List Class → Bool
all_fine [] = true
all_fine (c ∷ cs) = fine_class c && all_fine cs

takes-fine : (cs : List Class) (i : ℕ) (j : Kind) → all_fine cs ≡ true → takes (slice_get cs i) j ≡ true → fine_kind j ≡ true
takes-fine [] i j q e = cc e
takes-fine (c ∷ cs) zero j q e = implied (has c j) (fine_kind j) (implied (fine_class c) (implies (has c j) (fine_kind j)) (fine-has c j) (and_parts (fine_class c) (all_fine cs) q).0) e
takes-fine (c ∷ cs) (suc i) j q e = takes-fine cs i j (and_parts (fine_class c) (all_fine cs) q).1 e

abbrev pub FineKinds : Forest → Type 0
FineKinds Nil = Unit {0}
FineKinds (Cons k w ns ks ts) = (fine_kind k ≡ true) × FineKinds ts

pub taken-fine : (k : Kind) (i : ℕ) (ks : Forest) → all_fine (places_of k) ≡ true → takes_from k i (kinds ks) ≡ true → FineKinds ks
taken-fine k i Nil q e = tt
taken-fine k i (Cons j w ns ks ts) q e =
    let a = and_parts (takes (class_from k i) j) (takes_from k (suc i) (kinds ts)) e in
    (takes-fine (places_of k) (if is_list k then 0 else i) j q a.0, taken-fine k (suc i) ts q a.1)

-- ---- the kids of declarations

-- a name, or a list of names, at the head
name-head : (b : Bool) (k : Kind) (w : List ℕ) (ks : Forest) → is_name k ≡ true → fits_some (layout k w (count ks)) (kinds ks) ≡ true →
    IsNil (if b then bare_heading ks else own ks)
name-head b k w ks e h = nil-own b ks (name-nil k ks e (asked k w ks h).placed)

names-listed : (i : ℕ) (f : Forest) → WellFormed f → takes_from kind.Names i (kinds f) ≡ true → NameList (own f)
unfolding own
names-listed i Nil h e = tt
names-listed i (Cons k w ns ks ts) h e =
    let a = and_parts (is_name k) (takes_from kind.Names (suc i) (kinds ts)) e in
    (a.0, name-head (is_routine_kind k) k w ks a.0 h.0, names-listed (suc i) ts h.4 a.1)

names-own : (k : Kind) (w : List ℕ) (ks : Forest) → is_names k ≡ true → WellFormed ks → fits_some (layout k w (count ks)) (kinds ks) ≡ true → NameList (if is_routine_kind k then bare_heading ks else own ks)
names-own kind.Names w ks e h f = names-listed 0 ks h (asked kind.Names w ks f).placed
names-own _ w ks e h f = cc e

named : (ks : Forest) (k : Kind) → WellFormed ks → class_from k 0 ≡ Some class.Name → takes_from k 0 (kinds ks) ≡ true → (count ks ≡ 0 → ⊥) → HeadName (own ks)
unfolding own
named Nil k h c e n = n refl
named (Cons j w ns js ts) k h c e n =
    let a : is_name j ≡ true = (and_parts (is_name j) (takes_from k 1 (kinds ts)) (sym (ap (λ o. takes o j && takes_from k 1 (kinds ts)) c) ∙ e)).0 in
    (a, name-head (is_routine_kind j) j w js a h.0)

pub listed : (ks : Forest) (k : Kind) → WellFormed ks → class_from k 0 ≡ Some class.Names → takes_from k 0 (kinds ks) ≡ true → (count ks ≡ 0 → ⊥) → HeadNames (own ks)
unfolding own
listed Nil k h c e n = n refl
listed (Cons j w ns js ts) k h c e n =
    let a : is_names j ≡ true = (and_parts (is_names j) (takes_from k 1 (kinds ts)) (sym (ap (λ o. takes o j && takes_from k 1 (kinds ts)) c) ∙ e)).0 in
    (a, names-own j w js a h.3 h.0)

single-own : (ks : Forest) → count ks ≡ 1 → IsSingle (own ks)
unfolding own
single-own Nil e = absurd (omega (arith, e))
single-own (Cons k w ns ks Nil) e = tt
single-own (Cons k w ns ks (Cons j v os js us)) e = absurd (omega (arith, e))

pair-own : (ks : Forest) → count ks ≡ 2 → IsPair (own ks)
unfolding own
pair-own Nil e = absurd (omega (arith, e))
pair-own (Cons k w ns ks ts) e = single-own ts (omega (arith, e))

-- the routines of a block
bare-named : (j : Kind) (w : List ℕ) (ns : List (List ℕ)) (js ts : Forest) → is_name j ≡ true → IsNil js → HeadName (bare_heading (Cons j w ns js ts))
bare-named kind.Name w ns js ts e h = (refl, h)
bare-named (kind.Hole s) w ns js ts e h = (e, h)
bare-named _ w ns js ts e h = cc e

routine-head : (ks : Forest) (k : Kind) → WellFormed ks → class_from k 0 ≡ Some class.Name → takes_from k 0 (kinds ks) ≡ true → (count ks ≡ 0 → ⊥) → HeadName (bare_heading ks)
routine-head Nil k h c e n = n refl
routine-head (Cons j w ns js ts) k h c e n =
    let a : is_name j ≡ true = (and_parts (is_name j) (takes_from k 1 (kinds ts)) (sym (ap (λ o. takes o j && takes_from k 1 (kinds ts)) c) ∙ e)).0 in
    bare-named j w ns js ts a (name-nil j js a (asked j w js h.0).placed)

pub some-kids : (ks : Forest) (n : ℕ) → (count ks == suc n) ≡ true → count ks ≡ 0 → ⊥
some-kids ks n e f = absurd (omega (arith, eqb-true (count ks) (suc n) e, f))

at-routine : (k : Kind) (w : List ℕ) (ks : Forest) → is_routine k ≡ true → WellFormed ks → fits_some (layout k w (count ks)) (kinds ks) ≡ true →
    IsRoutineOrGap (role k) (if is_routine_kind k then bare_heading ks else own ks)
at-routine kind.Procedure w ks e h f = routine-head ks kind.Procedure h refl (asked kind.Procedure w ks f).placed (some-kids ks 2 (asked kind.Procedure w ks f).many)
at-routine kind.Function w ks e h f = routine-head ks kind.Function h refl (asked kind.Function w ks f).placed (some-kids ks 3 (asked kind.Function w ks f).many)
at-routine kind.Funbody w ks e h f = routine-head ks kind.Funbody h refl (asked kind.Funbody w ks f).placed (some-kids ks 1 (asked kind.Funbody w ks f).many)
at-routine (kind.Hole s) w ks e h f = nil-own false ks (hole-nil (kind.Hole s) ks refl (asked (kind.Hole s) w ks f).placed)
at-routine _ w ks e h f = cc e

routine-list : (i : ℕ) (f : Forest) → WellFormed f → takes_from kind.Routines i (kinds f) ≡ true → RoutineList (own f)
unfolding own
routine-list i Nil h e = tt
routine-list i (Cons k w ns ks ts) h e =
    let a = and_parts (is_routine k) (takes_from kind.Routines (suc i) (kinds ts)) e in
    (at-routine k w ks a.0 h.3 h.0, routine-list (suc i) ts h.4 a.1)

-- ---- each node

in-order : (k : Kind) (ks : Forest) → fine_kind k ≡ true → WellFormed ks → takes_count k (count ks) ≡ true → takes_from k 0 (kinds ks) ≡ true → (FineKinds ks → Orderly (own ks)) →
    InOrder (role k) (own ks) (Orderly (own ks))
in-order kind.Program ks e h m t ih = cc e
in-order kind.Block ks e h m t ih = cc e
in-order kind.Forward ks e h m t ih = cc e
in-order kind.Heads ks e h m t ih = cc e
in-order kind.Params ks e h m t ih = cc e
in-order kind.Valparam ks e h m t ih = cc e
in-order kind.Varparam ks e h m t ih = cc e
in-order kind.Procedure ks e h m t ih = cc e
in-order kind.Function ks e h m t ih = cc e
in-order kind.Funbody ks e h m t ih = cc e
in-order kind.Tname ks e h m t ih = (single-own ks (eqb-true (count ks) 1 m), ih (taken-fine kind.Tname 0 ks refl t))
in-order kind.Subrange ks e h m t ih = (pair-own ks (eqb-true (count ks) 2 m), ih (taken-fine kind.Subrange 0 ks refl t))
in-order kind.Array ks e h m t ih = (pair-own ks (eqb-true (count ks) 2 m), ih (taken-fine kind.Array 0 ks refl t))
in-order kind.Record ks e h m t ih = (single-own ks (eqb-true (count ks) 1 m), ih (taken-fine kind.Record 0 ks refl t))
in-order kind.Setof ks e h m t ih = (single-own ks (eqb-true (count ks) 1 m), ih (taken-fine kind.Setof 0 ks refl t))
in-order kind.Packed ks e h m t ih = (single-own ks (eqb-true (count ks) 1 m), ih (taken-fine kind.Packed 0 ks refl t))
in-order kind.Pointer ks e h m t ih = (single-own ks (eqb-true (count ks) 1 m), ih (taken-fine kind.Pointer 0 ks refl t))
in-order kind.Indexes ks e h m t ih = ih (taken-fine kind.Indexes 0 ks refl t)
in-order kind.Fields ks e h m t ih = ih (taken-fine kind.Fields 0 ks refl t)
in-order kind.Field ks e h m t ih = (pair-own ks (eqb-true (count ks) 2 m), ih (taken-fine kind.Field 0 ks refl t))
in-order kind.Consts ks e h m t ih = ih (taken-fine kind.Consts 0 ks refl t)
in-order kind.Vars ks e h m t ih = ih (taken-fine kind.Vars 0 ks refl t)
in-order kind.Types ks e h m t ih = ih (taken-fine kind.Types 0 ks refl t)
in-order kind.Routines ks e h m t ih = routine-list 0 ks h t
in-order kind.Constdef ks e h m t ih = (named ks kind.Constdef h refl t (some-kids ks 1 m), quiet-silent ks h (taken-quiet kind.Constdef 0 ks refl t))
in-order kind.Typedef ks e h m t ih = (named ks kind.Typedef h refl t (some-kids ks 1 m), pair-own ks (eqb-true (count ks) 2 m), ih (taken-fine kind.Typedef 0 ks refl t))
in-order kind.Vardef ks e h m t ih = (listed ks kind.Vardef h refl t (some-kids ks 1 m), pair-own ks (eqb-true (count ks) 2 m), ih (taken-fine kind.Vardef 0 ks refl t))
in-order kind.Enum ks e h m t ih =
    (listed ks kind.Enum h refl t (some-kids ks 0 m), single-own ks (eqb-true (count ks) 1 m), quiet-silent ks h (taken-quiet kind.Enum 0 ks refl t))
in-order (kind.Hole s) ks e h m t ih = nil-own false ks (hole-nil (kind.Hole s) ks refl t)
in-order k ks e h m t ih = quiet-silent ks h (taken-quiet k 0 ks refl t)

fine-plain : (k : Kind) → implies (fine_kind k) (not (is_routine_kind k)) ≡ true
fine-plain (kind.Hole s) = refl
fine-plain _ = refl

pub fine-orderly : (f : Forest) → WellFormed f → FineKinds f → Orderly (own f)
unfolding own
fine-orderly Nil h q = tt
fine-orderly (Cons k w ns ks ts) h q =
    let a : Asked k w ks = asked k w ks h.0 in
    let plain : is_routine_kind k ≡ false = not-false (is_routine_kind k) (implied (fine_kind k) (not (is_routine_kind k)) (fine-plain k) q.0) in (
      subst (λ (b : Bool). InOrder (role k) (if b then bare_heading ks else own ks) (Orderly (if b then bare_heading ks else own ks))) (sym plain)
          (in-order k ks q.0 h.3 a.many a.placed (fine-orderly ks h.3)),
      fine-orderly ts h.4 q.1,
    )

-- the own block of each block of a well-formed program is in order
pub block-orderly : (w : List ℕ) (ns : List (List ℕ)) (ks ts : Forest) → WellFormed (Cons kind.Block w ns ks ts) → Orderly (own ks)
block-orderly w ns ks ts h = fine-orderly ks h.3 (taken-fine kind.Block 0 ks refl (asked kind.Block w ks h.0).placed)

abbrev pub OrderLaw : Type 0
OrderLaw = (w : List ℕ) (ns : List (List ℕ)) (ks ts : Forest) → WellFormed (Cons kind.Block w ns ks ts) → Orderly (own ks)
