-- What the nodes of a block declare, one by one and all together: lemmas.
use Rattle.std.proofs.Common.{◌≡◌, ℕ, Bool, true, false, List, [], ◌∷◌, ◌++◌, slice_get, Option, Some, None, refl, ap, sym, ◌∙◌, if◌then◌else◌, append_assoc, append-nil}
use Rattle.std.specs.Option.{unwrap_or}
use Rattle.pc_syntax.specs.Plain.{Forest, Nil, Cons, Plain, trees_of, kids_of}
use Rattle.pc_syntax.specs.Parts.{kid_at}
use Rattle.pc_syntax.specs.PartsLaws.{kids_of-is}
use Rattle.pc_syntax.specs.Sorts.{is_hole}
use Rattle.pc_syntax.specs.Words.{lowered}
use Rattle.pc_syntax.specs.declared.kind.Kind.{Kind}
use Rattle.pc_syntax.specs.declared.kind.Kind.TheVariants as kind
use Rattle.pc_scope.specs.Headings.{is_routine_kind, first_name, names_of, names_of_first}
use Rattle.pc_rules.specs.Meanings.{Class, ConstantName, ElementName, TypeName, VariableName, ProcedureName, FunctionName}
use Rattle.pc_rules.specs.OwnBlock.{bare_heading, own, all_of_class, named_of_class, declared_by, declared_in}
use Rattle.pc_openings.specs.Declaring.{name_of, listed, all_listed, declared_below, declared_at, all_declared}

-- ---- lists

-- the names of a list, one by one
pub all_listed-is : (c : Class) (ts : Forest) → all_of_class c (names_of ts) ≡ all_listed c (trees_of ts)
all_listed-is c Nil = refl
all_listed-is c (Cons k w ns ks ts) = by (is_hole k) (all_listed-is c ts)
  where
    by : (b : Bool) → all_of_class c (names_of ts) ≡ all_listed c (trees_of ts) →
        all_of_class c (if b then names_of ts else lowered w ∷ names_of ts) ≡ (if b then [] else (lowered w, c) ∷ []) ++ all_listed c (trees_of ts)
    by true rest = rest
    by false rest = ap (λ (xs : List (List ℕ × Class)). (lowered w, c) ∷ xs) rest

pub all_listed-kids : (c : Class) (t : Plain) → all_of_class c (names_of t.kids) ≡ all_listed c (kids_of t)
all_listed-kids c t = all_listed-is c t.kids ∙ ap (all_listed c) (sym (kids_of-is t))

pub all_listed-end : (c : Class) (ts : List Plain) (t : Plain) → all_listed c (ts ++ t ∷ []) ≡ all_listed c ts ++ listed c t
all_listed-end c [] t = append-nil (listed c t)
all_listed-end c (u ∷ us) t = ap (λ (xs : List (List ℕ × Class)). listed c u ++ xs) (all_listed-end c us t) ∙ sym (append_assoc (listed c u) (all_listed c us) (listed c t))

-- what some nodes declare, one by one
pub all_declared-is : (ts : Forest) → declared_in ts ≡ all_declared (trees_of ts)
all_declared-is Nil = refl
all_declared-is (Cons k w ns ks ts) =
    let t : Plain = record { kind = k; word = w; notes = ns; kids = ks } in
    ap (λ (xs : List (List ℕ × Class)). declared_by k ks ++ declared_below t ++ xs) (all_declared-is ts)

pub all_declared-kids : (t : Plain) → declared_in t.kids ≡ all_declared (kids_of t)
all_declared-kids t = all_declared-is t.kids ∙ ap all_declared (sym (kids_of-is t))

pub all_declared-end : (ts : List Plain) (t : Plain) → all_declared (ts ++ t ∷ []) ≡ all_declared ts ++ declared_at t
all_declared-end [] t = append-nil (declared_at t)
all_declared-end (u ∷ us) t = ap (λ (xs : List (List ℕ × Class)). declared_at u ++ xs) (all_declared-end us t) ∙ sym (append_assoc (declared_at u) (all_declared us) (declared_at t))

-- ---- in an own block the same is declared

first_name-own : (ts : Forest) → first_name (own ts) ≡ first_name ts
unfolding own
first_name-own Nil = refl
first_name-own (Cons k w ns ks ts) = refl

first_name-bare : (ts : Forest) → first_name (bare_heading ts) ≡ first_name ts
first_name-bare Nil = refl
first_name-bare (Cons kind.Params w ns ks ts) = refl
first_name-bare (Cons kind.Block w ns ks ts) = refl
first_name-bare (Cons k w ns ks ts) = refl

names_of-own : (ts : Forest) → names_of (own ts) ≡ names_of ts
unfolding own
names_of-own Nil = refl
names_of-own (Cons k w ns ks ts) = ap (λ (ms : List (List ℕ)). if is_hole k then ms else lowered w ∷ ms) (names_of-own ts)

names_of-bare : (ts : Forest) → names_of (bare_heading ts) ≡ names_of ts
names_of-bare Nil = refl
names_of-bare (Cons kind.Params w ns ks ts) = ap (λ (ms : List (List ℕ)). lowered w ∷ ms) (names_of-bare ts)
names_of-bare (Cons kind.Block w ns ks ts) = ap (λ (ms : List (List ℕ)). lowered w ∷ ms) (names_of-bare ts)
names_of-bare (Cons k w ns ks ts) = ap (λ (ms : List (List ℕ)). if is_hole k then ms else lowered w ∷ ms) (names_of-bare ts)

names_of-either : (b : Bool) (ks : Forest) → names_of (if b then bare_heading ks else own ks) ≡ names_of ks
names_of-either true ks = names_of-bare ks
names_of-either false ks = names_of-own ks

names_of_first-own : (ts : Forest) → names_of_first (own ts) ≡ names_of_first ts
unfolding own
names_of_first-own Nil = refl
names_of_first-own (Cons k w ns ks ts) = names_of-either (is_routine_kind k) ks

-- by a node itself
declared_by-own : (k : Kind) (ks : Forest) → declared_by k (if is_routine_kind k then bare_heading ks else own ks) ≡ declared_by k ks
declared_by-own kind.Constdef ks = ap (named_of_class ConstantName) (first_name-own ks)
declared_by-own kind.Typedef ks = ap (named_of_class TypeName) (first_name-own ks)
declared_by-own kind.Vardef ks = ap (all_of_class VariableName) (names_of_first-own ks)
declared_by-own kind.Enum ks = ap (all_of_class ElementName) (names_of_first-own ks)
declared_by-own kind.Procedure ks = ap (named_of_class ProcedureName) (first_name-bare ks)
declared_by-own kind.Function ks = ap (named_of_class FunctionName) (first_name-bare ks)
declared_by-own kind.Funbody ks = ap (named_of_class FunctionName) (first_name-bare ks)
declared_by-own k ks = refl

below-own : (b : Bool) (ks : Forest) → declared_in (own ks) ≡ declared_in ks → (if b then [] else declared_in (if b then bare_heading ks else own ks)) ≡ (if b then [] else declared_in ks)
below-own true ks e = refl
below-own false ks e = e

-- by all nodes
pub declared_in-own : (ts : Forest) → declared_in (own ts) ≡ declared_in ts
unfolding own
declared_in-own Nil = refl
declared_in-own (Cons k w ns ks ts) = λ i. declared_by-own k ks i ++ below-own (is_routine_kind k) ks (declared_in-own ks) i ++ declared_in-own ts i

-- ---- the first kid of a node

first-none : (ts : Forest) → slice_get (trees_of ts) 0 ≡ None → (first_name ts ≡ []) × (names_of_first ts ≡ [])
first-none Nil e = (refl, refl)
first-none (Cons k w ns ks ts) e = cc

first-some : (ts : Forest) (x : Plain) → slice_get (trees_of ts) 0 ≡ Some x → (first_name ts ≡ name_of x) × (names_of_first ts ≡ names_of x.kids)
first-some Nil x e = cc
first-some (Cons k w ns ks ts) x e = (ap (λ (o : Option Plain). name_of (unwrap_or o x)) e, ap (λ (o : Option Plain). names_of (unwrap_or o x).kids) e)

pub no-first : (t : Plain) → None ≡ kid_at t 1 → (first_name t.kids ≡ []) × (names_of_first t.kids ≡ [])
no-first t e = first-none t.kids (ap (λ (ts : List Plain). slice_get ts 0) (sym (kids_of-is t)) ∙ sym e)

pub first-is : (t x : Plain) → Some x ≡ kid_at t 1 → (first_name t.kids ≡ name_of x) × (names_of_first t.kids ≡ names_of x.kids)
first-is t x e = first-some t.kids x (ap (λ (ts : List Plain). slice_get ts 0) (sym (kids_of-is t)) ∙ sym e)

-- a name that isn't empty
pub named-some : (c : Class) (w : List ℕ) → (w ≡ [] → ⊥) → named_of_class c (lowered w) ≡ (lowered w, c) ∷ []
named-some c [] some = absurd (some refl)
named-some c (b ∷ bs) some = refl

-- ---- a node that declares nothing itself

pub declares-none : (k : Kind) (ks : Forest) → (k ≡ kind.Constdef → ⊥) → (k ≡ kind.Typedef → ⊥) → (k ≡ kind.Vardef → ⊥) → (k ≡ kind.Enum → ⊥) → (k ≡ kind.Procedure → ⊥) →
    (k ≡ kind.Function → ⊥) → (k ≡ kind.Funbody → ⊥) → declared_by k ks ≡ []
declares-none kind.Constdef ks a b c d e f g = absurd (a refl)
declares-none kind.Typedef ks a b c d e f g = absurd (b refl)
declares-none kind.Vardef ks a b c d e f g = absurd (c refl)
declares-none kind.Enum ks a b c d e f g = absurd (d refl)
declares-none kind.Procedure ks a b c d e f g = absurd (e refl)
declares-none kind.Function ks a b c d e f g = absurd (f refl)
declares-none kind.Funbody ks a b c d e f g = absurd (g refl)
declares-none k ks a b c d e f g = refl
