-- The names that the nodes of a block declare, by the rules and by places.
use Rattle.std.proofs.Common.{Bool, List, None, Option, Some, [], ap, bytes_eq, false, if◌then◌else◌, refl, suc, sym, true, ℕ, ◌++◌, ◌∙◌, ◌∷◌, ◌≡◌}
use Rattle.pc_rule_laws.specs.ClassedPlaces.{classed_at, with_class}
use Rattle.pc_rule_laws.specs.NameNodes.{head_one, one-is}
use Rattle.pc_rule_laws.specs.Orderly.{HeadName, InOrder, IsNil, IsRoutineOrGap, IsSilent, Orderly, RoutineList, Silent}
use Rattle.pc_rule_laws.specs.Roles.{DeclaresParameters, DeclaresRoutine, DeclaresVariables, DefinesConstant, DefinesType, Gap, Gathers, GathersOne, GathersTwo, ListsElements, ParameterPart, Quiet, Role, RoutinePart, TypePart, class_by, is_routine_role, names-role, names_by, first_node, one, places_by, role, routine-role}
use Rattle.pc_rule_laws.specs.Standing.{Classed, class_of, entry_of-append, first_of, first_of-append, or_else}
use Rattle.pc_rules.specs.Decorated.{decorate}
use Rattle.pc_rules.specs.Meanings.{Class, ConstantName, ElementName, Local, Outside, TypeName, VariableName, entry_of}
use Rattle.pc_rules.specs.OwnBlock.{all_of_class, declared_by, declared_in, named_of_class}
use Rattle.pc_scope.specs.Declarations.{name_at, names_at, names_below}
use Rattle.pc_scope.specs.Headings.{first_name, is_routine_kind, names_of, names_of_first}
use Rattle.pc_syntax.specs.Plain.{Cons, Forest, Nil}
use Rattle.pc_syntax.specs.Sorts.{is_hole}
use Rattle.pc_syntax.specs.Words.{lowered}

-- names with classes and declarations with classes give one name one class
abbrev pub Matches : List ℕ → List (List ℕ × Class) → List Classed → Type 0
Matches n ds es = entry_of ds n ≡ class_of (first_of es n)

class-or : (x y : Option Classed) → class_of (or_else x y) ≡ or_else (class_of x) (class_of y)
class-or None y = refl
class-or (Some e) y = refl

pub Matches-append : (n : List ℕ) (ds cs : List (List ℕ × Class)) (es fs : List Classed) → Matches n ds es → Matches n cs fs → Matches n (ds ++ cs) (es ++ fs)
Matches-append n ds cs es fs a b =
    entry_of-append ds cs n ∙ (λ i. or_else (a i) (b i)) ∙ sym (class-or (first_of es n) (first_of fs n)) ∙ ap class_of (sym (first_of-append es fs n))

matches-one : (n x p : List ℕ) (d : Option (List ℕ)) (c : Class) → Matches n ((x, c) ∷ []) (with_class c (record { name = x; place = p; definition = d } ∷ []))
matches-one n x p d c =
    elim (bytes_eq x n) as (λ (b : Bool). (if b then Some c else None) ≡ class_of (if b then Some (record { at = record { name = x; place = p; definition = d }; class = c }) else None)) [
      | true ↦ refl
      | false ↦ refl
    ]

-- the names of a list
pub matches-names : (n : List ℕ) (c : Class) (d : Option (List ℕ)) (q : List ℕ) (j : ℕ) (f : Forest) →
    Matches n (all_of_class c (names_of f)) (with_class c (names_at d q j f))
matches-names n c d q j Nil = refl
matches-names n c d q j (Cons k w ns ks ts) =
    elim (is_hole k) as (λ (b : Bool).
    Matches n (all_of_class c (if b then names_of ts else lowered w ∷ names_of ts))
    (with_class c (if b then names_at d q (suc j) ts else record { name = lowered w; place = q ++ j ∷ []; definition = d } ∷ names_at d q (suc j) ts))) [
      | true ↦ matches-names n c d q (suc j) ts
      | false ↦ Matches-append n ((lowered w, c) ∷ []) (all_of_class c (names_of ts)) (with_class c (record { name = lowered w; place = q ++ j ∷ []; definition = d } ∷ [])) (with_class c (names_at d q (suc j) ts)) (matches-one n (lowered w) (q ++ j ∷ []) d c) (matches-names n c d q (suc j) ts)
    ]

pub matches-below : (n : List ℕ) (c : Class) (q : List ℕ) (ks : Forest) → Matches n (all_of_class c (names_of_first ks)) (with_class c (names_below q ks))
matches-below n c q Nil = refl
matches-below n c q (Cons k w ns ks ts) = matches-names n c None (q ++ 1 ∷ []) 1 ks

-- a name that is no empty one
pub matches-head : (b : ℕ) (bs : List ℕ) (c : Class) (d : Option (List ℕ)) (q : List ℕ) (ks : Forest) →
    Matches (b ∷ bs) (named_of_class c (first_name ks)) (with_class c (name_at d q ks))
matches-head b bs c d q Nil = refl
matches-head b bs c d q (Cons k w ns ks ts) =
    elim (is_hole k) as (λ (t : Bool).
    Matches (b ∷ bs) (named_of_class c (if t then [] else lowered w)) (with_class c (if t then [] else record { name = lowered w; place = q ++ 1 ∷ []; definition = d } ∷ []))) [
      | true ↦ refl
      | false ↦ filled (lowered w)
    ] where
      filled : (x : List ℕ) → Matches (b ∷ bs) (named_of_class c x) (with_class c (record { name = x; place = q ++ 1 ∷ []; definition = d } ∷ []))
      filled [] = refl
      filled (y ∷ ys) = matches-one (b ∷ bs) (y ∷ ys) (q ++ 1 ∷ []) d c

-- parameters aside
abbrev NotParameters : Role → Type 0
NotParameters (DeclaresParameters c) = ⊥
NotParameters _ = Unit {0}

abbrev Unless : Bool → Type 0 → Type 0
Unless true X = Unit {0}
Unless false X = X

abbrev NoParameters : Forest → Type 0
NoParameters Nil = Unit {0}
NoParameters (Cons k w ns ks ts) = NotParameters (role k) × Unless (is_routine_role (role k)) (NoParameters ks) × NoParameters ts

silent-none : (f : Forest) → Silent f → NoParameters f
silent-none Nil h = tt
silent-none (Cons k w ns ks ts) h =
    let here : NotParameters (role k) × Unless (is_routine_role (role k)) (NoParameters ks) = by (role k) h.0 (silent-none ks h.1) in (here.0, here.1, silent-none ts h.2) where
      by : (r : Role) → IsSilent r ks → NoParameters ks → NotParameters r × Unless (is_routine_role r) (NoParameters ks)
      by Quiet h n = (tt, n)
      by Gap h n = (tt, n)
      by Gathers h n = absurd h
      by _ h n = absurd h

nil-none : (f : Forest) → IsNil f → NoParameters f
nil-none Nil h = tt
nil-none (Cons k w ns ks ts) h = absurd h

routines-none : (f : Forest) → RoutineList f → NoParameters f
routines-none Nil h = tt
routines-none (Cons k w ns ks ts) h =
    let here : NotParameters (role k) × Unless (is_routine_role (role k)) (NoParameters ks) = by (role k) h.0 in (here.0, here.1, routines-none ts h.1) where
      by : (r : Role) → IsRoutineOrGap r ks → NotParameters r × Unless (is_routine_role r) (NoParameters ks)
      by Gap h = (tt, nil-none ks h)
      by (DeclaresRoutine c) h = (tt, tt)
      by Gathers h = absurd h
      by _ h = absurd h

orderly-none : (f : Forest) → Orderly f → NoParameters f
orderly-none Nil h = tt
orderly-none (Cons k w ns ks ts) h =
    let here : NotParameters (role k) × Unless (is_routine_role (role k)) (NoParameters ks) = by (role k) h.0 (orderly-none ks) in (here.0, here.1, orderly-none ts h.1) where
      by : (r : Role) → InOrder r ks (Orderly ks) → (Orderly ks → NoParameters ks) → NotParameters r × Unless (is_routine_role r) (NoParameters ks)
      by Quiet h ih = (tt, silent-none ks h)
      by Gap h ih = (tt, nil-none ks h)
      by Gathers h ih = (tt, ih h)
      by GathersOne h ih = (tt, ih h.1)
      by GathersTwo h ih = (tt, ih h.1)
      by TypePart h ih = (tt, ih h)
      by RoutinePart h ih = (tt, routines-none ks h)
      by DefinesConstant h ih = (tt, silent-none ks h.1)
      by DefinesType h ih = (tt, ih h.2)
      by DeclaresVariables h ih = (tt, ih h.2)
      by ListsElements h ih = (tt, silent-none ks h.2)
      by ParameterPart h ih = absurd h
      by (DeclaresRoutine c) h ih = absurd h
      by (DeclaresParameters c) h ih = absurd h

matches-own : (b : ℕ) (bs q : List ℕ) (r : Role) (ks : Forest) → NotParameters r → Matches (b ∷ bs) (names_by r ks) (with_class (class_by r) (places_by r q ks))
matches-own b bs q DefinesConstant ks h = matches-head b bs ConstantName (Some q) q ks
matches-own b bs q DefinesType ks h = matches-head b bs TypeName (Some q) q ks
matches-own b bs q DeclaresVariables ks h = matches-below (b ∷ bs) VariableName q ks
matches-own b bs q ListsElements ks h = matches-below (b ∷ bs) ElementName q ks
matches-own b bs q (DeclaresRoutine c) ks h = matches-head b bs c None q ks
matches-own b bs q (DeclaresParameters c) ks h = absurd h
matches-own b bs q _ ks h = refl

matches-none : (b : ℕ) (bs p : List ℕ) (i : ℕ) (f : Forest) → NoParameters f → Matches (b ∷ bs) (declared_in f) (classed_at p i f)
matches-none b bs p i Nil h = refl
matches-none b bs p i (Cons k w ns ks ts) h =
    let q : List ℕ = p ++ i ∷ [] in
    let own : Matches (b ∷ bs) (declared_by k ks) (with_class (class_by (role k)) (places_by (role k) q ks)) =
    ap (λ ds. entry_of ds (b ∷ bs)) (names-role k ks) ∙ matches-own b bs q (role k) ks h.0 in
    let below : Matches (b ∷ bs) (if is_routine_kind k then [] else declared_in ks) (if is_routine_role (role k) then [] else classed_at q 1 ks) =
    ap (λ t. entry_of (if t then [] else declared_in ks) (b ∷ bs)) (routine-role k) ∙ by (is_routine_role (role k)) h.1 (matches-none b bs q 1 ks) in
    let nested : List (List ℕ × Class) = if is_routine_kind k then [] else declared_in ks in
    let nested_at : List Classed = if is_routine_role (role k) then [] else classed_at q 1 ks in
    let own_at : List Classed = with_class (class_by (role k)) (places_by (role k) q ks) in
    Matches-append (b ∷ bs) (declared_by k ks ++ nested) (declared_in ts) (own_at ++ nested_at) (classed_at p (suc i) ts)
    (Matches-append (b ∷ bs) (declared_by k ks) nested own_at nested_at own below) (matches-none b bs p (suc i) ts h.2) where
      by : (t : Bool) → Unless t (NoParameters ks) → (NoParameters ks → Matches (b ∷ bs) (declared_in ks) (classed_at (p ++ i ∷ []) 1 ks)) →
          Matches (b ∷ bs) (if t then [] else declared_in ks) (if t then [] else classed_at (p ++ i ∷ []) 1 ks)
      by true h ih = refl
      by false h ih = ih h

-- what a block declares, by names and by places
pub matches-declared : (b : ℕ) (bs p : List ℕ) (i : ℕ) (f : Forest) → Orderly f → Matches (b ∷ bs) (declared_in f) (classed_at p i f)
matches-declared b bs p i f h = matches-none b bs p i f (orderly-none f h)

-- ---- by what is found at the nodes

pub one-head : (out : Outside) (l : Local) (n : List ℕ) (c : Class) (d : Option (List ℕ)) (q : List ℕ) (ks : Forest) → HeadName ks →
    Matches n (one c (first_node (decorate out l ks))) (with_class c (name_at d q ks))
one-head out l n c d q ks h = ap (λ ds. entry_of ds n) (one-is out l c ks h) ∙ by ks where
  by : (f : Forest) → Matches n (head_one c f) (with_class c (name_at d q f))
  by Nil = refl
  by (Cons k w ns ks ts) =
      elim (is_hole k) as (λ (b : Bool).
      Matches n (if b then [] else (lowered w, c) ∷ []) (with_class c (if b then [] else record { name = lowered w; place = q ++ 1 ∷ []; definition = d } ∷ []))) [
        | true ↦ refl
        | false ↦ matches-one n (lowered w) (q ++ 1 ∷ []) d c
      ]
