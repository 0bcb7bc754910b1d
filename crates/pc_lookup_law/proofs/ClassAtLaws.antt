-- Each declaration of a well-formed program has the class that its place says.
use Rattle.std.proofs.Common.{Bool, List, None, Option, Some, [], ap, append_assoc, arith, eq-eqb, false, if◌then◌else◌, ne_eqb, refl, subst, suc, sym, true, ℕ, ◌&&◌, ◌++◌, ◌<◌, ◌∙◌, ◌∷◌, ◌≡◌, ◌≤◌}
use Rattle.std.proofs.lemmas.Bool.{and_parts}
use Rattle.std.specs.Option.{option_or}
use Rattle.pc_lookup_law.specs.ClassAt.{HasClass, class_along, class_at, class_inside, declares_class}
use Rattle.pc_rule_laws.specs.Agreement.{Arrived, Behind, Inside, Lost}
use Rattle.pc_rule_laws.specs.ClassedPlaces.{classed_at, with_class}
use Rattle.pc_rule_laws.specs.Quiet.{asked}
use Rattle.pc_rule_laws.specs.Roles.{DeclaresParameters, DeclaresRoutine, DeclaresVariables, DefinesConstant, DefinesType, ListsElements, Quiet, Role, class_by, is_routine_role, places_by, role}
use Rattle.pc_rule_laws.specs.Standing.{AllClassed, Classed}
use Rattle.pc_rules.specs.Meanings.{Class, ConstantName, TypeName}
use Rattle.pc_scope.specs.Declarations.{name_at, names_at, names_below}
use Rattle.pc_syntax.specs.Classes.{is_names}
use Rattle.pc_syntax.specs.Fits.{takes, takes_from}
use Rattle.pc_syntax.specs.Plain.{Cons, Forest, Nil, Plain, kinds}
use Rattle.pc_syntax.specs.Slots.{class_from}
use Rattle.pc_syntax.specs.Sorts.{is_hole}
use Rattle.pc_syntax.specs.WellFormed.{WellFormed}
use Rattle.pc_syntax.specs.Words.{lowered}
use Rattle.pc_syntax.specs.declared.kind.Kind.{Kind}
use Rattle.pc_syntax.specs.declared.class.Class.TheVariants as class
use Rattle.pc_syntax.specs.declared.kind.Kind.TheVariants as kind

-- ---- ways

along-behind : (c : Option Class) (i : ℕ) (k : Kind) (w : List ℕ) (ns : List (List ℕ)) (ks ts : Forest) (j : ℕ) (way : List ℕ) → i < j →
    class_along c i (Cons k w ns ks ts) (j ∷ way) ≡ class_along c (suc i) ts (j ∷ way)
unfolding class_along
along-behind c i k w ns ks ts j [] less = ap (λ t. elim (if t then Arrived else Behind) as (λ x. Option Class) [
  | Lost ↦ None
  | Arrived ↦ c
  | Inside rest ↦ class_along (class_inside c k) 1 ks rest
  | Behind ↦ class_along c (suc i) ts (j ∷ [])
]) (ne_eqb i j (λ e. absurd (omega (arith, less, e))))
along-behind c i k w ns ks ts j (m ∷ way) less = ap (λ t. elim (if t then Inside (m ∷ way) else Behind) as (λ x. Option Class) [
  | Lost ↦ None
  | Arrived ↦ c
  | Inside rest ↦ class_along (class_inside c k) 1 ks rest
  | Behind ↦ class_along c (suc i) ts (j ∷ m ∷ way)
]) (ne_eqb i j (λ e. absurd (omega (arith, less, e))))

along-inside : (c : Option Class) (i : ℕ) (k : Kind) (w : List ℕ) (ns : List (List ℕ)) (ks ts : Forest) (m : ℕ) (way : List ℕ) →
    class_along c i (Cons k w ns ks ts) (i ∷ m ∷ way) ≡ class_along (class_inside c k) 1 ks (m ∷ way)
unfolding class_along
along-inside c i k w ns ks ts m way = ap (λ t. elim (if t then Inside (m ∷ way) else Behind) as (λ x. Option Class) [
  | Lost ↦ None
  | Arrived ↦ c
  | Inside rest ↦ class_along (class_inside c k) 1 ks rest
  | Behind ↦ class_along c (suc i) ts (i ∷ m ∷ way)
]) (eq-eqb i i refl)

along-here : (c : Option Class) (i : ℕ) (k : Kind) (w : List ℕ) (ns : List (List ℕ)) (ks ts : Forest) → class_along c i (Cons k w ns ks ts) (i ∷ []) ≡ c
unfolding class_along
along-here c i k w ns ks ts = ap (λ t. elim (if t then Arrived else Behind) as (λ x. Option Class) [
  | Lost ↦ None
  | Arrived ↦ c
  | Inside rest ↦ class_along (class_inside c k) 1 ks rest
  | Behind ↦ class_along c (suc i) ts (i ∷ [])
]) (eq-eqb i i refl)

-- some trees stand under a place of a program, the first as its kid i, and `c` is what the nodes around them give
abbrev pub Rooted : Plain → List ℕ → Option Class → ℕ → Forest → Type 0
Rooted t p c i Nil = Unit {0}
Rooted t p c i (Cons k w ns ks ts) = (j : ℕ) (way : List ℕ) → i ≤ j → class_at t (p ++ j ∷ way) ≡ class_along c i (Cons k w ns ks ts) (j ∷ way)

-- the program's kids stand there
pub rooted-program : (t : Plain) → Rooted t [] None 1 t.kids
rooted-program t = by t.kids refl where
  by : (f : Forest) → t.kids ≡ f → Rooted t [] None 1 f
  by Nil e = tt
  by (Cons k w ns ks ts) e = λ j way least. ap (λ f. class_along None 1 f (j ∷ way)) e

-- the trees behind the first
pub rooted-next : (t : Plain) (p : List ℕ) (c : Option Class) (i : ℕ) (k : Kind) (w : List ℕ) (ns : List (List ℕ)) (ks ts : Forest) → Rooted t p c i (Cons k w ns ks ts) → Rooted t p c (suc i) ts
rooted-next t p c i k w ns ks Nil h = tt
rooted-next t p c i k w ns ks (Cons v o os us vs) h = λ j way least. h j way (omega (arith, least)) ∙ along-behind c i k w ns ks (Cons v o os us vs) j way (omega (arith, least))

-- the kids of the first
pub rooted-kids : (t : Plain) (p : List ℕ) (c : Option Class) (i : ℕ) (k : Kind) (w : List ℕ) (ns : List (List ℕ)) (ks ts : Forest) → Rooted t p c i (Cons k w ns ks ts) →
    Rooted t (p ++ i ∷ []) (class_inside c k) 1 ks
rooted-kids t p c i k w ns Nil ts h = tt
rooted-kids t p c i k w ns (Cons v o os us vs) ts h =
    λ j way least. ap (class_at t) (append_assoc p (i ∷ []) (j ∷ way)) ∙ h i (j ∷ way) (omega arith) ∙ along-inside c i k w ns (Cons v o os us vs) ts j way

-- ---- classes

pub AllClassed-append : (U : List ℕ → Class → Type 0) (xs ys : List Classed) → AllClassed U xs → AllClassed U ys → AllClassed U (xs ++ ys)
AllClassed-append U [] ys a b = b
AllClassed-append U (x ∷ xs) ys a b = (a.0, AllClassed-append U xs ys a.1 b)

-- what a role gives
abbrev given_by : Role → Option Class
given_by DefinesConstant = Some (class_by DefinesConstant)
given_by DefinesType = Some (class_by DefinesType)
given_by DeclaresVariables = Some (class_by DeclaresVariables)
given_by ListsElements = Some (class_by ListsElements)
given_by (DeclaresRoutine c) = Some c
given_by (DeclaresParameters c) = Some c
given_by _ = None

class-role : (k : Kind) → declares_class k ≡ given_by (role k)
class-role (kind.Hole s) = refl
class-role _ = refl

-- the names of a list
names-right : (t : Plain) (c : Class) (d : Option (List ℕ)) (p : List ℕ) (i : ℕ) (f : Forest) → Rooted t p (Some c) i f → AllClassed (HasClass t) (with_class c (names_at d p i f))
names-right t c d p i Nil h = tt
names-right t c d p i (Cons k w ns ks ts) h =
    let rest : AllClassed (HasClass t) (with_class c (names_at d p (suc i) ts)) = names-right t c d p (suc i) ts (rooted-next t p (Some c) i k w ns ks ts h) in
    elim (is_hole k) as (λ (b : Bool). AllClassed (HasClass t) (with_class c (if b then names_at d p (suc i) ts else record { name = lowered w; place = p ++ i ∷ []; definition = d } ∷ names_at d p (suc i) ts))) [
      | true ↦ rest
      | false ↦ (h i [] (omega arith) ∙ along-here (Some c) i k w ns ks ts, rest)
    ]

head-right : (t : Plain) (c : Class) (d : Option (List ℕ)) (q : List ℕ) (f : Forest) → Rooted t q (Some c) 1 f → AllClassed (HasClass t) (with_class c (name_at d q f))
head-right t c d q Nil h = tt
head-right t c d q (Cons k w ns ks ts) h =
    elim (is_hole k) as (λ (b : Bool). AllClassed (HasClass t) (with_class c (if b then [] else record { name = lowered w; place = q ++ 1 ∷ []; definition = d } ∷ []))) [
      | true ↦ tt
      | false ↦ (h 1 [] (omega arith) ∙ along-here (Some c) 1 k w ns ks ts, tt)
    ]

-- the first tree is a list of names
abbrev ListHead : Forest → Type 0
ListHead Nil = Unit {0}
ListHead (Cons k w ns ks ts) = is_names k ≡ true

names-inside : (c : Class) (k : Kind) → is_names k ≡ true → class_inside (Some c) k ≡ Some c
names-inside c kind.Names e = refl
names-inside c _ e = cc e

below-right : (t : Plain) (c : Class) (q : List ℕ) (f : Forest) → ListHead f → Rooted t q (Some c) 1 f → AllClassed (HasClass t) (with_class c (names_below q f))
below-right t c q Nil l h = tt
below-right t c q (Cons k w ns ks ts) l h =
    names-right t c None (q ++ 1 ∷ []) 1 ks (subst (λ x. Rooted t (q ++ 1 ∷ []) x 1 ks) (names-inside c k l) (rooted-kids t q (Some c) 1 k w ns ks ts h))

-- which roles ask for a list of names
abbrev Lists : Role → Forest → Type 0
Lists DeclaresVariables f = ListHead f
Lists ListsElements f = ListHead f
Lists (DeclaresParameters c) f = ListHead f
Lists _ f = Unit {0}

list-head : (k : Kind) (f : Forest) → class_from k 0 ≡ Some class.Names → takes_from k 0 (kinds f) ≡ true → ListHead f
list-head k Nil c e = tt
list-head k (Cons j w ns js ts) c e = (and_parts (is_names j) (takes_from k 1 (kinds ts)) (sym (ap (λ o. takes o j && takes_from k 1 (kinds ts)) c) ∙ e)).0

lists : (k : Kind) (f : Forest) → takes_from k 0 (kinds f) ≡ true → Lists (role k) f
lists kind.Vardef f e = list-head kind.Vardef f refl e
lists kind.Enum f e = list-head kind.Enum f refl e
lists kind.Valparam f e = list-head kind.Valparam f refl e
lists kind.Varparam f e = list-head kind.Varparam f refl e
lists (kind.Hole s) f e = tt
lists _ f e = tt

own-right : (t : Plain) (r : Role) (c : Option Class) (q : List ℕ) (f : Forest) → Lists r f → Rooted t q (option_or (given_by r) c) 1 f → AllClassed (HasClass t) (with_class (class_by r) (places_by r q f))
own-right t DefinesConstant c q f l h = head-right t ConstantName (Some q) q f h
own-right t DefinesType c q f l h = head-right t TypeName (Some q) q f h
own-right t DeclaresVariables c q f l h = below-right t (class_by DeclaresVariables) q f l h
own-right t ListsElements c q f l h = below-right t (class_by ListsElements) q f l h
own-right t (DeclaresRoutine x) c q f l h = head-right t x None q f h
own-right t (DeclaresParameters x) c q f l h = below-right t x q f l h
own-right t Quiet c q f l h = tt
own-right t _ c q f l h = tt

-- The declarations of some trees under a place.
pub classed-right : (t : Plain) (p : List ℕ) (c : Option Class) (i : ℕ) (f : Forest) → WellFormed f → Rooted t p c i f → AllClassed (HasClass t) (classed_at p i f)
classed-right t p c i Nil s h = tt
classed-right t p c i (Cons k w ns ks ts) s h =
    let q : List ℕ = p ++ i ∷ [] in
    let inside : Rooted t q (class_inside c k) 1 ks = rooted-kids t p c i k w ns ks ts h in
    let own : List Classed = with_class (class_by (role k)) (places_by (role k) q ks) in
    let below : List Classed = if is_routine_role (role k) then [] else classed_at q 1 ks in
    AllClassed-append (HasClass t) (own ++ below) (classed_at p (suc i) ts)
    (AllClassed-append (HasClass t) own below (own-right t (role k) c q ks (lists k ks (asked k w ks s.0).placed) (subst (λ x. Rooted t q (option_or x c) 1 ks) (class-role k) inside))
    (elim (is_routine_role (role k)) as (λ (b : Bool). AllClassed (HasClass t) (if b then [] else classed_at q 1 ks)) [
      | true ↦ tt
      | false ↦ classed-right t q (class_inside c k) 1 ks s.3 inside
    ]))
    (classed-right t p c (suc i) ts s.4 (rooted-next t p c i k w ns ks ts h))
