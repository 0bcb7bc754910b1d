-- The declarations of a block with their places and their classes.
use Rattle.std.proofs.Common.{Bool, List, None, Option, Some, [], ap, append-nil, append_assoc, arith, eq-eqb, false, if◌then◌else◌, le-ltb, lt-ltb, nat_lt, ne_eqb, not, refl, suc, sym, true, ℕ, ◌&&◌, ◌++◌, ◌<◌, ◌==◌, ◌∙◌, ◌∷◌, ◌≡◌, ◌≤◌}
use Rattle.pc_rule_laws.specs.Roles.{DeclaresParameters, DeclaresRoutine, DeclaresVariables, DefinesConstant, DefinesType, ListsElements, Role, class_by, is_routine_role, places-role, places_by, role, routine-role}
use Rattle.pc_rule_laws.specs.Standing.{AllAre, Classed, is_here, places_in}
use Rattle.pc_rules.specs.Meanings.{Class}
use Rattle.pc_scope.specs.Declarations.{Declared, declared_at, declared_by_node, name_at, names_at, names_below}
use Rattle.pc_scope.specs.Headings.{is_routine_kind}
use Rattle.pc_scope.specs.Places.{in_definition, is_before, stands_in}
use Rattle.pc_syntax.specs.Places.{at}
use Rattle.pc_syntax.specs.Plain.{Cons, Forest, Nil}
use Rattle.pc_syntax.specs.Sorts.{is_hole}
use Rattle.pc_syntax.specs.Words.{lowered}

-- declarations of one class
abbrev pub with_class : Class → List Declared → List Classed
with_class c [] = []
with_class c (d ∷ ds) = record { at = d; class = c } ∷ with_class c ds

-- the declarations in trees whose first is kid i of the node at a place, in text order; those inside routines aside
abbrev pub classed_at : List ℕ → ℕ → Forest → List Classed
classed_at p i Nil = []
classed_at p i (Cons k w ns ks ts) =
    with_class (class_by (role k)) (places_by (role k) (p ++ i ∷ []) ks) ++ (if is_routine_role (role k) then [] else classed_at (p ++ i ∷ []) 1 ks)
    ++ classed_at p (suc i) ts

pub places_in-append : (xs ys : List Classed) → places_in (xs ++ ys) ≡ places_in xs ++ places_in ys
places_in-append [] ys = refl
places_in-append (x ∷ xs) ys = ap (λ zs. x.at ∷ zs) (places_in-append xs ys)

places_in-with : (c : Class) (ds : List Declared) → places_in (with_class c ds) ≡ ds
places_in-with c [] = refl
places_in-with c (d ∷ ds) = ap (λ zs. d ∷ zs) (places_in-with c ds)

-- they are the declarations
pub places_in-classed : (p : List ℕ) (i : ℕ) (f : Forest) → places_in (classed_at p i f) ≡ declared_at p i f
places_in-classed p i Nil = refl
places_in-classed p i (Cons k w ns ks ts) =
    let q : List ℕ = p ++ i ∷ [] in
    let below : places_in (if is_routine_role (role k) then [] else classed_at q 1 ks) ≡ (if is_routine_kind k then [] else declared_at q 1 ks) =
    (elim (is_routine_role (role k)) as (λ (b : Bool). places_in (if b then [] else classed_at q 1 ks) ≡ (if b then [] else declared_at q 1 ks)) [
      | true ↦ refl
      | false ↦ places_in-classed q 1 ks
    ])
    ∙ ap (λ b. if b then [] else declared_at q 1 ks) (sym (routine-role k)) in
    let own : places_in (with_class (class_by (role k)) (places_by (role k) q ks)) ≡ declared_by_node k q ks =
    places_in-with (class_by (role k)) (places_by (role k) q ks) ∙ sym (places-role k q ks) in
    places_in-append (with_class (class_by (role k)) (places_by (role k) q ks) ++ (if is_routine_role (role k) then [] else classed_at q 1 ks)) (classed_at p (suc i) ts)
    ∙ ap (λ zs. zs ++ places_in (classed_at p (suc i) ts)) (places_in-append (with_class (class_by (role k)) (places_by (role k) q ks)) _)
    ∙ (λ j. (own j ++ below j) ++ places_in-classed p (suc i) ts j)

-- ---- where they stand

-- a definition stands under a place, if there is one
abbrev pub DefinedUnder : List ℕ → Option (List ℕ) → Type 0
DefinedUnder p None = Unit {0}
DefinedUnder p (Some d) = (r : List ℕ) × (d ≡ p ++ r)

-- a declaration stands under one of the kids from a number on
pub record StandsFrom (p : List ℕ) (i : ℕ) (d : Declared) : Type 0 where
  pub kid : ℕ
  pub from : i ≤ kid
  pub rest : List ℕ
  pub place : d.place ≡ p ++ kid ∷ rest
  pub definition : DefinedUnder (p ++ kid ∷ []) d.definition

abbrev pub AllFrom : List ℕ → ℕ → List Classed → Type 0
AllFrom p i [] = Unit {0}
AllFrom p i (e ∷ es) = StandsFrom p i e.at × AllFrom p i es

-- a declaration under a place
pub record StandsUnder (p : List ℕ) (d : Declared) : Type 0 where
  pub rest : List ℕ
  pub place : d.place ≡ p ++ rest
  pub definition : DefinedUnder p d.definition

abbrev pub AllUnder : List ℕ → List Classed → Type 0
AllUnder p [] = Unit {0}
AllUnder p (e ∷ es) = StandsUnder p e.at × AllUnder p es

AllUnder-append : (p : List ℕ) (xs ys : List Classed) → AllUnder p xs → AllUnder p ys → AllUnder p (xs ++ ys)
AllUnder-append p [] ys a b = b
AllUnder-append p (x ∷ xs) ys a b = (a.0, AllUnder-append p xs ys a.1 b)

AllFrom-append : (p : List ℕ) (i : ℕ) (xs ys : List Classed) → AllFrom p i xs → AllFrom p i ys → AllFrom p i (xs ++ ys)
AllFrom-append p i [] ys a b = b
AllFrom-append p i (x ∷ xs) ys a b = (a.0, AllFrom-append p i xs ys a.1 b)

-- from under a kid to the node
definition-up : (p : List ℕ) (j : ℕ) (o : Option (List ℕ)) → DefinedUnder (p ++ j ∷ []) o → DefinedUnder p o
definition-up p j None h = tt
definition-up p j (Some d) h = (j ∷ h.0, h.1 ∙ append_assoc p (j ∷ []) h.0)

under-from : (p : List ℕ) (i : ℕ) (es : List Classed) → AllFrom p i es → AllUnder p es
under-from p i [] a = tt
under-from p i (e ∷ es) a =
    (record { rest = a.0.kid ∷ a.0.rest; place = a.0.place; definition = definition-up p a.0.kid e.at.definition a.0.definition }, under-from p i es a.1)

from-under : (p : List ℕ) (i : ℕ) (es : List Classed) → AllUnder (p ++ i ∷ []) es → AllFrom p i es
from-under p i [] a = tt
from-under p i (e ∷ es) a =
    (record { kid = i; from = omega arith; rest = a.0.rest; place = a.0.place ∙ append_assoc p (i ∷ []) a.0.rest; definition = a.0.definition }, from-under p i es a.1)

from-later : (p : List ℕ) (i : ℕ) (es : List Classed) → AllFrom p (suc i) es → AllFrom p i es
from-later p i [] a = tt
from-later p i (e ∷ es) a = (record { kid = a.0.kid; from = omega (arith, a.0.from); rest = a.0.rest; place = a.0.place; definition = a.0.definition }, from-later p i es a.1)

-- the names of a list, and the first of a node's kids
names-under : (c : Class) (d : Option (List ℕ)) (p q : List ℕ) (j : ℕ) (f : Forest) →
    ((i : ℕ) → (r : List ℕ) × (q ++ i ∷ [] ≡ p ++ r)) → DefinedUnder p d → AllUnder p (with_class c (names_at d q j f))
names-under c d p q j Nil at h = tt
names-under c d p q j (Cons k w ns ks ts) at h =
    elim (is_hole k) as (λ (b : Bool). AllUnder p (with_class c (if b then names_at d q (suc j) ts else record { name = lowered w; place = q ++ j ∷ []; definition = d } ∷ names_at d q (suc j) ts))) [
      | true ↦ names-under c d p q (suc j) ts at h
      | false ↦ (record { rest = (at j).0; place = (at j).1; definition = h }, names-under c d p q (suc j) ts at h)
    ]

head-under : (c : Class) (d : Option (List ℕ)) (q : List ℕ) (ks : Forest) → DefinedUnder q d → AllUnder q (with_class c (name_at d q ks))
head-under c d q Nil h = tt
head-under c d q (Cons k w ns ks ts) h = names-under c d q q 1 (Cons k w ns ks Nil) (λ i. (i ∷ [], refl)) h

below-under : (c : Class) (q : List ℕ) (ks : Forest) → AllUnder q (with_class c (names_below q ks))
below-under c q Nil = tt
below-under c q (Cons k w ns ks ts) = names-under c None q (q ++ 1 ∷ []) 1 ks (λ i. (1 ∷ i ∷ [], append_assoc q (1 ∷ []) (i ∷ []))) tt

own-under : (r : Role) (c : Class) (q : List ℕ) (ks : Forest) → AllUnder q (with_class c (places_by r q ks))
own-under DefinesConstant c q ks = head-under c (Some q) q ks ([], sym (append-nil q))
own-under DefinesType c q ks = head-under c (Some q) q ks ([], sym (append-nil q))
own-under DeclaresVariables c q ks = below-under c q ks
own-under ListsElements c q ks = below-under c q ks
own-under (DeclaresRoutine d) c q ks = head-under c None q ks tt
own-under (DeclaresParameters d) c q ks = below-under c q ks
own-under _ c q ks = tt

pub classed-from : (p : List ℕ) (i : ℕ) (f : Forest) → AllFrom p i (classed_at p i f)
classed-from p i Nil = tt
classed-from p i (Cons k w ns ks ts) =
    let q : List ℕ = p ++ i ∷ [] in
    let below : AllUnder q (if is_routine_role (role k) then [] else classed_at q 1 ks) =
    elim (is_routine_role (role k)) as (λ (b : Bool). AllUnder q (if b then [] else classed_at q 1 ks)) [
      | true ↦ tt
      | false ↦ under-from q 1 _ (classed-from q 1 ks)
    ] in
    AllFrom-append p i _ (classed_at p (suc i) ts) (AllFrom-append p i _ _ (from-under p i _ (own-under (role k) (class_by (role k)) q ks)) (from-under p i _ below))
    (from-later p i _ (classed-from p (suc i) ts))

-- ---- which of them count for a place

before-apart : (p r s : List ℕ) (a b : ℕ) → is_before (p ++ a ∷ r) (p ++ b ∷ s) ≡ (if a == b then is_before r s else nat_lt a b)
before-apart [] r s a b = refl
before-apart (x ∷ p) r s a b = ap (λ t. if t then is_before (p ++ a ∷ r) (p ++ b ∷ s) else nat_lt x x) (eq-eqb x x refl) ∙ before-apart p r s a b

in-apart : (p r s : List ℕ) (a b : ℕ) → stands_in (p ++ a ∷ r) (p ++ b ∷ s) ≡ (a == b && stands_in r s)
in-apart [] r s a b = refl
in-apart (x ∷ p) r s a b = ap (λ t. t && stands_in (p ++ a ∷ r) (p ++ b ∷ s)) (eq-eqb x x refl) ∙ in-apart p r s a b

pub in-itself : (p r : List ℕ) → stands_in p (p ++ r) ≡ true
in-itself [] r = refl
in-itself (x ∷ p) r = ap (λ t. t && stands_in p (p ++ r)) (eq-eqb x x refl) ∙ in-itself p r

outside-definition : (p r : List ℕ) (a b : ℕ) (o : Option (List ℕ)) → (b ≡ a → ⊥) → DefinedUnder (p ++ b ∷ []) o → in_definition o (p ++ a ∷ r) ≡ false
outside-definition p r a b None ne h = refl
outside-definition p r a b (Some d) ne h =
    ap (λ x. stands_in x (p ++ a ∷ r)) (h.1 ∙ append_assoc p (b ∷ []) h.0) ∙ in-apart p h.0 r b a ∙ ap (λ t. t && stands_in h.0 r) (ne_eqb b a ne)

pub here-behind : (p r : List ℕ) (a i : ℕ) (d : Declared) (h : StandsFrom p i d) → h.kid < a → is_here (p ++ a ∷ r) d ≡ true
here-behind p r a i d h less =
    (λ j. not (before j) && not (outside-definition p r a h.kid d.definition (λ e. absurd (omega (arith, less, e))) h.definition j)) where
      before : is_before (p ++ a ∷ r) d.place ≡ false
      before =
          ap (is_before (p ++ a ∷ r)) h.place ∙ before-apart p r h.rest a h.kid
          ∙ ap (λ t. if t then is_before r h.rest else nat_lt a h.kid) (ne_eqb a h.kid (λ e. absurd (omega (arith, less, e)))) ∙ le-ltb a h.kid (omega (arith, less))

pub later-ahead : (p r : List ℕ) (a i : ℕ) (d : Declared) → StandsFrom p i d → a < i → is_here (p ++ a ∷ r) d ≡ false
later-ahead p r a i d h less = ap (λ t. not t && not (in_definition d.definition (p ++ a ∷ r))) before where
  before : is_before (p ++ a ∷ r) d.place ≡ true
  before =
      ap (is_before (p ++ a ∷ r)) h.place ∙ before-apart p r h.rest a h.kid
      ∙ ap (λ t. if t then is_before r h.rest else nat_lt a h.kid) (ne_eqb a h.kid (λ e. absurd (omega (arith, less, h.from, e)))) ∙ lt-ltb a h.kid (omega (arith, less, h.from))

-- ---- lists

pub AllAre-append : (t : Bool) (q : List ℕ) (xs ys : List Classed) → AllAre t q xs → AllAre t q ys → AllAre t q (xs ++ ys)
AllAre-append t q [] ys a b = b
AllAre-append t q (x ∷ xs) ys a b = (a.0, AllAre-append t q xs ys a.1 b)

-- what stands under a kid counts for a place in a later kid
pub under-here : (p r : List ℕ) (i j : ℕ) (es : List Classed) → i < j → AllUnder (p ++ i ∷ []) es → AllAre true (p ++ j ∷ r) es
under-here p r i j [] less a = tt
under-here p r i j (e ∷ es) less a =
    (here-behind p r j i e.at (record { kid = i; from = omega arith; rest = a.0.rest; place = a.0.place ∙ append_assoc p (i ∷ []) a.0.rest; definition = a.0.definition }) less, under-here p r i j es less a.1)

-- what stands under later kids doesn't
pub from-hidden : (p r : List ℕ) (i j : ℕ) (es : List Classed) → j < i → AllFrom p i es → AllAre false (p ++ j ∷ r) es
from-hidden p r i j [] less a = tt
from-hidden p r i j (e ∷ es) less a = (later-ahead p r j i e.at a.0 less, from-hidden p r i j es less a.1)

-- all that a tree declares stands under it
pub tree-under : (q : List ℕ) (r : Role) (ks : Forest) → AllUnder q (with_class (class_by r) (places_by r q ks) ++ (if is_routine_role r then [] else classed_at q 1 ks))
tree-under q r ks =
    let below : AllUnder q (if is_routine_role r then [] else classed_at q 1 ks) =
    elim (is_routine_role r) as (λ (b : Bool). AllUnder q (if b then [] else classed_at q 1 ks)) [
      | true ↦ tt
      | false ↦ under-from q 1 (classed_at q 1 ks) (classed-from q 1 ks)
    ] in
    AllUnder-append q (with_class (class_by r) (places_by r q ks)) _ (own-under r (class_by r) q ks) below

-- the names of a list in the first kid count for a place in a later one
pub names-here : (p r : List ℕ) (a j : ℕ) (c : Class) (f : Forest) → 1 < a → AllAre true (p ++ a ∷ r) (with_class c (names_at None (p ++ 1 ∷ []) j f))
names-here p r a j c Nil less = tt
names-here p r a j c (Cons k w ns ks ts) less =
    elim (is_hole k) as (λ (b : Bool). AllAre true (p ++ a ∷ r) (with_class c (if b then names_at None (p ++ 1 ∷ []) (suc j) ts
    else record { name = lowered w; place = (p ++ 1 ∷ []) ++ j ∷ []; definition = None } ∷ names_at None (p ++ 1 ∷ []) (suc j) ts))) [
      | true ↦ names-here p r a (suc j) c ts less
      | false ↦ (
        here-behind p r a 1 (record { name = lowered w; place = (p ++ 1 ∷ []) ++ j ∷ []; definition = None })
            (record { kid = 1; from = omega arith; rest = j ∷ []; place = append_assoc p (1 ∷ []) (j ∷ []); definition = tt }) less,
        names-here p r a (suc j) c ts less,
      )
    ]

-- a constant or a type that is being defined doesn't count in its definition
pub head-hidden : (q r : List ℕ) (c : Class) (ks : Forest) → AllAre false (q ++ r) (with_class c (name_at (Some q) q ks))
head-hidden q r c Nil = tt
head-hidden q r c (Cons k w ns ks ts) =
    elim (is_hole k) as (λ (b : Bool). AllAre false (q ++ r) (with_class c (if b then [] else record { name = lowered w; place = q ++ 1 ∷ []; definition = Some q } ∷ []))) [
      | true ↦ tt
      | false ↦ (ap (λ t. not (is_before (q ++ r) (q ++ 1 ∷ [])) && not t) (in-itself q r) ∙ no (not (is_before (q ++ r) (q ++ 1 ∷ []))), tt)
    ] where
      no : (b : Bool) → (b && false) ≡ false
      no true = refl
      no false = refl
