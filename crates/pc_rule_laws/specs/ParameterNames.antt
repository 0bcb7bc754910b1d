-- The parameters of a routine, by its heading and by places.
use Rattle.std.proofs.Common.{Bool, List, None, Option, Some, [], ap, append-nil, bytes_eq, false, if◌then◌else◌, refl, suc, sym, true, ℕ, ◌++◌, ◌||◌, ◌∙◌, ◌∷◌, ◌≡◌}
use Rattle.pc_rule_laws.specs.ClassedPlaces.{classed_at, places_in-classed, with_class}
use Rattle.pc_rule_laws.specs.Matching.{Matches, Matches-append, matches-below}
use Rattle.pc_rule_laws.specs.NameNodes.{names-head}
use Rattle.pc_rule_laws.specs.Orderly.{HeadNames, IsNil, Silent, silent-classed}
use Rattle.pc_rule_laws.specs.Roles.{DeclaresParameters, Gap, Quiet, Role, class_by, defines-role, defines_by, is_routine_role, keys, keys-append, places_by, role, second_node}
use Rattle.pc_rule_laws.specs.Standing.{Classed, class_of, equal, first_of, places_in}
use Rattle.pc_rules.specs.Attributes.{Attributes, Marked, nodes}
use Rattle.pc_rules.specs.HandedOn.{all_defines}
use Rattle.pc_rules.specs.Places.{beside, inner}
use Rattle.pc_rules.specs.Decorated.{decorate, rule, seen}
use Rattle.pc_rules.specs.Meanings.{Class, Local, Meaning, Outside, entry_of}
use Rattle.pc_rules.specs.OwnBlock.{all_of_class}
use Rattle.pc_rules.specs.Routines.{firsts}
use Rattle.pc_scope.specs.Waiting.{parameters_of}
use Rattle.pc_scope.specs.Declarations.{names_below}
use Rattle.pc_syntax.specs.Plain.{Cons, Forest, Nil}
use Rattle.pc_syntax.specs.Words.{is_among}
use Rattle.pc_syntax.specs.declared.kind.Kind.{Kind}
use Rattle.pc_syntax.specs.declared.kind.Kind.TheVariants as kind

abbrev pub IsParameterOrGap : Role → Forest → Type 0
IsParameterOrGap (DeclaresParameters c) ks = HeadNames ks × Silent ks
IsParameterOrGap Gap ks = IsNil ks
IsParameterOrGap _ ks = ⊥

abbrev pub ParameterList : Forest → Type 0
ParameterList Nil = Unit {0}
ParameterList (Cons k w ns ks ts) = IsParameterOrGap (role k) ks × ParameterList ts

parameter-at : (out : Outside) (n q : List ℕ) (r : Role) (l inside : Local) (ks : Forest) → IsParameterOrGap r ks →
    Matches n (defines_by r l (decorate out inside ks)) (with_class (class_by r) (places_by r q ks) ++ (if is_routine_role r then [] else classed_at q 1 ks))
parameter-at out n q (DeclaresParameters c) l inside ks h =
    ap (λ ns. entry_of (all_of_class c ns) n) (names-head out inside ks h.0) ∙ matches-below n c q ks
    ∙ ap (λ es. class_of (first_of es n)) (sym (append-nil (with_class c (names_below q ks))) ∙ ap (λ es. with_class c (names_below q ks) ++ es) (sym (silent-classed q 1 ks h.1)))
parameter-at out n q Gap l inside Nil h = refl
parameter-at out n q Gap l inside (Cons k w ns ks ts) h = absurd h
parameter-at out n q Quiet l inside ks h = absurd h
parameter-at out n q _ l inside ks h = absurd h

-- what the nodes of a parameter list declare
pub parameters-declare : (out : Outside) (n p : List ℕ) (i : ℕ) (l : Local) (f : Forest) → ParameterList f → Matches n (keys (all_defines (nodes (decorate out l f)))) (classed_at p i f)
unfolding decorate
parameters-declare out n p i l Nil h = refl
parameters-declare out n p i l (Cons k w ns ks ts) h =
    let m : Marked = decorate out (inner l k ks) ks in
    let a : Attributes = rule l k w (seen out l k w) m in
    let q : List ℕ = p ++ i ∷ [] in
    let here : List Classed = with_class (class_by (role k)) (places_by (role k) q ks) ++ (if is_routine_role (role k) then [] else classed_at q 1 ks) in
    ap (λ zs. entry_of zs n) (keys-append a.defines (all_defines (nodes (decorate out (beside l k a) ts))))
    ∙ Matches-append n (keys a.defines) (keys (all_defines (nodes (decorate out (beside l k a) ts)))) here (classed_at p (suc i) ts)
    (ap (λ zs. entry_of zs n) (defines-role l k w (seen out l k w) m) ∙ parameter-at out n q (role k) l (inner l k ks) ks h.0)
    (parameters-declare out n p (suc i) (beside l k a) ts h.1)

abbrev no_class : Option Class
no_class = None

no_more : (t : Bool) → no_class ≡ (if t then no_class else no_class)
no_more true = refl
no_more false = refl

-- the first of each name are those that count
pub firsts-count : (before : List (List ℕ)) (ds : List (List ℕ × Meaning)) (n : List ℕ) → entry_of (keys (firsts before ds)) n ≡ (if is_among before n then None else entry_of (keys ds) n)
firsts-count before [] n = no_more (is_among before n)
firsts-count before (d ∷ ds) n =
    by (bytes_eq d.0 n) (is_among before d.0) (is_among before n) refl (λ e. ap (is_among before) (equal d.0 n e)) (firsts-count before ds n) (firsts-count (d.0 ∷ before) ds n) where
      by : (b s t : Bool) → bytes_eq d.0 n ≡ b → (b ≡ true → s ≡ t) → entry_of (keys (firsts before ds)) n ≡ (if t then None else entry_of (keys ds) n) →
          entry_of (keys (firsts (d.0 ∷ before) ds)) n ≡ (if bytes_eq d.0 n || t then None else entry_of (keys ds) n) →
          entry_of (keys (if s then firsts before ds else d ∷ firsts (d.0 ∷ before) ds)) n ≡ (if t then None else (if b then Some d.1.class else entry_of (keys ds) n))
      by true true true e f ih more = ih
      by true true false e f ih more = cc (f refl)
      by true false true e f ih more = cc (f refl)
      by true false false e f ih more = ap (λ x. if x then Some d.1.class else entry_of (keys (firsts (d.0 ∷ before) ds)) n) e
      by false true t e f ih more = ih
      by false false t e f ih more =
          ap (λ x. if x then Some d.1.class else entry_of (keys (firsts (d.0 ∷ before) ds)) n) e ∙ more ∙ ap (λ x. if x || t then None else entry_of (keys ds) n) e

-- the parameters of a heading: a name, and the node of its parameters
pub heading-parameters : (out : Outside) (n q : List ℕ) (l : Local) (k : Kind) (v w : List ℕ) (os ns : List (List ℕ)) (js ps ts : Forest) → ParameterList ps →
    Matches n (keys (firsts [] (second_node (decorate out l (Cons k v os js (Cons kind.Params w ns ps ts)))).defines)) (classed_at (q ++ 2 ∷ []) 1 ps)
unfolding decorate
heading-parameters out n q l k v w os ns js ps ts h =
    let a : Attributes = rule l k v (seen out l k v) (decorate out (inner l k js) js) in
    let x : Local = beside l k a in
    let m : Marked = decorate out (inner x kind.Params ps) ps in
    firsts-count [] (rule x kind.Params w (seen out x kind.Params w) m).defines n
    ∙ ap (λ zs. entry_of zs n) (defines-role x kind.Params w (seen out x kind.Params w) m)
    ∙ parameters-declare out n (q ++ 2 ∷ []) 1 (inner x kind.Params ps) ps h

-- and they are those that the look-up by places takes
pub parameters-placed : (q : List ℕ) (k : Kind) (v w : List ℕ) (os ns : List (List ℕ)) (js ps ts : Forest) →
    places_in (classed_at (q ++ 2 ∷ []) 1 ps) ≡ parameters_of q (Cons k v os js (Cons kind.Params w ns ps ts))
parameters-placed q k v w os ns js ps ts = places_in-classed (q ++ 2 ∷ []) 1 ps
