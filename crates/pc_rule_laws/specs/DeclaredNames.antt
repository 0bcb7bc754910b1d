-- What the rules say that the nodes of a block declare is what stands there by places.
use Rattle.std.proofs.Common.{List, None, Some, [], ap, append-nil, append_assoc, if◌then◌else◌, not, refl, subst, subst₂, suc, sym, ℕ, ◌&&◌, ◌++◌, ◌∙◌, ◌∷◌, ◌≡◌}
use Rattle.std.proofs.lemmas.Bool.{and_parts}
use Rattle.pc_rule_laws.specs.ClassedPlaces.{classed_at, with_class}
use Rattle.pc_rule_laws.specs.Matching.{Matches, Matches-append, matches-below, one-head}
use Rattle.pc_rule_laws.specs.NameNodes.{name-quiet, names-head, names-quiet}
use Rattle.pc_rule_laws.specs.Orderly.{HeadName, HeadNames, InOrder, IsPair, IsQuiet, IsRoutineOrGap, IsSingle, Orderly, RoutineList, silent-classed}
use Rattle.pc_rule_laws.specs.Roles.{DeclaresParameters, DeclaresRoutine, DeclaresVariables, DefinesConstant, DefinesType, Gap, Gathers, GathersOne, GathersTwo, ListsElements, ParameterPart, Quiet, Role, RoutinePart, TypePart, behind-role, behind_by, class_by, defines-role, defines_by, entered-role, entered_by, first_node, is_routine_role, keys, keys-append, one, places_by, role, second_node}
use Rattle.pc_rule_laws.specs.RoutineNames.{Waits, added, define_all-ahead, define_all-waiting, routine-matches, routine-waits, some-more}
use Rattle.pc_rule_laws.specs.Standing.{Classed, class_of, first_of}
use Rattle.pc_rules.specs.Attributes.{Attributes, Marked, kids_below, nodes}
use Rattle.pc_rules.specs.HandedOn.{all_defines}
use Rattle.pc_rules.specs.DeclaringNames.{names_in}
use Rattle.pc_rules.specs.Places.{beside, inner}
use Rattle.pc_rules.specs.Declarations.{head_or, heading_here, is_later_declaration, rest_of}
use Rattle.pc_rules.specs.Decorated.{decorate, rule, seen}
use Rattle.pc_rules.specs.Meanings.{Class, ConstantName, ElementName, Local, Meaning, Outside, TypeName, VariableName, entry_of}
use Rattle.pc_rules.specs.OwnBlock.{all_of_class}
use Rattle.pc_scope.specs.Declarations.{name_at, names_below}
use Rattle.pc_scope.specs.Headings.{Heading, any_pairs, heading_of, headings_in, without_pairs}
use Rattle.pc_syntax.specs.Plain.{Cons, Forest, Nil}
use Rattle.pc_syntax.specs.declared.kind.Kind.{Kind}

-- where a list of routines begins
pub record ListStarts (r : Role) (l : Local) (ks : Forest) (inside : Local) : Type 0 where
  pub ahead : inside.ahead ≡ (entered_by r l ks).ahead
  pub waiting : inside.waiting ≡ (entered_by r l ks).waiting

pub list-starts : (l : Local) (k : Kind) (ks : Forest) → ListStarts (role k) l ks (inner l k ks)
list-starts l k ks = record { ahead = ap (λ (x : Local). x.ahead) (entered-role l k ks); waiting = ap (λ (x : Local). x.waiting) (entered-role l k ks) }

-- where the next of a list of routines stands
pub record Steps (r : Role) (l : Local) (ds : List (List ℕ × Meaning)) (next : Local) : Type 0 where
  pub ahead : next.ahead ≡ (behind_by r l ds).ahead
  pub waiting : next.waiting ≡ (behind_by r l ds).waiting

pub steps : (l : Local) (k : Kind) (a : Attributes) → Steps (role k) l a.defines (beside l k a)
steps l k a = record { ahead = ap (λ (x : Local). x.ahead) (behind-role l k a); waiting = ap (λ (x : Local). x.waiting) (behind-role l k a) }

-- ---- routines

-- what is known while a list of routines is passed
pub record Passing (n : List ℕ) (f : Forest) (l : Local) (ds : List (List ℕ × Class)) (es : List Classed) : Type 0 where
  pub matches : Matches n ds es
  pub waits : Waits n l.waiting ds
  pub ahead : l.ahead ≡ headings_in f

-- one routine, or a hole, is passed
pub passing-step : (out : Outside) (b : ℕ) (bs q : List ℕ) (k : Kind) (r : Role) (l inside next : Local) (ks ts : Forest) (ms : List (List ℕ × Meaning)) (ds : List (List ℕ × Class)) (es : List Classed) →
    IsRoutineOrGap r ks → keys ms ≡ defines_by r l (decorate out inside ks) → Steps r l ms next →
    l.ahead ≡ heading_of k ks ∷ headings_in ts → Matches (b ∷ bs) ds es → Waits (b ∷ bs) l.waiting ds →
    Passing (b ∷ bs) ts next (ds ++ keys ms) (es ++ (with_class (class_by r) (places_by r q ks) ++ (if is_routine_role r then [] else classed_at q 1 ks)))
passing-step out b bs q k Gap l inside next Nil ts ms ds es h made s ahead m w = record {
  matches = Matches-append (b ∷ bs) ds (keys ms) es [] m (ap (λ cs. entry_of cs (b ∷ bs)) made);
  waits = λ g any same. some-more (b ∷ bs) ds (keys ms) (w g (ap (any_pairs g) (sym s.waiting) ∙ any) same);
  ahead = s.ahead ∙ ap rest_of ahead;
}
passing-step out b bs q k Gap l inside next (Cons j v os js us) ts ms ds es h made s ahead m w = absurd h
passing-step out b bs q k (DeclaresRoutine c) l inside next ks ts ms ds es h made s ahead m w =
    let own : List Classed = with_class c (name_at None q ks) in
    let g : Heading = heading_of k ks in
    let here : heading_here l ≡ g = ap head_or ahead in
    let later : is_later_declaration l ≡ (not g.is_forward && any_pairs g l.waiting) = ap (λ (x : Heading). not x.is_forward && any_pairs x l.waiting) here in
    let same : keys ms ≡ added out b bs q c l ks h inside (not g.is_forward && any_pairs g l.waiting) =
    made ∙ ap (λ t. if t then [] else one c (first_node (decorate out inside ks))) later in
    record {
      matches = rw (same, append-nil own) (routine-matches out b bs q c l ks h inside (not g.is_forward && any_pairs g l.waiting) ds es
          (λ t e. w g (and_parts (not g.is_forward) (any_pairs g l.waiting) t).1 e) m);
      waits =
          subst₂ (λ (ws : List Heading) (cs : List (List ℕ × Class)). Waits (b ∷ bs) ws (ds ++ cs))
          (sym (s.waiting ∙ (λ i. if (ap head_or (define_all-ahead l ms ∙ ahead) i).is_forward then ap head_or (define_all-ahead l ms ∙ ahead) i ∷ define_all-waiting l ms i
          else without_pairs (ap head_or (define_all-ahead l ms ∙ ahead) i) (define_all-waiting l ms i)))) (sym same)
          (routine-waits out b bs q c l ks h inside g l.waiting ds refl w);
      ahead = s.ahead ∙ ap rest_of (define_all-ahead l ms ∙ ahead);
    }
passing-step out b bs q k Gathers l inside next ks ts ms ds es h made s ahead m w = absurd h
passing-step out b bs q k _ l inside next ks ts ms ds es h made s ahead m w = absurd h

-- the routines of a list
pub routines-declare : (out : Outside) (b : ℕ) (bs p : List ℕ) (i : ℕ) (l : Local) (f : Forest) (ds : List (List ℕ × Class)) (es : List Classed) → RoutineList f → Passing (b ∷ bs) f l ds es →
    Matches (b ∷ bs) (ds ++ keys (all_defines (nodes (decorate out l f)))) (es ++ classed_at p i f)
unfolding decorate
routines-declare out b bs p i l Nil ds es h x = Matches-append (b ∷ bs) ds [] es [] x.matches refl
routines-declare out b bs p i l (Cons k w ns ks ts) ds es h x =
    let inside : Local = inner l k ks in
    let a : Attributes = rule l k w (seen out l k w) (decorate out inside ks) in
    let next : Local = beside l k a in
    let q : List ℕ = p ++ i ∷ [] in
    let here : List Classed = with_class (class_by (role k)) (places_by (role k) q ks) ++ (if is_routine_role (role k) then [] else classed_at q 1 ks) in
    let y : Passing (b ∷ bs) ts next (ds ++ keys a.defines) (es ++ here) =
    passing-step out b bs q k (role k) l inside next ks ts a.defines ds es h.0 (defines-role l k w (seen out l k w) (decorate out inside ks)) (steps l k a) x.ahead x.matches x.waits in
    let rest : Matches (b ∷ bs) ((ds ++ keys a.defines) ++ keys (all_defines (nodes (decorate out next ts)))) ((es ++ here) ++ classed_at p (suc i) ts) =
    routines-declare out b bs p (suc i) next ts (ds ++ keys a.defines) (es ++ here) h.1 y in
    ap (λ zs. entry_of zs (b ∷ bs)) (ap (λ zs. ds ++ zs) (keys-append a.defines (all_defines (nodes (decorate out next ts)))) ∙ sym (append_assoc ds (keys a.defines) (keys (all_defines (nodes (decorate out next ts))))))
    ∙ rest ∙ ap (λ zs. class_of (first_of zs (b ∷ bs))) (append_assoc es here (classed_at p (suc i) ts))

-- ---- other nodes

abbrev HeadQuiet : Forest → Type 0
HeadQuiet Nil = Unit {0}
HeadQuiet (Cons k w ns ks ts) = IsQuiet (role k)

quiet-defines : (r : Role) (l : Local) (m : Marked) → IsQuiet r → defines_by r l m ≡ []
quiet-defines Quiet l m h = refl
quiet-defines Gap l m h = refl
quiet-defines Gathers l m h = absurd h
quiet-defines _ l m h = absurd h

head-quiet : (ks : Forest) → HeadName ks → HeadQuiet ks
head-quiet Nil h = tt
head-quiet (Cons k w ns ks ts) h = name-quiet k h.0

heads-quiet : (ks : Forest) → HeadNames ks → HeadQuiet ks
heads-quiet Nil h = tt
heads-quiet (Cons k w ns ks ts) h = subst IsQuiet (sym (names-quiet k h.0)) tt

-- where the first of two nodes declares nothing, the second declares what both do
second-defines : (out : Outside) (l : Local) (ks : Forest) → IsPair ks → HeadQuiet ks → keys (second_node (decorate out l ks)).defines ≡ keys (all_defines (nodes (decorate out l ks)))
unfolding decorate
second-defines out l Nil p h = absurd p
second-defines out l (Cons k w ns ks Nil) p h = absurd p
second-defines out l (Cons k w ns ks (Cons j v os js (Cons a b c d e))) p h = absurd p
second-defines out l (Cons k w ns ks (Cons j v os js Nil)) p h =
    let m : Marked = decorate out (inner l k ks) ks in
    let a : Attributes = rule l k w (seen out l k w) m in
    let n : Local = beside l k a in
    let d : Attributes = rule n j v (seen out n j v) (decorate out (inner n j js) js) in
    sym (keys-append a.defines (d.defines ++ []) ∙ (λ i. (defines-role l k w (seen out l k w) m ∙ quiet-defines (role k) l m h) i ++ ap keys (append-nil d.defines) i))

-- all of the nodes, where there are one or two
one-defines : (out : Outside) (l : Local) (ks : Forest) → IsSingle ks → keys (all_defines (first_node (decorate out l ks) ∷ [])) ≡ keys (all_defines (nodes (decorate out l ks)))
unfolding decorate
one-defines out l Nil p = absurd p
one-defines out l (Cons k w ns ks Nil) p = refl
one-defines out l (Cons k w ns ks (Cons j v os js ts)) p = absurd p

two-defines : (out : Outside) (l : Local) (ks : Forest) → IsPair ks →
    keys (all_defines (first_node (decorate out l ks) ∷ second_node (decorate out l ks) ∷ [])) ≡ keys (all_defines (nodes (decorate out l ks)))
unfolding decorate
two-defines out l Nil p = absurd p
two-defines out l (Cons k w ns ks Nil) p = absurd p
two-defines out l (Cons k w ns ks (Cons j v os js Nil)) p = refl
two-defines out l (Cons k w ns ks (Cons j v os js (Cons a b c d e))) p = absurd p

-- the names of a block, from each of its nodes
defines-at : (out : Outside) (b : ℕ) (bs q : List ℕ) (r : Role) (l inside : Local) (ks : Forest) → InOrder r ks (Orderly ks) → ListStarts r l ks inside →
    (Orderly ks → Matches (b ∷ bs) (keys (all_defines (nodes (decorate out inside ks)))) (classed_at q 1 ks)) →
    Matches (b ∷ bs) (defines_by r l (decorate out inside ks)) (with_class (class_by r) (places_by r q ks) ++ (if is_routine_role r then [] else classed_at q 1 ks))
defines-at out b bs q Quiet l inside ks h s ih = ap (λ es. class_of (first_of es (b ∷ bs))) (sym (silent-classed q 1 ks h))
defines-at out b bs q Gap l inside Nil h s ih = refl
defines-at out b bs q Gap l inside (Cons k w ns ks ts) h s ih = absurd h
defines-at out b bs q Gathers l inside ks h s ih = ih h
defines-at out b bs q GathersOne l inside ks h s ih = ap (λ ds. entry_of ds (b ∷ bs)) (one-defines out inside ks h.0) ∙ ih h.1
defines-at out b bs q GathersTwo l inside ks h s ih = ap (λ ds. entry_of ds (b ∷ bs)) (two-defines out inside ks h.0) ∙ ih h.1
defines-at out b bs q TypePart l inside ks h s ih = ih h
defines-at out b bs q RoutinePart l inside ks h s ih =
    routines-declare out b bs q 1 inside ks [] [] h
    (record { matches = refl; waits = λ g any same. cc (ap (any_pairs g) (sym s.waiting) ∙ any); ahead = s.ahead })
defines-at out b bs q DefinesConstant l inside ks h s ih =
    one-head out inside (b ∷ bs) ConstantName (Some q) q ks h.0
    ∙ ap (λ es. class_of (first_of es (b ∷ bs))) (sym (append-nil (with_class ConstantName (name_at (Some q) q ks))) ∙ ap (λ es. with_class ConstantName (name_at (Some q) q ks) ++ es) (sym (silent-classed q 1 ks h.1)))
defines-at out b bs q DefinesType l inside ks h s ih =
    Matches-append (b ∷ bs) (one TypeName (first_node (decorate out inside ks))) (keys (second_node (decorate out inside ks)).defines) (with_class TypeName (name_at (Some q) q ks)) (classed_at q 1 ks)
    (one-head out inside (b ∷ bs) TypeName (Some q) q ks h.0)
    (ap (λ ds. entry_of ds (b ∷ bs)) (second-defines out inside ks h.1 (head-quiet ks h.0)) ∙ ih h.2)
defines-at out b bs q DeclaresVariables l inside ks h s ih =
    Matches-append (b ∷ bs) (all_of_class VariableName (names_in (kids_below (first_node (decorate out inside ks))))) (keys (second_node (decorate out inside ks)).defines) (with_class VariableName (names_below q ks)) (classed_at q 1 ks)
    (ap (λ ns. entry_of (all_of_class VariableName ns) (b ∷ bs)) (names-head out inside ks h.0) ∙ matches-below (b ∷ bs) VariableName q ks)
    (ap (λ ds. entry_of ds (b ∷ bs)) (second-defines out inside ks h.1 (heads-quiet ks h.0)) ∙ ih h.2)
defines-at out b bs q ListsElements l inside ks h s ih =
    ap (λ ns. entry_of (all_of_class ElementName ns) (b ∷ bs)) (names-head out inside ks h.0) ∙ matches-below (b ∷ bs) ElementName q ks
    ∙ ap (λ es. class_of (first_of es (b ∷ bs))) (sym (append-nil (with_class ElementName (names_below q ks))) ∙ ap (λ es. with_class ElementName (names_below q ks) ++ es) (sym (silent-classed q 1 ks h.2)))
defines-at out b bs q ParameterPart l inside ks h s ih = absurd h
defines-at out b bs q (DeclaresRoutine c) l inside ks h s ih = absurd h
defines-at out b bs q (DeclaresParameters c) l inside ks h s ih = absurd h

pub trees-declare : (out : Outside) (b : ℕ) (bs p : List ℕ) (i : ℕ) (l : Local) (f : Forest) → Orderly f → Matches (b ∷ bs) (keys (all_defines (nodes (decorate out l f)))) (classed_at p i f)
unfolding decorate
trees-declare out b bs p i l Nil h = refl
trees-declare out b bs p i l (Cons k w ns ks ts) h =
    let inside : Local = inner l k ks in
    let m : Marked = decorate out inside ks in
    let a : Attributes = rule l k w (seen out l k w) m in
    let next : Local = beside l k a in
    let q : List ℕ = p ++ i ∷ [] in
    let here : List Classed = with_class (class_by (role k)) (places_by (role k) q ks) ++ (if is_routine_role (role k) then [] else classed_at q 1 ks) in
    ap (λ zs. entry_of zs (b ∷ bs)) (keys-append a.defines (all_defines (nodes (decorate out next ts))))
    ∙ Matches-append (b ∷ bs) (keys a.defines) (keys (all_defines (nodes (decorate out next ts)))) here (classed_at p (suc i) ts)
    (ap (λ zs. entry_of zs (b ∷ bs)) (defines-role l k w (seen out l k w) m) ∙ defines-at out b bs q (role k) l inside ks h.0 (list-starts l k ks) (trees-declare out b bs q 1 inside ks))
    (trees-declare out b bs p (suc i) next ts h.1)

-- one tree
pub tree-declares : (out : Outside) (b : ℕ) (bs q : List ℕ) (l : Local) (k : Kind) (w : List ℕ) (ks : Forest) → InOrder (role k) ks (Orderly ks) →
    Matches (b ∷ bs) (keys (rule l k w (seen out l k w) (decorate out (inner l k ks) ks)).defines)
    (with_class (class_by (role k)) (places_by (role k) q ks) ++ (if is_routine_role (role k) then [] else classed_at q 1 ks))
tree-declares out b bs q l k w ks h =
    ap (λ zs. entry_of zs (b ∷ bs)) (defines-role l k w (seen out l k w) (decorate out (inner l k ks) ks))
    ∙ defines-at out b bs q (role k) l (inner l k ks) ks h (list-starts l k ks) (trees-declare out b bs q 1 (inner l k ks) ks)
