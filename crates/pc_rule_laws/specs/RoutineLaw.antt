-- The two look-ups agree around the own block of each routine of a block.
use Rattle.std.proofs.Common.{Bool, List, None, Option, Some, [], ap, append-nil, append_assoc, arith, bytes_eq, eqb-true, false, if◌then◌else◌, le_of_eq, refl, subst, suc, sym, true, ℕ, ◌++◌, ◌<◌, ◌==◌, ◌∙◌, ◌∷◌, ◌≡◌, ◌≤◌}
use Rattle.pc_rule_laws.specs.Agreement.{Agrees, seen_among}
use Rattle.pc_rule_laws.specs.BlockLaw.{Knows-start}
use Rattle.pc_rule_laws.specs.ClassedPlaces.{AllAre-append, classed-from, classed_at, from-hidden, here-behind, places_in-append, places_in-classed, tree-under, under-here, with_class}
use Rattle.pc_rule_laws.specs.DeclaredNames.{Passing, passing-step, steps}
use Rattle.pc_rule_laws.specs.Matching.{Matches, Matches-append, matches-declared}
use Rattle.pc_rule_laws.specs.Orderly.{InOrder, IsRoutineOrGap, Orderly, RoutineList}
use Rattle.pc_rule_laws.specs.Reached.{Reached}
use Rattle.pc_rule_laws.specs.Roles.{DeclaresRoutine, Gap, Quiet, Role, RoutinePart, class_by, defines-role, entered-role, entered_by, is_routine_role, keys, places_by, role}
use Rattle.pc_rule_laws.specs.RoutineSteps.{routine-known}
use Rattle.pc_rule_laws.specs.Standing.{AllAre, AllClassed, Classed, Knows, Knows-agrees, Knows-moved, class_of, first_of, places_in}
use Rattle.pc_rule_laws.specs.Within.{beside-names, inner-names, known-beside}
use Rattle.pc_rules.specs.Attributes.{Attributes, first}
use Rattle.pc_rules.specs.Places.{beside, entered, inner, opens_records}
use Rattle.pc_rules.specs.Decorated.{decorate, rule, seen}
use Rattle.pc_rules.specs.Meanings.{Class, Local, Meaning, Outside, entry_of, find}
use Rattle.pc_rules.specs.Routines.{block_start}
use Rattle.pc_rules.specs.OwnBlock.{declared_in}
use Rattle.pc_scope.specs.Declarations.{Meant, declared_at, name_at}
use Rattle.pc_scope.specs.Headings.{any_pairs, headings_in}
use Rattle.pc_syntax.specs.Places.{at}
use Rattle.pc_syntax.specs.Plain.{Cons, Forest, Nil}
use Rattle.pc_syntax.specs.Sorts.{is_hole}
use Rattle.pc_syntax.specs.Words.{lowered}
use Rattle.pc_syntax.specs.declared.kind.Kind.{Kind}
use Rattle.pc_types.specs.Sameness.{same}
use Rattle.pc_types.specs.Shapes.{Owner}
use Rattle.pc_syntax.specs.declared.kind.Kind.TheVariants as kind

-- where a node stands behind the routine with a number, among routines of which the first has the number i: what names mean there is what they
-- mean around the own block of that routine
unfoldable pub behind_routine : Outside → Local → ℕ → Forest → ℕ → Option Local
behind_routine out l i Nil j = None
behind_routine out l i (Cons k w ns ks ts) j =
    if i == j then Some (beside l k (first (decorate out l (Cons k w ns ks Nil))))
    else behind_routine out (beside l k (first (decorate out l (Cons k w ns ks Nil)))) (suc i) ts j

behind-least : (out : Outside) (l : Local) (i : ℕ) (f : Forest) (j : ℕ) (x : Local) → behind_routine out l i f j ≡ Some x → i ≤ j
unfolding behind_routine
behind-least out l i Nil j x e = cc e
behind-least out l i (Cons k w ns ks ts) j x e = by (i == j) refl e (behind-least out (beside l k (first (decorate out l (Cons k w ns ks Nil)))) (suc i) ts j x) where
  by : (t : Bool) → (i == j) ≡ t → (if t then Some (beside l k (first (decorate out l (Cons k w ns ks Nil)))) else behind_routine out (beside l k (first (decorate out l (Cons k w ns ks Nil)))) (suc i) ts j) ≡ Some x →
      (behind_routine out (beside l k (first (decorate out l (Cons k w ns ks Nil)))) (suc i) ts j ≡ Some x → suc i ≤ j) → i ≤ j
  by true same e ih = le_of_eq (eqb-true i j same)
  by false same e ih = omega (arith, ih e)

-- a name counts for the places in the later kids of its routine
head-here : (x way : List ℕ) (m : ℕ) (c : Class) (ks : Forest) → 1 < m → AllAre true (x ++ m ∷ way) (with_class c (name_at None x ks))
head-here x way m c Nil less = tt
head-here x way m c (Cons k w ns ks ts) less =
    elim (is_hole k) as (λ (b : Bool). AllAre true (x ++ m ∷ way) (with_class c (if b then [] else record { name = lowered w; place = x ++ 1 ∷ []; definition = None } ∷ []))) [
      | true ↦ tt
      | false ↦
          (here-behind x way m 1 (record { name = lowered w; place = x ++ 1 ∷ []; definition = None }) (record { kid = 1; from = omega arith; rest = []; place = refl; definition = tt }) less, tt)
    ]

routine-here : (x way : List ℕ) (m : ℕ) (r : Role) (ks : Forest) → IsRoutineOrGap r ks → 1 < m →
    AllAre true (x ++ m ∷ way) (with_class (class_by r) (places_by r x ks) ++ (if is_routine_role r then [] else classed_at x 1 ks))
routine-here x way m (DeclaresRoutine c) ks h less = subst (AllAre true (x ++ m ∷ way)) (sym (append-nil (with_class c (name_at None x ks)))) (head-here x way m c ks less)
routine-here x way m Gap Nil h less = tt
routine-here x way m Gap (Cons k w ns ks ts) h less = absurd h
routine-here x way m Quiet ks h less = absurd h
routine-here x way m _ ks h less = absurd h

-- the next routine
pub passing-next : (out : Outside) (b : ℕ) (bs x : List ℕ) (l : Local) (k : Kind) (w : List ℕ) (ns : List (List ℕ)) (ks ts : Forest) (ds : List (List ℕ × Class)) (es : List Classed) →
    IsRoutineOrGap (role k) ks → Passing (b ∷ bs) (Cons k w ns ks ts) l ds es →
    Passing (b ∷ bs) ts (beside l k (first (decorate out l (Cons k w ns ks Nil)))) (ds ++ keys (first (decorate out l (Cons k w ns ks Nil))).defines)
    (es ++ (with_class (class_by (role k)) (places_by (role k) x ks) ++ (if is_routine_role (role k) then [] else classed_at x 1 ks)))
unfolding decorate
passing-next out b bs x l k w ns ks ts ds es h passing =
    let a : Attributes = rule l k w (seen out l k w) (decorate out (inner l k ks) ks) in
    passing-step out b bs x k (role k) l (inner l k ks) (beside l k a) ks ts a.defines ds es h (defines-role l k w (seen out l k w) (decorate out (inner l k ks) ks)) (steps l k a)
    passing.ahead passing.matches passing.waits

-- Behind a routine its Local knows what stands before a place in the routine's block, and the other declarations of the block don't count there.
pub reach-routine : (out : Outside) (b : ℕ) (bs p q : List ℕ) (i : ℕ) (l : Local) (f : Forest) (j m : ℕ) (way : List ℕ) (ds : List (List ℕ × Class)) (es more : List Classed) (x : Local) →
    RoutineList f → Passing (b ∷ bs) f l ds es → behind_routine out l i f j ≡ Some x → q ≡ p ++ j ∷ m ∷ way → 1 < m → Knows q (b ∷ bs) l es → AllAre false q more →
    Reached q (b ∷ bs) x (es ++ (classed_at p i f ++ more))
unfolding behind_routine
reach-routine out b bs p q i l Nil j m way ds es more x o passing e at less h hidden = cc e
reach-routine out b bs p q i l (Cons k w ns ks ts) j m way ds es more x o passing e at less h hidden =
    by (i == j) refl e
    (λ y. reach-routine out b bs p q (suc i) next ts j m way (ds ++ keys (first (decorate out l (Cons k w ns ks Nil))).defines) (es ++ here) more x o.1
    (passing-next out b bs (p ++ i ∷ []) l k w ns ks ts ds es o.0 passing) y at less) where
      n : List ℕ
      n = b ∷ bs

      next : Local
      next = beside l k (first (decorate out l (Cons k w ns ks Nil)))

      here : List Classed
      here = with_class (class_by (role k)) (places_by (role k) (p ++ i ∷ []) ks) ++ (if is_routine_role (role k) then [] else classed_at (p ++ i ∷ []) 1 ks)

      behind : List Classed
      behind = classed_at p (suc i) ts

      regrouped : Reached q n x ((es ++ here) ++ (behind ++ more)) → Reached q n x (es ++ ((here ++ behind) ++ more))
      regrouped g = subst (Reached q n x) (append_assoc es here (behind ++ more) ∙ ap (λ z. es ++ z) (sym (append_assoc here behind more))) g

      known : AllAre true q here → Knows q n next (es ++ here)
      known all = routine-known out q (p ++ i ∷ []) b bs l k w ns ks ts ds es o.0 passing h all

      by : (t : Bool) → (i == j) ≡ t → (if t then Some next else behind_routine out next (suc i) ts j) ≡ Some x →
          (behind_routine out next (suc i) ts j ≡ Some x → Knows q n next (es ++ here) → AllAre false q more → Reached q n x ((es ++ here) ++ (behind ++ more))) →
          Reached q n x (es ++ ((here ++ behind) ++ more))
      by true t e ih =
          let same : i ≡ j = eqb-true i j t in
          let to : q ≡ (p ++ i ∷ []) ++ m ∷ way = at ∙ (λ z. p ++ sym same z ∷ m ∷ way) ∙ sym (append_assoc p (i ∷ []) (m ∷ way)) in
          let it : next ≡ x = cc e in
          regrouped (record {
            before = es ++ here;
            others = behind ++ more;
            knows = subst (λ (z : Local). Knows q n z (es ++ here)) it (known (subst (λ z. AllAre true z here) (sym to) (routine-here (p ++ i ∷ []) way m (role k) ks o.0 less)));
            hidden =
                AllAre-append false q behind more
                (subst (λ z. AllAre false z behind) (sym at) (from-hidden p (m ∷ way) (suc i) j behind (omega (arith, same)) (classed-from p (suc i) ts))) hidden;
            whole = refl;
          })
      by false t e ih =
          let far : i < j = omega (arith, behind-least out next (suc i) ts j x e) in
          regrouped (ih e (known (subst (λ z. AllAre true z here) (sym at) (under-here p (m ∷ way) i j here far (tree-under (p ++ i ∷ []) (role k) ks)))) hidden)

-- ---- from the begin of the block

-- no fields are open there, and the names of the block are the same
record Plainly (l x : Local) : Type 0 where
  pub names : x.names ≡ l.names
  pub fields : x.fields ≡ []
  pub opening : x.opening ≡ false

plainly-beside : (l x : Local) (k : Kind) (a : Attributes) → Plainly l x → Plainly l (beside x k a)
plainly-beside l x k a h = record {
  names = beside-names x k a ∙ h.names;
  fields = ap (λ t. if t then a.opens ++ x.fields else x.fields) h.opening ∙ h.fields;
  opening = h.opening;
}

plainly-entered : (r : Role) (l x : Local) (ks : Forest) → r ≡ RoutinePart → Plainly l x → (entered_by r x ks).fields ≡ []
plainly-entered RoutinePart l x ks e h = h.fields
plainly-entered Quiet l x ks e h = cc e
plainly-entered _ l x ks e h = cc e

closed-role : (k : Kind) → role k ≡ RoutinePart → opens_records k ≡ false
closed-role kind.Routines e = refl
closed-role _ e = cc e

plainly-inner : (l x : Local) (k : Kind) (ks : Forest) → role k ≡ RoutinePart → Plainly l x → Plainly l (inner x k ks)
plainly-inner l x k ks e h = record {
  names = inner-names x k ks ∙ h.names;
  fields = ap (λ (y : Local). y.fields) (entered-role x k ks) ∙ plainly-entered (role k) l x ks e h;
  opening = closed-role k e;
}

plainly-behind : (out : Outside) (l x : Local) (i : ℕ) (f : Forest) (j : ℕ) (y : Local) → Plainly l x → behind_routine out x i f j ≡ Some y → Plainly l y
unfolding behind_routine
plainly-behind out l x i Nil j y h e = cc e
plainly-behind out l x i (Cons k w ns ks ts) j y h e =
    by (i == j) e (plainly-behind out l (beside x k (first (decorate out x (Cons k w ns ks Nil)))) (suc i) ts j y (plainly-beside l x k (first (decorate out x (Cons k w ns ks Nil))) h)) where
      by : (t : Bool) → (if t then Some (beside x k (first (decorate out x (Cons k w ns ks Nil)))) else behind_routine out (beside x k (first (decorate out x (Cons k w ns ks Nil)))) (suc i) ts j) ≡ Some y →
          (behind_routine out (beside x k (first (decorate out x (Cons k w ns ks Nil)))) (suc i) ts j ≡ Some y → Plainly l y) → Plainly l y
      by true e ih =
          let it : beside x k (first (decorate out x (Cons k w ns ks Nil))) ≡ y = cc e in
          subst (Plainly l) it (plainly-beside l x k (first (decorate out x (Cons k w ns ks Nil))) h)
      by false e ih = ih e

-- where the next kid of a block stands
abbrev pub past : Outside → Local → Kind → List ℕ → List (List ℕ) → Forest → Local
past out l k w ns ks = beside l k (first (decorate out l (Cons k w ns ks Nil)))

-- declarations by their names and classes
abbrev keys_at : List Classed → List (List ℕ × Class)
keys_at [] = []
keys_at (e ∷ es) = (e.at.name, e.class) ∷ keys_at es

keys_at-match : (n : List ℕ) (es : List Classed) → Matches n (keys_at es) es
keys_at-match n [] = refl
keys_at-match n (e ∷ es) =
    elim (bytes_eq e.at.name n) as (λ (b : Bool). (if b then Some e.class else entry_of (keys_at es) n) ≡ class_of (if b then Some e else first_of es n)) [
      | true ↦ refl
      | false ↦ keys_at-match n es
    ]

abbrev tree_at : List ℕ → Kind → Forest → List Classed
tree_at x k ks = with_class (class_by (role k)) (places_by (role k) x ks) ++ (if is_routine_role (role k) then [] else classed_at x 1 ks)

-- what is known where a list of routines begins
module _ (out : Outside) (b : ℕ) (bs p : List ℕ) (l : Local) (es : List Classed) (k1 k2 k3 k4 : Kind) (w1 w2 w3 w4 : List ℕ) (n1 n2 n3 n4 : List (List ℕ)) (c1 c2 c3 rs rest heads : Forest)
    (orderly : Orderly (Cons k1 w1 n1 c1 (Cons k2 w2 n2 c2 (Cons k3 w3 n3 c3 (Cons k4 w4 n4 rs rest))))) (part : role k4 ≡ RoutinePart) (same : headings_in heads ≡ headings_in rs) where
  abbrev n : List ℕ
  n = b ∷ bs

  l2 : Local
  l2 = past out l k1 w1 n1 c1

  l3 : Local
  l3 = past out l2 k2 w2 n2 c2

  l4 : Local
  l4 = past out l3 k3 w3 n3 c3

  abbrev pub routines_start : Local
  routines_start = inner (past out (past out (past out l k1 w1 n1 c1) k2 w2 n2 c2) k3 w3 n3 c3) k4 heads

  before : List Classed
  before = ((es ++ tree_at (p ++ 1 ∷ []) k1 c1) ++ tree_at (p ++ 2 ∷ []) k2 c2) ++ tree_at (p ++ 3 ∷ []) k3 c3

  start-known : (way : List ℕ) → Knows (p ++ 4 ∷ way) n l es → Knows (p ++ 4 ∷ way) n routines_start before
  unfolding decorate l2 l3 l4 before
  start-known way h =
      let x2 = known-beside out b bs p way 1 4 l k1 w1 c1 es orderly.0 (omega arith) h in
      let x3 = known-beside out b bs p way 2 4 l2 k2 w2 c2 (es ++ tree_at (p ++ 1 ∷ []) k1 c1) orderly.1.0 (omega arith) x2 in
      let x4 = known-beside out b bs p way 3 4 l3 k3 w3 c3 ((es ++ tree_at (p ++ 1 ∷ []) k1 c1) ++ tree_at (p ++ 2 ∷ []) k2 c2) orderly.1.1.0 (omega arith) x3 in
      let e : entered l4 k4 heads ≡ entered_by RoutinePart l4 heads = entered-role l4 k4 heads ∙ ap (λ r. entered_by r l4 heads) part in
      Knows-moved (p ++ 4 ∷ way) (b ∷ bs) l4 (inner l4 k4 heads) before (ap (λ (y : Local). y.passed) e) (ap (λ (y : Local). entry_of (keys y.known) (b ∷ bs)) e) x4

  start-passing : Passing n rs routines_start (keys_at before) before
  unfolding l2 l3 l4
  start-passing =
      let e : entered l4 k4 heads ≡ entered_by RoutinePart l4 heads = entered-role l4 k4 heads ∙ ap (λ r. entered_by r l4 heads) part in
      record {
        matches = keys_at-match (b ∷ bs) before;
        waits = λ g any s. cc (ap (any_pairs g) (sym (ap (λ (y : Local). y.waiting) e)) ∙ any);
        ahead = ap (λ (y : Local). y.ahead) e ∙ same;
      }

  abbrev block_at : List Classed
  block_at = classed_at p 1 (Cons k1 w1 n1 c1 (Cons k2 w2 n2 c2 (Cons k3 w3 n3 c3 (Cons k4 w4 n4 rs rest))))

  part-tree : tree_at (p ++ 4 ∷ []) k4 rs ≡ classed_at (p ++ 4 ∷ []) 1 rs
  part-tree = ap (λ r. with_class (class_by r) (places_by r (p ++ 4 ∷ []) rs) ++ (if is_routine_role r then [] else classed_at (p ++ 4 ∷ []) 1 rs)) part

  whole-block : before ++ (classed_at (p ++ 4 ∷ []) 1 rs ++ classed_at p 5 rest) ≡ es ++ block_at
  unfolding before
  whole-block =
      let t1 : List Classed = tree_at (p ++ 1 ∷ []) k1 c1 in
      let t2 : List Classed = tree_at (p ++ 2 ∷ []) k2 c2 in
      let t3 : List Classed = tree_at (p ++ 3 ∷ []) k3 c3 in
      let t4 : List Classed = tree_at (p ++ 4 ∷ []) k4 rs in
      let z : List Classed = classed_at p 5 rest in
      ap (λ y. (((es ++ t1) ++ t2) ++ t3) ++ (y ++ z)) (sym part-tree) ∙ append_assoc ((es ++ t1) ++ t2) t3 (t4 ++ z) ∙ append_assoc (es ++ t1) t2 (t3 ++ (t4 ++ z)) ∙ append_assoc es t1 (t2 ++ (t3 ++ (t4 ++ z)))

  -- around the own block of the routine with a number, what a name means is what the look-up by places finds in this block
  pub around-routine : (T : List ℕ → Class → Type 0) (i m : ℕ) (way : List ℕ) (x : Local) (outer : Meant) →
      behind_routine out routines_start 1 rs i ≡ Some x → 1 < m → Knows (p ++ 4 ∷ i ∷ m ∷ way) n l es → l.fields ≡ [] → l.opening ≡ false →
      entry_of l.names n ≡ class_of (first_of (es ++ block_at) n) → AllClassed T (es ++ block_at) → Agrees T (out.means n) outer →
      Agrees T (find out x n) (seen_among (p ++ 4 ∷ i ∷ m ∷ way) (places_in (es ++ block_at)) n outer)
  unfolding l2 l3 l4
  around-routine T i m way x outer e less h fields opening names classed agrees =
      let q : List ℕ = p ++ 4 ∷ i ∷ m ∷ way in
      let list : RoutineList rs = subst (λ r. InOrder r rs (Orderly rs)) part orderly.1.1.1.0 in
      let g : Reached q n x (before ++ (classed_at (p ++ 4 ∷ []) 1 rs ++ classed_at p 5 rest)) =
      reach-routine out b bs (p ++ 4 ∷ []) q 1 routines_start rs i m way (keys_at before) before (classed_at p 5 rest) x list start-passing e
      (sym (append_assoc p (4 ∷ []) (i ∷ m ∷ way))) less (start-known (i ∷ m ∷ way) h)
      (from-hidden p (i ∷ m ∷ way) 5 4 (classed_at p 5 rest) (omega arith) (classed-from p 5 rest)) in
      let first_plainly : Plainly l l = record { names = refl; fields = fields; opening = opening } in
      let plain : Plainly l x =
      plainly-behind out l routines_start 1 rs i x
      (plainly-inner l l4 k4 heads part (plainly-beside l l3 k3 _ (plainly-beside l l2 k2 _ (plainly-beside l l k1 _ first_plainly)))) e in
      let back : es ++ block_at ≡ g.before ++ g.others = sym (g.whole ∙ whole-block) in
      subst (λ z. Agrees T (find out x n) (seen_among q (places_in z) n outer)) (sym back)
      (Knows-agrees T q n out x outer g.before g.others g.knows g.hidden (ap (λ z. entry_of z n) plain.names ∙ names ∙ ap (λ z. class_of (first_of z n)) back) (subst (AllClassed T) back classed)
      (ap (λ z. entry_of z n) plain.fields) agrees)

-- The law around a routine. A block has the kids k1 to k4 and more, k4 its routines; x is where a node stands behind the routine with the number i,
-- and the way leads into that routine's block, its kid m. What a name means there is what the look-up by places finds in this block.
pub record RoutineQuery (T : List ℕ → Class → Type 0) (out : Outside) (ds : List (List ℕ × Meaning)) (es : List Classed) (p n q : List ℕ) (block heads rs : Forest)
    (start : Local) (i m : ℕ) (x : Local) (outer : Meant) : Type 0 where
  pub orderly : Orderly block
  pub parameters : Matches n (keys ds) es
  pub before : AllAre true q es
  pub classed : AllClassed T (es ++ classed_at p 1 block)
  pub headings : headings_in heads ≡ headings_in rs
  pub behind : behind_routine out start 1 rs i ≡ Some x
  pub inside : 1 < m
  pub around : Agrees T (out.means n) outer

abbrev pub RoutineLaw : (List ℕ → Class → Type 0) → Type 0
RoutineLaw T =
    (out : Outside) (o : Owner) (self : Option (Owner × List ℕ)) (ds : List (List ℕ × Meaning)) (es : List Classed) (p : List ℕ) (b : ℕ) (bs : List ℕ)
    (k1 k2 k3 k4 : Kind) (w1 w2 w3 w4 : List ℕ) (n1 n2 n3 n4 : List (List ℕ)) (c1 c2 c3 rs rest heads : Forest) (i m : ℕ) (way : List ℕ) (x : Local) (outer : Meant) →
    role k4 ≡ RoutinePart →
    RoutineQuery T out ds es p (b ∷ bs) (p ++ 4 ∷ i ∷ m ∷ way) (Cons k1 w1 n1 c1 (Cons k2 w2 n2 c2 (Cons k3 w3 n3 c3 (Cons k4 w4 n4 rs rest)))) heads rs
    (inner (past out (past out (past out (block_start o self ds (Cons k1 w1 n1 c1 (Cons k2 w2 n2 c2 (Cons k3 w3 n3 c3 (Cons k4 w4 n4 rs rest))))) k1 w1 n1 c1) k2 w2 n2 c2) k3 w3 n3 c3) k4 heads)
    i m x outer →
    Agrees T (find out x (b ∷ bs))
    (seen_among (p ++ 4 ∷ i ∷ m ∷ way) (places_in es ++ declared_at p 1 (Cons k1 w1 n1 c1 (Cons k2 w2 n2 c2 (Cons k3 w3 n3 c3 (Cons k4 w4 n4 rs rest))))) (b ∷ bs) outer)

pub routine-agrees : (T : List ℕ → Class → Type 0) → RoutineLaw T
routine-agrees T out o self ds es p b bs k1 k2 k3 k4 w1 w2 w3 w4 n1 n2 n3 n4 c1 c2 c3 rs rest heads i m way x outer part h =
    let n : List ℕ = b ∷ bs in
    let q : List ℕ = p ++ 4 ∷ i ∷ m ∷ way in
    let f : Forest = Cons k1 w1 n1 c1 (Cons k2 w2 n2 c2 (Cons k3 w3 n3 c3 (Cons k4 w4 n4 rs rest))) in
    subst (λ z. Agrees T (find out x n) (seen_among q z n outer)) (places_in-append es (classed_at p 1 f) ∙ ap (λ z. places_in es ++ z) (places_in-classed p 1 f))
    (around-routine out b bs p (block_start o self ds f) es k1 k2 k3 k4 w1 w2 w3 w4 n1 n2 n3 n4 c1 c2 c3 rs rest heads h.orderly part h.headings T i m way x outer h.behind h.inside
    (Knows-start q n o self ds f es h.parameters h.before) refl refl
    (Matches-append n (keys ds) (declared_in f) es (classed_at p 1 f) h.parameters (matches-declared b bs p 1 f h.orderly)) h.classed h.around)
