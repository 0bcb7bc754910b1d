-- A used name of a block: its Local knows what stands before it, and the block's other declarations don't count there.
use Rattle.std.proofs.Common.{Bool, List, None, Some, [], ap, append_assoc, arith, bytes_eq, false, if◌then◌else◌, is_some, refl, subst, suc, sym, true, ℕ, ◌++◌, ◌<◌, ◌∙◌, ◌∷◌, ◌≡◌}
use Rattle.pc_rule_laws.specs.Agreement.{Spot, spot}
use Rattle.pc_rule_laws.specs.ClassedPlaces.{AllAre-append, classed-from, classed_at, from-hidden, head-hidden, names-here, with_class}
use Rattle.pc_rule_laws.specs.Matching.{matches-below}
use Rattle.pc_rule_laws.specs.Orderly.{HeadNames, InOrder, IsNil, IsRoutineOrGap, IsSingle, NameList, Orderly, RoutineList, silent-classed, silent-orderly}
use Rattle.pc_rule_laws.specs.Reached.{BehindIt, IntoIt, IsUse, Reached, ToIt, leads, spot-none}
use Rattle.pc_rule_laws.specs.Roles.{DeclaresParameters, DeclaresRoutine, DeclaresVariables, DefinesConstant, DefinesType, Gap, Gathers, GathersOne, GathersTwo, ListsElements, ParameterPart, Quiet, Role, RoutinePart, TypePart, class_by, entered-role, entered_by, is_routine_role, keys, keys-all_as, places_by, role, routine-role}
use Rattle.pc_rule_laws.specs.Standing.{AllAre, Classed, Knows, Knows-all, Knows-moved, Knows-pass, first_of}
use Rattle.pc_rule_laws.specs.Within.{known-beside}
use Rattle.pc_rules.specs.Attributes.{first}
use Rattle.pc_rules.specs.DeclaringNames.{all_as}
use Rattle.pc_rules.specs.Places.{beside, entered, inner, uses_first, uses_next}
use Rattle.pc_rules.specs.Decorated.{decorate, rule, seen}
use Rattle.pc_rules.specs.Meanings.{Class, ConstantName, Local, Outside, TypeName, VariableName, declared_as, entry_of}
use Rattle.pc_rules.specs.OwnBlock.{own}
use Rattle.pc_scope.specs.Declarations.{name_at, names_below}
use Rattle.pc_scope.specs.Headings.{first_name, names_of_first}
use Rattle.pc_syntax.specs.Classes.{is_names}
use Rattle.pc_syntax.specs.Places.{at}
use Rattle.pc_syntax.specs.Plain.{Cons, Forest, Nil}
use Rattle.pc_syntax.specs.Sorts.{is_hole}
use Rattle.pc_syntax.specs.Words.{lowered}
use Rattle.pc_syntax.specs.declared.kind.Kind.{Kind}
use Rattle.pc_types.specs.Sameness.{same}
use Rattle.pc_syntax.specs.declared.kind.Kind.TheVariants as kind

-- ---- where no names are used

-- no name of a list is a used one
unused : (out : Outside) (l : Local) (i : ℕ) (f : Forest) (j : ℕ) (way : List ℕ) (s : Spot) → NameList f → l.using ≡ false → l.using_next ≡ false →
    spot out l i f (j ∷ way) ≡ Some s → IsUse s → ⊥
unfolding spot
unused out l i Nil j way s h a b e u = cc e
unused out l i (Cons k w ns ks ts) j way s h a b e u =
    elim (leads out l i k w ns ks ts j way s e) [
      | ToIt same end here kind ↦ cc (sym u.using ∙ ap (λ (x : Local). x.using) here ∙ a)
      | IntoIt same m rest is apart e ↦ spot-none out (inner l k ks) 1 ks (m ∷ rest) s h.1 e
      | BehindIt less e ↦ unused out (beside l k (first (decorate out l (Cons k w ns ks Nil)))) (suc i) ts j way s h.2 b b e u
    ]

-- a used name stands behind the names that its node declares
uses-names : (k : Kind) (u : Bool) → is_names k ≡ true → (uses_first k u ≡ u) × (uses_next k u ≡ u)
uses-names kind.Names u e = (refl, refl)
uses-names _ u e = cc e

name-is-no-names : (k : Kind) → is_names k ≡ true → k ≡ kind.Name → ⊥
name-is-no-names kind.Names e f = cc f
name-is-no-names _ e f = cc e

behind-names : (out : Outside) (l : Local) (ks : Forest) (j : ℕ) (way : List ℕ) (s : Spot) → HeadNames ks → l.using ≡ false → spot out l 1 ks (j ∷ way) ≡ Some s → IsUse s → 1 < j
behind-names out l Nil j way s h a e u = absurd h
behind-names out l (Cons k w ns ks ts) j way s h a e u =
    elim (leads out l 1 k w ns ks ts j way s e) [
      | ToIt same end here kind ↦ absurd (name-is-no-names k h.0 (sym kind ∙ u.kind))
      | IntoIt same m rest is apart e ↦
          absurd (unused out (inner l k ks) 1 ks m rest s h.1 ((uses-names k l.using h.0).0 ∙ a) ((uses-names k l.using h.0).1 ∙ a) e u)
      | BehindIt less e ↦ less
    ]

-- no name stands behind a single tree
single : (out : Outside) (l : Local) (ks : Forest) (j : ℕ) (way : List ℕ) (s : Spot) → IsSingle ks → spot out l 1 ks (j ∷ way) ≡ Some s → 1 < j → ⊥
single out l Nil j way s h e less = absurd h
single out l (Cons k w ns ks ts) j way s h e less =
    elim (leads out l 1 k w ns ks ts j way s e) [
      | ToIt same end here kind ↦ absurd (omega (arith, same, less))
      | IntoIt same m rest is apart e ↦ absurd (omega (arith, same, less))
      | BehindIt less e ↦ spot-none out (beside l k (first (decorate out l (Cons k w ns ks Nil)))) (suc 1) ts (j ∷ way) s h e
    ]

-- no name stands among routines
name-is-no-routine : (k : Kind) (ks : Forest) → IsRoutineOrGap (role k) ks → k ≡ kind.Name → ⊥
name-is-no-routine k ks h e = by (role k) h (ap role e) where
  by : (r : Role) → IsRoutineOrGap r ks → r ≡ Quiet → ⊥
  by Gap h e = cc e
  by (DeclaresRoutine c) h e = cc e
  by Quiet h e = h
  by _ h e = h

gap-nil : (r : Role) (ks : Forest) → IsRoutineOrGap r ks → is_routine_role r ≡ false → IsNil ks
gap-nil Gap ks h e = h
gap-nil (DeclaresRoutine c) ks h e = cc e
gap-nil Quiet ks h e = absurd h
gap-nil _ ks h e = absurd h

pub among-routines : (out : Outside) (l : Local) (i : ℕ) (f : Forest) (j : ℕ) (way : List ℕ) (s : Spot) → RoutineList f → spot out l i f (j ∷ way) ≡ Some s → IsUse s → ⊥
unfolding spot
among-routines out l i Nil j way s h e u = cc e
among-routines out l i (Cons k w ns ks ts) j way s h e u =
    elim (leads out l i k w ns ks ts j way s e) [
      | ToIt same end here kind ↦ name-is-no-routine k ks h.0 (sym kind ∙ u.kind)
      | IntoIt same m rest is apart e ↦ spot-none out (inner l k ks) 1 ks (m ∷ rest) s (gap-nil (role k) ks h.0 (sym (routine-role k) ∙ apart)) e
      | BehindIt less e ↦ among-routines out (beside l k (first (decorate out l (Cons k w ns ks Nil)))) (suc i) ts j way s h.1 e u
    ]

-- ---- entering a node

-- the name of a definition is passed where it is one
head-same : (b : ℕ) (bs q : List ℕ) (c : Class) (ks : Forest) → bytes_eq (first_name ks) (b ∷ bs) ≡ is_some (first_of (with_class c (name_at (Some q) q ks)) (b ∷ bs))
head-same b bs q c Nil = refl
head-same b bs q c (Cons k w ns ks ts) =
    elim (is_hole k) as (λ (t : Bool). bytes_eq (if t then [] else lowered w) (b ∷ bs)
    ≡ is_some (first_of (with_class c (if t then [] else record { name = lowered w; place = q ++ 1 ∷ []; definition = Some q } ∷ [])) (b ∷ bs))) [
      | true ↦ refl
      | false ↦ two (bytes_eq (lowered w) (b ∷ bs))
    ] where
      two : (t : Bool) → t ≡ is_some {T = Classed} (if t then Some (record { at = record { name = lowered w; place = q ++ 1 ∷ []; definition = Some q }; class = c }) else None)
      two true = refl
      two false = refl

-- where no names are used
declaring : (k : Kind) (u : Bool) → role k ≡ DeclaresVariables → uses_first k u ≡ false
declaring kind.Vardef u e = refl
declaring _ u e = cc e

listing : (k : Kind) (u : Bool) → role k ≡ ListsElements → uses_first k u ≡ false
listing kind.Enum u e = refl
listing _ u e = cc e

below-here : (p r : List ℕ) (a : ℕ) (c : Class) (ks : Forest) → 1 < a → AllAre true (p ++ a ∷ r) (with_class c (names_below p ks))
below-here p r a c Nil less = tt
below-here p r a c (Cons k w ns ks ts) less = names-here p r a 1 c ks less

-- the way that is left after a node, and its declarations
entering : (out : Outside) (b : ℕ) (bs q : List ℕ) (k : Kind) (r : Role) (l : Local) (ks : Forest) (m : ℕ) (rest : List ℕ) (es more : List Classed) (s : Spot) →
    role k ≡ r → InOrder r ks (Orderly ks) → spot out (inner l k ks) 1 ks (m ∷ rest) ≡ Some s → IsUse s → Knows (q ++ m ∷ rest) (b ∷ bs) l es → AllAre false (q ++ m ∷ rest) more →
    (Orderly ks → (fs : List Classed) → Knows (q ++ m ∷ rest) (b ∷ bs) (inner l k ks) fs → Reached (q ++ m ∷ rest) (b ∷ bs) s.local (fs ++ (classed_at q 1 ks ++ more))) →
    Reached (q ++ m ∷ rest) (b ∷ bs) s.local (es ++ ((with_class (class_by r) (places_by r q ks) ++ (if is_routine_role r then [] else classed_at q 1 ks)) ++ more))
entering out b bs q k r l ks m rest es more s is o e u h hidden ih = by r is o where
  n : List ℕ
  n = b ∷ bs

  p : List ℕ
  p = q ++ m ∷ rest

  moved : (x : Role) → role k ≡ x → (fs : List Classed) → Knows p n (entered_by x l ks) fs → Knows p n (inner l k ks) fs
  moved x is fs g =
      let same : entered l k ks ≡ entered_by x l ks = entered-role l k ks ∙ ap (λ y. entered_by y l ks) is in
      Knows-moved p n (entered_by x l ks) (inner l k ks) fs (ap (λ (y : Local). y.passed) same) (ap (λ (y : Local). entry_of (keys y.known) n) same) g

  regrouped : (own : List Classed) → Reached p n s.local ((es ++ own) ++ (classed_at q 1 ks ++ more)) → Reached p n s.local (es ++ ((own ++ classed_at q 1 ks) ++ more))
  regrouped own g = subst (Reached p n s.local) (append_assoc es own (classed_at q 1 ks ++ more) ∙ ap (λ z. es ++ z) (sym (append_assoc own (classed_at q 1 ks) more))) g

  by : (r : Role) → role k ≡ r → InOrder r ks (Orderly ks) →
      Reached p n s.local (es ++ ((with_class (class_by r) (places_by r q ks) ++ (if is_routine_role r then [] else classed_at q 1 ks)) ++ more))
  by Quiet is o = ih (silent-orderly ks o) es (moved Quiet is es h)
  by Gap is o = absurd (spot-none out (inner l k ks) 1 ks (m ∷ rest) s o e)
  by Gathers is o = ih o es (moved Gathers is es h)
  by GathersOne is o = ih o.1 es (moved GathersOne is es h)
  by GathersTwo is o = ih o.1 es (moved GathersTwo is es h)
  by TypePart is o = ih o es (moved TypePart is es h)
  by RoutinePart is o = absurd (among-routines out (inner l k ks) 1 ks m rest s o e u)
  by DefinesConstant is o =
      let own : List Classed = with_class ConstantName (name_at (Some q) q ks) in
      regrouped own (ih (silent-orderly ks o.1) (es ++ own) (moved DefinesConstant is (es ++ own)
      (Knows-pass p b bs l (first_name ks) es own h (head-same b bs q ConstantName ks) (head-hidden q (m ∷ rest) ConstantName ks))))
  by DefinesType is o =
      let own : List Classed = with_class TypeName (name_at (Some q) q ks) in
      regrouped own (ih o.2 (es ++ own) (moved DefinesType is (es ++ own)
      (Knows-pass p b bs l (first_name ks) es own h (head-same b bs q TypeName ks) (head-hidden q (m ∷ rest) TypeName ks))))
  by DeclaresVariables is o =
      let own : List Classed = with_class VariableName (names_below q ks) in
      let far : 1 < m = behind-names out (inner l k ks) ks m rest s o.0 (declaring k l.using is) e u in
      regrouped own (ih o.2 (es ++ own) (moved DeclaresVariables is (es ++ own)
      (Knows-all p n l (all_as (declared_as VariableName l.owner) (names_of_first ks)) es own h
      (ap (λ ds. entry_of ds n) (keys-all_as (declared_as VariableName l.owner) (names_of_first ks)) ∙ matches-below n VariableName q ks) (below-here q rest m VariableName ks far))))
  by ListsElements is o =
      absurd (single out (inner l k ks) ks m rest s o.1 e (behind-names out (inner l k ks) ks m rest s o.0 (listing k l.using is) e u))
  by ParameterPart is o = absurd o
  by (DeclaresRoutine c) is o = absurd o
  by (DeclaresParameters c) is o = absurd o

-- a node that is a name declares nothing
name-declares : (q : List ℕ) (k : Kind) (ks : Forest) → k ≡ kind.Name → InOrder (role k) ks (Orderly ks) →
    with_class (class_by (role k)) (places_by (role k) q ks) ++ (if is_routine_role (role k) then [] else classed_at q 1 ks) ≡ []
name-declares q k ks e o = by (role k) (ap role e) o where
  by : (r : Role) → r ≡ Quiet → InOrder r ks (Orderly ks) → with_class (class_by r) (places_by r q ks) ++ (if is_routine_role r then [] else classed_at q 1 ks) ≡ []
  by Quiet e o = silent-classed q 1 ks o
  by Gap e o = cc e
  by _ e o = cc e

-- Each used name among some trees of a block: its Local knows what stands before it.
pub reach : (out : Outside) (b : ℕ) (bs p q : List ℕ) (i : ℕ) (l : Local) (f : Forest) (j : ℕ) (way : List ℕ) (es more : List Classed) (s : Spot) →
    Orderly f → spot out l i f (j ∷ way) ≡ Some s → IsUse s → q ≡ p ++ j ∷ way → Knows q (b ∷ bs) l es → AllAre false q more →
    Reached q (b ∷ bs) s.local (es ++ (classed_at p i f ++ more))
unfolding spot decorate
reach out b bs p q i l Nil j way es more s o e u at h hidden = cc e
reach out b bs p q i l (Cons k w ns ks ts) j way es more s o e u at h hidden =
    let n : List ℕ = b ∷ bs in
    let x : List ℕ = p ++ i ∷ [] in
    let here : List Classed = with_class (class_by (role k)) (places_by (role k) x ks) ++ (if is_routine_role (role k) then [] else classed_at x 1 ks) in
    let behind : List Classed = classed_at p (suc i) ts in
    let later : i ≡ j → AllAre false q (behind ++ more) =
    λ same. AllAre-append false q behind more
    (subst (λ z. AllAre false z behind) (sym at) (from-hidden p way (suc i) j behind (omega (arith, same)) (classed-from p (suc i) ts))) hidden in
    elim (leads out l i k w ns ks ts j way s e) [
      | ToIt same end stands kind ↦
          record {
            before = es;
            others = behind ++ more;
            knows = subst (λ (z : Local). Knows q n z es) (sym stands) h;
            hidden = later same;
            whole = ap (λ z. es ++ ((z ++ behind) ++ more)) (sym (name-declares x k ks (sym kind ∙ u.kind) o.0));
          }
      | IntoIt same m rest is apart e ↦
          let to : q ≡ x ++ m ∷ rest = at ∙ (λ t. p ++ sym same t ∷ is t) ∙ sym (append_assoc p (i ∷ []) (m ∷ rest)) in
          subst (Reached q n s.local) (ap (λ z. es ++ z) (sym (append_assoc here behind more)))
          (subst (λ z. Reached z n s.local (es ++ (here ++ (behind ++ more)))) (sym to)
          (entering out b bs x k (role k) l ks m rest es (behind ++ more) s refl o.0 e u (subst (λ z. Knows z n l es) to h) (subst (λ z. AllAre false z (behind ++ more)) to (later same))
          (λ o fs g. reach out b bs x (x ++ m ∷ rest) 1 (inner l k ks) ks m rest fs (behind ++ more) s o e u refl g (subst (λ z. AllAre false z (behind ++ more)) to (later same)))))
      | BehindIt less e ↦
          let next : Local = beside l k (rule l k w (seen out l k w) (decorate out (inner l k ks) ks)) in
          subst (Reached q n s.local) (append_assoc es here (behind ++ more) ∙ ap (λ z. es ++ z) (sym (append_assoc here behind more)))
          (reach out b bs p q (suc i) next ts j way (es ++ here) more s o.1 e u at
          (subst (λ z. Knows z n next (es ++ here)) (sym at) (known-beside out b bs p way i j l k w ks es o.0 less (subst (λ z. Knows z n l es) at h))) hidden)
    ]
