-- No node of a declaration part touches a variable.
use Rattle.std.specs.Prelude.{ℕ, suc, ◌≡◌, Bool, true, false, not, ◌||◌, if◌then◌else◌, List, [], ◌∷◌, Option, ◌++◌, ◌⊎◌}
use Rattle.std.proofs.Common.{refl, ap, sym, subst, ◌∙◌, true≢false, inl, inr}
use Rattle.pc_syntax.specs.declared.kind.Kind.{Kind}
use Rattle.pc_syntax.specs.declared.kind.Kind.TheVariants as kind
use Rattle.pc_syntax.specs.declared.class.Class.{Class}
use Rattle.pc_syntax.specs.declared.class.Class.TheVariants as class
use Rattle.pc_syntax.specs.Classes.{has}
use Rattle.pc_syntax.specs.Layout.{layout}
use Rattle.pc_syntax.specs.Plain.{Forest, Nil, Cons, Plain, count, kinds}
use Rattle.pc_syntax.specs.Slots.{places_of}
use Rattle.pc_syntax.specs.WellFormed.{WellFormed, IsProper, fits_some}
use Rattle.pc_types.specs.Shapes.{Owner}
use Rattle.pc_scope.specs.Headings.{is_routine_kind}
use Rattle.pc_scope.specs.Blocks.{block_kids}
use Rattle.pc_rules.specs.Attributes.{Attributes, Marked, first, nodes}
use Rattle.pc_rules.specs.Decorated.{Seen, seen, rule, decorate}
use Rattle.pc_rules.specs.HandedOn.{all_touches}
use Rattle.pc_rules.specs.Meanings.{Found, Local, Outside, find}
use Rattle.pc_rules.specs.OwnBlock.{own, bare_heading}
use Rattle.pc_rules.specs.Places.{inner, beside}
use Rattle.pc_rules.specs.RoutineList.{Forwarded, routine_of, key_of, forwarded_by, part_of, routines_in, routines_below, program_routine, routines_of}
use Rattle.pc_rules.specs.Routines.{Routine, bare, start_of}
use Rattle.pc_needs.proofs.BodyKinds.{either-way, Passes, all_classes, row-passes, node-takes}
use Rattle.pc_needs.proofs.Lists.{Each, each-append, each-one}
use Rattle.pc_needs.proofs.PlaceLemmas.{of-part}
use Rattle.pc_program_laws.specs.Touches.{body_touches, BlockTouchesLaw, RoutineTouchesLaw, BodyTouchesLaw}
use Rattle.pc_program_laws.proofs.BlockLemmas.{block-parts}

-- ---- the elements of declaration parts

-- the kinds of nodes that touch nothing, whatever stands below them
abbrev pub is_still : Kind → Bool
is_still kind.Constdef = true
is_still kind.Typedef = true
is_still kind.Vardef = true
is_still kind.Procedure = true
is_still kind.Function = true
is_still kind.Funbody = true
is_still (kind.Hole s) = true
is_still _ = false

rule-still : (l : Local) (k : Kind) (w : List ℕ) (s : Seen) (m : Marked) → is_still k ≡ true → (rule l k w s m).touches ≡ []
unfolding rule
rule-still l kind.Constdef w s m e = refl
rule-still l kind.Typedef w s m e = refl
rule-still l kind.Vardef w s m e = refl
rule-still l kind.Procedure w s m e = refl
rule-still l kind.Function w s m e = refl
rule-still l kind.Funbody w s m e = refl
rule-still l (kind.Hole x) w s m e = refl
rule-still l _ w s m e = absurd (true≢false (sym e))

row-still : (out : Outside) (l : Local) (f : Forest) → Passes is_still f → all_touches (nodes (decorate out l f)) ≡ []
unfolding decorate
row-still out l Nil p = refl
row-still out l (Cons k w ns ks ts) p =
    let below : Marked = decorate out (inner l k ks) ks in
    let a : Attributes = rule l k w (seen out l k w) below in
    λ i. rule-still l k w (seen out l k w) below p.0 i ++ row-still out (beside l k a) ts p.1 i

-- own blocks have nodes of the same kinds
own-passes : (test : Kind → Bool) (f : Forest) → Passes test f → Passes test (own f)
unfolding own
own-passes test Nil p = tt
own-passes test (Cons k w ns ks ts) p = (p.0, own-passes test ts p.1)

abbrev is_still_class : Class → Bool
is_still_class class.Constdef = true
is_still_class class.Typedef = true
is_still_class class.Vardef = true
is_still_class class.Routine = true
is_still_class _ = false

constdef-still : (k : Kind) → (is_still k || not (has class.Constdef k)) ≡ true
constdef-still (kind.Hole s) = refl
constdef-still _ = refl

typedef-still : (k : Kind) → (is_still k || not (has class.Typedef k)) ≡ true
typedef-still (kind.Hole s) = refl
typedef-still _ = refl

vardef-still : (k : Kind) → (is_still k || not (has class.Vardef k)) ≡ true
vardef-still (kind.Hole s) = refl
vardef-still _ = refl

routine-still : (k : Kind) → (is_still k || not (has class.Routine k)) ≡ true
routine-still (kind.Hole s) = refl
routine-still _ = refl

class-still : (c : Class) (k : Kind) → is_still_class c ≡ true → has c k ≡ true → is_still k ≡ true
class-still class.Constdef k e h = either-way (is_still k) (has class.Constdef k) (constdef-still k) h
class-still class.Typedef k e h = either-way (is_still k) (has class.Typedef k) (typedef-still k) h
class-still class.Vardef k e h = either-way (is_still k) (has class.Vardef k) (vardef-still k) h
class-still class.Routine k e h = either-way (is_still k) (has class.Routine k) (routine-still k) h
class-still _ k e h = absurd (true≢false (sym e))

-- ---- a block

nothing-behind : (vs : List (Owner × List ℕ)) → vs ++ [] ≡ vs
nothing-behind [] = refl
nothing-behind (v ∷ vs) = ap (λ (us : List (Owner × List ℕ)). v ∷ us) (nothing-behind vs)

-- the parts of a block
parts-still : (out : Outside) (l : Local) (v1 v2 v3 v4 v5 : List ℕ) (n1 n2 n3 n4 n5 : List (List ℕ)) (k1 k2 k3 k4 k5 : Forest) (j : Kind) →
    Passes is_still k1 → Passes is_still k2 → Passes is_still k3 → Passes is_still k4 →
    all_touches (nodes (decorate out l (Cons kind.Consts v1 n1 k1 (Cons kind.Types v2 n2 k2 (Cons kind.Vars v3 n3 k3 (Cons kind.Routines v4 n4 k4 (Cons j v5 n5 k5 Nil)))))))
    ≡ body_touches (decorate out l (Cons kind.Consts v1 n1 k1 (Cons kind.Types v2 n2 k2 (Cons kind.Vars v3 n3 k3 (Cons kind.Routines v4 n4 k4 (Cons j v5 n5 k5 Nil))))))
unfolding decorate rule
parts-still out l v1 v2 v3 v4 v5 n1 n2 n3 n4 n5 k1 k2 k3 k4 k5 j p1 p2 p3 p4 =
    let l2 : Local = beside l kind.Consts (rule l kind.Consts v1 (seen out l kind.Consts v1) (decorate out (inner l kind.Consts k1) k1)) in
    let l3 : Local = beside l2 kind.Types (rule l2 kind.Types v2 (seen out l2 kind.Types v2) (decorate out (inner l2 kind.Types k2) k2)) in
    let l4 : Local = beside l3 kind.Vars (rule l3 kind.Vars v3 (seen out l3 kind.Vars v3) (decorate out (inner l3 kind.Vars k3) k3)) in
    let l5 : Local = beside l4 kind.Routines (rule l4 kind.Routines v4 (seen out l4 kind.Routines v4) (decorate out (inner l4 kind.Routines k4) k4)) in
    let body : List (Owner × List ℕ) = (rule l5 j v5 (seen out l5 j v5) (decorate out (inner l5 j k5) k5)).touches in
    (λ i. row-still out (inner l kind.Consts k1) k1 p1 i ++ (row-still out (inner l2 kind.Types k2) k2 p2 i ++ (row-still out (inner l3 kind.Vars k3) k3 p3 i
    ++ (row-still out (inner l4 kind.Routines k4) k4 p4 i ++ (body ++ [])))))
    ∙ nothing-behind body

block-touches : BlockTouchesLaw
unfolding own
block-touches out l w f e g =
    let b = block-parts w f e in
    let h = subst WellFormed b.is g in
    let passes = λ (k : Kind) (v : List ℕ) (ks : Forest) (a : fits_some (layout k v (count ks)) (kinds ks) ≡ true) (q : all_classes is_still_class (places_of k) ≡ true).
    own-passes is_still ks (row-passes is_still is_still_class class-still k 0 ks q (node-takes k v ks a)) in
    subst (λ (x : Forest). all_touches (nodes (decorate out l (own x))) ≡ body_touches (decorate out l (own x))) (sym b.is)
    (parts-still out l b.v1 b.v2 b.v3 b.v4 b.v5 b.n1 b.n2 b.n3 b.n4 b.n5 (own b.k1) (own b.k2) (own b.k3) (own b.k4) (if is_routine_kind b.j then bare_heading b.k5 else own b.k5) b.j
    (passes kind.Consts b.v1 b.k1 h.0 refl) (passes kind.Types b.v2 b.k2 h.4.0 refl) (passes kind.Vars b.v3 b.k3 h.4.4.0 refl) (passes kind.Routines b.v4 b.k4 h.4.4.4.0 refl))

-- ---- the blocks of all routines

-- the block of a routine is the own block of a well-formed one, or there is none
abbrev pub IsOwn : Forest → Type 0
IsOwn b = (b ≡ Nil) ⊎ ((w : List ℕ) × (f : Forest) × (fits_some (layout kind.Block w (count f)) (kinds f) ≡ true) × WellFormed f × (b ≡ own f))

-- the block among a routine's kids
block-own : (ks : Forest) → WellFormed ks → IsOwn (own (block_kids ks))
unfolding own
block-own Nil h = inl refl
block-own (Cons kind.Block w ns ks ts) h = inr (w, ks, h.0, h.3, refl)
block-own (Cons k w ns ks ts) h = block-own ts h.4

abbrev pub HasOwn : Routine → Type 0
HasOwn r = IsOwn r.block

mutual
  unfolding routines_in

  own-in : (m : List ℕ → Found) (l : Local) (fs : List Forwarded) (p : List ℕ) (key : Option (List (List ℕ))) (f : Forest) → WellFormed f → Each HasOwn (routines_in m l fs p key f)
  own-in m l fs p key Nil c = tt
  own-in m l fs p key (Cons k v ns ks ts) c =
      let a : Attributes = first (decorate (bare m) l (own (Cons k v ns ks Nil))) in
      let after : Local = beside l k a in
      let r : Routine = routine_of (find (bare m) after) l fs (p ++ l.kid ∷ []) key k ks in
      of-part (Each HasOwn) (part_of k) _ _ _
      (λ part. each-append HasOwn (r ∷ routines_below r 1 ks) _ (block-own ks c.3, own-below r 1 ks c.3) (own-in m after (forwarded_by l r fs) p key ts c.4))
      (λ part. own-in m (inner l k ks) [] (p ++ l.kid ∷ []) key ks c.3)
      (λ part. own-in m after fs p key ts c.4)

  own-below : (r : Routine) (i : ℕ) (f : Forest) → WellFormed f → Each HasOwn (routines_below r i f)
  own-below r i Nil c = tt
  own-below r i (Cons kind.Block v ns ks ts) c = own-in r.means (start_of r) [] (r.place ++ i ∷ []) (key_of r.owner) ks c.3
  own-below r i (Cons k v ns ks ts) c = own-below r (suc i) ts c.4

pub routines-own : (t : Plain) → IsProper t → Each HasOwn (routines_of t)
unfolding routines_of
routines-own t proper = (block-own t.kids proper.sound.3, own-below (program_routine t) 1 t.kids proper.sound.3)

own-touches : (out : Outside) (l : Local) (b : Forest) → IsOwn b → all_touches (nodes (decorate out l b)) ≡ body_touches (decorate out l b)
unfolding decorate
own-touches out l b (inl e) = subst (λ (x : Forest). all_touches (nodes (decorate out l x)) ≡ body_touches (decorate out l x)) (sym e) refl
own-touches out l b (inr x) = subst (λ (y : Forest). all_touches (nodes (decorate out l y)) ≡ body_touches (decorate out l y)) (sym x.4) (block-touches out l x.0 x.1 x.2 x.3)

routine-touches : RoutineTouchesLaw
routine-touches t q out l proper i = own-touches out l q.block (each-one HasOwn (routines_of t) q i (routines-own t proper))

pub body-touches-law : BodyTouchesLaw
body-touches-law = record { block = block-touches; routine = routine-touches }
