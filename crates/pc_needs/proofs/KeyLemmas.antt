-- A routine with a key: its parent and its name are given by the key.
use Rattle.std.specs.Prelude.{ℕ, ◌≡◌, Bool, true, false, not, ◌&&◌, ◌==◌, if◌then◌else◌, List, [], ◌∷◌, length, Option, Some, None, ◌++◌, suc}
use Rattle.std.specs.Option.{option_and_then, is_some}
use Rattle.std.specs.Str.{bytes_eq}
use Rattle.std.proofs.Common.{refl, ap, sym, ◌∙◌, true≢false}
use Rattle.std.proofs.lemmas.Bool.{and_parts}
use Rattle.std.proofs.lemmas.Slice.Eq.{bytes_eq-Decides}
use Rattle.pc_syntax.specs.declared.kind.Kind.{Kind}
use Rattle.pc_syntax.specs.declared.kind.Kind.TheVariants as kind
use Rattle.pc_syntax.specs.Plain.{Forest, Nil, Cons, Plain}
use Rattle.pc_syntax.specs.Words.{is_among}
use Rattle.pc_types.specs.Shapes.{Owner, Keyed, Placed}
use Rattle.pc_scope.specs.Blocks.{kid_count}
use Rattle.pc_scope.specs.Headings.{Heading, pairs, same_side}
use Rattle.pc_rules.specs.Attributes.{Attributes, first}
use Rattle.pc_rules.specs.Declarations.{heading_here, is_later_declaration}
use Rattle.pc_rules.specs.Decorated.{decorate}
use Rattle.pc_rules.specs.Meanings.{Found, Local, find}
use Rattle.pc_rules.specs.OwnBlock.{own, heading_part}
use Rattle.pc_rules.specs.Places.{inner, beside}
use Rattle.pc_rules.specs.RoutineList.{Forwarded, forwarded_for, without_forwarded, owner_of, extended, routine_of, key_of, forwarded_by, Part, ARoutine, AllRoutines, NoRoutine, part_of, routines_in, routines_below, program_routine, routines_of}
use Rattle.pc_rules.specs.Routines.{Routine, bare, parameters_of, start_of}
use Rattle.pc_needs.proofs.Lists.{Each, each-append}
use Rattle.pc_needs.proofs.Owners.{inner-owner, beside-owner}

-- a key
abbrev pub Key : Type 0
Key = List (List ℕ)

-- whether a block's routine has a key
abbrev pub is_keyed : Owner → Bool
is_keyed (Keyed k) = true
is_keyed (Placed p) = false

-- a key without its last name
abbrev pub front : Key → Key
front [] = []
front (n ∷ []) = []
front (n ∷ m ∷ ns) = n ∷ front (m ∷ ns)

-- its last name
abbrev pub last : Key → List ℕ
last [] = []
last (n ∷ []) = n
last (n ∷ m ∷ ns) = last (m ∷ ns)

front-behind : (n m : List ℕ) (ns : Key) → front (n ∷ (m ∷ ns)) ≡ n ∷ front (m ∷ ns)
front-behind n m ns = refl

front-append : (k : Key) (n : List ℕ) → front (k ++ n ∷ []) ≡ k
front-append [] n = refl
front-append (a ∷ []) n = refl
front-append (a ∷ b ∷ k) n = ap (λ (x : Key). a ∷ x) (front-append (b ∷ k) n)

last-append : (k : Key) (n : List ℕ) → last (k ++ n ∷ []) ≡ n
last-append [] n = refl
last-append (a ∷ []) n = refl
last-append (a ∷ b ∷ k) n = last-append (b ∷ k) n

-- which kid the block of a routine with this key is: the program's third, and else the last
abbrev pub kid_of : Key → Forest → ℕ
kid_of [] f = 3
kid_of (n ∷ ns) f = kid_count f

kid_of-append : (k : Key) (n : List ℕ) (f : Forest) → kid_of (k ++ n ∷ []) f ≡ kid_count f
kid_of-append [] n f = refl
kid_of-append (a ∷ k) n f = refl

heading-count : (f : Forest) → kid_count (heading_part f) ≡ kid_count f
heading-count Nil = refl
heading-count (Cons kind.Block w ns ks ts) = ap suc (heading-count ts)
heading-count (Cons k w ns ks ts) = ap suc (heading-count ts)

-- what a routine's own key and parent are
pub record IsNamedByKey (r : Routine) : Type 0 where
  pub keyed : r.has_key ≡ is_keyed r.owner
  pub parent : (k : Key) → r.owner ≡ Keyed k → r.parent ≡ Keyed (front k)
  pub name : (k : Key) → r.owner ≡ Keyed k → r.name ≡ last k
  pub placed : (p : List ℕ) → r.owner ≡ Placed p → r.place ≡ p
  pub kid : (k : Key) → r.owner ≡ Keyed k → r.block_kid ≡ kid_of k r.heading

-- a key, if there is one, is another with a name behind
abbrev pub Extends : Option Key → List ℕ → Option Key → Type 0
Extends key n o = (k : Key) → o ≡ Some k → (j : Key) × (key ≡ Some j) × (k ≡ j ++ n ∷ [])

-- a forward heading that waits has a key of the block's
abbrev pub ExtendsHeading : Option Key → Forwarded → Type 0
ExtendsHeading key f = Extends key f.heading.name f.key

-- a key or another
abbrev pub key_or : Key → Option Key → Key
key_or d None = d
key_or d (Some k) = k

-- the key in an owner, or another
abbrev pub owner_key : Key → Owner → Key
owner_key d (Keyed k) = k
owner_key d (Placed p) = d

pub none-some : (k : Key) → None ≡ Some k → ⊥
none-some k e = true≢false (sym (ap is_some e))

extended-extends : (key : Option Key) (n : List ℕ) → Extends key n (extended key n)
extended-extends None n k e = absurd (none-some k e)
extended-extends (Some j) n k e = (j, refl, sym (ap (key_or k) e))

-- a routine's name in a heading pairs with the same name
pub paired-name : (a b : Heading) → pairs a b ≡ true → b.name ≡ a.name
paired-name a b e =
    let outer = and_parts (not (length a.name == 0) && bytes_eq a.name b.name) (same_side a.is_function b.is_function) e in
    let names = and_parts (not (length a.name == 0)) (bytes_eq a.name b.name) outer.0 in
    sym ((bytes_eq-Decides a.name b.name).0 names.1)

-- the key that a later declaration has from its forward heading
forwarded-extends : (key : Option Key) (h : Heading) (fs : List Forwarded) → Each (ExtendsHeading key) fs →
    Extends key h.name (option_and_then (λ (x : Forwarded). x.key) (forwarded_for h fs))
forwarded-extends key h [] e = λ k p. absurd (none-some k p)
forwarded-extends key h (f ∷ fs) e = here (forwarded-extends key h fs e.1) (pairs h f.heading) refl where
  here : Extends key h.name (option_and_then (λ (x : Forwarded). x.key) (forwarded_for h fs)) → (b : Bool) → pairs h f.heading ≡ b → Extends key h.name (option_and_then (λ (x : Forwarded). x.key) (if b then Some f else forwarded_for h fs))
  here rest true q k p = let x = e.0 k p in (x.0, x.1, x.2 ∙ ap (λ (n : List ℕ). x.0 ++ n ∷ []) (paired-name h f.heading q))
  here rest false q k p = rest k p

-- those that wait behind a routine
without-extends : (key : Option Key) (h : Heading) (fs : List Forwarded) → Each (ExtendsHeading key) fs → Each (ExtendsHeading key) (without_forwarded h fs)
without-extends key h [] e = tt
without-extends key h (f ∷ fs) e = here (without-extends key h fs e.1) (pairs h f.heading) where
  here : Each (ExtendsHeading key) (without_forwarded h fs) → (b : Bool) → Each (ExtendsHeading key) (if b then without_forwarded h fs else f ∷ without_forwarded h fs)
  here rest true = rest
  here rest false = (e.0, rest)

-- the key of a routine in its block
own-extends : (key : Option Key) (n : List ℕ) (later is_first : Bool) (o : Option Key) → Extends key n o →
    Extends key n (if later then o else if is_first then extended key n else None)
own-extends key n true is_first o e = e
own-extends key n false true o e = extended-extends key n
own-extends key n false false o e = λ k p. absurd (none-some k p)

-- the owner says the key
pub owner_of-some : (o : Option Key) (p : List ℕ) (k : Key) → owner_of o p ≡ Keyed k → o ≡ Some k
owner_of-some (Some j) p k e = ap Some (ap (owner_key k) e)
owner_of-some None p k e = absurd (true≢false (sym (ap is_keyed e)))

owner_place : List ℕ → Owner → List ℕ
owner_place d (Keyed k) = d
owner_place d (Placed p) = p

owner_of-placed : (o : Option Key) (p q : List ℕ) → owner_of o p ≡ Placed q → p ≡ q
unfolding owner_place
owner_of-placed (Some j) p q e = absurd (true≢false (ap is_keyed e))
owner_of-placed None p q e = ap (owner_place p) e

owner_of-keyed : (o : Option Key) (p : List ℕ) → is_some o ≡ is_keyed (owner_of o p)
owner_of-keyed (Some j) p = refl
owner_of-keyed None p = refl

pub key_of-some : (o : Owner) (k : Key) → key_of o ≡ Some k → o ≡ Keyed k
key_of-some (Keyed j) k e = ap (λ (x : Option Key). Keyed (key_or k x)) e
key_of-some (Placed p) k e = absurd (none-some k e)

pub key_of-owner_of : (o : Option Key) (p : List ℕ) → key_of (owner_of o p) ≡ o
key_of-owner_of (Some j) p = refl
key_of-owner_of None p = refl

-- a routine whose key comes from its parent's
named-from : (r : Routine) (key o : Option Key) (p : List ℕ) → r.owner ≡ owner_of o p → r.has_key ≡ is_some o → r.place ≡ p → r.block_kid ≡ kid_count r.heading → Extends key r.name o → key ≡ key_of r.parent → IsNamedByKey r
named-from r key o p w h s c e q = record {
  keyed = h ∙ owner_of-keyed o p ∙ ap is_keyed (sym w);
  parent = λ k a. let x = e k (owner_of-some o p k (sym w ∙ a)) in key_of-some r.parent x.0 (sym q ∙ x.1) ∙ ap Keyed (sym (ap front x.2 ∙ front-append x.0 r.name));
  name = λ k a. let x = e k (owner_of-some o p k (sym w ∙ a)) in sym (ap last x.2 ∙ last-append x.0 r.name);
  placed = λ a b. s ∙ owner_of-placed o p a (sym w ∙ b);
  kid = λ k a. let x = e k (owner_of-some o p k (sym w ∙ a)) in c ∙ sym (ap (λ (j : Key). kid_of j r.heading) x.2 ∙ kid_of-append x.0 r.name r.heading);
}

-- the routine that a node of a block is
module _ (m : List ℕ → Found) (l : Local) (fs : List Forwarded) (p : List ℕ) (key : Option Key) (k : Kind) (ks : Forest)
    (e : key ≡ key_of l.owner) (w : Each (ExtendsHeading key) fs) where
  -- its key
  own_key : Option Key
  own_key =
      if is_later_declaration l then option_and_then (λ (x : Forwarded). x.key) (forwarded_for (heading_here l) fs)
      else if not (is_later_declaration l) && not (length (heading_here l).name == 0) && not (is_among l.passed (heading_here l).name) then extended key (heading_here l).name else None

  routine-extends : Extends key (heading_here l).name own_key
  unfolding own_key
  routine-extends = own-extends key (heading_here l).name (is_later_declaration l) _ _ (forwarded-extends key (heading_here l) fs w)

  -- the key around, with the routine's name behind
  pub routine-key : (j : Key) → (routine_of m l fs p key k ks).owner ≡ Keyed j → (i : Key) × (key ≡ Some i) × (j ≡ i ++ (heading_here l).name ∷ [])
  unfolding own_key
  routine-key j q = routine-extends j (owner_of-some own_key p j q)

  pub routine-named : IsNamedByKey (routine_of m l fs p key k ks)
  unfolding own_key
  routine-named = named-from (routine_of m l fs p key k ks) key own_key p refl refl refl (sym (heading-count ks)) routine-extends e

  waits : (b : Bool) → Each (ExtendsHeading key) (if b then fs ++ record { heading = heading_here l; key = key_of (routine_of m l fs p key k ks).owner; parameters = parameters_of (routine_of m l fs p key k ks) } ∷ [] else without_forwarded (heading_here l) fs)
  unfolding own_key
  waits true = each-append (ExtendsHeading key) fs _ w ((λ j q. routine-extends j (sym (key_of-owner_of own_key p) ∙ q)), tt)
  waits false = without-extends key (heading_here l) fs w

  pub forwarded-waits : Each (ExtendsHeading key) (forwarded_by l (routine_of m l fs p key k ks) fs)
  forwarded-waits = waits (heading_here l).is_forward

-- a list of routines by what its node is
by-part : (P : List Routine → Type 0) (q : Part) (a b c : List Routine) → P a → P b → P c → P (elim q [ ARoutine ↦ a | AllRoutines ↦ b | NoRoutine ↦ c ])
by-part P ARoutine a b c x y z = x
by-part P AllRoutines a b c x y z = y
by-part P NoRoutine a b c x y z = z

-- all routines of some trees
mutual
  unfolding routines_in

  pub named-in : (m : List ℕ → Found) (l : Local) (fs : List Forwarded) (p : List ℕ) (key : Option Key) (f : Forest) → key ≡ key_of l.owner →
      Each (ExtendsHeading key) fs → Each IsNamedByKey (routines_in m l fs p key f)
  named-in m l fs p key Nil e w = tt
  named-in m l fs p key (Cons k v ns ks ts) e w =
      let a : Attributes = first (decorate (bare m) l (own (Cons k v ns ks Nil))) in
      let after : Local = beside l k a in
      let m' : List ℕ → Found = find (bare m) after in
      let r : Routine = routine_of m' l fs (p ++ l.kid ∷ []) key k ks in
      let e' : key ≡ key_of after.owner = e ∙ ap key_of (sym (beside-owner l k a)) in
      let here : IsNamedByKey r = routine-named m' l fs (p ++ l.kid ∷ []) key k ks e w in
      let rest : Each IsNamedByKey (routines_in m after (forwarded_by l r fs) p key ts) =
      named-in m after (forwarded_by l r fs) p key ts e' (forwarded-waits m' l fs (p ++ l.kid ∷ []) key k ks e w) in
      by-part (Each IsNamedByKey) (part_of k) _ _ _
      (each-append IsNamedByKey (r ∷ routines_below r 1 ks) _ (here, named-below r 1 ks) rest)
      (named-in m (inner l k ks) [] (p ++ l.kid ∷ []) key ks (e ∙ ap key_of (sym (inner-owner l k ks))) tt)
      (named-in m after fs p key ts e' w)

  pub named-below : (r : Routine) (i : ℕ) (f : Forest) → Each IsNamedByKey (routines_below r i f)
  named-below r i Nil = tt
  named-below r i (Cons kind.Block v ns ks ts) = named-in r.means (start_of r) [] (r.place ++ i ∷ []) (key_of r.owner) ks refl tt
  named-below r i (Cons k v ns ks ts) = named-below r (suc i) ts

-- the program's key is empty
program-named : (t : Plain) → IsNamedByKey (program_routine t)
program-named t = record {
  keyed = refl;
  parent = λ k a. ap (λ (o : Owner). Keyed (front (owner_key [] o))) a;
  name = λ k a. ap (λ (o : Owner). last (owner_key [] o)) a;
  placed = λ p a. absurd (true≢false (ap is_keyed a));
  kid = λ k a. ap (λ (o : Owner). kid_of (owner_key [] o) (program_routine t).heading) a;
}

-- in a program a routine's key gives its name and the routine that it is declared in
pub routines-named : (t : Plain) → Each IsNamedByKey (routines_of t)
unfolding routines_of
routines-named t = (program-named t, named-below (program_routine t) 1 t.kids)
