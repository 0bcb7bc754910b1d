-- A later declaration with a key has its forward heading among the routines of its program, and is given the parameters of that.
use Rattle.std.specs.Prelude.{ℕ, suc, ◌≡◌, Bool, true, false, not, ◌&&◌, if◌then◌else◌, List, [], ◌∷◌, Option, Some, None, ◌++◌, ◌⊎◌}
use Rattle.std.specs.Option.{option_and_then, option_map_or}
use Rattle.std.proofs.Common.{refl, ap, sym, ◌∙◌, true≢false, inl, inr}
use Rattle.std.proofs.lemmas.Bool.{and_parts, and_from, false_from_ne_true}
use Rattle.pc_syntax.specs.declared.kind.Kind.{Kind}
use Rattle.pc_syntax.specs.declared.kind.Kind.TheVariants as kind
use Rattle.pc_syntax.specs.declared.class.Class.TheVariants as class
use Rattle.pc_syntax.specs.Classes.{has}
use Rattle.pc_syntax.specs.Fits.{takes_from}
use Rattle.pc_syntax.specs.Plain.{Forest, Nil, Cons, Plain, kinds}
use Rattle.pc_syntax.specs.WellFormed.{WellFormed, IsProper}
use Rattle.pc_types.specs.Sameness.{same_owner}
use Rattle.pc_types.specs.Shapes.{Owner, Keyed}
use Rattle.pc_scope.specs.Blocks.{block_kids}
use Rattle.pc_scope.specs.Headings.{Heading, ends_forward, heading_of, headings_in, any_pairs, pairs}
use Rattle.pc_rules.specs.Attributes.{Attributes, first}
use Rattle.pc_rules.specs.Declarations.{head_or, heading_here, rest_of, is_later_declaration}
use Rattle.pc_rules.specs.Decorated.{decorate}
use Rattle.pc_rules.specs.Meanings.{Meaning, Found, Local, find}
use Rattle.pc_rules.specs.OwnBlock.{own, heading_part}
use Rattle.pc_rules.specs.Places.{inner, beside}
use Rattle.pc_rules.specs.RoutineList.{Forwarded, forwarded_for, without_forwarded, routine_of, key_of, forwarded_by, ARoutine, part_of, routines_in, routines_below, program_routine, routines_of}
use Rattle.pc_rules.specs.Routines.{Routine, bare, parameters_of, start_of}
use Rattle.pc_needs.specs.Answers.{has_block}
use Rattle.pc_needs.specs.Keys.{IsForwardOf, ForwardLaw}
use Rattle.pc_needs.specs.Unaffected.{IsOneOf}
use Rattle.pc_needs.specs.UsedNames.{is_nil, stands_forward, first_forward, forward_of}
use Rattle.pc_needs.proofs.KeyLemmas.{Key, key_of-some, owner_of-some}
use Rattle.pc_needs.proofs.Lists.{Each, each-append, each-map, each-one}
use Rattle.pc_needs.proofs.Owners.{same_owner-equal, same_owner-self}
use Rattle.pc_needs.proofs.PlaceLemmas.{of-part, one-front, one-back}
use Rattle.pc_needs.proofs.UniqueLemmas.{NotBoth, forward-heading, routine-not-both, HasCase, case-of}
use Rattle.pc_needs.proofs.UniqueRoutines.{NoRoutines, hole-ahead, no-list, list-takes, list-ahead, block-no-routines, one-of-key, routines-differ}
use Rattle.pc_needs.proofs.WaitingLemmas.{routine-ahead}

abbrev pub Parameters : Type 0
Parameters = List (List ℕ × Meaning)

-- one of these is the forward heading of a key, and gives these parameters
abbrev pub IsGivenBy : List Routine → Key → Parameters → Type 0
IsGivenBy rs k given = (x : Routine) × IsOneOf rs x × (x.owner ≡ Keyed k) × (stands_forward x ≡ true) × (x.is_later ≡ false) × (given ≡ parameters_of x)

-- one that waits has this key, and gives these parameters
abbrev pub WaitsWith : List Forwarded → Key → Parameters → Type 0
WaitsWith [] k given = ⊥
WaitsWith (f ∷ fs) k given = ((f.key ≡ Some k) × (given ≡ f.parameters)) ⊎ WaitsWith fs k given

-- a later declaration has its parameters from a forward heading among these, or from one that waits
abbrev pub IsLinked : List Forwarded → List Routine → Routine → Type 0
IsLinked fs rs y = (k : Key) → y.is_later ≡ true → y.owner ≡ Keyed k → IsGivenBy rs k y.given ⊎ WaitsWith fs k y.given

none-given : (k : Key) → None ≡ Some k → ⊥
none-given k e = true≢false (sym (ap some e)) where
  some : Option Key → Bool
  some None = false
  some (Some j) = true

given-waits : (h : Heading) (fs : List Forwarded) (k : Key) → option_and_then (λ (x : Forwarded). x.key) (forwarded_for h fs) ≡ Some k →
    WaitsWith fs k (option_map_or (λ (x : Forwarded). x.parameters) (forwarded_for h fs) [])
given-waits h [] k e = none-given k e
given-waits h (f ∷ fs) k e = which (given-waits h fs k) (pairs h f.heading) e where
  which : (option_and_then (λ (x : Forwarded). x.key) (forwarded_for h fs) ≡ Some k → WaitsWith fs k (option_map_or (λ (x : Forwarded). x.parameters) (forwarded_for h fs) [])) → (b : Bool) →
      option_and_then (λ (x : Forwarded). x.key) (if b then Some f else forwarded_for h fs) ≡ Some k →
      WaitsWith (f ∷ fs) k (option_map_or (λ (x : Forwarded). x.parameters) (if b then Some f else forwarded_for h fs) [])
  which rest true q = inl (q, refl)
  which rest false q = inr (rest q)

with-split : (fs gs : List Forwarded) (k : Key) (given : Parameters) → WaitsWith (fs ++ gs) k given → WaitsWith fs k given ⊎ WaitsWith gs k given
with-split [] gs k given w = inr w
with-split (f ∷ fs) gs k given (inl h) = inl (inl h)
with-split (f ∷ fs) gs k given (inr w) = which (with-split fs gs k given w) where
  which : WaitsWith fs k given ⊎ WaitsWith gs k given → WaitsWith (f ∷ fs) k given ⊎ WaitsWith gs k given
  which (inl x) = inl (inr x)
  which (inr x) = inr x

with-in : (b : Bool) (f : Forwarded) (fs gs : List Forwarded) (k : Key) (given : Parameters) → (WaitsWith fs k given → WaitsWith gs k given) →
    WaitsWith (if b then fs else f ∷ fs) k given → WaitsWith (f ∷ gs) k given
with-in true f fs gs k given g w = inr (g w)
with-in false f fs gs k given g (inl h) = inl h
with-in false f fs gs k given g (inr w) = inr (g w)

without-with : (h : Heading) (fs : List Forwarded) (k : Key) (given : Parameters) → WaitsWith (without_forwarded h fs) k given → WaitsWith fs k given
without-with h [] k given w = w
without-with h (f ∷ fs) k given w = with-in (pairs h f.heading) f (without_forwarded h fs) fs k given (without-with h fs k given) w

-- among more routines
given-more : (rs us : List Routine) (k : Key) (given : Parameters) → ((x : Routine) → IsOneOf rs x → IsOneOf us x) → IsGivenBy rs k given → IsGivenBy us k given
given-more rs us k given m x = (x.0, m x.0 x.1, x.2, x.3, x.4, x.5)

linked-more : (fs : List Forwarded) (rs us : List Routine) (y : Routine) → ((x : Routine) → IsOneOf rs x → IsOneOf us x) → IsLinked [] rs y → IsLinked fs us y
linked-more fs rs us y m h k later q = which (h k later q) where
  which : IsGivenBy rs k y.given ⊎ ⊥ → IsGivenBy us k y.given ⊎ WaitsWith fs k y.given
  which (inl x) = inl (given-more rs us k y.given m x)
  which (inr x) = absurd x

-- a forward heading has no block
empty-block : (f : Forest) → has_block f ≡ false → is_nil (own (block_kids f)) ≡ true
unfolding own
empty-block Nil e = refl
empty-block (Cons kind.Block w ns ks ts) e = absurd (true≢false e)
empty-block (Cons k w ns ks ts) e = empty-block ts e

-- one routine in its list
module _ (m : List ℕ → Found) (l : Local) (fs : List Forwarded) (p : List ℕ) (key : Option Key) (k : Kind) (ks : Forest) (hs : List Heading)
    (part : part_of k ≡ ARoutine) (ahead : l.ahead ≡ heading_of k ks ∷ hs) (never : NotBoth ks) where
  pub own-linked : (us : List Routine) → IsLinked fs us (routine_of m l fs p key k ks)
  own-linked us j later q = inr (which (case-of l fs j key (is_later_declaration l) _ _ _ (heading_here l).name (owner_of-some _ p j q))) where
    which : HasCase l fs j → WaitsWith fs j (routine_of m l fs p key k ks).given
    which (inl x) = given-waits (heading_here l) fs j x.1
    which (inr x) = absurd (true≢false (sym later ∙ x.0))

  is-forward : (heading_here l).is_forward ≡ true → ends_forward ks ≡ true
  is-forward e = (and_parts _ (ends_forward ks) ((λ i. (sym (ap head_or ahead) i).is_forward) ∙ e)).1

  pub stands : (heading_here l).is_forward ≡ true → stands_forward (routine_of m l fs p key k ks) ≡ true
  stands e =
      and_from (ends_forward (heading_part ks)) (is_nil (own (block_kids ks))) (forward-heading ks ∙ is-forward e)
      (empty-block ks (false_from_ne_true (has_block ks) (λ b. never b (is-forward e))))

  pub not-later : (heading_here l).is_forward ≡ true → (routine_of m l fs p key k ks).is_later ≡ false
  not-later e = ap (λ (b : Bool). not b && any_pairs (heading_here l) l.waiting) e

  -- what waits behind it waited before, or is its own heading
  pub then-given : (us : List Routine) → IsOneOf us (routine_of m l fs p key k ks) → (j : Key) (given : Parameters) → WaitsWith (forwarded_by l (routine_of m l fs p key k ks) fs) j given →
      IsGivenBy us j given ⊎ WaitsWith fs j given
  then-given us one j given v = which (heading_here l).is_forward refl v where
    new : (heading_here l).is_forward ≡ true → WaitsWith fs j given ⊎ WaitsWith (record { heading = heading_here l; key = key_of (routine_of m l fs p key k ks).owner; parameters = parameters_of (routine_of m l fs p key k ks) } ∷ []) j given →
        IsGivenBy us j given ⊎ WaitsWith fs j given
    new f (inl x) = inr x
    new f (inr (inl x)) = inl (routine_of m l fs p key k ks, one, key_of-some _ j x.0, stands f, not-later f, x.1)
    new f (inr (inr x)) = absurd x

    which : (b : Bool) → (heading_here l).is_forward ≡ b →
        WaitsWith (if b then fs ++ record { heading = heading_here l; key = key_of (routine_of m l fs p key k ks).owner; parameters = parameters_of (routine_of m l fs p key k ks) } ∷ [] else without_forwarded (heading_here l) fs) j given →
        IsGivenBy us j given ⊎ WaitsWith fs j given
    which true f w = new f (with-split fs _ j given w)
    which false f w = inr (without-with (heading_here l) fs j given w)

-- a routine, those inside it, and those behind
joined-linked : (fs gs : List Forwarded) (r : Routine) (bs ts : List Routine) → IsLinked fs ((r ∷ bs) ++ ts) r → Each (IsLinked [] bs) bs → Each (IsLinked gs ts) ts →
    ((j : Key) (given : Parameters) → WaitsWith gs j given → IsGivenBy ((r ∷ bs) ++ ts) j given ⊎ WaitsWith fs j given) → Each (IsLinked fs ((r ∷ bs) ++ ts)) ((r ∷ bs) ++ ts)
joined-linked fs gs r bs ts own inner behind then-given-it =
    each-append (IsLinked fs ((r ∷ bs) ++ ts)) (r ∷ bs) ts
    (own, each-map (IsLinked [] bs) (IsLinked fs ((r ∷ bs) ++ ts)) bs (λ y h. linked-more fs bs ((r ∷ bs) ++ ts) y (λ x i. one-front (r ∷ bs) ts x (inr i)) h) inner)
    (each-map (IsLinked gs ts) (IsLinked fs ((r ∷ bs) ++ ts)) ts (λ y h k later q. which y k (h k later q)) behind) where
      which : (y : Routine) (k : Key) → IsGivenBy ts k y.given ⊎ WaitsWith gs k y.given → IsGivenBy ((r ∷ bs) ++ ts) k y.given ⊎ WaitsWith fs k y.given
      which y k (inl x) = inl (given-more ts ((r ∷ bs) ++ ts) k y.given (λ z i. one-back (r ∷ bs) ts z i) x)
      which y k (inr x) = then-given-it k y.given x

mutual
  unfolding routines_in

  linked-list : (m : List ℕ → Found) (l : Local) (fs : List Forwarded) (p : List ℕ) (key : Option Key) (f : Forest) (i : ℕ) →
      WellFormed f → takes_from kind.Routines i (kinds f) ≡ true → l.ahead ≡ headings_in f → Each (IsLinked fs (routines_in m l fs p key f)) (routines_in m l fs p key f)
  linked-list m l fs p key Nil i c t ahead = tt
  linked-list m l fs p key (Cons k v ns ks ts) i c t ahead =
      let a : Attributes = first (decorate (bare m) l (own (Cons k v ns ks Nil))) in
      let after : Local = beside l k a in
      let m' : List ℕ → Found = find (bare m) after in
      let q : List ℕ = p ++ l.kid ∷ [] in
      let r : Routine = routine_of m' l fs q key k ks in
      let takes = and_parts (has class.Routine k) (takes_from kind.Routines (suc i) (kinds ts)) t in
      of-part (λ rs. Each (IsLinked fs rs) rs) (part_of k) _ _ _
      (λ part.
      let never = routine-not-both k v ks part c.0 in
      let bs : List Routine = routines_below r 1 ks in
      let rest : List Routine = routines_in m after (forwarded_by l r fs) p key ts in
      joined-linked fs (forwarded_by l r fs) r bs rest (own-linked m' l fs q key k ks (headings_in ts) part ahead never ((r ∷ bs) ++ rest))
      (linked-below r 1 ks c.3)
      (linked-list m after (forwarded_by l r fs) p key ts (suc i) c.4 takes.1 (routine-ahead l k a part ∙ ap rest_of ahead))
      (then-given m' l fs q key k ks (headings_in ts) part ahead never ((r ∷ bs) ++ rest) (inl refl)))
      (λ part. absurd (no-list k takes.0 part))
      (λ part. linked-list m after fs p key ts (suc i) c.4 takes.1 (hole-ahead l k a takes.0 part ∙ ap rest_of ahead))

  linked-block : (m : List ℕ → Found) (l : Local) (fs : List Forwarded) (p : List ℕ) (key : Option Key) (f : Forest) →
      WellFormed f → NoRoutines f → Each (IsLinked [] (routines_in m l fs p key f)) (routines_in m l fs p key f)
  linked-block m l fs p key Nil c h = tt
  linked-block m l fs p key (Cons k v ns ks ts) c h =
      let a : Attributes = first (decorate (bare m) l (own (Cons k v ns ks Nil))) in
      of-part (λ rs. Each (IsLinked [] rs) rs) (part_of k) _ _ _
      (λ part. absurd (h.0 part))
      (λ part. linked-list m (inner l k ks) [] (p ++ l.kid ∷ []) key ks 0 c.3 (list-takes k v ks part c.0) (list-ahead l k ks part))
      (λ part. linked-block m (beside l k a) fs p key ts c.4 h.1)

  linked-below : (r : Routine) (i : ℕ) (f : Forest) → WellFormed f → Each (IsLinked [] (routines_below r i f)) (routines_below r i f)
  linked-below r i Nil c = tt
  linked-below r i (Cons kind.Block v ns ks ts) c = linked-block r.means (start_of r) [] (r.place ++ i ∷ []) (key_of r.owner) ks c.3 (block-no-routines v ks c.0)
  linked-below r i (Cons k v ns ks ts) c = linked-below r (suc i) ts c.4

routines-linked : (t : Plain) → IsProper t → Each (IsLinked [] (routines_of t)) (routines_of t)
unfolding routines_of
routines-linked t proper =
    let bs : List Routine = routines_below (program_routine t) 1 t.kids in (
      (λ k later q. absurd (true≢false (sym later))),
      each-map (IsLinked [] bs) (IsLinked [] (program_routine t ∷ bs)) bs (λ y h. linked-more [] bs (program_routine t ∷ bs) y (λ x i. inr i) h) (linked-below (program_routine t) 1 t.kids proper.sound.3),
    )

-- the first forward heading of an owner's
found-forward : (rs : List Routine) (o : Owner) (x : Routine) → IsOneOf rs x → x.owner ≡ o → stands_forward x ≡ true →
    (g : Routine) × (first_forward rs o ≡ Some g) × IsOneOf rs g × (g.owner ≡ o) × (stands_forward g ≡ true)
found-forward [] o x i p q = absurd i
found-forward (r ∷ rs) o x i p q = which (λ j. found-forward rs o x j p q) i (same_owner r.owner o && stands_forward r) refl where
  which : (IsOneOf rs x → (g : Routine) × (first_forward rs o ≡ Some g) × IsOneOf rs g × (g.owner ≡ o) × (stands_forward g ≡ true)) → (r ≡ x) ⊎ IsOneOf rs x → (b : Bool) →
      (same_owner r.owner o && stands_forward r) ≡ b →
      (g : Routine) × ((if b then Some r else first_forward rs o) ≡ Some g) × IsOneOf (r ∷ rs) g × (g.owner ≡ o) × (stands_forward g ≡ true)
  which rest j true e =
      let both = and_parts (same_owner r.owner o) (stands_forward r) e in
      (r, refl, inl refl, same_owner-equal r.owner o both.0, both.1)
  which rest (inl j) false e =
      absurd (true≢false (sym (and_from (same_owner r.owner o) (stands_forward r) (ap (λ (z : Owner). same_owner z o) (ap (λ (z : Routine). z.owner) j ∙ p) ∙ same_owner-self o) (ap stands_forward j ∙ q)) ∙ e))
  which rest (inr j) false e = let g = rest j in (g.0, g.1, inr g.2, g.3, g.4)

-- the forward heading of a later declaration with a key
pub has-forward : ForwardLaw
unfolding forward_of
has-forward t r k proper i o later = which (each-one (IsLinked [] (routines_of t)) (routines_of t) r i (routines-linked t proper) k later o) where
  which : IsGivenBy (routines_of t) k r.given ⊎ ⊥ → (f : Routine) × IsForwardOf (routines_of t) r f
  which (inr x) = absurd x
  which (inl x) =
      let g = found-forward (routines_of t) r.owner x.0 x.1 (x.2 ∙ sym o) x.3 in
      let same : x.0 ≡ g.0 =
      one-of-key (routines_of t) x.0 g.0 k (routines-differ t proper) x.1 g.2 x.2 (g.3 ∙ o)
      ((and_parts (ends_forward x.0.heading) _ x.3).0 ∙ sym (and_parts (ends_forward g.0.heading) _ g.4).0) in (
        g.0,
        record {
          found = (λ n. if later n then first_forward (routines_of t) r.owner else None) ∙ g.1;
          among = g.2;
          owner = g.3;
          stands = g.4;
          first = ap (λ (z : Routine). z.is_later) (sym same) ∙ x.4;
          given = x.5 ∙ ap parameters_of same;
        },
      )
