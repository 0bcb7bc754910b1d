-- All routines of a program in text order: where two have one key, the one behind is a later declaration.
use Rattle.std.specs.Prelude.{ℕ, suc, ◌≡◌, true, List, [], ◌∷◌, Option, Some, ◌++◌}
use Rattle.std.proofs.Common.{refl, ap, sym, ◌∙◌}
use Rattle.std.proofs.lemmas.Bool.{and_parts}
use Rattle.pc_syntax.specs.declared.kind.Kind.TheVariants as kind
use Rattle.pc_syntax.specs.declared.class.Class.TheVariants as class
use Rattle.pc_syntax.specs.Classes.{has}
use Rattle.pc_syntax.specs.Fits.{takes_from}
use Rattle.pc_syntax.specs.Plain.{Forest, Nil, Cons, Plain, kinds}
use Rattle.pc_syntax.specs.WellFormed.{WellFormed, IsProper}
use Rattle.pc_syntax.specs.Words.{is_among}
use Rattle.pc_scope.specs.Headings.{headings_in}
use Rattle.pc_rules.specs.Attributes.{Attributes, first}
use Rattle.pc_rules.specs.Declarations.{heading_here, rest_of}
use Rattle.pc_rules.specs.Decorated.{decorate}
use Rattle.pc_rules.specs.Meanings.{Found, Local, find}
use Rattle.pc_rules.specs.OwnBlock.{own}
use Rattle.pc_rules.specs.Places.{inner, beside}
use Rattle.pc_rules.specs.RoutineList.{Forwarded, routine_of, key_of, forwarded_by, part_of, routines_in, routines_below, program_routine, routines_of}
use Rattle.pc_rules.specs.Routines.{Routine, bare, start_of}
use Rattle.pc_needs.specs.Answers.{has_block}
use Rattle.pc_needs.proofs.KeyLemmas.{Key, routine-key, ExtendsHeading, forwarded-waits}
use Rattle.pc_needs.proofs.Lists.{Each, each-map, each-both}
use Rattle.pc_needs.proofs.Owners.{inner-owner, beside-owner}
use Rattle.pc_needs.proofs.PlaceLemmas.{of-part, below-block}
use Rattle.pc_needs.proofs.UniqueLemmas.{routine-not-both, StandsUnder, passed-by, before-then, apart-then, inside-name, inside-fresh, behind-fresh}
use Rattle.pc_needs.proofs.UniqueRoutines.{NoRoutines, hole-ahead, no-list, list-takes, list-ahead, block-no-routines, differ-below}
use Rattle.pc_needs.proofs.WaitingLemmas.{name-defined, routine-ahead, Waits, WaitApart}
use Rattle.pc_block_laws.proofs.FollowLemmas.{Follows, AllFollow, later_mark, marked, IsNew, own-follows, inside-follows, own-new, inside-other, joined-follow, hole-passed, new-same}

mutual
  unfolding routines_in

  follow-list : (m : List ℕ → Found) (l : Local) (fs : List Forwarded) (p : List ℕ) (key : Option Key) (f : Forest) (i : ℕ) →
      WellFormed f → takes_from kind.Routines i (kinds f) ≡ true → l.ahead ≡ headings_in f → key ≡ key_of l.owner → Each (ExtendsHeading key) fs →
      ((n : List ℕ) → Waits fs n → is_among l.passed n ≡ true) → WaitApart fs →
      AllFollow (routines_in m l fs p key f) × Each (IsNew l fs key) (routines_in m l fs p key f)
  follow-list m l fs p key Nil i c t ahead e w before apart = (tt, tt)
  follow-list m l fs p key (Cons k v ns ks ts) i c t ahead e w before apart =
      let a : Attributes = first (decorate (bare m) l (own (Cons k v ns ks Nil))) in
      let after : Local = beside l k a in
      let m' : List ℕ → Found = find (bare m) after in
      let r : Routine = routine_of m' l fs (p ++ l.kid ∷ []) key k ks in
      let q : List ℕ = p ++ l.kid ∷ [] in
      let takes = and_parts (has class.Routine k) (takes_from kind.Routines (suc i) (kinds ts)) t in
      let e' : key ≡ key_of after.owner = e ∙ ap key_of (sym (beside-owner l k a)) in
      of-part (λ rs. AllFollow rs × Each (IsNew l fs key) rs) (part_of k) _ _ _
      (λ part.
      let never = routine-not-both k v ks part c.0 in
      let defined = name-defined m l k v ns ks part in
      let below = follow-below r 1 ks c.3 in
      let under = (differ-below r 1 ks c.3).1 in
      let passed = passed-by m' l fs q key k ks (headings_in ts) a part ahead e w before apart never defined in
      let behind = follow-list m after (forwarded_by l r fs) p key ts (suc i) c.4 takes.1 (routine-ahead l k a part ∙ ap rest_of ahead) e' (forwarded-waits m' l fs q key k ks e w)
      (before-then m' l fs q key k ks (headings_in ts) a part ahead e w before apart never defined)
      (apart-then m' l fs q key k ks (headings_in ts) a part ahead e w before apart never defined) in
      joined-follow key l fs after (forwarded_by l r fs) r (routines_below r 1 ks) (routines_in m after (forwarded_by l r fs) p key ts)
      (λ y new. own-follows key (heading_here l).name ks r y after (forwarded_by l r fs) passed (routine-key m' l fs q key k ks e w) new)
      (each-map (λ b. (has_block ks ≡ true) × StandsUnder (key_of r.owner) b) (λ x. (y : Routine) → IsNew after (forwarded_by l r fs) key y → Follows x y) (routines_below r 1 ks)
      (λ b h y new. inside-follows key (heading_here l).name ks r b y after (forwarded_by l r fs) passed
      (λ x. inside-name m' l fs q key k ks (headings_in ts) a part ahead e w before apart never defined (record b { heading = later_mark x }) h.0 h.1) new)
      (each-both (λ b. has_block ks ≡ true) (StandsUnder (key_of r.owner)) (routines_below r 1 ks) (below-block r 1 ks) under))
      (each-map (StandsUnder (key_of r.owner)) (Follows r) (routines_below r 1 ks) (inside-other r) under)
      (own-new m' l fs q key k ks e w)
      (each-map (StandsUnder (key_of r.owner)) (IsNew l fs key) (routines_below r 1 ks)
      (λ b h. inside-fresh m' l fs q key k ks (headings_in ts) a part ahead e w before apart never defined (marked b) h) under)
      below
      (λ y new. behind-fresh m' l fs q key k ks (headings_in ts) a part ahead e w before apart never defined (marked y) new)
      behind.0 behind.1)
      (λ part. absurd (no-list k takes.0 part))
      (λ part.
      let same : after.passed ≡ l.passed = hole-passed l k a takes.0 part in
      let rest = follow-list m after fs p key ts (suc i) c.4 takes.1 (hole-ahead l k a takes.0 part ∙ ap rest_of ahead) e' w
      (λ n x. ap (λ (ns : List (List ℕ)). is_among ns n) same ∙ before n x) apart in
      (rest.0, each-map (IsNew after fs key) (IsNew l fs key) (routines_in m after fs p key ts) (λ y h. new-same after l fs key y same h) rest.1))

  follow-block : (m : List ℕ → Found) (l : Local) (fs : List Forwarded) (p : List ℕ) (key : Option Key) (f : Forest) →
      WellFormed f → NoRoutines f → key ≡ key_of l.owner → AllFollow (routines_in m l fs p key f)
  follow-block m l fs p key Nil c h e = tt
  follow-block m l fs p key (Cons k v ns ks ts) c h e =
      let a : Attributes = first (decorate (bare m) l (own (Cons k v ns ks Nil))) in
      let after : Local = beside l k a in
      of-part AllFollow (part_of k) _ _ _
      (λ part. absurd (h.0 part))
      (λ part.
      (follow-list m (inner l k ks) [] (p ++ l.kid ∷ []) key ks 0 c.3 (list-takes k v ks part c.0) (list-ahead l k ks part)
      (e ∙ ap key_of (sym (inner-owner l k ks))) tt (λ n x. absurd x) tt).0)
      (λ part. follow-block m after fs p key ts c.4 h.1 (e ∙ ap key_of (sym (beside-owner l k a))))

  pub follow-below : (r : Routine) (i : ℕ) (f : Forest) → WellFormed f → AllFollow (routines_below r i f)
  follow-below r i Nil c = tt
  follow-below r i (Cons kind.Block v ns ks ts) c = follow-block r.means (start_of r) [] (r.place ++ i ∷ []) (key_of r.owner) ks c.3 (block-no-routines v ks c.0) refl
  follow-below r i (Cons k v ns ks ts) c = follow-below r (suc i) ts c.4

-- ---- a program

pub routines-follow : (t : Plain) → IsProper t → AllFollow (routines_of t)
unfolding routines_of
routines-follow t proper = (
  each-map (StandsUnder (Some [])) (Follows (program_routine t)) (routines_below (program_routine t) 1 t.kids) (inside-other (program_routine t)) (differ-below (program_routine t) 1 t.kids proper.sound.3).1,
  follow-below (program_routine t) 1 t.kids proper.sound.3,
)
