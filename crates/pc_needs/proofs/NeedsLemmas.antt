-- The proof of the law of needs: what is the same in two programs decides what is found in a routine.
use Rattle.std.specs.Prelude.{ℕ, ◌≡◌, Bool, true, false, ◌&&◌, if◌then◌else◌, List, [], ◌∷◌, Option, Some, None, option_map, ◌++◌}
use Rattle.std.specs.Option.{is_some}
use Rattle.std.proofs.Common.{refl, ap, sym, subst, subst₂, ◌∙◌, true≢false}
use Rattle.std.proofs.lemmas.Bool.{and_parts}
use Rattle.pc_syntax.specs.Plain.{Forest, Nil, Cons, Plain}
use Rattle.pc_syntax.specs.Words.{is_among}
use Rattle.pc_syntax.specs.WellFormed.{IsProper}
use Rattle.pc_types.specs.Shapes.{Owner, Keyed}
use Rattle.pc_types.specs.Sameness.{same_owner}
use Rattle.pc_scope.specs.Headings.{is_function_kind}
use Rattle.pc_rules.specs.Decorated.{decorate}
use Rattle.pc_rules.specs.Attributes.{at_kid, nodes}
use Rattle.pc_rules.specs.Errors.{own_entries}
use Rattle.pc_rules.specs.HandedOn.{kid_entries}
use Rattle.pc_rules.specs.Headings.{heading_entries}
use Rattle.pc_rules.specs.Law.{names_used, SameAt, AgreeOn, SameFound}
use Rattle.pc_rules.specs.Meanings.{Class, Meaning, Local, Outside}
use Rattle.pc_rules.specs.Outsides.{outside_of}
use Rattle.pc_rules.specs.RoutineList.{routines_of}
use Rattle.pc_rules.specs.Routines.{Routine, bare, block_start, heading_start, firsts, heading_marks, params_in, parameters_of, self_of, start_of}
use Rattle.pc_rules.specs.UnaffectedLaws.{decorate-same, unaffected}
use Rattle.pc_needs.specs.Answers.{heading_answer, forward_answer, meaning}
use Rattle.pc_needs.specs.Needs.{needs}
use Rattle.pc_needs.specs.Unaffected.{WrittenHeading, written, IsOneOf, IsUnaffected, SameForward, SameRoutine, NeedsLaw}
use Rattle.pc_needs.specs.UsedNames.{used_in_heading, used_in_block, is_nil, stands_forward, first_forward, forward_of, used_in_forward, names_of}
use Rattle.pc_needs.proofs.AnswerLemmas.{MeansSame, needs-each, heading-same, block-same, agree-each}
use Rattle.pc_needs.proofs.ForwardLemmas.{has-forward}
use Rattle.pc_needs.proofs.KeyLemmas.{Key, is_keyed, kid_of, IsNamedByKey, routines-named}
use Rattle.pc_needs.proofs.Lists.{Each, each-front, each-back, each-map, each-once, each-among, each-both, each-one}
use Rattle.pc_needs.proofs.Owners.{same_owner-equal}

-- two declarations of one key, with one heading and one block, in whose heading each name means the same
pub record AreAlike (r u : Routine) : Type 0 where
  key : Key
  has_key : r.owner ≡ Keyed key
  had_key : u.owner ≡ Keyed key
  named : IsNamedByKey r
  named_before : IsNamedByKey u
  heading : written r ≡ written u
  block : r.block ≡ u.block
  later : r.is_later ≡ u.is_later
  heading_names : AgreeOn [] (used_in_heading r) (bare r.means) (bare u.means)

-- ---- a declaration without the parameters that it doesn't use: those of a forward heading that it isn't the later declaration of

abbrev pub trimmed : Routine → Routine
trimmed r = record r { given = if r.is_later then r.given else [] }

trimmed-same : (x y : Bool) (a b : List (List ℕ × Meaning)) → x ≡ y → (x ≡ true → a ≡ b) → (if x then a else []) ≡ (if y then b else [])
trimmed-same true true a b e h = h refl
trimmed-same true false a b e h = absurd (true≢false e)
trimmed-same false true a b e h = absurd (true≢false (sym e))
trimmed-same false false a b e h = refl

twice : (b : Bool) (x y : List (List ℕ × Meaning)) → (if b then (if b then x else []) else y) ≡ (if b then x else y)
twice true x y = refl
twice false x y = refl

-- its block begins at the same
trimmed-starts : (r : Routine) → start_of (trimmed r) ≡ start_of r
unfolding heading_marks
trimmed-starts r = λ i. block_start r.owner (self_of r) (twice r.is_later r.given (firsts [] (params_in (heading_marks r)).defines) i) r.block

-- and it has the same entries
entries-from : (rs : List Routine) (r : Routine) → own_entries rs (trimmed r) ≡ own_entries rs r
unfolding own_entries outside_of heading_marks
entries-from rs r = λ i. heading_entries r ++ at_kid r.block_kid (kid_entries 1 (nodes (decorate (outside_of rs r) (trimmed-starts r i) r.block)))

-- ---- what alike declarations have
module _ (r u : Routine) (h : AreAlike r u) where
  alike-owner : r.owner ≡ u.owner
  alike-owner = h.has_key ∙ sym h.had_key

  alike-parent : r.parent ≡ u.parent
  alike-parent = h.named.parent h.key h.has_key ∙ sym (h.named_before.parent h.key h.had_key)

  alike-name : r.name ≡ u.name
  alike-name = h.named.name h.key h.has_key ∙ sym (h.named_before.name h.key h.had_key)

  alike-key : r.has_key ≡ u.has_key
  alike-key = h.named.keyed ∙ ap is_keyed alike-owner ∙ sym h.named_before.keyed

  pub alike-marks : heading_marks r ≡ heading_marks u
  unfolding heading_marks
  alike-marks =
      decorate-same (bare r.means) (bare u.means) (heading_start r.owner) r.heading h.heading_names
      ∙ (λ i. decorate (bare u.means) (heading_start (alike-owner i)) (h.heading i).tree)

  alike-kid : r.block_kid ≡ u.block_kid
  alike-kid = h.named.kid h.key h.has_key ∙ (λ i. kid_of h.key (h.heading i).tree) ∙ sym (h.named_before.kid h.key h.had_key)

  module _ (given : r.is_later ≡ true → r.given ≡ u.given) where
    trimmed-start : start_of (trimmed r) ≡ start_of (trimmed u)
    unfolding heading_marks
    trimmed-start =
        λ i. block_start (alike-owner i) (if alike-key i && is_function_kind (h.heading i).kind then Some (alike-parent i, alike-name i) else None)
        (if h.later i then trimmed-same r.is_later u.is_later r.given u.given h.later given i else firsts [] (params_in (alike-marks i)).defines) (h.block i)

    -- their blocks begin at the same
    pub alike-start : start_of r ≡ start_of u
    alike-start = sym (trimmed-starts r) ∙ trimmed-start ∙ trimmed-starts u

    -- and where the blocks' names mean the same, the same is found
    pub alike-found : (rs us : List Routine) → AgreeOn (start_of r).names (used_in_block r) (outside_of rs r) (outside_of us u) → SameFound rs us r u
    unfolding own_entries outside_of heading_marks
    alike-found rs us agree =
        let same : SameFound rs us (trimmed r) (trimmed u) = unaffected rs us (trimmed r) (trimmed u) (record {
          kind = λ i. (h.heading i).kind;
          owner = alike-owner;
          parent = alike-parent;
          name = alike-name;
          key = alike-key;
          later = h.later;
          given = trimmed-same r.is_later u.is_later r.given u.given h.later given;
          heading = λ i. (h.heading i).tree;
          block = h.block;
          kid = alike-kid;
          heading_names = h.heading_names;
          block_names = subst (λ (l : Local). AgreeOn l.names (used_in_block r) (outside_of rs r) (outside_of us u)) (sym (trimmed-starts r)) agree;
        }) in
        record {
          entries = sym (entries-from rs r) ∙ same.entries ∙ entries-from us u;
          marks = sym (λ i. decorate (outside_of rs r) (trimmed-starts r i) r.block) ∙ same.marks ∙ (λ i. decorate (outside_of us u) (trimmed-starts u i) u.block);
        }

-- ---- the names

-- each name of the forward heading, of the heading and of the block means the same
all-same : (rs us : List Routine) (r u : Routine) → needs rs r ≡ needs us u →
    Each (MeansSame rs us r u) (used_in_forward (forward_of rs r) ++ (used_in_heading r ++ used_in_block r))
unfolding needs names_of
all-same rs us r u e =
    each-once (MeansSame rs us r u) [] (used_in_forward (forward_of rs r) ++ (used_in_heading r ++ used_in_block r)) tt
    (needs-each rs us r u _ _ e)

-- names of a heading, where their answers are the same
heading-agrees : (rs us : List Routine) (r u : Routine) → used_in_heading r ≡ used_in_heading u →
    Each (λ n. heading_answer rs r n ≡ heading_answer us u n) (used_in_heading r) → AgreeOn [] (used_in_heading r) (bare r.means) (bare u.means)
heading-agrees rs us r u names h =
    agree-each [] (used_in_heading r) (bare r.means) (bare u.means)
    (each-map (λ n. (heading_answer rs r n ≡ heading_answer us u n) × (is_among (used_in_heading r) n ≡ true)) (SameAt [] (bare r.means) (bare u.means)) (used_in_heading r)
    (λ n b. heading-same rs us r u n names b.1 b.0)
    (each-both (λ n. heading_answer rs r n ≡ heading_answer us u n) (λ n. is_among (used_in_heading r) n ≡ true) (used_in_heading r) h (each-among (used_in_heading r))))

-- ---- the routine with its block
module _ (rs us : List Routine) (r u : Routine) (named : IsNamedByKey r) (named_before : IsNamedByKey u) (h : IsUnaffected rs us r u)
    (later : r.is_later ≡ u.is_later) (given : r.is_later ≡ true → r.given ≡ u.given) where
  own-names : Each (MeansSame rs us r u) (used_in_heading r ++ used_in_block r)
  own-names = each-back (MeansSame rs us r u) (used_in_forward (forward_of rs r)) (used_in_heading r ++ used_in_block r) (all-same rs us r u h.needs)

  own-alike : AreAlike r u
  unfolding meaning
  own-alike = record {
    key = h.key;
    has_key = h.has_key;
    had_key = h.had_key;
    named = named;
    named_before = named_before;
    heading = h.heading;
    block = h.block;
    later = later;
    heading_names = heading-agrees rs us r u (λ i. names_used false true (h.heading i).tree)
        (each-map (MeansSame rs us r u) (λ n. heading_answer rs r n ≡ heading_answer us u n) (used_in_heading r) (λ n e i. (e i).heading)
        (each-front (MeansSame rs us r u) (used_in_heading r) (used_in_block r) own-names));
  }

  block-agrees : AgreeOn (start_of r).names (used_in_block r) (outside_of rs r) (outside_of us u)
  block-agrees =
      agree-each (start_of r).names (used_in_block r) (outside_of rs r) (outside_of us u)
      (each-map (MeansSame rs us r u) (SameAt (start_of r).names (outside_of rs r) (outside_of us u)) (used_in_block r)
      (λ n e. block-same rs us r u n (alike-start r u own-alike given) e)
      (each-back (MeansSame rs us r u) (used_in_heading r) (used_in_block r) own-names))

  -- the same is found in it
  pub own-found : SameFound rs us r u
  own-found = alike-found r u own-alike given rs us block-agrees

-- ---- the forward heading

-- the forward heading of an owner's routine
record IsForward (o : Owner) (f : Routine) : Type 0 where
  owner : f.owner ≡ o
  block : f.block ≡ Nil
  named : IsNamedByKey f

nil-nil : (f : Forest) → is_nil f ≡ true → f ≡ Nil
nil-nil Nil e = refl
nil-nil (Cons k w ns ks ts) e = absurd (true≢false (sym e))

-- what holds of a forward heading, if there is one
OfForward : (Routine → Type 0) → Option Routine → Type 0
OfForward P None = Unit {0}
OfForward P (Some f) = P f

first-forward : (rs : List Routine) (o : Owner) → Each IsNamedByKey rs → OfForward (IsForward o) (first_forward rs o)
unfolding OfForward
first-forward [] o h = tt
first-forward (r ∷ rs) o h = here (first-forward rs o h.1) (same_owner r.owner o && stands_forward r) refl where
  here : OfForward (IsForward o) (first_forward rs o) → (b : Bool) → (same_owner r.owner o && stands_forward r) ≡ b → OfForward (IsForward o) (if b then Some r else first_forward rs o)
  here later true e =
      let both = and_parts (same_owner r.owner o) (stands_forward r) e in
      record { owner = same_owner-equal r.owner o both.0; block = nil-nil r.block (and_parts _ (is_nil r.block) both.1).1; named = h.0 }
  here later false e = later

forward-is : (rs : List Routine) (r : Routine) → Each IsNamedByKey rs → OfForward (IsForward r.owner) (forward_of rs r)
unfolding forward_of OfForward
forward-is rs r h = here r.is_later where
  here : (b : Bool) → OfForward (IsForward r.owner) (if b then first_forward rs r.owner else None)
  here true = first-forward rs r.owner h
  here false = tt

-- the parameters of a declaration that isn't a later one
own-parameters : (r : Routine) → r.is_later ≡ false → parameters_of r ≡ firsts [] (params_in (heading_marks r)).defines
own-parameters r e = ap (λ (b : Bool). if b then r.given else firsts [] (params_in (heading_marks r)).defines) e

written_or : WrittenHeading → Option WrittenHeading → WrittenHeading
written_or d None = d
written_or d (Some w) = w

some-written : (v w : WrittenHeading) → Some v ≡ Some w → v ≡ w
unfolding written_or
some-written v w e = ap (written_or v) e

-- no trees use no names
no-names : (names : List (List ℕ × Class)) (a b : Outside) → AgreeOn names (names_used true true Nil) a b
unfolding names_used
no-names names a b = tt

-- two forward headings of one key, whose names have the same answers
module _ (rs us : List Routine) (f g : Routine) (k : Key) (x : IsForward (Keyed k) f) (y : IsForward (Keyed k) g) (first_f : f.is_later ≡ false) (first_g : g.is_later ≡ false)
    (e : written f ≡ written g) (h : Each (λ n. heading_answer rs f n ≡ heading_answer us g n) (used_in_heading f)) where
  forward-alike : AreAlike f g
  forward-alike = record {
    key = k;
    has_key = x.owner;
    had_key = y.owner;
    named = x.named;
    named_before = y.named;
    heading = e;
    block = x.block ∙ sym y.block;
    later = first_f ∙ sym first_g;
    heading_names = heading-agrees rs us f g (λ i. names_used false true (e i).tree) h;
  }

  -- the same is found in them
  forward-found : SameFound rs us f g
  forward-found =
      alike-found f g forward-alike (λ z. absurd (true≢false (sym z ∙ first_f))) rs us
      (subst (λ (b : Forest). AgreeOn (start_of f).names (names_used true true b) (outside_of rs f) (outside_of us g)) (sym x.block) (no-names (start_of f).names (outside_of rs f) (outside_of us g)))

  -- and they give the same parameters
  forward-parameters : parameters_of f ≡ parameters_of g
  forward-parameters = own-parameters f first_f ∙ (λ i. firsts [] (params_in (alike-marks f g forward-alike i)).defines) ∙ sym (own-parameters g first_g)

-- ---- the law
module _ (t u : Plain) (r s : Routine) (proper_t : IsProper t) (proper_u : IsProper u) (in_t : IsOneOf (routines_of t) r) (in_u : IsOneOf (routines_of u) s)
    (h : IsUnaffected (routines_of t) (routines_of u) r s) where
  named-t : IsNamedByKey r
  named-t = each-one IsNamedByKey (routines_of t) r in_t (routines-named t)

  named-u : IsNamedByKey s
  named-u = each-one IsNamedByKey (routines_of u) s in_u (routines-named u)

  -- the answers at the forward headings
  forward-answers : Each (λ n. forward_answer (routines_of t) (forward_of (routines_of t) r) n ≡ forward_answer (routines_of u) (forward_of (routines_of u) s) n)
      (used_in_forward (forward_of (routines_of t) r))
  unfolding meaning
  forward-answers =
      each-map (MeansSame (routines_of t) (routines_of u) r s) (λ n. forward_answer (routines_of t) (forward_of (routines_of t) r) n ≡ forward_answer (routines_of u) (forward_of (routines_of u) s) n)
      (used_in_forward (forward_of (routines_of t) r)) (λ n e i. (e i).forward)
      (each-front (MeansSame (routines_of t) (routines_of u) r s) (used_in_forward (forward_of (routines_of t) r)) (used_in_heading r ++ used_in_block r)
      (all-same (routines_of t) (routines_of u) r s h.needs))

  -- of two later declarations
  module _ (f g : Routine) (is_f : forward_of (routines_of t) r ≡ Some f) (is_g : forward_of (routines_of u) s ≡ Some g) (first_f : f.is_later ≡ false) (first_g : g.is_later ≡ false)
      (given_f : r.given ≡ parameters_of f) (given_g : s.given ≡ parameters_of g) (later : r.is_later ≡ s.is_later) where
    stands-f : IsForward (Keyed h.key) f
    unfolding OfForward
    stands-f = subst (OfForward (IsForward (Keyed h.key))) is_f (subst (λ (o : Owner). OfForward (IsForward o) (forward_of (routines_of t) r)) h.has_key (forward-is (routines_of t) r (routines-named t)))

    stands-g : IsForward (Keyed h.key) g
    unfolding OfForward
    stands-g = subst (OfForward (IsForward (Keyed h.key))) is_g (subst (λ (o : Owner). OfForward (IsForward o) (forward_of (routines_of u) s)) h.had_key (forward-is (routines_of u) s (routines-named u)))

    same-written : written f ≡ written g
    same-written = some-written (written f) (written g) (sym (ap (λ (o : Option Routine). option_map written o) is_f) ∙ h.forward ∙ ap (λ (o : Option Routine). option_map written o) is_g)

    answers : Each (λ n. heading_answer (routines_of t) f n ≡ heading_answer (routines_of u) g n) (used_in_heading f)
    answers = subst₂ (λ (a b : Option Routine). Each (λ n. forward_answer (routines_of t) a n ≡ forward_answer (routines_of u) b n) (used_in_forward a)) is_f is_g forward-answers

    both-later : SameRoutine (routines_of t) (routines_of u) r s
    both-later = record {
      declaration = own-found (routines_of t) (routines_of u) r s named-t named-u h later
          (λ z. given_f ∙ forward-parameters (routines_of t) (routines_of u) f g h.key stands-f stands-g first_f first_g same-written answers ∙ sym given_g);
      forward = subst₂ (λ (a b : Option Routine). SameForward (routines_of t) (routines_of u) a b) (sym is_f) (sym is_g)
          (forward-found (routines_of t) (routines_of u) f g h.key stands-f stands-g first_f first_g same-written answers);
    }

  no-forward : (rs : List Routine) (x : Routine) → x.is_later ≡ false → forward_of rs x ≡ None
  unfolding forward_of
  no-forward rs x e = ap (λ (b : Bool). if b then first_forward rs x.owner else None) e

  by-later : (x y : Bool) → r.is_later ≡ x → s.is_later ≡ y → SameRoutine (routines_of t) (routines_of u) r s
  by-later true true p q =
      let f = has-forward t r h.key proper_t in_t h.has_key p in
      let g = has-forward u s h.key proper_u in_u h.had_key q in
      both-later f.0 g.0 f.1.found g.1.found f.1.first g.1.first f.1.given g.1.given (p ∙ sym q)
  by-later true false p q =
      let f = has-forward t r h.key proper_t in_t h.has_key p in
      absurd (true≢false (ap is_some (sym (ap (λ (o : Option Routine). option_map written o) f.1.found) ∙ h.forward ∙ ap (λ (o : Option Routine). option_map written o) (no-forward (routines_of u) s q))))
  by-later false true p q =
      let g = has-forward u s h.key proper_u in_u h.had_key q in
      absurd (true≢false (ap is_some (sym (ap (λ (o : Option Routine). option_map written o) g.1.found) ∙ sym h.forward ∙ ap (λ (o : Option Routine). option_map written o) (no-forward (routines_of t) r p))))
  by-later false false p q = record {
    declaration = own-found (routines_of t) (routines_of u) r s named-t named-u h (p ∙ sym q) (λ z. absurd (true≢false (sym z ∙ p)));
    forward = subst₂ (λ (a b : Option Routine). SameForward (routines_of t) (routines_of u) a b) (sym (no-forward (routines_of t) r p)) (sym (no-forward (routines_of u) s q)) tt;
  }

pub needs-law : NeedsLaw
needs-law t u r s proper_t proper_u in_t in_u h = by-later t u r s proper_t proper_u in_t in_u h r.is_later s.is_later refl refl
