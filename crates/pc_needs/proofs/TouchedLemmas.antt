-- Which variables the block of a routine of a program touches: its own, and those of the routines around it.
use Rattle.std.specs.Prelude.{ℕ, suc, ◌≡◌, Bool, true, false, if◌then◌else◌, List, [], ◌∷◌, Option, Some, ◌++◌, ◌⊎◌}
use Rattle.std.specs.Option.{option_map_or}
use Rattle.std.proofs.Common.{refl, sym, subst, ◌∙◌, true≢false, inl, inr}
use Rattle.pc_syntax.specs.declared.kind.Kind.{Kind}
use Rattle.pc_syntax.specs.declared.kind.Kind.TheVariants as kind
use Rattle.pc_syntax.specs.Layout.{layout}
use Rattle.pc_syntax.specs.Plain.{Forest, Nil, Cons, Plain, count, kinds}
use Rattle.pc_syntax.specs.WellFormed.{WellFormed, fits_some, IsProper}
use Rattle.pc_syntax.specs.Words.{is_among}
use Rattle.pc_types.specs.Shapes.{Owner}
use Rattle.pc_scope.specs.Headings.{Heading, pairs}
use Rattle.pc_rules.specs.Attributes.{Attributes, Marked, Done, Mark, first, nodes}
use Rattle.pc_rules.specs.Declarations.{heading_here}
use Rattle.pc_rules.specs.Decorated.{decorate}
use Rattle.pc_rules.specs.Errors.{is_program}
use Rattle.pc_rules.specs.HandedOn.{all_touches}
use Rattle.pc_rules.specs.Meanings.{Meaning, Found, Here, Later, Component, Required, Missing, Local, is_routine_class, find}
use Rattle.pc_rules.specs.Outsides.{signature_named, completed_by, quiet}
use Rattle.pc_rules.specs.OwnBlock.{own, heading_part}
use Rattle.pc_rules.specs.Places.{inner, beside}
use Rattle.pc_rules.specs.RequiredMeanings.{required_or_missing}
use Rattle.pc_rules.specs.RoutineList.{Forwarded, forwarded_for, without_forwarded, routine_of, key_of, forwarded_by, ARoutine, part_of, routines_in, routines_below, program_routine, routines_of}
use Rattle.pc_rules.specs.Routines.{Routine, bare, heading_start, firsts, heading_marks, params_in, parameters_of, start_of}
use Rattle.pc_needs.specs.Answers.{has_block}
use Rattle.pc_needs.specs.Inside.{is_below}
use Rattle.pc_needs.specs.Unaffected.{IsOneOf}
use Rattle.pc_needs.proofs.BlockOwners.{OfKnown, beside-known, inner-known, find-one, of-decorated, of-touches}
use Rattle.pc_needs.proofs.Lists.{Each, each-append, each-map, each-both}
use Rattle.pc_needs.proofs.Owners.{inner-owner, beside-owner}
use Rattle.pc_needs.proofs.ParameterLemmas.{AreOfHeading, heading-parameters, program-parameters, firsts-of-heading}
use Rattle.pc_needs.proofs.PlaceLemmas.{of-part, one-front, one-back, StandsBelow, places-below, block-heading, below-block}
use Rattle.pc_needs.proofs.VariableOwners.{OfMeaning, OfFound, OfVariables, OfDefines, OfNodeItself, OfMarked, of-nodes, at}

-- a routine around, with a block, is this owner's
abbrev pub Encloses : List Routine → Routine → Owner → Type 0
Encloses rs r o = (x : Routine) × IsOneOf rs x × (x.owner ≡ o) × (has_block x.heading ≡ true) × (is_below x.place r.place ≡ true)

-- the owner is one of outside, or of a routine around
abbrev pub IsAround : (Owner → Type 0) → List Routine → Routine → Owner → Type 0
IsAround P rs r o = P o ⊎ Encloses rs r o

-- what names mean around a routine are variables of owners around it; parameters that it is given are no variables of a declaration part
pub record IsScoped (P : Owner → Type 0) (rs : List Routine) (r : Routine) : Type 0 where
  pub means : (n : List ℕ) → OfFound (IsAround P rs r) (r.means n)
  pub given : AreOfHeading r.given
  pub parameters : AreOfHeading (parameters_of r)

-- a routine's own block, or one around
abbrev pub OrOwn : (Owner → Type 0) → Routine → Owner → Type 0
OrOwn P r o = P o ⊎ (o ≡ r.owner)

found-more : (P Q : Owner → Type 0) (f : Found) → ((o : Owner) → P o → Q o) → OfFound P f → OfFound Q f
found-more P Q (Here m) g h = λ e. g m.owner (h e)
found-more P Q (Later c) g h = tt
found-more P Q (Component t p) g h = tt
found-more P Q (Required n) g h = tt
found-more P Q Missing g h = tt

-- among more routines
scoped-more : (P Q : Owner → Type 0) (rs us : List Routine) (r : Routine) → ((o : Owner) → IsAround P rs r o → IsAround Q us r o) → IsScoped P rs r → IsScoped Q us r
scoped-more P Q rs us r g h = record { means = λ n. found-more (IsAround P rs r) (IsAround Q us r) (r.means n) g (h.means n); given = h.given; parameters = h.parameters }

-- no variable of a declaration part has an owner that matters
defines-any : (P : Owner → Type 0) (ds : List (List ℕ × Meaning)) → AreOfHeading ds → OfDefines P ds
defines-any P [] h = tt
defines-any P (d ∷ ds) h = ((λ e. absurd (true≢false (sym e ∙ h.0.0))), defines-any P ds h.1)

firsts-of : (P : Owner → Type 0) (before : List (List ℕ)) (ds : List (List ℕ × Meaning)) → OfDefines P ds → OfDefines P (firsts before ds)
firsts-of P before [] h = tt
firsts-of P before (d ∷ ds) h = which (firsts-of P before ds h.1) (firsts-of P (d.0 ∷ before) ds h.1) (is_among before d.0) where
  which : OfDefines P (firsts before ds) → OfDefines P (firsts (d.0 ∷ before) ds) → (b : Bool) → OfDefines P (if b then firsts before ds else d ∷ firsts (d.0 ∷ before) ds)
  which x y true = x
  which x y false = (h.0, y)

-- what is found at the first node
first-of-marked : (P : Owner → Type 0) (m : Marked) → OfMarked P m → OfNodeItself P (first m)
first-of-marked P Done h = (tt, tt, tt, tt)
first-of-marked P (Mark a below rest) h = h.0

-- ---- forward headings

-- the parameters of those that wait
abbrev pub NoneWaits : List Forwarded → Type 0
NoneWaits fs = Each (λ (f : Forwarded). AreOfHeading f.parameters) fs

given-no : (h : Heading) (fs : List Forwarded) → NoneWaits fs → AreOfHeading (option_map_or (λ (x : Forwarded). x.parameters) (forwarded_for h fs) [])
given-no h [] w = tt
given-no h (f ∷ fs) w = which (given-no h fs w.1) (pairs h f.heading) where
  which : AreOfHeading (option_map_or (λ (x : Forwarded). x.parameters) (forwarded_for h fs) []) → (b : Bool) →
      AreOfHeading (option_map_or (λ (x : Forwarded). x.parameters) (if b then Some f else forwarded_for h fs) [])
  which rest true = w.0
  which rest false = rest

without-no : (h : Heading) (fs : List Forwarded) → NoneWaits fs → NoneWaits (without_forwarded h fs)
without-no h [] w = tt
without-no h (f ∷ fs) w = which (without-no h fs w.1) (pairs h f.heading) where
  which : NoneWaits (without_forwarded h fs) → (b : Bool) → NoneWaits (if b then without_forwarded h fs else f ∷ without_forwarded h fs)
  which rest true = rest
  which rest false = (w.0, rest)

either : (P : List (List ℕ × Meaning) → Type 0) (b : Bool) (x y : List (List ℕ × Meaning)) → P x → P y → P (if b then x else y)
either P true x y h g = h
either P false x y h g = g

-- the parameters of a routine with a well-formed heading
parameters-no : (r : Routine) (k : Kind) (w : List ℕ) (ks : Forest) → r.heading ≡ heading_part ks → AreOfHeading r.given → part_of k ≡ ARoutine →
    fits_some (layout k w (count ks)) (kinds ks) ≡ true → WellFormed ks → AreOfHeading (parameters_of r)
unfolding heading_marks
parameters-no r k w ks e h p f g =
    either AreOfHeading r.is_later _ _ h
    (firsts-of-heading [] _ (subst (λ (x : Forest). AreOfHeading (params_in (decorate (bare r.means) (heading_start r.owner) x)).defines) (sym e)
    (heading-parameters (bare r.means) (heading_start r.owner) k w ks p f g)))

forwarded-no : (l : Local) (r : Routine) (fs : List Forwarded) → AreOfHeading (parameters_of r) → NoneWaits fs → NoneWaits (forwarded_by l r fs)
forwarded-no l r fs h w = which (heading_here l).is_forward where
  which : (b : Bool) → NoneWaits (if b then fs ++ record { heading = heading_here l; key = key_of r.owner; parameters = parameters_of r } ∷ [] else without_forwarded (heading_here l) fs)
  which true = each-append (λ (f : Forwarded). AreOfHeading f.parameters) fs _ w (h, tt)
  which false = without-no (heading_here l) fs w

-- the parameters, where what names mean around is known
parameters-known : (P : Owner → Type 0) (r : Routine) → AreOfHeading r.given → P r.owner → ((n : List ℕ) → OfFound P (r.means n)) → OfDefines P (parameters_of r)
unfolding heading_marks
parameters-known P r h o g =
    either (OfDefines P) r.is_later _ _ (defines-any P r.given h)
    (firsts-of P [] _ (at P (nodes (heading_marks r)) 1 (of-nodes P (heading_marks r) (of-decorated P (bare r.means) (heading_start r.owner) r.heading o tt g))).0.3)

-- ---- all routines

-- the routines of a block are scoped by the routine that has it
lifted : (P : Owner → Type 0) (r : Routine) (bs us : List Routine) → has_block r.heading ≡ true → IsOneOf us r → ((x : Routine) → IsOneOf bs x → IsOneOf us x) →
    (b : Routine) → StandsBelow r.place b → (o : Owner) → IsAround (OrOwn P r) bs b o → IsAround P us b o
lifted P r bs us k i m b s o (inl (inl h)) = inl h
lifted P r bs us k i m b s o (inl (inr e)) = inr (r, i, sym e, k, s)
lifted P r bs us k i m b s o (inr x) = inr (x.0, m x.0 x.1, x.2, x.3, x.4)

wider : (P : Owner → Type 0) (bs us : List Routine) → ((x : Routine) → IsOneOf bs x → IsOneOf us x) → (b : Routine) (o : Owner) → IsAround P bs b o → IsAround P us b o
wider P bs us m b o (inl h) = inl h
wider P bs us m b o (inr x) = inr (x.0, m x.0 x.1, x.2, x.3, x.4)

-- the routines inside one, among more
all-lifted : (P : Owner → Type 0) (r : Routine) (bs us : List Routine) → IsOneOf us r → ((x : Routine) → IsOneOf bs x → IsOneOf us x) →
    Each (IsScoped (OrOwn P r) bs) bs → Each (λ b. has_block r.heading ≡ true) bs → Each (StandsBelow r.place) bs → Each (IsScoped P us) bs
all-lifted P r bs us i m h k s =
    each-map (λ b. IsScoped (OrOwn P r) bs b × ((has_block r.heading ≡ true) × StandsBelow r.place b)) (IsScoped P us) bs
    (λ b x. scoped-more (OrOwn P r) P bs us b (lifted P r bs us x.1.0 i m b x.1.1) x.0)
    (each-both (IsScoped (OrOwn P r) bs) (λ b. (has_block r.heading ≡ true) × StandsBelow r.place b) bs h (each-both (λ b. has_block r.heading ≡ true) (StandsBelow r.place) bs k s))

-- a routine, those inside it, and those behind
joined : (P : Owner → Type 0) (r : Routine) (bs ts : List Routine) → ((n : List ℕ) → OfFound P (r.means n)) → AreOfHeading r.given → AreOfHeading (parameters_of r) →
    Each (IsScoped (OrOwn P r) bs) bs → Each (λ b. has_block r.heading ≡ true) bs → Each (StandsBelow r.place) bs → Each (IsScoped P ts) ts →
    Each (IsScoped P ((r ∷ bs) ++ ts)) ((r ∷ bs) ++ ts)
joined P r bs ts g v q h k s t =
    let us : List Routine = (r ∷ bs) ++ ts in
    each-append (IsScoped P us) (r ∷ bs) ts (
      record { means = λ n. found-more P (IsAround P us r) (r.means n) (λ o x. inl x) (g n); given = v; parameters = q },
      all-lifted P r bs us (inl refl) (λ x i. one-front (r ∷ bs) ts x (inr i)) h k s,
    )
    (each-map (IsScoped P ts) (IsScoped P us) ts (λ b x. scoped-more P P ts us b (wider P ts us (λ y i. one-back (r ∷ bs) ts y i) b) x) t)

mutual
  unfolding routines_in

  pub scoped-in : (P : Owner → Type 0) (m : List ℕ → Found) (l : Local) (fs : List Forwarded) (p : List ℕ) (key : Option (List (List ℕ))) (f : Forest) →
      WellFormed f → P l.owner → OfKnown P l → ((n : List ℕ) → OfFound P (m n)) → NoneWaits fs → Each (IsScoped P (routines_in m l fs p key f)) (routines_in m l fs p key f)
  scoped-in P m l fs p key Nil c o h g w = tt
  scoped-in P m l fs p key (Cons k v ns ks ts) c o h g w =
      let a : Attributes = first (decorate (bare m) l (own (Cons k v ns ks Nil))) in
      let after : Local = beside l k a in
      let m' : List ℕ → Found = find (bare m) after in
      let r : Routine = routine_of m' l fs (p ++ l.kid ∷ []) key k ks in
      let found : OfNodeItself P a = first-of-marked P _ (of-decorated P (bare m) l (own (Cons k v ns ks Nil)) o h g) in
      let known : OfKnown P after = beside-known P l k a h found.3 in
      let owner : P after.owner = subst P (sym (beside-owner l k a)) o in
      let means : (n : List ℕ) → OfFound P (m' n) = λ n. find-one P (bare m) after n known (g n) in
      let given : AreOfHeading r.given = given-no (heading_here l) fs w in
      of-part (λ rs. Each (IsScoped P rs) rs) (part_of k) _ _ _
      (λ e. joined P r (routines_below r 1 ks) (routines_in m after (forwarded_by l r fs) p key ts) means given (parameters-no r k v ks refl given e c.0 c.3)
      (scoped-below P r 1 ks c.3 given means)
      (each-map (λ b. has_block ks ≡ true) (λ b. has_block r.heading ≡ true) (routines_below r 1 ks) (λ b x. block-heading ks ∙ x) (below-block r 1 ks))
      (places-below r 1 ks)
      (scoped-in P m after (forwarded_by l r fs) p key ts c.4 owner known g (forwarded-no l r fs (parameters-no r k v ks refl given e c.0 c.3) w)))
      (λ e. scoped-in P m (inner l k ks) [] (p ++ l.kid ∷ []) key ks c.3 (subst P (sym (inner-owner l k ks)) o) (inner-known P l k ks o h) g tt)
      (λ e. scoped-in P m after fs p key ts c.4 owner known g w)

  pub scoped-below : (P : Owner → Type 0) (r : Routine) (i : ℕ) (f : Forest) → WellFormed f → AreOfHeading r.given → ((n : List ℕ) → OfFound P (r.means n)) →
      Each (IsScoped (OrOwn P r) (routines_below r i f)) (routines_below r i f)
  scoped-below P r i Nil c v g = tt
  scoped-below P r i (Cons kind.Block w ns ks ts) c v g =
      let around : (n : List ℕ) → OfFound (OrOwn P r) (r.means n) = λ n. found-more P (OrOwn P r) (r.means n) (λ o x. inl x) (g n) in
      scoped-in (OrOwn P r) r.means (start_of r) [] (r.place ++ i ∷ []) (key_of r.owner) ks c.3 (inr refl) (parameters-known (OrOwn P r) r v (inr refl) around) around tt
  scoped-below P r i (Cons k w ns ks ts) c v g = scoped-below P r (suc i) ts c.4 v g

-- ---- a program

-- nothing is declared around a program
abbrev pub NoOwner : Owner → Type 0
NoOwner o = ⊥

required-found : (P : Owner → Type 0) (n : List ℕ) → OfFound P (required_or_missing n)
required-found P n = which _ where
  which : (b : Bool) → OfFound P (if b then Required n else Missing)
  which true = tt
  which false = tt

program-fits : (k : Kind) (w : List ℕ) (f : Forest) → is_program k ≡ true → fits_some (layout k w (count f)) (kinds f) ≡ true → fits_some (layout kind.Program w (count f)) (kinds f) ≡ true
program-fits kind.Program w f e h = h
program-fits k w f e h = absurd (true≢false (sym e))

pub routines-scoped : (t : Plain) → IsProper t → is_program t.kind ≡ true → Each (IsScoped NoOwner (routines_of t)) (routines_of t)
unfolding routines_of heading_marks
routines-scoped t proper program =
    let r : Routine = program_routine t in
    let bs : List Routine = routines_below r 1 t.kids in
    let means : (n : List ℕ) → OfFound NoOwner (r.means n) = λ n. required-found NoOwner n in (
      record {
        means = λ n. required-found (IsAround NoOwner (r ∷ bs) r) n;
        given = tt;
        parameters = firsts-of-heading [] _ (program-parameters (bare r.means) (heading_start r.owner) t.word t.kids (program-fits t.kind t.word t.kids program proper.sound.0));
      },
      all-lifted NoOwner r bs (r ∷ bs) (inl refl) (λ x i. inr i) (scoped-below NoOwner r 1 t.kids proper.sound.3 tt means)
          (each-map (λ b. has_block t.kids ≡ true) (λ b. has_block r.heading ≡ true) bs (λ b x. block-heading t.kids ∙ x) (below-block r 1 t.kids)) (places-below r 1 t.kids),
    )

-- ---- what a routine touches

-- the owner is the routine's own, or that of a routine around
abbrev pub IsReached : List Routine → Routine → Owner → Type 0
IsReached rs r o = (o ≡ r.owner) ⊎ Encloses rs r o

completed-found : (P : Owner → Type 0) (rs : List Routine) (n : List ℕ) (f : Found) → OfFound P f → OfFound P (completed_by rs n f)
completed-found P rs n (Here m) h = which (is_routine_class m.class) where
  which : (b : Bool) → OfMeaning P (if b then record m { signature = signature_named rs m.owner n } else m)
  which true = h
  which false = h
completed-found P rs n (Later c) h = tt
completed-found P rs n (Component t p) h = tt
completed-found P rs n (Required m) h = tt
completed-found P rs n Missing h = tt

reached : (rs : List Routine) (r : Routine) (o : Owner) → IsAround NoOwner rs r o → IsReached rs r o
reached rs r o (inl h) = absurd h
reached rs r o (inr x) = inr x

-- the variables that the block of a scoped routine touches
pub touches-reached : (rs : List Routine) (r : Routine) → IsScoped NoOwner rs r → OfVariables (IsReached rs r) (all_touches (nodes (decorate (quiet rs r) (start_of r) r.block)))
touches-reached rs r h =
    let means : (n : List ℕ) → OfFound (IsReached rs r) (r.means n) = λ n. found-more (IsAround NoOwner rs r) (IsReached rs r) (r.means n) (reached rs r) (h.means n) in
    of-touches (IsReached rs r) (quiet rs r) (start_of r) r.block (inl refl) (parameters-known (IsReached rs r) r h.given (inl refl) means)
    (λ n. completed-found (IsReached rs r) rs n (r.means n) (means n))
