-- The parameters of a block that is begun, one after the other: lemmas.
use Rattle.std.proofs.Common.{◌≡◌, ◌<◌, ◌+◌, ℕ, zero, suc, Bool, true, false, ◌||◌, ◌⊎◌, inl, inr, Option, None, List, [], ◌∷◌, ◌++◌, map, length, take, slice_get, Some, refl, ap, sym, ◌∙◌, subst, if◌then◌else◌, append_assoc, append-nil}
use Rattle.std.proofs.lemmas.List.{take_more}
use Rattle.std.proofs.lemmas.Option.{slice_get_within, get_or_from_slice_get}
use Rattle.std.specs.Option.{unwrap_or}
use Rattle.std.specs.Str.{bytes_eq}
use Rattle.pc_syntax.specs.Words.{is_among}
use Rattle.pc_names.specs.Bindings.{slot_in, announced, declared}
use Rattle.pc_names.specs.Numbers.{number_of}
use Rattle.pc_names.specs.Standing.{meant, StandsFor}
use Rattle.pc_names.specs.StandingLaws.{announce, is_among-end, StandsFor-announce, StandsFor-define}
use Rattle.pc_names.specs.Table.{Table, Rebinds}
use Rattle.pc_names.specs.TableLaws.{slot_named-other}
use Rattle.pc_names.specs.declared.id.DeclarationId.{DeclarationId}
use Rattle.pc_names.specs.declared.name_class.NameClass.{NameClass}
use Rattle.pc_names.specs.declared.slot.Slot.{Slot}
use Rattle.pc_rules.specs.Meanings.{Class, Meaning, Local}
use Rattle.pc_rules.specs.Routines.{firsts}
use Rattle.pc_facts.specs.Known.{Known}
use Rattle.pc_facts.specs.declared.sighting.Declared.{Declared}
use Rattle.pc_places.specs.declared.parameter.Parameter.{Parameter}
use Rattle.pc_places.specs.NumberingLaws.{number_of-slice_get}
use Rattle.pc_places.specs.NamingLaws.{IsNamed-rebinds}
use Rattle.pc_places.specs.Parameters.{ShowsParameters, AreNamed, HaveNames}
use Rattle.pc_places.specs.Places.{HasName}
use Rattle.pc_places.specs.Scenes.{ShowsUnsigned}
use Rattle.pc_openings.specs.Opened.{AreFirst, with_parameter, with_parameters, Carries}

-- ---- parameters, of which no two have one name

or-moved : (a b c d : Bool) → a ≡ b → c ≡ (a || d) → c ≡ (d || b)
or-moved true true c true e f = f
or-moved true true c false e f = f
or-moved false false c true e f = f
or-moved false false c false e f = f
or-moved true false c d e f = cc
or-moved false true c d e f = cc

-- the first ones of each name
pub AreFirst-firsts : (before passed : List (List ℕ)) (es : List (List ℕ × Meaning)) → ((q : List ℕ) → is_among passed q ≡ is_among before q) → AreFirst passed (firsts before es)
AreFirst-firsts before passed [] same = tt
AreFirst-firsts before passed (e ∷ es) same =
    by (is_among before e.0) refl (AreFirst-firsts before passed es same)
    (AreFirst-firsts (e.0 ∷ before) (passed ++ e.0 ∷ []) es
    (λ q. or-moved (is_among passed q) (is_among before q) (is_among (passed ++ e.0 ∷ []) q) (bytes_eq e.0 q) (same q) (is_among-end passed e.0 q)))
  where
    by : (b : Bool) → is_among before e.0 ≡ b → AreFirst passed (firsts before es) → AreFirst (passed ++ e.0 ∷ []) (firsts (e.0 ∷ before) es) →
        AreFirst passed (if b then firsts before es else e ∷ firsts (e.0 ∷ before) es)
    by true is skipped kept = skipped
    by false is skipped kept = (same e.0 ∙ is, kept)

if-false : {X : Type 0} (b : Bool) (x y : X) → b ≡ false → (if b then x else y) ≡ y
if-false true x y e = cc
if-false false x y e = refl

-- the place with all parameters
pub with_parameters-is : (l : Local) (es : List (List ℕ × Meaning)) → AreFirst l.passed es →
    with_parameters l es ≡ record l { names = l.names ++ map (λ (d : List ℕ × Meaning). (d.0, d.1.class)) es; passed = l.passed ++ map (λ (d : List ℕ × Meaning). d.0) es; known = l.known ++ es }
with_parameters-is l [] first = λ i. record l { names = sym (append-nil l.names) i; passed = sym (append-nil l.passed) i; known = sym (append-nil l.known) i }
with_parameters-is l (e ∷ es) first =
    with_parameters-is (with_parameter l e) es first.1
    ∙ (λ i. record l {
      names = append_assoc l.names ((e.0, e.1.class) ∷ []) (map (λ (d : List ℕ × Meaning). (d.0, d.1.class)) es) i;
      passed = append_assoc l.passed (e.0 ∷ []) (map (λ (d : List ℕ × Meaning). d.0) es) i;
      known = (ap (λ (xs : List (List ℕ × Meaning)). xs ++ es) (if-false (is_among l.passed e.0) l.known (l.known ++ (e.0, e.1) ∷ []) first.0) ∙ append_assoc l.known ((e.0, e.1) ∷ []) es) i;
    })

pub with_parameters-end : (l : Local) (es : List (List ℕ × Meaning)) (e : List ℕ × Meaning) → with_parameters l (es ++ e ∷ []) ≡ with_parameter (with_parameters l es) e
with_parameters-end l [] e = refl
with_parameters-end l (d ∷ es) e = with_parameters-end (with_parameter l d) es e

-- ---- one after the other

-- what a parameter shows, by its number in the list
record ShowsAt (k : Known) (ds : List Declared) (p : Parameter) (es : List (List ℕ × Meaning)) (i : ℕ) : Type 0 where
  entry : List ℕ × Meaning
  at : slice_get es i ≡ Some entry
  name : slice_get k.names p.name.0 ≡ Some entry.0
  shows : ShowsUnsigned k ds p.declaration.0 entry.1

shows-at : (k : Known) (ds : List Declared) (ps : List Parameter) (es : List (List ℕ × Meaning)) (i : ℕ) (p : Parameter) → ShowsParameters k ds ps es → slice_get ps i ≡ Some p → ShowsAt k ds p es i
shows-at k ds [] [] i p shows at = cc
shows-at k ds [] (e ∷ es) i p shows at = absurd shows
shows-at k ds (q ∷ ps) [] i p shows at = absurd shows
shows-at k ds (q ∷ ps) (e ∷ es) zero p shows at =
    let same : q ≡ p = cc in
    subst (λ (x : Parameter). ShowsAt k ds x (e ∷ es) zero) same (record { entry = e; at = refl; name = shows.0; shows = shows.1 })
shows-at k ds (q ∷ ps) (e ∷ es) (suc i) p shows at =
    let h = shows-at k ds ps es i p shows.2 at in record { entry = h.entry; at = h.at; name = h.name; shows = h.shows }

-- there are as many names and meanings as parameters
pub length-shown : (k : Known) (ds : List Declared) (ps : List Parameter) (es : List (List ℕ × Meaning)) → ShowsParameters k ds ps es → length es ≡ length ps
length-shown k ds [] [] shows = refl
length-shown k ds [] (e ∷ es) shows = absurd shows
length-shown k ds (p ∷ ps) [] shows = absurd shows
length-shown k ds (p ∷ ps) (e ∷ es) shows = ap (λ (n : ℕ). suc n) (length-shown k ds ps es shows.2)

-- the name of a parameter has a number
pub named-at : (names : ℕ) (ps : List Parameter) (i : ℕ) (p : Parameter) → AreNamed names ps → slice_get ps i ≡ Some p → p.name.0 < names
named-at names [] i p h at = cc
named-at names (q ∷ ps) zero p h at = let same : q ≡ p = cc in subst (λ (x : Parameter). x.name.0 < names) same h.0
named-at names (q ∷ ps) (suc i) p h at = named-at names ps i p h.1 at

-- the declaration of a parameter is one under its name
name-at : (ds : List Declared) (ps : List Parameter) (i : ℕ) (p : Parameter) → HaveNames ds ps → slice_get ps i ≡ Some p → HasName ds p.declaration.0 p.name.0
name-at ds [] i p h at = cc
name-at ds (q ∷ ps) zero p h at = let same : q ≡ p = cc in subst (λ (x : Parameter). HasName ds x.declaration.0 x.name.0) same h.0
name-at ds (q ∷ ps) (suc i) p h at = name-at ds ps i p h.1 at

declared-name : (ds : List Declared) (ps : List Parameter) (i : ℕ) (p : Parameter) (s : Slot) (e : DeclarationId) → HaveNames ds ps → slice_get ps i ≡ Some p →
    (declared s p.declaration).known ≡ Some e → HasName ds e.0 p.name.0 ⊎ (s.known ≡ Some e)
declared-name ds ps i p s e have at has = by s.passed s.known refl has
  where
    by : (b : Bool) (o : Option DeclarationId) → s.known ≡ o → (if b then s else record s { passed = true; known = Some (unwrap_or o p.declaration) }).known ≡ Some e →
        HasName ds e.0 p.name.0 ⊎ (s.known ≡ Some e)
    by true o was is = inr is
    by false (Some d) was is = inr (was ∙ is)
    by false None was is = let same : p.declaration ≡ e = cc in inl (subst (λ (d : DeclarationId). HasName ds d.0 p.name.0) same (name-at ds ps i p have at))

pub Carries-none : (ds : List Declared) (block : ℕ) (ps : List Parameter) (t : Table) → Carries ds block ps 0 t t
Carries-none ds block ps t = record { texts = refl; chains = refl; others = λ b n apart. refl; named = λ have is. is; stands = λ k es l distinct named shows stands. stands }

-- one more parameter
pub Carries-more : (ds : List Declared) (block : ℕ) (ps : List Parameter) (i : ℕ) (p : Parameter) (c : NameClass) (old a b new : Table) → Carries ds block ps i old a → slice_get ps i ≡ Some p →
    ((k : Known) (m : Meaning) → ShowsUnsigned k ds p.declaration.0 m → meant c ≡ m.class) → Rebinds a b block p.name.0 (announced (slot_in a.slots block p.name.0) c) →
    Rebinds b new block p.name.0 (declared (slot_in b.slots block p.name.0) p.declaration) → Carries ds block ps (i + 1) old new
Carries-more ds block ps i p c old a b new h at class first second = record {
  texts = second.texts ∙ first.texts ∙ h.texts;
  chains = second.chains ∙ first.chains ∙ h.chains;
  others = λ o n apart.
      slot_named-other b new block p.name.0 (declared (slot_in b.slots block p.name.0) p.declaration) second o (λ e. apart (sym e)) n
      ∙ slot_named-other a b block p.name.0 (announced (slot_in a.slots block p.name.0) c) first o (λ e. apart (sym e)) n
      ∙ h.others o n apart;
  named = λ have is.
      IsNamed-rebinds block p.name.0 (declared (slot_in b.slots block p.name.0) p.declaration) b new ds second (λ e has. declared-name ds ps i p (slot_in b.slots block p.name.0) e have at has)
      (IsNamed-rebinds block p.name.0 (announced (slot_in a.slots block p.name.0) c) a b ds first (λ e has. inr has) (h.named have is));
  stands = λ k es l distinct named shows stands.
      let D = ShowsUnsigned k ds in
      let s = shows-at k ds ps es i p shows at in
      let e = s.entry in
      let m = with_parameters l (take i es) in
      let number : number_of old.texts e.0 ≡ Some p.name.0 = number_of-slice_get old.texts e.0 p.name.0 distinct (sym (ap (λ (ts : List (List ℕ)). slice_get ts p.name.0) named) ∙ s.name) in
      let in_a : number_of a.texts e.0 ≡ Some p.name.0 = ap (λ (ts : List (List ℕ)). number_of ts e.0) h.texts ∙ number in
      let in_b : number_of b.texts e.0 ≡ Some p.name.0 = ap (λ (ts : List (List ℕ)). number_of ts e.0) first.texts ∙ in_a in
      let one : StandsFor D b block (announce m e.0 e.1.class) =
      subst (λ (x : Class). StandsFor D b block (announce m e.0 x)) (class k e.1 s.shows)
      (StandsFor-announce D a b block p.name.0 m e.0 c first in_a (h.stands k es l distinct named shows stands)) in
      let two : StandsFor D new block (with_parameter m e) = StandsFor-define D b new block p.name.0 (announce m e.0 e.1.class) e.0 p.declaration e.1 s.shows second in_b one in
      let within = slice_get_within es i e s.at in
      let taken : take (i + 1) es ≡ take i es ++ e ∷ [] = take_more es i e within ∙ ap (λ (x : List ℕ × Meaning). take i es ++ x ∷ []) (get_or_from_slice_get es i e e s.at) in
      subst (λ (x : Local). StandsFor D new block x) (sym (ap (with_parameters l) taken ∙ with_parameters-end l (take i es) e)) two;
}
