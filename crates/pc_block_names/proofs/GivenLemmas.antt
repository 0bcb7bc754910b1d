-- The names of the parameters that a later declaration has are those of its forward heading.
use Rattle.std.proofs.Common.{◌≡◌, ◌<◌, ◌+◌, ℕ, zero, suc, Bool, true, if◌then◌else◌, List, [], ◌∷◌, ◌++◌, map, take, get_or, slice_get, Some, refl, ap, sym, ◌∙◌, subst}
use Rattle.std.proofs.lemmas.List.{take_more, map-append}
use Rattle.std.proofs.lemmas.Option.{get_or_from_slice_get, slice_get_within}
use Rattle.pc_syntax.specs.Plain.{Plain}
use Rattle.pc_syntax.specs.Words.{lowered}
use Rattle.pc_rules.specs.Meanings.{Meaning}
use Rattle.pc_rules.specs.RoutineList.{routines_of}
use Rattle.pc_rules.specs.Routines.{Routine, firsts, heading_marks, params_in, parameters_of}
use Rattle.pc_needs.specs.Unaffected.{IsOneOf}
use Rattle.pc_facts.specs.Known.{Known}
use Rattle.pc_facts.specs.declared.sighting.Declared.{Declared}
use Rattle.pc_places.specs.Parameters.{ShowsParameters, AreNamed}
use Rattle.pc_places.specs.Places.{known}
use Rattle.pc_places.specs.declared.parameter.Parameter.{Parameter}
use Rattle.pc_places.specs.declared.tables.Tables.{Tables}
use Rattle.pc_routine_sites.specs.Sites.{StandsAround}
use Rattle.pc_routine_sites.specs.declared.site.RoutineSite.{RoutineSite}
use Rattle.pc_decl.specs.Declared.{given_names}
use Rattle.pc_block_names.specs.Given.{small_names}
use Rattle.pc_block_names.proofs.NodeLemmas.{SmallMeanings}
use Rattle.pc_block_names.proofs.RoutineLemmas.{given-small}

-- the names of parameters with these meanings
shown-names : (k : Known) (ds : List Declared) (ps : List Parameter) (es : List (List ℕ × Meaning)) → ShowsParameters k ds ps es → SmallMeanings es →
    small_names k.names ps ≡ map (λ (e : List ℕ × Meaning). e.0) es
shown-names k ds [] [] s h = refl
shown-names k ds (p ∷ ps) (e ∷ es) s h =
    let here : lowered (get_or k.names p.name.0 []) ≡ e.0 = ap lowered (get_or_from_slice_get k.names p.name.0 e.0 [] s.0) ∙ h.0 in
    let rest = shown-names k ds ps es s.2 h.1 in
    λ i. here i ∷ rest i
shown-names k ds [] (e ∷ es) s h = absurd s
shown-names k ds (p ∷ ps) [] s h = absurd s

-- at a later declaration
pub later-given : (t : Plain) (r : Routine) (u : Tables) (blocks : List ℕ) (site : RoutineSite) → IsOneOf (routines_of t) r → StandsAround (routines_of t) r u blocks site → site.is_later ≡ true →
    small_names u.names.texts site.parameters.items ≡ given_names r
later-given t r u blocks site one stands e =
    let later : r.is_later ≡ true = sym stands.later ∙ e in
    let own : parameters_of r ≡ r.given = ap (λ (b : Bool). if b then r.given else firsts [] (params_in (heading_marks r)).defines) later in
    shown-names (known u) u.declarations.items site.parameters.items r.given (subst (ShowsParameters (known u) u.declarations.items site.parameters.items) own stands.parameters) (given-small t r one)
    ∙ sym (ap (λ (b : Bool). if b then map (λ (d : List ℕ × Meaning). d.0) r.given else []) later)

-- ---- names so far

-- the name of a parameter has a number of these
pub named-at : (names : ℕ) (ps : List Parameter) (i : ℕ) (p : Parameter) → AreNamed names ps → slice_get ps i ≡ Some p → p.name.0 < names
named-at names [] i p h e = cc
named-at names (q ∷ ps) zero p h e = let same : q ≡ p = cc in subst (λ (x : Parameter). x.name.0 < names) same h.0
named-at names (q ∷ ps) (suc i) p h e = named-at names ps i p h.1 e

-- one more
pub small-more : (texts : List (List ℕ)) (ps : List Parameter) (i : ℕ) (p : Parameter) (w : List ℕ) → slice_get ps i ≡ Some p → slice_get texts p.name.0 ≡ Some w →
    small_names texts (take (i + 1) ps) ≡ small_names texts (take i ps) ++ lowered w ∷ []
small-more texts ps i p w at named =
    let f : Parameter → List ℕ = λ (x : Parameter). lowered (get_or texts x.name.0 []) in
    let one : f (get_or ps i p) ≡ lowered w = ap f (get_or_from_slice_get ps i p p at) ∙ ap lowered (get_or_from_slice_get texts p.name.0 w [] named) in
    ap (map f) (take_more ps i p (slice_get_within ps i p at)) ∙ map-append f (take i ps) (get_or ps i p ∷ []) ∙ ap (λ (n : List ℕ). map f (take i ps) ++ n ∷ []) one
