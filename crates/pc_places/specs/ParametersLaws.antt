-- The parameters of a routine, as more is numbered and declared: lemmas.
use Rattle.std.proofs.Common.{◌<◌, ◌≤◌, ℕ, List, [], ◌∷◌, ◌++◌, length, arith}
use Rattle.std.proofs.lemmas.Option.{slice_get_within}
use Rattle.pc_rules.specs.Meanings.{Meaning}
use Rattle.pc_facts.specs.Known.{Known}
use Rattle.pc_facts.specs.declared.sighting.Declared.{Declared}
use Rattle.pc_growth.specs.Grows.{Begins, Grows}
use Rattle.pc_growth.specs.GrowsLaws.{slice_get-begins}
use Rattle.pc_places.specs.declared.parameter.Parameter.{Parameter}
use Rattle.pc_places.specs.Parameters.{AreNamed, HaveNames, IsNoRoutine, AreParameters, ShowsParameters}
use Rattle.pc_places.specs.Places.{HasName}
use Rattle.pc_places.specs.SceneLaws.{ShowsUnsigned-grows}

-- they show what they showed
pub ShowsParameters-grows : (a b : Known) (ds es : List Declared) (ps : List Parameter) (qs : List (List ℕ × Meaning)) → Grows a b → Begins ds es → ShowsParameters a ds ps qs → ShowsParameters b es ps qs
ShowsParameters-grows a b ds es [] [] g h s = tt
ShowsParameters-grows a b ds es (p ∷ ps) (q ∷ qs) g h s =
    (slice_get-begins a.names b.names p.name.0 q.0 g.names s.0, ShowsUnsigned-grows a b ds es p.declaration.0 q.1 g h s.1, ShowsParameters-grows a b ds es ps qs g h s.2)
ShowsParameters-grows a b ds es [] (q ∷ qs) g h s = absurd s
ShowsParameters-grows a b ds es (p ∷ ps) [] g h s = absurd s

-- their names have numbers still
pub AreNamed-grows : (m n : ℕ) (ps : List Parameter) → m ≤ n → AreNamed m ps → AreNamed n ps
AreNamed-grows m n [] le h = tt
AreNamed-grows m n (p ∷ ps) le h = (omega (arith, h.0, le), AreNamed-grows m n ps le h.1)

-- the same with one more
pub AreNamed-end : (n : ℕ) (ps : List Parameter) (p : Parameter) → AreNamed n ps → p.name.0 < n → AreNamed n (ps ++ p ∷ [])
AreNamed-end n [] p h there = (there, tt)
AreNamed-end n (q ∷ ps) p h there = (h.0, AreNamed-end n ps p h.1 there)

-- parameters that have names and meanings
pub AreNamed-shown : (k : Known) (ds : List Declared) (ps : List Parameter) (qs : List (List ℕ × Meaning)) → ShowsParameters k ds ps qs → AreNamed (length k.names) ps
AreNamed-shown k ds [] qs s = tt
AreNamed-shown k ds (p ∷ ps) (q ∷ qs) s = (slice_get_within k.names p.name.0 q.0 s.0, AreNamed-shown k ds ps qs s.2)
AreNamed-shown k ds (p ∷ ps) [] s = absurd s

-- their declarations are under their names still
pub HaveNames-grows : (ds es : List Declared) (ps : List Parameter) → Begins ds es → HaveNames ds ps → HaveNames es ps
HaveNames-grows ds es [] g h = tt
HaveNames-grows ds es (p ∷ ps) g h = ((h.0.0, slice_get-begins ds es p.declaration.0 h.0.0 g h.0.1, h.0.2), HaveNames-grows ds es ps g h.1)

-- the same with one more
pub HaveNames-end : (ds : List Declared) (ps : List Parameter) (p : Parameter) → HaveNames ds ps → HasName ds p.declaration.0 p.name.0 → HaveNames ds (ps ++ p ∷ [])
HaveNames-end ds [] p h there = (there, tt)
HaveNames-end ds (q ∷ ps) p h there = (h.0, HaveNames-end ds ps p h.1 there)

-- their declarations are no routines' still
pub AreParameters-grows : (ds es : List Declared) (ps : List Parameter) → Begins ds es → AreParameters ds ps → AreParameters es ps
AreParameters-grows ds es [] g h = tt
AreParameters-grows ds es (p ∷ ps) g h = ((h.0.0, slice_get-begins ds es p.declaration.0 h.0.0 g h.0.1, h.0.2, h.0.3), AreParameters-grows ds es ps g h.1)

-- the same with one more
pub AreParameters-end : (ds : List Declared) (ps : List Parameter) (p : Parameter) → AreParameters ds ps → IsNoRoutine ds p.declaration.0 → AreParameters ds (ps ++ p ∷ [])
AreParameters-end ds [] p h there = (there, tt)
AreParameters-end ds (q ∷ ps) p h there = (h.0, AreParameters-end ds ps p h.1 there)
