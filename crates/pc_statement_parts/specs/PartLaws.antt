-- What is found at a statement part, by its own tables and by those of its block: lemmas.
use Rattle.std.specs.Prelude.{◌≡◌, ◌<◌, ◌+◌, ◌++◌, ℕ, true, List, [], ◌∷◌, Option, Result, IfOk, OnOk, map, take, length, get_or}
use Rattle.std.proofs.Common.{refl, ap, sym, ◌∙◌, subst, append_assoc}
use Rattle.std.proofs.lemmas.List.{get_or-map, length-map, take_more}
use Rattle.std.proofs.lemmas.Result.{IfOk-weaker}
use Rattle.pc_syntax.specs.Classes.{has}
use Rattle.pc_syntax.specs.Plain.{Plain}
use Rattle.pc_syntax.specs.declared.class.Class.TheVariants as class
use Rattle.pc_types.specs.Rows.{seen}
use Rattle.pc_types.specs.Shapes.{Owner}
use Rattle.pc_rules.specs.Attributes.{Attributes, Entry}
use Rattle.pc_rules.specs.Outsides.{outside_of}
use Rattle.pc_environment.specs.Decorating.{attributes_at}
use Rattle.pc_environment.specs.Sight.{sight_of}
use Rattle.pc_sightings.specs.TouchedLog.{numbers_of, ShowsTouched}
use Rattle.pc_facts.specs.Known.{Known}
use Rattle.pc_facts.specs.Shows.{value_of}
use Rattle.pc_facts.specs.declared.facts.Facts.{Facts}
use Rattle.pc_facts.specs.declared.sighting.Variable.{Variable}
use Rattle.pc_call_rules.specs.Parameters.{ShowsVariables, Logs}
use Rattle.pc_growth.specs.Grows.{Begins}
use Rattle.pc_places.specs.declared.tables.Tables.{Tables}
use Rattle.pc_bodies.specs.BodyLaws.{class-body}
use Rattle.pc_bodies.specs.Resolved.{known, Resolves}
use Rattle.pc_bodies.specs.declared.body.Body.{Body}
use Rattle.pc_bodies.specs.declared.body.Going.{Going}
use Rattle.pc_statements.specs.OpeningLaws.{closed_place, at-closed, sees-closed}
use Rattle.pc_standing.specs.BodyLaws.{stands-for-body}
use Rattle.pc_standing.specs.Standing.{HasTables}
use Rattle.pc_statement_parts.specs.Noting.{NotesTouched}
use Rattle.pc_statement_parts.specs.Parts.{AtPart, Finds, FindsAt, known_with}

-- what follows from what is found holds at the same places
pub AtPart-then : (t : Tables) (block owner : ℕ) (own : Option Variable) (log : List (ℕ × ℕ)) (mark : ℕ) (node : Plain) (P Q : Attributes → Type 0) →
    ((a : Attributes) → P a → Q a) → AtPart t block owner own log mark node P → AtPart t block owner own log mark node Q
AtPart-then t block owner own log mark node P Q then h = λ targets all r l at owns named signs self apart told good inside.
    then (attributes_at (outside_of all r) l node) (h targets all r l at owns named signs self apart told good inside)

-- ---- what is found

-- what code makes of a statement, where it has the tables of a block, is what the rules find at the block's statement part
pub finds-part : (t : Tables) (b : Body) (old new : Going) (node : Plain) (f : Facts) → HasTables t b old → has class.Body node.kind ≡ true → Resolves b old new node f →
    AtPart t b.block.0 b.owner.0 b.own_function b.inside.now b.mark node (Finds (known_with t new.texts.items) f old.touched.items new.touched.items)
finds-part t b old new node f has_all is resolves = λ targets all r l at owns named signs self apart told good inside.
    let out = outside_of all r in
    let s = sight_of out l in
    let sees = sees-closed out l s refl in
    let stands = stands-for-body targets t all r l b old has_all at owns named signs self apart told good inside in
    let closed = at-closed out l node (class-body class.Body node.kind refl is) in
    let same : (known b new, attributes_at out (closed_place l) node) ≡ (known_with t new.texts.items, attributes_at out l node) = λ i. (
      record { table = seen (has_all.types i); names = (has_all.names i).texts; texts = new.texts.items; signatures = has_all.signatures i },
      closed i,
    ) in
    subst (λ (p : Known × Attributes). Finds p.0 f old.touched.items new.touched.items p.1) same
    (record { shows = resolves.shows out (closed_place l) s sees stands; touched = resolves.touched out (closed_place l) s sees stands })

-- the same where memory may have failed, and where it has the tables of a block but for the texts
pub finds-part-if : {E : Type 0} (b : Body) (old new : Going) (at node : Plain) (r : Result Facts E) → IfOk r (Resolves b old new at) → at ≡ node → has class.Body node.kind ≡ true →
    (u : Tables) → b.types.now ≡ u.types → b.names.now ≡ u.names → b.declarations.now ≡ u.declarations.items → b.signatures.now ≡ u.signatures.items →
    IfOk r (FindsAt u b.block.0 b.owner.0 b.own_function b.inside.now b.mark old new node)
finds-part-if b old new at node r found same is u types names declarations signatures = IfOk-weaker r (Resolves b old new at)
    (FindsAt u b.block.0 b.owner.0 b.own_function b.inside.now b.mark old new node)
    (λ f made t has_all texts opened. finds-part t b old new node f
    (record { types = types ∙ has_all.types; names = names ∙ has_all.names; declarations = declarations ∙ has_all.declarations; signatures = signatures ∙ has_all.signatures; opened = opened; texts = texts })
    is (subst (λ (x : Plain). Resolves b old new x f) same made))
    found

-- the texts have grown
pub texts-if : {E : Type 0} (b : Body) (old new : Going) (node : Plain) (r : Result Facts E) → IfOk r (Resolves b old new node) → OnOk r (Begins old.texts.items new.texts.items)
texts-if b old new node r found = IfOk-weaker r (Resolves b old new node) (λ f. Begins old.texts.items new.texts.items) (λ f made. made.texts) found

-- ---- what is noted

-- variables by their numbers
pub noted-variables : (k : Known) (vs : List Variable) (ws : List (Owner × List ℕ)) → ShowsVariables k vs ws → ShowsTouched k.table.owners k.names (map numbers_of vs) ws
noted-variables k [] [] shown = tt
noted-variables k (v ∷ vs) (w ∷ ws) shown = (shown.0, noted-variables k vs ws shown.1)
noted-variables k [] (w ∷ ws) shown = absurd shown
noted-variables k (v ∷ vs) [] shown = absurd shown

-- one more of them was noted
pub noted-more : (vs : List Variable) (i : ℕ) (d : Variable) (first old new : List (ℕ × ℕ)) → i < length vs → new ≡ old ++ numbers_of (get_or vs i d) ∷ [] → old ≡ first ++ take i (map numbers_of vs) →
    new ≡ first ++ take (i + 1) (map numbers_of vs)
noted-more vs i d first old new within e h =
    let x = numbers_of (get_or vs i d) in
    let ns = map numbers_of vs in
    let more : take (i + 1) ns ≡ take i ns ++ x ∷ [] =
    take_more ns i (numbers_of d) (subst (λ (n : ℕ). i < n) (sym (length-map vs numbers_of)) within)
    ∙ ap (λ (v : ℕ × ℕ). take i ns ++ v ∷ []) (get_or-map numbers_of vs i d (numbers_of d) within) in
    e ∙ ap (λ (us : List (ℕ × ℕ)). us ++ x ∷ []) h ∙ append_assoc first (take i ns) (x ∷ []) ∙ ap (λ (us : List (ℕ × ℕ)). first ++ us) (sym more)

-- a log in which a statement part's variables were noted behind the others
pub notes-logged : (k : Known) (none vs : List Variable) (old new : List (ℕ × ℕ)) (ws : List (Owner × List ℕ)) → none ≡ [] → new ≡ old ++ map numbers_of vs → Logs k none vs ws →
    NotesTouched k old new ws
notes-logged k none vs old new ws empty is logs =
    let same : vs ≡ logs.0 = logs.1 ∙ ap (λ (us : List Variable). us ++ logs.0) empty in
    (map numbers_of vs, is, noted-variables k vs ws (subst (λ (us : List Variable). ShowsVariables k us ws) (sym same) logs.2))

-- what is noted of what is found at a statement part
pub noted-part : (t : Tables) (block owner : ℕ) (own : Option Variable) (log : List (ℕ × ℕ)) (mark : ℕ) (node : Plain) (k : Known) (f : Facts) (none vs : List Variable) (es : List Entry) (new : List (ℕ × ℕ)) →
    AtPart t block owner own log mark node (Finds k f none vs) → none ≡ [] → es ≡ (value_of f.judgement).entries.items → new ≡ log ++ map numbers_of vs →
    AtPart t block owner own log mark node (λ a. (es ≡ a.as_value.entries) × NotesTouched k log new a.touches)
noted-part t block owner own log mark node k f none vs es new found empty entries is =
    AtPart-then t block owner own log mark node (Finds k f none vs) (λ a. (es ≡ a.as_value.entries) × NotesTouched k log new a.touches)
    (λ a h. (entries ∙ h.shows.value.entries, notes-logged k none vs log new a.touches empty is h.touched)) found
