-- A routine where it stands in its block, by its heading: lemmas.
use Rattle.std.proofs.Common.{◌≡◌, ◌<◌, Bor, ℕ, Bool, true, false, not, ◌&&◌, ◌==◌, List, [], ◌∷◌, length, slice_get, Option, Some, None, refl, ap, sym, ◌∙◌, subst, if◌then◌else◌}
use Rattle.std.proofs.lemmas.Option.{slice_get_within}
use Rattle.std.specs.Option.{is_some, ForSome, option_copied, option_map_or}
use Rattle.pc_syntax.specs.Parts.{kid_at}
use Rattle.pc_syntax.specs.Plain.{Forest, Nil, Cons, Plain, count, trees_of, kids_of}
use Rattle.pc_syntax.specs.Sorts.{is_hole}
use Rattle.pc_syntax.specs.WellFormed.{IsProper}
use Rattle.pc_syntax.specs.Words.{is_among, lowered}
use Rattle.pc_names.specs.Numbers.{number_of}
use Rattle.pc_names.specs.TableLaws.{slice_get-number_of}
use Rattle.pc_names.specs.declared.id.NameId.{NameId}
use Rattle.pc_scope.specs.Headings.{Heading, heading_of, first_name, is_routine_kind, has_later}
use Rattle.pc_rules.specs.Attributes.{Attributes}
use Rattle.pc_rules.specs.Declarations.{heading_here, rest_of, is_later_declaration, routine_class}
use Rattle.pc_rules.specs.Meanings.{Meaning, Local, Outside, declared_as}
use Rattle.pc_rules.specs.RoutineList.{Forwarded}
use Rattle.pc_environment.specs.Decorating.{attributes_at}
use Rattle.pc_environment.specs.DecoratingLaws.{at-node}
use Rattle.pc_places.specs.declared.tables.Tables.{Tables}
use Rattle.pc_routines.specs.Bare.{bare_routine, second_has_kids, is_given, is_typed, first_word, first_kind, routine_notes, routine_notes_at, routine_defines_at, IsRoutine}
use Rattle.pc_routines.specs.BareLaws.{name-there, hole-unnamed, name-lowered, notes-by, defines-by, HasName}
use Rattle.pc_routines.specs.Heads.{ShowsHeadName, ShowsHead, found_at}
use Rattle.pc_routines.specs.HeadsLaws.{number-shown}
use Rattle.pc_routines.specs.Waits.{waiting_at, Waits}
use Rattle.pc_routines.specs.ForwardedLaws.{found-waits}
use Rattle.pc_routines.specs.declared.facts.RoutineFacts.{RoutineFacts}
use Rattle.pc_routines.specs.declared.forward.Forward.{Forward}
use Rattle.pc_routines.specs.declared.head.RoutineHead.{RoutineHead}
use Rattle.pc_routines.specs.PairsLaws.{some-letter}

-- ---- what is found at it, by its name

has-name : (t : Plain) → is_routine_kind t.kind ≡ true → IsProper t → HasName t.kids
has-name t r p = name-there t.kind t.word t.kids r p.sound.0

hole-is : (t : Plain) → is_routine_kind t.kind ≡ true → IsProper t → is_hole (first_kind t.kids) ≡ (length (first_name t.kids) == 0)
hole-is t r p = hole-unnamed t.kids (has-name t r p) p.sound.3

-- the entries
pub entries-at : (out : Outside) (l : Local) (t : Plain) → is_routine_kind t.kind ≡ true → IsProper t → (attributes_at out l (bare_routine t)).as_value.entries ≡ routine_notes_at l t.kind t.kids
entries-at out l t r p =
    ap (λ (a : Attributes). a.as_value.entries) (at-node out l (bare_routine t)) ∙ notes-by out l t.word t.kind t.kids r p.sound.0
    ∙ (λ i. routine_notes (is_later_declaration l) (is_given t.kind t.kids) (second i) (not (is_typed t.kind) && not (hole-is t r p i))
    ((heading_here l).is_forward && not (hole-is t r p i) && not (has_later (heading_here l) (rest_of l.ahead))) (first_word t.kids))
  where
    by : (z : Bool) → (length (first_name t.kids) == 0) ≡ z → (not z && is_among l.passed (lowered (first_word t.kids))) ≡ (not z && is_among l.passed (first_name t.kids))
    by true e = refl
    by false e = ap (is_among l.passed) (name-lowered t.kids (has-name t r p) e)

    second : (not (is_hole (first_kind t.kids)) && is_among l.passed (lowered (first_word t.kids))) ≡ (not (length (first_name t.kids) == 0) && is_among l.passed (first_name t.kids))
    second = ap (λ (z : Bool). not z && is_among l.passed (lowered (first_word t.kids))) (hole-is t r p) ∙ by (length (first_name t.kids) == 0) refl

-- what it declares
pub defines-at : (out : Outside) (l : Local) (t : Plain) → is_routine_kind t.kind ≡ true → IsProper t → (attributes_at out l (bare_routine t)).defines ≡ routine_defines_at l t.kind t.kids
defines-at out l t r p =
    ap (λ (a : Attributes). a.defines) (at-node out l (bare_routine t)) ∙ defines-by out l t.word t.kind t.kids r (has-name t r p)
    ∙ ap (λ (z : Bool). let ds : List (List ℕ × Meaning) = (if z then [] else (lowered (first_word t.kids), declared_as (routine_class t.kind) l.owner) ∷ []) in if is_later_declaration l then [] else ds) (hole-is t r p)
    ∙ ap (λ (ds : List (List ℕ × Meaning)). if is_later_declaration l then [] else ds) (by (length (first_name t.kids) == 0) refl)
  where
    one : List ℕ → List (List ℕ × Meaning)
    one n = (n, declared_as (routine_class t.kind) l.owner) ∷ []

    by : (z : Bool) → (length (first_name t.kids) == 0) ≡ z → (if z then [] else one (lowered (first_word t.kids))) ≡ (if z then [] else one (first_name t.kids))
    by true e = refl
    by false e = ap one (name-lowered t.kids (has-name t r p) e)

-- ---- its parts by their numbers

pub second-by : (p : Plain) (o : Option Plain) → o ≡ kid_at p 2 → second_has_kids p.kids ≡ option_map_or (λ (q : Plain). not (count q.kids == 0)) o false
unfolding kids_of
second-by p o e = ap (λ (x : Option Plain). option_map_or (λ (q : Plain). not (count q.kids == 0)) x false) (sym e)

first-of : (f : Forest) → first_word f ≡ option_map_or (λ (q : Plain). q.word) (slice_get (trees_of f) 0) []
first-of Nil = refl
first-of (Cons k w ns ks ts) = refl

pub word-by : (p : Plain) (o : Option Plain) → o ≡ kid_at p 1 → first_word p.kids ≡ option_map_or (λ (q : Plain). q.word) o []
unfolding kids_of
word-by p o e = first-of p.kids ∙ ap (λ (x : Option Plain). option_map_or (λ (q : Plain). q.word) x []) (sym e)

-- ---- its name by number

-- a heading has a number where it has a name
pub named-shown : (names : List (List ℕ)) (x : Option NameId) (n : List ℕ) → ShowsHeadName names x n → is_some x ≡ not (length n == 0)
named-shown names None n e = sym (ap (λ (q : List ℕ). not (length q == 0)) e)
named-shown names (Some i) [] e = absurd e
named-shown names (Some i) (c ∷ cs) e = sym (ap not (some-letter c cs))

-- the numbers of headings are those of names
pub named-within : (names : List (List ℕ)) (x : Option NameId) (n : List ℕ) → ShowsHeadName names x n → ForSome x (λ i. i.0 < length names)
named-within names None n e j is = cc
named-within names (Some i) n e j is =
    let same : i ≡ j = cc in
    subst (λ (y : NameId). y.0 < length names) same (slice_get_within names i.0 n (slice_get-number_of names n i.0 (number-shown names i n e)))

-- whether the name stands before
pub passed-unnamed : (p : List (List ℕ)) (names : List (List ℕ)) (n : List ℕ) → ShowsHeadName names None n → false ≡ (not (length n == 0) && is_among p n)
passed-unnamed p names n e = sym (ap (λ (q : List ℕ). not (length q == 0) && is_among p q) e)

pub passed-named : (p : List (List ℕ)) (names : List (List ℕ)) (i : NameId) (n : List ℕ) (b : Bool) → ShowsHeadName names (Some i) n → (number_of names n ≡ Some i.0 → b ≡ is_among p n) →
    b ≡ (not (length n == 0) && is_among p n)
passed-named p names i [] b e h = absurd e
passed-named p names i (c ∷ cs) b e h = h e ∙ sym (ap (λ (z : Bool). not z && is_among p (c ∷ cs)) (some-letter c cs))

-- ---- what was made of it

pub copied-some : {X : Type 0} (o : Option (Bor X)) → is_some o ≡ is_some (option_copied o)
copied-some None = refl
copied-some (Some x) = refl

first-by : (b z a : Bool) → (not b && not z && not (not z && a)) ≡ (not b && not z && not a)
first-by true z a = refl
first-by false true a = refl
first-by false false a = refl

-- whether it is a later declaration
pub later-shown : (t : Tables) (w : List ((ℕ × ℕ) × Option Forward)) (x : RoutineHead) (l : Local) (fs : List Forwarded) → ShowsHead t.names.texts x (heading_here l) → Waits t w l.waiting fs →
    (not x.is_forward && is_some (found_at (waiting_at w) x.name x.is_function)) ≡ is_later_declaration l
later-shown t w x l fs shows waits = λ i. not (shows.forward i) && found-waits t w x (heading_here l) l.waiting fs shows waits i

-- the facts of a routine, by its heading
pub routine-shown : (t : Tables) (w : List ((ℕ × ℕ) × Option Forward)) (out : Outside) (l : Local) (node : Plain) (x : RoutineHead) (fs : List Forwarded) (f : RoutineFacts) (passed : Bool) →
    is_routine_kind node.kind ≡ true → IsProper node → heading_here l ≡ heading_of node.kind node.kids → ShowsHead t.names.texts x (heading_here l) →
    x.has_later ≡ has_later (heading_here l) (rest_of l.ahead) → Waits t w l.waiting fs →
    passed ≡ (not (length (heading_here l).name == 0) && is_among l.passed (heading_here l).name) →
    f.later ≡ (not x.is_forward && is_some (found_at (waiting_at w) x.name x.is_function)) → f.first ≡ (not f.later && is_some x.name && not passed) →
    f.entries.items ≡ routine_notes f.later (is_given node.kind node.kids) passed (not (is_typed node.kind) && is_some x.name) (x.is_forward && is_some x.name && not x.has_later) (first_word node.kids) →
    IsRoutine out l node f
routine-shown t w out l node x fs f passed r p is shows rest waits before later first entries =
    let named = named-shown t.names.texts x.name (heading_here l).name shows.name in
    let same : (heading_here l).name ≡ first_name node.kids = ap (λ (h : Heading). h.name) is in
    let late : f.later ≡ is_later_declaration l = later ∙ later-shown t w x l fs shows waits in
    record {
      entries = entries
          ∙ (λ i. routine_notes (late i) (is_given node.kind node.kids) (before i) (not (is_typed node.kind) && named i) (shows.forward i && named i && not (rest i)) (first_word node.kids))
          ∙ (λ i. routine_notes (is_later_declaration l) (is_given node.kind node.kids) (not (length (same i) == 0) && is_among l.passed (same i)) (not (is_typed node.kind) && not (length (same i) == 0))
          ((heading_here l).is_forward && not (length (same i) == 0) && not (has_later (heading_here l) (rest_of l.ahead))) (first_word node.kids))
          ∙ sym (entries-at out l node r p);
      later = late;
      first = first ∙ (λ i. not (late i) && named i && not (before i))
          ∙ first-by (is_later_declaration l) (length (heading_here l).name == 0) (is_among l.passed (heading_here l).name);
    }
