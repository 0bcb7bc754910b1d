-- The names of a variable declaration, one after the other: laws.
use Rattle.std.specs.Prelude.{◌≡◌, ◌<◌, ◌+◌, ℕ, Bool, true, false, not, ◌||◌, if◌then◌else◌, List, [], ◌∷◌, ◌++◌, suc, length, Option, Some, None}
use Rattle.std.specs.Option.{is_some}
use Rattle.std.specs.Str.{bytes_eq}
use Rattle.std.proofs.Common.{refl, ap, sym, ◌∙◌, subst, arith, append_assoc, append-nil}
use Rattle.pc_syntax.specs.Plain.{Forest, Nil, Cons, Plain, forest_of, kids_of}
use Rattle.pc_syntax.specs.PartsLaws.{forest_of-kids_of}
use Rattle.pc_syntax.specs.declared.kind.Kind.{Kind}
use Rattle.pc_syntax.specs.Sorts.{is_hole}
use Rattle.pc_syntax.specs.Words.{lowered, is_among}
use Rattle.pc_scope.specs.Headings.{names_of}
use Rattle.pc_names.specs.Numbers.{number_of}
use Rattle.pc_names.specs.Bindings.{slot_in}
use Rattle.pc_names.specs.Standing.{IsKnown, Has}
use Rattle.pc_names.specs.Table.{slot_at}
use Rattle.pc_names.specs.StandingLaws.{define_all-end}
use Rattle.pc_names.specs.declared.id.DeclarationId.{DeclarationId}
use Rattle.pc_names.specs.declared.id.NameId.{NameId}
use Rattle.pc_names.specs.declared.name_class.NameClass.TheVariants as class
use Rattle.pc_types.specs.declared.form.OwnerId.{OwnerId}
use Rattle.pc_rules.specs.Attributes.{Entry, nodes}
use Rattle.pc_rules.specs.DeclaringNames.{all_as, repeats}
use Rattle.pc_rules.specs.Decorated.{seen, rule, decorate}
use Rattle.pc_rules.specs.ListRuleLaws.{rule-kind, rule-word}
use Rattle.pc_rules.specs.Places.{inner, beside}
use Rattle.pc_rules.specs.Meanings.{Meaning, Local, Outside, define, define_all, entry_of}
use Rattle.pc_growth.specs.Grows.{Begins}
use Rattle.pc_growth.specs.GrowsLaws.{less-begins}
use Rattle.pc_places.specs.MovesLaws.{IsPlace-kept, Moves-kept, Moves-same, Moves-then}
use Rattle.pc_places.specs.Places.{known, IsPlace, Keeps, Moves}
use Rattle.pc_places.specs.Scenes.{Declares, ShowsUnsigned}
use Rattle.pc_places.specs.declared.tables.Tables.{Tables}
use Rattle.pc_definitions.specs.DefineLaws.{is_there, is_new, new_names}
use Rattle.pc_definitions.specs.NamingLaws.{owner-defined, parts-declare}
use Rattle.pc_definitions.specs.Namings.{ShowsParts}
use Rattle.pc_definitions.specs.RuleLaws.{no-type}
use Rattle.pc_definitions.specs.VariableMakes.{names-grow}
use Rattle.pc_definitions.specs.Variables.{untyped, AreNames, EntersVariables}
use Rattle.pc_definitions.specs.VariableNames.{twice_at, repeats_at, any_hole_at, AreNumbers, DeclaredSoFar}
use Rattle.pc_definitions.specs.declared.variables.Variables.{Variables}

-- a name before others, where it is no hole
abbrev pub named : Bool → List ℕ → List (List ℕ) → List (List ℕ)
named b w ns = if b then ns else lowered w ∷ ns

end-by : (b : Bool) (w : List ℕ) (ns ms rest : List (List ℕ)) → ms ≡ ns ++ rest → named b w ms ≡ named b w ns ++ rest
end-by true w ns ms rest e = e
end-by false w ns ms rest e = ap (λ (v : List (List ℕ)). lowered w ∷ v) e

pub names-end : (ts : List Plain) (t : Plain) → names_of (forest_of (ts ++ t ∷ [])) ≡ names_of (forest_of ts) ++ named (is_hole t.kind) t.word []
names-end [] t = refl
names-end (u ∷ ts) t = end-by (is_hole u.kind) u.word (names_of (forest_of ts)) (names_of (forest_of (ts ++ t ∷ []))) (named (is_hole t.kind) t.word []) (names-end ts t)

pub all_as-end : (m : Meaning) (ns : List (List ℕ)) (n : List ℕ) → all_as m (ns ++ n ∷ []) ≡ all_as m ns ++ (n, m) ∷ []
all_as-end m [] n = refl
all_as-end m (k ∷ ns) n = ap (λ (ds : List (List ℕ × Meaning)). (k, m) ∷ ds) (all_as-end m ns n)

-- one more variable
pub define-one-more : (l : Local) (m : Meaning) (ns : List (List ℕ)) (n : List ℕ) → define_all l (all_as m (ns ++ n ∷ [])) ≡ define (define_all l (all_as m ns)) n m
define-one-more l m ns n = ap (define_all l) (all_as-end m ns n) ∙ define_all-end l (all_as m ns) n m

pub passed-all : (l : Local) (m : Meaning) (ns : List (List ℕ)) → (define_all l (all_as m ns)).passed ≡ l.passed ++ ns
passed-all l m [] = sym (append-nil l.passed)
passed-all l m (n ∷ ns) = passed-all (define l n m) m ns ∙ append_assoc l.passed (n ∷ []) ns

new-by : (b : Bool) (n : List ℕ) (xs ys rest : List (List ℕ)) → xs ≡ ys ++ rest → (if b then n ∷ xs else xs) ≡ (if b then n ∷ ys else ys) ++ rest
new-by true n xs ys rest e = ap (λ (v : List (List ℕ)). n ∷ v) e
new-by false n xs ys rest e = e

pub new_names-end : (l : Local) (m : Meaning) (ns : List (List ℕ)) (n : List ℕ) → new_names l m (ns ++ n ∷ []) ≡ new_names l m ns ++ (if is_new (define_all l (all_as m ns)) n then n ∷ [] else [])
new_names-end l m [] n = refl
new_names-end l m (k ∷ ns) n =
    new-by (is_new l k) k (new_names (define l k m) m (ns ++ n ∷ [])) (new_names (define l k m) m ns) (if is_new (define_all (define l k m) (all_as m ns)) n then n ∷ [] else []) (new_names-end (define l k m) m ns n)

pub AreNames-end : (texts : List (List ℕ)) (is : List NameId) (ns : List (List ℕ)) (i : NameId) (n : List ℕ) → AreNames texts is ns → number_of texts n ≡ Some i.0 →
    AreNames texts (is ++ i ∷ []) (ns ++ n ∷ [])
AreNames-end texts [] [] i n h e = (e, tt)
AreNames-end texts (j ∷ is) (m ∷ ns) i n h e = (h.0, AreNames-end texts is ns i n h.1 e)
AreNames-end texts [] (m ∷ ns) i n h e = absurd h
AreNames-end texts (j ∷ is) [] i n h e = absurd h

-- they are numbers of as many names, where more have got numbers
pub numbers-grow : (a b : List (List ℕ)) (is : List NameId) → Begins a b → AreNumbers (length a) is → AreNumbers (length b) is
numbers-grow a b [] g h = tt
numbers-grow a b (i ∷ is) g h = (less-begins a b i.0 g h.0, numbers-grow a b is g h.1)

pub numbers-end : (names : ℕ) (is : List NameId) (i : NameId) → AreNumbers names is → i.0 < names → AreNumbers names (is ++ i ∷ [])
numbers-end names [] i h e = (e, tt)
numbers-end names (j ∷ is) i h e = (h.0, numbers-end names is i h.1 e)

-- ---- row 3

or-swap : (a b c : Bool) → (a || (b || c)) ≡ (b || (a || c))
or-swap true true c = refl
or-swap true false c = refl
or-swap false b c = refl

among-insert : (p xs : List (List ℕ)) (n q : List ℕ) → is_among (p ++ n ∷ xs) q ≡ (bytes_eq n q || is_among (p ++ xs) q)
among-insert [] xs n q = refl
among-insert (m ∷ p) xs n q = ap (λ (b : Bool). bytes_eq m q || b) (among-insert p xs n q) ∙ or-swap (bytes_eq m q) (bytes_eq n q) (is_among (p ++ xs) q)

-- row 3 at a name before others
abbrev pub first_twice : Bool → List (List ℕ) → ℕ → List ℕ → List Entry → List Entry → List Entry
first_twice b before i w rest more = if b then rest else twice_at i (is_among before (lowered w)) w ++ more

abbrev pub last_twice : Bool → ℕ → Bool → List ℕ → List Entry
last_twice b i twice w = if b then [] else twice_at i twice w

repeats-by : (b : Bool) (before : List (List ℕ)) (i count : ℕ) (u t : List ℕ) (h : Bool) (rest more rest' more' : List Entry) (xs : List (List ℕ)) → suc i + count ≡ i + suc count →
    rest' ≡ rest ++ last_twice h (suc i + count) (is_among (before ++ xs) (lowered t)) t → more' ≡ more ++ last_twice h (suc i + count) (is_among ((lowered u ∷ before) ++ xs) (lowered t)) t →
    first_twice b before i u rest' more' ≡ first_twice b before i u rest more ++ last_twice h (i + suc count) (is_among (before ++ named b u xs) (lowered t)) t
repeats-by true before i count u t h rest more rest' more' xs n e f = e ∙ ap (λ k. rest ++ last_twice h k (is_among (before ++ xs) (lowered t)) t) n
repeats-by false before i count u t h rest more rest' more' xs n e f =
    let own = twice_at i (is_among before (lowered u)) u in
    ap (λ (es : List Entry). own ++ es) (f ∙ ap (λ k. more ++ last_twice h k (is_among ((lowered u ∷ before) ++ xs) (lowered t)) t) n
    ∙ ap (λ (c : Bool). more ++ last_twice h (i + suc count) c t) (sym (among-insert before xs (lowered u) (lowered t))))
    ∙ sym (append_assoc own more (last_twice h (i + suc count) (is_among (before ++ lowered u ∷ xs) (lowered t)) t))

repeats-one : (b : Bool) (before : List (List ℕ)) (i : ℕ) (w : List ℕ) → first_twice b before i w [] [] ≡ last_twice b (i + 0) (is_among (before ++ []) (lowered w)) w
repeats-one true before i w = refl
repeats-one false before i w =
    append-nil (twice_at i (is_among before (lowered w)) w)
    ∙ ap (λ k. twice_at k (is_among before (lowered w)) w) (let e : i ≡ i + 0 = omega arith in e)
    ∙ ap (λ (p : List (List ℕ)). twice_at (i + 0) (is_among p (lowered w)) w) (sym (append-nil before))

pub repeats-end : (before : List (List ℕ)) (i : ℕ) (ts : List Plain) (t : Plain) →
    repeats_at before i (forest_of (ts ++ t ∷ [])) ≡ repeats_at before i (forest_of ts) ++ last_twice (is_hole t.kind) (i + length ts) (is_among (before ++ names_of (forest_of ts)) (lowered t.word)) t.word
repeats-end before i [] t = repeats-one (is_hole t.kind) before i t.word
repeats-end before i (u ∷ ts) t =
    repeats-by (is_hole u.kind) before i (length ts) u.word t.word (is_hole t.kind) (repeats_at before (suc i) (forest_of ts)) (repeats_at (lowered u.word ∷ before) (suc i) (forest_of ts))
    (repeats_at before (suc i) (forest_of (ts ++ t ∷ []))) (repeats_at (lowered u.word ∷ before) (suc i) (forest_of (ts ++ t ∷ []))) (names_of (forest_of ts)) (omega arith)
    (repeats-end before (suc i) ts t) (repeats-end (lowered u.word ∷ before) (suc i) ts t)

or-three : (b c d : Bool) → (b || (c || d)) ≡ ((b || c) || d)
or-three true c d = refl
or-three false c d = refl

or-false : (b : Bool) → (b || false) ≡ b
or-false true = refl
or-false false = refl

pub hole-end : (ts : List Plain) (t : Plain) → any_hole_at (forest_of (ts ++ t ∷ [])) ≡ (any_hole_at (forest_of ts) || is_hole t.kind)
hole-end [] t = or-false (is_hole t.kind)
hole-end (u ∷ ts) t = ap (λ (b : Bool). is_hole u.kind || b) (hole-end ts t) ∙ or-three (is_hole u.kind) (any_hole_at (forest_of ts)) (is_hole t.kind)

-- a block knows a declaration of a name where the place does
pub known-there : (D : ℕ → Meaning → Type 0) (k : Option DeclarationId) (o : Option Meaning) → IsKnown D k o → is_there k ≡ is_there o
known-there D None None h = refl
known-there D (Some d) (Some m) h = refl
known-there D None (Some m) h = absurd h
known-there D (Some d) None h = absurd h

-- ---- steps

named-one : (t : Plain) → is_hole t.kind ≡ false → (ns : List (List ℕ)) → ns ++ named (is_hole t.kind) t.word [] ≡ ns ++ lowered t.word ∷ []
named-one t e ns = ap (λ (b : Bool). ns ++ named b t.word []) e

named-none : (t : Plain) → is_hole t.kind ≡ true → (ns : List (List ℕ)) → ns ++ named (is_hole t.kind) t.word [] ≡ ns
named-none t e ns = ap (λ (b : Bool). ns ++ named b t.word []) e ∙ append-nil ns

fresh-names : (texts : List (List ℕ)) (is : List NameId) (ns : List (List ℕ)) (b : Bool) (i : NameId) (n : List ℕ) → AreNames texts is ns → number_of texts n ≡ Some i.0 →
    AreNames texts (is ++ (if b then i ∷ [] else [])) (ns ++ (if b then n ∷ [] else []))
fresh-names texts is ns true i n h e = AreNames-end texts is ns i n h e
fresh-names texts is ns false i n h e = subst (λ (js : List NameId). AreNames texts js (ns ++ [])) (sym (append-nil is)) (subst (λ (ms : List (List ℕ)). AreNames texts is ms) (sym (append-nil ns)) h)

fresh-numbers : (names : ℕ) (is : List NameId) (b : Bool) (i : NameId) → AreNumbers names is → i.0 < names → AreNumbers names (is ++ (if b then i ∷ [] else []))
fresh-numbers names is true i h e = numbers-end names is i h e
fresh-numbers names is false i h e = subst (λ (js : List NameId). AreNumbers names js) (sym (append-nil is)) h

-- no names
pub declared-none : (block owner : ℕ) (t : Tables) (v : Variables) → v.first.items ≡ [] → v.entries.items ≡ [] → v.hole ≡ false → DeclaredSoFar block owner t t [] v
declared-none block owner t v news entries hole = record {
  moves = Moves-same block t;
  there = subst (λ (is : List NameId). AreNumbers (length t.names.texts) is) (sym news) tt;
  place = λ out l place. place;
  first = λ out l place. subst (λ (is : List NameId). AreNames t.names.texts is []) (sym news) tt;
  entries = λ out l place. entries;
  hole = hole;
}

-- one more name
pub declared-name : (block : ℕ) (o : OwnerId) (t0 t1 t2 t3 : Tables) (ts : List Plain) (t : Plain) (v w : Variables) (id : NameId) (fresh twice : Bool) → is_hole t.kind ≡ false →
    DeclaredSoFar block o.0 t0 t1 ts v → Keeps t1 t2 → number_of t2.names.texts (lowered t.word) ≡ Some id.0 → id.0 < length t2.names.texts →
    ((out : Outside) (l : Local) → IsPlace t2 block o.0 out l → twice ≡ is_among l.passed (lowered t.word)) → ((out : Outside) (l : Local) → IsPlace t2 block o.0 out l → fresh ≡ is_new l (lowered t.word)) →
    ((out : Outside) (l : Local) (m : Meaning) → Declares (known t2) (lowered t.word) (record { class = class.Variable; owner = o; name = id; value = None; of = None; signature = None }) m →
    IsPlace t2 block o.0 out l → IsPlace t3 block o.0 out (define l (lowered t.word) m)) → Moves block t2 t3 → w.first.items ≡ v.first.items ++ (if fresh then id ∷ [] else []) →
    w.entries.items ≡ v.entries.items ++ twice_at (1 + length ts) twice t.word → w.hole ≡ v.hole → DeclaredSoFar block o.0 t0 t3 (ts ++ t ∷ []) w
declared-name block o t0 t1 t2 t3 ts t v w id fresh twice no_hole so keeps is within before new step moves news entries hole =
    let n = lowered t.word in
    let ns = names_of (forest_of ts) in
    let names : names_of (forest_of (ts ++ t ∷ [])) ≡ ns ++ n ∷ [] = names-end ts t ∙ named-one t no_hole ns in
    let here = λ (out : Outside) (l : Local) (place : IsPlace t0 block o.0 out l). IsPlace-kept t1 t2 block o.0 out (define_all l (all_as (untyped l) ns)) keeps (so.place out l place) in
    record {
      moves = Moves-then block t0 t1 t3 so.moves (Moves-then block t1 t2 t3 (Moves-kept block t1 t2 keeps) moves);
      there = subst (λ (js : List NameId). AreNumbers (length t3.names.texts) js) (sym news)
          (numbers-grow t2.names.texts t3.names.texts (v.first.items ++ (if fresh then id ∷ [] else [])) moves.grows.names
          (fresh-numbers (length t2.names.texts) v.first.items fresh id (numbers-grow t1.names.texts t2.names.texts v.first.items keeps.grows.names so.there) within));
      place = λ out l place.
          let q = define_all l (all_as (untyped l) ns) in
          let at : IsPlace t2 block o.0 out q = here out l place in
          let parts : ShowsParts (known t2) class.Variable o None None (untyped l) =
          record { class = refl; owner = at.owner_is ∙ owner-defined l (all_as (untyped l) ns); owner_there = at.there; value = tt; type = no-type (known t2).table; bare = refl } in
          subst (λ (m : Local). IsPlace t3 block o.0 out m) (sym (ap (λ (ms : List (List ℕ)). define_all l (all_as (untyped l) ms)) names ∙ define-one-more l (untyped l) ns n))
          (step out q (untyped l) (parts-declare (known t2) class.Variable o None None (untyped l) n id parts is) at);
      first = λ out l place.
          let q = define_all l (all_as (untyped l) ns) in
          let fits : fresh ≡ is_new q n = new out q (here out l place) in
          let all : new_names l (untyped l) (names_of (forest_of (ts ++ t ∷ []))) ≡ new_names l (untyped l) ns ++ (if fresh then n ∷ [] else []) =
          ap (new_names l (untyped l)) names ∙ new_names-end l (untyped l) ns n ∙ ap (λ (b : Bool). new_names l (untyped l) ns ++ (if b then n ∷ [] else [])) (sym fits) in
          subst (λ (js : List NameId). AreNames t3.names.texts js (new_names l (untyped l) (names_of (forest_of (ts ++ t ∷ []))))) (sym news)
          (subst (λ (ms : List (List ℕ)). AreNames t3.names.texts (v.first.items ++ (if fresh then id ∷ [] else [])) ms) (sym all)
          (names-grow t2.names.texts t3.names.texts (v.first.items ++ (if fresh then id ∷ [] else [])) (new_names l (untyped l) ns ++ (if fresh then n ∷ [] else [])) moves.grows.names
          (fresh-names t2.names.texts v.first.items (new_names l (untyped l) ns) fresh id n
          (names-grow t1.names.texts t2.names.texts v.first.items (new_names l (untyped l) ns) keeps.grows.names (so.first out l place)) is)));
      entries = λ out l place.
          let q = define_all l (all_as (untyped l) ns) in
          let was : twice ≡ is_among (l.passed ++ ns) n = before out q (here out l place) ∙ ap (λ (p : List (List ℕ)). is_among p n) (passed-all l (untyped l) ns) in
          entries ∙ ap (λ (es : List Entry). es ++ twice_at (1 + length ts) twice t.word) (so.entries out l place)
          ∙ ap (λ (b : Bool). repeats_at l.passed 1 (forest_of ts) ++ twice_at (1 + length ts) b t.word) was
          ∙ ap (λ (b : Bool). repeats_at l.passed 1 (forest_of ts) ++ last_twice b (1 + length ts) (is_among (l.passed ++ ns) n) t.word) (sym no_hole)
          ∙ sym (repeats-end l.passed 1 ts t);
      hole = hole ∙ so.hole ∙ sym (or-false (any_hole_at (forest_of ts))) ∙ ap (λ (b : Bool). any_hole_at (forest_of ts) || b) (sym no_hole) ∙ sym (hole-end ts t);
    }

or-true : (b : Bool) → (b || true) ≡ true
or-true true = refl
or-true false = refl

-- one more hole
pub declared-hole : (block owner : ℕ) (t0 t1 : Tables) (ts : List Plain) (t : Plain) (v w : Variables) → is_hole t.kind ≡ true → DeclaredSoFar block owner t0 t1 ts v → w.first.items ≡ v.first.items →
    w.entries.items ≡ v.entries.items → w.hole ≡ true → DeclaredSoFar block owner t0 t1 (ts ++ t ∷ []) w
declared-hole block owner t0 t1 ts t v w is so news entries hole =
    let ns = names_of (forest_of ts) in
    let names : names_of (forest_of (ts ++ t ∷ [])) ≡ ns = names-end ts t ∙ named-none t is ns in
    record {
      moves = so.moves;
      there = subst (λ (js : List NameId). AreNumbers (length t1.names.texts) js) (sym news) so.there;
      place = λ out l place. subst (λ (ms : List (List ℕ)). IsPlace t1 block owner out (define_all l (all_as (untyped l) ms))) (sym names) (so.place out l place);
      first = λ out l place.
          subst (λ (js : List NameId). AreNames t1.names.texts js (new_names l (untyped l) (names_of (forest_of (ts ++ t ∷ []))))) (sym news)
          (subst (λ (ms : List (List ℕ)). AreNames t1.names.texts v.first.items (new_names l (untyped l) ms)) (sym names) (so.first out l place));
      entries = λ out l place.
          entries ∙ so.entries out l place ∙ sym (append-nil (repeats_at l.passed 1 (forest_of ts)))
          ∙ ap (λ (b : Bool). repeats_at l.passed 1 (forest_of ts) ++ last_twice b (1 + length ts) (is_among (l.passed ++ ns) (lowered t.word)) t.word) (sym is)
          ∙ sym (repeats-end l.passed 1 ts t);
      hole = hole ∙ sym (or-true (any_hole_at (forest_of ts))) ∙ ap (λ (b : Bool). any_hole_at (forest_of ts) || b) (sym is) ∙ sym (hole-end ts t);
    }

pub some-there : (o : Option DeclarationId) → is_some o ≡ is_there o
some-there None = refl
some-there (Some d) = refl

-- whether a declaration of the name would be the first one, by what the block has of it
pub new-at : (t : Tables) (block name owner : ℕ) (out : Outside) (l : Local) (n : List ℕ) → number_of t.names.texts n ≡ Some name → IsPlace t block owner out l →
    not ((slot_in t.names.slots block name).passed || is_there (slot_in t.names.slots block name).known) ≡ is_new l n
new-at t block name owner out l n number place =
    let D = ShowsUnsigned (known t) t.declarations.items in
    let at : Has D (slot_in t.names.slots block name) l n = subst (λ (o : Option ℕ). Has D (slot_at t.names.slots block o) l n) number (place.own n) in
    let same = known-there D (slot_in t.names.slots block name).known (entry_of l.known n) at.is_known in
    λ i. not (at.is_passed i || same i)

-- ---- the list where it stands

-- what was found at the names of a list so far is what was found at it in the end
pub enters-variables : (block owner : ℕ) (t0 t1 : Tables) (list : Plain) (v : Variables) → DeclaredSoFar block owner t0 t1 (kids_of list) v → EntersVariables block owner t0 t1 list v.first.items
enters-variables block owner t0 t1 list v so =
    let names : names_of (forest_of (kids_of list)) ≡ names_of list.kids = ap names_of (forest_of-kids_of list) in
    record {
      place = λ out l place. subst (λ (ms : List (List ℕ)). IsPlace t1 block owner out (define_all l (all_as (untyped l) ms))) names (so.place out l place);
      first = λ out l place. subst (λ (ms : List (List ℕ)). AreNames t1.names.texts v.first.items (new_names l (untyped l) ms)) names (so.first out l place);
      moves = so.moves;
    }

-- row 3 at the names of a list where it stands
pub repeats-found : (out : Outside) (l : Local) (before : List (List ℕ)) (i : ℕ) (ks : Forest) → repeats before i (nodes (decorate out l ks)) ≡ repeats_at before i ks
unfolding decorate
repeats-found out l before i Nil = refl
repeats-found out l before i (Cons k w ns ks ts) =
    let below = decorate out (inner l k ks) ks in
    let a = rule l k w (seen out l k w) below in
    let m = beside l k a in
    let rest = nodes (decorate out m ts) in
    ap (λ (j : Kind). first_twice (is_hole j) before i a.word (repeats before (suc i) rest) (repeats (lowered a.word ∷ before) (suc i) rest)) (rule-kind l k w (seen out l k w) below)
    ∙ ap (λ (v : List ℕ). first_twice (is_hole k) before i v (repeats before (suc i) rest) (repeats (lowered v ∷ before) (suc i) rest)) (rule-word l k w (seen out l k w) below)
    ∙ ap (λ (es : List Entry). first_twice (is_hole k) before i w es (repeats (lowered w ∷ before) (suc i) rest)) (repeats-found out m before (suc i) ts)
    ∙ ap (λ (es : List Entry). first_twice (is_hole k) before i w (repeats_at before (suc i) ts) es) (repeats-found out m (lowered w ∷ before) (suc i) ts)
