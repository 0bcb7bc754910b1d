-- The names of a list, one after the other: laws.
use Rattle.std.specs.Prelude.{◌≡◌, ◌<◌, ◌≤◌, ◌+◌, ℕ, Bool, true, false, not, ◌||◌, if◌then◌else◌, List, [], ◌∷◌, ◌++◌, suc, length, Some, codes, slice_get, zero}
use Rattle.std.specs.Str.{bytes_eq}
use Rattle.std.proofs.Common.{refl, ap, sym, ◌∙◌, subst, arith, append_assoc, append-nil}
use Rattle.pc_syntax.specs.Plain.{Plain}
use Rattle.pc_syntax.specs.Sorts.{is_hole}
use Rattle.pc_syntax.specs.Words.{lowered, is_among}
use Rattle.pc_syntax.specs.declared.kind.Kind.{Kind}
use Rattle.pc_names.specs.Numbers.{number_of}
use Rattle.pc_names.specs.StandingLaws.{passing}
use Rattle.pc_names.specs.declared.id.NameId.{NameId}
use Rattle.pc_rules.specs.Attributes.{Entry, nodes, at_kid}
use Rattle.pc_rules.specs.DeclaringNames.{names_in, repeats}
use Rattle.pc_rules.specs.Entries.{note_if, quoted}
use Rattle.pc_rules.specs.Meanings.{Local, Outside}
use Rattle.pc_environment.specs.Decorating.{attributes_at, place_behind, marks_of}
use Rattle.pc_growth.specs.Grows.{Begins}
use Rattle.pc_growth.specs.GrowsLaws.{length-begins}
use Rattle.pc_places.specs.MovesLaws.{IsPlace-kept, Moves-kept, Moves-then}
use Rattle.pc_places.specs.NumberingLaws.{number_of-begins}
use Rattle.pc_places.specs.Places.{IsPlace, Keeps, Moves}
use Rattle.pc_places.specs.declared.tables.Tables.{Tables}
use Rattle.pc_denoters.specs.FormsAt.{kind-at, word-at}
use Rattle.pc_denoters.specs.Passing.{names_of, repeats_of, any_hole_of, all_passing, ArePassed, AreNumbered, PassedSoFar}
use Rattle.pc_denoters.specs.declared.enumerations.Passed.{Passed}
use Rattle.pc_denoters.specs.declared.enumerations.NamesFound.{NamesFound}

-- ---- names of trees, and of what is found at them

-- a name before others, where it is no hole
abbrev named : Bool → List ℕ → List (List ℕ) → List (List ℕ)
named b w ns = if b then ns else lowered w ∷ ns

pub names_in-of : (out : Outside) (l : Local) (ts : List Plain) → names_in (nodes (marks_of out l ts)) ≡ names_of ts
names_in-of out l [] = refl
names_in-of out l (t ∷ ts) =
    let a = attributes_at out l t in
    let m = place_behind out l t in
    ap (λ (k : Kind). named (is_hole k) a.word (names_in (nodes (marks_of out m ts)))) (kind-at out l t)
    ∙ ap (λ (w : List ℕ). named (is_hole t.kind) w (names_in (nodes (marks_of out m ts)))) (word-at out l t)
    ∙ ap (named (is_hole t.kind) t.word) (names_in-of out m ts)

-- row 3 at a name before others
abbrev twice_at : Bool → List (List ℕ) → ℕ → List ℕ → List Entry → List Entry → List Entry
twice_at b before i w rest more = if b then rest else at_kid i (note_if (is_among before (lowered w)) 3 (quoted (codes "declared twice") w)) ++ more

pub repeats-of : (out : Outside) (l : Local) (before : List (List ℕ)) (i : ℕ) (ts : List Plain) → repeats before i (nodes (marks_of out l ts)) ≡ repeats_of before i ts
repeats-of out l before i [] = refl
repeats-of out l before i (t ∷ ts) =
    let a = attributes_at out l t in
    let m = place_behind out l t in
    let ns = nodes (marks_of out m ts) in
    ap (λ (k : Kind). twice_at (is_hole k) before i a.word (repeats before (suc i) ns) (repeats (lowered a.word ∷ before) (suc i) ns)) (kind-at out l t)
    ∙ ap (λ (w : List ℕ). twice_at (is_hole t.kind) before i w (repeats before (suc i) ns) (repeats (lowered w ∷ before) (suc i) ns)) (word-at out l t)
    ∙ ap (λ (es : List Entry). twice_at (is_hole t.kind) before i t.word es (repeats (lowered t.word ∷ before) (suc i) ns)) (repeats-of out m before (suc i) ts)
    ∙ ap (λ (es : List Entry). twice_at (is_hole t.kind) before i t.word (repeats_of before (suc i) ts) es) (repeats-of out m (lowered t.word ∷ before) (suc i) ts)

-- ---- one more name at the end

names-end-by : (b : Bool) (w : List ℕ) (ns ms rest : List (List ℕ)) → ms ≡ ns ++ rest → (if b then ms else lowered w ∷ ms) ≡ (if b then ns else lowered w ∷ ns) ++ rest
names-end-by true w ns ms rest e = e
names-end-by false w ns ms rest e = ap (λ (v : List (List ℕ)). lowered w ∷ v) e

pub names_of-end : (ts : List Plain) (t : Plain) → names_of (ts ++ t ∷ []) ≡ names_of ts ++ names_of (t ∷ [])
names_of-end [] t = refl
names_of-end (u ∷ ts) t = names-end-by (is_hole u.kind) u.word (names_of ts) (names_of (ts ++ t ∷ [])) (names_of (t ∷ [])) (names_of-end ts t)

pub name-of-name : (t : Plain) → is_hole t.kind ≡ false → names_of (t ∷ []) ≡ lowered t.word ∷ []
name-of-name t e = ap (λ (b : Bool). if b then [] else lowered t.word ∷ []) e

pub name-of-hole : (t : Plain) → is_hole t.kind ≡ true → names_of (t ∷ []) ≡ []
name-of-hole t e = ap (λ (b : Bool). if b then [] else lowered t.word ∷ []) e

or-swap : (a b c : Bool) → (a || (b || c)) ≡ (b || (a || c))
or-swap true true c = refl
or-swap true false c = refl
or-swap false b c = refl

-- the order of names is nothing to whether one is among them
is_among-insert : (p xs : List (List ℕ)) (n q : List ℕ) → is_among (p ++ n ∷ xs) q ≡ (bytes_eq n q || is_among (p ++ xs) q)
is_among-insert [] xs n q = refl
is_among-insert (m ∷ p) xs n q = ap (λ (b : Bool). bytes_eq m q || b) (is_among-insert p xs n q) ∙ or-swap (bytes_eq m q) (bytes_eq n q) (is_among (p ++ xs) q)

-- row 3 at a kid whose name stands before or not
abbrev pub twice_entry : ℕ → Bool → List ℕ → List Entry
twice_entry i twice w = at_kid i (note_if twice 3 (quoted (codes "declared twice") w))

-- the entries at the last kid
abbrev pub last_twice : Bool → ℕ → Bool → List ℕ → List Entry
last_twice b i twice w = if b then [] else twice_entry i twice w

repeats-end-by : (b : Bool) (before : List (List ℕ)) (i j : ℕ) (u t : List ℕ) (h : Bool) (ts : List Plain) (rest more rest' more' : List Entry) (xs : List (List ℕ)) → suc i + length ts ≡ i + suc (length ts) →
    rest' ≡ rest ++ last_twice h (suc i + length ts) (is_among (before ++ xs) (lowered t)) t → more' ≡ more ++ last_twice h (suc i + length ts) (is_among ((lowered u ∷ before) ++ xs) (lowered t)) t →
    twice_at b before i u rest' more' ≡ twice_at b before i u rest more ++ last_twice h (i + suc (length ts)) (is_among (before ++ named b u xs) (lowered t)) t
repeats-end-by true before i j u t h ts rest more rest' more' xs n e f = e ∙ ap (λ k. rest ++ last_twice h k (is_among (before ++ xs) (lowered t)) t) n
repeats-end-by false before i j u t h ts rest more rest' more' xs n e f =
    let own = twice_entry i (is_among before (lowered u)) u in
    ap (λ (es : List Entry). own ++ es) (f ∙ ap (λ k. more ++ last_twice h k (is_among ((lowered u ∷ before) ++ xs) (lowered t)) t) n
    ∙ ap (λ (c : Bool). more ++ last_twice h (i + suc (length ts)) c t) (sym (is_among-insert before xs (lowered u) (lowered t))))
    ∙ sym (append_assoc own more (last_twice h (i + suc (length ts)) (is_among (before ++ lowered u ∷ xs) (lowered t)) t))

repeats-one : (b : Bool) (before : List (List ℕ)) (i : ℕ) (w : List ℕ) → twice_at b before i w [] [] ≡ last_twice b (i + 0) (is_among (before ++ []) (lowered w)) w
repeats-one true before i w = refl
repeats-one false before i w =
    append-nil (twice_entry i (is_among before (lowered w)) w)
    ∙ ap (λ k. twice_entry k (is_among before (lowered w)) w) (let e : i ≡ i + 0 = omega arith in e)
    ∙ ap (λ (p : List (List ℕ)). twice_entry (i + 0) (is_among p (lowered w)) w) (sym (append-nil before))

-- row 3 at one more name
pub repeats_of-end : (before : List (List ℕ)) (i : ℕ) (ts : List Plain) (t : Plain) →
    repeats_of before i (ts ++ t ∷ []) ≡ repeats_of before i ts ++ last_twice (is_hole t.kind) (i + length ts) (is_among (before ++ names_of ts) (lowered t.word)) t.word
repeats_of-end before i [] t = repeats-one (is_hole t.kind) before i t.word
repeats_of-end before i (u ∷ ts) t =
    repeats-end-by (is_hole u.kind) before i 0 u.word t.word (is_hole t.kind) ts (repeats_of before (suc i) ts) (repeats_of (lowered u.word ∷ before) (suc i) ts)
    (repeats_of before (suc i) (ts ++ t ∷ [])) (repeats_of (lowered u.word ∷ before) (suc i) (ts ++ t ∷ [])) (names_of ts) (omega arith)
    (repeats_of-end before (suc i) ts t) (repeats_of-end (lowered u.word ∷ before) (suc i) ts t)

or-end : (b c : Bool) (d : Bool) → (b || (c || d)) ≡ ((b || c) || d)
or-end true c d = refl
or-end false c d = refl

or-false : (b : Bool) → (b || false) ≡ b
or-false true = refl
or-false false = refl

pub hole_of-end : (ts : List Plain) (t : Plain) → any_hole_of (ts ++ t ∷ []) ≡ (any_hole_of ts || is_hole t.kind)
hole_of-end [] t = or-false (is_hole t.kind)
hole_of-end (u ∷ ts) t = ap (λ (b : Bool). is_hole u.kind || b) (hole_of-end ts t) ∙ or-end (is_hole u.kind) (any_hole_of ts) (is_hole t.kind)

-- ---- numbers

pub passed-grows : (a b : List (List ℕ)) (before : List (List ℕ)) (es : List Passed) (ns : List (List ℕ)) → Begins a b → ArePassed a before es ns → ArePassed b before es ns
passed-grows a b before [] [] g h = tt
passed-grows a b before (e ∷ es) (n ∷ ns) g h = (number_of-begins a b n e.name.0 g h.0, h.1, passed-grows a b (before ++ n ∷ []) es ns g h.2)
passed-grows a b before [] (n ∷ ns) g h = absurd h
passed-grows a b before (e ∷ es) [] g h = absurd h

pub passed-end : (texts before : List (List ℕ)) (es : List Passed) (ns : List (List ℕ)) (e : Passed) (n : List ℕ) → number_of texts n ≡ Some e.name.0 → e.first ≡ not (is_among (before ++ ns) n) →
    ArePassed texts before es ns → ArePassed texts before (es ++ e ∷ []) (ns ++ n ∷ [])
passed-end texts before [] [] e n is first h = (is, first ∙ ap (λ (p : List (List ℕ)). not (is_among p n)) (append-nil before), tt)
passed-end texts before (d ∷ es) (m ∷ ns) e n is first h =
    (h.0, h.1, passed-end texts (before ++ m ∷ []) es ns e n is (first ∙ ap (λ (p : List (List ℕ)). not (is_among p n)) (sym (append_assoc before (m ∷ []) ns))) h.2)
passed-end texts before [] (m ∷ ns) e n is first h = absurd h
passed-end texts before (d ∷ es) [] e n is first h = absurd h

pub numbered-longer : (a b : ℕ) (es : List Passed) → a ≤ b → AreNumbered a es → AreNumbered b es
numbered-longer a b [] le h = tt
numbered-longer a b (e ∷ es) le h = (omega (arith, le, h.0), numbered-longer a b es le h.1)

pub numbered-end : (a : ℕ) (es : List Passed) (e : Passed) → e.name.0 < a → AreNumbered a es → AreNumbered a (es ++ e ∷ [])
numbered-end a [] e less h = (less, tt)
numbered-end a (d ∷ es) e less h = (h.0, numbered-end a es e less h.1)

pub numbered-at : (a : ℕ) (es : List Passed) (i : ℕ) (e : Passed) → AreNumbered a es → slice_get es i ≡ Some e → e.name.0 < a
numbered-at a [] i e h is = cc
numbered-at a (d ∷ es) zero e h is = let same : d ≡ e = cc in subst (λ (x : Passed). x.name.0 < a) same h.0
numbered-at a (d ∷ es) (suc i) e h is = numbered-at a es i e h.1 is

-- ---- steps

-- nothing
pub passed-none : (block : ℕ) (t : Tables) (f : NamesFound) → Moves block t t → f.smalls.items ≡ [] → f.passed.items ≡ [] → f.entries.items ≡ [] → f.hole ≡ false → PassedSoFar block t t [] f
passed-none block t f moves s p e h = record {
  moves = moves;
  place = λ owner out l place. subst (λ (q : List (List ℕ)). IsPlace t block owner out (record l { passed = q })) (sym (append-nil l.passed)) place;
  smalls = s;
  passed = λ owner out l place. subst (λ (es : List Passed). ArePassed t.names.texts l.passed es []) (sym p) tt;
  numbered = subst (λ (es : List Passed). AreNumbered (length t.names.texts) es) (sym p) tt;
  entries = λ owner out l place. e;
  hole = h;
}

-- one more name
pub passed-name : (block : ℕ) (t0 t1 t2 t3 : Tables) (ts : List Plain) (t : Plain) (f g : NamesFound) (id : NameId) (twice : Bool) → is_hole t.kind ≡ false → PassedSoFar block t0 t1 ts f → Keeps t1 t2 →
    number_of t2.names.texts (lowered t.word) ≡ Some id.0 → id.0 < length t2.names.texts →
    ((owner : ℕ) (out : Outside) (l : Local) (n : List ℕ) → number_of t2.names.texts n ≡ Some id.0 → IsPlace t2 block owner out l → twice ≡ is_among l.passed n) →
    ((owner : ℕ) (out : Outside) (l : Local) (n : List ℕ) → number_of t2.names.texts n ≡ Some id.0 → IsPlace t2 block owner out l → IsPlace t3 block owner out (passing l n)) → Moves block t2 t3 →
    g.smalls.items ≡ f.smalls.items ++ lowered t.word ∷ [] → g.passed.items ≡ f.passed.items ++ record { name = id; first = not twice } ∷ [] →
    g.entries.items ≡ f.entries.items ++ twice_entry (1 + length ts) twice t.word → g.hole ≡ f.hole → PassedSoFar block t0 t3 (ts ++ t ∷ []) g
passed-name block t0 t1 t2 t3 ts t f g id twice no_hole so keeps is less before pass moves s p e h =
    let n = lowered t.word in
    let names : names_of (ts ++ t ∷ []) ≡ names_of ts ++ n ∷ [] = names_of-end ts t ∙ ap (λ (ms : List (List ℕ)). names_of ts ++ ms) (name-of-name t no_hole) in
    record {
      moves = Moves-then block t0 t1 t3 so.moves (Moves-then block t1 t2 t3 (Moves-kept block t1 t2 keeps) moves);
      place = λ owner out l place.
          let q = all_passing l (names_of ts) in
          let at = pass owner out q n is (IsPlace-kept t1 t2 block owner out q keeps (so.place owner out l place)) in
          subst (λ (ms : List (List ℕ)). IsPlace t3 block owner out (record l { passed = ms }))
          (append_assoc l.passed (names_of ts) (n ∷ []) ∙ ap (λ (ms : List (List ℕ)). l.passed ++ ms) (sym names)) at;
      smalls = s ∙ ap (λ (ms : List (List ℕ)). ms ++ n ∷ []) so.smalls ∙ sym names;
      passed = λ owner out l place.
          let q = all_passing l (names_of ts) in
          let was : twice ≡ is_among (l.passed ++ names_of ts) n = before owner out q n is (IsPlace-kept t1 t2 block owner out q keeps (so.place owner out l place)) in
          subst (λ (es : List Passed). ArePassed t3.names.texts l.passed es (names_of (ts ++ t ∷ []))) (sym p)
          (subst (λ (ms : List (List ℕ)). ArePassed t3.names.texts l.passed (f.passed.items ++ record { name = id; first = not twice } ∷ []) ms) (sym names)
          (passed-end t3.names.texts l.passed f.passed.items (names_of ts) (record { name = id; first = not twice }) n (number_of-begins t2.names.texts t3.names.texts n id.0 moves.grows.names is) (ap not was)
          (passed-grows t2.names.texts t3.names.texts l.passed f.passed.items (names_of ts) moves.grows.names
          (passed-grows t1.names.texts t2.names.texts l.passed f.passed.items (names_of ts) keeps.grows.names (so.passed owner out l place)))));
      numbered =
          let more = length-begins t2.names.texts t3.names.texts moves.grows.names in
          subst (λ (es : List Passed). AreNumbered (length t3.names.texts) es) (sym p)
          (numbered-longer (length t2.names.texts) (length t3.names.texts) (f.passed.items ++ record { name = id; first = not twice } ∷ []) more
          (numbered-end (length t2.names.texts) f.passed.items (record { name = id; first = not twice }) less
          (numbered-longer (length t1.names.texts) (length t2.names.texts) f.passed.items (length-begins t1.names.texts t2.names.texts keeps.grows.names) so.numbered)));
      entries = λ owner out l place.
          let q = all_passing l (names_of ts) in
          let was : twice ≡ is_among (l.passed ++ names_of ts) n = before owner out q n is (IsPlace-kept t1 t2 block owner out q keeps (so.place owner out l place)) in
          e ∙ ap (λ (es : List Entry). es ++ twice_entry (1 + length ts) twice t.word) (so.entries owner out l place)
          ∙ ap (λ (b : Bool). repeats_of l.passed 1 ts ++ twice_entry (1 + length ts) b t.word) was
          ∙ ap (λ (b : Bool). repeats_of l.passed 1 ts ++ last_twice b (1 + length ts) (is_among (l.passed ++ names_of ts) n) t.word) (sym no_hole)
          ∙ sym (repeats_of-end l.passed 1 ts t);
      hole = h ∙ so.hole ∙ sym (or-false (any_hole_of ts)) ∙ ap (λ (b : Bool). any_hole_of ts || b) (sym no_hole) ∙ sym (hole_of-end ts t);
    }

or-true : (b : Bool) → (b || true) ≡ true
or-true true = refl
or-true false = refl

-- one more hole
pub passed-hole : (block : ℕ) (t0 t1 : Tables) (ts : List Plain) (t : Plain) (f g : NamesFound) → is_hole t.kind ≡ true → PassedSoFar block t0 t1 ts f →
    g.smalls.items ≡ f.smalls.items → g.passed.items ≡ f.passed.items → g.entries.items ≡ f.entries.items → g.hole ≡ true → PassedSoFar block t0 t1 (ts ++ t ∷ []) g
passed-hole block t0 t1 ts t f g is so s p e h =
    let names : names_of (ts ++ t ∷ []) ≡ names_of ts = names_of-end ts t ∙ ap (λ (ms : List (List ℕ)). names_of ts ++ ms) (name-of-hole t is) ∙ append-nil (names_of ts) in
    record {
      moves = so.moves;
      place = λ owner out l place. subst (λ (ms : List (List ℕ)). IsPlace t1 block owner out (all_passing l ms)) (sym names) (so.place owner out l place);
      smalls = s ∙ so.smalls ∙ sym names;
      passed = λ owner out l place.
          subst (λ (es : List Passed). ArePassed t1.names.texts l.passed es (names_of (ts ++ t ∷ []))) (sym p)
          (subst (λ (ms : List (List ℕ)). ArePassed t1.names.texts l.passed f.passed.items ms) (sym names) (so.passed owner out l place));
      numbered = subst (λ (es : List Passed). AreNumbered (length t1.names.texts) es) (sym p) so.numbered;
      entries = λ owner out l place.
          e ∙ so.entries owner out l place ∙ sym (append-nil (repeats_of l.passed 1 ts))
          ∙ ap (λ (b : Bool). repeats_of l.passed 1 ts ++ last_twice b (1 + length ts) (is_among (l.passed ++ names_of ts) (lowered t.word)) t.word) (sym is)
          ∙ sym (repeats_of-end l.passed 1 ts t);
      hole = h ∙ sym (or-true (any_hole_of ts)) ∙ ap (λ (b : Bool). any_hole_of ts || b) (sym is) ∙ sym (hole_of-end ts t);
    }
