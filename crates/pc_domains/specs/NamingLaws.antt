-- The names that a block enters get numbers, one after another: lemmas.
use Rattle.std.proofs.Common.{◌≡◌, ◌<◌, ◌≤◌, ℕ, true, false, if◌then◌else◌, List, [], ◌∷◌, ◌++◌, ◌+◌, zero, suc, drop, get_or, slice_get, Option, Some, None, codes, length, refl, ap, sym, ◌∙◌, subst, append_assoc, arith}
use Rattle.std.proofs.lemmas.List.{append-nil}
use Rattle.std.proofs.lemmas.Option.{slice_get_within, get_or_from_slice_get}
use Rattle.std.proofs.Math.Seq.{drop-cons}
use Rattle.std.specs.Option.{option_map_or}
use Rattle.pc_syntax.specs.Plain.{Plain, Forest, Nil, Cons, forest_of, trees_of, kids_of}
use Rattle.pc_syntax.specs.Parts.{kid_at}
use Rattle.pc_syntax.specs.Sorts.{is_hole}
use Rattle.pc_syntax.specs.Words.{lowered}
use Rattle.pc_names.specs.Numbers.{number_of}
use Rattle.pc_names.specs.TableLaws.{slice_get-number_of}
use Rattle.pc_names.specs.declared.id.NameId.{NameId}
use Rattle.pc_growth.specs.Grows.{Begins}
use Rattle.pc_places.specs.MovesLaws.{Keeps-same, Keeps-then}
use Rattle.pc_places.specs.NumberingLaws.{number_of-begins}
use Rattle.pc_places.specs.declared.tables.Tables.{Tables}
use Rattle.pc_block_laws.specs.Block.{type_names, name_in_front}
use Rattle.pc_domains.specs.Types.{AreNumbers, AllBelow, OnlyNames, ShowsBlockNames, ShowsRequired, required_names, entered_names}
use Rattle.pc_domains.specs.declared.naming.BlockNames.{BlockNames}
use Rattle.pc_domains.specs.declared.naming.RequiredNames.{RequiredNames}

pub OnlyNames-same : (t : Tables) → OnlyNames t t
OnlyNames-same t = record { keeps = Keeps-same t; types = refl }

pub OnlyNames-then : (a b c : Tables) → OnlyNames a b → OnlyNames b c → OnlyNames a c
OnlyNames-then a b c f g = record { keeps = Keeps-then a b c f.keeps g.keeps; types = g.types ∙ f.types }

-- ---- the numbers of some names

pub numbers-begin : (a b : List (List ℕ)) (ids : List NameId) (ns : List (List ℕ)) → Begins a b → AreNumbers a ids ns → AreNumbers b ids ns
numbers-begin a b [] [] g h = tt
numbers-begin a b (i ∷ ids) (n ∷ ns) g h = ((number_of-begins a b n i.0 g h.0.0, h.0.1), numbers-begin a b ids ns g h.1)
numbers-begin a b [] (n ∷ ns) g h = absurd h
numbers-begin a b (i ∷ ids) [] g h = absurd h

pub numbers-end : (texts : List (List ℕ)) (ids : List NameId) (i : NameId) (ns : List (List ℕ)) (n : List ℕ) → AreNumbers texts ids ns → number_of texts n ≡ Some i.0 → (n ≡ [] → ⊥) →
    AreNumbers texts (ids ++ i ∷ []) (ns ++ n ∷ [])
numbers-end texts [] i [] n h e f = ((e, f), tt)
numbers-end texts (j ∷ ids) i (m ∷ ns) n h e f = (h.0, numbers-end texts ids i ns n h.1 e f)
numbers-end texts [] i (m ∷ ns) n h e f = absurd h
numbers-end texts (j ∷ ids) i [] n h e f = absurd h

pub numbers-below : (texts : List (List ℕ)) (ids : List NameId) (ns : List (List ℕ)) → AreNumbers texts ids ns → AllBelow (length texts) ids
numbers-below texts [] [] h = tt
numbers-below texts (i ∷ ids) (n ∷ ns) h = (slice_get_within texts i.0 n (slice_get-number_of texts n i.0 h.0.0), numbers-below texts ids ns h.1)
numbers-below texts [] (n ∷ ns) h = absurd h
numbers-below texts (i ∷ ids) [] h = absurd h

pub below-at : (count : ℕ) (ids : List NameId) (i : ℕ) (d : NameId) → AllBelow count ids → i < length ids → (get_or ids i d).0 < count
below-at count [] i d h l = absurd (omega (arith, l))
below-at count (k ∷ ids) zero d h l = h.0
below-at count (k ∷ ids) (suc i) d h l = below-at count ids i d h.1 (omega (arith, l))

-- one more, in a table that has grown
pub numbers-more : (a b : Tables) (ids : List NameId) (i : NameId) (ns : List (List ℕ)) (n : List ℕ) → OnlyNames a b → AreNumbers a.names.texts ids ns →
    number_of b.names.texts n ≡ Some i.0 → (n ≡ [] → ⊥) → AreNumbers b.names.texts (ids ++ i ∷ []) (ns ++ n ∷ [])
numbers-more a b ids i ns n g h e f = numbers-end b.names.texts ids i ns n (numbers-begin a.names.texts b.names.texts ids ns g.keeps.grows.names h) e f

-- ---- those of type definitions

-- the name in front, by the first kid
abbrev front_of : Option Plain → List (List ℕ)
front_of o = option_map_or (λ r. if is_hole r.kind then [] else lowered r.word ∷ []) o []

first-kid : (f : Forest) → name_in_front f ≡ front_of (slice_get (trees_of f) 0)
first-kid Nil = refl
first-kid (Cons k w ns ks ts) = refl

pub front-by : (p : Plain) (o : Option Plain) → o ≡ kid_at p 1 → name_in_front p.kids ≡ option_map_or (λ r. if is_hole r.kind then [] else lowered r.word ∷ []) o []
unfolding kids_of
front-by p o e = first-kid p.kids ∙ ap front_of (sym e)

-- the names from one definition on
pub names-drop : (kids : List Plain) (i : ℕ) (t : Plain) → i < length kids → slice_get kids i ≡ Some t →
    type_names (forest_of (drop i kids)) ≡ name_in_front t.kids ++ type_names (forest_of (drop (i + 1) kids))
names-drop kids i t less is =
    ap (λ (ts : List Plain). type_names (forest_of ts)) (drop-cons kids i t less ∙ ap (λ (x : Plain). x ∷ drop (suc i) kids) (get_or_from_slice_get kids i t t is))
    ∙ ap (λ (n : ℕ). name_in_front t.kids ++ type_names (forest_of (drop n kids))) (next i)
  where
    next : (n : ℕ) → suc n ≡ n + 1
    next n = omega arith

pub names-past : (kids : List Plain) (i : ℕ) → length kids ≤ i → type_names (forest_of (drop i kids)) ≡ []
names-past kids i h = ap (λ (ts : List Plain). type_names (forest_of ts)) (drop-past kids i h)
  where
    drop-past : (ts : List Plain) (n : ℕ) → length ts ≤ n → drop n ts ≡ []
    drop-past [] zero l = refl
    drop-past [] (suc n) l = refl
    drop-past (t ∷ ts) zero l = absurd (omega (arith, l))
    drop-past (t ∷ ts) (suc n) l = drop-past ts n (omega (arith, l))

-- the names so far are those of the definitions that were gone through
pub record Gathered (texts : List (List ℕ)) (ids : List NameId) (left all : Forest) : Type 0 where
  pub done : List (List ℕ)
  pub numbers : AreNumbers texts ids done
  pub rest : done ++ type_names left ≡ type_names all

pub gathered-start : (texts : List (List ℕ)) (ids : List NameId) (left all : Forest) → ids ≡ [] → left ≡ all → Gathered texts ids left all
gathered-start texts ids left all none e = record { done = []; numbers = subst (λ (is : List NameId). AreNumbers texts is []) (sym none) tt; rest = ap type_names e }

pub gathered-more : (a b : List (List ℕ)) (ids more : List NameId) (node : Plain) (left behind all : Forest) → type_names left ≡ name_in_front node.kids ++ type_names behind →
    ((ns : List (List ℕ)) → AreNumbers a ids ns → AreNumbers b more (ns ++ name_in_front node.kids)) → Gathered a ids left all → Gathered b more behind all
gathered-more a b ids more node left behind all e add h = record {
  done = h.done ++ name_in_front node.kids;
  numbers = add h.done h.numbers;
  rest = append_assoc h.done (name_in_front node.kids) (type_names behind) ∙ ap (λ (ns : List (List ℕ)). h.done ++ ns) (sym e) ∙ h.rest;
}

pub gathered-end : (texts : List (List ℕ)) (ids : List NameId) (left all : Forest) → type_names left ≡ [] → Gathered texts ids left all → AreNumbers texts ids (type_names all)
gathered-end texts ids left all e h =
    subst (λ (ns : List (List ℕ)). AreNumbers texts ids ns) (sym (append-nil h.done) ∙ ap (λ (ns : List (List ℕ)). h.done ++ ns) (sym e) ∙ h.rest) h.numbers

-- ---- those of the required types

pub names-without : (texts : List (List ℕ)) (ns : List (List ℕ)) (b : BlockNames) → AreNumbers texts b.ids.items ns → b.required ≡ None → ShowsBlockNames texts false ns b
names-without texts ns b h e =
    let numbers = subst (λ (ms : List (List ℕ)). AreNumbers texts b.ids.items ms) (sym (append-nil ns)) h in
    record {
      numbers = numbers;
      required = subst (λ r. ShowsRequired texts false r) (sym e) tt;
      there = numbers-below texts b.ids.items (entered_names false ns) numbers;
    }

-- in the program's own block
pub names-with : (a b c d : Tables) (ns : List (List ℕ)) (ids all : List NameId) (r : RequiredNames) → OnlyNames a b → OnlyNames b c → OnlyNames c d → AreNumbers a.names.texts ids ns →
    number_of b.names.texts (codes "integer") ≡ Some r.integer.0 → number_of c.names.texts (codes "boolean") ≡ Some r.boolean.0 → number_of d.names.texts (codes "char") ≡ Some r.char_type.0 →
    all ≡ ((ids ++ r.integer ∷ []) ++ r.boolean ∷ []) ++ r.char_type ∷ [] →
    (AreNumbers d.names.texts all (entered_names true ns)) × ShowsRequired d.names.texts true (Some r) × AllBelow (length d.names.texts) all
names-with a b c d ns ids all r f g h numbers integer boolean char is =
    let i = numbers-more a b ids r.integer ns (codes "integer") f numbers integer (λ e. cc e) in
    let j = numbers-more b c (ids ++ r.integer ∷ []) r.boolean (ns ++ codes "integer" ∷ []) (codes "boolean") g i boolean (λ e. cc e) in
    let k = numbers-more c d ((ids ++ r.integer ∷ []) ++ r.boolean ∷ []) r.char_type ((ns ++ codes "integer" ∷ []) ++ codes "boolean" ∷ []) (codes "char") h j char (λ e. cc e) in
    let together : ((ns ++ codes "integer" ∷ []) ++ codes "boolean" ∷ []) ++ codes "char" ∷ [] ≡ ns ++ required_names =
    append_assoc (ns ++ codes "integer" ∷ []) (codes "boolean" ∷ []) (codes "char" ∷ []) ∙ append_assoc ns (codes "integer" ∷ []) (codes "boolean" ∷ codes "char" ∷ []) in
    let these : AreNumbers d.names.texts all (ns ++ required_names) = subst (λ (is : List NameId). AreNumbers d.names.texts is (ns ++ required_names)) (sym is)
    (subst (λ (ms : List (List ℕ)). AreNumbers d.names.texts (((ids ++ r.integer ∷ []) ++ r.boolean ∷ []) ++ r.char_type ∷ []) ms) together k) in (
      these,
      (
        number_of-begins c.names.texts d.names.texts (codes "integer") r.integer.0 h.keeps.grows.names (number_of-begins b.names.texts c.names.texts (codes "integer") r.integer.0 g.keeps.grows.names integer),
        number_of-begins c.names.texts d.names.texts (codes "boolean") r.boolean.0 h.keeps.grows.names boolean,
        char,
      ),
      numbers-below d.names.texts all (ns ++ required_names) these,
    )
