-- The first of each name among parameters, and where a block begins with these.
use Rattle.std.specs.Prelude.{◌≡◌, ℕ, Bool, true, false, ◌||◌, if◌then◌else◌, List, [], ◌∷◌, map, Option, Some, None}
use Rattle.std.specs.Str.{bytes_eq}
use Rattle.std.proofs.Common.{refl, ap, sym, ◌∙◌, true≢false}
use Rattle.std.proofs.lemmas.Bool.{or_left, or_right}
use Rattle.std.proofs.lemmas.Slice.Eq.{bytes_eq-Decides}
use Rattle.pc_syntax.specs.Plain.{Forest}
use Rattle.pc_syntax.specs.Words.{is_among}
use Rattle.pc_types.specs.Shapes.{Owner}
use Rattle.pc_rules.specs.Meanings.{Meaning, entry_of}
use Rattle.pc_rules.specs.Routines.{block_start, firsts}
use Rattle.pc_block_laws.specs.Block.{OnceEach}
use Rattle.pc_block_laws.specs.Once.{KnowsOnce}
use Rattle.pc_block_laws.specs.OwnTypes.{NoTypes}

abbrev pub Parameters : Type 0
Parameters = List (List ℕ × Meaning)

-- ---- the first of each name

firsts-absent : (before : List (List ℕ)) (ds : Parameters) (n : List ℕ) → is_among before n ≡ true → entry_of (firsts before ds) n ≡ None
firsts-absent before [] n e = refl
firsts-absent before (d ∷ ds) n e =
    by (firsts-absent before ds n e) (firsts-absent (d.0 ∷ before) ds n (or_right (bytes_eq d.0 n) (is_among before n) e)) (is_among before d.0) refl where
      new : entry_of (firsts (d.0 ∷ before) ds) n ≡ None → (b : Bool) → bytes_eq d.0 n ≡ b → is_among before d.0 ≡ false → (if b then Some d.1 else entry_of (firsts (d.0 ∷ before) ds) n) ≡ None
      new rest true q f = absurd (true≢false (sym e ∙ ap (is_among before) (sym ((bytes_eq-Decides d.0 n).0 q)) ∙ f))
      new rest false q f = rest

      by : entry_of (firsts before ds) n ≡ None → entry_of (firsts (d.0 ∷ before) ds) n ≡ None → (b : Bool) → is_among before d.0 ≡ b →
          entry_of (if b then firsts before ds else d ∷ firsts (d.0 ∷ before) ds) n ≡ None
      by old rest true f = old
      by old rest false f = new rest (bytes_eq d.0 n) refl f

pub firsts-once : (before : List (List ℕ)) (ds : Parameters) → OnceEach (firsts before ds)
firsts-once before [] = tt
firsts-once before (d ∷ ds) = by (firsts-once before ds) (firsts-once (d.0 ∷ before) ds) (is_among before d.0) where
  by : OnceEach (firsts before ds) → OnceEach (firsts (d.0 ∷ before) ds) → (b : Bool) → OnceEach (if b then firsts before ds else d ∷ firsts (d.0 ∷ before) ds)
  by old rest true = old
  by old rest false = (firsts-absent (d.0 ∷ before) ds d.0 (or_left (bytes_eq d.0 d.0) (is_among before d.0) ((bytes_eq-Decides d.0 d.0).1 refl)), rest)

pub firsts-typeless : (before : List (List ℕ)) (ds : Parameters) → NoTypes ds → NoTypes (firsts before ds)
firsts-typeless before [] h = tt
firsts-typeless before (d ∷ ds) h = by (firsts-typeless before ds h.1) (firsts-typeless (d.0 ∷ before) ds h.1) (is_among before d.0) where
  by : NoTypes (firsts before ds) → NoTypes (firsts (d.0 ∷ before) ds) → (b : Bool) → NoTypes (if b then firsts before ds else d ∷ firsts (d.0 ∷ before) ds)
  by old rest true = old
  by old rest false = (h.0, rest)

-- parameters with which a block may begin
abbrev pub AreParameters : Parameters → Type 0
AreParameters ds = OnceEach ds × NoTypes ds

-- ---- a block begins

named-among : (ds : Parameters) (n : List ℕ) (m : Meaning) → entry_of ds n ≡ Some m → is_among (map (λ (d : List ℕ × Meaning). d.0) ds) n ≡ true
named-among [] n m e = absurd (cc e)
named-among (d ∷ ds) n m e = by (named-among ds n m) (bytes_eq d.0 n) e where
  by : (entry_of ds n ≡ Some m → is_among (map (λ (x : List ℕ × Meaning). x.0) ds) n ≡ true) → (b : Bool) → (if b then Some d.1 else entry_of ds n) ≡ Some m →
      (b || is_among (map (λ (x : List ℕ × Meaning). x.0) ds) n) ≡ true
  by rest true q = refl
  by rest false q = rest q

pub start-once : (o : Owner) (self : Option (Owner × List ℕ)) (parameters : Parameters) (b : Forest) → OnceEach parameters → KnowsOnce (block_start o self parameters b)
start-once o self parameters b h = record { once = h; passed = named-among parameters }
