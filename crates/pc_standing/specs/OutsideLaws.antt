-- What names mean in a routine's block, with parameters and results from outside and without: lemmas.
use Rattle.std.proofs.Common.{◌≡◌, ℕ, Bool, true, false, if◌then◌else◌, List, [], ◌∷◌, Option, Some, None, refl, ap, sym, ◌∙◌, true≢false}
use Rattle.std.specs.Str.{bytes_eq}
use Rattle.pc_types.specs.Shapes.{Owner, Typed}
use Rattle.pc_names.specs.Finding.{FindsAs}
use Rattle.pc_names.specs.Table.{found_named}
use Rattle.pc_names.specs.declared.bound.Bound.{Bound}
use Rattle.pc_names.specs.declared.bound.Bound.TheVariants as bound
use Rattle.pc_rules.specs.Meanings as rules
use Rattle.pc_rules.specs.Meanings.{Class, Signature, Meaning, Found, Local, Outside, entry_of, find, field_or, known_or, later_or, is_routine_class, with_signature}
use Rattle.pc_rules.specs.Outsides.{signature_named, completed_by, outside_of}
use Rattle.pc_rules.specs.RequiredMeanings.{required_or_missing}
use Rattle.pc_rules.specs.Routines.{Routine, bare}
use Rattle.pc_facts.specs.Known.{Known}
use Rattle.pc_facts.specs.declared.sighting.Declared.{Declared}
use Rattle.pc_places.specs.Places.{known, IsPlace}
use Rattle.pc_program_laws.specs.Unsigned as laws
use Rattle.pc_places.specs.Scenes.{unsigned, unsigned_found, ShowsUnsigned}
use Rattle.pc_places.specs.declared.tables.Tables.{Tables}
use Rattle.pc_standing.specs.Signed.{Signatures, signed, OwnsRoutines}
use Rattle.pc_standing.specs.SignedLaws.{signed-required}

-- what is said of routines from outside
pub completed_by-signed : (all : List Routine) (n : List ℕ) (f : Found) → completed_by all n f ≡ signed (signature_named all) n f
completed_by-signed all n (rules.Here m) = refl
completed_by-signed all n f = refl

-- ---- one routine after the other

abbrev sign : Bool → Option Signature → Meaning → Meaning
sign b s m = if b then record m { signature = s } else m

sign-known : (sig : Signatures) (o : Owner) (n : List ℕ) (m : Meaning) (b : Bool) → is_routine_class m.class ≡ b → (b ≡ true → m.owner ≡ o) →
    rules.Here (sign b (sig o n) m) ≡ signed sig n (rules.Here (sign b None m))
sign-known sig o n m true e own =
    ap (λ (p : Owner). rules.Here (record m { signature = sig p n })) (sym (own refl)) ∙ ap (λ (b : Bool). rules.Here (sign b (sig m.owner n) (record m { signature = None }))) (sym e)
sign-known sig o n m false e own = ap (λ (b : Bool). rules.Here (sign b (sig m.owner n) m)) (sym e)

abbrev Owned : Owner → Option Meaning → Type 0
Owned o None = Unit {0}
Owned o (Some m) = is_routine_class m.class ≡ true → m.owner ≡ o

entry-by : (b : Bool) (o : Owner) (m : Meaning) (rest : Option Meaning) → (is_routine_class m.class ≡ true → m.owner ≡ o) → Owned o rest → Owned o (if b then Some m else rest)
entry-by true o m rest h g = h
entry-by false o m rest h g = g

entry-owned : (o : Owner) (ds : List (List ℕ × Meaning)) (n : List ℕ) → OwnsRoutines o ds → Owned o (entry_of ds n)
entry-owned o [] n h = tt
entry-owned o (d ∷ ds) n h = entry-by (bytes_eq d.0 n) o d.1 (entry_of ds n) h.0 (entry-owned o ds n h.1)

found-by : (all : List Routine) (r : Routine) (n : List ℕ) (o : Option Meaning) (c : Option Class) → Owned r.owner o →
    known_or (outside_of all r) n o (later_or c ((outside_of all r).means n)) ≡ signed (signature_named all) n (known_or (bare r.means) n o (later_or c (r.means n)))
unfolding outside_of
found-by all r n (Some m) c own = sign-known (signature_named all) r.owner n m (is_routine_class m.class) refl own
found-by all r n None (Some c) own = refl
found-by all r n None None own = completed_by-signed all n (r.means n)

no-field : (out : Outside) (l : Local) (n : List ℕ) → l.fields ≡ [] → find out l n ≡ known_or out n (entry_of l.known n) (later_or (entry_of l.names n) (out.means n))
unfolding find
no-field out l n e = ap (λ (fs : List (List ℕ × (Typed × Bool))). field_or (entry_of fs n) (known_or out n (entry_of l.known n) (later_or (entry_of l.names n) (out.means n)))) e

-- what a name means in the block, with what is said of routines from outside, is what it means without, with the routines' parameters
-- and results
pub find-signed : (all : List Routine) (r : Routine) (l : Local) → l.fields ≡ [] → OwnsRoutines r.owner l.known → (n : List ℕ) →
    find (outside_of all r) l n ≡ signed (signature_named all) n (find (bare r.means) l n)
find-signed all r l closed owns n =
    no-field (outside_of all r) l n closed
    ∙ found-by all r n (entry_of l.known n) (entry_of l.names n) (entry-owned r.owner l.known n owns)
    ∙ ap (signed (signature_named all) n) (sym (no-field (bare r.means) l n closed))

-- the same, as what is said from outside completes it
pub find-completed : (all : List Routine) (r : Routine) (l : Local) → l.fields ≡ [] → OwnsRoutines r.owner l.known → (n : List ℕ) →
    find (outside_of all r) l n ≡ completed_by all n (find (bare r.means) l n)
find-completed all r l closed owns n = find-signed all r l closed owns n ∙ sym (completed_by-signed all n (find (bare r.means) l n))

-- what names mean around a routine that stands at this place of the block
pub means-inside : (all : List Routine) (r q : Routine) (l : Local) → l.fields ≡ [] → OwnsRoutines r.owner l.known → q.means ≡ find (bare r.means) l → (n : List ℕ) →
    (outside_of all q).means n ≡ find (outside_of all r) l n
unfolding outside_of
means-inside all r q l closed owns e n = ap (λ (m : List ℕ → Found). completed_by all n (m n)) e ∙ sym (find-completed all r l closed owns n)

-- ---- parameters and results aside

-- a meaning without them is the same in two words
pub unsigned_found-same : (f : Found) → unsigned_found f ≡ laws.unsigned_found f
unsigned_found-same (rules.Here m) = refl
unsigned_found-same f = refl

pub unsigned_found-signed : (sig : Signatures) (n : List ℕ) (f : Found) → unsigned_found (signed sig n f) ≡ unsigned_found f
unsigned_found-signed sig n (rules.Here m) = which (is_routine_class m.class)
  where
    which : (b : Bool) → rules.Here (unsigned (sign b (sig m.owner n) m)) ≡ rules.Here (unsigned m)
    which true = refl
    which false = refl
unsigned_found-signed sig n f = refl

-- the same is meant but for those
pub find-unsigned : (all : List Routine) (r : Routine) (l : Local) → l.fields ≡ [] → OwnsRoutines r.owner l.known → (n : List ℕ) →
    unsigned_found (find (outside_of all r) l n) ≡ unsigned_found (find (bare r.means) l n)
find-unsigned all r l closed owns n = ap unsigned_found (find-signed all r l closed owns n) ∙ unsigned_found-signed (signature_named all) n (find (bare r.means) l n)

-- ---- the tables stand for a place of the block with what is said of routines, if they do without

shows-completed : (k : Known) (ds : List Declared) (s : Option Signature) (d : ℕ) (m : Meaning) (b : Bool) → is_routine_class m.class ≡ b → ShowsUnsigned k ds d m → ShowsUnsigned k ds d (sign b s m)
shows-completed k ds s d m false e h = h
shows-completed k ds s d m true e h = record {
  declared = h.declared;
  is = h.is;
  name = h.name;
  shows = record {
    shows = h.shows.shows;
    bare = λ f. absurd (true≢false (sym e ∙ f));
    plain = h.shows.plain;
  };
}

finds-completed : (k : Known) (ds : List Declared) (all : List Routine) (n : List ℕ) (x : Bound) (f : Found) → FindsAs (ShowsUnsigned k ds) (required_or_missing n) x f →
    FindsAs (ShowsUnsigned k ds) (required_or_missing n) x (completed_by all n f)
finds-completed k ds all n (bound.Here d) (rules.Here m) h = shows-completed k ds (signature_named all m.owner n) d.0 m (is_routine_class m.class) refl h
finds-completed k ds all n (bound.Here d) f h = absurd h
finds-completed k ds all n (bound.Later c) (rules.Later q) h = h
finds-completed k ds all n (bound.Later c) f h = absurd h
finds-completed k ds all n bound.Unbound f h = completed_by-signed all n f ∙ ap (signed (signature_named all) n) h ∙ signed-required (signature_named all) n

pub IsPlace-outside : (t : Tables) (block owner : ℕ) (all : List Routine) (r : Routine) (l : Local) → IsPlace t block owner (bare r.means) l → IsPlace t block owner (outside_of all r) l
unfolding outside_of
IsPlace-outside t block owner all r l h = record {
  own = h.own;
  outer = h.outer;
  chain = h.chain;
  below = h.below;
  around = λ n. finds-completed (known t) t.declarations.items all n (found_named t.names h.outer n) (r.means n) (h.around n);
  closed = h.closed;
  distinct = h.distinct;
  owner_is = h.owner_is;
  there = h.there;
}
