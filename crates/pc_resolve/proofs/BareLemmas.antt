-- The tables stand for a place of a block without what is said of routines, if they do with it: lemmas.
use Rattle.std.proofs.Common.{◌≡◌, ℕ, Bool, true, false, if◌then◌else◌, List, Option, refl, ap, sym, ◌∙◌, true≢false}
use Rattle.pc_names.specs.Finding.{FindsAs, FindsAlong}
use Rattle.pc_names.specs.Table.{Table, found_named}
use Rattle.pc_names.specs.declared.bound.Bound.{Bound}
use Rattle.pc_names.specs.declared.bound.Bound.TheVariants as bound
use Rattle.pc_rules.specs.Meanings as rules
use Rattle.pc_rules.specs.Meanings.{Signature, Meaning, Found, Local, is_routine_class}
use Rattle.pc_rules.specs.Outsides.{signature_named, completed_by, outside_of}
use Rattle.pc_rules.specs.RequiredMeanings.{required_or_missing}
use Rattle.pc_rules.specs.Routines.{Routine, bare}
use Rattle.pc_facts.specs.Known.{Known}
use Rattle.pc_facts.specs.declared.sighting.Declared.{Declared}
use Rattle.pc_places.specs.Places.{known, IsPlace}
use Rattle.pc_places.specs.Scenes.{ShowsUnsigned}
use Rattle.pc_places.specs.declared.tables.Tables.{Tables}

abbrev sign : Bool → Option Signature → Meaning → Meaning
sign b s m = if b then record m { signature = s } else m

abbrev is_here : Found → Bool
is_here (rules.Here m) = true
is_here f = false

required-not-here : (n : List ℕ) → is_here (required_or_missing n) ≡ false
required-not-here n = which _
  where
    which : (b : Bool) → is_here (if b then rules.Required n else rules.Missing) ≡ false
    which true = refl
    which false = refl

shows-bare : (k : Known) (ds : List Declared) (s : Option Signature) (d : ℕ) (m : Meaning) (b : Bool) → is_routine_class m.class ≡ b → ShowsUnsigned k ds d (sign b s m) → ShowsUnsigned k ds d m
shows-bare k ds s d m false e h = h
shows-bare k ds s d m true e h = record {
  declared = h.declared;
  is = h.is;
  name = h.name;
  shows = record {
    shows = h.shows.shows;
    bare = λ f. absurd (true≢false (sym e ∙ f));
    plain = h.shows.plain;
  };
}

finds-bare : (k : Known) (ds : List Declared) (all : List Routine) (n : List ℕ) (x : Bound) (f : Found) → FindsAs (ShowsUnsigned k ds) (required_or_missing n) x (completed_by all n f) →
    FindsAs (ShowsUnsigned k ds) (required_or_missing n) x f
finds-bare k ds all n (bound.Here d) (rules.Here m) h = shows-bare k ds (signature_named all m.owner n) d.0 m (is_routine_class m.class) refl h
finds-bare k ds all n (bound.Here d) (rules.Later q) h = absurd h
finds-bare k ds all n (bound.Here d) f h = absurd h
finds-bare k ds all n (bound.Later c) (rules.Later q) h = h
finds-bare k ds all n (bound.Later c) (rules.Here m) h = absurd h
finds-bare k ds all n (bound.Later c) f h = absurd h
finds-bare k ds all n bound.Unbound (rules.Here m) h = absurd (true≢false (ap is_here h ∙ required-not-here n))
finds-bare k ds all n bound.Unbound f h = h

-- what names mean along some blocks
pub FindsAlong-bare : (t : Table) (k : Known) (ds : List Declared) (blocks : List ℕ) (all : List Routine) (r : Routine) → FindsAlong (ShowsUnsigned k ds) required_or_missing t blocks (outside_of all r).means →
    FindsAlong (ShowsUnsigned k ds) required_or_missing t blocks r.means
unfolding outside_of
FindsAlong-bare t k ds blocks all r along = λ n. finds-bare k ds all n (found_named t blocks n) (r.means n) (along n)

-- a place
pub IsPlace-bare : (t : Tables) (block owner : ℕ) (all : List Routine) (r : Routine) (l : Local) → IsPlace t block owner (outside_of all r) l → IsPlace t block owner (bare r.means) l
IsPlace-bare t block owner all r l h = record {
  own = h.own;
  outer = h.outer;
  chain = h.chain;
  below = h.below;
  around = FindsAlong-bare t.names (known t) t.declarations.items h.outer all r h.around;
  closed = h.closed;
  distinct = h.distinct;
  owner_is = h.owner_is;
  there = h.there;
}
