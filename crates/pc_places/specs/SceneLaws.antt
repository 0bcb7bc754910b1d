-- What names mean by the tables: as more is known, and at a place for which they stand.
use Rattle.std.proofs.Common.{◌≡◌, ℕ, Bool, true, false, List, None, refl, sym, ◌∙◌, subst, if◌then◌else◌}
use Rattle.pc_names.specs.declared.bound.Bound.{Bound}
use Rattle.pc_names.specs.declared.bound.Bound.TheVariants as bound
use Rattle.pc_names.specs.Finding.{FindsAs, FindsAlong}
use Rattle.pc_names.specs.Table.{Table, found_named}
use Rattle.pc_rules.specs.Meanings as rules
use Rattle.pc_rules.specs.Meanings.{Meaning, Found, Outside, is_routine_class, with_signature}
use Rattle.pc_facts.specs.Known.{Known}
use Rattle.pc_facts.specs.Shows.{ShowsMeaning}
use Rattle.pc_facts.specs.declared.sighting.Declared.{Declared}
use Rattle.pc_growth.specs.Grows.{Begins, Grows}
use Rattle.pc_growth.specs.GrowsLaws.{slice_get-begins, ShowsMeaning-grows}
use Rattle.pc_places.specs.Scenes.{unsigned, Declares, ShowsUnsigned}

-- ---- declarations

-- a declaration without parameters and result
pub Declares-plain : (k : Known) (n : List ℕ) (x : Declared) (m : Meaning) → x.signature ≡ None → m.signature ≡ None → ShowsMeaning k n x m → Declares k n x m
Declares-plain k n x m e f shows = record {
  shows = record {
    class = shows.class;
    owner = shows.owner;
    owner_there = shows.owner_there;
    name = shows.name;
    value = shows.value;
    type = shows.type;
    signature = tt;
  };
  bare = λ r. f;
  plain = λ r. e;
}

pub Declares-grows : (a b : Known) (n : List ℕ) (x : Declared) (m : Meaning) → Grows a b → Declares a n x m → Declares b n x m
Declares-grows a b n x m grows h = record { shows = ShowsMeaning-grows a b n (record x { signature = None }) (unsigned m) grows h.shows; bare = h.bare; plain = h.plain }

pub ShowsUnsigned-grows : (a b : Known) (ds es : List Declared) (d : ℕ) (m : Meaning) → Grows a b → Begins ds es → ShowsUnsigned a ds d m → ShowsUnsigned b es d m
ShowsUnsigned-grows a b ds es d m grows begins h = record {
  declared = h.declared;
  is = slice_get-begins ds es d h.declared begins h.is;
  name = h.name;
  shows = Declares-grows a b h.name h.declared m grows h.shows;
}

-- what the parameters and the result of a routine are makes no difference
pub ShowsUnsigned-with_signature : (k : Known) (ds : List Declared) (out : Outside) (n : List ℕ) (d : ℕ) (m : Meaning) → ShowsUnsigned k ds d m → ShowsUnsigned k ds d (with_signature out n m)
ShowsUnsigned-with_signature k ds out n d m h = by (is_routine_class m.class) refl
  where
    by : (b : Bool) → is_routine_class m.class ≡ b → ShowsUnsigned k ds d (if b then record m { signature = out.heading n } else m)
    by false e = h
    by true e = record {
      declared = h.declared;
      is = h.is;
      name = h.name;
      shows = record {
        shows = h.shows.shows;
        bare = λ f. absurd (subst (λ (c : Bool). elim c as (λ _. Type 0) [ true ↦ Unit {0} | false ↦ ⊥ ]) (sym e ∙ f) tt);
        plain = h.shows.plain;
      };
    }

-- ---- what is found

FindsAs-more : (S T : ℕ → Meaning → Type 0) (outermost : Found) (b : Bound) (f : Found) → ((d : ℕ) (m : Meaning) → S d m → T d m) → FindsAs S outermost b f → FindsAs T outermost b f
FindsAs-more S T outermost (bound.Here d) (rules.Here m) told h = told d.0 m h
FindsAs-more S T outermost (bound.Here d) f told h = absurd h
FindsAs-more S T outermost (bound.Later c) (rules.Later k) told h = h
FindsAs-more S T outermost (bound.Later c) f told h = absurd h
FindsAs-more S T outermost bound.Unbound f told h = h

-- the same is found where more is known of the declarations
pub FindsAlong-more : (S T : ℕ → Meaning → Type 0) (outermost : List ℕ → Found) (t : Table) (blocks : List ℕ) (means : List ℕ → Found) → ((d : ℕ) (m : Meaning) → S d m → T d m) →
    FindsAlong S outermost t blocks means → FindsAlong T outermost t blocks means
FindsAlong-more S T outermost t blocks means told along = λ n. FindsAs-more S T (outermost n) (found_named t blocks n) (means n) told (along n)
