-- What a place says of the names of its block: this alone decides for which block of the tables it stands.
use Rattle.std.specs.Prelude.{◌≡◌, ℕ, Bool, true, false, List, [], ◌∷◌, ◌++◌, None, if◌then◌else◌}
use Rattle.std.proofs.Common.{refl, ap, sym, ◌∙◌, subst}
use Rattle.pc_rules.specs.Attributes.{Attributes}
use Rattle.pc_rules.specs.Meanings.{Local, Outside, Meaning, define, define_all}
use Rattle.pc_places.specs.Places.{IsPlace}
use Rattle.pc_places.specs.declared.tables.Tables.{Tables}

-- the place, with all else left out
abbrev pub core : Local → Local
core l = record {
  owner = l.owner;
  self = None;
  names = l.names;
  passed = l.passed;
  known = l.known;
  fields = l.fields;
  waiting = [];
  ahead = [];
  using = false;
  using_next = false;
  opening = false;
  kid = 0;
  around = record { owner = l.owner; name = []; number = 0; inside = [] };
  packed = false;
}

to-core : (t : Tables) (block owner : ℕ) (out : Outside) (l : Local) → IsPlace t block owner out l → IsPlace t block owner out (core l)
to-core t block owner out l h = record {
  own = h.own;
  outer = h.outer;
  chain = h.chain;
  below = h.below;
  around = h.around;
  closed = h.closed;
  distinct = h.distinct;
  owner_is = h.owner_is;
  there = h.there;
}

from-core : (t : Tables) (block owner : ℕ) (out : Outside) (l : Local) → IsPlace t block owner out (core l) → IsPlace t block owner out l
from-core t block owner out l h = record {
  own = h.own;
  outer = h.outer;
  chain = h.chain;
  below = h.below;
  around = h.around;
  closed = h.closed;
  distinct = h.distinct;
  owner_is = h.owner_is;
  there = h.there;
}

-- a block that stands for a place stands for each other place that says the same of names
pub IsPlace-core : (t : Tables) (block owner : ℕ) (out : Outside) (l m : Local) → core l ≡ core m → IsPlace t block owner out l → IsPlace t block owner out m
IsPlace-core t block owner out l m e h = from-core t block owner out m (subst (λ (p : Local). IsPlace t block owner out p) e (to-core t block owner out l h))

-- ---- declarations

pub core-define_all : (l : Local) (ds : List (List ℕ × Meaning)) → core (define_all l ds) ≡ define_all (core l) ds
core-define_all l [] = refl
core-define_all l (d ∷ ds) = core-define_all (define l d.0 d.1) ds

-- declarations at places that say the same
pub core-defined : (l m : Local) (ds : List (List ℕ × Meaning)) → core l ≡ core m → core (define_all l ds) ≡ core (define_all m ds)
core-defined l m ds e = core-define_all l ds ∙ ap (λ (p : Local). define_all p ds) e ∙ sym (core-define_all m ds)

pub define_all-append : (l : Local) (ds es : List (List ℕ × Meaning)) → define_all l (ds ++ es) ≡ define_all (define_all l ds) es
define_all-append l [] es = refl
define_all-append l (d ∷ ds) es = define_all-append (define l d.0 d.1) ds es

-- no fields are opened by them
pub fields-defined : (l : Local) (ds : List (List ℕ × Meaning)) → (define_all l ds).fields ≡ l.fields
fields-defined l [] = refl
fields-defined l (d ∷ ds) = fields-defined (define l d.0 d.1) ds

either-fields : {X : Type 0} (b : Bool) (xs ys zs : List X) → xs ≡ [] → zs ≡ ys → (if b then xs ++ ys else ys) ≡ zs
either-fields true xs ys zs e f = ap (λ v. v ++ ys) e ∙ sym f
either-fields false xs ys zs e f = sym f

-- a place with the fields that a node behind another has, which opens none
pub core-fields : (l m : Local) (a : Attributes) → a.opens ≡ [] → m.fields ≡ l.fields → core (record m { fields = if l.opening then a.opens ++ l.fields else l.fields }) ≡ core m
core-fields l m a e f = ap (λ fs. record (core m) { fields = fs }) (either-fields l.opening a.opens l.fields m.fields e f)
