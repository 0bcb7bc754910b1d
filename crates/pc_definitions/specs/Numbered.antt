-- The definition of the denoter behind a type's name, or behind the first name of some variables, which tells apart those with one name.
use Rattle.std.specs.Prelude.{◌≡◌, ℕ, true, List, [], ◌∷◌, ◌+◌, ◌*◌, get_or}
use Rattle.pc_syntax.specs.Plain.{Forest, Plain}
use Rattle.pc_syntax.specs.Words.{is_among}
use Rattle.pc_syntax.specs.declared.kind.Kind.{Kind}
use Rattle.pc_syntax.specs.declared.kind.Kind.TheVariants as kind
use Rattle.pc_scope.specs.Headings.{first_name, names_of_first}
use Rattle.pc_rules.specs.Meanings.{Local, Outside}
use Rattle.pc_rules.specs.Places.{times_in, first_of_names}
use Rattle.pc_environment.specs.Decorating.{place_behind}
use Rattle.pc_places.specs.declared.tables.Tables.{Tables}
use Rattle.pc_denoters.specs.FormsAt.{first_place}
use Rattle.pc_definitions.specs.declared.naming.Naming.{Naming}
use Rattle.pc_definitions.specs.declared.naming.Naming.TheVariants as naming

-- how many earlier denoters of the block bear the name, and for one without a name a number by its place: which kid it is, which part
-- of the block it stands in, and how often the name stood before, if it did
abbrev pub number_for : Naming → ℕ → ℕ → ℕ → ℕ
number_for naming.Nameless kid part before = 2 * kid + part
number_for (naming.First i) kid part before = 0
number_for naming.Second kid part before = before

-- this is which kid a definition with this name is, and how often the name stood before, if it did
pub record IsNumbered (kid before : ℕ) (n : List ℕ) (l : Local) : Type 0 where
  pub kid_is : l.kid ≡ kid
  pub before_is : is_among l.passed n ≡ true → times_in l.passed n ≡ before

-- the place of such a definition
abbrev pub AtNumber : ℕ → ℕ → List ℕ → Tables → Local → Type 0
AtNumber kid before n t l = IsNumbered kid before n l

-- the name of a definition with these kids, or the first name of variables
abbrev pub defined_name : Kind → Forest → List ℕ
defined_name kind.Vardef ks = first_of_names (names_of_first ks)
defined_name _ ks = first_name ks

-- the place of a node that is such a definition, if it is one of this kind
abbrev pub AtDefinition : Kind → ℕ → ℕ → Plain → Tables → Local → Type 0
AtDefinition k kid before node t l = node.kind ≡ k → IsNumbered kid before (defined_name k node.kids) l

-- all but the first of some numbers
abbrev pub behind_first : List ℕ → List ℕ
behind_first [] = []
behind_first (b ∷ bs) = bs

-- how often the name of each of these definitions stood before, if it did
abbrev pub AreBefore : Kind → Outside → Local → List Plain → List ℕ → Type 0
AreBefore k out l [] bs = Unit {0}
AreBefore k out l (t ∷ ts) bs =
    (t.kind ≡ k → is_among l.passed (defined_name k t.kids) ≡ true → times_in l.passed (defined_name k t.kids) ≡ get_or bs 0 0) × AreBefore k out (place_behind out l t) ts (behind_first bs)

-- the place of the first of these definitions, which is so whatever stands outside
pub record AmongBefore (k : Kind) (ts : List Plain) (bs : List ℕ) (t : Tables) (l : Local) : Type 0 where
  pub first : l.kid ≡ 1
  pub before : (out : Outside) → AreBefore k out l ts bs

-- the place of their list, which is of the first kind
abbrev pub AtBefore : Kind → Kind → List Plain → List ℕ → Tables → Local → Type 0
AtBefore j k ts bs t l = (out : Outside) → AreBefore k out (first_place l j ts) ts bs
