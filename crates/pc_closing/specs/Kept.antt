-- When flags stay right while a table changes: it gains types and domains, and domains get types that no type with a flag leads to.
use Rattle.std.specs.Prelude.{◌≡◌, ℕ, ◌<◌, ◌≤◌, Bool, true, List, [], ◌∷◌, None, get_or, length}
use Rattle.pc_types.specs.Shapes.{Owner, Shape, NoMembers, Domain}
use Rattle.pc_types.specs.Domains.{domain_in, named_in, named_in_option}
use Rattle.pc_types.specs.Growth.{GrowsBy, AddsDomain}
use Rattle.pc_types.specs.Table.{Table}
use Rattle.pc_closing.specs.Whole.{AreWhole, AreFound}

-- each of some domains stands at a place that passes a test
abbrev pub AllAt : (Owner → List ℕ → Bool) → List Domain → Type 0
AllAt p [] = Unit {0}
AllAt p (d ∷ ds) = (p d.owner d.name ≡ true) × AllAt p ds

-- some places lead only to each other
abbrev pub LeadTogether : (Owner → List ℕ → Bool) → List Domain → Type 0
LeadTogether p ds = (o : Owner) (n : List ℕ) → p o n ≡ true → AllAt p (named_in_option ds (domain_in ds o n))

-- the first so many types lead only to some places
abbrev pub FirstLeadTo : (Owner → List ℕ → Bool) → Table → ℕ → Type 0
FirstLeadTo p table count = (i : ℕ) → i < count → AllAt p (named_in table.domains (get_or table.shapes i NoMembers))

-- two tables have the same first so many types, and the same domains at some places
pub record SameFor (p : Owner → List ℕ → Bool) (a b : Table) (count : ℕ) : Type 0 where
  pub shapes : (i : ℕ) → i < count → get_or b.shapes i NoMembers ≡ get_or a.shapes i NoMembers
  pub domains : (o : Owner) (n : List ℕ) → p o n ≡ true → domain_in a.domains o n ≡ domain_in b.domains o n

-- flags stay right where the types with flags lead only to places at which nothing changes, where a type is added, and where a domain is
-- added that has no type; so does what the table has at the place of each domain
pub record KeptLaw : Type 0 where
  pub changed : (p : Owner → List ℕ → Bool) (a b : Table) (flags : List Bool) → LeadTogether p a.domains → FirstLeadTo p a (length flags) → SameFor p a b (length flags) →
      AreWhole a flags → AreWhole b flags
  pub grown : (a b : Table) (t : Shape) (flags : List Bool) → GrowsBy a b t → length flags ≤ length a.shapes → AreWhole a flags → AreWhole b flags
  pub added : (a b : Table) (d : Domain) (flags : List Bool) → AddsDomain a b d → d.shape ≡ None → AreWhole a flags → AreWhole b flags
  pub found : (a b : Table) (t : Shape) → GrowsBy a b t → AreFound a → AreFound b
