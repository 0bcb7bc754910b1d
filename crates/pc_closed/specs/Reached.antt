-- What is reached from a type through pointers (ISO 7185, 6.4.4): what a walk finds, and that it finds all.
use Rattle.std.specs.Prelude.{◌≡◌, ℕ, true, false, List, [], ◌∷◌, ◌+◌, ◌++◌, zero, suc}
use Rattle.pc_types.specs.Shapes.{Owner, Shape, Domain}
use Rattle.pc_types.specs.Domains.{domain_in, stands_in, named_in, named_in_option, length_of_domains, count_named, reached}

-- the places of some domains are all places of others
abbrev pub Covers : List Domain → List Domain → Type 0
Covers ds es = (o : Owner) (n : List ℕ) → stands_in es o n ≡ true → stands_in ds o n ≡ true

-- no place stands twice
abbrev pub EachOnce : List Domain → Type 0
EachOnce [] = Unit {0}
EachOnce (d ∷ ds) = (stands_in ds d.owner d.name ≡ false) × EachOnce ds

-- each is what the table says of its place
abbrev pub AllFrom : List Domain → List Domain → Type 0
AllFrom table [] = Unit {0}
AllFrom table (d ∷ ds) = (d.shape ≡ domain_in table d.owner d.name) × AllFrom table ds

-- what the shapes of some domains name stands among all domains
abbrev pub AllNamed : List Domain → List Domain → List Domain → Type 0
AllNamed table all [] = Unit {0}
AllNamed table all (d ∷ ds) = Covers all (named_in_option table d.shape) × AllNamed table all ds

-- what is still ahead of a walk when its visits are used up; the walk itself is `walk`
abbrev pub left_ahead : ℕ → List Domain → List Domain → List Domain → List Domain
left_ahead zero table met ahead = ahead
left_ahead (suc visits) table met [] = []
left_ahead (suc visits) table met (d ∷ ahead) =
    elim (stands_in met d.owner d.name) [
      | true ↦ left_ahead visits table met ahead
      | false ↦ left_ahead visits table (met ++ d ∷ []) (named_in_option table d.shape ++ ahead)
    ]

-- some domains are what is reached from a shape: each once, as the table says, those that the shape names, and with each what that names
pub record IsReached (table : List Domain) (t : Shape) (ds : List Domain) : Type 0 where
  pub once : EachOnce ds
  pub from : AllFrom table ds
  pub first : Covers ds (named_in table t)
  pub further : AllNamed table ds ds

-- the walk from a shape has visits enough, finds what is reached, and no more than any other domains that have all this
pub record ReachedLaw : Type 0 where
  pub ends : (table : List Domain) (t : Shape) → left_ahead (length_of_domains (named_in table t) + count_named table table) table [] (named_in table t) ≡ []
  pub all : (table : List Domain) (t : Shape) → IsReached table t (reached table t)
  pub least : (table : List Domain) (t : Shape) (ds : List Domain) → Covers ds (named_in table t) →
      ((o : Owner) (n : List ℕ) → stands_in ds o n ≡ true → Covers ds (named_in_option table (domain_in table o n))) → Covers ds (reached table t)
  pub same : (table : List Domain) (t : Shape) (o : Owner) (n : List ℕ) → stands_in (reached table t) o n ≡ true → domain_in (reached table t) o n ≡ domain_in table o n
