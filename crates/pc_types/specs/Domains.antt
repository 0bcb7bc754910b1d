-- What is reached from a type through pointers (ISO 7185, 6.4.4).
use Rattle.std.specs.Prelude.{ℕ, Bool, true, false, ◌&&◌, ◌||◌, if◌then◌else◌, List, [], ◌∷◌, Option, Some, None, ◌+◌, ◌++◌, zero, suc}
use Rattle.std.specs.Str.{bytes_eq}
use Rattle.pc_types.specs.Sameness.{same_owner}
use Rattle.pc_types.specs.Shapes.{Owner, Shape, SubrangeType, ArrayType, RecordType, PointerType, Fields, LastField, FieldOf, Domain, Typed}

abbrev pub field_in : Fields → List ℕ → Option Shape
field_in LastField n = None
field_in (FieldOf m t fs) n = if bytes_eq m n then Some t else field_in fs n

abbrev pub is_domain : Owner → List ℕ → Domain → Bool
is_domain o n d = same_owner o d.owner && bytes_eq n d.name

-- the shape of a domain in a table, if it is there and has neither an error nor a hole
abbrev pub domain_in : List Domain → Owner → List ℕ → Option Shape
domain_in [] o n = None
domain_in (d ∷ ds) o n = if is_domain o n d then d.shape else domain_in ds o n

abbrev pub stands_in : List Domain → Owner → List ℕ → Bool
stands_in [] o n = false
stands_in (d ∷ ds) o n = is_domain o n d || stands_in ds o n

-- the domains that a shape names, from left to right; what stands in the table
abbrev mutual
  pub named_in : List Domain → Shape → List Domain
  named_in table (PointerType d o n) = record { owner = o; name = n; shape = domain_in table o n } ∷ []
  named_in table (SubrangeType d h a b) = []
  named_in table (ArrayType d p i e) = named_in table e
  named_in table (RecordType d p fs) = named_in_fields table fs
  named_in table _ = []

  pub named_in_fields : List Domain → Fields → List Domain
  named_in_fields table LastField = []
  named_in_fields table (FieldOf n t fs) = named_in table t ++ named_in_fields table fs

abbrev pub named_in_option : List Domain → Option Shape → List Domain
named_in_option table None = []
named_in_option table (Some t) = named_in table t

-- the domains met so far, then those that are to be visited and what they lead to, each once, in the order of a walk from left to
-- right; the number is the most visits
abbrev pub walk : ℕ → List Domain → List Domain → List Domain → List Domain
walk zero table met ahead = met
walk (suc visits) table met [] = met
walk (suc visits) table met (d ∷ ahead) =
    elim (stands_in met d.owner d.name) [
      | true ↦ walk visits table met ahead
      | false ↦ walk visits table (met ++ d ∷ []) (named_in_option table d.shape ++ ahead)
    ]

abbrev pub length_of_domains : List Domain → ℕ
length_of_domains [] = 0
length_of_domains (d ∷ ds) = suc (length_of_domains ds)

abbrev pub count_named : List Domain → List Domain → ℕ
count_named table [] = 1
count_named table (d ∷ ds) = length_of_domains (named_in_option table d.shape) + count_named table ds

-- all domains that are reached from a shape
unfoldable pub reached : List Domain → Shape → List Domain
reached table t = walk (length_of_domains (named_in table t) + count_named table table) table [] (named_in table t)

abbrev pub is_whole : Option Shape → Bool
is_whole None = false
is_whole (Some t) = true

abbrev pub all_whole : List Domain → Bool
all_whole [] = true
all_whole (d ∷ ds) = is_whole d.shape && all_whole ds

-- the type of a shape; none where a definition that is reached from it has an error or a hole
abbrev pub closed : List Domain → Option Shape → Option Typed
closed table None = None
closed table (Some t) = if all_whole (reached table t) then Some (record { shape = t; domains = reached table t }) else None
