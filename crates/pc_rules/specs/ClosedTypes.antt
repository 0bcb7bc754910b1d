-- The types of a block behind its type part: what is reached from each through pointers is then declared (ISO 7185, 6.4.4).
use Rattle.std.specs.Prelude.{ℕ, if◌then◌else◌, List, [], ◌∷◌, Option, Some, None, option_map, ◌++◌, map}
use Rattle.pc_types.specs.Domains.{closed}
use Rattle.pc_types.specs.Shapes.{Domain, Typed}
use Rattle.pc_rules.specs.Meanings.{Meaning, Local}
use Rattle.pc_rules.specs.NameClasses.{is_type_class}

-- the types among some declarations, by their names
abbrev pub own_domains : List (List ℕ × Meaning) → List Domain
own_domains [] = []
own_domains (d ∷ ds) =
    if is_type_class d.1.class then record { owner = d.1.owner; name = d.0; shape = option_map (λ (t : Typed). t.shape) d.1.type } ∷ own_domains ds else own_domains ds

-- what is reached from a type, as far as it is known
abbrev pub domains_of : Option Typed → List Domain
domains_of None = []
domains_of (Some t) = t.domains

-- what is reached from the types among some declarations, as far as it is known
abbrev pub carried : List (List ℕ × Meaning) → List Domain
carried [] = []
carried (d ∷ ds) = domains_of d.1.type ++ carried ds

-- a type's declaration with all that is reached from it; it has no type where that has an error or a hole
abbrev pub close_type : List Domain → List ℕ × Meaning → List ℕ × Meaning
close_type table d = if is_type_class d.1.class then (d.0, record d.1 { type = closed table (option_map (λ (t : Typed). t.shape) d.1.type) }) else d

-- the same of all complete declarations of a block
abbrev pub close_types : Local → Local
close_types l = record l { known = map (close_type (own_domains l.known ++ carried l.known)) l.known }
