-- What is found at index types.
use Rattle.std.specs.Prelude.{◌≡◌, ℕ, Bool, List, ◌∷◌, Option, option_map, suc}
use Rattle.std.specs.Option.{option_and_then}
use Rattle.std.proofs.Common.{refl}
use Rattle.pc_types.specs.Shapes.{Definition, Typed, ArrayType}
use Rattle.pc_rules.specs.Attributes.{Node}
use Rattle.pc_rules.specs.StructuredTypes as rule
use Rattle.pc_facts.specs.Known.{Known}
use Rattle.pc_facts.specs.Shows.{ShowsNode}
use Rattle.pc_facts.specs.declared.facts.Facts.{Facts}

-- facts are what is found at a node
abbrev pub ShowsAt : Known → Facts → Node → Type 0
ShowsAt k f n = ShowsNode k f n.at

-- the array with this definition, where its index type and the type of its elements are known
abbrev pub array_of : Definition → Bool → Option Typed → Option Typed → Option Typed
array_of d p x inner = option_and_then (λ (x : Typed). option_map (λ (inner : Typed). record { shape = ArrayType d p x.shape inner.shape; domains = inner.domains }) inner) x

pub arrays-more : (d : Definition) (i : ℕ) (p : Bool) (index : Node) (rest : List Node) (e : Typed) → rule.arrays d i p (index ∷ rest) e ≡ array_of (rule.numbered d i) p index.as_value.type (rule.arrays d (suc i) p rest e)
arrays-more d i p index rest e = refl
