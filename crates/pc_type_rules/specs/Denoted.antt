-- What stands for the type of a denoter.
use Rattle.std.specs.Prelude.{◌≡◌, ℕ, ◌<◌, Bool, List, [], Option, Some, None, option_map, length, ◌++◌}
use Rattle.std.specs.Option.{ForSome}
use Rattle.pc_types.specs.Shapes.{Typed, Keyed}
use Rattle.pc_types.specs.Table.{Table, Place, numbered}
use Rattle.pc_types.specs.declared.form.TypeId.{TypeId}
use Rattle.pc_rules.specs.Attributes.{Entry, Attributes, plain, judged}
use Rattle.pc_rules.specs.Meanings.{Meaning, Local, Found, Here, Later, Required}
use Rattle.pc_rules.specs.StructuredTypes.{too_large}
use Rattle.pc_facts.specs.Shows.{shape_of}

-- a denoter, by whether it has a hole, its entries, its type, and what it declares
abbrev pub denoter : Bool → List Entry → Option Typed → List (List ℕ × Meaning) → Attributes
denoter hole entries type ds = record plain { hole = hole; as_value = judged hole entries type; defines = ds }

-- the same for an array or a record, with row 10 where its parts are right
abbrev pub sized_denoter : Bool → List Entry → Option Typed → List (List ℕ × Meaning) → Attributes
sized_denoter hole entries type ds = denoter hole (entries ++ too_large (judged hole entries type).type) type ds

-- a number is that of this type
pub record IsNumber (t : Table) (i : Option TypeId) (ty : Option Typed) : Type 0 where
  pub shape : option_map (numbered t.shapes) i ≡ shape_of ty
  pub there : ForSome i (λ x. x.0 < length t.shapes)

-- where the domain of a pointer type is declared, by the meaning of its name
abbrev pub domain_of : Local → List ℕ → Found → Option Place
domain_of l n (Here m) = Some (record { owner = m.owner; name = n })
domain_of l n (Later c) = Some (record { owner = l.owner; name = n })
domain_of l n (Required r) = Some (record { owner = Keyed []; name = n })
domain_of l n _ = None
