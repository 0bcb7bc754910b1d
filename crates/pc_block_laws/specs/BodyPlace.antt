-- What is the same at all places of a block, and what stands behind its declaration parts (ISO 7185, 6.2.1).
use Rattle.std.specs.Prelude.{◌≡◌, true, false, List, [], ◌∷◌}
use Rattle.pc_syntax.specs.declared.kind.Kind.{Kind}
use Rattle.pc_syntax.specs.Plain.{Forest, Plain}
use Rattle.pc_rules.specs.Attributes.{Attributes}
use Rattle.pc_rules.specs.Meanings.{Local, Outside}
use Rattle.pc_rules.specs.Places.{inner, beside}
use Rattle.pc_rules.specs.Routines.{Routine, start_of}
use Rattle.pc_environment.specs.Decorating.{place_after}
use Rattle.pc_carrying.specs.Parts.{types_of}

-- another place of the same block: the block, its function and the names that it declares
pub record IsSameBlock (l m : Local) : Type 0 where
  pub owner : m.owner ≡ l.owner
  pub self : m.self ≡ l.self
  pub names : m.names ≡ l.names

-- the place of the statement part of a block that begins at the first place
pub record IsBodyPlace (l m : Local) : Type 0 where
  pub using : m.using ≡ true
  pub using_next : m.using_next ≡ true
  pub opening : m.opening ≡ false
  pub fields : m.fields ≡ []
  pub kid : m.kid ≡ 5
  pub same : IsSameBlock l m

-- from node to node the block stays the same; behind its four declaration parts stands the statement part
pub record BodyPlaceLaw : Type 0 where
  pub kid : (l : Local) (k : Kind) (ks : Forest) → IsSameBlock l (inner l k ks)
  pub next : (l : Local) (k : Kind) (a : Attributes) → IsSameBlock l (beside l k a)
  pub behind : (out : Outside) (l : Local) (ts : List Plain) → IsSameBlock l (place_after out l ts)
  pub types : (out : Outside) (l : Local) (constants types : Plain) → IsSameBlock l (types_of out l constants types)
  pub body : (out : Outside) (r : Routine) (constants types variables routines : Plain) →
      IsBodyPlace (start_of r) (place_after out (start_of r) (constants ∷ types ∷ variables ∷ routines ∷ []))
