-- The roles of `Told` are those of the views of names and types: a lemma.
use Rattle.std.specs.Prelude.{◌≡◌, ℕ, List}
use Rattle.std.proofs.Common.{refl}
use Rattle.pc_syntax.specs.declared.kind.Kind.{Kind}
use Rattle.pc_syntax.specs.declared.kind.Kind.TheVariants as kind
use Rattle.pc_decl.specs.Annotated.{Annotated}
use Rattle.pc_decl.specs.Nodes.{above, kind_at}
use Rattle.pc_decl.specs.Roles.{role_below, name_found}
use Rattle.pc_told.specs.Told.{role_under}

-- the role of kid i of the node at a place
pub role_below-told : (p : Annotated) (q : List ℕ) (i : ℕ) (k : Kind) → role_below p q i k ≡ role_under k (kind_at p.tree (above q)) (name_found p (above q)) i
role_below-told p q i kind.Assign = refl
role_below-told p q i kind.Index = refl
role_below-told p q i kind.Select = refl
role_below-told p q i kind.Deref = refl
role_below-told p q i kind.Accesses = refl
role_below-told p q i kind.Args = refl
role_below-told p q i kind.Exprs = refl
role_below-told p q i k = refl
