-- The types of expressions: lemmas.
use Rattle.std.specs.Prelude.{◌≡◌, ℕ, Bool, List, [], ◌++◌, Option}
use Rattle.std.proofs.Common.{sym, subst, ap, ◌∙◌, Some}
use Rattle.pc_types.specs.Shapes.{Shape, Typed}
use Rattle.pc_types.specs.Table.{Table, shape_at, IsThere}
use Rattle.pc_types.specs.declared.operand.Operand.{Operand}
use Rattle.pc_rules.specs.Attributes.{Entry}
use Rattle.pc_rules.specs.Denoters.{some_typed}
use Rattle.pc_rules.specs.Entries.{note_if}
use Rattle.pc_facts.specs.Shows.{ShowsType}

-- the same type in the same table
pub moved : (t u : Table) (o p : Option Operand) (ty : Option Typed) → t ≡ u → o ≡ p → ShowsType t o ty → ShowsType u p ty
moved t u o p ty e f shown = subst (λ v. ShowsType v p ty) e (subst (λ q. ShowsType t q ty) f shown)

some-same : (o p : Operand) → Some o ≡ Some p → o ≡ p
some-same o p e = cc

-- a type that is known
pub known : (t u : Table) (o : Operand) (s : Shape) → u ≡ t → shape_at t o ≡ s → IsThere t o → ShowsType u (Some o) (some_typed s)
known t u o s e shape there =
    record {
      shape = ap (λ v. Some (shape_at v o)) e ∙ ap (λ x. Some x) shape;
      there = λ p same. subst (IsThere u) (some-same o p same) (subst (λ v. IsThere v o) (sym e) there);
    }

-- one entry, where a condition holds, and no other
pub noted : (row : ℕ) (text : List ℕ) (old one : List Entry) (b d : Bool) → old ≡ [] → one ≡ old ++ note_if b row text → b ≡ d → one ≡ note_if d row text
noted row text old one b d none more same = more ∙ ap (λ es. es ++ note_if b row text) none ∙ ap (λ x. note_if x row text) same
