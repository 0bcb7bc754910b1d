-- What the calls that note a new type say together.
use Rattle.std.proofs.Common.{◌≡◌, ℕ, ◌+◌, ◌<◌, Bool, List, Option, Some, None, IfSome, option_map, get_or, length, sym, ◌∙◌, ap, subst}
use Rattle.pc_types.specs.Shapes.{Shape, NoMembers}
use Rattle.pc_types.specs.TypeClasses.{fields_of}
use Rattle.pc_types.specs.Outlined.{element_of}
use Rattle.pc_types.specs.Table.{Table, numbered, fields_from, FieldsThere}
use Rattle.pc_types.specs.declared.form.TypeId.{TypeId}
use Rattle.pc_closing.specs.Whole.{AreWhole}
use Rattle.pc_closing.specs.Search.{Marks, marks_if, users_if, marks_all, users_all, marks_to, users_to}
use Rattle.pc_closing.specs.NoteLaws.{AreParts, noted}
use Rattle.pc_closing.specs.Searched.{PartThere, TargetThere, IsTarget, IsNoted}

pub part-there : (types : ℕ) (part : Option TypeId) → IfSome part (λ id. id.0 < types) → PartThere types part
part-there types None h = tt
part-there types (Some id) h = h

-- the parts of the type with a number, as those of a new type
parts-at : (flags : List Bool) (table : Table) (i of : ℕ) (part : Option TypeId) (fields : List (List ℕ × TypeId)) (to : Option (Option TypeId)) → of ≡ length flags + i →
    option_map (numbered table.shapes) part ≡ element_of (get_or table.shapes of NoMembers) → fields_from table.shapes fields ≡ fields_of (get_or table.shapes of NoMembers) →
    IsTarget table (get_or table.shapes of NoMembers) to → PartThere (length table.shapes) part → FieldsThere (length table.shapes) fields → TargetThere (length table.shapes) to →
    AreParts flags table i (length table.shapes) part fields to
parts-at flags table i of part fields to e a b c x y z =
    let same = ap (λ (n : ℕ). get_or table.shapes n NoMembers) e in
    record {
      element = a ∙ ap element_of same;
      fields = b ∙ ap fields_of same;
      target = subst (λ (s : Shape). IsTarget table s to) same c;
      element_there = x;
      fields_there = y;
      target_there = z;
    }

pub noted-by : (flags : List Bool) (table : Table) (i of : ℕ) (part : Option TypeId) (fields : List (List ℕ × TypeId)) (to : Option (Option TypeId)) (us u1 u2 u3 : List (List ℕ)) (m m1 m2 m3 : Marks) →
    AreWhole table flags → length flags + length us ≡ length table.shapes → of ≡ length flags + i → option_map (numbered table.shapes) part ≡ element_of (get_or table.shapes of NoMembers) →
    fields_from table.shapes fields ≡ fields_of (get_or table.shapes of NoMembers) → IsTarget table (get_or table.shapes of NoMembers) to → PartThere (length table.shapes) part →
    FieldsThere (length table.shapes) fields → TargetThere (length table.shapes) to → u1 ≡ users_if flags part i us → m1 ≡ marks_if flags part i m → u2 ≡ users_all flags fields i u1 →
    m2 ≡ marks_all flags fields i m1 → u3 ≡ users_to flags to i u2 → m3 ≡ marks_to flags to i m2 → IsNoted flags table i us u3 m m3
noted-by flags table i of part fields to us u1 u2 u3 m m1 m2 m3 right count e a b c x y z ue me uf mf ut mt =
    let parts = parts-at flags table i of part fields to e a b c x y z in
    let there = subst (λ (n : ℕ). AreParts flags table i n part fields to) (sym count) parts in
    let users : u3 ≡ users_to flags to i (users_all flags fields i (users_if flags part i us)) = ut ∙ ap (users_to flags to i) (uf ∙ ap (users_all flags fields i) ue) in
    let marks : m3 ≡ marks_to flags to i (marks_all flags fields i (marks_if flags part i m)) = mt ∙ ap (marks_to flags to i) (mf ∙ ap (marks_all flags fields i) me) in
    subst (λ (v : List (List ℕ)). IsNoted flags table i us v m m3) (sym users)
    (subst (λ (n : Marks). IsNoted flags table i us (users_to flags to i (users_all flags fields i (users_if flags part i us))) m n) (sym marks) (noted flags table i us m part fields to right there))
