-- The parts of a type are there.
use Rattle.std.proofs.Common.{◌≡◌, ℕ, zero, suc, ◌<◌, Bool, true, false, if◌then◌else◌, List, [], ◌∷◌, Option, Some, None, IfSome, slice_get, length, option_map, sym, subst, arith}
use Rattle.std.specs.Str.{bytes_eq}
use Rattle.pc_types.specs.Table.{Table, PartsThere, FieldsThere, IsThere}
use Rattle.pc_types.specs.Outlines.{outline_of, outline_host, outline_base, outline_index, outline_element}
use Rattle.pc_types.specs.Outlined.{OutlineThere}
use Rattle.pc_types.specs.Rows.{form_fields, find_field, TargetThere, AreDomainRows, Kept, seen, IsInOrder}
use Rattle.pc_types.specs.declared.form.TypeId.{TypeId}
use Rattle.pc_types.specs.declared.form.Form.{Form}
use Rattle.pc_types.specs.declared.form.Form.TheVariants as form
use Rattle.pc_types.specs.declared.operand.Operand.{Operand}
use Rattle.pc_types.specs.declared.operand.Outline.{Outline}
use Rattle.pc_types.specs.declared.operand.Outline.TheVariants as outline
use Rattle.pc_types.specs.declared.types.DomainRow.{DomainRow}
use Rattle.pc_types.proofs.RowsLaws.{none_is_some, some_is}
use Rattle.pc_types.proofs.GrowthLaws.{length-shapes}

-- the parts of a form are those of its outline
pub outline-parts : (i types domains : ℕ) (f : Form) → PartsThere i domains f → i < types → OutlineThere types (outline_of f)
outline-parts i types domains form.Integer h l = tt
outline-parts i types domains form.Boolean h l = tt
outline-parts i types domains form.Char h l = tt
outline-parts i types domains form.Nil h l = tt
outline-parts i types domains (form.Named ns) h l = tt
outline-parts i types domains (form.Subrange t a b) h l = omega (arith, h, l)
outline-parts i types domains (form.Array p j e) h l = (omega (arith, h.0, l), omega (arith, h.1, l))
outline-parts i types domains (form.Record p fs) h l = tt
outline-parts i types domains (form.Set p b) h l = omega (arith, h, l)
outline-parts i types domains (form.Members None) h l = tt
outline-parts i types domains (form.Members (Some b)) h l = omega (arith, h, l)
outline-parts i types domains (form.Text n) h l = tt
outline-parts i types domains (form.Pointer d) h l = tt

pub host-there : (table : Table) (x : Operand) (o : Outline) → IsThere table x → OutlineThere (length table.shapes) o → IsThere table (outline_host x o)
host-there table x outline.Integer h t = h
host-there table x outline.Boolean h t = h
host-there table x outline.Char h t = h
host-there table x outline.Nil h t = h
host-there table x (outline.Named n) h t = h
host-there table x (outline.Subrange u a b) h t = t
host-there table x (outline.Array p i e) h t = h
host-there table x (outline.Record p) h t = h
host-there table x (outline.Set p b) h t = h
host-there table x (outline.Members b) h t = h
host-there table x outline.NoMembers h t = h
host-there table x (outline.Text n) h t = h
host-there table x (outline.Pointer d) h t = h

pub base-there : (types : ℕ) (o : Outline) → OutlineThere types o → IfSome (outline_base o) (λ (i : TypeId). i.0 < types)
base-there types outline.Integer t = tt
base-there types outline.Boolean t = tt
base-there types outline.Char t = tt
base-there types outline.Nil t = tt
base-there types (outline.Named n) t = tt
base-there types (outline.Subrange u a b) t = tt
base-there types (outline.Array p i e) t = tt
base-there types (outline.Record p) t = tt
base-there types (outline.Set p b) t = t
base-there types (outline.Members b) t = t
base-there types outline.NoMembers t = tt
base-there types (outline.Text n) t = tt
base-there types (outline.Pointer d) t = tt

pub index-there : (types : ℕ) (o : Outline) → OutlineThere types o → IfSome (outline_index o) (λ (i : TypeId). i.0 < types)
index-there types outline.Integer t = tt
index-there types outline.Boolean t = tt
index-there types outline.Char t = tt
index-there types outline.Nil t = tt
index-there types (outline.Named n) t = tt
index-there types (outline.Subrange u a b) t = tt
index-there types (outline.Array p i e) t = t.0
index-there types (outline.Record p) t = tt
index-there types (outline.Set p b) t = tt
index-there types (outline.Members b) t = tt
index-there types outline.NoMembers t = tt
index-there types (outline.Text n) t = tt
index-there types (outline.Pointer d) t = tt

pub element-there : (types : ℕ) (o : Outline) → OutlineThere types o → IfSome (outline_element o) (λ (i : TypeId). i.0 < types)
element-there types outline.Integer t = tt
element-there types outline.Boolean t = tt
element-there types outline.Char t = tt
element-there types outline.Nil t = tt
element-there types (outline.Named n) t = tt
element-there types (outline.Subrange u a b) t = tt
element-there types (outline.Array p i e) t = t.1
element-there types (outline.Record p) t = tt
element-there types (outline.Set p b) t = tt
element-there types (outline.Members b) t = tt
element-there types outline.NoMembers t = tt
element-there types (outline.Text n) t = tt
element-there types (outline.Pointer d) t = tt

fields-more : (n m : ℕ) (fs : List (List ℕ × TypeId)) → n < m → FieldsThere n fs → FieldsThere m fs
fields-more n m [] l h = tt
fields-more n m (f ∷ fs) l h = (omega (arith, l, h.0), fields-more n m fs l h.1)

-- the fields of a form are there
pub fields-there : (i types domains : ℕ) (f : Form) → PartsThere i domains f → i < types → FieldsThere types (form_fields f)
fields-there i types domains form.Integer h l = tt
fields-there i types domains form.Boolean h l = tt
fields-there i types domains form.Char h l = tt
fields-there i types domains form.Nil h l = tt
fields-there i types domains (form.Named ns) h l = tt
fields-there i types domains (form.Subrange t a b) h l = tt
fields-there i types domains (form.Array p j e) h l = tt
fields-there i types domains (form.Record p fs) h l = fields-more i types fs l h
fields-there i types domains (form.Set p b) h l = tt
fields-there i types domains (form.Members None) h l = tt
fields-there i types domains (form.Members (Some b)) h l = tt
fields-there i types domains (form.Text n) h l = tt
fields-there i types domains (form.Pointer d) h l = tt

pub find_field-there : (types : ℕ) (fs : List (List ℕ × TypeId)) (n : List ℕ) → FieldsThere types fs → IfSome (find_field fs n) (λ (i : TypeId). i.0 < types)
find_field-there types [] n h = tt
find_field-there types (f ∷ fs) n h = elim (bytes_eq f.0 n) as (λ (b : Bool). IfSome (if b then Some f.1 else find_field fs n) (λ (i : TypeId). i.0 < types)) [
  | true ↦ h.0
  | false ↦ find_field-there types fs n h.1
]

target-some : (types : ℕ) (t : Option TypeId) → TargetThere types (option_map (λ i. i.0) t) → IfSome t (λ (i : TypeId). i.0 < types)
target-some types None h = tt
target-some types (Some i) h = h

target-at : (owners types : ℕ) (ds : List DomainRow) (i : ℕ) (d : DomainRow) → AreDomainRows owners types ds → slice_get ds i ≡ Some d → IfSome d.of (λ (i : TypeId). i.0 < types)
target-at owners types [] i d h is = absurd (none_is_some is)
target-at owners types (e ∷ ds) zero d h is = subst (λ (q : DomainRow). IfSome q.of (λ (i : TypeId). i.0 < types)) (some_is is) (target-some types e.of h.0.target)
target-at owners types (e ∷ ds) (suc i) d h is = target-at owners types ds i d h.1 is

-- the type of a domain is there
pub target-there : (k : Kept) (i : ℕ) (d : DomainRow) → IsInOrder k → slice_get k.domains i ≡ Some d → IfSome d.of (λ (i : TypeId). i.0 < length (seen k).shapes)
target-there k i d h is =
    subst (λ (n : ℕ). IfSome d.of (λ (i : TypeId). i.0 < n)) (sym (length-shapes k)) (target-at (length k.owners) (length k.rows) k.domains i d h.domains_are is)
