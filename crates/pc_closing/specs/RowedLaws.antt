-- What the types of a table name stands among its domains.
use Rattle.std.proofs.Common.{◌≡◌, ℕ, zero, suc, ◌<◌, Bool, true, false, if◌then◌else◌, List, [], ◌∷◌, Option, Some, None, get_or, length, map, option_map, sym, subst, arith, inl, inr, true≢false}
use Rattle.std.proofs.lemmas.Option.{slice_get_cases}
use Rattle.pc_types.specs.Shapes.{Owner, Definition, Shape, Domain}
use Rattle.pc_types.specs.Domains.{is_domain, domain_in, stands_in, named_in, named_in_fields, named_in_option}
use Rattle.pc_types.specs.Table.{place_of, nowhere, numbered, shape_at, definition_in, formed, fields_from, PartsThere, FieldsThere, IsThere}
use Rattle.pc_types.specs.Rows.{Kept, kept_owners, kept_shapes, seen, IsInOrder, row_domain, TargetThere, AreDomainRows}
use Rattle.pc_types.specs.declared.form.TypeId.{TypeId}
use Rattle.pc_types.specs.declared.form.Form.{Form}
use Rattle.pc_types.specs.declared.form.Form.TheVariants as form
use Rattle.pc_types.specs.declared.operand.Operand.{Operand}
use Rattle.pc_types.specs.declared.operand.Operand.TheVariants as operand
use Rattle.pc_types.specs.declared.types.DomainRow.{DomainRow}
use Rattle.pc_types.proofs.RowsLaws.{stands-row}
use Rattle.pc_types.proofs.GrowthLaws.{length-shapes}
use Rattle.pc_closed.specs.Reached.{Covers}
use Rattle.pc_closed.specs.PlaceLaws.{stands-first, stands-next, covers-both, covers-more}
use Rattle.pc_closing.specs.Whole.{IfAny}
use Rattle.pc_closing.specs.WholeLaws.{IsCovered}

-- the place of each domain stands among them
pub row-stands : (ds : List Domain) (i : ℕ) → i < length ds → stands_in ds (get_or (map place_of ds) i nowhere).owner (get_or (map place_of ds) i nowhere).name ≡ true
row-stands [] i l = absurd (omega (arith, l))
row-stands (d ∷ ds) zero l = stands-first d ds
row-stands (d ∷ ds) (suc i) l =
    stands-next d ds (get_or (map place_of ds) i nowhere).owner (get_or (map place_of ds) i nowhere).name (row-stands ds i (omega (arith, l)))

-- what names nothing is covered
nothing-covered : (ds : List Domain) → Covers ds []
nothing-covered ds o n e = absurd (true≢false (sym e))

-- ---- forms whose parts name only what stands among the domains

fields-rowed : (any ds : List Domain) (shapes : List Shape) (n : ℕ) (fs : List (List ℕ × TypeId)) → FieldsThere n fs → ((i : TypeId) → i.0 < n → IsCovered any ds (numbered shapes i)) →
    Covers ds (named_in_fields any (fields_from shapes fs))
fields-rowed any ds shapes n [] h c = nothing-covered ds
fields-rowed any ds shapes n (f ∷ fs) h c =
    covers-both ds (named_in any (numbered shapes f.1)) (named_in_fields any (fields_from shapes fs)) (c f.1 h.0) (fields-rowed any ds shapes n fs h.1 c)

form-rowed : (any ds : List Domain) (shapes : List Shape) (n : ℕ) (d : Definition) (f : Form) → PartsThere n (length ds) f → ((i : TypeId) → i.0 < n → IsCovered any ds (numbered shapes i)) →
    IsCovered any ds (formed (map place_of ds) shapes d f)
form-rowed any ds shapes n d form.Integer h c = nothing-covered ds
form-rowed any ds shapes n d form.Boolean h c = nothing-covered ds
form-rowed any ds shapes n d form.Char h c = nothing-covered ds
form-rowed any ds shapes n d form.Nil h c = nothing-covered ds
form-rowed any ds shapes n d (form.Named ns) h c = nothing-covered ds
form-rowed any ds shapes n d (form.Subrange t a b) h c = nothing-covered ds
form-rowed any ds shapes n d (form.Array p i e) h c = c e h.1
form-rowed any ds shapes n d (form.Record p fs) h c = fields-rowed any ds shapes n fs h c
form-rowed any ds shapes n d (form.Set p b) h c = nothing-covered ds
form-rowed any ds shapes n d (form.Members None) h c = nothing-covered ds
form-rowed any ds shapes n d (form.Members (Some b)) h c = nothing-covered ds
form-rowed any ds shapes n d (form.Text m) h c = nothing-covered ds
form-rowed any ds shapes n d (form.Pointer j) h c =
    let p = get_or (map place_of ds) j.0 nowhere in
    covers-more ds (record { owner = p.owner; name = p.name; shape = domain_in any p.owner p.name }) [] (row-stands ds j.0 h) (nothing-covered ds)

-- ---- types of a table

-- each type below a number, from the first on, since the parts of a type stand before it
below-rowed : (bound : ℕ) (k : Kept) (any : List Domain) (i : TypeId) → IsInOrder k → i.0 < bound → i.0 < length (seen k).shapes → IsCovered any (seen k).domains (numbered (seen k).shapes i)
below-rowed zero k any i h b l = absurd (omega (arith, b))
below-rowed (suc bound) k any i h b l = elim (slice_get_cases k.rows i.0).1 [
  | inl w ↦ let s = stands-row k i w.0 h w.2 in
      subst (IsCovered any (seen k).domains) (sym s.shape)
      (form-rowed any (seen k).domains (seen k).shapes i.0 (definition_in (seen k).owners w.0.definition) w.0.form s.parts
      (λ j m. below-rowed bound k any j h (omega (arith, b, m)) (omega (arith, l, m))))
  | inr w ↦ absurd (omega (arith, l, w.0, length-shapes k))
]

-- what a type of a table names stands among the table's domains
pub type-rowed : (k : Kept) (any : List Domain) (i : TypeId) → IsInOrder k → i.0 < length (seen k).shapes → IsCovered any (seen k).domains (numbered (seen k).shapes i)
type-rowed k any i h l = below-rowed (suc i.0) k any i h (omega arith) l

pub operand-rowed : (k : Kept) (any : List Domain) (o : Operand) → IsInOrder k → IsThere (seen k) o → IsCovered any (seen k).domains (shape_at (seen k) o)
operand-rowed k any (operand.Id i) h l = type-rowed k any i h l
operand-rowed k any (operand.Text n) h l = nothing-covered (seen k).domains
operand-rowed k any (operand.Members i) h l = nothing-covered (seen k).domains
operand-rowed k any operand.NoMembers h l = nothing-covered (seen k).domains

-- ---- types of domains

-- the shape of each domain is that of a type, so it has what each type has
target-has : (Q : Shape → Type 0) (owners : List Owner) (shapes : List Shape) (count types : ℕ) (ds : List DomainRow) → AreDomainRows count types ds → ((i : TypeId) → i.0 < types → Q (numbered shapes i)) →
    (o : Owner) (n : List ℕ) → IfAny Q (domain_in (map (row_domain owners shapes) ds) o n)
target-has Q owners shapes count types [] h q o n = tt
target-has Q owners shapes count types (d ∷ ds) h q o n = by (here d.of h.0.target) (target-has Q owners shapes count types ds h.1 q o n) (is_domain o n (row_domain owners shapes d)) where
  here : (x : Option TypeId) → TargetThere types (option_map (λ i. i.0) x) → IfAny Q (option_map (numbered shapes) x)
  here None t = tt
  here (Some i) t = q i t

  by : IfAny Q (option_map (numbered shapes) d.of) → IfAny Q (domain_in (map (row_domain owners shapes) ds) o n) → (b : Bool) →
      IfAny Q (if b then option_map (numbered shapes) d.of else domain_in (map (row_domain owners shapes) ds) o n)
  by first rest true = first
  by first rest false = rest

-- what the shape of a domain names stands among the domains
pub target-rowed : (k : Kept) (any : List Domain) → IsInOrder k → (o : Owner) (n : List ℕ) → IfAny (IsCovered any (seen k).domains) (domain_in (seen k).domains o n)
unfolding seen
target-rowed k any h o n =
    target-has (IsCovered any (seen k).domains) (kept_owners k) (kept_shapes k) (length k.owners) (length k.rows) k.domains h.domains_are
    (λ i l. type-rowed k any i h (omega (arith, l, length-shapes k))) o n

-- the same, where there may be no shape
pub option-rowed : (any ds : List Domain) (x : Option Shape) → IfAny (IsCovered any ds) x → Covers ds (named_in_option any x)
option-rowed any ds None c = nothing-covered ds
option-rowed any ds (Some t) c = c
