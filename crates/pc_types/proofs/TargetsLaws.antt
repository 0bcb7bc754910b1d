-- Domains and their types.
use Rattle.std.proofs.Common.{◌≡◌, Bor, MatchOption, ℕ, zero, suc, ◌<◌, List, [], ◌∷◌, Option, Some, None, slice_get, slice_set, get_or, length, map, option_map, refl, sym, ◌∙◌, ap, subst, arith}
use Rattle.std.proofs.lemmas.List.{get_or_past, length-map}
use Rattle.std.proofs.lemmas.Option.{get_or_from_slice_get, slice_get-map}
use Rattle.std.specs.Option.{option_copied}
use Rattle.pc_types.specs.Shapes.{Owner, Shape, Domain}
use Rattle.pc_types.specs.Table.{Place, nobody, nowhere, numbered, domain_at, place_at}
use Rattle.pc_types.specs.Rows.{kept_places, row_place, row_domain, shapes_from, AreRows, TargetThere, AreDomainRows, Kept, kept_owners, kept_shapes, seen, IsInOrder}
use Rattle.pc_types.specs.Growth.{Retargets, retargeted}
use Rattle.pc_types.specs.declared.form.TypeId.{TypeId}
use Rattle.pc_types.specs.declared.form.DomainId.{DomainId}
use Rattle.pc_types.specs.declared.types.DomainRow.{DomainRow}
use Rattle.pc_types.proofs.RowsLaws.{slice_get_none, places-domains}
use Rattle.pc_types.proofs.GrowthLaws.{length-shapes}

-- what a row of a domain says
pub domain-some : (k : Kept) (i : DomainId) (d : DomainRow) → slice_get k.domains i.0 ≡ Some d → option_map (numbered (seen k).shapes) d.of ≡ (domain_at (seen k) i).shape
unfolding seen
domain-some k i d h =
    let row = row_domain (kept_owners k) (kept_shapes k) in
    let is : slice_get (map row k.domains) i.0 ≡ Some (row d) = slice_get-map row k.domains i.0 ∙ ap (option_map row) h in
    sym (ap (λ (e : Domain). e.shape) (get_or_from_slice_get (map row k.domains) i.0 (row d) (record { owner = nobody; name = []; shape = None }) is))

pub domain-none : (k : Kept) (i : DomainId) → slice_get k.domains i.0 ≡ None → None ≡ (domain_at (seen k) i).shape
unfolding seen
domain-none k i h =
    let row = row_domain (kept_owners k) (kept_shapes k) in
    sym (ap (λ (e : Domain). e.shape) (get_or_past (map row k.domains) i.0 (record { owner = nobody; name = []; shape = None }) (omega (arith, length-map k.domains row, slice_get_none k.domains i.0 h))))

-- these rows, the one with this number with another type
abbrev pub with_target : List DomainRow → ℕ → Option TypeId → List DomainRow
with_target [] i t = []
with_target (d ∷ ds) zero t = record { owner = d.owner; name = d.name; of = t } ∷ ds
with_target (d ∷ ds) (suc i) t = d ∷ with_target ds i t

pub set-target : (ds : List DomainRow) (i : ℕ) (r : DomainRow) (t : Option TypeId) → i < length ds → r ≡ get_or ds i r → slice_set ds i (record { owner = r.owner; name = r.name; of = t }) ≡ with_target ds i t
set-target [] i r t l e = absurd (omega (arith, l))
set-target (d ∷ ds) zero r t l e = ap (λ (q : DomainRow). record { owner = q.owner; name = q.name; of = t } ∷ ds) e
set-target (d ∷ ds) (suc i) r t l e = ap (λ (rest : List DomainRow). d ∷ rest) (set-target ds i r t (omega (arith, l)) e)

places-target : (owners : List Owner) (ds : List DomainRow) (i : ℕ) (t : Option TypeId) → map (row_place owners) (with_target ds i t) ≡ map (row_place owners) ds
places-target owners [] i t = refl
places-target owners (d ∷ ds) zero t = refl
places-target owners (d ∷ ds) (suc i) t = ap (λ (rest : List Place). row_place owners d ∷ rest) (places-target owners ds i t)

domains-target : (owners : List Owner) (shapes : List Shape) (ds : List DomainRow) (i : ℕ) (t : Option TypeId) →
    map (row_domain owners shapes) (with_target ds i t) ≡ retargeted (map (row_domain owners shapes) ds) i (option_map (numbered shapes) t)
domains-target owners shapes [] i t = refl
domains-target owners shapes (d ∷ ds) zero t = refl
domains-target owners shapes (d ∷ ds) (suc i) t = ap (λ (rest : List Domain). row_domain owners shapes d ∷ rest) (domains-target owners shapes ds i t)

rows-target : (owners types : ℕ) (ds : List DomainRow) (i : ℕ) (t : Option TypeId) → AreDomainRows owners types ds → TargetThere types (option_map (λ i. i.0) t) → AreDomainRows owners types (with_target ds i t)
rows-target owners types [] i t h g = tt
rows-target owners types (d ∷ ds) zero t h g = (record { owner = h.0.owner; target = g }, h.1)
rows-target owners types (d ∷ ds) (suc i) t h g = (h.0, rows-target owners types ds i t h.1 g)

abbrev pub retarget : Kept → ℕ → Option TypeId → Kept
retarget k i t = record { rows = k.rows; owners = k.owners; domains = with_target k.domains i t }

pub in_order-target : (k : Kept) (i : ℕ) (t : Option TypeId) → IsInOrder k → TargetThere (length (seen k).shapes) (option_map (λ i. i.0) t) → IsInOrder (retarget k i t)
in_order-target k i t h g = record {
  rows_are = subst (λ (ps : List Place). AreRows (kept_owners k) ps [] k.rows) (sym (places-target (kept_owners k) k.domains i t)) h.rows_are;
  domains_are = rows-target (length k.owners) (length k.rows) k.domains i t h.domains_are (subst (λ (n : ℕ). TargetThere n (option_map (λ i. i.0) t)) (length-shapes k) g);
  begins = h.begins;
  program = h.program;
}

pub seen-target : (k : Kept) (i : ℕ) (t : Option TypeId) → Retargets (seen k) (seen (retarget k i t)) i (option_map (numbered (seen k).shapes) t)
unfolding seen
seen-target k i t =
    let same : kept_shapes (retarget k i t) ≡ kept_shapes k = ap (λ (ps : List Place). shapes_from (kept_owners k) ps [] k.rows) (places-target (kept_owners k) k.domains i t) in
    record {
      shapes = same;
      owners = refl;
      domains = ap (λ (v : List Shape). map (row_domain (kept_owners k) v) (with_target k.domains i t)) same ∙ domains-target (kept_owners k) (kept_shapes k) k.domains i t;
    }

-- the answer of a look-up
pub place-match : (k : Kept) (i : DomainId) (r : Option (Bor DomainRow)) → option_copied r ≡ slice_get k.domains i.0 →
    MatchOption r (place_at (seen k) i ≡ nowhere) (λ d. place_at (seen k) i ≡ row_place (seen k).owners d.now)
unfolding seen
place-match k i None e =
    let places = places-domains (kept_owners k) (kept_shapes k) k.domains in
    ap (λ (ps : List Place). get_or ps i.0 nowhere) places
    ∙ get_or_past (kept_places k) i.0 nowhere (omega (arith, length-map k.domains (row_place (kept_owners k)), slice_get_none k.domains i.0 (sym e)))
place-match k i (Some b) e =
    let places = places-domains (kept_owners k) (kept_shapes k) k.domains in
    let row = row_place (kept_owners k) in
    let is : slice_get (map row k.domains) i.0 ≡ Some (row b.now) = slice_get-map row k.domains i.0 ∙ ap (option_map row) (sym e) in
    ap (λ (ps : List Place). get_or ps i.0 nowhere) places ∙ get_or_from_slice_get (map row k.domains) i.0 (row b.now) nowhere is
