-- Which types are whole doesn't change where domains forget shapes that are not whole.
use Rattle.std.proofs.Common.{◌≡◌, ◌⊎◌, ℕ, zero, suc, Bool, true, false, ◌||◌, if◌then◌else◌, List, [], ◌∷◌, Option, Some, None, get_or, map, refl, sym, ◌∙◌, ap, subst, inl, inr}
use Rattle.std.proofs.lemmas.Bool.{true≢false}
use Rattle.std.proofs.lemmas.List.{get_or_past}
use Rattle.std.proofs.lemmas.Option.{slice_get_cases}
use Rattle.pc_types.specs.Shapes.{Owner, Shape, NoMembers, Domain}
use Rattle.pc_types.specs.Domains.{is_domain, domain_in, stands_in, is_whole}
use Rattle.pc_types.specs.Outlined.{domain_place}
use Rattle.pc_types.specs.Table.{Table, Place, place_of, nobody, nowhere, place_at, domain_at}
use Rattle.pc_types.specs.declared.form.DomainId.{DomainId}
use Rattle.pc_closed.specs.PlaceLaws.{is_domain-tells, whole-stands, domain-none}
use Rattle.pc_closing.specs.Whole.{is_whole_in, AreWhole, AreFound, IfAny, IsKnown, IsFound, LeadsOn}
use Rattle.pc_closing.specs.WholeLaws.{whole-from, whole-parts}
use Rattle.pc_closing.specs.AgreeLaws.{equal-tests}
use Rattle.pc_closing.specs.RowedLaws.{row-stands}
use Rattle.pc_closing.specs.Truth.{Forgets, if_whole, KeepsWhole}

-- ---- the domain at a place

-- the number of the first domain at a place, and what the table has there
record IsRowAt (ds : List Domain) (o : Owner) (n : List ℕ) : Type 0 where
  number : ℕ
  place : get_or (map place_of ds) number nowhere ≡ record { owner = o; name = n }
  shape : domain_in ds o n ≡ (get_or ds number (record { owner = nobody; name = []; shape = None })).shape

row-at : (ds : List Domain) (o : Owner) (n : List ℕ) → stands_in ds o n ≡ true → IsRowAt ds o n
row-at [] o n s = absurd (true≢false (sym s))
row-at (d ∷ ds) o n s = by (row-at ds o n) (is_domain o n d) refl s where
  by : (stands_in ds o n ≡ true → IsRowAt ds o n) → (b : Bool) → is_domain o n d ≡ b → (b || stands_in ds o n) ≡ true → IsRowAt (d ∷ ds) o n
  by rest true e f =
      let q = is_domain-tells o n d e in
      let owner : d.owner ≡ o = sym q.0 in
      let name : d.name ≡ n = sym q.1 in
      record { number = zero; place = λ i. record { owner = owner i; name = name i }; shape = rw e refl }
  by rest false e f = let r = rest f in record { number = suc r.number; place = r.place; shape = rw e r.shape }

-- ---- what is known in one table is known in the other

-- a shape that is known isn't both
not-both : (ds : List Domain) (x : Option Shape) → IsKnown (λ s. is_whole_in ds s ≡ true) x → IfAny (λ s. is_whole_in ds s ≡ false) x → ⊥
not-both ds None k f = k
not-both ds (Some t) k f = true≢false (sym k ∙ f)

known-is-whole : (P : Shape → Type 0) (x : Option Shape) → IsKnown P x → is_whole x ≡ true
known-is-whole P None k = absurd k
known-is-whole P (Some t) k = refl

-- the same number has the same place in both tables, and where its shapes are the same so is what both have there
same-at : (a b : Table) → Forgets a b → AreFound b → (o : Owner) (n : List ℕ) (x : DomainId) → place_at a x ≡ record { owner = o; name = n } → domain_in b.domains o n ≡ (domain_at b x).shape
same-at a b f h o n x e = ap (λ (p : Place). domain_in b.domains p.owner p.name) (sym (f.places x ∙ e)) ∙ h x

known-forth : (a b : Table) → Forgets a b → AreFound b → (o : Owner) (n : List ℕ) → IsKnown (λ s. is_whole_in a.domains s ≡ true) (domain_in a.domains o n) →
    IsKnown (λ s. is_whole_in a.domains s ≡ true) (domain_in b.domains o n)
known-forth a b f h o n k =
    let P = λ (s : Shape). is_whole_in a.domains s ≡ true in
    let r = row-at a.domains o n (whole-stands a.domains o n (known-is-whole P (domain_in a.domains o n) k)) in
    let x : DomainId = record { 0 = r.number } in
    let there : IsKnown P (domain_at a x).shape = subst (IsKnown P) r.shape k in
    elim (f.targets x) [
      | inl e ↦ subst (IsKnown P) (sym (same-at a b f h o n x r.place ∙ e)) there
      | inr e ↦ absurd (not-both a.domains (domain_at a x).shape there e.1)
    ]

known-back : (a b : Table) (P : Shape → Type 0) → Forgets a b → AreFound a → (o : Owner) (n : List ℕ) → IsKnown P (domain_in b.domains o n) → IsKnown P (domain_in a.domains o n)
known-back a b P f h o n k =
    let r = row-at b.domains o n (whole-stands b.domains o n (known-is-whole P (domain_in b.domains o n) k)) in
    let x : DomainId = record { 0 = r.number } in
    let there : IsKnown P (domain_at b x).shape = subst (IsKnown P) r.shape k in
    let here : domain_in a.domains o n ≡ (domain_at a x).shape = ap (λ (p : Place). domain_in a.domains p.owner p.name) (sym r.place ∙ f.places x) ∙ h x in
    elim (f.targets x) [
      | inl e ↦ subst (IsKnown P) (sym (here ∙ sym e)) there
      | inr e ↦ absurd (subst (IsKnown P) e.0 there)
    ]

-- a shape leads on by another table that has at each place what is known
leads-through : (P : Shape → Type 0) (a b : List Domain) → ((o : Owner) (n : List ℕ) → IsKnown P (domain_in a o n) → IsKnown P (domain_in b o n)) → (t : Shape) → LeadsOn P a t → LeadsOn P b t
leads-through P a b h t l = record { element = l.element; fields = l.fields; target = by (domain_place t) l.target } where
  by : (p : Option Place) → IsFound P a p → IsFound P b p
  by None k = k
  by (Some p) k = h p.owner p.name k

-- ---- shapes and flags

-- each shape is whole in both tables, or in neither
pub forgets-whole : (a b : Table) → Forgets a b → AreFound a → AreFound b → (t : Shape) → is_whole_in a.domains t ≡ is_whole_in b.domains t
forgets-whole a b f h g t = equal-tests (is_whole_in a.domains t) (is_whole_in b.domains t)
    (whole-from (λ s. is_whole_in a.domains s ≡ true) b.domains
    (λ s w. leads-through (λ s. is_whole_in a.domains s ≡ true) a.domains b.domains (known-forth a b f g) s (whole-parts a.domains s w)) t)
    (whole-from (λ s. is_whole_in b.domains s ≡ true) a.domains
    (λ s w. leads-through (λ s. is_whole_in b.domains s ≡ true) b.domains a.domains (known-back a b (λ s. is_whole_in b.domains s ≡ true) f h) s (whole-parts b.domains s w)) t)

pub forgets-flags : (a b : Table) (flags : List Bool) → b.shapes ≡ a.shapes → Forgets a b → AreFound a → AreFound b → AreWhole a flags → AreWhole b flags
forgets-flags a b flags e f h g w i l =
    w i l ∙ forgets-whole a b f h g (get_or a.shapes i NoMembers) ∙ ap (λ (v : List Shape). is_whole_in b.domains (get_or v i NoMembers)) (sym e)

-- ---- where all that isn't whole is forgotten

if_whole-forgets : (ds : List Domain) (x : Option Shape) → (if_whole ds x ≡ x) ⊎ ((if_whole ds x ≡ None) × IfAny (λ s. is_whole_in ds s ≡ false) x)
if_whole-forgets ds None = inl refl
if_whole-forgets ds (Some t) = by (is_whole_in ds t) refl where
  by : (b : Bool) → is_whole_in ds t ≡ b → ((if b then Some t else None) ≡ Some t) ⊎ (((if b then Some t else None) ≡ None) × (is_whole_in ds t ≡ false))
  by true e = inl refl
  by false e = inr (refl, e)

sifted-forgets : (a b : Table) → KeepsWhole a b → Forgets a b
sifted-forgets a b k = record {
  places = k.places;
  targets = λ x.
      let e = k.targets x in
      elim (if_whole-forgets a.domains (domain_at a x).shape) [
        | inl s ↦ inl (e ∙ s)
        | inr s ↦ inr (e ∙ s.0, s.1)
      ];
}

-- what the second table has at the place of a domain is what it has for the first domain there, and so what is whole of what the first table has there
sifted-found : (a b : Table) → KeepsWhole a b → AreFound a → AreFound b
sifted-found a b k h x = by (stands_in b.domains (place_at b x).owner (place_at b x).name) refl where
  by : (s : Bool) → stands_in b.domains (place_at b x).owner (place_at b x).name ≡ s → domain_in b.domains (place_at b x).owner (place_at b x).name ≡ (domain_at b x).shape
  by true s =
      let r = row-at b.domains (place_at b x).owner (place_at b x).name s in
      let y : DomainId = record { 0 = r.number } in
      let places : place_at a y ≡ place_at a x = sym (k.places y) ∙ r.place ∙ k.places x in
      let shapes : (domain_at a y).shape ≡ (domain_at a x).shape = sym (h y) ∙ ap (λ (p : Place). domain_in a.domains p.owner p.name) places ∙ h x in
      r.shape ∙ k.targets y ∙ ap (if_whole a.domains) shapes ∙ sym (k.targets x)
  by false s = elim (slice_get_cases b.domains x.0).1 [
    | inl w ↦ absurd (true≢false (sym (row-stands b.domains x.0 w.1) ∙ s))
    | inr w ↦ domain-none b.domains (place_at b x).owner (place_at b x).name s
        ∙ sym (ap (λ (d : Domain). d.shape) (get_or_past b.domains x.0 (record { owner = nobody; name = []; shape = None }) w.0))
  ]

pub sifted-both : (a b : Table) → KeepsWhole a b → AreFound a → AreFound b × Forgets a b
sifted-both a b k h = (sifted-found a b k h, sifted-forgets a b k)
