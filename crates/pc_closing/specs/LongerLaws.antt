-- Tables that have more types and domains at the end: how they come about.
use Rattle.std.proofs.Common.{◌≡◌, ℕ, zero, suc, ◌<◌, ◌≤◌, List, [], ◌∷◌, ◌++◌, Option, None, get_or, length, map, refl, sym, ◌∙◌, ap, arith, append-nil, append_assoc}
use Rattle.pc_types.specs.Shapes.{Owner, Shape, Domain}
use Rattle.pc_types.specs.Table.{Table, Place, place_of, nobody, nowhere, place_at, domain_at}
use Rattle.pc_types.specs.Growth.{GrowsBy, AddsOwner, AddsDomain, retargeted, Retargets}
use Rattle.pc_types.specs.declared.form.DomainId.{DomainId}
use Rattle.pc_closing.specs.Truth.{IsLonger}

-- ---- how a table grows

pub longer-self : (a : Table) → IsLonger a a
longer-self a = record {
  more_shapes = [];
  more_owners = [];
  more_domains = [];
  shapes = sym (append-nil a.shapes);
  owners = sym (append-nil a.owners);
  domains = sym (append-nil a.domains);
}

pub longer-then : (a b c : Table) → IsLonger a b → IsLonger b c → IsLonger a c
longer-then a b c g h = record {
  more_shapes = g.more_shapes ++ h.more_shapes;
  more_owners = g.more_owners ++ h.more_owners;
  more_domains = g.more_domains ++ h.more_domains;
  shapes = h.shapes ∙ ap (λ (v : List Shape). v ++ h.more_shapes) g.shapes ∙ append_assoc a.shapes g.more_shapes h.more_shapes;
  owners = h.owners ∙ ap (λ (v : List Owner). v ++ h.more_owners) g.owners ∙ append_assoc a.owners g.more_owners h.more_owners;
  domains = h.domains ∙ ap (λ (v : List Domain). v ++ h.more_domains) g.domains ∙ append_assoc a.domains g.more_domains h.more_domains;
}

pub longer-type : (a b : Table) (t : Shape) → GrowsBy a b t → IsLonger a b
longer-type a b t g = record {
  more_shapes = t ∷ [];
  more_owners = [];
  more_domains = [];
  shapes = g.shapes;
  owners = g.owners ∙ sym (append-nil a.owners);
  domains = g.domains ∙ sym (append-nil a.domains);
}

pub longer-owner : (a b : Table) (o : Owner) → AddsOwner a b o → IsLonger a b
longer-owner a b o g = record {
  more_shapes = [];
  more_owners = o ∷ [];
  more_domains = [];
  shapes = g.shapes ∙ sym (append-nil a.shapes);
  owners = g.owners;
  domains = g.domains ∙ sym (append-nil a.domains);
}

pub longer-domain : (a b : Table) (d : Domain) → AddsDomain a b d → IsLonger a b
longer-domain a b d g = record {
  more_shapes = [];
  more_owners = [];
  more_domains = d ∷ [];
  shapes = g.shapes ∙ sym (append-nil a.shapes);
  owners = g.owners ∙ sym (append-nil a.owners);
  domains = g.domains;
}

-- ---- a domain that gets another shape

-- behind the first ones it leaves these as they are
retargeted-behind : (ds more : List Domain) (i : ℕ) (t : Option Shape) → length ds ≤ i → (rest : List Domain) × (retargeted (ds ++ more) i t ≡ ds ++ rest)
retargeted-behind [] more i t l = (retargeted more i t, refl)
retargeted-behind (d ∷ ds) more zero t l = absurd (omega (arith, l))
retargeted-behind (d ∷ ds) more (suc i) t l =
    let r = retargeted-behind ds more i t (omega (arith, l)) in
    (r.0, ap (λ (v : List Domain). d ∷ v) r.1)

pub longer-target : (a b c : Table) (i : ℕ) (t : Option Shape) → IsLonger a b → length a.domains ≤ i → Retargets b c i t → IsLonger a c
longer-target a b c i t g l r =
    let rest = retargeted-behind a.domains g.more_domains i t l in
    record {
      more_shapes = g.more_shapes;
      more_owners = g.more_owners;
      more_domains = rest.0;
      shapes = r.shapes ∙ g.shapes;
      owners = r.owners ∙ g.owners;
      domains = r.domains ∙ ap (λ (v : List Domain). retargeted v i t) g.domains ∙ rest.1;
    }

retargeted-places : (ds : List Domain) (i : ℕ) (t : Option Shape) → map place_of (retargeted ds i t) ≡ map place_of ds
retargeted-places [] i t = refl
retargeted-places (d ∷ ds) zero t = refl
retargeted-places (d ∷ ds) (suc i) t = ap (λ (v : List Place). place_of d ∷ v) (retargeted-places ds i t)

retargeted-here : (ds : List Domain) (i : ℕ) (t : Option Shape) → i < length ds → (get_or (retargeted ds i t) i (record { owner = nobody; name = []; shape = None })).shape ≡ t
retargeted-here [] i t l = absurd (omega (arith, l))
retargeted-here (d ∷ ds) zero t l = refl
retargeted-here (d ∷ ds) (suc i) t l = retargeted-here ds i t (omega (arith, l))

retargeted-elsewhere : (ds : List Domain) (i j : ℕ) (t : Option Shape) (e : Domain) → (j ≡ i → ⊥) → get_or (retargeted ds i t) j e ≡ get_or ds j e
retargeted-elsewhere [] i j t e n = refl
retargeted-elsewhere (d ∷ ds) zero zero t e n = absurd (n refl)
retargeted-elsewhere (d ∷ ds) zero (suc j) t e n = refl
retargeted-elsewhere (d ∷ ds) (suc i) zero t e n = refl
retargeted-elsewhere (d ∷ ds) (suc i) (suc j) t e n = retargeted-elsewhere ds i j t e (λ q. n (ap suc q))

-- each domain stays at its place; this one has its new shape, and the others are as they were
pub target-place : (a b : Table) (i : ℕ) (t : Option Shape) → Retargets a b i t → (x : DomainId) → place_at b x ≡ place_at a x
target-place a b i t r x = ap (λ (ds : List Domain). get_or (map place_of ds) x.0 nowhere) r.domains ∙ ap (λ (ps : List Place). get_or ps x.0 nowhere) (retargeted-places a.domains i t)

pub target-here : (a b : Table) (t : Option Shape) (x : DomainId) → Retargets a b x.0 t → x.0 < length a.domains → (domain_at b x).shape ≡ t
target-here a b t x r l = ap (λ (ds : List Domain). (get_or ds x.0 (record { owner = nobody; name = []; shape = None })).shape) r.domains ∙ retargeted-here a.domains x.0 t l

pub target-elsewhere : (a b : Table) (i : ℕ) (t : Option Shape) → Retargets a b i t → (x : DomainId) → (x.0 ≡ i → ⊥) → domain_at b x ≡ domain_at a x
target-elsewhere a b i t r x n =
    ap (λ (ds : List Domain). get_or ds x.0 (record { owner = nobody; name = []; shape = None })) r.domains
    ∙ retargeted-elsewhere a.domains i x.0 t (record { owner = nobody; name = []; shape = None }) n
