-- When targets have at the place of each domain of a table that domain's shape.
use Rattle.std.specs.Prelude.{◌≡◌, ◌⊎◌, ℕ, zero, suc, List, [], ◌∷◌, Some, None, get_or, map, slice_get}
use Rattle.std.proofs.Common.{refl, ap, sym, ◌∙◌, inl, inr}
use Rattle.pc_types.specs.Shapes.{Domain}
use Rattle.pc_types.specs.Table.{Table, Place, place_of, domain_at, place_at, nobody}
use Rattle.pc_access_rules.specs.Pointers.{Targets, AreTold}

there-or-not : (ds : List Domain) (i : ℕ) (d : Domain) → (slice_get ds i ≡ Some (get_or ds i d)) ⊎ (get_or ds i d ≡ d)
there-or-not [] i d = inr refl
there-or-not (e ∷ ds) zero d = inl refl
there-or-not (e ∷ ds) (suc i) d = there-or-not ds i d

place-at : (ds : List Domain) (i : ℕ) (d : Domain) → get_or (map place_of ds) i (place_of d) ≡ place_of (get_or ds i d)
place-at [] i d = refl
place-at (e ∷ ds) zero d = refl
place-at (e ∷ ds) (suc i) d = place-at ds i d

-- where the targets have the shape of each domain at its place, and none at the place of no domain, they have it at each number's
pub are-told : (targets : Targets) (t : Table) → ((i : ℕ) (d : Domain) → slice_get t.domains i ≡ Some d → targets d.owner d.name ≡ d.shape) → targets nobody [] ≡ None → AreTold targets t
are-told targets t told none = λ x.
    let nothing : Domain = record { owner = nobody; name = []; shape = None } in
    let d = domain_at t x in
    let place : place_at t x ≡ place_of d = place-at t.domains x.0 nothing in
    ap (λ (p : Place). targets p.owner p.name) place
    ∙ elim (there-or-not t.domains x.0 nothing) [
      | inl at ↦ told x.0 d at
      | inr is ↦ ap (λ (e : Domain). targets e.owner e.name) is ∙ none ∙ sym (ap (λ (e : Domain). e.shape) is)
    ]
