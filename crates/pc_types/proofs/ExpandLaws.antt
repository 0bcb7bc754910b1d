-- The types of fields are made in order.
use Rattle.std.proofs.Common.{◌≡◌, ℕ, List, [], ◌∷◌, ◌++◌, refl, sym, ◌∙◌, ap, subst, get_or, take, drop, length, ◌-◌, ◌<◌, ◌≤◌, arith, append_assoc}
use Rattle.std.proofs.lemmas.Grind.{common_steps}
use Rattle.std.proofs.lemmas.List.{append-nil}
use Rattle.pc_types.specs.Shapes.{Shape}
use Rattle.pc_types.specs.Expanded.{expanded, expanded_fields, FieldTys}
use Rattle.pc_types.specs.Expansions.{IsTy, AreTys}
use Rattle.pc_types.specs.Table.{numbered, fields_from, FieldsThere}
use Rattle.pc_types.specs.declared.form.TypeId.{TypeId}
use Rattle.pc_heads.specs.declared.ty.Ty.{Ty as Head}

-- the rest of the fields is behind those whose types are made
abbrev pub Behind : List Shape → List (List ℕ × TypeId) → List (List ℕ × Head) → FieldTys → Type 0
Behind shapes rest tys all = (more : List (List ℕ × Head)) → AreTys more (expanded_fields (fields_from shapes rest)) → AreTys (tys ++ more) all

pub tys-end : (n : ℕ) (shapes : List Shape) (rest : List (List ℕ × TypeId)) (tys : List (List ℕ × Head)) (all : FieldTys) → length rest < 1 → FieldsThere n rest × Behind shapes rest tys all → AreTys tys all
tys-end n shapes [] tys all h f = subst (λ (v : List (List ℕ × Head)). AreTys v all) (append-nil tys) (f.1 [] refl)
tys-end n shapes (x ∷ rest) tys all h f = absurd (omega (arith, h))

tail-is : (y : List ℕ × TypeId) (rest : List (List ℕ × TypeId)) → take (length (y ∷ rest) - 1) (drop 1 (y ∷ rest)) ≡ rest
tail-is y rest = grind (arith, common_steps)

pub tys-step : (n : ℕ) (shapes : List Shape) (rest : List (List ℕ × TypeId)) (x : List ℕ × TypeId) (tys tys' : List (List ℕ × Head)) (name : List ℕ) (u : Head) (all : FieldTys) → 1 ≤ length rest → x ≡ get_or rest 0 x →
    name ≡ x.0 → IsTy u (expanded (numbered shapes x.1)) → tys' ≡ tys ++ (name, u) ∷ [] → FieldsThere n rest × Behind shapes rest tys all →
    FieldsThere n (take (length rest - 1) (drop 1 rest)) × Behind shapes (take (length rest - 1) (drop 1 rest)) tys' all
tys-step n shapes [] x tys tys' name u all h is named t e f = absurd (omega (arith, h))
tys-step n shapes (y ∷ rest) x tys tys' name u all h is named t e f =
    let same : name ≡ y.0 = named ∙ ap (λ (q : List ℕ × TypeId). q.0) is in
    let ty : IsTy u (expanded (numbered shapes y.1)) = subst (λ (q : List ℕ × TypeId). IsTy u (expanded (numbered shapes q.1))) is t in
    subst (λ (v : List (List ℕ × TypeId)). FieldsThere n v × Behind shapes v tys' all) (sym (tail-is y rest)) (
      f.0.1,
      λ more m. subst (λ (v : List (List ℕ × Head)). AreTys (v ++ more) all) (sym e)
          (subst (λ (v : List (List ℕ × Head)). AreTys v all) (sym (append_assoc tys ((name, u) ∷ []) more))
          (f.1 ((name, u) ∷ more) (u, more, ap (λ (q : List ℕ). (q, u) ∷ more) same, ty, m))),
    )
