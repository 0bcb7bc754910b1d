-- From node to node the block, its function and the names that it declares stay.
use Rattle.std.proofs.Common.{◌≡◌, List, [], ◌∷◌, ℕ, refl, ◌∙◌}
use Rattle.pc_syntax.specs.declared.kind.Kind.{Kind}
use Rattle.pc_syntax.specs.declared.kind.Kind.TheVariants as kind
use Rattle.pc_syntax.specs.Plain.{Forest, Plain}
use Rattle.pc_scope.specs.Headings.{first_name, names_of_first}
use Rattle.pc_rules.specs.Attributes.{Attributes}
use Rattle.pc_rules.specs.DeclaringNames.{all_as}
use Rattle.pc_rules.specs.Meanings.{VariableName, Meaning, Local, Outside, declared_as, define, define_all}
use Rattle.pc_rules.specs.Places.{pass, pass_all, entered, inner, behind, beside}
use Rattle.pc_rules.specs.Routines.{Routine, start_of}
use Rattle.pc_environment.specs.Decorating.{attributes_at, place_behind, place_after}
use Rattle.pc_carrying.specs.Parts.{types_of}
use Rattle.pc_block_laws.specs.BodyPlace.{IsSameBlock, IsBodyPlace, BodyPlaceLaw}

pub same-block : (l : Local) → IsSameBlock l l
same-block l = record { owner = refl; self = refl; names = refl }

pub same-through : (l m p : Local) → IsSameBlock l m → IsSameBlock m p → IsSameBlock l p
same-through l m p h g = record { owner = g.owner ∙ h.owner; self = g.self ∙ h.self; names = g.names ∙ h.names }

pub define-same : (l : Local) (n : List ℕ) (m : Meaning) → IsSameBlock l (define l n m)
define-same l n m = record { owner = refl; self = refl; names = refl }

pub all-same : (l : Local) (ds : List (List ℕ × Meaning)) → IsSameBlock l (define_all l ds)
all-same l [] = same-block l
all-same l (d ∷ ds) = same-through l (define l d.0 d.1) (define_all l (d ∷ ds)) (define-same l d.0 d.1) (all-same (define l d.0 d.1) ds)

pass-same : (l : Local) (n : List ℕ) → IsSameBlock l (pass l n)
pass-same l [] = same-block l
pass-same l (c ∷ cs) = record { owner = refl; self = refl; names = refl }

pass_all-same : (l : Local) (ds : List (List ℕ × Meaning)) → IsSameBlock l (pass_all l ds)
pass_all-same l [] = same-block l
pass_all-same l (d ∷ ds) = same-through l (pass l d.0) (pass_all l (d ∷ ds)) (pass-same l d.0) (pass_all-same (pass l d.0) ds)

entered-same : (l : Local) (k : Kind) (ks : Forest) → IsSameBlock l (entered l k ks)
entered-same l kind.Constdef ks = pass-same l (first_name ks)
entered-same l kind.Typedef ks = pass-same l (first_name ks)
entered-same l kind.Vardef ks = all-same l (all_as (declared_as VariableName l.owner) (names_of_first ks))
entered-same l kind.Routines ks = record { owner = refl; self = refl; names = refl }
entered-same l (kind.Hole s) ks = same-block l
entered-same l _ ks = same-block l

pub inner-same : (l : Local) (k : Kind) (ks : Forest) → IsSameBlock l (inner l k ks)
inner-same l k ks = let h = entered-same l k ks in record { owner = h.owner; self = h.self; names = h.names }

-- where the same stands
copied : (l m p : Local) → IsSameBlock l m → p.owner ≡ m.owner → p.self ≡ m.self → p.names ≡ m.names → IsSameBlock l p
copied l m p h o s n = record { owner = o ∙ h.owner; self = s ∙ h.self; names = n ∙ h.names }

behind-same : (l : Local) (k : Kind) (a : Attributes) → IsSameBlock l (behind l k a)
behind-same l kind.Types a = copied l (define_all l a.defines) _ (all-same l a.defines) refl refl refl
behind-same l kind.Procedure a = copied l (define_all l a.defines) _ (all-same l a.defines) refl refl refl
behind-same l kind.Function a = copied l (define_all l a.defines) _ (all-same l a.defines) refl refl refl
behind-same l kind.Funbody a = copied l (define_all l a.defines) _ (all-same l a.defines) refl refl refl
behind-same l (kind.Hole s) a = record { owner = refl; self = refl; names = refl }
behind-same l kind.Valparam a = pass_all-same l a.defines
behind-same l kind.Varparam a = pass_all-same l a.defines
behind-same l kind.Params a = pass_all-same l a.defines
behind-same l _ a = all-same l a.defines

pub beside-same : (l : Local) (k : Kind) (a : Attributes) → IsSameBlock l (beside l k a)
beside-same l k a = let h = behind-same l k a in record { owner = h.owner; self = h.self; names = h.names }

pub after-same : (out : Outside) (l : Local) (ts : List Plain) → IsSameBlock l (place_after out l ts)
after-same out l [] = same-block l
after-same out l (t ∷ ts) =
    same-through l (place_behind out l t) (place_after out l (t ∷ ts)) (beside-same l t.kind (attributes_at out l t)) (after-same out (place_behind out l t) ts)

pub types-same : (out : Outside) (l : Local) (constants types : Plain) → IsSameBlock l (types_of out l constants types)
types-same out l constants types =
    let next = place_behind out l constants in
    same-through l next (types_of out l constants types) (beside-same l constants.kind (attributes_at out l constants)) (all-same next (attributes_at out next types).defines)

-- behind the four declaration parts
pub body-place : (out : Outside) (r : Routine) (constants types variables routines : Plain) →
    IsBodyPlace (start_of r) (place_after out (start_of r) (constants ∷ types ∷ variables ∷ routines ∷ []))
body-place out r constants types variables routines = record {
  using = refl;
  using_next = refl;
  opening = refl;
  fields = refl;
  kid = refl;
  same = after-same out (start_of r) (constants ∷ types ∷ variables ∷ routines ∷ []);
}

pub body-place-law : BodyPlaceLaw
body-place-law = record { kid = inner-same; next = beside-same; behind = after-same; types = types-same; body = body-place }
