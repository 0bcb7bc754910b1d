-- The names that a routine declares with their kinds: lemmas.
use Rattle.std.proofs.Common.{◌≡◌, ℕ, Bool, true, false, if◌then◌else◌, List, [], ◌∷◌, ◌++◌, ◌⊎◌, inl, inr, map, refl, ap, ◌∙◌}
use Rattle.pc_syntax.specs.declared.kind.Kind.{Kind}
use Rattle.pc_syntax.specs.Plain.{Plain}
use Rattle.pc_syntax.specs.Words.{is_among}
use Rattle.pc_scope.specs.Declarations.{Declared}
use Rattle.pc_rules.specs.Routines.{Routine}
use Rattle.pc_decl.specs.Declared.{without_seconds, given_names, names_of}
use Rattle.pc_decl_laws.specs.Kinds.{routine_kinds}
use Rattle.pc_decl_laws.specs.OwnTypes.{IsAmong}
use Rattle.pc_decl_laws.proofs.DeclarerLemmas.{kinds-law}
use Rattle.pc_own_names.specs.OwnKinds.{first_kinds, own_kinds}

-- the names that stand before behind these
abbrev pub names_behind : List (List ℕ) → List (Declared × Kind) → List (List ℕ)
names_behind before [] = before
names_behind before (x ∷ xs) = if is_among before x.0.name then names_behind before xs else names_behind (x.0.name ∷ before) xs

-- the first of two lists, one behind the other
pub first_kinds-append : (before : List (List ℕ)) (xs ys : List (Declared × Kind)) → first_kinds before (xs ++ ys) ≡ first_kinds before xs ++ first_kinds (names_behind before xs) ys
first_kinds-append before [] ys = refl
first_kinds-append before (x ∷ xs) ys = by (is_among before x.0.name) (first_kinds-append before xs ys) (first_kinds-append (x.0.name ∷ before) xs ys) where
  by : (b : Bool) → first_kinds before (xs ++ ys) ≡ first_kinds before xs ++ first_kinds (names_behind before xs) ys →
      first_kinds (x.0.name ∷ before) (xs ++ ys) ≡ first_kinds (x.0.name ∷ before) xs ++ first_kinds (names_behind (x.0.name ∷ before) xs) ys →
      (if b then first_kinds before (xs ++ ys) else x ∷ first_kinds (x.0.name ∷ before) (xs ++ ys))
      ≡ (if b then first_kinds before xs else x ∷ first_kinds (x.0.name ∷ before) xs) ++ first_kinds (if b then names_behind before xs else names_behind (x.0.name ∷ before) xs) ys
  by true old new = old
  by false old new = ap (λ (ds : List (Declared × Kind)). x ∷ ds) new

-- without their kinds they are the first of the names
pub first_kinds-names : (before : List (List ℕ)) (xs : List (Declared × Kind)) →
    map (λ (x : Declared × Kind). x.0) (first_kinds before xs) ≡ without_seconds before (map (λ (x : Declared × Kind). x.0) xs)
first_kinds-names before [] = refl
first_kinds-names before (x ∷ xs) = by (is_among before x.0.name) (first_kinds-names before xs) (first_kinds-names (x.0.name ∷ before) xs) where
  by : (b : Bool) → map (λ (y : Declared × Kind). y.0) (first_kinds before xs) ≡ without_seconds before (map (λ (y : Declared × Kind). y.0) xs) →
      map (λ (y : Declared × Kind). y.0) (first_kinds (x.0.name ∷ before) xs) ≡ without_seconds (x.0.name ∷ before) (map (λ (y : Declared × Kind). y.0) xs) →
      map (λ (y : Declared × Kind). y.0) (if b then first_kinds before xs else x ∷ first_kinds (x.0.name ∷ before) xs)
      ≡ (if b then without_seconds before (map (λ (y : Declared × Kind). y.0) xs) else x.0 ∷ without_seconds (x.0.name ∷ before) (map (λ (y : Declared × Kind). y.0) xs))
  by true old new = old
  by false old new = ap (λ (ds : List Declared). x.0 ∷ ds) new

-- they are the names that the routine declares
pub own_kinds-names : (t : Plain) (r : Routine) → map (λ (x : Declared × Kind). x.0) (own_kinds t r) ≡ names_of t r
own_kinds-names t r = first_kinds-names (given_names r) (routine_kinds t r) ∙ ap (without_seconds (given_names r)) (kinds-law.names t r)

-- each of the first is one of all
pub first_kinds-among : (before : List (List ℕ)) (xs : List (Declared × Kind)) (x : Declared × Kind) → IsAmong (first_kinds before xs) x → IsAmong xs x
first_kinds-among before [] x h = h
first_kinds-among before (y ∷ ys) x h = by (is_among before y.0.name) (first_kinds-among before ys x) (first_kinds-among (y.0.name ∷ before) ys x) h where
  by : (b : Bool) → (IsAmong (first_kinds before ys) x → IsAmong ys x) → (IsAmong (first_kinds (y.0.name ∷ before) ys) x → IsAmong ys x) →
      IsAmong (if b then first_kinds before ys else y ∷ first_kinds (y.0.name ∷ before) ys) x → (y ≡ x) ⊎ IsAmong ys x
  by true old new m = inr (old m)
  by false old new (inl e) = inl e
  by false old new (inr m) = inr (new m)

pub own_kinds-among : (t : Plain) (r : Routine) (x : Declared × Kind) → IsAmong (own_kinds t r) x → IsAmong (routine_kinds t r) x
own_kinds-among t r x h = first_kinds-among (given_names r) (routine_kinds t r) x h
