-- The names that a routine declares are in small letters: lemmas.
use Rattle.std.proofs.Common.{ℕ, suc, Bool, true, false, if◌then◌else◌, List, [], ◌∷◌, ◌++◌, Option, None, Some, sym, subst}
use Rattle.pc_syntax.specs.declared.kind.Kind.{Kind}
use Rattle.pc_syntax.specs.declared.kind.Kind.TheVariants as kind
use Rattle.pc_syntax.specs.Plain.{Forest, Nil, Cons, Plain}
use Rattle.pc_syntax.specs.Sorts.{is_hole}
use Rattle.pc_syntax.specs.Words.{is_among, lowered}
use Rattle.pc_scope.specs.Blocks.{block_kids}
use Rattle.pc_scope.specs.Declarations.{Declared, declared_by_node, name_at, names_at, names_below}
use Rattle.pc_scope.specs.Headings.{is_routine_kind}
use Rattle.pc_scope.proofs.Firsts.{lowered-twice}
use Rattle.pc_rules.specs.Routines.{Routine}
use Rattle.pc_rule_laws.specs.Roles.{Role, DefinesConstant, DefinesType, DeclaresVariables, ListsElements, DeclaresRoutine, DeclaresParameters, role, places_by, places-role}
use Rattle.pc_decl.specs.Declared.{given_names}
use Rattle.pc_decl.specs.Nodes.{kids_at}
use Rattle.pc_decl_laws.specs.Kinds.{of_kind, kinds_at, parameter_kinds, routine_kinds}
use Rattle.pc_own_names.specs.OwnKinds.{first_kinds, own_kinds}
use Rattle.pc_block_names.specs.Small.{IsSmall, AreSmall}

-- ---- the names of a node

-- the names of declarations are in small letters
abbrev SmallNames : List Declared → Type 0
SmallNames [] = Unit {0}
SmallNames (d ∷ ds) = IsSmall d.name × SmallNames ds

small-names : (d : Option (List ℕ)) (p : List ℕ) (j : ℕ) (f : Forest) → SmallNames (names_at d p j f)
small-names d p j Nil = tt
small-names d p j (Cons k w ns ks ts) = which (small-names d p (suc j) ts) (is_hole k) where
  which : SmallNames (names_at d p (suc j) ts) → (b : Bool) →
      SmallNames (if b then names_at d p (suc j) ts else record { name = lowered w; place = p ++ j ∷ []; definition = d } ∷ names_at d p (suc j) ts)
  which rest true = rest
  which rest false = (lowered-twice w, rest)

small-one : (d : Option (List ℕ)) (p : List ℕ) (f : Forest) → SmallNames (name_at d p f)
small-one d p Nil = tt
small-one d p (Cons k w ns ks ts) = small-names d p 1 (Cons k w ns ks Nil)

small-below : (p : List ℕ) (f : Forest) → SmallNames (names_below p f)
small-below p Nil = tt
small-below p (Cons k w ns ks ts) = small-names None (p ++ 1 ∷ []) 1 ks

small-by : (r : Role) (q : List ℕ) (f : Forest) → SmallNames (places_by r q f)
small-by DefinesConstant q f = small-one (Some q) q f
small-by DefinesType q f = small-one (Some q) q f
small-by DeclaresVariables q f = small-below q f
small-by ListsElements q f = small-below q f
small-by (DeclaresRoutine c) q f = small-one None q f
small-by (DeclaresParameters c) q f = small-below q f
small-by _ q f = tt

-- ---- the names of a routine

small-append : (xs ys : List (Declared × Kind)) → AreSmall xs → AreSmall ys → AreSmall (xs ++ ys)
small-append [] ys h g = g
small-append (x ∷ xs) ys h g = (h.0, small-append xs ys h.1 g)

small-kind : (k : Kind) (ds : List Declared) → SmallNames ds → AreSmall (of_kind k ds)
small-kind k [] h = tt
small-kind k (d ∷ ds) h = (h.0, small-kind k ds h.1)

small-unless : (b : Bool) (xs : List (Declared × Kind)) → AreSmall xs → AreSmall (if b then [] else xs)
small-unless true xs h = tt
small-unless false xs h = h

small-at : (p : List ℕ) (i : ℕ) (f : Forest) → AreSmall (kinds_at p i f)
small-at p i Nil = tt
small-at p i (Cons k w ns ks ts) =
    let q : List ℕ = p ++ i ∷ [] in
    let own : List (Declared × Kind) = of_kind k (declared_by_node k q ks) in
    let inside : List (Declared × Kind) = if is_routine_kind k then [] else kinds_at q 1 ks in
    small-append (own ++ inside) (kinds_at p (suc i) ts)
    (small-append own inside (small-kind k (declared_by_node k q ks) (subst SmallNames (sym (places-role k q ks)) (small-by (role k) q ks))) (small-unless (is_routine_kind k) (kinds_at q 1 ks) (small-at q 1 ks)))
    (small-at p (suc i) ts)

small-parameters : (q : List ℕ) (f : Forest) → AreSmall (parameter_kinds q f)
small-parameters q (Cons k w ns ks (Cons kind.Params v ms js ts)) = small-at (q ++ 2 ∷ []) 1 js
small-parameters q (Cons k w ns ks (Cons (kind.Hole s) v ms js ts)) = tt
small-parameters q (Cons k w ns ks (Cons j v ms js ts)) = tt
small-parameters q (Cons k w ns ks Nil) = tt
small-parameters q Nil = tt

small-firsts : (before : List (List ℕ)) (xs : List (Declared × Kind)) → AreSmall xs → AreSmall (first_kinds before xs)
small-firsts before [] h = tt
small-firsts before (x ∷ xs) h = which (small-firsts before xs h.1) (h.0, small-firsts (x.0.name ∷ before) xs h.1) (is_among before x.0.name) where
  which : AreSmall (first_kinds before xs) → AreSmall (x ∷ first_kinds (x.0.name ∷ before) xs) → (b : Bool) →
      AreSmall (if b then first_kinds before xs else x ∷ first_kinds (x.0.name ∷ before) xs)
  which rest all true = rest
  which rest all false = all

-- the names that a routine declares in its heading and its own block are in small letters
pub own-small : (t : Plain) (r : Routine) → AreSmall (own_kinds t r)
own-small t r =
    let heading : List (Declared × Kind) = parameter_kinds r.place (kids_at t r.place) in
    let block : List (Declared × Kind) = kinds_at (r.place ++ r.block_kid ∷ []) 1 (block_kids (kids_at t r.place)) in
    small-firsts (given_names r) (routine_kinds t r)
    (small-append (if r.is_later then [] else heading) block (small-unless r.is_later heading (small-parameters r.place (kids_at t r.place)))
    (small-at (r.place ++ r.block_kid ∷ []) 1 (block_kids (kids_at t r.place))))
