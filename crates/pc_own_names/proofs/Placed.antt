-- What a routine declares, without the places: what the way through its tree finds.
use Rattle.std.proofs.Common.{◌≡◌, ℕ, suc, Bool, true, false, if◌then◌else◌, List, [], ◌∷◌, ◌++◌, map, Option, Some, None, refl, ap, ◌∙◌}
use Rattle.std.proofs.lemmas.List.{map-append}
use Rattle.pc_syntax.specs.declared.kind.Kind.{Kind}
use Rattle.pc_syntax.specs.Plain.{Forest, Nil, Cons, Plain}
use Rattle.pc_syntax.specs.Sorts.{is_hole}
use Rattle.pc_syntax.specs.Words.{lowered}
use Rattle.pc_scope.specs.Blocks.{block_kids}
use Rattle.pc_scope.specs.Declarations.{Declared, names_at, name_at, names_below, declared_by_node}
use Rattle.pc_scope.specs.Headings.{is_routine_kind, names_of, names_of_first}
use Rattle.pc_rules.specs.Routines.{Routine}
use Rattle.pc_decl.specs.Nodes.{kids_at}
use Rattle.pc_decl_laws.specs.Kinds.{of_kind, kinds_at, parameter_kinds, routine_kinds}
use Rattle.pc_own_names.specs.Walking.{first_listed, own_names, all_of_kind, in_trees, in_heading}
use Rattle.pc_syntax.specs.declared.kind.Kind.TheVariants as kind

-- a declaration without its place
abbrev pub unplaced : Declared × Kind → List ℕ × Kind
unplaced d = (d.0.name, d.1)

-- the names of a list
unplaced-names : (k : Kind) (d : Option (List ℕ)) (p : List ℕ) (j : ℕ) (f : Forest) → map unplaced (of_kind k (names_at d p j f)) ≡ all_of_kind k (names_of f)
unplaced-names k d p j Nil = refl
unplaced-names k d p j (Cons h w ns ks ts) = by (is_hole h) (unplaced-names k d p (suc j) ts) where
  by : (b : Bool) → map unplaced (of_kind k (names_at d p (suc j) ts)) ≡ all_of_kind k (names_of ts) →
      map unplaced (of_kind k (if b then names_at d p (suc j) ts else record { name = lowered w; place = p ++ j ∷ []; definition = d } ∷ names_at d p (suc j) ts))
      ≡ all_of_kind k (if b then names_of ts else lowered w ∷ names_of ts)
  by true rest = rest
  by false rest = ap (λ (es : List (List ℕ × Kind)). (lowered w, k) ∷ es) rest

-- of the list that stands first
unplaced-below : (k : Kind) (p : List ℕ) (f : Forest) → map unplaced (of_kind k (names_below p f)) ≡ all_of_kind k (names_of_first f)
unplaced-below k p Nil = refl
unplaced-below k p (Cons h w ns ks ts) = unplaced-names k None (p ++ 1 ∷ []) 1 ks

-- of the first node
unplaced-first : (k : Kind) (d : Option (List ℕ)) (p : List ℕ) (f : Forest) → map unplaced (of_kind k (name_at d p f)) ≡ all_of_kind k (first_listed f)
unplaced-first k d p Nil = refl
unplaced-first k d p (Cons h w ns ks ts) = by (is_hole h) where
  by : (b : Bool) → map unplaced (of_kind k (if b then [] else record { name = lowered w; place = p ++ 1 ∷ []; definition = d } ∷ [])) ≡ all_of_kind k (if b then [] else lowered w ∷ [])
  by true = refl
  by false = refl

-- what a node declares by its own names
unplaced-own : (k : Kind) (p : List ℕ) (f : Forest) → map unplaced (of_kind k (declared_by_node k p f)) ≡ all_of_kind k (own_names k f)
unplaced-own kind.Constdef p f = unplaced-first kind.Constdef (Some p) p f
unplaced-own kind.Typedef p f = unplaced-first kind.Typedef (Some p) p f
unplaced-own kind.Vardef p f = unplaced-below kind.Vardef p f
unplaced-own kind.Enum p f = unplaced-below kind.Enum p f
unplaced-own kind.Valparam p f = unplaced-below kind.Valparam p f
unplaced-own kind.Varparam p f = unplaced-below kind.Varparam p f
unplaced-own kind.Procedure p f = unplaced-first kind.Procedure None p f
unplaced-own kind.Function p f = unplaced-first kind.Function None p f
unplaced-own kind.Funbody p f = unplaced-first kind.Funbody None p f
unplaced-own k p f = refl

either : (b : Bool) (xs : List (Declared × Kind)) (es : List (List ℕ × Kind)) → map unplaced xs ≡ es → map unplaced (if b then [] else xs) ≡ (if b then [] else es)
either true xs es e = refl
either false xs es e = e

-- what trees declare
unplaced-trees : (p : List ℕ) (i : ℕ) (f : Forest) → map unplaced (kinds_at p i f) ≡ in_trees f
unplaced-trees p i Nil = refl
unplaced-trees p i (Cons k w ns ks ts) =
    let own : List (Declared × Kind) = of_kind k (declared_by_node k (p ++ i ∷ []) ks) in
    let below : List (Declared × Kind) = if is_routine_kind k then [] else kinds_at (p ++ i ∷ []) 1 ks in
    map-append unplaced (own ++ below) (kinds_at p (suc i) ts)
    ∙ ap (λ (es : List (List ℕ × Kind)). es ++ map unplaced (kinds_at p (suc i) ts)) (map-append unplaced own below)
    ∙ (λ z. unplaced-own k (p ++ i ∷ []) ks z ++ either (is_routine_kind k) (kinds_at (p ++ i ∷ []) 1 ks) (in_trees ks) (unplaced-trees (p ++ i ∷ []) 1 ks) z ++ unplaced-trees p (suc i) ts z)

-- what the heading of a routine declares
unplaced-heading : (q : List ℕ) (f : Forest) → map unplaced (parameter_kinds q f) ≡ in_heading f
unplaced-heading q (Cons k w ns ks (Cons kind.Params v ms js ts)) = unplaced-trees (q ++ 2 ∷ []) 1 js
unplaced-heading q f = refl

-- and all that a routine declares
pub unplaced-routine : (t : Plain) (r : Routine) (ks : Forest) (later : Bool) → kids_at t r.place ≡ ks → r.is_later ≡ later →
    map unplaced (routine_kinds t r) ≡ (if later then [] else in_heading ks) ++ in_trees (block_kids ks)
unplaced-routine t r ks later here is =
    map-append unplaced (if r.is_later then [] else parameter_kinds r.place (kids_at t r.place)) (kinds_at (r.place ++ r.block_kid ∷ []) 1 (block_kids (kids_at t r.place)))
    ∙ (λ z. heading z ++ unplaced-trees (r.place ++ r.block_kid ∷ []) 1 (block_kids (kids_at t r.place)) z)
    ∙ (λ z. (if is z then [] else in_heading (here z)) ++ in_trees (block_kids (here z))) where
      heading : map unplaced (if r.is_later then [] else parameter_kinds r.place (kids_at t r.place)) ≡ (if r.is_later then [] else in_heading (kids_at t r.place))
      heading = either r.is_later (parameter_kinds r.place (kids_at t r.place)) (in_heading (kids_at t r.place)) (unplaced-heading r.place (kids_at t r.place))
