-- The parameters of a routine, by its second kid.
use Rattle.std.proofs.Common.{◌≡◌, ℕ, suc, ◌+◌, Bool, true, false, List, [], ◌∷◌, ◌++◌, length, refl, ap, sym, ◌∙◌, arith, get_or}
use Rattle.std.proofs.lemmas.Bool.Decides.{Decides-ltb}
use Rattle.std.proofs.lemmas.Option.{slice_get_read, slice_get_past}
use Rattle.std.specs.Prelude.{Option, Some, None, slice_get, if◌then◌else◌, ◌<◌}
use Rattle.std.specs.Option.{option_map_or}
use lib.Dec.{ltb}
use Rattle.pc_syntax.specs.declared.kind.Kind.TheVariants as kind
use Rattle.pc_syntax.specs.Plain.{Forest, Nil, Cons, Plain, trees_of, forest_of, kids_of}
use Rattle.pc_syntax.specs.Parts.{kid_at}
use Rattle.pc_syntax.specs.PartsLaws.{trees_of-forest_of}
use Rattle.pc_scope.specs.Blocks.{tree_at}
use Rattle.pc_scope.specs.Declarations.{Declared, declared_at}
use Rattle.pc_scope.specs.Entries.{is_parameters}
use Rattle.pc_scope.specs.Waiting.{parameters_of, parameters_at}

-- what a look at an index of a list says
pub found-at : {X : Type 0} (xs : List X) (i : ℕ) (x : X) → true ≡ ltb i (length xs) → x ≡ get_or xs i x → slice_get xs i ≡ Some x
found-at xs i x l is = slice_get_read xs (length xs) i x refl ((Decides-ltb i (length xs)).0 (sym l)) is

pub nothing-at : {X : Type 0} (xs : List X) (i : ℕ) → false ≡ ltb i (length xs) → slice_get xs i ≡ None
nothing-at xs i l = slice_get_past xs i (let n : ¬ (i < length xs) = λ b. cc ((Decides-ltb i (length xs)).1 b) in omega arith)

parameters-second : (q : List ℕ) (f : Forest) → parameters_of q f ≡ option_map_or (λ r. if is_parameters r.kind then declared_at (q ++ 2 ∷ []) 1 r.kids else []) (slice_get (trees_of f) 1) []
parameters-second q Nil = refl
parameters-second q (Cons k w ns ks Nil) = refl
parameters-second q (Cons k w ns ks (Cons kind.Params v ms js ts)) = refl
parameters-second q (Cons k w ns ks (Cons _ v ms js ts)) = refl

if-false : (b : Bool) (ds : List Declared) → b ≡ false → [] ≡ (if b then ds else [])
if-false true ds e = cc
if-false false ds e = refl

if-true : (b : Bool) (ds : List Declared) → b ≡ true → ds ≡ (if b then ds else [])
if-true true ds e = refl
if-true false ds e = cc

module _ (q : List ℕ) (p : Plain) where
  by-second : (o : Option Plain) → o ≡ kid_at p 2 → option_map_or (λ r. if is_parameters r.kind then declared_at (q ++ 2 ∷ []) 1 r.kids else []) o [] ≡ parameters_of q p.kids
  unfolding kids_of
  by-second o is = ap (λ x. option_map_or (λ r. if is_parameters r.kind then declared_at (q ++ 2 ∷ []) 1 r.kids else []) x []) is ∙ sym (parameters-second q p.kids)

  -- where there is no second kid, where it is no list of parameters, and where it is one
  pub no-second : None ≡ kid_at p 2 → [] ≡ parameters_of q p.kids
  no-second is = by-second None is

  pub second-other : (r : Plain) → Some r ≡ kid_at p 2 → is_parameters r.kind ≡ false → [] ≡ parameters_of q p.kids
  second-other r is e = if-false (is_parameters r.kind) (declared_at (q ++ 2 ∷ []) 1 r.kids) e ∙ by-second (Some r) is

  pub second-list : (r : Plain) → Some r ≡ kid_at p 2 → is_parameters r.kind ≡ true → declared_at (q ++ 2 ∷ []) 1 r.kids ≡ parameters_of q p.kids
  second-list r is e = if-true (is_parameters r.kind) (declared_at (q ++ 2 ∷ []) 1 r.kids) e ∙ by-second (Some r) is

-- the tree with a number, by its index
pub tree-by : (ts : List Plain) (number i : ℕ) (o : Option Plain) → number ≡ i + 1 → slice_get ts i ≡ o → tree_at number (forest_of ts) ≡ o
tree-by ts number i o e is =
    let s : number ≡ suc i = omega (arith, e) in
    ap (λ n. tree_at n (forest_of ts)) s ∙ ap (λ us. slice_get us i) (trees_of-forest_of ts) ∙ is

-- the parameters of a routine by its number, where there is one and where there is none
pub parameters-none : (p : List ℕ) (ts : List Plain) (number i : ℕ) → number ≡ i + 1 → slice_get ts i ≡ None → [] ≡ parameters_at p number (forest_of ts)
parameters-none p ts number i e is = ap (λ o. option_map_or (λ r. parameters_of (p ++ number ∷ []) r.kids) o []) (sym (tree-by ts number i None e is))

pub parameters-some : (p : List ℕ) (ts : List Plain) (number i : ℕ) (r : Plain) → number ≡ i + 1 → slice_get ts i ≡ Some r → parameters_of (p ++ number ∷ []) r.kids ≡ parameters_at p number (forest_of ts)
parameters-some p ts number i r e is = ap (λ o. option_map_or (λ r. parameters_of (p ++ number ∷ []) r.kids) o []) (sym (tree-by ts number i (Some r) e is))
