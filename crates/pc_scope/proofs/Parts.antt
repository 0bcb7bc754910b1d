-- The parts of routines and blocks, by their numbers.
use Rattle.std.proofs.Common.{◌≡◌, ℕ, ◌+◌, ◌≤◌, List, [], refl, ap, sym, ◌∙◌, arith}
use Rattle.std.specs.Prelude.{Option, Some, slice_get, if◌then◌else◌}
use Rattle.std.specs.Option.{option_map_or}
use Rattle.std.proofs.lemmas.Option.{slice_get_within, get_or_from_slice_get}
use Rattle.pc_syntax.specs.Plain.{Forest, Nil, Cons, Plain, trees_of, forest_of, kids_of}
use Rattle.pc_syntax.specs.Parts.{kid_at}
use Rattle.pc_syntax.specs.PartsLaws.{forest_of-kids_of, size_of-kid}
use Rattle.pc_syntax.specs.Sorts.{is_hole}
use Rattle.pc_syntax.specs.WellFormed.{size_in, size_of}
use Rattle.pc_syntax.specs.Words.{lowered}
use Rattle.pc_scope.specs.Blocks.{routines_among}
use Rattle.pc_scope.specs.Headings.{first_name}

routines-fourth : (f : Forest) → routines_among f ≡ option_map_or (λ r. r.kids) (slice_get (trees_of f) 3) Nil
routines-fourth Nil = refl
routines-fourth (Cons a b c d Nil) = refl
routines-fourth (Cons a b c d (Cons e f g h Nil)) = refl
routines-fourth (Cons a b c d (Cons e f g h (Cons i j k l Nil))) = refl
routines-fourth (Cons a b c d (Cons e f g h (Cons i j k l (Cons m n o rs ts)))) = refl

first-kid : (f : Forest) → first_name f ≡ option_map_or (λ r. if is_hole r.kind then [] else lowered r.word) (slice_get (trees_of f) 0) []
first-kid Nil = refl
first-kid (Cons k w ns ks ts) = refl

module _ (p : Plain) (o : Option Plain) where
  -- the routines of a block, by its fourth kid
  pub routines-by : o ≡ kid_at p 4 → routines_among p.kids ≡ option_map_or (λ r. r.kids) o Nil
  unfolding kids_of
  routines-by e = routines-fourth p.kids ∙ ap (λ x. option_map_or (λ r. r.kids) x Nil) (sym e)

  -- the name of a routine, by its first kid
  pub name-by : o ≡ kid_at p 1 → first_name p.kids ≡ option_map_or (λ r. if is_hole r.kind then [] else lowered r.word) o []
  unfolding kids_of
  name-by e = first-kid p.kids ∙ ap (λ x. option_map_or (λ r. if is_hole r.kind then [] else lowered r.word) x []) (sym e)

-- a kid is smaller
pub kid-smaller : (p k : Plain) (i : ℕ) → slice_get (kids_of p) i ≡ Some k → size_of k + 1 ≤ size_of p
kid-smaller p k i e = size_of-kid p i k (slice_get_within (kids_of p) i k e) (get_or_from_slice_get (kids_of p) i k k e)

-- what stands below a node is smaller
pub below-smaller : (p : Plain) (ks : List Plain) → ks ≡ kids_of p → size_in (forest_of ks) + 1 ≤ size_of p
below-smaller p ks e = let f : size_in (forest_of ks) ≡ size_in p.kids = ap (λ x. size_in (forest_of x)) e ∙ ap size_in (forest_of-kids_of p) in omega (arith, f)

pub none-smaller : (p : Plain) → size_in Nil + 1 ≤ size_of p
unfolding size_in
none-smaller p = omega arith
