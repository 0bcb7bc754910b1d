-- What making a node answers.
use Rattle.std.specs.Prelude.{◌≡◌, ◌-◌, ◌^◌, ◌<◌, ◌≤◌, min, Result, Ok, Err}
use Rattle.pc_syntax.specs.declared.error.EditError.{EditError}
use Rattle.pc_syntax.specs.declared.error.EditError.TheVariants.{NoPlace, NotFit, TooDeep, TooLarge, NoMemory}
use Rattle.pc_syntax.specs.Plain.{Plain}
use Rattle.pc_syntax.specs.WellFormed.{size_of, depth_of, depth_limit, size_limit, IsWellFormed, IsProper}

-- why a tree was not made: the first rule that it breaks, or want of memory where it breaks none
abbrev pub Refuses : Plain → EditError → Type 0
Refuses p NoPlace = ⊥
Refuses p NotFit = ¬ IsWellFormed p
Refuses p (TooDeep d) = IsWellFormed p × (depth_limit < depth_of p) × (d ≡ min (depth_of p) (2 ^ 32 - 1))
Refuses p (TooLarge n) = IsWellFormed p × (depth_of p ≤ depth_limit) × (size_limit < size_of p) × (n ≡ min (size_of p) (2 ^ 64 - 1))
Refuses p NoMemory = IsProper p

-- the tree, which is proper, or why it was not made
abbrev pub Answers : Plain → Result Plain EditError → Type 0
Answers p (Ok t) = IsProper p × (t ≡ p)
Answers p (Err e) = Refuses p e

-- the same for the test that comes before
abbrev pub Admits : Plain → Result (Unit {0}) EditError → Type 0
Admits p (Ok u) = IsProper p
Admits p (Err e) = Refuses p e
