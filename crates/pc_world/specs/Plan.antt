-- Which calls of an object in memory fail.
use Rattle.std.specs.Prelude.{◌≡◌, ℕ, ◌+◌, ◌-◌, ◌^◌, ◌↔◌, min, List, Contains}
use Rattle.pc_world.specs.declared.failures.Failures.{Failures}

-- The numbers of the calls that fail, counted from 1, and how many calls were made.
pub record Plan : Type 0 where
  pub fails : List ℕ
  pub calls : ℕ

-- The plan before the first call.
abbrev pub first_plan : List ℕ → Plan
first_plan fails = record { fails = fails; calls = 0 }

-- The plan that a value in the code keeps.
abbrev pub plan_of : Failures → Plan
plan_of failures = record { fails = failures.numbers.items; calls = failures.calls }

-- The number of the call after so many calls: one more, and at most the last number of 64 bits.
abbrev pub next_number : ℕ → ℕ
next_number calls = min (calls + 1) (2 ^ 64 - 1)

-- One call more was made, and it failed exactly where its number is one of those that fail.
pub record IsNextCall (old new : Plan) (Fails : Type 0) : Type 0 where
  pub same : new.fails ≡ old.fails
  pub counted : new.calls ≡ next_number old.calls
  pub exact : Fails ↔ Contains new.fails new.calls
