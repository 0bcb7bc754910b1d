-- What code keeps of the forward routines that wait, and of the headings that count.
use Rattle.std.specs.Prelude.{◌≡◌, ℕ, ◌+◌, if◌then◌else◌, List, length, Option, slice_get, slice_index, Some}
use Rattle.std.specs.HashMap.{get_by}
use Rattle.std.specs.Str.{bytes_eq}
use Rattle.pc_syntax.specs.Plain.{Plain, forest_of}
use Rattle.pc_scope.specs.Headings.{Heading, heading_of}
use Rattle.pc_scope.specs.Waiting.{counting}
use Rattle.pc_scope.specs.declared.waiting.Waiting.{Waiting}

-- the number of the forward routine that waits for a heading
abbrev pub waiting_in : Waiting → Heading → Option ℕ
waiting_in w h = if h.is_function then get_by (λ k. bytes_eq h.name k.items) w.functions else get_by (λ k. bytes_eq h.name k.items) w.procedures

-- for each of some routines, the number of that whose heading counts
pub record Counts (routines : List Plain) (numbers : List ℕ) : Type 0 where
  pub count : length numbers ≡ length routines
  pub each : (i : ℕ) (r : Plain) → slice_get routines i ≡ Some r → slice_index numbers i ≡ counting (forest_of routines) (i + 1) (heading_of r.kind r.kids)
