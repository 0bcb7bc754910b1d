use Rattle.std.proofs.Common.{◌≡◌, ℕ, ◌+◌, ◌<◌, length, take, get_or, Some, None}
use Rattle.std.specs.Prelude.{slice_get}
use Rattle.pc_syntax.specs.Plain.{Plain, forest_of}
use Rattle.pc_scope.specs.Headings.{Heading, heading_of, headings_in}
use Rattle.pc_scope.specs.Waiting.{counting, waiting_for}
use Rattle.pc_scope.specs.WaitingIn.{waiting_in}
use Rattle.pc_scope.proofs.counting.counting.Given as goal

abbrev pub invariant-loop-i : goal.invariant-loop-i
invariant-loop-i l = record {
  count : length l.numbers.items ≡ l.i;
  each : (j : ℕ) (r : Plain) → j < l.i → slice_get l.routines j ≡ Some r → get_or l.numbers.items j 0 ≡ counting (forest_of l.routines) (j + 1) (heading_of r.kind r.kids);
  waiting : (h : Heading) → waiting_in l.waiting h ≡ waiting_for h 1 None (take l.i (headings_in (forest_of l.routines)));
}
