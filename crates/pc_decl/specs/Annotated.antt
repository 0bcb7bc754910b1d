-- A program with what is found at each of its nodes.
use Rattle.std.specs.Prelude.{if◌then◌else◌, List, [], map}
use Rattle.pc_syntax.specs.Plain.{Plain}
use Rattle.pc_rules.specs.Meanings.{Local, Outside}
use Rattle.pc_rules.specs.Attributes.{Marked, Done, Mark}
use Rattle.pc_rules.specs.Places.{beside}
use Rattle.pc_rules.specs.Decorated.{decorate}
use Rattle.pc_rules.specs.Routines.{Routine, heading_marks, start_of}
use Rattle.pc_rules.specs.Errors.{is_program}
use Rattle.pc_rules.specs.RoutineList.{routines_of}
use Rattle.pc_rules.specs.Outsides.{outside_of}

-- a routine, what is found at the nodes of its heading and of its own block, what the block has from outside, and what is known where
-- the block ends
pub record Annotation : Type 0 where
  pub routine : Routine
  pub heading : Marked
  pub block : Marked
  pub outside : Outside
  pub ending : Local

-- what is known behind trees in a row, from where the first stands
abbrev pub behind_all : Local → Marked → Local
behind_all l Done = l
behind_all l (Mark a below rest) = behind_all (beside l a.kind a) rest

-- a routine among all of the program, with what is found in it
abbrev pub annotation_of : List Routine → Routine → Annotation
annotation_of rs r =
    let marks = decorate (outside_of rs r) (start_of r) r.block in
    record { routine = r; heading = heading_marks r; block = marks; outside = outside_of rs r; ending = behind_all (start_of r) marks }

-- a program, and its routines in the order in which they stand, itself the first
pub record Annotated : Type 0 where
  pub tree : Plain
  pub routines : List Annotation

-- the routines of a program; one that is a hole has none
abbrev pub routines_in_program : Plain → List Routine
routines_in_program t = if is_program t.kind then routines_of t else []

-- the program with what is found at its nodes
unfoldable pub annotated : Plain → Annotated
annotated t = let rs = routines_in_program t in record { tree = t; routines = map (annotation_of rs) rs }
