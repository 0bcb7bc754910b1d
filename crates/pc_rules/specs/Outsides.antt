-- What the own block of a routine has from outside (ISO 7185, 6.2.2, 6.8.3.9).
use Rattle.std.specs.Prelude.{ℕ, Bool, false, not, ◌&&◌, ◌||◌, if◌then◌else◌, List, [], ◌∷◌, Option, None}
use Rattle.std.specs.Str.{bytes_eq}
use Rattle.pc_types.specs.Sameness.{same_owner}
use Rattle.pc_types.specs.Shapes.{Owner}
use Rattle.pc_rules.specs.Attributes.{nodes}
use Rattle.pc_rules.specs.Decorated.{decorate}
use Rattle.pc_rules.specs.ForStatements.{stands_among}
use Rattle.pc_rules.specs.HandedOn.{all_touches}
use Rattle.pc_rules.specs.Headings.{signature_in}
use Rattle.pc_rules.specs.Meanings.{Signature, Found, Here, Outside, is_routine_class}
use Rattle.pc_rules.specs.Routines.{Routine, start_of}

-- parameters and result of the routine of this name that a block declares
abbrev pub signature_named : List Routine → Owner → List ℕ → Option Signature
signature_named [] o n = None
signature_named (r ∷ rs) o n = if same_owner r.parent o && r.is_first && bytes_eq r.name n then signature_in r else signature_named rs o n

-- with a routine's name that is declared around go its parameters and result
abbrev pub completed_by : List Routine → List ℕ → Found → Found
completed_by rs n (Here m) = Here (if is_routine_class m.class then record m { signature = signature_named rs m.owner n } else m)
completed_by rs n f = f

-- what a block has from outside, the routines that change its variables aside
abbrev pub quiet : List Routine → Routine → Outside
quiet rs r = record { means = λ n. completed_by rs n (r.means n); heading = signature_named rs r.owner; touched = λ n. false }

-- whether another routine than the one with this block assigns, reads, passes as a variable argument or controls this variable of it
abbrev pub touched_by_others : List Routine → List Routine → Owner → List ℕ → Bool
touched_by_others all [] o n = false
touched_by_others all (r ∷ rs) o n =
    (not (same_owner r.owner o) && stands_among (all_touches (nodes (decorate (quiet all r) (start_of r) r.block))) o n) || touched_by_others all rs o n

-- what the block of a routine has from outside
unfoldable pub outside_of : List Routine → Routine → Outside
outside_of rs r = record { means = λ n. completed_by rs n (r.means n); heading = signature_named rs r.owner; touched = touched_by_others rs rs r.owner }
