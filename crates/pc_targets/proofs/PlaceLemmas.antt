-- Places of a block: what names mean there, those around the block included.
use Rattle.std.proofs.Common.{◌≡◌, ℕ, true, List, [], subst}
use Rattle.pc_syntax.specs.Plain.{Plain}
use Rattle.pc_types.specs.Shapes.{Keyed, Domain}
use Rattle.pc_rules.specs.Meanings.{Local, find}
use Rattle.pc_rules.specs.Outsides.{outside_of}
use Rattle.pc_rules.specs.RoutineList.{routines_of}
use Rattle.pc_rules.specs.Routines.{Routine, start_of}
use Rattle.pc_environment.specs.Decorating.{place_behind}
use Rattle.pc_pointers.specs.Good.{Targets, IsGoodFound, GoodPlace}
use Rattle.pc_carrying.specs.Carrying.{IsCarriedName, CarriedPlace}
use Rattle.pc_carrying.specs.KnownLaws.{found-carried}
use Rattle.pc_carrying.specs.Parts.{GoodHeadings, IsSettledAround, IsGoodBehind, is_routine}
use Rattle.pc_carrying.specs.RoutineLaws.{routine-behind}
use Rattle.pc_targets.specs.Blocks.{HasBlock}
use Rattle.pc_targets.specs.Program.{targets_of, beyond}
use Rattle.pc_targets.proofs.BlockLemmas.{good-there}
use Rattle.pc_targets.proofs.GoodLemmas.{headings-good, all-around-good}
use Rattle.pc_targets.proofs.HidingLemmas.{hidden-found, hidden-behind}
use Rattle.pc_targets.proofs.ProgramLemmas.{routines-good}

pub place-carried : (targets : Targets) (own : List Domain) (all : List Routine) (r : Routine) (l : Local) → l.names ≡ (start_of r).names → CarriedPlace targets own (beyond all r) l →
    (n : List ℕ) → IsCarriedName targets own n (find (outside_of all r) l n)
place-carried targets own all r l e g n =
    subst (IsCarriedName targets own n) (hidden-found (start_of r).names (outside_of all r) l n e) (found-carried targets own (beyond all r) l g n)

pub place-good : (targets : Targets) (all : List Routine) (r : Routine) (l : Local) → l.names ≡ (start_of r).names → IsGoodBehind targets (beyond all r) l → GoodPlace (outside_of all r) l targets
place-good targets all r l e g n = subst (IsGoodFound targets) (hidden-found (start_of r).names (outside_of all r) l n e) (g.good n)

-- behind a routine
pub place-further : (targets : Targets) (all : List Routine) (r : Routine) (l : Local) (t : Plain) → l.names ≡ (start_of r).names → is_routine t.kind ≡ true → GoodHeadings targets (outside_of all r) →
    IsGoodBehind targets (beyond all r) l → IsGoodBehind targets (beyond all r) (place_behind (outside_of all r) l t)
place-further targets all r l t e k h g =
    subst (IsGoodBehind targets (beyond all r)) (hidden-behind (start_of r).names (outside_of all r) l t e) (routine-behind targets (beyond all r) l t k h g)

-- ---- around a block inside the program

pub inner-settled : (t : Plain) (r : Routine) → HasBlock t r → (r.owner ≡ Keyed [] → ⊥) → IsSettledAround (targets_of t) (outside_of (routines_of t) r) (start_of r)
inner-settled t r h other =
    let all = routines_of t in
    let rest = routines-good t h.proper h.program in
    let around = all-around-good (targets_of t) all r rest ((good-there t r h).inside other) in
    record { carried = λ n. (around n).0; fields = tt; outside = λ n. (around n).1; headings = headings-good (targets_of t) all r rest }
