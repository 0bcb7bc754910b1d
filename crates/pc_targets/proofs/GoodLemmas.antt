-- What a routine's block sees from outside, signatures included: it is carried and good.
use Rattle.std.proofs.Common.{◌≡◌, ℕ, Bool, true, false, ◌&&◌, if◌then◌else◌, List, [], ◌∷◌}
use Rattle.std.specs.Str.{bytes_eq}
use Rattle.pc_types.specs.Sameness.{same_owner}
use Rattle.pc_types.specs.Shapes.{Owner}
use Rattle.pc_rules.specs.Headings.{signature_in}
use Rattle.pc_rules.specs.Meanings.{Class, Found, Here, Later, Component, Required, Missing, is_routine_class}
use Rattle.pc_rules.specs.Outsides.{signature_named, completed_by, outside_of}
use Rattle.pc_rules.specs.Routines.{Routine, bare}
use Rattle.pc_rules.specs.Variables.{result_of}
use Rattle.pc_needs.proofs.Lists.{Each}
use Rattle.pc_pointers.specs.Good.{Targets, IsGoodType, IsGoodFound}
use Rattle.pc_carrying.specs.Carrying.{IsCarriedName}
use Rattle.pc_carrying.specs.Parts.{GoodHeadings}
use Rattle.pc_targets.specs.Blocks.{MeansGood, IsGoodRoutine}
use Rattle.pc_targets.proofs.ChainLemmas.{GoodAround, Confines}

-- ---- signatures

named-good : (targets : Targets) (rs : List Routine) (o : Owner) (n : List ℕ) → Each (IsGoodRoutine targets) rs → IsGoodType targets (result_of (signature_named rs o n))
named-good targets [] o n h = tt
named-good targets (r ∷ rs) o n h = by (named-good targets rs o n h.1) (same_owner r.parent o && r.is_first && bytes_eq r.name n) where
  by : IsGoodType targets (result_of (signature_named rs o n)) → (b : Bool) → IsGoodType targets (result_of (if b then signature_in r else signature_named rs o n))
  by rest true = h.0.result
  by rest false = rest

pub headings-good : (targets : Targets) (all : List Routine) (r : Routine) → Each (IsGoodRoutine targets) all → GoodHeadings targets (outside_of all r)
unfolding outside_of
headings-good targets all r h n = named-good targets all r.owner n h

-- ---- names

completed-carried : (targets : Targets) (all : List Routine) (n : List ℕ) (f : Found) → IsCarriedName targets [] n f → IsCarriedName targets [] n (completed_by all n f)
completed-carried targets all n (Here m) h = by (is_routine_class m.class) where
  by : (b : Bool) → IsCarriedName targets [] n (Here (if b then record m { signature = signature_named all m.owner n } else m))
  by true = record { named = h.named; plain = h.plain }
  by false = h
completed-carried targets all n (Later c) h = h
completed-carried targets all n (Component t p) h = h
completed-carried targets all n (Required x) h = h
completed-carried targets all n Missing h = h

completed-good : (targets : Targets) (all : List Routine) (n : List ℕ) (f : Found) → Each (IsGoodRoutine targets) all → IsGoodFound targets f → IsGoodFound targets (completed_by all n f)
completed-good targets all n (Here m) g h = by (is_routine_class m.class) where
  by : (b : Bool) → IsGoodFound targets (Here (if b then record m { signature = signature_named all m.owner n } else m))
  by true = record { typed = h.typed; constant = h.constant; result = named-good targets all m.owner n g }
  by false = h
completed-good targets all n (Later c) g h = h
completed-good targets all n (Component t p) g h = h
completed-good targets all n (Required x) g h = h
completed-good targets all n Missing g h = h

completed-later : (all : List Routine) (n : List ℕ) (f : Found) (c : Class) → completed_by all n f ≡ Later c → f ≡ Later c
completed-later all n (Here m) c e = absurd (cc e)
completed-later all n (Later d) c e = e
completed-later all n (Component t p) c e = absurd (cc e)
completed-later all n (Required x) c e = absurd (cc e)
completed-later all n Missing c e = absurd (cc e)

-- ---- around a routine

pub around-good : (targets : Targets) (all : List Routine) (r : Routine) → Each (IsGoodRoutine targets) all → IsGoodRoutine targets r → GoodAround targets r (outside_of all r)
unfolding outside_of
around-good targets all r h g n d = let a = g.around n d in (completed-carried targets all n (r.means n) a.0, completed-good targets all n (r.means n) h a.1)

pub all-around-good : (targets : Targets) (all : List Routine) (r : Routine) → Each (IsGoodRoutine targets) all → MeansGood targets r.means → MeansGood targets (outside_of all r).means
unfolding outside_of
all-around-good targets all r h g n = let a = g n in (completed-carried targets all n (r.means n) a.0, completed-good targets all n (r.means n) h a.1)

pub around-confines : (all : List Routine) (r : Routine) → Confines r (bare r.means) → Confines r (outside_of all r)
unfolding outside_of
around-confines all r h n c e = h n c (completed-later all n (r.means n) c e)
