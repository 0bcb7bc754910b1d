-- The program itself: what its own names and the required ones are, and that all of its routines are good.
use Rattle.std.proofs.Common.{◌≡◌, ℕ, Bool, true, false, ◌||◌, if◌then◌else◌, List, [], ◌∷◌, ◌++◌, Some, None, refl, sym, ◌∙◌, ap, subst, true≢false, inl, inr}
use Rattle.pc_syntax.specs.Plain.{Forest, Plain}
use Rattle.pc_syntax.specs.WellFormed.{IsProper}
use Rattle.pc_types.specs.Domains.{domain_in}
use Rattle.pc_types.specs.Shapes.{Owner, Keyed}
use Rattle.pc_scope.specs.Required.{is_required_type, is_required_constant, is_required_function, is_required_procedure, is_required_file}
use Rattle.pc_rules.specs.Errors.{is_program}
use Rattle.pc_rules.specs.Meanings.{Class, Later, Required, Missing}
use Rattle.pc_rules.specs.RequiredMeanings.{required_type, required_or_missing}
use Rattle.pc_rules.specs.RoutineList.{routines_below, program_routine, routines_of}
use Rattle.pc_rules.specs.Routines.{Routine, bare}
use Rattle.pc_needs.specs.Answers.{has_block}
use Rattle.pc_needs.specs.Unaffected.{IsOneOf}
use Rattle.pc_needs.proofs.KeyLemmas.{Key}
use Rattle.pc_needs.proofs.Lists.{Each, each-map, each-one}
use Rattle.pc_needs.proofs.PlaceLemmas.{block-heading, below-block}
use Rattle.pc_needs.proofs.UniqueLemmas.{StandsUnder}
use Rattle.pc_needs.proofs.UniqueRoutines.{differ-below}
use Rattle.pc_pointers.specs.Good.{Targets, IsGoodFound}
use Rattle.pc_carrying.specs.Carrying.{IsCarriedName}
use Rattle.pc_carrying.specs.Parts.{AllParameters}
use Rattle.pc_targets.specs.Program.{declares, types_behind, undeclared_type, said_by, program_targets, targets_of}
use Rattle.pc_targets.specs.Blocks.{IsGoodRoutine}
use Rattle.pc_targets.proofs.ChainLemmas.{Confines}
use Rattle.pc_targets.proofs.NamesLemmas.{program-parameters, no-empty}
use Rattle.pc_targets.proofs.SignatureLemmas.{signature-good}
use Rattle.pc_targets.proofs.UniqueLemmas.{targets-said}
use Rattle.pc_targets.proofs.WalkLemmas.{SaysAll, walk-below}

-- ---- what the targets say of the program's own names

none-below : (all rs : List Routine) (f : Forest) (o : Owner) (n : List ℕ) → Each (λ (r : Routine). has_block f ≡ true) rs → has_block f ≡ false → program_targets all rs o n ≡ undeclared_type o n
none-below all [] f o n h e = refl
none-below all (r ∷ rs) f o n h e = absurd (true≢false (sym h.0 ∙ e))

-- the search begins with the program, and there are no other routines where it has no block
first-said : (all : List Routine) (t : Plain) (n : List ℕ) (b : Bool) → has_block t.kids ≡ b → declares (program_routine t) n ≡ false →
    program_targets all (program_routine t ∷ routines_below (program_routine t) 1 t.kids) (Keyed []) n ≡ required_type n
first-said all t n true e d =
    ap (λ (b : Bool). if b then said_by all (program_routine t) (Keyed []) n else program_targets all (routines_below (program_routine t) 1 t.kids) (Keyed []) n) (block-heading t.kids ∙ e)
    ∙ ap (λ (b : Bool). if b then domain_in (types_behind all (program_routine t)) (Keyed []) n else required_type n) d
first-said all t n false e d =
    ap (λ (b : Bool). if b then said_by all (program_routine t) (Keyed []) n else program_targets all (routines_below (program_routine t) 1 t.kids) (Keyed []) n) (block-heading t.kids ∙ e)
    ∙ none-below all (routines_below (program_routine t) 1 t.kids) t.kids (Keyed []) n (below-block (program_routine t) 1 t.kids) e

pub required-said : (t : Plain) (n : List ℕ) → declares (program_routine t) n ≡ false → targets_of t (Keyed []) n ≡ required_type n
unfolding routines_of
required-said t n d = first-said (program_routine t ∷ routines_below (program_routine t) 1 t.kids) t n (has_block t.kids) refl d

pub nobody-said : (t : Plain) → IsProper t → is_program t.kind ≡ true → targets_of t (Keyed []) [] ≡ None
nobody-said t proper p = required-said t [] (no-empty t proper p)

-- ---- around the program

required-good : (targets : Targets) (n : List ℕ) → required_type n ≡ targets (Keyed []) n → IsCarriedName targets [] n (required_or_missing n) × IsGoodFound targets (required_or_missing n)
required-good targets n h = by (is_required_type n || is_required_constant n || is_required_function n || is_required_procedure n || is_required_file n) where
  by : (b : Bool) → IsCarriedName targets [] n (if b then Required n else Missing) × IsGoodFound targets (if b then Required n else Missing)
  by true = ((λ s. h), tt)
  by false = (tt, tt)

never-later : (n : List ℕ) (c : Class) → required_or_missing n ≡ Later c → ⊥
never-later n c e = by (is_required_type n || is_required_constant n || is_required_function n || is_required_procedure n || is_required_file n) e where
  by : (b : Bool) → (if b then Required n else Missing) ≡ Later c → ⊥
  by true e = cc e
  by false e = cc e

pub program-good : (t : Plain) → IsProper t → is_program t.kind ≡ true → IsGoodRoutine (targets_of t) (program_routine t)
program-good t proper p = record {
  around = λ n d. required-good (targets_of t) n (sym (required-said t n d));
  inside = λ o. absurd (o refl);
  parameters = subst (AllParameters (targets_of t)) (sym (program-parameters t proper p)) tt;
  result = signature-good (targets_of t) (program_routine t) tt;
}

-- ---- inside the program

-- the block of a routine in it has no required names
abbrev HasOther : Routine → Type 0
HasOther r = (r.owner ≡ Keyed []) → ⊥

other-key : (r : Routine) → StandsUnder (Some []) r → HasOther r
other-key r h e = let y = h [] e in by y.1 y.0 y.2 y.4 where
  by : (n : List ℕ) (j rest : Key) → [] ≡ j ++ n ∷ rest → ⊥
  by n [] rest q = absurd (cc q)
  by n (x ∷ j) rest q = absurd (cc q)

pub others : (t : Plain) → IsProper t → Each HasOther (routines_below (program_routine t) 1 t.kids)
others t proper = each-map (StandsUnder (Some [])) HasOther (routines_below (program_routine t) 1 t.kids) other-key (differ-below (program_routine t) 1 t.kids proper.sound.3).1

pub other-undeclared : (o : Owner) (n : List ℕ) → (o ≡ Keyed [] → ⊥) → undeclared_type o n ≡ None
other-undeclared (Keyed []) n h = absurd (h refl)
other-undeclared o n h = refl

pub confines : (t : Plain) (r : Routine) → IsProper t → IsOneOf (routines_of t) r → Confines r (bare r.means)
unfolding routines_of
confines t r proper (inl e) n c q = absurd (never-later n c (ap (λ (x : Routine). x.means n) e ∙ q))
confines t r proper (inr i) n c q = other-undeclared r.owner n (each-one HasOther (routines_below (program_routine t) 1 t.kids) r i (others t proper))

-- ---- all routines

pub says-all : (t : Plain) → IsProper t → is_program t.kind ≡ true → SaysAll (targets_of t) (routines_of t)
says-all t proper p z i b = ((λ n. targets-said t z n proper p i b), confines t z proper i)

pub routines-good : (t : Plain) → IsProper t → is_program t.kind ≡ true → Each (IsGoodRoutine (targets_of t)) (routines_of t)
unfolding routines_of
routines-good t proper p =
    let all = routines_of t in
    let program = program-good t proper p in
    (program, walk-below (targets_of t) all (program_routine t) 1 t.kids proper.sound.3 (inl refl) (λ h. block-heading t.kids ∙ h) refl program (says-all t proper p) (λ z h. inr h))
