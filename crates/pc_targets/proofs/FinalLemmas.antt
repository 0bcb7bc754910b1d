-- Each block of a program is good for the targets of the program.
use Rattle.std.proofs.Common.{◌≡◌, ℕ, Bool, true, false, ◌&&◌, if◌then◌else◌, List, [], ◌∷◌, refl, sym, ◌∙◌, ap, subst, inl, inr}
use Rattle.std.proofs.lemmas.Bool.{and_parts}
use Rattle.pc_syntax.specs.declared.kind.Kind.TheVariants as kind
use Rattle.pc_syntax.specs.Plain.{Plain, trees_of}
use Rattle.pc_syntax.specs.WellFormed.{IsProper}
use Rattle.pc_types.specs.Sameness.{same_owner}
use Rattle.pc_types.specs.Shapes.{Owner}
use Rattle.pc_rules.specs.ClosedTypes.{own_domains, close_types}
use Rattle.pc_rules.specs.Meanings.{Local}
use Rattle.pc_rules.specs.Outsides.{outside_of}
use Rattle.pc_rules.specs.Places.{inner}
use Rattle.pc_rules.specs.RoutineList.{routines_of}
use Rattle.pc_rules.specs.Routines.{Routine, start_of}
use Rattle.pc_rules.specs.Errors.{is_program}
use Rattle.pc_needs.specs.Answers.{has_block}
use Rattle.pc_needs.specs.Unaffected.{IsOneOf}
use Rattle.pc_needs.proofs.Owners.{same_owner-equal}
use Rattle.pc_needs.proofs.Lists.{each-one}
use Rattle.pc_rule_laws.specs.Within.{inner-names}
use Rattle.pc_pointers.specs.Good.{IsGoodFound}
use Rattle.pc_closed.specs.Carried.{AllTypesCarried}
use Rattle.pc_closed.specs.Settled.{Tells, FitsBlock}
use Rattle.pc_carrying.specs.DenoterLaws.{same-place}
use Rattle.pc_carrying.specs.LaterLaws.{inner-later}
use Rattle.pc_carrying.specs.Parts.{types_of, IsCarriedStart, IsGoodBehind}
use Rattle.pc_carrying.specs.RoutineLaws.{routines-inner}
use Rattle.pc_targets.specs.Blocks.{IsGoodRoutine, HasBlock, HasParts, place_in, types_before, IsGoodBlock, SaidLaw, GoodLaw}
use Rattle.pc_targets.specs.Program.{types_in, types_behind, undeclared_type, said_by, program_targets, targets_of, beyond}
use Rattle.pc_targets.proofs.UniqueLemmas.{same-routine}
use Rattle.pc_targets.proofs.BlockLemmas.{parts-there, whole-there, good-there, own-types, says, declared-said, inside-said}
use Rattle.pc_targets.proofs.ChainLemmas.{tells, confined, chain}
use Rattle.pc_targets.proofs.GoodLemmas.{headings-good, around-good, around-confines}
use Rattle.pc_targets.proofs.HidingLemmas.{hidden-found, hidden-after, names-after}
use Rattle.pc_targets.proofs.ProgramLemmas.{required-said, nobody-said, confines, routines-good}
use Rattle.pc_targets.proofs.WholeLemmas.{IsWhole, AreWhole, types-hidden}
use Rattle.pc_targets.proofs.PlaceLemmas.{place-carried, place-good, place-further, inner-settled}
use Rattle.pc_targets.proofs.VariableLemmas.{variable-next, variable-denoter}

-- ---- blocks

pub good-block : (t : Plain) (r : Routine) (c d v q b : Plain) → HasBlock t r → HasParts r c d v q b → IsGoodBlock (targets_of t) (routines_of t) r c d v q
good-block t r c d v q b h parts =
    let targets = targets_of t in
    let all = routines_of t in
    let out = outside_of all r in
    let l = start_of r in
    let o = beyond all r in
    let good = good-there t r h in
    let trees : trees_of r.block ≡ c ∷ d ∷ v ∷ q ∷ b ∷ [] = ap trees_of parts in
    let whole : IsWhole c d v q = subst AreWhole trees (whole-there t r h) in
    let table : types_behind all r ≡ own_domains (close_types (types_before all r c d)).known = ap (types_in out l) trees in
    let same = types-hidden l.names out l c d refl in
    let hidden = table ∙ ap (λ (m : Local). own_domains (close_types m).known) (sym same) in
    let told = tells targets all r (own-types t r h) (says t r h) in
    let limits = confined targets all r out (types_of o l c d) hidden (says t r h) (around-confines all r (confines t r h.proper h.among)) in
    let rest = routines-good t h.proper h.program in
    let along = chain targets r out c d v q whole.kinds (subst (Tells targets) hidden told) limits good.parameters (around-good targets all r rest good) (headings-good targets all r rest) in
    let at = λ (ts : List Plain). hidden-after l.names out l ts refl in
    let second : IsGoodBehind targets o (place_in all r (c ∷ d ∷ [])) = subst (IsGoodBehind targets o) (at (c ∷ d ∷ [])) along.second in
    let third : IsGoodBehind targets o (place_in all r (c ∷ d ∷ v ∷ [])) = subst (IsGoodBehind targets o) (at (c ∷ d ∷ v ∷ [])) along.third in
    let fourth : IsGoodBehind targets o (place_in all r (c ∷ d ∷ v ∷ q ∷ [])) = subst (IsGoodBehind targets o) (at (c ∷ d ∷ v ∷ q ∷ [])) along.fourth in
    let l2 = place_in all r (c ∷ d ∷ []) in
    let l3 = place_in all r (c ∷ d ∷ v ∷ []) in
    let l4 = place_in all r (c ∷ d ∷ v ∷ q ∷ []) in
    record {
      kinds = whole.kinds;
      around = along.around;
      parameters = good.parameters;
      headings = headings-good targets all r rest;
      start = subst (λ (m : Local). IsCarriedStart targets (own_domains m.known) o l) same along.start;
      first = subst (λ (m : Local × Local). IsCarriedStart targets (own_domains m.0.known) o m.1) (λ i. (same i, at (c ∷ []) i)) along.first;
      table = table;
      types = subst (λ (m : Local). AllTypesCarried targets (own_domains m.known) m.known) same along.types.types;
      fits = subst (FitsBlock targets) same along.fits;
      second = second;
      third = third;
      fourth = fourth;
      in_variables = record {
        names = inner-names l2 kind.Vars v.kids ∙ names-after out l (c ∷ d ∷ []);
        carried = same-place targets [] o l2 (inner l2 kind.Vars v.kids) (inner-later l2 kind.Vars v.kids) refl second.place;
      };
      in_routines = routines-inner targets o l3 q.kids third;
      body = λ n. subst (IsGoodFound targets) (hidden-found l.names out l4 n (names-after out l (c ∷ d ∷ v ∷ q ∷ []))) (fourth.good n);
    }

-- ---- where no routine is

elsewhere-said : (all rs : List Routine) (o : Owner) (n : List ℕ) → ((r : Routine) → IsOneOf rs r → has_block r.heading ≡ true → r.owner ≡ o → ⊥) → program_targets all rs o n ≡ undeclared_type o n
elsewhere-said all [] o n h = refl
elsewhere-said all (r ∷ rs) o n h = by (elsewhere-said all rs o n (λ x i. h x (inr i))) (same_owner o r.owner && has_block r.heading) refl where
  by : program_targets all rs o n ≡ undeclared_type o n → (b : Bool) → (same_owner o r.owner && has_block r.heading) ≡ b →
      (if b then said_by all r o n else program_targets all rs o n) ≡ undeclared_type o n
  by rest true e = let both = and_parts (same_owner o r.owner) (has_block r.heading) e in absurd (h r (inl refl) both.1 (sym (same_owner-equal o r.owner both.0)))
  by rest false e = rest

-- ---- routines

routine-there : (t : Plain) (r : Routine) → IsProper t → is_program t.kind ≡ true → IsOneOf (routines_of t) r → IsGoodRoutine (targets_of t) r
routine-there t r proper p i = each-one (IsGoodRoutine (targets_of t)) (routines_of t) r i (routines-good t proper p)

-- ---- these hold

pub said-law : SaidLaw
said-law = record {
  inside = inside-said;
  declared = declared-said;
  required = required-said;
  own = own-types;
  tells = λ t r h. tells (targets_of t) (routines_of t) r (own-types t r h) (says t r h);
  one = λ t r q h g e. same-routine t r q h.proper h.program h.among g.among h.block g.block e;
  elsewhere = λ t o n h. elsewhere-said (routines_of t) (routines_of t) o n h;
  nobody = nobody-said;
}

pub good-law : GoodLaw
good-law = record {
  routine = routine-there;
  parts = parts-there;
  block = good-block;
  inside = inner-settled;
  carried = place-carried;
  good = place-good;
  further = place-further;
  next = variable-next;
  denoter = variable-denoter;
}
