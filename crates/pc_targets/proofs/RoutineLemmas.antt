-- One routine: what names mean around it, its parameters and its result are good.
use Rattle.std.proofs.Common.{◌≡◌, ℕ, Bool, true, false, if◌then◌else◌, List, [], ◌∷◌, Option, refl, sym, true≢false}
use Rattle.std.proofs.lemmas.Bool.{and_parts}
use Rattle.std.specs.Option.{option_map_or}
use Rattle.pc_syntax.specs.declared.kind.Kind.{Kind}
use Rattle.pc_syntax.specs.declared.kind.Kind.TheVariants as kind
use Rattle.pc_syntax.specs.declared.class.Class.TheVariants as class
use Rattle.pc_syntax.specs.Classes.{has}
use Rattle.pc_syntax.specs.Layout.{layout}
use Rattle.pc_syntax.specs.Plain.{Forest, Nil, Cons, count, kinds}
use Rattle.pc_syntax.specs.WellFormed.{WellFormed, fits_some}
use Rattle.pc_rules.specs.Declarations.{heading_here, is_later_declaration}
use Rattle.pc_rules.specs.Denoters.{type_of_found}
use Rattle.pc_rules.specs.Meanings.{Found, Local}
use Rattle.pc_rules.specs.RoutineList.{Forwarded, forwarded_for, routine_of, ARoutine, part_of}
use Rattle.pc_rules.specs.Routines.{Routine, firsts, heading_marks, params_in, result_in}
use Rattle.pc_needs.proofs.BodyKinds.{either-way}
use Rattle.pc_needs.proofs.ParameterLemmas.{not-none, not-all}
use Rattle.pc_pointers.specs.Good.{Targets, IsGoodType}
use Rattle.pc_carrying.specs.ParameterLaws.{inside-law}
use Rattle.pc_carrying.specs.Parts.{AllParameters}
use Rattle.pc_targets.specs.Blocks.{MeansGood, IsGoodRoutine}
use Rattle.pc_targets.proofs.HeadingLemmas.{is_second, params-second, block-second, on-params, marks_in, params-good, result-good}
use Rattle.pc_targets.proofs.SignatureLemmas.{AllGiven, OnFunction, signature-good, given-good}

-- ---- the heading of a routine

-- the first two kids of a routine
abbrev HasTwo : Forest → Type 0
HasTwo (Cons j v os js (Cons p w ns ps ts)) = (has class.Name j ≡ true) × (is_second p ≡ true)
HasTwo f = ⊥

has-two : (k : Kind) (w : List ℕ) (f : Forest) → part_of k ≡ ARoutine → fits_some (layout k w (count f)) (kinds f) ≡ true → HasTwo f
has-two kind.Procedure (b ∷ w) f p e = absurd (true≢false (sym e))
has-two kind.Procedure [] Nil p e = absurd (true≢false (sym e))
has-two kind.Procedure [] (Cons j v os js Nil) p e = absurd (true≢false (sym (and_parts (has class.Name j) _ e).1))
has-two kind.Procedure [] (Cons j v os js (Cons q w ns ps ts)) p e =
    let x = and_parts (has class.Name j) _ e in
    (x.0, either-way (is_second q) (has class.Params q) (params-second q) (and_parts (has class.Params q) _ x.1).0)
has-two kind.Function (b ∷ w) f p e = absurd (true≢false (sym e))
has-two kind.Function [] Nil p e = absurd (true≢false (sym e))
has-two kind.Function [] (Cons j v os js Nil) p e = absurd (true≢false (sym (and_parts (has class.Name j) _ e).1))
has-two kind.Function [] (Cons j v os js (Cons q w ns ps ts)) p e =
    let x = and_parts (has class.Name j) _ e in
    (x.0, either-way (is_second q) (has class.Params q) (params-second q) (and_parts (has class.Params q) _ x.1).0)
has-two kind.Funbody (b ∷ w) f p e = absurd (true≢false (sym e))
has-two kind.Funbody [] Nil p e = absurd (true≢false (sym e))
has-two kind.Funbody [] (Cons j v os js Nil) p e = absurd (true≢false (sym (and_parts (has class.Name j) _ e).1))
has-two kind.Funbody [] (Cons j v os js (Cons q w ns ps ts)) p e =
    let x = and_parts (has class.Name j) _ e in
    (x.0, either-way (is_second q) (has class.Block q) (block-second q) (and_parts (has class.Block q) _ x.1).0)
has-two kind.Routines w f p e = absurd (not-all p)
has-two k w f p e = absurd (not-none p)

-- its parameters
two-good : (targets : Targets) (m : List ℕ → Found) (r : Routine) (ks : Forest) → HasTwo ks → WellFormed ks → MeansGood targets m → r.means ≡ m → AllParameters targets (params_in (marks_in m r.owner ks)).defines
two-good targets m r Nil t c h e = absurd t
two-good targets m r (Cons j v os js Nil) t c h e = absurd t
two-good targets m r (Cons j v os js (Cons p w ns ps ts)) t c h e =
    params-good targets m r.owner j p v w os ns js ps ts t.0 t.1 (on-params p (WellFormed (Cons p w ns ps Nil) × MeansGood targets m) ((c.4.0, c.4.1, c.4.2, c.4.3, tt), h))

-- its result type
function-good : (targets : Targets) (m : List ℕ → Found) (r : Routine) (k : Kind) (w : List ℕ) (f : Forest) → fits_some (layout k w (count f)) (kinds f) ≡ true → MeansGood targets m →
    OnFunction k (IsGoodType targets (type_of_found (result_in (marks_in m r.owner f)).found))
function-good targets m r kind.Function (b ∷ w) f e h = absurd (true≢false (sym e))
function-good targets m r kind.Function [] Nil e h = absurd (true≢false (sym e))
function-good targets m r kind.Function [] (Cons j v os js Nil) e h = absurd (true≢false (sym (and_parts (has class.Name j) _ e).1))
function-good targets m r kind.Function [] (Cons j v os js (Cons p w ns ps Nil)) e h =
    absurd (true≢false (sym (and_parts (has class.Params p) _ (and_parts (has class.Name j) _ e).1).1))
function-good targets m r kind.Function [] (Cons j v os js (Cons p w ns ps (Cons z x us zs ts))) e h =
    let a = and_parts (has class.Name j) _ e in
    let b = and_parts (has class.Params p) _ a.1 in
    inside-law.result targets (result_in (marks_in m r.owner (Cons j v os js (Cons p w ns ps (Cons z x us zs ts))))).found
    (result-good targets m r.owner j p z v w x os ns us js ps zs ts a.0 b.0 (and_parts (has class.Name z) _ b.1).0 h)
function-good targets m r k w f e h = tt

-- ---- a routine, where what names mean behind its node is carried and good

pub routine-good : (targets : Targets) (m : List ℕ → Found) (l : Local) (fs : List Forwarded) (p : List ℕ) (key : Option (List (List ℕ))) (k : Kind) (w : List ℕ) (ks : Forest) →
    part_of k ≡ ARoutine → fits_some (layout k w (count ks)) (kinds ks) ≡ true → WellFormed ks → MeansGood targets m → AllGiven targets fs → IsGoodRoutine targets (routine_of m l fs p key k ks)
unfolding heading_marks
routine-good targets m l fs p key k w ks part e c h g =
    let r = routine_of m l fs p key k ks in
    record {
      around = λ n d. h n;
      inside = λ o. h;
      parameters = by (is_later_declaration l);
      result = signature-good targets r (function-good targets m r k w ks e h);
    } where
      r : Routine
      r = routine_of m l fs p key k ks

      own : AllParameters targets (firsts [] (params_in (marks_in m r.owner ks)).defines)
      own = inside-law.firsts targets [] (params_in (marks_in m r.owner ks)).defines (two-good targets m r ks (has-two k w ks part e) c h refl)

      by : (b : Bool) → AllParameters targets (if b then option_map_or (λ (x : Forwarded). x.parameters) (forwarded_for (heading_here l) fs) [] else firsts [] (params_in (marks_in m r.owner ks)).defines)
      by true = given-good targets (heading_here l) fs g
      by false = own
