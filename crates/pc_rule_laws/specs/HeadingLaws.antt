-- The parameters of each routine of a well-formed program are the same by its heading and by places.
use Rattle.std.proofs.Common.{List, [], ap, if◌then◌else◌, not, refl, subst, suc, true, ℕ, ◌&&◌, ◌++◌, ◌∙◌, ◌∷◌, ◌≡◌}
use Rattle.std.proofs.lemmas.Bool.{and_parts}
use Rattle.pc_rule_laws.specs.ClassedPlaces.{classed_at}
use Rattle.pc_rule_laws.specs.Matching.{Matches}
use Rattle.pc_rule_laws.specs.Orderly.{HeadNames, Silent}
use Rattle.pc_rule_laws.specs.OwnBlock.{listed, some-kids}
use Rattle.pc_rule_laws.specs.ParameterNames.{IsParameterOrGap, ParameterList, heading-parameters}
use Rattle.pc_rule_laws.specs.Quiet.{Asked, QuietKinds, all_quiet, asked, hole-nil, implied, is_quiet_role, not-false, quiet-places, quiet-plain, quiet-silent, quiet_kind, taken-quiet}
use Rattle.pc_rule_laws.specs.Roles.{keys, role}
use Rattle.pc_rules.specs.Decorated.{decorate}
use Rattle.pc_rules.specs.Meanings.{entry_of}
use Rattle.pc_rules.specs.Routines.{Routine, bare, firsts, heading_marks, heading_start, params_in}
use Rattle.pc_rules.specs.OwnBlock.{bare_heading, heading_part, own}
use Rattle.pc_scope.specs.Headings.{is_routine_kind}
use Rattle.pc_syntax.specs.Classes.{is_name, is_parameter}
use Rattle.pc_syntax.specs.Fits.{takes_from}
use Rattle.pc_syntax.specs.Layout.{layout}
use Rattle.pc_syntax.specs.Plain.{Cons, Forest, Nil, count, kinds}
use Rattle.pc_syntax.specs.Slots.{places_of}
use Rattle.pc_syntax.specs.WellFormed.{WellFormed, fits_some}
use Rattle.pc_syntax.specs.declared.kind.Kind.{Kind}
use Rattle.pc_types.specs.Sameness.{same}
use Rattle.pc_syntax.specs.declared.kind.Kind.TheVariants as kind

-- quiet trees have no routines that could be cut down
own-quiet : (f : Forest) → WellFormed f → QuietKinds f → own f ≡ f
unfolding own
own-quiet Nil h q = refl
own-quiet (Cons k w ns ks ts) h q =
    let plain = and_parts (not (is_routine_kind k)) (is_quiet_role (role k)) (implied (quiet_kind k) (not (is_routine_kind k) && is_quiet_role (role k)) (quiet-plain k) q.0) in
    let below : own ks ≡ ks = own-quiet ks h.3 (taken-quiet k 0 ks (implied (quiet_kind k) (all_quiet (places_of k)) (quiet-places k) q.0) (asked k w ks h.0).placed) in
    ap (λ b. Cons k w ns (if b then bare_heading ks else own ks) (own ts)) (not-false (is_routine_kind k) plain.0) ∙ (λ i. Cons k w ns (below i) (own-quiet ts h.4 q.1 i))

at-parameter : (k : Kind) (w : List ℕ) (ks : Forest) → is_parameter k ≡ true → WellFormed ks → fits_some (layout k w (count ks)) (kinds ks) ≡ true → IsParameterOrGap (role k) ks
at-parameter kind.Valparam w ks e h f =
    let a : Asked kind.Valparam w ks = asked kind.Valparam w ks f in
    let quiet : QuietKinds ks = taken-quiet kind.Valparam 0 ks refl a.placed in
    (subst HeadNames (own-quiet ks h quiet) (listed ks kind.Valparam h refl a.placed (some-kids ks 1 a.many)), subst Silent (own-quiet ks h quiet) (quiet-silent ks h quiet))
at-parameter kind.Varparam w ks e h f =
    let a : Asked kind.Varparam w ks = asked kind.Varparam w ks f in
    let quiet : QuietKinds ks = taken-quiet kind.Varparam 0 ks refl a.placed in
    (subst HeadNames (own-quiet ks h quiet) (listed ks kind.Varparam h refl a.placed (some-kids ks 1 a.many)), subst Silent (own-quiet ks h quiet) (quiet-silent ks h quiet))
at-parameter (kind.Hole s) w ks e h f = hole-nil (kind.Hole s) ks refl (asked (kind.Hole s) w ks f).placed
at-parameter _ w ks e h f = cc e

pub parameter-list : (i : ℕ) (f : Forest) → WellFormed f → takes_from kind.Params i (kinds f) ≡ true → ParameterList f
parameter-list i Nil h e = tt
parameter-list i (Cons k w ns ks ts) h e =
    let a = and_parts (is_parameter k) (takes_from kind.Params (suc i) (kinds ts)) e in
    (at-parameter k w ks a.0 h.3 h.0, parameter-list (suc i) ts h.4 a.1)

-- the name of a heading stays
name-part : (j : Kind) (v : List ℕ) (os : List (List ℕ)) (js ts : Forest) → is_name j ≡ true → heading_part (Cons j v os js ts) ≡ Cons j v os js (heading_part ts)
name-part kind.Name v os js ts e = refl
name-part (kind.Hole s) v os js ts e = refl
name-part _ v os js ts e = cc e

-- the parameters of a routine with a name and a list of parameters, as `parameters_of` of the rules and that of the look-up by places have them
pub own-parameters : (n q : List ℕ) (r : Routine) (j : Kind) (v w : List ℕ) (os ns : List (List ℕ)) (js ps ts : Forest) → is_name j ≡ true → WellFormed (Cons kind.Params w ns ps ts) →
    r.heading ≡ heading_part (Cons j v os js (Cons kind.Params w ns ps ts)) →
    Matches n (keys (firsts [] (params_in (heading_marks r)).defines)) (classed_at (q ++ 2 ∷ []) 1 ps)
unfolding heading_marks
own-parameters n q r j v w os ns js ps ts e h same =
    ap (λ f. entry_of (keys (firsts [] (params_in (decorate (bare r.means) (heading_start r.owner) f)).defines)) n) (same ∙ name-part j v os js (Cons kind.Params w ns ps ts) e)
    ∙ heading-parameters (bare r.means) n q (heading_start r.owner) j v w os ns js ps (heading_part ts) (parameter-list 0 ps h.3 (asked kind.Params w ps h.0).placed)
