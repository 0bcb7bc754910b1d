-- Calls by what their names mean: lemmas.
use Rattle.std.specs.Prelude.{◌≡◌, ℕ, Bool, true, false, ◌||◌, if◌then◌else◌, List, [], ◌∷◌, ◌++◌, Option, Some, None, codes}
use Rattle.std.proofs.Common.{refl, ap, sym, ◌∙◌}
use Rattle.pc_scope.specs.Spelled.{spelling}
use Rattle.pc_scope.specs.Required.{is_required_function, is_required_procedure}
use Rattle.pc_scope.specs.declared.builtin.Builtin.{Builtin}
use Rattle.pc_rules.specs.Attributes.{Attributes, Node, kids_below}
use Rattle.pc_rules.specs.Meanings.{Found, Here, Later, Component, Required, Missing}
use Rattle.pc_rules.specs.Arguments.{formals_of, passed_by_place, function_signature, procedure_signature, declared_call, declared_procedure}
use Rattle.pc_rules.specs.RequiredFunctions.{required_call, call_by, means_file}
use Rattle.pc_rules.specs.RequiredProcedures.{required_procedure, procedure_by}
use Rattle.pc_facts.specs.Known.{Known}
use Rattle.pc_facts.specs.Shows.{ShowsFound}
use Rattle.pc_facts.specs.declared.sighting.Sighting.{Sighting}
use Rattle.pc_facts.specs.declared.sighting.Sighting.TheVariants as sighting
use Rattle.pc_call_rules.specs.Calls.{function_in, procedure_in, call_touches, procedure_touches, required_touches}
use Rattle.pc_call_rules.proofs.CallSteps.{some-same}

-- a value under a condition
record Under {X : Type 0} (t : Bool) (c b : X) : Type 0 where
  pub holds : t ≡ true
  pub same : c ≡ b

under : {X : Type 0} (t : Bool) (c b : X) → (if t then Some c else None) ≡ Some b → Under t c b
under true c b e = record { holds = refl; same = some-same e }
under false c b e = absurd cc

not-under : {X : Type 0} (t : Bool) (c : X) → (if t then Some c else None) ≡ None → t ≡ false
not-under true c e = absurd cc
not-under false c e = refl

pub called-required : (k : Known) (w : List ℕ) (s : Sighting) (r : Found) (b : Builtin) (n a : Node) → function_in s ≡ Some b → ShowsFound k w s r → call_by r n a ≡ required_call (spelling b) n a
called-required k w (sighting.Required c) (Required x) b n a e h =
    let u = under (is_required_function (spelling c)) c b e in
    ap (λ y. call_by (Required y) n a) (sym h) ∙ ap (λ t. if t then required_call (spelling c) n a else declared_call n a) u.holds ∙ ap (λ y. required_call (spelling y) n a) u.same
called-required k w (sighting.Required c) (Here m) b n a e h = absurd h
called-required k w (sighting.Required c) (Later m) b n a e h = absurd h
called-required k w (sighting.Required c) (Component t p) b n a e h = absurd h
called-required k w (sighting.Required c) Missing b n a e h = absurd h
called-required k w (sighting.Here d) r b n a e h = absurd cc
called-required k w (sighting.Later d) r b n a e h = absurd cc
called-required k w (sighting.Component t p) r b n a e h = absurd cc
called-required k w sighting.Missing r b n a e h = absurd cc

pub called-declared : (k : Known) (w : List ℕ) (s : Sighting) (r : Found) (n a : Node) → function_in s ≡ None → ShowsFound k w s r → call_by r n a ≡ declared_call n a
called-declared k w s (Here m) n a e h = refl
called-declared k w s (Later c) n a e h = refl
called-declared k w s (Component t p) n a e h = refl
called-declared k w s Missing n a e h = refl
called-declared k w (sighting.Required c) (Required x) n a e h =
    ap (λ y. call_by (Required y) n a) (sym h) ∙ ap (λ t. if t then required_call (spelling c) n a else declared_call n a) (not-under (is_required_function (spelling c)) c e)
called-declared k w (sighting.Here d) (Required x) n a e h = absurd h
called-declared k w (sighting.Later d) (Required x) n a e h = absurd h
called-declared k w (sighting.Component t p) (Required x) n a e h = absurd h
called-declared k w sighting.Missing (Required x) n a e h = absurd h

none-passed : (ns : List Node) → passed_by_place [] ns ≡ []
none-passed [] = refl
none-passed (n ∷ ns) = none-passed ns

pub required-touches-none : (k : Known) (w : List ℕ) (s : Sighting) (r : Found) (b : Builtin) (ns : List Node) → function_in s ≡ Some b → ShowsFound k w s r → call_touches r ns ≡ []
required-touches-none k w (sighting.Required c) (Required x) b ns e h = none-passed ns
required-touches-none k w (sighting.Required c) (Here m) b ns e h = absurd h
required-touches-none k w (sighting.Required c) (Later m) b ns e h = absurd h
required-touches-none k w (sighting.Required c) (Component t p) b ns e h = absurd h
required-touches-none k w (sighting.Required c) Missing b ns e h = absurd h
required-touches-none k w (sighting.Here d) r b ns e h = absurd cc
required-touches-none k w (sighting.Later d) r b ns e h = absurd cc
required-touches-none k w (sighting.Component t p) r b ns e h = absurd cc
required-touches-none k w sighting.Missing r b ns e h = absurd cc

pub stated-required : (k : Known) (w : List ℕ) (s : Sighting) (r : Found) (b : Builtin) (n a : Node) → procedure_in s ≡ Some b → ShowsFound k w s r → procedure_by r n a ≡ required_procedure (spelling b) n a
stated-required k w (sighting.Required c) (Required x) b n a e h =
    let u = under (is_required_procedure (spelling c)) c b e in
    ap (λ y. procedure_by (Required y) n a) (sym h) ∙ ap (λ t. if t then required_procedure (spelling c) n a else declared_procedure n a) u.holds ∙ ap (λ y. required_procedure (spelling y) n a) u.same
stated-required k w (sighting.Required c) (Here m) b n a e h = absurd h
stated-required k w (sighting.Required c) (Later m) b n a e h = absurd h
stated-required k w (sighting.Required c) (Component t p) b n a e h = absurd h
stated-required k w (sighting.Required c) Missing b n a e h = absurd h
stated-required k w (sighting.Here d) r b n a e h = absurd cc
stated-required k w (sighting.Later d) r b n a e h = absurd cc
stated-required k w (sighting.Component t p) r b n a e h = absurd cc
stated-required k w sighting.Missing r b n a e h = absurd cc

pub stated-declared : (k : Known) (w : List ℕ) (s : Sighting) (r : Found) (n a : Node) → procedure_in s ≡ None → ShowsFound k w s r → procedure_by r n a ≡ declared_procedure n a
stated-declared k w s (Here m) n a e h = refl
stated-declared k w s (Later c) n a e h = refl
stated-declared k w s (Component t p) n a e h = refl
stated-declared k w s Missing n a e h = refl
stated-declared k w (sighting.Required c) (Required x) n a e h =
    ap (λ y. procedure_by (Required y) n a) (sym h) ∙ ap (λ t. if t then required_procedure (spelling c) n a else declared_procedure n a) (not-under (is_required_procedure (spelling c)) c e)
stated-declared k w (sighting.Here d) (Required x) n a e h = absurd h
stated-declared k w (sighting.Later d) (Required x) n a e h = absurd h
stated-declared k w (sighting.Component t p) (Required x) n a e h = absurd h
stated-declared k w sighting.Missing (Required x) n a e h = absurd h

pub stated-required-touches : (k : Known) (w : List ℕ) (s : Sighting) (r : Found) (b : Builtin) (ns : List Node) → procedure_in s ≡ Some b → ShowsFound k w s r → procedure_touches r ns ≡ required_touches (spelling b) ns
stated-required-touches k w (sighting.Required c) (Required x) b ns e h =
    let u = under (is_required_procedure (spelling c)) c b e in
    ap (λ y. procedure_touches (Required y) ns) (sym h) ∙ ap (λ t. if t then required_touches (spelling c) ns else []) u.holds ∙ ap (λ y. required_touches (spelling y) ns) u.same
stated-required-touches k w (sighting.Required c) (Here m) b ns e h = absurd h
stated-required-touches k w (sighting.Required c) (Later m) b ns e h = absurd h
stated-required-touches k w (sighting.Required c) (Component t p) b ns e h = absurd h
stated-required-touches k w (sighting.Required c) Missing b ns e h = absurd h
stated-required-touches k w (sighting.Here d) r b ns e h = absurd cc
stated-required-touches k w (sighting.Later d) r b ns e h = absurd cc
stated-required-touches k w (sighting.Component t p) r b ns e h = absurd cc
stated-required-touches k w sighting.Missing r b ns e h = absurd cc

pub stated-declared-touches : (k : Known) (w : List ℕ) (s : Sighting) (r : Found) (ns : List Node) → procedure_in s ≡ None → ShowsFound k w s r → procedure_touches r ns ≡ passed_by_place (formals_of (procedure_signature r)) ns
stated-declared-touches k w s (Here m) ns e h = refl
stated-declared-touches k w s (Later c) ns e h = refl
stated-declared-touches k w s (Component t p) ns e h = refl
stated-declared-touches k w s Missing ns e h = refl
stated-declared-touches k w (sighting.Required c) (Required x) ns e h =
    ap (λ y. procedure_touches (Required y) ns) (sym h) ∙ ap (λ t. if t then required_touches (spelling c) ns else []) (not-under (is_required_procedure (spelling c)) c e) ∙ sym (none-passed ns)
stated-declared-touches k w (sighting.Here d) (Required x) ns e h = absurd h
stated-declared-touches k w (sighting.Later d) (Required x) ns e h = absurd h
stated-declared-touches k w (sighting.Component t p) (Required x) ns e h = absurd h
stated-declared-touches k w sighting.Missing (Required x) ns e h = absurd h
