-- What arguments have together, one after the other: lemmas.
use Rattle.std.specs.Prelude.{◌≡◌, ℕ, ◌+◌, ◌<◌, Bool, true, false, ◌||◌, ◌&&◌, if◌then◌else◌, List, [], ◌∷◌, ◌++◌, Option, Some, None, length, slice_get, suc, zero, get_or, take}
use Rattle.std.specs.Option.{is_some}
use Rattle.std.proofs.Common.{refl, ap, sym, ◌∙◌, append_assoc, append-nil, subst, arith}
use Rattle.std.proofs.lemmas.List.{take_more}
use Rattle.pc_types.specs.Shapes.{Owner}
use Rattle.pc_rules.specs.Attributes.{Node}
use Rattle.pc_rules.specs.HandedOn.{any_hole}
use Rattle.pc_rules.specs.Meanings as rules
use Rattle.pc_rules.specs.Arguments as rule
use Rattle.pc_rules.specs.Arguments.{head, tail}
use Rattle.pc_rules.specs.RequiredProcedures.{read_variables}
use Rattle.pc_facts.specs.Known.{Known}
use Rattle.pc_facts.specs.Shows.{ShowsNode, ShowsArgument, ShowsFormals, ShowsVariable, AllShow}
use Rattle.pc_facts.specs.declared.sighting.Formal.{Formal}
use Rattle.pc_facts.specs.declared.sighting.Variable.{Variable}
use Rattle.pc_facts.specs.declared.facts.Argument.{Argument}
use Rattle.pc_call_rules.specs.Parameters.{ShowsFormal, ShowsVariables, Logs, is_by_place}
use Rattle.pc_call_rules.proofs.EntrySteps.{by-place}
use Rattle.pc_call_rules.proofs.ListSteps.{last-shown, same-length, formal_at, shows-formal}

-- one more of a list
pub taken : {X : Type 0} (xs : List X) (i : ℕ) (y : X) → i < length xs → y ≡ get_or xs i y → take (i + 1) xs ≡ take i xs ++ y ∷ []
taken xs i y h e = take_more xs i y h ∙ ap (λ m. take i xs ++ m ∷ []) (sym e)

or-assoc : (a b c : Bool) → (a || (b || c)) ≡ ((a || b) || c)
or-assoc true b c = refl
or-assoc false b c = refl

or-false : (a : Bool) → (a || false) ≡ a
or-false true = refl
or-false false = refl

and-assoc : (a b c : Bool) → (a && (b && c)) ≡ ((a && b) && c)
and-assoc true b c = refl
and-assoc false b c = refl

and-true : (a : Bool) → (a && true) ≡ a
and-true true = refl
and-true false = refl

any_hole-last : (ms : List Node) (m : Node) → any_hole (ms ++ m ∷ []) ≡ (any_hole ms || m.hole)
any_hole-last [] m = or-false m.hole
any_hole-last (n ∷ ms) m = ap (λ x. n.hole || x) (any_hole-last ms m) ∙ or-assoc n.hole (any_hole ms) m.hole

pub any_hole-more : (k : Known) (ys : List Argument) (y : Argument) (old new : Bool) → ((ms : List Node) → AllShow (ShowsArgument k) ys ms → old ≡ any_hole ms) → new ≡ (old || y.at.hole) →
    (ns : List Node) → AllShow (ShowsArgument k) (ys ++ y ∷ []) ns → new ≡ any_hole ns
any_hole-more k ys y old new before one ns shown =
    let l = last-shown (ShowsArgument k) ys y ns shown in
    one ∙ ap (λ x. x || y.at.hole) (before l.front l.before) ∙ ap (λ x. any_hole l.front || x) l.here.at.hole ∙ sym (any_hole-last l.front l.last) ∙ ap any_hole (sym l.is)

arguments_typed-last : (fs : List rules.Formal) (ms : List Node) (m : Node) → rule.arguments_typed fs (ms ++ m ∷ []) ≡ (rule.arguments_typed fs ms && is_some (rule.argument_type (formal_at fs ms) m))
arguments_typed-last fs [] m = and-true _
arguments_typed-last fs (n ∷ ms) m =
    ap (λ x. is_some (rule.argument_type (head fs) n) && x) (arguments_typed-last (tail fs) ms m)
    ∙ and-assoc (is_some (rule.argument_type (head fs) n)) (rule.arguments_typed (tail fs) ms) _

-- the formal parameter with the number of the nodes before
formal-here : (k : Known) (fs : List Formal) (gs : List rules.Formal) (ys : List Argument) (ms : List Node) (number : ℕ) (f : Option Formal) → number ≡ length ys → f ≡ slice_get fs number →
    ShowsFormals k fs gs → AllShow (ShowsArgument k) ys ms → ShowsFormal k f (formal_at gs ms)
formal-here k fs gs ys ms number f counted is formals shown =
    subst (λ (x : Option Formal). ShowsFormal k x (formal_at gs ms)) (sym (is ∙ ap (λ x. slice_get fs x) (counted ∙ same-length (ShowsArgument k) ys ms shown))) (shows-formal k fs gs ms formals)

pub arguments_typed-more : (k : Known) (fs : List Formal) (gs : List rules.Formal) (ys : List Argument) (y : Argument) (number : ℕ) (f : Option Formal) (place old new one : Bool) → number ≡ length ys → f ≡ slice_get fs number →
    place ≡ is_by_place f → ShowsFormals k fs gs → ((ms : List Node) → AllShow (ShowsArgument k) ys ms → old ≡ rule.arguments_typed gs ms) →
    ((g : Option rules.Formal) (n : Node) → place ≡ rule.is_by_place g → ShowsNode k y.at n.at → one ≡ is_some (rule.argument_type g n)) → new ≡ (old && one) →
    (ns : List Node) → AllShow (ShowsArgument k) (ys ++ y ∷ []) ns → new ≡ rule.arguments_typed gs ns
arguments_typed-more k fs gs ys y number f place old new one counted is places formals before here both ns shown =
    let l = last-shown (ShowsArgument k) ys y ns shown in
    let g = formal-here k fs gs ys l.front number f counted is formals l.before in
    both ∙ ap (λ x. x && one) (before l.front l.before)
    ∙ ap (λ x. rule.arguments_typed gs l.front && x) (here (formal_at gs l.front) l.last (places ∙ by-place k f (formal_at gs l.front) g) l.here.at)
    ∙ sym (arguments_typed-last gs l.front l.last) ∙ ap (λ x. rule.arguments_typed gs x) (sym l.is)

passed_by_place-last : (fs : List rules.Formal) (ms : List Node) (m : Node) →
    rule.passed_by_place fs (ms ++ m ∷ []) ≡ rule.passed_by_place fs ms ++ (if rule.is_by_place (formal_at fs ms) then m.variable else [])
passed_by_place-last fs [] m = append-nil _
passed_by_place-last fs (n ∷ ms) m =
    ap (λ x. (if rule.is_by_place (head fs) then n.variable else []) ++ x) (passed_by_place-last (tail fs) ms m)
    ∙ sym (append_assoc (if rule.is_by_place (head fs) then n.variable else []) (rule.passed_by_place (tail fs) ms) _)

read_variables-last : (ms : List Node) (m : Node) → read_variables (ms ++ m ∷ []) ≡ read_variables ms ++ m.variable
read_variables-last [] m = append-nil _
read_variables-last (n ∷ ms) m = ap (λ x. n.variable ++ x) (read_variables-last ms m) ∙ sym (append_assoc n.variable (read_variables ms) _)

ShowsVariables-append : (k : Known) (vs : List Variable) (ws : List (Owner × List ℕ)) (xs : List Variable) (ys : List (Owner × List ℕ)) → ShowsVariables k vs ws → ShowsVariables k xs ys → ShowsVariables k (vs ++ xs) (ws ++ ys)
ShowsVariables-append k [] [] xs ys h g = g
ShowsVariables-append k (v ∷ vs) (w ∷ ws) xs ys h g = (h.0, ShowsVariables-append k vs ws xs ys h.1 g)
ShowsVariables-append k [] (w ∷ ws) xs ys h g = absurd h
ShowsVariables-append k (v ∷ vs) [] xs ys h g = absurd h

pub Logs-nothing : (k : Known) (old new : List Variable) → new ≡ old → Logs k old new []
Logs-nothing k old new e = ([], e ∙ sym (append-nil old), tt)

pub Logs-then : (k : Known) (a b c : List Variable) (ws xs : List (Owner × List ℕ)) → Logs k a b ws → Logs k b c xs → Logs k a c (ws ++ xs)
Logs-then k a b c ws xs h g = (h.0 ++ g.0, g.1 ∙ ap (λ x. x ++ g.0) h.1 ∙ append_assoc a h.0 g.0, ShowsVariables-append k h.0 ws g.0 xs h.2 g.2)

pub passed_by_place-more : (k : Known) (fs : List Formal) (gs : List rules.Formal) (ys : List Argument) (y : Argument) (number : ℕ) (f : Option Formal) (place : Bool) (start old new : List Variable) → number ≡ length ys → f ≡ slice_get fs number →
    place ≡ is_by_place f → ShowsFormals k fs gs → ((ms : List Node) → AllShow (ShowsArgument k) ys ms → Logs k start old (rule.passed_by_place gs ms)) →
    ((ws : List (Owner × List ℕ)) → ShowsVariable k y.at.variable ws → Logs k old new (if place then ws else [])) →
    (ns : List Node) → AllShow (ShowsArgument k) (ys ++ y ∷ []) ns → Logs k start new (rule.passed_by_place gs ns)
passed_by_place-more k fs gs ys y number f place start old new counted is places formals before here ns shown =
    let l = last-shown (ShowsArgument k) ys y ns shown in
    let g = formal-here k fs gs ys l.front number f counted is formals l.before in
    let e : place ≡ rule.is_by_place (formal_at gs l.front) = places ∙ by-place k f (formal_at gs l.front) g in
    subst (λ (x : List (Owner × List ℕ)). Logs k start new x)
    (ap (λ x. rule.passed_by_place gs l.front ++ (if x then l.last.variable else [])) e ∙ sym (passed_by_place-last gs l.front l.last) ∙ ap (λ x. rule.passed_by_place gs x) (sym l.is))
    (Logs-then k start old new _ _ (before l.front l.before) (here l.last.variable l.here.at.variable))

pub read_variables-more : (k : Known) (ys : List Argument) (y : Argument) (start old new : List Variable) → ((ms : List Node) → AllShow (ShowsArgument k) ys ms → Logs k start old (read_variables ms)) →
    ((ws : List (Owner × List ℕ)) → ShowsVariable k y.at.variable ws → Logs k old new ws) →
    (ns : List Node) → AllShow (ShowsArgument k) (ys ++ y ∷ []) ns → Logs k start new (read_variables ns)
read_variables-more k ys y start old new before here ns shown =
    let l = last-shown (ShowsArgument k) ys y ns shown in
    subst (λ (x : List (Owner × List ℕ)). Logs k start new x) (sym (read_variables-last l.front l.last) ∙ ap read_variables (sym l.is))
    (Logs-then k start old new _ _ (before l.front l.before) (here l.last.variable l.here.at.variable))
