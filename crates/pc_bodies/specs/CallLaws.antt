-- What is found at the parts of a call or procedure statement; and what the call of a function touches: what its parts do, and then
-- the variables that it passes by place.
use Rattle.std.specs.Prelude.{◌≡◌, ℕ, Bool, true, false, if◌then◌else◌, List, [], ◌∷◌, ◌++◌}
use Rattle.std.proofs.Common.{refl, ap, sym, ◌∙◌, subst, append-nil}
use Rattle.pc_syntax.specs.Plain.{Plain, kids_of}
use Rattle.pc_syntax.specs.declared.kind.Kind.{Kind}
use Rattle.pc_types.specs.Rows.{seen}
use Rattle.pc_types.specs.Shapes.{Owner}
use Rattle.pc_scope.specs.Required.{is_required_function}
use Rattle.pc_rules.specs.Arguments.{passed_by_place, declared_call}
use Rattle.pc_rules.specs.Attributes.{Node, nodes, kids_below}
use Rattle.pc_rules.specs.HandedOn.{all_touches, any_hole}
use Rattle.pc_rules.specs.Meanings as rules
use Rattle.pc_rules.specs.Meanings.{Found, Local, Outside}
use Rattle.pc_rules.specs.Places.{opens_records}
use Rattle.pc_rules.specs.RequiredFunctions.{end_test, function_of_one, required_call, call_by, call_rule}
use Rattle.pc_environment.specs.Decorating.{attributes_at, below_at, place_behind}
use Rattle.pc_environment.specs.RowLaws.{SeesFrom, sees-behind}
use Rattle.pc_environment.specs.Sight.{Sight, is_body}
use Rattle.pc_facts.specs.Shows.{AllShow, ShowsArgument, ShowsName}
use Rattle.pc_facts.specs.declared.facts.Argument.{Argument}
use Rattle.pc_facts.specs.declared.sighting.Named.{Named}
use Rattle.pc_rules.specs.Variables.{is_end_test}
use Rattle.pc_call_rules.specs.Calls.{ShowsCall, call_touches}
use Rattle.pc_growth.specs.Grows.{Begins}
use Rattle.pc_growth.specs.GrowsLaws.{ShowsName-grows}
use Rattle.pc_bodies.specs.declared.body.Body.{Body}
use Rattle.pc_bodies.specs.declared.body.Going.{Going}
use Rattle.pc_bodies.specs.NodesAt.{node_at, first_place}
use Rattle.pc_bodies.specs.Resolved.{known, ResolveAs, Stands}
use Rattle.pc_bodies.specs.RowsLaws.{kids-of-kind}
use Rattle.pc_bodies.specs.SeesLaws.{known-grows, sees-first, stands-kept}

-- what is found at a name that is used, wherever it stands
abbrev pub NamedAt : Body → Going → Going → Plain → Named → Type 0
NamedAt b old new t m =
    (out : Outside) (l : Local) (s : Sight) → SeesFrom out l s → l.using ≡ true → Stands b (known b old) old.opened.items s → ShowsName (known b new) m (attributes_at out l t)

-- the name and the arguments of a call or procedure statement were gone through
pub called-at : (b : Body) (g0 g1 g2 : Going) (k j : Kind) (name list : Plain) (m : Named) (gs : List Argument) → is_body k ≡ true → opens_records k ≡ false → is_body j ≡ true → opens_records j ≡ false →
    ((l : Local) → (first_place l k (name ∷ list ∷ [])).using ≡ true) → is_body name.kind ≡ true → list.kind ≡ j →
    ((out : Outside) (l : Local) → (attributes_at out l list).hole ≡ any_hole (nodes (below_at out l list))) → g1.opened.items ≡ g0.opened.items → Begins g0.texts.items g1.texts.items →
    NamedAt b g0 g1 name m → ResolveAs ShowsArgument b g1 g2 (kids_of list) gs → (out : Outside) (l : Local) (s : Sight) → SeesFrom out l s → Stands b (known b g0) g0.opened.items s →
    ShowsCall (known b g2) (seen b.types.now) m gs (node_at out (first_place l k (name ∷ list ∷ [])) name) (node_at out (place_behind out (first_place l k (name ∷ list ∷ [])) name) list)
called-at b g0 g1 g2 k j name list m gs body opens inside closed using isn is hole o x named row out l s sees stands =
    let l1 = first_place l k (name ∷ list ∷ []) in
    let l2 = place_behind out l1 name in
    let l3 = first_place l2 j (kids_of list) in
    let first = sees-first out l s k (name ∷ list ∷ []) body opens sees in
    let second = sees-behind out l1 s name isn first in
    let third = sees-first out l2 s j (kids_of list) inside closed second in
    record {
      table = refl;
      name = ShowsName-grows (known b g1) (known b g2) m (attributes_at out l1 name) (known-grows b g1 g2 row.texts) (named out l1 s first (using l) stands);
      hole = hole out l2;
      passed = subst (λ (ns : List Node). AllShow (ShowsArgument (known b g2)) gs ns) (sym (kids-of-kind out l2 list j is)) (row.shows out l3 s third (stands-kept b g0 g1 s o x stands));
    }

-- ---- what a call of a function touches

none-passed : (ks : List Node) → passed_by_place [] ks ≡ []
none-passed [] = refl
none-passed (k ∷ ks) = none-passed ks

required-touches : (b : Bool) (n : List ℕ) (name args : Node) → (if b then end_test name args else function_of_one n name args).touches ≡ all_touches (name ∷ args ∷ [])
required-touches true n name args = refl
required-touches false n name args = refl

declared-touches : (f : Found) (name args : Node) → name.at.found ≡ f → (declared_call name args).touches ≡ all_touches (name ∷ args ∷ []) ++ call_touches f (kids_below args)
declared-touches f name args e = ap (λ (g : Found). all_touches (name ∷ args ∷ []) ++ call_touches g (kids_below args)) e

either-touches : (b : Bool) (n : List ℕ) (name args : Node) → name.at.found ≡ rules.Required n →
    (if b then required_call n name args else declared_call name args).touches ≡ all_touches (name ∷ args ∷ []) ++ call_touches (rules.Required n) (kids_below args)
either-touches true n name args e =
    required-touches (is_end_test n) n name args ∙ sym (append-nil (all_touches (name ∷ args ∷ []))) ∙ ap (λ (ws : List (Owner × List ℕ)). all_touches (name ∷ args ∷ []) ++ ws) (sym (none-passed (kids_below args)))
either-touches false n name args e = declared-touches (rules.Required n) name args e

by-touches : (f : Found) (name args : Node) → name.at.found ≡ f → (call_by f name args).touches ≡ all_touches (name ∷ args ∷ []) ++ call_touches f (kids_below args)
by-touches (rules.Required n) name args e = either-touches (is_required_function n) n name args e
by-touches f name args e = declared-touches f name args e

pub call-touches : (name args : Node) → (call_rule name args).touches ≡ all_touches (name ∷ args ∷ []) ++ call_touches name.at.found (kids_below args)
call-touches name args = by-touches name.at.found name args refl
