-- Which variables statements touch: lemmas about the rules.
use Rattle.std.specs.Prelude.{◌≡◌, ℕ, Bool, true, false, List, [], ◌∷◌, ◌++◌, codes, if◌then◌else◌, ◌||◌}
use Rattle.std.specs.Str.{bytes_eq}
use Rattle.std.proofs.Common.{refl, ap, ◌∙◌}
use Rattle.pc_scope.specs.Required.{is_required_procedure}
use Rattle.pc_types.specs.Shapes.{Owner}
use Rattle.pc_rules.specs.Attributes.{Attributes, Node, kids_below}
use Rattle.pc_rules.specs.Arguments.{passed_by_place, declared_procedure}
use Rattle.pc_rules.specs.HandedOn.{all_touches}
use Rattle.pc_rules.specs.Meanings.{Found, Here, Later, Component, Required, Missing}
use Rattle.pc_rules.specs.RequiredProcedures.{input_procedure, output_procedure, pointer_procedure, new_entries, dispose_entries, read_variables, behind_file, required_procedure, procedure_rule, procedure_by}
use Rattle.pc_rules.specs.RequiredFunctions.{has_file}
use Rattle.pc_call_rules.specs.Calls.{procedure_touches, required_touches}

none-passed : (ns : List Node) → passed_by_place [] ns ≡ []
none-passed [] = refl
none-passed (n ∷ ns) = none-passed ns

by-name : (b c d e f : Bool) (ts vs : List (Owner × List ℕ)) (r rl wr wl ne di : Attributes) → r.touches ≡ ts ++ vs → rl.touches ≡ ts ++ vs → wr.touches ≡ ts ++ [] → wl.touches ≡ ts ++ [] → ne.touches ≡ ts ++ [] → di.touches ≡ ts ++ [] →
    (if b then r else if c then rl else if d then wr else if e then wl else if f then ne else di).touches ≡ ts ++ (if b || c then vs else [])
by-name true c d e f ts vs r rl wr wl ne di h1 h2 h3 h4 h5 h6 = h1
by-name false true d e f ts vs r rl wr wl ne di h1 h2 h3 h4 h5 h6 = h2
by-name false false true e f ts vs r rl wr wl ne di h1 h2 h3 h4 h5 h6 = h3
by-name false false false true f ts vs r rl wr wl ne di h1 h2 h3 h4 h5 h6 = h4
by-name false false false false true ts vs r rl wr wl ne di h1 h2 h3 h4 h5 h6 = h5
by-name false false false false false ts vs r rl wr wl ne di h1 h2 h3 h4 h5 h6 = h6

required-touches : (n : List ℕ) (name args : Node) → (required_procedure n name args).touches ≡ all_touches (name ∷ args ∷ []) ++ required_touches n (kids_below args)
required-touches n name args =
    by-name (bytes_eq n (codes "read")) (bytes_eq n (codes "readln")) (bytes_eq n (codes "write")) (bytes_eq n (codes "writeln")) (bytes_eq n (codes "new"))
    (all_touches (name ∷ args ∷ [])) (read_variables (behind_file (has_file (codes "input") (kids_below args)) (kids_below args)))
    (input_procedure true name args) (input_procedure false name args) (output_procedure true name args) (output_procedure false name args) (pointer_procedure new_entries name args) (pointer_procedure dispose_entries name args)
    refl refl refl refl refl refl

either-touches : (b : Bool) (ts us vs : List (Owner × List ℕ)) (r d : Attributes) → r.touches ≡ ts ++ us → d.touches ≡ ts ++ vs → vs ≡ [] → (if b then r else d).touches ≡ ts ++ (if b then us else [])
either-touches true ts us vs r d h1 h2 h3 = h1
either-touches false ts us vs r d h1 h2 h3 = h2 ∙ ap (λ (xs : List (Owner × List ℕ)). ts ++ xs) h3

by-found : (f : Found) (name args : Node) → name.at.found ≡ f → (procedure_by f name args).touches ≡ all_touches (name ∷ args ∷ []) ++ procedure_touches f (kids_below args)
by-found (Required n) name args e =
    either-touches (is_required_procedure n) (all_touches (name ∷ args ∷ [])) (required_touches n (kids_below args)) (passed_by_place [] (kids_below args)) (required_procedure n name args) (declared_procedure name args)
    (required-touches n name args) (λ i. (declared_procedure (record name { at = record name.at { found = e i } }) args).touches) (none-passed (kids_below args))
by-found (Here m) name args e = λ i. (declared_procedure (record name { at = record name.at { found = e i } }) args).touches
by-found (Later c) name args e = λ i. (declared_procedure (record name { at = record name.at { found = e i } }) args).touches
by-found (Component t p) name args e = λ i. (declared_procedure (record name { at = record name.at { found = e i } }) args).touches
by-found Missing name args e = λ i. (declared_procedure (record name { at = record name.at { found = e i } }) args).touches

-- a procedure statement touches what its name and its arguments do, and what it reads or passes as variable arguments
pub procedure-touches : (name args : Node) → (procedure_rule name args).touches ≡ all_touches (name ∷ args ∷ []) ++ procedure_touches name.at.found (kids_below args)
procedure-touches name args = by-found name.at.found name args refl
