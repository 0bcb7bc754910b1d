use Rattle.std.proofs.Common.{ℕ, List, ◌∷◌, [], ◌++◌, None, refl, sym, ◌∙◌, subst}
use Rattle.pc_rules.specs.Meanings.{Meaning}
use Rattle.pc_facts.specs.declared.sighting.Declared.{Declared}
use Rattle.pc_places.specs.Parameters.{ShowsParameters}
use Rattle.pc_headings.specs.DeclaredLaws.{declared-more}
use Rattle.pc_headings.specs.ListedLaws.{ShowsParameters-more, group-declares}
use Rattle.pc_places.specs.declared.parameter.Parameter.{Parameter}
use Rattle.pc_headings.specs.Listing.{AreDeclared}
use Rattle.pc_headings.proofs.names.add_parameter.Goals as goal

pub returns-clause-parameters : goal.returns-clause-parameters
returns-clause-parameters c = λ k es n m s name group.
    let g = c.args.group in
    let ds = c.args.declarations.now.items in
    let ps = c.args.parameters.now.items in
    let x : Declared = record { class = g.class; owner = g.owner; name = c.args.name; value = None; of = g.of; signature = None } in
    let p : Parameter = record { name = c.args.name; declaration = record { 0 = c.in_ok-id.id } } in
    let all : List (List ℕ × Meaning) = es ++ (n, m) ∷ [] in
    subst (λ (xs : List Declared). ShowsParameters k xs c.push-2.new.self.items all) (sym c.in_ok-push.ensures.items)
    (subst (λ (qs : List Parameter). ShowsParameters k (ds ++ x ∷ []) qs all) (sym c.in_ok-push-2.ensures.items)
    (ShowsParameters-more k ds x ps es p n m s (c.in_ok-id.ensures ∙ c.len.ensures ∙ c.args.declarations.now.ok.0) name (group-declares k g c.args.name n m group name)))

pub returns-clause-declared : goal.returns-clause-declared
returns-clause-declared c = λ names there class before.
    let g = c.args.group in
    let ds = c.args.declarations.now.items in
    let ps = c.args.parameters.now.items in
    let x : Declared = record { class = g.class; owner = g.owner; name = c.args.name; value = None; of = g.of; signature = None } in
    let p : Parameter = record { name = c.args.name; declaration = record { 0 = c.in_ok-id.id } } in
    subst (λ (xs : List Declared). AreDeclared names xs c.push-2.new.self.items) (sym c.in_ok-push.ensures.items)
    (subst (λ (qs : List Parameter). AreDeclared names (ds ++ x ∷ []) qs) (sym c.in_ok-push-2.ensures.items)
    (declared-more names ds x ps p before (c.in_ok-id.ensures ∙ c.len.ensures ∙ c.args.declarations.now.ok.0) refl there class refl))
