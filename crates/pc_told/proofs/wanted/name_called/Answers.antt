use Rattle.std.proofs.Common.{◌≡◌, sym, subst, []}
use Rattle.std.specs.Prelude.{Some, None, slice_get}
use Rattle.pc_syntax.specs.Plain.{kids_of}
use Rattle.pc_syntax.specs.Words.{lowered}
use Rattle.pc_rules.specs.Attributes.{Attributes}
use Rattle.pc_rules.specs.Places.{inner}
use Rattle.pc_environment.specs.Decorating.{attributes_at}
use Rattle.pc_environment.specs.Sight.{sight_of}
use Rattle.pc_environment.specs.SightLaws.{sight-inner}
use Rattle.pc_facts.specs.Shows.{ShowsFound}
use Rattle.pc_facts.specs.declared.sighting.Sighting.TheVariants as sighting
use Rattle.pc_bodies.specs.Resolved.{known}
use Rattle.pc_told.specs.CallLaws.{first-kid, no-kid, name-class, call-uses, call-body}
use Rattle.pc_told.proofs.wanted.name_called.Goals as goal

pub returns-in_ok-named-in-Some-clause-shows : goal.returns-in_ok-named-in-Some-clause-shows
returns-in_ok-named-in-Some-clause-shows c = λ out l stands.
    let b = c.args.body.now in
    let node = c.args.node.now in
    let name = c.in-Some.name.now in
    let named = c.in_ok-named-in-Some.named in
    let k = known b c.used_name.new.going in
    let l1 = inner l node.kind node.kids in
    let there : slice_get (kids_of node) 0 ≡ Some name = sym c.in-Some.ensures.value in
    let sight = sight-inner out l node.kind node.kids (call-body node.kind c.requires.call) in
    let shown = c.in_ok-named-in-Some.ensures.shows out l1 (sight_of out l) (name-class node name c.in-Some.ensures.proper c.requires.call there) sight (call-uses node.kind l.using c.requires.call) stands in
    let n = lowered (attributes_at out l1 name).word in
    (n, subst (λ (a : Attributes). ShowsFound k n named.sighting a.found) (sym (first-kid out l node name there)) shown.found)

pub returns-in-None-clause-shows : goal.returns-in-None-clause-shows
returns-in-None-clause-shows c = λ out l stands.
    let k = known c.args.body.now c.args.going.now in
    let node = c.args.node.now in
    let there : slice_get (kids_of node) 0 ≡ None = sym c.in-None.ensures.value in
    ([], subst (λ (a : Attributes). ShowsFound k [] sighting.Missing a.found) (sym (no-kid out l node there)) tt)
