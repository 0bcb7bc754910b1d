use Rattle.std.proofs.Common.{◌≡◌, ◌++◌, List, map, refl, ap, ◌∙◌, subst}
use Rattle.pc_growth.specs.Grows.{Begins}
use Rattle.pc_facts.specs.declared.sighting.Variable.{Variable}
use Rattle.pc_sightings.specs.TouchedLog.{numbers_of}
use Rattle.pc_places.specs.NumberingLaws.{Keeps-texts}
use Rattle.pc_statement_parts.specs.Parts.{known_with}
use Rattle.pc_statement_parts.specs.PartLaws.{noted-part}
use Rattle.pc_statement_parts.proofs.parts.statement_part.Goals as goal

pub returns : goal.returns
returns c =
    let old = c.args.tables.now in
    let texts = c.facts_of.new.going.texts in
    let new = record old { texts = texts; small = c.facts_of.new.going.small } in
    let same : c.replace.result.items ≡ old.texts.items = ap (λ ts. ts.items) c.replace.ensures.value in
    record {
      found = noted-part old c.args.block.0 c.args.owner.0 c.args.own_function c.args.touched.now c.args.mark c.args.node.now (known_with old texts.items) _ c.new-2.result.items c.facts_of.new.going.touched.items _ _
          (c.in_ok-found.ensures.found old (record { types = refl; names = refl; declarations = refl; signatures = refl }) same c.new.ensures.items)
          c.new-2.ensures.items c.entries_of.ensures (c.in_ok-note_all.ensures ∙ ap (λ (vs : List Variable). c.args.touched.now ++ map numbers_of vs) c.as_slice.ensures.value);
      keeps = Keeps-texts old new refl (subst (λ ts. Begins ts texts.items) same c.in_ok-found.ensures.texts) refl refl refl;
    }
