use Rattle.std.proofs.Common.{Option, sym, ◌∙◌, subst, ap, List, ◌++◌}
use Rattle.pc_syntax.specs.Words.{lowered}
use Rattle.pc_types.specs.Shapes.{Typed}
use Rattle.pc_types.specs.Rows.{seen}
use Rattle.pc_types.specs.Table.{Table}
use Rattle.pc_rules.specs.Attributes.{Entry}
use Rattle.pc_rules.specs.Denoters.{type_of_found}
use Rattle.pc_rules.specs.Routines.{bare}
use Rattle.pc_environment.specs.Decorating.{attributes_at}
use Rattle.pc_facts.specs.Shows.{ShowsType}
use Rattle.pc_places.specs.Places.{node_at}
use Rattle.pc_places.specs.Scenes.{unsigned_found}
use Rattle.pc_places.specs.UnsignedLaws.{unsigned_node, type_name_entries-unsigned, type_of_found-unsigned}
use Rattle.pc_name_rules.specs.Uses.{used_entries}
use Rattle.pc_name_rules.specs.declared.allowed.Allowed.TheVariants as allowed
use Rattle.pc_headings.specs.AtLaws.{at-word}
use Rattle.pc_headings.proofs.types.used_type.Goals as goal

pub returns : goal.returns
returns c = λ k means l using table sees.
    let node = c.args.node.now in
    let n = node_at (bare means) l node in
    let a = attributes_at (bare means) l node in
    let shown = c.in_ok-named.ensures k (bare means) l c.requires.class using table sees in
    let of = c.type_of_sighting-of.ensures k (lowered a.word) (unsigned_found a.found) table shown.found in
    record {
      hole = shown.hole ∙ sym shown.is_hole;
      entries = c.in_ok-add_name_entries.ensures k (unsigned_node n) shown (at-word (bare means) l node ∙ sym c.word.ensures)
          ∙ ap (λ (es : List Entry). es ++ used_entries allowed.Type (unsigned_node n)) c.new-entries.ensures.items
          ∙ type_name_entries-unsigned n;
      type = subst (λ (t : Table). ShowsType t c.type_of_sighting-of.result (type_of_found a.found)) (sym table)
          (subst (λ (ty : Option Typed). ShowsType (seen c.args.types.now) c.type_of_sighting-of.result ty) (type_of_found-unsigned a.found) of);
    }
