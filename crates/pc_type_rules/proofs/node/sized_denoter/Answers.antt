use Rattle.std.proofs.Common.{◌∙◌, ◌++◌, ap}
use Rattle.pc_rules.specs.Attributes.{judged, Entry}
use Rattle.pc_rules.specs.StructuredTypes.{too_large}
use Rattle.std.specs.Prelude.{List}
use Rattle.pc_type_rules.proofs.NodeSteps.{shows-judged, shows-in}
use Rattle.pc_type_rules.proofs.node.sized_denoter.Goals as goal

pub returns : goal.returns
returns c = λ k w h es ty ds table hole entries shows.
    c.denoter.ensures k w h (es ++ too_large (judged h es ty).type) ty ds hole
    (c.in_ok-add_too_large.ensures (judged h es ty).type (shows-judged _ _ h _ es _ _ ty hole entries c.of_parts-judged.ensures.known (shows-in k.table _ _ ty table shows)) ∙ ap (λ (xs : List Entry). xs ++ too_large (judged h es ty).type) (ap (λ v. v.items) c.of_parts-judged.ensures.entries ∙ entries))
    shows
