-- The entries of a block are those of its parts: lemmas.
use Rattle.std.proofs.Common.{◌≡◌, List, [], ◌∷◌, ◌++◌, ap, sym, ◌∙◌}
use Rattle.pc_syntax.specs.Plain.{Forest, Plain, forest_of}
use Rattle.pc_syntax.specs.declared.kind.Kind.TheVariants as kind
use Rattle.pc_rules.specs.Attributes.{Entry, at_kid, nodes}
use Rattle.pc_rules.specs.Decorated.{decorate}
use Rattle.pc_rules.specs.HandedOn.{kid_entries}
use Rattle.pc_rules.specs.Meanings.{Local, Outside}
use Rattle.pc_rules.specs.OwnBlock.{own}
use Rattle.pc_rules.specs.Places.{inner}
use Rattle.pc_environment.specs.Decorating.{attributes_at, place_after}
use Rattle.pc_facts.specs.Known.{Known}
use Rattle.pc_facts.specs.Shows.{value_of}
use Rattle.pc_program_laws.specs.Routines.{SamePlaceLaw}
use Rattle.pc_declaration_parts.specs.Blocks.{ShowsParts}
use Rattle.pc_declaration_parts.specs.declared.parts.Parts.{Parts}
use Rattle.pc_resolve.proofs.OwnParts.{five-entries, list-entries, own_list}

-- what code found at the five parts, from what was found at each
pub own-shown : SamePlaceLaw → (k : Known) (p : Parts) (out : Outside) (l : Local) (a b c d e : Plain) (f : Forest) (routines body es : List Entry) → d.kind ≡ kind.Routines → f ≡ forest_of (a ∷ b ∷ c ∷ own_list d ∷ e ∷ []) →
    ShowsParts k p out l a b c → routines ≡ kid_entries 1 (nodes (decorate out (inner (place_after out l (a ∷ b ∷ c ∷ [])) kind.Routines d.kids) (own d.kids))) →
    body ≡ (attributes_at out (place_after out l (a ∷ b ∷ c ∷ own_list d ∷ [])) e).as_value.entries →
    es ≡ at_kid 1 (value_of p.constants.judgement).entries.items ++ at_kid 2 (value_of p.types.judgement).entries.items ++ at_kid 3 (value_of p.variables.judgement).entries.items ++ at_kid 4 routines ++ at_kid 5 body →
    es ≡ kid_entries 1 (nodes (decorate out l f))
own-shown law k p out l a b c d e f routines body es is five parts of_routines of_body made =
    let l3 = place_after out l (a ∷ b ∷ c ∷ []) in
    let first = parts.constants_shown.value.entries in
    let second = parts.types_shown.value.entries in
    let third = parts.variables_shown.value.entries in
    let fourth : routines ≡ (attributes_at out l3 (own_list d)).as_value.entries =
    of_routines ∙ ap (λ (m : Local). kid_entries 1 (nodes (decorate out m (own d.kids)))) (sym (law l3 d.kids)) ∙ sym (list-entries out l3 d is) in
    made ∙ (λ i. at_kid 1 (first i) ++ at_kid 2 (second i) ++ at_kid 3 (third i) ++ at_kid 4 (fourth i) ++ at_kid 5 (of_body i))
    ∙ sym (five-entries out l a b c (own_list d) e) ∙ ap (λ (g : Forest). kid_entries 1 (nodes (decorate out l g))) (sym five)
