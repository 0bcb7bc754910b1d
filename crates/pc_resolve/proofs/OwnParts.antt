-- The five parts of a routine's own block, and their entries: lemmas.
use Rattle.std.proofs.Common.{◌≡◌, true, List, [], ◌∷◌, ◌++◌, ap, sym, ◌∙◌, subst, append-nil, append_assoc}
use Rattle.pc_syntax.specs.Layout.{layout}
use Rattle.pc_syntax.specs.Plain.{Plain, forest_of, kids_of, count, kinds}
use Rattle.pc_syntax.specs.PartsLaws.{forest_of-kids_of}
use Rattle.pc_syntax.specs.WellFormed.{IsProper, fits_some}
use Rattle.pc_syntax.specs.declared.kind.Kind.{Kind}
use Rattle.pc_syntax.specs.declared.kind.Kind.TheVariants as kind
use Rattle.pc_rules.specs.Attributes.{Attributes, Entry, Marked, at_kid, nodes}
use Rattle.pc_rules.specs.Decorated.{decorate, rule, seen}
use Rattle.pc_rules.specs.HandedOn.{kid_entries}
use Rattle.pc_rules.specs.Meanings.{Local, Outside}
use Rattle.pc_rules.specs.ListRuleLaws.{rule-routines}
use Rattle.pc_rules.specs.OwnBlock.{own}
use Rattle.pc_rules.specs.Places.{inner}
use Rattle.pc_environment.specs.Decorating.{attributes_at, place_behind}
use Rattle.pc_environment.specs.DecoratingLaws.{at-node, decorate-forest_of}
use Rattle.pc_program_laws.specs.Routines.{OwnBlockLaw, with_bare_routines}

-- the list of the routines of a block, as it stands in its own block
abbrev pub own_list : Plain → Plain
own_list t = record { kind = t.kind; word = t.word; notes = t.notes; kids = own t.kids }

-- the trees of a well-formed block
pub own-five : OwnBlockLaw → (node a b c d e : Plain) → node.kind ≡ kind.Block → IsProper node → kids_of node ≡ a ∷ b ∷ c ∷ d ∷ e ∷ [] → own node.kids ≡ forest_of (a ∷ b ∷ c ∷ own_list d ∷ e ∷ [])
own-five law node a b c d e is proper five =
    let fits : fits_some (layout kind.Block node.word (count node.kids)) (kinds node.kids) ≡ true =
    subst (λ (k : Kind). fits_some (layout k node.word (count node.kids)) (kinds node.kids) ≡ true) is proper.sound.0 in
    let kids : node.kids ≡ forest_of (a ∷ b ∷ c ∷ d ∷ e ∷ []) = sym (forest_of-kids_of node) ∙ ap forest_of five in
    law node.word node.kids fits proper.sound.3 ∙ ap with_bare_routines kids

-- five lists, one behind the other, from the last and from the first
five-behind : (a b c d e : List Entry) → a ++ (b ++ (c ++ (d ++ (e ++ [])))) ≡ a ++ b ++ c ++ d ++ e
five-behind a b c d e =
    ap (λ (es : List Entry). a ++ (b ++ (c ++ (d ++ es)))) (append-nil e)
    ∙ sym (append_assoc a b (c ++ (d ++ e))) ∙ sym (append_assoc (a ++ b) c (d ++ e)) ∙ sym (append_assoc (a ++ b ++ c) d e)

-- their entries
pub five-entries : (out : Outside) (l : Local) (a b c d e : Plain) →
    let l1 = place_behind out l a in
    let l2 = place_behind out l1 b in
    let l3 = place_behind out l2 c in
    let l4 = place_behind out l3 d in
    kid_entries 1 (nodes (decorate out l (forest_of (a ∷ b ∷ c ∷ d ∷ e ∷ []))))
    ≡ at_kid 1 (attributes_at out l a).as_value.entries ++ at_kid 2 (attributes_at out l1 b).as_value.entries ++ at_kid 3 (attributes_at out l2 c).as_value.entries
    ++ at_kid 4 (attributes_at out l3 d).as_value.entries ++ at_kid 5 (attributes_at out l4 e).as_value.entries
five-entries out l a b c d e =
    let l1 = place_behind out l a in
    let l2 = place_behind out l1 b in
    let l3 = place_behind out l2 c in
    let l4 = place_behind out l3 d in
    let first = at_kid 1 (attributes_at out l a).as_value.entries in
    let second = at_kid 2 (attributes_at out l1 b).as_value.entries in
    let third = at_kid 3 (attributes_at out l2 c).as_value.entries in
    let fourth = at_kid 4 (attributes_at out l3 d).as_value.entries in
    let fifth = at_kid 5 (attributes_at out l4 e).as_value.entries in
    ap (λ (m : Marked). kid_entries 1 (nodes m)) (decorate-forest_of out l (a ∷ b ∷ c ∷ d ∷ e ∷ [])) ∙ five-behind first second third fourth fifth

-- the entries of the list of routines are those of the routines in it
pub list-entries : (out : Outside) (l : Local) (d : Plain) → d.kind ≡ kind.Routines →
    (attributes_at out l (own_list d)).as_value.entries ≡ kid_entries 1 (nodes (decorate out (inner l kind.Routines (own d.kids)) (own d.kids)))
list-entries out l d is =
    ap (λ (a : Attributes). a.as_value.entries) (at-node out l (own_list d))
    ∙ (λ i. (rule l (is i) d.word (seen out l (is i) d.word) (decorate out (inner l (is i) (own d.kids)) (own d.kids))).as_value.entries)
    ∙ ap (λ (a : Attributes). a.as_value.entries) (rule-routines l d.word (seen out l kind.Routines d.word) (decorate out (inner l kind.Routines (own d.kids)) (own d.kids)))
