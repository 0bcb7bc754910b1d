use Rattle.std.proofs.Common.{◌≡◌, ℕ, List, ◌∷◌, [], ◌++◌, codes, ap, sym, ◌∙◌, subst}
use Rattle.pc_syntax.specs.Sorts.{is_hole}
use Rattle.pc_syntax.specs.Words.{lowered, is_among}
use Rattle.pc_rules.specs.Attributes.{Entry, at_kid}
use Rattle.pc_rules.specs.Entries.{note_if, quoted}
use Rattle.pc_rules.specs.Meanings.{Meaning}
use Rattle.pc_places.specs.Places.{known}
use Rattle.pc_headings.specs.Listing.{names_of, ShowsListed}
use Rattle.pc_headings.specs.NamesLaws.{AddsName-name}
use Rattle.pc_headings.proofs.names.add_name.Goals as goal

pub returns-in_ok-add_kid : goal.returns-in_ok-add_kid
returns-in_ok-add_kid c =
    let node = c.args.node.now in
    let new = c.add_word.new.tables in
    let twice = c.in_ok-twice.twice in
    let had = c.args.entries.now.items in
    let word = c.word-word.ensures in
    AddsName-name c.args.tables.now new c.args.group c.args.listed.now c.add_word.new.listed c.args.i node had c.add_kid.new.entries.items twice
    (ap is_hole (sym c.kind.ensures.value) ∙ sym c.is_hole.ensures ∙ c.if-is_hole.false)
    c.in_ok-twice.ensures.keeps
    (c.in_ok-add_kid.ensures
    ∙ ap (λ (es : List Entry). had ++ at_kid c.args.i es)
    (c.in_ok-add_note_if.ensures
    ∙ ap (λ (es : List Entry). es ++ note_if twice 3 (quoted (codes "declared twice") c.word-word.result.now)) c.new-own.ensures.items
    ∙ ap (λ (w : List ℕ). note_if twice 3 (quoted (codes "declared twice") w)) word))
    (λ es m s g. subst (λ (w : List ℕ). let one : List (List ℕ × Meaning) = (lowered w, m) ∷ [] in (twice ≡ is_among (names_of es) (lowered w)) × ShowsListed (known new) new.declarations.items c.add_word.new.listed (es ++ one)) word
    (c.in_ok-twice.ensures.shows es m s g))
    c.in_ok-twice.ensures.declared
