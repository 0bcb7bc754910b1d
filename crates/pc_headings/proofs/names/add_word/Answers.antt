use Rattle.std.proofs.Common.{◌≡◌, ℕ, Bool, List, ◌∷◌, [], ◌++◌, length, Some, slice_get, if◌then◌else◌, ap, ◌∙◌, subst}
use Rattle.std.proofs.lemmas.Option.{slice_get_within}
use Rattle.pc_syntax.specs.Words.{lowered, is_among}
use Rattle.pc_names.specs.TableLaws.{slice_get-number_of}
use Rattle.pc_rules.specs.Headings.{formals_in}
use Rattle.pc_rules.specs.Meanings.{Meaning}
use Rattle.pc_rules.specs.Routines.{firsts}
use Rattle.pc_places.specs.Places.{known}
use Rattle.pc_places.specs.Parameters.{ShowsParameters}
use Rattle.pc_headings.specs.DeclaredLaws.{declared-keeps}
use Rattle.pc_headings.specs.ListedLaws.{ShowsListed-grows, ShowsGroup-grows, listed-with}
use Rattle.pc_headings.specs.Listing.{names_of}
use Rattle.pc_headings.proofs.names.add_word.Goals as goal

pub returns-clause-shows : goal.returns-clause-shows
returns-clause-shows c = λ es m s group.
    let t0 = c.args.tables.now in
    let t1 = c.number.new.tables in
    let k = known t1 in
    let w = lowered c.args.word.now in
    let name = c.in_ok-name.name in
    let keeps = c.in_ok-name.ensures.keeps in
    let listed = ShowsListed-grows (known t0) k t0.declarations.items t1.declarations.items c.args.listed.now es keeps.grows keeps.declarations s in
    let more = ShowsGroup-grows (known t0) k c.args.group m keeps.grows group in
    let at : slice_get t1.names.texts name.0 ≡ Some w = slice_get-number_of t1.names.texts w name.0 c.in_ok-name.ensures.number in
    let read : slice_get t1.names.texts name.0 ≡ Some c.name.result.now = c.name.ensures in
    let small : c.name.result.now ≡ w = cc in
    let twice : c.in_ok-twice.twice ≡ is_among (names_of es) w = c.in_ok-twice.ensures.twice (names_of es) s.passed ∙ ap (is_among (names_of es)) small in
    let one : List (List ℕ × Meaning) = (w, m) ∷ [] in (
      twice,
      listed-with k _ _ es w m
          (subst (λ (b : Bool). ShowsParameters k c.add_first.new.declarations.items c.add_first.new.parameters.items (firsts [] es ++ (if b then [] else one))) twice
          (c.in_ok-add_first.ensures.parameters k (firsts [] es) w m listed.parameters at more))
          (c.in_ok-listed.ensures k (formals_in es) w m listed.formals at more)
          (c.in_ok-twice.ensures.passed (names_of es) s.passed),
    )

pub returns-clause-declared : goal.returns-clause-declared
returns-clause-declared c = λ class before.
    let a = c.args.tables.now in
    let b = c.number.new.tables in
    let w = lowered c.args.word.now in
    let name = c.in_ok-name.name in
    let at : slice_get b.names.texts name.0 ≡ Some w = slice_get-number_of b.names.texts w name.0 c.in_ok-name.ensures.number in
    c.in_ok-add_first.ensures.declared (length b.names.texts) (slice_get_within b.names.texts name.0 w at) class
    (declared-keeps a b c.args.listed.now.parameters.items c.in_ok-name.ensures.keeps before)
