use Rattle.std.proofs.Common.{◌≡◌, ◌<◌, ◌-◌, ◌∷◌, [], ℕ, List, length, reverse, drop, arith, refl, ap, sym, ◌∙◌, subst}
use Rattle.std.proofs.lemmas.List.{reverse-append}
use Rattle.std.proofs.lemmas.Option.{slice_get_read}
use Rattle.pc_syntax.specs.Plain.{Plain, forest_of}
use Rattle.pc_syntax.specs.PartsLaws.{forest_of-kids_of}
use Rattle.pc_scope.specs.Headings.{Heading, heading_of, headings_in}
use Rattle.pc_places.specs.MovesLaws.{Keeps-then}
use Rattle.pc_routines.specs.Heads.{ShowsHeads}
use Rattle.pc_routines.specs.HeadsLaws.{heads-more, headings-drop, HasLater-grows}
use Rattle.pc_routines.specs.Later.{HasLater}
use Rattle.pc_routines.specs.declared.head.RoutineHead.{RoutineHead}
use Rattle.pc_routines.proofs.gathering.heads.Goals as goal

pub loop-i-preserved : goal.loop-i-preserved
loop-i-preserved c =
    let kids = c.kid_slice-kids.result.now in
    let i = c.loop-i.i in
    let t = c.index-kids-i.result in
    let old = c.loop-i.tables.names.texts in
    let new = c.head_of.new.tables.names.texts in
    let x = c.in_ok-head.head in
    let h = heading_of t.kind t.kids in
    let hs = headings_in (forest_of (drop i kids)) in
    let keeps = c.in_ok-head.ensures.keeps in
    let less : i - 1 < length kids = omega (arith, c.loop-i-test.true, c.loop-i.invariant.within) in
    let is : headings_in (forest_of (drop (i - 1) kids)) ≡ h ∷ hs = headings-drop kids i t less c.loop-i-test.true (slice_get_read kids (length kids) (i - 1) t refl less c.index-kids-i.is) in
    let front : reverse c.push.new.self.items ≡ x ∷ reverse c.loop-i.heads.items = ap reverse c.in_ok-push.ensures.items ∙ reverse-append c.loop-i.heads.items (x ∷ []) in
    record {
      within = omega (arith, c.loop-i.invariant.within);
      shows = subst (λ (gs : List Heading). ShowsHeads new (reverse c.push.new.self.items) gs) (sym is)
          (subst (λ (xs : List RoutineHead). ShowsHeads new xs (h ∷ hs)) (sym front)
          (heads-more old new c.loop-i.later x (reverse c.loop-i.heads.items) h hs keeps.grows.names c.in_ok-head.ensures.head c.in_ok-head.ensures.later c.loop-i.invariant.later c.loop-i.invariant.shows));
      later = subst (λ (gs : List Heading). HasLater new c.pass.new.later gs) (sym is)
          (c.in_ok-pass.ensures new h hs c.in_ok-head.ensures.head (HasLater-grows old new c.loop-i.later hs keeps.grows.names c.loop-i.invariant.later));
      keeps = Keeps-then c.args.tables.now c.loop-i.tables c.head_of.new.tables c.loop-i.invariant.keeps keeps;
    }

pub returns-clause-shows : goal.returns-clause-shows
returns-clause-shows c =
    let kids = c.kid_slice-kids.result.now in
    let names = c.loop-i.tables.names.texts in
    let done : c.loop-i.i ≡ 0 = omega (arith, c.loop-i-test.false) in
    let all : headings_in (forest_of (drop c.loop-i.i kids)) ≡ headings_in c.args.routines.now.kids =
    ap (λ (n : ℕ). headings_in (forest_of (drop n kids))) done ∙ ap (λ (ts : List Plain). headings_in (forest_of ts)) c.kid_slice-kids.ensures.value
    ∙ ap headings_in (forest_of-kids_of c.args.routines.now) in
    subst (λ (xs : List RoutineHead). ShowsHeads names xs (headings_in c.args.routines.now.kids)) (sym c.reverse.ensures.items)
    (subst (λ (gs : List Heading). ShowsHeads names (reverse c.loop-i.heads.items) gs) all c.loop-i.invariant.shows)
