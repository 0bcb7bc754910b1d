-- The block of a routine in another one, where it has one: lemmas.
use Rattle.std.proofs.Common.{◌≡◌, ℕ, false, List, [], ap, sym, ◌∙◌, length, subst}
use Rattle.pc_syntax.specs.Plain.{Forest, Nil, Plain}
use Rattle.pc_rules.specs.Attributes.{Marked, at_kid, nodes}
use Rattle.pc_rules.specs.Decorated.{decorate}
use Rattle.pc_rules.specs.Errors.{entries_of}
use Rattle.pc_rules.specs.HandedOn.{kid_entries}
use Rattle.pc_rules.specs.Meanings.{Local, Outside}
use Rattle.pc_rules.specs.Outsides.{outside_of}
use Rattle.pc_rules.specs.OwnBlock.{own}
use Rattle.pc_rules.specs.RoutineList.{routines_below, routines_of}
use Rattle.pc_rules.specs.Routines.{Routine, start_of}
use Rattle.pc_environment.specs.DecoratingLaws.{decorate-forest_of}
use Rattle.pc_places.specs.Parameters.{AreNamed}
use Rattle.pc_routine_sites.specs.declared.site.RoutineSite.{RoutineSite}
use Rattle.pc_resolve.specs.Blocks.{BlockShown, IsPart, IsSomeBlock, IsSomeWithin, ResolvesBare, ResolvesBlock, ResolvesWithin}
use Rattle.pc_resolve.specs.Parts.{HasNoBlock, IsRoutinePart}
use Rattle.pc_resolve.specs.declared.resolver.BlockEntries.{BlockEntries}
use Rattle.pc_resolve.specs.declared.resolver.Resolver.{Resolver}
use Rattle.pc_resolve.proofs.BareShown.{bare-block}

-- ---- a block

is-part : (x : Plain) (number : ℕ) (node : Plain) → IsRoutinePart x number node → IsPart x number node
is-part x number node h = record { kids = h.kids; number_is = h.number_is; there = h.there; has = h.has }

-- what `block` asks
pub some-block : (blocks : List ℕ) (site : RoutineSite) (x : Plain) (number : ℕ) (node : Plain) (s : Resolver) → IsRoutinePart x number node → IsSomeWithin blocks site x s → IsSomeBlock blocks site false number node x s
some-block blocks site x number node s part h = (h.0, h.1, h.2, h.3, h.4, h.5, is-part x number node part, sym h.6, h.7)

pub within-block : (blocks : List ℕ) (site : RoutineSite) (x : Plain) (number : ℕ) (node : Plain) (old new : Resolver) (es : BlockEntries) → IsRoutinePart x number node →
    ResolvesBlock blocks site false number node x old new es → ResolvesWithin blocks site x number old new es
within-block blocks site x number node old new es part found = λ t targets r done beyond h other begun.
    let shown = found t targets r done beyond h (is-part x number node part) (sym other) begun in
    let same : number ≡ r.block_kid = sym (h.block_kid ∙ part.number_is) in
    (ap (at_kid number) shown.0.own ∙ ap (λ (n : ℕ). at_kid n (kid_entries 1 (nodes (decorate (outside_of (routines_of t) r) (start_of r) r.block)))) same, shown.0.inside_are, shown.1)

-- ---- no block

empty-entries : (out : Outside) (l : Local) (f : Forest) → f ≡ Nil → kid_entries 1 (nodes (decorate out l f)) ≡ []
empty-entries out l f e = ap (λ (g : Forest). kid_entries 1 (nodes (decorate out l g))) e ∙ ap (λ (m : Marked). kid_entries 1 (nodes m)) (decorate-forest_of out l [])

pub within-none : (blocks : List ℕ) (site : RoutineSite) (x : Plain) (number : ℕ) (old new : Resolver) (es : BlockEntries) → HasNoBlock x → es.own.items ≡ [] → es.inside.items ≡ [] → ResolvesBare blocks site x old new →
    ResolvesWithin blocks site x number old new es
within-none blocks site x number old new es none own inside bare = λ t targets r done beyond h other begun.
    let all = routines_of t in
    let e = bare-block r x h.block none in
    let out = outside_of all r in
    let below : [] ≡ routines_below r 1 x.kids = sym (none.inside r) in (
      ap (at_kid number) own ∙ ap (at_kid r.block_kid) (sym (empty-entries out (start_of r) r.block e)),
      inside ∙ ap (entries_of all) below,
      subst (λ (rs : List Routine). BlockShown all targets r rs done blocks old new) below (bare t targets r done beyond h none begun),
    )

-- the parameters of a routine in another one are named
pub within-named : (blocks : List ℕ) (site : RoutineSite) (x : Plain) (s : Resolver) → IsSomeWithin blocks site x s → AreNamed (length s.tables.names.texts) site.parameters.items
within-named blocks site x s h = h.7.around.are_named
