-- The block is there where its statement part begins: lemmas.
use Rattle.std.proofs.Common.{◌≡◌, ◌<◌, ◌≤◌, ℕ, Bool, List, length, ap, sym, subst, arith}
use Rattle.std.proofs.lemmas.List.{length-append}
use Rattle.pc_syntax.specs.Plain.{Plain}
use Rattle.pc_names.specs.Table.{Table}
use Rattle.pc_growth.specs.GrowsLaws.{less-begins}
use Rattle.pc_places.specs.declared.tables.Tables.{Tables}
use Rattle.pc_domains.specs.Told.{Retargeted}
use Rattle.pc_declaration_parts.specs.declared.parts.Parts.{Parts}
use Rattle.pc_routine_sites.specs.Visits.{Visits}
use Rattle.pc_routine_sites.specs.declared.site.RoutineSite.{RoutineSite}
use Rattle.pc_resolve.specs.Blocks.{IsSomeBlock}
use Rattle.pc_resolve.specs.Lists.{ResolvesList}
use Rattle.pc_resolve.specs.declared.resolver.BlockEntries.{BlockEntries}
use Rattle.pc_resolve.specs.declared.resolver.Resolver.{Resolver}
use Rattle.pc_resolve.proofs.ListEntered.{BlockLaws, ComesToList, HasFive, begun-there, list-entered, list_begins}

pub body-there : BlockLaws → (number : ℕ) (node x a b c d e : Plain) (blocks : List ℕ) (site : RoutineSite) (program : Bool) (s0 s2 s3 : Resolver) (block : ℕ) (t1 t4 : Tables) (p : Parts) (below : BlockEntries) →
    HasFive node a b c d e → ComesToList blocks site program node a b c block s0 t1 p s2 → IsSomeBlock blocks site program number node x s0 → ResolvesList block site number d s2 s3 below → Retargeted s3.tables t4 →
    block < length t4.names.chains
body-there laws number node x a b c d e blocks site program s0 s2 s3 block t1 t4 p below five comes some list retargeted =
    let t = some.0 in
    let r = some.2 in
    let at = list-entered laws t some.1 r x some.3 some.4 number node a b c d e blocks site program s0 s2 block t1 p five comes some.5 some.6 some.7 some.8 in
    let visits : Visits block s2.tables s3.tables = (list t some.1 r some.3 some.4 (list_begins t r a b c d) at.list at.kid at.waiting at.site_is at.stands).3 in
    let begun = begun-there blocks block s0.tables.names.chains t1.names.chains comes.opens.number comes.opens.chains in
    let before = less-begins t1.names.chains s2.tables.names.chains block comes.changes.chains begun in
    subst (λ (n : Table). block < length n.chains) (sym retargeted.names) (less-begins s2.tables.names.chains s3.tables.names.chains block visits.chains before)

-- and so many routines are kept there as were before
pub kept-there : BlockLaws → (number : ℕ) (node x a b c d e : Plain) (blocks : List ℕ) (site : RoutineSite) (program : Bool) (s0 s2 s3 : Resolver) (block : ℕ) (t1 : Tables) (p : Parts) (below : BlockEntries) → HasFive node a b c d e →
    ComesToList blocks site program node a b c block s0 t1 p s2 → IsSomeBlock blocks site program number node x s0 → ResolvesList block site number d s2 s3 below → s2.kept ≡ s0.kept → length s0.kept.items ≤ length s3.kept.items
kept-there laws number node x a b c d e blocks site program s0 s2 s3 block t1 p below five comes some list same =
    let t = some.0 in
    let r = some.2 in
    let at = list-entered laws t some.1 r x some.3 some.4 number node a b c d e blocks site program s0 s2 block t1 p five comes some.5 some.6 some.7 some.8 in
    let notes = (list t some.1 r some.3 some.4 (list_begins t r a b c d) at.list at.kid at.waiting at.site_is at.stands).4 in
    let kept = ap length notes.kept in
    let more = length-append s2.kept.items notes.records in
    let first = ap (λ v. length v.items) same in
    omega (arith, kept, more, first)
