-- At the statement part of a routine's block, behind the list of its routines: lemmas.
use Rattle.std.proofs.Common.{◌≡◌, ℕ, true, List, subst}
use Rattle.pc_forms.specs.FormClasses.{Every}
use Rattle.pc_syntax.specs.Plain.{Cons, Nil, Plain, forest_of, kids_of}
use Rattle.pc_syntax.specs.declared.kind.Kind.TheVariants as kind
use Rattle.pc_rules.specs.Meanings.{Local}
use Rattle.pc_rules.specs.Outsides.{outside_of}
use Rattle.pc_rules.specs.Places.{inner}
use Rattle.pc_rules.specs.Routines.{Routine, bare}
use Rattle.pc_environment.specs.Decorating.{place_after, place_behind}
use Rattle.pc_program_laws.specs.Unsigned.{AllOfKind, UnsignedLaw, is_declaring}
use Rattle.pc_denoters.specs.Cores.{IsPlace-core}
use Rattle.pc_places.specs.Places.{IsPlace}
use Rattle.pc_places.specs.declared.tables.Tables.{Tables}
use Rattle.pc_standing.specs.OutsideLaws.{IsPlace-outside}
use Rattle.pc_resolve.proofs.ListPlaces.{core-list, is_listed}

-- the tables that stand for the place behind the last routine stand for the one behind the list, with what is said of routines too
pub body-place : UnsignedLaw → (t : Tables) (block owner : ℕ) (all : List Routine) (r : Routine) (l : Local) (d : Plain) → d.kind ≡ kind.Routines → Every (λ u. is_listed u.kind ≡ true) (kids_of d) →
    AllOfKind is_declaring (Cons d.kind d.word d.notes d.kids Nil) →
    IsPlace t block owner (bare r.means) (place_after (bare r.means) (inner l kind.Routines (forest_of (kids_of d))) (kids_of d)) → IsPlace t block owner (outside_of all r) (place_behind (outside_of all r) l d)
body-place law t block owner all r l d is listed declaring h =
    let m = place_behind (bare r.means) l d in
    let behind : IsPlace t block owner (bare r.means) m =
    IsPlace-core t block owner (bare r.means) (place_after (bare r.means) (inner l kind.Routines (forest_of (kids_of d))) (kids_of d)) m (core-list (bare r.means) l d is listed) h in
    subst (λ (p : Local). IsPlace t block owner (outside_of all r) p) (law.node (bare r.means) (outside_of all r) l d declaring (law.outsides all r).0).1 (IsPlace-outside t block owner all r m behind)
