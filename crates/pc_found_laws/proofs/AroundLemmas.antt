-- The routine around a place inside a statement part is the one whose statement part that is.
use Rattle.std.specs.Prelude.{ℕ, ◌≡◌, false, if◌then◌else◌, List, [], ◌∷◌, ◌++◌, Option, Some, None, map}
use Rattle.std.specs.Option.{option_or}
use Rattle.std.proofs.Common.{refl, ap, subst, inl, inr}
use Rattle.pc_decl.specs.Annotated.{Annotation, annotation_of}
use Rattle.pc_decl.specs.Found.{leads_below, innermost}
use Rattle.pc_decl.specs.Nodes.{way_from}
use Rattle.pc_rules.specs.Routines.{Routine}
use Rattle.pc_needs.specs.Unaffected.{IsOneOf}
use Rattle.pc_needs.proofs.Lists.{Each, each-map}
use Rattle.pc_found_laws.proofs.ClearLemmas.{Clears, AllClear, way-on}

-- ---- the innermost routine

none-around : (all rs : List Routine) (q : List ℕ) → Each (λ (y : Routine). leads_below (way_from y.place q) ≡ false) rs → innermost (map (annotation_of all) rs) q ≡ None
none-around all [] q h = refl
none-around all (y ∷ rs) q h = λ i. option_or (none-around all rs q h.1 i) (if h.0 i then Some (annotation_of all y) else None)

-- the one in whose statement part a place is
pub part-around : (all rs : List Routine) (r : Routine) (way : List ℕ) → IsOneOf rs r → AllClear rs → innermost (map (annotation_of all) rs) (r.place ++ r.block_kid ∷ 5 ∷ way) ≡ Some (annotation_of all r)
part-around all [] r way one clear = absurd one
part-around all (x ∷ rs) r way (inl e) clear =
    subst (λ (y : Routine). innermost (map (annotation_of all) (x ∷ rs)) (y.place ++ y.block_kid ∷ 5 ∷ way) ≡ Some (annotation_of all y)) e
    (λ i. option_or (none-around all rs (x.place ++ x.block_kid ∷ 5 ∷ way) (each-map (Clears x) (λ (y : Routine). leads_below (way_from y.place (x.place ++ x.block_kid ∷ 5 ∷ way)) ≡ false) rs (λ y h. h way) clear.0) i)
    (if leads_below (way-on x.place (x.block_kid ∷ 5 ∷ way) i) then Some (annotation_of all x) else None))
part-around all (x ∷ rs) r way (inr one) clear =
    ap (λ (o : Option Annotation). option_or o (if leads_below (way_from x.place (r.place ++ r.block_kid ∷ 5 ∷ way)) then Some (annotation_of all x) else None)) (part-around all rs r way one clear.1)
