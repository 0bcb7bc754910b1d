-- What is found on the way down a statement part is what the rules find at its end.
use Rattle.std.specs.Prelude.{ℕ, zero, suc, ◌≡◌, Bool, true, if◌then◌else◌, List, [], ◌∷◌, ◌++◌, Option, Some, map, take, slice_get}
use Rattle.std.specs.Option.{option_and_then}
use Rattle.std.proofs.Common.{ap, sym, ◌∙◌, append_assoc}
use Rattle.pc_syntax.specs.Plain.{Forest, Plain, trees_of, kids_of}
use Rattle.pc_syntax.specs.PartsLaws.{forest_of-kids_of, forest_of-trees_of}
use Rattle.pc_syntax.specs.WellFormed.{IsProper}
use Rattle.pc_decl.specs.Annotated.{Annotation, annotated, annotation_of}
use Rattle.pc_decl.specs.Found.{from_tree, first_found, below_first, found_on, found_below, innermost, routine_around, found_in}
use Rattle.pc_decl.specs.Found as view
use Rattle.pc_environment.specs.Decorating.{attributes_at, below_at, place_behind, marks_of, place_after}
use Rattle.pc_environment.specs.DecoratingLaws.{decorate-forest_of}
use Rattle.pc_rules.specs.Attributes.{Marked, Mark}
use Rattle.pc_rules.specs.Decorated.{decorate}
use Rattle.pc_rules.specs.Errors.{is_program}
use Rattle.pc_rules.specs.Meanings.{Local, Outside}
use Rattle.pc_rules.specs.Outsides.{outside_of}
use Rattle.pc_rules.specs.Places.{inner}
use Rattle.pc_rules.specs.RoutineList.{routines_of}
use Rattle.pc_rules.specs.Routines.{Routine, start_of}
use Rattle.pc_needs.specs.Unaffected.{IsOneOf}
use Rattle.pc_needs.proofs.PlaceLemmas.{number-same}
use Rattle.pc_found_laws.specs.Ways.{Reaches}
use Rattle.pc_found_laws.specs.FoundThere.{AroundLaw, HereLaw, BelowLaw, FoundLaw}
use Rattle.pc_found_laws.proofs.AroundLemmas.{part-around}
use Rattle.pc_found_laws.proofs.ClearLemmas.{way-on, routines-clear}
use Rattle.pc_found_laws.proofs.PartLemmas.{parts-stand}

-- ---- trees in a row

-- the marks of a tree with a number, and of those behind it
from-number : (out : Outside) (i : ℕ) (l : Local) (ts : List Plain) (y : Plain) → slice_get ts i ≡ Some y →
    (rest : Marked) × (from_tree (suc i) (marks_of out l ts) ≡ Mark (attributes_at out (place_after out l (take i ts)) y) (below_at out (place_after out l (take i ts)) y) rest)
from-number out i l [] y e = cc
from-number out zero l (t ∷ ts) y e =
    let same : t ≡ y = cc in
    (marks_of out (place_behind out l t) ts, ap (λ (x : Plain). Mark (attributes_at out l x) (below_at out l x) (marks_of out (place_behind out l t) ts)) same)
from-number out (suc i) l (t ∷ ts) y e = from-number out i (place_behind out l t) ts y e

-- what is found below a node are the marks of its kids
pub below-marks : (out : Outside) (l : Local) (x : Plain) → below_at out l x ≡ marks_of out (inner l x.kind x.kids) (kids_of x)
below-marks out l x = ap (decorate out (inner l x.kind x.kids)) (sym (forest_of-kids_of x)) ∙ decorate-forest_of out (inner l x.kind x.kids) (kids_of x)

-- ---- ways

-- the attributes at the end of a way
on-way : (way : List ℕ) (out : Outside) (l : Local) (ts : List Plain) (i : ℕ) (y x : Plain) (m : Local) → slice_get ts i ≡ Some y → Reaches out (place_after out l (take i ts)) y way x m →
    found_on (suc i ∷ way) (marks_of out l ts) ≡ Some (attributes_at out m x)
on-way [] out l ts i y x m e h = ap first_found (from-number out i l ts y e).1 ∙ (λ z. Some (attributes_at out (h.1 z) (h.0 z)))
on-way (zero ∷ way) out l ts i y x m e h = absurd h
on-way (suc j ∷ way) out l ts i y x m e h =
    let k : Local = place_after out l (take i ts) in
    ap (λ (a : Marked). found_on (suc j ∷ way) (below_first a)) (from-number out i l ts y e).1
    ∙ ap (found_on (suc j ∷ way)) (below-marks out k y)
    ∙ on-way way out (inner k y.kind y.kids) (kids_of y) j h.0 x m h.1 h.2

-- what is found further down
on-further : (way : List ℕ) (out : Outside) (l : Local) (ts : List Plain) (i : ℕ) (y x : Plain) (m : Local) (n : ℕ) (more : List ℕ) → slice_get ts i ≡ Some y →
    Reaches out (place_after out l (take i ts)) y way x m → found_on (suc i ∷ way ++ n ∷ more) (marks_of out l ts) ≡ found_on (n ∷ more) (below_at out m x)
on-further [] out l ts i y x m n more e h =
    ap (λ (a : Marked). found_on (n ∷ more) (below_first a)) (from-number out i l ts y e).1 ∙ (λ z. found_on (n ∷ more) (below_at out (h.1 z) (h.0 z)))
on-further (zero ∷ way) out l ts i y x m n more e h = absurd h
on-further (suc j ∷ way) out l ts i y x m n more e h =
    let k : Local = place_after out l (take i ts) in
    ap (λ (a : Marked). found_on (suc j ∷ way ++ n ∷ more) (below_first a)) (from-number out i l ts y e).1
    ∙ ap (found_on (suc j ∷ way ++ n ∷ more)) (below-marks out k y)
    ∙ on-further way out (inner k y.kind y.kids) (kids_of y) j h.0 x m n more h.1 h.2

-- ---- in a routine

-- what is found in the own block of a routine
in-block : (all : List Routine) (r : Routine) (way : List ℕ) →
    found_in (r.place ++ r.block_kid ∷ 5 ∷ way) (annotation_of all r) ≡ found_on (5 ∷ way) (marks_of (outside_of all r) (start_of r) (trees_of r.block))
in-block all r way =
    let a : Annotation = annotation_of all r in
    ap (λ (o : Option (List ℕ)). option_and_then (found_below a) o) (way-on r.place (r.block_kid ∷ 5 ∷ way))
    ∙ ap (λ (b : Bool). if b then found_on (5 ∷ way) a.block else found_on (r.block_kid ∷ 5 ∷ way) a.heading) (number-same r.block_kid)
    ∙ ap (λ (f : Forest). found_on (5 ∷ way) (decorate (outside_of all r) (start_of r) f)) (sym (forest_of-trees_of r.block))
    ∙ ap (found_on (5 ∷ way)) (decorate-forest_of (outside_of all r) (start_of r) (trees_of r.block))

-- ---- in a program

around-way : (t : Plain) (r : Routine) (way : List ℕ) → IsProper t → is_program t.kind ≡ true → IsOneOf (routines_of t) r →
    routine_around (annotated t) (r.place ++ r.block_kid ∷ 5 ∷ way) ≡ Some (annotation_of (routines_of t) r)
unfolding routine_around annotated
around-way t r way proper program one =
    ap (λ (z : Bool). innermost (map (annotation_of (if z then routines_of t else [])) (if z then routines_of t else [])) (r.place ++ r.block_kid ∷ 5 ∷ way)) program
    ∙ part-around (routines_of t) (routines_of t) r way one (routines-clear t proper program)

at-way : (t : Plain) (r : Routine) (way : List ℕ) → IsProper t → is_program t.kind ≡ true → IsOneOf (routines_of t) r →
    view.attributes_at (annotated t) (r.place ++ r.block_kid ∷ 5 ∷ way) ≡ found_on (5 ∷ way) (marks_of (outside_of (routines_of t) r) (start_of r) (trees_of r.block))
unfolding view.attributes_at
at-way t r way proper program one =
    ap (λ (o : Option Annotation). option_and_then (found_in (r.place ++ r.block_kid ∷ 5 ∷ way)) o) (around-way t r way proper program one) ∙ in-block (routines_of t) r way

pub around : AroundLaw
around t r path x l proper program one h = ap (routine_around (annotated t)) h.path_is ∙ around-way t r h.way proper program one

pub here : HereLaw
here t r path x l proper program one h =
    let part = parts-stand t r h.part proper program one h.here in
    ap (view.attributes_at (annotated t)) h.path_is
    ∙ at-way t r h.way proper program one
    ∙ on-way h.way (outside_of (routines_of t) r) (start_of r) (trees_of r.block) 4 h.part x l part.fifth h.reaches

pub below : BelowLaw
below t r path x l n more proper program one h =
    let part = parts-stand t r h.part proper program one h.here in
    ap (λ (p : List ℕ). view.attributes_at (annotated t) (p ++ n ∷ more)) h.path_is
    ∙ ap (view.attributes_at (annotated t)) (append_assoc r.place (r.block_kid ∷ 5 ∷ h.way) (n ∷ more))
    ∙ at-way t r (h.way ++ n ∷ more) proper program one
    ∙ on-further h.way (outside_of (routines_of t) r) (start_of r) (trees_of r.block) 4 h.part x l n more part.fifth h.reaches

pub found-law : FoundLaw
found-law = record { around = around; here = here; below = below }
