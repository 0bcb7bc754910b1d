-- What is told of trees in a row, one after the other: lemmas.
use Rattle.std.specs.Prelude.{◌≡◌, ◌+◌, List, [], ◌∷◌, ◌++◌, Option, length}
use Rattle.std.proofs.Common.{refl, ap, sym, ◌∙◌, append-nil, append_assoc, arith}
use Rattle.pc_syntax.specs.Plain.{Plain, forest_of}
use Rattle.pc_types.specs.Shapes.{Typed}
use Rattle.pc_types.specs.Table.{Table}
use Rattle.pc_types.specs.declared.operand.Operand.{Operand}
use Rattle.pc_rules.specs.Meanings.{Found, Local, Outside}
use Rattle.pc_environment.specs.Decorating.{attributes_at, place_behind, place_after}
use Rattle.pc_growth.specs.GrowsLaws.{Begins-same, Begins-then}
use Rattle.pc_bodies.specs.declared.body.Going.{Going}
use Rattle.pc_told.specs.Place.{AllTypes}
use Rattle.pc_told.specs.Tells.{ToldMore, Kept}
use Rattle.pc_told.specs.Told.{Above, role_of, told_here, told_below, told_among, told_at}

-- one more tree behind others
pub told-more : (out : Outside) (l : Local) (h : Above) (f : Found) (ts : List Plain) (t : Plain) →
    told_among out l h f (forest_of (ts ++ t ∷ [])) ≡ told_among out l h f (forest_of ts) ++ told_at out (place_after out l ts) h f t
told-more out l h f [] t = ap (λ (ys : List (Option Typed)). told_here (role_of h l.kid) t.kind (attributes_at out l t) ++ ys) (append-nil (told_below out l h f t))
told-more out l h f (u ∷ ts) t =
    let here = told_here (role_of h l.kid) u.kind (attributes_at out l u) in
    let below = told_below out l h f u in
    let rest = told_among out (place_behind out l u) h f (forest_of ts) in
    let last = told_at out (place_after out (place_behind out l u) ts) h f t in
    ap (λ (ys : List (Option Typed)). here ++ (below ++ ys)) (told-more out (place_behind out l u) h f ts t)
    ∙ ap (λ (ys : List (Option Typed)). here ++ ys) (sym (append_assoc below rest last))
    ∙ sym (append_assoc here (below ++ rest) last)

-- which kid a tree in a row is
pub kid-after : (out : Outside) (l : Local) (ts : List Plain) → (place_after out l ts).kid ≡ l.kid + length ts
kid-after out l [] = omega arith
kid-after out l (t ∷ ts) = let e : (place_after out (place_behind out l t) ts).kid ≡ (place_behind out l t).kid + length ts = kid-after out (place_behind out l t) ts in omega (arith, e)

-- types behind types
pub AllTypes-append : (t : Table) (xs ys : List (Option Operand)) (us vs : List (Option Typed)) → AllTypes t xs us → AllTypes t ys vs → AllTypes t (xs ++ ys) (us ++ vs)
AllTypes-append t [] ys [] vs one two = two
AllTypes-append t (x ∷ xs) ys (u ∷ us) vs one two = (one.0, AllTypes-append t xs ys us vs one.1 two)
AllTypes-append t [] ys (u ∷ us) vs one two = absurd one
AllTypes-append t (x ∷ xs) ys [] vs one two = absurd one

-- no type was told
pub told-none : (t : Table) (xs : List (Option Operand)) → ToldMore t xs xs []
told-none t xs = record { more = []; is = sym (append-nil xs); shows = tt }

-- types were told, and then others
pub told-then : (t : Table) (a b c : List (Option Operand)) (us vs : List (Option Typed)) → ToldMore t a b us → ToldMore t b c vs → ToldMore t a c (us ++ vs)
told-then t a b c us vs one two = record {
  more = one.more ++ two.more;
  is = two.is ∙ ap (λ (xs : List (Option Operand)). xs ++ two.more) one.is ∙ append_assoc a one.more two.more;
  shows = AllTypes-append t one.more two.more us vs one.shows two.shows;
}

-- nothing was gone through
pub kept-same : (g : Going) → Kept g g
kept-same g = record { opened = refl; texts = Begins-same g.texts.items }

-- one part was gone through after the other
pub kept-then : (g0 g1 g2 : Going) → Kept g0 g1 → Kept g1 g2 → Kept g0 g2
kept-then g0 g1 g2 one two = record { opened = two.opened ∙ one.opened; texts = Begins-then g0.texts.items g1.texts.items g2.texts.items one.texts two.texts }
