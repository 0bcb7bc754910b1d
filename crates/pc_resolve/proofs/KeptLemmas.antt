-- What is kept of routines, as more is numbered and more are kept: lemmas.
use Rattle.std.proofs.Common.{◌≡◌, List, [], ◌∷◌, ◌++◌, length, insert, refl, ap, ◌∙◌}
use Rattle.pc_syntax.specs.declared.kind.Kind.{Kind}
use Rattle.pc_types.specs.Table.{nobody}
use Rattle.pc_scope.specs.Declarations.{Declared}
use Rattle.pc_rules.specs.Meanings.{find}
use Rattle.pc_rules.specs.Routines.{Routine}
use Rattle.pc_facts.specs.Known.{Known}
use Rattle.pc_growth.specs.Grows.{Grows}
use Rattle.pc_growth.specs.GrowsLaws.{ShowsFound-grows, get_or-begins, less-begins}
use Rattle.pc_decl.specs.Annotated.{Annotation, annotation_of}
use Rattle.pc_own_names.specs.ShowsNames.{ShowsOwnNames}
use Rattle.pc_own_names.specs.declared.own_name.OwnName.{OwnName}
use Rattle.pc_own_names.specs.declared.own_name.RoutineNames.{RoutineNames}
use Rattle.pc_resolve.specs.Kept.{AreKept, IsKept, kinds_of}

own-grow : (k m : Known) (a : Annotation) (xs : List OwnName) (ds : List (Declared × Kind)) → Grows k m → ShowsOwnNames k a xs ds → ShowsOwnNames m a xs ds
own-grow k m a [] [] g h = tt
own-grow k m a (x ∷ xs) (d ∷ ds) g h =
    (record { name = h.0.name; kind = h.0.kind; meaning = ShowsFound-grows k m d.0.name x.meaning (find a.outside a.ending d.0.name) g h.0.meaning }, own-grow k m a xs ds g h.1)
own-grow k m a [] (d ∷ ds) g h = absurd h
own-grow k m a (x ∷ xs) [] g h = absurd h

-- of one routine
pub kept-grows : (all : List Routine) (k m : Known) (x : RoutineNames) (r : Routine) → Grows k m → IsKept all k x r → IsKept all m x r
kept-grows all k m x r g h = record {
  there = less-begins k.table.owners m.table.owners x.owner.0 g.owners h.there;
  owner = get_or-begins k.table.owners m.table.owners x.owner.0 nobody g.owners h.there ∙ h.owner;
  key = h.key;
  later = h.later;
  names = own-grow k m (annotation_of all r) x.names.items (kinds_of r) g h.names;
}

-- of routines in a row
pub all-grow : (all : List Routine) (k m : Known) (xs : List RoutineNames) (rs : List Routine) → Grows k m → AreKept all k xs rs → AreKept all m xs rs
all-grow all k m [] [] g h = tt
all-grow all k m (x ∷ xs) (r ∷ rs) g h = (kept-grows all k m x r g h.0, all-grow all k m xs rs g h.1)
all-grow all k m [] (r ∷ rs) g h = absurd h
all-grow all k m (x ∷ xs) [] g h = absurd h

-- some and others behind them
pub all-append : (all : List Routine) (k : Known) (xs ys : List RoutineNames) (rs us : List Routine) → AreKept all k xs rs → AreKept all k ys us → AreKept all k (xs ++ ys) (rs ++ us)
all-append all k [] ys [] us h g = g
all-append all k (x ∷ xs) ys (r ∷ rs) us h g = (h.0, all-append all k xs ys rs us h.1 g)
all-append all k [] ys (r ∷ rs) us h g = absurd h
all-append all k (x ∷ xs) ys [] us h g = absurd h

-- one more, behind some and before others
pub insert-behind : {X : Type 0} (xs ys : List X) (y : X) → insert (xs ++ ys) (length xs) y ≡ xs ++ y ∷ ys
insert-behind [] ys y = refl
insert-behind (x ∷ xs) ys y = ap (λ zs. x ∷ zs) (insert-behind xs ys y)
