-- What the names of a routine mean where its block ends: lemmas.
use Rattle.std.proofs.Common.{◌≡◌, ℕ, List, [], ◌∷◌, ◌++◌, ap, sym, ◌∙◌, subst}
use Rattle.pc_syntax.specs.declared.kind.Kind.{Kind}
use Rattle.pc_syntax.specs.Words.{lowered}
use Rattle.pc_scope.specs.Declarations.{Declared}
use Rattle.pc_rules.specs.Meanings.{Outside, find}
use Rattle.pc_rules.specs.Outsides.{outside_of}
use Rattle.pc_rules.specs.Routines.{Routine}
use Rattle.pc_facts.specs.Shows.{ShowsFound}
use Rattle.pc_facts.specs.declared.sighting.Sighting.{Sighting}
use Rattle.pc_places.specs.Places.{known}
use Rattle.pc_places.specs.declared.tables.Tables.{Tables}
use Rattle.pc_standing.specs.BodyLaws.{finds-at}
use Rattle.pc_decl.specs.Annotated.{Annotation}
use Rattle.pc_own_names.specs.OwnKinds.{AreDeclared}
use Rattle.pc_own_names.specs.ShowsNames.{ShowsOwnNames}
use Rattle.pc_own_names.specs.declared.own_name.DeclaredName.{DeclaredName}
use Rattle.pc_own_names.specs.declared.own_name.OwnName.{OwnName}
use Rattle.pc_block_names.specs.Found.{EndsBlock, MeansThere, IsMeant, AreMeant}
use Rattle.pc_block_names.specs.Small.{AreSmall}

-- one more name
pub AreMeant-end : (t : Tables) (block : ℕ) (ds : List DeclaredName) (xs : List OwnName) (d : DeclaredName) (x : OwnName) → AreMeant t block ds xs → IsMeant t block d x →
    AreMeant t block (ds ++ d ∷ []) (xs ++ x ∷ [])
AreMeant-end t block [] [] d x h is = (is, tt)
AreMeant-end t block (e ∷ ds) (y ∷ xs) d x h is = (h.0, AreMeant-end t block ds xs d x h.1 is)
AreMeant-end t block [] (y ∷ xs) d x h is = absurd h
AreMeant-end t block (e ∷ ds) [] d x h is = absurd h

-- a name's meaning is what the rules find where the block ends
pub found-here : (t : Tables) (block owner : ℕ) (all : List Routine) (a : Annotation) (n : List ℕ) (s : Sighting) → EndsBlock t block owner all a → MeansThere t block n s →
    ShowsFound (known t) n s (find a.outside a.ending n)
found-here t block owner all a n s e m =
    subst (λ (o : Outside). ShowsFound (known t) n s (find o a.ending n)) (sym e.outside)
    (m (find (outside_of all a.routine) a.ending) (finds-at t block owner all a.routine a.ending e.place e.owns e.named e.signed))

-- so it is with all names
pub names-found : (t : Tables) (block owner : ℕ) (all : List Routine) (a : Annotation) (names : List DeclaredName) (xs : List OwnName) (ds : List (Declared × Kind)) → AreMeant t block names xs →
    AreDeclared names ds → AreSmall ds → EndsBlock t block owner all a → ShowsOwnNames (known t) a xs ds
names-found t block owner all a [] [] [] m d s e = tt
names-found t block owner all a [] [] (y ∷ ds) m d s e = absurd d
names-found t block owner all a [] (x ∷ xs) ds m d s e = absurd m
names-found t block owner all a (n ∷ names) [] ds m d s e = absurd m
names-found t block owner all a (n ∷ names) (x ∷ xs) [] m d s e = absurd d
names-found t block owner all a (n ∷ names) (x ∷ xs) (y ∷ ds) m d s e =
    let small : lowered n.name ≡ y.0.name = ap lowered d.0.name ∙ s.0 in (
      record {
        name = m.0.name ∙ d.0.name;
        kind = m.0.kind ∙ d.0.kind;
        meaning = found-here t block owner all a y.0.name x.meaning e (subst (λ (q : List ℕ). MeansThere t block q x.meaning) small m.0.meaning);
      },
      names-found t block owner all a names xs ds m.1 d.1 s.1 e,
    )
