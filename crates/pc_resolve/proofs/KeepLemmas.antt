-- What is kept of a routine is what the rules find where its block ends: lemmas.
use Rattle.std.proofs.Common.{◌≡◌, ◌<◌, ℕ, true, List, [], ◌∷◌, length, get_or, refl, ap, sym, ◌∙◌, subst}
use Rattle.pc_syntax.specs.Plain.{Plain}
use Rattle.pc_syntax.specs.WellFormed.{IsProper}
use Rattle.pc_syntax.specs.declared.kind.Kind.{Kind}
use Rattle.pc_types.specs.Table.{nobody}
use Rattle.pc_types.specs.declared.form.OwnerId.{OwnerId}
use Rattle.pc_scope.specs.Declarations.{Declared}
use Rattle.pc_needs.specs.Unaffected.{IsOneOf}
use Rattle.pc_rules.specs.Errors.{is_program}
use Rattle.pc_rules.specs.Meanings as rules
use Rattle.pc_rules.specs.Meanings.{Local, find}
use Rattle.pc_rules.specs.RoutineList.{routines_of}
use Rattle.pc_rules.specs.Routines.{Routine}
use Rattle.pc_facts.specs.Known.{Known}
use Rattle.pc_facts.specs.Shows.{ShowsFound}
use Rattle.pc_decl.specs.Annotated.{Annotation, annotation_of}
use Rattle.pc_decl.specs.Declared.{given_names}
use Rattle.pc_decl.specs.Nodes.{kids_at}
use Rattle.pc_own_names.specs.OwnKinds.{AreDeclared, HasSame, own_kinds}
use Rattle.pc_own_names.specs.ShowsNames.{ShowsOwnNames}
use Rattle.pc_own_names.specs.declared.own_name.DeclaredName.{DeclaredName}
use Rattle.pc_own_names.specs.declared.own_name.OwnName.{OwnName}
use Rattle.pc_own_names.specs.declared.own_name.RoutineNames.{RoutineNames}
use Rattle.pc_places.specs.Places.{known}
use Rattle.pc_places.specs.declared.tables.Tables.{Tables}
use Rattle.pc_block_names.specs.Found.{AtNames}
use Rattle.pc_block_names.specs.SmallLaws.{own-small}
use Rattle.pc_routine_sites.specs.Sites.{StandsAround}
use Rattle.pc_routine_sites.specs.declared.site.RoutineSite.{RoutineSite}
use Rattle.pc_resolve.specs.Kept.{DeclaresNames, ShowsAtEnd}
use Rattle.pc_resolve.proofs.OwnKindsLemmas.{own-kinds_of}

-- a routine as it stands at a place of its block
abbrev here_at : List Routine → Routine → Local → Annotation
here_at all r l = record (annotation_of all r) { ending = l }

-- names mean the same where the block ends
same-ending : (k : Known) (a b : Annotation) (xs : List OwnName) (ds : List (Declared × Kind)) → ((n : List ℕ) → find a.outside a.ending n ≡ find b.outside b.ending n) → ShowsOwnNames k a xs ds → ShowsOwnNames k b xs ds
same-ending k a b [] [] e h = tt
same-ending k a b (x ∷ xs) (d ∷ ds) e h =
    (record { name = h.0.name; kind = h.0.kind; meaning = subst (λ (f : rules.Found). ShowsFound k d.0.name x.meaning f) (e d.0.name) h.0.meaning }, same-ending k a b xs ds e h.1)
same-ending k a b [] (d ∷ ds) e h = absurd h
same-ending k a b (x ∷ xs) [] e h = absurd h

-- from the names and what they mean
pub shows-at-end : (s : Tables) (declared : List DeclaredName) (block : ℕ) (site : RoutineSite) (x : RoutineNames) → AtNames s block declared x.names.items → x.owner ≡ site.owner → x.key ≡ site.key → x.is_later ≡ site.is_later →
    ShowsAtEnd s declared block site x
shows-at-end s declared block site x means owner key later = λ t r l h.
    let all = routines_of t in
    let k = known s in
    let ds = own_kinds t r in
    let names : ShowsOwnNames k (here_at all r l) x.names.items ds =
    means all (here_at all r l) site.owner.0 ds h.declares (own-small t r)
    (record { outside = refl; place = h.place; owns = h.owns; named = h.named; signed = h.signed }) in
    record {
      there = subst (λ (i : OwnerId). i.0 < length k.table.owners) (sym owner) h.place.there;
      owner = ap (λ (i : OwnerId). get_or k.table.owners i.0 nobody) owner ∙ h.owner;
      key = key ∙ h.key;
      later = later ∙ h.later;
      names =
          subst (λ (es : List (Declared × Kind)). ShowsOwnNames k (annotation_of all r) x.names.items es) (own-kinds_of t r h.node.kids h.kids h.heading h.block_is)
          (same-ending k (here_at all r l) (annotation_of all r) x.names.items ds h.ends names);
    }

-- the names that a routine declares, from those that a forward heading gives
pub declares-names : (s : Tables) (site : RoutineSite) (node : Plain) (given : List (List ℕ)) (declared : List DeclaredName) →
    ((t : Plain) (r : Routine) (blocks : List ℕ) → IsProper t → is_program t.kind ≡ true → IsOneOf (routines_of t) r → StandsAround (routines_of t) r s blocks site → HasSame given (given_names r)) →
    ((t : Plain) (r : Routine) → kids_at t r.place ≡ node.kids → r.is_later ≡ site.is_later → HasSame given (given_names r) → AreDeclared declared (own_kinds t r)) → DeclaresNames s site node declared
declares-names s site node given declared gives found = λ t r blocks proper program among kids around. found t r kids (sym around.later) (gives t r blocks proper program among around)
