-- A routine that was declared in the block around it with its heading gone through: lemmas.
use Rattle.std.proofs.Common.{◌≡◌, ◌<◌, ℕ, Bool, true, false, not, ◌&&◌, List, length, get_or, Option, refl, ap, sym, ◌∙◌, subst}
use Rattle.std.specs.Str.{bytes_eq}
use Rattle.pc_syntax.specs.Plain.{Plain}
use Rattle.pc_syntax.specs.WellFormed.{IsProper}
use Rattle.pc_types.specs.Table.{nobody}
use Rattle.pc_types.specs.declared.form.OwnerId.{OwnerId}
use Rattle.pc_names.specs.Table.{slot_named}
use Rattle.pc_names.specs.declared.id.NameId.{NameId}
use Rattle.pc_names.specs.declared.slot.Slot.{Slot}
use Rattle.pc_scope.specs.Headings.{heading_of, is_routine_kind}
use Rattle.pc_rules.specs.Declarations.{heading_here, is_later_declaration}
use Rattle.pc_rules.specs.Meanings.{Local, Outside}
use Rattle.pc_environment.specs.Decorating.{place_behind}
use Rattle.pc_facts.specs.Shows.{ShowsSignatures}
use Rattle.pc_growth.specs.GrowsLaws.{slice_get-begins}
use Rattle.pc_places.specs.MovesLaws.{IsPlace-kept}
use Rattle.pc_places.specs.Places.{known, IsPlace, IsNamed}
use Rattle.pc_places.specs.declared.tables.Tables.{Tables}
use Rattle.pc_headings.specs.declared.routine_heading.RoutineHeading.{RoutineHeading}
use Rattle.pc_routines.specs.Bare.{bare_routine}
use Rattle.pc_routines.specs.Heads.{ShowsHeadName, ShowsHead}
use Rattle.pc_routines.specs.KeyLaws.{ShowsHeadName-grows}
use Rattle.pc_routines.specs.declared.head.RoutineHead.{RoutineHead}
use Rattle.pc_standing.specs.Signed.{Signatures, HasSignature}
use Rattle.pc_standing.specs.SigningLaws.{SignsBlock}
use Rattle.pc_routine_sites.specs.BehindLaws.{IsPlace-next}
use Rattle.pc_routine_sites.specs.Declaring.{signed_routine, is_free, TellsRoutine, DeclaresRoutine}
use Rattle.pc_routine_sites.specs.FreshLaws.{HasFresh, fresh-declared, fresh-apart, stale-known, told-apart, told-declared}
use Rattle.pc_routine_sites.specs.SignedLaws.{KnowsAlike, SignsBlock-known, SignsBlock-told}
use Rattle.pc_routine_sites.specs.ToldLaws.{IsPlace-told}
use Rattle.pc_routine_sites.specs.Visits.{Visits}
use Rattle.pc_routine_sites.specs.VisitsLaws.{Visits-moved, Visits-kept, Visits-then}

module _ (block : ℕ) (around own : OwnerId) (x : RoutineHead) (later : Bool) (node : Plain) (h : RoutineHeading) (old new : Tables) (d : DeclaresRoutine block around own x later node h old new) where
  -- the tables behind it
  pub declared-visits : Visits block old new
  declared-visits =
      Visits-then block old d.headed new (Visits-then block old d.declared d.headed (Visits-moved block old d.declared d.moves) (Visits-kept block d.declared d.headed d.heads.keeps))
      (Visits-moved block d.headed new d.told)

  pub declared-owners : (known new).table.owners ≡ (known old).table.owners
  declared-owners = d.told.owners ∙ d.heads.keeps.owners ∙ d.moves.owners

  -- whether its declaration is told again
  abbrev pub is_fresh : Bool
  is_fresh = not later && is_free old.names block x.name

  module _ (n : List ℕ) (names : ShowsHeadName old.names.texts x.name n) where
    names_headed : ShowsHeadName d.headed.names.texts x.name n
    names_headed =
        ShowsHeadName-grows d.declared.names.texts d.headed.names.texts x.name n d.heads.keeps.grows.names
        (ShowsHeadName-grows old.names.texts d.declared.names.texts x.name n d.moves.grows.names names)

    has-declared : is_fresh ≡ true → HasFresh block around x.is_function x.name n d.declared
    has-declared e = fresh-declared block around x.is_function x.name n later old d.declared names d.adds e

    has-headed : is_fresh ≡ true → HasFresh block around x.is_function x.name n d.headed
    has-headed e = let f = has-declared e in record {
      id = f.id;
      is = f.is;
      number = f.number;
      known = ap (λ (s : Slot). s.known) (d.heads.keeps.slots block n) ∙ f.known;
      declared = slice_get-begins d.declared.declarations.items d.headed.declarations.items f.number.0 _ d.heads.keeps.declarations f.declared;
    }

    -- the place behind it
    pub declared-place : (out : Outside) (l : Local) → is_routine_kind node.kind ≡ true → IsProper node → heading_here l ≡ heading_of node.kind node.kids → ShowsHead old.names.texts x (heading_here l) →
        later ≡ is_later_declaration l → IsPlace old block around.0 out l → IsPlace new block around.0 out (place_behind out l (bare_routine node))
    declared-place out l r proper is shows late at =
        let m = place_behind out l (bare_routine node) in
        let first = IsPlace-next d.declared block around.0 out l node r (d.place out l proper is shows late at) in
        IsPlace-told block around x.is_function n h.signature d.headed new out m d.told (IsPlace-kept d.declared d.headed block around.0 out m d.heads.keeps first)
        x.name is_fresh has-headed names_headed d.tells

    -- ---- parameters and results of the block's routines

    module _ (sig : Signatures) (named : IsNamed old.names old.declarations.items) (signs : SignsBlock old sig block) where
      stale-signs : is_fresh ≡ false → TellsRoutine block around x.name x.is_function h.signature false d.headed new → SignsBlock new sig block
      stale-signs e tells = SignsBlock-known old new sig block declared-visits.grows declared-visits.declarations (λ q.
          ap (λ (t : Tables). (slot_named t.names block q).known) tells
          ∙ ap (λ (s : Slot). s.known) (d.heads.keeps.slots block q)
          ∙ stale-known block around x.is_function x.name n later old d.declared names d.adds e q) named signs

      apart-known : TellsRoutine block around x.name x.is_function h.signature true d.headed new → (q : List ℕ) → bytes_eq n q ≡ false → KnowsAlike block old new q
      apart-known tells q apart = ap (λ (s : Slot). s.known)
          (told-apart block around x.is_function x.name n h.signature true d.headed new names_headed tells q apart
          ∙ d.heads.keeps.slots block q
          ∙ fresh-apart block around x.is_function x.name n later old d.declared names d.adds q apart)

      fresh-signs : HasFresh block around x.is_function x.name n d.headed → TellsRoutine block around x.name x.is_function h.signature true d.headed new → around.0 < length (known new).table.owners →
          ShowsSignatures (known new) h.signature (sig (get_or (known new).table.owners around.0 nobody) n) → SignsBlock new sig block
      fresh-signs f tells there shows = SignsBlock-told old new sig block n declared-visits.grows declared-visits.declarations (apart-known tells) (λ i y has is.
          let same : y ≡ signed_routine around f.id x.is_function h.signature =
          told-declared block around x.is_function f.id n h.signature d.headed new (subst (λ (o : Option NameId). ShowsHeadName d.headed.names.texts o n) f.is names_headed)
          (subst (λ (o : Option NameId). TellsRoutine block around o x.is_function h.signature true d.headed new) f.is tells) i y has is in
          subst (HasSignature (known new) sig n) (sym same) (there, shows)) named signs

      -- they are as they were, if the routine has its own where it is fresh
      pub declared-signs : around.0 < length (known new).table.owners →
          (is_fresh ≡ true → ShowsSignatures (known new) h.signature (sig (get_or (known new).table.owners around.0 nobody) n)) → SignsBlock new sig block
      declared-signs there shows = by is_fresh refl d.tells
        where
          by : (b : Bool) → is_fresh ≡ b → TellsRoutine block around x.name x.is_function h.signature b d.headed new → SignsBlock new sig block
          by false e tells = stale-signs e tells
          by true e tells = fresh-signs (has-headed e) tells there (shows e)
