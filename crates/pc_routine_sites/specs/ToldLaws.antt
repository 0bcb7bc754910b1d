-- A routine is told again with its signature: the tables stand for the place for which they stood, lemmas.
use Rattle.std.proofs.Common.{◌≡◌, ℕ, Bool, true, false, if◌then◌else◌, List, slice_get, Option, Some, None, refl, ap, sym, ◌∙◌, subst, true≢false}
use Rattle.std.proofs.lemmas.Slice.Eq.{bytes_eq-Decides}
use Rattle.std.specs.Str.{bytes_eq}
use Rattle.pc_types.specs.declared.form.OwnerId.{OwnerId}
use Rattle.pc_names.specs.Standing.{meant, IsKnown}
use Rattle.pc_names.specs.TableLaws.{slice_get-number_of}
use Rattle.pc_names.specs.declared.id.DeclarationId.{DeclarationId}
use Rattle.pc_names.specs.declared.id.NameId.{NameId}
use Rattle.pc_rules.specs.Meanings.{Meaning, Local, Outside, entry_of, is_routine_class}
use Rattle.pc_facts.specs.Shows.{ShowsMeaning}
use Rattle.pc_facts.specs.declared.sighting.Declared.{Declared}
use Rattle.pc_facts.specs.declared.sighting.SignatureId.{SignatureId}
use Rattle.pc_places.specs.Places.{known, IsPlace, Moves, RetellsDeclaration}
use Rattle.pc_places.specs.PlacesLaws.{IsPlace-alike}
use Rattle.pc_places.specs.Scenes.{unsigned, Declares, ShowsUnsigned}
use Rattle.pc_places.specs.TellingLaws.{telling, IsPlace-telling}
use Rattle.pc_places.specs.declared.tables.Tables.{Tables}
use Rattle.pc_routines.specs.Bare.{class_of, declared_routine}
use Rattle.pc_routines.specs.Heads.{ShowsHeadName}
use Rattle.pc_routines.specs.HeadsLaws.{number-shown}
use Rattle.pc_routine_sites.specs.Declaring.{signed_routine, TellsRoutine}
use Rattle.pc_routine_sites.specs.FreshLaws.{HasFresh}

-- ---- a name that is told again as what it means means the same

same-entry : (l : Local) (n q : List ℕ) (m : Meaning) → entry_of l.known n ≡ Some m → (b : Bool) → bytes_eq n q ≡ b → entry_of l.known q ≡ (if b then Some m else entry_of l.known q)
same-entry l n q m has true e = ap (entry_of l.known) (sym ((bytes_eq-Decides n q).0 e)) ∙ has
same-entry l n q m has false e = refl

told-same : (l : Local) (n q : List ℕ) (m : Meaning) → entry_of l.known n ≡ Some m → entry_of l.known q ≡ entry_of (telling l n m).known q
told-same l n q m has = same-entry l n q m has (bytes_eq n q) refl

routine-class : (b : Bool) → is_routine_class (meant (class_of b)) ≡ true
routine-class true = refl
routine-class false = refl

-- the declaration with its signature shows what the one without shows
signed-declares : (t : Tables) (owner : OwnerId) (i : NameId) (b : Bool) (s : Option SignatureId) (n p : List ℕ) (x : Declared) (m : Meaning) → slice_get t.names.texts i.0 ≡ Some n →
    x ≡ declared_routine owner i b → Declares (known t) p x m → Declares (known t) n (signed_routine owner i b s) m
signed-declares t owner i b s n p x m named is h =
    let shows : ShowsMeaning (known t) p (declared_routine owner i b) (unsigned m) = subst (λ (y : Declared). ShowsMeaning (known t) p (record y { signature = None }) (unsigned m)) is h.shows in
    let same : p ≡ n = let a = shows.name in cc in
    record {
      shows = subst (λ (q : List ℕ). ShowsMeaning (known t) q (declared_routine owner i b) (unsigned m)) same shows;
      bare = h.bare;
      plain = λ none. absurd (true≢false (sym (routine-class b) ∙ ap is_routine_class shows.class ∙ none));
    }

-- ---- the place stays

module _ (block : ℕ) (owner : OwnerId) (b : Bool) (n : List ℕ) (s : Option SignatureId) (old new : Tables) (out : Outside) (l : Local) (moves : Moves block old new) (at : IsPlace old block owner.0 out l) where
  shown : (i : NameId) (d : DeclarationId) (m : Meaning) → ShowsHeadName old.names.texts (Some i) n → entry_of l.known n ≡ Some m → ShowsUnsigned (known old) old.declarations.items d.0 m →
      slice_get old.declarations.items d.0 ≡ Some (declared_routine owner i b) → RetellsDeclaration block i.0 (signed_routine owner i b s) old new → IsPlace new block owner.0 out l
  shown i d m names has shows declared tells =
      let number = number-shown old.names.texts i n names in
      let named = slice_get-number_of old.names.texts n i.0 number in
      let same : shows.declared ≡ declared_routine owner i b = let a = shows.is in cc in
      let declares = signed-declares old owner i b s n shows.name shows.declared m named same shows.shows in
      IsPlace-alike new block owner.0 out (telling l n m) l refl refl (λ q. refl) (λ q. refl) (λ q. told-same l n q m has)
      (IsPlace-telling block i.0 owner.0 tells.0 (signed_routine owner i b s) old new out l n m tells.2 tells.1 number declares moves.named at)

  entered : (i : NameId) (d : DeclarationId) (o : Option Meaning) → ShowsHeadName old.names.texts (Some i) n → entry_of l.known n ≡ o → IsKnown (ShowsUnsigned (known old) old.declarations.items) (Some d) o →
      slice_get old.declarations.items d.0 ≡ Some (declared_routine owner i b) → RetellsDeclaration block i.0 (signed_routine owner i b s) old new → IsPlace new block owner.0 out l
  entered i d None names has is declared tells = absurd is
  entered i d (Some m) names has is declared tells = shown i d m names has is declared tells

  retold-place : (name : Option NameId) → HasFresh block owner b name n old → ShowsHeadName old.names.texts name n → TellsRoutine block owner name b s true old new → IsPlace new block owner.0 out l
  retold-place name fresh names tells =
      let is : IsKnown (ShowsUnsigned (known old) old.declarations.items) (Some fresh.number) (entry_of l.known n) =
      subst (λ (o : Option DeclarationId). IsKnown (ShowsUnsigned (known old) old.declarations.items) o (entry_of l.known n)) fresh.known (at.own n).is_known in
      entered fresh.id fresh.number (entry_of l.known n) (subst (λ (o : Option NameId). ShowsHeadName old.names.texts o n) fresh.is names) refl is fresh.declared
      (subst (λ (o : Option NameId). TellsRoutine block owner o b s true old new) fresh.is tells)

  -- whether or not it is told again
  pub IsPlace-told : (name : Option NameId) (told : Bool) → (told ≡ true → HasFresh block owner b name n old) → ShowsHeadName old.names.texts name n → TellsRoutine block owner name b s told old new →
      IsPlace new block owner.0 out l
  IsPlace-told name false fresh names tells = subst (λ (t : Tables). IsPlace t block owner.0 out l) (sym tells) at
  IsPlace-told name true fresh names tells = retold-place name (fresh refl) names tells
