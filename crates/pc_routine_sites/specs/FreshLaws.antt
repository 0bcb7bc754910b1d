-- What a block has of names where a routine is declared, and told again with its signature: lemmas.
use Rattle.std.proofs.Common.{◌≡◌, ℕ, Bool, true, false, not, ◌&&◌, if◌then◌else◌, List, slice_get, Option, Some, None, refl, ap, sym, ◌∙◌, subst}
use Rattle.std.proofs.lemmas.Slice.Eq.{bytes_eq-Decides}
use Rattle.std.specs.Option.{is_some, unwrap_or}
use Rattle.std.specs.Str.{bytes_eq}
use Rattle.pc_types.specs.declared.form.OwnerId.{OwnerId}
use Rattle.pc_names.specs.Bindings.{slot_in, completed, declared, retold}
use Rattle.pc_names.specs.Numbers.{number_of}
use Rattle.pc_names.specs.Table.{slot_at, slot_named}
use Rattle.pc_names.specs.TableLaws.{slot_named-Rebinds}
use Rattle.pc_names.specs.declared.id.DeclarationId.{DeclarationId}
use Rattle.pc_names.specs.declared.id.NameId.{NameId}
use Rattle.pc_names.specs.declared.slot.Slot.{Slot}
use Rattle.pc_facts.specs.declared.sighting.Declared.{Declared}
use Rattle.pc_facts.specs.declared.sighting.SignatureId.{SignatureId}
use Rattle.pc_places.specs.Places.{AddsDeclaration, RetellsDeclaration}
use Rattle.pc_places.specs.declared.tables.Tables.{Tables}
use Rattle.pc_routines.specs.Bare.{declared_routine, AddsRoutine}
use Rattle.pc_routines.specs.DeclaringLaws.{added-last}
use Rattle.pc_routines.specs.Heads.{ShowsHeadName}
use Rattle.pc_routines.specs.HeadsLaws.{number-shown}
use Rattle.pc_routine_sites.specs.Declaring.{signed_routine, is_free, TellsRoutine}
use Rattle.pc_routine_sites.specs.SignedLaws.{KnowsAlike}

-- ---- a name gets a declaration, or is told again

-- what a block has of a name with a number
at-number : (t : Tables) (block : ℕ) (n : List ℕ) (i : NameId) → number_of t.names.texts n ≡ Some i.0 → slot_named t.names block n ≡ slot_in t.names.slots block i.0
at-number t block n i e = ap (slot_at t.names.slots block) e

added-slot : (block : ℕ) (i : NameId) (x : Declared) (old new : Tables) (n q : List ℕ) (a : AddsDeclaration block i.0 x old new) → number_of old.names.texts n ≡ Some i.0 →
    slot_named new.names block q ≡ (if bytes_eq n q then declared (slot_in old.names.slots block i.0) a.0 else slot_named old.names block q)
added-slot block i x old new n q a number = slot_named-Rebinds old.names new.names block i.0 (declared (slot_in old.names.slots block i.0) a.0) a.2.names n number q

told-slot : (block : ℕ) (i : NameId) (x : Declared) (old new : Tables) (n q : List ℕ) (a : RetellsDeclaration block i.0 x old new) → number_of old.names.texts n ≡ Some i.0 →
    slot_named new.names block q ≡ (if bytes_eq n q then retold (slot_in old.names.slots block i.0) a.0 else slot_named old.names block q)
told-slot block i x old new n q a number = slot_named-Rebinds old.names new.names block i.0 (retold (slot_in old.names.slots block i.0) a.0) a.2.names n number q

-- it has of any other name what it had
apart-slot : (b : Bool) (s u v : Slot) → b ≡ false → s ≡ (if b then u else v) → s ≡ v
apart-slot true s u v e h = cc
apart-slot false s u v e h = h

-- of this one it has the other thing
here-slot : (b : Bool) (s u v : Slot) → b ≡ true → s ≡ (if b then u else v) → s ≡ u
here-slot true s u v e h = h
here-slot false s u v e h = cc

same-name : (n : List ℕ) → bytes_eq n n ≡ true
same-name n = (bytes_eq-Decides n n).1 refl

-- ---- a fresh routine

-- the block has its declaration, which has no signature yet
pub record HasFresh (block : ℕ) (owner : OwnerId) (is_function : Bool) (name : Option NameId) (n : List ℕ) (t : Tables) : Type 0 where
  pub id : NameId
  pub is : name ≡ Some id
  pub number : DeclarationId
  pub known : (slot_named t.names block n).known ≡ Some number
  pub declared : slice_get t.declarations.items number.0 ≡ Some (declared_routine owner id is_function)

free-slot : (s : Slot) (d : DeclarationId) → (not s.passed && not (is_some s.known)) ≡ true → (declared s d).known ≡ Some d
free-slot s d e = by s.passed s.known refl refl e
  where
    by : (p : Bool) (o : Option DeclarationId) → s.passed ≡ p → s.known ≡ o → (not p && not (is_some o)) ≡ true → (declared s d).known ≡ Some d
    by true o f g h = cc
    by false (Some k) f g h = cc
    by false None f g h = (λ i. (if f i then s else record (completed s d) { passed = true }).known) ∙ ap (λ (o : Option DeclarationId). Some (unwrap_or o d)) g

-- it is declared
pub fresh-declared : (block : ℕ) (owner : OwnerId) (is_function : Bool) (name : Option NameId) (n : List ℕ) (later : Bool) (old new : Tables) → ShowsHeadName old.names.texts name n →
    AddsRoutine block owner name is_function later old new → (not later && is_free old.names block name) ≡ true → HasFresh block owner is_function name n new
fresh-declared block owner f name n true old new shows adds e = cc
fresh-declared block owner f None n false old new shows adds e = cc
fresh-declared block owner f (Some i) n false old new shows adds e =
    let number = number-shown old.names.texts i n shows in
    let slot = slot_in old.names.slots block i.0 in
    record {
      id = i;
      is = refl;
      number = adds.0;
      known = ap (λ (s : Slot). s.known) (here-slot (bytes_eq n n) (slot_named new.names block n) (declared slot adds.0) (slot_named old.names block n) (same-name n)
          (added-slot block i (declared_routine owner i f) old new n n adds number))
          ∙ free-slot slot adds.0 e;
      declared = added-last old.declarations.items new.declarations.items (declared_routine owner i f) adds.0.0 adds.2.declarations adds.1;
    }

-- of any other name the block has what it had
pub fresh-apart : (block : ℕ) (owner : OwnerId) (is_function : Bool) (name : Option NameId) (n : List ℕ) (later : Bool) (old new : Tables) → ShowsHeadName old.names.texts name n →
    AddsRoutine block owner name is_function later old new → (q : List ℕ) → bytes_eq n q ≡ false → slot_named new.names block q ≡ slot_named old.names block q
fresh-apart block owner f name n true old new shows adds q apart = ap (λ (t : Tables). slot_named t.names block q) adds
fresh-apart block owner f None n false old new shows adds q apart = ap (λ (t : Tables). slot_named t.names block q) adds
fresh-apart block owner f (Some i) n false old new shows adds q apart =
    apart-slot (bytes_eq n q) (slot_named new.names block q) (declared (slot_in old.names.slots block i.0) adds.0) (slot_named old.names block q) apart
    (added-slot block i (declared_routine owner i f) old new n q adds (number-shown old.names.texts i n shows))

-- ---- one that isn't fresh

kept-slot : (s : Slot) (d : DeclarationId) → (not s.passed && not (is_some s.known)) ≡ false → (declared s d).known ≡ s.known
kept-slot s d e = by s.passed s.known refl refl e
  where
    by : (p : Bool) (o : Option DeclarationId) → s.passed ≡ p → s.known ≡ o → (not p && not (is_some o)) ≡ false → (declared s d).known ≡ s.known
    by true o f g h = λ i. (if f i then s else record (completed s d) { passed = true }).known
    by false None f g h = cc
    by false (Some k) f g h = (λ i. (if f i then s else record (completed s d) { passed = true }).known) ∙ ap (λ (o : Option DeclarationId). Some (unwrap_or o d)) g ∙ sym g

-- the block has the complete declarations that it had
pub stale-known : (block : ℕ) (owner : OwnerId) (is_function : Bool) (name : Option NameId) (n : List ℕ) (later : Bool) (old new : Tables) → ShowsHeadName old.names.texts name n →
    AddsRoutine block owner name is_function later old new → (not later && is_free old.names block name) ≡ false → (q : List ℕ) → KnowsAlike block old new q
stale-known block owner f name n true old new shows adds e q = ap (λ (t : Tables). (slot_named t.names block q).known) adds
stale-known block owner f None n false old new shows adds e q = ap (λ (t : Tables). (slot_named t.names block q).known) adds
stale-known block owner f (Some i) n false old new shows adds e q = by (bytes_eq n q) refl
  where
    number : number_of old.names.texts n ≡ Some i.0
    number = number-shown old.names.texts i n shows

    slot : Slot
    slot = slot_in old.names.slots block i.0

    by : (b : Bool) → bytes_eq n q ≡ b → KnowsAlike block old new q
    by false apart = ap (λ (s : Slot). s.known) (fresh-apart block owner f (Some i) n false old new shows adds q apart)
    by true same =
        ap (λ (s : Slot). s.known) (here-slot (bytes_eq n q) (slot_named new.names block q) (declared slot adds.0) (slot_named old.names block q) same
        (added-slot block i (declared_routine owner i f) old new n q adds number))
        ∙ kept-slot slot adds.0 e
        ∙ ap (λ (s : Slot). s.known) (sym (at-number old block n i number) ∙ ap (slot_named old.names block) ((bytes_eq-Decides n q).0 same))

-- ---- told again

-- of any other name the block has what it had
pub told-apart : (block : ℕ) (owner : OwnerId) (is_function : Bool) (name : Option NameId) (n : List ℕ) (s : Option SignatureId) (b : Bool) (old new : Tables) → ShowsHeadName old.names.texts name n →
    TellsRoutine block owner name is_function s b old new → (q : List ℕ) → bytes_eq n q ≡ false → slot_named new.names block q ≡ slot_named old.names block q
told-apart block owner f name n s false old new shows tells q apart = ap (λ (t : Tables). slot_named t.names block q) tells
told-apart block owner f None n s true old new shows tells q apart = ap (λ (t : Tables). slot_named t.names block q) tells
told-apart block owner f (Some i) n s true old new shows tells q apart =
    apart-slot (bytes_eq n q) (slot_named new.names block q) (retold (slot_in old.names.slots block i.0) tells.0) (slot_named old.names block q) apart
    (told-slot block i (signed_routine owner i f s) old new n q tells (number-shown old.names.texts i n shows))

-- its declaration is the one with the signature
pub told-declared : (block : ℕ) (owner : OwnerId) (is_function : Bool) (i : NameId) (n : List ℕ) (s : Option SignatureId) (old new : Tables) → ShowsHeadName old.names.texts (Some i) n →
    RetellsDeclaration block i.0 (signed_routine owner i is_function s) old new → (d : DeclarationId) (x : Declared) → (slot_named new.names block n).known ≡ Some d →
    slice_get new.declarations.items d.0 ≡ Some x → x ≡ signed_routine owner i is_function s
told-declared block owner f i n s old new shows tells d x has is =
    let told = here-slot (bytes_eq n n) (slot_named new.names block n) (retold (slot_in old.names.slots block i.0) tells.0) (slot_named old.names block n) (same-name n)
    (told-slot block i (signed_routine owner i f s) old new n n tells (number-shown old.names.texts i n shows)) in
    let known : Some tells.0 ≡ Some d = sym (ap (λ (t : Slot). t.known) told) ∙ has in
    let same : tells.0 ≡ d = cc in
    let last = added-last old.declarations.items new.declarations.items (signed_routine owner i f s) tells.0.0 tells.2.declarations tells.1 in
    let there : slice_get new.declarations.items d.0 ≡ Some (signed_routine owner i f s) = subst (λ (e : DeclarationId). slice_get new.declarations.items e.0 ≡ Some (signed_routine owner i f s)) same last in
    cc
