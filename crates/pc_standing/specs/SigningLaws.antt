-- Routines keep their parameters and results while declarations are gone through: lemmas.
use Rattle.std.proofs.Common.{◌≡◌, ◌<◌, ◌≤◌, ℕ, suc, Bool, true, false, if◌then◌else◌, List, [], ◌∷◌, ◌++◌, Option, Some, None, length, get_or, slice_get, refl, ap, sym, ◌∙◌, subst, arith, true≢false}
use Rattle.std.proofs.lemmas.Slice.Eq.{bytes_eq-Decides}
use Rattle.std.specs.Option.{unwrap_or}
use Rattle.std.specs.Str.{bytes_eq}
use Rattle.pc_types.specs.Shapes.{Owner}
use Rattle.pc_types.specs.Table.{nobody}
use Rattle.pc_names.specs.Bindings.{slot_in, completed, declared}
use Rattle.pc_names.specs.Chains.{AreBelow, chain_of}
use Rattle.pc_names.specs.Numbers.{number_of}
use Rattle.pc_names.specs.Standing.{meant, IsKnown}
use Rattle.pc_names.specs.Table.{slot_at, slot_named}
use Rattle.pc_names.specs.TableLaws.{slot_named-Rebinds}
use Rattle.pc_names.specs.declared.id.DeclarationId.{DeclarationId}
use Rattle.pc_names.specs.declared.slot.Slot.{Slot}
use Rattle.pc_rules.specs.Meanings.{Meaning, Local, Outside, entry_of, is_routine_class}
use Rattle.pc_facts.specs.Known.{Known}
use Rattle.pc_facts.specs.Shows.{ShowsSignatures}
use Rattle.pc_facts.specs.declared.sighting.Declared.{Declared}
use Rattle.pc_growth.specs.Grows.{Begins, Grows}
use Rattle.pc_growth.specs.GrowsLaws.{less-begins, get_or-begins, slice_get-begins, ShowsSignatures-grows}
use Rattle.pc_places.specs.MovesLaws.{IsPlace-begun}
use Rattle.pc_places.specs.Places.{known, IsPlace, IsNamed, Keeps, Moves, Rebound, AddsDeclaration}
use Rattle.pc_places.specs.ReboundLaws.{rebound-grows, rebound-begins}
use Rattle.pc_places.specs.Scenes.{ShowsUnsigned}
use Rattle.pc_places.specs.declared.tables.Tables.{Tables}
use Rattle.pc_standing.specs.Signed.{Signatures, HasSignature, IsSignedIn, IsSigned, NoRoutines}

-- the routines of a block, or of some blocks, have their parameters and results by these tables
abbrev pub SignsBlock : Tables → Signatures → ℕ → Type 0
SignsBlock t sig b = IsSignedIn t.names (known t) t.declarations.items sig b

abbrev pub SignsBlocks : Tables → Signatures → List ℕ → Type 0
SignsBlocks t sig bs = IsSigned t.names (known t) t.declarations.items sig bs

HasSignature-grows : (a b : Known) (sig : Signatures) (n : List ℕ) (x : Declared) → Grows a b → HasSignature a sig n x → HasSignature b sig n x
HasSignature-grows a b sig n x grows h = (
  less-begins a.table.owners b.table.owners x.owner.0 grows.owners h.0,
  subst (λ (o : Owner). ShowsSignatures b x.signature (sig o n)) (sym (get_or-begins a.table.owners b.table.owners x.owner.0 nobody grows.owners h.0))
      (ShowsSignatures-grows a b x.signature (sig (get_or a.table.owners x.owner.0 nobody) n) grows h.1),
)

-- ---- what a block had of a name

pub kept-at : (old new : Tables) (sig : Signatures) (b : ℕ) (n : List ℕ) → Grows (known old) (known new) → Begins old.declarations.items new.declarations.items → IsNamed old.names old.declarations.items →
    SignsBlock old sig b → (d : DeclarationId) (x : Declared) → (slot_named old.names b n).known ≡ Some d → slice_get new.declarations.items d.0 ≡ Some x →
    is_routine_class (meant x.class) ≡ true → HasSignature (known new) sig n x
kept-at old new sig b n grows begins named signs d x was is routine =
    let under = named b n d was in
    let same : x ≡ under.0 = let a = slice_get-begins old.declarations.items new.declarations.items d.0 under.0 begins under.1 in cc in
    subst (HasSignature (known new) sig n) (sym same)
    (HasSignature-grows (known old) (known new) sig n under.0 grows
    (signs n d under.0 was under.1 (ap (λ (y : Declared). is_routine_class (meant y.class)) (sym same) ∙ routine)))

-- the block has of each name what it had
pub SignsBlock-kept : (old new : Tables) (sig : Signatures) (b : ℕ) → Grows (known old) (known new) → Begins old.declarations.items new.declarations.items →
    ((n : List ℕ) → slot_named new.names b n ≡ slot_named old.names b n) → IsNamed old.names old.declarations.items → SignsBlock old sig b → SignsBlock new sig b
SignsBlock-kept old new sig b grows begins kept named signs = λ n d x has is routine.
    kept-at old new sig b n grows begins named signs d x (sym (ap (λ (s : Slot). s.known) (kept n)) ∙ has) is routine

-- all blocks have what they had
pub SignsBlocks-kept : (old new : Tables) (sig : Signatures) (bs : List ℕ) → Keeps old new → IsNamed old.names old.declarations.items → SignsBlocks old sig bs → SignsBlocks new sig bs
SignsBlocks-kept old new sig [] k named signs = tt
SignsBlocks-kept old new sig (b ∷ bs) k named signs =
    (SignsBlock-kept old new sig b k.grows k.declarations (k.slots b) named signs.0, SignsBlocks-kept old new sig bs k named signs.1)

-- blocks before this number have what they had
pub SignsBlocks-under : (n : ℕ) (old new : Tables) (sig : Signatures) (bs : List ℕ) → AreBelow n bs → Grows (known old) (known new) → Begins old.declarations.items new.declarations.items →
    ((b : ℕ) → b < n → (q : List ℕ) → slot_named new.names b q ≡ slot_named old.names b q) → IsNamed old.names old.declarations.items → SignsBlocks old sig bs → SignsBlocks new sig bs
SignsBlocks-under n old new sig [] below grows begins kept named signs = tt
SignsBlocks-under n old new sig (b ∷ bs) below grows begins kept named signs =
    (SignsBlock-kept old new sig b grows begins (kept b below.0) named signs.0, SignsBlocks-under n old new sig bs below.1 grows begins kept named signs.1)

-- they were begun, and are others than the one that was moved in
pub SignsBlocks-below : (n moved : ℕ) (old new : Tables) (sig : Signatures) (bs : List ℕ) → n ≤ moved → n ≤ length old.names.chains → AreBelow n bs → Moves moved old new →
    IsNamed old.names old.declarations.items → SignsBlocks old sig bs → SignsBlocks new sig bs
SignsBlocks-below n moved old new sig bs apart begun below k named signs =
    SignsBlocks-under n old new sig bs below k.grows k.declarations (λ b less q. k.others b q (omega arith) (λ e. omega arith)) named signs

below-more : (n : ℕ) (bs : List ℕ) → AreBelow n bs → AreBelow (suc n) bs
below-more n [] h = tt
below-more n (b ∷ bs) h = let less = h.0 in (omega arith, below-more n bs h.1)

-- the blocks around a block that was moved in
pub SignsBlocks-around : (old new : Tables) (sig : Signatures) (block owner : ℕ) (out : Outside) (l : Local) (at : IsPlace old block owner out l) → Moves block old new →
    IsNamed old.names old.declarations.items → SignsBlocks old sig at.outer → SignsBlocks new sig at.outer
SignsBlocks-around old new sig block owner out l at k named signs =
    let begun = IsPlace-begun old block owner out l at in SignsBlocks-below block block old new sig at.outer (omega arith) (omega arith) at.below k named signs

-- a block and those around it, where a block that was begun later was moved in
pub SignsBlocks-later : (later : ℕ) (old new : Tables) (sig : Signatures) (block owner : ℕ) (out : Outside) (l : Local) → block < later → IsPlace old block owner out l → Moves later old new →
    IsNamed old.names old.declarations.items → SignsBlocks old sig (chain_of old.names.chains block) → SignsBlocks new sig (chain_of old.names.chains block)
SignsBlocks-later later old new sig block owner out l less at k named signs =
    let begun = IsPlace-begun old block owner out l at in
    subst (SignsBlocks new sig) (sym at.chain)
    (SignsBlocks-below (suc block) later old new sig (block ∷ at.outer) (omega arith) (omega arith) (omega arith, below-more block at.outer at.below) k named (subst (SignsBlocks old sig) at.chain signs))

-- ---- a block before its routines

abbrev IsPlain : Option Meaning → Type 0
IsPlain None = Unit {0}
IsPlain (Some m) = is_routine_class m.class ≡ false

plain-by : (b : Bool) (m : Meaning) (rest : Option Meaning) → is_routine_class m.class ≡ false → IsPlain rest → IsPlain (if b then Some m else rest)
plain-by true m rest h g = h
plain-by false m rest h g = g

entry-plain : (ds : List (List ℕ × Meaning)) (n : List ℕ) → NoRoutines ds → IsPlain (entry_of ds n)
entry-plain [] n h = tt
entry-plain (d ∷ ds) n h = plain-by (bytes_eq d.0 n) d.1 (entry_of ds n) h.0 (entry-plain ds n h.1)

no-routine : (t : Tables) (d : DeclarationId) (x : Declared) (o : Option Meaning) → IsKnown (ShowsUnsigned (known t) t.declarations.items) (Some d) o → IsPlain o →
    slice_get t.declarations.items d.0 ≡ Some x → is_routine_class (meant x.class) ≡ true → ⊥
no-routine t d x None shows plain is routine = shows
no-routine t d x (Some m) shows plain is routine =
    let same : x ≡ shows.declared = let a = shows.is in cc in
    true≢false (sym routine ∙ ap (λ (y : Declared). is_routine_class (meant y.class)) same ∙ ap is_routine_class shows.shows.shows.class ∙ plain)

-- no routine of the block is complete yet
pub SignsBlock-start : (t : Tables) (sig : Signatures) (block owner : ℕ) (out : Outside) (l : Local) → IsPlace t block owner out l → NoRoutines l.known → SignsBlock t sig block
SignsBlock-start t sig block owner out l at none = λ n d x has is routine.
    let stands = (at.own n).is_known in
    absurd (no-routine t d x (entry_of l.known n) (subst (λ (o : Option DeclarationId). IsKnown (ShowsUnsigned (known t) t.declarations.items) o (entry_of l.known n)) has stands) (entry-plain l.known n none) is routine)

-- ---- one more declaration

slice_get-last : {X : Type 0} (xs : List X) (x : X) → slice_get (xs ++ x ∷ []) (length xs) ≡ Some x
slice_get-last [] x = refl
slice_get-last (y ∷ ys) x = slice_get-last ys x

-- a block has its routines' parameters and results with one more declaration, if the one of a routine that is the first of its name has them
pub SignsBlock-declared : (old new : Tables) (sig : Signatures) (block name : ℕ) (x : Declared) (n : List ℕ) → AddsDeclaration block name x old new → number_of old.names.texts n ≡ Some name →
    IsNamed old.names old.declarations.items → SignsBlock old sig block →
    ((slot_in old.names.slots block name).passed ≡ false → is_routine_class (meant x.class) ≡ true → HasSignature (known new) sig n x) → SignsBlock new sig block
SignsBlock-declared old new sig block name x n added number named signs mine = λ q d y has is routine.
    by q d y is routine (bytes_eq n q) refl (sym (ap (λ (s : Slot). s.known) (slot_named-Rebinds old.names new.names block name slot rebound.names n number q)) ∙ has)
  where
    slot : Slot
    slot = declared (slot_in old.names.slots block name) added.0

    rebound : Rebound block name slot (x ∷ []) old new
    rebound = added.2

    kept : (q : List ℕ) (d : DeclarationId) (y : Declared) → slice_get new.declarations.items d.0 ≡ Some y → is_routine_class (meant y.class) ≡ true →
        (slot_named old.names block q).known ≡ Some d → HasSignature (known new) sig q y
    kept q d y is routine was =
        kept-at old new sig block q (rebound-grows block name slot (x ∷ []) old new rebound) (rebound-begins block name slot (x ∷ []) old new rebound) named signs d y was is routine

    at-name : (d : DeclarationId) → (slot_in old.names.slots block name).known ≡ Some d → (slot_named old.names block n).known ≡ Some d
    at-name d was = subst (λ (i : Option ℕ). (slot_at old.names.slots block i).known ≡ Some d) (sym number) was

    last : slice_get new.declarations.items added.0.0 ≡ Some x
    last =
        ap (slice_get new.declarations.items) added.1
        ∙ ap (λ (ds : List Declared). slice_get ds (length old.declarations.items)) rebound.declarations
        ∙ slice_get-last old.declarations.items x

    fresh : (d : DeclarationId) (y : Declared) → slice_get new.declarations.items d.0 ≡ Some y → is_routine_class (meant y.class) ≡ true → (slot_in old.names.slots block name).passed ≡ false →
        (j : Option DeclarationId) → (slot_in old.names.slots block name).known ≡ j → Some (unwrap_or j added.0) ≡ Some d → HasSignature (known new) sig n y
    fresh d y is routine first (Some k) was has = kept n d y is routine (at-name d (was ∙ has))
    fresh d y is routine first None was has =
        let same : added.0 ≡ d = cc in
        let there : slice_get new.declarations.items d.0 ≡ Some x = subst (λ (e : DeclarationId). slice_get new.declarations.items e.0 ≡ Some x) same last in
        let equal : x ≡ y = cc in
        subst (HasSignature (known new) sig n) equal (mine first (ap (λ (z : Declared). is_routine_class (meant z.class)) equal ∙ routine))

    here : (d : DeclarationId) (y : Declared) → slice_get new.declarations.items d.0 ≡ Some y → is_routine_class (meant y.class) ≡ true → (p : Bool) → (slot_in old.names.slots block name).passed ≡ p →
        (if p then slot_in old.names.slots block name else record (completed (slot_in old.names.slots block name) added.0) { passed = true }).known ≡ Some d → HasSignature (known new) sig n y
    here d y is routine true e has = kept n d y is routine (at-name d has)
    here d y is routine false e has = fresh d y is routine e (slot_in old.names.slots block name).known refl has

    by : (q : List ℕ) (d : DeclarationId) (y : Declared) → slice_get new.declarations.items d.0 ≡ Some y → is_routine_class (meant y.class) ≡ true → (b : Bool) → bytes_eq n q ≡ b →
        (if b then slot else slot_named old.names block q).known ≡ Some d → HasSignature (known new) sig q y
    by q d y is routine false e has = kept q d y is routine has
    by q d y is routine true e has =
        subst (λ (r : List ℕ). HasSignature (known new) sig r y) ((bytes_eq-Decides n q).0 e) (here d y is routine (slot_in old.names.slots block name).passed refl has)
