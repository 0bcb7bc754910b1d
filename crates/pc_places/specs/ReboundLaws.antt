-- A block has something else of one name: the tables stand for the next place: lemmas.
use Rattle.std.proofs.Common.{◌≡◌, ℕ, List, [], ◌∷◌, ◌++◌, length, slice_get, Option, Some, refl, ap, sym, ◌∙◌, subst, arith}
use Rattle.std.proofs.lemmas.List.{append-nil}
use Rattle.pc_syntax.specs.Words.{is_among}
use Rattle.pc_types.specs.Rows.{seen}
use Rattle.pc_names.specs.Bindings.{slot_in, announced, passed, completed, declared}
use Rattle.pc_names.specs.Numbers.{number_of, AreDistinct}
use Rattle.pc_names.specs.Standing.{StandsFor, meant}
use Rattle.pc_names.specs.StandingChanges.{StandsFor-more}
use Rattle.pc_names.specs.StandingLaws.{announce, passing, knowing, StandsFor-announce, StandsFor-passing, StandsFor-complete, StandsFor-define}
use Rattle.pc_names.specs.Table.{slot_at}
use Rattle.pc_names.specs.TableLaws.{slot_named-other}
use Rattle.pc_names.specs.declared.id.DeclarationId.{DeclarationId}
use Rattle.pc_names.specs.declared.name_class.NameClass.{NameClass}
use Rattle.pc_names.specs.declared.slot.Slot.{Slot}
use Rattle.pc_rules.specs.Meanings.{Meaning, Local, Outside, define}
use Rattle.pc_facts.specs.Known.{Known}
use Rattle.pc_facts.specs.declared.sighting.Declared.{Declared}
use Rattle.pc_growth.specs.Grows.{Begins, Grows}
use Rattle.pc_growth.specs.GrowsLaws.{Grows-same}
use Rattle.pc_places.specs.declared.tables.Tables.{Tables}
use Rattle.pc_places.specs.Scenes.{Declares, ShowsUnsigned}
use Rattle.pc_places.specs.SceneLaws.{ShowsUnsigned-grows}
use Rattle.pc_places.specs.MovesLaws.{IsPlace-changed}
use Rattle.pc_places.specs.Places.{known, IsPlace, IsNamed, Moves, Rebound}

-- the same is known
rebound-known : (block name : ℕ) (slot : Slot) (more : List Declared) (old new : Tables) → Rebound block name slot more old new → known new ≡ known old
rebound-known block name slot more old new h = λ i. record { table = seen (h.types i); names = h.names.texts i; texts = h.texts i; signatures = h.signatures i }

pub rebound-grows : (block name : ℕ) (slot : Slot) (more : List Declared) (old new : Tables) → Rebound block name slot more old new → Grows (known old) (known new)
rebound-grows block name slot more old new h = subst (λ (k : Known). Grows (known old) k) (sym (rebound-known block name slot more old new h)) (Grows-same (known old))

pub rebound-begins : (block name : ℕ) (slot : Slot) (more : List Declared) (old new : Tables) → Rebound block name slot more old new → Begins old.declarations.items new.declarations.items
rebound-begins block name slot more old new h = record { more = more; is = h.declarations }

rebound-chains : (block name : ℕ) (slot : Slot) (more : List Declared) (old new : Tables) → Rebound block name slot more old new → Begins old.names.chains new.names.chains
rebound-chains block name slot more old new h = record { more = []; is = h.names.chains ∙ sym (append-nil old.names.chains) }

-- the declarations under names stay so, if what the block has of the name now is such a one
pub Moves-rebound : (block name : ℕ) (slot : Slot) (more : List Declared) (old new : Tables) → Rebound block name slot more old new →
    (IsNamed old.names old.declarations.items → IsNamed new.names new.declarations.items) → Moves block old new
Moves-rebound block name slot more old new h named = record {
  grows = rebound-grows block name slot more old new h;
  declarations = rebound-begins block name slot more old new h;
  chains = rebound-chains block name slot more old new h;
  distinct = λ d. subst AreDistinct (sym h.names.texts) d;
  others = λ b n there apart. slot_named-other old.names new.names block name slot h.names b (λ e. apart (sym e)) n;
  named = named;
  domains = record { more = []; is = ap (λ t. (seen t).domains) h.types ∙ sym (append-nil (known old).table.domains) };
  owners = ap (λ t. (seen t).owners) h.types;
}

-- another place of the block
rebound-place : (block name : ℕ) (slot : Slot) (more : List Declared) (owner : ℕ) (old new : Tables) (out : Outside) (l m : Local) → Rebound block name slot more old new →
    m.fields ≡ l.fields → m.owner ≡ l.owner → StandsFor (ShowsUnsigned (known new) new.declarations.items) new.names block m → IsPlace old block owner out l → IsPlace new block owner out m
rebound-place block name slot more owner old new out l m h fields owners own at =
    IsPlace-changed old new block owner out l m (rebound-grows block name slot more old new h) (rebound-begins block name slot more old new h) (rebound-chains block name slot more old new h)
    (λ d. subst AreDistinct (sym h.names.texts) d) (λ b lower n. slot_named-other old.names new.names block name slot h.names b (λ e. omega arith) n) fields owners own at

-- what the block stood for, by what is declared now
stood : (block name : ℕ) (slot : Slot) (more : List Declared) (old new : Tables) (l : Local) → Rebound block name slot more old new →
    StandsFor (ShowsUnsigned (known old) old.declarations.items) old.names block l → StandsFor (ShowsUnsigned (known new) new.declarations.items) old.names block l
stood block name slot more old new l h own =
    StandsFor-more (ShowsUnsigned (known old) old.declarations.items) (ShowsUnsigned (known new) new.declarations.items) old.names block l
    (λ d m. ShowsUnsigned-grows (known old) (known new) old.declarations.items new.declarations.items d m (rebound-grows block name slot more old new h) (rebound-begins block name slot more old new h))
    own

-- one more name stands before
pub IsPlace-passing : (block name owner : ℕ) (old new : Tables) (out : Outside) (l : Local) (n : List ℕ) →
    Rebound block name (passed (slot_in old.names.slots block name)) [] old new → number_of old.names.texts n ≡ Some name → IsPlace old block owner out l →
    IsPlace new block owner out (passing l n)
IsPlace-passing block name owner old new out l n h number at =
    let slot = passed (slot_in old.names.slots block name) in
    rebound-place block name slot [] owner old new out l (passing l n) h refl refl
    (StandsFor-passing (ShowsUnsigned (known new) new.declarations.items) old.names new.names block name l n h.names number (stood block name slot [] old new l h at.own)) at

-- the block declares one more name
pub IsPlace-announce : (block name owner : ℕ) (class : NameClass) (old new : Tables) (out : Outside) (l : Local) (n : List ℕ) →
    Rebound block name (announced (slot_in old.names.slots block name) class) [] old new → number_of old.names.texts n ≡ Some name → IsPlace old block owner out l →
    IsPlace new block owner out (announce l n (meant class))
IsPlace-announce block name owner class old new out l n h number at =
    let slot = announced (slot_in old.names.slots block name) class in
    rebound-place block name slot [] owner old new out l (announce l n (meant class)) h refl refl
    (StandsFor-announce (ShowsUnsigned (known new) new.declarations.items) old.names new.names block name l n class h.names number (stood block name slot [] old new l h at.own)) at

slice_get-last : {X : Type 0} (xs : List X) (x : X) → slice_get (xs ++ x ∷ []) (length xs) ≡ Some x
slice_get-last [] x = refl
slice_get-last (y ∷ ys) x = slice_get-last ys x

-- the last declaration is the one that was added
added : (block name : ℕ) (slot : Slot) (x : Declared) (old new : Tables) (n : List ℕ) (m : Meaning) (d : ℕ) → Rebound block name slot (x ∷ []) old new → d ≡ length old.declarations.items →
    Declares (known old) n x m → ShowsUnsigned (known new) new.declarations.items d m
added block name slot x old new n m d h last shows = record {
  declared = x;
  is = ap (slice_get new.declarations.items) last ∙ ap (λ (ds : List Declared). slice_get ds (length old.declarations.items)) h.declarations ∙ slice_get-last old.declarations.items x;
  name = n;
  shows = subst (λ (k : Known). Declares k n x m) (sym (rebound-known block name slot (x ∷ []) old new h)) shows;
}

-- one more complete declaration
pub IsPlace-knowing : (block name owner : ℕ) (d : DeclarationId) (x : Declared) (old new : Tables) (out : Outside) (l : Local) (n : List ℕ) (m : Meaning) →
    Rebound block name (completed (slot_in old.names.slots block name) d) (x ∷ []) old new → d.0 ≡ length old.declarations.items → number_of old.names.texts n ≡ Some name →
    Declares (known old) n x m → IsPlace old block owner out l → IsPlace new block owner out (knowing l n m)
IsPlace-knowing block name owner d x old new out l n m h last number shows at =
    let slot = completed (slot_in old.names.slots block name) d in
    rebound-place block name slot (x ∷ []) owner old new out l (knowing l n m) h refl refl
    (StandsFor-complete (ShowsUnsigned (known new) new.declarations.items) old.names new.names block name l n d m (added block name slot x old new n m d.0 h last shows) h.names number
    (stood block name slot (x ∷ []) old new l h at.own)) at

-- one more declaration, which is complete unless the name stood before
pub IsPlace-define : (block name owner : ℕ) (d : DeclarationId) (x : Declared) (old new : Tables) (out : Outside) (l : Local) (n : List ℕ) (m : Meaning) →
    Rebound block name (declared (slot_in old.names.slots block name) d) (x ∷ []) old new → d.0 ≡ length old.declarations.items → number_of old.names.texts n ≡ Some name →
    Declares (known old) n x m → IsPlace old block owner out l → IsPlace new block owner out (define l n m)
IsPlace-define block name owner d x old new out l n m h last number shows at =
    let slot = declared (slot_in old.names.slots block name) d in
    rebound-place block name slot (x ∷ []) owner old new out l (define l n m) h refl refl
    (StandsFor-define (ShowsUnsigned (known new) new.declarations.items) old.names new.names block name l n d m (added block name slot x old new n m d.0 h last shows) h.names number
    (stood block name slot (x ∷ []) old new l h at.own)) at

-- whether a name stands before
passed-by : (old : Tables) (block name : ℕ) (l : Local) (n : List ℕ) → number_of old.names.texts n ≡ Some name →
    StandsFor (ShowsUnsigned (known old) old.declarations.items) old.names block l → (slot_in old.names.slots block name).passed ≡ is_among l.passed n
passed-by old block name l n number own = ap (λ (o : Option ℕ). (slot_at old.names.slots block o).passed) (sym number) ∙ (own n).is_passed

pub is_passed-at : (t : Tables) (block name owner : ℕ) (out : Outside) (l : Local) (n : List ℕ) → number_of t.names.texts n ≡ Some name → IsPlace t block owner out l →
    (slot_in t.names.slots block name).passed ≡ is_among l.passed n
is_passed-at t block name owner out l n number at = passed-by t block name l n number at.own
