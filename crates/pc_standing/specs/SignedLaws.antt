-- With the parameters and the results of routines, what the tables find is what names mean: lemmas.
use Rattle.std.proofs.Common.{◌≡◌, ℕ, Bool, true, false, if◌then◌else◌, List, [], ◌∷◌, Option, Some, None, slice_get, refl, ap, sym, ◌∙◌, subst}
use Rattle.pc_types.specs.Shapes.{Owner}
use Rattle.pc_names.specs.Bindings.{here_or, later_or}
use Rattle.pc_names.specs.Finding.{FindsAs, FindsAlong}
use Rattle.pc_names.specs.Table.{Table, slot_named, found_named}
use Rattle.pc_names.specs.declared.bound.Bound.{Bound}
use Rattle.pc_names.specs.declared.bound.Bound.TheVariants as bound
use Rattle.pc_names.specs.declared.id.DeclarationId.{DeclarationId}
use Rattle.pc_names.specs.declared.id.NameId.{NameId}
use Rattle.pc_names.specs.declared.name_class.NameClass.{NameClass}
use Rattle.pc_rules.specs.Meanings as rules
use Rattle.pc_rules.specs.Meanings.{Signature, Meaning, Found, is_routine_class}
use Rattle.pc_rules.specs.RequiredMeanings.{required_or_missing}
use Rattle.pc_facts.specs.Known.{Known}
use Rattle.pc_facts.specs.Shows.{ShowsMeaning, ShowsSignatures}
use Rattle.pc_facts.specs.declared.sighting.Declared.{Declared}
use Rattle.pc_facts.specs.declared.sighting.SignatureId.{SignatureId}
use Rattle.pc_places.specs.Places.{IsNamed}
use Rattle.pc_places.specs.Scenes.{unsigned, ShowsUnsigned}
use Rattle.pc_bodies.specs.Resolved.{ShowsDeclaration}
use Rattle.pc_standing.specs.Signed.{Signatures, signed, IsSignedIn, IsSigned}

-- ---- meanings with parameters and results

abbrev sign : Bool → Option Signature → Meaning → Meaning
sign b s m = if b then record m { signature = s } else m

sign-again : (sig : Signatures) (n : List ℕ) (m : Meaning) (b : Bool) → is_routine_class m.class ≡ b →
    signed sig n (rules.Here (sign b (sig m.owner n) m)) ≡ rules.Here (sign b (sig m.owner n) m)
sign-again sig n m true e = ap (λ (b : Bool). rules.Here (sign b (sig m.owner n) (record m { signature = sig m.owner n }))) e
sign-again sig n m false e = ap (λ (b : Bool). rules.Here (sign b (sig m.owner n) m)) e

-- once is enough
pub signed-twice : (sig : Signatures) (n : List ℕ) (f : Found) → signed sig n (signed sig n f) ≡ signed sig n f
signed-twice sig n (rules.Here m) = sign-again sig n m (is_routine_class m.class) refl
signed-twice sig n f = refl

-- no required name is a declaration
pub signed-required : (sig : Signatures) (n : List ℕ) → signed sig n (required_or_missing n) ≡ required_or_missing n
signed-required sig n = which _
  where
    which : (b : Bool) → signed sig n (if b then rules.Required n else rules.Missing) ≡ (if b then rules.Required n else rules.Missing)
    which true = refl
    which false = refl

-- ---- what the tables find

signed-here : (t : Table) (k : Known) (ds : List Declared) (sig : Signatures) (n : List ℕ) (b : ℕ) (d : DeclarationId) (rest : Bound) → IsSignedIn t k ds sig b →
    (rest ≡ bound.Here d → (c : ℕ) × IsSignedIn t k ds sig c × ((slot_named t c n).known ≡ Some d)) → (o : Option DeclarationId) (c : Option NameClass) → (slot_named t b n).known ≡ o →
    here_or o (later_or c rest) ≡ bound.Here d → (c : ℕ) × IsSignedIn t k ds sig c × ((slot_named t c n).known ≡ Some d)
signed-here t k ds sig n b d rest signs further (Some x) c known e = let same : x ≡ d = cc in (b, signs, known ∙ ap Some same)
signed-here t k ds sig n b d rest signs further None (Some c) known e = cc
signed-here t k ds sig n b d rest signs further None None known e = further e

-- a declaration that is found is a complete one of one of the blocks
found-signed : (t : Table) (k : Known) (ds : List Declared) (sig : Signatures) (n : List ℕ) (blocks : List ℕ) (d : DeclarationId) → IsSigned t k ds sig blocks →
    found_named t blocks n ≡ bound.Here d → (b : ℕ) × IsSignedIn t k ds sig b × ((slot_named t b n).known ≡ Some d)
found-signed t k ds sig n [] d signs e = cc
found-signed t k ds sig n (b ∷ bs) d signs e =
    signed-here t k ds sig n b d (found_named t bs n) signs.0 (λ f. found-signed t k ds sig n bs d signs.1 f) (slot_named t b n).known (slot_named t b n).class refl e

-- a declaration shows its meaning under each of its numbers' names
shows-named : (k : Known) (n : List ℕ) (x : Declared) (m : Meaning) (s : Option Signature) → ShowsMeaning k n (record x { signature = None }) (unsigned m) → ShowsSignatures k x.signature s →
    (i : NameId) (q : List ℕ) → slice_get k.names i.0 ≡ Some q → ShowsMeaning k q (record x { name = i }) (record m { signature = s })
shows-named k n x m s h signature i q is = record {
  class = h.class;
  owner = h.owner;
  owner_there = h.owner_there;
  name = is;
  value = h.value;
  type = h.type;
  signature = signature;
}

none-shown : (k : Known) (a : Option SignatureId) (b : Option Signature) → a ≡ None → b ≡ None → ShowsSignatures k a b
none-shown k None None e f = tt
none-shown k (Some i) b e f = cc
none-shown k None (Some s) e f = cc

shows-signed : (k : Known) (ds : List Declared) (sig : Signatures) (n : List ℕ) (d : ℕ) (x : Declared) (m : Meaning) → slice_get ds d ≡ Some x →
    ShowsMeaning k n (record x { signature = None }) (unsigned m) → (b : Bool) → (b ≡ false → m.signature ≡ None) → (b ≡ false → x.signature ≡ None) →
    (b ≡ true → ShowsSignatures k x.signature (sig m.owner n)) → ShowsDeclaration k ds d (sign b (sig m.owner n) m)
shows-signed k ds sig n d x m is h true bare plain signature = (x, is, shows-named k n x m (sig m.owner n) h (signature refl))
shows-signed k ds sig n d x m is h false bare plain signature = (x, is, shows-named k n x m m.signature h (none-shown k x.signature m.signature (plain refl) (bare refl)))

-- a complete declaration of a name
declared-signed : (t : Table) (k : Known) (ds : List Declared) (sig : Signatures) (n : List ℕ) (b : ℕ) (d : DeclarationId) (m : Meaning) → k.names ≡ t.texts → IsNamed t ds →
    IsSignedIn t k ds sig b → (slot_named t b n).known ≡ Some d → ShowsUnsigned k ds d.0 m → ShowsDeclaration k ds d.0 (sign (is_routine_class m.class) (sig m.owner n) m)
declared-signed t k ds sig n b d m names named signs known h =
    let under = named b n d known in
    let same : under.0 ≡ h.declared = let a = under.1 in let e = h.is in cc in
    let name : h.name ≡ n =
    let a : slice_get k.names h.declared.name.0 ≡ Some h.name = h.shows.shows.name in
    let e : slice_get t.texts h.declared.name.0 ≡ Some n = subst (λ (x : Declared). slice_get t.texts x.name.0 ≡ Some n) same under.2 in
    let f : slice_get k.names h.declared.name.0 ≡ Some n = subst (λ (ts : List (List ℕ)). slice_get ts h.declared.name.0 ≡ Some n) (sym names) e in
    cc in
    let shows : ShowsMeaning k n (record h.declared { signature = None }) (unsigned m) =
    subst (λ (q : List ℕ). ShowsMeaning k q (record h.declared { signature = None }) (unsigned m)) name h.shows.shows in
    shows-signed k ds sig n d.0 h.declared m h.is shows (is_routine_class m.class) h.shows.bare h.shows.plain
    (λ e.
    subst (λ (o : Owner). ShowsSignatures k h.declared.signature (sig o n)) shows.owner
    (signs n d h.declared known h.is (ap is_routine_class shows.class ∙ e)).1)

finds-signed : (t : Table) (k : Known) (ds : List Declared) (sig : Signatures) (n : List ℕ) (blocks : List ℕ) → k.names ≡ t.texts → IsNamed t ds → IsSigned t k ds sig blocks →
    (x : Bound) (f : Found) → found_named t blocks n ≡ x → FindsAs (ShowsUnsigned k ds) (required_or_missing n) x f → FindsAs (ShowsDeclaration k ds) (required_or_missing n) x (signed sig n f)
finds-signed t k ds sig n blocks names named signs (bound.Here d) (rules.Here m) e h =
    let block = found-signed t k ds sig n blocks d signs e in declared-signed t k ds sig n block.0 d m names named block.1 block.2 h
finds-signed t k ds sig n blocks names named signs (bound.Here d) f e h = absurd h
finds-signed t k ds sig n blocks names named signs (bound.Later c) (rules.Later q) e h = h
finds-signed t k ds sig n blocks names named signs (bound.Later c) f e h = absurd h
finds-signed t k ds sig n blocks names named signs bound.Unbound f e h = ap (signed sig n) h ∙ signed-required sig n

-- What is found is what names mean with parameters and results, if it is what they mean without, complete declarations are found under
-- their own names, and those of routines in these blocks have their parameters and results.
pub FindsAlong-signed : (t : Table) (k : Known) (ds : List Declared) (sig : Signatures) (blocks : List ℕ) (means : List ℕ → Found) → k.names ≡ t.texts → IsNamed t ds → IsSigned t k ds sig blocks →
    FindsAlong (ShowsUnsigned k ds) required_or_missing t blocks means → FindsAlong (ShowsDeclaration k ds) required_or_missing t blocks (λ n. signed sig n (means n))
FindsAlong-signed t k ds sig blocks means names named signs along = λ n.
    finds-signed t k ds sig n blocks names named signs (found_named t blocks n) (means n) refl (along n)
