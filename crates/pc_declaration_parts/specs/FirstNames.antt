-- The first name of some variables, by which the definition of their denoter is named: how it stood before, and its number.
use Rattle.std.specs.Prelude.{◌≡◌, ℕ, Bool, true, false, if◌then◌else◌, List, [], ◌∷◌, ◌++◌, zero, suc, Some, ◌*◌, ◌+◌, ◌==◌, length, take, slice_get}
use Rattle.std.proofs.Common.{refl, ap, sym, ◌∙◌, subst}
use Rattle.std.proofs.lemmas.Bool.{true≢false}
use Rattle.pc_syntax.specs.Plain.{Forest, Plain, forest_of}
use Rattle.pc_syntax.specs.Sorts.{is_hole}
use Rattle.pc_syntax.specs.Words.{lowered, is_among}
use Rattle.pc_scope.specs.Headings.{names_of}
use Rattle.pc_rules.specs.Meanings.{Local}
use Rattle.pc_rules.specs.Places.{first_of_names, denoter_named, times_in}
use Rattle.pc_names.specs.declared.id.NameId.{NameId}
use Rattle.pc_definitions.specs.Namings.{is_nameless}
use Rattle.pc_definitions.specs.Numbered.{number_for, IsNumbered}
use Rattle.pc_definitions.specs.NumberedLaws.{number-named, times-none}
use Rattle.pc_definitions.specs.VariableNamesLaws.{named, names-end}
use Rattle.pc_definitions.specs.declared.naming.Naming.{Naming}
use Rattle.pc_definitions.specs.declared.naming.Naming.TheVariants as naming

-- this is how the first name of some variables stands before at a place; an empty one is none
abbrev pub FitsFirst : Local → List ℕ → Naming → Type 0
FitsFirst l n naming.Nameless = n ≡ []
FitsFirst l n (naming.First i) = (is_among l.passed n ≡ false) × (n ≡ [] → ⊥)
FitsFirst l n naming.Second = (is_among l.passed n ≡ true) × (n ≡ [] → ⊥)

-- by whether it stood before
pub fits-first : (l : Local) (n : List ℕ) (b : Bool) (i : NameId) → (n ≡ [] → ⊥) → b ≡ is_among l.passed n → FitsFirst l n (if b then naming.Second else naming.First i)
fits-first l n true i some e = (sym e, some)
fits-first l n false i some e = (sym e, some)

pub none-nameless : (b : Bool) (i : NameId) → is_nameless (if b then naming.Second else naming.First i) ≡ false
none-nameless true i = refl
none-nameless false i = refl

-- the number of the denoter behind it
pub first-numbered : (l : Local) (n : List ℕ) (x : Naming) (kid part before : ℕ) → FitsFirst l n x → IsNumbered kid before n l → number_for x kid part before ≡ (denoter_named l part n).number
first-numbered l n naming.Nameless kid part before fits at =
    sym (ap (λ (m : List ℕ). (denoter_named l part m).number) fits ∙ ap (λ (k : ℕ). 2 * k + part) at.kid_is)
first-numbered l n (naming.First i) kid part before fits at = sym (number-named l part n fits.1 ∙ times-none l.passed n fits.0)
first-numbered l n naming.Second kid part before fits at = sym (number-named l part n fits.1 ∙ at.before_is fits.0)

-- its name
pub first-named : (x : Naming) (n w : List ℕ) → (is_nameless x ≡ true → w ≡ []) → w ≡ n → (if is_nameless x then [] else w) ≡ n
first-named x n w none same = by (is_nameless x) none where
  by : (b : Bool) → (b ≡ true → w ≡ []) → (if b then [] else w) ≡ n
  by true h = sym (h refl) ∙ same
  by false h = same

-- ---- in a list

no-name : (b : Bool) (w : List ℕ) (ns : List (List ℕ)) → (if b then ns else lowered w ∷ ns) ≡ [] → b ≡ true
no-name true w ns e = refl
no-name false w ns e = cc

no-more : (b : Bool) (w : List ℕ) (ns : List (List ℕ)) → (if b then ns else lowered w ∷ ns) ≡ [] → ns ≡ []
no-more true w ns e = e
no-more false w ns e = cc

-- the name behind holes is the first one
pub first-behind : (ts : List Plain) (i : ℕ) (t : Plain) → names_of (forest_of (take i ts)) ≡ [] → slice_get ts i ≡ Some t → is_hole t.kind ≡ false → first_of_names (names_of (forest_of ts)) ≡ lowered t.word
first-behind [] i t none at name = cc
first-behind (u ∷ ts) zero t none at name =
    let same : u ≡ t = cc in
    ap (λ (b : Bool). first_of_names (if b then names_of (forest_of ts) else lowered u.word ∷ names_of (forest_of ts))) (ap (λ (v : Plain). is_hole v.kind) same ∙ name)
    ∙ ap (λ (v : Plain). lowered v.word) same
first-behind (u ∷ ts) (suc i) t none at name =
    ap (λ (b : Bool). first_of_names (if b then names_of (forest_of ts) else lowered u.word ∷ names_of (forest_of ts))) (no-name (is_hole u.kind) u.word (names_of (forest_of (take i ts))) none)
    ∙ first-behind ts i t (no-more (is_hole u.kind) u.word (names_of (forest_of (take i ts))) none) at name

-- a hole is none
pub names-past : (ts : List Plain) (t : Plain) (all : List Plain) → all ≡ ts ++ t ∷ [] → names_of (forest_of ts) ≡ [] → is_hole t.kind ≡ true → names_of (forest_of all) ≡ []
names-past ts t all whole none hole =
    ap (λ (us : List Plain). names_of (forest_of us)) whole ∙ names-end ts t ∙ ap (λ (ns : List (List ℕ)). ns ++ named (is_hole t.kind) t.word []) none
    ∙ ap (λ (b : Bool). named b t.word []) hole

-- a word that isn't empty is none in small letters
pub lowered-some : (w : List ℕ) → (length w == 0) ≡ false → lowered w ≡ [] → ⊥
lowered-some [] some e = true≢false some
lowered-some (c ∷ w) some e = cc
