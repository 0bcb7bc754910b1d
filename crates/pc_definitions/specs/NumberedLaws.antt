-- The definition of a denoter behind a name: laws.
use Rattle.std.specs.Prelude.{◌≡◌, ◌<◌, ℕ, Bool, true, false, ◌||◌, List, [], ◌∷◌, ◌++◌, ◌+◌, ◌*◌, suc, zero, Some, take, get_or, slice_get, length, if◌then◌else◌}
use Rattle.std.proofs.Common.{refl, ap, sym, ◌∙◌, subst, arith}
use Rattle.std.proofs.lemmas.Bool.{true≢false}
use Rattle.std.specs.Str.{bytes_eq}
use Rattle.pc_syntax.specs.Classes.{is_name}
use Rattle.pc_syntax.specs.Plain.{Plain}
use Rattle.pc_syntax.specs.Sorts.{is_hole}
use Rattle.pc_syntax.specs.WellFormed.{IsProper}
use Rattle.pc_syntax.specs.Words.{lowered, is_among}
use Rattle.pc_syntax.specs.declared.kind.Kind.{Kind}
use Rattle.pc_types.specs.Shapes.{Owner, Definition}
use Rattle.pc_rules.specs.Meanings.{Local, Outside}
use Rattle.pc_rules.specs.Places.{times_in, denoter_named}
use Rattle.pc_environment.specs.Decorating.{place_behind, place_after}
use Rattle.pc_places.specs.declared.tables.Tables.{Tables}
use Rattle.pc_definitions.specs.Namings.{is_nameless, ShowsNaming, FitsNaming}
use Rattle.pc_definitions.specs.NamingLaws.{name-filled, nameless-is}
use Rattle.pc_definitions.specs.Numbered.{number_for, IsNumbered, AtDefinition, AmongBefore, defined_name, behind_first, AreBefore}
use Rattle.pc_definitions.specs.declared.naming.Naming.{Naming}
use Rattle.pc_definitions.specs.declared.naming.Naming.TheVariants as naming

-- the name of a node, and nothing where it is a hole
abbrev pub name_of : Plain → List ℕ
name_of t = if is_hole t.kind then [] else lowered t.word

-- a definition whose name was made of this word
pub definition-named : (texts : List (List ℕ)) (t : Plain) (n : Naming) (w : List ℕ) (d : Definition) (e : List ℕ → Definition) → d ≡ e (if is_nameless n then [] else lowered w) → w ≡ t.word →
    ShowsNaming texts t n → d ≡ e (name_of t)
definition-named texts t n w d e is word shows = is ∙ ap (λ v. e (if is_nameless n then [] else lowered v)) word ∙ ap (λ (b : Bool). e (if b then [] else lowered t.word)) (nameless-is texts t n shows)

none-by : (b : Bool) (c : Bool) (n : ℕ) → (b || c) ≡ false → (c ≡ false → n ≡ 0) → (if b then suc n else n) ≡ 0
none-by true c n e rest = absurd (true≢false e)
none-by false c n e rest = rest e

-- a name that stands nowhere stands there never
pub times-none : (ms : List (List ℕ)) (n : List ℕ) → is_among ms n ≡ false → times_in ms n ≡ 0
times-none [] n e = refl
times-none (m ∷ ms) n e = none-by (bytes_eq m n) (is_among ms n) (times_in ms n) e (times-none ms n)

pub number-named : (l : Local) (part : ℕ) (n : List ℕ) → (n ≡ [] → ⊥) → (denoter_named l part n).number ≡ times_in l.passed n
number-named l part [] some = absurd (some refl)
number-named l part (c ∷ cs) some = refl

-- the number of the denoter behind a name
pub numbered : (texts : List (List ℕ)) (l : Local) (t : Plain) (n : Naming) (kid part before : ℕ) → IsProper t → is_name t.kind ≡ true → ShowsNaming texts t n → FitsNaming l t n →
    IsNumbered kid before (name_of t) l → number_for n kid part before ≡ (denoter_named l part (name_of t)).number
numbered texts l t naming.Nameless kid part before proper is h f at =
    sym (ap (λ (b : Bool). (denoter_named l part (if b then [] else lowered t.word)).number) h ∙ ap (λ (k : ℕ). 2 * k + part) at.kid_is)
numbered texts l t (naming.First i) kid part before proper is h f at =
    sym (ap (λ (b : Bool). (denoter_named l part (if b then [] else lowered t.word)).number) h.0 ∙ number-named l part (lowered t.word) (name-filled t proper is h.0) ∙ times-none l.passed (lowered t.word) f)
numbered texts l t naming.Second kid part before proper is h f at =
    let same : name_of t ≡ lowered t.word = ap (λ (b : Bool). if b then [] else lowered t.word) h in
    sym (ap (λ (m : List ℕ). (denoter_named l part m).number) same ∙ number-named l part (lowered t.word) (name-filled t proper is h)
    ∙ subst (λ (m : List ℕ). times_in l.passed m ≡ before) same (at.before_is (ap (is_among l.passed) same ∙ f)))

-- the definition of the second kid of such a node
pub second-defined : (l : Local) (part : ℕ) (n : List ℕ) (o : Owner) (number : ℕ) (d : Definition) → d ≡ record { owner = o; name = n; number = number; inside = 2 ∷ [] } → o ≡ l.owner →
    number ≡ (denoter_named l part n).number → d ≡ record (denoter_named l part n) { inside = (denoter_named l part n).inside ++ 2 ∷ [] }
second-defined l part [] o number d is owner same = is ∙ (λ i. let e : Definition = record { owner = owner i; name = []; number = same i; inside = 2 ∷ [] } in e)
second-defined l part (c ∷ cs) o number d is owner same = is ∙ (λ i. let e : Definition = record { owner = owner i; name = c ∷ cs; number = same i; inside = 2 ∷ [] } in e)

-- ---- definitions in a row

get-behind : (bs : List ℕ) (i : ℕ) → get_or (behind_first bs) i 0 ≡ get_or bs (suc i) 0
get-behind [] i = refl
get-behind (b ∷ bs) i = refl

-- how often the name of one of them stood before
pub before-at : (k : Kind) (out : Outside) (l : Local) (ts : List Plain) (bs : List ℕ) (i : ℕ) (t : Plain) → AreBefore k out l ts bs → slice_get ts i ≡ Some t → t.kind ≡ k →
    is_among (place_after out l (take i ts)).passed (defined_name k t.kids) ≡ true → times_in (place_after out l (take i ts)).passed (defined_name k t.kids) ≡ get_or bs i 0
before-at k out l [] bs i t h at e among = cc
before-at k out l (u ∷ ts) bs zero t h at e among =
    let same : u ≡ t = cc in
    subst (λ (v : Plain). v.kind ≡ k → is_among l.passed (defined_name k v.kids) ≡ true → times_in l.passed (defined_name k v.kids) ≡ get_or bs 0 0) same h.0 e among
before-at k out l (u ∷ ts) bs (suc i) t h at e among = before-at k out (place_behind out l u) ts (behind_first bs) i t h.1 at e among ∙ get-behind bs i

-- which kid stands behind others
pub place-kid : (out : Outside) (l : Local) (ts : List Plain) → (place_after out l ts).kid ≡ l.kid + length ts
place-kid out l [] = omega arith
place-kid out l (t ∷ ts) = place-kid out (place_behind out l t) ts ∙ omega arith

pub taken-length : {X : Type 0} (xs : List X) (i : ℕ) → i < length xs → length (take i xs) ≡ i
taken-length [] i less = absurd (omega (arith, less))
taken-length (x ∷ xs) zero less = refl
taken-length (x ∷ xs) (suc i) less = ap suc (taken-length xs i (omega (arith, less)))

-- the next of some definitions has these numbers
pub next-numbered : (k : Kind) (list kids : List Plain) (bs : List ℕ) (i number times : ℕ) (kid : Plain) → kids ≡ list → i < length kids → slice_get kids i ≡ Some kid → number ≡ i + 1 → times ≡ get_or bs i 0 →
    (t0 t1 : Tables) (out : Outside) (l : Local) → AmongBefore k list bs t0 l → AtDefinition k number times kid t1 (place_after out l (take i kids))
next-numbered k list kids bs i number times kid same less is numbers before t0 t1 out l at = λ e.
    let here = subst (λ (ks : List Plain). AmongBefore k ks bs t0 l) (sym same) at in
    let count : length (take i kids) ≡ i = taken-length kids i less in
    let first : l.kid ≡ 1 = here.first in
    let placed : (place_after out l (take i kids)).kid ≡ l.kid + length (take i kids) = place-kid out l (take i kids) in
    record {
      kid_is = placed ∙ (λ j. first j + count j) ∙ (let whole : 1 + i ≡ i + 1 = omega arith in whole) ∙ sym numbers;
      before_is = λ among. before-at k out l kids bs i kid (here.before out) is e among ∙ sym before;
    }
