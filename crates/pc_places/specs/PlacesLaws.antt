-- The tables stand for a place, and for others at which the block has the same of each name: lemmas.
use Rattle.std.proofs.Common.{◌≡◌, ℕ, Bool, true, false, List, [], ◌∷◌, ◌++◌, refl, ap, sym, ◌∙◌, subst, if◌then◌else◌}
use Rattle.pc_syntax.specs.Plain.{Forest}
use Rattle.pc_syntax.specs.Words.{is_among}
use Rattle.pc_syntax.specs.declared.kind.Kind.{Kind}
use Rattle.pc_syntax.specs.declared.kind.Kind.TheVariants as kind
use Rattle.pc_syntax.specs.declared.sort.Sort.{Sort}
use Rattle.pc_names.specs.Finding.{FindsAlong}
use Rattle.pc_names.specs.FindingLaws.{FindsAlong-find}
use Rattle.pc_names.specs.Standing.{IsKnown}
use Rattle.pc_names.specs.StandingChanges.{StandsFor-retold}
use Rattle.pc_names.specs.StandingLaws.{passing, knowing, StandsFor-first, StandsFor-second}
use Rattle.pc_names.specs.Table.{slot_named}
use Rattle.pc_rules.specs.Attributes.{Attributes}
use Rattle.pc_rules.specs.Meanings.{Meaning, Local, Outside, define, define_all, entry_of, find}
use Rattle.pc_rules.specs.Places.{pass, pass_all, entered, inner, behind, beside}
use Rattle.pc_rules.specs.RequiredMeanings.{required_or_missing}
use Rattle.pc_places.specs.declared.tables.Tables.{Tables}
use Rattle.pc_places.specs.Scenes.{ShowsUnsigned, SeesNames}
use Rattle.pc_places.specs.SceneLaws.{ShowsUnsigned-with_signature}
use Rattle.pc_places.specs.Places.{known, IsPlace}

-- what names mean at a place for which the tables stand
pub names-at : (t : Tables) (block owner : ℕ) (out : Outside) (l : Local) → IsPlace t block owner out l → SeesNames (known t) t.names t.declarations.items block [] (find out l)
names-at t block owner out l h =
    let D = ShowsUnsigned (known t) t.declarations.items in
    record {
      outer = find out l;
      fields = [];
      along = subst (λ (bs : List ℕ). FindsAlong D required_or_missing t.names bs (find out l)) (sym h.chain)
          (FindsAlong-find D D required_or_missing t.names block h.outer out l (λ n d m. ShowsUnsigned-with_signature (known t) t.declarations.items out n d m) h.own h.around h.closed);
      opens = refl;
      means_are = λ n. refl;
      named = refl;
      distinct = h.distinct;
    }

-- ---- another place of the same block

-- a place at which the block has the same of each name
pub IsPlace-alike : (t : Tables) (block owner : ℕ) (out : Outside) (l m : Local) → m.fields ≡ l.fields → m.owner ≡ l.owner → ((n : List ℕ) → entry_of m.names n ≡ entry_of l.names n) →
    ((n : List ℕ) → is_among m.passed n ≡ is_among l.passed n) → ((n : List ℕ) → entry_of m.known n ≡ entry_of l.known n) → IsPlace t block owner out l → IsPlace t block owner out m
IsPlace-alike t block owner out l m fields owners names passed knows h =
    let D = ShowsUnsigned (known t) t.declarations.items in
    record {
      own = StandsFor-retold D D t.names block l m names passed (λ n is. subst (IsKnown D (slot_named t.names block n).known) (sym (knows n)) is) h.own;
      outer = h.outer;
      chain = h.chain;
      below = h.below;
      around = h.around;
      closed = fields ∙ h.closed;
      distinct = h.distinct;
      owner_is = h.owner_is ∙ sym owners;
      there = h.there;
    }

-- where the first kid stands
pub IsPlace-entered : (t : Tables) (block owner : ℕ) (out : Outside) (l : Local) (k : Kind) (ks : Forest) → IsPlace t block owner out (entered l k ks) → IsPlace t block owner out (inner l k ks)
IsPlace-entered t block owner out l k ks h = IsPlace-alike t block owner out (entered l k ks) (inner l k ks) refl refl (λ n. refl) (λ n. refl) (λ n. refl) h

pub IsPlace-inner : (t : Tables) (block owner : ℕ) (out : Outside) (l : Local) (k : Kind) (ks : Forest) → entered l k ks ≡ l → IsPlace t block owner out l → IsPlace t block owner out (inner l k ks)
IsPlace-inner t block owner out l k ks e h = IsPlace-entered t block owner out l k ks (subst (λ (m : Local). IsPlace t block owner out m) (sym e) h)

-- ---- behind a node

define_all-fields : (l : Local) (ds : List (List ℕ × Meaning)) → (define_all l ds).fields ≡ l.fields
define_all-fields l [] = refl
define_all-fields l (d ∷ ds) = define_all-fields (define l d.0 d.1) ds

pass-fields : (l : Local) (n : List ℕ) → (pass l n).fields ≡ l.fields
pass-fields l [] = refl
pass-fields l (c ∷ cs) = refl

pass_all-fields : (l : Local) (ds : List (List ℕ × Meaning)) → (pass_all l ds).fields ≡ l.fields
pass_all-fields l [] = refl
pass_all-fields l (d ∷ ds) = pass_all-fields (pass l d.0) ds ∙ pass-fields l d.0

behind-fields : (l : Local) (k : Kind) (a : Attributes) → (behind l k a).fields ≡ l.fields
behind-fields l kind.Valparam a = pass_all-fields l a.defines
behind-fields l kind.Varparam a = pass_all-fields l a.defines
behind-fields l kind.Params a = pass_all-fields l a.defines
behind-fields l (kind.Hole s) a = refl
behind-fields l k a = define_all-fields l a.defines

closed-by : {X : Type 0} (b : Bool) (xs ys : List X) → b ≡ false → (if b then xs else ys) ≡ ys
closed-by true xs ys e = cc
closed-by false xs ys e = refl

-- where the next kid stands
pub IsPlace-behind : (t : Tables) (block owner : ℕ) (out : Outside) (l : Local) (k : Kind) (a : Attributes) → l.opening ≡ false → IsPlace t block owner out (behind l k a) →
    IsPlace t block owner out (beside l k a)
IsPlace-behind t block owner out l k a e h =
    IsPlace-alike t block owner out (behind l k a) (beside l k a) (closed-by l.opening (a.opens ++ l.fields) l.fields e ∙ sym (behind-fields l k a)) refl (λ n. refl) (λ n. refl) (λ n. refl) h

-- the same behind a node that declares nothing
pub IsPlace-beside : (t : Tables) (block owner : ℕ) (out : Outside) (l : Local) (k : Kind) (a : Attributes) → behind l k a ≡ define_all l a.defines → a.defines ≡ [] → l.opening ≡ false →
    IsPlace t block owner out l → IsPlace t block owner out (beside l k a)
IsPlace-beside t block owner out l k a is none e h =
    IsPlace-behind t block owner out l k a e (subst (λ (m : Local). IsPlace t block owner out m) (sym (is ∙ ap (define_all l) none)) h)

-- the same behind a hole
pub IsPlace-hole : (t : Tables) (block owner : ℕ) (out : Outside) (l : Local) (s : Sort) (a : Attributes) → l.opening ≡ false → IsPlace t block owner out l → IsPlace t block owner out (beside l (kind.Hole s) a)
IsPlace-hole t block owner out l s a e h =
    IsPlace-behind t block owner out l (kind.Hole s) a e (IsPlace-alike t block owner out l (behind l (kind.Hole s) a) refl refl (λ n. refl) (λ n. refl) (λ n. refl) h)

-- ---- a definition, whose name stands before in it, and whose declaration is complete behind it

-- a name that isn't empty
pub pass-passing : (l : Local) (n : List ℕ) → (n ≡ [] → ⊥) → pass l n ≡ passing l n
pass-passing l [] some = absurd (some refl)
pass-passing l (c ∷ cs) some = refl

-- the first declaration of the name
pub IsPlace-first : (t : Tables) (block owner : ℕ) (out : Outside) (l : Local) (n : List ℕ) (m : Meaning) → is_among l.passed n ≡ false → IsPlace t block owner out (knowing (passing l n) n m) →
    IsPlace t block owner out (define l n m)
IsPlace-first t block owner out l n m first h = record {
  own = StandsFor-first (ShowsUnsigned (known t) t.declarations.items) t.names block l n m first h.own;
  outer = h.outer;
  chain = h.chain;
  below = h.below;
  around = h.around;
  closed = h.closed;
  distinct = h.distinct;
  owner_is = h.owner_is;
  there = h.there;
}

-- a second one
pub IsPlace-second : (t : Tables) (block owner : ℕ) (out : Outside) (l : Local) (n : List ℕ) (m : Meaning) → is_among l.passed n ≡ true → IsPlace t block owner out (passing l n) →
    IsPlace t block owner out (define l n m)
IsPlace-second t block owner out l n m second h = record {
  own = StandsFor-second (ShowsUnsigned (known t) t.declarations.items) t.names block l n m second h.own;
  outer = h.outer;
  chain = h.chain;
  below = h.below;
  around = h.around;
  closed = h.closed;
  distinct = h.distinct;
  owner_is = h.owner_is;
  there = h.there;
}
