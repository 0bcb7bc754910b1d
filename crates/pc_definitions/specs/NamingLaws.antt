-- The name of a definition that is gone through: laws.
use Rattle.std.specs.Prelude.{◌≡◌, ◌<◌, ℕ, Bool, true, false, not, ◌&&◌, List, [], ◌∷◌, ◌++◌, Some, None, Option, length, if◌then◌else◌}
use Rattle.std.proofs.Common.{refl, ap, sym, ◌∙◌, subst}
use Rattle.std.proofs.lemmas.Bool.{true≢false}
use Rattle.pc_syntax.specs.Classes.{is_name}
use Rattle.pc_syntax.specs.Plain.{Plain, count, kinds}
use Rattle.pc_syntax.specs.Layout.{layout}
use Rattle.pc_syntax.specs.Sorts.{is_hole}
use Rattle.pc_syntax.specs.WellFormed.{IsProper, fits_some}
use Rattle.pc_syntax.specs.Words.{lowered, is_among, is_identifier}
use Rattle.pc_syntax.specs.declared.kind.Kind.{Kind}
use Rattle.pc_syntax.specs.declared.kind.Kind.TheVariants as kind
use Rattle.pc_types.specs.declared.form.OwnerId.{OwnerId}
use Rattle.pc_types.specs.declared.operand.Operand.{Operand}
use Rattle.pc_names.specs.Numbers.{number_of}
use Rattle.pc_names.specs.StandingLaws.{passing, knowing}
use Rattle.pc_names.specs.TableLaws.{slice_get-number_of}
use Rattle.pc_names.specs.declared.id.NameId.{NameId}
use Rattle.pc_names.specs.declared.name_class.NameClass.{NameClass}
use Rattle.pc_rules.specs.Meanings.{Meaning, Local, define, define_all}
use Rattle.pc_rules.specs.Places.{pass}
use Rattle.pc_facts.specs.Known.{Known}
use Rattle.pc_facts.specs.declared.sighting.Value.{Value}
use Rattle.pc_growth.specs.Grows.{Begins}
use Rattle.pc_growth.specs.GrowsLaws.{less-begins}
use Rattle.pc_places.specs.NumberingLaws.{number_of-begins}
use Rattle.pc_places.specs.PlacesLaws.{pass-passing}
use Rattle.pc_places.specs.Scenes.{Declares}
use Rattle.pc_definitions.specs.DefineLaws.{SaysAlike, SaysAlike-same, declared-late, declared-second}
use Rattle.pc_definitions.specs.Namings.{is_nameless, is_second, ShowsNaming, FitsNaming, IsNamingThere, entering, leaving, ShowsParts}
use Rattle.pc_definitions.specs.declared.naming.Naming.{Naming}
use Rattle.pc_definitions.specs.declared.naming.Naming.TheVariants as naming

-- ---- the name

-- a name or a hole stands there
pub nameless-hole : (k : Kind) → (k ≡ kind.Name → ⊥) → is_name k ≡ true → is_hole k ≡ true
nameless-hole kind.Name isnt is = absurd (isnt refl)
nameless-hole (kind.Hole s) isnt is = refl
nameless-hole k isnt is = cc

-- more names have got numbers
pub naming-grows : (a b : List (List ℕ)) (t : Plain) (n : Naming) → Begins a b → ShowsNaming a t n → ShowsNaming b t n
naming-grows a b t naming.Nameless g h = h
naming-grows a b t (naming.First i) g h = (h.0, number_of-begins a b (lowered t.word) i.0 g h.1)
naming-grows a b t naming.Second g h = h

pub there-grows : (a b : List (List ℕ)) (n : Naming) → Begins a b → IsNamingThere (length a) n → IsNamingThere (length b) n
there-grows a b naming.Nameless g h = tt
there-grows a b (naming.First i) g h = less-begins a b i.0 g h
there-grows a b naming.Second g h = tt

-- a name is what the test of it says
pub naming-by : (texts : List (List ℕ)) (t : Plain) (b : Bool) (i : NameId) → is_hole t.kind ≡ false → number_of texts (lowered t.word) ≡ Some i.0 →
    ShowsNaming texts t (if b then naming.Second else naming.First i)
naming-by texts t true i is number = is
naming-by texts t false i is number = (is, number)

pub fits-by : (l : Local) (t : Plain) (b : Bool) (i : NameId) → b ≡ is_among l.passed (lowered t.word) → FitsNaming l t (if b then naming.Second else naming.First i)
fits-by l t true i e = sym e
fits-by l t false i e = sym e

pub there-by : (names : ℕ) (b : Bool) (i : NameId) → i.0 < names → IsNamingThere names (if b then naming.Second else naming.First i)
there-by names true i h = tt
there-by names false i h = h

pub entering-by : (l : Local) (t : Plain) (b : Bool) (i : NameId) → entering l t (if b then naming.Second else naming.First i) ≡ passing l (lowered t.word)
entering-by l t true i = refl
entering-by l t false i = refl

-- whether it stood before
pub second-is : (texts : List (List ℕ)) (l : Local) (t : Plain) (n : Naming) → ShowsNaming texts t n → FitsNaming l t n → is_second n ≡ (not (is_hole t.kind) && is_among l.passed (lowered t.word))
second-is texts l t naming.Nameless h f = sym (ap (λ (b : Bool). not b && is_among l.passed (lowered t.word)) h)
second-is texts l t (naming.First i) h f = sym (ap (λ (b : Bool). not b && is_among l.passed (lowered t.word)) h.0 ∙ f)
second-is texts l t naming.Second h f = sym (ap (λ (b : Bool). not b && is_among l.passed (lowered t.word)) h ∙ f)

pub nameless-is : (texts : List (List ℕ)) (t : Plain) (n : Naming) → ShowsNaming texts t n → is_nameless n ≡ is_hole t.kind
nameless-is texts t naming.Nameless h = sym h
nameless-is texts t (naming.First i) h = sym h.0
nameless-is texts t naming.Second h = sym h

-- no name is empty
word-some : (w : List ℕ) (n : ℕ) (ks : List Kind) → fits_some (layout kind.Name w n) ks ≡ true → lowered w ≡ [] → ⊥
unfolding is_identifier
word-some [] n ks e empty = true≢false (sym e)
word-some (b ∷ bs) n ks e empty = cc

name-some : (t : Plain) (k : Kind) → t.kind ≡ k → fits_some (layout t.kind t.word (count t.kids)) (kinds t.kids) ≡ true → is_name k ≡ true → is_hole k ≡ false → lowered t.word ≡ [] → ⊥
name-some t kind.Name e fits is name = word-some t.word (count t.kids) (kinds t.kids) (sym (ap (λ (j : Kind). fits_some (layout j t.word (count t.kids)) (kinds t.kids)) e) ∙ fits)
name-some t (kind.Hole s) e fits is name = absurd (true≢false name)
name-some t k e fits is name = cc

pub name-filled : (t : Plain) → IsProper t → is_name t.kind ≡ true → is_hole t.kind ≡ false → lowered t.word ≡ [] → ⊥
name-filled t proper is name = name-some t t.kind refl proper.sound.0 is name

-- the place that a definition enters
pub entered-named : (texts : List (List ℕ)) (l : Local) (t : Plain) (n : Naming) → IsProper t → is_name t.kind ≡ true → ShowsNaming texts t n →
    pass l (if is_hole t.kind then [] else lowered t.word) ≡ entering l t n
entered-named texts l t naming.Nameless proper is h = ap (λ (b : Bool). pass l (if b then [] else lowered t.word)) h
entered-named texts l t (naming.First i) proper is h =
    ap (λ (b : Bool). pass l (if b then [] else lowered t.word)) h.0 ∙ pass-passing l (lowered t.word) (name-filled t proper is h.0)
entered-named texts l t naming.Second proper is h =
    ap (λ (b : Bool). pass l (if b then [] else lowered t.word)) h ∙ pass-passing l (lowered t.word) (name-filled t proper is h)

-- ---- behind the definition

either-declared : (l : Local) (n : List ℕ) (m : Meaning) (ds : List (List ℕ × Meaning)) (b c : Bool) → b ≡ c →
    define_all l ((if b then [] else (n, m) ∷ []) ++ ds) ≡ define_all l ((if c then [] else (n, m) ∷ []) ++ ds)
either-declared l n m ds b c e = ap (λ (d : Bool). define_all l ((if d then [] else (n, m) ∷ []) ++ ds)) e

alike-to : (a b c : Local) → b ≡ c → SaysAlike a b → SaysAlike a c
alike-to a b c e s = subst (λ (x : Local). SaysAlike a x) e s

-- what is declared in the definition is declared, and its name is complete
pub left-behind : (texts : List (List ℕ)) (l : Local) (t : Plain) (n : Naming) (m : Meaning) (ds : List (List ℕ × Meaning)) → ShowsNaming texts t n → FitsNaming l t n →
    SaysAlike (leaving (define_all (entering l t n) ds) t n m) (define_all l ((if is_hole t.kind then [] else (lowered t.word, m) ∷ []) ++ ds))
left-behind texts l t naming.Nameless m ds h f =
    alike-to (define_all l ds) (define_all l ds) _ (either-declared l (lowered t.word) m ds true (is_hole t.kind) (sym h)) (SaysAlike-same (define_all l ds))
left-behind texts l t (naming.First i) m ds h f =
    alike-to (knowing (define_all (passing l (lowered t.word)) ds) (lowered t.word) m) (define_all (define l (lowered t.word) m) ds) _
    (either-declared l (lowered t.word) m ds false (is_hole t.kind) (sym h.0)) (declared-late l (lowered t.word) m ds f)
left-behind texts l t naming.Second m ds h f =
    alike-to (define_all (passing l (lowered t.word)) ds) (define_all (passing l (lowered t.word)) ds) _
    (declared-second l (lowered t.word) m ds f ∙ either-declared l (lowered t.word) m ds false (is_hole t.kind) (sym h)) (SaysAlike-same (define_all (passing l (lowered t.word)) ds))

-- the same block, and the same fields
pub left-fields : (l : Local) (t : Plain) (n : Naming) (m : Meaning) → (leaving l t n m).fields ≡ l.fields
left-fields l t naming.Nameless m = refl
left-fields l t (naming.First i) m = refl
left-fields l t naming.Second m = refl

pub left-owner : (l : Local) (t : Plain) (n : Naming) (m : Meaning) → (leaving l t n m).owner ≡ l.owner
left-owner l t naming.Nameless m = refl
left-owner l t (naming.First i) m = refl
left-owner l t naming.Second m = refl

pub entered-fields : (l : Local) (t : Plain) (n : Naming) → (entering l t n).fields ≡ l.fields
entered-fields l t naming.Nameless = refl
entered-fields l t (naming.First i) = refl
entered-fields l t naming.Second = refl

pub entered-owner : (l : Local) (t : Plain) (n : Naming) → (entering l t n).owner ≡ l.owner
entered-owner l t naming.Nameless = refl
entered-owner l t (naming.First i) = refl
entered-owner l t naming.Second = refl

pub owner-defined : (l : Local) (ds : List (List ℕ × Meaning)) → (define_all l ds).owner ≡ l.owner
owner-defined l [] = refl
owner-defined l (d ∷ ds) = owner-defined (define l d.0 d.1) ds

-- ---- the declaration

-- the declaration that is made of these parts under a name
pub parts-declare : (k : Known) (c : NameClass) (o : OwnerId) (v : Option Value) (ty : Option Operand) (m : Meaning) (n : List ℕ) (i : NameId) → ShowsParts k c o v ty m →
    number_of k.names n ≡ Some i.0 → Declares k n (record { class = c; owner = o; name = i; value = v; of = ty; signature = None }) m
parts-declare k c o v ty m n i h number = record {
  shows = record {
    class = h.class;
    owner = h.owner;
    owner_there = h.owner_there;
    name = slice_get-number_of k.names n i.0 number;
    value = h.value;
    type = h.type;
    signature = tt;
  };
  bare = λ e. h.bare;
  plain = λ e. refl;
}
