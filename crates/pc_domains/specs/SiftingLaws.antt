-- Types that lead to something unknown lose their types, one name after another: lemmas.
use Rattle.std.proofs.Common.{◌≡◌, ◌⊎◌, inl, inr, ℕ, Bool, true, false, ◌||◌, if◌then◌else◌, List, [], ◌∷◌, ◌++◌, Option, Some, None, option_map, slice_get, refl, ap, sym, ◌∙◌, subst}
use Rattle.std.proofs.lemmas.Option.{none-some, same_Some}
use Rattle.std.proofs.lemmas.Slice.Eq.{bytes_eq-Decides}
use Rattle.std.specs.Option.{option_and_then}
use Rattle.std.specs.Str.{bytes_eq}
use Rattle.pc_syntax.specs.Words.{is_among}
use Rattle.pc_types.specs.Shapes.{Shape, Typed}
use Rattle.pc_types.specs.Rows.{seen}
use Rattle.pc_types.specs.Table.{Table, shape_at}
use Rattle.pc_types.specs.declared.operand.Operand.{Operand}
use Rattle.pc_rules.specs.Meanings.{Meaning, Local, Outside, entry_of}
use Rattle.pc_rules.specs.NameClasses.{is_type_class}
use Rattle.pc_names.specs.Numbers.{number_of}
use Rattle.pc_names.specs.Standing.{IsKnown}
use Rattle.pc_names.specs.StandingLaws.{is_among-end}
use Rattle.pc_names.specs.TableLaws.{slice_get-number_of}
use Rattle.pc_names.specs.Bindings.{slot_in}
use Rattle.pc_names.specs.declared.id.NameId.{NameId}
use Rattle.pc_names.specs.declared.id.DeclarationId.{DeclarationId}
use Rattle.pc_facts.specs.Shows.{shape_of}
use Rattle.pc_facts.specs.declared.sighting.Declared.{Declared}
use Rattle.pc_closing.specs.Whole.{is_whole_in}
use Rattle.pc_places.specs.MovesLaws.{Moves-same, Moves-then}
use Rattle.pc_places.specs.Places.{known, IsPlace, Moves}
use Rattle.pc_places.specs.Scenes.{Declares, ShowsUnsigned}
use Rattle.pc_places.specs.TellingLaws.{telling}
use Rattle.pc_places.specs.declared.tables.Tables.{Tables}
use Rattle.pc_domains.specs.BlockLaws.{ClassIs, class-is, has-at}
use Rattle.pc_domains.specs.Sifting.{AreSettled, if_not, unknown_in, sifted_type, sifted, sifted_if, IsSifted, StandsSifted, Sifts}
use Rattle.pc_domains.specs.Types.{AreNumbers, declaration_at, type_in}

-- ---- sifting twice is sifting once

sifted-class : (p : Shape → Bool) (m : Meaning) → (sifted p m).class ≡ m.class
sifted-class p m = by (is_type_class m.class)
  where
    by : (b : Bool) → (if b then record m { type = sifted_type p m.type } else m).class ≡ m.class
    by true = refl
    by false = refl

-- a meaning that is no type, or whose type passes, stays as it is
abbrev Passes : (Shape → Bool) → Option Typed → Type 0
Passes p None = Unit {0}
Passes p (Some t) = p t.shape ≡ true

passes-sifted : (p : Shape → Bool) (t : Option Typed) → Passes p t → sifted_type p t ≡ t
passes-sifted p None h = refl
passes-sifted p (Some t) h = ap (λ (b : Bool). if b then Some t else None) h

sifted-passes : (p : Shape → Bool) (t : Option Typed) → Passes p (sifted_type p t)
sifted-passes p None = tt
sifted-passes p (Some t) = by (p t.shape) refl
  where
    by : (b : Bool) → p t.shape ≡ b → Passes p (if b then Some t else None)
    by true e = e
    by false e = tt

sifted-as : (p : Shape → Bool) (m : Meaning) → is_type_class m.class ≡ true → sifted p m ≡ record m { type = sifted_type p m.type }
sifted-as p m c = ap (λ (b : Bool). if b then record m { type = sifted_type p m.type } else m) c

sifted-other : (p : Shape → Bool) (m : Meaning) → is_type_class m.class ≡ false → sifted p m ≡ m
sifted-other p m c = ap (λ (b : Bool). if b then record m { type = sifted_type p m.type } else m) c

sifted-stays : (p : Shape → Bool) (m : Meaning) → (is_type_class m.class ≡ true → Passes p m.type) → sifted p m ≡ m
sifted-stays p m h = by (is_type_class m.class) refl
  where
    by : (b : Bool) → is_type_class m.class ≡ b → sifted p m ≡ m
    by true c = sifted-as p m c ∙ ap (λ (t : Option Typed). record m { type = t }) (passes-sifted p m.type (h c))
    by false c = sifted-other p m c

sifted-twice : (p : Shape → Bool) (b : Bool) (m : Meaning) → sifted p (sifted_if p b m) ≡ sifted p m
sifted-twice p false m = refl
sifted-twice p true m = sifted-stays p (sifted p m) (λ c.
    let typed : is_type_class m.class ≡ true = sym (ap is_type_class (sifted-class p m)) ∙ c in
    subst (λ (x : Meaning). Passes p x.type) (sym (sifted-as p m typed)) (sifted-passes p m.type))

-- ---- one name, and then another

or-end : (b : Bool) → (b || false) ≡ b
or-end true = refl
or-end false = refl

mapped-same : (o : Option Meaning) → option_map (λ (m : Meaning). m) o ≡ o
mapped-same None = refl
mapped-same (Some m) = refl

-- what each name is when one name is sifted, given what it is under that name
known-one : (p : Shape → Bool) (n : List ℕ) (ms es : List (List ℕ × Meaning)) → ((q : List ℕ) → bytes_eq n q ≡ false → entry_of es q ≡ entry_of ms q) →
    entry_of es n ≡ option_map (sifted p) (entry_of ms n) → (q : List ℕ) → entry_of es q ≡ option_map (sifted_if p (is_among (n ∷ []) q)) (entry_of ms q)
known-one p n ms es apart here q = by (bytes_eq n q) refl
  where
    by : (b : Bool) → bytes_eq n q ≡ b → entry_of es q ≡ option_map (sifted_if p (is_among (n ∷ []) q)) (entry_of ms q)
    by true e =
        let same : n ≡ q = (bytes_eq-Decides n q).0 e in
        subst (λ (w : List ℕ). entry_of es w ≡ option_map (sifted p) (entry_of ms w)) same here
        ∙ ap (λ (b : Bool). option_map (sifted_if p (b || false)) (entry_of ms q)) (sym e)
    by false e = apart q e ∙ sym (mapped-same (entry_of ms q)) ∙ ap (λ (b : Bool). option_map (sifted_if p (b || false)) (entry_of ms q)) (sym e)

both-sifted : (p : Shape → Bool) (a b : Bool) (m : Meaning) → sifted_if p b (sifted_if p a m) ≡ sifted_if p (a || b) m
both-sifted p true true m = sifted-twice p true m
both-sifted p false true m = refl
both-sifted p true false m = refl
both-sifted p false false m = refl

both-mapped : (p : Shape → Bool) (a b : Bool) (o : Option Meaning) → option_map (sifted_if p b) (option_map (sifted_if p a) o) ≡ option_map (sifted_if p (a || b)) o
both-mapped p a b None = refl
both-mapped p a b (Some m) = ap Some (both-sifted p a b m)

IsSifted-then : (p : Shape → Bool) (ns : List (List ℕ)) (n : List ℕ) (k l m : Local) → IsSifted p ns k l → IsSifted p (n ∷ []) l m → IsSifted p (ns ++ n ∷ []) k m
IsSifted-then p ns n k l m f g = record {
  owner = g.owner ∙ f.owner;
  fields = g.fields ∙ f.fields;
  names = g.names ∙ f.names;
  passed = g.passed ∙ f.passed;
  known = λ q.
      g.known q ∙ ap (option_map (sifted_if p (is_among (n ∷ []) q))) (f.known q) ∙ both-mapped p (is_among ns q) (is_among (n ∷ []) q) (entry_of k.known q)
      ∙ ap (λ (b : Bool). option_map (sifted_if p (is_among ns q || b)) (entry_of k.known q)) (or-end (bytes_eq n q))
      ∙ ap (λ (b : Bool). option_map (sifted_if p b) (entry_of k.known q)) (sym (is_among-end ns n q));
}

-- ---- what the declaration of a name says of its meaning

-- the meaning is a type that doesn't pass, by this declaration, and without its type the declaration shows it sifted; or it stays
pub record IsUnknown (p : Shape → Bool) (t : Tables) (n : List ℕ) (x : Declared) (e : Option Meaning) (name : NameId) : Type 0 where
  pub meaning : Meaning
  pub is : e ≡ Some meaning
  pub shows : Declares (known t) n (record x { name = name; of = None }) (sifted p meaning)

shape-passes : (p : Shape → Bool) (table : Table) (of : Option Operand) (ty : Option Typed) (x : Declared) → option_map (shape_at table) of ≡ shape_of ty → if_not p table x of ≡ None → Passes p ty
shape-passes p table of None x e h = tt
shape-passes p table None (Some t) x e h = absurd (none-some t.shape e)
shape-passes p table (Some o) (Some t) x e h =
    let same : shape_at table o ≡ t.shape = same_Some (shape_at table o) t.shape e in by (p (shape_at table o)) refl same h
  where
    by : (b : Bool) → p (shape_at table o) ≡ b → shape_at table o ≡ t.shape → (if b then None else Some x) ≡ None → p t.shape ≡ true
    by true q s g = sym (ap p s) ∙ q
    by false q s g = absurd (none-some x (sym g))

shape-fails : (p : Shape → Bool) (table : Table) (of : Option Operand) (ty : Option Typed) (x y : Declared) → option_map (shape_at table) of ≡ shape_of ty → if_not p table x of ≡ Some y →
    (sifted_type p ty ≡ None) × (x ≡ y)
shape-fails p table None ty x y e h = absurd (none-some y h)
shape-fails p table (Some o) None x y e h = absurd (none-some (shape_at table o) (sym e))
shape-fails p table (Some o) (Some t) x y e h =
    let same : shape_at table o ≡ t.shape = same_Some (shape_at table o) t.shape e in by (p (shape_at table o)) refl same h
  where
    by : (b : Bool) → p (shape_at table o) ≡ b → shape_at table o ≡ t.shape → (if b then None else Some x) ≡ Some y → (sifted_type p (Some t) ≡ None) × (x ≡ y)
    by true q s g = absurd (none-some y g)
    by false q s g = (ap (λ (b : Bool). if b then Some t else None) (sym (ap p s) ∙ q), same_Some x y g)

-- a meaning without its type, which the declaration shows without a type
untyped-shows : (t : Tables) (n w : List ℕ) (x : Declared) (m : Meaning) (name : NameId) → number_of t.names.texts n ≡ Some name.0 → Declares (known t) w x m →
    Declares (known t) n (record x { name = name; of = None }) (record m { type = None })
untyped-shows t n w x m name number h = record {
  shows = record {
    class = h.shows.class;
    owner = h.shows.owner;
    owner_there = h.shows.owner_there;
    name = slice_get-number_of t.names.texts n name.0 number;
    value = h.shows.value;
    type = record { shape = refl; there = λ y e. absurd (none-some y e) };
    signature = h.shows.signature;
  };
  bare = h.bare;
  plain = h.plain;
}

unknown-declared : (p : Shape → Bool) (t : Tables) (n : List ℕ) (y : Declared) (name : NameId) (k : Option DeclarationId) (e : Option Meaning) → number_of t.names.texts n ≡ Some name.0 →
    IsKnown (ShowsUnsigned (known t) t.declarations.items) k e →
    unknown_in p (known t).table (option_and_then (λ (d : DeclarationId). slice_get t.declarations.items d.0) k) ≡ Some y → IsUnknown p t n y e name
unknown-declared p t n y name None None number h q = absurd (none-some y q)
unknown-declared p t n y name (Some d) None number h q = absurd h
unknown-declared p t n y name None (Some m) number h q = absurd h
unknown-declared p t n y name (Some d) (Some m) number h q =
    by (class-is h.declared.class h.declared.of) (sym (ap (unknown_in p (known t).table) h.is) ∙ q)
  where
    by : ClassIs h.declared.class h.declared.of true ⊎ ClassIs h.declared.class h.declared.of false → if_not p (known t).table h.declared (type_in h.declared.class h.declared.of) ≡ Some y →
        IsUnknown p t n y (Some m) name
    by (inr c) g = absurd (none-some y (sym (ap (if_not p (known t).table h.declared) c.type) ∙ g))
    by (inl c) g =
        let typed : is_type_class m.class ≡ true = sym (ap is_type_class h.shows.shows.class) ∙ c.class in
        let fails = shape-fails p (known t).table h.declared.of m.type h.declared y h.shows.shows.type.shape (sym (ap (if_not p (known t).table h.declared) c.type) ∙ g) in
        let is : record m { type = None } ≡ sifted p m = ap (λ (ty : Option Typed). record m { type = ty }) (sym fails.0) ∙ sym (sifted-as p m typed) in
        record {
          meaning = m;
          is = refl;
          shows = subst (λ (x : Declared). Declares (known t) n (record x { name = name; of = None }) (sifted p m)) fails.1
              (subst (λ (w : Meaning). Declares (known t) n (record h.declared { name = name; of = None }) w) is (untyped-shows t n h.name h.declared m name number h.shows));
        }

known-declared : (p : Shape → Bool) (t : Tables) (k : Option DeclarationId) (e : Option Meaning) → IsKnown (ShowsUnsigned (known t) t.declarations.items) k e →
    unknown_in p (known t).table (option_and_then (λ (d : DeclarationId). slice_get t.declarations.items d.0) k) ≡ None → e ≡ option_map (sifted p) e
known-declared p t None None h q = refl
known-declared p t (Some d) None h q = absurd h
known-declared p t None (Some m) h q = absurd h
known-declared p t (Some d) (Some m) h q = ap Some (sym (by (class-is h.declared.class h.declared.of) (sym (ap (unknown_in p (known t).table) h.is) ∙ q)))
  where
    by : ClassIs h.declared.class h.declared.of true ⊎ ClassIs h.declared.class h.declared.of false → if_not p (known t).table h.declared (type_in h.declared.class h.declared.of) ≡ None →
        sifted p m ≡ m
    by (inr c) g = sifted-other p m (sym (ap is_type_class h.shows.shows.class) ∙ c.class)
    by (inl c) g = sifted-stays p m (λ typed.
        shape-passes p (known t).table h.declared.of m.type h.declared h.shows.shows.type.shape (sym (ap (if_not p (known t).table h.declared) c.type) ∙ g))

-- ---- the steps

-- the one name that has the only one of some numbers
record IsOne (texts : List (List ℕ)) (name : NameId) (ns : List (List ℕ)) : Type 0 where
  one : List ℕ
  is : ns ≡ one ∷ []
  number : number_of texts one ≡ Some name.0

one-number : (texts : List (List ℕ)) (name : NameId) (ns : List (List ℕ)) → AreNumbers texts (name ∷ []) ns → IsOne texts name ns
one-number texts name [] h = absurd h
one-number texts name (n ∷ []) h = record { one = n; is = refl; number = h.0.0 }
one-number texts name (n ∷ m ∷ ns) h = absurd h.1

pub sifts-none : (flags : List Bool) (block : ℕ) (t : Tables) → Sifts flags block [] t t
sifts-none flags block t = record {
  types = refl;
  texts = refl;
  moves = Moves-same block t;
  sifts = λ settled owner out l ns numbers at. by (is_whole_in (seen t.types).domains) owner out l ns numbers at;
}
  where
    by : (p : Shape → Bool) (owner : ℕ) (out : Outside) (l : Local) (ns : List (List ℕ)) → AreNumbers t.names.texts [] ns → IsPlace t block owner out l → StandsSifted p ns t block owner out l
    by p owner out l [] numbers at = record {
      place = l;
      is_place = at;
      is_sifted = record { owner = refl; fields = refl; names = refl; passed = refl; known = λ q. sym (mapped-same (entry_of l.known q)) };
    }
    by p owner out l (n ∷ ns) numbers at = absurd numbers

-- the block has no declaration under the name that something unknown is reached from
pub sifts-kept : (flags : List Bool) (block : ℕ) (name : NameId) (t : Tables) →
    (AreSettled (seen t.types) flags → None ≡ unknown_in (is_whole_in (seen t.types).domains) (seen t.types) (declaration_at t block name.0)) → Sifts flags block (name ∷ []) t t
sifts-kept flags block name t kept = record {
  types = refl;
  texts = refl;
  moves = Moves-same block t;
  sifts = λ settled owner out l ns numbers at.
      let p = is_whole_in (seen t.types).domains in
      let one = one-number t.names.texts name ns numbers in
      let n = one.one in
      let stays = known-declared p t (slot_in t.names.slots block name.0).known (entry_of l.known n) (has-at t block owner name.0 out l n at one.number).is_known (sym (kept settled)) in
      subst (λ (ws : List (List ℕ)). StandsSifted p ws t block owner out l) (sym one.is) (record {
        place = l;
        is_place = at;
        is_sifted = record { owner = refl; fields = refl; names = refl; passed = refl; known = known-one p n l.known l.known (λ q e. refl) stays };
      });
}

told-here : (n : List ℕ) (m : Meaning) (ms : List (List ℕ × Meaning)) → entry_of ((n, m) ∷ ms) n ≡ Some m
told-here n m ms = ap (λ (b : Bool). if b then Some m else entry_of ms n) ((bytes_eq-Decides n n).1 refl)

told-apart : (n q : List ℕ) (m : Meaning) (ms : List (List ℕ × Meaning)) → bytes_eq n q ≡ false → entry_of ((n, m) ∷ ms) q ≡ entry_of ms q
told-apart n q m ms apart = ap (λ (b : Bool). if b then Some m else entry_of ms q) apart

-- it has one, and that is told again without a type
pub sifts-told : (flags : List Bool) (block : ℕ) (name : NameId) (x : Declared) (old new : Tables) →
    (AreSettled (seen old.types) flags → Some x ≡ unknown_in (is_whole_in (seen old.types).domains) (seen old.types) (declaration_at old block name.0)) →
    new.types ≡ old.types → new.names.texts ≡ old.names.texts → Moves block old new →
    ((owner : ℕ) (out : Outside) (l : Local) (n : List ℕ) (m : Meaning) → number_of old.names.texts n ≡ Some name.0 → Declares (known old) n (record x { name = name; of = None }) m →
    IsPlace old block owner out l → IsPlace new block owner out (telling l n m)) → Sifts flags block (name ∷ []) old new
sifts-told flags block name x old new found types texts moves told = record {
  types = types;
  texts = texts;
  moves = moves;
  sifts = λ settled owner out l ns numbers at.
      let p = is_whole_in (seen old.types).domains in
      let one = one-number old.names.texts name ns numbers in
      let n = one.one in
      let u = unknown-declared p old n x name (slot_in old.names.slots block name.0).known (entry_of l.known n) one.number (has-at old block owner name.0 out l n at one.number).is_known (sym (found settled)) in
      let m = sifted p u.meaning in
      subst (λ (ws : List (List ℕ)). StandsSifted p ws new block owner out l) (sym one.is) (record {
        place = telling l n m;
        is_place = told owner out l n m one.number u.shows at;
        is_sifted = record {
          owner = refl;
          fields = refl;
          names = refl;
          passed = refl;
          known = known-one p n l.known ((n, m) ∷ l.known) (λ q e. told-apart n q m l.known e) (told-here n m l.known ∙ ap (option_map (sifted p)) (sym u.is));
        };
      });
}

-- the names of some numbers with one more
record IsSplit (texts : List (List ℕ)) (ids : List NameId) (name : NameId) (ns : List (List ℕ)) : Type 0 where
  first : List (List ℕ)
  last : List ℕ
  is : ns ≡ first ++ last ∷ []
  numbers : AreNumbers texts ids first
  number : AreNumbers texts (name ∷ []) (last ∷ [])

split : (texts : List (List ℕ)) (ids : List NameId) (name : NameId) (ns : List (List ℕ)) → AreNumbers texts (ids ++ name ∷ []) ns → IsSplit texts ids name ns
split texts [] name [] h = absurd h
split texts [] name (n ∷ []) h = record { first = []; last = n; is = refl; numbers = tt; number = h }
split texts [] name (n ∷ m ∷ ns) h = absurd h.1
split texts (i ∷ ids) name [] h = absurd h
split texts (i ∷ ids) name (n ∷ ns) h =
    let s = split texts ids name ns h.1 in
    record { first = n ∷ s.first; last = s.last; is = ap (λ (ws : List (List ℕ)). n ∷ ws) s.is; numbers = (h.0, s.numbers); number = s.number }

-- one more name
pub sifts-more : (flags : List Bool) (block : ℕ) (ids : List NameId) (name : NameId) (a b c : Tables) → Sifts flags block ids a b → Sifts flags block (name ∷ []) b c →
    Sifts flags block (ids ++ name ∷ []) a c
sifts-more flags block ids name a b c f g = record {
  types = g.types ∙ f.types;
  texts = g.texts ∙ f.texts;
  moves = Moves-then block a b c f.moves g.moves;
  sifts = λ settled owner out l ns numbers at.
      let p = is_whole_in (seen a.types).domains in
      let s = split a.names.texts ids name ns numbers in
      let first = f.sifts settled owner out l s.first s.numbers at in
      let later : AreSettled (seen b.types) flags = subst (λ k. AreSettled (seen k) flags) (sym f.types) settled in
      let second = g.sifts later owner out first.place (s.last ∷ []) (subst (λ (texts : List (List ℕ)). AreNumbers texts (name ∷ []) (s.last ∷ [])) (sym f.texts) s.number) first.is_place in
      let sifted : IsSifted p (s.last ∷ []) first.place second.place = subst (λ k. IsSifted (is_whole_in (seen k).domains) (s.last ∷ []) first.place second.place) f.types second.is_sifted in
      subst (λ (ws : List (List ℕ)). StandsSifted p ws c block owner out l) (sym s.is) (record {
        place = second.place;
        is_place = second.is_place;
        is_sifted = IsSifted-then p s.first s.last l first.place second.place first.is_sifted sifted;
      });
}
