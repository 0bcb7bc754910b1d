-- What a block says of names, by numbers: lemmas.
use Rattle.std.proofs.Common.{◌≡◌, ◌⊎◌, inl, inr, ℕ, Bool, true, false, ◌||◌, nat_eq, if◌then◌else◌, List, [], ◌∷◌, ◌++◌, Option, Some, None, option_map, slice_get, refl, ap, sym, ◌∙◌, subst, true≢false, arith, codes}
use Rattle.std.proofs.lemmas.Bool.{or_cases, or_left, or_right, false_from_ne_true}
use Rattle.std.proofs.lemmas.Bool.Decides.{nat_tests}
use Rattle.std.proofs.lemmas.Option.{none-some, same_Some}
use Rattle.std.proofs.lemmas.Slice.Eq.{bytes_eq-Decides}
use Rattle.std.specs.Option.{is_some, option_and_then}
use Rattle.std.specs.Str.{bytes_eq}
use Rattle.pc_syntax.specs.Plain.{Plain}
use Rattle.pc_syntax.specs.Words.{is_among}
use Rattle.pc_types.specs.Shapes.{Owner, IntegerType, BooleanType, CharType}
use Rattle.pc_types.specs.Domains.{domain_in}
use Rattle.pc_types.specs.Table.{Table, numbered, shape_at}
use Rattle.pc_types.specs.declared.form.TypeId.{TypeId}
use Rattle.pc_types.specs.declared.operand.Operand.{Operand}
use Rattle.pc_types.specs.declared.operand.Operand.TheVariants as operand
use Rattle.pc_rules.specs.ClosedTypes.{own_domains}
use Rattle.pc_rules.specs.Meanings.{Meaning, Local, Outside, entry_of}
use Rattle.pc_rules.specs.NameClasses.{is_type_class}
use Rattle.pc_rules.specs.RequiredMeanings.{required_type}
use Rattle.pc_names.specs.Bindings.{slot_in}
use Rattle.pc_names.specs.Numbers.{number_of}
use Rattle.pc_names.specs.Standing.{meant, IsKnown, Has}
use Rattle.pc_names.specs.Table.{slot_at}
use Rattle.pc_names.specs.TableLaws.{nat_eq-number_of}
use Rattle.pc_names.specs.declared.id.NameId.{NameId}
use Rattle.pc_names.specs.declared.id.DeclarationId.{DeclarationId}
use Rattle.pc_names.specs.declared.name_class.NameClass.{NameClass}
use Rattle.pc_names.specs.declared.name_class.NameClass.TheVariants as class
use Rattle.pc_facts.specs.declared.sighting.Declared.{Declared}
use Rattle.pc_places.specs.Places.{known, IsPlace}
use Rattle.pc_places.specs.Scenes.{ShowsUnsigned}
use Rattle.pc_places.specs.declared.tables.Tables.{Tables}
use Rattle.pc_block_laws.specs.Block.{block_says, OnceEach, OwnTypes, type_names}
use Rattle.pc_domains.specs.OwnLaws.{own-there, own-none}
use Rattle.pc_domains.specs.Types.{AreNumbers, required_names, entered_names, ShowsRequired, is_id, type_in, declared_type, required_shape, SaysIf, Says}
use Rattle.pc_domains.specs.declared.naming.RequiredNames.{RequiredNames}

-- ---- what a block has under the number of a name

pub has-at : (t : Tables) (block owner i : ℕ) (out : Outside) (l : Local) (n : List ℕ) → IsPlace t block owner out l → number_of t.names.texts n ≡ Some i →
    Has (ShowsUnsigned (known t) t.declarations.items) (slot_in t.names.slots block i) l n
has-at t block owner i out l n at e = subst (λ (o : Option ℕ). Has (ShowsUnsigned (known t) t.declarations.items) (slot_at t.names.slots block o) l n) e (at.own n)

-- the type of a declaration counts exactly where its class is that of types
pub record ClassIs (c : NameClass) (of : Option Operand) (b : Bool) : Type 0 where
  pub class : is_type_class (meant c) ≡ b
  pub type : type_in c of ≡ (if b then of else None)

pub class-is : (c : NameClass) (of : Option Operand) → ClassIs c of true ⊎ ClassIs c of false
class-is class.Type of = inl (record { class = refl; type = refl })
class-is class.Constant of = inr (record { class = refl; type = refl })
class-is class.Element of = inr (record { class = refl; type = refl })
class-is class.Variable of = inr (record { class = refl; type = refl })
class-is class.Value of = inr (record { class = refl; type = refl })
class-is class.Reference of = inr (record { class = refl; type = refl })
class-is class.Procedure of = inr (record { class = refl; type = refl })
class-is class.Function of = inr (record { class = refl; type = refl })

-- the type that the block's declaration of a name has is the one that stands there
own-shape : (list : Plain) (t : Tables) (l : Local) (n : List ℕ) (k : Option DeclarationId) (e : Option Meaning) → OnceEach l.known → OwnTypes list l →
    entry_of l.known n ≡ e → IsKnown (ShowsUnsigned (known t) t.declarations.items) k e →
    option_map (shape_at (known t).table) (declared_type (option_and_then (λ (d : DeclarationId). slice_get t.declarations.items d.0) k)) ≡ domain_in (own_domains l.known) l.owner n
own-shape list t l n None None once own is h = sym (own-none l.known l.owner n once (λ m e c. none-some m (sym is ∙ e)))
own-shape list t l n (Some d) None once own is h = absurd h
own-shape list t l n None (Some m) once own is h = absurd h
own-shape list t l n (Some d) (Some m) once own is h =
    ap (λ (x : Option Declared). option_map (shape_at (known t).table) (declared_type x)) h.is ∙ by (class-is h.declared.class h.declared.of)
  where
    by : ClassIs h.declared.class h.declared.of true ⊎ ClassIs h.declared.class h.declared.of false →
        option_map (shape_at (known t).table) (type_in h.declared.class h.declared.of) ≡ domain_in (own_domains l.known) l.owner n
    by (inl c) =
        let typed : is_type_class m.class ≡ true = sym (ap is_type_class h.shows.shows.class) ∙ c.class in
        let mine = own n m is typed in
        let there = own-there l.known n m is typed in
        ap (option_map (shape_at (known t).table)) c.type ∙ h.shows.shows.type.shape ∙ sym there.shape ∙ ap (λ (o : Owner). domain_in (own_domains l.known) o n) mine.0
    by (inr c) =
        let other : is_type_class m.class ≡ false = sym (ap is_type_class h.shows.shows.class) ∙ c.class in
        ap (option_map (shape_at (known t).table)) c.type ∙ sym (own-none l.known l.owner n once (λ q e d. true≢false (sym d ∙ ap (λ (x : Meaning). is_type_class x.class) (same_Some q m (sym e ∙ is)) ∙ other)))

-- ---- the required types

numbers-tell : (texts : List (List ℕ)) (n w : List ℕ) (i j : ℕ) → number_of texts n ≡ Some i → number_of texts w ≡ Some j → nat_eq j i ≡ bytes_eq n w
numbers-tell texts n w i j e f = nat_eq-number_of texts w n j i f e ∙ swapped (bytes_eq w n) (bytes_eq n w) refl refl
  where
    swapped : (a b : Bool) → bytes_eq w n ≡ a → bytes_eq n w ≡ b → a ≡ b
    swapped true true p q = refl
    swapped false false p q = refl
    swapped true false p q = absurd (true≢false (sym ((bytes_eq-Decides n w).1 (sym ((bytes_eq-Decides w n).0 p))) ∙ q))
    swapped false true p q = absurd (true≢false (sym ((bytes_eq-Decides w n).1 (sym ((bytes_eq-Decides n w).0 q))) ∙ p))

pub required-says : (texts : List (List ℕ)) (is_program : Bool) (r : Option RequiredNames) (n : List ℕ) (i : ℕ) → ShowsRequired texts is_program r → number_of texts n ≡ Some i →
    required_shape r i ≡ (if is_program then required_type n else None)
required-says texts false None n i h e = refl
required-says texts true (Some r) n i h e =
    ap (λ (b : Bool). if b then Some IntegerType else (if nat_eq r.boolean.0 i then Some BooleanType else (if nat_eq r.char_type.0 i then Some CharType else None))) (numbers-tell texts n (codes "integer") i r.integer.0 e h.0)
    ∙ ap (λ (b : Bool). if bytes_eq n (codes "integer") then Some IntegerType else (if b then Some BooleanType else (if nat_eq r.char_type.0 i then Some CharType else None))) (numbers-tell texts n (codes "boolean") i r.boolean.0 e h.1)
    ∙ ap (λ (b : Bool). if bytes_eq n (codes "integer") then Some IntegerType else (if bytes_eq n (codes "boolean") then Some BooleanType else (if b then Some CharType else None))) (numbers-tell texts n (codes "char") i r.char_type.0 e h.2)
required-says texts true None n i h e = absurd h
required-says texts false (Some r) n i h e = absurd h

-- ---- both together

as-operands : (table : Table) (x : Option TypeId) → option_map (shape_at table) (option_map operand.Id x) ≡ option_map (numbered table.shapes) x
as-operands table None = refl
as-operands table (Some i) = refl

some-mapped : {X Y : Type 0} (f : X → Y) (o : Option X) → is_some (option_map f o) ≡ is_some o
some-mapped f None = refl
some-mapped f (Some x) = refl

-- a type that the tables say of a name is what the block says of it
pub says-block : (list : Plain) (is_program : Bool) (t : Tables) (block owner i : ℕ) (r : Option RequiredNames) (out : Outside) (l : Local) (n : List ℕ) (x : Option TypeId) →
    IsPlace t block owner out l → OnceEach l.known → OwnTypes list l → ShowsRequired t.names.texts is_program r → number_of t.names.texts n ≡ Some i → Says t block r i x →
    option_map (numbered (known t).table.shapes) x ≡ block_says is_program l n
says-block list is_program t block owner i r out l n x at once own required number says =
    let h = has-at t block owner i out l n at number in
    let class : is_some (slot_in t.names.slots block i).class ≡ is_some (entry_of l.names n) = sym (some-mapped meant (slot_in t.names.slots block i).class) ∙ ap is_some h.is_class in
    by h (is_some (slot_in t.names.slots block i).class) says ∙ ap (λ (b : Bool). if b then domain_in (own_domains l.known) l.owner n else (if is_program then required_type n else None)) class
  where
    by : Has (ShowsUnsigned (known t) t.declarations.items) (slot_in t.names.slots block i) l n → (b : Bool) → SaysIf b t block r i x →
        option_map (numbered (known t).table.shapes) x ≡ (if b then domain_in (own_domains l.known) l.owner n else (if is_program then required_type n else None))
    by h true s =
        sym (as-operands (known t).table x) ∙ ap (option_map (shape_at (known t).table)) (sym s)
        ∙ own-shape list t l n (slot_in t.names.slots block i).known (entry_of l.known n) once own refl h.is_known
    by h false s = s.shape ∙ required-says t.names.texts is_program r n i required number

-- ---- the names that are entered

pub among-front : (ms ns : List (List ℕ)) (n : List ℕ) → is_among ms n ≡ true → is_among (ms ++ ns) n ≡ true
among-front [] ns n h = absurd (true≢false (sym h))
among-front (m ∷ ms) ns n h = elim (or_cases (bytes_eq m n) (is_among ms n) h) [
  | inl e ↦ or_left (bytes_eq m n) (is_among (ms ++ ns) n) e
  | inr e ↦ or_right (bytes_eq m n) (is_among (ms ++ ns) n) (among-front ms ns n e)
]

pub among-back : (ms ns : List (List ℕ)) (n : List ℕ) → is_among ns n ≡ true → is_among (ms ++ ns) n ≡ true
among-back [] ns n h = h
among-back (m ∷ ms) ns n h = or_right (bytes_eq m n) (is_among (ms ++ ns) n) (among-back ms ns n h)

-- the number of a name that is one of these
pub record IsNumbered (texts : List (List ℕ)) (ids : List NameId) (n : List ℕ) : Type 0 where
  pub number : ℕ
  pub is : number_of texts n ≡ Some number
  pub among : is_id ids number ≡ true
  pub full : n ≡ [] → ⊥

same-number : (k : ℕ) → nat_eq k k ≡ true
same-number k = grind (arith, nat_tests)

pub among-number : (texts : List (List ℕ)) (ids : List NameId) (ns : List (List ℕ)) (n : List ℕ) → AreNumbers texts ids ns → is_among ns n ≡ true → IsNumbered texts ids n
among-number texts [] [] n h a = absurd (true≢false (sym a))
among-number texts (i ∷ is) (m ∷ ms) n h a = elim (or_cases (bytes_eq m n) (is_among ms n) a) [
  | inl e ↦
      let same : m ≡ n = (bytes_eq-Decides m n).0 e in
      record {
        number = i.0;
        is = subst (λ (w : List ℕ). number_of texts w ≡ Some i.0) same h.0.0;
        among = or_left (nat_eq i.0 i.0) (is_id is i.0) (same-number i.0);
        full = λ q. h.0.1 (same ∙ q);
      }
  | inr e ↦
      let rest = among-number texts is ms n h.1 e in
      record { number = rest.number; is = rest.is; among = or_right (nat_eq i.0 rest.number) (is_id is rest.number) rest.among; full = rest.full }
]
among-number texts [] (m ∷ ms) n h a = absurd h
among-number texts (i ∷ is) [] n h a = absurd h

required-none : (n : List ℕ) → is_among required_names n ≡ false → required_type n ≡ None
required-none n h =
    let a = other (codes "integer") (λ e. or_left (bytes_eq (codes "integer") n) (bytes_eq (codes "boolean") n || (bytes_eq (codes "char") n || false)) e) in
    let b = other (codes "boolean") (λ e. or_right (bytes_eq (codes "integer") n) (bytes_eq (codes "boolean") n || (bytes_eq (codes "char") n || false)) (or_left (bytes_eq (codes "boolean") n) (bytes_eq (codes "char") n || false) e)) in
    let c = other (codes "char") (λ e. or_right (bytes_eq (codes "integer") n) (bytes_eq (codes "boolean") n || (bytes_eq (codes "char") n || false))
    (or_right (bytes_eq (codes "boolean") n) (bytes_eq (codes "char") n || false) (or_left (bytes_eq (codes "char") n) false e))) in
    ap (λ (x : Bool). if x then Some IntegerType else (if bytes_eq n (codes "boolean") then Some BooleanType else (if bytes_eq n (codes "char") then Some CharType else None))) a
    ∙ ap (λ (x : Bool). if x then Some BooleanType else (if bytes_eq n (codes "char") then Some CharType else None)) b
    ∙ ap (λ (x : Bool). if x then Some CharType else None) c
  where
    other : (w : List ℕ) → (bytes_eq w n ≡ true → is_among required_names n ≡ true) → bytes_eq n w ≡ false
    other w f = false_from_ne_true (bytes_eq n w) (λ t. true≢false (sym (f ((bytes_eq-Decides w n).1 (sym ((bytes_eq-Decides n w).0 t)))) ∙ h))

-- of a name that isn't entered a block says nothing
pub says-none : (list : Plain) (is_program : Bool) (l : Local) (n : List ℕ) → OnceEach l.known → OwnTypes list l → is_among (entered_names is_program (type_names list.kids)) n ≡ false →
    block_says is_program l n ≡ None
says-none list is_program l n once own apart = by (is_some (entry_of l.names n))
  where
    required : (b : Bool) → (is_among (if b then required_names else []) n ≡ true → is_among (entered_names is_program (type_names list.kids)) n ≡ true) → (if b then required_type n else None) ≡ None
    required false f = refl
    required true f = required-none n (false_from_ne_true (is_among required_names n) (λ t. true≢false (sym (f t) ∙ apart)))

    by : (b : Bool) → (if b then domain_in (own_domains l.known) l.owner n else (if is_program then required_type n else None)) ≡ None
    by true = own-none l.known l.owner n once (λ m e c. true≢false (sym (among-front (type_names list.kids) (if is_program then required_names else []) n (own n m e c).1) ∙ apart))
    by false = required is_program (λ t. among-back (type_names list.kids) (if is_program then required_names else []) n t)
