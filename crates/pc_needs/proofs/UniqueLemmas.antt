-- A key names one routine: no two blocks, and no two forward headings, of a well-formed program have one key.
use Rattle.std.specs.Prelude.{ℕ, ◌≡◌, Bool, true, false, not, ◌&&◌, ◌==◌, if◌then◌else◌, List, [], ◌∷◌, length, Option, Some, None, ◌++◌, ◌⊎◌}
use Rattle.std.specs.Option.{is_some, option_and_then}
use Rattle.std.proofs.Common.{refl, ap, sym, subst, ◌∙◌, true≢false, inl, inr}
use Rattle.std.proofs.lemmas.Bool.{and_parts}
use Rattle.pc_syntax.specs.declared.kind.Kind.{Kind}
use Rattle.pc_syntax.specs.declared.kind.Kind.TheVariants as kind
use Rattle.pc_syntax.specs.declared.class.Class.{Class}
use Rattle.pc_syntax.specs.declared.class.Class.TheVariants as class
use Rattle.pc_syntax.specs.declared.item.Item.{Item}
use Rattle.pc_syntax.specs.declared.item.Item.TheVariants.{Kid}
use Rattle.pc_syntax.specs.Classes.{has}
use Rattle.pc_syntax.specs.Layout.{layout}
use Rattle.pc_syntax.specs.Plain.{Forest, Nil, Cons, count, kinds}
use Rattle.pc_syntax.specs.WellFormed.{fits, fits_some}
use Rattle.pc_syntax.specs.Words.{is_among}
use Rattle.pc_types.specs.Shapes.{Owner, Keyed, Placed}
use Rattle.pc_scope.specs.Headings.{Heading, ends_forward, first_name, heading_of, is_routine_kind}
use Rattle.pc_rules.specs.Attributes.{Attributes}
use Rattle.pc_rules.specs.Declarations.{head_or, heading_here, is_later_declaration}
use Rattle.pc_rules.specs.Meanings.{Found, Local, define_all}
use Rattle.pc_rules.specs.OwnBlock.{heading_part}
use Rattle.pc_rules.specs.Places.{beside}
use Rattle.pc_rules.specs.RoutineList.{Forwarded, forwarded_for, without_forwarded, extended, routine_of, key_of, forwarded_by, ARoutine, part_of}
use Rattle.pc_rules.specs.Routines.{Routine, parameters_of}
use Rattle.pc_needs.specs.Answers.{has_block}
use Rattle.pc_needs.proofs.KeyLemmas.{Key, is_keyed, none-some, key_or, owner_of-some, key_of-some, routine-key, ExtendsHeading}
use Rattle.pc_needs.proofs.Lists.{Each, each-append}
use Rattle.pc_needs.proofs.ParameterLemmas.{not-none, not-all}
use Rattle.pc_needs.proofs.WaitingLemmas.{define_all-keeps, routine-passed, Waits, WaitApart, waits-split, without-waits, without-apart, append-apart, forwarded-waits-for, later-alone}

-- ---- the kids of a routine

-- a heading is a forward where the kids are
pub forward-heading : (f : Forest) → ends_forward (heading_part f) ≡ ends_forward f
forward-heading Nil = refl
forward-heading (Cons kind.Block w ns ks ts) = forward-heading ts
forward-heading (Cons kind.Forward w ns ks ts) = refl
forward-heading (Cons k w ns ks ts) = forward-heading ts

-- behind a kid that is none of the two
skipped : (c : Class) (k : Kind) (w : List ℕ) (ns : List (List ℕ)) (ks ts : Forest) → has c kind.Block ≡ false → has c kind.Forward ≡ false → has c k ≡ true →
    (has_block (Cons k w ns ks ts) ≡ has_block ts) × (ends_forward (Cons k w ns ks ts) ≡ ends_forward ts)
skipped c kind.Block w ns ks ts b f e = absurd (true≢false (sym e ∙ b))
skipped c kind.Forward w ns ks ts b f e = absurd (true≢false (sym e ∙ f))
skipped c k w ns ks ts b f e = (refl, refl)

-- no kids have both a block and the word `forward`
abbrev pub NotBoth : Forest → Type 0
NotBoth f = has_block f ≡ true → ends_forward f ≡ true → ⊥

pub last-not-both : (f : Forest) → fits (Kid class.Block ∷ []) (kinds f) ≡ true → NotBoth f
last-not-both Nil e b g = true≢false (sym e)
last-not-both (Cons kind.Block w ns ks Nil) e b g = true≢false (sym g)
last-not-both (Cons k w ns ks Nil) e b g = true≢false (sym b)
last-not-both (Cons k w ns ks (Cons j v ms js ts)) e b g = true≢false (sym (and_parts (has class.Block k) false e).1)

pub behind-not-both : (c : Class) (is : List Item) (f : Forest) → has c kind.Block ≡ false → has c kind.Forward ≡ false →
    ((g : Forest) → fits is (kinds g) ≡ true → NotBoth g) → fits (Kid c ∷ is) (kinds f) ≡ true → NotBoth f
behind-not-both c is Nil b g h e x y = true≢false (sym e)
behind-not-both c is (Cons k w ns ks ts) b g h e x y =
    let both = and_parts (has c k) (fits is (kinds ts)) e in
    let s = skipped c k w ns ks ts b g both.0 in
    h ts both.1 (sym s.0 ∙ x) (sym s.1 ∙ y)

pub routine-not-both : (k : Kind) (w : List ℕ) (f : Forest) → part_of k ≡ ARoutine → fits_some (layout k w (count f)) (kinds f) ≡ true → NotBoth f
routine-not-both kind.Procedure [] f p e = behind-not-both class.Name (Kid class.Params ∷ Kid class.Block ∷ []) f refl refl (λ g. behind-not-both class.Params (Kid class.Block ∷ []) g refl refl last-not-both) e
routine-not-both kind.Function [] f p e =
    behind-not-both class.Name (Kid class.Params ∷ Kid class.Name ∷ Kid class.Block ∷ []) f refl refl
    (λ g. behind-not-both class.Params (Kid class.Name ∷ Kid class.Block ∷ []) g refl refl (λ h. behind-not-both class.Name (Kid class.Block ∷ []) h refl refl last-not-both)) e
routine-not-both kind.Funbody [] f p e = behind-not-both class.Name (Kid class.Block ∷ []) f refl refl last-not-both e
routine-not-both kind.Procedure (b ∷ w) f p e = absurd (true≢false (sym e))
routine-not-both kind.Function (b ∷ w) f p e = absurd (true≢false (sym e))
routine-not-both kind.Funbody (b ∷ w) f p e = absurd (true≢false (sym e))
routine-not-both kind.Routines w f p e = absurd (not-all p)
routine-not-both k w f p e = absurd (not-none p)

pub routine-kind : (k : Kind) → part_of k ≡ ARoutine → is_routine_kind k ≡ true
routine-kind kind.Procedure p = refl
routine-kind kind.Function p = refl
routine-kind kind.Funbody p = refl
routine-kind kind.Routines p = absurd (not-all p)
routine-kind k p = absurd (not-none p)

-- ---- keys

rest-of : Key → Key
rest-of [] = []
rest-of (n ∷ ns) = ns

name-or : List ℕ → Key → List ℕ
name-or d [] = d
name-or d (n ∷ ns) = n

is-nothing : Key → Bool
is-nothing [] = true
is-nothing (n ∷ ns) = false

key-behind : (j a b : Key) → j ++ a ≡ j ++ b → a ≡ b
unfolding rest-of
key-behind [] a b e = e
key-behind (n ∷ j) a b e = key-behind j a b (ap rest-of e)

pub key-longer : (j : Key) (n : List ℕ) (rest : Key) → j ≡ j ++ n ∷ rest → ⊥
unfolding rest-of is-nothing
key-longer [] n rest e = true≢false (ap is-nothing e)
key-longer (m ∷ j) n rest e = key-longer j n rest (ap rest-of e)

same-name : (m n : List ℕ) (a b : Key) → m ∷ a ≡ n ∷ b → m ≡ n
unfolding name-or
same-name m n a b e = ap (name-or m) e

same-rest : (m n : List ℕ) (a b : Key) → m ∷ a ≡ n ∷ b → a ≡ b
unfolding rest-of
same-rest m n a b e = ap rest-of e

same-some : (i j : Key) (o : Option Key) → o ≡ Some i → o ≡ Some j → i ≡ j
same-some i j o e f = ap (key_or i) (sym e ∙ f)

key_append : (j : Key) (n : List ℕ) (rest : Key) → (j ++ n ∷ []) ++ rest ≡ j ++ n ∷ rest
key_append [] n rest = refl
key_append (m ∷ j) n rest = ap (λ (k : Key). m ∷ k) (key_append j n rest)

-- ---- what is shown

-- two routines are not both blocks, or both forward headings, of one key
abbrev pub Differ : Routine → Routine → Type 0
Differ a b = (k : Key) → a.owner ≡ Keyed k → b.owner ≡ Keyed k → ends_forward a.heading ≡ ends_forward b.heading → ⊥

-- no two of these are
abbrev pub AllDiffer : List Routine → Type 0
AllDiffer [] = Unit {0}
AllDiffer (x ∷ xs) = Each (Differ x) xs × AllDiffer xs

pub append-differ : (xs ys : List Routine) → AllDiffer xs → AllDiffer ys → Each (λ x. Each (Differ x) ys) xs → AllDiffer (xs ++ ys)
append-differ [] ys h g d = g
append-differ (x ∷ xs) ys h g d = (each-append (Differ x) xs ys h.0 d.0, append-differ xs ys h.1 g d.1)

-- a routine's key, if it has one, is the key around with a name behind, and more
abbrev pub StandsUnder : Option Key → Routine → Type 0
StandsUnder key x = (k : Key) → x.owner ≡ Keyed k → (j : Key) × (n : List ℕ) × (rest : Key) × (key ≡ Some j) × (k ≡ j ++ n ∷ rest)

-- the same; the name doesn't stand before, or a forward heading waits with it, whose later declaration may come
abbrev pub IsFresh : Local → List Forwarded → Option Key → Routine → Type 0
IsFresh l fs key x = (k : Key) → x.owner ≡ Keyed k → (j : Key) × (n : List ℕ) × (rest : Key) × (key ≡ Some j) × (k ≡ j ++ n ∷ rest) ×
    ((is_among l.passed n ≡ false) ⊎ (Waits fs n × (rest ≡ [] → ends_forward x.heading ≡ false)))

-- a routine, or one inside it, by the routine's name
abbrev pub HasName : Option Key → List ℕ → Forest → Routine → Routine → Type 0
HasName key n ks r x = (k : Key) → x.owner ≡ Keyed k → (j : Key) × (rest : Key) × (key ≡ Some j) × (k ≡ j ++ n ∷ rest) × (is_keyed r.owner ≡ true) ×
    (((rest ≡ []) × (ends_forward x.heading ≡ ends_forward r.heading)) ⊎ (has_block ks ≡ true))

-- what holds behind a routine with a key
pub record IsPassed (after : Local) (fs : List Forwarded) (n : List ℕ) (ks : Forest) (r : Routine) : Type 0 where
  pub passed : is_keyed r.owner ≡ true → is_among after.passed n ≡ true
  pub waits : is_keyed r.owner ≡ true → Waits fs n → ends_forward r.heading ≡ true
  pub apart : has_block ks ≡ true → ends_forward r.heading ≡ true → ⊥

-- no routine behind has the same key and the same standing
clash : (after : Local) (fs : List Forwarded) (n m : List ℕ) (a b : Key) (ks : Forest) (r x y : Routine) → IsPassed after fs n ks r →
    (is_among after.passed m ≡ false) ⊎ (Waits fs m × (b ≡ [] → ends_forward y.heading ≡ false)) →
    ((a ≡ []) × (ends_forward x.heading ≡ ends_forward r.heading)) ⊎ (has_block ks ≡ true) →
    is_keyed r.owner ≡ true → n ≡ m → a ≡ b → ends_forward x.heading ≡ ends_forward y.heading → ⊥
clash after fs n m a b ks r x y h (inl e) c k name rest same = true≢false (sym (h.passed k) ∙ ap (is_among after.passed) name ∙ e)
clash after fs n m a b ks r x y h (inr w) (inl c) k name rest same =
    true≢false (sym (h.waits k (subst (Waits fs) (sym name) w.0)) ∙ sym c.1 ∙ same ∙ w.1 (sym rest ∙ c.0))
clash after fs n m a b ks r x y h (inr w) (inr c) k name rest same = h.apart c (h.waits k (subst (Waits fs) (sym name) w.0))

pub differ-behind : (key : Option Key) (n : List ℕ) (ks : Forest) (r x y : Routine) (after : Local) (fs : List Forwarded) → IsPassed after fs n ks r →
    HasName key n ks r x → IsFresh after fs key y → Differ x y
differ-behind key n ks r x y after fs h a b = λ k p q same.
    let u = a k p in
    let v = b k q in
    let j : u.0 ≡ v.0 = same-some u.0 v.0 key u.2 v.3 in
    let all : n ∷ u.1 ≡ v.1 ∷ v.2 = key-behind v.0 (n ∷ u.1) (v.1 ∷ v.2) (sym (ap (λ (i : Key). i ++ n ∷ u.1) j) ∙ sym u.3 ∙ v.4) in
    clash after fs n v.1 u.1 v.2 ks r x y h v.5 u.5 u.4 (same-name n v.1 u.1 v.2 all) (same-rest n v.1 u.1 v.2 all) same

-- ---- one routine in its list

not-so : (b : Bool) → not b ≡ true → b ≡ false
not-so true e = absurd (true≢false (sym e))
not-so false e = refl

-- a routine with a key is a later declaration, or the first of its name
abbrev pub HasCase : Local → List Forwarded → Key → Type 0
HasCase l fs k =
    ((is_later_declaration l ≡ true) × (option_and_then (λ (x : Forwarded). x.key) (forwarded_for (heading_here l) fs) ≡ Some k))
    ⊎ ((is_later_declaration l ≡ false) × ((length (heading_here l).name == 0) ≡ false) × (is_among l.passed (heading_here l).name ≡ false))

pub case-of : (l : Local) (fs : List Forwarded) (k : Key) (key : Option Key) (later none among : Bool) (o : Option Key) (n : List ℕ) →
    (if later then o else if not later && not none && not among then extended key n else None) ≡ Some k →
    ((later ≡ true) × (o ≡ Some k)) ⊎ ((later ≡ false) × (none ≡ false) × (among ≡ false))
case-of l fs k key true none among o n e = inl (refl, e)
case-of l fs k key false true among o n e = absurd (none-some k e)
case-of l fs k key false false true o n e = absurd (none-some k e)
case-of l fs k key false false false o n e = inr (refl, refl, refl)

keyed-by : (o : Owner) → is_keyed o ≡ true → (k : Key) × (o ≡ Keyed k)
keyed-by (Keyed k) e = (k, refl)
keyed-by (Placed p) e = absurd (true≢false (sym e))

some-keyed : (o : Owner) → is_some (key_of o) ≡ true → is_keyed o ≡ true
some-keyed (Keyed k) e = refl
some-keyed (Placed p) e = absurd (true≢false (sym e))

later-no-forward : (b c : Bool) → (not b && c) ≡ true → b ≡ false
later-no-forward b c e = not-so b (and_parts (not b) c e).0

module _ (m : List ℕ → Found) (l : Local) (fs : List Forwarded) (p : List ℕ) (key : Option Key) (k : Kind) (ks : Forest) (hs : List Heading) (a : Attributes)
    (part : part_of k ≡ ARoutine) (ahead : l.ahead ≡ heading_of k ks ∷ hs) (e : key ≡ key_of l.owner) (w : Each (ExtendsHeading key) fs)
    (before : (n : List ℕ) → Waits fs n → is_among l.passed n ≡ true) (apart : WaitApart fs) (never : NotBoth ks)
    (defined : is_later_declaration l ≡ false → (length (first_name ks) == 0) ≡ false → is_among (define_all l a.defines).passed (first_name ks) ≡ true) where
  here-is : heading_here l ≡ heading_of k ks
  here-is = ap head_or ahead

  is-forward : ends_forward (heading_part ks) ≡ (heading_here l).is_forward
  is-forward = forward-heading ks ∙ ap (λ (b : Bool). b && ends_forward ks) (sym (routine-kind k part)) ∙ (λ i. (sym here-is i).is_forward)

  case : (j : Key) → (routine_of m l fs p key k ks).owner ≡ Keyed j → HasCase l fs j
  case j q = case-of l fs j key (is_later_declaration l) (length (heading_here l).name == 0) (is_among l.passed (heading_here l).name) _ (heading_here l).name (owner_of-some _ p j q)

  -- what stood before stands before what is behind
  keeps : (n : List ℕ) → is_among l.passed n ≡ true → is_among (beside l k a).passed n ≡ true
  keeps n q = ap (λ (ns : List (List ℕ)). is_among ns n) (routine-passed l k a part) ∙ define_all-keeps l a.defines n q

  pub is-passed : is_keyed (routine_of m l fs p key k ks).owner ≡ true → is_among (beside l k a).passed (heading_here l).name ≡ true
  is-passed q = which (case (keyed-by _ q).0 (keyed-by _ q).1) where
    which : HasCase l fs (keyed-by (routine_of m l fs p key k ks).owner q).0 → is_among (beside l k a).passed (heading_here l).name ≡ true
    which (inl x) = keeps (heading_here l).name (before (heading_here l).name (forwarded-waits-for (heading_here l) fs _ x.1))
    which (inr x) =
        let same : (heading_here l).name ≡ first_name ks = λ i. (here-is i).name in
        subst (λ (n : List ℕ). is_among (beside l k a).passed n ≡ true) (sym same)
        (ap (λ (ns : List (List ℕ)). is_among ns (first_name ks)) (routine-passed l k a part)
        ∙ defined x.0 (ap (λ (n : List ℕ). length n == 0) (sym same) ∙ x.1))

  -- a name that waits behind the routine is a forward heading's
  still-waits : (b : Bool) → (heading_here l).is_forward ≡ b → is_keyed (routine_of m l fs p key k ks).owner ≡ true →
      Waits (if b then fs ++ record { heading = heading_here l; key = key_of (routine_of m l fs p key k ks).owner; parameters = parameters_of (routine_of m l fs p key k ks) } ∷ [] else without_forwarded (heading_here l) fs) (heading_here l).name →
      b ≡ true
  still-waits true f q v = refl
  still-waits false f q v = absurd (which (case (keyed-by _ q).0 (keyed-by _ q).1)) where
    which : HasCase l fs (keyed-by (routine_of m l fs p key k ks).owner q).0 → ⊥
    which (inl x) = later-alone (heading_here l) fs _ apart x.1 v
    which (inr x) = true≢false (sym (before (heading_here l).name (without-waits (heading_here l) fs (heading_here l).name v)) ∙ x.2)

  pub passed-by : IsPassed (beside l k a) (forwarded_by l (routine_of m l fs p key k ks) fs) (heading_here l).name ks (routine_of m l fs p key k ks)
  passed-by = record {
    passed = is-passed;
    waits = λ q v. is-forward ∙ still-waits (heading_here l).is_forward refl q v;
    apart = λ b f. never b (sym (forward-heading ks) ∙ f);
  }

  -- a forward heading with a key is the first of its name
  forward-first : (heading_here l).is_forward ≡ true → is_keyed (routine_of m l fs p key k ks).owner ≡ true → is_among l.passed (heading_here l).name ≡ false
  forward-first f q = which (case (keyed-by _ q).0 (keyed-by _ q).1) where
    which : HasCase l fs (keyed-by (routine_of m l fs p key k ks).owner q).0 → is_among l.passed (heading_here l).name ≡ false
    which (inl x) = absurd (true≢false (sym f ∙ later-no-forward (heading_here l).is_forward _ x.0))
    which (inr x) = x.2

  -- what waits behind it
  waits-then : (b : Bool) → (n : List ℕ) → Waits (if b then fs ++ record { heading = heading_here l; key = key_of (routine_of m l fs p key k ks).owner; parameters = parameters_of (routine_of m l fs p key k ks) } ∷ [] else without_forwarded (heading_here l) fs) n →
      Waits fs n ⊎ ((b ≡ true) × (is_keyed (routine_of m l fs p key k ks).owner ≡ true) × ((heading_here l).name ≡ n))
  waits-then true n v = which (waits-split fs _ n v) where
    which : Waits fs n ⊎ Waits (record { heading = heading_here l; key = key_of (routine_of m l fs p key k ks).owner; parameters = parameters_of (routine_of m l fs p key k ks) } ∷ []) n →
        Waits fs n ⊎ ((true ≡ true) × (is_keyed (routine_of m l fs p key k ks).owner ≡ true) × ((heading_here l).name ≡ n))
    which (inl x) = inl x
    which (inr (inl x)) = inr (refl, some-keyed _ x.0, x.1)
    which (inr (inr x)) = absurd x
  waits-then false n v = inl (without-waits (heading_here l) fs n v)

  pub before-then : (n : List ℕ) → Waits (forwarded_by l (routine_of m l fs p key k ks) fs) n → is_among (beside l k a).passed n ≡ true
  before-then n v = which (waits-then (heading_here l).is_forward n v) where
    which : Waits fs n ⊎ (((heading_here l).is_forward ≡ true) × (is_keyed (routine_of m l fs p key k ks).owner ≡ true) × ((heading_here l).name ≡ n)) → is_among (beside l k a).passed n ≡ true
    which (inl x) = keeps n (before n x)
    which (inr x) = subst (λ (z : List ℕ). is_among (beside l k a).passed z ≡ true) x.2 (is-passed x.1)

  apart-when : (b : Bool) → (heading_here l).is_forward ≡ b → WaitApart (if b then fs ++ record { heading = heading_here l; key = key_of (routine_of m l fs p key k ks).owner; parameters = parameters_of (routine_of m l fs p key k ks) } ∷ [] else without_forwarded (heading_here l) fs)
  apart-when true f = append-apart fs _ apart (λ s v. true≢false (sym (before (heading_here l).name v) ∙ forward-first f (some-keyed _ s)))
  apart-when false f = without-apart (heading_here l) fs apart

  pub apart-then : WaitApart (forwarded_by l (routine_of m l fs p key k ks) fs)
  apart-then = apart-when (heading_here l).is_forward refl

  -- the routine itself
  pub own-name : HasName key (heading_here l).name ks (routine_of m l fs p key k ks) (routine_of m l fs p key k ks)
  own-name j q = let x = routine-key m l fs p key k ks e w j q in (x.0, [], x.1, x.2, ap is_keyed q, inl (refl, refl))

  case-fresh : (j : Key) (rest : Key) (x : Routine) → HasCase l fs j → (rest ≡ [] → is_later_declaration l ≡ true → ends_forward x.heading ≡ false) →
      (is_among l.passed (heading_here l).name ≡ false) ⊎ (Waits fs (heading_here l).name × (rest ≡ [] → ends_forward x.heading ≡ false))
  case-fresh j rest x (inl c) h = inr (forwarded-waits-for (heading_here l) fs j c.1, (λ q. h q c.0))
  case-fresh j rest x (inr c) h = inl c.2

  pub own-fresh : IsFresh l fs key (routine_of m l fs p key k ks)
  own-fresh j q =
      let x = routine-key m l fs p key k ks e w j q in (
        x.0,
        (heading_here l).name,
        [],
        x.1,
        x.2,
        case-fresh j [] (routine_of m l fs p key k ks) (case j q)
            (λ z later. is-forward ∙ later-no-forward (heading_here l).is_forward _ later),
      )

  -- those inside it
  pub inside-name : (b : Routine) → has_block ks ≡ true → StandsUnder (key_of (routine_of m l fs p key k ks).owner) b → HasName key (heading_here l).name ks (routine_of m l fs p key k ks) b
  inside-name b block h j q =
      let y = h j q in
      let o : (routine_of m l fs p key k ks).owner ≡ Keyed y.0 = key_of-some _ y.0 y.3 in
      let x = routine-key m l fs p key k ks e w y.0 o in
      (x.0, y.1 ∷ y.2, x.1, y.4 ∙ ap (λ (i : Key). i ++ y.1 ∷ y.2) x.2 ∙ key_append x.0 (heading_here l).name (y.1 ∷ y.2), ap is_keyed o, inr block)

  pub inside-fresh : (b : Routine) → StandsUnder (key_of (routine_of m l fs p key k ks).owner) b → IsFresh l fs key b
  unfolding is-nothing
  inside-fresh b h j q =
      let y = h j q in
      let o : (routine_of m l fs p key k ks).owner ≡ Keyed y.0 = key_of-some _ y.0 y.3 in
      let x = routine-key m l fs p key k ks e w y.0 o in (
        x.0,
        (heading_here l).name,
        y.1 ∷ y.2,
        x.1,
        y.4 ∙ ap (λ (i : Key). i ++ y.1 ∷ y.2) x.2 ∙ key_append x.0 (heading_here l).name (y.1 ∷ y.2),
        case-fresh y.0 (y.1 ∷ y.2) b (case y.0 o) (λ z later. absurd (true≢false (sym (ap is-nothing z)))),
      )

  pub inside-differ : (b : Routine) → StandsUnder (key_of (routine_of m l fs p key k ks).owner) b → Differ (routine_of m l fs p key k ks) b
  inside-differ b h j q z same =
      let y = h j z in
      let i : y.0 ≡ j = same-some y.0 j (key_of (routine_of m l fs p key k ks).owner) y.3 (ap key_of q) in
      key-longer y.0 y.1 y.2 (i ∙ y.4)

  -- those behind it
  fresh-case : (n : List ℕ) (rest : Key) (y : Routine) →
      (is_among (beside l k a).passed n ≡ false) ⊎ (Waits (forwarded_by l (routine_of m l fs p key k ks) fs) n × (rest ≡ [] → ends_forward y.heading ≡ false)) →
      (is_among l.passed n ≡ false) ⊎ (Waits fs n × (rest ≡ [] → ends_forward y.heading ≡ false))
  fresh-case n rest y (inl q) = inl (which (is_among l.passed n) refl) where
    which : (b : Bool) → is_among l.passed n ≡ b → b ≡ false
    which true z = absurd (true≢false (sym (keeps n z) ∙ q))
    which false z = refl
  fresh-case n rest y (inr v) = which (waits-then (heading_here l).is_forward n v.0) where
    which : Waits fs n ⊎ (((heading_here l).is_forward ≡ true) × (is_keyed (routine_of m l fs p key k ks).owner ≡ true) × ((heading_here l).name ≡ n)) →
        (is_among l.passed n ≡ false) ⊎ (Waits fs n × (rest ≡ [] → ends_forward y.heading ≡ false))
    which (inl x) = inr (x, v.1)
    which (inr x) = inl (subst (λ (z : List ℕ). is_among l.passed z ≡ false) x.2 (forward-first x.0 x.1))

  pub behind-fresh : (y : Routine) → IsFresh (beside l k a) (forwarded_by l (routine_of m l fs p key k ks) fs) key y → IsFresh l fs key y
  behind-fresh y h j q = let x = h j q in (x.0, x.1, x.2, x.3, x.4, fresh-case x.1 x.2 y x.5)
