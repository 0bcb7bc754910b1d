-- The first declaration of a name, by the names of a table.
use Rattle.std.proofs.Common.{◌≡◌, ◌≢◌, ℕ, zero, suc, ◌+◌, ◌-◌, ◌<◌, ◌≤◌, Bool, true, false, List, [], ◌∷◌, ◌++◌, length, map, refl, ap, sym, ◌∙◌, subst, arith, get_or, length-append}
use Rattle.std.proofs.Math.ListN.{set}
use Rattle.std.proofs.lemmas.List.{length-map, map-append}
use Rattle.std.proofs.lemmas.Option.{slice_get_read, slice_get-map, get_or_from_slice_get, slice_get-get_or}
use Rattle.std.proofs.lemmas.Slice.Eq.{bytes_eq-Decides}
use Rattle.std.specs.Prelude.{Option, Some, None, slice_get, slice_index, option_map, is_some, IfSome, if◌then◌else◌}
use Rattle.std.specs.Option.{option_or, option_and_then}
use Rattle.std.specs.Str.{bytes_eq}
use Rattle.std.proofs.lemmas.Bool.Decides.{nat_tests}
use Rattle.pc_syntax.specs.Words.{lower, lowered}
use Rattle.pc_scope.specs.Entries.{all_declared, declared_of}
use Rattle.pc_scope.specs.declared.named.Named.{Named}
use Rattle.pc_scope.specs.Lookup.{Declaration}
use Rattle.pc_scope.specs.Table.{chain_of, IsLinked, first_of, names_in, links_in, declarations_in, declared_as, owned}
use Rattle.pc_scope.specs.declared.names.Entry.{Entry}
use Rattle.pc_scope.proofs.Chains.{Some-inj, Walks, walk-more, walk-end, linked-push}

-- an element that is there doesn't depend on the default
pub get_or-any : (xs : List ℕ) (i d e : ℕ) → i < length xs → get_or xs i d ≡ get_or xs i e
get_or-any xs i d e l = (get_or_from_slice_get xs i (get_or xs i e) d (slice_get-get_or xs i e l))

-- names are the same where the test says so
pub bytes-same : (a b : List ℕ) → bytes_eq a b ≡ true → a ≡ b
bytes-same a b = (bytes_eq-Decides a b).0

pub bytes-other : (a b : List ℕ) → bytes_eq a b ≡ false → a ≢ b
bytes-other a b e same = cc ((bytes_eq-Decides a b).1 same)

pub bytes-is : (a b : List ℕ) → a ≡ b → bytes_eq a b ≡ true
bytes-is a b = (bytes_eq-Decides a b).1

pub not-true : (b : Bool) → (b ≡ true → ⊥) → b ≡ false
not-true true f = absurd (f refl)
not-true false f = refl

pub bytes-not : (a b : List ℕ) → a ≢ b → bytes_eq a b ≡ false
bytes-not a b differs = not-true (bytes_eq a b) (λ e. differs (bytes-same a b e))

lower-twice : (b : ℕ) → lower (lower b) ≡ lower b
lower-twice b = grind (arith, nat_tests)

pub lowered-twice : (n : List ℕ) → lowered (lowered n) ≡ lowered n
lowered-twice [] = refl
lowered-twice (b ∷ bs) = rw (lower-twice b, lowered-twice bs) refl

-- a name is in one chain however it is spelled
pub chain-lowered : (n : List ℕ) (size : ℕ) → chain_of (lowered n) size ≡ chain_of n size
unfolding chain_of
chain-lowered n size = rw (lowered-twice n) refl

-- the name of a declaration
abbrev pub name_of : Declaration → List ℕ
name_of d = d.declared.name

-- the names of entries are those of what they stand for
pub names-declared : (es : List Entry) → names_in es ≡ map name_of (declarations_in es)
names-declared [] = refl
names-declared (e ∷ es) = ap (λ ns. e.decl.name ∷ ns) (names-declared es)

-- where none has the name there is no declaration of it
pub first-none : (n : List ℕ) (ds : List Declaration) → ((j : ℕ) (m : List ℕ) → slice_get (map name_of ds) j ≡ Some m → m ≢ n) → first_of n ds ≡ None
first-none n [] h = refl
first-none n (d ∷ ds) h = rw (bytes-not (name_of d) n (h 0 (name_of d) refl)) (first-none n ds (λ j m e. h (suc j) m e))

if-none : (b : Bool) (d : Declaration) (o : Option Declaration) → (if b then Some d else o) ≡ None → (b ≡ false) × (o ≡ None)
if-none true d o e = cc
if-none false d o e = (refl, e)

-- and where there is none no name is that
pub none-first : (n : List ℕ) (ds : List Declaration) → first_of n ds ≡ None → (j : ℕ) (m : List ℕ) → slice_get (map name_of ds) j ≡ Some m → m ≢ n
none-first n [] e j m is same = cc
none-first n (d ∷ ds) e zero m is same = bytes-other (name_of d) n (if-none (bytes_eq (name_of d) n) d (first_of n ds) e).0 (Some-inj (name_of d) m is ∙ same)
none-first n (d ∷ ds) e (suc j) m is same = none-first n ds (if-none (bytes_eq (name_of d) n) d (first_of n ds) e).1 j m is same

-- where each name is there once, the declaration of a name is the first
pub first-at : (n : List ℕ) (ds : List Declaration) → ((i j : ℕ) (m : List ℕ) → slice_get (map name_of ds) i ≡ Some m → slice_get (map name_of ds) j ≡ Some m → i ≡ j) →
    (i : ℕ) → slice_get (map name_of ds) i ≡ Some n → slice_get ds i ≡ first_of n ds
first-at n [] h i is = refl
first-at n (d ∷ ds) h zero is = rw (bytes-is (name_of d) n (Some-inj _ _ is)) refl
first-at n (d ∷ ds) h (suc i) is =
    let other : name_of d ≢ n = λ same. absurd (let e : 0 ≡ suc i = h 0 (suc i) n (ap Some same) is in omega (arith, e)) in
    rw (bytes-not (name_of d) n other) (first-at n ds (λ j k m a b. let e : suc j ≡ suc k = h (suc j) (suc k) m a b in omega (arith, e)) i is)

first-append-by : (b : Bool) (d : Declaration) (o p q : Option Declaration) → o ≡ option_or p q → (if b then Some d else o) ≡ option_or (if b then Some d else p) q
first-append-by true d o p q e = refl
first-append-by false d o p q e = e

-- the first declaration of a list with more
pub first-append : (n : List ℕ) (ds es : List Declaration) → first_of n (ds ++ es) ≡ option_or (first_of n ds) (first_of n es)
first-append n [] es = refl
first-append n (d ∷ ds) es = first-append-by (bytes_eq (name_of d) n) d _ _ _ (first-append n ds es)

-- a walk among entries
module _ (es : List Entry) (heads : List ℕ) (linked : IsLinked (names_in es) (links_in es) heads) (n : List ℕ) where
  -- the entry at which a walk stands
  module _ (at : ℕ) (e : Entry) (there : (at ≡ 0) → ⊥) (walks : Walks (names_in es) (length heads) n at) (is : e ≡ get_or es (at - 1) e) where
    entry-at : slice_get es (at - 1) ≡ Some e
    entry-at = slice_get_read es (length es) (at - 1) e refl (let w : at ≤ length (names_in es) = walks.within in omega (arith, w, there, length-map es (λ x. x.decl.name))) is

    entry-name : slice_get (names_in es) (at - 1) ≡ Some e.decl.name
    entry-name = slice_get-map (λ x. x.decl.name) es (at - 1) ∙ ap (option_map (λ x. x.decl.name)) entry-at

    entry-link : slice_index (links_in es) (at - 1) ≡ e.link
    entry-link = get_or_from_slice_get (links_in es) (at - 1) e.link 0 (slice_get-map (λ x. x.link) es (at - 1) ∙ ap (option_map (λ x. x.link)) entry-at)

    step-down : at ≡ at - 1 + 1
    step-down = omega (arith, there)

    pub link-below : e.link < at
    link-below =
        let r = linked.before (at - 1) e.decl.name entry-name in
        let w : slice_index (links_in es) (at - 1) ≤ at - 1 = r.within in
        omega (arith, w, entry-link, there)

    pub walk-on : bytes_eq e.decl.name n ≡ false → Walks (names_in es) (length heads) n e.link
    walk-on other =
        let P : ℕ → Type 0 = λ x. Walks (names_in es) (length heads) n x in
        subst P entry-link (walk-more (names_in es) (links_in es) heads n linked at (at - 1) e.decl.name walks step-down entry-name (bytes-other e.decl.name n other))

    pub walk-found : bytes_eq e.decl.name n ≡ true → slice_get (declarations_in es) (at - 1) ≡ first_of n (declarations_in es)
    walk-found same =
        first-at n (declarations_in es) (λ i j m a b. linked.distinct i j m (ap (λ ns. slice_get ns i) (names-declared es) ∙ a) (ap (λ ns. slice_get ns j) (names-declared es) ∙ b)) (at - 1)
        (ap (λ ns. slice_get ns (at - 1)) (sym (names-declared es)) ∙ entry-name ∙ ap Some (bytes-same e.decl.name n same))

  -- a walk that has come to its end
  pub walk-missed : (at : ℕ) → at ≡ 0 → Walks (names_in es) (length heads) n at → None ≡ first_of n (declarations_in es)
  walk-missed at e walks =
      let P : ℕ → Type 0 = λ x. Walks (names_in es) (length heads) n x in
      sym (first-none n (declarations_in es) (λ j m is. walk-end (names_in es) (links_in es) heads n linked (subst P e walks) j m (ap (λ ns. slice_get ns j) (names-declared es) ∙ is)))

  -- a table with one entry more
  pub entry-push : (b : ℕ) (e : Entry) (fs : List Entry) → b ≡ chain_of e.decl.name (length heads) → b < length heads → first_of e.decl.name (declarations_in es) ≡ None →
      e.link ≡ slice_index heads b → fs ≡ es ++ e ∷ [] → IsLinked (names_in fs) (links_in fs) (set heads b (length fs))
  entry-push b e fs chain within new link are =
      let P : List Entry → Type 0 = λ xs. IsLinked (names_in xs) (links_in xs) (set heads b (length xs)) in
      let Q : ℕ → Type 0 = λ k. IsLinked (names_in (es ++ e ∷ [])) (links_in (es ++ e ∷ [])) (set heads b k) in
      let R : List (List ℕ) → Type 0 = λ ns. IsLinked ns (links_in (es ++ e ∷ [])) (set heads b (length (names_in es) + 1)) in
      let S : List ℕ → Type 0 = λ ls. IsLinked (names_in es ++ e.decl.name ∷ []) ls (set heads b (length (names_in es) + 1)) in
      subst P (sym are)
      (subst Q (ap (λ k. k + 1) (length-map es (λ x. x.decl.name)) ∙ sym (length-append es (e ∷ [])))
      (subst R (sym (map-append (λ x. x.decl.name) es (e ∷ [])))
      (subst S (ap (λ l. links_in es ++ l ∷ []) (sym link) ∙ sym (map-append (λ x. x.link) es (e ∷ [])))
      (linked-push (names_in es) (links_in es) heads e.decl.name b linked chain within
      (λ j m is. none-first e.decl.name (declarations_in es) new j m (ap (λ ns. slice_get ns j) (sym (names-declared es)) ∙ is))))))

or-none : (o : Option Declaration) → o ≡ option_or o None
or-none None = refl
or-none (Some x) = refl

some-at : (es : List Entry) (i : ℕ) → i < length es → (x : Declaration) × (slice_get (declarations_in es) i ≡ Some x)
some-at [] i l = absurd (omega (arith, l))
some-at (e ∷ es) zero l = (declared_as e.decl e.is_definition, refl)
some-at (e ∷ es) (suc i) l = some-at es i (omega (arith, l))

-- what a look-up that finds something says
pub known : (es : List Entry) (o : Option Declaration) (r : Option ℕ) → is_some r ≡ true → IfSome r (λ i. i < length es) →
    option_and_then (slice_get (declarations_in es)) r ≡ o → (x : Declaration) × (o ≡ Some x)
known es o None s w e = cc
known es o (Some i) s w e = let x = some-at es i w in (x.0, sym e ∙ x.1)

-- and one that finds nothing
pub unknown : (ds : List Declaration) (o : Option Declaration) (r : Option ℕ) → is_some r ≡ false → option_and_then (slice_get ds) r ≡ o → o ≡ None
unknown ds o None s e = sym e
unknown ds o (Some i) s e = cc

or-some : (o q : Option Declaration) (x : Declaration) → o ≡ Some x → o ≡ option_or o q
or-some None q x e = cc
or-some (Some y) q x e = refl

first-second-by : (ds : List Declaration) (d : Declaration) (x : Declaration) → first_of (name_of d) ds ≡ Some x → (n : List ℕ) (b : Bool) → bytes_eq (name_of d) n ≡ b →
    first_of n ds ≡ option_or (first_of n ds) (if b then Some d else None)
first-second-by ds d x e n true s = or-some (first_of n ds) _ x (ap (λ m. first_of m ds) (sym (bytes-same (name_of d) n s)) ∙ e)
first-second-by ds d x e n false s = or-none (first_of n ds)

-- a second declaration of a name changes nothing
pub first-second : (ds : List Declaration) (d : Declaration) (x : Declaration) → first_of (name_of d) ds ≡ Some x → (n : List ℕ) → first_of n ds ≡ option_or (first_of n ds) (first_of n (d ∷ []))
first-second ds d x e n = first-second-by ds d x e n (bytes_eq (name_of d) n) refl

-- the first declarations among some and one more
pub first-more : (owner : List (List ℕ)) (ns : List Named) (d : Named) (n : List ℕ) (before after : Option Declaration) →
    before ≡ first_of n (owned owner (all_declared ns)) → after ≡ option_or before (first_of n (owned owner (declared_of d ∷ []))) →
    after ≡ first_of n (owned owner (all_declared (ns ++ d ∷ [])))
first-more owner ns d n before after e f =
    f ∙ ap (λ o. option_or o (first_of n (owned owner (declared_of d ∷ [])))) e
    ∙ sym (ap (λ xs. first_of n (owned owner xs)) (map-append declared_of ns (d ∷ []))
    ∙ ap (first_of n) (map-append (λ x. record { declared = x; owner = owner }) (all_declared ns) (declared_of d ∷ []))
    ∙ first-append n (owned owner (all_declared ns)) (owned owner (declared_of d ∷ [])))
