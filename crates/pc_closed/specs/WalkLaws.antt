-- A walk through the domains of a table ends with nothing ahead, and has then found what is reached.
use Rattle.std.proofs.Common.{◌≡◌, ℕ, zero, suc, ◌+◌, ◌≤◌, Bool, true, false, if◌then◌else◌, List, [], ◌∷◌, ◌++◌, Option, Some, None, refl, sym, ◌∙◌, arith, append-nil, subst}
use Rattle.std.proofs.lemmas.Bool.{or_from, true≢false}
use Rattle.pc_types.specs.Shapes.{Owner, Shape, IntegerType, BooleanType, CharType, NilType, NoMembers, MembersType, TextType, EnumeratedType, SubrangeType, ArrayType, RecordType, SetType, PointerType, Fields, LastField, FieldOf, Domain}
use Rattle.pc_types.specs.Domains.{is_domain, domain_in, stands_in, named_in, named_in_fields, named_in_option, length_of_domains, count_named, walk, reached}
use Rattle.pc_closed.specs.Reached.{Covers, EachOnce, AllFrom, AllNamed, left_ahead, IsReached, ReachedLaw}
use Rattle.pc_closed.specs.PlaceLaws.{is_domain-both, stands-moved, stands-front, stands-back, stands-first, stands-neither, covers-through, covers-both, covers-more, from-both, from-at, once-more, named-among, named-both}

-- ---- how many visits are still wanted

-- how many domains are named by those of the table that are not met yet
abbrev pub unmet : List Domain → List Domain → List Domain → ℕ
unmet table met [] = 0
unmet table met (d ∷ ds) = (if stands_in met d.owner d.name then 0 else length_of_domains (named_in_option table d.shape)) + unmet table met ds

length-both : (ds es : List Domain) → length_of_domains (ds ++ es) ≡ length_of_domains ds + length_of_domains es
length-both [] es = omega arith
length-both (d ∷ ds) es = omega (arith, length-both ds es)

-- at first these are all
unmet-none : (table ds : List Domain) → unmet table [] ds ≤ count_named table ds
unmet-none table [] = omega arith
unmet-none table (d ∷ ds) = omega (arith, unmet-none table ds)

-- a test that holds for less gives a number that is not more
either-less : (b c : Bool) (x y z : ℕ) → (b ≡ true → c ≡ true) → y ≤ z → (if c then 0 else x) + y ≤ (if b then 0 else x) + z
either-less true c x y z h l = let e : c ≡ true = h refl in rw e (omega (arith, l))
either-less false true x y z h l = omega (arith, l)
either-less false false x y z h l = omega (arith, l)

-- one more that is met leaves no more
unmet-less : (table met ds : List Domain) (d : Domain) → unmet table (met ++ d ∷ []) ds ≤ unmet table met ds
unmet-less table met [] d = omega arith
unmet-less table met (e ∷ ds) d =
    either-less (stands_in met e.owner e.name) (stands_in (met ++ d ∷ []) e.owner e.name) (length_of_domains (named_in_option table e.shape))
    (unmet table (met ++ d ∷ []) ds) (unmet table met ds) (stands-front met (d ∷ []) e.owner e.name) (unmet-less table met ds d)

-- where a place is another, its domain is met with that
met-same : (met : List Domain) (d e : Domain) → is_domain d.owner d.name e ≡ true → stands_in (met ++ d ∷ []) e.owner e.name ≡ true
met-same met d e h = sym (stands-moved (met ++ d ∷ []) d.owner d.name e h) ∙ stands-back met (d ∷ []) d.owner d.name (stands-first d [])

-- elsewhere as much is met as before
met-other : (met : List Domain) (d e : Domain) → is_domain d.owner d.name e ≡ false → stands_in met e.owner e.name ≡ false → stands_in (met ++ d ∷ []) e.owner e.name ≡ false
met-other met d e h s = stands-neither met (d ∷ []) e.owner e.name s (or_from (is_domain e.owner e.name d) false (is_domain-both d e h) refl)

-- one that is met for the first time leaves those out that it names
unmet-new : (table met ds : List Domain) (d : Domain) → stands_in met d.owner d.name ≡ false →
    unmet table (met ++ d ∷ []) ds + length_of_domains (named_in_option table (domain_in ds d.owner d.name)) ≤ unmet table met ds
unmet-new table met [] d h = omega arith
unmet-new table met (e ∷ ds) d h = by (unmet-new table met ds d h) (is_domain d.owner d.name e) refl where
  by : unmet table (met ++ d ∷ []) ds + length_of_domains (named_in_option table (domain_in ds d.owner d.name)) ≤ unmet table met ds → (b : Bool) → is_domain d.owner d.name e ≡ b →
      unmet table (met ++ d ∷ []) (e ∷ ds) + length_of_domains (named_in_option table (if b then e.shape else domain_in ds d.owner d.name)) ≤ unmet table met (e ∷ ds)
  by rest true q =
      let new : stands_in (met ++ d ∷ []) e.owner e.name ≡ true = met-same met d e q in
      let old : stands_in met e.owner e.name ≡ false = sym (stands-moved met d.owner d.name e q) ∙ h in
      rw (new, old) (omega (arith, unmet-less table met ds d))
  by rest false q =
      let l = either-less (stands_in met e.owner e.name) (stands_in (met ++ d ∷ []) e.owner e.name) (length_of_domains (named_in_option table e.shape))
      (unmet table (met ++ d ∷ []) ds + length_of_domains (named_in_option table (domain_in ds d.owner d.name))) (unmet table met ds) (stands-front met (d ∷ []) e.owner e.name) rest in
      omega (arith, l)

-- ---- the domains that a shape names are what the table says

mutual
  pub named-from : (table : List Domain) (t : Shape) → AllFrom table (named_in table t)
  named-from table (PointerType d o n) = (refl, tt)
  named-from table (SubrangeType d h a b) = tt
  named-from table (ArrayType d p i e) = named-from table e
  named-from table (RecordType d p fs) = named_fields-from table fs
  named-from table IntegerType = tt
  named-from table BooleanType = tt
  named-from table CharType = tt
  named-from table NilType = tt
  named-from table NoMembers = tt
  named-from table (MembersType b) = tt
  named-from table (TextType n) = tt
  named-from table (EnumeratedType d ns) = tt
  named-from table (SetType d p b) = tt

  named_fields-from : (table : List Domain) (fs : Fields) → AllFrom table (named_in_fields table fs)
  named_fields-from table LastField = tt
  named_fields-from table (FieldOf n t fs) = from-both table (named_in table t) (named_in_fields table fs) (named-from table t) (named_fields-from table fs)

option-from : (table : List Domain) (t : Option Shape) → AllFrom table (named_in_option table t)
option-from table None = tt
option-from table (Some t) = named-from table t

-- ---- the walk

-- what holds at each visit: visits enough are left, and what the domains that are met name is met or ahead
pub record IsUnderway (visits : ℕ) (table met ahead : List Domain) : Type 0 where
  pub enough : length_of_domains ahead + unmet table met table ≤ visits
  pub once : EachOnce met
  pub met_from : AllFrom table met
  pub ahead_from : AllFrom table ahead
  pub named : AllNamed table (met ++ ahead) met

-- what holds at the end: nothing is ahead, all that was ahead is found, and with each what it names
pub record IsDone (table met ahead all left : List Domain) : Type 0 where
  pub ended : left ≡ []
  pub once : EachOnce all
  pub from : AllFrom table all
  pub grown : Covers all (met ++ ahead)
  pub further : AllNamed table all all

done-at-end : (visits : ℕ) (table met : List Domain) → IsUnderway visits table met [] → IsDone table met [] met []
done-at-end visits table met u = record {
  ended = refl;
  once = u.once;
  from = u.met_from;
  grown = let e = append-nil met in rw e (λ o n h. h);
  further = subst (λ (all : List Domain). AllNamed table all met) (append-nil met) u.named;
}

-- a domain that was met is passed over
skip-covers : (met ahead : List Domain) (d : Domain) → stands_in met d.owner d.name ≡ true → Covers (met ++ ahead) (met ++ d ∷ ahead)
skip-covers met ahead d s =
    covers-both (met ++ ahead) met (d ∷ ahead) (stands-front met ahead) (covers-more (met ++ ahead) d ahead (stands-front met ahead d.owner d.name s) (stands-back met ahead))

skip : (visits : ℕ) (table met ahead : List Domain) (d : Domain) → stands_in met d.owner d.name ≡ true → IsUnderway (suc visits) table met (d ∷ ahead) → IsUnderway visits table met ahead
skip visits table met ahead d s u = record {
  enough = omega (arith, u.enough);
  once = u.once;
  met_from = u.met_from;
  ahead_from = u.ahead_from.1;
  named = named-among table (met ++ d ∷ ahead) (met ++ ahead) met (skip-covers met ahead d s) u.named;
}

skipped : (table met ahead all left : List Domain) (d : Domain) → stands_in met d.owner d.name ≡ true → IsDone table met ahead all left → IsDone table met (d ∷ ahead) all left
skipped table met ahead all left d s r = record {
  ended = r.ended;
  once = r.once;
  from = r.from;
  grown = covers-through all (met ++ ahead) (met ++ d ∷ ahead) r.grown (skip-covers met ahead d s);
  further = r.further;
}

-- another is met, and what it names is ahead
meet-covers : (met named ahead : List Domain) (d : Domain) → Covers ((met ++ d ∷ []) ++ (named ++ ahead)) (met ++ d ∷ ahead)
meet-covers met named ahead d =
    let front = stands-front (met ++ d ∷ []) (named ++ ahead) in
    let back = stands-back (met ++ d ∷ []) (named ++ ahead) in
    covers-both ((met ++ d ∷ []) ++ (named ++ ahead)) met (d ∷ ahead) (λ o n h. front o n (stands-front met (d ∷ []) o n h))
    (covers-more ((met ++ d ∷ []) ++ (named ++ ahead)) d ahead (front d.owner d.name (stands-back met (d ∷ []) d.owner d.name (stands-first d [])))
    (λ o n h. back o n (stands-back named ahead o n h)))

meet : (visits : ℕ) (table met ahead : List Domain) (d : Domain) → stands_in met d.owner d.name ≡ false → IsUnderway (suc visits) table met (d ∷ ahead) →
    IsUnderway visits table (met ++ d ∷ []) (named_in_option table d.shape ++ ahead)
meet visits table met ahead d s u = record {
  enough =
      let new = unmet-new table met table d s in
      let old : length_of_domains (named_in_option table (domain_in table d.owner d.name)) ≡ length_of_domains (named_in_option table d.shape) = let e = sym u.ahead_from.0 in rw e refl in
      omega (arith, u.enough, new, old, length-both (named_in_option table d.shape) ahead);
  once = once-more met d u.once s;
  met_from = from-both table met (d ∷ []) u.met_from (u.ahead_from.0, tt);
  ahead_from = from-both table (named_in_option table d.shape) ahead (option-from table d.shape) u.ahead_from.1;
  named =
      let all = (met ++ d ∷ []) ++ (named_in_option table d.shape ++ ahead) in
      named-both table all met (d ∷ []) (named-among table (met ++ d ∷ ahead) all met (meet-covers met (named_in_option table d.shape) ahead d) u.named)
      ((λ o n h. stands-back (met ++ d ∷ []) (named_in_option table d.shape ++ ahead) o n (stands-front (named_in_option table d.shape) ahead o n h)), tt);
}

met-done : (table met ahead all left : List Domain) (d : Domain) → IsDone table (met ++ d ∷ []) (named_in_option table d.shape ++ ahead) all left → IsDone table met (d ∷ ahead) all left
met-done table met ahead all left d r = record {
  ended = r.ended;
  once = r.once;
  from = r.from;
  grown = covers-through all ((met ++ d ∷ []) ++ (named_in_option table d.shape ++ ahead)) (met ++ d ∷ ahead) r.grown (meet-covers met (named_in_option table d.shape) ahead d);
  further = r.further;
}

-- from there to the end
pub walked : (visits : ℕ) (table met ahead : List Domain) → IsUnderway visits table met ahead → IsDone table met ahead (walk visits table met ahead) (left_ahead visits table met ahead)
walked zero table met [] u = done-at-end zero table met u
walked zero table met (d ∷ ahead) u = absurd (omega (arith, u.enough))
walked (suc visits) table met [] u = done-at-end (suc visits) table met u
walked (suc visits) table met (d ∷ ahead) u =
    by (walked visits table met ahead) (walked visits table (met ++ d ∷ []) (named_in_option table d.shape ++ ahead)) (stands_in met d.owner d.name) refl where
      by : (IsUnderway visits table met ahead → IsDone table met ahead (walk visits table met ahead) (left_ahead visits table met ahead)) →
          (IsUnderway visits table (met ++ d ∷ []) (named_in_option table d.shape ++ ahead) → IsDone table (met ++ d ∷ []) (named_in_option table d.shape ++ ahead)
          (walk visits table (met ++ d ∷ []) (named_in_option table d.shape ++ ahead)) (left_ahead visits table (met ++ d ∷ []) (named_in_option table d.shape ++ ahead))) →
          (b : Bool) → stands_in met d.owner d.name ≡ b →
          IsDone table met (d ∷ ahead) (elim b [ true ↦ walk visits table met ahead | false ↦ walk visits table (met ++ d ∷ []) (named_in_option table d.shape ++ ahead) ])
          (elim b [ true ↦ left_ahead visits table met ahead | false ↦ left_ahead visits table (met ++ d ∷ []) (named_in_option table d.shape ++ ahead) ])
      by old new true e = skipped table met ahead _ _ d e (old (skip visits table met ahead d e u))
      by old new false e = met-done table met ahead _ _ d (new (meet visits table met ahead d e u))

-- ---- from a shape

start : (table : List Domain) (t : Shape) → IsUnderway (length_of_domains (named_in table t) + count_named table table) table [] (named_in table t)
start table t = record {
  enough = omega (arith, unmet-none table table);
  once = tt;
  met_from = tt;
  ahead_from = named-from table t;
  named = tt;
}

all-reached : (table : List Domain) (t : Shape) → IsReached table t (reached table t)
unfolding reached
all-reached table t =
    let r = walked (length_of_domains (named_in table t) + count_named table table) table [] (named_in table t) (start table t) in
    record { once = r.once; from = r.from; first = r.grown; further = r.further }

-- a walk stays among domains that have with each what it names
walk-within : (visits : ℕ) (table met ahead ds : List Domain) → ((o : Owner) (n : List ℕ) → stands_in ds o n ≡ true → Covers ds (named_in_option table (domain_in table o n))) →
    AllFrom table ahead → Covers ds met → Covers ds ahead → Covers ds (walk visits table met ahead)
walk-within zero table met ahead ds h f c k = c
walk-within (suc visits) table met [] ds h f c k = c
walk-within (suc visits) table met (d ∷ ahead) ds h f c k =
    by (walk-within visits table met ahead ds h f.1 c behind)
    (walk-within visits table (met ++ d ∷ []) (named_in_option table d.shape ++ ahead) ds h (from-both table (named_in_option table d.shape) ahead (option-from table d.shape) f.1)
    (covers-both ds met (d ∷ []) c (covers-more ds d [] here (λ o n e. absurd (true≢false (sym e))))) (covers-both ds (named_in_option table d.shape) ahead named behind))
    (stands_in met d.owner d.name) where
      here : stands_in ds d.owner d.name ≡ true
      here = k d.owner d.name (stands-first d ahead)

      behind : Covers ds ahead
      behind o n e = k o n (stands-back (d ∷ []) ahead o n e)

      named : Covers ds (named_in_option table d.shape)
      named = let e : d.shape ≡ domain_in table d.owner d.name = f.0 in rw e (h d.owner d.name here)

      by : Covers ds (walk visits table met ahead) → Covers ds (walk visits table (met ++ d ∷ []) (named_in_option table d.shape ++ ahead)) → (b : Bool) →
          Covers ds (elim b [ true ↦ walk visits table met ahead | false ↦ walk visits table (met ++ d ∷ []) (named_in_option table d.shape ++ ahead) ])
      by old new true = old
      by old new false = new

least-reached : (table : List Domain) (t : Shape) (ds : List Domain) → Covers ds (named_in table t) →
    ((o : Owner) (n : List ℕ) → stands_in ds o n ≡ true → Covers ds (named_in_option table (domain_in table o n))) → Covers ds (reached table t)
unfolding reached
least-reached table t ds c h =
    walk-within (length_of_domains (named_in table t) + count_named table table) table [] (named_in table t) ds h (named-from table t) (λ o n e. absurd (true≢false (sym e))) c

-- this holds
pub reached-law : ReachedLaw
reached-law = record {
  ends = λ table t. (walked (length_of_domains (named_in table t) + count_named table table) table [] (named_in table t) (start table t)).ended;
  all = all-reached;
  least = least-reached;
  same = λ table t o n s. from-at table (reached table t) o n (all-reached table t).from s;
}
