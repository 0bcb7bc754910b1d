-- A plain tree without one of its nodes.
use Rattle.std.proofs.Common.{◌≡◌, ℕ, zero, suc, ◌+◌, ◌-◌, ◌<◌, ◌≤◌, Bool, true, false, ◌&&◌, ◌==◌, not, nat_le, nat_lt, if◌then◌else◌, Option, Some, None, List, [], ◌∷◌, length, get_or, map, sum_by, remove, refl, sym, ap, ◌∙◌, arith, inl, inr}
use Rattle.std.specs.Option.{option_map_or, option_and_then, IsSome}
use Rattle.std.proofs.Math.ListN.{set}
use Rattle.std.proofs.lemmas.Bool.{and_parts, and_from, leb-true, leb-false, le-leb, ltb-true}
use Rattle.std.proofs.lemmas.Bool.Decides.{eqb_tells}
use Rattle.std.proofs.lemmas.List.{set-get_or, get_or-map}
use Rattle.std.proofs.lemmas.List.Edits.{length-remove}
use Rattle.std.proofs.lemmas.List.Sums.{sum_by-remove, sum_by-cons}
use Rattle.pc_syntax.specs.declared.kind.Kind.{Kind}
use Rattle.pc_syntax.specs.declared.kind.Kind.TheVariants.{If, Ifelse, While, For, With, Names, Labels, Indexes, Exprs, Accesses, Fields, Stmts, Arms, Forward, Cnumber, Cstring, Csign, Number, Text, Mul, Add, Sign, Rel, Name}
use Rattle.pc_syntax.specs.declared.sort.Sort.{Sort}
use Rattle.pc_syntax.specs.declared.class.Class.{Class}
use Rattle.pc_syntax.specs.declared.class.Class.TheVariants as class
use Rattle.pc_syntax.specs.Plain.{Plain, forest_of, node, kids_of}
use Rattle.pc_syntax.specs.Slots.{is_list, least_of, class_from}
use Rattle.pc_syntax.specs.Classes.{has, is_names, is_labels, is_indexes, is_exprs, is_accesses, is_fields, is_stmts, is_arms}
use Rattle.pc_syntax.specs.WellFormed.{size_of, depth_of, takes_notes, opens, last_open, breaks_else_rule, WellFormed, IsWellFormed, IsProper}
use Rattle.pc_syntax.specs.Parts.{largest, is_open, kid_at}
use Rattle.pc_syntax.specs.PartsLaws.{node-parts, kind-node, is_open-node, size_of-node, depth_of-node, size_of-kids, depth_of-kids}
use Rattle.pc_syntax.specs.Fits.{word_fits, takes_count, takes, takes_from, kinds_of, node_fits}
use Rattle.pc_syntax.specs.SoundLaws.{fits-sound}
use Rattle.pc_syntax.specs.Opening.{breaks_else_rule_at}
use Rattle.pc_syntax.specs.Blanks.{blank_kind, first_hole, blank}
use Rattle.pc_syntax.specs.Places.{at, with_kid}
use Rattle.pc_syntax.specs.Edits.{without_kid, cut_kid, cut}
use Rattle.pc_syntax.proofs.Blanks.{has-blank, sound-blank, closed-blank, size_of-blank, depth_of-blank}
use Rattle.pc_syntax.proofs.Changed.{sound-parts, sound-with_kid, is_open-with_kid, depth_of-with_kid, size_of-with_kid, last_open-set_last, last_open-set_other, breaks_else_rule-set, kid_below, kid_is, sound-kid, stands-kid}

-- q may stand wherever p does, and is no larger
pub record Shrinks (q p : Plain) : Type 0 where
  pub kind : q.kind ≡ p.kind
  pub sound : IsWellFormed q
  pub closed : is_open q ≡ true → is_open p ≡ true
  pub shallow : depth_of q ≤ depth_of p
  pub small : size_of q ≤ size_of p

pub shrinks-proper : (q p : Plain) → Shrinks q p → IsProper p → IsProper q
shrinks-proper q p s h = record { sound = s.sound; shallow = omega (arith, s.shallow, h.shallow); small = omega (arith, s.small, h.small) }

-- the largest of some numbers, one of them made smaller
largest-set_le : (ns : List ℕ) (i x : ℕ) → x ≤ get_or ns i x → largest (set ns i x) ≤ largest ns
largest-set_le [] i x h = omega arith
largest-set_le (n ∷ ns) zero x h = omega arith
largest-set_le (n ∷ ns) (suc i) x h = omega (arith, largest-set_le ns i x h)

opens-more : (k : Kind) (a b : Bool) → (a ≡ true → b ≡ true) → opens k a ≡ true → opens k b ≡ true
opens-more If a b h e = refl
opens-more Ifelse a b h e = h e
opens-more While a b h e = h e
opens-more For a b h e = h e
opens-more With a b h e = h e
opens-more _ a b h e = cc

and_less : (t a b : Bool) → (a ≡ true → b ≡ true) → (t && b) ≡ false → (t && a) ≡ false
and_less false a b h e = refl
and_less true false b h e = refl
and_less true true b h e = let no : true ≡ false = sym (h refl) ∙ e in cc

apart-less : (k : Kind) (i : ℕ) (a b : Bool) → (a ≡ true → b ≡ true) → breaks_else_rule_at k i b ≡ false → breaks_else_rule_at k i a ≡ false
apart-less Ifelse i a b h e = and_less (i == 1) a b h e
apart-less _ i a b h e = refl

-- the tree with a kid made smaller
module _ (p k q : Plain) (i : ℕ) (l : i < length (kids_of p)) (kid : get_or (kids_of p) i k ≡ k) (h : IsWellFormed p) where
  same_kids : set (kids_of p) i k ≡ kids_of p
  same_kids = ap (set (kids_of p) i) (sym kid) ∙ set-get_or (kids_of p) i k

  apart-kid : breaks_else_rule_at p.kind i (is_open k) ≡ false
  apart-kid =
      let s = sound-parts p h in
      sym (breaks_else_rule-set p.kind (kids_of p) i k l s.apart) ∙ rw same_kids s.apart

  last_open-kid : i + 1 ≡ length (kids_of p) → last_open (forest_of (kids_of p)) ≡ is_open k
  last_open-kid e = ap (λ ks. last_open (forest_of ks)) (sym same_kids) ∙ last_open-set_last (kids_of p) i k e

  is_open-kids : is_open p ≡ opens p.kind (last_open (forest_of (kids_of p)))
  is_open-kids = ap is_open (sym (node-parts p)) ∙ is_open-node p.kind p.word p.notes (kids_of p)

  last_open-less : (n : ℕ) → n ≡ length (kids_of p) → (is_open q ≡ true → is_open k ≡ true) → last_open (forest_of (set (kids_of p) i q)) ≡ true → last_open (forest_of (kids_of p)) ≡ true
  last_open-less n count closed e =
      elim (eqb_tells (i + 1) n) [
        | inl t ↦ let last : i + 1 ≡ length (kids_of p) = t.1 ∙ count in
            last_open-kid last ∙ closed (sym (last_open-set_last (kids_of p) i q last) ∙ e)
        | inr t ↦ let other : i + 1 < length (kids_of p) = omega (arith, t.1) in
            sym (last_open-set_other (kids_of p) i q other) ∙ e
      ]

  pub shrinks-with_kid : takes (class_from p.kind i) q.kind ≡ true → IsWellFormed q → (is_open q ≡ true → is_open k ≡ true) → depth_of q ≤ depth_of k → size_of q ≤ size_of k → Shrinks (with_kid p i q) p
  shrinks-with_kid stands sound closed shallow small = record {
    kind = kind-node p.kind p.word p.notes (set (kids_of p) i q);
    sound = sound-with_kid p i q l h stands (apart-less p.kind i (is_open q) (is_open k) closed apart-kid) sound;
    closed = λ e. is_open-kids ∙ opens-more p.kind _ _ (last_open-less (length (kids_of p)) refl closed) (sym (is_open-with_kid p i q l) ∙ e);
    shallow =
        let depth : get_or (map depth_of (kids_of p)) i (depth_of q) ≡ depth_of k = get_or-map depth_of (kids_of p) i k (depth_of q) l ∙ ap depth_of kid in
        omega (arith, depth_of-with_kid p i q l, largest-set_le (map depth_of (kids_of p)) i (depth_of q) (rw depth shallow), depth_of-kids p);
    small = omega (arith, size_of-with_kid p i q l k kid);
  }

-- lists
pub opens-list : (k : Kind) (b : Bool) → is_list k ≡ true → opens k b ≡ false
opens-list If b e = cc
opens-list Ifelse b e = cc
opens-list While b e = cc
opens-list For b e = cc
opens-list With b e = cc
opens-list _ b e = refl

pub apart-list : (k : Kind) (ks : List Plain) → is_list k ≡ true → breaks_else_rule k (forest_of ks) ≡ false
apart-list Ifelse ks e = cc
apart-list _ ks e = refl

wordless-list : (k : Kind) → is_list k ≡ true → word_fits k [] ≡ true
wordless-list Forward e = cc
wordless-list Cnumber e = cc
wordless-list Cstring e = cc
wordless-list Csign e = cc
wordless-list For e = cc
wordless-list Number e = cc
wordless-list Text e = cc
wordless-list Mul e = cc
wordless-list Add e = cc
wordless-list Sign e = cc
wordless-list Rel e = cc
wordless-list Name e = cc
wordless-list _ e = refl

module _ (k : Kind) (list : is_list k ≡ true) where
  pub shift : (n : ℕ) (ks : List Plain) → takes_from k (suc n) (kinds_of ks) ≡ takes_from k n (kinds_of ks)
  shift n [] = refl
  shift n (p ∷ ps) =
      let e : class_from k (suc n) ≡ class_from k n = rw list refl in
      rw (e, shift (suc n) ps) refl

  takes_from-remove : (n : ℕ) (ks : List Plain) (i : ℕ) → takes_from k n (kinds_of ks) ≡ true → takes_from k n (kinds_of (remove ks i)) ≡ true
  takes_from-remove n [] zero h = refl
  takes_from-remove n [] (suc i) h = refl
  takes_from-remove n (p ∷ ps) zero h =
      let parts = and_parts (takes (class_from k n) p.kind) _ h in
      sym (shift n ps) ∙ parts.1
  takes_from-remove n (p ∷ ps) (suc i) h =
      let parts = and_parts (takes (class_from k n) p.kind) _ h in
      and_from _ _ parts.0 (takes_from-remove (suc n) ps i parts.1)

WellFormed-remove : (ks : List Plain) (i : ℕ) → WellFormed (forest_of ks) → WellFormed (forest_of (remove ks i))
WellFormed-remove [] zero h = h
WellFormed-remove [] (suc i) h = h
WellFormed-remove (k ∷ ks) zero h = h.4
WellFormed-remove (k ∷ ks) (suc i) h = (h.0, h.1, h.2, h.3, WellFormed-remove ks i h.4)

pub takes_notes-fewer : (k : Kind) (m n : ℕ) (ns : List (List ℕ)) → 1 ≤ m → 1 ≤ n → takes_notes k n ns ≡ true → takes_notes k m ns ≡ true
takes_notes-fewer k m n [] a b h = refl
takes_notes-fewer k zero n (c ∷ cs) a b h = absurd (omega arith)
takes_notes-fewer k (suc m) zero (c ∷ cs) a b h = absurd (omega arith)
takes_notes-fewer k (suc m) (suc n) (c ∷ cs) a b h = h

largest-remove : (ks : List Plain) (i : ℕ) → largest (map depth_of (remove ks i)) ≤ largest (map depth_of ks)
largest-remove [] zero = omega arith
largest-remove [] (suc i) = omega arith
largest-remove (k ∷ ks) zero = omega arith
largest-remove (k ∷ ks) (suc i) = omega (arith, largest-remove ks i)

-- a list without an element that it can spare
module _ (p : Plain) (i : ℕ) (l : i < length (kids_of p)) (list : is_list p.kind ≡ true) (spare : least_of p.kind < length (kids_of p)) (h : IsWellFormed p) where
  counts : (n : ℕ) → least_of p.kind ≤ n → takes_count p.kind n ≡ true
  counts n least = rw list (le-leb _ _ least)

  shrinks-emptied : length (kids_of p) ≤ 1 → Shrinks (node p.kind [] [] []) p
  unfolding node_fits
  shrinks-emptied few = record {
    kind = kind-node p.kind [] [] [];
    sound = fits-sound p.kind [] [] [] (and_from _ _ (wordless-list p.kind list) (and_from _ _ (counts 0 (omega (arith, spare, few))) (and_from _ _ refl (and_from _ _ refl (ap not (apart-list p.kind [] list)))))) tt;
    closed = λ e. let no : true ≡ false = sym e ∙ is_open-node p.kind [] [] [] ∙ opens-list p.kind _ list in cc;
    shallow = omega (arith, depth_of-node p.kind [] [] [], depth_of-kids p);
    small = omega (arith, size_of-node p.kind [] [] [], size_of-kids p);
  }

  shrinks-remove : 1 < length (kids_of p) → Shrinks (node p.kind p.word p.notes (remove (kids_of p) i)) p
  unfolding node_fits
  shrinks-remove many =
      let s = sound-parts p h in
      let ks : List Plain = remove (kids_of p) i in
      let fewer : length ks + 1 ≡ length (kids_of p) = length-remove (kids_of p) i l in
      let first : Plain = p in
      let size : sum_by size_of ks + size_of (get_or (kids_of p) i first) ≡ sum_by size_of (kids_of p) = sum_by-remove size_of (kids_of p) i first l in
      record {
        kind = kind-node p.kind p.word p.notes ks;
        sound = fits-sound p.kind p.word p.notes ks
            (and_from _ _ s.word (and_from _ _ (counts (length ks) (omega (arith, spare, fewer))) (and_from _ _ (takes_from-remove p.kind list 0 (kids_of p) i s.places)
            (and_from _ _ (takes_notes-fewer p.kind (length ks) (length (kids_of p)) p.notes (omega (arith, fewer, many)) (omega (arith, many)) s.notes) (ap not (apart-list p.kind ks list))))))
            (WellFormed-remove (kids_of p) i s.kids);
        closed = λ e. let no : true ≡ false = sym e ∙ is_open-node p.kind p.word p.notes ks ∙ opens-list p.kind _ list in cc;
        shallow = omega (arith, depth_of-node p.kind p.word p.notes ks, depth_of-kids p, largest-remove (kids_of p) i);
        small = omega (arith, size_of-node p.kind p.word p.notes ks, size_of-kids p, size);
      }

  by_count : (b : Bool) → nat_le (length (kids_of p)) 1 ≡ b → Shrinks (if b then node p.kind [] [] [] else node p.kind p.word p.notes (remove (kids_of p) i)) p
  by_count true e = shrinks-emptied (leb-true _ _ e)
  by_count false e = shrinks-remove (leb-false _ _ e)

  pub shrinks-without_kid : Shrinks (without_kid p i) p
  shrinks-without_kid = by_count (nat_le (length (kids_of p)) 1) refl

-- a list that may not be empty has a kid
counted : (k : Kind) (n : ℕ) → 1 ≤ least_of k → is_list k ≡ true → takes_count k n ≡ true → 1 ≤ n
counted k n least list count = let e : nat_le (least_of k) n ≡ true = rw list at count in omega (arith, leb-true _ _ e)

some_names : (k : Kind) (n : ℕ) → is_names k ≡ true → takes_count k n ≡ true → 1 ≤ n
some_names Names n e count = counted Names n (omega arith) refl count
some_names _ n e count = cc

some_labels : (k : Kind) (n : ℕ) → is_labels k ≡ true → takes_count k n ≡ true → 1 ≤ n
some_labels Labels n e count = counted Labels n (omega arith) refl count
some_labels _ n e count = cc

some_indexes : (k : Kind) (n : ℕ) → is_indexes k ≡ true → takes_count k n ≡ true → 1 ≤ n
some_indexes Indexes n e count = counted Indexes n (omega arith) refl count
some_indexes _ n e count = cc

some_exprs : (k : Kind) (n : ℕ) → is_exprs k ≡ true → takes_count k n ≡ true → 1 ≤ n
some_exprs Exprs n e count = counted Exprs n (omega arith) refl count
some_exprs _ n e count = cc

some_accesses : (k : Kind) (n : ℕ) → is_accesses k ≡ true → takes_count k n ≡ true → 1 ≤ n
some_accesses Accesses n e count = counted Accesses n (omega arith) refl count
some_accesses _ n e count = cc

some_fields : (k : Kind) (n : ℕ) → is_fields k ≡ true → takes_count k n ≡ true → 1 ≤ n
some_fields Fields n e count = counted Fields n (omega arith) refl count
some_fields _ n e count = cc

some_stmts : (k : Kind) (n : ℕ) → is_stmts k ≡ true → takes_count k n ≡ true → 1 ≤ n
some_stmts Stmts n e count = counted Stmts n (omega arith) refl count
some_stmts _ n e count = cc

some_arms : (k : Kind) (n : ℕ) → is_arms k ≡ true → takes_count k n ≡ true → 1 ≤ n
some_arms Arms n e count = counted Arms n (omega arith) refl count
some_arms _ n e count = cc

some_kid : (c : Class) (k : Kind) (n : ℕ) (s : Sort) → has c k ≡ true → takes_count k n ≡ true → first_hole (blank_kind c) ≡ Some s → 1 ≤ n
some_kid class.Names k n s e count first = some_names k n e count
some_kid class.Labels k n s e count first = some_labels k n e count
some_kid class.Indexes k n s e count first = some_indexes k n e count
some_kid class.Exprs k n s e count first = some_exprs k n e count
some_kid class.Accesses k n s e count first = some_accesses k n e count
some_kid class.Fields k n s e count first = some_fields k n e count
some_kid class.Stmts k n s e count first = some_stmts k n e count
some_kid class.Arms k n s e count first = some_arms k n e count
some_kid _ k n s e count first = cc

length-le-size : (ks : List Plain) → length ks ≤ sum_by size_of ks
length-le-size [] = omega arith
length-le-size (k ∷ ks) = omega (arith, length-le-size ks, sum_by-cons size_of k ks)

some-le-depth : (ks : List Plain) → 1 ≤ length ks → 1 ≤ largest (map depth_of ks)
some-le-depth [] l = absurd (omega arith)
some-le-depth (k ∷ ks) l = omega arith

-- what is written anew is no larger
size-blank_le : (c : Class) (k : Plain) → ((t : Sort) → first_hole (blank_kind c) ≡ Some t → 1 ≤ length (kids_of k)) → size_of (blank c) ≤ size_of k
size-blank_le c k room = omega (arith, size_of-blank c (length (kids_of k)) room, size_of-kids k, length-le-size (kids_of k))

depth-blank_le : (c : Class) (k : Plain) → ((t : Sort) → first_hole (blank_kind c) ≡ Some t → 1 ≤ length (kids_of k)) → depth_of (blank c) ≤ depth_of k
depth-blank_le c k room = by_length (length (kids_of k)) refl
  where
    by_length : (n : ℕ) → length (kids_of k) ≡ n → depth_of (blank c) ≤ depth_of k
    by_length zero e = omega (arith, depth_of-blank c 0 (λ t first. rw e at (room t first)), depth_of-kids k)
    by_length (suc n) e = omega (arith, depth_of-blank c 1 (λ t first. omega arith), depth_of-kids k, some-le-depth (kids_of k) (omega (arith, e)))

-- a kid that is written anew
module _ (p k : Plain) (i : ℕ) (l : i < length (kids_of p)) (kid : get_or (kids_of p) i k ≡ k) (h : IsWellFormed p) where
  shrinks-blank : (o : Option Class) → class_from p.kind i ≡ o → takes o k.kind ≡ true → Shrinks (option_map_or (λ c. with_kid p i (blank c)) o p) p
  shrinks-blank None e stands = cc
  shrinks-blank (Some c) e stands =
      let s = sound-parts k (sound-kid p k i l kid h) in
      let takes_blank : takes (class_from p.kind i) (blank c).kind ≡ true = rw (e, kind-node) (has-blank c) in
      shrinks-with_kid p k (blank c) i l kid h takes_blank (sound-blank c)
      (λ so. let no : true ≡ false = sym so ∙ closed-blank c in cc)
      (depth-blank_le c k (λ t first. some_kid c k.kind (length (kids_of k)) t stands s.count first))
      (size-blank_le c k (λ t first. some_kid c k.kind (length (kids_of k)) t stands s.count first))

  by_spare : (b : Bool) → (is_list p.kind && nat_lt (least_of p.kind) (length (kids_of p))) ≡ b →
      Shrinks (if b then without_kid p i else option_map_or (λ c. with_kid p i (blank c)) (class_from p.kind i) p) p
  by_spare true e = let parts = and_parts (is_list p.kind) _ e in shrinks-without_kid p i l parts.0 (ltb-true _ _ parts.1) h
  by_spare false e = shrinks-blank (class_from p.kind i) refl (stands-kid p k i l kid h)

  pub shrinks-cut_kid : Shrinks (cut_kid p i) p
  shrinks-cut_kid = by_spare (is_list p.kind && nat_lt (least_of p.kind) (length (kids_of p))) refl

-- one step of a path
pub cut-step : (p k : Plain) (i : ℕ) (is : List ℕ) → kid_at p i ≡ Some k → 1 ≤ length is → cut (i ∷ is) p ≡ with_kid p (i - 1) (cut is k)
cut-step p k i [] e l = absurd (omega arith)
cut-step p k i (j ∷ js) e l = rw e refl

-- the tree without a node that isn't its root
pub kid_there : (p : Plain) (i : ℕ) (is : List ℕ) (o : Option Plain) → kid_at p i ≡ o → IsSome (option_and_then (at is) o) → (k : Plain) × (kid_at p i ≡ Some k) × IsSome (at is k)
kid_there p i is None e there = cc
kid_there p i is (Some k) e there = (k, e, there)

pub shrinks-cut : (i : ℕ) (is : List ℕ) (p : Plain) → IsWellFormed p → IsSome (at (i ∷ is) p) → Shrinks (cut (i ∷ is) p) p
shrinks-cut i [] p h there =
    let t = kid_there p i [] (kid_at p i) refl there in
    shrinks-cut_kid p t.0 (i - 1) (kid_below p t.0 i t.1) (kid_is p t.0 i t.1) h
shrinks-cut i (j ∷ js) p h there =
    let t = kid_there p i (j ∷ js) (kid_at p i) refl there in
    let l = kid_below p t.0 i t.1 in
    let kid = kid_is p t.0 i t.1 in
    let s = shrinks-cut j js t.0 (sound-kid p t.0 (i - 1) l kid h) t.2 in
    rw (cut-step p t.0 i (j ∷ js) t.1 (omega arith)) (shrinks-with_kid p t.0 (cut (j ∷ js) t.0) (i - 1) l kid h (rw s.kind (stands-kid p t.0 (i - 1) l kid h)) s.sound s.closed s.shallow s.small)

-- some kid stands at each place
kid_of : (ks : List Plain) (i : ℕ) → i < length ks → (k : Plain) × (get_or ks i k ≡ k)
kid_of [] i l = absurd (omega arith)
kid_of (k ∷ ks) zero l = (k, refl)
kid_of (k ∷ ks) (suc i) l = kid_of ks i (omega arith)

pub proper-written_anew : (p : Plain) (i : ℕ) (c : Class) → i < length (kids_of p) → IsProper p → class_from p.kind i ≡ Some c → IsProper (with_kid p i (blank c))
proper-written_anew p i c l h e =
    let kid = kid_of (kids_of p) i l in
    let stands : takes (Some c) kid.0.kind ≡ true = rw e at (stands-kid p kid.0 i l kid.1 h.sound) in
    shrinks-proper (with_kid p i (blank c)) p (shrinks-blank p kid.0 i l kid.1 h.sound (Some c) e stands) h

pub proper-cut : (p k : Plain) (i : ℕ) (is : List ℕ) → kid_at p i ≡ Some k → 1 ≤ length is → IsSome (at is k) → IsProper p → IsProper (with_kid p (i - 1) (cut is k))
proper-cut p k i [] e l there h = absurd (omega arith)
proper-cut p k i (j ∷ js) e l there h =
    let at_kid : IsSome (at (i ∷ j ∷ js) p) = rw e there in
    rw (cut-step p k i (j ∷ js) e l) at (shrinks-proper (cut (i ∷ j ∷ js) p) p (shrinks-cut i (j ∷ js) p h.sound at_kid) h)
