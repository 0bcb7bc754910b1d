-- The notes before the symbols of a tree are those that its nodes bear.
use Rattle.std.proofs.Common.{◌≡◌, ℕ, zero, suc, ◌+◌, true, false, ◌||◌, ◌&&◌, not, inl, inr, List, [], ◌∷◌, ◌++◌, Option, Some, None, map, length, take, drop, refl, ap, sym, subst, ◌∙◌, append-nil, arith}
use Rattle.std.specs.List.{list_all}
use Rattle.std.proofs.Math.Seq.{drop-append_seam}
use Rattle.std.proofs.lemmas.List.{take_at, length-append}
use Rattle.std.proofs.lemmas.Bool.{and_parts, cases_Bool, false≢true, or_left, or_right}
use Rattle.pc_syntax.specs.declared.kind.Kind.{Kind}
use Rattle.pc_syntax.specs.declared.item.Item.{Item}
use Rattle.pc_syntax.specs.declared.item.Item.TheVariants.{Literal, Word, Kid}
use Rattle.pc_syntax.specs.Plain.{Forest, Nil, Cons, Plain, count, kinds}
use Rattle.pc_syntax.specs.Layout.{layout}
use Rattle.pc_syntax.specs.Symbols.{Sym, fill, fill_some, texts}
use Rattle.pc_syntax.specs.Sorts.{bears_notes}
use Rattle.pc_syntax.specs.Slots.{is_list}
use Rattle.pc_syntax.specs.Words.{is_comment}
use Rattle.pc_syntax.specs.Classes.{has}
use Rattle.pc_syntax.specs.WellFormed.{fits, fits_some, takes_notes, WellFormed, IsWellFormed}
use Rattle.pc_layout.specs.Noted.{Notes, first_notes, keeps_notes, own_notes, portions, portions_some, noted, HasNotes, notes_in, notes_of}
use Rattle.pc_pretty.specs.Notes.{headed, fill_notes, fill_some_notes, forest_notes, tree_notes}
use Rattle.pc_pretty.proofs.Headed.{has_symbols, headed-append, headed-none}
use Rattle.pc_pretty.proofs.Calm.{is_calm, first_calm, calm_bears_none, calm_kid, begins_calm}

-- how many there are
abbrev pub total : List Notes → ℕ
total [] = 0
total (n ∷ ns) = length n + total ns

-- the notes before the symbols of a node with these items
abbrev node_notes : Option (List Item) → Notes → Forest → List Notes
node_notes o ns ks = headed ns (fill_some_notes o (forest_notes ks))

-- other notes before the first symbol are none of this node's or its kids'
record Free (k : Kind) (o : Option (List Item)) (w : List ℕ) (ns : Notes) (ks : Forest) (ms : Notes) : Type 0 where
  own : own_notes k (count ks) (headed ms (node_notes o ns ks)) ≡ ns
  kids : noted ks (portions_some o (map length (texts ks)) (headed ms (node_notes o ns ks))) ≡ ks

-- so it is with a calm node, before whose first symbol none stand
record Calm (k : Kind) (o : Option (List Item)) (w : List ℕ) (ns : Notes) (ks : Forest) : Type 0 where
  rest : List Notes
  first : node_notes o ns ks ≡ [] ∷ rest
  free : (ms : Notes) → Free k o w ns ks ms

-- a node with these items has the notes before its symbols, and no more
record HasOwn (k : Kind) (o : Option (List Item)) (w : List ℕ) (ns : Notes) (ks : Forest) : Type 0 where
  size : length (node_notes o ns ks) ≡ length (fill_some o w (texts ks))
  number : total (node_notes o ns ks) ≡ length ns + notes_in ks
  own : own_notes k (count ks) (node_notes o ns ks) ≡ ns
  kids : noted ks (portions_some o (map length (texts ks)) (node_notes o ns ks)) ≡ ks
  calm : is_calm k ≡ true → Calm k o w ns ks

abbrev AllOwn : Forest → Type 0
AllOwn Nil = Unit {0}
AllOwn (Cons k w ns ks ts) = HasOwn k (layout k w (count ks)) w ns ks × AllOwn ts

length-headed : (ns : Notes) (ms : List Notes) → length (headed ns ms) ≡ length ms
length-headed ns [] = refl
length-headed ns (m ∷ ms) = refl

total-append : (ms ls : List Notes) → total (ms ++ ls) ≡ total ms + total ls
total-append [] ls = omega arith
total-append (m ∷ ms) ls = omega (arith, total-append ms ls)

-- the kids' notes are as many as their symbols, and are told apart again
fill_size : (is : List Item) (w : List ℕ) (ts : Forest) → AllOwn ts → length (fill_notes is (forest_notes ts)) ≡ length (fill is w (texts ts))
fill_size [] w ts h = refl
fill_size (Literal x ∷ is) w ts h = ap suc (fill_size is w ts h)
fill_size (Word x ∷ is) w ts h = ap suc (fill_size is w ts h)
fill_size (Kid c ∷ is) w Nil h = refl
fill_size (Kid c ∷ is) w (Cons k v ns ks ts) h =
    let t : List Notes = node_notes (layout k v (count ks)) ns ks in
    let own : List Sym = fill_some (layout k v (count ks)) v (texts ks) in
    omega (arith, length-append t (fill_notes is (forest_notes ts)), length-append own (fill is w (texts ts)), h.0.size, fill_size is w ts h.1)

fill_total : (is : List Item) (ts : Forest) → fits is (kinds ts) ≡ true → AllOwn ts → total (fill_notes is (forest_notes ts)) ≡ notes_in ts
unfolding notes_in
fill_total [] Nil f h = refl
fill_total [] (Cons k v ns ks ts) f h = cc
fill_total (Literal x ∷ is) ts f h = omega (arith, fill_total is ts f h)
fill_total (Word x ∷ is) ts f h = omega (arith, fill_total is ts f h)
fill_total (Kid c ∷ is) Nil f h = cc
fill_total (Kid c ∷ is) (Cons k v ns ks ts) f h =
    let both : (has c k ≡ true) × (fits is (kinds ts) ≡ true) = and_parts _ _ f in
    omega (arith, total-append (node_notes (layout k v (count ks)) ns ks) (fill_notes is (forest_notes ts)), h.0.number, fill_total is ts both.1 h.1)

portions-fill : (is : List Item) (ts : Forest) → fits is (kinds ts) ≡ true → AllOwn ts → portions is (map length (texts ts)) (fill_notes is (forest_notes ts)) ≡ forest_notes ts
portions-fill [] Nil f h = refl
portions-fill [] (Cons k v ns ks ts) f h = cc
portions-fill (Literal x ∷ is) ts f h = portions-fill is ts f h
portions-fill (Word x ∷ is) ts f h = portions-fill is ts f h
portions-fill (Kid c ∷ is) Nil f h = cc
portions-fill (Kid c ∷ is) (Cons k v ns ks ts) f h =
    let both : (has c k ≡ true) × (fits is (kinds ts) ≡ true) = and_parts _ _ f in
    let t : List Notes = node_notes (layout k v (count ks)) ns ks in
    let r : List Notes = fill_notes is (forest_notes ts) in
    ap (λ l. take l (t ++ r) ∷ portions is (map length (texts ts)) (drop l (t ++ r))) (sym h.0.size)
    ∙ ap (λ u. u ∷ portions is (map length (texts ts)) (drop (length t) (t ++ r))) (take_at t r (length t) refl)
    ∙ ap (λ u. t ∷ portions is (map length (texts ts)) u) (drop-append_seam t r)
    ∙ ap (λ u. t ∷ u) (portions-fill is ts both.1 h.1)

-- so each kid has its own
noted-own : (ts : Forest) → AllOwn ts → noted ts (forest_notes ts) ≡ ts
noted-own Nil h = refl
noted-own (Cons k w ns ks ts) h = λ i. Cons k w (h.0.own i) (h.0.kids i) (noted-own ts h.1 i)

noted-fill : (is : List Item) (ts : Forest) → fits is (kinds ts) ≡ true → AllOwn ts → noted ts (portions is (map length (texts ts)) (fill_notes is (forest_notes ts))) ≡ ts
noted-fill is ts f h = ap (noted ts) (portions-fill is ts f h) ∙ noted-own ts h

-- items that begin calmly: before the first symbol stand no notes of kids, and others there are none of theirs
record Begins (is : List Item) (ts : Forest) : Type 0 where
  rest : List Notes
  first : fill_notes is (forest_notes ts) ≡ [] ∷ rest
  free : (ms : Notes) → noted ts (portions is (map length (texts ts)) (headed ms (fill_notes is (forest_notes ts)))) ≡ ts

begins : (is : List Item) (ts : Forest) → first_calm is ≡ true → fits is (kinds ts) ≡ true → AllOwn ts → Begins is ts
begins [] ts c f h = cc
begins (Literal x ∷ is) ts c f h = record { rest = fill_notes is (forest_notes ts); first = refl; free = λ ms. noted-fill is ts f h }
begins (Word x ∷ is) ts c f h = record { rest = fill_notes is (forest_notes ts); first = refl; free = λ ms. noted-fill is ts f h }
begins (Kid cl ∷ is) Nil c f h = cc
begins (Kid cl ∷ is) (Cons k v ns ks ts) c f h =
    let both : (has cl k ≡ true) × (fits is (kinds ts) ≡ true) = and_parts _ _ f in
    let calm : Calm k (layout k v (count ks)) v ns ks = h.0.calm (calm_kid cl k c both.0) in
    let t : List Notes = node_notes (layout k v (count ks)) ns ks in
    let r : List Notes = fill_notes is (forest_notes ts) in
    record {
      rest = calm.rest ++ r;
      first = ap (λ u. u ++ r) calm.first;
      free = λ ms.
          let u : List Notes = headed ms t in
          let some : headed ms (t ++ r) ≡ u ++ r = headed-append ms t r (ap has_symbols calm.first) in
          let size : length (fill_some (layout k v (count ks)) v (texts ks)) ≡ length u = sym h.0.size ∙ sym (length-headed ms t) in
          let shares : portions (Kid cl ∷ is) (map length (texts (Cons k v ns ks ts))) (headed ms (t ++ r)) ≡ u ∷ portions is (map length (texts ts)) r =
          ap (portions (Kid cl ∷ is) (map length (texts (Cons k v ns ks ts)))) some
          ∙ ap (λ l. take l (u ++ r) ∷ portions is (map length (texts ts)) (drop l (u ++ r))) size
          ∙ ap (λ x. x ∷ portions is (map length (texts ts)) (drop (length u) (u ++ r))) (take_at u r (length u) refl)
          ∙ ap (λ x. u ∷ portions is (map length (texts ts)) x) (drop-append_seam u r) in
          let own : Free k (layout k v (count ks)) v ns ks ms = calm.free ms in
          ap (noted (Cons k v ns ks ts)) shares ∙ (λ i. Cons k v (own.own i) (own.kids i) (noted-fill is ts both.1 h.1 i));
    }

-- which nodes keep notes
keeps_some : (k : Kind) (n : ℕ) (c : List ℕ) (cs : Notes) → takes_notes k n (c ∷ cs) ≡ true → keeps_notes k n ≡ true
keeps_some k zero c cs h = (and_parts (bears_notes k && not (is_list k)) (list_all is_comment (c ∷ cs)) h).0
keeps_some k (suc n) c cs h = (and_parts (bears_notes k) (list_all is_comment (c ∷ cs)) h).0

calm_keeps_none : (k : Kind) (n : ℕ) → is_calm k ≡ true → keeps_notes k n ≡ false
calm_keeps_none k zero h = rw (calm_bears_none k h) refl
calm_keeps_none k (suc n) h = calm_bears_none k h

own_none : (k : Kind) (n : ℕ) (ms : List Notes) → keeps_notes k n ≡ false → own_notes k n ms ≡ []
own_none k n ms h = rw h refl

own_some : (k : Kind) (n : ℕ) (ms : List Notes) → keeps_notes k n ≡ true → own_notes k n ms ≡ first_notes ms
own_some k n ms h = rw h refl

-- a node whose kids have theirs
module _ (k : Kind) (w : List ℕ) (ks : Forest) (is : List Item) (e : layout k w (count ks) ≡ Some is) (f : fits is (kinds ks) ≡ true) (h : AllOwn ks) where
  calmly : (keeps_notes k (count ks) || is_calm k) ≡ true → Begins is ks
  calmly b = begins is ks (rw e at (begins_calm k w (count ks) b)) f h

  bare_own : own_notes k (count ks) (fill_notes is (forest_notes ks)) ≡ []
  bare_own = elim (cases_Bool (keeps_notes k (count ks))) [
    | inl b ↦ own_some k (count ks) (fill_notes is (forest_notes ks)) b ∙ ap first_notes (calmly (or_left (keeps_notes k (count ks)) (is_calm k) b)).first
    | inr b ↦ own_none k (count ks) (fill_notes is (forest_notes ks)) b
  ]

  bare_calm : is_calm k ≡ true → Calm k (Some is) w [] ks
  bare_calm b =
      let start : Begins is ks = calmly (or_right (keeps_notes k (count ks)) (is_calm k) b) in
      record {
        rest = start.rest;
        first = headed-none (fill_notes is (forest_notes ks)) ∙ start.first;
        free = λ ms. record {
          own = own_none k (count ks) (headed ms (headed [] (fill_notes is (forest_notes ks)))) (calm_keeps_none k (count ks) b);
          kids = ap (λ u. noted ks (portions is (map length (texts ks)) (headed ms u))) (headed-none (fill_notes is (forest_notes ks))) ∙ start.free ms;
        };
      }

  bare_has : HasOwn k (Some is) w [] ks
  bare_has =
      let none : headed [] (fill_notes is (forest_notes ks)) ≡ fill_notes is (forest_notes ks) = headed-none (fill_notes is (forest_notes ks)) in
      record {
        size = ap length none ∙ fill_size is w ks h;
        number = omega (arith, ap total none, fill_total is ks f h);
        own = ap (own_notes k (count ks)) none ∙ bare_own;
        kids = ap (λ u. noted ks (portions is (map length (texts ks)) u)) none ∙ noted-fill is ks f h;
        calm = bare_calm;
      }

  headed_has : (c : List ℕ) (cs : Notes) → takes_notes k (count ks) (c ∷ cs) ≡ true → HasOwn k (Some is) w (c ∷ cs) ks
  headed_has c cs t =
      let keeps : keeps_notes k (count ks) ≡ true = keeps_some k (count ks) c cs t in
      let start : Begins is ks = calmly (or_left (keeps_notes k (count ks)) (is_calm k) keeps) in
      let all : headed (c ∷ cs) (fill_notes is (forest_notes ks)) ≡ ((c ∷ cs) ++ []) ∷ start.rest = ap (headed (c ∷ cs)) start.first in
      let tail : total (fill_notes is (forest_notes ks)) ≡ total start.rest = ap total start.first ∙ omega arith in
      let own : length ((c ∷ cs) ++ []) ≡ length (c ∷ cs) = ap length (append-nil (c ∷ cs)) in
      record {
        size = length-headed (c ∷ cs) (fill_notes is (forest_notes ks)) ∙ fill_size is w ks h;
        number = omega (arith, ap total all, own, tail, fill_total is ks f h);
        own = own_some k (count ks) (headed (c ∷ cs) (fill_notes is (forest_notes ks))) keeps ∙ ap first_notes all ∙ append-nil (c ∷ cs);
        kids = start.free (c ∷ cs);
        calm = λ b. absurd (false≢true (sym (calm_keeps_none k (count ks) b) ∙ keeps));
      }

  has_own : (ns : Notes) → takes_notes k (count ks) ns ≡ true → HasOwn k (Some is) w ns ks
  has_own [] t = bare_has
  has_own (c ∷ cs) t = headed_has c cs t

laid : (o : Option (List Item)) (ks : List Kind) → fits_some o ks ≡ true → (items : List Item) × (o ≡ Some items) × (fits items ks ≡ true)
laid None ks h = absurd (false≢true h)
laid (Some items) ks h = (items, refl, h)

all_own : (ts : Forest) → WellFormed ts → AllOwn ts
all_own Nil h = tt
all_own (Cons k w ns ks ts) h =
    let row : (items : List Item) × (layout k w (count ks) ≡ Some items) × (fits items (kinds ks) ≡ true) = laid (layout k w (count ks)) (kinds ks) h.0 in
    let P : Option (List Item) → Type 0 = λ o. HasOwn k o w ns ks in
    (subst P (sym row.1) (has_own k w ks row.0 row.1 row.2 (all_own ks h.3) ns h.1), all_own ts h.4)

-- the notes of a tree
pub has_tree_notes : (t : Plain) → IsWellFormed t → HasNotes t (tree_notes t)
has_tree_notes t h =
    let own : HasOwn t.kind (layout t.kind t.word (count t.kids)) t.word t.notes t.kids = (all_own (Cons t.kind t.word t.notes t.kids Nil) h).0 in
    λ i. record { kind = t.kind; word = t.word; notes = sym own.own i; kids = sym own.kids i }

-- and how many there are
pub total-tree_notes : (t : Plain) → IsWellFormed t → total (tree_notes t) ≡ notes_of t
total-tree_notes t h = (all_own (Cons t.kind t.word t.notes t.kids Nil) h).0.number
