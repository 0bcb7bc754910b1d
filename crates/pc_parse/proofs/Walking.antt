-- Walking over the items of a node, whose kids get their notes in turn.
use Rattle.std.proofs.Common.{◌≡◌, ℕ, zero, suc, ◌+◌, ◌-◌, ◌<◌, ◌≤◌, true, false, List, [], ◌∷◌, ◌++◌, map, take, drop, length, get_or, unwrap_or, Option, Some, None, refl, ap, sym, ◌∙◌, append_assoc, append-nil, arith, length-drop}
use Rattle.std.specs.Prelude.{IsSome}
use Rattle.std.proofs.lemmas.Bool.{and_parts}
use Rattle.std.proofs.lemmas.List.{drop_more, drop-drop, take_all, drop-take, take_more, drop-append-le, take-take, length-append, length-take-le, length_push, drop_all}
use Rattle.pc_syntax.specs.declared.kind.Kind.{Kind}
use Rattle.pc_syntax.specs.declared.item.Item.{Item}
use Rattle.pc_syntax.specs.declared.item.Item.TheVariants.{Literal, Word, Kid}
use Rattle.pc_syntax.specs.Plain.{Forest, Nil, Cons, Plain, trees_of, forest_of, kids_of, node, count, kinds}
use Rattle.pc_syntax.specs.PartsLaws.{length-kids_of, kids_of-is, node-is, forest_of-trees_of, same-parts}
use Rattle.pc_syntax.specs.Layout.{layout}
use Rattle.pc_syntax.specs.Symbols.{fill, fill_some, texts}
use Rattle.pc_syntax.specs.WellFormed.{fits, fits_some, IsProper}
use Rattle.pc_layout.specs.Noted.{Notes, own_notes, portions, portions_some, noted, noted_tree, notes_in, notes_of}
use Rattle.pc_layout.specs.NotedLaws.{are_comments, comments-drop, comments-take, size_of-noted, depth_of-noted, IsWellFormed-noted}
use Rattle.pc_parse.specs.declared.notes.Placed.{Placed}
use Rattle.pc_parse.specs.Placing.{breadth, placed, kept, is_kid, row, IsPlaced, IsWhole}

abbrev pub kind_of : Plain → Kind
kind_of t = t.kind

-- the kids with their notes, where the symbols of these items have these
abbrev pub given : List Item → List Plain → List Notes → List Plain
given [] ks ns = []
given (Literal x ∷ is) ks ns = given is ks (drop 1 ns)
given (Word x ∷ is) ks ns = given is ks (drop 1 ns)
given (Kid c ∷ is) [] ns = []
given (Kid c ∷ is) (k ∷ ks) ns = noted_tree k (take (breadth k) ns) ∷ given is ks (drop (breadth k) ns)

-- how many symbols the items have
abbrev pub width : List Item → List Plain → ℕ
width [] ks = 0
width (Literal x ∷ is) ks = suc (width is ks)
width (Word x ∷ is) ks = suc (width is ks)
width (Kid c ∷ is) [] = 0
width (Kid c ∷ is) (k ∷ ks) = breadth k + width is ks

pub kinds-is : (ts : Forest) → kinds ts ≡ map kind_of (trees_of ts)
kinds-is Nil = refl
kinds-is (Cons k w ns ks ts) = ap (λ js. k ∷ js) (kinds-is ts)

pub width-fill : (is : List Item) (w : List ℕ) (ts : Forest) → length (fill is w (texts ts)) ≡ width is (trees_of ts)
width-fill [] w ts = refl
width-fill (Literal x ∷ is) w ts = ap suc (width-fill is w ts)
width-fill (Word x ∷ is) w ts = ap suc (width-fill is w ts)
width-fill (Kid c ∷ is) w Nil = refl
width-fill (Kid c ∷ is) w (Cons k v ns ks ts) = length-append (fill_some (layout k v (count ks)) v (texts ks)) (fill is w (texts ts)) ∙ ap (λ n. length (fill_some (layout k v (count ks)) v (texts ks)) + n) (width-fill is w ts)

given-noted : (is : List Item) (ts : Forest) (ns : List Notes) → fits is (kinds ts) ≡ true → trees_of (noted ts (portions is (map length (texts ts)) ns)) ≡ given is (trees_of ts) ns
given-noted [] Nil ns h = refl
given-noted [] (Cons k w ms ks ts) ns h = cc
given-noted (Literal x ∷ is) ts ns h = given-noted is ts (drop 1 ns) h
given-noted (Word x ∷ is) ts ns h = given-noted is ts (drop 1 ns) h
given-noted (Kid c ∷ is) Nil ns h = refl
given-noted (Kid c ∷ is) (Cons k w ms ks ts) ns h =
    let n : ℕ = breadth (record { kind = k; word = w; notes = ms; kids = ks }) in
    ap (λ us. noted_tree (record { kind = k; word = w; notes = ms; kids = ks }) (take n ns) ∷ us) (given-noted is ts (drop n ns) (and_parts _ _ h).1)

-- only the notes of their own symbols matter
given-take : (is : List Item) (ks : List Plain) (ns : List Notes) → given is ks (take (width is ks) ns) ≡ given is ks ns
given-take [] ks ns = refl
given-take (Literal x ∷ is) ks [] = refl
given-take (Literal x ∷ is) ks (n ∷ ns) = given-take is ks ns
given-take (Word x ∷ is) ks [] = refl
given-take (Word x ∷ is) ks (n ∷ ns) = given-take is ks ns
given-take (Kid c ∷ is) [] ns = refl
given-take (Kid c ∷ is) (k ∷ ks) ns =
    let a : take (breadth k) (take (breadth k + width is ks) ns) ≡ take (breadth k) ns = take-take (breadth k) (breadth k + width is ks) ns (omega arith) in
    let b : drop (breadth k) (take (breadth k + width is ks) ns) ≡ take (width is ks) (drop (breadth k) ns) = drop-take (breadth k) (width is ks) ns in
    rw (a, b) (ap (λ us. noted_tree k (take (breadth k) ns) ∷ us) (given-take is ks (drop (breadth k) ns)))

-- what is left of a node's items, at a place of its symbols, and what its kids so far are and bear
pub record Walk (t : Plain) (all : List Notes) (start : ℕ) (items : List Item) (kids : List Plain) (at : ℕ) (made : List Plain) (number below : ℕ) : Type 0 where
  pub kids_are : trees_of (placed t all start).kids ≡ row made (kids_of t) number ++ given items kids (drop at all)
  pub symbols_are : start + breadth t ≡ at + width items kids
  pub fit : fits items (map kind_of kids) ≡ true
  pub few : length made ≤ number
  pub seen : number ≤ length (kids_of t)
  pub count : below ≡ kept (notes_in (forest_of (row made (kids_of t) number)))

some_of_fits : (o : Option (List Item)) (ks : List Kind) → fits_some o ks ≡ true → IsSome o
some_of_fits None ks h = cc
some_of_fits (Some is) ks h = refl

-- a proper node has a layout
pub laid : (t : Plain) → IsProper t → IsSome (layout t.kind t.word (length (kids_of t)))
laid t p = rw (length-kids_of t) (some_of_fits (layout t.kind t.word (count t.kids)) (kinds t.kids) p.sound.0)

-- at first all is left
pub starts : (t : Plain) (all : List Notes) (start : ℕ) (is : List Item) → IsProper t → layout t.kind t.word (length (kids_of t)) ≡ Some is →
    Walk t all start is (kids_of t) start [] 0 0
unfolding notes_in
starts t all start is p e =
    let f : layout t.kind t.word (count t.kids) ≡ Some is = ap (layout t.kind t.word) (sym (length-kids_of t)) ∙ e in
    let g : fits is (kinds t.kids) ≡ true = ap (λ o. fits_some o (kinds t.kids)) (sym f) ∙ p.sound.0 in
    let n : breadth t ≡ width is (trees_of t.kids) = ap (λ o. length (fill_some o t.word (texts t.kids))) f ∙ width-fill is t.word t.kids in
    let notes : List Notes = take (breadth t) (drop start all) in
    let a : trees_of (placed t all start).kids ≡ trees_of (noted t.kids (portions is (map length (texts t.kids)) notes)) = ap (λ o. trees_of (noted t.kids (portions_some o (map length (texts t.kids)) notes))) f in
    let b : trees_of (noted t.kids (portions is (map length (texts t.kids)) notes)) ≡ given is (trees_of t.kids) notes = given-noted is t.kids notes g in
    let c : given is (trees_of t.kids) notes ≡ given is (trees_of t.kids) (drop start all) = ap (λ m. given is (trees_of t.kids) (take m (drop start all))) n ∙ given-take is (trees_of t.kids) (drop start all) in
    rw (kids_of-is t) record {
      kids_are = a ∙ b ∙ c;
      symbols_are = ap (λ m. start + m) n;
      fit = ap (fits is) (sym (kinds-is t.kids)) ∙ g;
      few = omega arith;
      seen = omega arith;
      count = omega arith;
    }

-- one symbol on
pub walk_symbol : (t : Plain) (all : List Notes) (start : ℕ) (x : Item) (items : List Item) (kids : List Plain) (at : ℕ) (made : List Plain) (number below : ℕ) → is_kid x ≡ false →
    Walk t all start (x ∷ items) kids at made number below → Walk t all start items kids (at + 1) made number below
walk_symbol t all start (Literal x) items kids at made number below e h = record {
  kids_are = h.kids_are ∙ ap (λ ns. row made (kids_of t) number ++ given items kids ns) (drop-drop 1 at all);
  symbols_are = omega (arith, h.symbols_are);
  fit = h.fit;
  few = h.few;
  seen = h.seen;
  count = h.count;
}
walk_symbol t all start (Word x) items kids at made number below e h = record {
  kids_are = h.kids_are ∙ ap (λ ns. row made (kids_of t) number ++ given items kids ns) (drop-drop 1 at all);
  symbols_are = omega (arith, h.symbols_are);
  fit = h.fit;
  few = h.few;
  seen = h.seen;
  count = h.count;
}
walk_symbol t all start (Kid c) items kids at made number below e h = cc

notes_in-push : (ts : List Plain) (t : Plain) → notes_in (forest_of (ts ++ t ∷ [])) ≡ notes_in (forest_of ts) + notes_of t
unfolding notes_in
notes_in-push [] t = omega arith
notes_in-push (u ∷ ts) t = omega (arith, notes_in-push ts t)

-- one kid on
module _ (t : Plain) (all : List Notes) (start : ℕ) (items : List Item) (k : Plain) (kids : List Plain) (at : ℕ) (made : List Plain) (number below : ℕ) (made' : List Plain) (p : Placed) where
  pub walk_kid : (x : Item) → is_kid x ≡ true → Walk t all start (x ∷ items) (k ∷ kids) at made number below →
      row made' (kids_of t) (number + 1) ≡ row made (kids_of t) number ++ unwrap_or p.tree k ∷ [] → length made' ≤ number + 1 → number < length (kids_of t) → IsPlaced k all at p →
      Walk t all start items kids p.end made' (number + 1) (kept (below + p.count))
  walk_kid (Literal x) e h r few next is = cc
  walk_kid (Word x) e h r few next is = cc
  walk_kid (Kid c) e h r few next is =
      let u : Plain = placed k all at in
      let row_is : row made' (kids_of t) (number + 1) ≡ row made (kids_of t) number ++ u ∷ [] = r ∙ ap (λ v. row made (kids_of t) number ++ v ∷ []) is.tree in
      let notes : notes_in (forest_of (row made' (kids_of t) (number + 1))) ≡ notes_in (forest_of (row made (kids_of t) number)) + notes_of u = ap (λ vs. notes_in (forest_of vs)) row_is ∙ notes_in-push (row made (kids_of t) number) u in
      record {
        kids_are =
            h.kids_are
            ∙ ap (λ ns. row made (kids_of t) number ++ u ∷ given items kids ns) (drop-drop (breadth k) at all ∙ ap (λ n. drop n all) (sym is.end))
            ∙ sym (append_assoc (row made (kids_of t) number) (u ∷ []) (given items kids (drop p.end all)))
            ∙ ap (λ vs. vs ++ given items kids (drop p.end all)) (sym row_is);
        symbols_are = omega (arith, h.symbols_are, is.end);
        fit = (and_parts _ _ h.fit).1;
        few = few;
        seen = omega (arith, next);
        count = omega (arith, h.count, is.count, notes);
      }

nothing_left : (ks : List Plain) → fits [] (map kind_of ks) ≡ true → ks ≡ []
nothing_left [] h = refl
nothing_left (k ∷ ks) h = cc

-- at last nothing is
pub ends : (t : Plain) (all : List Notes) (start at : ℕ) (items : List Item) (made : List Plain) (number below : ℕ) → items ≡ [] →
    Walk t all start items (drop number (kids_of t)) at made number below → IsWhole t all start made at below
ends t all start at items made number below e w =
    let h : Walk t all start [] (drop number (kids_of t)) at made number below = rw e at w in
    let none : drop number (kids_of t) ≡ [] = nothing_left (drop number (kids_of t)) h.fit in
    let m : length (kids_of t) - number ≡ 0 = sym (length-drop number (kids_of t)) ∙ ap length none in
    let every : take number (kids_of t) ≡ take (length (kids_of t)) (kids_of t) = take_all number (kids_of t) (omega (arith, m)) ∙ sym (take_all (length (kids_of t)) (kids_of t) (omega arith)) in
    let rows : row made (kids_of t) number ≡ row made (kids_of t) (length (kids_of t)) = ap (λ ks. made ++ drop (length made) ks) every in
    let kids : row made (kids_of t) (length (kids_of t)) ≡ trees_of (placed t all start).kids = sym (h.kids_are ∙ append-nil (row made (kids_of t) number) ∙ rows) in
    let forest : forest_of (row made (kids_of t) number) ≡ (placed t all start).kids = ap forest_of (rows ∙ kids) ∙ forest_of-trees_of (placed t all start).kids in
    record {
      few = omega (arith, h.few, h.seen);
      kids = kids;
      end = omega (arith, h.symbols_are);
      count = h.count ∙ ap (λ ts. kept (notes_in ts)) forest;
    }

-- the kid that is next
pub kid_there : (x : Item) (items : List Item) (kids : List Plain) (number : ℕ) → is_kid x ≡ true → fits (x ∷ items) (map kind_of (drop number kids)) ≡ true → number < length kids
kid_there (Literal x) items kids number e h = cc
kid_there (Word x) items kids number e h = cc
kid_there (Kid c) items [] zero e h = cc
kid_there (Kid c) items [] (suc number) e h = cc
kid_there (Kid c) items (t ∷ kids) zero e h = omega arith
kid_there (Kid c) items (t ∷ kids) (suc number) e h = omega (arith, kid_there (Kid c) items kids number e h)

-- its symbols are there
within_kid : (t : Plain) (all : List Notes) (start : ℕ) (x : Item) (items : List Item) (k : Plain) (kids : List Plain) (at : ℕ) (made : List Plain) (number below size : ℕ) → is_kid x ≡ true →
    Walk t all start (x ∷ items) (k ∷ kids) at made number below → start + breadth t ≤ size → at + breadth k ≤ size
within_kid t all start (Literal x) items k kids at made number below size e h l = cc
within_kid t all start (Word x) items k kids at made number below size e h l = cc
within_kid t all start (Kid c) items k kids at made number below size e h l = omega (arith, h.symbols_are)

within_symbol : (t : Plain) (all : List Notes) (start : ℕ) (x : Item) (items : List Item) (kids : List Plain) (at : ℕ) (made : List Plain) (number below size : ℕ) → is_kid x ≡ false →
    Walk t all start (x ∷ items) kids at made number below → start + breadth t ≤ size → at < size
within_symbol t all start (Literal x) items kids at made number below size e h l = omega (arith, h.symbols_are)
within_symbol t all start (Word x) items kids at made number below size e h l = omega (arith, h.symbols_are)
within_symbol t all start (Kid c) items kids at made number below size e h l = cc

-- the walk at the item with a number, where a kid with a number is next
module _ (t : Plain) (all : List Notes) (start : ℕ) (items : List Item) (n : ℕ) (d : Item) (kids : List Plain) (same : kids ≡ kids_of t) (at : ℕ) (made : List Plain) (number below : ℕ)
    (there : n < length items) (h : Walk t all start (drop n items) (drop number kids) at made number below) where
  item : Walk t all start (get_or items n d ∷ drop (n + 1) items) (drop number kids) at made number below
  item = rw (drop_more items n d there) at h

  pub kid_next : true ≡ is_kid (get_or items n d) → number < length kids
  kid_next e = kid_there (get_or items n d) (drop (n + 1) items) kids number (sym e) item.fit

  with_kid : (k : Plain) → number < length kids → k ≡ get_or kids number k → Walk t all start (get_or items n d ∷ drop (n + 1) items) (k ∷ drop (number + 1) kids) at made number below
  with_kid k l e = rw (drop_more kids number k l, ← e) at item

  pub kid_within : (k : Plain) (size : ℕ) → true ≡ is_kid (get_or items n d) → k ≡ get_or kids number k → start + breadth t ≤ size → at + breadth k ≤ size
  kid_within k size e is l = within_kid t all start (get_or items n d) (drop (n + 1) items) k (drop (number + 1) kids) at made number below size (sym e) (with_kid k (kid_next e) is) l

  pub symbol_within : (size : ℕ) → false ≡ is_kid (get_or items n d) → start + breadth t ≤ size → at < size
  symbol_within size e l = within_symbol t all start (get_or items n d) (drop (n + 1) items) (drop number kids) at made number below size (sym e) item l

  pub walked_kid : (k : Plain) (p : Placed) (at' : ℕ) (made' made'' : List Plain) (number' below' : ℕ) → true ≡ is_kid (get_or items n d) → k ≡ get_or kids number k →
      row made'' kids (number + 1) ≡ row made kids number ++ unwrap_or p.tree k ∷ [] → length made'' ≤ number + 1 → IsPlaced k all at p →
      at' ≡ p.end → made' ≡ made'' → number' ≡ number + 1 → below' ≡ kept (below + p.count) →
      Walk t all start (drop (n + 1) items) (drop number' kids) at' made' number' below'
  walked_kid k p at' made' made'' number' below' e is r few placed_is ea em en eb =
      rw (ea, em, en, eb) (walk_kid t all start (drop (n + 1) items) k (drop (number + 1) kids) at made number below made'' p (get_or items n d) (sym e) (with_kid k (kid_next e) is) (rw same at r) few (rw same at kid_next e) placed_is)

  pub walked_symbol : (at' : ℕ) (made' : List Plain) (number' below' : ℕ) → false ≡ is_kid (get_or items n d) → at' ≡ at + 1 → made' ≡ made → number' ≡ number → below' ≡ below →
      Walk t all start (drop (n + 1) items) (drop number' kids) at' made' number' below'
  walked_symbol at' made' number' below' e ea em en eb =
      rw (ea, em, en, eb) (walk_symbol t all start (get_or items n d) (drop (n + 1) items) (drop number kids) at made number below (sym e) item)

-- the kids with one more
pub row_kept : (made kids : List Plain) (number : ℕ) (k : Plain) → length made ≤ number → number < length kids → k ≡ get_or kids number k →
    row made kids (number + 1) ≡ row made kids number ++ k ∷ []
row_kept made kids number k few there e =
    let a : take (number + 1) kids ≡ take number kids ++ k ∷ [] = take_more kids number k there ∙ ap (λ x. take number kids ++ x ∷ []) (sym e) in
    let l : length (take number kids) ≡ number = length-take-le number kids (omega arith) in
    let b : drop (length made) (take number kids ++ k ∷ []) ≡ drop (length made) (take number kids) ++ k ∷ [] = drop-append-le (length made) (take number kids) (k ∷ []) (omega (arith, l)) in
    ap (λ ks. made ++ drop (length made) ks) a ∙ ap (λ ks. made ++ ks) b ∙ sym (append_assoc made (drop (length made) (take number kids)) (k ∷ []))

length-row : (made kids : List Plain) (number : ℕ) → length made ≤ number → number ≤ length kids → length (row made kids number) ≡ number
length-row made kids number few there =
    let l : length (take number kids) ≡ number = length-take-le number kids there in
    omega (arith, length-append made (drop (length made) (take number kids)), length-drop (length made) (take number kids), l)

pub row_made : (made made' kids : List Plain) (number : ℕ) (k : Plain) → length made ≤ number → number < length kids → made' ≡ row made kids number ++ k ∷ [] →
    (row made' kids (number + 1) ≡ row made kids number ++ k ∷ []) × (length made' ≤ number + 1)
row_made made made' kids number k few there e =
    let l : length made' ≡ number + 1 = ap length e ∙ length_push (row made kids number) k ∙ ap (λ n. n + 1) (length-row made kids number few (omega arith)) in
    let m : length (take (number + 1) kids) ≡ number + 1 = length-take-le (number + 1) kids (omega arith) in
    let none : drop (length made') (take (number + 1) kids) ≡ [] = drop_all (length made') (take (number + 1) kids) (omega (arith, l, m)) in
    (ap (λ ks. made' ++ ks) none ∙ append-nil made' ∙ e, omega (arith, l))

-- a node whose kids have their notes
module _ (t : Plain) (all : List Notes) (start : ℕ) (made : List Plain) (at below : ℕ) (h : IsWhole t all start made at below) where
  own-is : own_notes t.kind (count t.kids) (take (breadth t) (drop start all)) ≡ own_notes t.kind (length (kids_of t)) (take (at - start) (drop start all))
  own-is =
      let e : at - start ≡ breadth t = omega (arith, h.end) in
      rw (e, length-kids_of t) refl

  -- nothing changed
  pub unchanged : made ≡ [] → t.notes ≡ [] → own_notes t.kind (length (kids_of t)) (take (at - start) (drop start all)) ≡ [] →
      (t ≡ placed t all start) × (below ≡ kept (notes_of (placed t all start)))
  unchanged none bare own =
      let notes : own_notes t.kind (count t.kids) (take (breadth t) (drop start all)) ≡ [] = own-is ∙ own in
      let every : row [] (kids_of t) (length (kids_of t)) ≡ kids_of t = take_all (length (kids_of t)) (kids_of t) (omega arith) in
      let kids : kids_of t ≡ kids_of (placed t all start) = sym every ∙ ap (λ ks. row ks (kids_of t) (length (kids_of t))) (sym none) ∙ h.kids ∙ sym (kids_of-is (placed t all start)) in
      (same-parts t (placed t all start) refl refl (bare ∙ sym notes) kids, omega (arith, h.count, ap (λ (m : Notes). length m) notes))

  -- the node with its own notes
  pub changed : (made' : List Plain) (notes : Notes) → made' ≡ row made (kids_of t) (length (kids_of t)) → notes ≡ own_notes t.kind (length (kids_of t)) (take (at - start) (drop start all)) →
      (node t.kind t.word notes made' ≡ placed t all start) × (kept (below + length notes) ≡ kept (notes_of (placed t all start)))
  changed made' notes e own =
      let own_is : notes ≡ (placed t all start).notes = own ∙ sym own-is in
      let kids : forest_of made' ≡ (placed t all start).kids = ap forest_of (e ∙ h.kids) ∙ forest_of-trees_of (placed t all start).kids in (
        node-is t.kind t.word notes made' ∙ (λ i. record { kind = t.kind; word = t.word; notes = own_is i; kids = kids i }),
        omega (arith, h.count, ap (λ (m : Notes). length m) own_is),
      )

-- a tree with comments as its notes is proper
pub placed-proper : (t : Plain) (all : List Notes) (start : ℕ) → are_comments all ≡ true → IsProper t → IsProper (placed t all start)
placed-proper t all start e p =
    let notes : List Notes = take (breadth t) (drop start all) in
    record {
      sound = IsWellFormed-noted t notes p.sound (comments-take (breadth t) (drop start all) (comments-drop start all e));
      shallow = omega (arith, depth_of-noted t notes, p.shallow);
      small = omega (arith, size_of-noted t notes, p.small);
    }
