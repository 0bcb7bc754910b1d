-- The machine over what is kept of trees does what the machine over trees does.
use Rattle.std.proofs.Common.{◌≡◌, ℕ, not, ◌+◌, ◌≤◌, ◌<◌, max, nat_le, Bool, true, false, ◌&&◌, if◌then◌else◌, List, [], ◌∷◌, ◌++◌, Option, Some, None, map, refl, ap, sym, ◌∙◌, arith}
use Rattle.std.specs.Prelude.{sum_by}
use Rattle.std.specs.Option.{option_map}
use Rattle.std.proofs.lemmas.List.Sums.{sum_by-cons, sum_by_push}
use Rattle.std.proofs.lemmas.Bool.{ne_eqb, leb-true, leb-false, le-leb}
use Rattle.pc_syntax.specs.declared.lexeme.Lexeme.{Lexeme}
use Rattle.pc_syntax.specs.declared.lexeme.Lexeme.TheVariants as lexeme
use Rattle.pc_syntax.specs.Spellings.{spelling_of}
use Rattle.pc_syntax.specs.declared.kind.Kind.{Kind}
use Rattle.pc_syntax.specs.declared.class.Class.{Class}
use Rattle.pc_syntax.specs.declared.item.Item.{Item}
use Rattle.pc_syntax.specs.declared.item.Item.TheVariants.{Literal, Word, Kid}
use Rattle.pc_syntax.specs.Classes.{has}
use Rattle.pc_syntax.specs.Plain.{Plain, node, forest_of}
use Rattle.pc_syntax.specs.WellFormed.{size_in, size_of, depth_in, depth_of, depth_limit, size_limit, size_limit-is}
use Rattle.pc_syntax.specs.Parts.{largest}
use Rattle.pc_syntax.specs.PartsLaws.{node-is, size_in-forest_of, depth_in-forest_of}
use Rattle.pc_parse.specs.declared.rows.Cut.{Cut}
use Rattle.pc_parse.specs.Lookahead.{same_at}
use Rattle.pc_parse.specs.Tables.{Start, Leaf, Open, Predict, Blank, NoStart, start, Grow, Give, Wrap, Shift, Enter, grow, switch, recast, closes, again}
use Rattle.pc_parse.specs.Machine.{Frame, frame, State, Opening, Reading, Holding, Plan, Stay, Take, End, Stuck, leaf_word, has_kids, on_leaf, on_start, on_switch, on_recast, on_close, at_close, on_kid, on_again, at_items, on_give, on_grow, at_kid, awaited_by, plan}
use Rattle.pc_parse.specs.Runs.{make_plain}
use Rattle.pc_parse.specs.Rows.{Row, cut, row_of, is_within, depth_kept, size_kept, no_kids, made, added, joined}
use Rattle.pc_parse.specs.Measured as measured
use Rattle.pc_parse.specs.Rows as rows
use Rattle.pc_parse.proofs.Entries.{&&_split, &&_join}

-- what is kept of the parts of a state
abbrev pub frame_kept : Frame Plain → measured.Frame
frame_kept f = measured.frame f.kind f.word (row_of f.kids) f.items

abbrev pub state_kept : State Plain → measured.State
state_kept Opening = measured.Opening
state_kept (Reading f fs) = measured.Reading (frame_kept f) (map frame_kept fs)
state_kept (Holding k a fs) = measured.Holding k (cut a) (map frame_kept fs)

abbrev pub plan_kept : Plan Plain → measured.Plan
plan_kept (Stay st) = measured.Stay (state_kept st)
plan_kept (Take st) = measured.Take (state_kept st)
plan_kept (End a) = measured.End (cut a)
plan_kept Stuck = measured.Stuck

abbrev cut_with : ℕ → ℕ → Option Plain → Cut
cut_with d n t = record { depth = d; size = n; tree = t }

abbrev row_with : ℕ → ℕ → Option (List Plain) → Row
row_with d n ts = record { depth = d; size = n; trees = ts }

cut_same : (d e m n : ℕ) (t u : Option Plain) → d ≡ e → m ≡ n → t ≡ u → cut_with d m t ≡ cut_with e n u
cut_same d e m n t u p q r = λ i. cut_with (p i) (q i) (r i)

row_same : (d e m n : ℕ) (t u : Option (List Plain)) → d ≡ e → m ≡ n → t ≡ u → row_with d m t ≡ row_with e n u
row_same d e m n t u p q r = λ i. row_with (p i) (q i) (r i)

no_both : (m n : ℕ) → m ≤ n → nat_le m n ≡ false → ⊥
no_both m n h e = let k : n < m = leb-false m n e in omega arith

-- two tests of one order are one
leb_same : (a b c d : ℕ) → (a ≤ b → c ≤ d) → (c ≤ d → a ≤ b) → nat_le a b ≡ nat_le c d
leb_same a b c d to back = go (nat_le a b) (nat_le c d) refl refl
  where
    go : (x y : Bool) → nat_le a b ≡ x → nat_le c d ≡ y → x ≡ y
    go true true p q = refl
    go false false p q = refl
    go true false p q = absurd (no_both c d (to (leb-true a b p)) q)
    go false true p q = absurd (no_both a b (back (leb-true c d q)) p)

within_same : (a b m n : ℕ) → (a ≤ depth_limit → b ≤ depth_limit) → (b ≤ depth_limit → a ≤ depth_limit) → (m ≤ size_limit → n ≤ size_limit) → (n ≤ size_limit → m ≤ size_limit)
    → is_within a m ≡ is_within b n
within_same a b m n p q r t = λ i. leb_same a depth_limit b depth_limit p q i && leb_same m size_limit n size_limit r t i

-- a node is kept as what is made of its kids as they are kept
pub made-row_of : (k : Kind) (w : List ℕ) (ts : List Plain) → cut (make_plain k w ts) ≡ made k w (row_of ts)
unfolding row_of cut
made-row_of k w ts =
    let d = largest (map depth_of ts) in
    let s = sum_by size_of ts in
    let de : depth_in (forest_of ts) ≡ d = depth_in-forest_of ts in
    let se : size_in (forest_of ts) ≡ s = size_in-forest_of ts in
    cut_same _ _ _ _ _ _ (omega (arith, de)) (omega (arith, se)) (rw (de, se) (go (is_within (1 + d) (1 + s))))
  where
    go : (b : Bool) → (if b then Some (make_plain k w ts) else None) ≡ option_map (node k w []) (if b then Some ts else None)
    go true = ap Some (sym (node-is k w [] ts))
    go false = refl

row_of-none : row_of [] ≡ no_kids
unfolding row_of size_limit
row_of-none = refl

leaf_kept : (k : Kind) (w : List ℕ) → cut (make_plain k w []) ≡ made k w no_kids
leaf_kept k w = made-row_of k w [] ∙ ap (made k w) row_of-none

largest_push : (ns : List ℕ) (n : ℕ) → largest (ns ++ n ∷ []) ≡ max (largest ns) n
largest_push [] n = omega arith
largest_push (m ∷ ns) n = omega (arith, largest_push ns n)

map_push : {A B : Type 0} (h : A → B) (xs : List A) (a : A) → map h (xs ++ a ∷ []) ≡ map h xs ++ h a ∷ []
map_push h [] a = refl
map_push h (x ∷ xs) a = ap (λ l. h x ∷ l) (map_push h xs a)

-- kids with one more are kept as what is added to the kids as they are kept
row_of-push : (ts : List Plain) (t : Plain) → row_of (ts ++ t ∷ []) ≡ added (row_of ts) (cut t)
unfolding row_of cut
row_of-push ts t =
    let d = largest (map depth_of ts) in
    let s = sum_by size_of ts in
    let e = depth_of t in
    let n = size_of t in
    let de : largest (map depth_of (ts ++ t ∷ [])) ≡ max d e = ap largest (map_push depth_of ts t) ∙ largest_push (map depth_of ts) e in
    let se : sum_by size_of (ts ++ t ∷ []) ≡ s + n = sum_by_push size_of ts t in
    row_same _ _ _ _ _ _ (rw de (depths d e)) (rw se (sizes s n)) (rw (de, se) (kept d s e n))
  where
    depths : (d e : ℕ) → depth_kept (max d e) ≡ max (depth_kept d) (depth_kept e)
    depths d e = omega arith

    sizes : (s n : ℕ) → size_kept (s + n) ≡ size_kept (size_kept s + size_kept n)
    sizes s n = omega arith

    tests : (d s e n : ℕ) → is_within (1 + max d e) (1 + (s + n)) ≡ is_within (max (depth_kept d) (depth_kept e) + 1) (size_kept (size_kept s + size_kept n) + 1)
    tests d s e n = let l = size_limit-is in within_same (1 + max d e) (max (depth_kept d) (depth_kept e) + 1) (1 + (s + n)) (size_kept (size_kept s + size_kept n) + 1) (λ h. omega (arith, h)) (λ h. omega (arith, h)) (λ h. omega (arith, h, l)) (λ h. omega (arith, h, l))

    kept : (d s e n : ℕ) → (if is_within (1 + max d e) (1 + (s + n)) then Some (ts ++ t ∷ []) else None)
        ≡ joined (is_within (max (depth_kept d) (depth_kept e) + 1) (size_kept (size_kept s + size_kept n) + 1)) (if is_within (1 + d) (1 + s) then Some ts else None) (if is_within e n then Some t else None)
    kept d s e n = rw (← tests d s e n) (go (is_within (1 + max d e) (1 + (s + n))) refl)
      where
        go : (b : Bool) → is_within (1 + max d e) (1 + (s + n)) ≡ b → (if b then Some (ts ++ t ∷ []) else None) ≡ joined b (if is_within (1 + d) (1 + s) then Some ts else None) (if is_within e n then Some t else None)
        go true h =
            let p : (nat_le (1 + max d e) depth_limit ≡ true) × (nat_le (1 + (s + n)) size_limit ≡ true) = &&_split _ _ h in
            let q : 1 + max d e ≤ depth_limit = leb-true _ _ p.0 in
            let r : 1 + (s + n) ≤ size_limit = leb-true _ _ p.1 in
            let x : is_within (1 + d) (1 + s) ≡ true = &&_join _ _ (le-leb (1 + d) depth_limit (omega arith)) (le-leb (1 + s) size_limit (omega arith)) in
            let y : is_within e n ≡ true = &&_join _ _ (le-leb e depth_limit (omega arith)) (le-leb n size_limit (omega arith)) in
            rw (x, y) refl
        go false h = refl

one_kept : (a : Plain) → row_of (a ∷ []) ≡ added no_kids (cut a)
one_kept a = row_of-push [] a ∙ ap (λ r. added r (cut a)) row_of-none

start_kept : (g : Start) (w : List ℕ) (fs : List (Frame Plain)) → plan_kept (on_start make_plain g w fs) ≡ measured.on_start g w (map frame_kept fs)
start_kept (Leaf k) w fs = go (leaf_word k w)
  where
    go : (b : Bool) → plan_kept (on_leaf make_plain b k w fs) ≡ measured.on_leaf b k w (map frame_kept fs)
    go true = ap (λ c. measured.Take (measured.Holding k c (map frame_kept fs))) (leaf_kept k w)
    go false = refl
start_kept (Open k v m) w fs = ap (λ r. measured.Take (measured.Reading (measured.frame k v r m) (map frame_kept fs))) row_of-none
start_kept (Predict k m) w fs = ap (λ r. measured.Stay (measured.Reading (measured.frame k [] r m) (map frame_kept fs))) row_of-none
start_kept (Blank k) w fs = ap (λ c. measured.Stay (measured.Holding k c (map frame_kept fs))) (leaf_kept k [])
start_kept NoStart w fs = refl

switch_kept : (o : Option (Kind × List Item)) (p : Plan Plain) (q : measured.Plan) (f : Frame Plain) (fs : List (Frame Plain)) → plan_kept p ≡ q
    → plan_kept (on_switch make_plain o p f fs) ≡ measured.on_switch o q (frame_kept f) (map frame_kept fs)
switch_kept None p q f fs e = e
switch_kept (Some r) p q f fs e = refl

recast_kept : (o : Option (Kind × List Item)) (p : Plan Plain) (q : measured.Plan) (f : Frame Plain) (fs : List (Frame Plain)) → plan_kept p ≡ q
    → plan_kept (on_recast make_plain o p f fs) ≡ measured.on_recast o q (frame_kept f) (map frame_kept fs)
recast_kept None p q f fs e = e
recast_kept (Some r) p q f fs e = refl

pub has_kids-row_of : (ts : List Plain) → rows.has_kids (row_of ts) ≡ has_kids ts
unfolding row_of
has_kids-row_of [] = refl
has_kids-row_of (t ∷ ts) =
    let all : sum_by size_of (t ∷ ts) ≡ size_of t + sum_by size_of ts = sum_by-cons size_of t ts in
    ap not (ne_eqb (size_kept (sum_by size_of (t ∷ ts))) 0 (λ e. omega (arith, e, all)))

close_kept : (items : List Item) (f : Frame Plain) (fs : List (Frame Plain)) → plan_kept (at_close make_plain items f fs) ≡ measured.at_close items (frame_kept f) (map frame_kept fs)
close_kept items f [] = refl
close_kept items f (g ∷ fs) = rw (has_kids-row_of f.kids) (go (has_kids f.kids && closes f.kind items g.kind g.items))
  where
    go : (b : Bool) → plan_kept (on_close make_plain b f g fs) ≡ measured.on_close b (frame_kept f) (frame_kept g) (map frame_kept fs)
    go true =
        ap (λ r. measured.Stay (measured.Reading (measured.frame g.kind (spelling_of lexeme.Semicolon) r (Literal lexeme.KeyEnd ∷ [])) (map frame_kept fs)))
        (row_of-push g.kids (make_plain f.kind f.word f.kids) ∙ ap (added (row_of g.kids)) (made-row_of f.kind f.word f.kids))
    go false = refl

kid_kept : (g : Start) (p : Plan Plain) (q : measured.Plan) (w : List ℕ) (fs : List (Frame Plain)) → plan_kept p ≡ q → plan_kept (on_kid make_plain g p w fs) ≡ measured.on_kid g q w (map frame_kept fs)
kid_kept (Leaf k) p q w fs e = start_kept (Leaf k) w fs
kid_kept (Open k v m) p q w fs e = start_kept (Open k v m) w fs
kid_kept (Predict k m) p q w fs e = start_kept (Predict k m) w fs
kid_kept (Blank k) p q w fs e = start_kept (Blank k) w fs
kid_kept NoStart p q w fs e = e

again_kept : (o : Option Class) (x : Option Lexeme) (w : List ℕ) (f : Frame Plain) (fs : List (Frame Plain))
    → plan_kept (on_again make_plain o x w f fs) ≡ measured.on_again o x w (frame_kept f) (map frame_kept fs)
again_kept None x w f fs = ap (λ c. measured.Stay (measured.Holding f.kind c (map frame_kept fs))) (made-row_of f.kind f.word f.kids)
again_kept (Some c) x w f fs = start_kept (start c x) w (frame f.kind f.word f.kids (Kid c ∷ []) ∷ fs)

items_kept : (items : List Item) (f : Frame Plain) (fs : List (Frame Plain)) (x : Option Lexeme) (w : List ℕ)
    → plan_kept (at_items make_plain items f fs x w) ≡ measured.at_items items (frame_kept f) (map frame_kept fs) x w
items_kept [] f fs x w = switch_kept (switch f.kind [] x) _ _ f fs (again_kept (again f.kind x) x w f fs)
items_kept (Literal y ∷ m) f fs x w = go (same_at y x)
  where
    go : (b : Bool)
        → plan_kept (if b then Take (Reading (frame f.kind f.word f.kids m) fs) else on_switch make_plain (switch f.kind (Literal y ∷ m) x) (on_recast make_plain (recast f.kind (Literal y ∷ m) x) Stuck f fs) f fs)
        ≡ (if b then measured.Take (measured.Reading (measured.frame f.kind f.word (row_of f.kids) m) (map frame_kept fs)) else measured.on_switch (switch f.kind (Literal y ∷ m) x) (measured.on_recast (recast f.kind (Literal y ∷ m) x) measured.Stuck (frame_kept f) (map frame_kept fs)) (frame_kept f) (map frame_kept fs))
    go true = refl
    go false = switch_kept (switch f.kind (Literal y ∷ m) x) _ _ f fs (recast_kept (recast f.kind (Literal y ∷ m) x) Stuck measured.Stuck f fs refl)
items_kept (Word y ∷ m) f fs x w = refl
items_kept (Kid c ∷ m) f fs x w = kid_kept (start c x) _ _ w (f ∷ fs) (recast_kept (recast f.kind (Kid c ∷ m) x) _ _ f fs (close_kept (Kid c ∷ m) f fs))

give_kept : (b : Bool) (a : Plain) (m : List Item) (fs : List (Frame Plain)) (x : Option Lexeme)
    → plan_kept (on_give make_plain b a m fs x) ≡ measured.on_give b (cut a) m (map frame_kept fs) x
give_kept false a m fs x = refl
give_kept true a m [] None = refl
give_kept true a m [] (Some y) = refl
give_kept true a m (f ∷ fs) x = ap (λ r. measured.Stay (measured.Reading (measured.frame f.kind f.word r m) (map frame_kept fs))) (row_of-push f.kids a)

grow_kept : (g : Grow) (b : Bool) (a : Plain) (m : List Item) (fs : List (Frame Plain)) (x : Option Lexeme)
    → plan_kept (on_grow make_plain g b a m fs x) ≡ measured.on_grow g b (cut a) m (map frame_kept fs) x
grow_kept Give b a m fs x = give_kept b a m fs x
grow_kept (Wrap j) b a m fs x = ap (λ c. measured.Stay (measured.Holding j c (map frame_kept fs))) (made-row_of j [] (a ∷ []) ∙ ap (made j []) (one_kept a))
grow_kept (Shift j v n) b a m fs x = ap (λ r. measured.Take (measured.Reading (measured.frame j v r n) (map frame_kept fs))) (one_kept a)
grow_kept (Enter j n) b a m fs x = ap (λ r. measured.Stay (measured.Reading (measured.frame j [] r n) (map frame_kept fs))) (one_kept a)

awaited_kept : (root : Class) (fs : List (Frame Plain)) → measured.awaited_by root (map frame_kept fs) ≡ awaited_by root fs
awaited_kept root [] = refl
awaited_kept root (f ∷ fs) = refl

-- what the machine does with what is kept is what is kept of what it does
pub plan_natural : (root : Class) (st : State Plain) (x : Option Lexeme) (w : List ℕ) → plan_kept (plan make_plain root st x w) ≡ measured.plan root (state_kept st) x w
plan_natural root Opening x w = start_kept (start root x) w []
plan_natural root (Reading f fs) x w = items_kept f.items f fs x w
plan_natural root (Holding k a fs) x w = rw (awaited_kept root fs) (go (awaited_by root fs))
  where
    go : (o : Option (Class × List Item)) → plan_kept (at_kid make_plain o k a fs x) ≡ measured.at_kid o k (cut a) (map frame_kept fs) x
    go None = refl
    go (Some p) = grow_kept (grow k p.0 x) (has p.0 k) a p.1 fs x
