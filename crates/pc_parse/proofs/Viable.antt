-- What the machine has read begins a text of the class.
use Rattle.std.proofs.Common.{◌≡◌, Bool, true, false, ◌&&◌, ◌||◌, List, [], ◌∷◌, ◌++◌, Option, Some, None, refl, ap, sym, ◌∙◌, append_assoc, append-nil, zero-add, add-zero, ◌⊎◌, inl, inr}
use Rattle.pc_syntax.specs.declared.kind.Kind.{Kind}
use Rattle.pc_syntax.specs.declared.class.Class.{Class}
use Rattle.pc_syntax.specs.declared.item.Item.{Item}
use Rattle.pc_syntax.specs.declared.item.Item.TheVariants.{Literal, Word, Kid}
use Rattle.pc_syntax.specs.Plain.{Nil, Plain, forest_of, count, kinds}
use Rattle.pc_syntax.specs.Layout.{layout}
use Rattle.pc_syntax.specs.Classes.{has}
use Rattle.pc_syntax.specs.Symbols.{Sym, symbols_of}
use Rattle.pc_syntax.specs.WellFormed.{fits_some}
use Rattle.pc_syntax.specs.Words as words
use Rattle.pc_parse.specs.Lookahead.{look}
use Rattle.pc_parse.specs.Machine.{Frame, State, Opening, Reading, Holding}
use Rattle.pc_parse.specs.Partial.{kids_in, Front, front_symbols, partial_symbols}
use Rattle.pc_parse.proofs.BarePartial.{IsFront, Linked, IsPartialTree, Begins, Nothing, Partly}
use Rattle.pc_parse.proofs.Entries.{each, implies, implies_true, &&_split, all_kinds, at_class, at_kind}
use Rattle.pc_parse.proofs.SoundTables.{corner, lays, lays_eq}
use Rattle.pc_parse.proofs.SoundFrames.{rule_nil, NodeOk, FrameOk}
use Rattle.pc_parse.proofs.SoundStates.{BelowOk, Sound}
use Rattle.pc_parse.proofs.Sound.{awaited_eq}

-- whether one of the kinds passes
abbrev among : (Kind → Bool) → List Kind → Bool
among p [] = false
among p (k ∷ ks) = p k || among p ks

found : (p : Kind → Bool) (ks : List Kind) → among p ks ≡ true → (k : Kind) × (p k ≡ true)
found p [] h = cc
found p (k ∷ ks) h = go (p k) refl h (found p ks)
  where
    go : (b : Bool) → p k ≡ b → b || among p ks ≡ true → (among p ks ≡ true → (j : Kind) × (p j ≡ true)) → (j : Kind) × (p j ≡ true)
    go true e i more = (k, e)
    go false e i more = more i

or_either : (a b : Bool) → a || b ≡ true → (a ≡ true) ⊎ (b ≡ true)
or_either true b h = inl refl
or_either false b h = inr h

abbrev items_or_none : Option (List Item) → List Item
items_or_none None = []
items_or_none (Some m) = m

-- the items of a node of the kind that has no word
abbrev items_of : Kind → List Item
items_of j = items_or_none (layout j [] 1)

abbrev begins_with : List Item → Kind → Bool
begins_with (Kid d ∷ m) k = has d k
begins_with _ k = false

-- whether a node of the kind j is one of the class and may have one of the kind k as its first kid, before any symbol
abbrev leads_to : Class → Kind → Kind → Bool
leads_to c k j = has c j && lays (layout j [] (kids_in (items_of j))) (items_of j) && begins_with (items_of j) k

via : (c : Class) (k : Kind) → corner c k ≡ true → has c k || among (leads_to c k) all_kinds ≡ true
unfolding words.is_forward words.is_identifier words.is_numeral words.is_text
via c k h = implies_true _ _ (at_kind (λ j. implies (corner c j) (has c j || among (leads_to c j) all_kinds)) k (at_class (λ b. each (λ j. implies (corner b j) (has b j || among (leads_to b j) all_kinds)) all_kinds) c refl)) h

first_kid : (m : List Item) (k : Kind) → begins_with m k ≡ true → (d : Class) × (n : List Item) × (m ≡ Kid d ∷ n) × (has d k ≡ true)
first_kid [] k h = cc
first_kid (Literal x ∷ m) k h = cc
first_kid (Word x ∷ m) k h = cc
first_kid (Kid d ∷ m) k h = (d, m, refl, h)

-- A partial tree of the class with the symbols of these fronts.
record Within (c : Class) (ys : List Sym) : Type 0 where
  fronts : List Front
  partial : IsPartialTree c fronts
  same : partial_symbols fronts ≡ ys

-- where a node of the front's kind can begin one of the class, the front is within a partial tree of the class
widen : (c : Class) (f : Front) (fs : List Front) → corner c f.kind ≡ true → Linked f fs → Within c (partial_symbols (f ∷ fs))
widen c f fs cor linked = go (or_either _ _ (via c f.kind cor))
  where
    go : (has c f.kind ≡ true) ⊎ (among (leads_to c f.kind) all_kinds ≡ true) → Within c (partial_symbols (f ∷ fs))
    go (inl h) = record { fronts = f ∷ fs; partial = (h, linked); same = refl }
    go (inr h) =
        let j = found (leads_to c f.kind) all_kinds h in
        let p = &&_split _ _ j.1 in
        let q = &&_split _ _ p.0 in
        let m = items_of j.0 in
        let k = first_kid m f.kind p.1 in
        let v : Front = record { kind = j.0; word = []; kids = Nil; read = []; left = m } in
        let front : IsFront v = record { laid = rw zero-add (lays_eq _ _ q.1); fit = refl; good = tt; rule = rule_nil j.0 } in
        record { fronts = v ∷ f ∷ fs; partial = (q.0, (front, k.0, k.1, k.2, k.3, linked)); same = refl }

abbrev front_of : Frame Plain → List Item → Front
front_of f pre = record { kind = f.kind; word = f.word; kids = forest_of f.kids; read = pre; left = f.items }

is_front : (f : Frame Plain) (pre : List Item) (text : List Sym) → FrameOk f pre text → IsFront (front_of f pre)
is_front f pre text ok = record { laid = ok.laid; fit = ok.fit; good = ok.good; rule = ok.rule }

link : (f : Front) (d : Class) (m : List Item) (gs : List Front) → IsFront f → f.left ≡ Kid d ∷ m → IsPartialTree d gs → Linked f gs
link f d m [] front e p = absurd p
link f d m (g ∷ gs) front e p = (front, d, m, e, p.0, p.1)

-- with the frames below it, a front is within a partial tree of the class
climb : (root : Class) (f : Front) (fs : List Front) (gs : List (Frame Plain)) (before : List Sym) → BelowOk root f.kind gs before → Linked f fs
    → Within root (before ++ partial_symbols (f ∷ fs))
climb root f fs [] before below linked = rw below.1 (widen root f fs below.0 linked)
climb root f fs (g ∷ gs) before below linked =
    let pre = below.0 in
    let earlier = below.1 in
    let text = below.2 in
    let kid = below.4 in
    let ys = partial_symbols (f ∷ fs) in
    let w = widen kid.class f fs kid.fits_corner linked in
    let front = is_front g pre text below.3 in
    let awaits : g.items ≡ Kid kid.class ∷ kid.more = awaited_eq g.items kid.class kid.more kid.awaited_is in
    let above = climb root (front_of g pre) w.fronts gs earlier below.5 (link (front_of g pre) kid.class kid.more w.fronts front awaits w.partial) in
    let symbols : earlier ++ (front_symbols (front_of g pre) ++ partial_symbols w.fronts) ≡ before ++ ys =
    rw (← below.3.text_is, w.same, below.6, append_assoc earlier text ys) refl in
    record { fronts = above.fronts; partial = above.partial; same = above.same ∙ symbols }

-- A finished node, as a front with nothing left.
record Finished (t : Plain) : Type 0 where
  front : Front
  same_kind : front.kind ≡ t.kind
  is_front : IsFront front
  same : front_symbols front ≡ symbols_of t

finished : (k : Kind) (t : Plain) → NodeOk k t → Finished t
finished k t node = go (layout t.kind t.word (count t.kids)) refl
  where
    go : (o : Option (List Item)) → layout t.kind t.word (count t.kids) ≡ o → Finished t
    go None e = let h : fits_some None (kinds t.kids) ≡ true = rw e at node.good.0 in cc
    go (Some m) e =
        let h : fits_some (Some m) (kinds t.kids) ≡ true = rw e at node.good.0 in
        record {
          front = record { kind = t.kind; word = t.word; kids = t.kids; read = m; left = [] };
          same_kind = refl;
          is_front = record { laid = rw (add-zero (count t.kids), append-nil m) e; fit = h; good = node.good.3; rule = node.good.1 };
          same = rw e refl;
        }

begun : (root : Class) (f : Front) (gs : List (Frame Plain)) (before text : List Sym) → BelowOk root f.kind gs before → IsFront f → front_symbols f ≡ text → Begins root (before ++ text)
begun root f gs before text below front e =
    let w = climb root f [] gs before below front in
    Partly w.fronts w.partial (sym (w.same ∙ ap (λ l. before ++ l) (append-nil (front_symbols f) ∙ e)))

-- what a sound state has read begins a text of the class
pub viable : (root : Class) (st : State Plain) (used ys : List Sym) → Sound root st used (look ys) → Begins root used
viable root Opening used ys h = Nothing h
viable root (Reading f fs) used ys h =
    rw h.used_is (begun root (front_of f h.pre) fs h.before h.text h.below (is_front f h.pre h.text h.front) (sym h.front.text_is))
viable root (Holding k t fs) used ys h =
    let n = finished k t h.node in
    let below : BelowOk root n.front.kind fs h.before = rw (n.same_kind, h.node.kind_is) h.below in
    rw h.used_is (begun root n.front fs h.before (symbols_of t) below n.is_front n.same)
