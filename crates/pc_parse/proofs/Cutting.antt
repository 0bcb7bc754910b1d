-- Symbols with which those of a tree begin are those of a partial tree: the tree, cut behind them.
use Rattle.std.proofs.Common.{◌≡◌, ℕ, zero, suc, ◌+◌, true, false, List, [], ◌∷◌, ◌++◌, Option, Some, None, refl, ap, sym, ◌∙◌, append_assoc, arith}
use Rattle.std.proofs.lemmas.Bool.{false≢true}
use Rattle.pc_syntax.specs.declared.kind.Kind.{Kind}
use Rattle.pc_syntax.specs.declared.kind.Kind.TheVariants as kind
use Rattle.pc_syntax.specs.declared.class.Class.{Class}
use Rattle.pc_syntax.specs.declared.item.Item.{Item}
use Rattle.pc_syntax.specs.declared.item.Item.TheVariants.{Literal, Word, Kid}
use Rattle.pc_syntax.specs.Plain.{Forest, Nil, Cons, Plain, count, kinds}
use Rattle.pc_syntax.specs.Layout.{layout}
use Rattle.pc_syntax.specs.Classes.{has}
use Rattle.pc_syntax.specs.Symbols.{Sym, fill, fill_some, texts, symbols}
use Rattle.pc_syntax.specs.WellFormed.{fits, fits_some, second_open, breaks_else_rule, WellFormed}
use Rattle.pc_parse.specs.Partial.{kids_in, Front, IsFront, Linked, partial_symbols, Begins, Partly}
use Rattle.pc_parse.specs.Reading.{Reads}
use Rattle.pc_parse.proofs.Entries.{&&_split, &&_join}

-- the first so many trees
abbrev first : ℕ → Forest → Forest
first zero ts = Nil
first (suc n) Nil = Nil
first (suc n) (Cons k w ns ks ts) = Cons k w ns ks (first n ts)

first_formed : (n : ℕ) (ts : Forest) → WellFormed ts → WellFormed (first n ts)
first_formed zero ts h = tt
first_formed (suc n) Nil h = tt
first_formed (suc n) (Cons k w ns ks ts) h = (h.0, h.1, h.2, h.3, first_formed n ts h.4)

first_closed : (n : ℕ) (ts : Forest) → second_open ts ≡ false → second_open (first n ts) ≡ false
first_closed zero ts h = refl
first_closed (suc n) Nil h = refl
first_closed (suc zero) (Cons k w ns ks ts) h = refl
first_closed (suc (suc n)) (Cons k w ns ks Nil) h = refl
first_closed (suc (suc n)) (Cons k w ns ks (Cons j v ms js us)) h = h

-- trees that keep the else rule keep it where some are left out behind them
first_rule : (k : Kind) (n : ℕ) (ts : Forest) → breaks_else_rule k ts ≡ false → breaks_else_rule k (first n ts) ≡ false
first_rule kind.Ifelse n ts h = first_closed n ts h
first_rule _ n ts h = refl

-- there are as many kids as the items have
all_in : (is : List Item) (ts : Forest) → fits is (kinds ts) ≡ true → kids_in is ≡ count ts
all_in [] Nil h = refl
all_in [] (Cons k w ns ks ts) h = absurd (false≢true h)
all_in (Literal x ∷ m) ts h = all_in m ts h
all_in (Word x ∷ m) ts h = all_in m ts h
all_in (Kid c ∷ m) Nil h = absurd (false≢true h)
all_in (Kid c ∷ m) (Cons k w ns ks ts) h = ap suc (all_in m ts (&&_split _ _ h).1)

-- Where a list is cut: within its first part, or behind it.
data Place (xs bs zs more : List Sym) : Type 0 where
  Inside : (rest : List Sym) → xs ≡ zs ++ rest → Place xs bs zs more
  Behind : (ys : List Sym) → zs ≡ xs ++ ys → bs ≡ ys ++ more → Place xs bs zs more

place : (xs bs zs more : List Sym) → xs ++ bs ≡ zs ++ more → Place xs bs zs more
place [] bs zs more e = Behind zs refl e
place (a ∷ xs) bs [] more e = Inside (a ∷ xs) refl
place (a ∷ xs) bs (z ∷ zs) more e =
    let h : a ≡ z = cc in
    let t : xs ++ bs ≡ zs ++ more = cc in
    elim (place xs bs zs more t) [
      | Inside rest i ↦ Inside rest (rw (h, i) refl)
      | Behind ys i j ↦ Behind ys (rw (h, i) refl) j
    ]

-- a node of this kind that breaks off behind these symbols, and those that it breaks off in
record Cut (k : Kind) (zs : List Sym) : Type 0 where
  front : Front
  fronts : List Front
  same_kind : front.kind ≡ k
  linked : Linked front fronts
  same : zs ≡ partial_symbols (front ∷ fronts)

-- each of the trees can be cut anywhere
abbrev AllCut : Forest → Type 0
AllCut Nil = Unit {0}
AllCut (Cons k w ns ks ts) = ((zs more : List Sym) → symbols k w ks ≡ zs ++ more → Cut k zs) × AllCut ts

-- the nodes that break off begin with one that the next item awaits
abbrev Awaited : List Item → List Front → Type 0
Awaited m [] = Unit {0}
Awaited m (g ∷ gs) = (d : Class) × (n : List Item) × (m ≡ Kid d ∷ n) × (has d g.kind ≡ true) × Linked g gs

-- items with their kids, cut behind these symbols
record ItemsCut (is : List Item) (w : List ℕ) (ts : Forest) (zs : List Sym) : Type 0 where
  read : List Item
  left : List Item
  whole : ℕ
  fronts : List Front
  parts : is ≡ read ++ left
  fit : fits read (kinds (first whole ts)) ≡ true
  number : count (first whole ts) + kids_in left ≡ count ts
  awaited : Awaited left fronts
  same : zs ≡ fill read w (texts (first whole ts)) ++ partial_symbols fronts

items_cut : (is : List Item) (w : List ℕ) (ts : Forest) (zs more : List Sym) → fits is (kinds ts) ≡ true → AllCut ts → fill is w (texts ts) ≡ zs ++ more → ItemsCut is w ts zs
items_cut is w ts [] more f all e = record { read = []; left = is; whole = 0; fronts = []; parts = refl; fit = refl; number = omega (arith, all_in is ts f); awaited = tt; same = refl }
items_cut [] w ts (z ∷ zs) more f all e = cc
items_cut (Literal x ∷ m) w ts (z ∷ zs) more f all e =
    let y : Sym = record { lexeme = x; spelling = [] } in
    let h : y ≡ z = cc in
    let t : fill m w (texts ts) ≡ zs ++ more = cc in
    let r = items_cut m w ts zs more f all t in
    record { read = Literal x ∷ r.read; left = r.left; whole = r.whole; fronts = r.fronts; parts = ap (λ l. Literal x ∷ l) r.parts; fit = r.fit; number = r.number; awaited = r.awaited; same = ap (λ u. u ∷ zs) (sym h) ∙ ap (λ l. y ∷ l) r.same }
items_cut (Word x ∷ m) w ts (z ∷ zs) more f all e =
    let y : Sym = record { lexeme = x; spelling = w } in
    let h : y ≡ z = cc in
    let t : fill m w (texts ts) ≡ zs ++ more = cc in
    let r = items_cut m w ts zs more f all t in
    record { read = Word x ∷ r.read; left = r.left; whole = r.whole; fronts = r.fronts; parts = ap (λ l. Word x ∷ l) r.parts; fit = r.fit; number = r.number; awaited = r.awaited; same = ap (λ u. u ∷ zs) (sym h) ∙ ap (λ l. y ∷ l) r.same }
items_cut (Kid c ∷ m) w Nil (z ∷ zs) more f all e = absurd (false≢true f)
items_cut (Kid c ∷ m) w (Cons j v ns js us) (z ∷ zs) more f all e =
    let p : (has c j ≡ true) × (fits m (kinds us) ≡ true) = &&_split _ _ f in
    elim (place (symbols j v js) (fill m w (texts us)) (z ∷ zs) more e) [
      | Inside rest i ↦
          let r = all.0 (z ∷ zs) rest i in
          record { read = []; left = Kid c ∷ m; whole = 0; fronts = r.front ∷ r.fronts; parts = refl; fit = refl; number = omega (arith, all_in m us p.1); awaited = (c, m, refl, ap (has c) r.same_kind ∙ p.0, r.linked); same = r.same }
      | Behind ys i t ↦
          let r = items_cut m w us ys more p.1 all.1 t in
          record {
            read = Kid c ∷ r.read;
            left = r.left;
            whole = suc r.whole;
            fronts = r.fronts;
            parts = ap (λ l. Kid c ∷ l) r.parts;
            fit = &&_join _ _ p.0 r.fit;
            number = omega (arith, r.number);
            awaited = r.awaited;
            same = i ∙ ap (λ l. symbols j v js ++ l) r.same ∙ sym (append_assoc (symbols j v js) (fill r.read w (texts (first r.whole us))) (partial_symbols r.fronts));
          }
    ]

-- a node whose kids can be cut can be cut
node_cut : (k : Kind) (w : List ℕ) (ks : Forest) (zs more : List Sym) → fits_some (layout k w (count ks)) (kinds ks) ≡ true → breaks_else_rule k ks ≡ false → WellFormed ks → AllCut ks
    → symbols k w ks ≡ zs ++ more → Cut k zs
node_cut k w ks zs more f rule formed all e = go (layout k w (count ks)) refl f e
  where
    linked : (g : Front) (m : List Front) → IsFront g → Awaited g.left m → Linked g m
    linked g [] h a = h
    linked g (u ∷ us) h a = (h, a.0, a.1, a.2, a.3, a.4)

    go : (o : Option (List Item)) → layout k w (count ks) ≡ o → fits_some o (kinds ks) ≡ true → fill_some o w (texts ks) ≡ zs ++ more → Cut k zs
    go None lays fit spelled = absurd (false≢true fit)
    go (Some is) lays fit spelled =
        let r = items_cut is w ks zs more fit all spelled in
        let g : Front = record { kind = k; word = w; kids = first r.whole ks; read = r.read; left = r.left } in
        let h : IsFront g = record {
          laid = ap (layout k w) r.number ∙ lays ∙ ap Some r.parts;
          fit = r.fit;
          formed = first_formed r.whole ks formed;
          rule = first_rule k r.whole ks rule;
        } in
        record { front = g; fronts = r.fronts; same_kind = refl; linked = linked g r.fronts h r.awaited; same = r.same }

all_cut : (ts : Forest) → WellFormed ts → AllCut ts
all_cut Nil h = tt
all_cut (Cons k w ns ks ts) h = (λ zs more e. node_cut k w ks zs more h.0 h.2 h.3 (all_cut ks h.3) e, all_cut ts h.4)

-- what begins the symbols of a tree begins a text of its class
pub begins_cut : (c : Class) (t : Plain) (ys more : List Sym) → Reads c t (ys ++ more) → Begins c ys
begins_cut c t ys more r =
    let u = (all_cut (Cons t.kind t.word t.notes t.kids Nil) r.formed).0 ys more (sym r.spelled) in
    Partly (u.front ∷ u.fronts) (ap (has c) u.same_kind ∙ r.member, u.linked) u.same
