-- Each step of the reading machine takes away from its energy, so runs end.
use Rattle.std.proofs.Common.{◌≡◌, ℕ, suc, ◌+◌, ◌-◌, ◌<◌, ◌≤◌, Bool, true, false, ◌&&◌, if◌then◌else◌, ltb, List, [], ◌∷◌, Option, Some, None, refl, ap, arith}
use Rattle.std.proofs.lemmas.Bool.{ltb-true}
use Rattle.pc_syntax.specs.declared.lexeme.Lexeme.{Lexeme}
use Rattle.pc_syntax.specs.declared.lexeme.Lexeme.TheVariants as lexeme
use Rattle.pc_syntax.specs.declared.kind.Kind.{Kind}
use Rattle.pc_syntax.specs.declared.kind.Kind.TheVariants as kind
use Rattle.pc_syntax.specs.declared.class.Class.{Class}
use Rattle.pc_syntax.specs.declared.class.Class.TheVariants as class
use Rattle.pc_syntax.specs.declared.item.Item.{Item}
use Rattle.pc_syntax.specs.declared.item.Item.TheVariants.{Literal, Word, Kid}
use Rattle.pc_syntax.specs.Classes.{has}
use Rattle.pc_parse.specs.Lookahead.{same_at}
use Rattle.pc_parse.specs.Tables.{Start, Leaf, Open, Predict, Blank, NoStart, start, Grow, Give, Wrap, Shift, Enter, grow, switch, recast, closes, again}
use Rattle.pc_parse.specs.Machine.{Frame, frame, State, Opening, Reading, Holding, Plan, Stay, Take, End, Stuck, leaf_word, has_kids, on_leaf, on_start, on_switch, on_recast, on_close, at_close, on_kid, on_again, at_items, on_give, on_grow, at_kid, awaited, awaited_by, plan}
use Rattle.pc_parse.specs.Energy.{node_energy, kid_energy, kept_back, items_energy, waiting_energy, below_energy, state_energy, energy}
use Rattle.pc_parse.proofs.Entries.{each, implies, implies_true, &&_split, all_kinds, all_classes, all_lookaheads, at_kind, at_class, at_lookahead}

abbrev pub is_some : Option Lexeme → Bool
is_some None = false
is_some (Some x) = true

-- what a plan leads to is worth less than e, or than e and the symbol that it takes; where it ends, no symbol is left
abbrev Falls : {A : Type 0} → Plan A → Option Lexeme → ℕ → Type 0
Falls (Stay st) x e = state_energy st < e
Falls (Take st) x e = (is_some x ≡ true) × (state_energy st < e + 20)
Falls (End a) x e = x ≡ None
Falls Stuck x e = Unit {0}

-- how a kid begins is paid for by e, or by e and the symbol that is taken
abbrev start_pays : ℕ → Option Lexeme → Start → Bool
start_pays e x (Leaf k) = is_some x && ltb (node_energy k) (e + 20)
start_pays e x (Open k v m) = is_some x && ltb (items_energy (node_energy k) m) (e + 20)
start_pays e x (Predict k m) = ltb (items_energy (node_energy k) m) e
start_pays e x (Blank k) = ltb (node_energy k) e
start_pays e x NoStart = true

abbrev grow_pays : Kind → Option Lexeme → Grow → Bool
grow_pays k x Give = true
grow_pays k x (Wrap j) = ltb (node_energy j) (node_energy k)
grow_pays k x (Shift j v m) = is_some x && ltb (items_energy (node_energy j) m) (node_energy k + 20)
grow_pays k x (Enter j m) = ltb (items_energy (node_energy j) m) (node_energy k)

-- beginning a further element is paid for by what is kept back meanwhile
abbrev again_pays : Kind → Option Lexeme → Option Class → Bool
again_pays k x None = true
again_pays k x (Some c) = ltb (kept_back c) (node_energy k + 2) && start_pays (kept_back c) x (start c x)

abbrev switch_pays : Option Lexeme → Option (Kind × List Item) → Bool
switch_pays x None = true
switch_pays x (Some p) = is_some x && ltb (items_energy (node_energy p.0) p.1) 20

abbrev recast_pays : ℕ → Option (Kind × List Item) → Bool
recast_pays e None = true
recast_pays e (Some p) = ltb (items_energy (node_energy p.0) p.1) e

starts_pay : (c : Class) (x : Option Lexeme) → start_pays (kid_energy c) x (start c x) ≡ true
starts_pay c x = at_lookahead (λ y. start_pays (kid_energy c) y (start c y)) x (at_class (λ b. each (λ y. start_pays (kid_energy b) y (start b y)) all_lookaheads) c refl)

openings_pay : (c : Class) (x : Option Lexeme) → start_pays 20 x (start c x) ≡ true
openings_pay c x = at_lookahead (λ y. start_pays 20 y (start c y)) x (at_class (λ b. each (λ y. start_pays 20 y (start b y)) all_lookaheads) c refl)

agains_pay : (k : Kind) (x : Option Lexeme) → again_pays k x (again k x) ≡ true
agains_pay k x = at_lookahead (λ y. again_pays k y (again k y)) x (at_kind (λ j. each (λ y. again_pays j y (again j y)) all_lookaheads) k refl)

grows_pay : (k : Kind) (c : Class) (x : Option Lexeme) → grow_pays k x (grow k c x) ≡ true
grows_pay k c x =
    at_lookahead (λ y. grow_pays k y (grow k c y)) x
    (at_class (λ b. each (λ y. grow_pays k y (grow k b y)) all_lookaheads) c
    (at_kind (λ j. each (λ b. each (λ y. grow_pays j y (grow j b y)) all_lookaheads) all_classes) k refl))

switches_pay : (k : Kind) (items : List Item) (x : Option Lexeme) → switch_pays x (switch k items x) ≡ true
switches_pay kind.If [] (Some lexeme.KeyElse) = refl
switches_pay kind.For (Literal lexeme.KeyTo ∷ m) (Some lexeme.KeyDownto) = refl
switches_pay kind.Stmts [] (Some lexeme.Semicolon) = refl
switches_pay kind.Arms [] (Some lexeme.Semicolon) = refl
switches_pay kind.Fields [] (Some lexeme.Semicolon) = refl
switches_pay kind.Labels [] (Some lexeme.Comma) = refl
switches_pay kind.Indexes [] (Some lexeme.Comma) = refl
switches_pay kind.Exprs [] (Some lexeme.Comma) = refl
switches_pay kind.Accesses [] (Some lexeme.Comma) = refl
switches_pay kind.Members [] (Some lexeme.Comma) = refl
switches_pay kind.Names [] (Some lexeme.Comma) = refl
switches_pay kind.Args (Literal lexeme.CloseParen ∷ []) (Some lexeme.Comma) = refl
switches_pay kind.Params (Literal lexeme.CloseParen ∷ []) (Some lexeme.Semicolon) = refl
switches_pay kind.Heads (Literal lexeme.CloseParen ∷ []) (Some lexeme.Comma) = refl
switches_pay _ _ _ = refl

recasts_pay : (k : Kind) (items : List Item) (x : Option Lexeme) → recast_pays (items_energy (node_energy k) items) (recast k items x) ≡ true
recasts_pay kind.Funbody (Literal lexeme.Semicolon ∷ Kid class.Block ∷ Literal lexeme.Semicolon ∷ []) (Some lexeme.OpenParen) = refl
recasts_pay kind.Funbody (Literal lexeme.Semicolon ∷ Kid class.Block ∷ Literal lexeme.Semicolon ∷ []) (Some lexeme.Colon) = refl
recasts_pay kind.Record (Kid class.Fields ∷ Literal lexeme.KeyEnd ∷ []) (Some lexeme.KeyEnd) = refl
recasts_pay _ _ _ = refl

-- a list that ends in front of its last separator is worth more than the node below past its last `;`
closes_pay : (i : Kind) (l : List Item) (k : Kind) (m : List Item) → closes i l k m ≡ true → items_energy (node_energy k) (Literal lexeme.KeyEnd ∷ []) < items_energy (node_energy i) l
closes_pay kind.Arms (Kid class.Arm ∷ []) kind.Case (Kid class.Arms ∷ Literal lexeme.KeyEnd ∷ []) h = omega arith
closes_pay kind.Fields (Kid class.Field ∷ []) kind.Record (Kid class.Fields ∷ Literal lexeme.KeyEnd ∷ []) h = omega arith
closes_pay _ _ _ _ h = cc

-- a kid of the class is worth more than what was kept back for it
gives_pay : (c : Class) (k : Kind) → has c k ≡ true → kept_back c < node_energy k
gives_pay c k h =
    let by_class : each (λ j. implies (has c j) (ltb (kept_back c) (node_energy j))) all_kinds ≡ true =
    at_class (λ b. each (λ j. implies (has b j) (ltb (kept_back b) (node_energy j))) all_kinds) c refl in
    ltb-true _ _ (implies_true _ _ (at_kind (λ j. implies (has c j) (ltb (kept_back c) (node_energy j))) k by_class) h)

same_some : (y : Lexeme) (x : Option Lexeme) → same_at y x ≡ true → is_some x ≡ true
same_some y None h = cc
same_some y (Some x) h = refl

abbrev class_or : Class → Option (Class × List Item) → Class
class_or d None = d
class_or d (Some p) = p.0

abbrev items_or : List Item → Option (Class × List Item) → List Item
items_or n None = n
items_or n (Some p) = p.1

module _ {A : Type 0} (make : Kind → List ℕ → List A → A) where
  start_falls : (g : Start) (x : Option Lexeme) (w : List ℕ) (fs : List (Frame A)) (e : ℕ) → start_pays e x g ≡ true → Falls (on_start make g w fs) x (e + below_energy fs)
  start_falls (Leaf k) x w fs e h = go (leaf_word k w)
    where
      go : (b : Bool) → Falls (on_leaf make b k w fs) x (e + below_energy fs)
      go true = let p : (is_some x ≡ true) × (ltb (node_energy k) (e + 20) ≡ true) = &&_split _ _ h in (p.0, omega (arith, ltb-true _ _ p.1))
      go false = tt
  start_falls (Open k v m) x w fs e h = let p : (is_some x ≡ true) × (ltb (items_energy (node_energy k) m) (e + 20) ≡ true) = &&_split _ _ h in (p.0, omega (arith, ltb-true _ _ p.1))
  start_falls (Predict k m) x w fs e h = omega (arith, ltb-true _ _ h)
  start_falls (Blank k) x w fs e h = omega (arith, ltb-true _ _ h)
  start_falls NoStart x w fs e h = tt

  -- what is worth less than a is worth less than b
  falls_below : (p : Plan A) (x : Option Lexeme) (a b : ℕ) → a ≤ b → Falls p x a → Falls p x b
  falls_below (Stay st) x a b le h = omega (arith, le, h)
  falls_below (Take st) x a b le h = (h.0, omega (arith, le, h.1))
  falls_below (End t) x a b le h = h
  falls_below Stuck x a b le h = tt

  switch_falls : (o : Option (Kind × List Item)) (other : Plan A) (f : Frame A) (fs : List (Frame A)) (x : Option Lexeme) (n : ℕ)
      → switch_pays x o ≡ true → Falls other x (n + below_energy fs) → Falls (on_switch make o other f fs) x (n + below_energy fs)
  switch_falls None other f fs x n pays h = h
  switch_falls (Some p) other f fs x n pays h =
      let q : (is_some x ≡ true) × (ltb (items_energy (node_energy p.0) p.1) 20 ≡ true) = &&_split _ _ pays in
      (q.0, omega (arith, ltb-true _ _ q.1))

  recast_falls : (o : Option (Kind × List Item)) (other : Plan A) (f : Frame A) (fs : List (Frame A)) (x : Option Lexeme) (n : ℕ)
      → recast_pays n o ≡ true → Falls other x (n + below_energy fs) → Falls (on_recast make o other f fs) x (n + below_energy fs)
  recast_falls None other f fs x n h i = i
  recast_falls (Some p) other f fs x n h i = omega (arith, ltb-true _ _ h)

  close_falls : (items : List Item) (f : Frame A) (fs : List (Frame A)) (x : Option Lexeme) → Falls (at_close make items f fs) x (items_energy (node_energy f.kind) items + below_energy fs)
  close_falls items f [] x = tt
  close_falls items f (g ∷ fs) x = go (has_kids f.kids && closes f.kind items g.kind g.items) refl
    where
      go : (b : Bool) → has_kids f.kids && closes f.kind items g.kind g.items ≡ b → Falls (on_close make b f g fs) x (items_energy (node_energy f.kind) items + below_energy (g ∷ fs))
      go true h =
          let less : items_energy (node_energy g.kind) (Literal lexeme.KeyEnd ∷ []) < items_energy (node_energy f.kind) items = closes_pay f.kind items g.kind g.items (&&_split _ _ h).1 in
          omega (arith, less)
      go false h = tt

  kid_starts : (g : Start) (other : Plan A) (w : List ℕ) (fs : List (Frame A)) (x : Option Lexeme) (e : ℕ) → Falls (on_start make g w fs) x e → Falls other x e → Falls (on_kid make g other w fs) x e
  kid_starts (Leaf k) other w fs x e h i = h
  kid_starts (Open k v m) other w fs x e h i = h
  kid_starts (Predict k m) other w fs x e h i = h
  kid_starts (Blank k) other w fs x e h i = h
  kid_starts NoStart other w fs x e h i = i

  again_falls : (o : Option Class) (f : Frame A) (fs : List (Frame A)) (x : Option Lexeme) (w : List ℕ)
      → again_pays f.kind x o ≡ true → Falls (on_again make o x w f fs) x (suc (node_energy f.kind) + below_energy fs)
  again_falls None f fs x w h = omega arith
  again_falls (Some c) f fs x w h =
      let p : (ltb (kept_back c) (node_energy f.kind + 2) ≡ true) × (start_pays (kept_back c) x (start c x) ≡ true) = &&_split _ _ h in
      let g = frame f.kind f.word f.kids (Kid c ∷ []) in
      falls_below _ x (kept_back c + below_energy (g ∷ fs)) (suc (node_energy f.kind) + below_energy fs) (omega (arith, ltb-true _ _ p.0)) (start_falls (start c x) x w (g ∷ fs) (kept_back c) p.1)

  items_fall : (items : List Item) (f : Frame A) (fs : List (Frame A)) (x : Option Lexeme) (w : List ℕ) → f.items ≡ items
      → Falls (at_items make items f fs x w) x (items_energy (node_energy f.kind) items + below_energy fs)
  items_fall [] f fs x w e =
      switch_falls (switch f.kind [] x) (on_again make (again f.kind x) x w f fs) f fs x (suc (node_energy f.kind)) (switches_pay f.kind [] x) (again_falls (again f.kind x) f fs x w (agains_pay f.kind x))
  items_fall (Literal y ∷ m) f fs x w e = go (same_at y x) refl
    where
      go : (b : Bool) → same_at y x ≡ b
          → Falls (if b then Take (Reading (frame f.kind f.word f.kids m) fs) else on_switch make (switch f.kind (Literal y ∷ m) x) (on_recast make (recast f.kind (Literal y ∷ m) x) Stuck f fs) f fs) x (items_energy (node_energy f.kind) m - 15 + below_energy fs)
      go true h = (same_some y x h, omega arith)
      go false h =
          let n = items_energy (node_energy f.kind) m - 15 in
          switch_falls (switch f.kind (Literal y ∷ m) x) (on_recast make (recast f.kind (Literal y ∷ m) x) Stuck f fs) f fs x n (switches_pay f.kind (Literal y ∷ m) x)
          (recast_falls (recast f.kind (Literal y ∷ m) x) Stuck f fs x n (recasts_pay f.kind (Literal y ∷ m) x) tt)
  items_fall (Word y ∷ m) f fs x w e = tt
  items_fall (Kid c ∷ m) f fs x w e =
      let n = kid_energy c + items_energy (node_energy f.kind) m in
      kid_starts (start c x) (on_recast make (recast f.kind (Kid c ∷ m) x) (at_close make (Kid c ∷ m) f fs) f fs) w (f ∷ fs) x (n + below_energy fs)
      (falls_below _ x (kid_energy c + below_energy (f ∷ fs)) (n + below_energy fs) (rw e (omega arith)) (start_falls (start c x) x w (f ∷ fs) (kid_energy c) (starts_pay c x)))
      (recast_falls (recast f.kind (Kid c ∷ m) x) (at_close make (Kid c ∷ m) f fs) f fs x n (recasts_pay f.kind (Kid c ∷ m) x) (close_falls (Kid c ∷ m) f fs x))

  give_falls : (root : Class) (b : Bool) (c : Class) (k : Kind) (a : A) (m : List Item) (fs : List (Frame A)) (x : Option Lexeme)
      → (b ≡ true → kept_back c < node_energy k) → awaited_by root fs ≡ Some (c, m) → Falls (on_give make b a m fs x) x (node_energy k + below_energy fs)
  give_falls root false c k a m fs x pays e = tt
  give_falls root true c k a m [] None pays e = refl
  give_falls root true c k a m [] (Some y) pays e = tt
  give_falls root true c k a m (f ∷ fs) x pays e = omega (arith, pays refl, waiting f.items e)
    where
      waiting : (items : List Item) → awaited items ≡ Some (c, m) → waiting_energy (node_energy f.kind) items ≡ items_energy (node_energy f.kind) m - kept_back c
      waiting [] h = cc
      waiting (Literal y ∷ n) h = cc
      waiting (Word y ∷ n) h = cc
      waiting (Kid d ∷ n) h =
          let same_class : d ≡ c = ap (class_or d) h in
          let same_items : n ≡ m = ap (items_or n) h in
          rw (same_class, same_items) refl

  grow_falls : (root : Class) (g : Grow) (b : Bool) (c : Class) (k : Kind) (a : A) (m : List Item) (fs : List (Frame A)) (x : Option Lexeme)
      → grow_pays k x g ≡ true → (b ≡ true → kept_back c < node_energy k) → awaited_by root fs ≡ Some (c, m) → Falls (on_grow make g b a m fs x) x (node_energy k + below_energy fs)
  grow_falls root Give b c k a m fs x h pays e = give_falls root b c k a m fs x pays e
  grow_falls root (Wrap j) b c k a m fs x h pays e = omega (arith, ltb-true _ _ h)
  grow_falls root (Shift j v n) b c k a m fs x h pays e =
      let p : (is_some x ≡ true) × (ltb (items_energy (node_energy j) n) (node_energy k + 20) ≡ true) = &&_split _ _ h in
      (p.0, omega (arith, ltb-true _ _ p.1))
  grow_falls root (Enter j n) b c k a m fs x h pays e = omega (arith, ltb-true _ _ h)

  kid_falls : (root : Class) (o : Option (Class × List Item)) (k : Kind) (a : A) (fs : List (Frame A)) (x : Option Lexeme)
      → awaited_by root fs ≡ o → Falls (at_kid make o k a fs x) x (node_energy k + below_energy fs)
  kid_falls root None k a fs x e = tt
  kid_falls root (Some p) k a fs x e = grow_falls root (grow k p.0 x) (has p.0 k) p.0 k a p.1 fs x (grows_pay k p.0 x) (gives_pay p.0 k) e

  falls : (root : Class) (st : State A) (x : Option Lexeme) (w : List ℕ) → Falls (plan make root st x w) x (state_energy st)
  falls root Opening x w = falls_below _ x (20 + 0) 20 (omega arith) (start_falls (start root x) x w [] 20 (openings_pay root x))
  falls root (Reading f fs) x w = items_fall f.items f fs x w refl
  falls root (Holding k a fs) x w = kid_falls root (awaited_by root fs) k a fs x refl

  -- a step that leaves the symbol leaves less energy
  pub stay_falls : (root : Class) (st st2 : State A) (x : Option Lexeme) (w : List ℕ) (n : ℕ) → plan make root st x w ≡ Stay st2 → energy st2 n < energy st n
  stay_falls root st st2 x w n e =
      let h : Falls (plan make root st x w) x (state_energy st) = falls root st x w in
      let g : state_energy st2 < state_energy st = rw e at h in
      omega (arith, g)

  -- a step that takes a symbol has one to take
  pub take_has : (root : Class) (st st2 : State A) (x : Option Lexeme) (w : List ℕ) → plan make root st x w ≡ Take st2 → is_some x ≡ true
  take_has root st st2 x w e =
      let h : Falls (plan make root st x w) x (state_energy st) = falls root st x w in
      let g : (is_some x ≡ true) × (state_energy st2 < state_energy st + 20) = rw e at h in
      g.0

  -- and leaves less energy with the symbols after it
  pub take_falls : (root : Class) (st st2 : State A) (x : Option Lexeme) (w : List ℕ) (n : ℕ) → plan make root st x w ≡ Take st2 → energy st2 n < energy st (suc n)
  take_falls root st st2 x w n e =
      let h : Falls (plan make root st x w) x (state_energy st) = falls root st x w in
      let g : (is_some x ≡ true) × (state_energy st2 < state_energy st + 20) = rw e at h in
      omega (arith, g.1)

  -- the same by the number before
  pub take_falls_by : (root : Class) (st st2 : State A) (x : Option Lexeme) (w : List ℕ) (n : ℕ) → 1 ≤ n → plan make root st x w ≡ Take st2 → energy st2 (n - 1) < energy st n
  take_falls_by root st st2 x w n le e =
      let h : Falls (plan make root st x w) x (state_energy st) = falls root st x w in
      let g : (is_some x ≡ true) × (state_energy st2 < state_energy st + 20) = rw e at h in
      omega (arith, g.1, le)

  -- a step that ends has no symbol left
  pub end_none : (root : Class) (st : State A) (t : A) (x : Option Lexeme) (w : List ℕ) → plan make root st x w ≡ End t → x ≡ None
  end_none root st t x w e = rw e at (falls root st x w)
