-- Sound states: what the machine holds, and what its frames hold, has the symbols that it has taken. A node that begins and a node that grows keep them sound.
use Rattle.std.proofs.Common.{◌≡◌, ℕ, suc, ◌+◌, Bool, true, false, not, List, [], ◌∷◌, ◌++◌, Option, Some, None, refl, ap, sym, ◌∙◌, append_assoc, append-nil, zero-add, arith}
use Rattle.pc_syntax.specs.declared.lexeme.Lexeme.{Lexeme}
use Rattle.pc_syntax.specs.declared.lexeme.Lexeme.TheVariants as lexeme
use Rattle.pc_syntax.specs.declared.kind.Kind.{Kind}
use Rattle.pc_syntax.specs.declared.kind.Kind.TheVariants as kind
use Rattle.pc_syntax.specs.declared.class.Class.{Class}
use Rattle.pc_syntax.specs.declared.item.Item.{Item}
use Rattle.pc_syntax.specs.declared.item.Item.TheVariants.{Literal, Kid}
use Rattle.pc_syntax.specs.Plain.{Nil, Plain, forest_of}
use Rattle.pc_syntax.specs.Layout.{layout}
use Rattle.pc_syntax.specs.Classes.{has}
use Rattle.pc_syntax.specs.Symbols.{Sym, symbols_of}
use Rattle.pc_syntax.specs.WellFormed.{opens}
use Rattle.pc_syntax.specs.Words.{is_identifier, is_forward, is_numeral, is_text}
use Rattle.pc_parse.specs.Reading.{ReadsBare}
use Rattle.pc_parse.specs.Lookahead.{look, word_at}
use Rattle.pc_parse.specs.Tables.{Start, Leaf, Open, Predict, Blank, NoStart, Grow, Give, Wrap, Shift, Enter}
use Rattle.pc_parse.specs.Machine.{Frame, State, Opening, Reading, Holding, leaf_word, on_leaf, on_start, on_give, on_grow, awaited}
use Rattle.pc_parse.specs.Runs.{make_plain, Step, Go, Accept, Refuse, apply}
use Rattle.pc_parse.specs.Proper
use Rattle.pc_parse.specs.Proper.{proper, Proper}
use Rattle.pc_parse.specs.Partial.{kids_in}
use Rattle.pc_parse.proofs.Entries.{&&_split}
use Rattle.pc_parse.proofs.Items.{same_eq}
use Rattle.pc_parse.proofs.SoundTables.{corner, is_mark, is_word, is_empty, start_ok, grow_ok, lays_eq, first_kid_eq}
use Rattle.pc_parse.proofs.SoundFrames.{true-false, mark, NodeOk, FrameOk, rule_nil, rule_one, past_never}
use Rattle.pc_parse.proofs.SoundSwitches.{Calm, Quiet, opens_less}

-- The kid that is awaited can begin with a node of kind k.
pub record Awaits (o : Option (Class × List Item)) (k : Kind) : Type 0 where
  pub class : Class
  pub more : List Item
  pub awaited_is : o ≡ Some (class, more)
  pub fits_corner : corner class k ≡ true

-- The frames below a node of kind k, and the symbols that they have read.
abbrev pub BelowOk : Class → Kind → List (Frame Plain) → List Sym → Type 0
BelowOk root k [] used = (corner root k ≡ true) × (used ≡ [])
BelowOk root k (f ∷ fs) used =
    (pre : List Item) × (before : List Sym) × (text : List Sym) × FrameOk f pre text × Awaits (awaited f.items) k × BelowOk root f.kind fs before × (used ≡ before ++ text)

pub record ReadingOk (root : Class) (f : Frame Plain) (fs : List (Frame Plain)) (used : List Sym) (x : Option Lexeme) : Type 0 where
  pub pre : List Item
  pub before : List Sym
  pub text : List Sym
  pub front : FrameOk f pre text
  pub below : BelowOk root f.kind fs before
  pub used_is : used ≡ before ++ text
  pub calm : Calm pre (forest_of f.kids) x

pub record HoldingOk (root : Class) (k : Kind) (t : Plain) (fs : List (Frame Plain)) (used : List Sym) (x : Option Lexeme) : Type 0 where
  pub before : List Sym
  pub node : NodeOk k t
  pub below : BelowOk root k fs before
  pub used_is : used ≡ before ++ symbols_of t
  pub quiet : Quiet k t.kids x

abbrev pub Sound : Class → State Plain → List Sym → Option Lexeme → Type 0
Sound root Opening used x = used ≡ []
Sound root (Reading f fs) used x = ReadingOk root f fs used x
Sound root (Holding k t fs) used x = HoldingOk root k t fs used x

-- What a step leads to, where the whole input is given.
abbrev pub StepOk : Class → List Sym → Step → Type 0
StepOk root whole (Go st ys) = (used : List Sym) × (used ++ ys ≡ whole) × Proper ys × Sound root st used (look ys)
StepOk root whole (Accept t) = ReadsBare root t whole
StepOk root whole (Refuse ys) = Unit {0}

one_add : (n : ℕ) → 1 + n ≡ suc n
one_add n = omega arith

empty_word : (w : List ℕ) → Proper.is_empty w ≡ true → w ≡ []
empty_word [] h = refl
empty_word (b ∷ w) h = cc

-- a key word or a mark has no spelling
mark_empty : (x : Lexeme) (w : List ℕ) → is_mark x ≡ true → proper x w ≡ true → Proper.is_empty w ≡ true
mark_empty lexeme.Identifier w h p = cc
mark_empty lexeme.Numeral w h p = cc
mark_empty lexeme.Text w h p = cc
mark_empty _ w h p = p

pub marked_symbol : (y : Sym) → is_mark y.lexeme ≡ true → proper y.lexeme y.spelling ≡ true → mark y.lexeme ≡ y
marked_symbol y h p = ap (λ w. record { lexeme = y.lexeme; spelling = w }) (sym (empty_word y.spelling (mark_empty y.lexeme y.spelling h p)))

pub one_more : (used : List Sym) (y z : Sym) (ys whole : List Sym) → y ≡ z → used ++ z ∷ ys ≡ whole → (used ++ y ∷ []) ++ ys ≡ whole
one_more used y z ys whole e h = append_assoc used (y ∷ []) ys ∙ ap (λ s. used ++ s ∷ ys) e ∙ h

-- a leaf, with the spelling of its symbol as its word
word_node : (k : Kind) (x : Lexeme) (w : List ℕ) → is_word k (Some x) ≡ true → leaf_word k w ≡ true → proper x w ≡ true
    → NodeOk k (make_plain k w []) × (symbols_of (make_plain k w []) ≡ record { lexeme = x; spelling = w } ∷ []) × (opens k false ≡ false)
word_node kind.Name x w h l p =
    let e : lexeme.Identifier ≡ x = same_eq lexeme.Identifier x h in
    let q : is_identifier w ≡ true = rw (← e) at p in
    rw (← e) (record { kind_is = refl; good = (rw q refl, refl, refl, tt, tt) }, rw q refl, refl)
word_node kind.Number x w h l p =
    let e : lexeme.Numeral ≡ x = same_eq lexeme.Numeral x h in
    let q : is_numeral w ≡ true = rw (← e) at p in
    rw (← e) (record { kind_is = refl; good = (rw q refl, refl, refl, tt, tt) }, rw q refl, refl)
word_node kind.Text x w h l p =
    let e : lexeme.Text ≡ x = same_eq lexeme.Text x h in
    let q : is_text w ≡ true = rw (← e) at p in
    rw (← e) (record { kind_is = refl; good = (rw q refl, refl, refl, tt, tt) }, rw q refl, refl)
word_node kind.Cnumber x w h l p =
    let e : lexeme.Numeral ≡ x = same_eq lexeme.Numeral x h in
    let q : is_numeral w ≡ true = rw (← e) at p in
    rw (← e) (record { kind_is = refl; good = (rw q refl, refl, refl, tt, tt) }, rw q refl, refl)
word_node kind.Cstring x w h l p =
    let e : lexeme.Text ≡ x = same_eq lexeme.Text x h in
    let q : is_text w ≡ true = rw (← e) at p in
    rw (← e) (record { kind_is = refl; good = (rw q refl, refl, refl, tt, tt) }, rw q refl, refl)
word_node kind.Forward x w h l p =
    let e : lexeme.Identifier ≡ x = same_eq lexeme.Identifier x h in
    let q : is_forward w ≡ true = l in
    rw (← e) (record { kind_is = refl; good = (rw q refl, refl, refl, tt, tt) }, rw q refl, refl)
word_node _ x w h l p = cc

no_word : (k : Kind) → is_word k None ≡ false
no_word kind.Name = refl
no_word _ = refl

begun_empty : (m : List Item) → not (is_empty m) ≡ true → is_empty m ≡ false
begun_empty [] h = cc
begun_empty (i ∷ m) h = refl

not_false : (b : Bool) → not b ≡ true → b ≡ false
not_false true h = cc
not_false false h = refl

-- any node that can begin a kid of the class may stand above these frames
abbrev pub Below : Class → Class → List (Frame Plain) → List Sym → Type 0
Below root c fs used = (k : Kind) → corner c k ≡ true → BelowOk root k fs used

-- a node begins
pub on_start_ok : (root c : Class) (fs : List (Frame Plain)) (g : Start) (whole used ys : List Sym)
    → Below root c fs used → used ++ ys ≡ whole → Proper ys → start_ok c (look ys) g ≡ true → StepOk root whole (apply (on_start make_plain g (word_at ys) fs) ys)
on_start_ok root c fs (Leaf k) whole used [] below split clean ok = true-false (sym (&&_split _ _ ok).0 ∙ no_word k)
on_start_ok root c fs (Leaf k) whole used (y ∷ ys) below split clean ok = go (leaf_word k y.spelling) refl
  where
    go : (b : Bool) → leaf_word k y.spelling ≡ b → StepOk root whole (apply (on_leaf make_plain b k y.spelling fs) (y ∷ ys))
    go false e = tt
    go true e =
        let p : (is_word k (Some y.lexeme) ≡ true) × (corner c k ≡ true) = &&_split _ _ ok in
        let n = word_node k y.lexeme y.spelling p.0 e clean.0 in (
          used ++ y ∷ [],
          one_more used y y ys whole refl split,
          clean.1,
          record { before = used; node = n.0; below = below k p.1; used_is = ap (λ l. used ++ l) (sym n.1); quiet = record { closed = λ _. n.2 } },
        )
on_start_ok root c fs (Open k v m) whole used [] below split clean ok = cc
on_start_ok root c fs (Open k v m) whole used (y ∷ ys) below split clean ok =
    let p = &&_split _ _ ok in
    let q = &&_split _ _ p.0 in
    let r = &&_split _ _ q.0 in
    let s = &&_split _ _ r.0 in (
      used ++ mark y.lexeme ∷ [],
      one_more used (mark y.lexeme) y ys whole (marked_symbol y s.0 clean.0) split,
      clean.1,
      record {
        pre = Literal y.lexeme ∷ [];
        before = used;
        text = mark y.lexeme ∷ [];
        front = record { laid = rw zero-add (lays_eq _ _ p.1); fit = refl; good = tt; text_is = refl; rule = rule_nil k; past = past_never k Nil r.1; marked = q.1; begun = refl };
        below = below k s.1;
        used_is = refl;
        calm = record { closed = λ h e. true-false (sym h) };
      },
    )
on_start_ok root c fs (Predict k m) whole used ys below split clean ok =
    let p = &&_split _ _ ok in
    let q = &&_split _ _ p.0 in
    let r = &&_split _ _ q.0 in
    let s = &&_split _ _ r.0 in (
      used,
      split,
      clean,
      record {
        pre = [];
        before = used;
        text = [];
        front = record { laid = rw zero-add (lays_eq _ _ p.1); fit = refl; good = tt; text_is = refl; rule = rule_nil k; past = past_never k Nil s.1; marked = q.1; begun = begun_empty m r.1 };
        below = below k s.0;
        used_is = sym (append-nil used);
        calm = record { closed = λ h e. true-false (sym h) };
      },
    )
on_start_ok root c fs (Blank k) whole used ys below split clean ok =
    let p = &&_split _ _ ok in
    let q = &&_split _ _ p.0 in
    let laid : layout k [] 0 ≡ Some [] = lays_eq _ _ p.1 in
    let grammar : layout k [] 0 ≡ Some [] = laid in (
      used,
      split,
      clean,
      record {
        before = used;
        node = record { kind_is = refl; good = (rw laid refl, rule_nil k, refl, tt, tt) };
        below = below k q.0;
        used_is = rw grammar (sym (append-nil used));
        quiet = record { closed = λ _. not_false _ q.1 };
      },
    )
on_start_ok root c fs NoStart whole used ys below split clean ok = tt

-- a finished node is given, wrapped or made the first kid of another
pub on_grow_ok : (root c : Class) (k : Kind) (t : Plain) (fs : List (Frame Plain)) (m : List Item) (g : Grow) (b : Bool) (whole used before ys : List Sym)
    → NodeOk k t → Quiet k t.kids (look ys) → Below root c fs before → used ≡ before ++ symbols_of t
    → StepOk root whole (apply (on_give make_plain b t m fs (look ys)) ys)
    → used ++ ys ≡ whole → Proper ys → grow_ok c k (look ys) g ≡ true
    → StepOk root whole (apply (on_grow make_plain g b t m fs (look ys)) ys)
on_grow_ok root c k t fs m Give b whole used before ys node quiet below used_is given split clean ok = given
on_grow_ok root c k t fs m (Wrap j) b whole used before ys node quiet below used_is given split clean ok =
    let p = &&_split _ _ ok in
    let q = &&_split _ _ p.0 in
    let d = first_kid_eq (layout j [] 1) k [] p.1 in
    let laid : layout j [] 1 ≡ Some (Kid d.0 ∷ []) = d.1 in
    let grammar : layout j [] 1 ≡ Some (Kid d.0 ∷ []) = laid in
    let member : has d.0 t.kind ≡ true = rw node.kind_is d.2 in (
      used,
      split,
      clean,
      record {
        before = before;
        node = record { kind_is = refl; good = (rw (laid, member) refl, rule_one j t, refl, node.good, tt) };
        below = below j q.0;
        used_is = rw (grammar, append-nil (symbols_of t)) used_is;
        quiet = record { closed = λ e. opens_less j _ q.1 };
      },
    )
on_grow_ok root c k t fs m (Shift j v n) b whole used before [] node quiet below used_is given split clean ok = cc
on_grow_ok root c k t fs m (Shift j v n) b whole used before (y ∷ ys) node quiet below used_is given split clean ok =
    let p = &&_split _ _ ok in
    let q = &&_split _ _ p.0 in
    let r = &&_split _ _ q.0 in
    let s = &&_split _ _ r.0 in
    let d = first_kid_eq (layout j v (suc (kids_in n))) k (Literal y.lexeme ∷ n) p.1 in
    let laid : layout j v (suc (kids_in n)) ≡ Some (Kid d.0 ∷ Literal y.lexeme ∷ n) = d.1 in
    let member : has d.0 t.kind ≡ true = rw node.kind_is d.2 in (
      used ++ mark y.lexeme ∷ [],
      one_more used (mark y.lexeme) y ys whole (marked_symbol y s.0 clean.0) split,
      clean.1,
      record {
        pre = Kid d.0 ∷ Literal y.lexeme ∷ [];
        before = before;
        text = symbols_of t ++ mark y.lexeme ∷ [];
        front = record { laid = rw (one_add (kids_in n)) laid; fit = rw member refl; good = node.good; text_is = refl; rule = rule_one j t; past = past_never j _ r.1; marked = q.1; begun = refl };
        below = below j s.1;
        used_is = rw used_is (append_assoc before (symbols_of t) (mark y.lexeme ∷ []));
        calm = record { closed = λ h e. true-false (sym h) };
      },
    )
on_grow_ok root c k t fs m (Enter j n) b whole used before ys node quiet below used_is given split clean ok =
    let p = &&_split _ _ ok in
    let q = &&_split _ _ p.0 in
    let r = &&_split _ _ q.0 in
    let d = first_kid_eq (layout j [] (suc (kids_in n))) k n p.1 in
    let laid : layout j [] (suc (kids_in n)) ≡ Some (Kid d.0 ∷ n) = d.1 in
    let member : has d.0 t.kind ≡ true = rw node.kind_is d.2 in (
      used,
      split,
      clean,
      record {
        pre = Kid d.0 ∷ [];
        before = before;
        text = symbols_of t ++ [];
        front = record { laid = rw (one_add (kids_in n)) laid; fit = rw member refl; good = node.good; text_is = refl; rule = rule_one j t; past = past_never j _ r.1; marked = q.1; begun = refl };
        below = below j r.0;
        used_is = rw (append-nil (symbols_of t)) used_is;
        calm = record { closed = λ h e. rw node.kind_is (quiet.closed e) };
      },
    )
