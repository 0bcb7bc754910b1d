-- The front of a node: what is read of it, and its next item.
use Rattle.std.proofs.Common.{◌≡◌, ℕ, suc, ◌+◌, Bool, true, false, ◌&&◌, not, List, [], ◌∷◌, ◌++◌, Some, refl, ap, sym, ◌∙◌, append_assoc, append-nil, add-zero, arith}
use Rattle.pc_syntax.specs.declared.lexeme.Lexeme.{Lexeme}
use Rattle.pc_syntax.specs.declared.kind.Kind.{Kind}
use Rattle.pc_syntax.specs.declared.kind.Kind.TheVariants as kind
use Rattle.pc_syntax.specs.declared.class.Class.{Class}
use Rattle.pc_syntax.specs.declared.item.Item.{Item}
use Rattle.pc_syntax.specs.declared.item.Item.TheVariants.{Literal, Word, Kid}
use Rattle.pc_syntax.specs.Plain.{Forest, Nil, Cons, Plain, forest_of, count, kinds}
use Rattle.pc_syntax.specs.Layout.{layout}
use Rattle.pc_syntax.specs.Classes.{has}
use Rattle.pc_syntax.specs.Symbols.{Sym, fill, texts, symbols, symbols_of}
use Rattle.pc_syntax.specs.WellFormed.{fits, opens, last_open, breaks_else_rule}
use Rattle.pc_parse.specs.Reading.{Good, IsGood}
use Rattle.pc_parse.specs.Machine.{Frame}
use Rattle.pc_parse.specs.Runs.{make_plain}
use Rattle.pc_parse.specs.Partial.{kids_in}
use Rattle.pc_parse.proofs.Entries.{&&_split}
use Rattle.pc_parse.proofs.SoundTables.{is_mark, marks, is_empty, has_else}

pub true-false : {A : Type 0} → true ≡ false → A
true-false h = cc

pub some_eq : {A : Type 0} (x y : A) → Some x ≡ Some y → x ≡ y
some_eq x y h = cc

abbrev pub mark : Lexeme → Sym
mark x = record { lexeme = x; spelling = [] }

-- an ifelse has its first two kids
abbrev pub past_second : Kind → Forest → Bool
past_second kind.Ifelse Nil = false
past_second kind.Ifelse (Cons k w ns ks Nil) = false
past_second kind.Ifelse (Cons k w ns ks (Cons j v ms js ts)) = true
past_second _ ks = true

-- A finished node.
pub record NodeOk (k : Kind) (t : Plain) : Type 0 where
  pub kind_is : t.kind ≡ k
  pub good : IsGood t

-- What is read of a node: pre is that part of its items, and text are its symbols.
pub record FrontOk (k : Kind) (w : List ℕ) (ks : Forest) (items pre : List Item) (text : List Sym) : Type 0 where
  pub laid : layout k w (count ks + kids_in items) ≡ Some (pre ++ items)
  pub fit : fits pre (kinds ks) ≡ true
  pub good : Good ks
  pub text_is : text ≡ fill pre w (texts ks)
  pub rule : breaks_else_rule k ks ≡ false
  pub past : past_second k ks ≡ true
  pub marked : marks items ≡ true
  pub begun : is_empty (pre ++ items) ≡ false

abbrev pub FrameOk : Frame Plain → List Item → List Sym → Type 0
FrameOk f pre text = FrontOk f.kind f.word (forest_of f.kids) f.items pre text

-- a tree after others
abbrev pub snoc : Forest → Plain → Forest
snoc Nil t = Cons t.kind t.word t.notes t.kids Nil
snoc (Cons j v ms js ts) t = Cons j v ms js (snoc ts t)

pub forest_of-push : (ts : List Plain) (t : Plain) → forest_of (ts ++ t ∷ []) ≡ snoc (forest_of ts) t
forest_of-push [] t = refl
forest_of-push (u ∷ ts) t = ap (Cons u.kind u.word u.notes u.kids) (forest_of-push ts t)

kinds-snoc : (ts : Forest) (t : Plain) → kinds (snoc ts t) ≡ kinds ts ++ t.kind ∷ []
kinds-snoc Nil t = refl
kinds-snoc (Cons j v ms js ts) t = ap (λ l. j ∷ l) (kinds-snoc ts t)

texts-snoc : (ts : Forest) (t : Plain) → texts (snoc ts t) ≡ texts ts ++ symbols_of t ∷ []
texts-snoc Nil t = refl
texts-snoc (Cons j v ms js ts) t = ap (λ l. symbols j v js ∷ l) (texts-snoc ts t)

count-snoc : (ts : Forest) (t : Plain) → count (snoc ts t) ≡ suc (count ts)
count-snoc Nil t = refl
count-snoc (Cons j v ms js ts) t = ap suc (count-snoc ts t)

good-snoc : (ts : Forest) (t : Plain) → Good ts → IsGood t → Good (snoc ts t)
good-snoc Nil t h g = g
good-snoc (Cons j v ms js ts) t h g = (h.0, h.1, h.2, h.3, good-snoc ts t h.4 g)

pub last_open-snoc : (ts : Forest) (t : Plain) → last_open (snoc ts t) ≡ opens t.kind (last_open t.kids)
last_open-snoc Nil t = refl
last_open-snoc (Cons j v ms js Nil) t = refl
last_open-snoc (Cons j v ms js (Cons i u ls is ts)) t = last_open-snoc (Cons i u ls is ts) t

rule-snoc : (k : Kind) (ts : Forest) (t : Plain) → breaks_else_rule k ts ≡ false → past_second k ts ≡ true → breaks_else_rule k (snoc ts t) ≡ false
rule-snoc kind.Ifelse Nil t h p = cc
rule-snoc kind.Ifelse (Cons a u ls hs Nil) t h p = cc
rule-snoc kind.Ifelse (Cons a u ls hs (Cons b v ms bs ts)) t h p = h
rule-snoc _ ts t h p = h

past-snoc : (k : Kind) (ts : Forest) (t : Plain) → past_second k ts ≡ true → past_second k (snoc ts t) ≡ true
past-snoc kind.Ifelse Nil t p = cc
past-snoc kind.Ifelse (Cons a u ls hs Nil) t p = cc
past-snoc kind.Ifelse (Cons a u ls hs (Cons b v ms bs ts)) t p = refl
past-snoc _ ts t p = p

pub rule_nil : (k : Kind) → breaks_else_rule k Nil ≡ false
rule_nil kind.Empty = refl
rule_nil _ = refl

pub rule_one : (k : Kind) (t : Plain) → breaks_else_rule k (forest_of (t ∷ [])) ≡ false
rule_one kind.Empty t = refl
rule_one _ t = refl

pub past_never : (k : Kind) (ks : Forest) → not (has_else k) ≡ true → past_second k ks ≡ true
past_never kind.Ifelse ks h = cc
past_never _ ks h = refl

pub fits-more : (pre l : List Item) (ks js : List Kind) → fits pre ks ≡ true → fits l js ≡ true → fits (pre ++ l) (ks ++ js) ≡ true
fits-more [] l [] js h e = e
fits-more [] l (k ∷ ks) js h e = cc
fits-more (Literal x ∷ pre) l ks js h e = fits-more pre l ks js h e
fits-more (Word x ∷ pre) l ks js h e = fits-more pre l ks js h e
fits-more (Kid c ∷ pre) l [] js h e = cc
fits-more (Kid c ∷ pre) l (k ∷ ks) js h e = let p : (has c k ≡ true) × (fits pre ks ≡ true) = &&_split _ _ h in rw (p.0, fits-more pre l ks js p.1 e) refl

pub fill-more : (pre l : List Item) (w : List ℕ) (ts : Forest) (us : List (List Sym)) → fits pre (kinds ts) ≡ true
    → fill (pre ++ l) w (texts ts ++ us) ≡ fill pre w (texts ts) ++ fill l w us
fill-more [] l w Nil us h = refl
fill-more [] l w (Cons k v ns ks ts) us h = cc
fill-more (Literal x ∷ pre) l w ts us h = ap (λ m. mark x ∷ m) (fill-more pre l w ts us h)
fill-more (Word x ∷ pre) l w ts us h = ap (λ m. record { lexeme = x; spelling = w } ∷ m) (fill-more pre l w ts us h)
fill-more (Kid c ∷ pre) l w Nil us h = cc
fill-more (Kid c ∷ pre) l w (Cons k v ns ks ts) us h =
    let p : (has c k ≡ true) × (fits pre (kinds ts) ≡ true) = &&_split _ _ h in
    ap (λ m. symbols k v ks ++ m) (fill-more pre l w ts us p.1) ∙ sym (append_assoc (symbols k v ks) (fill pre w (texts ts)) (fill l w us))

-- a front takes its next kid
pub give_front : (k : Kind) (w : List ℕ) (ks : Forest) (c : Class) (m pre : List Item) (text : List Sym) (t : Plain)
    → FrontOk k w ks (Kid c ∷ m) pre text → has c t.kind ≡ true → IsGood t
    → FrontOk k w (snoc ks t) m (pre ++ Kid c ∷ []) (text ++ symbols_of t)
give_front k w ks c m pre text t ok member good = record {
  laid = laid_is;
  fit = rw kinds-snoc (fits-more pre (Kid c ∷ []) (kinds ks) (t.kind ∷ []) ok.fit (rw member refl));
  good = good-snoc ks t ok.good good;
  text_is = text_eq;
  rule = rule-snoc k ks t ok.rule ok.past;
  past = past-snoc k ks t ok.past;
  marked = ok.marked;
  begun = rw (append_assoc pre (Kid c ∷ []) m) ok.begun;
}
  where
    number : count (snoc ks t) + kids_in m ≡ count ks + suc (kids_in m)
    number = omega (arith, count-snoc ks t)

    laid_is : layout k w (count (snoc ks t) + kids_in m) ≡ Some ((pre ++ Kid c ∷ []) ++ m)
    laid_is = rw (number, append_assoc pre (Kid c ∷ []) m) ok.laid

    text_eq : text ++ symbols_of t ≡ fill (pre ++ Kid c ∷ []) w (texts (snoc ks t))
    text_eq = rw (texts-snoc ks t, fill-more pre (Kid c ∷ []) w ks (symbols_of t ∷ []) ok.fit, ok.text_is, append-nil (symbols_of t)) refl

pub filled : (pre : List Item) (x : Lexeme) (w : List ℕ) (ks : Forest) (text : List Sym) → fits pre (kinds ks) ≡ true → text ≡ fill pre w (texts ks)
    → text ++ mark x ∷ [] ≡ fill (pre ++ Literal x ∷ []) w (texts ks)
filled pre x w ks text fit text_is =
    let e : fill (pre ++ Literal x ∷ []) w (texts ks ++ []) ≡ fill pre w (texts ks) ++ mark x ∷ [] = fill-more pre (Literal x ∷ []) w ks [] fit in
    rw text_is (sym (rw (append-nil (texts ks)) at e))

-- a front takes a symbol, and may be that of another kind from there
pub mark_front : (j : Kind) (w : List ℕ) (ks : Forest) (items : List Item) (x : Lexeme) (k : Kind) (m pre : List Item) (text : List Sym)
    → FrontOk j w ks items pre text → layout k w (count ks + kids_in m) ≡ Some ((pre ++ Literal x ∷ []) ++ m) → breaks_else_rule k ks ≡ false → past_second k ks ≡ true → marks m ≡ true
    → FrontOk k w ks m (pre ++ Literal x ∷ []) (text ++ mark x ∷ [])
mark_front j w ks items x k m pre text ok laid rule past marked = record {
  laid = laid;
  fit = rw (append-nil (kinds ks)) at (fits-more pre (Literal x ∷ []) (kinds ks) [] ok.fit refl);
  good = ok.good;
  text_is = filled pre x w ks text ok.fit ok.text_is;
  rule = rule;
  past = past;
  marked = marked;
  begun = rw (append_assoc pre (Literal x ∷ []) m) (begins pre m);
}
  where
    begins : (l n : List Item) → is_empty (l ++ Literal x ∷ n) ≡ false
    begins [] n = refl
    begins (i ∷ l) n = refl

-- a front takes the symbol that is its next item
pub literal_front : (k : Kind) (w : List ℕ) (ks : Forest) (x : Lexeme) (m pre : List Item) (text : List Sym)
    → FrontOk k w ks (Literal x ∷ m) pre text → FrontOk k w ks m (pre ++ Literal x ∷ []) (text ++ mark x ∷ [])
literal_front k w ks x m pre text ok =
    let marked : is_mark x && marks m ≡ true = ok.marked in
    mark_front k w ks (Literal x ∷ m) x k m pre text ok (rw (append_assoc pre (Literal x ∷ []) m) ok.laid) ok.rule ok.past (&&_split _ _ marked).1

-- a front with no item left is a node
pub done_front : (k : Kind) (w : List ℕ) (ks : List Plain) (pre : List Item) (text : List Sym)
    → FrontOk k w (forest_of ks) [] pre text → NodeOk k (make_plain k w ks) × (symbols_of (make_plain k w ks) ≡ text)
done_front k w ks pre text ok = (record { kind_is = refl; good = (rw laid ok.fit, ok.rule, refl, ok.good, tt) }, rw laid (sym ok.text_is))
  where
    laid : layout k w (count (forest_of ks)) ≡ Some pre
    laid = rw (add-zero (count (forest_of ks)), append-nil pre) at ok.laid
