-- The ways in which a node begins, and what the items of a node say of its kids.
use Rattle.std.proofs.Common.{◌≡◌, ℕ, zero, suc, Bool, true, false, ◌&&◌, ◌||◌, not, List, [], ◌∷◌, ◌++◌, Option, Some, None, refl, ap, sym, ◌∙◌, append_assoc, append-nil, ◌⊎◌, inl, inr, eq-eqb}
use Rattle.pc_syntax.specs.declared.lexeme.Lexeme.{Lexeme}
use Rattle.pc_syntax.specs.declared.lexeme.Lexeme.TheVariants as lexeme
use Rattle.pc_syntax.specs.declared.kind.Kind.{Kind}
use Rattle.pc_syntax.specs.declared.class.Class.{Class}
use Rattle.pc_syntax.specs.declared.item.Item.{Item}
use Rattle.pc_syntax.specs.declared.item.Item.TheVariants.{Literal, Word, Kid}
use Rattle.pc_syntax.specs.Plain.{Forest, Nil, Cons, Plain, count, kinds}
use Rattle.pc_syntax.specs.Classes.{has}
use Rattle.pc_syntax.specs.Layout.{layout, further}
use Rattle.pc_syntax.specs.Symbols.{Sym, fill, texts, symbols}
use Rattle.pc_syntax.specs.WellFormed.{fits, opens, last_open}
use Rattle.pc_parse.specs.Lookahead.{same, look, lexeme_number}
use Rattle.pc_parse.specs.Tables.{Leaf, Open, Predict, Blank, start, Wrap, Enter, grow, switch}
use Rattle.pc_parse.specs.Machine.{Frame, frame, State, Reading, Holding, leaf_word, awaited_by}
use Rattle.pc_parse.specs.Runs.{Go, step}
use Rattle.pc_parse.proofs.Entries.{&&_split}
use Rattle.pc_parse.proofs.Follows.{corner, follow, tail, plain_class, free, plain_closed, free_follow}
use Rattle.pc_parse.proofs.TableTests.{same_look, Grows}
use Rattle.pc_parse.proofs.Leading.{Leads, one, onward}
use Rattle.pc_parse.proofs.Simulates.{bare, trees_back, Quiet, Begins, AllRead, Okay, Tracks, mark, kept_switch, halts, arrive, reads_items}

-- whether the symbol isn't else
abbrev pub not_else : Lexeme → Bool
not_else x = not (same_look (Some x) (Some lexeme.KeyElse))

-- what the items alone say of the symbols after kids; x stands behind the items
abbrev pub inner : List Item → Option Lexeme → Bool
inner [] x = true
inner (Literal y ∷ l) x = inner l x
inner (Word y ∷ l) x = inner l x
inner (Kid c ∷ []) x = follow c x
inner (Kid c ∷ Literal y ∷ l) x = follow c (Some y) && (plain_class c || not_else y) && inner l x
inner (Kid c ∷ Word y ∷ l) x = false
inner (Kid c ∷ Kid d ∷ l) x = free c && plain_class c && inner (Kid d ∷ l) x

-- whether the last kid of the items never ends open
abbrev pub plain_last : List Item → Bool
plain_last [] = true
plain_last (Literal x ∷ l) = plain_last l
plain_last (Word x ∷ l) = plain_last l
plain_last (Kid c ∷ []) = plain_class c
plain_last (Kid c ∷ Literal x ∷ l) = plain_last l
plain_last (Kid c ∷ Word x ∷ l) = plain_last l
plain_last (Kid c ∷ Kid d ∷ l) = plain_last (Kid d ∷ l)

either : (b : Bool) → (b ≡ true) ⊎ (b ≡ false)
either true = inl refl
either false = inr refl

pub true-false : {A : Type 0} → true ≡ false → A
true-false h = cc

pub quiet_plain : (c : Class) (k : Kind) (ks : Forest) (x : Option Lexeme) → has c k ≡ true → plain_class c ≡ true → Quiet k ks x
quiet_plain c k ks x h p = record { closed = λ _. plain_closed c k (last_open ks) h p }

-- a symbol that isn't else
pub quiet_before : (k : Kind) (ks : Forest) (y : Lexeme) → not_else y ≡ true → Quiet k ks (Some y)
quiet_before k ks y h = record { closed = λ e. true-false (sym h ∙ ap is_not_else e) }
  where
    is_not_else : Option Lexeme → Bool
    is_not_else x = not (same_look x (Some lexeme.KeyElse))

pub or_split : (a b : Bool) → a || b ≡ true → (a ≡ true) ⊎ (b ≡ true)
or_split true b h = inl refl
or_split false b h = inr h

quiet_either : (c : Class) (k : Kind) (ks : Forest) (y : Lexeme) → has c k ≡ true → plain_class c || not_else y ≡ true → Quiet k ks (Some y)
quiet_either c k ks y h b = go (or_split (plain_class c) (not_else y) b)
  where
    go : (plain_class c ≡ true) ⊎ (not_else y ≡ true) → Quiet k ks (Some y)
    go (inl p) = quiet_plain c k ks (Some y) h p
    go (inr p) = quiet_before k ks y p

quiet_last : (c : Class) (k : Kind) (ks : Forest) (x : Option Lexeme) → has c k ≡ true → (plain_class c ≡ false → x ≡ Some lexeme.KeyElse → opens k (last_open ks) ≡ false) → Quiet k ks x
quiet_last c k ks x h last = go (either (plain_class c))
  where
    go : (plain_class c ≡ true) ⊎ (plain_class c ≡ false) → Quiet k ks x
    go (inl p) = quiet_plain c k ks x h p
    go (inr p) = record { closed = λ i. last p i }

pub last_open_after : (k : Kind) (w : List ℕ) (ns : List (List ℕ)) (ks ts : Forest) → last_open (Cons k w ns ks ts) ≡ false → last_open ts ≡ false
last_open_after k w ns ks Nil h = refl
last_open_after k w ns ks (Cons j v ms js ts) h = h

pub okay_of : (l : List Item) (w : List ℕ) (ts : Forest) (rest : List Sym) → fits l (kinds ts) ≡ true → inner l (look rest) ≡ true
    → (plain_last l ≡ false → look rest ≡ Some lexeme.KeyElse → last_open ts ≡ false) → Okay l w ts rest
okay_of [] w ts rest fit h last = tt
okay_of (Literal x ∷ l) w ts rest fit h last = okay_of l w ts rest fit h last
okay_of (Word x ∷ l) w ts rest fit h last = okay_of l w ts rest fit h last
okay_of (Kid c ∷ []) w Nil rest fit h last = tt
okay_of (Kid c ∷ []) w (Cons k v ns ks Nil) rest fit h last =
    let member : has c k ≡ true = (&&_split _ _ fit).0 in
    (h, quiet_last c k ks (look rest) member last, tt)
okay_of (Kid c ∷ []) w (Cons k v ns ks (Cons j u ms js ts)) rest fit h last = true-false (sym (&&_split _ _ fit).1)
okay_of (Kid c ∷ Literal y ∷ l) w Nil rest fit h last = tt
okay_of (Kid c ∷ Literal y ∷ l) w (Cons k v ns ks ts) rest fit h last =
    let parts = &&_split _ _ h in
    let fit2 = &&_split _ _ fit in
    let front = &&_split _ _ parts.0 in
    (front.0, quiet_either c k ks y fit2.0 front.1, okay_of l w ts rest fit2.1 parts.1 (λ p i. last_open_after k v ns ks ts (last p i)))
okay_of (Kid c ∷ Word y ∷ l) w ts rest fit h last = cc
okay_of (Kid c ∷ Kid d ∷ l) w Nil rest fit h last = tt
okay_of (Kid c ∷ Kid d ∷ l) w (Cons k v ns ks ts) rest fit h last =
    let parts = &&_split _ _ h in
    let fit2 = &&_split _ _ fit in
    let front = &&_split _ _ parts.0 in
    let x = look (fill (Kid d ∷ l) w (texts ts) ++ rest) in
    (free_follow c x front.0, quiet_plain c k ks x fit2.0 front.1, okay_of (Kid d ∷ l) w ts rest fit2.1 parts.1 (λ p i. last_open_after k v ns ks ts (last p i)))

-- the node held after its items
pub whole : (root : Class) (l : List Item) (ks : Forest) (j : Kind) (n : List Item) (k : Kind) (w : List ℕ) (fs : List (Frame Plain)) (rest : List Sym)
    → AllRead ks → fits l (kinds ks) ≡ true → Okay l w ks rest → Tracks j n l k [] → halts k (look rest) ≡ true
    → Leads root (Reading (frame j w [] n) fs) (fill l w (texts ks) ++ rest) (Holding k (bare k w ks) fs) rest
whole root l ks j n k w fs rest all fit okay track end =
    arrive root _ _ _ _ _ (ap (λ us. Holding k (bare k w us) fs) (trees_back ks)) (reads_items root l ks j n k w [] fs rest all fit okay track end)

-- A node that begins with a symbol.
pub opened : (root : Class) (k : Kind) (w : List ℕ) (ks : Forest) (x : Lexeme) (l : List Item) (j : Kind) (n : List Item) (c : Class) (st : State Plain) (fs : List (Frame Plain)) (rest : List Sym)
    → layout k w (count ks) ≡ Some (Literal x ∷ l) → start c (Some x) ≡ Open j w n → Begins root st c fs (symbols k w ks ++ rest)
    → AllRead ks → fits l (kinds ks) ≡ true → Okay l w ks rest → Tracks j n l k [] → halts k (look rest) ≡ true
    → Leads root st (symbols k w ks ++ rest) (Holding k (bare k w ks) fs) rest
opened root k w ks x l j n c st fs rest made opening begins all fit okay track end =
    let more = fill l w (texts ks) ++ rest in
    let input : symbols k w ks ++ rest ≡ mark x ∷ more = rw made refl in
    let begun : Begins root st c fs (mark x ∷ more) = rw input at begins in
    let next : step root st (mark x ∷ more) ≡ Go (Reading (frame j w [] n) fs) more = begun (rw opening refl) ∙ rw opening refl in
    rw input (onward (one root _ _ _ _ next) (whole root l ks j n k w fs rest all fit okay track end))

-- A node that begins with a kid and then a symbol, where the kid is read first.
pub grown : (root : Class) (k : Kind) (w : List ℕ) (i : Kind) (v : List ℕ) (ns : List (List ℕ)) (is ts : Forest) (d : Class) (x : Lexeme) (l : List Item) (c : Class) (st : State Plain) (m : List Item) (fs : List (Frame Plain)) (rest : List Sym)
    → layout k w (count (Cons i v ns is ts)) ≡ Some (Kid d ∷ Literal x ∷ l) → Grows k w (Some x) l c i → not_else x ≡ true
    → Begins root st c fs (symbols k w (Cons i v ns is ts) ++ rest) → awaited_by root fs ≡ Some (c, m)
    → AllRead (Cons i v ns is ts) → fits l (kinds ts) ≡ true → Okay l w ts rest → Tracks k l l k [] → halts k (look rest) ≡ true
    → Leads root st (symbols k w (Cons i v ns is ts) ++ rest) (Holding k (bare k w (Cons i v ns is ts)) fs) rest
grown root k w i v ns is ts d x l c st m fs rest made grows quiet begins awaits all fit okay track end =
    let more = fill l w (texts ts) ++ rest in
    let input : symbols k w (Cons i v ns is ts) ++ rest ≡ symbols i v is ++ (mark x ∷ more) = rw made (append_assoc (symbols i v is) (mark x ∷ fill l w (texts ts)) rest) in
    let begun : Begins root st c fs (symbols i v is ++ (mark x ∷ more)) = rw input at begins in
    let next : step root (Holding i (bare i v is) fs) (mark x ∷ more) ≡ Go (Reading (frame k w (bare i v is ∷ []) l) fs) more = rw (awaits, grows.2) refl in
    rw (input, all.1)
    (onward (all.3.0 root c st m fs (mark x ∷ more) begun awaits grows.0 grows.1 (quiet_before i is x quiet))
    (onward (one root _ _ _ _ next)
    (arrive root _ _ _ _ _ (ap (λ us. Holding k (bare k w (Cons i v [] is us)) fs) (trees_back ts)) (reads_items root l ts k l k w (bare i v is ∷ []) fs rest all.4 fit okay track end))))

-- A node whose frame is made before its first kid is read.
pub predicted : (root : Class) (k : Kind) (w : List ℕ) (ks : Forest) (l n : List Item) (c : Class) (st : State Plain) (fs : List (Frame Plain)) (rest : List Sym)
    → layout k w (count ks) ≡ Some l → start c (look (symbols k w ks ++ rest)) ≡ Predict k n → w ≡ [] → Begins root st c fs (symbols k w ks ++ rest)
    → AllRead ks → fits l (kinds ks) ≡ true → Okay l w ks rest → Tracks k n l k [] → halts k (look rest) ≡ true
    → Leads root st (symbols k w ks ++ rest) (Holding k (bare k w ks) fs) rest
predicted root k w ks l n c st fs rest made opening no_word begins all fit okay track end =
    let more = fill l w (texts ks) ++ rest in
    let input : symbols k w ks ++ rest ≡ more = rw made refl in
    let next : step root st (symbols k w ks ++ rest) ≡ Go (Reading (frame k w [] n) fs) (symbols k w ks ++ rest) = begins (rw opening refl) ∙ rw (opening, no_word) refl in
    let next2 : step root st more ≡ Go (Reading (frame k w [] n) fs) more = rw input at next in
    rw input (onward (one root _ _ _ _ next2) (whole root l ks k n k w fs rest all fit okay track end))

-- A node of no symbol.
pub blank : (root : Class) (k : Kind) (c : Class) (st : State Plain) (fs : List (Frame Plain)) (rest : List Sym)
    → start c (look rest) ≡ Blank k → Begins root st c fs rest → Leads root st rest (Holding k (bare k [] Nil) fs) rest
blank root k c st fs rest opening begins = one root _ _ _ _ (begins (rw opening refl) ∙ rw opening refl)

-- A node of one symbol.
pub leaf : (root : Class) (k : Kind) (x : Lexeme) (w : List ℕ) (c : Class) (st : State Plain) (fs : List (Frame Plain)) (rest : List Sym)
    → layout k w 0 ≡ Some (Word x ∷ []) → start c (Some x) ≡ Leaf k → leaf_word k w ≡ true → Begins root st c fs (symbols k w Nil ++ rest)
    → Leads root st (symbols k w Nil ++ rest) (Holding k (bare k w Nil) fs) rest
leaf root k x w c st fs rest made opening word begins =
    let input : symbols k w Nil ++ rest ≡ record { lexeme = x; spelling = w } ∷ rest = rw made refl in
    let begun : Begins root st c fs (record { lexeme = x; spelling = w } ∷ rest) = rw input at begins in
    rw input (one root _ _ _ _ (begun (rw opening refl) ∙ rw (opening, word) refl))

-- A node of a kid alone.
pub wrapped : (root : Class) (k : Kind) (i : Kind) (v : List ℕ) (ns : List (List ℕ)) (is : Forest) (d c : Class) (st : State Plain) (m : List Item) (fs : List (Frame Plain)) (rest : List Sym)
    → layout k [] 1 ≡ Some (Kid d ∷ []) → corner c i ≡ true → tail c i (look rest) ≡ true → grow i c (look rest) ≡ Wrap k → Quiet i is (look rest)
    → Begins root st c fs (symbols k [] (Cons i v ns is Nil) ++ rest) → awaited_by root fs ≡ Some (c, m)
    → AllRead (Cons i v ns is Nil)
    → Leads root st (symbols k [] (Cons i v ns is Nil) ++ rest) (Holding k (bare k [] (Cons i v ns is Nil)) fs) rest
wrapped root k i v ns is d c st m fs rest made cor tl grows quiet begins awaits all =
    let input : symbols k [] (Cons i v ns is Nil) ++ rest ≡ symbols i v is ++ rest = rw (made, append-nil (symbols i v is)) refl in
    let begun : Begins root st c fs (symbols i v is ++ rest) = rw input at begins in
    let next : step root (Holding i (bare i v is) fs) rest ≡ Go (Holding k (bare k [] (Cons i v [] is Nil)) fs) rest = rw (awaits, grows) refl in
    rw (input, all.1)
    (onward (all.3.0 root c st m fs rest begun awaits cor tl quiet)
    (one root _ _ _ _ next))

-- A node that begins with a kid, where the kid is read first and a symbol that isn't taken tells what it begins.
pub entered : (root : Class) (k : Kind) (i : Kind) (v : List ℕ) (ns : List (List ℕ)) (is ts : Forest) (d : Class) (l : List Item) (c : Class) (st : State Plain) (m : List Item) (fs : List (Frame Plain)) (rest : List Sym)
    → layout k [] (count (Cons i v ns is ts)) ≡ Some (Kid d ∷ l) → corner c i ≡ true → tail c i (look (fill l [] (texts ts) ++ rest)) ≡ true
    → grow i c (look (fill l [] (texts ts) ++ rest)) ≡ Enter k l → Quiet i is (look (fill l [] (texts ts) ++ rest))
    → Begins root st c fs (symbols k [] (Cons i v ns is ts) ++ rest) → awaited_by root fs ≡ Some (c, m)
    → AllRead (Cons i v ns is ts) → fits l (kinds ts) ≡ true → Okay l [] ts rest → Tracks k l l k [] → halts k (look rest) ≡ true
    → Leads root st (symbols k [] (Cons i v ns is ts) ++ rest) (Holding k (bare k [] (Cons i v ns is ts)) fs) rest
entered root k i v ns is ts d l c st m fs rest made cor tl grows quiet begins awaits all fit okay track end =
    let more = fill l [] (texts ts) ++ rest in
    let input : symbols k [] (Cons i v ns is ts) ++ rest ≡ symbols i v is ++ more = rw made (append_assoc (symbols i v is) (fill l [] (texts ts)) rest) in
    let begun : Begins root st c fs (symbols i v is ++ more) = rw input at begins in
    let next : step root (Holding i (bare i v is) fs) more ≡ Go (Reading (frame k [] (bare i v is ∷ []) l) fs) more = rw (awaits, grows) refl in
    rw (input, all.1)
    (onward (all.3.0 root c st m fs more begun awaits cor tl quiet)
    (onward (one root _ _ _ _ next)
    (arrive root _ _ _ _ _ (ap (λ us. Holding k (bare k [] (Cons i v [] is us)) fs) (trees_back ts)) (reads_items root l ts k l k [] (bare i v is ∷ []) fs rest all.4 fit okay track end))))

abbrev pub no_words : List Item → Bool
no_words [] = true
no_words (Literal x ∷ l) = no_words l
no_words (Word x ∷ l) = false
no_words (Kid c ∷ l) = no_words l

same_refl : (x : Lexeme) → same x x ≡ true
same_refl x = eq-eqb (lexeme_number x) (lexeme_number x) refl

-- a node of one kind goes through its own items
pub tracks_self : (k : Kind) (l : List Item) → no_words l ≡ true → Tracks k l l k []
tracks_self k [] h = (refl, refl)
tracks_self k (Literal x ∷ l) h = rw (same_refl x) (tracks_self k l h)
tracks_self k (Word x ∷ l) h = cc
tracks_self k (Kid c ∷ l) h = (refl, tracks_self k l h)

-- lists: what a separator before each further element needs
pub inner_further : (sep : Lexeme) (c : Class) (n : ℕ) (close : List Item) (x : Option Lexeme) → follow c (Some sep) ≡ true → not_else sep ≡ true → inner (Kid c ∷ close) x ≡ true
    → inner (Kid c ∷ further (Some sep) c n close) x ≡ true
inner_further sep c zero close x f e last = last
inner_further sep c (suc n) close x f e last = rw (f, e, inner_further sep c n close x f e last) (or_true (plain_class c))
  where
    or_true : (b : Bool) → (true && (b || true)) && true ≡ true
    or_true true = refl
    or_true false = refl

pub plain_further : (sep : Option Lexeme) (c : Class) (n : ℕ) (close : List Item) → plain_last (Kid c ∷ close) ≡ true → plain_last (Kid c ∷ further sep c n close) ≡ true
plain_further None c zero close h = h
plain_further (Some x) c zero close h = h
plain_further None c (suc n) close h = plain_further None c n close h
plain_further (Some x) c (suc n) close h = plain_further (Some x) c n close h

-- a list without an end mark, and one that ends in a mark, each with separators
pub tracks_open : (k : Kind) (sep : Lexeme) (c : Class) (n : ℕ) → kept_switch (switch k [] (Some sep)) ≡ Some (k, (Kid c ∷ [])) → Tracks k [] (further (Some sep) c n []) k []
tracks_open k sep c zero e = (refl, refl)
tracks_open k sep c (suc n) e = rw e (refl, tracks_open k sep c n e)

pub tracks_closed : (k : Kind) (sep y : Lexeme) (c : Class) (n : ℕ) → same y sep ≡ false → kept_switch (switch k (Literal y ∷ []) (Some sep)) ≡ Some (k, (Kid c ∷ Literal y ∷ []))
    → Tracks k (Literal y ∷ []) (further (Some sep) c n (Literal y ∷ [])) k []
tracks_closed k sep y c zero d e = rw (same_refl y) (refl, refl)
tracks_closed k sep y c (suc n) d e = rw (d, e) (refl, tracks_closed k sep y c n d e)

-- A node that begins with a symbol and goes through its own items.
pub straight : (root : Class) (k : Kind) (w : List ℕ) (ks : Forest) (x : Lexeme) (l : List Item) (c : Class) (st : State Plain) (fs : List (Frame Plain)) (rest : List Sym)
    → layout k w (count ks) ≡ Some (Literal x ∷ l) → start c (Some x) ≡ Open k w l → no_words l ≡ true → Begins root st c fs (symbols k w ks ++ rest)
    → AllRead ks → fits l (kinds ks) ≡ true → inner l (look rest) ≡ true → (plain_last l ≡ false → look rest ≡ Some lexeme.KeyElse → last_open ks ≡ false) → halts k (look rest) ≡ true
    → Leads root st (symbols k w ks ++ rest) (Holding k (bare k w ks) fs) rest
straight root k w ks x l c st fs rest made opening wordless begins all fit within last end =
    opened root k w ks x l k l c st fs rest made opening begins all fit (okay_of l w ks rest fit within last) (tracks_self k l wordless) end

-- A node that begins with a kid and then a symbol, and has a last kid that never ends open.
pub led : (root : Class) (k : Kind) (w : List ℕ) (i : Kind) (v : List ℕ) (ns : List (List ℕ)) (is ts : Forest) (d : Class) (x : Lexeme) (l : List Item) (c : Class) (st : State Plain) (m : List Item) (fs : List (Frame Plain)) (rest : List Sym)
    → layout k w (count (Cons i v ns is ts)) ≡ Some (Kid d ∷ Literal x ∷ l) → Grows k w (Some x) l c i → not_else x ≡ true → no_words l ≡ true
    → Begins root st c fs (symbols k w (Cons i v ns is ts) ++ rest) → awaited_by root fs ≡ Some (c, m)
    → AllRead (Cons i v ns is ts) → fits l (kinds ts) ≡ true → inner l (look rest) ≡ true → plain_last l ≡ true → halts k (look rest) ≡ true
    → Leads root st (symbols k w (Cons i v ns is ts) ++ rest) (Holding k (bare k w (Cons i v ns is ts)) fs) rest
led root k w i v ns is ts d x l c st m fs rest made grows quiet wordless begins awaits all fit within last end =
    grown root k w i v ns is ts d x l c st m fs rest made grows quiet begins awaits all fit (okay_of l w ts rest fit within (λ p e. true-false (sym last ∙ p))) (tracks_self k l wordless) end
