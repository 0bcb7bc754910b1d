-- A node that goes on at a symbol that isn't its next item is the front of a node all the same; and an open statement isn't followed by `else`.
use Rattle.std.proofs.Common.{◌≡◌, ℕ, zero, suc, ◌+◌, Bool, true, false, not, if◌then◌else◌, bytes_eq, List, [], ◌∷◌, ◌++◌, Option, Some, None, refl, ap, sym, ◌∙◌, append_assoc, append-nil, add-zero, arith}
use Rattle.std.proofs.lemmas.List.{append_cancel_right}
use Rattle.pc_syntax.specs.declared.lexeme.Lexeme.{Lexeme}
use Rattle.pc_syntax.specs.declared.lexeme.Lexeme.TheVariants as lexeme
use Rattle.pc_syntax.specs.declared.kind.Kind.{Kind}
use Rattle.pc_syntax.specs.declared.kind.Kind.TheVariants as kind
use Rattle.pc_syntax.specs.declared.sort.Sort.TheVariants as sort
use Rattle.pc_syntax.specs.declared.class.Class.{Class}
use Rattle.pc_syntax.specs.declared.class.Class.TheVariants as class
use Rattle.pc_syntax.specs.declared.item.Item.{Item}
use Rattle.pc_syntax.specs.declared.item.Item.TheVariants.{Literal, Word, Kid}
use Rattle.pc_syntax.specs.Plain.{Forest, Nil, Cons, count, kinds}
use Rattle.pc_syntax.specs.Spellings.{spelling_of}
use Rattle.pc_syntax.specs.Layout.{operator, around, last_semicolon, further, elements, some_elements}
use Rattle.pc_syntax.specs.Symbols.{Sym, fill, texts}
use Rattle.pc_syntax.specs.WellFormed.{fits, opens, last_open, second_open}
use Rattle.pc_parse.specs.Tables.{switch, recast, turned_word, again}
use Rattle.pc_parse.proofs.Entries.{&&_split}
use Rattle.pc_parse.proofs.SoundTables.{corner, is_mark, marks, is_empty}
use Rattle.pc_parse.proofs.SoundFrames.{true-false, some_eq, mark, past_second, FrontOk, fits-more, filled, mark_front}

abbrev pub ends_kid : List Item → Bool
ends_kid [] = false
ends_kid (Kid c ∷ []) = true
ends_kid (i ∷ m) = ends_kid m

-- a last kid that ends open isn't followed by else
pub record Calm (pre : List Item) (ks : Forest) (x : Option Lexeme) : Type 0 where
  pub closed : ends_kid pre ≡ true → x ≡ Some lexeme.KeyElse → last_open ks ≡ false

-- a node that ends open isn't followed by else
pub record Quiet (k : Kind) (ks : Forest) (x : Option Lexeme) : Type 0 where
  pub closed : x ≡ Some lexeme.KeyElse → opens k (last_open ks) ≡ false

further_more : (x : Lexeme) (c : Class) (n : ℕ) (close : List Item) → further (Some x) c n [] ++ (Literal x ∷ Kid c ∷ close) ≡ further (Some x) c (suc n) close
further_more x c zero close = refl
further_more x c (suc n) close = ap (λ l. Literal x ∷ Kid c ∷ l) (further_more x c n close)

further_close : (x : Lexeme) (c : Class) (n : ℕ) (close : List Item) → further (Some x) c n [] ++ close ≡ further (Some x) c n close
further_close x c zero close = refl
further_close x c (suc n) close = ap (λ l. Literal x ∷ Kid c ∷ l) (further_close x c n close)

further_again : (c : Class) (n : ℕ) → further None c n [] ++ Kid c ∷ [] ≡ further None c (suc n) []
further_again c zero = refl
further_again c (suc n) = ap (λ l. Kid c ∷ l) (further_again c n)

list_more : (x : Lexeme) (c : Class) (n : ℕ) (pre : List Item) → some_elements (Some x) c n ≡ Some pre → some_elements (Some x) c (suc n) ≡ Some ((pre ++ Literal x ∷ []) ++ Kid c ∷ [])
list_more x c zero pre h = cc
list_more x c (suc n) pre h =
    let e : pre ≡ Kid c ∷ further (Some x) c n [] = cc in
    rw (append_assoc pre (Literal x ∷ []) (Kid c ∷ []), e) (ap (λ l. Some (Kid c ∷ l)) (sym (further_more x c n [])))

abbrev parens : Lexeme → Class → ℕ → Option (List Item)
parens x c n = elements (Literal lexeme.OpenParen ∷ []) (Some x) c (Literal lexeme.CloseParen ∷ []) n

parens_more : (x : Lexeme) (c : Class) (n : ℕ) (pre : List Item) → parens x c n ≡ Some (pre ++ Literal lexeme.CloseParen ∷ []) → parens x c (suc n) ≡ Some ((pre ++ Literal x ∷ []) ++ (Kid c ∷ Literal lexeme.CloseParen ∷ []))
parens_more x c zero [] h = cc
parens_more x c zero (i ∷ pre) h = cc
parens_more x c (suc n) pre h =
    let front = Literal lexeme.OpenParen ∷ Kid c ∷ further (Some x) c n [] in
    let close = Literal lexeme.CloseParen ∷ [] in
    let e : front ≡ pre = append_cancel_right front pre close (ap (λ l. Literal lexeme.OpenParen ∷ Kid c ∷ l) (further_close x c n close) ∙ some_eq _ _ h) in
    rw (append_assoc pre (Literal x ∷ []) (Kid c ∷ close), ← e) (ap (λ l. Some (Literal lexeme.OpenParen ∷ Kid c ∷ l)) (sym (further_more x c n close)))

items_more : (x : Lexeme) (c : Class) (n : ℕ) (pre : List Item) → elements (Literal x ∷ []) None c [] n ≡ Some pre → is_empty pre ≡ false
    → elements (Literal x ∷ []) None c [] (suc n) ≡ Some (pre ++ Kid c ∷ [])
items_more x c zero [] h e = true-false e
items_more x c zero (i ∷ pre) h e = cc
items_more x c (suc n) pre h e =
    let front : pre ≡ Literal x ∷ Kid c ∷ further None c n [] = sym (some_eq _ _ h) in
    rw front (ap (λ l. Some (Literal x ∷ Kid c ∷ l)) (sym (further_again c n)))

not_empty : (c : Class) (l : List Item) → is_empty (l ++ Kid c ∷ []) ≡ false
not_empty c [] = refl
not_empty c (i ∷ l) = refl

if_kids : (ks : Forest) → fits (Literal lexeme.KeyIf ∷ Kid class.Expression ∷ Literal lexeme.KeyThen ∷ Kid class.Statement ∷ []) (kinds ks) ≡ true → (past_second kind.Ifelse ks ≡ true) × (second_open ks ≡ last_open ks)
if_kids Nil h = cc
if_kids (Cons a u ls hs Nil) h = true-false (sym (&&_split _ _ h).1)
if_kids (Cons a u ls hs (Cons b v ms bs Nil)) h = (refl, refl)
if_kids (Cons a u ls hs (Cons b v ms bs (Cons d z ns ds ts))) h = true-false (sym (&&_split _ _ (&&_split _ _ h).1).1)

if_corner : (c : Class) → corner c kind.If ≡ true → corner c kind.Ifelse ≡ true
if_corner class.Program h = cc
if_corner _ h = cc

first_eq : (p q : Kind × List Item) → Some p ≡ Some q → q.0 ≡ p.0
first_eq p q e = sym (ap (λ (r : Kind × List Item). r.0) (some_eq p q e))

second_eq : (p q : Kind × List Item) → Some p ≡ Some q → q.1 ≡ p.1
second_eq p q e = sym (ap (λ (r : Kind × List Item). r.1) (some_eq p q e))

pub record Switching (j : Kind) (w : List ℕ) (ks : Forest) (x : Lexeme) (k : Kind) (m pre : List Item) (text : List Sym) : Type 0 where
  pub front : FrontOk k (turned_word k w) ks m (pre ++ Literal x ∷ []) (text ++ mark x ∷ [])
  pub marked : is_mark x ≡ true
  pub corners : (c : Class) → corner c j ≡ true → corner c k ≡ true

pub none-some : {A B : Type 0} (x : A) → None ≡ Some x → B
none-some x h = cc

add_one : (n : ℕ) → n + 1 ≡ suc n
add_one n = omega arith

-- The items, the symbol, and what comes of them.
record Goes (items : List Item) (x : Lexeme) (p : Kind × List Item) (items2 : List Item) (x2 : Lexeme) (k : Kind) (m : List Item) : Type 0 where
  items_are : items ≡ items2
  symbol_is : x ≡ x2
  kind_is : p.0 ≡ k
  more_are : p.1 ≡ m

if_switch : (items : List Item) (x : Lexeme) (p : Kind × List Item) → switch kind.If items (Some x) ≡ Some p → Goes items x p [] lexeme.KeyElse kind.Ifelse (Kid class.Statement ∷ [])
if_switch [] lexeme.KeyElse p e = record { items_are = refl; symbol_is = refl; kind_is = first_eq _ _ e; more_are = second_eq _ _ e }
if_switch _ _ p e = none-some p e

if_more : (w : List ℕ) (ks : Forest) (pre : List Item) (text : List Sym) → FrontOk kind.If w ks [] pre text → Calm pre ks (Some lexeme.KeyElse)
    → Switching kind.If w ks lexeme.KeyElse kind.Ifelse (Kid class.Statement ∷ []) pre text
if_more (b ∷ w) ks pre text ok calm = none-some _ ok.laid
if_more [] ks pre text ok calm =
    let h = ok.laid in
    let front : pre ≡ Literal lexeme.KeyIf ∷ Kid class.Expression ∷ Literal lexeme.KeyThen ∷ Kid class.Statement ∷ [] = sym (some_eq _ _ (h ∙ ap Some (append-nil pre))) in
    let two = if_kids ks (rw front at ok.fit) in
    let ends : ends_kid pre ≡ true = rw front refl in record {
      front = mark_front kind.If [] ks [] lexeme.KeyElse kind.Ifelse (Kid class.Statement ∷ []) pre text ok (rw front refl) (two.1 ∙ calm.closed ends refl) two.0 refl;
      marked = refl;
      corners = if_corner;
    }

-- a loop before its last bound, and after the word that tells its way
abbrev loop_front : List Item
loop_front = Literal lexeme.KeyFor ∷ Kid class.Name ∷ Literal lexeme.Becomes ∷ Kid class.Expression ∷ []

abbrev loop_back : List Item
loop_back = Kid class.Expression ∷ Literal lexeme.KeyDo ∷ Kid class.Statement ∷ []

for_switch : (items : List Item) (x : Lexeme) (p : Kind × List Item) → switch kind.For items (Some x) ≡ Some p
    → (n : List Item) × Goes items x p (Literal lexeme.KeyTo ∷ n) lexeme.KeyDownto kind.For loop_back
for_switch (Literal lexeme.KeyTo ∷ n) lexeme.KeyDownto p e = (n, record { items_are = refl; symbol_is = refl; kind_is = first_eq _ _ e; more_are = second_eq _ _ e })
for_switch _ _ p e = none-some p e

-- the one place of `to` in a loop
front_of : (y : Lexeme) (pre n : List Item) → loop_front ++ Literal y ∷ loop_back ≡ pre ++ Literal lexeme.KeyTo ∷ n → pre ≡ loop_front
front_of y [] n h = cc
front_of y (a ∷ []) n h = cc
front_of y (a ∷ b ∷ []) n h = cc
front_of y (a ∷ b ∷ c ∷ []) n h = cc
front_of y (a ∷ b ∷ c ∷ d ∷ []) n h = cc
front_of y (a ∷ b ∷ c ∷ d ∷ e ∷ []) n h = cc
front_of y (a ∷ b ∷ c ∷ d ∷ e ∷ f ∷ []) n h = cc
front_of y (a ∷ b ∷ c ∷ d ∷ e ∷ f ∷ g ∷ []) n h = cc
front_of y (a ∷ b ∷ c ∷ d ∷ e ∷ f ∷ g ∷ i ∷ []) n h = cc
front_of y (a ∷ b ∷ c ∷ d ∷ e ∷ f ∷ g ∷ i ∷ j ∷ pre) n h = cc

-- items without a word say nothing of it
pub fill_word : (l : List Item) (w v : List ℕ) (us : List (List Sym)) → marks l ≡ true → fill l w us ≡ fill l v us
fill_word [] w v us h = refl
fill_word (Literal x ∷ l) w v us h = ap (λ m. mark x ∷ m) (fill_word l w v us (&&_split _ _ h).1)
fill_word (Word x ∷ l) w v us h = cc
fill_word (Kid c ∷ l) w v [] h = refl
fill_word (Kid c ∷ l) w v (s ∷ us) h = ap (λ m. s ++ m) (fill_word l w v us h)

for_more : (w : List ℕ) (ks : Forest) (n pre : List Item) (text : List Sym) → FrontOk kind.For w ks (Literal lexeme.KeyTo ∷ n) pre text
    → Switching kind.For w ks lexeme.KeyDownto kind.For loop_back pre text
for_more w ks n pre text ok =
    let front : pre ≡ loop_front = placed (operator (lexeme.KeyTo ∷ lexeme.KeyDownto ∷ []) w) ok.laid in
    let down = spelling_of lexeme.KeyDownto in
    let wordless : marks pre ≡ true = rw front refl in record {
      front = record {
        laid = rw front refl;
        fit = rw (append-nil (kinds ks)) at (fits-more pre (Literal lexeme.KeyDownto ∷ []) (kinds ks) [] ok.fit refl);
        good = ok.good;
        text_is = filled pre lexeme.KeyDownto down ks text ok.fit (ok.text_is ∙ fill_word pre w down (texts ks) wordless);
        rule = refl;
        past = refl;
        marked = refl;
        begun = rw front refl;
      };
      marked = refl;
      corners = λ c h. h;
    }
  where
    placed : (o : Option Lexeme) → around o loop_front loop_back ≡ Some (pre ++ Literal lexeme.KeyTo ∷ n) → pre ≡ loop_front
    placed None h = none-some _ h
    placed (Some y) h = front_of y pre n (some_eq _ _ h)

for_ends : (o : Option Lexeme) (pre : List Item) → around o loop_front loop_back ≡ Some pre → ends_kid pre ≡ true
for_ends None pre h = none-some _ h
for_ends (Some y) pre h =
    let front : pre ≡ loop_front ++ Literal y ∷ loop_back = sym (some_eq _ _ h) in
    rw front refl

stmts_switch : (items : List Item) (x : Lexeme) (p : Kind × List Item) → switch kind.Stmts items (Some x) ≡ Some p → Goes items x p [] lexeme.Semicolon kind.Stmts (Kid class.Statement ∷ [])
stmts_switch [] lexeme.Semicolon p e = record { items_are = refl; symbol_is = refl; kind_is = first_eq _ _ e; more_are = second_eq _ _ e }
stmts_switch _ _ p e = none-some p e

stmts_more : (w : List ℕ) (ks : Forest) (pre : List Item) (text : List Sym) → FrontOk kind.Stmts w ks [] pre text → Switching kind.Stmts w ks lexeme.Semicolon kind.Stmts (Kid class.Statement ∷ []) pre text
stmts_more (b ∷ w) ks pre text ok = none-some _ ok.laid
stmts_more [] ks pre text ok =
    let laid : some_elements (Some lexeme.Semicolon) class.Statement (count ks) ≡ Some pre = rw (add-zero (count ks), append-nil pre) at ok.laid in record {
      front = mark_front kind.Stmts [] ks [] lexeme.Semicolon kind.Stmts (Kid class.Statement ∷ []) pre text ok (rw (add_one (count ks)) (list_more lexeme.Semicolon class.Statement (count ks) pre laid)) refl refl refl;
      marked = refl;
      corners = λ c h. h;
    }

arms_switch : (items : List Item) (x : Lexeme) (p : Kind × List Item) → switch kind.Arms items (Some x) ≡ Some p → Goes items x p [] lexeme.Semicolon kind.Arms (Kid class.Arm ∷ [])
arms_switch [] lexeme.Semicolon p e = record { items_are = refl; symbol_is = refl; kind_is = first_eq _ _ e; more_are = second_eq _ _ e }
arms_switch _ _ p e = none-some p e

arms_more : (w : List ℕ) (ks : Forest) (pre : List Item) (text : List Sym) → FrontOk kind.Arms w ks [] pre text → Switching kind.Arms w ks lexeme.Semicolon kind.Arms (Kid class.Arm ∷ []) pre text
arms_more (b ∷ w) ks pre text ok = none-some _ ok.laid
arms_more [] ks pre text ok =
    let laid : some_elements (Some lexeme.Semicolon) class.Arm (count ks) ≡ Some pre = rw (add-zero (count ks), append-nil pre) at ok.laid in record {
      front = mark_front kind.Arms [] ks [] lexeme.Semicolon kind.Arms (Kid class.Arm ∷ []) pre text ok (rw (add_one (count ks)) (list_more lexeme.Semicolon class.Arm (count ks) pre laid)) refl refl refl;
      marked = refl;
      corners = λ c h. h;
    }

fields_switch : (items : List Item) (x : Lexeme) (p : Kind × List Item) → switch kind.Fields items (Some x) ≡ Some p → Goes items x p [] lexeme.Semicolon kind.Fields (Kid class.Field ∷ [])
fields_switch [] lexeme.Semicolon p e = record { items_are = refl; symbol_is = refl; kind_is = first_eq _ _ e; more_are = second_eq _ _ e }
fields_switch _ _ p e = none-some p e

fields_more : (w : List ℕ) (ks : Forest) (pre : List Item) (text : List Sym) → FrontOk kind.Fields w ks [] pre text → Switching kind.Fields w ks lexeme.Semicolon kind.Fields (Kid class.Field ∷ []) pre text
fields_more (b ∷ w) ks pre text ok = none-some _ ok.laid
fields_more [] ks pre text ok =
    let laid : some_elements (Some lexeme.Semicolon) class.Field (count ks) ≡ Some pre = rw (add-zero (count ks), append-nil pre) at ok.laid in record {
      front = mark_front kind.Fields [] ks [] lexeme.Semicolon kind.Fields (Kid class.Field ∷ []) pre text ok (rw (add_one (count ks)) (list_more lexeme.Semicolon class.Field (count ks) pre laid)) refl refl refl;
      marked = refl;
      corners = λ c h. h;
    }

labels_switch : (items : List Item) (x : Lexeme) (p : Kind × List Item) → switch kind.Labels items (Some x) ≡ Some p → Goes items x p [] lexeme.Comma kind.Labels (Kid class.Constant ∷ [])
labels_switch [] lexeme.Comma p e = record { items_are = refl; symbol_is = refl; kind_is = first_eq _ _ e; more_are = second_eq _ _ e }
labels_switch _ _ p e = none-some p e

labels_more : (w : List ℕ) (ks : Forest) (pre : List Item) (text : List Sym) → FrontOk kind.Labels w ks [] pre text → Switching kind.Labels w ks lexeme.Comma kind.Labels (Kid class.Constant ∷ []) pre text
labels_more (b ∷ w) ks pre text ok = none-some _ ok.laid
labels_more [] ks pre text ok =
    let laid : some_elements (Some lexeme.Comma) class.Constant (count ks) ≡ Some pre = rw (add-zero (count ks), append-nil pre) at ok.laid in record {
      front = mark_front kind.Labels [] ks [] lexeme.Comma kind.Labels (Kid class.Constant ∷ []) pre text ok (rw (add_one (count ks)) (list_more lexeme.Comma class.Constant (count ks) pre laid)) refl refl refl;
      marked = refl;
      corners = λ c h. h;
    }

indexes_switch : (items : List Item) (x : Lexeme) (p : Kind × List Item) → switch kind.Indexes items (Some x) ≡ Some p → Goes items x p [] lexeme.Comma kind.Indexes (Kid class.Ordinal ∷ [])
indexes_switch [] lexeme.Comma p e = record { items_are = refl; symbol_is = refl; kind_is = first_eq _ _ e; more_are = second_eq _ _ e }
indexes_switch _ _ p e = none-some p e

indexes_more : (w : List ℕ) (ks : Forest) (pre : List Item) (text : List Sym) → FrontOk kind.Indexes w ks [] pre text → Switching kind.Indexes w ks lexeme.Comma kind.Indexes (Kid class.Ordinal ∷ []) pre text
indexes_more (b ∷ w) ks pre text ok = none-some _ ok.laid
indexes_more [] ks pre text ok =
    let laid : some_elements (Some lexeme.Comma) class.Ordinal (count ks) ≡ Some pre = rw (add-zero (count ks), append-nil pre) at ok.laid in record {
      front = mark_front kind.Indexes [] ks [] lexeme.Comma kind.Indexes (Kid class.Ordinal ∷ []) pre text ok (rw (add_one (count ks)) (list_more lexeme.Comma class.Ordinal (count ks) pre laid)) refl refl refl;
      marked = refl;
      corners = λ c h. h;
    }

exprs_switch : (items : List Item) (x : Lexeme) (p : Kind × List Item) → switch kind.Exprs items (Some x) ≡ Some p → Goes items x p [] lexeme.Comma kind.Exprs (Kid class.Expression ∷ [])
exprs_switch [] lexeme.Comma p e = record { items_are = refl; symbol_is = refl; kind_is = first_eq _ _ e; more_are = second_eq _ _ e }
exprs_switch _ _ p e = none-some p e

exprs_more : (w : List ℕ) (ks : Forest) (pre : List Item) (text : List Sym) → FrontOk kind.Exprs w ks [] pre text → Switching kind.Exprs w ks lexeme.Comma kind.Exprs (Kid class.Expression ∷ []) pre text
exprs_more (b ∷ w) ks pre text ok = none-some _ ok.laid
exprs_more [] ks pre text ok =
    let laid : some_elements (Some lexeme.Comma) class.Expression (count ks) ≡ Some pre = rw (add-zero (count ks), append-nil pre) at ok.laid in record {
      front = mark_front kind.Exprs [] ks [] lexeme.Comma kind.Exprs (Kid class.Expression ∷ []) pre text ok (rw (add_one (count ks)) (list_more lexeme.Comma class.Expression (count ks) pre laid)) refl refl refl;
      marked = refl;
      corners = λ c h. h;
    }

accesses_switch : (items : List Item) (x : Lexeme) (p : Kind × List Item) → switch kind.Accesses items (Some x) ≡ Some p → Goes items x p [] lexeme.Comma kind.Accesses (Kid class.Access ∷ [])
accesses_switch [] lexeme.Comma p e = record { items_are = refl; symbol_is = refl; kind_is = first_eq _ _ e; more_are = second_eq _ _ e }
accesses_switch _ _ p e = none-some p e

accesses_more : (w : List ℕ) (ks : Forest) (pre : List Item) (text : List Sym) → FrontOk kind.Accesses w ks [] pre text → Switching kind.Accesses w ks lexeme.Comma kind.Accesses (Kid class.Access ∷ []) pre text
accesses_more (b ∷ w) ks pre text ok = none-some _ ok.laid
accesses_more [] ks pre text ok =
    let laid : some_elements (Some lexeme.Comma) class.Access (count ks) ≡ Some pre = rw (add-zero (count ks), append-nil pre) at ok.laid in record {
      front = mark_front kind.Accesses [] ks [] lexeme.Comma kind.Accesses (Kid class.Access ∷ []) pre text ok (rw (add_one (count ks)) (list_more lexeme.Comma class.Access (count ks) pre laid)) refl refl refl;
      marked = refl;
      corners = λ c h. h;
    }

members_switch : (items : List Item) (x : Lexeme) (p : Kind × List Item) → switch kind.Members items (Some x) ≡ Some p → Goes items x p [] lexeme.Comma kind.Members (Kid class.Member ∷ [])
members_switch [] lexeme.Comma p e = record { items_are = refl; symbol_is = refl; kind_is = first_eq _ _ e; more_are = second_eq _ _ e }
members_switch _ _ p e = none-some p e

member_more : (n : ℕ) (pre : List Item) → elements [] (Some lexeme.Comma) class.Member [] n ≡ Some pre → is_empty pre ≡ false
    → elements [] (Some lexeme.Comma) class.Member [] (suc n) ≡ Some ((pre ++ Literal lexeme.Comma ∷ []) ++ Kid class.Member ∷ [])
member_more zero [] h e = true-false e
member_more zero (i ∷ pre) h e = cc
member_more (suc n) pre h e = list_more lexeme.Comma class.Member (suc n) pre h

members_more : (w : List ℕ) (ks : Forest) (pre : List Item) (text : List Sym) → FrontOk kind.Members w ks [] pre text → Switching kind.Members w ks lexeme.Comma kind.Members (Kid class.Member ∷ []) pre text
members_more (b ∷ w) ks pre text ok = none-some _ ok.laid
members_more [] ks pre text ok =
    let laid : elements [] (Some lexeme.Comma) class.Member [] (count ks) ≡ Some pre = rw (add-zero (count ks), append-nil pre) at ok.laid in
    let begun : is_empty pre ≡ false = rw (append-nil pre) at ok.begun in record {
      front = mark_front kind.Members [] ks [] lexeme.Comma kind.Members (Kid class.Member ∷ []) pre text ok (rw (add_one (count ks)) (member_more (count ks) pre laid begun)) refl refl refl;
      marked = refl;
      corners = λ c h. h;
    }

names_switch : (items : List Item) (x : Lexeme) (p : Kind × List Item) → switch kind.Names items (Some x) ≡ Some p → Goes items x p [] lexeme.Comma kind.Names (Kid class.Name ∷ [])
names_switch [] lexeme.Comma p e = record { items_are = refl; symbol_is = refl; kind_is = first_eq _ _ e; more_are = second_eq _ _ e }
names_switch _ _ p e = none-some p e

names_more : (w : List ℕ) (ks : Forest) (pre : List Item) (text : List Sym) → FrontOk kind.Names w ks [] pre text → Switching kind.Names w ks lexeme.Comma kind.Names (Kid class.Name ∷ []) pre text
names_more (b ∷ w) ks pre text ok = none-some _ ok.laid
names_more [] ks pre text ok =
    let laid : some_elements (Some lexeme.Comma) class.Name (count ks) ≡ Some pre = rw (add-zero (count ks), append-nil pre) at ok.laid in record {
      front = mark_front kind.Names [] ks [] lexeme.Comma kind.Names (Kid class.Name ∷ []) pre text ok (rw (add_one (count ks)) (list_more lexeme.Comma class.Name (count ks) pre laid)) refl refl refl;
      marked = refl;
      corners = λ c h. h;
    }

args_switch : (items : List Item) (x : Lexeme) (p : Kind × List Item) → switch kind.Args items (Some x) ≡ Some p
    → Goes items x p (Literal lexeme.CloseParen ∷ []) lexeme.Comma kind.Args (Kid class.Argument ∷ Literal lexeme.CloseParen ∷ [])
args_switch (Literal lexeme.CloseParen ∷ []) lexeme.Comma p e = record { items_are = refl; symbol_is = refl; kind_is = first_eq _ _ e; more_are = second_eq _ _ e }
args_switch _ _ p e = none-some p e

args_more : (w : List ℕ) (ks : Forest) (pre : List Item) (text : List Sym) → FrontOk kind.Args w ks (Literal lexeme.CloseParen ∷ []) pre text
    → Switching kind.Args w ks lexeme.Comma kind.Args (Kid class.Argument ∷ Literal lexeme.CloseParen ∷ []) pre text
args_more (b ∷ w) ks pre text ok = none-some _ ok.laid
args_more [] ks pre text ok =
    let close = Literal lexeme.CloseParen ∷ [] in
    let laid : parens lexeme.Comma class.Argument (count ks) ≡ Some (pre ++ close) = rw (add-zero (count ks)) at ok.laid in record {
      front = mark_front kind.Args [] ks close lexeme.Comma kind.Args (Kid class.Argument ∷ close) pre text ok (rw (add_one (count ks)) (parens_more lexeme.Comma class.Argument (count ks) pre laid)) refl refl refl;
      marked = refl;
      corners = λ c h. h;
    }

heads_switch : (items : List Item) (x : Lexeme) (p : Kind × List Item) → switch kind.Heads items (Some x) ≡ Some p
    → Goes items x p (Literal lexeme.CloseParen ∷ []) lexeme.Comma kind.Heads (Kid class.Name ∷ Literal lexeme.CloseParen ∷ [])
heads_switch (Literal lexeme.CloseParen ∷ []) lexeme.Comma p e = record { items_are = refl; symbol_is = refl; kind_is = first_eq _ _ e; more_are = second_eq _ _ e }
heads_switch _ _ p e = none-some p e

heads_more : (w : List ℕ) (ks : Forest) (pre : List Item) (text : List Sym) → FrontOk kind.Heads w ks (Literal lexeme.CloseParen ∷ []) pre text
    → Switching kind.Heads w ks lexeme.Comma kind.Heads (Kid class.Name ∷ Literal lexeme.CloseParen ∷ []) pre text
heads_more (b ∷ w) ks pre text ok = none-some _ ok.laid
heads_more [] ks pre text ok =
    let close = Literal lexeme.CloseParen ∷ [] in
    let laid : parens lexeme.Comma class.Name (count ks) ≡ Some (pre ++ close) = rw (add-zero (count ks)) at ok.laid in record {
      front = mark_front kind.Heads [] ks close lexeme.Comma kind.Heads (Kid class.Name ∷ close) pre text ok (rw (add_one (count ks)) (parens_more lexeme.Comma class.Name (count ks) pre laid)) refl refl refl;
      marked = refl;
      corners = λ c h. h;
    }

params_switch : (items : List Item) (x : Lexeme) (p : Kind × List Item) → switch kind.Params items (Some x) ≡ Some p
    → Goes items x p (Literal lexeme.CloseParen ∷ []) lexeme.Semicolon kind.Params (Kid class.Parameter ∷ Literal lexeme.CloseParen ∷ [])
params_switch (Literal lexeme.CloseParen ∷ []) lexeme.Semicolon p e = record { items_are = refl; symbol_is = refl; kind_is = first_eq _ _ e; more_are = second_eq _ _ e }
params_switch _ _ p e = none-some p e

params_more : (w : List ℕ) (ks : Forest) (pre : List Item) (text : List Sym) → FrontOk kind.Params w ks (Literal lexeme.CloseParen ∷ []) pre text
    → Switching kind.Params w ks lexeme.Semicolon kind.Params (Kid class.Parameter ∷ Literal lexeme.CloseParen ∷ []) pre text
params_more (b ∷ w) ks pre text ok = none-some _ ok.laid
params_more [] ks pre text ok =
    let close = Literal lexeme.CloseParen ∷ [] in
    let laid : parens lexeme.Semicolon class.Parameter (count ks) ≡ Some (pre ++ close) = rw (add-zero (count ks)) at ok.laid in record {
      front = mark_front kind.Params [] ks close lexeme.Semicolon kind.Params (Kid class.Parameter ∷ close) pre text ok (rw (add_one (count ks)) (parens_more lexeme.Semicolon class.Parameter (count ks) pre laid)) refl refl refl;
      marked = refl;
      corners = λ c h. h;
    }

pub switched_ok : (j : Kind) (w : List ℕ) (ks : Forest) (items : List Item) (x : Lexeme) (k : Kind) (m pre : List Item) (text : List Sym)
    → switch j items (Some x) ≡ Some (k, m) → FrontOk j w ks items pre text → Calm pre ks (Some x) → Switching j w ks x k m pre text
switched_ok kind.If w ks items x k m pre text e ok calm = let g = if_switch items x (k, m) e in rw (g.symbol_is, g.kind_is, g.more_are) (if_more w ks pre text (rw g.items_are at ok) (rw g.symbol_is at calm))
switched_ok kind.For w ks items x k m pre text e ok calm = let g = for_switch items x (k, m) e in rw (g.1.symbol_is, g.1.kind_is, g.1.more_are) (for_more w ks g.0 pre text (rw g.1.items_are at ok))
switched_ok kind.Stmts w ks items x k m pre text e ok calm = let g = stmts_switch items x (k, m) e in rw (g.symbol_is, g.kind_is, g.more_are) (stmts_more w ks pre text (rw g.items_are at ok))
switched_ok kind.Arms w ks items x k m pre text e ok calm = let g = arms_switch items x (k, m) e in rw (g.symbol_is, g.kind_is, g.more_are) (arms_more w ks pre text (rw g.items_are at ok))
switched_ok kind.Fields w ks items x k m pre text e ok calm = let g = fields_switch items x (k, m) e in rw (g.symbol_is, g.kind_is, g.more_are) (fields_more w ks pre text (rw g.items_are at ok))
switched_ok kind.Labels w ks items x k m pre text e ok calm = let g = labels_switch items x (k, m) e in rw (g.symbol_is, g.kind_is, g.more_are) (labels_more w ks pre text (rw g.items_are at ok))
switched_ok kind.Indexes w ks items x k m pre text e ok calm = let g = indexes_switch items x (k, m) e in rw (g.symbol_is, g.kind_is, g.more_are) (indexes_more w ks pre text (rw g.items_are at ok))
switched_ok kind.Exprs w ks items x k m pre text e ok calm = let g = exprs_switch items x (k, m) e in rw (g.symbol_is, g.kind_is, g.more_are) (exprs_more w ks pre text (rw g.items_are at ok))
switched_ok kind.Accesses w ks items x k m pre text e ok calm = let g = accesses_switch items x (k, m) e in rw (g.symbol_is, g.kind_is, g.more_are) (accesses_more w ks pre text (rw g.items_are at ok))
switched_ok kind.Members w ks items x k m pre text e ok calm = let g = members_switch items x (k, m) e in rw (g.symbol_is, g.kind_is, g.more_are) (members_more w ks pre text (rw g.items_are at ok))
switched_ok kind.Names w ks items x k m pre text e ok calm = let g = names_switch items x (k, m) e in rw (g.symbol_is, g.kind_is, g.more_are) (names_more w ks pre text (rw g.items_are at ok))
switched_ok kind.Args w ks items x k m pre text e ok calm = let g = args_switch items x (k, m) e in rw (g.symbol_is, g.kind_is, g.more_are) (args_more w ks pre text (rw g.items_are at ok))
switched_ok kind.Heads w ks items x k m pre text e ok calm = let g = heads_switch items x (k, m) e in rw (g.symbol_is, g.kind_is, g.more_are) (heads_more w ks pre text (rw g.items_are at ok))
switched_ok kind.Params w ks items x k m pre text e ok calm = let g = params_switch items x (k, m) e in rw (g.symbol_is, g.kind_is, g.more_are) (params_more w ks pre text (rw g.items_are at ok))
switched_ok _ w ks items x k m pre text e ok calm = none-some (k, m) e

-- A node that goes on as another where its next item can't come, and leaves the symbol.
pub record Recasting (j : Kind) (w : List ℕ) (ks : Forest) (k : Kind) (m pre : List Item) (text : List Sym) : Type 0 where
  pub front : FrontOk k w ks m pre text
  pub corners : (c : Class) → corner c j ≡ true → corner c k ≡ true

-- The items, and what comes of them.
record Casts (items : List Item) (p : Kind × List Item) (items2 : List Item) (k : Kind) (m : List Item) : Type 0 where
  items_are : items ≡ items2
  kind_is : p.0 ≡ k
  more_are : p.1 ≡ m

-- a function before what follows its name, and the parts after it, without a result and with one
abbrev function_front : List Item
function_front = Literal lexeme.KeyFunction ∷ Kid class.Name ∷ []

abbrev body_items : List Item
body_items = Literal lexeme.Semicolon ∷ Kid class.Block ∷ Literal lexeme.Semicolon ∷ []

abbrev result_items : List Item
result_items = Kid class.Params ∷ Literal lexeme.Colon ∷ Kid class.Name ∷ body_items

funbody_casts : (items : List Item) (x : Option Lexeme) (p : Kind × List Item) → recast kind.Funbody items x ≡ Some p → Casts items p body_items kind.Function result_items
funbody_casts (Literal lexeme.Semicolon ∷ Kid class.Block ∷ Literal lexeme.Semicolon ∷ []) (Some lexeme.OpenParen) p e = record { items_are = refl; kind_is = first_eq _ _ e; more_are = second_eq _ _ e }
funbody_casts (Literal lexeme.Semicolon ∷ Kid class.Block ∷ Literal lexeme.Semicolon ∷ []) (Some lexeme.Colon) p e = record { items_are = refl; kind_is = first_eq _ _ e; more_are = second_eq _ _ e }
funbody_casts _ _ p e = none-some p e

function_corner : (c : Class) → corner c kind.Funbody ≡ true → corner c kind.Function ≡ true
function_corner class.Program h = cc
function_corner _ h = cc

funbody_more : (w : List ℕ) (ks : Forest) (pre : List Item) (text : List Sym) → FrontOk kind.Funbody w ks body_items pre text → Recasting kind.Funbody w ks kind.Function result_items pre text
funbody_more (b ∷ w) ks pre text ok = none-some _ ok.laid
funbody_more [] ks pre text ok =
    let front : pre ≡ function_front = sym (append_cancel_right function_front pre body_items (some_eq _ _ ok.laid)) in record {
      front = record { laid = rw front refl; fit = ok.fit; good = ok.good; text_is = ok.text_is; rule = refl; past = refl; marked = refl; begun = rw front refl };
      corners = function_corner;
    }

no_kid_ends : (l : List Item) (x : Lexeme) → ends_kid (l ++ Literal x ∷ []) ≡ false
no_kid_ends [] x = refl
no_kid_ends (Literal z ∷ l) x = no_kid_ends l x
no_kid_ends (Word z ∷ l) x = no_kid_ends l x
no_kid_ends (Kid d ∷ []) x = refl
no_kid_ends (Kid d ∷ z ∷ l) x = no_kid_ends (z ∷ l) x

kid_ends : (l : List Item) (c : Class) → ends_kid (l ++ Kid c ∷ []) ≡ true
kid_ends [] c = refl
kid_ends (Literal z ∷ l) c = kid_ends l c
kid_ends (Word z ∷ l) c = kid_ends l c
kid_ends (Kid d ∷ []) c = refl
kid_ends (Kid d ∷ z ∷ l) c = kid_ends (z ∷ l) c

-- a node with a last `;` or none that awaits its list and then the end has none
pub awaits_list : (w : List ℕ) (front pre : List Item) (c : Class) → last_semicolon w (front ++ Kid c ∷ []) (Literal lexeme.KeyEnd ∷ []) ≡ Some (pre ++ Kid c ∷ Literal lexeme.KeyEnd ∷ [])
    → (w ≡ []) × (pre ≡ front)
awaits_list [] front pre c h =
    let close = Literal lexeme.KeyEnd ∷ [] in
    let e : (front ++ Kid c ∷ []) ++ close ≡ pre ++ Kid c ∷ close = some_eq _ _ h in
    (refl, sym (append_cancel_right front pre (Kid c ∷ close) (sym (append_assoc front (Kid c ∷ []) close) ∙ e)))
awaits_list (b ∷ w) front pre c h = go (bytes_eq (b ∷ w) (spelling_of lexeme.Semicolon)) h
  where
    go : (t : Bool) → (if t then Some ((front ++ Kid c ∷ []) ++ Literal lexeme.Semicolon ∷ Literal lexeme.KeyEnd ∷ []) else None) ≡ Some (pre ++ Kid c ∷ Literal lexeme.KeyEnd ∷ []) → (b ∷ w ≡ []) × (pre ≡ front)
    go false i = none-some _ i
    go true i =
        let l = front ++ Kid c ∷ [] in
        let close = Literal lexeme.KeyEnd ∷ [] in
        let e : l ++ Literal lexeme.Semicolon ∷ close ≡ pre ++ Kid c ∷ close = some_eq _ _ i in
        let f : (l ++ Literal lexeme.Semicolon ∷ []) ++ close ≡ (pre ++ Kid c ∷ []) ++ close = append_assoc l (Literal lexeme.Semicolon ∷ []) close ∙ e ∙ sym (append_assoc pre (Kid c ∷ []) close) in
        let g : l ++ Literal lexeme.Semicolon ∷ [] ≡ pre ++ Kid c ∷ [] = append_cancel_right _ _ close f in
        true-false (sym (kid_ends pre c) ∙ ap ends_kid (sym g) ∙ no_kid_ends l lexeme.Semicolon)

record_goes : (items : List Item) (x : Option Lexeme) (p : Kind × List Item) → recast kind.Record items x ≡ Some p
    → (items ≡ Kid class.Fields ∷ Literal lexeme.KeyEnd ∷ []) × (p.0 ≡ kind.Record0) × (p.1 ≡ Literal lexeme.KeyEnd ∷ [])
record_goes (Kid class.Fields ∷ Literal lexeme.KeyEnd ∷ []) (Some lexeme.KeyEnd) p e = (refl, first_eq _ _ e, second_eq _ _ e)
record_goes _ _ p e = none-some p e

record_corner : (c : Class) → corner c kind.Record ≡ true → corner c kind.Record0 ≡ true
record_corner class.Program h = cc
record_corner _ h = cc

record_recast : (w : List ℕ) (ks : Forest) (pre : List Item) (text : List Sym) → FrontOk kind.Record w ks (Kid class.Fields ∷ Literal lexeme.KeyEnd ∷ []) pre text
    → Recasting kind.Record w ks kind.Record0 (Literal lexeme.KeyEnd ∷ []) pre text
record_recast (b ∷ w) ks pre text ok =
    let none : b ∷ w ≡ [] = (awaits_list (b ∷ w) (Literal lexeme.KeyRecord ∷ []) pre class.Fields ok.laid).0 in cc
record_recast [] ks pre text ok =
    let front : pre ≡ Literal lexeme.KeyRecord ∷ [] = (awaits_list [] (Literal lexeme.KeyRecord ∷ []) pre class.Fields ok.laid).1 in record {
      front = record { laid = rw front refl; fit = ok.fit; good = ok.good; text_is = ok.text_is; rule = refl; past = refl; marked = refl; begun = rw front refl };
      corners = record_corner;
    }

pub recast_ok : (j : Kind) (w : List ℕ) (ks : Forest) (items : List Item) (x : Option Lexeme) (k : Kind) (m pre : List Item) (text : List Sym)
    → recast j items x ≡ Some (k, m) → FrontOk j w ks items pre text → Recasting j w ks k m pre text
recast_ok kind.Funbody w ks items x k m pre text e ok = let g = funbody_casts items x (k, m) e in rw (g.kind_is, g.more_are) (funbody_more w ks pre text (rw g.items_are at ok))
recast_ok kind.Record w ks items x k m pre text e ok = let g = record_goes items x (k, m) e in rw (g.1, g.2) (record_recast w ks pre text (rw g.0 at ok))
recast_ok _ w ks items x k m pre text e ok = none-some (k, m) e

-- at the end nothing goes on
pub switch_none : (j : Kind) (items : List Item) → switch j items None ≡ None
switch_none kind.If [] = refl
switch_none kind.For (Literal lexeme.KeyTo ∷ m) = refl
switch_none kind.Stmts [] = refl
switch_none kind.Arms [] = refl
switch_none kind.Fields [] = refl
switch_none kind.Labels [] = refl
switch_none kind.Indexes [] = refl
switch_none kind.Exprs [] = refl
switch_none kind.Accesses [] = refl
switch_none kind.Members [] = refl
switch_none kind.Names [] = refl
switch_none kind.Args (Literal lexeme.CloseParen ∷ []) = refl
switch_none kind.Params (Literal lexeme.CloseParen ∷ []) = refl
switch_none kind.Heads (Literal lexeme.CloseParen ∷ []) = refl
switch_none _ _ = refl

vars_again : (x : Option Lexeme) (c : Class) → again kind.Vars x ≡ Some c → c ≡ class.Vardef
vars_again (Some lexeme.Identifier) c e = sym (some_eq _ _ e)
vars_again (Some (lexeme.Hole sort.VarDef)) c e = sym (some_eq _ _ e)
vars_again (Some (lexeme.Hole sort.Name)) c e = sym (some_eq _ _ e)
vars_again (Some (lexeme.Hole _)) c e = cc
vars_again _ c e = cc

consts_again : (x : Option Lexeme) (c : Class) → again kind.Consts x ≡ Some c → c ≡ class.Constdef
consts_again (Some lexeme.Identifier) c e = sym (some_eq _ _ e)
consts_again (Some (lexeme.Hole sort.ConstDef)) c e = sym (some_eq _ _ e)
consts_again (Some (lexeme.Hole sort.Name)) c e = sym (some_eq _ _ e)
consts_again (Some (lexeme.Hole _)) c e = cc
consts_again _ c e = cc

types_again : (x : Option Lexeme) (c : Class) → again kind.Types x ≡ Some c → c ≡ class.Typedef
types_again (Some lexeme.Identifier) c e = sym (some_eq _ _ e)
types_again (Some (lexeme.Hole sort.TypeDef)) c e = sym (some_eq _ _ e)
types_again (Some (lexeme.Hole sort.Name)) c e = sym (some_eq _ _ e)
types_again (Some (lexeme.Hole _)) c e = cc
types_again _ c e = cc

routines_again : (x : Option Lexeme) (c : Class) → again kind.Routines x ≡ Some c → c ≡ class.Routine
routines_again (Some lexeme.KeyProcedure) c e = sym (some_eq _ _ e)
routines_again (Some lexeme.KeyFunction) c e = sym (some_eq _ _ e)
routines_again (Some (lexeme.Hole sort.Routine)) c e = sym (some_eq _ _ e)
routines_again (Some (lexeme.Hole _)) c e = cc
routines_again _ c e = cc

routine_more : (n : ℕ) (pre : List Item) → elements [] None class.Routine [] n ≡ Some pre → is_empty pre ≡ false → elements [] None class.Routine [] (suc n) ≡ Some (pre ++ Kid class.Routine ∷ [])
routine_more zero [] h e = true-false e
routine_more zero (i ∷ pre) h e = cc
routine_more (suc n) pre h e =
    let front : pre ≡ Kid class.Routine ∷ further None class.Routine n [] = sym (some_eq _ _ h) in
    rw front (ap (λ l. Some (Kid class.Routine ∷ l)) (sym (further_again class.Routine n)))

-- a list without separators goes on
pub again_ok : (k : Kind) (w : List ℕ) (ks : Forest) (x : Option Lexeme) (c : Class) (pre : List Item) (text : List Sym)
    → again k x ≡ Some c → FrontOk k w ks [] pre text → FrontOk k w ks (Kid c ∷ []) pre text
again_ok kind.Consts (b ∷ w) ks x c pre text e ok = let h = ok.laid in cc
again_ok kind.Consts [] ks x c pre text e ok =
    let ec : c ≡ class.Constdef = consts_again x c e in
    let laid : elements (Literal lexeme.KeyConst ∷ []) None class.Constdef [] (count ks) ≡ Some pre = rw (add-zero (count ks), append-nil pre) at ok.laid in
    let begun : is_empty pre ≡ false = rw (append-nil pre) at ok.begun in
    let number : count ks + 1 ≡ suc (count ks) = omega arith in
    rw ec record {
      laid = rw number (items_more lexeme.KeyConst class.Constdef (count ks) pre laid begun);
      fit = ok.fit;
      good = ok.good;
      text_is = ok.text_is;
      rule = refl;
      past = refl;
      marked = refl;
      begun = not_empty class.Constdef pre;
    }
again_ok kind.Types (b ∷ w) ks x c pre text e ok = let h = ok.laid in cc
again_ok kind.Types [] ks x c pre text e ok =
    let ec : c ≡ class.Typedef = types_again x c e in
    let laid : elements (Literal lexeme.KeyType ∷ []) None class.Typedef [] (count ks) ≡ Some pre = rw (add-zero (count ks), append-nil pre) at ok.laid in
    let begun : is_empty pre ≡ false = rw (append-nil pre) at ok.begun in
    let number : count ks + 1 ≡ suc (count ks) = omega arith in
    rw ec record {
      laid = rw number (items_more lexeme.KeyType class.Typedef (count ks) pre laid begun);
      fit = ok.fit;
      good = ok.good;
      text_is = ok.text_is;
      rule = refl;
      past = refl;
      marked = refl;
      begun = not_empty class.Typedef pre;
    }
again_ok kind.Vars (b ∷ w) ks x c pre text e ok = let h = ok.laid in cc
again_ok kind.Vars [] ks x c pre text e ok =
    let ec : c ≡ class.Vardef = vars_again x c e in
    let laid : elements (Literal lexeme.KeyVar ∷ []) None class.Vardef [] (count ks) ≡ Some pre = rw (add-zero (count ks), append-nil pre) at ok.laid in
    let begun : is_empty pre ≡ false = rw (append-nil pre) at ok.begun in
    let number : count ks + 1 ≡ suc (count ks) = omega arith in
    rw ec record {
      laid = rw number (items_more lexeme.KeyVar class.Vardef (count ks) pre laid begun);
      fit = ok.fit;
      good = ok.good;
      text_is = ok.text_is;
      rule = refl;
      past = refl;
      marked = refl;
      begun = not_empty class.Vardef pre;
    }
again_ok kind.Routines (b ∷ w) ks x c pre text e ok = let h = ok.laid in cc
again_ok kind.Routines [] ks x c pre text e ok =
    let ec : c ≡ class.Routine = routines_again x c e in
    let laid : elements [] None class.Routine [] (count ks) ≡ Some pre = rw (add-zero (count ks), append-nil pre) at ok.laid in
    let begun : is_empty pre ≡ false = rw (append-nil pre) at ok.begun in
    let number : count ks + 1 ≡ suc (count ks) = omega arith in
    rw ec record {
      laid = rw number (routine_more (count ks) pre laid begun);
      fit = ok.fit;
      good = ok.good;
      text_is = ok.text_is;
      rule = refl;
      past = refl;
      marked = refl;
      begun = not_empty class.Routine pre;
    }
again_ok _ w ks x c pre text e ok = cc

-- a node that is done and doesn't go on at else doesn't end open
pub quiet_of : (k : Kind) (w : List ℕ) (ks : Forest) (pre : List Item) (text : List Sym) (x : Option Lexeme)
    → FrontOk k w ks [] pre text → Calm pre ks x → switch k [] x ≡ None → Quiet k ks x
quiet_of kind.If w ks pre text x ok calm e = record { closed = λ h. let n : switch kind.If [] (Some lexeme.KeyElse) ≡ None = rw h at e in cc }
quiet_of kind.Ifelse (b ∷ w) ks pre text x ok calm e = let h = ok.laid in cc
quiet_of kind.Ifelse [] ks pre text x ok calm e =
    let front : pre ≡ Literal lexeme.KeyIf ∷ Kid class.Expression ∷ Literal lexeme.KeyThen ∷ Kid class.Statement ∷ Literal lexeme.KeyElse ∷ Kid class.Statement ∷ [] = sym (some_eq _ _ (ok.laid ∙ ap Some (append-nil pre))) in
    record { closed = λ h. calm.closed (rw front refl) h }
quiet_of kind.While (b ∷ w) ks pre text x ok calm e = let h = ok.laid in cc
quiet_of kind.While [] ks pre text x ok calm e =
    let front : pre ≡ Literal lexeme.KeyWhile ∷ Kid class.Expression ∷ Literal lexeme.KeyDo ∷ Kid class.Statement ∷ [] = sym (some_eq _ _ (ok.laid ∙ ap Some (append-nil pre))) in
    record { closed = λ h. calm.closed (rw front refl) h }
quiet_of kind.For w ks pre text x ok calm e =
    record { closed = λ h. calm.closed (for_ends (operator (lexeme.KeyTo ∷ lexeme.KeyDownto ∷ []) w) pre (ok.laid ∙ ap Some (append-nil pre))) h }
quiet_of kind.With (b ∷ w) ks pre text x ok calm e = let h = ok.laid in cc
quiet_of kind.With [] ks pre text x ok calm e =
    let front : pre ≡ Literal lexeme.KeyWith ∷ Kid class.Accesses ∷ Literal lexeme.KeyDo ∷ Kid class.Statement ∷ [] = sym (some_eq _ _ (ok.laid ∙ ap Some (append-nil pre))) in
    record { closed = λ h. calm.closed (rw front refl) h }
quiet_of _ w ks pre text x ok calm e = record { closed = λ h. refl }

pub no_kid_calm : (l : List Item) (x : Lexeme) (ks : Forest) (y : Option Lexeme) → Calm (l ++ Literal x ∷ []) ks y
no_kid_calm l x ks y = record { closed = λ h e. true-false (sym h ∙ no_kid l) }
  where
    no_kid : (m : List Item) → ends_kid (m ++ Literal x ∷ []) ≡ false
    no_kid [] = refl
    no_kid (Literal z ∷ m) = no_kid m
    no_kid (Word z ∷ m) = no_kid m
    no_kid (Kid d ∷ []) = refl
    no_kid (Kid d ∷ z ∷ m) = no_kid (z ∷ m)

pub opens_less : (k : Kind) (b : Bool) → not (opens k true) ≡ true → opens k b ≡ false
opens_less kind.Empty b h = cc
opens_less _ b h = cc
