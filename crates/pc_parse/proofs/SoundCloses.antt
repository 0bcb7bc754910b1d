-- A list that ends in front of its last separator is given to the node that awaits it, and the separator is that node's last `;`.
use Rattle.std.proofs.Common.{◌≡◌, ◌⊎◌, inl, inr, ℕ, zero, suc, ◌+◌, true, false, List, [], ◌∷◌, ◌++◌, Some, refl, ap, sym, ◌∙◌, subst, append_assoc, append-nil, add-zero, arith}
use Rattle.pc_syntax.specs.declared.lexeme.Lexeme.{Lexeme}
use Rattle.pc_syntax.specs.declared.lexeme.Lexeme.TheVariants as lexeme
use Rattle.pc_syntax.specs.declared.kind.Kind.{Kind}
use Rattle.pc_syntax.specs.declared.kind.Kind.TheVariants as kind
use Rattle.pc_syntax.specs.declared.class.Class.{Class}
use Rattle.pc_syntax.specs.declared.class.Class.TheVariants as class
use Rattle.pc_syntax.specs.declared.item.Item.{Item}
use Rattle.pc_syntax.specs.declared.item.Item.TheVariants.{Literal, Word, Kid}
use Rattle.pc_syntax.specs.Plain.{Forest, Nil, Cons, Plain, forest_of, count, kinds}
use Rattle.pc_syntax.specs.Classes.{has}
use Rattle.pc_syntax.specs.Spellings.{spelling_of}
use Rattle.pc_syntax.specs.Layout.{layout, further}
use Rattle.pc_syntax.specs.Symbols.{Sym, fill, texts, symbols_of}
use Rattle.pc_syntax.specs.WellFormed.{fits}
use Rattle.pc_parse.specs.Reading.{IsGood}
use Rattle.pc_parse.specs.Tables.{closes}
use Rattle.pc_parse.specs.Machine.{has_kids}
use Rattle.pc_parse.specs.Runs.{make_plain}
use Rattle.pc_parse.specs.Partial.{kids_in}
use Rattle.pc_parse.proofs.Entries.{&&_split}
use Rattle.pc_parse.proofs.SoundTables.{marks, is_empty}
use Rattle.pc_parse.proofs.SoundFrames.{some_eq, mark, FrontOk, NodeOk, snoc, forest_of-push, fits-more, filled, give_front, done_front}
use Rattle.pc_parse.proofs.SoundSwitches.{none-some, fill_word, awaits_list}

-- what is read of a list that awaits an element after a separator is the list so far and the separator
left : (x : Lexeme) (c d : Class) (n : ℕ) (pre m : List Item) (ts : Forest) → further (Some x) c n [] ≡ pre ++ Kid d ∷ m → fits pre (kinds ts) ≡ true
    → pre ≡ further (Some x) c (count ts) [] ++ Literal x ∷ []
left x c d zero [] m ts e fit = cc
left x c d zero (a ∷ pre) m ts e fit = cc
left x c d (suc n) [] m ts e fit = cc
left x c d (suc n) (a ∷ []) m ts e fit =
    let is : a ≡ Literal x = cc in
    rw is (alone ts (rw is at fit))
  where
    alone : (us : Forest) → fits (Literal x ∷ []) (kinds us) ≡ true → Literal x ∷ [] ≡ further (Some x) c (count us) [] ++ Literal x ∷ []
    alone Nil h = refl
    alone (Cons k w ns ks us) h = cc
left x c d (suc n) (a ∷ b ∷ pre) m ts e fit =
    let first_is : a ≡ Literal x = cc in
    let second_is : b ≡ Kid c = cc in
    let rest_is : further (Some x) c n [] ≡ pre ++ Kid d ∷ m = cc in
    rw (first_is, second_is) (more ts (rw (first_is, second_is) at fit) (λ us h. left x c d n pre m us rest_is h))
  where
    more : (us : Forest) → fits (Literal x ∷ Kid c ∷ pre) (kinds us) ≡ true → ((vs : Forest) → fits pre (kinds vs) ≡ true → pre ≡ further (Some x) c (count vs) [] ++ Literal x ∷ [])
        → Literal x ∷ Kid c ∷ pre ≡ further (Some x) c (count us) [] ++ Literal x ∷ []
    more Nil h ih = cc
    more (Cons k w ns ks us) h ih = ap (λ l. Literal x ∷ Kid c ∷ l) (ih us (&&_split _ _ h).1)

-- kids that fit the items and a symbol fit the items
fits_less : (l : List Item) (x : Lexeme) (ks : List Kind) → fits (l ++ Literal x ∷ []) ks ≡ true → fits l ks ≡ true
fits_less [] x ks h = h
fits_less (Literal y ∷ l) x ks h = fits_less l x ks h
fits_less (Word y ∷ l) x ks h = fits_less l x ks h
fits_less (Kid c ∷ l) x [] h = cc
fits_less (Kid c ∷ l) x (k ∷ ks) h = let p : (has c k ≡ true) × (fits (l ++ Literal x ∷ []) ks ≡ true) = &&_split _ _ h in rw (p.0, fits_less l x ks p.1) refl

-- The list in front of its last separator.
record Whole (i : Kind) (v : List ℕ) (is : List Plain) (text : List Sym) : Type 0 where
  node : NodeOk i (make_plain i v is)
  text_is : text ≡ symbols_of (make_plain i v is) ++ mark lexeme.Semicolon ∷ []

whole : (i : Kind) (e d : Class) (v : List ℕ) (is : List Plain) (m pre : List Item) (text : List Sym)
    → ((n : ℕ) → layout i v (suc n) ≡ Some (Kid e ∷ further (Some lexeme.Semicolon) e n [])) → has_kids is ≡ true → FrontOk i v (forest_of is) (Kid d ∷ m) pre text → Whole i v is text
whole i e d v [] m pre text lays some ok = cc
whole i e d v (t ∷ ts) m pre text lays some ok =
    let us = forest_of ts in
    let number : suc (count us) + suc (kids_in m) ≡ suc (suc (count us + kids_in m)) = omega arith in
    let laid : Some (Kid e ∷ further (Some lexeme.Semicolon) e (suc (count us + kids_in m)) []) ≡ Some (pre ++ Kid d ∷ m) = sym (lays (suc (count us + kids_in m))) ∙ (rw number at ok.laid) in
    go pre ok (some_eq _ _ laid)
  where
    go : (p : List Item) → FrontOk i v (forest_of (t ∷ ts)) (Kid d ∷ m) p text → Kid e ∷ further (Some lexeme.Semicolon) e (suc (count (forest_of ts) + kids_in m)) [] ≡ p ++ Kid d ∷ m → Whole i v (t ∷ ts) text
    go [] ok h = let z : false ≡ true = ok.fit in cc
    go (a ∷ p) ok h =
        let us = forest_of ts in
        let all = forest_of (t ∷ ts) in
        let first_is : a ≡ Kid e = cc in
        let rest_is : further (Some lexeme.Semicolon) e (suc (count us + kids_in m)) [] ≡ p ++ Kid d ∷ m = cc in
        let fit : fits (Kid e ∷ p) (kinds all) ≡ true = subst (λ b. fits (b ∷ p) (kinds all) ≡ true) first_is ok.fit in
        let l = Kid e ∷ further (Some lexeme.Semicolon) e (count us) [] in
        let pre_is : a ∷ p ≡ l ++ Literal lexeme.Semicolon ∷ [] = rw first_is (ap (λ n. Kid e ∷ n) (left lexeme.Semicolon e d (suc (count us + kids_in m)) p m us rest_is (&&_split _ _ fit).1)) in
        let fit_all : fits (l ++ Literal lexeme.Semicolon ∷ []) (kinds all) ≡ true = subst (λ n. fits n (kinds all) ≡ true) pre_is ok.fit in
        let fit_l : fits l (kinds all) ≡ true = fits_less l lexeme.Semicolon (kinds all) fit_all in
        let front : FrontOk i v all [] l (fill l v (texts all)) = record {
          laid = rw (add-zero (count all), append-nil l) (lays (count us));
          fit = fit_l;
          good = ok.good;
          text_is = refl;
          rule = ok.rule;
          past = ok.past;
          marked = refl;
          begun = refl;
        } in
        let done = done_front i v (t ∷ ts) l (fill l v (texts all)) front in
        record {
          node = done.0;
          text_is = rw done.1 (ok.text_is ∙ ap (λ n. fill n v (texts all)) pre_is ∙ sym (filled l lexeme.Semicolon v all (fill l v (texts all)) fit_l refl));
        }

-- a list of arms or fields, and the node that awaits it
abbrev Ends : Kind → List Item → Kind → List Item → Class → Class → Kind → Kind → Type 0
Ends i l k m e c list node = (i ≡ list) × (l ≡ Kid e ∷ []) × (k ≡ node) × (m ≡ Kid c ∷ Literal lexeme.KeyEnd ∷ [])

closing : (i : Kind) (l : List Item) (k : Kind) (m : List Item) → closes i l k m ≡ true
    → Ends i l k m class.Arm class.Arms kind.Arms kind.Case ⊎ Ends i l k m class.Field class.Fields kind.Fields kind.Record
closing kind.Arms (Kid class.Arm ∷ []) kind.Case (Kid class.Arms ∷ Literal lexeme.KeyEnd ∷ []) h = inl (refl, refl, refl, refl)
closing kind.Fields (Kid class.Field ∷ []) kind.Record (Kid class.Fields ∷ Literal lexeme.KeyEnd ∷ []) h = inr (refl, refl, refl, refl)
closing _ _ _ _ h = cc

arms_whole : (v : List ℕ) (is : List Plain) (pre : List Item) (text : List Sym) → has_kids is ≡ true → FrontOk kind.Arms v (forest_of is) (Kid class.Arm ∷ []) pre text → Whole kind.Arms v is text
arms_whole [] is pre text some ok = whole kind.Arms class.Arm class.Arm [] is [] pre text (λ n. refl) some ok
arms_whole (b ∷ v) is pre text some ok = none-some _ ok.laid

fields_whole : (v : List ℕ) (is : List Plain) (pre : List Item) (text : List Sym) → has_kids is ≡ true → FrontOk kind.Fields v (forest_of is) (Kid class.Field ∷ []) pre text → Whole kind.Fields v is text
fields_whole [] is pre text some ok = whole kind.Fields class.Field class.Field [] is [] pre text (λ n. refl) some ok
fields_whole (b ∷ v) is pre text some ok = none-some _ ok.laid

-- the list is a node
pub closed_good : (i : Kind) (l : List Item) (k : Kind) (m : List Item) (v : List ℕ) (is : List Plain) (pre : List Item) (text : List Sym)
    → closes i l k m ≡ true → has_kids is ≡ true → FrontOk i v (forest_of is) l pre text → IsGood (make_plain i v is)
closed_good i l k m v is pre text h some ok = go (closing i l k m h)
  where
    go : Ends i l k m class.Arm class.Arms kind.Arms kind.Case ⊎ Ends i l k m class.Field class.Fields kind.Fields kind.Record → IsGood (make_plain i v is)
    go (inl e) = rw e.0 (arms_whole v is pre text some (rw (e.0, e.1) at ok)).node.good
    go (inr e) = rw e.0 (fields_whole v is pre text some (rw (e.0, e.1) at ok)).node.good

-- the node that awaits the list, past its last `;`
close_front : (k : Kind) (c : Class) (w : List ℕ) (ks : List Plain) (i : Kind) (v : List ℕ) (is : List Plain) (pre : List Item) (before text : List Sym)
    → FrontOk k w (forest_of ks) (Kid c ∷ Literal lexeme.KeyEnd ∷ []) pre before → Whole i v is text → has c i ≡ true
    → ((n : ℕ) → layout k (spelling_of lexeme.Semicolon) n ≡ Some (((pre ++ Kid c ∷ []) ++ Literal lexeme.Semicolon ∷ []) ++ Literal lexeme.KeyEnd ∷ [])) → marks (pre ++ Kid c ∷ []) ≡ true
    → is_empty (((pre ++ Kid c ∷ []) ++ Literal lexeme.Semicolon ∷ []) ++ Literal lexeme.KeyEnd ∷ []) ≡ false
    → FrontOk k (spelling_of lexeme.Semicolon) (forest_of (ks ++ make_plain i v is ∷ [])) (Literal lexeme.KeyEnd ∷ []) ((pre ++ Kid c ∷ []) ++ Literal lexeme.Semicolon ∷ []) (before ++ text)
close_front k c w ks i v is pre before text ok list member lays marked begun =
    let t = make_plain i v is in
    let us = snoc (forest_of ks) t in
    let l = pre ++ Kid c ∷ [] in
    let given : FrontOk k w us (Literal lexeme.KeyEnd ∷ []) l (before ++ symbols_of t) = give_front k w (forest_of ks) c (Literal lexeme.KeyEnd ∷ []) pre before t ok member list.node.good in
    let word = spelling_of lexeme.Semicolon in
    let all : before ++ text ≡ (before ++ symbols_of t) ++ mark lexeme.Semicolon ∷ [] = ap (λ s. before ++ s) list.text_is ∙ sym (append_assoc before (symbols_of t) (mark lexeme.Semicolon ∷ [])) in
    rw (forest_of-push ks t, all) record {
      laid = lays (count us + 0);
      fit = rw (append-nil (kinds us)) at (fits-more l (Literal lexeme.Semicolon ∷ []) (kinds us) [] given.fit refl);
      good = given.good;
      text_is = filled l lexeme.Semicolon word us (before ++ symbols_of t) given.fit (given.text_is ∙ fill_word l w word (texts us) marked);
      rule = given.rule;
      past = given.past;
      marked = refl;
      begun = begun;
    }

-- The node that awaits the list goes on past its last `;`.
pub record Closing (k : Kind) (ks : List Plain) (i : Kind) (v : List ℕ) (is : List Plain) (text : List Sym) : Type 0 where
  pub pre : List Item
  pub front : FrontOk k (spelling_of lexeme.Semicolon) (forest_of (ks ++ make_plain i v is ∷ [])) (Literal lexeme.KeyEnd ∷ []) (pre ++ Literal lexeme.Semicolon ∷ []) text

case_closes : (w : List ℕ) (ks : List Plain) (v : List ℕ) (is : List Plain) (pre : List Item) (before text : List Sym)
    → FrontOk kind.Case w (forest_of ks) (Kid class.Arms ∷ Literal lexeme.KeyEnd ∷ []) pre before → Whole kind.Arms v is text → Closing kind.Case ks kind.Arms v is (before ++ text)
case_closes w ks v is pre before text ok list =
    let front : pre ≡ Literal lexeme.KeyCase ∷ Kid class.Expression ∷ Literal lexeme.KeyOf ∷ [] = (awaits_list w (Literal lexeme.KeyCase ∷ Kid class.Expression ∷ Literal lexeme.KeyOf ∷ []) pre class.Arms ok.laid).1 in
    record {
      pre = pre ++ Kid class.Arms ∷ [];
      front = close_front kind.Case class.Arms w ks kind.Arms v is pre before text ok list refl (λ n. rw front refl) (rw front refl) (rw front refl);
    }

record_closes : (w : List ℕ) (ks : List Plain) (v : List ℕ) (is : List Plain) (pre : List Item) (before text : List Sym)
    → FrontOk kind.Record w (forest_of ks) (Kid class.Fields ∷ Literal lexeme.KeyEnd ∷ []) pre before → Whole kind.Fields v is text → Closing kind.Record ks kind.Fields v is (before ++ text)
record_closes w ks v is pre before text ok list =
    let front : pre ≡ Literal lexeme.KeyRecord ∷ [] = (awaits_list w (Literal lexeme.KeyRecord ∷ []) pre class.Fields ok.laid).1 in
    record {
      pre = pre ++ Kid class.Fields ∷ [];
      front = close_front kind.Record class.Fields w ks kind.Fields v is pre before text ok list refl (λ n. rw front refl) (rw front refl) (rw front refl);
    }

pub closed_ok : (i : Kind) (l : List Item) (k : Kind) (m : List Item) (v : List ℕ) (is : List Plain) (w : List ℕ) (ks : List Plain) (pre outer : List Item) (before text : List Sym)
    → closes i l k m ≡ true → has_kids is ≡ true → FrontOk i v (forest_of is) l pre text → FrontOk k w (forest_of ks) m outer before → Closing k ks i v is (before ++ text)
closed_ok i l k m v is w ks pre outer before text h some ok below = go (closing i l k m h)
  where
    go : Ends i l k m class.Arm class.Arms kind.Arms kind.Case ⊎ Ends i l k m class.Field class.Fields kind.Fields kind.Record → Closing k ks i v is (before ++ text)
    go (inl e) = rw (e.0, e.2) (case_closes w ks v is outer before text (rw (e.2, e.3) at below) (arms_whole v is pre text some (rw (e.0, e.1) at ok)))
    go (inr e) = rw (e.0, e.2) (record_closes w ks v is outer before text (rw (e.2, e.3) at below) (fields_whole v is pre text some (rw (e.0, e.1) at ok)))
