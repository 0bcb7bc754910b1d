-- No comment is the note of two nodes: a tree bears at most as many notes as its symbols have.
use Rattle.std.proofs.Common.{◌≡◌, ℕ, zero, suc, ◌+◌, ◌^◌, ◌<◌, ◌≤◌, Bool, true, false, ◌&&◌, not, if◌then◌else◌, List, [], ◌∷◌, ◌++◌, Option, Some, None, map, length, take, drop, refl, ap, sym, ◌∙◌, arith}
use Rattle.std.specs.Prelude.{slice_get}
use Rattle.std.specs.List.{list_all}
use Rattle.std.proofs.lemmas.Bool.{true≢false}
use Rattle.std.proofs.lemmas.List.{drop-drop, length-map, take_all}
use Rattle.pc_syntax.specs.declared.kind.Kind.{Kind}
use Rattle.pc_syntax.specs.declared.kind.Kind.TheVariants as kind
use Rattle.pc_syntax.specs.declared.class.Class.{Class}
use Rattle.pc_syntax.specs.declared.class.Class.TheVariants as class
use Rattle.pc_syntax.specs.declared.lexeme.Lexeme.{Lexeme}
use Rattle.pc_syntax.specs.declared.lexeme.Lexeme.TheVariants as lexeme
use Rattle.pc_syntax.specs.declared.item.Item.{Item}
use Rattle.pc_syntax.specs.declared.item.Item.TheVariants.{Literal, Word, Kid}
use Rattle.pc_syntax.specs.Plain.{Forest, Nil, Cons, Plain, count, kinds}
use Rattle.pc_syntax.specs.Symbols.{texts, fill_some}
use Rattle.pc_syntax.specs.Layout.{layout, wordless, operator, around, last_semicolon, elements}
use Rattle.pc_syntax.specs.Classes.{has}
use Rattle.pc_syntax.specs.Slots.{is_list, places_of, class_from}
use Rattle.pc_syntax.specs.Sorts.{bears_notes}
use Rattle.pc_syntax.specs.Fits.{word_fits, takes_count, takes, takes_from}
use Rattle.pc_syntax.specs.FitsLayoutLaws.{layout-forest}
use Rattle.pc_syntax.specs.WellFormed.{fits, fits_some, takes_notes, WellFormed, IsWellFormed}
use Rattle.pc_lex.specs.declared.symbol.Span.{Span}
use Rattle.pc_lex.specs.Spells.{PlainSymbol}
use Rattle.pc_layout.specs.Noted.{Notes, first_notes, keeps_notes, own_notes, portions, portions_some, kid_notes, first_of, rest_of, noted, noted_tree, notes_in, notes_of}
use Rattle.pc_layout.specs.NotedLaws.{weight, total, weight-drop, weight-first, total-first, total-portions, total-portions_some}
use Rattle.pc_lex.specs.declared.symbol.Lexed.{Lexed}
use Rattle.pc_lex.specs.Views.{plain_symbols}
use Rattle.pc_parse.specs.declared.notes.Placed.{Placed}
use Rattle.pc_parse.specs.Comments.{bytes_at, symbol_notes, notes_of_lexed, comments_in}
use Rattle.pc_parse.specs.Quiet.{quiet}
use Rattle.pc_parse.specs.Placing.{breadth, placed, kept, IsPlaced}
use Rattle.pc_parse.proofs.LexedNotes.{length-symbol_notes}
use Rattle.pc_parse.proofs.Entries.{each, implies, implies_true, &&_split, &&_join, all_kinds, at_kind, at_class}

-- a class of such kinds
abbrev quiet_class : Class → Bool
quiet_class class.Name = true
quiet_class class.Names = true
quiet_class class.Labels = true
quiet_class class.Constant = true
quiet_class class.Bare = true
quiet_class class.Argument = true
quiet_class class.Member = true
quiet_class class.Expression = true
quiet_class class.Simple = true
quiet_class class.Term = true
quiet_class class.Factor = true
quiet_class class.Access = true
quiet_class class.Args = true
quiet_class class.Exprs = true
quiet_class class.Members = true
quiet_class _ = false

quiet_in : (c : Class) (k : Kind) → quiet_class c ≡ true → has c k ≡ true → quiet k ≡ true
quiet_in c k q h =
    let by_class : each (λ j. implies (has c j) (quiet j)) all_kinds ≡ true = implies_true _ _ (at_class (λ b. implies (quiet_class b) (each (λ j. implies (has b j) (quiet j)) all_kinds)) c refl) q in
    implies_true _ _ (at_kind (λ j. implies (has c j) (quiet j)) k by_class) h

quiet_parts : (k : Kind) → quiet k ≡ true → (list_all quiet_class (places_of k) ≡ true) × (not (bears_notes k) ≡ true)
quiet_parts k q = &&_split _ _ (implies_true _ _ (at_kind (λ j. implies (quiet j) (list_all quiet_class (places_of j) && not (bears_notes j))) k refl) q)

quiet_at : (cs : List Class) (i : ℕ) (k : Kind) → list_all quiet_class cs ≡ true → takes (slice_get cs i) k ≡ true → quiet k ≡ true
quiet_at [] i k q h = cc
quiet_at (c ∷ cs) zero k q h = quiet_in c k (&&_split _ _ q).0 h
quiet_at (c ∷ cs) (suc i) k q h = quiet_at cs i k (&&_split _ _ q).1 h

pub quiet_kids : (k : Kind) (i : ℕ) (js : List Kind) → quiet k ≡ true → takes_from k i js ≡ true → list_all quiet js ≡ true
quiet_kids k i [] q h = refl
quiet_kids k i (j ∷ js) q h =
    let p : (takes (class_from k i) j ≡ true) × (takes_from k (suc i) js ≡ true) = &&_split _ _ h in
    &&_join _ _ (quiet_at (places_of k) (if is_list k then 0 else i) j (quiet_parts k q).0 p.0) (quiet_kids k (suc i) js q p.1)

pub fitting_kids : (k : Kind) (w : List ℕ) (ks : Forest) → fits_some (layout k w (count ks)) (kinds ks) ≡ true → takes_from k 0 (kinds ks) ≡ true
fitting_kids k w ks h =
    let p : (word_fits k w ≡ true) × (takes_count k (count ks) && takes_from k 0 (kinds ks) ≡ true) = &&_split _ _ (sym (layout-forest k w ks) ∙ h) in
    (&&_split _ _ p.1).1

bears_not : (k : Kind) (n : ℕ) → not (bears_notes k) ≡ true → keeps_notes k n ≡ false
bears_not k n h = go (bears_notes k) refl n h
  where
    go : (b : Bool) → bears_notes k ≡ b → (n : ℕ) → not b ≡ true → keeps_notes k n ≡ false
    go true e n h = cc
    go false e zero h = ap (λ b. b && not (is_list k)) e
    go false e (suc n) h = e

keeps_bears : (k : Kind) (n : ℕ) → keeps_notes k n ≡ true → bears_notes k ≡ true
keeps_bears k zero h = (&&_split _ _ h).0
keeps_bears k (suc n) h = h

own_not : (k : Kind) (n : ℕ) (ns : List Notes) → keeps_notes k n ≡ false → own_notes k n ns ≡ []
own_not k n ns h = ap (λ b. if b then first_notes ns else []) h

own_first : (k : Kind) (n : ℕ) (ns : List Notes) → keeps_notes k n ≡ true → own_notes k n ns ≡ first_notes ns
own_first k n ns h = ap (λ b. if b then first_notes ns else []) h

-- no notes there
quiet_none : (ts : Forest) (nss : List (List Notes)) → WellFormed ts → list_all quiet (kinds ts) ≡ true → notes_in (noted ts nss) ≡ 0
unfolding notes_in
quiet_none Nil nss h q = refl
quiet_none (Cons k w ms ks ts) nss h q =
    let p : (quiet k ≡ true) × (list_all quiet (kinds ts) ≡ true) = &&_split _ _ q in
    let own : length (own_notes k (count ks) (first_of nss)) ≡ 0 = ap (λ (m : Notes). length m) (own_not k (count ks) (first_of nss) (bears_not k (count ks) (quiet_parts k p.0).1)) in
    omega (arith, own, quiet_none ks (kid_notes k w ks (first_of nss)) h.3 (quiet_kids k 0 (kinds ks) p.0 (fitting_kids k w ks h.0)), quiet_none ts (rest_of nss) h.4 p.1)

bare_own : (k : Kind) (n : ℕ) (ms : Notes) → not (bears_notes k) ≡ true → takes_notes k n ms ≡ true → ms ≡ []
bare_own k n [] h e = refl
bare_own k zero (c ∷ cs) h e = absurd (both (bears_notes k) h (&&_split _ _ (&&_split _ _ e).0).0)
  where
    both : (b : Bool) → not b ≡ true → b ≡ true → ⊥
    both true h e = true≢false (sym h)
    both false h e = true≢false (sym e)
bare_own k (suc n) (c ∷ cs) h e = absurd (both (bears_notes k) h (&&_split _ _ e).0)
  where
    both : (b : Bool) → not b ≡ true → b ≡ true → ⊥
    both true h e = true≢false (sym h)
    both false h e = true≢false (sym e)

-- and they stay as they are
noted_quiet : (ts : Forest) (nss : List (List Notes)) → WellFormed ts → list_all quiet (kinds ts) ≡ true → noted ts nss ≡ ts
noted_quiet Nil nss h q = refl
noted_quiet (Cons k w ms ks ts) nss h q =
    let p : (quiet k ≡ true) × (list_all quiet (kinds ts) ≡ true) = &&_split _ _ q in
    let own : own_notes k (count ks) (first_of nss) ≡ ms = own_not k (count ks) (first_of nss) (bears_not k (count ks) (quiet_parts k p.0).1) ∙ sym (bare_own k (count ks) ms (quiet_parts k p.0).1 h.1) in
    let kids : noted ks (kid_notes k w ks (first_of nss)) ≡ ks = noted_quiet ks (kid_notes k w ks (first_of nss)) h.3 (quiet_kids k 0 (kinds ks) p.0 (fitting_kids k w ks h.0)) in
    let rest : noted ts (rest_of nss) ≡ ts = noted_quiet ts (rest_of nss) h.4 p.1 in
    λ i. Cons k w (own i) (kids i) (rest i)

abbrev first : Forest → Plain → Plain
first Nil d = d
first (Cons k w ns ks ts) d = record { kind = k; word = w; notes = ns; kids = ks }

-- a quiet tree is as it was
pub quiet_placed : (t : Plain) (all : List Notes) (start : ℕ) → IsWellFormed t → quiet t.kind ≡ true → (t ≡ placed t all start) × (0 ≡ kept (notes_of (placed t all start)))
unfolding notes_in
quiet_placed t all start h q =
    let ns : List Notes = take (breadth t) (drop start all) in
    let kinds_quiet : list_all quiet (kinds (Cons t.kind t.word t.notes t.kids Nil)) ≡ true = &&_join _ true q refl in
    let same : noted (Cons t.kind t.word t.notes t.kids Nil) (ns ∷ []) ≡ Cons t.kind t.word t.notes t.kids Nil = noted_quiet (Cons t.kind t.word t.notes t.kids Nil) (ns ∷ []) h kinds_quiet in
    let none : notes_in (noted (Cons t.kind t.word t.notes t.kids Nil) (ns ∷ [])) ≡ 0 = quiet_none (Cons t.kind t.word t.notes t.kids Nil) (ns ∷ []) h kinds_quiet in
    (sym (ap (λ f. first f t) same), omega (arith, none))

-- before the first symbol of these items only kids stand that bear no notes
abbrev guarded : List Item → Bool
guarded [] = true
guarded (Literal x ∷ is) = true
guarded (Word x ∷ is) = true
guarded (Kid c ∷ is) = quiet_class c && guarded is

abbrev guarded_some : Option (List Item) → Bool
guarded_some None = true
guarded_some (Some is) = guarded is

plain_guarded : (w : List ℕ) (is : List Item) → guarded is ≡ true → guarded_some (wordless w (Some is)) ≡ true
plain_guarded [] is h = h
plain_guarded (b ∷ w) is h = refl

around_guarded : (o : Option Lexeme) (x : Lexeme) (before behind : List Item) → guarded_some (around o (Literal x ∷ before) behind) ≡ true
around_guarded None x before behind = refl
around_guarded (Some y) x before behind = refl

semicolon_guarded : (w : List ℕ) (x : Lexeme) (before behind : List Item) → guarded_some (last_semicolon w (Literal x ∷ before) behind) ≡ true
semicolon_guarded [] x before behind = refl
semicolon_guarded (b ∷ w) x before behind = go _
  where
    go : (c : Bool) → guarded_some (if c then Some ((Literal x ∷ before) ++ Literal lexeme.Semicolon ∷ behind) else None) ≡ true
    go true = refl
    go false = refl

elements_guarded : (w : List ℕ) (x : Lexeme) (sep : Option Lexeme) (c : Class) (close : List Item) (n : ℕ) → guarded_some (wordless w (elements (Literal x ∷ []) sep c close n)) ≡ true
elements_guarded [] x sep c close zero = refl
elements_guarded [] x sep c close (suc n) = refl
elements_guarded (b ∷ w) x sep c close n = refl

bearers_guarded : (k : Kind) (w : List ℕ) (n : ℕ) → bears_notes k ≡ true → guarded_some (layout k w n) ≡ true
bearers_guarded kind.Program w n h = plain_guarded w _ refl
bearers_guarded kind.Consts w n h = elements_guarded w lexeme.KeyConst None class.Constdef [] n
bearers_guarded kind.Types w n h = elements_guarded w lexeme.KeyType None class.Typedef [] n
bearers_guarded kind.Vars w n h = elements_guarded w lexeme.KeyVar None class.Vardef [] n
bearers_guarded kind.Constdef w n h = plain_guarded w _ refl
bearers_guarded kind.Typedef w n h = plain_guarded w _ refl
bearers_guarded kind.Vardef w n h = plain_guarded w _ refl
bearers_guarded kind.Field w n h = plain_guarded w _ refl
bearers_guarded kind.Procedure w n h = plain_guarded w _ refl
bearers_guarded kind.Function w n h = plain_guarded w _ refl
bearers_guarded kind.Funbody w n h = plain_guarded w _ refl
bearers_guarded kind.Arm w n h = plain_guarded w _ refl
bearers_guarded kind.Assign w n h = plain_guarded w _ refl
bearers_guarded kind.Proc w n h = plain_guarded w _ refl
bearers_guarded kind.Compound w n h = plain_guarded w _ refl
bearers_guarded kind.If w n h = plain_guarded w _ refl
bearers_guarded kind.Ifelse w n h = plain_guarded w _ refl
bearers_guarded kind.Case w n h = semicolon_guarded w lexeme.KeyCase _ _
bearers_guarded kind.Repeat w n h = plain_guarded w _ refl
bearers_guarded kind.While w n h = plain_guarded w _ refl
bearers_guarded kind.For w n h = around_guarded (operator (lexeme.KeyTo ∷ lexeme.KeyDownto ∷ []) w) lexeme.KeyFor _ _
bearers_guarded kind.With w n h = plain_guarded w _ refl
bearers_guarded (kind.Hole s) w n h = plain_guarded w _ refl
bearers_guarded _ w n h = cc

-- the trees bear no more notes than they are given
abbrev Frugal : Forest → Type 0
Frugal ts = (nss : List (List Notes)) → notes_in (noted ts nss) ≤ total nss

frugal_rest : (k : Kind) (w : List ℕ) (ms : List (List ℕ)) (ks ts : Forest) → Frugal (Cons k w ms ks ts) → Frugal ts
unfolding notes_in
frugal_rest k w ms ks ts f nss = omega (arith, f ([] ∷ nss))

-- and none of the notes of the first symbol, behind such items
spared : (is : List Item) (ks : Forest) (ns : List Notes) → guarded is ≡ true → fits is (kinds ks) ≡ true → WellFormed ks → Frugal ks →
    notes_in (noted ks (portions is (map length (texts ks)) ns)) ≤ weight (drop 1 ns)
unfolding notes_in
spared [] Nil ns g e h f = omega arith
spared [] (Cons k w ms ks ts) ns g e h f = cc
spared (Literal x ∷ is) ks ns g e h f = omega (arith, f (portions is (map length (texts ks)) (drop 1 ns)), total-portions is (map length (texts ks)) (drop 1 ns))
spared (Word x ∷ is) ks ns g e h f = omega (arith, f (portions is (map length (texts ks)) (drop 1 ns)), total-portions is (map length (texts ks)) (drop 1 ns))
spared (Kid c ∷ is) Nil ns g e h f = omega arith
spared (Kid c ∷ is) (Cons k w ms ks ts) ns g e h f =
    let q : (quiet_class c ≡ true) × (guarded is ≡ true) = &&_split _ _ g in
    let m : (has c k ≡ true) × (fits is (kinds ts) ≡ true) = &&_split _ _ e in
    let l : ℕ = length (fill_some (layout k w (count ks)) w (texts ks)) in
    let one : notes_in (noted (Cons k w ms ks Nil) (take l ns ∷ [])) ≡ 0 = quiet_none (Cons k w ms ks Nil) (take l ns ∷ []) (h.0, h.1, h.2, h.3, tt) (&&_join _ true (quiet_in c k q.0 m.0) refl) in
    let more : notes_in (noted ts (portions is (map length (texts ts)) (drop l ns))) ≤ weight (drop 1 (drop l ns)) = spared is ts (drop l ns) q.1 m.1 h.4 (frugal_rest k w ms ks ts f) in
    let same : drop 1 (drop l ns) ≡ drop l (drop 1 ns) = drop-drop 1 l ns ∙ ap (λ n. drop n ns) (omega arith) ∙ sym (drop-drop l 1 ns) in
    let less : weight (drop 1 (drop l ns)) ≤ weight (drop 1 ns) = rw same (weight-drop l (drop 1 ns)) in
    omega (arith, one, more, less)

spared_some : (o : Option (List Item)) (ks : Forest) (ns : List Notes) → guarded_some o ≡ true → fits_some o (kinds ks) ≡ true → WellFormed ks → Frugal ks →
    notes_in (noted ks (portions_some o (map length (texts ks)) ns)) ≤ weight (drop 1 ns)
spared_some None ks ns g e h f = cc
spared_some (Some is) ks ns g e h f = spared is ks ns g e h f

-- a node and all below it
node_frugal : (k : Kind) (w : List ℕ) (ms : List (List ℕ)) (ks : Forest) (ns : List Notes) → fits_some (layout k w (count ks)) (kinds ks) ≡ true → WellFormed ks → Frugal ks →
    length (own_notes k (count ks) ns) + notes_in (noted ks (kid_notes k w ks ns)) ≤ weight ns
node_frugal k w ms ks ns e h f = go (keeps_notes k (count ks)) refl
  where
    go : (b : Bool) → keeps_notes k (count ks) ≡ b → length (own_notes k (count ks) ns) + notes_in (noted ks (kid_notes k w ks ns)) ≤ weight ns
    go false b =
        let own : length (own_notes k (count ks) ns) ≡ 0 = ap (λ (m : Notes). length m) (own_not k (count ks) ns b) in
        omega (arith, own, f (kid_notes k w ks ns), total-portions_some (layout k w (count ks)) (map length (texts ks)) ns)
    go true b =
        let own : length (own_notes k (count ks) ns) ≡ length (first_notes ns) = ap (λ (m : Notes). length m) (own_first k (count ks) ns b) in
        let kids : notes_in (noted ks (kid_notes k w ks ns)) ≤ weight (drop 1 ns) = spared_some (layout k w (count ks)) ks ns (bearers_guarded k w (count ks) (keeps_bears k (count ks) b)) e h f in
        omega (arith, own, kids, weight-first ns)

frugal : (ts : Forest) → WellFormed ts → Frugal ts
unfolding notes_in
frugal Nil h nss = omega arith
frugal (Cons k w ms ks ts) h nss =
    omega (arith, node_frugal k w ms ks (first_of nss) h.0 h.3 (frugal ks h.3), frugal ts h.4 (rest_of nss), total-first nss)

pub weight-comments : (text : List ℕ) (ss : List PlainSymbol) (tail : List Span) → weight (symbol_notes text ss) + length tail ≡ comments_in ss tail
unfolding comments_in
weight-comments text [] tail = omega arith
weight-comments text (s ∷ ss) tail = omega (arith, weight-comments text ss tail, length-map s.notes (bytes_at text))

-- a tree bears at most as many notes as a text has comments
pub notes_of-le : (t : Plain) (text : List ℕ) (ss : List PlainSymbol) (tail : List Span) → IsWellFormed t → notes_of (noted_tree t (symbol_notes text ss)) ≤ comments_in ss tail
notes_of-le t text ss tail h =
    omega (arith, node_frugal t.kind t.word t.notes t.kids (symbol_notes text ss) h.0 h.3 (frugal t.kids h.3), weight-comments text ss tail)

-- a tree that has all symbols gets all notes
module _ (t : Plain) (lexed : Lexed) (formed : IsWellFormed t) (size : breadth t ≡ length lexed.symbols.items) where
  pub placed-all : placed t (notes_of_lexed lexed) 0 ≡ noted_tree t (notes_of_lexed lexed)
  placed-all = ap (noted_tree t) (take_all (breadth t) (notes_of_lexed lexed) (omega (arith, size, length-symbol_notes lexed.text.now lexed.symbols.items)))

  pub placed-count : (p : Placed) (comments : ℕ) → IsPlaced t (notes_of_lexed lexed) 0 p → comments ≡ comments_in (plain_symbols lexed.symbols.items) lexed.tail.items → comments < 2 ^ 64 →
      (p.count ≡ notes_of (noted_tree t (notes_of_lexed lexed))) × (p.count ≤ comments)
  placed-count p comments is e fits =
      let same : notes_of (placed t (notes_of_lexed lexed) 0) ≡ notes_of (noted_tree t (notes_of_lexed lexed)) = ap notes_of placed-all in
      let most = notes_of-le t lexed.text.now (plain_symbols lexed.symbols.items) lexed.tail.items formed in
      (omega (arith, is.count, same, most, e, fits), omega (arith, is.count, same, most, e, fits))
