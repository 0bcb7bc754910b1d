-- Each partial tree goes on to a tree: holes and lists of one hole fill what is left of it.
use Rattle.std.proofs.Common.{◌≡◌, ℕ, suc, ◌+◌, true, false, ◌&&◌, List, [], ◌∷◌, ◌++◌, Option, Some, None, refl, ap, sym, ◌∙◌, append_assoc, append-nil, zero-add, arith, ◌⊎◌, inl, inr}
use Rattle.pc_syntax.specs.declared.lexeme.Lexeme.TheVariants as lexeme
use Rattle.pc_syntax.specs.declared.kind.Kind.{Kind}
use Rattle.pc_syntax.specs.declared.kind.Kind.TheVariants as kind
use Rattle.pc_syntax.specs.declared.sort.Sort.{Sort}
use Rattle.pc_syntax.specs.declared.class.Class.{Class}
use Rattle.pc_syntax.specs.declared.class.Class.TheVariants as class
use Rattle.pc_syntax.specs.declared.item.Item.{Item}
use Rattle.pc_syntax.specs.declared.item.Item.TheVariants.{Literal, Word, Kid}
use Rattle.pc_syntax.specs.Plain.{Forest, Nil, Cons, Plain, count, kinds}
use Rattle.pc_syntax.specs.Layout.{layout}
use Rattle.pc_syntax.specs.Classes.{has}
use Rattle.pc_syntax.specs.Symbols.{Sym, fill, texts, symbols}
use Rattle.pc_syntax.specs.WellFormed.{fits, fits_some, opens, last_open, second_open, breaks_else_rule}
use Rattle.pc_syntax.specs.Blanks.{blank_kind, first_hole}
use Rattle.pc_parse.specs.Reading.{Good, ReadsBare}
use Rattle.pc_parse.specs.Partial.{kids_in, Front, front_symbols, partial_symbols}
use Rattle.pc_parse.proofs.BarePartial.{IsFront, Linked}
use Rattle.pc_parse.proofs.Entries.{implies, implies_true, &&_split, &&_join, at_class}
use Rattle.pc_parse.proofs.SoundFrames.{true-false, some_eq, fits-more, fill-more}
use Rattle.pc_parse.proofs.Simulates.{bare}

-- what stands at a place of the class while nothing is written there
abbrev holes : Option Sort → Forest
holes None = Nil
holes (Some s) = Cons (kind.Hole s) [] [] Nil Nil

abbrev filler_kids : Class → Forest
filler_kids c = holes (first_hole (blank_kind c))

abbrev fillers : List Item → Forest
fillers [] = Nil
fillers (Literal x ∷ m) = fillers m
fillers (Word x ∷ m) = fillers m
fillers (Kid c ∷ m) = Cons (blank_kind c) [] [] (filler_kids c) (fillers m)

filler_has : (c : Class) → has c (blank_kind c) ≡ true
filler_has c = at_class (λ b. has b (blank_kind b)) c refl

rule_of : (k : Kind) (ks : Forest) → second_open ks ≡ false → breaks_else_rule k ks ≡ false
rule_of kind.Ifelse ks h = h
rule_of _ ks h = refl

one_closed : (o : Option Sort) → second_open (holes o) ≡ false
one_closed None = refl
one_closed (Some s) = refl

holes_good : (o : Option Sort) → Good (holes o)
holes_good None = tt
holes_good (Some s) = (refl, refl, refl, tt, tt)

-- it can be read
filler_fits : (c : Class) → fits_some (layout (blank_kind c) [] (count (filler_kids c))) (kinds (filler_kids c)) ≡ true
filler_fits c = at_class (λ b. fits_some (layout (blank_kind b) [] (count (filler_kids b))) (kinds (filler_kids b))) c refl

fillers_fit : (m : List Item) → fits m (kinds (fillers m)) ≡ true
fillers_fit [] = refl
fillers_fit (Literal x ∷ m) = fillers_fit m
fillers_fit (Word x ∷ m) = fillers_fit m
fillers_fit (Kid c ∷ m) = &&_join _ _ (filler_has c) (fillers_fit m)

fillers_good : (m : List Item) → Good (fillers m)
fillers_good [] = tt
fillers_good (Literal x ∷ m) = fillers_good m
fillers_good (Word x ∷ m) = fillers_good m
fillers_good (Kid c ∷ m) =
    let o = first_hole (blank_kind c) in
    (filler_fits c, rule_of (blank_kind c) (holes o) (one_closed o), refl, holes_good o, fillers_good m)

fillers_count : (m : List Item) → count (fillers m) ≡ kids_in m
fillers_count [] = refl
fillers_count (Literal x ∷ m) = fillers_count m
fillers_count (Word x ∷ m) = fillers_count m
fillers_count (Kid c ∷ m) = ap suc (fillers_count m)

-- no filler ends open
filler_closed : (c : Class) → opens (blank_kind c) (last_open (filler_kids c)) ≡ false
filler_closed class.Program = refl
filler_closed _ = refl

second_closed : (m : List Item) (a : Kind) (u : List ℕ) (ns : List (List ℕ)) (hs : Forest) → second_open (Cons a u ns hs (fillers m)) ≡ false
second_closed [] a u ns hs = refl
second_closed (Literal x ∷ m) a u ns hs = second_closed m a u ns hs
second_closed (Word x ∷ m) a u ns hs = second_closed m a u ns hs
second_closed (Kid c ∷ m) a u ns hs = filler_closed c

both_closed : (m : List Item) → second_open (fillers m) ≡ false
both_closed [] = refl
both_closed (Literal x ∷ m) = both_closed m
both_closed (Word x ∷ m) = both_closed m
both_closed (Kid c ∷ m) = second_closed m (blank_kind c) [] [] (filler_kids c)

-- trees, and then others
abbrev join : Forest → Forest → Forest
join Nil us = us
join (Cons k w ns ks ts) us = Cons k w ns ks (join ts us)

join_closed : (ks : Forest) (m : List Item) → second_open ks ≡ false → second_open (join ks (fillers m)) ≡ false
join_closed Nil m h = both_closed m
join_closed (Cons a u ns hs Nil) m h = second_closed m a u ns hs
join_closed (Cons a u ns hs (Cons b v ms bs ts)) m h = h

join_rule : (k : Kind) (ks : Forest) (m : List Item) → breaks_else_rule k ks ≡ false → breaks_else_rule k (join ks (fillers m)) ≡ false
join_rule kind.Ifelse ks m h = join_closed ks m h
join_rule _ ks m h = refl

join_good : (ks us : Forest) → Good ks → Good us → Good (join ks us)
join_good Nil us h g = g
join_good (Cons k w ns ks ts) us h g = (h.0, h.1, h.2, h.3, join_good ts us h.4 g)

kinds-join : (ks us : Forest) → kinds (join ks us) ≡ kinds ks ++ kinds us
kinds-join Nil us = refl
kinds-join (Cons k w ns ks ts) us = ap (λ l. k ∷ l) (kinds-join ts us)

texts-join : (ks us : Forest) → texts (join ks us) ≡ texts ks ++ texts us
texts-join Nil us = refl
texts-join (Cons k w ns ks ts) us = ap (λ l. symbols k w ks ∷ l) (texts-join ts us)

count-join : (ks us : Forest) → count (join ks us) ≡ count ks + count us
count-join Nil us = sym (zero-add (count us))
count-join (Cons k w ns ks ts) us = omega (arith, count-join ts us)

-- A tree of the class whose symbols begin so.
pub record GoesOn (c : Class) (ys : List Sym) : Type 0 where
  pub tree : Plain
  pub more : List Sym
  pub reads : ReadsBare c tree (ys ++ more)

-- a front with kids for all that is left
filled : (c : Class) (f : Front) (us : Forest) → has c f.kind ≡ true → IsFront f → fits f.left (kinds us) ≡ true → count us ≡ kids_in f.left → Good us
    → breaks_else_rule f.kind (join f.kids us) ≡ false → ReadsBare c (bare f.kind f.word (join f.kids us)) (front_symbols f ++ fill f.left f.word (texts us))
filled c f us member front fit number good rule = record {
  member = member;
  good = (rw (laid, kinds-join f.kids us) (fits-more f.read f.left (kinds f.kids) (kinds us) front.fit fit), rule, refl, join_good f.kids us front.good good, tt);
  spelled = rw (laid, texts-join f.kids us) (sym (fill-more f.read f.left f.word f.kids (texts us) front.fit));
}
  where
    same_number : count (join f.kids us) ≡ count f.kids + kids_in f.left
    same_number = count-join f.kids us ∙ ap (λ n. count f.kids + n) number

    laid : layout f.kind f.word (count (join f.kids us)) ≡ Some (f.read ++ f.left)
    laid = rw same_number front.laid

-- the one whole kid of an ifelse that breaks off within a kid is its condition
if_front : (read : List Item) (d : Class) (m : List Item) (a : Kind)
    → Literal lexeme.KeyIf ∷ Kid class.Expression ∷ Literal lexeme.KeyThen ∷ Kid class.Statement ∷ Literal lexeme.KeyElse ∷ Kid class.Statement ∷ [] ≡ read ++ Kid d ∷ m
    → fits read (a ∷ []) ≡ true → (read ≡ Literal lexeme.KeyIf ∷ Kid class.Expression ∷ Literal lexeme.KeyThen ∷ []) × (d ≡ class.Statement)
if_front [] d m a e h = cc
if_front (x ∷ []) d m a e h = let p : x ≡ Literal lexeme.KeyIf = cc in let k : false ≡ true = rw p at h in cc
if_front (x ∷ y ∷ []) d m a e h = cc
if_front (x ∷ y ∷ z ∷ []) d m a e h = (cc, cc)
if_front (x ∷ y ∷ z ∷ u ∷ []) d m a e h = cc
if_front (x ∷ y ∷ z ∷ u ∷ v ∷ []) d m a e h =
    let p : x ≡ Literal lexeme.KeyIf = cc in
    let q : y ≡ Kid class.Expression = cc in
    let r : z ≡ Literal lexeme.KeyThen = cc in
    let s : u ≡ Kid class.Statement = cc in
    let k : has class.Expression a && false ≡ true = rw (p, q, r, s) at h in
    true-false (sym (&&_split _ _ k).1)
if_front (x ∷ y ∷ z ∷ u ∷ v ∷ t ∷ []) d m a e h = cc
if_front (x ∷ y ∷ z ∷ u ∷ v ∷ t ∷ w ∷ r) d m a e h = cc

-- A front that breaks off within a kid, as that of a node that may have the kid as it goes on: an ifelse as an if, since the kid may end open.
record Fronted (c : Class) (f : Front) (d : Class) (t : Plain) : Type 0 where
  front : Front
  more : List Item
  member : has c front.kind ≡ true
  is_front : IsFront front
  left_is : front.left ≡ Kid d ∷ more
  symbols_are : front_symbols front ≡ front_symbols f
  rule : breaks_else_rule front.kind (join front.kids (Cons t.kind t.word t.notes t.kids (fillers more))) ≡ false

if_member : (c : Class) → has c kind.Ifelse ≡ true → has c kind.If ≡ true
if_member c h = implies_true _ _ (at_class (λ b. implies (has b kind.Ifelse) (has b kind.If)) c refl) h

rule_or_if : (k : Kind) (ks : Forest) (t : Plain) (m : List Item) → breaks_else_rule k ks ≡ false
    → (breaks_else_rule k (join ks (Cons t.kind t.word t.notes t.kids (fillers m))) ≡ false)
    ⊎ ((k ≡ kind.Ifelse) × (a : Kind) × (u : List ℕ) × (ns : List (List ℕ)) × (hs : Forest) × (ks ≡ Cons a u ns hs Nil))
rule_or_if kind.Ifelse Nil t m h = inl (second_closed m t.kind t.word t.notes t.kids)
rule_or_if kind.Ifelse (Cons a u ns hs Nil) t m h = inr (refl, a, u, ns, hs, refl)
rule_or_if kind.Ifelse (Cons a u ns hs (Cons b v ms bs ts)) t m h = inl h
rule_or_if _ ks t m h = inl refl

fronted : (c : Class) (f : Front) (d : Class) (m : List Item) (t : Plain) → has c f.kind ≡ true → IsFront f → f.left ≡ Kid d ∷ m → Fronted c f d t
fronted c f d m t member front left = go (rule_or_if f.kind f.kids t m front.rule)
  where
    go : (breaks_else_rule f.kind (join f.kids (Cons t.kind t.word t.notes t.kids (fillers m))) ≡ false)
        ⊎ ((f.kind ≡ kind.Ifelse) × (a : Kind) × (u : List ℕ) × (ns : List (List ℕ)) × (hs : Forest) × (f.kids ≡ Cons a u ns hs Nil)) → Fronted c f d t
    go (inl h) = record { front = f; more = m; member = member; is_front = front; left_is = left; symbols_are = refl; rule = h }
    go (inr h) = as_if f.word (rw (h.0, left) at front.laid) refl
      where
        fit : fits f.read (h.1 ∷ []) ≡ true
        fit = rw h.5 at front.fit

        good : Good (Cons h.1 h.2 h.3 h.4 Nil)
        good = rw h.5 at front.good

        one : f.kids ≡ Cons h.1 h.2 h.3 h.4 Nil
        one = h.5

        is_ifelse : f.kind ≡ kind.Ifelse
        is_ifelse = h.0

        as_if : (w : List ℕ) → layout kind.Ifelse w (count f.kids + kids_in (Kid d ∷ m)) ≡ Some (f.read ++ Kid d ∷ m) → w ≡ f.word → Fronted c f d t
        as_if (b ∷ w) e i = cc
        as_if [] e i =
            let r = if_front f.read d m h.1 (some_eq _ _ e) fit in
            record {
              front = record { kind = kind.If; word = []; kids = Cons h.1 h.2 h.3 h.4 Nil; read = f.read; left = Kid d ∷ [] };
              more = [];
              member = if_member c (rw is_ifelse at member);
              is_front = record { laid = rw (r.0, r.1) refl; fit = fit; good = good; rule = refl };
              left_is = refl;
              symbols_are = rw (one, ← i) refl;
              rule = refl;
            }

-- every partial tree of a class goes on to a tree of the class
pub completes : (c : Class) (f : Front) (fs : List Front) → has c f.kind ≡ true → Linked f fs → GoesOn c (partial_symbols (f ∷ fs))
completes c f [] member front =
    let us = fillers f.left in
    let reads =
    filled c f us member front (fillers_fit f.left) (fillers_count f.left) (fillers_good f.left) (join_rule f.kind f.kids f.left front.rule) in
    record { tree = bare f.kind f.word (join f.kids us); more = fill f.left f.word (texts us); reads = rw (append-nil (front_symbols f)) reads }
completes c f (g ∷ gs) member linked =
    let d = linked.1 in
    let inside = completes d g gs linked.4 linked.5 in
    let t = inside.tree in
    let n = fronted c f d linked.2 t member linked.0 linked.3 in
    let m = n.more in
    let us = Cons t.kind t.word t.notes t.kids (fillers m) in
    let fit : fits n.front.left (kinds us) ≡ true = rw (n.left_is, inside.reads.member, fillers_fit m) refl in
    let number : count us ≡ kids_in n.front.left = rw n.left_is (ap suc (fillers_count m)) in
    let good_kid = inside.reads.good in
    let good : Good us = (good_kid.0, good_kid.1, good_kid.2, good_kid.3, fillers_good m) in
    let reads = filled c n.front us n.member n.is_front fit number good n.rule in
    let rest = fill m n.front.word (texts (fillers m)) in
    let ys = partial_symbols (g ∷ gs) in
    let text : front_symbols n.front ++ fill n.front.left n.front.word (texts us) ≡ (front_symbols f ++ ys) ++ (inside.more ++ rest) =
    rw (n.left_is, n.symbols_are, ← inside.reads.spelled, append_assoc ys inside.more rest, append_assoc (front_symbols f) ys (inside.more ++ rest)) refl in
    record {
      tree = bare n.front.kind n.front.word (join n.front.kids us);
      more = inside.more ++ rest;
      reads = rw (← text) reads;
    }
