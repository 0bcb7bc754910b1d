-- One more kid: lemmas.
use Rattle.std.specs.Prelude.{◌≡◌, ℕ, ◌+◌, Bool, true, false, ◌||◌, List, [], ◌∷◌, ◌++◌, length, map, suc}
use Rattle.std.proofs.Common.{refl, ap, subst, sym, ◌∙◌, append-nil, append_assoc, arith, length-append}
use Rattle.pc_syntax.specs.declared.kind.Kind.{Kind}
use Rattle.pc_rules.specs.Attributes.{Entry, Node, at_kid, each_kid}
use Rattle.pc_rules.specs.Decorated.{with_kind}
use Rattle.pc_rules.specs.HandedOn.{kid_entries, any_hole, handed_on, statement_node}
use Rattle.pc_rules.specs.Statements.{opened_entries, records_rule}
use Rattle.pc_facts.specs.Known.{Known}
use Rattle.pc_facts.specs.Shows.{ShowsNode, AllShow}
use Rattle.pc_facts.specs.declared.facts.Facts.{Facts}
use Rattle.pc_statement_rules.specs.Handed.{ShowsHanded}
use Rattle.pc_statement_rules.specs.declared.kids.Handing.{Handing}

pub each_kid-more : (f : Node → List Entry) (i j : ℕ) (ks : List Node) (k : Node) → j ≡ i + length ks → each_kid f i (ks ++ k ∷ []) ≡ each_kid f i ks ++ at_kid j (f k)
each_kid-more f i j [] k e = ap (λ n. at_kid n (f k) ++ []) (let same : i ≡ j = omega arith in same) ∙ append-nil (at_kid j (f k))
each_kid-more f i j (x ∷ ks) k e =
    ap (λ es. at_kid i (f x) ++ es) (each_kid-more f (suc i) j ks k (omega arith)) ∙ sym (append_assoc (at_kid i (f x)) (each_kid f (suc i) ks) (at_kid j (f k)))

or-assoc : (a b c : Bool) → (a || (b || c)) ≡ ((a || b) || c)
or-assoc true b c = refl
or-assoc false b c = refl

pub or-false : (a : Bool) → (a || false) ≡ a
or-false true = refl
or-false false = refl

pub any_hole-more : (ks : List Node) (k : Node) → any_hole (ks ++ k ∷ []) ≡ (any_hole ks || k.at.hole)
any_hole-more [] k = or-false k.at.hole
any_hole-more (x ∷ ks) k = ap (λ b. x.at.hole || b) (any_hole-more ks k) ∙ or-assoc x.at.hole (any_hole ks) k.at.hole

-- a node with its kids' entries and no more only hands them on
pub hands_on : (k : Known) (f : Facts) (kind : Kind) (w : List ℕ) (ns : List Node) → ShowsNode k f (with_kind kind w (statement_node ns (kid_entries 1 ns) [])) →
    ShowsNode k f (with_kind kind w (handed_on ns))
hands_on k f kind w ns h = record {
  kind = h.kind;
  hole = h.hole;
  value = h.value;
  place = h.place;
  target = h.target;
  constant = h.constant;
  variable = h.variable;
  packed_part = h.packed_part;
}

-- facts in a row with one more at the end show nodes with one more at the end
pub record OneMore {X : Type 0} (shows : X → Node → Type 0) (fs : List X) (f : X) (ns : List Node) : Type 0 where
  pub front : List Node
  pub last : Node
  pub are : ns ≡ front ++ last ∷ []
  pub before : AllShow shows fs front
  pub here : shows f last

pub AllShow-more : {X : Type 0} (shows : X → Node → Type 0) (fs : List X) (f : X) (ns : List Node) → AllShow shows (fs ++ f ∷ []) ns → OneMore shows fs f ns
AllShow-more shows [] f [] h = absurd h
AllShow-more shows [] f (n ∷ []) h = record { front = []; last = n; are = refl; before = tt; here = h.0 }
AllShow-more shows [] f (n ∷ m ∷ ns) h = absurd h.1
AllShow-more shows (g ∷ fs) f [] h = absurd h
AllShow-more shows (g ∷ fs) f (n ∷ ns) h =
    let r = AllShow-more shows fs f ns h.1 in
    record { front = n ∷ r.front; last = r.last; are = ap (λ xs. n ∷ xs) r.are; before = (h.0, r.before); here = r.here }

pub hole-more : (ns : List Node) (n : Node) (old kid new : Bool) → old ≡ any_hole ns → kid ≡ n.at.hole → new ≡ (old || kid) → new ≡ any_hole (ns ++ n ∷ [])
hole-more ns n old kid new o e s = s ∙ ap (λ b. b || kid) o ∙ ap (λ b. any_hole ns || b) e ∙ sym (any_hole-more ns n)

pub entries-more : (of_kid : Node → List Entry) (ns : List Node) (n : Node) (old kid new : List Entry) (count i : ℕ) → old ≡ each_kid of_kid 1 ns → kid ≡ of_kid n → count ≡ length ns → i ≡ count + 1 →
    new ≡ old ++ at_kid i kid → new ≡ each_kid of_kid 1 (ns ++ n ∷ [])
entries-more of_kid ns n old kid new count i o e counted next s =
    s ∙ ap (λ es. es ++ at_kid i kid) o ∙ ap (λ es. each_kid of_kid 1 ns ++ at_kid i es) e ∙ sym (each_kid-more of_kid 1 i ns n (omega arith))

pub count-more : (ns : List Node) (n : Node) (count i : ℕ) → count ≡ length ns → i ≡ count + 1 → i ≡ length (ns ++ n ∷ [])
count-more ns n count i counted next = omega (arith, length-append ns (n ∷ []))

pub handed-none : (k : Known) (h : Handing) (ns ms : List Node) → ShowsHanded k h ns → AllShow {X = Facts} (λ g n. ShowsNode k g n.at) [] ms → ShowsHanded k h (ns ++ ms)
handed-none k h ns [] s all = let P : List Node → Type 0 = λ xs. ShowsHanded k h xs in subst P (sym (append-nil ns)) s
handed-none k h ns (m ∷ ms) s all = absurd all

pub handed-one_more : (k : Known) (fs : List Facts) (f : Facts) (old new : Handing) (ns ms : List Node) →
    ((xs : List Node) → AllShow (λ g n. ShowsNode k g n.at) fs xs → ShowsHanded k old (ns ++ xs)) →
    ((xs : List Node) (x : Node) → ShowsHanded k old xs → ShowsNode k f x.at → ShowsHanded k new (xs ++ x ∷ [])) →
    AllShow (λ g n. ShowsNode k g n.at) (fs ++ f ∷ []) ms → ShowsHanded k new (ns ++ ms)
handed-one_more k fs f old new ns ms so_far step all =
    let r = AllShow-more (λ g n. ShowsNode k g n.at) fs f ms all in
    let P : List Node → Type 0 = λ xs. ShowsHanded k new xs in
    subst P (append_assoc ns r.front (r.last ∷ []) ∙ ap (λ xs. ns ++ xs) (sym r.are)) (step (ns ++ r.front) r.last (so_far r.front r.before) r.here)

pub map-same : {X : Type 0} (xs : List X) → map (λ x. x) xs ≡ xs
map-same [] = refl
map-same (x ∷ xs) = ap (λ ys. x ∷ ys) (map-same xs)

-- the records of a with, whose fields are not among the facts
pub opens_on : (k : Known) (f : Facts) (kind : Kind) (w : List ℕ) (ns : List Node) → ShowsNode k f (with_kind kind w (statement_node ns (each_kid opened_entries 1 ns) [])) →
    ShowsNode k f (with_kind kind w (records_rule ns))
opens_on k f kind w ns h = record {
  kind = h.kind;
  hole = h.hole;
  value = h.value;
  place = h.place;
  target = h.target;
  constant = h.constant;
  variable = h.variable;
  packed_part = h.packed_part;
}
