-- The members of set constructors: lemmas.
use Rattle.std.specs.Prelude.{◌≡◌, ℕ, ◌+◌, Bool, true, false, ◌||◌, if◌then◌else◌, List, [], ◌∷◌, ◌++◌, Option, Some, None, option_map, map, length, IfSome, IsTrue, codes, suc, ◌≤◌, ◌-◌}
use Rattle.std.proofs.Common.{refl, sym, subst, ap, ◌∙◌, append_assoc, append-nil, arith, get_or, take, drop}
use Rattle.std.specs.Option.{ForSome, option_and_then}
use Rattle.std.proofs.lemmas.List.{take_all}
use Rattle.pc_types.specs.Shapes.{Shape, MembersType, Typed}
use Rattle.pc_types.specs.TypeClasses.{is_ordinal, host}
use Rattle.pc_types.specs.Table.{Table, shape_at, IsThere}
use Rattle.pc_types.specs.declared.operand.Operand.{Operand}
use Rattle.pc_rules.specs.Attributes.{Entry, Node, at_kid, each_kid, first_below, second_below}
use Rattle.pc_rules.specs.Denoters.{some_typed}
use Rattle.pc_rules.specs.Entries.{note_if, no_ordinal}
use Rattle.pc_rules.specs.HandedOn.{any_hole}
use Rattle.pc_rules.specs.Operators.{where_true}
use Rattle.pc_rules.specs.SetConstructors as rule
use Rattle.pc_judgements.specs.Judged as judged
use Rattle.pc_judgements.specs.JudgedLaws.{no_ordinal-judged, member_type-judged}
use Rattle.pc_facts.specs.Known.{Known}
use Rattle.pc_facts.specs.Shows.{ShowsType, ShowsMember, AllShow, shape_of}
use Rattle.pc_facts.specs.declared.facts.Member.{Member}
use Rattle.pc_facts.specs.declared.facts.Member.TheVariants as member
use Rattle.pc_expression_rules.specs.Members.{ShowsOrdinal, HandsOn, AllHandOn, hole_in, holes_in}

-- ---- one value

same-shape : (t u : Table) (o p : Option Operand) (ty : Option Typed) → u ≡ t → p ≡ o → ShowsType u o ty → option_map (shape_at t) p ≡ shape_of ty
same-shape t u o p ty e same shown = ap (λ v. option_map (shape_at v) p) (sym e) ∙ ap (option_map (shape_at u)) same ∙ shown.shape

-- its entries, with row 8
pub ordinal-noted : (t u : Table) (n : Node) (o p : Option Operand) (new es : List Entry) (b : Bool) → u ≡ t → p ≡ o → ShowsType u o n.as_value.type → es ≡ n.as_value.entries →
    new ≡ es ++ note_if b 8 (codes "not an ordinal type") → b ≡ judged.is_no_ordinal (option_map (shape_at t) p) → new ≡ rule.ordinal_entries n
ordinal-noted t u n o p new es b e same shown entries more is =
    more
    ∙ ap (λ x. es ++ note_if x 8 (codes "not an ordinal type")) (is ∙ ap judged.is_no_ordinal (same-shape t u o p n.as_value.type e same shown))
    ∙ ap (λ xs. es ++ xs) (sym (no_ordinal-judged n.as_value.type))
    ∙ ap (λ xs. xs ++ no_ordinal n.as_value.type) entries

some-same : (o p : Operand) → Some o ≡ Some p → o ≡ p
some-same o p e = cc

if-for : (o : Option Operand) (P : Operand → Type 0) → ForSome o P → IfSome o P
if-for None P h = tt
if-for (Some o) P h = h o refl

for-if : (o : Option Operand) (P : Operand → Type 0) → IfSome o P → ForSome o P
for-if None P h = λ p e. absurd (cc)
for-if (Some o) P h = λ p e. subst P (some-same o p e) h

-- its type, where that is ordinal
pub ordinal-shown : (t u : Table) (n : Node) (o p r : Option Operand) → u ≡ t → p ≡ o → ShowsType u o n.as_value.type → option_map (shape_at t) r ≡ judged.member_type (option_map (shape_at t) p) →
    (IfSome p (IsThere t) → IfSome r (IsThere t)) → ShowsOrdinal u r n
ordinal-shown t u n o p r e same shown is there = record {
  shape = ap (λ v. option_map (shape_at v) r) e ∙ is ∙ ap judged.member_type (same-shape t u o p n.as_value.type e same shown) ∙ sym (member_type-judged n);
  there =
      subst (λ v. ForSome r (IsThere v)) (sym e)
      (for-if r (IsThere t) (there (if-for p (IsThere t) (subst (λ q. ForSome q (IsThere t)) (sym same) (subst (λ v. ForSome o (IsThere v)) e shown.there)))));
}

-- ---- nodes in a row

pub AllShow-append : {X : Type 0} (shows : X → Node → Type 0) (fs gs : List X) (ns ms : List Node) → AllShow shows fs ns → AllShow shows gs ms → AllShow shows (fs ++ gs) (ns ++ ms)
AllShow-append shows [] gs [] ms h i = i
AllShow-append shows (f ∷ fs) gs (n ∷ ns) ms h i = (h.0, AllShow-append shows fs gs ns ms h.1 i)
AllShow-append shows [] gs (n ∷ ns) ms h i = absurd h
AllShow-append shows (f ∷ fs) gs [] ms h i = absurd h

-- with one more
pub AllShow-push : {X : Type 0} (shows : X → Node → Type 0) (fs gs : List X) (f : X) (ns : List Node) (n : Node) → gs ≡ fs ++ f ∷ [] → AllShow shows fs ns → shows f n → AllShow shows gs (ns ++ n ∷ [])
AllShow-push shows fs gs f ns n e h i = subst (λ xs. AllShow shows xs (ns ++ n ∷ [])) (sym e) (AllShow-append shows fs (f ∷ []) ns (n ∷ []) h (i, tt))

-- what shows one more shows the last node
AllShow-last : {X : Type 0} (shows : X → Node → Type 0) (fs : List X) (f : X) (ns : List Node) → AllShow shows (fs ++ f ∷ []) ns →
    (ms : List Node) × (n : Node) × (ns ≡ ms ++ n ∷ []) × AllShow shows fs ms × shows f n
AllShow-last shows [] f [] h = absurd h
AllShow-last shows [] f (n ∷ []) h = ([], n, refl, tt, h.0)
AllShow-last shows [] f (n ∷ m ∷ ns) h = absurd h.1
AllShow-last shows (g ∷ fs) f [] h = absurd h
AllShow-last shows (g ∷ fs) f (n ∷ ns) h = let r = AllShow-last shows fs f ns h.1 in (n ∷ r.0, r.1, ap (λ xs. n ∷ xs) r.2, (h.0, r.3), r.4)

AllShow-length : {X : Type 0} (shows : X → Node → Type 0) (fs : List X) (ns : List Node) → AllShow shows fs ns → length fs ≡ length ns
AllShow-length shows [] [] h = refl
AllShow-length shows (f ∷ fs) (n ∷ ns) h = ap suc (AllShow-length shows fs ns h.1)
AllShow-length shows [] (n ∷ ns) h = absurd h
AllShow-length shows (f ∷ fs) [] h = absurd h

-- ---- all members

or-false : (b : Bool) → (b || false) ≡ b
or-false true = refl
or-false false = refl

hole-shown : (k : Known) (m : Member) (n : Node) → ShowsMember k m n → HandsOn n → hole_in m ≡ n.at.hole
hole-shown k (member.One f) n h on = h.1.hole
hole-shown k (member.Span f g) n h on =
    ap (λ b. b || g.hole) h.1.hole ∙ ap (λ b. (first_below n).at.hole || b) (h.2.hole ∙ sym (or-false (second_below n).at.hole)) ∙ sym (on h.0)

-- a hole stands in a member where the node of all has one
pub holes-shown : (k : Known) (ms : List Member) (ns : List Node) → AllShow (ShowsMember k) ms ns → AllHandOn ns → holes_in ms ≡ any_hole ns
holes-shown k [] [] h on = refl
holes-shown k (m ∷ ms) (n ∷ ns) h on = ap (λ b. b || holes_in ms) (hole-shown k m n h.0 on.0) ∙ ap (λ b. n.at.hole || b) (holes-shown k ms ns h.1 on.1)
holes-shown k [] (n ∷ ns) h on = absurd h
holes-shown k (m ∷ ms) [] h on = absurd h

-- no members
pub none-entries : (k : Known) (ns : List Node) → AllShow (ShowsMember k) [] ns → [] ≡ each_kid rule.member_entries 1 ns
none-entries k [] h = refl
none-entries k (n ∷ ns) h = absurd h

pub none-values : (k : Known) (ofs : List (Option Operand)) (os ns : List Node) → AllShow (ShowsOrdinal k.table) ofs os → AllShow (ShowsMember k) [] ns →
    AllShow (ShowsOrdinal k.table) ofs (os ++ rule.member_values ns)
none-values k ofs os [] h none = subst (AllShow (ShowsOrdinal k.table) ofs) (sym (append-nil os)) h
none-values k ofs os (n ∷ ns) h none = absurd none

-- one member more: its entries
each_kid-push : (f : Node → List Entry) (i j : ℕ) (ns : List Node) (n : Node) → j ≡ i + length ns → each_kid f i (ns ++ n ∷ []) ≡ each_kid f i ns ++ at_kid j (f n)
each_kid-push f i j [] n e = let same : i ≡ j = omega arith in append-nil (at_kid i (f n)) ∙ ap (λ x. at_kid x (f n)) same
each_kid-push f i j (m ∷ ns) n e =
    let next : j ≡ suc i + length ns = omega arith in
    ap (λ xs. at_kid i (f m) ++ xs) (each_kid-push f (suc i) j ns n next) ∙ sym (append_assoc (at_kid i (f m)) (each_kid f (suc i) ns) (at_kid j (f n)))

pub entries-more : (k : Known) (ms : List Member) (m : Member) (ns : List Node) (old new kid : List Entry) (i j : ℕ) → i ≡ length ms → j ≡ i + 1 →
    ((ns : List Node) → AllShow (ShowsMember k) ms ns → old ≡ each_kid rule.member_entries 1 ns) → ((n : Node) → ShowsMember k m n → kid ≡ rule.member_entries n) → new ≡ old ++ at_kid j kid →
    AllShow (ShowsMember k) (ms ++ m ∷ []) ns → new ≡ each_kid rule.member_entries 1 ns
entries-more k ms m ns old new kid i j so_far next before one more h =
    let r = AllShow-last (ShowsMember k) ms m ns h in
    let count = AllShow-length (ShowsMember k) ms r.0 r.3 in
    let number : j ≡ 1 + length r.0 = omega arith in
    more ∙ ap (λ xs. xs ++ at_kid j kid) (before r.0 r.3) ∙ ap (λ xs. each_kid rule.member_entries 1 r.0 ++ at_kid j xs) (one r.1 r.4)
    ∙ sym (each_kid-push rule.member_entries 1 j r.0 r.1 number)
    ∙ ap (each_kid rule.member_entries 1) (sym r.2)

-- its values
member_values-append : (ns ms : List Node) → rule.member_values (ns ++ ms) ≡ rule.member_values ns ++ rule.member_values ms
member_values-append [] ms = refl
member_values-append (n ∷ ns) ms =
    elim (rule.is_span n.at.kind) as (λ b.
    (if b then first_below n ∷ second_below n ∷ rule.member_values (ns ++ ms) else n ∷ rule.member_values (ns ++ ms)) ≡
    (if b then first_below n ∷ second_below n ∷ rule.member_values ns else n ∷ rule.member_values ns) ++ rule.member_values ms) [
      | true ↦ ap (λ xs. first_below n ∷ second_below n ∷ xs) (member_values-append ns ms)
      | false ↦ ap (λ xs. n ∷ xs) (member_values-append ns ms)
    ]

pub values-more : (k : Known) (os : List Node) (ms : List Member) (m : Member) (ns : List Node) (old new : List (Option Operand)) →
    ((ns : List Node) → AllShow (ShowsMember k) ms ns → AllShow (ShowsOrdinal k.table) old (os ++ rule.member_values ns)) →
    ((os : List Node) (n : Node) → AllShow (ShowsOrdinal k.table) old os → ShowsMember k m n → AllShow (ShowsOrdinal k.table) new (os ++ rule.member_values (n ∷ []))) →
    AllShow (ShowsMember k) (ms ++ m ∷ []) ns → AllShow (ShowsOrdinal k.table) new (os ++ rule.member_values ns)
values-more k os ms m ns old new before one h =
    let r = AllShow-last (ShowsMember k) ms m ns h in
    subst (AllShow (ShowsOrdinal k.table) new)
    (append_assoc os (rule.member_values r.0) (rule.member_values (r.1 ∷ []))
    ∙ ap (λ xs. os ++ xs) (sym (member_values-append r.0 (r.1 ∷ [])) ∙ ap rule.member_values (sym r.2)))
    (one (os ++ rule.member_values r.0) r.1 (before r.0 r.3) r.4)

-- a member that is one value
pub one-entries : (n : Node) → rule.is_span n.at.kind ≡ false → rule.ordinal_entries n ≡ rule.member_entries n
one-entries n e = ap (λ b. if b then each_kid rule.ordinal_entries 1 (first_below n ∷ second_below n ∷ []) else rule.ordinal_entries n) (sym e)

pub one-values : (n : Node) → rule.is_span n.at.kind ≡ false → n ∷ [] ≡ rule.member_values (n ∷ [])
one-values n e = ap (λ b. if b then first_below n ∷ second_below n ∷ [] else n ∷ []) (sym e)

-- a member that is a span
pub span-entries : (n : Node) → rule.is_span n.at.kind ≡ true → each_kid rule.ordinal_entries 1 (first_below n ∷ second_below n ∷ []) ≡ rule.member_entries n
span-entries n e = ap (λ b. if b then each_kid rule.ordinal_entries 1 (first_below n ∷ second_below n ∷ []) else rule.ordinal_entries n) (sym e)

pub span-values : (n : Node) → rule.is_span n.at.kind ≡ true → first_below n ∷ second_below n ∷ [] ≡ rule.member_values (n ∷ [])
span-values n e = ap (λ b. if b then first_below n ∷ second_below n ∷ [] else n ∷ []) (sym e)

-- the entries of both ends of a span
pub both-ends : (a b : Node) (old one two es fs : List Entry) → old ≡ [] → es ≡ rule.ordinal_entries a → fs ≡ rule.ordinal_entries b → one ≡ old ++ at_kid 1 es → two ≡ one ++ at_kid 2 fs →
    two ≡ each_kid rule.ordinal_entries 1 (a ∷ b ∷ [])
both-ends a b old one two es fs none e f first second =
    second ∙ ap (λ xs. xs ++ at_kid 2 fs) (first ∙ ap (λ xs. xs ++ at_kid 1 es) none ∙ ap (at_kid 1) e)
    ∙ ap (λ xs. at_kid 1 (rule.ordinal_entries a) ++ xs) (ap (at_kid 2) f ∙ sym (append-nil (at_kid 2 (rule.ordinal_entries b))))

-- ---- the type of all

pub shapes-same : (t : Table) (os : List (Option Operand)) (ns : List Node) → AllShow (ShowsOrdinal t) os ns → map (option_map (shape_at t)) os ≡ map rule.member_type ns
shapes-same t [] [] h = refl
shapes-same t (o ∷ os) (n ∷ ns) h = ap (λ s. s ∷ map (option_map (shape_at t)) os) h.0.shape ∙ ap (λ ss. rule.member_type n ∷ ss) (shapes-same t os ns h.1)
shapes-same t [] (n ∷ ns) h = absurd h
shapes-same t (o ∷ os) [] h = absurd h

ordinal-where : (b : Bool) (s u : Shape) → is_ordinal u ≡ b → Some s ≡ where_true b u → is_ordinal s ≡ true
ordinal-where true s u is e = let same : s ≡ u = cc in ap is_ordinal same ∙ is
ordinal-where false s u is e = absurd (cc)

ordinal-type : (s : Shape) (x : Option Typed) → Some s ≡ option_and_then (λ (t : Typed). where_true (is_ordinal t.shape) t.shape) x → is_ordinal s ≡ true
ordinal-type s None e = absurd (cc)
ordinal-type s (Some t) e = ordinal-where (is_ordinal t.shape) s t.shape refl e

pub members-shown : (k : Known) (t : Table) (first : Operand) (rest : List (Option Operand)) (ns : List Node) (b : Bool) (r : Option Operand) → k.table ≡ t →
    AllShow (ShowsOrdinal k.table) (Some first ∷ rest) ns → b ≡ rule.all_compatible (shape_at t first) (map (option_map (shape_at t)) rest) →
    ((k : Known) (c : Bool) (s : Shape) → k.table ≡ t → b ≡ c → shape_at k.table first ≡ s → IsThere k.table first → IsTrue (is_ordinal s) →
    ShowsType k.table r (if c then some_typed (MembersType (host s)) else None)) →
    ShowsType k.table r (rule.members_type (map rule.member_type ns))
members-shown k t first rest [] b r e h is made = absurd h
members-shown k t first rest (n ∷ ns) b r e h is made =
    let s = shape_at k.table first in
    let same : b ≡ rule.all_compatible s (map rule.member_type ns) =
    is ∙ ap (λ v. rule.all_compatible (shape_at v first) (map (option_map (shape_at v)) rest)) (sym e) ∙ ap (rule.all_compatible s) (shapes-same k.table rest ns h.1)
    in
    subst (λ x. ShowsType k.table r (rule.members_type (x ∷ map rule.member_type ns))) h.0.shape
    (made k (rule.all_compatible s (map rule.member_type ns)) s e same refl (h.0.there first refl) (ordinal-type s n.as_value.type h.0.shape))

pub unknown-first : (k : Known) (rest : List (Option Operand)) (ns : List Node) → AllShow (ShowsOrdinal k.table) (None ∷ rest) ns → ShowsType k.table None (rule.members_type (map rule.member_type ns))
unknown-first k rest [] h = absurd h
unknown-first k rest (n ∷ ns) h =
    subst (λ x. ShowsType k.table None (rule.members_type (x ∷ map rule.member_type ns))) h.0.shape (record { shape = refl; there = λ p e. absurd (cc) })

pub known-shown : (k : Known) (t : Table) (os ps : List (Option Operand)) (ns : List Node) (b : Bool) → k.table ≡ t → ps ≡ os → AllShow (ShowsOrdinal k.table) os ns →
    b ≡ rule.all_known (map (option_map (shape_at t)) ps) → b ≡ rule.all_known (map rule.member_type ns)
known-shown k t os ps ns b e same h is =
    is ∙ ap (λ v. rule.all_known (map (option_map (shape_at v)) ps)) (sym e) ∙ ap (λ xs. rule.all_known (map (option_map (shape_at k.table)) xs)) same
    ∙ ap rule.all_known (shapes-same k.table os ns h)

-- a list that isn't empty, by its first element and the others
pub first-and-rest : {X : Type 0} (xs : List X) (d : X) → 1 ≤ length xs → xs ≡ get_or xs 0 d ∷ take (length xs - 1) (drop 1 xs)
first-and-rest [] d h = absurd (omega arith)
first-and-rest (x ∷ xs) d h = ap (λ ys. x ∷ ys) (sym (take_all (length (x ∷ xs) - 1) xs (omega arith)))
