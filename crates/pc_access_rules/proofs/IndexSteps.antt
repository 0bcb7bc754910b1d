-- Indexes of an array, one after the other: lemmas.
use Rattle.std.specs.Prelude.{◌≡◌, ℕ, ◌+◌, suc, Bool, true, false, not, ◌||◌, ◌&&◌, List, [], ◌∷◌, ◌++◌, Option, Some, None, IfSome, length, option_map, codes, if◌then◌else◌}
use Rattle.std.specs.Option.{is_some}
use Rattle.std.proofs.Common.{refl, ap, sym, ◌∙◌, subst, append-nil, append_assoc, arith, length-append}
use Rattle.std.proofs.lemmas.Option.{none-some}
use Rattle.pc_types.specs.Shapes.{Typed}
use Rattle.pc_types.specs.Table.{Table, shape_at, IsThere}
use Rattle.pc_types.specs.declared.operand.Operand.{Operand}
use Rattle.pc_rules.specs.Attributes.{Entry, Node, at_kid}
use Rattle.pc_rules.specs.Components.{indexed, indexed_type, all_typed, indexes_no_array, indexes_packed, component_of, index_of, is_array}
use Rattle.pc_rules.specs.Entries.{note_if, unassignable}
use Rattle.pc_rules.specs.HandedOn.{any_hole}
use Rattle.pc_judgements.specs.Judged as judged
use Rattle.pc_judgements.specs.JudgedLaws.{component_of-judged, index_of-judged, unassignable-judged}
use Rattle.pc_facts.specs.Shows.{ShowsType, shape_of, AllShow}
use Rattle.pc_access_rules.specs.Accessed.{is_no_array, is_packed_array}
use Rattle.pc_access_rules.proofs.TypeSteps.{begun, known-same, shape-in, there-in, shown, or-false}

or-assoc : (a b c : Bool) → (a || (b || c)) ≡ ((a || b) || c)
or-assoc true b c = refl
or-assoc false b c = refl

and-assoc : (a b c : Bool) → (a && (b && c)) ≡ ((a && b) && c)
and-assoc true b c = refl
and-assoc false b c = refl

and-true : (b : Bool) → (b && true) ≡ b
and-true true = refl
and-true false = refl

-- ---- one more index

behind-none : (ns : List Node) → indexed_type None ns ≡ None
behind-none [] = refl
behind-none (n ∷ ns) = behind-none ns

indexed_type-more : (t : Option Typed) (ns : List Node) (n : Node) → indexed_type t (ns ++ n ∷ []) ≡ component_of (indexed_type t ns)
indexed_type-more t [] n = refl
indexed_type-more t (m ∷ ms) n = indexed_type-more (component_of t) ms n

indexed-more : (t : Option Typed) (i at : ℕ) (ns : List Node) (n : Node) → at ≡ length ns + i →
    indexed t i (ns ++ n ∷ []) ≡ indexed t i ns ++ at_kid at (n.as_value.entries ++ unassignable (index_of (indexed_type t ns)) n.as_value.type)
indexed-more t i at [] n e =
    let same : i ≡ at = omega (arith, e) in
    append-nil (at_kid i (n.as_value.entries ++ unassignable (index_of t) n.as_value.type)) ∙ ap (λ (j : ℕ). at_kid j (n.as_value.entries ++ unassignable (index_of t) n.as_value.type)) same
indexed-more t i at (m ∷ ms) n e =
    let same : at ≡ length ms + suc i = omega (arith, e) in
    let own = at_kid i (m.as_value.entries ++ unassignable (index_of t) m.as_value.type) in
    ap (λ (es : List Entry). own ++ es) (indexed-more (component_of t) (suc i) at ms n same)
    ∙ sym (append_assoc own (indexed (component_of t) (suc i) ms) (at_kid at (n.as_value.entries ++ unassignable (index_of (indexed_type (component_of t) ms)) n.as_value.type)))

all_typed-more : (ns : List Node) (n : Node) → all_typed (ns ++ n ∷ []) ≡ (all_typed ns && is_some n.as_value.type)
all_typed-more [] n = and-true (is_some n.as_value.type)
all_typed-more (m ∷ ms) n = ap (λ (x : Bool). is_some m.as_value.type && x) (all_typed-more ms n) ∙ and-assoc (is_some m.as_value.type) (all_typed ms) (is_some n.as_value.type)

any_hole-more : (ns : List Node) (n : Node) → any_hole (ns ++ n ∷ []) ≡ (any_hole ns || n.at.hole)
any_hole-more [] n = or-false n.at.hole
any_hole-more (m ∷ ms) n = ap (λ (x : Bool). m.at.hole || x) (any_hole-more ms n) ∙ or-assoc m.at.hole (any_hole ms) n.at.hole

indexes_no_array-more : (t : Option Typed) (ns : List Node) (n : Node) → indexes_no_array t (ns ++ n ∷ []) ≡ (indexes_no_array t ns || is_no_array (shape_of (indexed_type t ns)))
indexes_no_array-more None [] n = refl
indexes_no_array-more None (m ∷ ms) n = ap (λ (t : Option Typed). is_no_array (shape_of t)) (sym (behind-none ms))
indexes_no_array-more (Some t) [] n = or-false (not (is_array t.shape))
indexes_no_array-more (Some t) (m ∷ ms) n =
    ap (λ (x : Bool). not (is_array t.shape) || x) (indexes_no_array-more (component_of (Some t)) ms n)
    ∙ or-assoc (not (is_array t.shape)) (indexes_no_array (component_of (Some t)) ms) (is_no_array (shape_of (indexed_type (component_of (Some t)) ms)))

indexes_packed-more : (t : Option Typed) (ns : List Node) (n : Node) → indexes_packed t (ns ++ n ∷ []) ≡ (indexes_packed t ns || is_packed_array (shape_of (indexed_type t ns)))
indexes_packed-more None [] n = refl
indexes_packed-more None (m ∷ ms) n = ap (λ (t : Option Typed). is_packed_array (shape_of t)) (sym (behind-none ms))
indexes_packed-more (Some t) [] n = or-false (is_packed_array (Some t.shape))
indexes_packed-more (Some t) (m ∷ ms) n =
    ap (λ (x : Bool). is_packed_array (Some t.shape) || x) (indexes_packed-more (component_of (Some t)) ms n)
    ∙ or-assoc (is_packed_array (Some t.shape)) (indexes_packed (component_of (Some t)) ms) (is_packed_array (shape_of (indexed_type (component_of (Some t)) ms)))

pub type-more : (s t : Table) (o r : Option Operand) (ty : Option Typed) (ns : List Node) (n : Node) → s ≡ t → ShowsType s o (indexed_type ty ns) →
    option_map (shape_at t) r ≡ judged.component_of (option_map (shape_at t) o) → (IfSome o (IsThere t) → IfSome r (IsThere t)) → ShowsType s r (indexed_type ty (ns ++ n ∷ []))
type-more s t o r ty ns n e h shape there =
    let is = shape-in s t o (indexed_type ty ns) e h in
    let law = component_of-judged (indexed_type ty ns) in
    let found : option_map (shape_at t) r ≡ shape_of (component_of (indexed_type ty ns)) = cc in
    subst (λ (x : Option Typed). ShowsType s r x) (sym (indexed_type-more ty ns n)) (shown s t r (component_of (indexed_type ty ns)) e found (there (there-in s t o (indexed_type ty ns) e h)))

pub entries-more : (s t : Table) (o i v : Option Operand) (ty : Option Typed) (ns : List Node) (n : Node) (at : ℕ) (old own with_own new : List Entry) (misfit : Bool) → s ≡ t → ShowsType s o (indexed_type ty ns) →
    at ≡ length ns + 1 → old ≡ indexed ty 1 ns → option_map (shape_at t) i ≡ judged.index_of (option_map (shape_at t) o) → ShowsType s v n.as_value.type →
    misfit ≡ judged.is_unassignable (option_map (shape_at t) i) (option_map (shape_at t) v) → own ≡ n.as_value.entries → with_own ≡ own ++ note_if misfit 11 (codes "types do not agree") →
    new ≡ old ++ at_kid at with_own → new ≡ indexed ty 1 (ns ++ n ∷ [])
entries-more s t o i v ty ns n at old own with_own new misfit e h is_at is_old is_i hv is_misfit is_own is_with is_new =
    let is = shape-in s t o (indexed_type ty ns) e h in
    let value = shape-in s t v n.as_value.type e hv in
    let law = index_of-judged (indexed_type ty ns) in
    let fits = unassignable-judged (index_of (indexed_type ty ns)) n.as_value.type in
    let more = indexed-more ty 1 at ns n is_at in
    let bad : misfit ≡ judged.is_unassignable (index_of (indexed_type ty ns)) (shape_of n.as_value.type) = cc in
    let note_is : note_if misfit 11 (codes "types do not agree") ≡ unassignable (index_of (indexed_type ty ns)) n.as_value.type = ap (λ (x : Bool). note_if x 11 (codes "types do not agree")) bad ∙ sym fits in
    let own_is : with_own ≡ n.as_value.entries ++ unassignable (index_of (indexed_type ty ns)) n.as_value.type = cc in
    cc

pub next-more : (next old : ℕ) (ns : List Node) (n : Node) → old ≡ length ns + 1 → next ≡ old + 1 → next ≡ length (ns ++ n ∷ []) + 1
next-more next old ns n a b = let e = length-append ns (n ∷ []) in omega (arith, a, b, e)

pub hole-more : (new old own : Bool) (ns : List Node) (n : Node) → old ≡ any_hole ns → own ≡ n.at.hole → new ≡ (old || own) → new ≡ any_hole (ns ++ n ∷ [])
hole-more new old own ns n a b e = let law = any_hole-more ns n in cc

pub typed-more : (s : Table) (v : Option Operand) (new old known : Bool) (ns : List Node) (n : Node) → ShowsType s v n.as_value.type → old ≡ all_typed ns → known ≡ is_some v → new ≡ (old && known) → new ≡ all_typed (ns ++ n ∷ [])
typed-more s v new old known ns n h a b e = let law = all_typed-more ns n in let same = known-same s v n.as_value.type h in cc

pub no_array-more : (s t : Table) (o : Option Operand) (ty : Option Typed) (new old own : Bool) (ns : List Node) (n : Node) → s ≡ t → ShowsType s o (indexed_type ty ns) → old ≡ indexes_no_array ty ns →
    own ≡ is_no_array (option_map (shape_at t) o) → new ≡ (old || own) → new ≡ indexes_no_array ty (ns ++ n ∷ [])
no_array-more s t o ty new old own ns n e h a b f =
    let is = ap is_no_array (shape-in s t o (indexed_type ty ns) e h) in
    let law = indexes_no_array-more ty ns n in
    cc

pub packed-more : (s t : Table) (o : Option Operand) (ty : Option Typed) (new old own : Bool) (ns : List Node) (n : Node) → s ≡ t → ShowsType s o (indexed_type ty ns) → old ≡ indexes_packed ty ns →
    own ≡ is_packed_array (option_map (shape_at t) o) → new ≡ (old || own) → new ≡ indexes_packed ty (ns ++ n ∷ [])
packed-more s t o ty new old own ns n e h a b f =
    let is = ap is_packed_array (shape-in s t o (indexed_type ty ns) e h) in
    let law = indexes_packed-more ty ns n in
    cc

-- ---- nodes in a row, the last one apart

pub split-last : {X : Type 0} (shows : X → Node → Type 0) (fs : List X) (f : X) (ns : List Node) → AllShow shows (fs ++ f ∷ []) ns →
    (ms : List Node) × (n : Node) × (ns ≡ ms ++ n ∷ []) × AllShow shows fs ms × shows f n
split-last shows [] f [] h = absurd h
split-last shows [] f (n ∷ []) h = ([], n, refl, tt, h.0)
split-last shows [] f (n ∷ m ∷ ns) h = absurd h.1
split-last shows (g ∷ fs) f [] h = absurd h
split-last shows (g ∷ fs) f (n ∷ ns) h =
    let r = split-last shows fs f ns h.1 in
    (n ∷ r.0, r.1, ap (λ (xs : List Node). n ∷ xs) r.2, (h.0, r.3), r.4)

-- ---- all indexes

pub all-entries : (ty : Option Typed) (ns : List Node) (base first_kid second_kid none own old one two all : List Entry) (p : Bool) → p ≡ indexes_no_array ty ns → first_kid ≡ base → second_kid ≡ indexed ty 1 ns →
    none ≡ [] → own ≡ none ++ note_if p 15 (codes "not an array") → old ≡ [] → one ≡ old ++ at_kid 1 first_kid → two ≡ one ++ at_kid 2 second_kid → all ≡ two ++ at_kid 1 own →
    all ≡ at_kid 1 base ++ at_kid 2 (indexed ty 1 ns) ++ at_kid 1 (note_if (indexes_no_array ty ns) 15 (codes "not an array"))
all-entries ty ns base first_kid second_kid none own old one two all p is_p is_first is_second is_none is_own is_old is_one is_two is_all =
    let own_is = begun none _ own is_none is_own in
    let one_is = begun old _ one is_old is_one in
    let assoc = append_assoc (at_kid 1 base) (at_kid 2 (indexed ty 1 ns)) (at_kid 1 (note_if (indexes_no_array ty ns) 15 (codes "not an array"))) in
    let two_is : two ≡ at_kid 1 base ++ at_kid 2 (indexed ty 1 ns) = cc in
    let last : own ≡ note_if (indexes_no_array ty ns) 15 (codes "not an array") = own_is ∙ ap (λ (x : Bool). note_if x 15 (codes "not an array")) is_p in
    cc

where-shown-same : (s : Table) (o : Option Operand) (ty : Option Typed) (b : Bool) → ShowsType s o ty → ShowsType s (if b then o else None) (if b then ty else None)
where-shown-same s o ty true h = h
where-shown-same s o ty false h = record { shape = refl; there = λ x e. absurd (none-some x e) }

pub where-shown : (s : Table) (o r : Option Operand) (ty : Option Typed) (b c : Bool) → b ≡ c → ShowsType s o ty → r ≡ (if b then o else None) → ShowsType s r (if c then ty else None)
where-shown s o r ty b c e h is =
    subst (λ (x : Option Operand). ShowsType s x (if c then ty else None)) (sym is)
    (subst (λ (x : Bool). ShowsType s (if b then o else None) (if x then ty else None)) e (where-shown-same s o ty b h))

pub all-packed : (s : Table) (o : Option Operand) (ty : Option Typed) (ns : List Node) (packed known either indexes part p : Bool) → ShowsType s o ty → packed ≡ (known && either) → known ≡ is_some o →
    either ≡ (indexes || part) → indexes ≡ indexes_packed ty ns → part ≡ p → packed ≡ (is_some ty && (indexes_packed ty ns || p))
all-packed s o ty ns packed known either indexes part p h a b c d f = let same = known-same s o ty h in cc
