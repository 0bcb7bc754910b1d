-- What is kept stays right while more is numbered: lemmas.
use Rattle.std.proofs.Common.{◌≡◌, ◌⊎◌, inl, inr, ℕ, ◌<◌, ◌≤◌, suc, Bool, true, false, if◌then◌else◌, List, [], ◌∷◌, ◌++◌, Option, Some, None, option_map, length, map, refl, ap, sym, ◌∙◌, subst, arith}
use Rattle.std.proofs.lemmas.Bool.{cases_lt}
use Rattle.std.proofs.lemmas.List.{get_or_past, length-map}
use Rattle.std.proofs.lemmas.Option.{none-some, same_Some}
use Rattle.std.specs.Option.{option_and_then}
use Rattle.std.specs.Str.{bytes_eq}
use Rattle.pc_types.specs.Shapes.{Owner, Shape, Domain}
use Rattle.pc_types.specs.Rows.{IsInOrder, seen}
use Rattle.pc_types.specs.Table.{Table, Place, numbered, nobody, nowhere, place_of, place_at}
use Rattle.pc_types.specs.declared.form.TypeId.{TypeId}
use Rattle.pc_names.specs.Numbers.{number_of}
use Rattle.pc_facts.specs.Known.{Known}
use Rattle.pc_growth.specs.Grows.{Begins, Grows}
use Rattle.pc_growth.specs.GrowsLaws.{less-begins, get_or-begins, numbered-begins, length-begins}
use Rattle.pc_pointers.specs.Good.{Targets}
use Rattle.pc_access_rules.specs.Pointers.{AreTold}
use Rattle.pc_closing.specs.Truth.{IsLonger}
use Rattle.pc_closing.specs.Whole.{AreWhole}
use Rattle.pc_closing.specs.LongerLaws.{longer-then}
use Rattle.pc_closing.specs.StaysLaws.{stays-domain, stays-place, stays-right}
use Rattle.pc_places.specs.NumberingLaws.{number_of-begins}
use Rattle.pc_places.specs.Places.{known}
use Rattle.pc_places.specs.declared.tables.Tables.{Tables}
use Rattle.pc_domains.specs.Rows.{type_named}
use Rattle.pc_domains.specs.Told.{Told, type_at, shape_named, WereSettled, IsTold, IsAllTold}

-- ---- what stands under names

late-by : (b : Bool) (o p : Option ℕ) (count j : ℕ) → ((i : ℕ) → o ≡ None → p ≡ Some i → count ≤ i) → (if b then Some 0 else option_map suc o) ≡ None →
    (if b then Some 0 else option_map suc p) ≡ Some j → suc count ≤ j
late-by true o p count j rest e f = absurd (none-some 0 (sym e))
late-by false (Some i) p count j rest e f = absurd (none-some (suc i) (sym e))
late-by false None None count j rest e f = absurd (none-some j f)
late-by false None (Some i) count j rest e f = let l = rest i refl refl in let same : suc i ≡ j = same_Some (suc i) j f in omega (arith, l, same)

-- a name that had no number has a late one
late : (ms ns : List (List ℕ)) (n : List ℕ) (j : ℕ) → number_of ms n ≡ None → number_of (ms ++ ns) n ≡ Some j → length ms ≤ j
late [] ns n j e f = omega arith
late (m ∷ ms) ns n j e f = late-by (bytes_eq n m) (number_of ms n) (number_of (ms ++ ns) n) (length ms) j (λ i p q. late ms ns n i p q) e f

-- what stands under a name stays, where nothing stands under names without numbers
pub named-grows : (ts : List ((ℕ × ℕ) × Option TypeId)) (a b : List (List ℕ)) (o : ℕ) (n : List ℕ) → Begins a b → ((i : ℕ) (x : TypeId) → type_at ts o i ≡ Some x → i < length a) →
    type_named ts b o n ≡ type_named ts a o n
named-grows ts a b o n g within = by (number_of a n) refl
  where
    none-at : (j : ℕ) (x : Option TypeId) → length a ≤ j → type_at ts o j ≡ x → x ≡ None
    none-at j None l e = refl
    none-at j (Some x) l e = let less = within j x e in absurd (omega (arith, l, less))

    late-one : (p : Option ℕ) → number_of a n ≡ None → number_of b n ≡ p → option_and_then (λ i. type_at ts o i) p ≡ None
    late-one None e f = refl
    late-one (Some j) e f = none-at j (type_at ts o j) (late a g.more n j e (ap (λ (ms : List (List ℕ)). number_of ms n) (sym g.is) ∙ f)) refl

    by : (p : Option ℕ) → number_of a n ≡ p → type_named ts b o n ≡ option_and_then (λ i. type_at ts o i) p
    by (Some i) e = ap (option_and_then (λ j. type_at ts o j)) (number_of-begins a b n i g e)
    by None e = late-one (number_of b n) e refl

numbers-there : (a b : List Shape) (x : Option TypeId) → Begins a b → ((t : TypeId) → x ≡ Some t → t.0 < length a) → option_map (numbered b) x ≡ option_map (numbered a) x
numbers-there a b None g there = refl
numbers-there a b (Some t) g there = ap Some (numbered-begins a b t g (there t refl))

named-there : (ts : List ((ℕ × ℕ) × Option TypeId)) (names : List (List ℕ)) (o count : ℕ) (n : List ℕ) (t : TypeId) → ((i : ℕ) (x : TypeId) → type_at ts o i ≡ Some x → x.0 < count) →
    type_named ts names o n ≡ Some t → t.0 < count
named-there ts names o count n t within e = by (number_of names n) e
  where
    by : (p : Option ℕ) → option_and_then (λ i. type_at ts o i) p ≡ Some t → t.0 < count
    by (Some i) q = within i t q
    by None q = absurd (none-some t q)

pub shape-grows : (d : Told) (a b : Known) (o : ℕ) (n : List ℕ) → Grows a b → ((i : ℕ) (x : TypeId) → type_at d.types o i ≡ Some x → (i < length a.names) × (x.0 < length a.table.shapes)) →
    shape_named d b o n ≡ shape_named d a o n
shape-grows d a b o n g within =
    ap (option_map (numbered b.table.shapes)) (named-grows d.types a.names b.names o n g.names (λ i x e. (within i x e).0))
    ∙ numbers-there a.table.shapes b.table.shapes (type_named d.types a.names o n) g.shapes
    (λ t e. named-there d.types a.names o (length a.table.shapes) n t (λ i x q. (within i x q).1) e)

-- ---- all of it

pub longer-grows : (a b : Known) → Grows a b → Begins a.table.domains b.table.domains → IsLonger a.table b.table
longer-grows a b g h = record {
  more_shapes = g.shapes.more;
  more_owners = g.owners.more;
  more_domains = h.more;
  shapes = g.shapes.is;
  owners = g.owners.is;
  domains = h.is;
}

-- no flags are right
no-flags : (t : Table) (flags : List Bool) → flags ≡ [] → AreWhole t flags
no-flags t flags e = subst (AreWhole t) (sym e) (λ i h. absurd (omega (arith, h)))

-- flags that were right are right in a table that is longer than the one of which they were made
pub settled-flags : (d : Told) (t : Table) → ((d.whole ≡ []) ⊎ WereSettled d t) → AreWhole t d.whole
settled-flags d t (inl e) = no-flags t d.whole e
settled-flags d t (inr w) = stays-right w.before t d.whole w.in_order w.longer w.flagged w.flags

settled-longer : (d : Told) (a b : Table) → IsLonger a b → ((d.whole ≡ []) ⊎ WereSettled d a) → (d.whole ≡ []) ⊎ WereSettled d b
settled-longer d a b l (inl e) = inl e
settled-longer d a b l (inr w) = inr (record {
  before = w.before;
  in_order = w.in_order;
  longer = longer-then (seen w.before) a b w.longer l;
  flagged = w.flagged;
  rows = w.rows;
  flags = w.flags;
})

-- what is kept stays right where more is numbered, and more domains stand at the end
pub told-moves : (targets : Targets) (d : Told) (old new : Tables) → Grows (known old) (known new) → Begins (known old).table.domains (known new).table.domains →
    IsTold targets d (known old) → IsTold targets d (known new)
told-moves targets d old new g h t =
    let a = known old in
    let b = known new in
    let l = longer-grows a b g h in
    let settled = settled-longer d a.table b.table l t.settled in
    record {
      closed = λ o c n.
          ap (λ (w : Owner). targets w n) (get_or-begins a.table.owners b.table.owners o nobody g.owners (t.begun o c)) ∙ t.closed o c n ∙ sym (shape-grows d a b o n g (λ i x e. t.within o i x e));
      begun = λ o c. less-begins a.table.owners b.table.owners o g.owners (t.begun o c);
      bare = t.bare;
      within = λ o i x e.
          let w = t.within o i x e in (less-begins a.names b.names i g.names w.0, less-begins a.table.shapes b.table.shapes x.0 g.shapes w.1);
      rows = λ x less.
          let there : x.0 < length a.table.domains = omega (arith, less, t.count) in
          ap (λ (p : Place). targets p.owner p.name) (stays-place a.table b.table x l there) ∙ t.rows x less ∙ sym (ap (λ (e : Domain). e.shape) (stays-domain a.table b.table x l there));
      owned = λ x less.
          let there : x.0 < length a.table.domains = omega (arith, less, t.count) in
          let o = t.owned x less in
          (o.0, o.1, get_or-begins a.table.owners b.table.owners o.0 nobody g.owners (t.begun o.0 o.1) ∙ o.2 ∙ sym (ap (λ (p : Place). p.owner) (stays-place a.table b.table x l there)));
      count = let n = length-begins a.table.domains b.table.domains h in omega (arith, n, t.count);
      flags = settled-flags d b.table settled;
      flagged = let n = length-begins a.table.shapes b.table.shapes g.shapes in omega (arith, n, t.flagged);
      settled = settled;
    }

pub IsTold-moves : (targets : Targets) (d : Told) (old new : Tables) → IsInOrder old.types → Grows (known old) (known new) → Begins (known old).table.domains (known new).table.domains →
    IsTold targets d (known old) → IsTold targets d (known new)
IsTold-moves targets d old new order g h t = told-moves targets d old new g h t

-- the targets have at the place of each domain that domain's type
pub AllTold-rows : (targets : Targets) (d : Told) (k : Known) → IsAllTold targets d k → targets nobody [] ≡ None → AreTold targets k.table
AllTold-rows targets d k h none = λ x. elim (cases_lt x.0 (length k.table.domains)) [
  | inl less ↦ h.told.rows x (omega (arith, less, h.rows_all))
  | inr past ↦
      let place : place_at k.table x ≡ nowhere = get_or_past (map place_of k.table.domains) x.0 nowhere (omega (arith, past, length-map k.table.domains place_of)) in
      let domain = get_or_past k.table.domains x.0 (record { owner = nobody; name = []; shape = None }) past in
      ap (λ (p : Place). targets p.owner p.name) place ∙ none ∙ sym (ap (λ (e : Domain). e.shape) domain)
]
