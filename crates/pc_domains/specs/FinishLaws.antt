-- When the types of all domains are told: lemmas.
use Rattle.std.proofs.Common.{◌≡◌, ◌⊎◌, inl, inr, ℕ, ◌<◌, ◌≤◌, Bool, true, false, if◌then◌else◌, List, [], Option, Some, None, option_map, get_or, length, max, refl, ap, sym, ◌∙◌, subst, arith}
use Rattle.std.proofs.Math.Nat.{max-eq_right}
use Rattle.std.proofs.lemmas.Bool.{cases_lt}
use Rattle.std.proofs.lemmas.Option.{none-some, same_Some}
use Rattle.pc_types.specs.Shapes.{Owner, Shape, Domain, Typed}
use Rattle.pc_types.specs.Domains.{closed}
use Rattle.pc_types.specs.Rows.{IsInOrder, seen}
use Rattle.pc_types.specs.Table.{Table, Place, numbered, nobody, place_at, domain_at, shape_at}
use Rattle.pc_types.specs.declared.form.TypeId.{TypeId}
use Rattle.pc_types.specs.declared.form.DomainId.{DomainId}
use Rattle.pc_types.specs.declared.operand.Operand.{Operand}
use Rattle.pc_names.specs.Table.{Table as Names}
use Rattle.pc_rules.specs.Declarations.{completed}
use Rattle.pc_facts.specs.Shows.{ShowsType}
use Rattle.pc_pointers.specs.Good.{Targets, IsGood}
use Rattle.pc_closed.specs.Carried.{IsCarriedType}
use Rattle.pc_closed.specs.TogetherLaws.{together-law}
use Rattle.pc_closing.specs.Whole.{is_whole_in, AreWhole, closed_shape}
use Rattle.pc_closing.specs.Truth.{TellRows}
use Rattle.pc_closing.specs.LongerLaws.{longer-self}
use Rattle.pc_closing.specs.ToldLaws.{told-closed, truth-found}
use Rattle.pc_places.specs.Places.{known}
use Rattle.pc_places.specs.declared.tables.Tables.{Tables}
use Rattle.pc_domains.specs.RetargetedLaws.{place-kept, length-kept}
use Rattle.pc_domains.specs.Rows.{type_named, StandsAt, TellsRows}
use Rattle.pc_domains.specs.Sifting.{AreSettled}
use Rattle.pc_domains.specs.Telling.{Telling, if_whole_type}
use Rattle.pc_domains.specs.Told.{Told, type_at, IsClosedOwner, IsTold, IsAllTold, WereSettled, Retargeted}
use Rattle.pc_domains.specs.ToldLaws.{settled-flags}

-- ---- rows tell what stands under names

-- targets say of the owners whose types are closed what stands under their names
abbrev pub ClosedTell : Targets → List Bool → List ((ℕ × ℕ) × Option TypeId) → Tables → Type 0
ClosedTell T cs ts t =
    (o : ℕ) → get_or cs o false ≡ true → (n : List ℕ) → T (get_or (known t).table.owners o nobody) n ≡ option_map (numbered (known t).table.shapes) (type_named ts t.names.texts o n)

pub ClosedTell-kept : (T : Targets) (cs : List Bool) (ts : List ((ℕ × ℕ) × Option TypeId)) (old new : Tables) → Retargeted old new → ClosedTell T cs ts old → ClosedTell T cs ts new
ClosedTell-kept T cs ts old new same h = λ o c n.
    ap (λ (os : List Owner). T (get_or os o nobody) n) same.owners ∙ h o c n
    ∙ ap (λ (ss : List Shape). option_map (numbered ss) (type_named ts old.names.texts o n)) (sym same.shapes)
    ∙ ap (λ (ns : List (List ℕ)). option_map (numbered (known new).table.shapes) (type_named ts ns o n)) (sym (ap (λ (x : Names). x.texts) same.names))

pub stands-tells : (T : Targets) (cs : List Bool) (ts : List ((ℕ × ℕ) × Option TypeId)) (t : Tables) (x : DomainId) (s : Option Shape) → ClosedTell T cs ts t → StandsAt cs ts t x s →
    T (place_at (known t).table x).owner (place_at (known t).table x).name ≡ s
stands-tells T cs ts t x s h at =
    ap (λ (o : Owner). T o (place_at (known t).table x).name) at.is ∙ h at.owner at.is_closed (place_at (known t).table x).name ∙ sym at.target

pub rows-tell : (T : Targets) (cs : List Bool) (ts : List ((ℕ × ℕ) × Option TypeId)) (from : ℕ) (old new : Tables) → TellsRows cs ts from (length (known old).table.domains) old new →
    ClosedTell T cs ts old → ((x : DomainId) → x.0 < from → T (place_at (known old).table x).owner (place_at (known old).table x).name ≡ (domain_at (known old).table x).shape) →
    TellRows T (known new).table (length (known new).table.domains)
rows-tell T cs ts from old new rows h before = λ x l. elim (cases_lt x.0 from) [
  | inl less ↦
      ap (λ (p : Place). T p.owner p.name) (place-kept old new x rows.same) ∙ before x less ∙ sym (ap (λ (d : Domain). d.shape) (rows.before x less))
  | inr past ↦
      let same = length-kept old new rows.same in
      stands-tells T cs ts new x (domain_at (known new).table x).shape (ClosedTell-kept T cs ts old new rows.same h) (rows.told x past (omega (arith, l, same)))
]

-- the place of each domain is that of an owner whose types are closed
pub rows-owned : (d e : Told) (ts : List ((ℕ × ℕ) × Option TypeId)) (from : ℕ) (old new : Tables) → TellsRows e.closed ts from (length (known old).table.domains) old new →
    ((x : DomainId) → x.0 < from → IsClosedOwner e (known old).table (place_at (known old).table x).owner) →
    (x : DomainId) → x.0 < length (known new).table.domains → IsClosedOwner e (known new).table (place_at (known new).table x).owner
rows-owned d e ts from old new rows before = λ x l. elim (cases_lt x.0 from) [
  | inl less ↦
      let o = before x less in
      (o.0, o.1, ap (λ (os : List Owner). get_or os o.0 nobody) rows.same.owners ∙ o.2 ∙ sym (ap (λ (p : Place). p.owner) (place-kept old new x rows.same)))
  | inr past ↦
      let same = length-kept old new rows.same in
      let at = rows.told x past (omega (arith, l, same)) in
      (at.owner, at.is_closed, sym at.is)
]

-- ---- all is told

pub larger : (a b : ℕ) → a ≤ b → max a b ≡ b
larger a b h = max-eq_right h

-- what is known once all domains are told
pub finish : (T : Targets) (e : Told) (z : Tables) → ClosedTell T e.closed e.types z → ((o : ℕ) → get_or e.closed o false ≡ true → o < length (known z).table.owners) →
    ((o i : ℕ) → get_or e.closed o false ≡ false → type_at e.types o i ≡ None) →
    ((o i : ℕ) (x : TypeId) → type_at e.types o i ≡ Some x → (i < length z.names.texts) × (x.0 < length (known z).table.shapes)) →
    ((x : DomainId) → x.0 < length (known z).table.domains → IsClosedOwner e (known z).table (place_at (known z).table x).owner) →
    TellRows T (known z).table (length (known z).table.domains) → e.told ≡ length (known z).table.domains → AreWhole (known z).table e.whole → length e.whole ≡ length (known z).table.shapes →
    IsInOrder z.types → IsAllTold T e (known z)
finish T e z closed begun bare within owned rows told flags count order = record {
  told = record {
    closed = closed;
    begun = begun;
    bare = bare;
    within = within;
    rows = λ x l. rows x (omega (arith, l, told));
    owned = λ x l. owned x (omega (arith, l, told));
    count = omega (arith, told);
    flags = flags;
    flagged = omega (arith, count);
    settled = inr (record {
      before = z.types;
      in_order = order;
      longer = longer-self (known z).table;
      flagged = omega (arith, count);
      rows = omega (arith, told);
      flags = flags;
    });
  };
  rows_all = told;
  flags_all = omega (arith, count);
}

-- flags that were right stay right while domains get their types
pub flags-after : (d : Told) (cs : List Bool) (ts : List ((ℕ × ℕ) × Option TypeId)) (from to : ℕ) (a b : Tables) → TellsRows cs ts from to a b → d.told ≤ from →
    ((d.whole ≡ []) ⊎ WereSettled d (known a).table) → AreWhole (known b).table d.whole
flags-after d cs ts from to a b rows less (inl e) = settled-flags d (known b).table (inl e)
flags-after d cs ts from to a b rows less (inr w) =
    let few : length (seen w.before).domains ≤ from = omega (arith, w.rows, less) in
    settled-flags d (known b).table (inr (record {
      before = w.before;
      in_order = w.in_order;
      longer = rows.longer (seen w.before) few w.longer;
      flagged = w.flagged;
      rows = w.rows;
      flags = w.flags;
    }))

-- the types of all domains are told by those that stand under their names
pub telling-all : (T : Targets) (d e : Told) (a b : Tables) → Telling d e a b → T nobody [] ≡ None → IsTold T d (known a) → IsAllTold T e (known b)
telling-all T d e a b g none t =
    let same = g.rows.same in
    let closed : ClosedTell T d.closed d.types b = ClosedTell-kept T d.closed d.types a b same t.closed in
    let rows = rows-tell T d.closed d.types d.told a b g.rows t.closed t.rows in
    let before : AreWhole (known b).table d.whole = flags-after d d.closed d.types d.told (length (known a).table.domains) a b g.rows (omega arith) t.settled in
    let flags = g.settles.right before (truth-found T (known b).table rows none) in
    let owners : length (known b).table.owners ≡ length (known a).table.owners = ap (λ (os : List Owner). length os) same.owners in
    let shapes : length (known b).table.shapes ≡ length (known a).table.shapes = ap (λ (ss : List Shape). length ss) same.shapes in
    let names : length b.names.texts ≡ length a.names.texts = ap (λ (x : Names). length x.texts) same.names in
    finish T e b
    (subst (λ (cs : List Bool). ClosedTell T cs e.types b) (sym g.settles.closed) (subst (λ ts. ClosedTell T d.closed ts b) (sym g.settles.types) closed))
    (λ o c. let l = t.begun o (ap (λ (cs : List Bool). get_or cs o false) (sym g.settles.closed) ∙ c) in omega (arith, l, owners))
    (λ o i c. ap (λ ts. type_at ts o i) g.settles.types ∙ t.bare o i (ap (λ (cs : List Bool). get_or cs o false) (sym g.settles.closed) ∙ c))
    (λ o i x q. let w = t.within o i x (ap (λ ts. type_at ts o i) (sym g.settles.types) ∙ q) in (omega (arith, w.0, names), omega (arith, w.1, shapes)))
    (rows-owned d e d.types d.told a b (subst (λ (cs : List Bool). TellsRows cs d.types d.told (length (known a).table.domains) a b) (sym g.settles.closed) g.rows)
    (λ x l. let o = t.owned x l in (o.0, ap (λ (cs : List Bool). get_or cs o.0 false) g.settles.closed ∙ o.1, o.2)))
    rows g.told flags
    (g.settles.count ∙ larger (length d.whole) (length (known b).table.shapes) (omega (arith, t.flagged, shapes)))
    g.order

-- ---- the type of variables

pub all-settled : (T : Targets) (e : Told) (z : Tables) → IsAllTold T e (known z) → AreSettled (seen z.types) e.whole
all-settled T e z h = record { right = h.told.flags; all = h.flags_all }

if-whole : (p : Shape → Bool) (table : Table) (o : Operand) (b : Bool) → p (shape_at table o) ≡ b → option_map (shape_at table) (if b then Some o else None) ≡ (if b then Some (shape_at table o) else None)
if-whole p table o true e = refl
if-whole p table o false e = refl

pub completed-shows : (T : Targets) (e : Told) (z : Tables) (of : Option Operand) (t : Option Typed) → IsAllTold T e (known z) → IsInOrder z.types → ShowsType (known z).table of t →
    IsCarriedType T [] t → ShowsType (known z).table (if_whole_type (is_whole_in (known z).table.domains) (known z).table of) (completed t)
completed-shows T e z None None h order s c = s
completed-shows T e z None (Some x) h order s c = absurd (none-some x.shape s.shape)
completed-shows T e z (Some o) None h order s c = absurd (none-some (shape_at (known z).table o) (sym s.shape))
completed-shows T e z (Some o) (Some x) h order s c =
    let table = (known z).table in
    let p = is_whole_in table.domains in
    let same : shape_at table o ≡ x.shape = same_Some (shape_at table o) x.shape s.shape in
    let good : IsGood T (record { shape = shape_at table o; domains = x.domains }) =
    subst (λ (u : Shape). IsGood T (record { shape = u; domains = x.domains })) (sym same) (together-law.good T x c) in
    let rows : TellRows T table (length table.domains) = λ y l. h.told.rows y (omega (arith, l, h.rows_all)) in
    let is = told-closed T z.types x.domains o order rows (s.there o refl) good in
    record {
      shape = if-whole p table o (p (shape_at table o)) refl ∙ sym is ∙ ap (λ (u : Shape). closed_shape x.domains (Some u)) same;
      there = λ y q. s.there y (still (p (shape_at table o)) y q);
    }
  where
    still : (b : Bool) (y : Operand) → (if b then Some o else None) ≡ Some y → Some o ≡ Some y
    still true y q = q
    still false y q = absurd (none-some y q)
