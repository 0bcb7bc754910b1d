-- All is told once the types of a block are closed: lemmas.
use Rattle.std.proofs.Common.{◌≡◌, ℕ, ◌<◌, Bool, true, false, nat_eq, ◌&&◌, if◌then◌else◌, List, [], Option, Some, None, get_or, length, refl, ap, sym, ◌∙◌, subst, true≢false, arith}
use Rattle.std.proofs.lemmas.Bool.{and_parts}
use Rattle.std.proofs.lemmas.Bool.Decides.{nat_tests}
use Rattle.pc_syntax.specs.Plain.{Plain}
use Rattle.pc_types.specs.Shapes.{Owner, Shape}
use Rattle.pc_types.specs.Rows.{Kept, seen}
use Rattle.pc_types.specs.Table.{Place, nobody, place_at}
use Rattle.pc_types.specs.declared.form.TypeId.{TypeId}
use Rattle.pc_types.specs.declared.form.DomainId.{DomainId}
use Rattle.pc_names.specs.declared.id.NameId.{NameId}
use Rattle.pc_rules.specs.ClosedTypes.{own_domains, close_types}
use Rattle.pc_rules.specs.Meanings.{Local, Outside}
use Rattle.pc_names.specs.Table.{Table as Names}
use Rattle.pc_sightings.specs.TouchedLog.{AreApart}
use Rattle.pc_pointers.specs.Good.{Targets}
use Rattle.pc_closed.specs.Carried.{AllTypesCarried}
use Rattle.pc_closing.specs.Whole.{AreWhole}
use Rattle.pc_places.specs.MovesLaws.{IsPlace-kept}
use Rattle.pc_places.specs.Places.{known, IsPlace}
use Rattle.pc_places.specs.declared.tables.Tables.{Tables}
use Rattle.pc_block_laws.specs.Block.{block_targets, OnceEach, OwnTypes}
use Rattle.pc_domains.specs.Closing.{Closing}
use Rattle.pc_domains.specs.FinishLaws.{ClosedTell, ClosedTell-kept, rows-owned, finish}
use Rattle.pc_domains.specs.Rows.{TellsRows}
use Rattle.pc_domains.specs.ThereLaws.{says-there}
use Rattle.pc_domains.specs.Told.{Told, type_at, IsClosedOwner, IsTold, IsAllTold}
use Rattle.pc_domains.specs.ToldLaws.{told-moves}
use Rattle.pc_domains.specs.Types.{is_id, Says}
use Rattle.pc_domains.specs.FirstLaws.{Run, names_in, first-entered, first-count}
use Rattle.pc_domains.specs.LastLaws.{last-place, end-place, owners-same, shapes-same, texts-same, places-same, last-names, last-entered, last-closed, third-told, last-tell, last-rows, shapes-end, last-flags}

-- ---- owners

equal : (owner o : ℕ) → nat_eq owner o ≡ true → owner ≡ o
equal owner o e = grind (arith, nat_tests)

-- an owner whose types were closed stays so
still-closed : (d : Told) (cs : List Bool) (owner o : ℕ) → ((k : ℕ) → get_or cs k false ≡ (if nat_eq owner k then true else get_or d.closed k false)) → get_or d.closed o false ≡ true →
    get_or cs o false ≡ true
still-closed d cs owner o closed e = by (nat_eq owner o) (closed o)
  where
    by : (b : Bool) → get_or cs o false ≡ (if b then true else get_or d.closed o false) → get_or cs o false ≡ true
    by true q = q
    by false q = q ∙ e

closed-begun : (d : Told) (cs : List Bool) (owner o count : ℕ) → ((k : ℕ) → get_or cs k false ≡ (if nat_eq owner k then true else get_or d.closed k false)) → owner < count →
    (get_or d.closed o false ≡ true → o < count) → get_or cs o false ≡ true → o < count
closed-begun d cs owner o count closed there before e = by (nat_eq owner o) refl (closed o)
  where
    by : (b : Bool) → nat_eq owner o ≡ b → get_or cs o false ≡ (if b then true else get_or d.closed o false) → o < count
    by true q f = subst (λ (k : ℕ). k < count) (equal owner o q) there
    by false q f = before (sym f ∙ e)

not-closed : (d : Told) (cs : List Bool) (owner o : ℕ) → ((k : ℕ) → get_or cs k false ≡ (if nat_eq owner k then true else get_or d.closed k false)) → get_or cs o false ≡ false →
    (nat_eq owner o ≡ false) × (get_or d.closed o false ≡ false)
not-closed d cs owner o closed e = by (nat_eq owner o) refl (closed o)
  where
    by : (b : Bool) → nat_eq owner o ≡ b → get_or cs o false ≡ (if b then true else get_or d.closed o false) → (nat_eq owner o ≡ false) × (get_or d.closed o false ≡ false)
    by true q f = absurd (true≢false (sym f ∙ e))
    by false q f = (q, sym f ∙ e)

-- what stands under a name was entered, or stood there before
entered-or : (A : Type 0) (ids : List NameId) (owner o i : ℕ) (ts us : List ((ℕ × ℕ) × Option TypeId)) (x : TypeId) (b : Bool) → (nat_eq owner o && is_id ids i) ≡ b → type_at us o i ≡ Some x →
    ((nat_eq owner o && is_id ids i) ≡ false → type_at us o i ≡ type_at ts o i) → (is_id ids i ≡ true → type_at us owner i ≡ Some x → A) → (type_at ts o i ≡ Some x → A) → A
entered-or A ids owner o i ts us x true e is kept new old =
    let both = and_parts (nat_eq owner o) (is_id ids i) e in
    new both.1 (ap (λ (k : ℕ). type_at us k i) (equal owner o both.0) ∙ is)
entered-or A ids owner o i ts us x false e is kept new old = old (sym (kept e) ∙ is)

-- ---- all together

owner-begun : (r : Run) (o : ℕ) → get_or r.closing.fourth.closed o false ≡ true → o < length (known r.new).table.owners
owner-begun r o k =
    let same : length (known r.new).table.owners ≡ length (known r.closing.one).table.owners = ap (λ (os : List Owner). length os) (r.closing.again.rows.same.owners ∙ owners-same r) in
    closed-begun r.before r.closing.fourth.closed r.owner o (length (known r.new).table.owners) (last-closed r) ((end-place r).there)
    (λ q. by (length (known r.new).table.owners) (length (known r.closing.one).table.owners) o same (r.begun.told.begun o q)) k
  where
    by : (m n i : ℕ) → m ≡ n → i < n → i < m
    by m n i e l = omega (arith, e, l)

-- what stands under other names stood there before
other-names : (r : Run) (o i : ℕ) → (nat_eq r.owner o && is_id r.closing.names.ids.items i) ≡ false → type_at r.closing.fourth.types o i ≡ type_at r.before.types o i
other-names r o i e = (last-entered r).others o i e ∙ (first-entered r).others o i e

owner-bare : (r : Run) (o i : ℕ) → get_or r.closing.fourth.closed o false ≡ false → type_at r.closing.fourth.types o i ≡ None
owner-bare r o i k =
    let no = not-closed r.before r.closing.fourth.closed r.owner o (last-closed r) k in
    other-names r o i (ap (λ (x : Bool). x && is_id r.closing.names.ids.items i) no.0) ∙ r.begun.told.bare o i no.1

names-there : (r : Run) (o i : ℕ) (x : TypeId) → type_at r.closing.fourth.types o i ≡ Some x → (i < length r.closing.three.names.texts) × (x.0 < length (known r.closing.three).table.shapes)
names-there r o i x q =
    let c = r.closing in
    entered-or ((i < length c.three.names.texts) × (x.0 < length (known c.three).table.shapes)) c.names.ids.items r.owner o i r.before.types c.fourth.types x
    (nat_eq r.owner o && is_id c.names.ids.items i) refl q (other-names r o i)
    (λ m s. says-there c.three r.block r.owner i c.names.required c.names.ids.items (names_in r) r.out (close_types r.place) x (last-place r) (last-names r).numbers m
    (subst (λ (y : Option TypeId). Says c.three r.block c.names.required i y) s ((last-entered r).entered i m)))
    (λ s.
    let v = r.begun.told.within o i x s in
    (subst (λ (texts : List (List ℕ)). i < length texts) (sym (texts-same r)) v.0, subst (λ (ss : List Shape). x.0 < length ss) (sym (shapes-same r)) v.1))

names-end : (r : Run) (o i : ℕ) (x : TypeId) → type_at r.closing.fourth.types o i ≡ Some x → (i < length r.new.names.texts) × (x.0 < length (known r.new).table.shapes)
names-end r o i x q =
    let w = names-there r o i x q in
    (subst (λ (t : Names). i < length t.texts) (sym r.closing.again.rows.same.names) w.0, subst (λ (ss : List Shape). x.0 < length ss) (sym r.closing.again.rows.same.shapes) w.1)

-- what is kept in the end
abbrev ended : Run → Told
ended r = record r.closing.fourth { told = length (known r.new).table.domains }

before-owned : (r : Run) (x : DomainId) → x.0 < r.closing.third.told → IsClosedOwner (ended r) (known r.closing.three).table (place_at (known r.closing.three).table x).owner
before-owned r x less =
    let there : x.0 < r.before.told = omega (arith, less, third-told r) in
    let o = r.begun.told.owned x there in (
      o.0,
      still-closed r.before r.closing.fourth.closed r.owner o.0 (last-closed r) o.1,
      ap (λ (os : List Owner). get_or os o.0 nobody) (owners-same r) ∙ o.2 ∙ sym (ap (λ (p : Place). p.owner) (places-same r x)),
    )

last-owned : (r : Run) (x : DomainId) → x.0 < length (known r.new).table.domains → IsClosedOwner (ended r) (known r.new).table (place_at (known r.new).table x).owner
last-owned r =
    let c = r.closing in
    rows-owned r.before (ended r) c.fourth.types c.third.told c.three r.new
    (subst (λ (cs : List Bool). TellsRows cs c.fourth.types c.third.told (length (known c.three).table.domains) c.three r.new) (sym c.again.closed) c.again.rows) (before-owned r)

ended-all : (r : Run) → IsAllTold r.targets (ended r) (known r.new)
ended-all r =
    let c = r.closing in
    finish r.targets (ended r) r.new
    (subst (λ (cs : List Bool). ClosedTell r.targets cs c.fourth.types r.new) (sym c.again.closed) (ClosedTell-kept r.targets c.third.closed c.fourth.types c.three r.new c.again.rows.same (last-tell r)))
    (owner-begun r) (owner-bare r) (names-end r) (last-owned r) (last-rows r) refl (subst (AreWhole (known r.new).table) (sym c.again.whole) (last-flags r))
    (ap (λ (bs : List Bool). length bs) c.again.whole ∙ first-count r ∙ ap (λ (ss : List Shape). length ss) (sym (shapes-end r))) c.again.order

-- once the types of a block are closed, all is told, and the tables stand for the place where they are
pub closing-all : (is_program : Bool) (block owner : ℕ) (list : Plain) (d e : Told) (a z : Tables) (T : Targets) (out : Outside) (l : Local) → Closing is_program block owner list d e a z →
    IsTold T d (known a) → IsPlace a block owner out l → AreApart (known a).table.owners → T nobody [] ≡ None → OnceEach l.known → OwnTypes list l →
    AllTypesCarried T (own_domains l.known) l.known → ((n : List ℕ) → T l.owner n ≡ block_targets is_program l n) → IsAllTold T e (known z) × IsPlace z block owner out (close_types l)
closing-all is_program block owner list d e a z T out l c told at apart none once own carries says =
    let r : Run = record {
      is_program = is_program;
      block = block;
      owner = owner;
      list = list;
      before = d;
      after = e;
      old = a;
      new = z;
      targets = T;
      out = out;
      place = l;
      closing = c;
      begun = record {
        told = told-moves T d a c.one c.named.keeps.grows c.named.keeps.domains told;
        place = IsPlace-kept a c.one block owner out l c.named.keeps at;
        apart = subst (λ (k : Kept). AreApart (seen k).owners) (sym c.named.types) apart;
        none = none;
        once = once;
        own = own;
        says = says;
        fresh = c.fresh;
      };
      carries = carries;
    } in
    (subst (λ (x : Told). IsAllTold T x (known z)) (sym c.ends) (ended-all r), end-place r)
