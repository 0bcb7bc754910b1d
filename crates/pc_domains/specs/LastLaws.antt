-- What is known of a block whose types are entered once they are closed: lemmas.
use Rattle.std.proofs.Common.{◌≡◌, ℕ, ◌<◌, ◌≤◌, Bool, true, false, nat_eq, if◌then◌else◌, List, [], get_or, length, refl, ap, sym, ◌∙◌, subst, arith}
use Rattle.pc_types.specs.Shapes.{Domain}
use Rattle.pc_types.specs.Rows.{Kept, seen}
use Rattle.pc_types.specs.Table.{Place, place_at, domain_at}
use Rattle.pc_types.specs.declared.form.DomainId.{DomainId}
use Rattle.pc_rules.specs.ClosedTypes.{close_types}
use Rattle.pc_names.specs.Table.{Table as Names}
use Rattle.pc_closing.specs.Whole.{is_whole_in, AreWhole}
use Rattle.pc_closing.specs.Truth.{TellRows}
use Rattle.pc_closing.specs.ForgetLaws.{forgets-flags}
use Rattle.pc_closing.specs.ToldLaws.{truth-found}
use Rattle.pc_places.specs.Places.{known, IsPlace}
use Rattle.pc_domains.specs.BegunLaws.{tell-last}
use Rattle.pc_block_laws.specs.Block.{type_names}
use Rattle.pc_domains.specs.EndingLaws.{targets-forget, rows-forget}
use Rattle.pc_domains.specs.FinishLaws.{ClosedTell, rows-tell}
use Rattle.pc_domains.specs.RetargetedLaws.{IsPlace-retargeted, place-kept, length-kept}
use Rattle.pc_domains.specs.SiftedLaws.{sifted-closed}
use Rattle.pc_domains.specs.Sifting.{AreSettled}
use Rattle.pc_domains.specs.Types.{AreNumbers, required_names, Enters, ShowsBlockNames}
use Rattle.pc_domains.specs.FirstLaws.{Run, truth, names_in, first-entered, first-rows, first-found, first-flags, first-count, first-place, passes}

-- ---- the block, with its types closed

pub last-place : (r : Run) → IsPlace r.closing.three r.block r.owner r.out (close_types r.place)
last-place r =
    let c = r.closing in
    let numbers : AreNumbers c.two.names.texts c.names.ids.items (names_in r) = subst (λ (t : Names). AreNumbers t.texts c.names.ids.items (names_in r)) (sym c.enters.rows.same.names) c.shows.numbers in
    let settled : AreSettled (seen c.two.types) c.third.whole = record { right = first-flags r; all = no-less (length c.third.whole) (length (known c.two).table.shapes) (first-count r) } in
    sifted-closed (is_whole_in (seen c.two.types).domains) r.list (if r.is_program then required_names else []) c.three r.block r.owner r.out r.place r.begun.own (passes r)
    (c.sifts.sifts settled r.owner r.out r.place (names_in r) numbers (first-place r))
  where
    no-less : (m n : ℕ) → m ≡ n → n ≤ m
    no-less m n e = omega (arith, e)

pub end-place : (r : Run) → IsPlace r.new r.block r.owner r.out (close_types r.place)
end-place r = IsPlace-retargeted r.closing.three r.new r.block r.owner r.out (close_types r.place) r.closing.again.rows.same (last-place r)

-- ---- what stands under names then

pub owners-same : (r : Run) → (known r.closing.three).table.owners ≡ (known r.closing.one).table.owners
owners-same r = ap (λ (k : Kept). (seen k).owners) r.closing.sifts.types ∙ r.closing.enters.rows.same.owners

pub shapes-same : (r : Run) → (known r.closing.three).table.shapes ≡ (known r.closing.one).table.shapes
shapes-same r = ap (λ (k : Kept). (seen k).shapes) r.closing.sifts.types ∙ r.closing.enters.rows.same.shapes

pub texts-same : (r : Run) → r.closing.three.names.texts ≡ r.closing.one.names.texts
texts-same r = r.closing.sifts.texts ∙ ap (λ (t : Names). t.texts) r.closing.enters.rows.same.names

pub places-same : (r : Run) (x : DomainId) → place_at (known r.closing.three).table x ≡ place_at (known r.closing.one).table x
places-same r x = ap (λ (k : Kept). place_at (seen k) x) r.closing.sifts.types ∙ place-kept r.closing.one r.closing.two x r.closing.enters.rows.same

pub last-names : (r : Run) → ShowsBlockNames r.closing.three.names.texts r.is_program (type_names r.list.kids) r.closing.names
last-names r = subst (λ (texts : List (List ℕ)). ShowsBlockNames texts r.is_program (type_names r.list.kids) r.closing.names) (sym (texts-same r)) r.closing.shows

pub last-entered : (r : Run) → Enters r.closing.three r.block r.owner r.closing.names.required r.closing.names.ids.items r.closing.second.types r.closing.fourth.types
last-entered r =
    let c = r.closing in
    subst (λ ts. Enters c.three r.block r.owner c.names.required c.names.ids.items ts c.fourth.types) c.settles.types c.again.enters

-- whose types are closed
pub third-closed : (r : Run) (o : ℕ) → get_or r.closing.third.closed o false ≡ (if nat_eq r.owner o then true else get_or r.before.closed o false)
third-closed r o = ap (λ (cs : List Bool). get_or cs o false) (r.closing.settles.closed ∙ r.closing.enters.closed) ∙ r.closing.begins.closed o

pub last-closed : (r : Run) (o : ℕ) → get_or r.closing.fourth.closed o false ≡ (if nat_eq r.owner o then true else get_or r.before.closed o false)
last-closed r o = ap (λ (cs : List Bool). get_or cs o false) r.closing.again.closed ∙ third-closed r o

pub third-told : (r : Run) → r.closing.third.told ≡ r.before.told
third-told r = r.closing.settles.told ∙ r.closing.enters.told ∙ r.closing.begins.told

pub last-tell : (r : Run) → ClosedTell r.targets r.closing.third.closed r.closing.fourth.types r.closing.three
last-tell r =
    let c = r.closing in
    tell-last r.is_program r.block r.owner r.list r.targets r.out r.place c.one c.three r.before c.third.closed c.names c.second.types c.fourth.types r.begun (third-closed r) (last-names r)
    (first-entered r) (last-entered r) (last-place r) (owners-same r) (shapes-same r) (texts-same r)

-- ---- the domains then

pub before-rows : (r : Run) (x : DomainId) → x.0 < r.closing.third.told →
    r.targets (place_at (known r.closing.three).table x).owner (place_at (known r.closing.three).table x).name ≡ (domain_at (known r.closing.three).table x).shape
before-rows r x less =
    let c = r.closing in
    let there : x.0 < r.before.told = omega (arith, less, third-told r) in
    let earlier : x.0 < c.first.told = omega (arith, there, c.begins.told) in
    ap (λ (p : Place). r.targets p.owner p.name) (places-same r x) ∙ r.begun.told.rows x there
    ∙ sym (ap (λ (k : Kept). (domain_at (seen k) x).shape) c.sifts.types ∙ ap (λ (w : Domain). w.shape) (c.enters.rows.before x earlier))

pub last-rows : (r : Run) → TellRows r.targets (known r.new).table (length (known r.new).table.domains)
last-rows r =
    rows-tell r.targets r.closing.third.closed r.closing.fourth.types r.closing.third.told r.closing.three r.new r.closing.again.rows (last-tell r) (before-rows r)

pub shapes-end : (r : Run) → (known r.new).table.shapes ≡ (known r.closing.two).table.shapes
shapes-end r = r.closing.again.rows.same.shapes ∙ ap (λ (k : Kept). (seen k).shapes) r.closing.sifts.types

pub last-flags : (r : Run) → AreWhole (known r.new).table r.closing.third.whole
last-flags r =
    let c = r.closing in
    let p = is_whole_in (seen c.two.types).domains in
    forgets-flags (known c.two).table (known r.new).table c.third.whole (shapes-end r)
    (rows-forget p (truth r) r.targets (known c.two).table (known r.new).table refl
    (targets-forget r.is_program r.list r.targets p r.place r.begun.once r.begun.own r.begun.says (passes r))
    (λ x. place-kept c.three r.new x c.again.rows.same ∙ ap (λ (k : Kept). place_at (seen k) x) c.sifts.types)
    (length-kept c.three r.new c.again.rows.same ∙ ap (λ (k : Kept). length (seen k).domains) c.sifts.types)
    (first-rows r) (last-rows r))
    (first-found r) (truth-found r.targets (known r.new).table (last-rows r) r.begun.none) (first-flags r)
