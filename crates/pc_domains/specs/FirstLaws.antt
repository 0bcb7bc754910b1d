-- What is known of a block whose types are entered as they are: lemmas.
use Rattle.std.proofs.Common.{◌≡◌, ℕ, ◌<◌, ◌≤◌, Bool, true, false, if◌then◌else◌, List, [], ◌++◌, Some, None, length, refl, ap, sym, ◌∙◌, subst, arith}
use Rattle.std.proofs.lemmas.Bool.{false_from_ne_true}
use Rattle.pc_syntax.specs.Plain.{Plain}
use Rattle.pc_types.specs.Shapes.{Owner, Shape}
use Rattle.pc_types.specs.Domains.{stands_in}
use Rattle.pc_types.specs.Rows.{seen}
use Rattle.pc_types.specs.Table.{nobody, place_at, domain_at}
use Rattle.pc_types.specs.declared.form.DomainId.{DomainId}
use Rattle.pc_rules.specs.ClosedTypes.{own_domains, carried}
use Rattle.pc_rules.specs.Meanings.{Meaning, Local, Outside, entry_of}
use Rattle.pc_rules.specs.NameClasses.{is_type_class}
use Rattle.pc_pointers.specs.Good.{Targets}
use Rattle.pc_closed.specs.Carried.{AllTypesCarried}
use Rattle.pc_closed.specs.Settled.{with_types}
use Rattle.pc_closing.specs.Whole.{is_whole_in, AreFound, AreWhole}
use Rattle.pc_closing.specs.Truth.{TellRows}
use Rattle.pc_closing.specs.ToldLaws.{truth-found}
use Rattle.pc_places.specs.Places.{known, IsPlace}
use Rattle.pc_places.specs.declared.tables.Tables.{Tables}
use Rattle.pc_domains.specs.AroundLaws.{with-other}
use Rattle.pc_domains.specs.BegunLaws.{Begun, elsewhere, tell-first}
use Rattle.pc_block_laws.specs.Block.{type_names}
use Rattle.pc_domains.specs.BlockLaws.{among-front, among-number}
use Rattle.pc_domains.specs.Closing.{Closing}
use Rattle.pc_domains.specs.EndingLaws.{closes-by}
use Rattle.pc_domains.specs.FinishLaws.{rows-tell, larger, flags-after}
use Rattle.pc_domains.specs.OwnLaws.{own-tells}
use Rattle.pc_domains.specs.RetargetedLaws.{IsPlace-retargeted}
use Rattle.pc_domains.specs.SiftedLaws.{ClosesBy}
use Rattle.pc_domains.specs.Told.{Told}
use Rattle.pc_domains.specs.Types.{entered_names, required_names, Enters}

-- ---- what was done, and for which block

-- the types of a block were closed, and all was told before
pub record Run : Type 0 where
  pub is_program : Bool
  pub block : ℕ
  pub owner : ℕ
  pub list : Plain
  pub before : Told
  pub after : Told
  pub old : Tables
  pub new : Tables
  pub targets : Targets
  pub out : Outside
  pub place : Local
  pub closing : Closing is_program block owner list before after old new
  pub begun : Begun is_program block owner list targets out place closing.one before
  pub carries : AllTypesCarried targets (own_domains place.known) place.known

-- the targets before the type part is closed
abbrev pub truth : Run → Targets
truth r = with_types (own_domains r.place.known) r.targets

-- the names that were entered
abbrev pub names_in : Run → List (List ℕ)
names_in r = entered_names r.is_program (type_names r.list.kids)

-- ---- the domains, before the type part is closed

-- the block's types were entered first
pub first-entered : (r : Run) → Enters r.closing.one r.block r.owner r.closing.names.required r.closing.names.ids.items r.before.types r.closing.second.types
first-entered r =
    let c = r.closing in
    subst (λ ts. Enters c.one r.block r.owner c.names.required c.names.ids.items ts c.second.types) c.begins.types c.enters.enters

-- nothing stands at the place of no domain
pub first-none : (r : Run) → truth r nobody [] ≡ None
first-none r =
    let own = own_domains r.place.known in
    with-other r.targets own nobody [] (false_from_ne_true (stands_in own nobody []) (λ s. not-there r s)) ∙ r.begun.none
  where
    not-there : (q : Run) → stands_in (own_domains q.place.known) nobody [] ≡ true → ⊥
    not-there q s =
        let b = q.begun in
        let h = own-tells q.place.known nobody [] b.once s in
        let among = among-front (type_names q.list.kids) (if q.is_program then required_names else []) [] ((b.own [] h.meaning h.is h.class).1) in
        (among-number q.closing.one.names.texts q.closing.names.ids.items (names_in q) [] q.closing.shows.numbers among).full refl

-- each domain is told what the block says first
pub first-rows : (r : Run) → TellRows (truth r) (known r.closing.two).table (length (known r.closing.two).table.domains)
first-rows r =
    let c = r.closing in
    rows-tell (truth r) c.first.closed c.second.types c.first.told c.one c.two c.enters.rows
    (tell-first r.is_program r.block r.owner r.list r.targets r.out r.place c.one r.before c.first.closed c.names c.second.types r.begun c.begins.closed c.shows (first-entered r))
    (λ x less. at r x less)
  where
    at : (q : Run) (x : DomainId) → x.0 < q.closing.first.told →
        truth q (place_at (known q.closing.one).table x).owner (place_at (known q.closing.one).table x).name ≡ (domain_at (known q.closing.one).table x).shape
    at q x less =
        let own = own_domains q.place.known in
        let there : x.0 < q.before.told = omega (arith, less, q.closing.begins.told) in
        let o = q.begun.told.owned x there in
        let place = place_at (known q.closing.one).table x in
        let apart : stands_in own place.owner place.name ≡ false =
        subst (λ (w : Owner). stands_in own w place.name ≡ false) o.2
        (elsewhere q.is_program q.block q.owner q.list q.targets q.out q.place q.closing.one q.before q.begun o.0 place.name o.1) in
        with-other q.targets own place.owner place.name apart ∙ q.begun.told.rows x there

pub first-found : (r : Run) → AreFound (known r.closing.two).table
first-found r = truth-found (truth r) (known r.closing.two).table (first-rows r) (first-none r)

-- the flags are right, and there are enough of them
pub first-flags : (r : Run) → AreWhole (known r.closing.two).table r.closing.third.whole
first-flags r =
    let c = r.closing in
    let before = flags-after r.before c.first.closed c.second.types c.first.told (length (known c.one).table.domains) c.one c.two c.enters.rows (no-more c.first.told r.before.told c.begins.told) r.begun.told.settled in
    c.settles.right (subst (AreWhole (known c.two).table) (sym (c.enters.whole ∙ c.begins.whole)) before) (first-found r)
  where
    no-more : (m n : ℕ) → m ≡ n → n ≤ m
    no-more m n e = omega (arith, e)

pub first-count : (r : Run) → length r.closing.third.whole ≡ length (known r.closing.two).table.shapes
first-count r =
    let c = r.closing in
    let whole : length c.second.whole ≡ length r.before.whole = ap (λ (bs : List Bool). length bs) (c.enters.whole ∙ c.begins.whole) in
    let shapes : length (known c.two).table.shapes ≡ length (known c.one).table.shapes = ap (λ (ss : List Shape). length ss) c.enters.rows.same.shapes in
    c.settles.count ∙ larger (length c.second.whole) (length (known c.two).table.shapes) (fewer (length c.second.whole) (length r.before.whole) (length (known c.two).table.shapes) (length (known c.one).table.shapes) whole shapes r.begun.told.flagged)
  where
    fewer : (a b m n : ℕ) → a ≡ b → m ≡ n → b ≤ n → a ≤ m
    fewer a b m n e f h = omega (arith, e, f, h)

-- ---- the block, with its types closed

pub first-place : (r : Run) → IsPlace r.closing.two r.block r.owner r.out r.place
first-place r = IsPlace-retargeted r.closing.one r.closing.two r.block r.owner r.out r.place r.closing.enters.rows.same r.begun.place

-- a type passes exactly where it is closed
pub passes : (r : Run) (n : List ℕ) (m : Meaning) → entry_of r.place.known n ≡ Some m → is_type_class m.class ≡ true →
    ClosesBy (is_whole_in (seen r.closing.two.types).domains) (own_domains r.place.known ++ carried r.place.known) m.type
passes r = closes-by r.list (truth r) r.targets r.closing.two r.block r.owner r.out r.place refl (first-place r) r.carries r.closing.enters.order (first-rows r)
