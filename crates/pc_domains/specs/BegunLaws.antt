-- What stands under names while the types of a block are closed: lemmas.
use Rattle.std.proofs.Common.{◌≡◌, ℕ, Bool, true, false, nat_eq, ◌&&◌, if◌then◌else◌, List, [], Option, Some, None, option_map, get_or, refl, ap, sym, ◌∙◌, subst, true≢false, arith}
use Rattle.std.proofs.lemmas.Bool.{false_from_ne_true}
use Rattle.std.proofs.lemmas.Bool.Decides.{nat_tests}
use Rattle.std.specs.Option.{option_and_then}
use Rattle.pc_syntax.specs.Plain.{Plain}
use Rattle.pc_types.specs.Shapes.{Owner, Shape}
use Rattle.pc_types.specs.Domains.{stands_in}
use Rattle.pc_types.specs.Table.{numbered, nobody}
use Rattle.pc_types.specs.declared.form.TypeId.{TypeId}
use Rattle.pc_rules.specs.ClosedTypes.{own_domains, close_types}
use Rattle.pc_rules.specs.Meanings.{Local, Outside}
use Rattle.pc_names.specs.Numbers.{number_of}
use Rattle.pc_sightings.specs.TouchedLog.{AreApart}
use Rattle.pc_pointers.specs.Good.{Targets}
use Rattle.pc_closed.specs.Settled.{with_types}
use Rattle.pc_places.specs.Places.{known, IsPlace}
use Rattle.pc_places.specs.declared.tables.Tables.{Tables}
use Rattle.pc_domains.specs.AroundLaws.{OwnTypes-closed, provisional-own, provisional-other, with-other}
use Rattle.pc_block_laws.specs.Block.{block_targets, OnceEach, OwnTypes, type_names}
use Rattle.pc_domains.specs.EnteredLaws.{bare-after, entered-says}
use Rattle.pc_domains.specs.FinishLaws.{ClosedTell}
use Rattle.pc_domains.specs.OwnLaws.{OnceEach-closed}
use Rattle.pc_domains.specs.Rows.{type_named}
use Rattle.pc_domains.specs.Told.{Told, type_at, IsTold}
use Rattle.pc_domains.specs.Types.{is_id, Enters, ShowsBlockNames}
use Rattle.pc_domains.specs.declared.naming.BlockNames.{BlockNames}

-- what is known where the types of a block come to be closed: the tables stand for its place, what is kept says what the targets do, and
-- the targets say what the block does once its types are closed
pub record Begun (is_program : Bool) (block owner : ℕ) (list : Plain) (T : Targets) (out : Outside) (l : Local) (t : Tables) (d : Told) : Type 0 where
  pub told : IsTold T d (known t)
  pub place : IsPlace t block owner out l
  pub apart : AreApart (known t).table.owners
  pub none : T nobody [] ≡ None
  pub once : OnceEach l.known
  pub own : OwnTypes list l
  pub says : (n : List ℕ) → T l.owner n ≡ block_targets is_program l n
  pub fresh : get_or d.closed owner false ≡ false

-- the owner is none of those before
other-owner : (d : Told) (owner o : ℕ) → get_or d.closed owner false ≡ false → get_or d.closed o false ≡ true → nat_eq owner o ≡ false
other-owner d owner o fresh c = false_from_ne_true (nat_eq owner o) (λ e.
    let same : owner ≡ o = by e in
    true≢false (sym c ∙ ap (λ (k : ℕ). get_or d.closed k false) (sym same) ∙ fresh))
  where
    by : nat_eq owner o ≡ true → owner ≡ o
    by e = grind (arith, nat_tests)

-- none of the block's types stands under the names of another owner
pub elsewhere : (is_program : Bool) (block owner : ℕ) (list : Plain) (T : Targets) (out : Outside) (l : Local) (t : Tables) (d : Told) → Begun is_program block owner list T out l t d →
    (o : ℕ) (n : List ℕ) → get_or d.closed o false ≡ true → stands_in (own_domains l.known) (get_or (known t).table.owners o nobody) n ≡ false
elsewhere is_program block owner list T out l t d b o n c =
    provisional-other list T l (known t).table.owners o owner n b.once b.own b.apart b.place.owner_is b.place.there (b.told.begun o c) (other-owner d owner o b.fresh c)

-- ---- what targets say of closed owners

named-same : (ts us : List ((ℕ × ℕ) × Option TypeId)) (names : List (List ℕ)) (o : ℕ) (n : List ℕ) → ((i : ℕ) → type_at us o i ≡ type_at ts o i) → type_named us names o n ≡ type_named ts names o n
named-same ts us names o n h = by (number_of names n)
  where
    by : (p : Option ℕ) → option_and_then (λ i. type_at us o i) p ≡ option_and_then (λ i. type_at ts o i) p
    by None = refl
    by (Some i) = h i

-- with one owner more, whose names were entered
closed-tell : (V : Targets) (d : Told) (cs : List Bool) (us : List ((ℕ × ℕ) × Option TypeId)) (owner : ℕ) (t : Tables) →
    ((o : ℕ) → get_or cs o false ≡ (if nat_eq owner o then true else get_or d.closed o false)) →
    ((o i : ℕ) → nat_eq owner o ≡ false → type_at us o i ≡ type_at d.types o i) →
    ((n : List ℕ) → V (get_or (known t).table.owners owner nobody) n ≡ option_map (numbered (known t).table.shapes) (type_named us t.names.texts owner n)) →
    ((o : ℕ) → get_or d.closed o false ≡ true → (n : List ℕ) →
    V (get_or (known t).table.owners o nobody) n ≡ option_map (numbered (known t).table.shapes) (type_named d.types t.names.texts o n)) → ClosedTell V cs us t
closed-tell V d cs us owner t closed kept here there o c n = by (nat_eq owner o) refl
  where
    equal : nat_eq owner o ≡ true → owner ≡ o
    equal e = grind (arith, nat_tests)

    by : (b : Bool) → nat_eq owner o ≡ b → V (get_or (known t).table.owners o nobody) n ≡ option_map (numbered (known t).table.shapes) (type_named us t.names.texts o n)
    by true e =
        subst (λ (k : ℕ). V (get_or (known t).table.owners k nobody) n ≡ option_map (numbered (known t).table.shapes) (type_named us t.names.texts k n)) (equal e) (here n)
    by false e =
        let before : get_or d.closed o false ≡ true = sym (closed o ∙ ap (λ (b : Bool). if b then true else get_or d.closed o false) e) ∙ c in
        there o before n ∙ ap (option_map (numbered (known t).table.shapes)) (sym (named-same d.types us t.names.texts o n (λ i. kept o i e)))

-- the types that were entered first stand for the block as it is
pub tell-first : (is_program : Bool) (block owner : ℕ) (list : Plain) (T : Targets) (out : Outside) (l : Local) (t : Tables) (d : Told) (cs : List Bool) (names : BlockNames)
    (us : List ((ℕ × ℕ) × Option TypeId)) → Begun is_program block owner list T out l t d →
    ((o : ℕ) → get_or cs o false ≡ (if nat_eq owner o then true else get_or d.closed o false)) → ShowsBlockNames t.names.texts is_program (type_names list.kids) names →
    Enters t block owner names.required names.ids.items d.types us → ClosedTell (with_types (own_domains l.known) T) cs us t
tell-first is_program block owner list T out l t d cs names us b closed shows enters =
    let own = own_domains l.known in
    closed-tell (with_types own T) d cs us owner t closed (λ o i e. enters.others o i (ap (λ (x : Bool). x && is_id names.ids.items i) e))
    (λ n. ap (λ (o : Owner). with_types own T o n) b.place.owner_is ∙ provisional-own list is_program T l n b.once b.own b.says
    ∙ sym (entered-says list is_program t block owner names.required names.ids.items d.types us out l b.place b.once b.own shows.required shows.numbers (λ i e. b.told.bare owner i b.fresh) enters n))
    (λ o c n. with-other T own (get_or (known t).table.owners o nobody) n (elsewhere is_program block owner list T out l t d b o n c) ∙ b.told.closed o c n)

-- those that were entered last stand for the block with its types closed
pub tell-last : (is_program : Bool) (block owner : ℕ) (list : Plain) (T : Targets) (out : Outside) (l : Local) (t z : Tables) (d : Told) (cs : List Bool) (names : BlockNames)
    (us vs : List ((ℕ × ℕ) × Option TypeId)) → Begun is_program block owner list T out l t d →
    ((o : ℕ) → get_or cs o false ≡ (if nat_eq owner o then true else get_or d.closed o false)) → ShowsBlockNames z.names.texts is_program (type_names list.kids) names →
    Enters t block owner names.required names.ids.items d.types us → Enters z block owner names.required names.ids.items us vs → IsPlace z block owner out (close_types l) →
    (known z).table.owners ≡ (known t).table.owners → (known z).table.shapes ≡ (known t).table.shapes → z.names.texts ≡ t.names.texts → ClosedTell T cs vs z
tell-last is_program block owner list T out l t z d cs names us vs b closed shows first last at owners shapes texts =
    closed-tell T d cs vs owner z closed (λ o i e. last.others o i (ap (λ (x : Bool). x && is_id names.ids.items i) e) ∙ first.others o i (ap (λ (x : Bool). x && is_id names.ids.items i) e))
    (λ n. ap (λ (o : Owner). T o n) at.owner_is ∙ b.says n
    ∙ sym (entered-says list is_program z block owner names.required names.ids.items us vs out (close_types l) at (OnceEach-closed l b.once) (OwnTypes-closed list l b.own) shows.required shows.numbers
    (bare-after t block owner names.required names.ids.items d.types us first (λ i e. b.told.bare owner i b.fresh)) last n))
    (λ o c n. ap (λ (os : List Owner). T (get_or os o nobody) n) owners ∙ b.told.closed o c n
    ∙ ap (λ (ss : List Shape). option_map (numbered ss) (type_named d.types t.names.texts o n)) (sym shapes)
    ∙ ap (λ (ns : List (List ℕ)). option_map (numbered (known z).table.shapes) (type_named d.types ns o n)) (sym texts))
