-- What holds of a block whose types are closed, of its names alone: lemmas.
use Rattle.std.proofs.Common.{◌≡◌, ℕ, ◌<◌, Bool, true, false, nat_eq, if◌then◌else◌, List, ◌++◌, Option, Some, None, option_map, get_or, length, refl, ap, sym, ◌∙◌, true≢false}
use Rattle.std.proofs.lemmas.Bool.{false_from_ne_true}
use Rattle.std.proofs.lemmas.Option.{none-some, same_Some}
use Rattle.std.specs.Option.{is_some}
use Rattle.pc_syntax.specs.Plain.{Plain}
use Rattle.pc_types.specs.Sameness.{same_owner}
use Rattle.pc_types.specs.Shapes.{Owner, Domain}
use Rattle.pc_types.specs.Domains.{domain_in, stands_in}
use Rattle.pc_types.specs.Table.{nobody}
use Rattle.pc_rules.specs.ClosedTypes.{own_domains, carried, close_types}
use Rattle.pc_rules.specs.Meanings.{Meaning, Local, entry_of}
use Rattle.pc_rules.specs.NameClasses.{is_type_class}
use Rattle.pc_rules.specs.RequiredMeanings.{required_type}
use Rattle.pc_names.specs.StandingChanges.{closed_meaning}
use Rattle.pc_sightings.specs.TouchedLog.{AreApart}
use Rattle.pc_facts.specs.Shows.{shape_of}
use Rattle.pc_pointers.specs.Good.{Targets}
use Rattle.pc_closed.specs.PlaceLaws.{same_owner-self, domain-none}
use Rattle.pc_closed.specs.Settled.{with_types}
use Rattle.pc_closing.specs.Whole.{closed_shape}
use Rattle.pc_block_laws.specs.Block.{block_says, block_targets, OnceEach, OwnTypes}
use Rattle.pc_domains.specs.OwnLaws.{own-tells, own-there, own-none, closed-entry, OnceEach-closed, closed-class, closed-owner, closed-type}

-- a meaning behind the type part is one of before, closed
record IsClosed (l : Local) (n : List ℕ) (m : Meaning) : Type 0 where
  before : Meaning
  is : entry_of l.known n ≡ Some before
  closed : closed_meaning (own_domains l.known ++ carried l.known) before ≡ m

closed-from : (l : Local) (n : List ℕ) (m : Meaning) → entry_of (close_types l).known n ≡ Some m → IsClosed l n m
closed-from l n m e = by (entry_of l.known n) refl (sym (closed-entry (own_domains l.known ++ carried l.known) l.known n) ∙ e)
  where
    by : (o : Option Meaning) → entry_of l.known n ≡ o → option_map (closed_meaning (own_domains l.known ++ carried l.known)) o ≡ Some m → IsClosed l n m
    by None q f = absurd (none-some m f)
    by (Some b) q f = record { before = b; is = q; closed = same_Some (closed_meaning (own_domains l.known ++ carried l.known) b) m f }

closed-typed : (l : Local) (n : List ℕ) (m : Meaning) (h : IsClosed l n m) → is_type_class m.class ≡ true → is_type_class h.before.class ≡ true
closed-typed l n m h c =
    ap is_type_class (sym (closed-class (own_domains l.known ++ carried l.known) h.before)) ∙ ap (λ (x : Meaning). is_type_class x.class) h.closed ∙ c

-- the types of the block stay its own
pub OwnTypes-closed : (list : Plain) (l : Local) → OwnTypes list l → OwnTypes list (close_types l)
OwnTypes-closed list l own n m e c =
    let h = closed-from l n m e in
    let mine = own n h.before h.is (closed-typed l n m h c) in
    (sym (ap (λ (x : Meaning). x.owner) h.closed) ∙ closed-owner (own_domains l.known ++ carried l.known) h.before ∙ mine.0, mine.1, mine.2)

-- under the name of one of its types the targets have that type closed
pub closed-there : (list : Plain) (l : Local) (n : List ℕ) (m : Meaning) → OwnTypes list l → entry_of l.known n ≡ Some m → is_type_class m.class ≡ true →
    domain_in (own_domains (close_types l).known) l.owner n ≡ closed_shape (own_domains l.known ++ carried l.known) (shape_of m.type)
closed-there list l n m own e c =
    let all = own_domains l.known ++ carried l.known in
    let closed = closed_meaning all m in
    let entry : entry_of (close_types l).known n ≡ Some closed = closed-entry all l.known n ∙ ap (option_map (closed_meaning all)) e in
    let there = own-there (close_types l).known n closed entry (ap is_type_class (closed-class all m) ∙ c) in
    ap (λ (o : Owner). domain_in (own_domains (close_types l).known) o n) (sym ((own n m e c).0) ∙ sym (closed-owner all m)) ∙ there.shape ∙ ap shape_of (closed-type all m c)

-- under another name nothing stands, before and behind the type part
pub none-closed : (list : Plain) (l : Local) (n : List ℕ) → OnceEach l.known → OwnTypes list l → stands_in (own_domains l.known) l.owner n ≡ false →
    domain_in (own_domains (close_types l).known) l.owner n ≡ None
none-closed list l n once own apart = own-none (close_types l).known l.owner n (OnceEach-closed l once) (λ m e c.
    let h = closed-from l n m e in
    let typed = closed-typed l n m h c in
    let there = own-there l.known n h.before h.is typed in
    true≢false (sym there.stands ∙ ap (λ (o : Owner). stands_in (own_domains l.known) o n) ((own n h.before h.is typed).0) ∙ apart))

-- ---- the targets before the type part is closed

-- at a name of the block they are what the block says
pub provisional-own : (list : Plain) (is_program : Bool) (targets : Targets) (l : Local) (n : List ℕ) → OnceEach l.known → OwnTypes list l →
    ((q : List ℕ) → targets l.owner q ≡ block_targets is_program l q) → with_types (own_domains l.known) targets l.owner n ≡ block_says is_program l n
provisional-own list is_program targets l n once own says = by (stands_in (own_domains l.known) l.owner n) refl
  where
    other : (b : Bool) → (domain_in (own_domains (close_types l).known) l.owner n ≡ domain_in (own_domains l.known) l.owner n) →
        (if b then domain_in (own_domains (close_types l).known) l.owner n else (if is_program then required_type n else None)) ≡
        (if b then domain_in (own_domains l.known) l.owner n else (if is_program then required_type n else None))
    other true e = e
    other false e = refl

    by : (b : Bool) → stands_in (own_domains l.known) l.owner n ≡ b → (if b then domain_in (own_domains l.known) l.owner n else targets l.owner n) ≡ block_says is_program l n
    by true s =
        let h = own-tells l.known l.owner n once s in
        sym (ap (λ (b : Bool). if b then domain_in (own_domains l.known) l.owner n else (if is_program then required_type n else None)) ((own n h.meaning h.is h.class).2))
    by false s =
        says n ∙ other (is_some (entry_of l.names n)) (none-closed list l n once own s ∙ sym (domain-none (own_domains l.known) l.owner n s))

-- under another owner they are the targets
pub provisional-other : (list : Plain) (targets : Targets) (l : Local) (owners : List Owner) (o owner : ℕ) (n : List ℕ) → OnceEach l.known → OwnTypes list l → AreApart owners →
    get_or owners owner nobody ≡ l.owner → owner < length owners → o < length owners → nat_eq owner o ≡ false →
    stands_in (own_domains l.known) (get_or owners o nobody) n ≡ false
provisional-other list targets l owners o owner n once own apart is there begun differ =
    false_from_ne_true (stands_in (own_domains l.known) (get_or owners o nobody) n) (λ s.
    let h = own-tells l.known (get_or owners o nobody) n once s in
    let mine : l.owner ≡ get_or owners o nobody = sym ((own n h.meaning h.is h.class).0) ∙ h.owner in
    let same : same_owner (get_or owners owner nobody) (get_or owners o nobody) ≡ true =
    ap (λ (w : Owner). same_owner w (get_or owners o nobody)) (is ∙ mine) ∙ same_owner-self (get_or owners o nobody) in
    true≢false (sym same ∙ apart owner o there begun ∙ differ))

pub with-other : (targets : Targets) (own : List Domain) (o : Owner) (n : List ℕ) → stands_in own o n ≡ false → with_types own targets o n ≡ targets o n
with-other targets own o n e = ap (λ (b : Bool). if b then domain_in own o n else targets o n) e
