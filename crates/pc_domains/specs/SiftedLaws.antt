-- Sifted by what is whole, the types of a block are those behind its type part: lemmas.
use Rattle.std.proofs.Common.{◌≡◌, ℕ, Bool, true, false, if◌then◌else◌, List, ◌++◌, Option, Some, None, option_map, refl, ap, sym, ◌∙◌, subst}
use Rattle.std.proofs.lemmas.Option.{none-some, same_Some}
use Rattle.std.specs.Option.{ForSome}
use Rattle.pc_syntax.specs.Plain.{Plain}
use Rattle.pc_syntax.specs.Words.{is_among}
use Rattle.pc_types.specs.Shapes.{Shape, Domain, Typed}
use Rattle.pc_types.specs.Domains.{closed}
use Rattle.pc_types.specs.Table.{Table, shape_at, IsThere}
use Rattle.pc_types.specs.declared.operand.Operand.{Operand}
use Rattle.pc_rules.specs.ClosedTypes.{own_domains, carried, close_types}
use Rattle.pc_rules.specs.Meanings.{Meaning, Local, Outside, entry_of}
use Rattle.pc_rules.specs.NameClasses.{is_type_class}
use Rattle.pc_names.specs.Standing.{IsKnown}
use Rattle.pc_names.specs.StandingChanges.{StandsFor-retold, closed_meaning}
use Rattle.pc_names.specs.Table.{slot_named}
use Rattle.pc_names.specs.declared.id.DeclarationId.{DeclarationId}
use Rattle.pc_facts.specs.Known.{Known}
use Rattle.pc_facts.specs.Shows.{shape_of}
use Rattle.pc_facts.specs.declared.sighting.Declared.{Declared}
use Rattle.pc_closing.specs.Whole.{closed_shape}
use Rattle.pc_places.specs.MovesLaws.{Moves-same, IsPlace-own}
use Rattle.pc_places.specs.Places.{known, IsPlace}
use Rattle.pc_places.specs.Scenes.{ShowsUnsigned}
use Rattle.pc_places.specs.declared.tables.Tables.{Tables}
use Rattle.pc_block_laws.specs.Block.{OwnTypes, type_names}
use Rattle.pc_domains.specs.BlockLaws.{among-front}
use Rattle.pc_domains.specs.OwnLaws.{closed-entry}
use Rattle.pc_domains.specs.Sifting.{sifted_type, sifted_if, StandsSifted}

-- a declaration shows a meaning with another type of the same shape
retyped : (k : Known) (ds : List Declared) (d : ℕ) (m : Meaning) (a b : Option Typed) → shape_of a ≡ shape_of b → ShowsUnsigned k ds d (record m { type = a }) → ShowsUnsigned k ds d (record m { type = b })
retyped k ds d m a b e h = record {
  declared = h.declared;
  is = h.is;
  name = h.name;
  shows = record {
    shows = record {
      class = h.shows.shows.class;
      owner = h.shows.shows.owner;
      owner_there = h.shows.shows.owner_there;
      name = h.shows.shows.name;
      value = h.shows.shows.value;
      type = record { shape = h.shows.shows.type.shape ∙ e; there = h.shows.shows.type.there };
      signature = h.shows.shows.signature;
    };
    bare = h.shows.bare;
    plain = h.shows.plain;
  };
}

-- a type is closed exactly where it passes
abbrev pub ClosesBy : (Shape → Bool) → List Domain → Option Typed → Type 0
ClosesBy p all t = shape_of (sifted_type p t) ≡ closed_shape all (shape_of t)

closed-shows : (p : Shape → Bool) (all : List Domain) (k : Known) (ds : List Declared) (d : ℕ) (m : Meaning) (b : Bool) → (is_type_class m.class ≡ true → (b ≡ true) × ClosesBy p all m.type) →
    ShowsUnsigned k ds d (sifted_if p b m) → ShowsUnsigned k ds d (closed_meaning all m)
closed-shows p all k ds d m b f h = by (is_type_class m.class) refl
  where
    by : (c : Bool) → is_type_class m.class ≡ c → ShowsUnsigned k ds d (if c then record m { type = closed all (option_map (λ (t : Typed). t.shape) m.type) } else m)
    by true c =
        let g = f c in
        let sifted_now : sifted_if p b m ≡ record m { type = sifted_type p m.type } =
        ap (λ (x : Bool). sifted_if p x m) g.0 ∙ ap (λ (x : Bool). if x then record m { type = sifted_type p m.type } else m) c in
        retyped k ds d m (sifted_type p m.type) (closed all (option_map (λ (t : Typed). t.shape) m.type)) g.1 (subst (ShowsUnsigned k ds d) sifted_now h)
    by false c = subst (ShowsUnsigned k ds d) (plain b) h
      where
        plain : (x : Bool) → sifted_if p x m ≡ m
        plain true = ap (λ (y : Bool). if y then record m { type = sifted_type p m.type } else m) c
        plain false = refl

known-closed : (p : Shape → Bool) (all : List Domain) (k : Known) (ds : List Declared) (o : Option DeclarationId) (e : Option Meaning) (b : Bool) →
    ((m : Meaning) → e ≡ Some m → is_type_class m.class ≡ true → (b ≡ true) × ClosesBy p all m.type) → IsKnown (ShowsUnsigned k ds) o (option_map (sifted_if p b) e) →
    IsKnown (ShowsUnsigned k ds) o (option_map (closed_meaning all) e)
known-closed p all k ds None None b f h = tt
known-closed p all k ds (Some d) None b f h = absurd h
known-closed p all k ds None (Some m) b f h = absurd h
known-closed p all k ds (Some d) (Some m) b f h = closed-shows p all k ds d.0 m b (f m refl) h

-- the tables stand for the place where the types of the block are closed
pub sifted-closed : (p : Shape → Bool) (list : Plain) (more : List (List ℕ)) (t : Tables) (block owner : ℕ) (out : Outside) (l : Local) → OwnTypes list l →
    ((n : List ℕ) (m : Meaning) → entry_of l.known n ≡ Some m → is_type_class m.class ≡ true → ClosesBy p (own_domains l.known ++ carried l.known) m.type) →
    StandsSifted p (type_names list.kids ++ more) t block owner out l → IsPlace t block owner out (close_types l)
sifted-closed p list more t block owner out l own closes h =
    let all = own_domains l.known ++ carried l.known in
    let D = ShowsUnsigned (known t) t.declarations.items in
    let m = h.place in
    IsPlace-own t t block owner out m (close_types l) (Moves-same block t) (sym h.is_sifted.fields) (sym h.is_sifted.owner)
    (StandsFor-retold D D t.names block m (close_types l)
    (λ n. ap (λ ns. entry_of ns n) (sym h.is_sifted.names)) (λ n. ap (λ (ns : List (List ℕ)). is_among ns n) (sym h.is_sifted.passed))
    (λ n k. subst (λ (e : Option Meaning). IsKnown D (slot_named t.names block n).known e) (sym (closed-entry all l.known n))
    (known-closed p all (known t) t.declarations.items (slot_named t.names block n).known (entry_of l.known n) (is_among (type_names list.kids ++ more) n)
    (λ x e c. (among-front (type_names list.kids) more n ((own n x e c).1), closes n x e c))
    (subst (λ (e : Option Meaning). IsKnown D (slot_named t.names block n).known e) (h.is_sifted.known n) k)))
    h.is_place.own)
    h.is_place

-- ---- what the declaration of a type shows

-- a type of the table that has this shape
pub record HasShape (table : Table) (s : Shape) : Type 0 where
  pub operand : Operand
  pub shape : shape_at table operand ≡ s
  pub there : IsThere table operand

pub shape-there : (table : Table) (o : Option Operand) (s : Shape) → option_map (shape_at table) o ≡ Some s → ForSome o (IsThere table) → HasShape table s
shape-there table None s e there = absurd (none-some s e)
shape-there table (Some o) s e there = record { operand = o; shape = same_Some (shape_at table o) s e; there = there o refl }
