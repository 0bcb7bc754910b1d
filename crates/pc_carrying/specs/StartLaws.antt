-- From the start of a block over its constants and types to its statement part.
use Rattle.std.proofs.Common.{◌≡◌, ℕ, Bool, true, false, if◌then◌else◌, List, [], ◌∷◌, ◌++◌, None, refl, sym, ◌∙◌, ap, subst}
use Rattle.std.proofs.lemmas.Bool.{false≢true}
use Rattle.pc_syntax.specs.declared.kind.Kind.{Kind}
use Rattle.pc_syntax.specs.declared.kind.Kind.TheVariants as kind
use Rattle.pc_syntax.specs.Plain.{Plain}
use Rattle.pc_syntax.specs.Words.{is_among}
use Rattle.pc_types.specs.Shapes.{Owner, Domain, Typed}
use Rattle.pc_rules.specs.Attributes.{Attributes, Marked}
use Rattle.pc_rules.specs.ClosedTypes.{own_domains, close_types}
use Rattle.pc_rules.specs.Decorated.{Seen, seen, rule, decorate}
use Rattle.pc_rules.specs.Meanings.{Class, Meaning, Later, Local, Outside, find, define, define_all}
use Rattle.pc_rules.specs.Places.{beside}
use Rattle.pc_environment.specs.Decorating.{attributes_at, below_at, place_behind}
use Rattle.pc_pointers.specs.Good.{Targets, IsGoodFound, AllOpenedGood}
use Rattle.pc_closed.specs.Reached.{Covers}
use Rattle.pc_closed.specs.Settled.{Tells, IsGoodBeside, AllGoodBeside, IsGoodAround}
use Rattle.pc_closed.specs.Carried.{AllTypesCarried}
use Rattle.pc_closed.specs.BlockLaws.{closed-law}
use Rattle.pc_carrying.specs.Carrying.{ConfinedPlace, KnownCarried, AllDefining}
use Rattle.pc_carrying.specs.Parts.{IsSound, AllSound, declared_at, types_of, IsCarriedStart, IsSettledAround, IsGoodBehind, NodeLaw, PartLaw, BlockLaw}
use Rattle.pc_carrying.specs.KnownLaws.{sound-types, all-cover}
use Rattle.pc_carrying.specs.LaterLaws.{all-later, beside-later}
use Rattle.pc_carrying.specs.ConfinedLaws.{confined-moved, moved-place}
use Rattle.pc_carrying.specs.DenoterLaws.{node-carried}
use Rattle.pc_carrying.specs.TypeLaws.{is_part, IsCarriedPart, part-carried, definition-carried}
use Rattle.pc_carrying.specs.PartLaws.{fits-block, closed-known, behind-known, block-later}
use Rattle.pc_carrying.specs.VariableLaws.{constant-good}
use Rattle.pc_carrying.specs.BehindLaws.{fields-stay, opened, declaration-settled, variables-behind, routines-behind}

-- ---- what is declared is good

sound-good : (targets : Targets) (own : List Domain) (m : Meaning) → IsSound targets own m → IsGoodBeside targets m
sound-good targets own m h = record {
  constant = constant-good targets m.value h.value;
  result = let e = h.unsigned in rw e tt;
  typed = λ c. let e = h.untyped c in rw e tt;
}

one-more : (targets : Targets) (ds : List (List ℕ × Meaning)) (x : List ℕ) (m : Meaning) → IsGoodBeside targets m → AllGoodBeside targets ds → AllGoodBeside targets (ds ++ (x, m) ∷ [])
one-more targets [] x m h g = (h, tt)
one-more targets (d ∷ ds) x m h g = (g.0, one-more targets ds x m h g.1)

define-good : (targets : Targets) (l : Local) (x : List ℕ) (m : Meaning) → IsGoodBeside targets m → AllGoodBeside targets l.known → AllGoodBeside targets (define l x m).known
define-good targets l x m h g = by (is_among l.passed x) where
  by : (b : Bool) → AllGoodBeside targets (if b then l.known else l.known ++ (x, m) ∷ [])
  by true = g
  by false = one-more targets l.known x m h g

all-good : (targets : Targets) (own : List Domain) (l : Local) (ds : List (List ℕ × Meaning)) → AllSound targets own ds → AllGoodBeside targets l.known → AllGoodBeside targets (define_all l ds).known
all-good targets own l [] h g = g
all-good targets own l (d ∷ ds) h g = all-good targets own (define l d.0 d.1) ds h.1 (define-good targets l d.0 d.1 (sound-good targets own d.1 h.0) g)

-- ---- constants and types

-- what a list of definitions declares is added
part-start : (targets : Targets) (own : List Domain) (out : Outside) (l : Local) (ds : List (List ℕ × Meaning)) → IsCarriedPart targets own l ds → IsCarriedStart targets own out l →
    IsCarriedStart targets own out (define_all l ds)
part-start targets own out l ds h g = record {
  place = moved-place targets own out l (define_all l ds) (all-later l ds) h.known g.place;
  types = sound-types targets own l ds h.sound g.types;
  good = all-good targets own l ds h.sound g.good;
}

same-start : (targets : Targets) (own : List Domain) (out : Outside) (l m : Local) → m.known ≡ l.known → ConfinedPlace targets own out m → IsCarriedStart targets own out l → IsCarriedStart targets own out m
same-start targets own out l m e c g = record {
  place = record { known = subst (KnownCarried targets own) (sym e) g.place.known; outside = g.place.outside; confined = c };
  types = subst (AllTypesCarried targets own) (sym e) g.types;
  good = subst (AllGoodBeside targets) (sym e) g.good;
}

constants-known : (out : Outside) (l : Local) (t : Plain) → t.kind ≡ kind.Consts → (place_behind out l t).known ≡ (declared_at out l t).known
constants-known out l t e = ap (λ (k : Kind). (beside l k (attributes_at out l t)).known) e

constants-start : (targets : Targets) (own : List Domain) (out : Outside) (l : Local) (t : Plain) → t.kind ≡ kind.Consts → AllDefining t.kids →
    Covers own (own_domains (place_behind out l t).known) → IsCarriedStart targets own out l → IsCarriedStart targets own out (place_behind out l t)
constants-start targets own out l t e a c g =
    let q = constants-known out l t e in
    let cover = subst (λ (ds : List (List ℕ × Meaning)). Covers own (own_domains ds)) q c in
    let h = part-carried targets own out l t (ap is_part e) a cover g.place in
    let confined = confined-moved targets own out l (place_behind out l t) (beside-later l t.kind (attributes_at out l t)) g.place.confined in
    same-start targets own out (declared_at out l t) (place_behind out l t) q confined (part-start targets own out l (attributes_at out l t).defines h g)

types-start : (targets : Targets) (out : Outside) (l : Local) (t : Plain) → t.kind ≡ kind.Types → AllDefining t.kids → IsCarriedStart targets (own_domains (declared_at out l t).known) out l →
    IsCarriedStart targets (own_domains (declared_at out l t).known) out (declared_at out l t)
types-start targets out l t e a g =
    let own = own_domains (declared_at out l t).known in
    part-start targets own out l (attributes_at out l t).defines (part-carried targets own out l t (ap is_part e) a (λ o n s. s) g.place) g

-- ---- behind the type part

part-opens : (l : Local) (k : Kind) (w : List ℕ) (s : Seen) (m : Marked) → is_part k ≡ true → (rule l k w s m).opens ≡ []
unfolding rule
part-opens l kind.Consts w s m e = refl
part-opens l kind.Types w s m e = refl
part-opens l k w s m e = absurd (false≢true e)

opens-at : (out : Outside) (l : Local) (t : Plain) → is_part t.kind ≡ true → (attributes_at out l t).opens ≡ []
unfolding decorate
opens-at out l t e = part-opens l t.kind t.word (seen out l t.kind t.word) (below_at out l t) e

types-find : (out : Outside) (l : Local) (k : Kind) (a : Attributes) (n : List ℕ) → k ≡ kind.Types → a.opens ≡ [] → find out (beside l k a) n ≡ find out (close_types (define_all l a.defines)) n
unfolding find
types-find out l k a n e o =
    let m = close_types (define_all l a.defines) in
    ap (λ (x : Kind). find out (beside l x a) n) e
    ∙ ap (λ (fs : List (List ℕ × (Typed × Bool))). find out (record m { fields = fs }) n) (opened l.opening a.opens l.fields o ∙ sym (fields-stay l a.defines))

around : (targets : Targets) (own : List Domain) (out : Outside) (l : Local) (ds : List (List ℕ × Meaning)) → IsSettledAround targets out l → IsCarriedStart targets own out (define_all l ds) →
    IsGoodAround targets out (define_all l ds)
around targets own out l ds s g = record {
  fields = subst (AllOpenedGood targets) (sym (fields-stay l ds)) s.fields;
  outside = s.outside;
  headings = s.headings;
  known = g.good;
}

types-behind : (targets : Targets) (out : Outside) (l : Local) (t : Plain) → t.kind ≡ kind.Types → AllDefining t.kids → Tells targets (own_domains (close_types (declared_at out l t)).known) →
    IsSettledAround targets out l → IsCarriedStart targets (own_domains (declared_at out l t).known) out l →
    ((n : List ℕ) (c : Class) → find out (place_behind out l t) n ≡ Later c → targets l.owner n ≡ None) → IsGoodBehind targets out (place_behind out l t)
types-behind targets out l t e a tells s g k =
    let m = declared_at out l t in
    let own = own_domains m.known in
    let h = types-start targets out l t e a g in
    let f = fits-block targets m h.types tells in
    let good = closed-law.place targets out m f (around targets own out l (attributes_at out l t).defines s h) in
    record {
      place = record {
        known = subst (KnownCarried targets []) (sym (behind-known out l t e)) (closed-known targets own [] m f h.place.known);
        outside = s.carried;
        confined = λ n c q w. ap (λ (o : Owner). targets o n) (beside-later l t.kind (attributes_at out l t)).owner ∙ k n c q;
      };
      good = λ n. subst (IsGoodFound targets) (sym (types-find out l t.kind (attributes_at out l t) n e (opens-at out l t (ap is_part e)))) (good n);
    }

-- ---- a block

-- what the block sees from outside is the same behind its constants
constants-around : (targets : Targets) (out : Outside) (l : Local) (t : Plain) → t.kind ≡ kind.Consts → IsSettledAround targets out l → IsSettledAround targets out (place_behind out l t)
constants-around targets out l t e s =
    let a = attributes_at out l t in
    let fields : (place_behind out l t).fields ≡ l.fields =
    ap (λ (k : Kind). (beside l k a).fields) e ∙ opened l.opening a.opens l.fields (opens-at out l t (ap is_part e)) in
    record { carried = s.carried; fields = subst (AllOpenedGood targets) (sym fields) s.fields; outside = s.outside; headings = s.headings }

block-good : BlockLaw
block-good targets out l c t v r p tells s g k =
    let l1 = place_behind out l c in
    let own = own_domains (types_of out l c t).known in
    let start = constants-start targets own out l c p.first p.in_constants (all-cover l1 (attributes_at out l1 t).defines) g in
    let around = constants-around targets out l c p.first s in
    let fits = fits-block targets (types_of out l c t) (types-start targets out l1 t p.second p.in_types start).types tells in
    let owner = (beside-later l c.kind (attributes_at out l c)).owner in
    let types = types-behind targets out l1 t p.second p.in_types tells around start (λ n x q. ap (λ (o : Owner). targets o n) owner ∙ k n x q) in
    let l2 = place_behind out l1 t in
    let variables = (variables-behind targets out l2 v p.third p.in_variables s.headings types).1 in
    (fits, (routines-behind targets out (place_behind out l2 v) r p.fourth p.in_routines s.headings variables).1)

-- these hold
pub node-law : NodeLaw
node-law = record { denoter = node-carried; definition = definition-carried; variable = declaration-settled }

pub part-law : PartLaw
part-law = record {
  grown = all-cover;
  constants = constants-start;
  types = types-start;
  fits = fits-block;
  behind = types-behind;
  later = block-later;
  variables = variables-behind;
  routines = routines-behind;
}

pub block-law : BlockLaw
block-law = block-good
