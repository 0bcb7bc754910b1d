-- The records of a with, and what stands for a statement part inside of it: lemmas.
use Rattle.std.specs.Prelude.{◌≡◌, ℕ, Bool, true, false, List, [], ◌∷◌, ◌++◌, Option, Some}
use Rattle.std.specs.Prelude.{if◌then◌else◌}
use Rattle.std.specs.Str.{bytes_eq}
use Rattle.std.proofs.Common.{refl, ap, sym, ◌∙◌, subst, append-nil, append_assoc}
use Rattle.pc_syntax.specs.Classes.{is_access}
use Rattle.pc_syntax.specs.Plain.{Nil, Cons, Plain}
use Rattle.pc_syntax.specs.WellFormed.{IsProper}
use Rattle.pc_syntax.specs.declared.kind.Kind.{Kind}
use Rattle.pc_syntax.specs.declared.kind.Kind.TheVariants as kind
use Rattle.pc_types.specs.Rows.{seen as tables}
use Rattle.pc_types.specs.Shapes.{Typed}
use Rattle.pc_types.specs.declared.operand.Operand.{Operand}
use Rattle.pc_rules.specs.Attributes.{Attributes, Marked, Node}
use Rattle.pc_rules.specs.Decorated.{Seen, seen, rule, decorate}
use Rattle.pc_rules.specs.HandedOn.{all_opens}
use Rattle.pc_rules.specs.Meanings.{Found, Local, Outside, entry_of, field_or}
use Rattle.pc_rules.specs.Variables.{opened_by}
use Rattle.pc_environment.specs.Decorating.{attributes_at, below_at}
use Rattle.pc_environment.specs.DecoratingLaws.{at-node}
use Rattle.pc_environment.specs.RowLaws.{SeesFrom}
use Rattle.pc_environment.specs.Sight.{Sight, is_body}
use Rattle.pc_pointers.specs.Good.{Targets, IsGood, IsGoodFound, IsGoodAt, GoodPlace, AllOpenedGood, AllBody}
use Rattle.pc_pointers.specs.PointerLaws.{good-marks}
use Rattle.pc_sightings.specs.Opened.{pushed}
use Rattle.pc_sightings.specs.OpenedLaws.{ShowsOpened-pushed, entry_of-append, field_or-first}
use Rattle.pc_sightings.specs.Withs.{opened_sight}
use Rattle.pc_facts.specs.Known.{Known}
use Rattle.pc_facts.specs.Shows.{ShowsType}
use Rattle.pc_bodies.specs.declared.body.Body.{Body}
use Rattle.pc_bodies.specs.Resolved.{Stands}
use Rattle.pc_bodies.specs.WholeLaws.{whole-body}

-- ---- what an access opens

access-opens : (l : Local) (k : Kind) (w : List ℕ) (s : Seen) (m : Marked) → is_access k ≡ true → (rule l k w s m).opens ≡ opened_by (rule l k w s m).as_place.type
unfolding rule
access-opens l kind.Ref w s m e = refl
access-opens l kind.Index w s m e = refl
access-opens l kind.Select w s m e = refl
access-opens l kind.Deref w s m e = refl
access-opens l (kind.Hole sort) w s m e = refl
access-opens l k w s m e = cc

-- an access opens the fields of its type as a variable
pub opens-at : (out : Outside) (l : Local) (t : Plain) → is_access t.kind ≡ true → (attributes_at out l t).opens ≡ opened_by (attributes_at out l t).as_place.type
opens-at out l t e = subst (λ (a : Attributes). a.opens ≡ opened_by a.as_place.type) (sym (at-node out l t)) (access-opens l t.kind t.word (seen out l t.kind t.word) (below_at out l t) e)

-- the fields of one more access come first
pub all_opens-more : (ns : List Node) (n : Node) → all_opens (ns ++ n ∷ []) ≡ n.at.opens ++ all_opens ns
all_opens-more [] n = sym (append-nil n.at.opens)
all_opens-more (m ∷ ns) n = ap (λ (fs : List (List ℕ × (Typed × Bool))). fs ++ m.at.opens) (all_opens-more ns n) ∙ append_assoc n.at.opens (all_opens ns) m.at.opens

-- ---- where pointers lead inside of a with

first-leads : (targets : Targets) (c : Bool) (x : Typed × Bool) (e : Option (Typed × Bool)) (f : Found) → IsGood targets x.0 → IsGoodFound targets (field_or e f) → IsGoodFound targets (field_or (if c then Some x else e) f)
first-leads targets true x e f good rest = good
first-leads targets false x e f good rest = rest

field-leads : (targets : Targets) (fs : List (List ℕ × (Typed × Bool))) (n : List ℕ) (f : Found) → AllOpenedGood targets fs → IsGoodFound targets f → IsGoodFound targets (field_or (entry_of fs n) f)
field-leads targets [] n f all good = good
field-leads targets (x ∷ fs) n f all good = first-leads targets (bytes_eq x.0 n) x.1 (entry_of fs n) f all.0 (field-leads targets fs n f all.1 good)

at-good : (out : Outside) (l : Local) (t : Plain) (targets : Targets) → GoodPlace out l targets → AllBody (Cons t.kind t.word t.notes t.kids Nil) → IsGoodAt targets (attributes_at out l t)
unfolding decorate
at-good out l t targets place body = (good-marks out l targets (Cons t.kind t.word t.notes t.kids Nil) place body).0

-- what is found at a node of a statement part leads to what the targets say
pub good-at : (b : Body) (k : Known) (os : List Operand) (out : Outside) (l : Local) (s : Sight) (t : Plain) → IsProper t → is_body t.kind ≡ true → SeesFrom out l s → (stands : Stands b k os s) →
    IsGoodAt stands.targets (attributes_at out l t)
good-at b k os out l s t proper body sees stands =
    at-good out l t stands.targets (λ n. subst (IsGoodFound stands.targets) (sym (ap (λ (x : Sight). x.means n) sees.sight)) (stands.good n)) (whole-body t proper body)

-- ---- the stack

-- with the record of one more access open
pub stands-opened : (b : Body) (k : Known) (os : List Operand) (s : Sight) (o : Option Operand) (ty : Option Typed) → ShowsType (tables b.types.now) o ty →
    (stands : Stands b k os s) → AllOpenedGood stands.targets (opened_by ty) → Stands b k (os ++ pushed o) (opened_sight (opened_by ty) s)
stands-opened b k os s o ty shows h good = record {
  outer = h.outer;
  fields = opened_by ty ++ h.fields;
  along = h.along;
  opens = ShowsOpened-pushed (tables b.types.now) o ty os h.fields shows h.opens;
  means = λ n. ap (field_or (entry_of (opened_by ty) n)) (h.means n) ∙ sym (field_or-first (entry_of (opened_by ty) n) (entry_of h.fields n) (h.outer n))
      ∙ sym (ap (λ (e : Option (Typed × Bool)). field_or e (h.outer n)) (entry_of-append (opened_by ty) h.fields n));
  owner = h.owner;
  there = h.there;
  own = h.own;
  distinct = h.distinct;
  apart = h.apart;
  targets = h.targets;
  told = h.told;
  good = λ n. field-leads h.targets (opened_by ty) n (s.means n) good (h.good n);
  inside = h.inside;
}
