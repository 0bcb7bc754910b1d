-- The nodes at and below denoters are carried, from what names mean at their place on.
use Rattle.std.proofs.Common.{◌≡◌, ℕ, Bool, true, false, if◌then◌else◌, List, refl, sym, subst}
use Rattle.std.proofs.lemmas.Bool.{false≢true}
use Rattle.pc_syntax.specs.declared.kind.Kind.{Kind}
use Rattle.pc_syntax.specs.declared.kind.Kind.TheVariants as kind
use Rattle.pc_syntax.specs.Plain.{Forest, Nil, Cons, Plain}
use Rattle.pc_syntax.specs.Words.{lowered}
use Rattle.pc_types.specs.Shapes.{Domain}
use Rattle.pc_rules.specs.Attributes.{Attributes, nodes}
use Rattle.pc_rules.specs.Decorated.{Seen, unseen, seen, rule, decorate}
use Rattle.pc_rules.specs.Meanings.{Local, Outside, find, define_all}
use Rattle.pc_rules.specs.Places.{inner, beside}
use Rattle.pc_environment.specs.Decorating.{attributes_at, below_at, place_behind}
use Rattle.pc_pointers.specs.Good.{Targets}
use Rattle.pc_carrying.specs.Carrying.{IsCarriedName, CarriedPlace, KnownCarried, IsCarriedAt, CarriedMarks, is_denoting, AllDenoting}
use Rattle.pc_carrying.specs.KnownLaws.{found-carried, plain-beside, beside-carried, SameNames}
use Rattle.pc_carrying.specs.LaterLaws.{StaysLater, inner-later, beside-later, later-before}
use Rattle.pc_carrying.specs.ConfinedLaws.{AllConfined, row-confined, moved-place}
use Rattle.pc_carrying.specs.RuleLaws.{rule-carried}

-- the first kid of such a node sees the names that it does
pub inner-names : (l : Local) (k : Kind) (ks : Forest) → is_denoting k ≡ true → SameNames (inner l k ks) l
inner-names l kind.Tname ks e = record { known = refl; passed = refl }
inner-names l kind.Enum ks e = record { known = refl; passed = refl }
inner-names l kind.Subrange ks e = record { known = refl; passed = refl }
inner-names l kind.Array ks e = record { known = refl; passed = refl }
inner-names l kind.Record ks e = record { known = refl; passed = refl }
inner-names l kind.Record0 ks e = record { known = refl; passed = refl }
inner-names l kind.Setof ks e = record { known = refl; passed = refl }
inner-names l kind.Packed ks e = record { known = refl; passed = refl }
inner-names l kind.Pointer ks e = record { known = refl; passed = refl }
inner-names l kind.Cnumber ks e = record { known = refl; passed = refl }
inner-names l kind.Cstring ks e = record { known = refl; passed = refl }
inner-names l kind.Cname ks e = record { known = refl; passed = refl }
inner-names l kind.Csign ks e = record { known = refl; passed = refl }
inner-names l kind.Name ks e = record { known = refl; passed = refl }
inner-names l kind.Names ks e = record { known = refl; passed = refl }
inner-names l kind.Indexes ks e = record { known = refl; passed = refl }
inner-names l kind.Fields ks e = record { known = refl; passed = refl }
inner-names l kind.Field ks e = record { known = refl; passed = refl }
inner-names l (kind.Hole s) ks e = record { known = refl; passed = refl }
inner-names l k ks e = absurd (false≢true e)

-- behind a node whose declarations are declared there, or a hole
pub beside-place : (targets : Targets) (own : List Domain) (l : Local) (k : Kind) (a : Attributes) → is_denoting k ≡ true → KnownCarried targets own l.known →
    KnownCarried targets own (define_all l a.defines).known → KnownCarried targets own (beside l k a).known
beside-place targets own l kind.Tname a e g h = h
beside-place targets own l kind.Enum a e g h = h
beside-place targets own l kind.Subrange a e g h = h
beside-place targets own l kind.Array a e g h = h
beside-place targets own l kind.Record a e g h = h
beside-place targets own l kind.Record0 a e g h = h
beside-place targets own l kind.Setof a e g h = h
beside-place targets own l kind.Packed a e g h = h
beside-place targets own l kind.Pointer a e g h = h
beside-place targets own l kind.Cnumber a e g h = h
beside-place targets own l kind.Cstring a e g h = h
beside-place targets own l kind.Cname a e g h = h
beside-place targets own l kind.Csign a e g h = h
beside-place targets own l kind.Name a e g h = h
beside-place targets own l kind.Names a e g h = h
beside-place targets own l kind.Indexes a e g h = h
beside-place targets own l kind.Fields a e g h = h
beside-place targets own l kind.Field a e g h = h
beside-place targets own l (kind.Hole s) a e g h = g
beside-place targets own l k a e g h = absurd (false≢true e)

-- places with the same names
pub same-place : (targets : Targets) (own : List Domain) (out : Outside) (l m : Local) → StaysLater l m → m.known ≡ l.known → CarriedPlace targets own out l → CarriedPlace targets own out m
same-place targets own out l m k e h = moved-place targets own out l m k (subst (KnownCarried targets own) (sym e) h.known) h

either-seen : (targets : Targets) (own : List Domain) (n : List ℕ) (b : Bool) (s t : Seen) → IsCarriedName targets own n s.found → IsCarriedName targets own n t.found →
    IsCarriedName targets own n (if b then s else t).found
either-seen targets own n true s t g h = g
either-seen targets own n false s t g h = h

-- what a node looks up
pub seen-carried : (targets : Targets) (own : List Domain) (out : Outside) (l : Local) (k : Kind) (w : List ℕ) → CarriedPlace targets own out l → IsCarriedName targets own (lowered w) (seen out l k w).found
seen-carried targets own out l kind.Name w g =
    either-seen targets own (lowered w) l.using (record { found = find out l (lowered w); changed = out.touched (lowered w) }) unseen (found-carried targets own out l g (lowered w)) tt
seen-carried targets own out l k w g = tt

-- behind a node that is carried
next-place : (targets : Targets) (own : List Domain) (out : Outside) (l : Local) (k : Kind) (a : Attributes) → is_denoting k ≡ true → IsCarriedAt targets own a →
    CarriedPlace targets own out l → CarriedPlace targets own out (beside l k a)
next-place targets own out l k a e h g =
    moved-place targets own out l (beside l k a) (beside-later l k a)
    (beside-place targets own l k a e g.known (beside-carried targets own l a.defines (plain-beside a.defines h.declared) g.known)) g

-- the names in the row below a node
below-confined : (targets : Targets) (own : List Domain) (out : Outside) (l : Local) (k : Kind) (ks : Forest) → AllDenoting ks → CarriedPlace targets own out l →
    AllConfined targets own l.owner (nodes (decorate out (inner l k ks) ks))
below-confined targets own out l k ks a g =
    row-confined targets own l.owner out (inner l k ks) ks a (λ n c e s. g.confined n c (later-before out l (inner l k ks) n c (inner-later l k ks) e) s)

-- all nodes at and below denoters
pub marks-carried : (targets : Targets) (own : List Domain) (out : Outside) (l : Local) (f : Forest) → AllDenoting f → CarriedPlace targets own out l → CarriedMarks targets own (decorate out l f)
unfolding decorate
marks-carried targets own out l Nil a g = tt
marks-carried targets own out l (Cons k w ns ks ts) a g =
    let below = marks-carried targets own out (inner l k ks) ks a.1 (same-place targets own out l (inner l k ks) (inner-later l k ks) (inner-names l k ks a.0).known g) in
    let here = rule-carried targets own l k w (seen out l k w) (decorate out (inner l k ks) ks) a.0 (seen-carried targets own out l k w g) below (below-confined targets own out l k ks a.1 g) in
    let next = beside l k (rule l k w (seen out l k w) (decorate out (inner l k ks) ks)) in
    (here, below, marks-carried targets own out next ts a.2 (next-place targets own out l k _ a.0 here g))

-- a denoter
pub node-carried : (targets : Targets) (own : List Domain) (out : Outside) (l : Local) (t : Plain) → AllDenoting (Cons t.kind t.word t.notes t.kids Nil) → CarriedPlace targets own out l →
    IsCarriedAt targets own (attributes_at out l t) × CarriedMarks targets own (below_at out l t) × CarriedPlace targets own out (place_behind out l t)
unfolding decorate
node-carried targets own out l t a g =
    let m = marks-carried targets own out l (Cons t.kind t.word t.notes t.kids Nil) a g in
    (m.0, m.1, next-place targets own out l t.kind (attributes_at out l t) a.0 m.0 g)
