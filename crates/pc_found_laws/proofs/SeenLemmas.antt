-- What is seen on the way down a statement part.
use Rattle.std.specs.Prelude.{ℕ, zero, suc, ◌≡◌, true, false, not, ◌||◌, List, [], ◌∷◌, Option, Some, take, slice_get}
use Rattle.std.specs.Option.{option_map_or}
use Rattle.std.proofs.Common.{refl, ap, sym, subst, ◌∙◌}
use Rattle.std.proofs.lemmas.Bool.{and_parts, not-true}
use Rattle.pc_syntax.specs.Classes as classes
use Rattle.pc_syntax.specs.Parts.{kid_at}
use Rattle.pc_syntax.specs.Plain.{Forest, Nil, Cons, Plain, trees_of, kids_of}
use Rattle.pc_syntax.specs.WellFormed.{WellFormed, IsWellFormed, IsProper}
use Rattle.pc_syntax.specs.declared.kind.Kind.{Kind}
use Rattle.pc_syntax.specs.declared.kind.Kind.TheVariants as kind
use Rattle.pc_forms.specs.FormClasses.{Every}
use Rattle.pc_environment.specs.Decorating.{place_behind, place_after}
use Rattle.pc_environment.specs.RowLaws.{SeesFrom, sees-after}
use Rattle.pc_environment.specs.Sight.{Sight, sight_of, is_body}
use Rattle.pc_environment.specs.SightLaws.{sight-inner}
use Rattle.pc_needs.specs.Unaffected.{IsOneOf}
use Rattle.pc_needs.proofs.BodyKinds.{either-way, is_inside, AllInside, all-inside, body-inside}
use Rattle.pc_rules.specs.Errors.{is_program}
use Rattle.pc_rules.specs.Meanings.{Local, Outside}
use Rattle.pc_rules.specs.Outsides.{outside_of}
use Rattle.pc_rules.specs.Places.{inner, opens_records}
use Rattle.pc_rules.specs.RoutineList.{routines_of}
use Rattle.pc_rules.specs.Routines.{Routine, start_of}
use Rattle.pc_found_laws.specs.Seen.{is_closed_way, BodyLaw, PartSeesLaw, KidSeesLaw, BelowSeesLaw, NodeSeesLaw, SeenLaw}
use Rattle.pc_found_laws.specs.Ways.{kid_place, Reaches, part_place, StandsIn}
use Rattle.pc_found_laws.proofs.NodeLemmas.{tree_of}
use Rattle.pc_found_laws.proofs.PartLemmas.{parts-stand}

-- ---- kinds of nodes

inside-so : (k : Kind) → (is_body k || not (is_inside k)) ≡ true
inside-so (kind.Hole s) = refl
inside-so _ = refl

inside-body : (k : Kind) → is_inside k ≡ true → is_body k ≡ true
inside-body k e = either-way (is_body k) (is_inside k) (inside-so k) e

-- all nodes at and below a tree are nodes of a statement part, and well formed
abbrev IsInside : Plain → Type 0
IsInside x = (is_inside x.kind ≡ true) × AllInside x.kids × IsWellFormed x

-- so a kid is
kid-inside : (f : Forest) (i : ℕ) (z : Plain) → AllInside f → WellFormed f → slice_get (trees_of f) i ≡ Some z → IsInside z
kid-inside Nil i z h w e = cc
kid-inside (Cons k v ns ks ts) zero z h w e =
    let same : tree_of k v ns ks ≡ z = cc in
    subst IsInside same (h.0, h.1, (w.0, w.1, w.2, w.3, tt))
kid-inside (Cons k v ns ks ts) (suc i) z h w e = kid-inside ts i z h.2 w.4 e

every-body : (i : ℕ) (f : Forest) → AllInside f → Every (λ (t : Plain). is_body t.kind ≡ true) (take i (trees_of f))
every-body zero f h = tt
every-body (suc i) Nil h = tt
every-body (suc i) (Cons k v ns ks ts) h = (inside-body k h.0, every-body i ts h.2)

-- ---- what is seen

-- a kid sees what its node sees, where that opens no records
sees-kid : (out : Outside) (l : Local) (s : Sight) (x : Plain) (i : ℕ) → IsInside x → opens_records x.kind ≡ false → SeesFrom out l s → SeesFrom out (kid_place out l x i) s
unfolding kids_of
sees-kid out l s x i h closed sees =
    sees-after out (inner l x.kind x.kids) s (take i (trees_of x.kids)) (every-body i x.kids h.1)
    (record { sight = sight-inner out l x.kind x.kids (inside-body x.kind h.0) ∙ sees.sight; closed = closed })

kid-of : (x z : Plain) (i : ℕ) → IsInside x → kid_at x (suc i) ≡ Some z → IsInside z
unfolding kids_of
kid-of x z i h e = kid-inside x.kids i z h.1 h.2.3 e

-- a way through nodes that open none
sees-way : (way : List ℕ) (out : Outside) (l : Local) (s : Sight) (x y : Plain) (m : Local) → IsInside x → Reaches out l x way y m → is_closed_way x way ≡ true → SeesFrom out l s → SeesFrom out m s
sees-way [] out l s x y m h r c sees = subst (λ (k : Local). SeesFrom out k s) r.1 sees
sees-way (zero ∷ way) out l s x y m h r c sees = absurd r
sees-way (suc i ∷ way) out l s x y m h r c sees =
    let both = and_parts (not (opens_records x.kind)) (option_map_or (λ (z : Plain). is_closed_way z way) (kid_at x (suc i)) true) c in
    sees-way way out (kid_place out l x i) s r.0 y m (kid-of x r.0 i h r.1) r.2 (sym (ap (λ (o : Option Plain). option_map_or (λ (z : Plain). is_closed_way z way) o true) r.1) ∙ both.1)
    (sees-kid out l s x i h (not-true (opens_records x.kind) both.0) sees)

inside-way : (way : List ℕ) (out : Outside) (l : Local) (x y : Plain) (m : Local) → IsInside x → Reaches out l x way y m → IsInside y
inside-way [] out l x y m h r = subst IsInside r.0 h
inside-way (zero ∷ way) out l x y m h r = absurd r
inside-way (suc i ∷ way) out l x y m h r = inside-way way out (kid_place out l x i) r.0 y m (kid-of x r.0 i h r.1) r.2

-- ---- the statement part

part-inside : (x : Plain) → classes.is_body x.kind ≡ true → IsWellFormed x → IsInside x
part-inside x b w =
    let k : is_inside x.kind ≡ true = either-way (is_inside x.kind) (classes.is_body x.kind) (body-inside x.kind) b in
    let all = all-inside (Cons x.kind x.word x.notes x.kids Nil) (k, tt) w in
    (k, all.1, w)

-- no records are open behind trees where none were before
closed-after : (out : Outside) (l : Local) (ts : List Plain) → l.opening ≡ false → (place_after out l ts).opening ≡ false
closed-after out l [] e = e
closed-after out l (t ∷ ts) e = closed-after out (place_behind out l t) ts e

part-sees : PartSeesLaw
part-sees t r = record { sight = refl; closed = closed-after (outside_of (routines_of t) r) (start_of r) (take 4 (trees_of r.block)) refl }

-- ---- the laws

inside-part : (t : Plain) (r : Routine) (path : List ℕ) (x : Plain) (l : Local) → IsProper t → is_program t.kind ≡ true → IsOneOf (routines_of t) r → (h : StandsIn t r path x l) → IsInside h.part
inside-part t r path x l proper program one h = let part = parts-stand t r h.part proper program one h.here in part-inside h.part part.body part.well

inside-node : (t : Plain) (r : Routine) (path : List ℕ) (x : Plain) (l : Local) → IsProper t → is_program t.kind ≡ true → IsOneOf (routines_of t) r → StandsIn t r path x l → IsInside x
inside-node t r path x l proper program one h = inside-way h.way (outside_of (routines_of t) r) (part_place t r) h.part x l (inside-part t r path x l proper program one h) h.reaches

body : BodyLaw
body t r path x l proper program one h = let i = inside-node t r path x l proper program one h in (inside-body x.kind i.0, i.2)

kid-sees : KidSeesLaw
kid-sees t r path x l i s proper program one h opens sees = sees-kid (outside_of (routines_of t) r) l s x i (inside-node t r path x l proper program one h) opens sees

below-sees : BelowSeesLaw
below-sees t r path x l way y m s proper program one h reaches closed sees =
    sees-way way (outside_of (routines_of t) r) l s x y m (inside-node t r path x l proper program one h) reaches closed sees

node-sees : NodeSeesLaw
node-sees t r path x l proper program one h closed =
    let out : Outside = outside_of (routines_of t) r in
    sees-way h.way out (part_place t r) (sight_of out (part_place t r)) h.part x l (inside-part t r path x l proper program one h) h.reaches closed (part-sees t r)

pub seen-law : SeenLaw
seen-law = record { body = body; part = part-sees; kid = kid-sees; below = below-sees; node = node-sees }
