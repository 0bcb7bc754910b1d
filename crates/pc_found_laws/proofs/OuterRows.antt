-- The kinds of the kids of routines and of lists of routines.
use Rattle.std.specs.Prelude.{ℕ, ◌≡◌, Bool, true, false, not, ◌&&◌, ◌||◌, List}
use Rattle.std.proofs.Common.{refl}
use Rattle.pc_syntax.specs.declared.kind.Kind.{Kind}
use Rattle.pc_syntax.specs.declared.kind.Kind.TheVariants as kind
use Rattle.pc_syntax.specs.declared.sort.Sort.TheVariants as sort
use Rattle.pc_syntax.specs.declared.class.Class.{Class}
use Rattle.pc_syntax.specs.declared.class.Class.TheVariants as class
use Rattle.pc_syntax.specs.Classes.{has}
use Rattle.pc_syntax.specs.Layout.{layout}
use Rattle.pc_syntax.specs.Plain.{Forest, count, kinds}
use Rattle.pc_syntax.specs.Slots.{places_of}
use Rattle.pc_syntax.specs.WellFormed.{fits_some}
use Rattle.pc_scope.specs.Headings.{is_routine_kind}
use Rattle.pc_decl.specs.Nodes.{is_expression}
use Rattle.pc_needs.proofs.BodyKinds.{either-way, Passes, all_classes, row-passes, node-takes}
use Rattle.pc_needs.proofs.HeadingKinds.{is_the_block}
use Rattle.pc_program_laws.specs.Routines.{has_heading}
use Rattle.pc_found_laws.proofs.OuterKinds.{is_outer, both-so}
use Rattle.pc_found_laws.proofs.OuterWays.{not-both}

-- ---- the kids of a routine, and of a list of routines

-- a kid of a routine is such a node, or the block
abbrev pub is_headed : Kind → Bool
is_headed k = is_outer k || is_the_block k

abbrev is_headed_class : Class → Bool
is_headed_class class.Name = true
is_headed_class class.Params = true
is_headed_class class.Heads = true
is_headed_class class.Block = true
is_headed_class _ = false

headed-so : (c : Class) (k : Kind) → (is_headed k || not (is_headed_class c && has c k)) ≡ true
headed-so class.Name (kind.Hole sort.Expression) = refl
headed-so class.Name (kind.Hole _) = refl
headed-so class.Name _ = refl
headed-so class.Params (kind.Hole sort.Expression) = refl
headed-so class.Params (kind.Hole _) = refl
headed-so class.Params _ = refl
headed-so class.Heads (kind.Hole sort.Expression) = refl
headed-so class.Heads (kind.Hole _) = refl
headed-so class.Heads _ = refl
headed-so class.Block (kind.Hole sort.Expression) = refl
headed-so class.Block (kind.Hole _) = refl
headed-so class.Block _ = refl
headed-so _ k = either (is_headed k) where
  either : (b : Bool) → (b || true) ≡ true
  either true = refl
  either false = refl

class-headed : (c : Class) (k : Kind) → is_headed_class c ≡ true → has c k ≡ true → is_headed k ≡ true
class-headed c k e h = either-way (is_headed k) (is_headed_class c && has c k) (headed-so c k) (both-so (is_headed_class c) (has c k) e h)

kids-headed-so : (k : Kind) → (all_classes is_headed_class (places_of k) || not (has_heading k)) ≡ true
kids-headed-so (kind.Hole s) = refl
kids-headed-so _ = refl

pub headed-row : (k : Kind) (w : List ℕ) (f : Forest) → has_heading k ≡ true → fits_some (layout k w (count f)) (kinds f) ≡ true → Passes is_headed f
headed-row k w f e c =
    row-passes is_headed is_headed_class class-headed k 0 f (either-way (all_classes is_headed_class (places_of k)) (has_heading k) (kids-headed-so k) e) (node-takes k w f c)

-- a kid of a list of routines is a routine, or such a node
abbrev pub is_listed : Kind → Bool
is_listed k = is_routine_kind k || is_outer k

abbrev is_listed_class : Class → Bool
is_listed_class class.Routine = true
is_listed_class _ = false

listed-so : (c : Class) (k : Kind) → (is_listed k || not (is_listed_class c && has c k)) ≡ true
listed-so class.Routine (kind.Hole sort.Expression) = refl
listed-so class.Routine (kind.Hole _) = refl
listed-so class.Routine _ = refl
listed-so _ k = either (is_listed k) where
  either : (b : Bool) → (b || true) ≡ true
  either true = refl
  either false = refl

class-listed : (c : Class) (k : Kind) → is_listed_class c ≡ true → has c k ≡ true → is_listed k ≡ true
class-listed c k e h = either-way (is_listed k) (is_listed_class c && has c k) (listed-so c k) (both-so (is_listed_class c) (has c k) e h)

pub listed-row : (w : List ℕ) (f : Forest) → fits_some (layout kind.Routines w (count f)) (kinds f) ≡ true → Passes is_listed f
listed-row w f c = row-passes is_listed is_listed_class class-listed kind.Routines 0 f refl (node-takes kind.Routines w f c)

-- a routine isn't an expression
routine-so : (k : Kind) → (not (is_expression k) || not (is_routine_kind k)) ≡ true
routine-so (kind.Hole sort.Expression) = refl
routine-so (kind.Hole _) = refl
routine-so _ = refl

pub routine-none : (k : Kind) → is_routine_kind k ≡ true → is_expression k ≡ true → ⊥
routine-none k e f = not-both (is_expression k) (either-way (not (is_expression k)) (is_routine_kind k) (routine-so k) e) f
