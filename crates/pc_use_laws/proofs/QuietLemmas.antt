-- All nodes in headings and declarations are of such kinds that open nothing.
use Rattle.std.specs.Prelude.{ℕ, ◌≡◌, Bool, true, false, not, ◌||◌, List}
use Rattle.std.proofs.Common.{refl, sym, true≢false}
use Rattle.pc_syntax.specs.declared.kind.Kind.{Kind}
use Rattle.pc_syntax.specs.declared.kind.Kind.TheVariants as kind
use Rattle.pc_syntax.specs.declared.class.Class.{Class}
use Rattle.pc_syntax.specs.declared.class.Class.TheVariants as class
use Rattle.pc_syntax.specs.Classes.{has}
use Rattle.pc_syntax.specs.Layout.{layout}
use Rattle.pc_syntax.specs.Plain.{Forest, Nil, Cons, count, kinds}
use Rattle.pc_syntax.specs.Slots.{places_of}
use Rattle.pc_syntax.specs.WellFormed.{WellFormed, fits_some}
use Rattle.pc_needs.proofs.BodyKinds.{either-way, Passes, all_classes, row-passes, node-takes}
use Rattle.pc_needs.proofs.HeadingKinds.{is_the_block, has_heading}
use Rattle.pc_use_laws.specs.OpenedSteps.{opens_nothing}
use Rattle.pc_use_laws.proofs.QuietKindLemmas.{is_quiet, is_quiet_class, class-quiet, kids-quiet}

-- ---- all nodes of some trees

abbrev pub AllQuiet : Forest → Type 0
AllQuiet Nil = Unit {0}
AllQuiet (Cons k w ns ks ts) = (is_quiet k ≡ true) × AllQuiet ks × AllQuiet ts

quiet-row : (k : Kind) (w : List ℕ) (f : Forest) → is_quiet k ≡ true → fits_some (layout k w (count f)) (kinds f) ≡ true → Passes is_quiet f
quiet-row k w f e fit =
    row-passes is_quiet is_quiet_class class-quiet k 0 f (either-way (all_classes is_quiet_class (places_of k)) (is_quiet k) (kids-quiet k) e) (node-takes k w f fit)

all-quiet : (f : Forest) → Passes is_quiet f → WellFormed f → AllQuiet f
all-quiet Nil p c = tt
all-quiet (Cons k w ns ks ts) p c = (p.0, all-quiet ks (quiet-row k w ks p.0 c.0) c.3, all-quiet ts p.1 c.4)

-- below a node of such a kind
pub quiet-below : (k : Kind) (w : List ℕ) (f : Forest) → is_quiet k ≡ true → fits_some (layout k w (count f)) (kinds f) ≡ true → WellFormed f → AllQuiet f
quiet-below k w f e fit well = all-quiet f (quiet-row k w f e fit) well

-- ---- headings

-- a kid of a routine or a program is of such a kind, or its block
abbrev pub is_quiet_or_block : Kind → Bool
is_quiet_or_block k = is_quiet k || is_the_block k

abbrev is_part_class : Class → Bool
is_part_class class.Name = true
is_part_class class.Params = true
is_part_class class.Heads = true
is_part_class class.Block = true
is_part_class c = false

name-part : (k : Kind) → (is_quiet_or_block k || not (has class.Name k)) ≡ true
name-part (kind.Hole s) = refl
name-part _ = refl

params-part : (k : Kind) → (is_quiet_or_block k || not (has class.Params k)) ≡ true
params-part (kind.Hole s) = refl
params-part _ = refl

heads-part : (k : Kind) → (is_quiet_or_block k || not (has class.Heads k)) ≡ true
heads-part (kind.Hole s) = refl
heads-part _ = refl

block-part : (k : Kind) → (is_quiet_or_block k || not (has class.Block k)) ≡ true
block-part (kind.Hole s) = refl
block-part _ = refl

class-part : (c : Class) (k : Kind) → is_part_class c ≡ true → has c k ≡ true → is_quiet_or_block k ≡ true
class-part class.Name k e h = either-way (is_quiet_or_block k) (has class.Name k) (name-part k) h
class-part class.Params k e h = either-way (is_quiet_or_block k) (has class.Params k) (params-part k) h
class-part class.Heads k e h = either-way (is_quiet_or_block k) (has class.Heads k) (heads-part k) h
class-part class.Block k e h = either-way (is_quiet_or_block k) (has class.Block k) (block-part k) h
class-part c k e h = absurd (true≢false (sym e))

kids-parts : (k : Kind) → (all_classes is_part_class (places_of k) || not (has_heading k)) ≡ true
kids-parts (kind.Hole s) = refl
kids-parts _ = refl

pub heading-parts : (k : Kind) (w : List ℕ) (f : Forest) → has_heading k ≡ true → fits_some (layout k w (count f)) (kinds f) ≡ true → Passes is_quiet_or_block f
heading-parts k w f e fit =
    row-passes is_quiet_or_block is_part_class class-part k 0 f (either-way (all_classes is_part_class (places_of k)) (has_heading k) (kids-parts k) e) (node-takes k w f fit)

pub heading-opens : (k : Kind) → has_heading k ≡ true → opens_nothing k ≡ true
heading-opens kind.With e = absurd (true≢false (sym e))
heading-opens kind.Accesses e = absurd (true≢false (sym e))
heading-opens _ e = refl
