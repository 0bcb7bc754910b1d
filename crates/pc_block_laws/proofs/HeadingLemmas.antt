-- The nodes of a heading declare no types.
use Rattle.std.specs.Prelude.{◌≡◌, ℕ, Bool, true, false, not, ◌&&◌, ◌||◌, List}
use Rattle.std.proofs.Common.{refl, sym, true≢false}
use Rattle.pc_syntax.specs.declared.kind.Kind.{Kind}
use Rattle.pc_syntax.specs.declared.kind.Kind.TheVariants as kind
use Rattle.pc_syntax.specs.declared.class.Class.{Class}
use Rattle.pc_syntax.specs.declared.class.Class.TheVariants as class
use Rattle.pc_syntax.specs.Classes.{has}
use Rattle.pc_syntax.specs.Layout.{layout}
use Rattle.pc_syntax.specs.Plain.{Forest, Nil, Cons, count, kinds}
use Rattle.pc_syntax.specs.Slots.{places_of}
use Rattle.pc_syntax.specs.WellFormed.{WellFormed, fits_some}
use Rattle.pc_rules.specs.OwnBlock.{heading_part}
use Rattle.pc_needs.proofs.BodyKinds.{either-way, Passes, all_classes, row-passes, node-takes}
use Rattle.pc_program_laws.specs.Routines.{has_heading}
use Rattle.pc_program_laws.specs.Unsigned.{AllOfKind}
use Rattle.pc_program_laws.proofs.KindLemmas.{all-map}
use Rattle.pc_block_laws.proofs.TypelessLemmas.{is_typeless}

pub both-so : (a b : Bool) → a ≡ true → b ≡ true → (a && b) ≡ true
both-so true b e f = f
both-so false b e f = absurd (true≢false (sym e))

pub either-true : (b : Bool) → (b || true) ≡ true
either-true true = refl
either-true false = refl

-- ---- the nodes in a heading

-- names, lists of names, parameters in groups, and holes
abbrev is_naming : Kind → Bool
is_naming kind.Name = true
is_naming kind.Names = true
is_naming kind.Heads = true
is_naming kind.Params = true
is_naming kind.Valparam = true
is_naming kind.Varparam = true
is_naming kind.Forward = true
is_naming (kind.Hole s) = true
is_naming _ = false

abbrev is_naming_class : Class → Bool
is_naming_class class.Name = true
is_naming_class class.Names = true
is_naming_class class.Heads = true
is_naming_class class.Params = true
is_naming_class class.Parameter = true
is_naming_class _ = false

naming-class : (c : Class) (k : Kind) → (is_naming k || not (is_naming_class c && has c k)) ≡ true
naming-class class.Name (kind.Hole s) = refl
naming-class class.Name _ = refl
naming-class class.Names (kind.Hole s) = refl
naming-class class.Names _ = refl
naming-class class.Heads (kind.Hole s) = refl
naming-class class.Heads _ = refl
naming-class class.Params (kind.Hole s) = refl
naming-class class.Params _ = refl
naming-class class.Parameter (kind.Hole s) = refl
naming-class class.Parameter _ = refl
naming-class _ k = either-true (is_naming k)

class-naming : (c : Class) (k : Kind) → is_naming_class c ≡ true → has c k ≡ true → is_naming k ≡ true
class-naming c k e h = either-way (is_naming k) (is_naming_class c && has c k) (naming-class c k) (both-so (is_naming_class c) (has c k) e h)

naming-kids : (k : Kind) → (all_classes is_naming_class (places_of k) || not (is_naming k)) ≡ true
naming-kids (kind.Hole s) = refl
naming-kids _ = refl

all-naming : (f : Forest) → WellFormed f → Passes is_naming f → AllOfKind is_naming f
all-naming Nil c p = tt
all-naming (Cons k w ns ks ts) c p = (
  p.0,
  all-naming ks c.3
      (row-passes is_naming is_naming_class class-naming k 0 ks (either-way (all_classes is_naming_class (places_of k)) (is_naming k) (naming-kids k) p.0) (node-takes k w ks c.0)),
  all-naming ts c.4 p.1,
)

naming-typeless : (k : Kind) → is_naming k ≡ true → is_typeless k ≡ true
naming-typeless (kind.Hole s) e = refl
naming-typeless kind.Typedef e = absurd (true≢false (sym e))
naming-typeless _ e = refl

-- ---- the kids of a routine, and of a program

-- such nodes, and blocks
abbrev is_kid : Kind → Bool
is_kid kind.Block = true
is_kid k = is_naming k

abbrev is_kid_class : Class → Bool
is_kid_class class.Name = true
is_kid_class class.Heads = true
is_kid_class class.Params = true
is_kid_class class.Block = true
is_kid_class _ = false

kid-class : (c : Class) (k : Kind) → (is_kid k || not (is_kid_class c && has c k)) ≡ true
kid-class class.Name (kind.Hole s) = refl
kid-class class.Name _ = refl
kid-class class.Heads (kind.Hole s) = refl
kid-class class.Heads _ = refl
kid-class class.Params (kind.Hole s) = refl
kid-class class.Params _ = refl
kid-class class.Block (kind.Hole s) = refl
kid-class class.Block _ = refl
kid-class _ k = either-true (is_kid k)

class-kid : (c : Class) (k : Kind) → is_kid_class c ≡ true → has c k ≡ true → is_kid k ≡ true
class-kid c k e h = either-way (is_kid k) (is_kid_class c && has c k) (kid-class c k) (both-so (is_kid_class c) (has c k) e h)

heading-kids : (k : Kind) → (all_classes is_kid_class (places_of k) || not (has_heading k)) ≡ true
heading-kids (kind.Hole s) = refl
heading-kids _ = refl

kids-typeless : (f : Forest) → WellFormed f → Passes is_kid f → AllOfKind is_typeless (heading_part f)
kids-typeless Nil c p = tt
kids-typeless (Cons kind.Block w ns ks ts) c p = (refl, tt, kids-typeless ts c.4 p.1)
kids-typeless (Cons k w ns ks ts) c p =
    let here = all-map is_naming is_typeless naming-typeless (Cons k w ns ks Nil) (all-naming (Cons k w ns ks Nil) (c.0, c.1, c.2, c.3, tt) (p.0, tt)) in
    (here.0, here.1, kids-typeless ts c.4 p.1)

-- a heading has no type definitions
pub heading-typeless : (k : Kind) (w : List ℕ) (f : Forest) → has_heading k ≡ true → fits_some (layout k w (count f)) (kinds f) ≡ true → WellFormed f → AllOfKind is_typeless (heading_part f)
heading-typeless k w f h e c =
    kids-typeless f c (row-passes is_kid is_kid_class class-kid k 0 f (either-way (all_classes is_kid_class (places_of k)) (has_heading k) (heading-kids k) h) (node-takes k w f e))
