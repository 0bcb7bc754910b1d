-- The kinds of nodes in the declaration parts of a well-formed block.
use Rattle.std.specs.Prelude.{◌≡◌, Bool, true, false, not, ◌&&◌, ◌||◌}
use Rattle.std.proofs.Common.{refl, ap, sym, true≢false}
use Rattle.pc_syntax.specs.declared.kind.Kind.{Kind}
use Rattle.pc_syntax.specs.declared.kind.Kind.TheVariants as kind
use Rattle.pc_syntax.specs.declared.class.Class.{Class}
use Rattle.pc_syntax.specs.declared.class.Class.TheVariants as class
use Rattle.pc_syntax.specs.Classes.{has}
use Rattle.pc_syntax.specs.Plain.{Forest, Nil, Cons, Plain}
use Rattle.pc_syntax.specs.Slots.{places_of}
use Rattle.pc_syntax.specs.WellFormed.{WellFormed, IsWellFormed}
use Rattle.pc_rules.specs.OwnBlock.{own}
use Rattle.pc_needs.proofs.BodyKinds.{either-way, Passes, all_classes, row-passes, node-takes}
use Rattle.pc_carrying.specs.Carrying.{is_denoting, AllDenoting, is_defining, AllDefining}
use Rattle.pc_carrying.specs.Parts.{is_variable, AllVariables, is_routine, AllRoutines, is_naming, AllNaming, is_group, AllGroups, KindLaw}

both-so : (a b : Bool) → a ≡ true → b ≡ true → (a && b) ≡ true
both-so true b e f = f
both-so false b e f = absurd (true≢false (sym e))

either-true : (b : Bool) → (b || true) ≡ true
either-true true = refl
either-true false = refl

-- ---- denoters

abbrev is_denoting_class : Class → Bool
is_denoting_class class.Denoter = true
is_denoting_class class.Structured = true
is_denoting_class class.Ordinal = true
is_denoting_class class.Field = true
is_denoting_class class.Constant = true
is_denoting_class class.Bare = true
is_denoting_class class.Name = true
is_denoting_class class.Names = true
is_denoting_class class.Indexes = true
is_denoting_class class.Fields = true
is_denoting_class _ = false

class-so : (c : Class) (k : Kind) → (is_denoting k || not (is_denoting_class c && has c k)) ≡ true
class-so class.Denoter (kind.Hole s) = refl
class-so class.Denoter _ = refl
class-so class.Structured (kind.Hole s) = refl
class-so class.Structured _ = refl
class-so class.Ordinal (kind.Hole s) = refl
class-so class.Ordinal _ = refl
class-so class.Field (kind.Hole s) = refl
class-so class.Field _ = refl
class-so class.Constant (kind.Hole s) = refl
class-so class.Constant _ = refl
class-so class.Bare (kind.Hole s) = refl
class-so class.Bare _ = refl
class-so class.Name (kind.Hole s) = refl
class-so class.Name _ = refl
class-so class.Names (kind.Hole s) = refl
class-so class.Names _ = refl
class-so class.Indexes (kind.Hole s) = refl
class-so class.Indexes _ = refl
class-so class.Fields (kind.Hole s) = refl
class-so class.Fields _ = refl
class-so _ k = either-true (is_denoting k)

class-denoting : (c : Class) (k : Kind) → is_denoting_class c ≡ true → has c k ≡ true → is_denoting k ≡ true
class-denoting c k e h = either-way (is_denoting k) (is_denoting_class c && has c k) (class-so c k) (both-so (is_denoting_class c) (has c k) e h)

-- the kids of nodes that pass a test are at or below denoters
kids-denoting : (test : Kind → Bool) → ((k : Kind) → (all_classes is_denoting_class (places_of k) || not (test k)) ≡ true) → (k : Kind) → test k ≡ true → all_classes is_denoting_class (places_of k) ≡ true
kids-denoting test h k e = either-way (all_classes is_denoting_class (places_of k)) (test k) (h k) e

denoting-so : (k : Kind) → (all_classes is_denoting_class (places_of k) || not (is_denoting k)) ≡ true
denoting-so (kind.Hole s) = refl
denoting-so _ = refl

all-denoting : (f : Forest) → WellFormed f → Passes is_denoting f → AllDenoting f
all-denoting Nil c p = tt
all-denoting (Cons k w ns ks ts) c p = (
  p.0,
  all-denoting ks c.3 (row-passes is_denoting is_denoting_class class-denoting k 0 ks (kids-denoting is_denoting denoting-so k p.0) (node-takes k w ks c.0)),
  all-denoting ts c.4 p.1,
)

-- ---- definitions

abbrev is_defining_class : Class → Bool
is_defining_class class.Constdef = true
is_defining_class class.Typedef = true
is_defining_class _ = false

defining-class-so : (c : Class) (k : Kind) → (is_defining k || not (is_defining_class c && has c k)) ≡ true
defining-class-so class.Constdef (kind.Hole s) = refl
defining-class-so class.Constdef _ = refl
defining-class-so class.Typedef (kind.Hole s) = refl
defining-class-so class.Typedef _ = refl
defining-class-so _ k = either-true (is_defining k)

class-defining : (c : Class) (k : Kind) → is_defining_class c ≡ true → has c k ≡ true → is_defining k ≡ true
class-defining c k e h = either-way (is_defining k) (is_defining_class c && has c k) (defining-class-so c k) (both-so (is_defining_class c) (has c k) e h)

defining-so : (k : Kind) → (all_classes is_denoting_class (places_of k) || not (is_defining k)) ≡ true
defining-so (kind.Hole s) = refl
defining-so _ = refl

all-defining : (f : Forest) → WellFormed f → Passes is_defining f → AllDefining f
all-defining Nil c p = tt
all-defining (Cons k w ns ks ts) c p = (
  p.0,
  all-denoting ks c.3 (row-passes is_denoting is_denoting_class class-denoting k 0 ks (kids-denoting is_defining defining-so k p.0) (node-takes k w ks c.0)),
  all-defining ts c.4 p.1,
)

-- ---- variables

abbrev is_variable_class : Class → Bool
is_variable_class class.Vardef = true
is_variable_class _ = false

variable-class-so : (c : Class) (k : Kind) → (is_variable k || not (is_variable_class c && has c k)) ≡ true
variable-class-so class.Vardef (kind.Hole s) = refl
variable-class-so class.Vardef _ = refl
variable-class-so _ k = either-true (is_variable k)

class-variable : (c : Class) (k : Kind) → is_variable_class c ≡ true → has c k ≡ true → is_variable k ≡ true
class-variable c k e h = either-way (is_variable k) (is_variable_class c && has c k) (variable-class-so c k) (both-so (is_variable_class c) (has c k) e h)

variable-so : (k : Kind) → (all_classes is_denoting_class (places_of k) || not (is_variable k)) ≡ true
variable-so (kind.Hole s) = refl
variable-so _ = refl

all-variables : (f : Forest) → WellFormed f → Passes is_variable f → AllVariables f
all-variables Nil c p = tt
all-variables (Cons k w ns ks ts) c p = (
  p.0,
  all-denoting ks c.3 (row-passes is_denoting is_denoting_class class-denoting k 0 ks (kids-denoting is_variable variable-so k p.0) (node-takes k w ks c.0)),
  all-variables ts c.4 p.1,
)

-- ---- routines

abbrev is_element_class : Class → Bool
is_element_class class.Routine = true
is_element_class _ = false

element-class-so : (c : Class) (k : Kind) → (is_routine k || not (is_element_class c && has c k)) ≡ true
element-class-so class.Routine (kind.Hole s) = refl
element-class-so class.Routine _ = refl
element-class-so _ k = either-true (is_routine k)

class-element : (c : Class) (k : Kind) → is_element_class c ≡ true → has c k ≡ true → is_routine k ≡ true
class-element c k e h = either-way (is_routine k) (is_element_class c && has c k) (element-class-so c k) (both-so (is_element_class c) (has c k) e h)

all-routines : (f : Forest) → Passes is_routine f → AllRoutines f
all-routines Nil p = tt
all-routines (Cons k w ns ks ts) p = (p.0, all-routines ts p.1)

own-routines : (f : Forest) → AllRoutines f → AllRoutines (own f)
unfolding own
own-routines Nil a = tt
own-routines (Cons k w ns ks ts) a = (a.0, own-routines ts a.1)

-- ---- parameters

abbrev is_naming_class : Class → Bool
is_naming_class class.Name = true
is_naming_class class.Names = true
is_naming_class _ = false

naming-class-so : (c : Class) (k : Kind) → (is_naming k || not (is_naming_class c && has c k)) ≡ true
naming-class-so class.Name (kind.Hole s) = refl
naming-class-so class.Name _ = refl
naming-class-so class.Names (kind.Hole s) = refl
naming-class-so class.Names _ = refl
naming-class-so _ k = either-true (is_naming k)

class-naming : (c : Class) (k : Kind) → is_naming_class c ≡ true → has c k ≡ true → is_naming k ≡ true
class-naming c k e h = either-way (is_naming k) (is_naming_class c && has c k) (naming-class-so c k) (both-so (is_naming_class c) (has c k) e h)

all-naming : (f : Forest) → Passes is_naming f → AllNaming f
all-naming Nil p = tt
all-naming (Cons k w ns ks ts) p = (p.0, all-naming ts p.1)

abbrev is_group_class : Class → Bool
is_group_class class.Parameter = true
is_group_class _ = false

group-class-so : (c : Class) (k : Kind) → (is_group k || not (is_group_class c && has c k)) ≡ true
group-class-so class.Parameter (kind.Hole s) = refl
group-class-so class.Parameter _ = refl
group-class-so _ k = either-true (is_group k)

class-group : (c : Class) (k : Kind) → is_group_class c ≡ true → has c k ≡ true → is_group k ≡ true
class-group c k e h = either-way (is_group k) (is_group_class c && has c k) (group-class-so c k) (both-so (is_group_class c) (has c k) e h)

group-so : (k : Kind) → (all_classes is_naming_class (places_of k) || not (is_group k)) ≡ true
group-so (kind.Hole s) = refl
group-so _ = refl

all-groups : (f : Forest) → WellFormed f → Passes is_group f → AllGroups f
all-groups Nil c p = tt
all-groups (Cons k w ns ks ts) c p = (
  p.0,
  all-naming ks (row-passes is_naming is_naming_class class-naming k 0 ks (either-way (all_classes is_naming_class (places_of k)) (is_group k) (group-so k) p.0) (node-takes k w ks c.0)),
  all-groups ts c.4 p.1,
)

-- ---- where they stand

denoter-kinds : (t : Plain) → IsWellFormed t → is_denoting t.kind ≡ true → AllDenoting (Cons t.kind t.word t.notes t.kids Nil)
denoter-kinds t c e = all-denoting (Cons t.kind t.word t.notes t.kids Nil) c (e, tt)

in-definition : (t : Plain) → IsWellFormed t → is_defining t.kind ≡ true → AllDenoting t.kids
in-definition t c e = (all-defining (Cons t.kind t.word t.notes t.kids Nil) c (e, tt)).1

in-variable : (t : Plain) → IsWellFormed t → is_variable t.kind ≡ true → AllDenoting t.kids
in-variable t c e = (all-variables (Cons t.kind t.word t.notes t.kids Nil) c (e, tt)).1

in-constants : (t : Plain) → IsWellFormed t → t.kind ≡ kind.Consts → AllDefining t.kids
in-constants t c e =
    all-defining t.kids c.3
    (row-passes is_defining is_defining_class class-defining t.kind 0 t.kids (ap (λ (k : Kind). all_classes is_defining_class (places_of k)) e) (node-takes t.kind t.word t.kids c.0))

in-types : (t : Plain) → IsWellFormed t → t.kind ≡ kind.Types → AllDefining t.kids
in-types t c e =
    all-defining t.kids c.3
    (row-passes is_defining is_defining_class class-defining t.kind 0 t.kids (ap (λ (k : Kind). all_classes is_defining_class (places_of k)) e) (node-takes t.kind t.word t.kids c.0))

in-variables : (t : Plain) → IsWellFormed t → t.kind ≡ kind.Vars → AllVariables t.kids
in-variables t c e =
    all-variables t.kids c.3
    (row-passes is_variable is_variable_class class-variable t.kind 0 t.kids (ap (λ (k : Kind). all_classes is_variable_class (places_of k)) e) (node-takes t.kind t.word t.kids c.0))

in-routines : (t : Plain) → IsWellFormed t → t.kind ≡ kind.Routines → AllRoutines t.kids
in-routines t c e =
    all-routines t.kids
    (row-passes is_routine is_element_class class-element t.kind 0 t.kids (ap (λ (k : Kind). all_classes is_element_class (places_of k)) e) (node-takes t.kind t.word t.kids c.0))

in-parameters : (t : Plain) → IsWellFormed t → t.kind ≡ kind.Params → AllGroups t.kids
in-parameters t c e =
    all-groups t.kids c.3
    (row-passes is_group is_group_class class-group t.kind 0 t.kids (ap (λ (k : Kind). all_classes is_group_class (places_of k)) e) (node-takes t.kind t.word t.kids c.0))

-- these hold
pub kind-law : KindLaw
kind-law = record {
  denoter = denoter-kinds;
  definition = in-definition;
  variable = in-variable;
  constants = in-constants;
  types = in-types;
  variables = in-variables;
  routines = in-routines;
  parameters = in-parameters;
  own_routines = own-routines;
}
