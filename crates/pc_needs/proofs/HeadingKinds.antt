-- The kinds of nodes of headings, of declaration parts and of lists of routines.
use Rattle.std.specs.Prelude.{ℕ, ◌≡◌, Bool, true, false, not, ◌&&◌, ◌||◌, List}
use Rattle.std.proofs.Common.{refl, sym, true≢false}
use Rattle.pc_syntax.specs.declared.kind.Kind.{Kind}
use Rattle.pc_syntax.specs.declared.kind.Kind.TheVariants as kind
use Rattle.pc_syntax.specs.declared.sort.Sort.TheVariants as sort
use Rattle.pc_syntax.specs.declared.class.Class.{Class}
use Rattle.pc_syntax.specs.declared.class.Class.TheVariants as class
use Rattle.pc_syntax.specs.Classes.{has, is_body}
use Rattle.pc_syntax.specs.Layout.{layout}
use Rattle.pc_syntax.specs.Plain.{Forest, count, kinds}
use Rattle.pc_syntax.specs.Slots.{places_of}
use Rattle.pc_syntax.specs.WellFormed.{fits_some}
use Rattle.pc_scope.specs.Headings.{is_routine_kind}
use Rattle.pc_rules.specs.RoutineList.{Part, ARoutine, AllRoutines, NoRoutine, part_of}
use Rattle.pc_needs.specs.Bodies.{holds_bodies}
use Rattle.pc_needs.proofs.BodyKinds.{either-way, Passes, all_classes, row-passes, node-takes}

-- ---- headings

-- whether it is the block
abbrev pub is_the_block : Kind → Bool
is_the_block kind.Block = true
is_the_block _ = false

-- a kid of a routine is no statement part, and none stands below it, unless it is the block
abbrev pub is_of_heading : Kind → Bool
is_of_heading k = not (is_body k) && (is_the_block k || not (holds_bodies k))

abbrev pub is_heading_class : Class → Bool
is_heading_class class.Name = true
is_heading_class class.Params = true
is_heading_class class.Heads = true
is_heading_class class.Block = true
is_heading_class c = false

name-heading : (k : Kind) → (is_of_heading k || not (has class.Name k)) ≡ true
name-heading (kind.Hole sort.Statement) = refl
name-heading (kind.Hole _) = refl
name-heading _ = refl

params-heading : (k : Kind) → (is_of_heading k || not (has class.Params k)) ≡ true
params-heading (kind.Hole sort.Statement) = refl
params-heading (kind.Hole _) = refl
params-heading _ = refl

heads-heading : (k : Kind) → (is_of_heading k || not (has class.Heads k)) ≡ true
heads-heading (kind.Hole sort.Statement) = refl
heads-heading (kind.Hole _) = refl
heads-heading _ = refl

block-heading : (k : Kind) → (is_of_heading k || not (has class.Block k)) ≡ true
block-heading (kind.Hole sort.Statement) = refl
block-heading (kind.Hole _) = refl
block-heading _ = refl

class-heading : (c : Class) (k : Kind) → is_heading_class c ≡ true → has c k ≡ true → is_of_heading k ≡ true
class-heading class.Name k e h = either-way (is_of_heading k) (has class.Name k) (name-heading k) h
class-heading class.Params k e h = either-way (is_of_heading k) (has class.Params k) (params-heading k) h
class-heading class.Heads k e h = either-way (is_of_heading k) (has class.Heads k) (heads-heading k) h
class-heading class.Block k e h = either-way (is_of_heading k) (has class.Block k) (block-heading k) h
class-heading c k e h = absurd (true≢false (sym e))

-- a routine, or a program
abbrev pub has_heading : Kind → Bool
has_heading kind.Program = true
has_heading k = is_routine_kind k

kids-heading : (k : Kind) → (all_classes is_heading_class (places_of k) || not (has_heading k)) ≡ true
kids-heading (kind.Hole s) = refl
kids-heading _ = refl

pub heading-row : (k : Kind) (w : List ℕ) (f : Forest) → has_heading k ≡ true → fits_some (layout k w (count f)) (kinds f) ≡ true → Passes is_of_heading f
heading-row k w f e c =
    row-passes is_of_heading is_heading_class class-heading k 0 f (either-way (all_classes is_heading_class (places_of k)) (has_heading k) (kids-heading k) e) (node-takes k w f c)

-- ---- declaration parts, and lists of routines

-- whether a part is no routine and has none
abbrev pub is_none : Part → Bool
is_none ARoutine = false
is_none AllRoutines = false
is_none NoRoutine = true

-- a node of a block that stays as it is: no statement part is at or below it, and no routine
abbrev pub is_front : Kind → Bool
is_front k = not (is_body k) && (not (holds_bodies k) && (is_none (part_of k) && not (is_routine_kind k)))

pub consts-front : (k : Kind) → (is_front k || not (has class.Consts k)) ≡ true
consts-front (kind.Hole sort.Statement) = refl
consts-front (kind.Hole _) = refl
consts-front _ = refl

pub types-front : (k : Kind) → (is_front k || not (has class.Types k)) ≡ true
types-front (kind.Hole sort.Statement) = refl
types-front (kind.Hole _) = refl
types-front _ = refl

pub vars-front : (k : Kind) → (is_front k || not (has class.Vars k)) ≡ true
vars-front (kind.Hole sort.Statement) = refl
vars-front (kind.Hole _) = refl
vars-front _ = refl

-- an element of a list of routines
abbrev pub is_element : Kind → Bool
is_element k = is_routine_kind k || is_front k

routine-element : (k : Kind) → (is_element k || not (has class.Routine k)) ≡ true
routine-element (kind.Hole sort.Statement) = refl
routine-element (kind.Hole _) = refl
routine-element _ = refl

abbrev is_element_class : Class → Bool
is_element_class class.Routine = true
is_element_class c = false

class-element : (c : Class) (k : Kind) → is_element_class c ≡ true → has c k ≡ true → is_element k ≡ true
class-element class.Routine k e h = either-way (is_element k) (has class.Routine k) (routine-element k) h
class-element c k e h = absurd (true≢false (sym e))

pub list-row : (w : List ℕ) (f : Forest) → fits_some (layout kind.Routines w (count f)) (kinds f) ≡ true → Passes is_element f
list-row w f c = row-passes is_element is_element_class class-element kind.Routines 0 f refl (node-takes kind.Routines w f c)

-- a list of routines is that
pub routines-kind : (k : Kind) → has class.Routines k ≡ true → k ≡ kind.Routines
routines-kind kind.Routines e = refl
routines-kind _ e = absurd (true≢false (sym e))

-- a routine holds statement parts, and isn't one
pub routine-holds : (k : Kind) → ((not (is_body k) && holds_bodies k) || not (is_routine_kind k)) ≡ true
routine-holds (kind.Hole sort.Statement) = refl
routine-holds (kind.Hole _) = refl
routine-holds _ = refl

pub routine-part : (k : Kind) → is_routine_kind k ≡ true → part_of k ≡ ARoutine
routine-part kind.Procedure e = refl
routine-part kind.Function e = refl
routine-part kind.Funbody e = refl
routine-part _ e = absurd (true≢false (sym e))

pub routine-has-heading : (k : Kind) → is_routine_kind k ≡ true → has_heading k ≡ true
routine-has-heading kind.Procedure e = refl
routine-has-heading kind.Function e = refl
routine-has-heading kind.Funbody e = refl
routine-has-heading _ e = absurd (true≢false (sym e))
