-- How many kids a form has, and of which classes.
use Rattle.std.specs.Prelude.{◌≡◌, ℕ, Bool, true, false, if◌then◌else◌, List, [], ◌∷◌, Option, Some, None, length}
use Rattle.pc_syntax.specs.declared.kind.Kind.{Kind}
use Rattle.pc_syntax.specs.declared.class.Class.{Class}
use Rattle.pc_syntax.specs.Plain.{Plain}
use Rattle.pc_syntax.specs.Classes.{has}
use Rattle.pc_syntax.specs.Slots.{is_list, places_of}

-- how many kids a kind has, where it is no list
abbrev pub fixed_count : Kind → Option ℕ
fixed_count k = if is_list k then None else Some (length (places_of k))

-- P holds of each tree of a list; it computes to what holds of each
abbrev pub Every : (Plain → Type 0) → List Plain → Type 0
Every P [] = Unit {0}
Every P (k ∷ ks) = P k × Every P ks

-- each tree of a list has the class that stands at its place
abbrev pub HasClasses : List Class → List Plain → Type 0
HasClasses (c ∷ cs) (k ∷ ks) = (has c k.kind ≡ true) × HasClasses cs ks
HasClasses _ _ = Unit {0}

-- each tree of a list has the first of the classes, the class of its elements
abbrev pub AllHave : List Class → List Plain → Type 0
AllHave [] ks = Unit {0}
AllHave (c ∷ cs) ks = Every (λ k. has c k.kind ≡ true) ks

-- the second of a list, the first of any other node
abbrev pub HasKidsIf : Bool → List Class → List Plain → Type 0
HasKidsIf true cs ks = AllHave cs ks
HasKidsIf false cs ks = HasClasses cs ks

-- the kids of a node of a kind have their classes
abbrev pub HasKids : Kind → List Plain → Type 0
HasKids k ks = HasKidsIf (is_list k) (places_of k) ks
