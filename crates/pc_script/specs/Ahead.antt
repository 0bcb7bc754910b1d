-- What is still to come: some items, and whether a script goes on after them.
use Rattle.std.specs.Prelude.{◌≡◌, Bool, true, false, ◌||◌, List, [], ◌∷◌}
use Rattle.pc_script.specs.declared.ahead.Next.{Next}
use Rattle.pc_script.specs.declared.ahead.Next.TheVariants.{Item, End, TooMany}

-- Items, and whether the script goes on after them in a way that isn't known, or that may not be read.
pub record Ahead (X : Type 0) : Type 0 where
  pub items : List X
  pub further : Bool

-- The same items, after which more may come.
abbrev pub or_more : {X : Type 0} → Bool → Ahead X → Ahead X
or_more more a = record { items = a.items; further = more || a.further }

-- No item, but the script goes on.
abbrev pub IsCutOff : {X : Type 0} → Ahead X → Type 0
IsCutOff a = (a.items ≡ []) × (a.further ≡ true)

-- No item, and the script doesn't go on.
abbrev pub IsDone : {X : Type 0} → Ahead X → Type 0
IsDone a = (a.items ≡ []) × (a.further ≡ false)

-- From a, this came next, and b is still to come.
abbrev pub Takes : {X : Type 0} → Next X → Ahead X → Ahead X → Type 0
Takes (Item x) a b = (a.items ≡ x ∷ b.items) × (b.further ≡ a.further)
Takes End a b = IsDone a × IsDone b
Takes TooMany a b = IsCutOff a × IsCutOff b

-- Nothing came.
abbrev pub IsSame : {X : Type 0} → Ahead X → Ahead X → Type 0
IsSame a b = b ≡ a
