-- What is found at a node where it stands, and at trees in a row.
use Rattle.std.specs.Prelude.{ℕ, List, [], ◌∷◌}
use Rattle.pc_syntax.specs.Plain.{Nil, Cons, Plain}
use Rattle.pc_rules.specs.Meanings.{Local, Outside}
use Rattle.pc_rules.specs.Attributes.{Attributes, Marked, Done, Mark, first}
use Rattle.pc_rules.specs.Places.{inner, beside}
use Rattle.pc_rules.specs.Decorated.{decorate}

-- what is found at a node
abbrev pub attributes_at : Outside → Local → Plain → Attributes
attributes_at out l t = first (decorate out l (Cons t.kind t.word t.notes t.kids Nil))

-- what is found below it
abbrev pub below_at : Outside → Local → Plain → Marked
below_at out l t = decorate out (inner l t.kind t.kids) t.kids

-- where the node behind it stands
abbrev pub place_behind : Outside → Local → Plain → Local
place_behind out l t = beside l t.kind (attributes_at out l t)

-- what is found at trees in a row, from where the first stands
abbrev pub marks_of : Outside → Local → List Plain → Marked
marks_of out l [] = Done
marks_of out l (t ∷ ts) = Mark (attributes_at out l t) (below_at out l t) (marks_of out (place_behind out l t) ts)

-- where the node behind trees in a row stands
abbrev pub place_after : Outside → Local → List Plain → Local
place_after out l [] = l
place_after out l (t ∷ ts) = place_after out (place_behind out l t) ts
