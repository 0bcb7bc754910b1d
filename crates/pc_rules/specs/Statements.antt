-- Statements (ISO 7185, 6.8.2.2, 6.8.3.4, 6.8.3.7, 6.8.3.8, 6.8.3.10).
use Rattle.std.specs.Prelude.{List, [], ◌∷◌, Option, None, codes, option_map, ◌++◌}
use Rattle.pc_types.specs.Shapes.{Shape, Typed}
use Rattle.pc_types.specs.TypeClasses.{is_boolean}
use Rattle.pc_rules.specs.Attributes.{at_kid, Entry, Attributes, Node, judged, each_kid}
use Rattle.pc_rules.specs.Components.{no_record}
use Rattle.pc_rules.specs.Entries.{note, unassignable, unless}
use Rattle.pc_rules.specs.HandedOn.{kid_entries, any_hole, all_opens, handed_on, statement_node}

-- row 17, where the type is known
abbrev pub no_condition : Option Typed → List Entry
no_condition t = unless is_boolean t (note 17 (codes "condition is not Boolean"))

-- the shape of a type that may be unknown
abbrev pub shape_of : Option Typed → Option Shape
shape_of t = option_map (λ (x : Typed). x.shape) t

-- an assignment, with row 11 where the value doesn't fit the target
abbrev pub assign_rule : Node → Node → Attributes
assign_rule target value =
    statement_node (target ∷ value ∷ [])
    (at_kid 1 target.as_target.entries ++ at_kid 2 value.as_value.entries ++ unassignable (shape_of target.as_target.type) value.as_value.type) target.variable

-- a statement whose condition comes first: if, with an else or without, and while
abbrev pub condition_rule : Node → List Node → Attributes
condition_rule condition bodies =
    statement_node (condition ∷ bodies) (kid_entries 1 (condition ∷ bodies) ++ at_kid 1 (no_condition condition.as_value.type)) []

-- repeat
abbrev pub repeat_rule : Node → Node → Attributes
repeat_rule stmts condition =
    statement_node (stmts ∷ condition ∷ []) (kid_entries 1 (stmts ∷ condition ∷ []) ++ at_kid 2 (no_condition condition.as_value.type)) []

-- an access that a with names, with row 15
abbrev pub opened_entries : Node → List Entry
opened_entries access = access.as_place.entries ++ no_record access.as_place.type

-- the records of a with, whose fields what stands to the right sees
abbrev pub records_rule : List Node → Attributes
records_rule accesses = record (handed_on accesses) { as_value = judged (any_hole accesses) (each_kid opened_entries 1 accesses) None; opens = all_opens accesses }
