-- For statements (ISO 7185, 6.8.3.9).
use Rattle.std.specs.Prelude.{ℕ, Bool, false, not, ◌&&◌, ◌||◌, if◌then◌else◌, List, [], ◌∷◌, Option, Some, None, codes, ◌++◌}
use Rattle.std.specs.Str.{bytes_eq}
use Rattle.pc_syntax.specs.Sorts.{is_hole}
use Rattle.pc_syntax.specs.Words.{lowered}
use Rattle.pc_types.specs.TypeClasses.{is_ordinal}
use Rattle.pc_types.specs.Compatibility.{compatible}
use Rattle.pc_types.specs.Sameness.{same_owner}
use Rattle.pc_types.specs.Shapes.{Owner, Shape, Typed}
use Rattle.pc_rules.specs.Attributes.{at_kid, Entry, Attributes, Node, judged}
use Rattle.pc_rules.specs.Entries.{note, note_if, quoted, disagree, no_ordinal}
use Rattle.pc_rules.specs.HandedOn.{kid_entries, statement_node}
use Rattle.pc_rules.specs.Meanings.{Found, Here, Local}
use Rattle.pc_rules.specs.NameClasses.{is_own_variable}
use Rattle.pc_rules.specs.Variables.{variable_type, variable_entries, variable_of}

-- whether a name means a variable of the variable declaration part of this block
abbrev pub is_local : Owner → Found → Bool
is_local o (Here m) = is_own_variable m.class && same_owner o m.owner
is_local o f = false

-- whether a variable is among these
abbrev pub stands_among : List (Owner × List ℕ) → Owner → List ℕ → Bool
stands_among [] o n = false
stands_among (v ∷ vs) o n = (same_owner v.0 o && bytes_eq v.1 n) || stands_among vs o n

-- rows 18 and 19 of the control variable
abbrev pub control_entries : Owner → Node → Bool → List Entry
control_entries o control changed =
    if is_hole control.kind then []
    else if not (is_local o control.found) then note 18 (quoted (codes "control variable not local") control.word)
    else note_if changed 19 (quoted (codes "control variable is changed") control.word)

-- row 11 where the control variable has a type that isn't compatible with a bound's
abbrev pub incompatible : Option Typed → Shape → List Entry
incompatible None b = []
incompatible (Some t) b = if compatible t.shape b then [] else disagree

-- a bound, beside the control variable's type: row 8, or row 11
abbrev pub bound_entries : Option Typed → Option Typed → List Entry
bound_entries control None = []
bound_entries control (Some b) = if is_ordinal b.shape then incompatible control b.shape else no_ordinal (Some b)

-- a for statement: a routine in the block, or the body, may change the control variable
abbrev pub for_rule : Local → Node → Node → Node → Node → Attributes
for_rule l control first last body =
    let n = lowered control.word in
    let changed = control.changed || stands_among body.touches l.owner n in
    let c = judged (is_hole control.kind) (variable_entries control ++ control_entries l.owner control changed) (variable_type control.found) in
    statement_node (control ∷ first ∷ last ∷ body ∷ [])
    (kid_entries 2 (first ∷ last ∷ body ∷ []) ++ at_kid 2 (bound_entries c.type first.as_value.type) ++ at_kid 3 (bound_entries c.type last.as_value.type)
    ++ at_kid 1 c.entries) (variable_of n control.found)
