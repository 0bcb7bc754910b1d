-- The rules of variables have an entry exactly where the judgement on shapes holds.
use Rattle.std.proofs.Common.{◌≡◌, Bool, true, false, not, if◌then◌else◌, List, [], ◌++◌, Option, Some, None, codes, refl}
use Rattle.pc_syntax.specs.Words.{lowered}
use Rattle.pc_syntax.specs.Sorts.{is_hole}
use Rattle.pc_types.specs.Shapes.{Typed}
use Rattle.pc_rules.specs.Attributes.{Entry, Node}
use Rattle.pc_rules.specs.Components as components
use Rattle.pc_rules.specs.Entries.{note, note_if}
use Rattle.pc_facts.specs.Shows.{shape_of}
use Rattle.pc_access_rules.specs.Accessed.{is_no_record, is_no_pointer, lacks_field}

turned : (b : Bool) (e : List Entry) → (if b then [] else e) ≡ (if not b then e else [])
turned true e = refl
turned false e = refl

pub no_record-judged : (t : Option Typed) → components.no_record t ≡ note_if (is_no_record (shape_of t)) 15 (codes "not a record")
no_record-judged None = refl
no_record-judged (Some t) = turned (components.is_record t.shape) (note 15 (codes "not a record"))

pub no_pointer-judged : (t : Option Typed) → components.no_pointer components.is_made_pointer t ≡ note_if (is_no_pointer (shape_of t)) 15 (codes "not a pointer")
no_pointer-judged None = refl
no_pointer-judged (Some t) = turned (components.is_made_pointer t.shape) (note 15 (codes "not a pointer"))

pub no_field-judged : (t : Option Typed) (field : Node) → components.no_field t field ≡ note_if (lacks_field (shape_of t) (lowered field.word) (is_hole field.kind)) 4 (codes "not a field: " ++ field.word)
no_field-judged None field = refl
no_field-judged (Some t) field = refl
