use Rattle.std.proofs.Common.{◌≡◌, ◌+◌, ◌*◌, [], false, take}
use Rattle.pc_syntax.specs.WellFormed.{size_of}
use Rattle.pc_denoters.specs.FieldNaming.{AreTwice, all_field_names}
use Rattle.pc_denoters.specs.FieldRows.{ShowsField}
use Rattle.pc_denoters.specs.Goings.{ShowsFacts, IsAmong, MakesRow}
use Rattle.pc_denoters.proofs.denoters.+denoters.Given as goal

abbrev pub decreases-denoter : goal.decreases-denoter
decreases-denoter l = 2 * size_of l.node.now

abbrev pub decreases-packed_of : goal.decreases-packed_of
decreases-packed_of l = 2 * size_of l.unpacked.now + 1

abbrev pub decreases-set_of : goal.decreases-set_of
decreases-set_of l = 2 * size_of l.base.now + 1

abbrev pub decreases-array_of : goal.decreases-array_of
decreases-array_of l = 2 * (size_of l.indexes.now + size_of l.element.now) + 1

abbrev pub decreases-index_types : goal.decreases-index_types
decreases-index_types l = 2 * size_of l.list.now

abbrev pub invariant-index_types-loop-kid : goal.invariant-index_types-loop-kid
invariant-index_types-loop-kid l =
    MakesRow ShowsFacts (IsAmong l.here 1 false) l.block.0 l.owner.0 l.initial.tables l.tables (take l.kid-index l.kid-items) l.found.items × (l.i ≡ l.kid-index)

abbrev pub decreases-record_of : goal.decreases-record_of
decreases-record_of l = 2 * size_of l.fields.now + 1

abbrev pub decreases-field_lists : goal.decreases-field_lists
decreases-field_lists l = 2 * size_of l.list.now

abbrev pub invariant-field_lists-loop-kid : goal.invariant-field_lists-loop-kid
invariant-field_lists-loop-kid l =
    MakesRow ShowsField (IsAmong l.here 1 false) l.block.0 l.owner.0 l.initial.tables l.tables (take l.kid-index l.kid-items) l.found.items × (l.i ≡ l.kid-index)
    × (l.before.items ≡ all_field_names (take l.kid-index l.kid-items)) × AreTwice [] l.found.items (take l.kid-index l.kid-items)

abbrev pub decreases-field_list : goal.decreases-field_list
decreases-field_list l = 2 * size_of l.node.now
