-- What the objects in memory tell.
use Rattle.std.specs.Prelude.{ℕ, ◌-◌, List, length, Option, Some, take, drop}
use Rattle.std.specs.FinMap.{from_entries}
use Rattle.pc_world.specs.Files.{Files}
use Rattle.pc_world.specs.Plan.{Plan, plan_of}
use Rattle.pc_world.specs.declared.memory_source.MemSource.{MemSource}
use Rattle.pc_world.specs.declared.memory_sink.MemSink.{MemSink}
use Rattle.pc_world.specs.declared.memory_shelf.MemShelf.{MemShelf}

-- The bytes that the source has left.
abbrev pub source_left : MemSource → Option (List ℕ)
source_left s = Some (drop s.taken s.bytes.items)

-- The source's count of faults.
abbrev pub source_faults : MemSource → ℕ
source_faults s = s.failures.faults

-- Which reads of the source fail.
abbrev pub source_plan : MemSource → Plan
source_plan s = plan_of s.failures

-- The bytes that were written to the sink.
abbrev pub sink_written : MemSink → Option (List ℕ)
sink_written s = Some s.bytes.items

-- Those of them that were there at the last flush that did not fail.
abbrev pub sink_handed_on : MemSink → Option (List ℕ)
sink_handed_on s = Some (take s.handed s.bytes.items)

-- How many bytes the sink can still take.
abbrev pub sink_room : MemSink → ℕ
sink_room s = s.room - length s.bytes.items

-- The sink's count of faults.
abbrev pub sink_faults : MemSink → ℕ
sink_faults s = s.failures.faults

-- Which writes and flushes of the sink fail.
abbrev pub sink_plan : MemSink → Plan
sink_plan s = plan_of s.failures

-- The shelf's files: of two entries with one name the first counts.
abbrev pub shelf_files : MemShelf → Option Files
shelf_files s = Some (from_entries s.files.items)

-- The shelf's count of faults.
abbrev pub shelf_faults : MemShelf → ℕ
shelf_faults s = s.failures.faults

-- Which gets and puts of the shelf fail.
abbrev pub shelf_plan : MemShelf → Plan
shelf_plan s = plan_of s.failures
