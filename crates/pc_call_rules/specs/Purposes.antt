-- What required functions and procedures do with their arguments.
use Rattle.std.specs.Prelude.{List, ◌≡◌, ℕ, Bool, true, false, if◌then◌else◌, [], ◌∷◌}
use Rattle.pc_rules.specs.Attributes.{Entry, Node}
use Rattle.pc_rules.specs.RequiredProcedures.{read_entries, write_entries, new_entries, dispose_entries}
use Rattle.pc_call_rules.specs.declared.purpose.Purpose.{Purpose}
use Rattle.pc_call_rules.specs.declared.purpose.Purpose.TheVariants as purpose

-- the entries of an argument
abbrev pub entries_by : Purpose → Node → List Entry
entries_by purpose.Value = λ n. n.as_value.entries
entries_by purpose.Read = read_entries
entries_by purpose.Write = write_entries
entries_by purpose.New = new_entries
entries_by purpose.Dispose = dispose_entries
