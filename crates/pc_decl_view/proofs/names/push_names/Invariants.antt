use Rattle.std.proofs.Common.{◌++◌, drop}
use Rattle.std.specs.List.{flat_map}
use Rattle.pc_types.specs.Rows.{seen}
use Rattle.pc_views.specs.Limit.{Agrees}
use Rattle.pc_decl_view.specs.KeptLines.{kept_name_line}
use Rattle.pc_decl_view.proofs.names.push_names.Given as goal

-- what is there and the lines of the names that are left make up the whole
abbrev pub invariant-loop-name : goal.invariant-loop-name
invariant-loop-name l =
    Agrees (l.text.items ++ flat_map (kept_name_line (seen l.types) l.signatures) (drop l.name-index l.names)) (l.fn.text.items ++ flat_map (kept_name_line (seen l.types) l.signatures) l.names)
