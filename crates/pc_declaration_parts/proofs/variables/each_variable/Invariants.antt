use Rattle.std.proofs.Common.{◌≡◌, take}
use Rattle.pc_syntax.specs.Plain.{kids_of}
use Rattle.pc_syntax.specs.declared.kind.Kind.TheVariants as kind
use Rattle.pc_definitions.specs.Numbered.{AmongBefore}
use Rattle.pc_declaration_parts.specs.Turning.{TurnsRow}
use Rattle.pc_declaration_parts.proofs.variables.each_variable.Given as goal

abbrev pub invariant-loop-kid : goal.invariant-loop-kid
invariant-loop-kid l =
    TurnsRow (AmongBefore kind.Vardef (kids_of l.list) l.before) l.block.0 l.owner.0 l.initial.domains l.domains l.initial.tables l.tables (take l.kid-index l.kid-items) l.found.items × (l.i ≡ l.kid-index)
