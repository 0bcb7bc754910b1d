use Rattle.std.proofs.Common.{◌≡◌, [], take}
use Rattle.pc_syntax.specs.Plain.{forest_of}
use Rattle.pc_scope.specs.Headings.{names_of}
use Rattle.pc_declaration_parts.proofs.names.first_word.Given as goal

abbrev pub invariant-loop-kid : goal.invariant-loop-kid
invariant-loop-kid l = names_of (forest_of (take l.kid-index l.kid-items)) ≡ []
