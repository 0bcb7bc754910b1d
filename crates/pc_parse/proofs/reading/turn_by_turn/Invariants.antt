use Rattle.std.proofs.Common.{◌≡◌, ◌≤◌, ◌-◌, length, drop}
use Rattle.pc_lex.specs.Views.{plain_symbols, syms}
use Rattle.pc_parse.specs.Reading.{class_of}
use Rattle.pc_parse.specs.Views.{stack, state_view}
use Rattle.pc_parse.proofs.Reached.{Reached, energy_kept}
use Rattle.pc_parse.proofs.reading.turn_by_turn.Given as goal

-- what the loop has is what is kept of a state that the machine reaches, before the symbols that are left
abbrev pub invariant-reading : goal.invariant-reading
invariant-reading l =
    record {
      root : l.root ≡ class_of l.fn.sort;
      reached : Reached (class_of l.fn.sort) (syms (plain_symbols l.symbols)) (state_view l.position (stack l.below.items)) (syms (plain_symbols (drop l.at l.symbols)));
      within : l.at ≤ length l.symbols;
    }

abbrev pub decreases-reading : goal.decreases-reading
decreases-reading l = energy_kept (state_view l.position (stack l.below.items)) (length l.symbols - l.at)
