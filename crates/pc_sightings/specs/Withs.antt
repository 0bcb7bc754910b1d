-- What is seen inside of a with (ISO 7185, 6.8.3.10).
use Rattle.std.specs.Prelude.{◌≡◌, ℕ, Bool, true, List}
use Rattle.pc_types.specs.Shapes.{Typed}
use Rattle.pc_rules.specs.Meanings.{Local, Outside, entry_of, field_or}
use Rattle.pc_environment.specs.Sight.{Sight, sight_of}

-- the same is seen but for these fields, which hide other names
abbrev pub opened_sight : List (List ℕ × (Typed × Bool)) → Sight → Sight
opened_sight opens s = record s { means = λ n. field_or (entry_of opens n) (s.means n) }

-- a place where accesses open their records for what stands behind them, the fields that are open there, and what is seen outside
pub record SeesWith (out : Outside) (l : Local) (opens : List (List ℕ × (Typed × Bool))) (s : Sight) : Type 0 where
  pub sight : sight_of out l ≡ opened_sight opens s
  pub opening : l.opening ≡ true
