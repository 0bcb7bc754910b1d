-- Why a script could not be read further.
use Rattle.std.specs.Prelude.{◌≡◌, ℕ, ◌≤◌, Result, Ok, OnOk, IsErrOf}
use Rattle.std.proofs.Common.{arith}
use Rattle.pc_world.specs.Causes.{Rose}
use Rattle.pc_script.specs.declared.ahead.Stop.{Stop}
use Rattle.pc_script.specs.declared.ahead.Stop.TheVariants.{ReadFailed, NoMemory}

-- A read failed only where the count rose, and only that changes the count.
pub record StopHasCause {T : Type 0} (before now : ℕ) (result : Result T Stop) : Type 0 where
  pub later : before ≤ now
  pub failed : IsErrOf result ReadFailed → Rose before now
  pub kept : OnOk result (now ≡ before)
  pub no_memory : IsErrOf result NoMemory → now ≡ before

pub StopHasCause-ok : {T : Type 0} (before now : ℕ) (x : T) → now ≡ before → StopHasCause before now (Ok x)
StopHasCause-ok before now x same = record { later = omega arith; failed = λ e. cc; kept = same; no_memory = λ e. cc }
