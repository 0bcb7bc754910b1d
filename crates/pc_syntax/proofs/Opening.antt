-- The second of some trees.
use Rattle.std.proofs.Common.{◌≡◌, ◌<◌, ◌≤◌, false, List, [], ◌∷◌, length, get_or, refl, ap, sym, arith}
use Rattle.pc_syntax.specs.Plain.{Plain, forest_of}
use Rattle.pc_syntax.specs.WellFormed.{second_open}
use Rattle.pc_syntax.specs.Parts.{is_open}

pub second_read : (ts : List Plain) (t : Plain) → 1 < length ts → t ≡ get_or ts 1 t → second_open (forest_of ts) ≡ is_open t
second_read [] t l e = absurd (omega arith)
second_read (u ∷ []) t l e = absurd (omega arith)
second_read (u ∷ v ∷ ts) t l e = ap is_open (sym e)

pub second_past : (ts : List Plain) → length ts ≤ 1 → second_open (forest_of ts) ≡ false
second_past [] l = refl
second_past (u ∷ []) l = refl
second_past (u ∷ v ∷ ts) l = absurd (omega arith)
