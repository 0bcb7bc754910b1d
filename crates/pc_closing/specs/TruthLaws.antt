-- Numbers and rules find the same types whole.
use Rattle.pc_types.specs.Rows.{seen}
use Rattle.pc_closing.specs.ToldLaws.{told-closed, truth-found}
use Rattle.pc_closing.specs.StaysLaws.{stays-right}
use Rattle.pc_closing.specs.ForgetLaws.{forgets-flags, sifted-both}
use Rattle.pc_closing.specs.Truth.{TruthLaw}

-- this holds
pub truth-law : TruthLaw
truth-law = record { whole = told-closed; longer = λ k j. stays-right k (seen j); found = truth-found; forgotten = forgets-flags; sifted = sifted-both }
