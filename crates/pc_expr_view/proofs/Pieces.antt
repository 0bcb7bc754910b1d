-- How a line is put together.
use Rattle.std.proofs.Common.{◌≡◌, ℕ, List, ◌++◌, suc, ap, ◌∙◌, append_assoc}
use Rattle.std.specs.Prelude.{codes}
use Rattle.pc_decl.specs.ExprText.{indentation}
use Rattle.pc_decl.specs.AgreesLaws.{agrees-then, agrees-stopped}

pub ruleset stopped = (agrees-stopped)

-- with one more level there, one less is left
pub indentation-more : (text text' whole : List ℕ) (n : ℕ) → text' ≡ text ++ codes "  " → text ++ indentation (suc n) ≡ whole → text' ++ indentation n ≡ whole
indentation-more text text' whole n e f =
    ap (λ (bs : List ℕ). bs ++ indentation n) e ∙ append_assoc text (codes "  ") (indentation n) ∙ f
