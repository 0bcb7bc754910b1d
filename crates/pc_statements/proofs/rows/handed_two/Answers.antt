use Rattle.std.proofs.Common.{◌∷◌, []}
use Rattle.pc_statements.proofs.rows.handed_two.Goals as goal

pub returns : goal.returns
returns c = λ k w m n a b. c.finish.ensures k w (m ∷ n ∷ []) (c.in_ok-add-2.ensures k (m ∷ []) n (c.in_ok-add.ensures k [] m (c.new-both.ensures k) a) b)
