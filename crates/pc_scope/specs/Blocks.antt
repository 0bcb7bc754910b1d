-- The block of a routine or program, and the routines in it (ISO 7185, 6.2.1).
use Rattle.std.specs.Prelude.{ℕ, zero, suc, Option, None, slice_get}
use Rattle.pc_syntax.specs.Plain.{Forest, Nil, Cons, Plain, trees_of}
use Rattle.pc_syntax.specs.declared.kind.Kind.TheVariants as kind

-- the kids of the block among a routine's kids
abbrev pub block_kids : Forest → Forest
block_kids Nil = Nil
block_kids (Cons kind.Block w ns ks ts) = ks
block_kids (Cons k w ns ks ts) = block_kids ts

-- how many kids there are: the number of the last, which is a routine's block
abbrev pub kid_count : Forest → ℕ
kid_count Nil = 0
kid_count (Cons k w ns ks ts) = suc (kid_count ts)

-- the routines among the kids of a block
abbrev pub routines_among : Forest → Forest
routines_among (Cons a b c d (Cons e f g h (Cons i j k l (Cons m n o rs ts)))) = rs
routines_among ks = Nil

-- the tree with a number, from 1
abbrev pub tree_at : ℕ → Forest → Option Plain
tree_at zero ts = None
tree_at (suc i) ts = slice_get (trees_of ts) i
