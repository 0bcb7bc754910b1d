-- A number that each step of the reading machine makes smaller, so that it ends.
use Rattle.std.specs.Prelude.{ℕ, suc, ◌+◌, ◌-◌, ◌*◌, List, [], ◌∷◌}
use Rattle.pc_syntax.specs.declared.kind.Kind.{Kind}
use Rattle.pc_syntax.specs.declared.kind.Kind.TheVariants.{Vardef, Funbody, Vars, Name, Hole}
use Rattle.pc_syntax.specs.declared.class.Class.{Class}
use Rattle.pc_syntax.specs.declared.class.Class.TheVariants as class
use Rattle.pc_syntax.specs.declared.item.Item.{Item}
use Rattle.pc_syntax.specs.declared.item.Item.TheVariants.{Literal, Word, Kid}
use Rattle.pc_parse.specs.Machine.{Frame, State, Opening, Reading, Holding}

-- what a finished node may still be put through before it is a kid
abbrev pub node_energy : Kind → ℕ
node_energy Name = 5
node_energy Vars = 4
node_energy Vardef = 5
node_energy Funbody = 20
node_energy (Hole s) = 5
node_energy _ = 1

-- what beginning a kid may take where no symbol is taken
abbrev pub kid_energy : Class → ℕ
kid_energy class.Block = 15
kid_energy class.Heads = 2
kid_energy class.Args = 2
kid_energy class.Consts = 2
kid_energy class.Types = 2
kid_energy class.Vars = 5
kid_energy class.Params = 2
kid_energy class.Parameter = 4
kid_energy class.Routines = 3
kid_energy class.Vardef = 4
kid_energy class.Statement = 2
kid_energy class.Names = 3
kid_energy class.Labels = 3
kid_energy class.Field = 4
kid_energy class.Fields = 7
kid_energy class.Arm = 4
kid_energy class.Arms = 7
kid_energy class.Indexes = 3
kid_energy class.Exprs = 3
kid_energy class.Accesses = 3
kid_energy class.Members = 3
kid_energy class.Stmts = 5
kid_energy _ = 0

-- what is kept back while the kid is read: a definition of variables begins without a symbol, and has taken some when it is given
abbrev pub kept_back : Class → ℕ
kept_back class.Vardef = 4
kept_back _ = 0

-- what the items that are left may take, until a node of this energy is finished; a symbol that is taken pays for what comes after it
abbrev pub items_energy : ℕ → List Item → ℕ
items_energy n [] = suc n
items_energy n (Literal x ∷ m) = items_energy n m - 15
items_energy n (Word x ∷ m) = items_energy n m
items_energy n (Kid c ∷ m) = kid_energy c + items_energy n m

-- the same while the first of the items is being read
abbrev pub waiting_energy : ℕ → List Item → ℕ
waiting_energy n [] = 0
waiting_energy n (Literal x ∷ m) = 0
waiting_energy n (Word x ∷ m) = 0
waiting_energy n (Kid c ∷ m) = items_energy n m - kept_back c

abbrev pub below_energy : {A : Type 0} → List (Frame A) → ℕ
below_energy [] = 0
below_energy (f ∷ fs) = waiting_energy (node_energy f.kind) f.items + below_energy fs

abbrev pub state_energy : {A : Type 0} → State A → ℕ
state_energy Opening = 20
state_energy (Reading f fs) = items_energy (node_energy f.kind) f.items + below_energy fs
state_energy (Holding k a fs) = node_energy k + below_energy fs

-- the energy of a state before so many symbols
abbrev pub energy : {A : Type 0} → State A → ℕ → ℕ
energy st n = state_energy st + 20 * n
