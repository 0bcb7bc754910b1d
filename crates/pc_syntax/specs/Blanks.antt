-- Nodes that are still to be written, and nodes whose parts are.
use Rattle.std.specs.Prelude.{ℕ, List, [], ◌∷◌, Option, Some, None, map}
use Rattle.pc_syntax.specs.declared.kind.Kind.{Kind}
use Rattle.pc_syntax.specs.declared.kind.Kind.TheVariants.{Heads, Args, Params, Names, Labels, Indexes, Exprs, Accesses, Members, Consts, Types, Vars, Routines, Fields, Stmts, Arms, Hole}
use Rattle.pc_syntax.specs.declared.sort.Sort.{Sort}
use Rattle.pc_syntax.specs.declared.sort.Sort.TheVariants as sort
use Rattle.pc_syntax.specs.declared.class.Class.{Class}
use Rattle.pc_syntax.specs.declared.class.Class.TheVariants as class
use Rattle.pc_syntax.specs.Plain.{Plain, node}
use Rattle.pc_syntax.specs.Slots.{places_of}

-- what stands at a place of this class while nothing is written there: a hole, or a list
abbrev pub blank_kind : Class → Kind
blank_kind class.Program = Hole sort.Program
blank_kind class.Block = Hole sort.Block
blank_kind class.Constdef = Hole sort.ConstDef
blank_kind class.Typedef = Hole sort.TypeDef
blank_kind class.Vardef = Hole sort.VarDef
blank_kind class.Routine = Hole sort.Routine
blank_kind class.Parameter = Hole sort.Parameter
blank_kind class.Denoter = Hole sort.Denoter
blank_kind class.Structured = Hole sort.Denoter
blank_kind class.Ordinal = Hole sort.Denoter
blank_kind class.Field = Hole sort.Field
blank_kind class.Constant = Hole sort.Constant
blank_kind class.Bare = Hole sort.Constant
blank_kind class.Statement = Hole sort.Statement
blank_kind class.Body = Hole sort.Statement
blank_kind class.Arm = Hole sort.Arm
blank_kind class.Argument = Hole sort.Expression
blank_kind class.Member = Hole sort.Expression
blank_kind class.Operand = Hole sort.Expression
blank_kind class.Expression = Hole sort.Expression
blank_kind class.Simple = Hole sort.Expression
blank_kind class.Term = Hole sort.Expression
blank_kind class.Factor = Hole sort.Expression
blank_kind class.Access = Hole sort.Expression
blank_kind class.Name = Hole sort.Name
blank_kind class.Heads = Heads
blank_kind class.Args = Args
blank_kind class.Params = Params
blank_kind class.Names = Names
blank_kind class.Labels = Labels
blank_kind class.Indexes = Indexes
blank_kind class.Exprs = Exprs
blank_kind class.Accesses = Accesses
blank_kind class.Members = Members
blank_kind class.Consts = Consts
blank_kind class.Types = Types
blank_kind class.Vars = Vars
blank_kind class.Routines = Routines
blank_kind class.Fields = Fields
blank_kind class.Stmts = Stmts
blank_kind class.Arms = Arms

-- the sort of the one hole that such a list has, where it may not be empty
abbrev pub first_hole : Kind → Option Sort
first_hole Names = Some sort.Name
first_hole Labels = Some sort.Constant
first_hole Indexes = Some sort.Denoter
first_hole Exprs = Some sort.Expression
first_hole Accesses = Some sort.Expression
first_hole Fields = Some sort.Field
first_hole Stmts = Some sort.Statement
first_hole Arms = Some sort.Arm
first_hole _ = None

abbrev pub holes : Option Sort → List Plain
holes None = []
holes (Some s) = node (Hole s) [] [] [] ∷ []

-- the node that stands at a place of this class while nothing is written there
abbrev pub blank : Class → Plain
blank c = node (blank_kind c) [] [] (holes (first_hole (blank_kind c)))

-- a node of this kind with this word, at whose places nothing is written yet
abbrev pub fresh : Kind → List ℕ → Plain
fresh k w = node k w [] (map blank (places_of k))
