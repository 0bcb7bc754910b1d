-- The needs of two small programs, by evaluation.
use Rattle.std.specs.Prelude.{ℕ, ◌≡◌, true, false, List, [], ◌∷◌, Some, None, get_or, codes, map, pos}
use Rattle.std.proofs.Common.{refl}
use Prim.Native.String.{String}
use Rattle.pc_syntax.specs.declared.kind.Kind.{Kind}
use Rattle.pc_syntax.specs.declared.kind.Kind.TheVariants as kind
use Rattle.pc_syntax.specs.Plain.{Forest, Nil, Cons, Plain}
use Rattle.pc_types.specs.Compatibility.{compatible, assignable}
use Rattle.pc_types.specs.Domains.{reached}
use Rattle.pc_types.specs.Sameness.{same}
use Rattle.pc_types.specs.Shapes.{Keyed, IntegerType}
use Rattle.pc_types.specs.Sizes.{cell_limit, is_too_large}
use Rattle.pc_types.specs.TypeClasses.{largest_number}
use Rattle.pc_rules.specs.Decorated.{rule, decorate}
use Rattle.pc_rules.specs.Law.{names_used}
use Rattle.pc_rules.specs.Meanings.{Ordinal, ConstantName, Here, Required, declared_as, find}
use Rattle.pc_rules.specs.Outsides.{outside_of}
use Rattle.pc_rules.specs.OwnBlock.{own}
use Rattle.pc_rules.specs.RoutineList.{routines_in, routines_of, program_routine}
use Rattle.pc_rules.specs.Routines.{Routine, heading_marks}
use Rattle.pc_needs.specs.Answers.{NameMeaning, place_behind, found_behind, meaning}
use Rattle.pc_needs.specs.Needs.{needs}
use Rattle.pc_needs.specs.UsedNames.{forward_of, names_of}

-- a node without a word, and one with a word, before others
abbrev node : Kind → Forest → Forest → Forest
node k ks ts = Cons k [] [] ks ts

abbrev word : Kind → String → Forest → Forest
word k w ts = Cons k (codes w) [] Nil ts

-- a variable as an expression
abbrev ref : String → Forest → Forest
ref w ts = node kind.Ref (word kind.Name w Nil) ts

-- a block with these constants, variables, routines and statements
abbrev block : Forest → Forest → Forest → Forest → Forest
block constants variables routines statements =
    node kind.Block (node kind.Consts constants (node kind.Types Nil (node kind.Vars variables (node kind.Routines routines (node kind.Compound (node kind.Stmts statements Nil) Nil))))) Nil

-- a routine of a program, by its number in text order, the program itself first
unfoldable routine : Plain → ℕ → Routine
routine t i = get_or (routines_of t) i (program_routine t)

-- the names that it needs, whether a routine inside changes a variable, and the answers for a name
unfoldable needed : Plain → ℕ → List (List ℕ)
unfolding same compatible assignable cell_limit is_too_large reached largest_number find rule decorate own routines_in routines_of outside_of heading_marks names_used forward_of names_of needs meaning place_behind found_behind routine
needed t i = map (λ n. n.name) (needs (routines_of t) (routine t i))

unfoldable meant : Plain → ℕ → String → NameMeaning
unfolding same compatible assignable cell_limit is_too_large reached largest_number find rule decorate own routines_in routines_of outside_of heading_marks names_used forward_of names_of needs meaning place_behind found_behind routine
meant t i n = meaning (routines_of t) (routine t i) (codes n)

-- program p; const c = 3; var x: integer; procedure q(a: integer); begin x := c end; begin q(x) end.
abbrev first_program : Plain
first_program = record {
  kind = kind.Program;
  word = [];
  notes = [];
  kids = word kind.Name "p" (node kind.Heads Nil (block
      (node kind.Constdef (word kind.Name "c" (word kind.Cnumber "3" Nil)) Nil)
      (node kind.Vardef (node kind.Names (word kind.Name "x" Nil) (node kind.Tname (word kind.Name "integer" Nil) Nil)) Nil)
      (node kind.Procedure (word kind.Name "q" (node kind.Params (node kind.Valparam (node kind.Names (word kind.Name "a" Nil) (word kind.Name "integer" Nil)) Nil)
      (block Nil Nil Nil (node kind.Assign (ref "x" (ref "c" Nil)) Nil)))) Nil)
      (node kind.Proc (word kind.Name "q" (node kind.Args (ref "x" Nil) Nil)) Nil)));
}

-- the program uses the type of its variable, the procedure and the variable; the heading of the procedure is no use of its own
program_names : needed first_program 0 ≡ codes "integer" ∷ codes "q" ∷ codes "x" ∷ []
unfolding needed
program_names = refl

-- the procedure uses the type of its parameter, the variable and the constant
procedure_names : needed first_program 1 ≡ codes "integer" ∷ codes "x" ∷ codes "c" ∷ []
unfolding needed
procedure_names = refl

-- a routine inside the program changes its variable; the procedure has none inside
changed_inside : (meant first_program 0 "x").changed ≡ true
unfolding meant
changed_inside = refl

changed_by_itself : (meant first_program 1 "x").changed ≡ false
unfolding meant
changed_by_itself = refl

-- the constant means itself, with its value, in the procedure; no heading uses it
constant_there : (meant first_program 1 "c").body ≡ record {
  found = Here (record (declared_as ConstantName (Keyed [])) { value = Some (record { type = IntegerType; constant = Ordinal (pos 3) }) });
  signature = None;
  has_block = false;
}
unfolding meant
constant_there = refl

constant_no_heading : (meant first_program 1 "c").heading ≡ None
unfolding meant
constant_no_heading = refl

-- the heading of the procedure uses its parameter's type, which is a required one
type_at_heading : (meant first_program 1 "integer").heading ≡ Some (record { found = Required (codes "integer"); signature = None; has_block = false })
unfolding meant
type_at_heading = refl

-- the procedure has a block where the program uses it
procedure_with_block : (meant first_program 0 "q").body.has_block ≡ true
unfolding meant
procedure_with_block = refl

-- program p; procedure q(a: integer); forward; procedure q; begin a := maxint end; begin q(1) end.
abbrev second_program : Plain
second_program = record {
  kind = kind.Program;
  word = [];
  notes = [];
  kids = word kind.Name "p" (node kind.Heads Nil (block Nil Nil
      (node kind.Procedure (word kind.Name "q" (node kind.Params (node kind.Valparam (node kind.Names (word kind.Name "a" Nil) (word kind.Name "integer" Nil)) Nil) (word kind.Forward "forward" Nil)))
      (node kind.Procedure (word kind.Name "q" (node kind.Params Nil (block Nil Nil Nil (node kind.Assign (ref "a" (ref "maxint" Nil)) Nil)))) Nil))
      (node kind.Proc (word kind.Name "q" (node kind.Args (word kind.Number "1" Nil) Nil)) Nil)));
}

-- a later declaration uses what its forward heading uses
later_names : needed second_program 2 ≡ codes "integer" ∷ codes "a" ∷ codes "maxint" ∷ []
unfolding needed
later_names = refl

-- which has an answer at the forward heading, and none at its own
at_forward : (meant second_program 2 "integer").forward ≡ Some (record { found = Required (codes "integer"); signature = None; has_block = false })
unfolding meant
at_forward = refl

not_at_later : (meant second_program 2 "integer").heading ≡ None
unfolding meant
not_at_later = refl

-- the routine has a block, though its first declaration has none
later_with_block : (meant second_program 0 "q").body.has_block ≡ true
unfolding meant
later_with_block = refl
