-- The targets of a small program, by evaluation.
use Rattle.std.specs.Prelude.{◌≡◌, [], ◌∷◌, Option, Some, None, codes}
use Rattle.std.proofs.Common.{refl}
use Prim.Native.String.{String}
use Rattle.pc_syntax.specs.declared.kind.Kind.{Kind}
use Rattle.pc_syntax.specs.declared.kind.Kind.TheVariants as kind
use Rattle.pc_syntax.specs.Plain.{Forest, Nil, Cons, Plain}
use Rattle.pc_types.specs.Compatibility.{compatible, assignable}
use Rattle.pc_types.specs.Domains.{reached}
use Rattle.pc_types.specs.Sameness.{same}
use Rattle.pc_types.specs.Shapes.{Owner, Keyed, Shape, BooleanType, CharType, PointerType}
use Rattle.pc_types.specs.Sizes.{cell_limit, is_too_large}
use Rattle.pc_types.specs.TypeClasses.{largest_number}
use Rattle.pc_rules.specs.Decorated.{rule, decorate}
use Rattle.pc_rules.specs.Meanings.{find}
use Rattle.pc_rules.specs.Outsides.{outside_of}
use Rattle.pc_rules.specs.OwnBlock.{own}
use Rattle.pc_rules.specs.RoutineList.{routines_in, routines_of}
use Rattle.pc_rules.specs.Routines.{heading_marks}
use Rattle.pc_targets.specs.Program.{targets_of}

-- a node without a word, and one with a word, before others
abbrev node : Kind → Forest → Forest → Forest
node k ks ts = Cons k [] [] ks ts

abbrev word : Kind → String → Forest → Forest
word k w ts = Cons k (codes w) [] Nil ts

-- a type definition with this denoter, and one by the name of another type
abbrev definition : String → Forest → Forest → Forest
definition n denoter ts = node kind.Typedef (word kind.Name n denoter) ts

abbrev named : String → Forest
named n = node kind.Tname (word kind.Name n Nil) Nil

-- a block with these types, variables and routines
abbrev block : Forest → Forest → Forest → Forest
block types variables routines =
    node kind.Block (node kind.Consts Nil (node kind.Types types (node kind.Vars variables (node kind.Routines routines (node kind.Compound (node kind.Stmts (node kind.Empty Nil Nil) Nil) Nil))))) Nil

-- program p; type link = ^cell; cell = char; lost = ^none; var integer: char; procedure q; type cell = boolean; begin end; begin end.
abbrev small : Plain
small = record {
  kind = kind.Program;
  word = [];
  notes = [];
  kids = word kind.Name "p" (node kind.Heads Nil (block
      (definition "link" (node kind.Pointer (word kind.Name "cell" Nil) Nil)
      (definition "cell" (named "char")
      (definition "lost" (node kind.Pointer (word kind.Name "none" Nil) Nil) Nil)))
      (node kind.Vardef (node kind.Names (word kind.Name "integer" Nil) (named "char")) Nil)
      (node kind.Procedure (word kind.Name "q" (node kind.Params Nil (block (definition "cell" (named "boolean") Nil) Nil Nil))) Nil)));
}

-- what its targets say of a name, in the block of the program and in that of the procedure
unfoldable said : Owner → String → Option Shape
unfolding same compatible assignable cell_limit is_too_large reached largest_number find rule decorate own routines_in routines_of outside_of heading_marks
said o n = targets_of small o (codes n)

abbrev outside : Owner
outside = Keyed []

abbrev inside : Owner
inside = Keyed (codes "q" ∷ [])

-- a type that the program declares, and one of its name in the procedure
program_type : said outside "cell" ≡ Some CharType
unfolding said
program_type = refl

procedure_type : said inside "cell" ≡ Some BooleanType
unfolding said
procedure_type = refl

-- a pointer type is one, with the name of its domain alone
pointer_type : said outside "link" ≡ Some (PointerType (record { owner = Keyed []; name = codes "link"; number = 0; inside = 2 ∷ [] }) (Keyed []) (codes "cell"))
unfolding said
pointer_type = refl

-- one that leads to nothing is no type
lost_type : said outside "lost" ≡ None
unfolding said
lost_type = refl

-- a required type has the program's owner, and no other
required_outside : said outside "char" ≡ Some CharType
unfolding said
required_outside = refl

required_inside : said inside "char" ≡ None
unfolding said
required_inside = refl

-- it isn't known where the program declares its name as something else
hidden_type : said outside "integer" ≡ None
unfolding said
hidden_type = refl

-- a block that no routine has
nowhere_type : said (Keyed (codes "r" ∷ [])) "cell" ≡ None
unfolding said
nowhere_type = refl
