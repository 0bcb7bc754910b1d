-- Short words for the trees of the programs, which have no comments.
use Prim.Native.String.{String}
use Rattle.std.specs.Prelude.{[], codes}
use Rattle.pc_syntax.specs.declared.kind.Kind.{Kind}
use Rattle.pc_syntax.specs.Plain.{Forest, Nil, Cons, Plain}
use Rattle.pc_syntax.specs.declared.kind.Kind.TheVariants as kind

-- a program with these kids
abbrev pub program : Forest → Plain
program ks = record { kind = kind.Program; word = []; notes = []; kids = ks }

-- a node without a word, before others
abbrev pub node : Kind → Forest → Forest → Forest
node k ks rest = Cons k [] [] ks rest

-- a node with a word
abbrev pub word : Kind → String → Forest → Forest → Forest
word k w ks rest = Cons k (codes w) [] ks rest

-- a name
abbrev pub name : String → Forest → Forest
name w rest = Cons kind.Name (codes w) [] Nil rest
