-- The own block of a routine, and the names that it declares (ISO 7185, 6.2.1, 6.2.2).
use Rattle.std.specs.Prelude.{ℕ, if◌then◌else◌, List, [], ◌∷◌, ◌++◌}
use Rattle.pc_syntax.specs.declared.kind.Kind.{Kind}
use Rattle.pc_syntax.specs.Plain.{Forest, Nil, Cons}
use Rattle.pc_scope.specs.Headings.{is_routine_kind, first_name, names_of_first}
use Rattle.pc_rules.specs.Declarations.{routine_class}
use Rattle.pc_rules.specs.Meanings.{Class, ConstantName, ElementName, TypeName, VariableName}
use Rattle.pc_syntax.specs.declared.kind.Kind.TheVariants as kind

-- trees without their kids
abbrev pub without_kids : Forest → Forest
without_kids Nil = Nil
without_kids (Cons k w ns ks ts) = Cons k w ns Nil (without_kids ts)

-- a routine's kids as they stand in the own block around: without its block, and its parameters as nodes alone
abbrev pub bare_heading : Forest → Forest
bare_heading Nil = Nil
bare_heading (Cons kind.Params w ns ks ts) = Cons kind.Params w ns (without_kids ks) (bare_heading ts)
bare_heading (Cons kind.Block w ns ks ts) = Cons kind.Block w ns Nil (bare_heading ts)
bare_heading (Cons k w ns ks ts) = Cons k w ns ks (bare_heading ts)

-- trees with bare routines in them
unfoldable pub own : Forest → Forest
own Nil = Nil
own (Cons k w ns ks ts) = Cons k w ns (if is_routine_kind k then bare_heading ks else own ks) (own ts)

-- a routine's kids without its block
abbrev pub heading_part : Forest → Forest
heading_part Nil = Nil
heading_part (Cons kind.Block w ns ks ts) = Cons kind.Block w ns Nil (heading_part ts)
heading_part (Cons k w ns ks ts) = Cons k w ns ks (heading_part ts)

-- these names, all of one class
abbrev pub all_of_class : Class → List (List ℕ) → List (List ℕ × Class)
all_of_class c [] = []
all_of_class c (n ∷ ns) = (n, c) ∷ all_of_class c ns

-- one name of a class; a hole has none
abbrev pub named_of_class : Class → List ℕ → List (List ℕ × Class)
named_of_class c [] = []
named_of_class c (b ∷ bs) = (b ∷ bs, c) ∷ []

-- the names that a node with these kids declares in its block, those of nodes below it aside
abbrev pub declared_by : Kind → Forest → List (List ℕ × Class)
declared_by kind.Constdef ks = named_of_class ConstantName (first_name ks)
declared_by kind.Typedef ks = named_of_class TypeName (first_name ks)
declared_by kind.Vardef ks = all_of_class VariableName (names_of_first ks)
declared_by kind.Enum ks = all_of_class ElementName (names_of_first ks)
declared_by k ks = if is_routine_kind k then named_of_class (routine_class k) (first_name ks) else []

-- all names that a block declares, in text order
abbrev pub declared_in : Forest → List (List ℕ × Class)
declared_in Nil = []
declared_in (Cons k w ns ks ts) = declared_by k ks ++ (if is_routine_kind k then [] else declared_in ks) ++ declared_in ts
