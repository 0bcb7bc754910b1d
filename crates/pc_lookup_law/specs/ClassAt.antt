-- The class of the declaration at a place of a program.
use Rattle.std.specs.Prelude.{ℕ, suc, List, Option, Some, None, ◌≡◌}
use Rattle.std.specs.Option.{option_or}
use Rattle.pc_rule_laws.specs.Agreement.{Arrived, Behind, Inside, Lost, turn}
use Rattle.pc_rules.specs.Meanings.{Class, ConstantName, ElementName, TypeName, VariableName, ValueName, ReferenceName, ProcedureName, FunctionName}
use Rattle.pc_syntax.specs.declared.kind.Kind.{Kind}
use Rattle.pc_syntax.specs.Plain.{Forest, Nil, Cons, Plain}
use Rattle.pc_syntax.specs.declared.kind.Kind.TheVariants as kind

-- the class of the names that a node of this kind declares by itself, if it declares some
abbrev pub declares_class : Kind → Option Class
declares_class kind.Constdef = Some ConstantName
declares_class kind.Typedef = Some TypeName
declares_class kind.Vardef = Some VariableName
declares_class kind.Enum = Some ElementName
declares_class kind.Valparam = Some ValueName
declares_class kind.Varparam = Some ReferenceName
declares_class kind.Procedure = Some ProcedureName
declares_class kind.Function = Some FunctionName
declares_class kind.Funbody = Some FunctionName
declares_class _ = None

-- the class of the names declared below a node, where `c` is what the nodes around it give
abbrev pub class_inside : Option Class → Kind → Option Class
class_inside c k = option_or (declares_class k) c

-- the class that the innermost declaring node around a place gives; the way leads there from some trees, of which the first has the number `i`,
-- and `c` is what the nodes around them give
unfoldable pub class_along : Option Class → ℕ → Forest → List ℕ → Option Class
class_along c i Nil way = None
class_along c i (Cons k w ns ks ts) way =
    elim (turn i way) as (λ x. Option Class) [
      | Lost ↦ None
      | Arrived ↦ c
      | Inside rest ↦ class_along (class_inside c k) 1 ks rest
      | Behind ↦ class_along c (suc i) ts way
    ]

-- the class of the name that is declared at a place of a program: that of the innermost declaring node around it
abbrev pub class_at : Plain → List ℕ → Option Class
class_at t p = class_along None 1 t.kids p

-- a declaration at a place has a class
abbrev pub HasClass : Plain → List ℕ → Class → Type 0
HasClass t p c = class_at t p ≡ Some c
