-- The members of a set constructor.
use Rattle.std.specs.Prelude.{◌≡◌, Bool, true, false, ◌||◌, List, [], ◌∷◌, Option, Some, None, option_map}
use Rattle.std.specs.Option.{ForSome}
use Rattle.pc_types.specs.Compatibility.{compatible}
use Rattle.pc_types.specs.Shapes.{Shape}
use Rattle.pc_types.specs.Table.{Table, shape_at, IsThere}
use Rattle.pc_types.specs.declared.operand.Operand.{Operand}
use Rattle.pc_rules.specs.Attributes.{Node, first_below, second_below}
use Rattle.pc_rules.specs.HandedOn.{any_hole}
use Rattle.pc_rules.specs.SetConstructors.{is_span, member_type}
use Rattle.pc_facts.specs.declared.facts.Member.{Member}
use Rattle.pc_facts.specs.declared.facts.Member.TheVariants as member

-- whether a hole stands in a member, and in one of several
abbrev pub hole_in : Member → Bool
hole_in (member.One f) = f.hole
hole_in (member.Span f g) = f.hole || g.hole

abbrev pub holes_in : List Member → Bool
holes_in [] = false
holes_in (m ∷ ms) = hole_in m || holes_in ms

-- a span has a hole where one of its ends has
abbrev pub HandsOn : Node → Type 0
HandsOn n = is_span n.at.kind ≡ true → n.at.hole ≡ any_hole (first_below n ∷ second_below n ∷ [])

abbrev pub AllHandOn : List Node → Type 0
AllHandOn [] = Unit {0}
AllHandOn (n ∷ ns) = HandsOn n × AllHandOn ns

-- a type by its number is that of a member's expression, where that is an ordinal type
pub record ShowsOrdinal (t : Table) (o : Option Operand) (n : Node) : Type 0 where
  pub shape : option_map (shape_at t) o ≡ member_type n
  pub there : ForSome o (IsThere t)

-- whether a type is known, and compatible with this one
abbrev pub is_compatible : Shape → Option Shape → Bool
is_compatible t None = false
is_compatible t (Some u) = compatible t u
