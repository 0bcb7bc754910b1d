-- The types of an expression of a statement part and of those below it, where they stand, by the rules alone.
use Rattle.std.specs.Prelude.{ℕ, ◌==◌, ◌-◌, if◌then◌else◌, List, [], ◌∷◌, ◌++◌, Option, take}
use Rattle.std.specs.Option.{option_map_or}
use Rattle.pc_syntax.specs.declared.kind.Kind.{Kind}
use Rattle.pc_syntax.specs.declared.kind.Kind.TheVariants as kind
use Rattle.pc_syntax.specs.Parts.{kid_at}
use Rattle.pc_syntax.specs.Plain.{Forest, Nil, Cons, Plain, kids_of}
use Rattle.pc_types.specs.Shapes.{Typed}
use Rattle.pc_rules.specs.Attributes.{Attributes, first}
use Rattle.pc_rules.specs.Decorated.{decorate}
use Rattle.pc_rules.specs.Meanings.{Found, Missing, Local, Outside}
use Rattle.pc_rules.specs.Places.{inner}
use Rattle.pc_environment.specs.Decorating.{attributes_at, place_behind, place_after}
use Rattle.pc_decl.specs.Nodes.{is_expression}
use Rattle.pc_decl.specs.Roles.{Role, AsValue, AsVariable, AsTarget, argument_role, judged_as}

-- where kids of a node stand: its kind, the kind of the node above it, and what the name means that is the first kid of the latter
pub record Above : Type 0 where
  pub kind : Kind
  pub outer : Kind
  pub found : Found

-- the role of kid i of a node of this kind, below one of that kind whose name means this
abbrev pub role_under : Kind → Kind → Found → ℕ → Role
role_under kind.Assign outer f i = if i == 1 then AsTarget else AsValue
role_under kind.Index outer f i = AsVariable
role_under kind.Select outer f i = AsVariable
role_under kind.Deref outer f i = AsVariable
role_under kind.Accesses outer f i = AsVariable
role_under kind.Args outer f i = argument_role outer i f
role_under kind.Exprs outer f i = argument_role outer i f
role_under k outer f i = AsValue

-- the role of kid i where the kids stand so
abbrev pub role_of : Above → ℕ → Role
role_of h i = role_under h.kind h.outer h.found i

-- what is told of a node by itself: of an expression its type in its role, of any other nothing
abbrev pub told_here : Role → Kind → Attributes → List (Option Typed)
told_here r k a = if is_expression k then (judged_as r a).type ∷ [] else []

-- where the kids of a kid of this kind stand, given what the first of the kids in its row means
abbrev pub inside : Above → Found → Kind → Above
inside h f k = record { kind = k; outer = h.kind; found = f }

-- what the first kid of a node of this kind with these kids means
abbrev pub first_found : Outside → Local → Kind → Forest → Found
first_found out l k ks = (first (decorate out (inner l k ks) ks)).found

-- The types of the expressions among trees in a row and below them, in preorder, each in its role: given where the first of these trees
-- stands, where they stand as kids, and what the first kid in their row means.
abbrev pub told_among : Outside → Local → Above → Found → Forest → List (Option Typed)
told_among out l h f Nil = []
told_among out l h f (Cons k w ns ks ts) =
    let t : Plain = record { kind = k; word = w; notes = ns; kids = ks } in
    told_here (role_of h l.kid) k (attributes_at out l t)
    ++ (told_among out (inner l k ks) (inside h f k) (first_found out l k ks) ks ++ told_among out (place_behind out l t) h f ts)

-- the same of the expressions below one node
abbrev pub told_below : Outside → Local → Above → Found → Plain → List (Option Typed)
told_below out l h f t = told_among out (inner l t.kind t.kids) (inside h f t.kind) (first_found out l t.kind t.kids) t.kids

-- the same of one node and those below it
abbrev pub told_at : Outside → Local → Above → Found → Plain → List (Option Typed)
told_at out l h f t = told_here (role_of h l.kid) t.kind (attributes_at out l t) ++ told_below out l h f t

-- where the kid of a node stands that has this many kids before it; withs and accesses open records by the rules themselves
abbrev pub kid_place : Outside → Local → Plain → ℕ → Local
kid_place out l t i = place_after out (inner l t.kind t.kids) (take i (kids_of t))

-- the types at the end of a way down from a node that stands so: none where there is no node, or it is no expression
abbrev pub told_down : List ℕ → Outside → Local → Above → Found → Plain → List (Option Typed)
told_down [] out l h f t = if is_expression t.kind then told_at out l h f t else []
told_down (i ∷ way) out l h f t =
    option_map_or (λ (k : Plain). told_down way out (kid_place out l t (i - 1)) (inside h f t.kind) (first_found out l t.kind t.kids) k) (kid_at t i) []

-- above a statement part there is nothing that gives its kids a role
abbrev pub no_role : Above
no_role = record { kind = kind.Block; outer = kind.Program; found = Missing }

-- the types of the expression at the end of a way from a statement part, and of those below it, in preorder, each in its role
abbrev pub told_on : Outside → Local → Plain → List ℕ → List (Option Typed)
told_on out l t way = told_down way out l no_role Missing t
