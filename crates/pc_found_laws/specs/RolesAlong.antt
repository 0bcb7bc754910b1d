-- The role of an expression of a statement part, from what is known on the way down to it.
use Rattle.std.specs.Prelude.{ℕ, ◌≡◌, Bool, true, false, ◌==◌, if◌then◌else◌, List, [], ◌∷◌, ◌++◌, Some}
use Rattle.std.specs.Option.{option_map_or}
use Rattle.pc_syntax.specs.Parts.{kid_at}
use Rattle.pc_syntax.specs.Places.{at}
use Rattle.pc_syntax.specs.Plain.{Plain}
use Rattle.pc_syntax.specs.WellFormed.{IsProper}
use Rattle.pc_syntax.specs.declared.kind.Kind.{Kind}
use Rattle.pc_syntax.specs.declared.kind.Kind.TheVariants as kind
use Rattle.pc_decl.specs.Annotated.{annotated}
use Rattle.pc_decl.specs.Roles.{Role, AsValue, AsVariable, AsTarget, argument_role, role_at, name_found}
use Rattle.pc_environment.specs.Decorating.{attributes_at}
use Rattle.pc_needs.specs.Unaffected.{IsOneOf}
use Rattle.pc_rules.specs.Errors.{is_program}
use Rattle.pc_rules.specs.Meanings.{Found, Missing, Local, Outside}
use Rattle.pc_rules.specs.Outsides.{outside_of}
use Rattle.pc_rules.specs.Places.{inner}
use Rattle.pc_rules.specs.RoutineList.{routines_of}
use Rattle.pc_rules.specs.Routines.{Routine}
use Rattle.pc_found_laws.specs.Ways.{part_path, StandsIn}

-- whether a node is a list of arguments, which have their roles by what is called
abbrev pub is_argument_list : Kind → Bool
is_argument_list kind.Args = true
is_argument_list kind.Exprs = true
is_argument_list k = false

-- the role of kid i of a node of this kind, from the kind of the node above that, and what the first kid of the node above means
abbrev pub role_from : Kind → Found → Kind → ℕ → Role
role_from g f kind.Assign i = if i == 1 then AsTarget else AsValue
role_from g f kind.Index i = AsVariable
role_from g f kind.Select i = AsVariable
role_from g f kind.Deref i = AsVariable
role_from g f kind.Accesses i = AsVariable
role_from g f kind.Args i = argument_role g i f
role_from g f kind.Exprs i = argument_role g i f
role_from g f k i = AsValue

-- what the name that is the first kid of a node means, where the node stands at this place of the rules; nothing where there is no kid
abbrev pub name_from : Outside → Local → Plain → Found
name_from out l x = option_map_or (λ (n : Plain). (attributes_at out (inner l x.kind x.kids) n).found) (kid_at x 1) Missing

-- a kid of a node that isn't a list of arguments: by the kind of that node alone
abbrev pub PlainRoleLaw : Type 0
PlainRoleLaw = (t : Plain) (path : List ℕ) (x : Plain) (i : ℕ) (g : Kind) (f : Found) → at path t ≡ Some x → is_argument_list x.kind ≡ false →
    role_at (annotated t) (path ++ i ∷ []) ≡ role_from g f x.kind i

-- what the name means that is the first kid of a node of a statement part
abbrev pub NameLaw : Type 0
NameLaw = (t : Plain) (r : Routine) (path : List ℕ) (x : Plain) (l : Local) → IsProper t → is_program t.kind ≡ true → IsOneOf (routines_of t) r → StandsIn t r path x l →
    name_found (annotated t) path ≡ name_from (outside_of (routines_of t) r) l x

-- a kid of a kid y of a node x of a statement part: by x, where x stands, and the kind of y
abbrev pub KidRoleLaw : Type 0
KidRoleLaw = (t : Plain) (r : Routine) (path : List ℕ) (x : Plain) (l : Local) (j : ℕ) (y : Plain) (i : ℕ) → IsProper t → is_program t.kind ≡ true → IsOneOf (routines_of t) r →
    StandsIn t r path x l → kid_at x j ≡ Some y → role_at (annotated t) ((path ++ j ∷ []) ++ i ∷ []) ≡ role_from x.kind (name_from (outside_of (routines_of t) r) l x) y.kind i

-- the statement part itself is no list of arguments, so the first of these is for its kids
abbrev pub PartRoleLaw : Type 0
PartRoleLaw = (t : Plain) (r : Routine) (x : Plain) → IsProper t → is_program t.kind ≡ true → IsOneOf (routines_of t) r → at (part_path r) t ≡ Some x → is_argument_list x.kind ≡ false

-- the roles of expressions of a statement part
pub record RolesLaw : Type 0 where
  pub plain : PlainRoleLaw
  pub name : NameLaw
  pub kid : KidRoleLaw
  pub part : PartRoleLaw
