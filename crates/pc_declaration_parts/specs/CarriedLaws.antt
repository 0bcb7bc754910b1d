-- What names mean is carried at other places that say the same of names, and where the denoter of variables stands: laws.
use Rattle.std.specs.Prelude.{◌≡◌, ℕ, true, false, List, [], ◌∷◌}
use Rattle.std.proofs.Common.{refl, sym, ◌∙◌, subst}
use Rattle.pc_syntax.specs.Classes.{has}
use Rattle.pc_syntax.specs.Plain.{Forest, Plain, forest_of}
use Rattle.pc_syntax.specs.WellFormed.{IsWellFormed}
use Rattle.pc_syntax.specs.declared.class.Class.TheVariants as class
use Rattle.pc_syntax.specs.declared.kind.Kind.{Kind}
use Rattle.pc_syntax.specs.declared.kind.Kind.TheVariants as kind
use Rattle.pc_types.specs.Shapes.{Domain}
use Rattle.pc_scope.specs.Headings.{names_of_first}
use Rattle.pc_rules.specs.Attributes.{Attributes}
use Rattle.pc_rules.specs.DeclaringNames.{all_as}
use Rattle.pc_rules.specs.Meanings.{Class, VariableName, Meaning, Local, Outside, declared_as, find}
use Rattle.pc_rules.specs.NameClasses.{is_type_class}
use Rattle.pc_rules.specs.Places.{inner}
use Rattle.pc_environment.specs.Decorating.{attributes_at, place_behind}
use Rattle.pc_pointers.specs.Good.{Targets}
use Rattle.pc_closed.specs.Carried.{IsCarriedType}
use Rattle.pc_carrying.specs.Carrying.{IsPlainValue, CarriedPlace, is_denoting}
use Rattle.pc_carrying.specs.ConfinedLaws.{moved-place}
use Rattle.pc_carrying.specs.KindLaws.{kind-law}
use Rattle.pc_carrying.specs.KnownLaws.{beside-carried}
use Rattle.pc_carrying.specs.LaterLaws.{inner-later}
use Rattle.pc_carrying.specs.Parts.{AllBeside, is_variable}
use Rattle.pc_carrying.specs.StartLaws.{node-law}
use Rattle.pc_targets.specs.Blocks.{HidingLaw}
use Rattle.pc_targets.specs.Program.{hiding}
use Rattle.pc_denoters.specs.Cores.{core}
use Rattle.pc_denoters.specs.FormsAt.{first_place}
use Rattle.pc_denoters.specs.Kinds as denoting
use Rattle.pc_denoters.specs.Kinds.{class-denoting}
use Rattle.pc_definitions.specs.Parts.{part_place}
use Rattle.pc_declaration_parts.specs.Turning.{CarriedHere}

-- nodes at or below a denoter
pub as-carried : (k : Kind) → denoting.is_denoting k ≡ true → is_denoting k ≡ true
as-carried kind.Tname e = refl
as-carried kind.Enum e = refl
as-carried kind.Subrange e = refl
as-carried kind.Array e = refl
as-carried kind.Record e = refl
as-carried kind.Record0 e = refl
as-carried kind.Setof e = refl
as-carried kind.Packed e = refl
as-carried kind.Pointer e = refl
as-carried kind.Cnumber e = refl
as-carried kind.Cstring e = refl
as-carried kind.Cname e = refl
as-carried kind.Csign e = refl
as-carried kind.Name e = refl
as-carried kind.Names e = refl
as-carried kind.Indexes e = refl
as-carried kind.Fields e = refl
as-carried kind.Field e = refl
as-carried (kind.Hole s) e = refl
as-carried k e = cc

to-core : (targets : Targets) (out : Outside) (l : Local) → CarriedHere targets out l → CarriedHere targets out (core l)
unfolding find
to-core targets out l h = record { known = h.known; outside = h.outside; confined = λ n c later. h.confined n c later }

from-core : (targets : Targets) (out : Outside) (l : Local) → CarriedHere targets out (core l) → CarriedHere targets out l
unfolding find
from-core targets out l h = record { known = h.known; outside = h.outside; confined = λ n c later. h.confined n c later }

-- at a place that says the same of names
pub carried-core : (targets : Targets) (out : Outside) (l m : Local) → core l ≡ core m → CarriedHere targets out l → CarriedHere targets out m
carried-core targets out l m e h = from-core targets out m (subst (λ (p : Local). CarriedHere targets out p) e (to-core targets out l h))

-- ---- a variable declaration

variables-beside : (m : Meaning) (ns : List (List ℕ)) → is_type_class m.class ≡ false → IsPlainValue m.value → AllBeside (all_as m ns)
variables-beside m [] c v = tt
variables-beside m (n ∷ ns) c v = (c, v, variables-beside m ns c v)

-- at the names of variables, whose types aren't known yet
variables-inner : (targets : Targets) (own : List Domain) (out : Outside) (l : Local) (ks : Forest) → CarriedPlace targets own out l → CarriedPlace targets own out (inner l kind.Vardef ks)
variables-inner targets own out l ks g =
    let m = declared_as VariableName l.owner in
    moved-place targets own out l (inner l kind.Vardef ks) (inner-later l kind.Vardef ks)
    (beside-carried targets own l (all_as m (names_of_first ks)) (variables-beside m (names_of_first ks) refl tt) g.known) g

-- the type of their denoter is carried
pub carried-denoter : HidingLaw → (targets : Targets) (out : Outside) (l : Local) (names den : Plain) → has class.Names names.kind ≡ true → has class.Denoter den.kind ≡ true → IsWellFormed names → IsWellFormed den →
    CarriedHere targets out l → IsCarriedType targets [] (attributes_at out (part_place out l kind.Vardef names den) den).as_value.type
carried-denoter law targets out l names den isnames isden sound_names sound_den g =
    let ks = names ∷ den ∷ [] in
    let hidden = hiding l.names out in
    let l1 = first_place l kind.Vardef ks in
    let l2 = part_place out l kind.Vardef names den in
    let first = node-law.denoter targets [] hidden l1 names (kind-law.denoter names sound_names (as-carried names.kind (class-denoting class.Names names.kind refl isnames))) (variables-inner targets [] hidden l (forest_of ks) g) in
    let same = law.names_inner l kind.Vardef (forest_of ks) in
    let place : CarriedPlace targets [] hidden l2 = subst (λ (p : Local). CarriedPlace targets [] hidden p) (law.behind l.names out l1 names same) first.2 in
    let found = (node-law.denoter targets [] hidden l2 den (kind-law.denoter den sound_den (as-carried den.kind (class-denoting class.Denoter den.kind refl isden))) place).0.type in
    subst (λ (a : Attributes). IsCarriedType targets [] a.as_value.type) (law.node l.names out l2 den (law.names_behind out l1 names ∙ same)) found

-- and so is what names mean behind the declaration, or a hole in its place
pub carried-behind : HidingLaw → (targets : Targets) (out : Outside) (l : Local) (t : Plain) → is_variable t.kind ≡ true → IsWellFormed t → CarriedHere targets out l → CarriedHere targets out (place_behind out l t)
carried-behind law targets out l t is sound g =
    let hidden = hiding l.names out in
    let m = place_behind out l t in
    let behind : CarriedPlace targets [] hidden m = subst (λ (p : Local). CarriedPlace targets [] hidden p) (law.behind l.names out l t refl) (node-law.variable targets hidden l t is (kind-law.variable t sound is) g).1 in
    subst (λ (ns : List (List ℕ × Class)). CarriedPlace targets [] (hiding ns out) m) (sym (law.names_behind out l t)) behind

-- behind the type part of a block
pub carried-types : HidingLaw → (targets : Targets) (out : Outside) (l : Local) (constants types : Plain) → CarriedPlace targets [] (hiding l.names out) (place_behind out (place_behind out l constants) types) →
    CarriedHere targets out (place_behind out (place_behind out l constants) types)
carried-types law targets out l constants types g =
    let l1 = place_behind out l constants in
    subst (λ (ns : List (List ℕ × Class)). CarriedPlace targets [] (hiding ns out) (place_behind out l1 types)) (sym (law.names_behind out l1 types ∙ law.names_behind out l constants)) g
