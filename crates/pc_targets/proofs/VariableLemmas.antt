-- Variable declarations of a block: places behind them, and the types of their denoters.
use Rattle.std.proofs.Common.{◌≡◌, ℕ, true, false, List, [], ◌∷◌, None, refl, ◌∙◌, subst}
use Rattle.pc_syntax.specs.declared.kind.Kind.TheVariants as kind
use Rattle.pc_syntax.specs.Plain.{Forest, Plain, forest_of}
use Rattle.pc_scope.specs.Headings.{names_of_first}
use Rattle.pc_rules.specs.Attributes.{Attributes}
use Rattle.pc_rules.specs.DeclaringNames.{all_as}
use Rattle.pc_rules.specs.Meanings.{VariableName, Meaning, Local, declared_as}
use Rattle.pc_rules.specs.NameClasses.{is_type_class}
use Rattle.pc_rules.specs.Outsides.{outside_of}
use Rattle.pc_rules.specs.Places.{inner}
use Rattle.pc_rules.specs.Routines.{Routine, start_of}
use Rattle.pc_environment.specs.Decorating.{attributes_at, place_behind}
use Rattle.pc_rule_laws.specs.Within.{inner-names}
use Rattle.pc_pointers.specs.Good.{Targets}
use Rattle.pc_closed.specs.Carried.{IsCarriedType}
use Rattle.pc_carrying.specs.Carrying.{CarriedPlace, AllDenoting}
use Rattle.pc_carrying.specs.ConfinedLaws.{moved-place}
use Rattle.pc_carrying.specs.KnownLaws.{beside-carried}
use Rattle.pc_carrying.specs.LaterLaws.{inner-later}
use Rattle.pc_carrying.specs.Parts.{AllBeside, is_variable}
use Rattle.pc_carrying.specs.StartLaws.{node-law}
use Rattle.pc_targets.specs.Blocks.{IsPlaceOf}
use Rattle.pc_targets.specs.Program.{beyond}
use Rattle.pc_targets.proofs.HidingLemmas.{hidden-attributes, hidden-behind, names-behind}

pub variable-next : (targets : Targets) (all : List Routine) (r : Routine) (l : Local) (t : Plain) → IsPlaceOf targets all r l → is_variable t.kind ≡ true → AllDenoting t.kids →
    IsPlaceOf targets all r (place_behind (outside_of all r) l t)
variable-next targets all r l t p e a = record {
  names = names-behind (outside_of all r) l t ∙ p.names;
  carried = subst (CarriedPlace targets [] (beyond all r)) (hidden-behind (start_of r).names (outside_of all r) l t p.names) (node-law.variable targets (beyond all r) l t e a p.carried).1;
}

variables-beside : (m : Meaning) (ns : List (List ℕ)) → is_type_class m.class ≡ false → m.value ≡ None → AllBeside (all_as m ns)
variables-beside m [] c v = tt
variables-beside m (n ∷ ns) c v = (c, (rw v tt), variables-beside m ns c v)

-- the names of a declaration stand before its denoter, without their types
inner-place : (targets : Targets) (all : List Routine) (r : Routine) (l : Local) (ks : Forest) → IsPlaceOf targets all r l → IsPlaceOf targets all r (inner l kind.Vardef ks)
inner-place targets all r l ks p =
    let m = declared_as VariableName l.owner in
    record {
      names = inner-names l kind.Vardef ks ∙ p.names;
      carried = moved-place targets [] (beyond all r) l (inner l kind.Vardef ks) (inner-later l kind.Vardef ks)
          (beside-carried targets [] l (all_as m (names_of_first ks)) (variables-beside m (names_of_first ks) refl refl) p.carried.known) p.carried;
    }

pub variable-denoter : (targets : Targets) (all : List Routine) (r : Routine) (l : Local) (names denoter : Plain) → IsPlaceOf targets all r l → AllDenoting (forest_of (names ∷ denoter ∷ [])) →
    IsCarriedType targets [] (attributes_at (outside_of all r) (place_behind (outside_of all r) (inner l kind.Vardef (forest_of (names ∷ denoter ∷ []))) names) denoter).as_value.type
variable-denoter targets all r l names denoter p a =
    let own = (start_of r).names in
    let out = outside_of all r in
    let at = inner l kind.Vardef (forest_of (names ∷ denoter ∷ [])) in
    let place = inner-place targets all r l (forest_of (names ∷ denoter ∷ [])) p in
    let next = (node-law.denoter targets [] (beyond all r) at names (a.0, a.1, tt) place.carried).2 in
    let moved = subst (CarriedPlace targets [] (beyond all r)) (hidden-behind own out at names place.names) next in
    let behind = place_behind out at names in
    let found = (node-law.denoter targets [] (beyond all r) behind denoter (a.2.0, a.2.1, tt) moved).0 in
    subst (λ (x : Attributes). IsCarriedType targets [] x.as_value.type) (hidden-attributes own out behind denoter (names-behind out at names ∙ place.names)) found.type
