-- The type of an expression of a statement part.
use Rattle.std.specs.Prelude.{◌≡◌, Bool, if◌then◌else◌, Option, Some}
use Rattle.std.specs.Option.{option_and_then}
use Rattle.std.proofs.Common.{ap, ◌∙◌}
use Rattle.pc_syntax.specs.Places.{at}
use Rattle.pc_syntax.specs.Plain.{Plain}
use Rattle.pc_syntax.specs.Words.{lowered}
use Rattle.pc_decl.specs.Annotated.{Annotated, annotated}
use Rattle.pc_decl.specs.FieldTypes.{shape_of}
use Rattle.pc_decl.specs.Roles.{judged_as, role_at, expression_type}
use Rattle.pc_decl.specs.TypeAt.{declared_shape, shape_of_node, shape_at, structure_of, type_in}
use Rattle.pc_rules.specs.Attributes.{Attributes}
use Rattle.pc_found_laws.specs.TypesThere.{TypeLaw}
use Rattle.pc_found_laws.proofs.FoundLemmas.{found-law}
use Rattle.pc_found_laws.proofs.RoleLemmas.{tree-is}
use Rattle.pc_found_laws.proofs.WayLemmas.{ways-law}

pub type-law : TypeLaw
unfolding type_in shape_at expression_type
type-law t r path x l proper program one h expr =
    let p : Annotated = annotated t in
    let here : at path t ≡ Some x = ways-law.node t r path x l h in
    ap (λ (u : Plain). option_and_then structure_of (option_and_then (shape_of_node p path) (at path u))) (tree-is t)
    ∙ ap (λ (o : Option Plain). option_and_then structure_of (option_and_then (shape_of_node p path) o)) here
    ∙ ap (λ (b : Bool). option_and_then structure_of (if b then shape_of (expression_type p path) else declared_shape p path x.kind (lowered x.word))) expr
    ∙ ap (λ (o : Option Attributes). option_and_then structure_of (shape_of (option_and_then (λ (a : Attributes). (judged_as (role_at p path) a).type) o))) (found-law.here t r path x l proper program one h)
