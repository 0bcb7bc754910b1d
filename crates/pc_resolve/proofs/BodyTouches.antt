-- What the statement part of a routine's block touches, the block does: lemmas.
use Rattle.std.proofs.Common.{◌≡◌, [], ◌∷◌, ap, sym, ◌∙◌}
use Rattle.pc_syntax.specs.Plain.{Forest, Plain}
use Rattle.pc_syntax.specs.WellFormed.{IsProper}
use Rattle.pc_rules.specs.Attributes.{nodes}
use Rattle.pc_rules.specs.Decorated.{decorate}
use Rattle.pc_rules.specs.HandedOn.{all_touches}
use Rattle.pc_rules.specs.Outsides.{outside_of, quiet}
use Rattle.pc_rules.specs.RoutineList.{routines_of}
use Rattle.pc_rules.specs.Routines.{Routine, start_of}
use Rattle.pc_environment.specs.Decorating.{attributes_at, marks_of, place_after}
use Rattle.pc_environment.specs.DecoratingLaws.{decorate-forest_of}
use Rattle.pc_needs.specs.Unaffected.{IsOneOf}
use Rattle.pc_program_laws.specs.Changed.{QuietTouchesLaw}
use Rattle.pc_program_laws.specs.Touches.{RoutineTouchesLaw, body_touches}
use Rattle.pc_block_laws.specs.OwnTypes.{IsOwnBlock}

-- whether or not it is known what others touch
pub body-touches : RoutineTouchesLaw → QuietTouchesLaw → (t : Plain) (r : Routine) (a b c d e : Plain) → IsProper t → IsOneOf (routines_of t) r → IsOwnBlock r a b c d e →
    (attributes_at (outside_of (routines_of t) r) (place_after (outside_of (routines_of t) r) (start_of r) (a ∷ b ∷ c ∷ d ∷ [])) e).touches
    ≡ all_touches (nodes (decorate (quiet (routines_of t) r) (start_of r) r.block))
body-touches law alike t r a b c d e proper among five =
    let all = routines_of t in
    let out = outside_of all r in
    let l = start_of r in
    let fifth : body_touches (decorate out l r.block) ≡ body_touches (marks_of out l (a ∷ b ∷ c ∷ d ∷ e ∷ [])) =
    ap (λ (f : Forest). body_touches (decorate out l f)) five ∙ ap body_touches (decorate-forest_of out l (a ∷ b ∷ c ∷ d ∷ e ∷ [])) in
    sym fifth ∙ sym (law t r out l proper among) ∙ alike t r all l proper among
