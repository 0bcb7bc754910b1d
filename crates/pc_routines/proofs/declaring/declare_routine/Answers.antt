use Rattle.std.proofs.Common.{Bool, false, refl, not, ◌&&◌, [], ◌∷◌, Option, sym, ap, ◌∙◌, subst}
use Rattle.std.specs.Option.{is_some}
use Rattle.pc_names.specs.Bindings.{slot_in, declared as declared_slot}
use Rattle.pc_names.specs.declared.id.NameId.{NameId}
use Rattle.pc_scope.specs.Headings.{Heading}
use Rattle.pc_rules.specs.Declarations.{heading_here}
use Rattle.pc_facts.specs.declared.sighting.Declared.{Declared}
use Rattle.pc_places.specs.NamingLaws.{IsNamed-declared}
use Rattle.pc_places.specs.Places.{Rebound}
use Rattle.pc_places.specs.ReboundLaws.{Moves-rebound}
use Rattle.pc_routines.specs.Bare.{declared_routine, AddsRoutine}
use Rattle.pc_routines.specs.Heads.{ShowsHeadName}
use Rattle.pc_routines.specs.DeclaringLaws.{behind-later, behind-unnamed, behind-declared, added-named}
use Rattle.pc_routines.proofs.declaring.declare_routine.Goals as goal

pub returns-then-later-clause-place : goal.returns-then-later-clause-place
returns-then-later-clause-place c = λ out l t r p is shows late at.
    behind-later c.args.tables.now c.args.block.0 c.args.owner.0 out l t r p (sym c.if-later.true ∙ late) at

pub returns-then-later-clause-added : goal.returns-then-later-clause-added
returns-then-later-clause-added c =
    let old = c.args.tables.now in
    subst (λ (b : Bool). AddsRoutine c.args.block.0 c.args.owner c.args.head.now.name c.args.head.now.is_function b old old) (sym c.if-later.true) refl

pub returns-in_default-clause-added : goal.returns-in_default-clause-added
returns-in_default-clause-added c =
    let old = c.args.tables.now in
    subst (λ (b : Bool). AddsRoutine c.args.block.0 c.args.owner c.args.head.now.name c.args.head.now.is_function b old old) (sym c.if-later.false)
    (subst (λ (o : Option NameId). AddsRoutine c.args.block.0 c.args.owner o c.args.head.now.is_function false old old) (sym c.in_default.is) refl)

pub returns-in_default-clause-place : goal.returns-in_default-clause-place
returns-in_default-clause-place c = λ out l t r p is shows late at.
    behind-unnamed c.args.tables.now c.args.block.0 c.args.owner.0 out l t r p
    (ap (λ (h : Heading). h.name) (sym is) ∙ subst (λ (o : Option NameId). ShowsHeadName c.args.tables.now.names.texts o (heading_here l).name) c.in_default.is shows.name) at

pub returns : goal.returns
returns c =
    let old = c.args.tables.now in
    let new = c.declare.new.tables in
    let block = c.args.block.0 in
    let name = c.in-Some.name in
    let d = c.in_ok-id.id in
    let x = c.args.head.now in
    let slot = declared_slot (slot_in old.names.slots block name.0) d in
    let rebound : Rebound block name.0 slot (declared_routine c.args.owner name x.is_function ∷ []) old new =
    subst (λ (y : Declared). Rebound block name.0 slot (y ∷ []) old new) c.declared_routine-declared.ensures c.in_ok-id.ensures.rebound in
    record {
      place = λ out l t r p is shows late at.
          behind-declared old new block c.args.owner out l t x name d r p is shows c.in-Some.is (sym c.if-later.false ∙ late) rebound c.in_ok-id.ensures.number at;
      moves = Moves-rebound block name.0 slot (declared_routine c.args.owner name x.is_function ∷ []) old new rebound
          (IsNamed-declared block name.0 d (declared_routine c.args.owner name x.is_function) old new rebound c.in_ok-id.ensures.number refl);
      added = subst (λ (b : Bool). AddsRoutine block c.args.owner x.name x.is_function b old new) (sym c.if-later.false)
          (subst (λ (o : Option NameId). AddsRoutine block c.args.owner o x.is_function false old new) (sym c.in-Some.is) (d, c.in_ok-id.ensures.number, rebound));
      some = sym ((λ i. not (c.if-later.false i) && is_some (c.in-Some.is i)));
      declared = λ i e n f. added-named old.declarations.items new.declarations.items c.args.owner name n d i x.is_function x.name rebound.declarations c.in_ok-id.ensures.number c.in-Some.is f e;
    }
