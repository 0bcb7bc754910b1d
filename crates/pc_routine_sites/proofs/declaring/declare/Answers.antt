use Rattle.std.proofs.Common.{Bool, not, ◌&&◌, ap, ◌∙◌, subst}
use Rattle.pc_routine_sites.specs.Declaring.{TellsRoutine}
use Rattle.pc_routine_sites.proofs.declaring.declare.Goals as goal

pub returns : goal.returns
returns c =
    let x = c.args.head.now in
    record {
      declared = c.declare_routine.new.tables;
      headed = c.heading.new.tables;
      adds = c.in_ok-declare_routine.ensures.added;
      place = λ out l proper is shows late at. c.in_ok-declare_routine.ensures.place out l c.args.node.now c.requires.routine proper is shows late at;
      moves = c.in_ok-declare_routine.ensures.moves;
      heads = c.in_ok-found.ensures;
      tells = subst (λ (b : Bool). TellsRoutine c.args.block.0 c.args.around x.name x.is_function c.in_ok-found.found.signature b c.heading.new.tables c.tell.new.tables)
          (c.both-fresh.ensures ∙ ap (λ (b : Bool). not c.args.later && b) c.is_free-free.ensures) c.in_ok-tell.ensures.told;
      told = c.in_ok-tell.ensures.moves;
    }
