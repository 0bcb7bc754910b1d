use Rattle.pc_syntax.specs.Words.{lowered}
use Rattle.pc_growth.specs.GrowsLaws.{less-begins}
use Rattle.pc_places.specs.MovesLaws.{IsPlace-kept, Moves-kept, Moves-then}
use Rattle.pc_places.specs.NumberingLaws.{number_of-begins}
use Rattle.pc_definitions.proofs.naming.pass_name.Goals as goal

pub returns : goal.returns
returns c =
    let t0 = c.args.tables.now in
    let t1 = c.number.new.tables in
    let t2 = c.pass.new.tables in
    let block = c.args.block.0 in
    let n = lowered c.args.word.now in
    let name = c.in_ok-name.name in
    let is = c.in_ok-name.ensures.number in
    let keeps = c.in_ok-name.ensures.keeps in
    let moves = c.in_ok-pass.ensures.moves in
    record {
      number = number_of-begins t1.names.texts t2.names.texts n name.0 moves.grows.names is;
      there = less-begins t1.names.texts t2.names.texts name.0 moves.grows.names c.in_ok-name.ensures.there;
      place = λ owner out l place.
          let here = IsPlace-kept t0 t1 block owner out l keeps place in
          (c.is_passed-second.ensures owner out l n is here, c.in_ok-pass.ensures.place owner out l n is here);
      moves = Moves-then block t0 t1 t2 (Moves-kept block t0 t1 keeps) moves;
    }
