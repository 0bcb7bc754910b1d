use Rattle.pc_syntax.specs.declared.class.Class.TheVariants as class
use Rattle.std.proofs.Common.{refl}
use Rattle.pc_bodies.specs.BodyLaws.{class-body}
use Rattle.pc_told.specs.StartLaws.{told-start}
use Rattle.pc_told.proofs.told.types_in.Goals as goal

pub tell_down-requires : goal.tell_down-requires
tell_down-requires c = record { block = c.requires.block; body = class-body class.Body c.args.node.now.kind refl c.requires.statement }

pub returns : goal.returns
returns c = record {
  told = told-start c.args.body.now c.args.going.now c.new-told.result.items c.tell_down.new.told.items c.args.node.now c.args.way.now c.requires.statement c.new-told.ensures.items c.in_ok-tell_down.ensures.told;
  texts = c.in_ok-tell_down.ensures.texts;
}
