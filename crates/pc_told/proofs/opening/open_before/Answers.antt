use Rattle.std.proofs.Common.{sym, ◌∙◌}
use Rattle.pc_growth.specs.GrowsLaws.{Begins-same}
use Rattle.pc_told.specs.WithLaws.{opens-none, stands-kid, stands-access}
use Rattle.pc_told.proofs.opening.open_before.Goals as goal

pub returns-in_ok-open_first-in-Accesses : goal.returns-in_ok-open_first-in-Accesses
returns-in_ok-open_first-in-Accesses c = record {
  stands = stands-access c.args.body.now c.args.going.now c.open_first.new.going c.args.node.now c.args.index c.kind.ensures.proper (sym c.kind.ensures.value ∙ c.in-Accesses.is) c.in_ok-open_first-in-Accesses.ensures;
  texts = c.in_ok-open_first-in-Accesses.ensures.row.texts;
}

pub returns-in_default : goal.returns-in_default
returns-in_default c =
    let node = c.args.node.now in
    record {
      stands = stands-kid c.args.body.now c.args.going.now node c.args.index c.kind.ensures.proper c.requires.body
          (opens-none node.kind (λ e. c.in_default.not-With (c.kind.ensures.value ∙ e)) (λ e. c.in_default.not-Accesses (c.kind.ensures.value ∙ e)));
      texts = Begins-same c.args.going.now.texts.items;
    }
