use Rattle.pc_denoters.specs.SimpleMakes.{makes-record0}
use Rattle.pc_denoters.proofs.simple.empty_record.Goals as goal

pub returns : goal.returns
returns c = λ block owner.
    makes-record0 c.args.tables.now c.no_fields.new.types block owner c.args.here c.args.packed c.in_ok-found.found (λ k w l def pack. c.in_ok-found.ensures.shows k w l def pack) c.in_ok-found.ensures.extended
