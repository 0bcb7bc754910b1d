use Rattle.std.proofs.Common.{sym, subst}
use Rattle.pc_syntax.specs.Words.{lowered}
use Rattle.pc_places.specs.Places.{known, IsPlace}
use Rattle.pc_definitions.specs.Namings.{ShowsNaming, leaving}
use Rattle.pc_definitions.specs.NamingLaws.{parts-declare}
use Rattle.pc_definitions.specs.declared.naming.Naming.{Naming}
use Rattle.pc_definitions.proofs.naming.leave.Goals as goal

pub returns-in_ok-complete-in-First-clause-place : goal.returns-in_ok-complete-in-First-clause-place
returns-in_ok-complete-in-First-clause-place c = λ own out l t m shows parts place.
    let old = c.args.tables.now in
    let n = lowered t.word in
    let first = subst (ShowsNaming old.names.texts t) c.in-First.is shows in
    subst (λ (x : Naming). IsPlace c.complete.new.tables c.args.block.0 own out (leaving l t x m)) (sym c.in-First.is)
    (c.in_ok-complete-in-First.ensures.place own out l n m first.1 (parts-declare (known old) c.args.class c.args.owner c.args.value c.args.of m n c.in-First.name parts first.1) place)
