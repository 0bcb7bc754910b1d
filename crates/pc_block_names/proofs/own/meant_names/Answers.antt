use Rattle.std.proofs.Common.{List, [], ◌∷◌, ◌++◌, ◌∙◌, sym, subst}
use Rattle.std.proofs.lemmas.Iterator.Adapters.{YieldsList-from_vec}
use Rattle.std.proofs.lemmas.Iterator.Consumers.{YieldsList-end}
use Rattle.std.proofs.lemmas.List.{map-id}
use Rattle.pc_own_names.specs.declared.own_name.DeclaredName.{DeclaredName}
use Rattle.pc_own_names.specs.declared.own_name.OwnName.{OwnName}
use Rattle.pc_block_names.specs.Found.{AreMeant}
use Rattle.pc_block_names.specs.FoundLaws.{AreMeant-end}
use Rattle.pc_block_names.proofs.own.meant_names.Goals as goal

pub loop-declared-preserved : goal.loop-declared-preserved
loop-declared-preserved c =
    let t = c.args.tables.now in
    let b = c.args.block.0 in
    subst (AreMeant t b (c.loop-declared.yielded ++ c.in-Some.declared ∷ [])) (sym {A = List OwnName} c.in_ok-push.ensures.items)
    (AreMeant-end t b c.loop-declared.yielded c.loop-declared.own.items c.in-Some.declared c.in_ok-name.name c.loop-declared.invariant c.in_ok-name.ensures)

pub returns : goal.returns
returns c =
    let gives = c.into_iter-declared-iterator.ensures.into_iter_gives in
    let ends = YieldsList-end (YieldsList-from_vec {s = c.into_iter-declared-iterator.result} c.args.names.items gives.0 (gives.1 ∙ c.args.names.ok.0)) c.loop-declared.yielded c.loop-declared.declared-iterator c.loop-declared.yielded_by _ c.next.new.self c.in-None.is c.next.ensures.steps in
    subst (λ (ds : List DeclaredName). AreMeant c.args.tables.now c.args.block.0 ds c.loop-declared.own.items) (sym (map-id c.loop-declared.yielded) ∙ ends.0) c.loop-declared.invariant
