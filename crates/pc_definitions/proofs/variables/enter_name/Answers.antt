use Rattle.std.proofs.Common.{◌≡◌, ◌+◌, ◌++◌, Some, length, refl, sym, subst, ap, ◌∙◌}
use Rattle.pc_syntax.specs.Words.{lowered}
use Rattle.pc_names.specs.Numbers.{number_of}
use Rattle.pc_definitions.specs.VariableNames.{twice_at}
use Rattle.pc_definitions.specs.VariableNamesLaws.{declared-name}
use Rattle.pc_definitions.proofs.variables.enter_name.Goals as goal

pub returns : goal.returns
returns c = λ base ts t count no_hole word so.
    let t1 = c.args.tables.now in
    let t2 = c.number.new.tables in
    let t3 = c.declare.new.tables in
    let old = c.args.found.now in
    let name = c.in_ok-name.name in
    let owner = c.args.owner.0 in
    let fresh = c.is_new_name-fresh.result in
    let twice = c.is_passed-twice.result in
    let n = lowered t.word in
    let is = subst (λ w. number_of t2.names.texts (lowered w) ≡ Some name.0) (sym word) c.in_ok-name.ensures.number in
    declared-name c.args.block.0 c.args.owner base t1 t2 t3 ts t old _ name fresh twice no_hole so c.in_ok-name.ensures.keeps is c.in_ok-name.ensures.there (λ out l place. c.is_passed-twice.ensures owner out l n is place)
    (λ out l place. c.is_new_name-fresh.ensures owner out l n is place) (λ out l m declares place. c.in_ok-declare.ensures.place owner out l n m is declares place) c.in_ok-declare.ensures.moves
    c.in_ok-push_if.ensures
    (c.in_ok-add_twice.ensures ∙ ap (λ k. old.entries.items ++ twice_at k twice c.args.word.now) count ∙ ap (λ w. old.entries.items ++ twice_at (1 + length ts) twice w) (sym word)) refl
