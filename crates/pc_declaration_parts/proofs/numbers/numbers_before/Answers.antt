use Rattle.std.proofs.Common.{◌≡◌, ℕ, List, map, sym, subst}
use Rattle.pc_rules.specs.Meanings.{Local, Meaning, Outside}
use Rattle.pc_names.specs.Numbers.{AreDistinct}
use Rattle.pc_environment.specs.Decorating.{place_behind}
use Rattle.pc_places.specs.MovesLaws.{Keeps-then}
use Rattle.pc_places.specs.Parameters.{ShowsParameters}
use Rattle.pc_places.specs.Places.{known}
use Rattle.pc_counts.specs.Counting.{AreCounted}
use Rattle.pc_declaration_parts.proofs.numbers.numbers_before.Goals as goal

pub returns : goal.returns
returns c =
    let t0 = c.args.tables.now in
    let t1 = c.count_constants.new.tables in
    let t2 = c.count_types.new.tables in
    let t3 = c.count_variables.new.tables in
    let names = t0.names.texts in
    let constants = c.in_ok-count_constants.ensures in
    let types = c.in_ok-of_types.ensures in
    let variables = c.in_ok-of_variables.ensures in
    let behind = λ (out : Outside) (l : Local) (es : List (List ℕ × Meaning)) (apart : AreDistinct names) (shown : ShowsParameters (known t0) t0.declarations.items c.args.parameters.now es)
    (passed : l.passed ≡ map (λ d. d.0) es).
    constants.counts out l apart
    (subst (λ (p : List (List ℕ)). AreCounted c.count_parameters.new.self names p) (sym passed) (c.in_ok-count_parameters.ensures es apart shown (c.new-counts.ensures.counts names))) in
    record {
      types = λ out l es apart shown passed. types.before (place_behind out l c.args.constants.now) (constants.keeps.distinct apart) (behind out l es apart shown passed);
      variables = λ out l es apart shown passed.
          let m = place_behind out l c.args.constants.now in
          variables.before (place_behind out m c.args.types.now) (types.keeps.distinct (constants.keeps.distinct apart))
          (types.counts out m (constants.keeps.distinct apart) (behind out l es apart shown passed));
      keeps = Keeps-then t0 t2 t3 (Keeps-then t0 t1 t2 constants.keeps types.keeps) variables.keeps;
    }
