use Rattle.std.proofs.Common.{◌≡◌, List, ap, length, ◌∙◌, sym, subst}
use Rattle.pc_types.specs.Rows.{Kept, seen}
use Rattle.pc_types.specs.contracts.types.Types.{the_view}
use Rattle.pc_types.proofs.GrowthLaws.{length-domains}
use Rattle.pc_types.proofs.types.Types.count_domains.Goals as goal

pub returns : goal.returns
returns c = subst (λ (k : Kept). length c.as_slice.result.now ≡ length (seen k).domains) c.self.view_is (ap (λ (v : List _). length v) c.as_slice.ensures.value ∙ sym (length-domains (the_view c.self.inside)))
