-- Holes at the nodes of a list.
use Rattle.std.specs.Prelude.{◌≡◌, Bool, false, ◌||◌, List, [], ◌∷◌}
use Rattle.std.proofs.Common.{refl, ap, ◌∙◌}
use Rattle.pc_rules.specs.Attributes.{Node}
use Rattle.pc_rules.specs.HandedOn.{any_hole}
use Rattle.pc_facts.specs.Known.{Known}
use Rattle.pc_facts.specs.Shows.{AllShow}
use Rattle.pc_facts.specs.declared.facts.Facts.{Facts}
use Rattle.pc_denoters.specs.Goings.{ShowsFacts}

-- whether a hole stands in one of them
abbrev pub any_open : List Facts → Bool
any_open [] = false
any_open (f ∷ fs) = f.hole || any_open fs

pub any_open-shows : (k : Known) (fs : List Facts) (ns : List Node) → AllShow (ShowsFacts k) fs ns → any_open fs ≡ any_hole ns
any_open-shows k [] [] all = refl
any_open-shows k (f ∷ fs) (n ∷ ns) all = ap (λ (b : Bool). b || any_open fs) all.0.hole ∙ ap (λ (b : Bool). n.hole || b) (any_open-shows k fs ns all.1)
any_open-shows k [] (n ∷ ns) all = absurd all
any_open-shows k (f ∷ fs) [] all = absurd all
