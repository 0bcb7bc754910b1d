-- Trees in a row of a statement part see the same of their places.
use Rattle.std.proofs.Common.{◌≡◌, ℕ, List, [], ◌∷◌, Bool, true, false, refl, ap, sym, ◌∙◌}
use Rattle.pc_syntax.specs.Plain.{Plain}
use Rattle.pc_forms.specs.FormClasses.{Every}
use Rattle.pc_rules.specs.Meanings.{Local, Outside}
use Rattle.pc_environment.specs.Decorating.{attributes_at, place_behind, place_after}
use Rattle.pc_environment.specs.Sight.{Sight, sight_of, is_body}
use Rattle.pc_environment.specs.SightLaws.{sight-behind}
use Rattle.pc_environment.specs.QuietLaws.{body-defines}

-- a place among trees of which none opens records for those behind it, and what is seen from it
pub record SeesFrom (out : Outside) (l : Local) (s : Sight) : Type 0 where
  pub sight : sight_of out l ≡ s
  pub closed : l.opening ≡ false

-- behind a tree of a statement part the same is seen
pub sees-behind : (out : Outside) (l : Local) (s : Sight) (t : Plain) → is_body t.kind ≡ true → SeesFrom out l s → SeesFrom out (place_behind out l t) s
sees-behind out l s t b h = record {
  sight = sight-behind out l t.kind (attributes_at out l t) b (body-defines out l t b) h.closed ∙ h.sight;
  closed = h.closed;
}

-- behind several of them too
pub sees-after : (out : Outside) (l : Local) (s : Sight) (ts : List Plain) → Every (λ t. is_body t.kind ≡ true) ts → SeesFrom out l s → SeesFrom out (place_after out l ts) s
sees-after out l s [] b h = h
sees-after out l s (t ∷ ts) b h = sees-after out (place_behind out l t) s ts b.1 (sees-behind out l s t b.0 h)

-- the same is seen behind trees in a row
abbrev pub SeesAlike : Type 0
SeesAlike = (out : Outside) (l : Local) (s : Sight) (ts : List Plain) → Every (λ t. is_body t.kind ≡ true) ts → SeesFrom out l s → SeesFrom out (place_after out l ts) s
