-- What the rules of denoters judge of types that may be unknown, as shapes alone.
use Rattle.std.specs.Prelude.{◌≡◌, Bool, false, Option, Some, None, codes}
use Rattle.std.proofs.Common.{refl}
use Rattle.pc_types.specs.Shapes.{Shape, Typed}
use Rattle.pc_types.specs.Sizes.{is_too_large}
use Rattle.pc_judgements.specs.Judged.{is_base_too_large}
use Rattle.pc_rules.specs.Entries.{note_if}
use Rattle.pc_rules.specs.StructuredTypes.{base_too_large, too_large}
use Rattle.pc_facts.specs.Shows.{shape_of}

-- known, ordinal, and with a value below 0 or above 255
abbrev pub is_large_base : Option Shape → Bool
is_large_base None = false
is_large_base (Some t) = is_base_too_large t

-- known, and over a limit
abbrev pub is_large : Option Shape → Bool
is_large None = false
is_large (Some t) = is_too_large t

pub base_too_large-judged : (t : Option Typed) → base_too_large t ≡ note_if (is_large_base (shape_of t)) 9 (codes "set base too large")
base_too_large-judged None = refl
base_too_large-judged (Some t) = refl

pub too_large-judged : (t : Option Typed) → too_large t ≡ note_if (is_large (shape_of t)) 10 (codes "type too large")
too_large-judged None = refl
too_large-judged (Some t) = refl
