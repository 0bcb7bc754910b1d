-- What decides whether a tree may be made.
use Rattle.std.specs.Prelude.{◌≡◌, true, false}
use Rattle.pc_syntax.specs.Plain.{Plain}
use Rattle.pc_syntax.specs.WellFormed.{depth_of, size_of, IsWellFormed}
use Rattle.pc_syntax.specs.Parts.{is_open}
use Rattle.pc_syntax.specs.declared.outline.Outline.{Outline}

-- o is the outline of p
pub record IsOutline (o : Outline) (p : Plain) : Type 0 where
  pub kind : o.kind ≡ p.kind
  pub sound : o.fits ≡ true → IsWellFormed p
  pub unsound : o.fits ≡ false → ¬ IsWellFormed p
  pub is_open : o.is_open ≡ is_open p
  pub depth : o.depth ≡ depth_of p
  pub size : o.size ≡ size_of p
