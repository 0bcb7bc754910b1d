-- The tables stay sound where each block has what it had: lemmas.
use Rattle.std.proofs.Common.{◌≡◌, ℕ, List, [], ◌∷◌, sym, ap, subst}
use Rattle.pc_types.specs.Shapes.{Owner}
use Rattle.pc_names.specs.Table.{Table, slot_named}
use Rattle.pc_rules.specs.Outsides.{signature_named}
use Rattle.pc_rules.specs.Routines.{Routine}
use Rattle.pc_sightings.specs.TouchedLog.{AreApart}
use Rattle.pc_growth.specs.Grows.{Begins, Grows}
use Rattle.pc_places.specs.Places.{known, Changes, Keeps, IsNamed}
use Rattle.pc_places.specs.ChangesLaws.{Changes-moved}
use Rattle.pc_places.specs.MovesLaws.{Moves-kept}
use Rattle.pc_places.specs.declared.tables.Tables.{Tables}
use Rattle.pc_standing.specs.Signed.{Signatures, IsSigned}
use Rattle.pc_standing.specs.SigningLaws.{SignsBlock-kept}
use Rattle.pc_domains.specs.RetargetedLaws.{Changes-retargeted}
use Rattle.pc_domains.specs.Told.{Retargeted}
use Rattle.pc_routine_sites.specs.Sites.{OwnersAmong, Sound}

abbrev Signs : Tables → Signatures → List ℕ → Type 0
Signs t sig bs = IsSigned t.names (known t) t.declarations.items sig bs

signs-kept : (old new : Tables) (sig : Signatures) (bs : List ℕ) → Grows (known old) (known new) → Begins old.declarations.items new.declarations.items →
    ((b : ℕ) (q : List ℕ) → slot_named new.names b q ≡ slot_named old.names b q) → IsNamed old.names old.declarations.items → Signs old sig bs → Signs new sig bs
signs-kept old new sig [] grows begins kept named signs = tt
signs-kept old new sig (b ∷ bs) grows begins kept named signs =
    (SignsBlock-kept old new sig b grows begins (kept b) named signs.0, signs-kept old new sig bs grows begins kept named signs.1)

sound-same : (all gone : List Routine) (block : ℕ) (old new : Tables) (bs : List ℕ) → Changes block old new → ((b : ℕ) (q : List ℕ) → slot_named new.names b q ≡ slot_named old.names b q) → Sound all gone old bs →
    Sound all gone new bs
sound-same all gone block old new bs k kept s = record {
  distinct = k.distinct s.distinct;
  named = k.named s.named;
  signed = signs-kept old new (signature_named all) bs k.grows k.declarations kept s.named s.signed;
  apart = subst AreApart (sym k.owners) s.apart;
  owners = subst (λ (os : List Owner). OwnersAmong os gone) (sym k.owners) s.owners;
}

-- where only the types of domains have changed
pub sound-retargeted : (all gone : List Routine) (block : ℕ) (old new : Tables) (bs : List ℕ) → Retargeted old new → Sound all gone old bs → Sound all gone new bs
sound-retargeted all gone block old new bs h = sound-same all gone block old new bs (Changes-retargeted block old new h) (λ b q. ap (λ (t : Table). slot_named t b q) h.names)

-- where more is numbered alone
pub sound-kept : (all gone : List Routine) (block : ℕ) (old new : Tables) (bs : List ℕ) → Keeps old new → Sound all gone old bs → Sound all gone new bs
sound-kept all gone block old new bs h = sound-same all gone block old new bs (Changes-moved block old new (Moves-kept block old new h)) h.slots

-- without the innermost block
pub sound-around : (all gone : List Routine) (t : Tables) (b : ℕ) (bs : List ℕ) → Sound all gone t (b ∷ bs) → Sound all gone t bs
sound-around all gone t b bs s = record { distinct = s.distinct; named = s.named; signed = s.signed.1; apart = s.apart; owners = s.owners }
