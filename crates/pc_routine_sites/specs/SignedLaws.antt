-- The routines of a block keep their parameters and results where one of them is declared and told again: lemmas.
use Rattle.std.proofs.Common.{◌≡◌, ℕ, Bool, true, false, List, Some, slice_get, refl, sym, ◌∙◌, subst}
use Rattle.std.proofs.lemmas.Slice.Eq.{bytes_eq-Decides}
use Rattle.std.specs.Str.{bytes_eq}
use Rattle.pc_names.specs.Standing.{meant}
use Rattle.pc_names.specs.Table.{slot_named}
use Rattle.pc_names.specs.declared.id.DeclarationId.{DeclarationId}
use Rattle.pc_rules.specs.Meanings.{is_routine_class}
use Rattle.pc_facts.specs.declared.sighting.Declared.{Declared}
use Rattle.pc_growth.specs.Grows.{Begins, Grows}
use Rattle.pc_places.specs.Places.{known, IsNamed}
use Rattle.pc_places.specs.declared.tables.Tables.{Tables}
use Rattle.pc_standing.specs.Signed.{Signatures, HasSignature}
use Rattle.pc_standing.specs.SigningLaws.{SignsBlock, kept-at}

-- a block has the complete declaration of a name that it had
abbrev pub KnowsAlike : ℕ → Tables → Tables → List ℕ → Type 0
KnowsAlike block old new n = (slot_named new.names block n).known ≡ (slot_named old.names block n).known

-- of each name
pub SignsBlock-known : (old new : Tables) (sig : Signatures) (block : ℕ) → Grows (known old) (known new) → Begins old.declarations.items new.declarations.items →
    ((n : List ℕ) → KnowsAlike block old new n) → IsNamed old.names old.declarations.items → SignsBlock old sig block → SignsBlock new sig block
SignsBlock-known old new sig block grows begins alike named signs = λ n d x has is routine.
    kept-at old new sig block n grows begins named signs d x (sym (alike n) ∙ has) is routine

-- of each name but one, whose declaration has the parameters and the result of the routine
pub SignsBlock-told : (old new : Tables) (sig : Signatures) (block : ℕ) (n : List ℕ) → Grows (known old) (known new) → Begins old.declarations.items new.declarations.items →
    ((q : List ℕ) → bytes_eq n q ≡ false → KnowsAlike block old new q) →
    ((d : DeclarationId) (x : Declared) → (slot_named new.names block n).known ≡ Some d → slice_get new.declarations.items d.0 ≡ Some x → HasSignature (known new) sig n x) →
    IsNamed old.names old.declarations.items → SignsBlock old sig block → SignsBlock new sig block
SignsBlock-told old new sig block n grows begins alike mine named signs = λ q d x has is routine. by q d x (bytes_eq n q) refl has is routine
  where
    by : (q : List ℕ) (d : DeclarationId) (x : Declared) (b : Bool) → bytes_eq n q ≡ b → (slot_named new.names block q).known ≡ Some d → slice_get new.declarations.items d.0 ≡ Some x →
        is_routine_class (meant x.class) ≡ true → HasSignature (known new) sig q x
    by q d x false e has is routine = kept-at old new sig block q grows begins named signs d x (sym (alike q e) ∙ has) is routine
    by q d x true e has is routine =
        let same : n ≡ q = (bytes_eq-Decides n q).0 e in
        subst (λ (p : List ℕ). HasSignature (known new) sig p x) same (mine d x (subst (λ (p : List ℕ). (slot_named new.names block p).known ≡ Some d) (sym same) has) is)
