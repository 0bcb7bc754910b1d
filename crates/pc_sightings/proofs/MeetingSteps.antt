-- What a name was met as, from what the table of names answers.
use Rattle.std.proofs.Common.{◌≡◌, ℕ, Bool, List, [], ◌∷◌, Option, Some, None, refl, ap, sym, ◌∙◌, subst}
use Rattle.pc_types.specs.Shapes.{Typed}
use Rattle.pc_types.specs.declared.operand.Operand.{Operand}
use Rattle.pc_names.specs.declared.id.DeclarationId.{DeclarationId}
use Rattle.pc_names.specs.declared.id.NameId.{NameId}
use Rattle.pc_names.specs.declared.bound.Bound.{Bound}
use Rattle.pc_names.specs.declared.bound.Bound.TheVariants as bound
use Rattle.pc_names.specs.Bindings.{bound_or, slot_in}
use Rattle.pc_names.specs.Chains.{found}
use Rattle.pc_names.specs.Numbers.{number_of}
use Rattle.pc_names.specs.Table.{Table, slot_at, found_named}
use Rattle.pc_names.specs.TableLaws.{found-number_of, slice_get-number_of}
use Rattle.pc_facts.specs.Known.{Known}
use Rattle.pc_sightings.specs.Opened.{ShowsField}
use Rattle.pc_sightings.specs.declared.met.Met.{Met}
use Rattle.pc_sightings.specs.declared.met.Met.TheVariants as met
use Rattle.pc_sightings.specs.Meeting.{MeetsOutermost, MeetsBound, Meets}

-- what is found for a name with a number is what is found for the number
pub bound-numbered : (t : Table) (blocks : List ℕ) (n : List ℕ) (i : ℕ) (r : Bound) (m : Met) → number_of t.texts n ≡ Some i → r ≡ found (λ b. slot_in t.slots b i) blocks →
    MeetsBound t.texts n m r → MeetsBound t.texts n m (found_named t blocks n)
bound-numbered t blocks n i r m number is meets = subst (MeetsBound t.texts n m) (is ∙ found-number_of t blocks n i number) meets

-- a declaration
pub here-numbered : (names : List (List ℕ)) (n : List ℕ) (i : NameId) (d : DeclarationId) (r : Bound) → number_of names n ≡ Some i.0 → r ≡ bound.Here d → MeetsBound names n (met.Here d i) r
here-numbered names n i d r number is = subst (MeetsBound names n (met.Here d i)) (sym is) (refl, slice_get-number_of names n i.0 number)

-- a name without a number is bound nowhere
unnumbered : (t : Table) (blocks : List ℕ) (n : List ℕ) → number_of t.texts n ≡ None → found_named t blocks n ≡ bound.Unbound
unnumbered t [] n none = refl
unnumbered t (b ∷ blocks) n none = ap (λ (o : Option ℕ). bound_or (slot_at t.slots b o) (found_named t blocks n)) none ∙ unnumbered t blocks n none

pub outermost-unnumbered : (t : Table) (blocks : List ℕ) (n : List ℕ) (m : Met) → number_of t.texts n ≡ None → MeetsOutermost n m → MeetsBound t.texts n m (found_named t blocks n)
outermost-unnumbered t blocks n m none meets = subst (MeetsBound t.texts n m) (sym (unnumbered t blocks n none)) meets

-- a field
pub meets-field : (k : Known) (n : List ℕ) (o : Operand) (p : Bool) (e : Option (Typed × Bool)) (b : Bound) → ShowsField k.table (Some (o, p)) e → Meets k n (met.Component o p) e b
meets-field k n o p (Some f) b is = is
meets-field k n o p None b is = absurd is

-- no field
pub meets-bound : (k : Known) (names : List (List ℕ)) (n : List ℕ) (m : Met) (e : Option (Typed × Bool)) (b : Bound) → ShowsField k.table None e → k.names ≡ names → MeetsBound names n m b →
    Meets k n m e b
meets-bound k names n m (Some f) b is same meets = absurd is
meets-bound k names n m None b is same meets = subst (λ (v : List (List ℕ)). MeetsBound v n m b) (sym same) meets
