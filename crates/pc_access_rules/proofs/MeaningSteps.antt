-- What a name means: lemmas.
use Rattle.std.specs.Prelude.{◌≡◌, ℕ, ◌<◌, ◌==◌, suc, Bool, not, List, [], ◌∷◌, Option, Some, None, length, option_map, slice_get}
use Rattle.std.specs.Option.{ForSome}
use Rattle.std.proofs.Common.{refl, ap, sym, ◌∙◌, subst}
use Rattle.std.proofs.lemmas.Option.{none-some}
use Rattle.pc_types.specs.Shapes.{Typed}
use Rattle.pc_types.specs.Table.{Table, numbered, IsThere}
use Rattle.pc_types.specs.declared.form.TypeId.{TypeId}
use Rattle.pc_types.specs.declared.operand.Operand.{Operand}
use Rattle.pc_types.specs.declared.operand.Operand.TheVariants as operand
use Rattle.pc_rules.specs.Meanings as rules
use Rattle.pc_rules.specs.Meanings.{Found, Meaning, Here, Later, Component, Required, Missing}
use Rattle.pc_rules.specs.Variables as rule
use Rattle.pc_facts.specs.Known.{Known}
use Rattle.pc_facts.specs.Shows.{ShowsFound, ShowsMeaning, ShowsFormals, ShowsSignatures, ShowsType, shape_of}
use Rattle.pc_facts.specs.declared.sighting.Declared.{Declared}
use Rattle.pc_facts.specs.declared.sighting.Formal.{Formal}
use Rattle.pc_facts.specs.declared.sighting.Signature.{Signature}
use Rattle.pc_facts.specs.declared.sighting.SignatureId.{SignatureId}
use Rattle.pc_facts.specs.declared.sighting.Sighting.TheVariants as sighting
use Rattle.pc_access_rules.proofs.TypeSteps.{for-some}

-- what holds of each meaning that a declaration shows
pub found-here : (P : Found → Type 0) (k : Known) (n : List ℕ) (d : Declared) (f : Found) → ((m : Meaning) → ShowsMeaning k n d m → P (Here m)) → ShowsFound k n (sighting.Here d) f → P f
found-here P k n d (Here m) holds h = holds m h
found-here P k n d (Later c) holds h = absurd h
found-here P k n d (Component t p) holds h = absurd h
found-here P k n d (Required r) holds h = absurd h
found-here P k n d Missing holds h = absurd h

id-shown : (t : Table) (i : Option TypeId) (ty : Option Typed) → option_map (numbered t.shapes) i ≡ shape_of ty → ForSome i (λ i. i.0 < length t.shapes) → ShowsType t (option_map operand.Id i) ty
id-shown t None ty shape there = record { shape = shape; there = λ x e. absurd (none-some x e) }
id-shown t (Some i) ty shape there = record { shape = shape; there = for-some (IsThere t) (Some (operand.Id i)) (there i refl) }

pub result-shown : (k : Known) (ss : List Signature) (i : SignatureId) (r : Option Operand) (s : Option rules.Signature) → k.signatures ≡ ss → ShowsSignatures k (Some i) s →
    ((x : Signature) → slice_get ss i.0 ≡ Some x → r ≡ option_map operand.Id x.result) → ShowsType k.table r (rule.result_of s)
result-shown k ss i r None e h is = absurd h
result-shown k ss i r (Some s) e h is =
    let at = subst (λ (xs : List Signature). slice_get xs i.0 ≡ Some h.0) e h.1 in
    subst (λ (x : Option Operand). ShowsType k.table x s.result) (sym (is h.0 at)) (id-shown k.table h.0.result s.result h.2.result h.2.there)

same-length : (k : Known) (fs : List Formal) (gs : List rules.Formal) → ShowsFormals k fs gs → length fs ≡ length gs
same-length k [] [] h = refl
same-length k [] (g ∷ gs) h = absurd h
same-length k (f ∷ fs) [] h = absurd h
same-length k (f ∷ fs) (g ∷ gs) h = ap suc (same-length k fs gs h.4)

pub formals-shown : (k : Known) (ss : List Signature) (i : SignatureId) (b : Bool) (s : Option rules.Signature) → k.signatures ≡ ss → ShowsSignatures k (Some i) s →
    ((x : Signature) → slice_get ss i.0 ≡ Some x → b ≡ not (length x.formals.items == 0)) → b ≡ rule.has_formals s
formals-shown k ss i b None e h is = absurd h
formals-shown k ss i b (Some s) e h is =
    let at = subst (λ (xs : List Signature). slice_get xs i.0 ≡ Some h.0) e h.1 in
    is h.0 at ∙ ap (λ (n : ℕ). not (n == 0)) (same-length k h.0.formals.items s.formals h.2.formals)
