-- The signature of a heading: lemmas.
use Rattle.std.proofs.Common.{◌≡◌, ℕ, ◌<◌, Bool, true, false, not, ◌&&◌, ◌||◌, if◌then◌else◌, List, [], ◌∷◌, ◌++◌, length, Option, Some, None, option_map, slice_get, refl, ap, sym, subst, ◌∙◌, codes}
use Rattle.std.specs.Option.{ForSome, option_and_then}
use Rattle.pc_syntax.specs.declared.kind.Kind.{Kind}
use Rattle.pc_syntax.specs.declared.kind.Kind.TheVariants as kind
use Rattle.pc_types.specs.Shapes.{Typed}
use Rattle.pc_types.specs.Table.{numbered}
use Rattle.pc_types.specs.TypeClasses.{is_ordinal, is_pointer}
use Rattle.pc_types.specs.declared.form.TypeId.{TypeId}
use Rattle.pc_rules.specs.Attributes.{Entry, is_empty}
use Rattle.pc_rules.specs.Entries.{note, note_if, quoted}
use Rattle.pc_rules.specs.Headings.{with_result, not_simple}
use Rattle.pc_rules.specs.Meanings as rules
use Rattle.pc_facts.specs.Known.{Known}
use Rattle.pc_facts.specs.Shows.{ShowsFormals, ShowsSignatures, shape_of}
use Rattle.pc_facts.specs.declared.sighting.Formal.{Formal}
use Rattle.pc_facts.specs.declared.sighting.Signature.{Signature}
use Rattle.pc_facts.specs.declared.sighting.SignatureId.{SignatureId}
use Rattle.pc_headings.specs.Groups.{is_complex}
use Rattle.pc_headings.specs.Listing.{ShowsFormalsOf}
use Rattle.pc_headings.specs.NameListLaws.{slice_get-last}
use Rattle.pc_headings.specs.Signatures.{signature_from, HasResult, IsWanted}

-- row 22
pub not_simple-complex : (w : List ℕ) (t : Option Typed) → not_simple w t ≡ note_if (is_complex (shape_of t)) 22 (quoted (codes "result type not simple") w)
not_simple-complex w None = refl
not_simple-complex w (Some t) = by (is_ordinal t.shape || is_pointer t.shape)
  where
    by : (b : Bool) → (if b then [] else note 22 (quoted (codes "result type not simple") w)) ≡ note_if (not b) 22 (quoted (codes "result type not simple") w)
    by true = refl
    by false = refl

-- ---- whether there is one

whole-and : (b : Bool) → (true && b) ≡ b
whole-and b = refl

wanted-right : (k : Known) (whole : Bool) (fs : List Formal) (gs : Option (List rules.Formal)) (kk : Kind) (has : Bool) (i : Option TypeId) (ty : Option Typed) → ShowsFormalsOf k whole fs gs → HasResult k kk has i ty →
    IsWanted k (whole && has) fs i (option_and_then (with_result kk ty) gs)
wanted-right k true fs (Some gs) kind.Procedure true i ty s h =
    (s, subst (λ (j : Option TypeId). option_map (numbered k.table.shapes) j ≡ None) (sym h.1) refl, λ x e. let no : None ≡ Some x = sym h.1 ∙ e in cc)
wanted-right k true fs (Some gs) kind.Procedure false i ty s h = let e = h.0 in cc
wanted-right k true fs (Some gs) kind.Function true None ty s h = let e = h.0 in cc
wanted-right k true fs (Some gs) kind.Function false (Some x) ty s h = let e = h.0 in cc
wanted-right k true fs (Some gs) kind.Function true (Some x) (Some t) s h = (s, h.1.shape, h.1.there)
wanted-right k true fs (Some gs) kind.Function true (Some x) None s h = let e = h.1.shape in cc
wanted-right k true fs (Some gs) kind.Function false None None s h = tt
wanted-right k true fs (Some gs) kind.Function false None (Some t) s h = let e = h.1.shape in cc
wanted-right k true fs (Some gs) kk has i ty s h = absurd h
wanted-right k false fs None kk has i ty s h = tt
wanted-right k true fs None kk has i ty s h = absurd s
wanted-right k false fs (Some gs) kk has i ty s h = absurd s

-- neither an error nor a hole, and all types are known
pub wanted : (k : Known) (hole : Bool) (es : List Entry) (whole : Bool) (fs : List Formal) (gs : Option (List rules.Formal)) (kk : Kind) (has : Bool) (i : Option TypeId) (ty : Option Typed) →
    ShowsFormalsOf k whole fs gs → HasResult k kk has i ty → IsWanted k ((not hole && is_empty es) && (whole && has)) fs i (signature_from hole es kk ty gs)
wanted k true es whole fs gs kk has i ty s h = tt
wanted k false [] whole fs gs kk has i ty s h = wanted-right k whole fs gs kk has i ty s h
wanted k false (e ∷ es) whole fs gs kk has i ty s h = tt

-- ---- a signature that was added

pub added-signature : (k : Known) (old : List Signature) (s : Signature) (id : SignatureId) (fs : List Formal) (i : Option TypeId) (r : Option rules.Signature) → k.signatures ≡ old ++ s ∷ [] → id.0 ≡ length old →
    s.formals.items ≡ fs → s.result ≡ i → IsWanted k true fs i r → ShowsSignatures k (Some id) r
added-signature k old s id fs i (Some r) all at e f h = (
  s,
  ap (λ (xs : List Signature). slice_get xs id.0) all ∙ ap (slice_get (old ++ s ∷ [])) at ∙ slice_get-last old s,
  record {
    formals = subst (λ (xs : List Formal). ShowsFormals k xs r.formals) (sym e) h.0;
    result = ap (option_map (numbered k.table.shapes)) f ∙ h.1;
    there = subst (λ (j : Option TypeId). ForSome j (λ x. x.0 < length k.table.shapes)) (sym f) h.2;
  },
)
added-signature k old s id fs i None all at e f h = absurd h

pub no-signature : (k : Known) (b : Bool) (fs : List Formal) (i : Option TypeId) (r : Option rules.Signature) → b ≡ false → IsWanted k b fs i r → ShowsSignatures k None r
no-signature k true fs i r e h = cc
no-signature k false fs i None e h = tt
no-signature k false fs i (Some r) e h = absurd h
