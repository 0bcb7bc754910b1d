-- The judgement of a name: lemmas.
use Rattle.std.specs.Prelude.{◌≡◌, Bool, true, false, not, ◌||◌, List, [], ◌++◌, Option, None, codes, if◌then◌else◌}
use Rattle.std.proofs.Common.{refl, ap, sym, ◌∙◌, subst}
use Rattle.std.proofs.lemmas.Option.{none-some}
use Rattle.pc_types.specs.Shapes.{Typed}
use Rattle.pc_types.specs.Table.{Table}
use Rattle.pc_types.specs.declared.operand.Operand.{Operand}
use Rattle.pc_rules.specs.Attributes.{Entry, at_kid, is_empty, judged}
use Rattle.pc_rules.specs.Entries.{note_if}
use Rattle.pc_facts.specs.Shows.{ShowsJudged, ShowsType}
use Rattle.pc_facts.specs.declared.judged.Judged.{Judged}
use Rattle.pc_access_rules.proofs.TypeSteps.{begun}

unless-shown : (s : Table) (o : Option Operand) (ty : Option Typed) (b : Bool) → ShowsType s o ty → ShowsType s (if b then None else o) (if b then None else ty)
unless-shown s o ty true h = record { shape = refl; there = λ x e. absurd (none-some x e) }
unless-shown s o ty false h = h

-- what its parts make of a node
pub judged-shown : (s : Table) (j : Judged) (o : Option Operand) (ty : Option Typed) (h g : Bool) (es fs : List Entry) → h ≡ g → es ≡ fs → j.entries.items ≡ es →
    j.of ≡ (if h || not (is_empty es) then None else o) → ShowsType s o ty → ShowsJudged s j (judged g fs ty)
judged-shown s j o ty h g es fs same equal entries of shows = record {
  entries = entries ∙ equal;
  type = subst (λ (x : Option Operand). ShowsType s x (judged g fs ty).type) (sym (of ∙ ap (λ (b : Bool). if b || not (is_empty es) then None else o) same ∙ ap (λ (xs : List Entry). if g || not (is_empty xs) then None else o) equal))
      (unless-shown s o ty (g || not (is_empty fs)) shows);
}

pub place-entries : (es none own old all : List Entry) → none ≡ [] → own ≡ none ++ es → old ≡ [] → all ≡ old ++ at_kid 1 own → all ≡ at_kid 1 es
place-entries es none own old all a b c d = begun old _ all c d ∙ ap (at_kid 1) (begun none es own a b)

pub value-entries : (es none own old one all : List Entry) (p q : Bool) → none ≡ [] → own ≡ none ++ es → old ≡ [] → one ≡ old ++ at_kid 1 own → all ≡ one ++ note_if p 12 (codes "wrong number of arguments") → p ≡ q →
    all ≡ at_kid 1 es ++ note_if q 12 (codes "wrong number of arguments")
value-entries es none own old one all p q a b c d e f =
    e ∙ ap (λ (xs : List Entry). xs ++ note_if p 12 (codes "wrong number of arguments")) (place-entries es none own old one a b c d) ∙ ap (λ (x : Bool). at_kid 1 es ++ note_if x 12 (codes "wrong number of arguments")) f
