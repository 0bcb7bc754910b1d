-- Entries about types: lemmas.
use Rattle.std.specs.Prelude.{◌≡◌, Bool, true, false, not, ◌||◌, if◌then◌else◌, List, [], ◌∷◌, ◌++◌, Option, option_map, codes}
use Rattle.std.proofs.Common.{refl, ap, subst, sym, ◌∙◌, Some, None}
use Rattle.pc_types.specs.Shapes.{Shape, Typed}
use Rattle.pc_types.specs.Table.{Table, shape_at}
use Rattle.pc_types.specs.TypeClasses.{is_boolean}
use Rattle.pc_types.specs.declared.operand.Operand.{Operand}
use Rattle.pc_judgements.specs.Judged.{is_unfit}
use Rattle.pc_judgements.specs.Judged as judged
use Rattle.pc_judgements.specs.JudgedLaws.{unassignable-judged, no_ordinal-judged}
use Rattle.pc_rules.specs.Components.{is_record, no_record}
use Rattle.pc_rules.specs.Attributes.{Entry, Node, at_kid}
use Rattle.pc_rules.specs.HandedOn.{any_hole}
use Rattle.pc_rules.specs.Entries.{note, note_if, unless, unassignable, no_ordinal}
use Rattle.pc_rules.specs.Statements as statements
use Rattle.pc_rules.specs.Statements.{no_condition}
use Rattle.pc_facts.specs.Shows.{ShowsType, shape_of}
use Rattle.pc_statement_rules.proofs.HandedSteps.{or-false}

turned : (b : Bool) (e : List Entry) → (if b then [] else e) ≡ (if not b then e else [])
turned true e = refl
turned false e = refl

unless-judged : (fits : Shape → Bool) (ty : Option Typed) (es : List Entry) → (if is_unfit fits (shape_of ty) then es else []) ≡ unless fits ty es
unless-judged fits None es = refl
unless-judged fits (Some t) es = sym (turned (fits t.shape) es)

-- the shape by the table is the one that the rules find
pub shown-shape : (s t : Table) (o : Option Operand) (ty : Option Typed) → t ≡ s → ShowsType t o ty → option_map (shape_at s) o ≡ shape_of ty
shown-shape s t o ty same h = ap (λ x. option_map (shape_at x) o) (sym same) ∙ h.shape

pub condition-entries : (s t : Table) (o : Option Operand) (ty : Option Typed) (old new : List Entry) (b : Bool) → t ≡ s → ShowsType t o ty → old ≡ [] →
    b ≡ is_unfit is_boolean (option_map (shape_at s) o) → new ≡ old ++ note_if b 17 (codes "condition is not Boolean") → new ≡ no_condition ty
condition-entries s t o ty old new b same h none judged added =
    added ∙ ap (λ es. es ++ note_if b 17 (codes "condition is not Boolean")) none
    ∙ ap (λ x. note_if x 17 (codes "condition is not Boolean")) (judged ∙ ap (is_unfit is_boolean) (shown-shape s t o ty same h))
    ∙ unless-judged is_boolean ty (note 17 (codes "condition is not Boolean"))

-- the same type by another name of its number
pub shown-at : (t : Table) (o p : Option Operand) (ty : Option Typed) → o ≡ p → ShowsType t p ty → ShowsType t o ty
shown-at t o p ty e h = let P : Option Operand → Type 0 = λ x. ShowsType t x ty in subst P (sym e) h

-- ---- an assignment

pub two-holes : (a b : Node) (x y h : Bool) → x ≡ a.at.hole → y ≡ b.at.hole → h ≡ (x || y) → h ≡ any_hole (a ∷ b ∷ [])
two-holes a b x y h e f s = s ∙ ap (λ z. z || y) e ∙ ap (λ z. a.at.hole || z) f ∙ ap (λ z. a.at.hole || z) (sym (or-false b.at.hole))

pub assignment-entries : (s t : Table) (o p : Option Operand) (a b : Node) (es fs old one two three : List Entry) (n : Bool) → t ≡ s →
    es ≡ a.as_target.entries → fs ≡ b.as_value.entries → ShowsType t o a.as_target.type → ShowsType t p b.as_value.type →
    n ≡ judged.is_unassignable (option_map (shape_at s) o) (option_map (shape_at s) p) →
    old ≡ [] → one ≡ old ++ at_kid 1 es → two ≡ one ++ at_kid 2 fs → three ≡ two ++ note_if n 11 (codes "types do not agree") →
    three ≡ at_kid 1 a.as_target.entries ++ at_kid 2 b.as_value.entries ++ unassignable (statements.shape_of a.as_target.type) b.as_value.type
assignment-entries s t o p a b es fs old one two three n same e f g h unfit none first second third =
    third ∙ ap (λ xs. xs ++ note_if n 11 (codes "types do not agree"))
    (second ∙ ap (λ xs. xs ++ at_kid 2 fs) (first ∙ ap (λ xs. xs ++ at_kid 1 es) none ∙ ap (at_kid 1) e) ∙ ap (λ xs. at_kid 1 a.as_target.entries ++ at_kid 2 xs) f)
    ∙ ap (λ xs. at_kid 1 a.as_target.entries ++ at_kid 2 b.as_value.entries ++ xs)
    (ap (λ x. note_if x 11 (codes "types do not agree")) (unfit ∙ ap (λ x. judged.is_unassignable x (option_map (shape_at s) p)) (shown-shape s t o _ same g) ∙ ap (judged.is_unassignable (shape_of a.as_target.type)) (shown-shape s t p _ same h))
    ∙ sym (unassignable-judged (shape_of a.as_target.type) b.as_value.type))

-- ---- rows 8 and 15

pub record-entries : (s t : Table) (o : Option Operand) (ty : Option Typed) (old new : List Entry) (b : Bool) → t ≡ s → ShowsType t o ty →
    b ≡ is_unfit is_record (option_map (shape_at s) o) → new ≡ old ++ note_if b 15 (codes "not a record") → new ≡ old ++ no_record ty
record-entries s t o ty old new b same h judged added =
    added ∙ ap (λ x. old ++ note_if x 15 (codes "not a record")) (judged ∙ ap (is_unfit is_record) (shown-shape s t o ty same h))
    ∙ ap (λ es. old ++ es) (unless-judged is_record ty (note 15 (codes "not a record")))

pub ordinal-entries : (s t : Table) (o : Option Operand) (ty : Option Typed) (old new : List Entry) (b : Bool) → t ≡ s → ShowsType t o ty → old ≡ [] →
    b ≡ judged.is_no_ordinal (option_map (shape_at s) o) → new ≡ old ++ note_if b 8 (codes "not an ordinal type") → new ≡ no_ordinal ty
ordinal-entries s t o ty old new b same h none fact added =
    added ∙ ap (λ es. es ++ note_if b 8 (codes "not an ordinal type")) none
    ∙ ap (λ x. note_if x 8 (codes "not an ordinal type")) (fact ∙ ap judged.is_no_ordinal (shown-shape s t o ty same h))
    ∙ sym (no_ordinal-judged ty)
