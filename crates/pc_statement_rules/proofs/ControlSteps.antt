-- Control variables and bounds: lemmas.
use Rattle.std.specs.Prelude.{◌≡◌, ℕ, Bool, true, false, not, ◌&&◌, ◌||◌, if◌then◌else◌, List, [], ◌∷◌, ◌++◌, Option, option_map, codes, get_or}
use Rattle.std.proofs.Common.{refl, ap, sym, ◌∙◌, append-nil, append_assoc, Some, None}
use Rattle.pc_syntax.specs.Sorts.{is_hole}
use Rattle.pc_types.specs.Compatibility.{compatible}
use Rattle.pc_types.specs.Sameness.{same_owner}
use Rattle.pc_types.specs.Shapes.{Owner, Typed}
use Rattle.pc_types.specs.Table.{Table, shape_at, nobody}
use Rattle.pc_types.specs.TypeClasses.{is_ordinal}
use Rattle.pc_types.specs.declared.form.OwnerId.{OwnerId}
use Rattle.pc_types.specs.declared.operand.Operand.{Operand}
use Rattle.pc_names.specs.Standing.{meant}
use Rattle.pc_judgements.specs.Judged as judged
use Rattle.pc_rules.specs.Attributes as found
use Rattle.pc_rules.specs.Attributes.{Entry, Node, at_kid, is_empty}
use Rattle.pc_rules.specs.Entries.{note, note_if, disagree}
use Rattle.pc_rules.specs.ForStatements.{is_local, control_entries, bound_entries}
use Rattle.pc_rules.specs.HandedOn.{kid_entries, any_hole}
use Rattle.pc_rules.specs.Meanings as rules
use Rattle.pc_rules.specs.Meanings.{Found}
use Rattle.pc_rules.specs.NameClasses.{is_own_variable, is_variable_class}
use Rattle.pc_rules.specs.Variables.{variable_type, variable_entries}
use Rattle.pc_facts.specs.Known.{Known}
use Rattle.pc_facts.specs.Shows.{ShowsType, ShowsFound, ShowsJudged, ShowsMeaning, shape_of}
use Rattle.pc_facts.specs.declared.judged.Judged.{Judged}
use Rattle.pc_facts.specs.declared.sighting.Declared.{Declared}
use Rattle.pc_facts.specs.declared.sighting.Sighting.{Sighting}
use Rattle.pc_facts.specs.declared.sighting.Sighting.TheVariants as sighting
use Rattle.pc_statement_rules.specs.Controls.{is_local_at, variable_type_at, control_notes, is_bound_apart}
use Rattle.pc_statement_rules.proofs.HandedSteps.{or-false}
use Rattle.pc_statement_rules.proofs.OwnSteps.{shown-shape, shown-at}

-- ---- what the name means

local-here : (k : Known) (s : Table) (i : OwnerId) (o : Owner) (n : List ℕ) (d : Declared) (m : rules.Meaning) → k.table ≡ s → get_or k.table.owners i.0 nobody ≡ o → ShowsMeaning k n d m →
    (is_own_variable (meant d.class) && same_owner (get_or s.owners i.0 nobody) (get_or s.owners d.owner.0 nobody)) ≡ (is_own_variable m.class && same_owner o m.owner)
local-here k s i o n d m same here h =
    ap (λ c. is_own_variable c && same_owner (get_or s.owners i.0 nobody) (get_or s.owners d.owner.0 nobody)) h.class
    ∙ ap (λ x. is_own_variable m.class && same_owner x (get_or s.owners d.owner.0 nobody)) (ap (λ (t : Table). get_or t.owners i.0 nobody) (sym same) ∙ here)
    ∙ ap (λ x. is_own_variable m.class && same_owner o x) (ap (λ (t : Table). get_or t.owners d.owner.0 nobody) (sym same) ∙ h.owner)

pub is_local-shown : (k : Known) (s : Table) (i : OwnerId) (o : Owner) (n : List ℕ) (si : Sighting) (f : Found) → k.table ≡ s → get_or k.table.owners i.0 nobody ≡ o → ShowsFound k n si f →
    is_local_at s i si ≡ is_local o f
is_local-shown k s i o n (sighting.Here d) (rules.Here m) same here h = local-here k s i o n d m same here h
is_local-shown k s i o n (sighting.Here d) (rules.Later c) same here h = absurd h
is_local-shown k s i o n (sighting.Here d) (rules.Component t p) same here h = absurd h
is_local-shown k s i o n (sighting.Here d) (rules.Required r) same here h = absurd h
is_local-shown k s i o n (sighting.Here d) rules.Missing same here h = absurd h
is_local-shown k s i o n (sighting.Later c) (rules.Here m) same here h = absurd h
is_local-shown k s i o n (sighting.Component t p) (rules.Here m) same here h = absurd h
is_local-shown k s i o n (sighting.Required r) (rules.Here m) same here h = absurd h
is_local-shown k s i o n sighting.Missing (rules.Here m) same here h = absurd h
is_local-shown k s i o n _ _ same here h = refl

no-type : (t : Table) → ShowsType t None None
no-type t = record { shape = refl; there = λ x e. absurd (cc) }

-- a type that is known where a condition holds, or where it does not
shown-if : (t : Table) (b c : Bool) (o : Option Operand) (ty : Option Typed) → b ≡ c → ShowsType t o ty → ShowsType t (if b then o else None) (if c then ty else None)
shown-if t true true o ty e h = h
shown-if t false false o ty e h = no-type t
shown-if t true false o ty e h = cc
shown-if t false true o ty e h = cc

shown-unless : (t : Table) (b c : Bool) (o : Option Operand) (ty : Option Typed) → b ≡ c → ShowsType t o ty → ShowsType t (if b then None else o) (if c then None else ty)
shown-unless t true true o ty e h = no-type t
shown-unless t false false o ty e h = h
shown-unless t true false o ty e h = cc
shown-unless t false true o ty e h = cc

pub variable_type-shown : (k : Known) (n : List ℕ) (si : Sighting) (f : Found) → ShowsFound k n si f → ShowsType k.table (variable_type_at si) (variable_type f)
variable_type-shown k n (sighting.Here d) (rules.Here m) h = shown-if k.table _ _ d.of m.type (ap is_variable_class h.class) h.type
variable_type-shown k n (sighting.Component t p) (rules.Component u q) h = h.0
variable_type-shown k n (sighting.Here d) (rules.Later c) h = absurd h
variable_type-shown k n (sighting.Here d) (rules.Component t p) h = absurd h
variable_type-shown k n (sighting.Here d) (rules.Required r) h = absurd h
variable_type-shown k n (sighting.Here d) rules.Missing h = absurd h
variable_type-shown k n (sighting.Later c) (rules.Here m) h = absurd h
variable_type-shown k n (sighting.Component t p) (rules.Here m) h = absurd h
variable_type-shown k n (sighting.Required r) (rules.Here m) h = absurd h
variable_type-shown k n sighting.Missing (rules.Here m) h = absurd h
variable_type-shown k n (sighting.Component t p) (rules.Later c) h = absurd h
variable_type-shown k n (sighting.Component t p) (rules.Required r) h = absurd h
variable_type-shown k n (sighting.Component t p) rules.Missing h = absurd h
variable_type-shown k n (sighting.Later c) (rules.Component t p) h = absurd h
variable_type-shown k n (sighting.Required r) (rules.Component t p) h = absurd h
variable_type-shown k n sighting.Missing (rules.Component t p) h = absurd h
variable_type-shown k n _ _ h = no-type k.table

-- ---- the control variable

control_entries-noted : (o : Owner) (c : Node) (hole local changed other : Bool) (w : List ℕ) → hole ≡ is_hole c.at.kind → local ≡ is_local o c.at.found → changed ≡ other → w ≡ c.at.word →
    control_notes hole local changed w ≡ control_entries o c other
control_entries-noted o c hole local changed other w e f g h =
    ap (λ x. control_notes x local changed w) e ∙ ap (λ x. control_notes (is_hole c.at.kind) x changed w) f
    ∙ ap (λ x. control_notes (is_hole c.at.kind) (is_local o c.at.found) x w) g ∙ ap (λ x. control_notes (is_hole c.at.kind) (is_local o c.at.found) other x) h

pub control-entries : (o : Owner) (c : Node) (hole local changed other : Bool) (w : List ℕ) (old new : List Entry) → hole ≡ is_hole c.at.kind → local ≡ is_local o c.at.found → changed ≡ other → w ≡ c.at.word →
    old ≡ variable_entries c → new ≡ old ++ control_notes hole local changed w → new ≡ variable_entries c ++ control_entries o c other
control-entries o c hole local changed other w old new e f g h i added =
    added ∙ ap (λ es. es ++ control_notes hole local changed w) i ∙ ap (λ es. variable_entries c ++ es) (control_entries-noted o c hole local changed other w e f g h)

-- a judgement of these parts
pub judged-shown : (t : Table) (j : Judged) (hole b : Bool) (xs es : List Entry) (o : Option Operand) (ty : Option Typed) → j.entries.items ≡ xs → j.of ≡ (if hole || not (is_empty xs) then None else o) →
    hole ≡ b → xs ≡ es → ShowsType t o ty → ShowsJudged t j (found.judged b es ty)
judged-shown t j hole b xs es o ty e f g h s = record {
  entries = e ∙ h;
  type = shown-at t j.of _ _ f (shown-unless t _ _ o ty (ap (λ x. x || not (is_empty xs)) g ∙ ap (λ x. b || not (is_empty x)) h) s);
}

-- ---- the bounds

bound-free : (o : Bool) (es fs : List Entry) → (if not o then es else []) ++ (if o && false then fs else []) ≡ (if o then [] else (if not o then es else []))
bound-free true es fs = refl
bound-free false es fs = append-nil es

bound-typed : (o p : Bool) (es fs : List Entry) → (if not o then es else []) ++ (if o && not p then fs else []) ≡ (if o then (if p then [] else fs) else (if not o then es else []))
bound-typed true true es fs = refl
bound-typed true false es fs = refl
bound-typed false p es fs = append-nil es

bound-judged : (c b : Option Typed) →
    note_if (judged.is_no_ordinal (shape_of b)) 8 (codes "not an ordinal type") ++ note_if (is_bound_apart (shape_of c) (shape_of b)) 11 (codes "types do not agree") ≡ bound_entries c b
bound-judged c None = refl
bound-judged None (Some b) = bound-free (is_ordinal b.shape) (note 8 (codes "not an ordinal type")) disagree
bound-judged (Some c) (Some b) = bound-typed (is_ordinal b.shape) (compatible c.shape b.shape) (note 8 (codes "not an ordinal type")) disagree

pub bound-shown : (s t : Table) (o p : Option Operand) (c b : Option Typed) (old one two : List Entry) (n m : Bool) → t ≡ s → ShowsType t o c → ShowsType t p b → old ≡ [] →
    n ≡ judged.is_no_ordinal (option_map (shape_at s) p) → m ≡ is_bound_apart (option_map (shape_at s) o) (option_map (shape_at s) p) →
    one ≡ old ++ note_if n 8 (codes "not an ordinal type") → two ≡ one ++ note_if m 11 (codes "types do not agree") → two ≡ bound_entries c b
bound-shown s t o p c b old one two n m same g h none e f first second =
    second ∙ ap (λ xs. xs ++ note_if m 11 (codes "types do not agree")) (first ∙ ap (λ xs. xs ++ note_if n 8 (codes "not an ordinal type")) none)
    ∙ ap (λ x. note_if x 8 (codes "not an ordinal type") ++ note_if m 11 (codes "types do not agree")) (e ∙ ap judged.is_no_ordinal (shown-shape s t p b same h))
    ∙ ap (λ x. note_if (judged.is_no_ordinal (shape_of b)) 8 (codes "not an ordinal type") ++ note_if x 11 (codes "types do not agree"))
    (f ∙ ap (λ x. is_bound_apart x (option_map (shape_at s) p)) (shown-shape s t o c same g) ∙ ap (is_bound_apart (shape_of c)) (shown-shape s t p b same h))
    ∙ bound-judged c b

-- ---- the statement

pub for-hole : (c a b s : Node) (w x y z h : Bool) → w ≡ c.at.hole → x ≡ a.at.hole → y ≡ b.at.hole → z ≡ s.at.hole → h ≡ (w || (x || (y || z))) → h ≡ any_hole (c ∷ a ∷ b ∷ s ∷ [])
for-hole c a b s w x y z h e f g i is =
    is ∙ ap (λ v. v || (x || (y || z))) e ∙ ap (λ v. c.at.hole || (v || (y || z))) f ∙ ap (λ v. c.at.hole || (a.at.hole || (v || z))) g
    ∙ ap (λ v. c.at.hole || (a.at.hole || (b.at.hole || v))) (i ∙ sym (or-false s.at.hole))

three-parts : (x y z : List Entry) → x ++ y ++ z ≡ x ++ (y ++ (z ++ []))
three-parts x y z = append_assoc x y z ∙ ap (λ v. x ++ (y ++ v)) (sym (append-nil z))

pub for-entries : (a b s : Node) (es fs gs xs ys zs us vs ws old one two : List Entry) → old ≡ [] → es ≡ a.as_value.entries → fs ≡ b.as_value.entries → gs ≡ s.as_value.entries →
    xs ≡ us → ys ≡ vs → zs ≡ ws → one ≡ old ++ at_kid 2 es ++ at_kid 3 fs ++ at_kid 4 gs → two ≡ one ++ at_kid 2 xs ++ at_kid 3 ys ++ at_kid 1 zs →
    two ≡ kid_entries 2 (a ∷ b ∷ s ∷ []) ++ at_kid 2 us ++ at_kid 3 vs ++ at_kid 1 ws
for-entries a b s es fs gs xs ys zs us vs ws old one two none e f g x y z first second =
    second ∙ ap (λ v. v ++ at_kid 2 xs ++ at_kid 3 ys ++ at_kid 1 zs)
    (first ∙ ap (λ v. v ++ at_kid 2 es ++ at_kid 3 fs ++ at_kid 4 gs) none ∙ three-parts (at_kid 2 es) (at_kid 3 fs) (at_kid 4 gs)
    ∙ ap (λ v. at_kid 2 v ++ (at_kid 3 fs ++ (at_kid 4 gs ++ []))) e ∙ ap (λ v. at_kid 2 a.as_value.entries ++ (at_kid 3 v ++ (at_kid 4 gs ++ []))) f
    ∙ ap (λ v. at_kid 2 a.as_value.entries ++ (at_kid 3 b.as_value.entries ++ (at_kid 4 v ++ []))) g)
    ∙ ap (λ v. kid_entries 2 (a ∷ b ∷ s ∷ []) ++ at_kid 2 v ++ at_kid 3 ys ++ at_kid 1 zs) x
    ∙ ap (λ v. kid_entries 2 (a ∷ b ∷ s ∷ []) ++ at_kid 2 us ++ at_kid 3 v ++ at_kid 1 zs) y
    ∙ ap (λ v. kid_entries 2 (a ∷ b ∷ s ∷ []) ++ at_kid 2 us ++ at_kid 3 vs ++ at_kid 1 v) z
