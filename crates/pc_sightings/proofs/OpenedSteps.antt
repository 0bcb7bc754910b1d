-- Fields of opened records, by their numbers.
use Rattle.std.proofs.Common.{◌≡◌, ◌++◌, ℕ, ◌<◌, Bool, true, false, List, [], ◌∷◌, length, Option, Some, None, reverse, refl, ap, sym, ◌∙◌, subst, if◌then◌else◌}
use Rattle.std.proofs.lemmas.List.{reverse-append}
use Rattle.std.specs.Option.{option_map}
use Rattle.std.specs.Str.{bytes_eq}
use Rattle.pc_types.specs.Shapes.{Shape, Fields, LastField, FieldOf, Domain, Typed}
use Rattle.pc_types.specs.Domains.{field_in}
use Rattle.pc_types.specs.TypeClasses.{fields_of, is_packed}
use Rattle.pc_types.specs.Table.{Table, shape_at, numbered, IsThere}
use Rattle.pc_types.specs.declared.form.TypeId.{TypeId}
use Rattle.pc_types.specs.declared.operand.Operand.{Operand}
use Rattle.pc_types.specs.declared.operand.Operand.TheVariants as operand
use Rattle.pc_rules.specs.Meanings.{entry_of}
use Rattle.pc_rules.specs.Variables.{fields_opened, opened_by}
use Rattle.pc_facts.specs.Shows.{ShowsType}
use Rattle.pc_sightings.specs.Opened.{OpenedFrom, ShowsOpened, ShowsField}
use Rattle.pc_sightings.specs.OpenedLaws.{first_entry, entry_of-append}

-- ---- the fields of one record

-- a field with these domains
abbrev opened_field : List Domain → Bool → Shape → Typed × Bool
opened_field ds p s = (record { shape = s; domains = ds }, p)

field-by : (ds : List Domain) (p b : Bool) (s : Shape) (o : Option Shape) (q : Option (Typed × Bool)) → q ≡ option_map (opened_field ds p) o →
    (if b then Some (opened_field ds p s) else q) ≡ option_map (opened_field ds p) (if b then Some s else o)
field-by ds p true s o q e = refl
field-by ds p false s o q e = e

entry-field : (ds : List Domain) (p : Bool) (fs : Fields) (n : List ℕ) → entry_of (fields_opened ds p fs) n ≡ option_map (opened_field ds p) (field_in fs n)
entry-field ds p LastField n = refl
entry-field ds p (FieldOf m s fs) n = field-by ds p (bytes_eq m n) s (field_in fs n) (entry_of (fields_opened ds p fs) n) (entry-field ds p fs n)

none-shown : (t : Table) (f : Shape → Typed × Bool) (o : Option Shape) → None ≡ o → ShowsField t None (option_map f o)
none-shown t f None e = tt
none-shown t f (Some s) e = cc

some-shown : (t : Table) (i : TypeId) (ds : List Domain) (p q : Bool) (o : Option Shape) → Some (numbered t.shapes i) ≡ o → i.0 < length t.shapes → p ≡ q →
    ShowsField t (Some (operand.Id i, p)) (option_map (opened_field ds q) o)
some-shown t i ds p q None e there packed = cc
some-shown t i ds p q (Some s) e there packed = (record { shape = e; there = λ x is. let same : operand.Id i ≡ x = cc in subst (λ (y : Operand). IsThere t y) same there }, packed)

-- a record has the field
pub field-some : (t : Table) (o : Operand) (ty : Typed) (n : List ℕ) (i : TypeId) (p : Bool) → Some (numbered t.shapes i) ≡ field_in (fields_of (shape_at t o)) n → i.0 < length t.shapes →
    p ≡ is_packed (shape_at t o) → ShowsType t (Some o) (Some ty) → ShowsField t (Some (operand.Id i, p)) (entry_of (opened_by (Some ty)) n)
field-some t o ty n i p has there packed shows =
    let shape = shows.shape in
    let same : shape_at t o ≡ ty.shape = cc in
    subst (ShowsField t (Some (operand.Id i, p))) (sym (entry-field ty.domains (is_packed ty.shape) (fields_of ty.shape) n))
    (some-shown t i ty.domains p (is_packed ty.shape) (field_in (fields_of ty.shape) n) (has ∙ ap (λ (s : Shape). field_in (fields_of s) n) same) there (packed ∙ ap is_packed same))

-- a record, or what is none, has no such field
pub field-none : (t : Table) (o : Operand) (ty : Typed) (n : List ℕ) → None ≡ field_in (fields_of (shape_at t o)) n → ShowsType t (Some o) (Some ty) →
    ShowsField t None (entry_of (opened_by (Some ty)) n)
field-none t o ty n has shows =
    let shape = shows.shape in
    let same : shape_at t o ≡ ty.shape = cc in
    subst (ShowsField t None) (sym (entry-field ty.domains (is_packed ty.shape) (fields_of ty.shape) n))
    (none-shown t (opened_field ty.domains (is_packed ty.shape)) (field_in (fields_of ty.shape) n) (has ∙ ap (λ (s : Shape). field_in (fields_of s) n) same))

-- ---- from the innermost record outwards

-- what is left of the stack has the name as the whole has it
abbrev pub KeepsEntry : Table → List Operand → List Operand → List ℕ → Type 0
KeepsEntry t opened rest n =
    (fields : List (List ℕ × (Typed × Bool))) → ShowsOpened t opened fields → (outer : List (List ℕ × (Typed × Bool))) × ShowsOpened t rest outer × (entry_of fields n ≡ entry_of outer n)

-- before any record was looked at
pub KeepsEntry-all : (t : Table) (opened : List Operand) (n : List ℕ) → KeepsEntry t opened opened n
KeepsEntry-all t opened n fields is = (fields, is, refl)

-- the innermost record and those around it
popped : (t : Table) (os : List Operand) (o : Operand) (fields : List (List ℕ × (Typed × Bool))) → ShowsOpened t (os ++ o ∷ []) fields → OpenedFrom t (o ∷ reverse os) fields
popped t os o fields is = subst (λ (v : List Operand). OpenedFrom t v fields) (reverse-append os (o ∷ [])) is

first-some : (t : Table) (p : Operand × Bool) (a b : Option (Typed × Bool)) → ShowsField t (Some p) a → ShowsField t (Some p) (first_entry a b)
first-some t p (Some f) b is = is
first-some t p None b is = absurd is

first-none : (t : Table) (a b : Option (Typed × Bool)) → ShowsField t None a → first_entry a b ≡ b
first-none t (Some f) b is = absurd is
first-none t None b is = refl

-- what the innermost record of those that are left answers of the name
abbrev pub AnswersField : Table → Operand → List ℕ → Option (Operand × Bool) → Type 0
AnswersField t o n r = (ty : Typed) → ShowsType t (Some o) (Some ty) → ShowsField t r (entry_of (opened_by (Some ty)) n)

entry-left : (fields opens outer : List (List ℕ × (Typed × Bool))) (n : List ℕ) → fields ≡ opens ++ outer → entry_of fields n ≡ first_entry (entry_of opens n) (entry_of outer n)
entry-left fields opens outer n is = ap (λ (fs : List (List ℕ × (Typed × Bool))). entry_of fs n) is ∙ entry_of-append opens outer n

-- the innermost record of those that are left has the field
pub field-found : (t : Table) (opened rest os : List Operand) (o : Operand) (n : List ℕ) (p : Operand × Bool) → rest ≡ os ++ o ∷ [] → KeepsEntry t opened rest n → AnswersField t o n (Some p) →
    (fields : List (List ℕ × (Typed × Bool))) → ShowsOpened t opened fields → ShowsField t (Some p) (entry_of fields n)
field-found t opened rest os o n p split keeps answers fields is =
    let kept = keeps fields is in
    let top = popped t os o kept.0 (subst (λ (v : List Operand). ShowsOpened t v kept.0) split kept.1) in
    subst (ShowsField t (Some p)) (sym (kept.2 ∙ entry-left kept.0 (opened_by (Some top.0)) top.1 n top.3))
    (first-some t p (entry_of (opened_by (Some top.0)) n) (entry_of top.1 n) (answers top.0 top.2))

-- it has not, and those around it are left
pub field-further : (t : Table) (opened rest os : List Operand) (o : Operand) (n : List ℕ) → rest ≡ os ++ o ∷ [] → KeepsEntry t opened rest n → AnswersField t o n None →
    KeepsEntry t opened os n
field-further t opened rest os o n split keeps answers fields is =
    let kept = keeps fields is in
    let top = popped t os o kept.0 (subst (λ (v : List Operand). ShowsOpened t v kept.0) split kept.1) in
    (top.1, top.4, kept.2 ∙ entry-left kept.0 (opened_by (Some top.0)) top.1 n top.3 ∙ first-none t (entry_of (opened_by (Some top.0)) n) (entry_of top.1 n) (answers top.0 top.2))

-- none is left
pub field-missing : (t : Table) (opened rest : List Operand) (n : List ℕ) → rest ≡ [] → KeepsEntry t opened rest n →
    (fields : List (List ℕ × (Typed × Bool))) → ShowsOpened t opened fields → ShowsField t None (entry_of fields n)
field-missing t opened rest n none keeps fields is =
    let kept = keeps fields is in
    let empty : kept.0 ≡ [] = subst (λ (v : List Operand). ShowsOpened t v kept.0) none kept.1 in
    subst (ShowsField t None) (sym (kept.2 ∙ ap (λ (fs : List (List ℕ × (Typed × Bool))). entry_of fs n) empty)) tt

-- the same of a table that is this one
pub field-at : (u t : Table) (opened : List Operand) (n : List ℕ) (r : Option (Operand × Bool)) → u ≡ t →
    ((fields : List (List ℕ × (Typed × Bool))) → ShowsOpened t opened fields → ShowsField t r (entry_of fields n)) →
    (fields : List (List ℕ × (Typed × Bool))) → ShowsOpened u opened fields → ShowsField u r (entry_of fields n)
field-at u t opened n r same shows fields is =
    subst (λ (x : Table). ShowsField x r (entry_of fields n)) (sym same) (shows fields (subst (λ (x : Table). ShowsOpened x opened fields) same is))
