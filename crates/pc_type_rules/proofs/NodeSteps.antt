-- The type of a node that may have an entry or a hole: lemmas.
use Rattle.std.specs.Prelude.{◌≡◌, ℕ, Bool, true, false, not, ◌||◌, if◌then◌else◌, List, [], ◌++◌, Option, Some, None, option_map}
use Rattle.std.specs.Option.{ForSome}
use Rattle.pc_rules.specs.Denoters.{typed, type_of_found}
use Rattle.pc_rules.specs.Meanings.{Meaning, Found, Here, Later, Component, Required, Missing}
use Rattle.pc_facts.specs.Known.{Known}
use Rattle.pc_facts.specs.declared.sighting.Declared.{Declared}
use Rattle.pc_facts.specs.declared.sighting.Sighting.{Sighting}
use Rattle.pc_facts.specs.declared.sighting.Sighting.TheVariants as sighting
use Rattle.std.proofs.Common.{refl, ap, sym, ◌∙◌, subst, append-nil}
use Rattle.pc_types.specs.Shapes.{Shape, Typed}
use Rattle.pc_types.specs.Table.{Table, shape_at, IsThere}
use Rattle.pc_types.specs.declared.operand.Operand.{Operand}
use Rattle.pc_rules.specs.Attributes.{Entry, is_empty, judged, at_kid}
use Rattle.pc_rules.specs.Entries.{note_if}
use Rattle.pc_facts.specs.Shows.{ShowsType, ShowsMeaning, ShowsFound}

pub shows-none : (t : Table) → ShowsType t None None
shows-none t = record { shape = refl; there = λ x e. cc }

shows-if : (t : Table) (b : Bool) (o : Option Operand) (ty : Option Typed) → ShowsType t o ty → ShowsType t (if b then None else o) (if b then None else ty)
shows-if t true o ty h = shows-none t
shows-if t false o ty h = h

pub shows-judged : (t : Table) (hole h : Bool) (xs es : List Entry) (made of : Option Operand) (ty : Option Typed) → h ≡ hole → xs ≡ es → made ≡ (if hole || not (is_empty xs) then None else of) →
    ShowsType t of ty → ShowsType t made (judged h es ty).type
shows-judged t hole h xs es made of ty same is m s =
    let e : made ≡ (if h || not (is_empty es) then None else of) = m ∙ ap (λ (x : Bool). if x || not (is_empty xs) then None else of) (sym same) ∙ ap (λ (x : List Entry). if h || not (is_empty x) then None else of) is in
    subst (λ (o : Option Operand). ShowsType t o (judged h es ty).type) (sym e) (shows-if t (h || not (is_empty es)) of ty s)

-- a type of the same table
pub shows-in : (t u : Table) (o : Option Operand) (ty : Option Typed) → t ≡ u → ShowsType t o ty → ShowsType u o ty
shows-in t u o ty e h = subst (λ (x : Table). ShowsType x o ty) e h

pub shows-of : (t u : Table) (o p : Option Operand) (ty : Option Typed) → p ≡ o → t ≡ u → ShowsType t o ty → ShowsType u p ty
shows-of t u o p ty same e h = subst (λ (x : Option Operand). ShowsType u x ty) (sym same) (shows-in t u o ty e h)

pub shows-as : (t : Table) (o : Option Operand) (ty tz : Option Typed) → ty ≡ tz → ShowsType t o ty → ShowsType t o tz
shows-as t o ty tz e h = subst (λ (x : Option Typed). ShowsType t o x) e h

pub or-false : (b : Bool) → (b || false) ≡ b
or-false true = refl
or-false false = refl

pub two-holes : (a b x y r : Bool) → x ≡ a → y ≡ b → r ≡ (x || y) → (a || (b || false)) ≡ r
two-holes a b x y r e f g = ap (λ v. a || v) (or-false b) ∙ sym (g ∙ ap (λ v. v || y) e ∙ ap (λ v. a || v) f)

-- the entries of one kid
pub one-kid : (es old new fs : List Entry) → old ≡ [] → fs ≡ es → new ≡ old ++ at_kid 1 fs → new ≡ at_kid 1 es
one-kid es old new fs none same is = is ∙ ap (λ xs. xs ++ at_kid 1 fs) none ∙ ap (at_kid 1) same

-- the entries of two kids, and a note
pub two-kids-noted : (es fs old one two three xs ys : List Entry) (n m : Bool) (row : ℕ) (text : List ℕ) → old ≡ [] → xs ≡ es → ys ≡ fs → one ≡ old ++ at_kid 1 xs → two ≡ one ++ at_kid 2 ys →
    three ≡ two ++ note_if n row text → n ≡ m → three ≡ (at_kid 1 es ++ (at_kid 2 fs ++ [])) ++ note_if m row text
two-kids-noted es fs old one two three xs ys n m row text none e f first second third same =
    third ∙ ap (λ v. two ++ note_if v row text) same
    ∙ ap (λ (vs : List Entry). vs ++ note_if m row text)
    (second ∙ ap (λ vs. vs ++ at_kid 2 ys) (first ∙ ap (λ vs. vs ++ at_kid 1 xs) none) ∙ ap (λ vs. at_kid 1 xs ++ at_kid 2 vs) f ∙ ap (λ vs. at_kid 1 vs ++ at_kid 2 fs) e ∙ ap (λ vs. at_kid 1 es ++ vs) (sym (append-nil (at_kid 2 fs))))

-- the type of what is so
pub shows-where : (t : Table) (b : Bool) (o r : Option Operand) (ty : Option Typed) → r ≡ (if b then o else None) → ShowsType t o ty → ShowsType t r (if b then ty else None)
shows-where t true o r ty e h = subst (λ (x : Option Operand). ShowsType t x ty) (sym e) h
shows-where t false o r ty e h = subst (λ (x : Option Operand). ShowsType t x None) (sym e) (shows-none t)

pub shows-shape : (t : Table) (o : Option Operand) (s : Option Shape) → option_map (shape_at t) o ≡ s → ForSome o (IsThere t) → ShowsType t o (option_map typed s)
shows-shape t o None e h = record { shape = e; there = h }
shows-shape t o (Some s) e h = record { shape = e; there = h }

-- the type of a name that means a declaration
here-in : (k : Known) (t : Table) (n : List ℕ) (d : Declared) (f : Found) (r : Option Operand) → k.table ≡ t → ((k : Known) (n : List ℕ) (m : Meaning) → ShowsMeaning k n d m → ShowsType k.table r (type_of_found (Here m))) →
    ShowsFound k n (sighting.Here d) f → ShowsType t r (type_of_found f)
here-in k t n d (Here m) r e g h = shows-in k.table t r _ e (g k n m h)
here-in k t n d (Later c) r e g h = absurd h
here-in k t n d (Component x p) r e g h = absurd h
here-in k t n d (Required b) r e g h = absurd h
here-in k t n d Missing r e g h = absurd h

pub here-shown : (k : Known) (t : Table) (n : List ℕ) (s : Sighting) (d : Declared) (f : Found) (r : Option Operand) → s ≡ sighting.Here d → k.table ≡ t →
    ((k : Known) (n : List ℕ) (m : Meaning) → ShowsMeaning k n d m → ShowsType k.table r (type_of_found (Here m))) → ShowsFound k n s f → ShowsType t r (type_of_found f)
here-shown k t n s d f r is e g h = here-in k t n d f r e g (subst (λ (x : Sighting). ShowsFound k n x f) is h)
