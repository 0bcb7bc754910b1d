-- The fields of the records that the withs around have opened: lemmas.
use Rattle.std.proofs.Common.{◌≡◌, ◌++◌, ℕ, Bool, true, false, List, [], ◌∷◌, Option, Some, None, refl, ap, sym, ◌∙◌, subst, if◌then◌else◌, append-nil}
use Rattle.std.proofs.lemmas.List.{reverse-append}
use Rattle.std.specs.Str.{bytes_eq}
use Rattle.pc_types.specs.Shapes.{Typed}
use Rattle.pc_types.specs.Table.{Table}
use Rattle.pc_types.specs.declared.operand.Operand.{Operand}
use Rattle.pc_rules.specs.Meanings.{Found, Local, Outside, entry_of, find, field_or}
use Rattle.pc_rules.specs.Variables.{opened_by}
use Rattle.pc_facts.specs.Shows.{ShowsType}
use Rattle.pc_sightings.specs.Opened.{OpenedFrom, ShowsOpened, pushed}

-- ---- the stack

-- before the first with, no fields are opened
pub ShowsOpened-none : (t : Table) → ShowsOpened t [] []
ShowsOpened-none t = refl

-- behind an access its fields come before all others; where its type is unknown, the fields stay, and nothing is pushed
pub ShowsOpened-pushed : (t : Table) (o : Option Operand) (ty : Option Typed) (opened : List Operand) (fields : List (List ℕ × (Typed × Bool))) → ShowsType t o ty → ShowsOpened t opened fields →
    ShowsOpened t (opened ++ pushed o) (opened_by ty ++ fields)
ShowsOpened-pushed t None None opened fields shows is = subst (λ (os : List Operand). ShowsOpened t os fields) (sym (append-nil opened)) is
ShowsOpened-pushed t (Some o) (Some ty) opened fields shows is =
    subst (λ (os : List Operand). OpenedFrom t os (opened_by (Some ty) ++ fields)) (sym (reverse-append opened (o ∷ []))) (ty, fields, shows, refl, is)
ShowsOpened-pushed t None (Some ty) opened fields shows is = let e = shows.shape in cc
ShowsOpened-pushed t (Some o) None opened fields shows is = let e = shows.shape in cc

-- ---- what names mean

-- the first of two entries
abbrev pub first_entry : {X : Type 0} → Option X → Option X → Option X
first_entry (Some x) other = Some x
first_entry None other = other

entry-by : {X : Type 0} (b : Bool) (x : X) (o p q : Option X) → q ≡ first_entry o p → (if b then Some x else q) ≡ first_entry (if b then Some x else o) p
entry-by true x o p q e = refl
entry-by false x o p q e = e

-- fields that were opened hide those behind them
pub entry_of-append : {X : Type 0} (xs ys : List (List ℕ × X)) (n : List ℕ) → entry_of (xs ++ ys) n ≡ first_entry (entry_of xs n) (entry_of ys n)
entry_of-append [] ys n = refl
entry_of-append (x ∷ xs) ys n = entry-by (bytes_eq x.0 n) x.1 (entry_of xs n) (entry_of ys n) (entry_of (xs ++ ys) n) (entry_of-append xs ys n)

-- at a place a name is a field, or means what it means but for the fields
pub find-fields : (out : Outside) (l : Local) (n : List ℕ) → find out l n ≡ field_or (entry_of l.fields n) (find out (record l { fields = [] }) n)
unfolding find
find-fields out l n = refl

-- the first of two fields, and else the other meaning
pub field_or-first : (o p : Option (Typed × Bool)) (f : Found) → field_or (first_entry o p) f ≡ field_or o (field_or p f)
field_or-first (Some x) p f = refl
field_or-first None p f = refl

-- where fields were opened a name is one of these, or means what it means outside
pub find-opened : (out : Outside) (l : Local) (opens : List (List ℕ × (Typed × Bool))) (n : List ℕ) →
    find out (record l { fields = opens ++ l.fields }) n ≡ field_or (entry_of opens n) (find out l n)
find-opened out l opens n =
    find-fields out (record l { fields = opens ++ l.fields }) n
    ∙ ap (λ (e : Option (Typed × Bool)). field_or e (find out (record l { fields = [] }) n)) (entry_of-append opens l.fields n)
    ∙ field_or-first (entry_of opens n) (entry_of l.fields n) (find out (record l { fields = [] }) n)
    ∙ ap (field_or (entry_of opens n)) (sym (find-fields out l n))
