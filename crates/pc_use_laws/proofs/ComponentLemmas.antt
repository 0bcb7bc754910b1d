-- A name that is used in a statement part means a field exactly where an open access opens one.
use Rattle.std.specs.Prelude.{◌||◌, if◌then◌else◌, ℕ, suc, ◌≡◌, Bool, true, false, List, [], ◌∷◌, ◌++◌, Option, Some, None, slice_get}
use Rattle.std.specs.Option.{option_or, is_some}
use Rattle.std.specs.List.{flat_map}
use Rattle.std.specs.Str.{bytes_eq}
use Rattle.std.proofs.Common.{refl, ap, sym, ◌∙◌, inl, inr}
use Rattle.pc_syntax.specs.Classes.{is_program as program_or_hole}
use Rattle.pc_syntax.specs.Words.{lowered}
use Rattle.pc_types.specs.Shapes.{Typed}
use Rattle.pc_scope.specs.Declarations.{Meant, HereAt, LaterAt, RequiredAt, MissingAt}
use Rattle.pc_scope.specs.Lookup.{lookup}
use Rattle.pc_rules.specs.Meanings.{Class, Found, Here, Later, Component, Required, Missing, Local, Outside, entry_of, find, known_or, later_or, field_or}
use Rattle.pc_rules.specs.Outsides.{outside_of}
use Rattle.pc_rules.specs.RoutineList.{routines_of}
use Rattle.pc_rules.specs.Routines.{Routine}
use Rattle.pc_rule_laws.specs.Agreement.{Agrees}
use Rattle.pc_lookup_law.specs.ClassAt.{HasClass}
use Rattle.pc_lookup_law.proofs.ProgramLaws.{program-law}
use Rattle.pc_decl.specs.Annotated.{Annotated, annotated}
use Rattle.pc_decl.specs.Meant.{open_field}
use Rattle.pc_decl.specs.Records.{field_of}
use Rattle.pc_decl.specs.Uses.{opened_at}
use Rattle.pc_needs.specs.Unaffected.{IsOneOf}
use Rattle.pc_needs.proofs.BodyTwins.{program-kind}
use Rattle.pc_use_laws.specs.FieldsSeen.{opens_at, AreTold, ToldLaw, is_component, ComponentLaw, SeenFieldsLaw}
use Rattle.pc_use_laws.proofs.RowLemmas.{Opened}
use Rattle.pc_use_laws.proofs.FieldsSeenLemmas.{known, fields-seen-law}

not-component : (P : List ℕ → Class → Type 0) (f : Found) (m : Meant) → Agrees P f m → is_component f ≡ false
not-component P (Component u p) (HereAt q) h = absurd h
not-component P (Component u p) (LaterAt q) h = absurd h
not-component P (Component u p) RequiredAt h = absurd h
not-component P (Component u p) MissingAt h = absurd h
not-component P (Here x) m h = refl
not-component P (Later c) m h = refl
not-component P (Required n) m h = refl
not-component P Missing m h = refl

index-of : (rs : List Routine) (r : Routine) → IsOneOf rs r → (i : ℕ) × (slice_get rs i ≡ Some r)
index-of [] r i = absurd i
index-of (x ∷ rs) r (inl e) = (0, ap (λ (y : Routine). Some y) e)
index-of (x ∷ rs) r (inr i) = let more = index-of rs r i in (suc more.0, more.1)

found-component : (out : Outside) (l : Local) (n : List ℕ) (x : Option (Typed × Bool)) → entry_of l.fields n ≡ x → (x ≡ None → is_component (find out l n) ≡ false) →
    is_component (find out l n) ≡ is_some x
unfolding find
found-component z l n None e h = h refl
found-component z l n (Some f) e h = ap (λ (y : Option (Typed × Bool)). is_component (field_or y (known_or z n (entry_of l.known n) (later_or (entry_of l.names n) (z.means n))))) e

pub component-law : ComponentLaw
component-law t r way s b bs proper program among e u =
    let n : List ℕ = lowered (b ∷ bs) in
    let out : Outside = outside_of (routines_of t) r.routine in
    let i = index-of (routines_of t) r.routine (known t r proper among).among in
    let agree = (program-law t proper.sound (ap program_or_hole (program-kind t.kind program)) i.0 r.routine i.1).0 in
    found-component out s.local n (entry_of s.local.fields n) refl
    (λ none. not-component (HasClass t) (find out s.local n) (lookup t (b ∷ bs) (r.routine.place ++ r.routine.block_kid ∷ 5 ∷ way)) (agree b bs 5 way s e u none))
    ∙ ap (λ fs. is_some (entry_of fs n)) (fields-seen-law t r way s proper among e)

entry-append : (xs ys : Opened) (n : List ℕ) → is_some (entry_of (xs ++ ys) n) ≡ (is_some (entry_of xs n) || is_some (entry_of ys n))
entry-append [] ys n = refl
entry-append (x ∷ xs) ys n = by (bytes_eq x.0 n) (entry-append xs ys n) where
  by : (z : Bool) → is_some (entry_of (xs ++ ys) n) ≡ (is_some (entry_of xs n) || is_some (entry_of ys n)) →
      is_some (if z then Some x.1 else entry_of (xs ++ ys) n) ≡ (is_some (if z then Some x.1 else entry_of xs n) || is_some (entry_of ys n))
  by true rest = refl
  by false rest = rest

some-or : {X : Type 0} (x y : Option X) → is_some (option_or x y) ≡ (is_some x || is_some y)
some-or None y = refl
some-or (Some x) y = refl

told-field : (p : Annotated) (n : List ℕ) (qs : List (List ℕ)) → AreTold p n qs → is_some (entry_of (flat_map (opens_at p) qs) n) ≡ is_some (open_field p n qs)
told-field p n [] h = refl
told-field p n (q ∷ qs) h =
    entry-append (opens_at p q) (flat_map (opens_at p) qs) n ∙ (λ z. h.0 z || told-field p n qs h.1 z) ∙ sym (some-or (field_of p n q) (open_field p n qs))

pub told-law : ToldLaw
told-law t r way s b bs proper program among e u told =
    component-law t r way s b bs proper program among e u
    ∙ told-field (annotated t) (lowered (b ∷ bs)) (opened_at t (r.routine.place ++ r.routine.block_kid ∷ 5 ∷ way)) told

pub seen-fields-law : SeenFieldsLaw
seen-fields-law = record { fields = fields-seen-law; component = component-law; told = told-law }
