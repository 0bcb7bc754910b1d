-- A new type is followed: all that it leads to is taken account of.
use Rattle.std.proofs.Common.{◌≡◌, ◌⊎◌, ℕ, ◌+◌, ◌-◌, ◌<◌, ◌≤◌, Bool, true, false, List, [], ◌∷◌, Option, Some, None, option_map, get_or, length, slice_get, refl, sym, ◌∙◌, subst, inl, inr, arith}
use Rattle.std.proofs.lemmas.Bool.{true≢false}
use Rattle.std.proofs.lemmas.Option.{slice_get_cases, slice_get_within, get_or_from_slice_get, none-some}
use Rattle.pc_types.specs.Shapes.{Shape, NoMembers, Fields, FieldOf}
use Rattle.pc_types.specs.Table.{Table, numbered, fields_from, FieldsThere}
use Rattle.pc_types.specs.declared.form.TypeId.{TypeId}
use Rattle.pc_closing.specs.Whole.{is_whole_in, is_whole_at, AreWhole, IfAny, EachField}
use Rattle.pc_closing.specs.Search.{Marks, marks_after, users_after, marks_needing, users_needing, marks_if, users_if, marks_all, users_all, IsBad, Moves, IsSeenTo, IsSeen}
use Rattle.pc_closing.specs.MarksLaws.{moves-self, moves-through, enter-moves, entered-bad, user-moves, user-among}
use Rattle.pc_closing.specs.Searched.{BadAt, PartThere}

-- a shape is whole
abbrev pub WholeIn : Table → Shape → Type 0
WholeIn table s = is_whole_in table.domains s ≡ true

none-past : (xs : List Bool) (i : ℕ) → slice_get xs i ≡ None → length xs ≤ i
none-past xs i e = elim (slice_get_cases xs i).1 [
  | inl p ↦ absurd (none-some p.0 (sym e ∙ p.2))
  | inr p ↦ p.0
]

-- ---- one type that another leads to

pub needing-moves : (table : Table) (flags : List Bool) (part i : ℕ) (us : List (List ℕ)) (m : Marks) → AreWhole table flags → (is_whole_at table part ≡ true) ⊎ BadAt table (length flags) i →
    Moves (BadAt table (length flags)) us (users_needing flags part i us) m (marks_needing flags part i m)
needing-moves table flags part i us m right whole = by (slice_get flags part) refl where
  bad : is_whole_at table part ≡ false → BadAt table (length flags) i
  bad e = elim whole [
    | inl w ↦ absurd (true≢false (sym w ∙ e))
    | inr b ↦ b
  ]

  by : (x : Option Bool) → slice_get flags part ≡ x → Moves (BadAt table (length flags)) us (users_after x (part - length flags) i us) m (marks_after x i m)
  by None e =
      let past = none-past flags part e in
      let same : length flags + (part - length flags) ≡ part = omega (arith, past) in
      user-moves (BadAt table (length flags)) us (part - length flags) i m (λ b. bad (subst (λ (n : ℕ). is_whole_at table n ≡ false) same b))
  by (Some true) e = moves-self (BadAt table (length flags)) us m
  by (Some false) e =
      let flag : get_or flags part true ≡ false = get_or_from_slice_get flags part false true e in
      enter-moves (BadAt table (length flags)) us i m (bad (sym (right part (slice_get_within flags part false e)) ∙ flag))

needing-seen : (flags : List Bool) (part i : ℕ) (us : List (List ℕ)) (m : Marks) → part < length flags + length us →
    IsBad (marks_needing flags part i m) i ⊎ IsSeenTo flags (users_needing flags part i us) i part
needing-seen flags part i us m there = by (slice_get flags part) refl where
  by : (x : Option Bool) → slice_get flags part ≡ x → IsBad (marks_after x i m) i ⊎ IsSeenTo flags (users_after x (part - length flags) i us) i part
  by None e =
      let past = none-past flags part e in
      inr (inr (past, user-among us (part - length flags) i (omega (arith, past, there))))
  by (Some true) e = inr (inl (slice_get_within flags part true e, get_or_from_slice_get flags part true true e))
  by (Some false) e = inl (entered-bad i m)

-- ---- what is taken account of stays so

pub seen-later : (table : Table) (flags : List Bool) (us vs : List (List ℕ)) (m n : Marks) (i : ℕ) → Moves (BadAt table (length flags)) us vs m n → (s : Shape) →
    IsSeen flags table.shapes us i s → IsSeen flags table.shapes vs i s
seen-later table flags us vs m n i f s h = record {
  number = h.number;
  is = h.is;
  seen_to = elim h.seen_to [
    | inl e ↦ inl e
    | inr e ↦ inr (e.0, f.grown i (h.number - length flags) e.1)
  ];
}

-- what is reached by a number
pub seen-at : (table : Table) (flags : List Bool) (part i : ℕ) (us : List (List ℕ)) (m : Marks) → part < length flags + length us →
    IsBad (marks_needing flags part i m) i ⊎ IsSeen flags table.shapes (users_needing flags part i us) i (get_or table.shapes part NoMembers)
seen-at table flags part i us m there = elim (needing-seen flags part i us m there) [
  | inl b ↦ inl b
  | inr e ↦ inr (record { number = part; is = refl; seen_to = e })
]

-- ---- the type of the elements

pub if-moves : (table : Table) (flags : List Bool) (part : Option TypeId) (i : ℕ) (us : List (List ℕ)) (m : Marks) → AreWhole table flags →
    IfAny (WholeIn table) (option_map (numbered table.shapes) part) ⊎ BadAt table (length flags) i →
    Moves (BadAt table (length flags)) us (users_if flags part i us) m (marks_if flags part i m)
if-moves table flags None i us m right w = moves-self (BadAt table (length flags)) us m
if-moves table flags (Some part) i us m right w = needing-moves table flags part.0 i us m right w

pub if-seen : (table : Table) (flags : List Bool) (part : Option TypeId) (i : ℕ) (us : List (List ℕ)) (m : Marks) → PartThere (length flags + length us) part →
    IsBad (marks_if flags part i m) i ⊎ IfAny (IsSeen flags table.shapes (users_if flags part i us) i) (option_map (numbered table.shapes) part)
if-seen table flags None i us m there = inr tt
if-seen table flags (Some part) i us m there = seen-at table flags part.0 i us m there

-- ---- the types of the fields

first-field : (table : Table) (flags : List Bool) (i : ℕ) (s : Shape) (fs : Fields) → EachField (WholeIn table) (FieldOf [] s fs) ⊎ BadAt table (length flags) i → WholeIn table s ⊎ BadAt table (length flags) i
first-field table flags i s fs (inl w) = inl w.0
first-field table flags i s fs (inr b) = inr b

other-fields : (table : Table) (flags : List Bool) (i : ℕ) (s : Shape) (fs : Fields) → EachField (WholeIn table) (FieldOf [] s fs) ⊎ BadAt table (length flags) i →
    EachField (WholeIn table) fs ⊎ BadAt table (length flags) i
other-fields table flags i s fs (inl w) = inl w.1
other-fields table flags i s fs (inr b) = inr b

pub all-moves : (table : Table) (flags : List Bool) (fs : List (List ℕ × TypeId)) (i : ℕ) (us : List (List ℕ)) (m : Marks) → AreWhole table flags →
    EachField (WholeIn table) (fields_from table.shapes fs) ⊎ BadAt table (length flags) i →
    Moves (BadAt table (length flags)) us (users_all flags fs i us) m (marks_all flags fs i m)
all-moves table flags [] i us m right w = moves-self (BadAt table (length flags)) us m
all-moves table flags (f ∷ fs) i us m right w =
    moves-through (BadAt table (length flags)) us (users_needing flags f.1.0 i us) (users_all flags (f ∷ fs) i us) m (marks_needing flags f.1.0 i m) (marks_all flags (f ∷ fs) i m)
    (needing-moves table flags f.1.0 i us m right (first-field table flags i (numbered table.shapes f.1) (fields_from table.shapes fs) w))
    (all-moves table flags fs i (users_needing flags f.1.0 i us) (marks_needing flags f.1.0 i m) right (other-fields table flags i (numbered table.shapes f.1) (fields_from table.shapes fs) w))

pub all-seen : (table : Table) (flags : List Bool) (fs : List (List ℕ × TypeId)) (i : ℕ) (us : List (List ℕ)) (m : Marks) → AreWhole table flags →
    EachField (WholeIn table) (fields_from table.shapes fs) ⊎ BadAt table (length flags) i → FieldsThere (length flags + length us) fs →
    IsBad (marks_all flags fs i m) i ⊎ EachField (IsSeen flags table.shapes (users_all flags fs i us) i) (fields_from table.shapes fs)
all-seen table flags [] i us m right w there = inr tt
all-seen table flags (f ∷ fs) i us m right w there = by (seen-at table flags f.1.0 i us m there.0) (all-seen table flags fs i vs n right wf fits) where
  vs : List (List ℕ)
  vs = users_needing flags f.1.0 i us

  n : Marks
  n = marks_needing flags f.1.0 i m

  wf : EachField (WholeIn table) (fields_from table.shapes fs) ⊎ BadAt table (length flags) i
  wf = other-fields table flags i (numbered table.shapes f.1) (fields_from table.shapes fs) w

  first : Moves (BadAt table (length flags)) us vs m n
  first = needing-moves table flags f.1.0 i us m right (first-field table flags i (numbered table.shapes f.1) (fields_from table.shapes fs) w)

  fits : FieldsThere (length flags + length vs) fs
  fits = subst (λ (l : ℕ). FieldsThere (length flags + l) fs) (sym first.users) there.1

  rest : Moves (BadAt table (length flags)) vs (users_all flags fs i vs) n (marks_all flags fs i n)
  rest = all-moves table flags fs i vs n right wf

  by : IsBad n i ⊎ IsSeen flags table.shapes vs i (numbered table.shapes f.1) →
      IsBad (marks_all flags fs i n) i ⊎ EachField (IsSeen flags table.shapes (users_all flags fs i vs) i) (fields_from table.shapes fs) →
      IsBad (marks_all flags fs i n) i ⊎ EachField (IsSeen flags table.shapes (users_all flags fs i vs) i) (fields_from table.shapes (f ∷ fs))
  by (inl b) r = inl (rest.later i b)
  by (inr s) (inl b) = inl b
  by (inr s) (inr r) = inr (seen-later table flags vs (users_all flags fs i vs) n (marks_all flags fs i n) i rest (numbered table.shapes f.1) s, r)
