-- A new type is followed once each stage is done: the type of its elements, those of its fields, and that of its domain.
use Rattle.std.proofs.Common.{◌≡◌, ◌⊎◌, ℕ, ◌+◌, Bool, true, false, List, Option, Some, None, option_map, get_or, length, refl, sym, ◌∙◌, subst, inl, inr}
use Rattle.std.proofs.lemmas.Option.{none-some, same_Some}
use Rattle.pc_types.specs.Shapes.{Shape, NoMembers, Fields, LastField, FieldOf}
use Rattle.pc_types.specs.Domains.{domain_in}
use Rattle.pc_types.specs.TypeClasses.{fields_of}
use Rattle.pc_types.specs.Outlined.{element_of, domain_place}
use Rattle.pc_types.specs.Table.{Table, Place, numbered, fields_from, FieldsThere}
use Rattle.pc_types.specs.declared.form.TypeId.{TypeId}
use Rattle.pc_closing.specs.Whole.{is_whole_in, AreWhole, IfAny, IsKnown, EachField, IsFound, LeadsOn}
use Rattle.pc_closing.specs.WholeLaws.{whole-parts}
use Rattle.pc_closing.specs.Search.{Marks, users_needing, marks_if, users_if, marks_all, users_all, marks_to, users_to, IsBad, Moves, IsSeen, IsFollowed}
use Rattle.pc_closing.specs.MarksLaws.{moves-self, moves-through, enter-moves, entered-bad}
use Rattle.pc_closing.specs.FollowLaws.{WholeIn, if-moves, if-seen, all-moves, all-seen, needing-moves, seen-at, seen-later}
use Rattle.pc_closing.specs.Searched.{BadAt, PartThere, TargetThere, IsTarget, IsNoted}

-- ---- the type of the domain

to-moves : (table : Table) (flags : List Bool) (target : Option (Option TypeId)) (place : Option Place) (i : ℕ) (us : List (List ℕ)) (m : Marks) → AreWhole table flags →
    option_map (option_map (numbered table.shapes)) target ≡ option_map (λ (p : Place). domain_in table.domains p.owner p.name) place →
    IsFound (WholeIn table) table.domains place ⊎ BadAt table (length flags) i → Moves (BadAt table (length flags)) us (users_to flags target i us) m (marks_to flags target i m)
to-moves table flags None place i us m right e w = moves-self (BadAt table (length flags)) us m
to-moves table flags (Some part) None i us m right e w = absurd (none-some (option_map (numbered table.shapes) part) (sym e))
to-moves table flags (Some None) (Some p) i us m right e w =
    let none : None ≡ domain_in table.domains p.owner p.name = same_Some None (domain_in table.domains p.owner p.name) e in
    enter-moves (BadAt table (length flags)) us i m (elim w [
      | inl k ↦ absurd (subst (IsKnown (WholeIn table)) (sym none) k)
      | inr b ↦ b
    ])
to-moves table flags (Some (Some part)) (Some p) i us m right e w =
    let some : Some (numbered table.shapes part) ≡ domain_in table.domains p.owner p.name = same_Some (Some (numbered table.shapes part)) (domain_in table.domains p.owner p.name) e in
    needing-moves table flags part.0 i us m right (elim w [
      | inl k ↦ inl (subst (IsKnown (WholeIn table)) (sym some) k)
      | inr b ↦ inr b
    ])

to-seen : (table : Table) (flags : List Bool) (target : Option (Option TypeId)) (place : Option Place) (i : ℕ) (us : List (List ℕ)) (m : Marks) →
    option_map (option_map (numbered table.shapes)) target ≡ option_map (λ (p : Place). domain_in table.domains p.owner p.name) place → TargetThere (length flags + length us) target →
    IsBad (marks_to flags target i m) i ⊎ IsFound (IsSeen flags table.shapes (users_to flags target i us) i) table.domains place
to-seen table flags None None i us m e there = inr tt
to-seen table flags None (Some p) i us m e there = absurd (none-some (domain_in table.domains p.owner p.name) e)
to-seen table flags (Some part) None i us m e there = absurd (none-some (option_map (numbered table.shapes) part) (sym e))
to-seen table flags (Some None) (Some p) i us m e there = inl (entered-bad i m)
to-seen table flags (Some (Some part)) (Some p) i us m e there =
    let some : Some (numbered table.shapes part) ≡ domain_in table.domains p.owner p.name = same_Some (Some (numbered table.shapes part)) (domain_in table.domains p.owner p.name) e in
    elim (seen-at table flags part.0 i us m there) [
      | inl b ↦ inl b
      | inr s ↦ inr (subst (IsKnown (IsSeen flags table.shapes (users_needing flags part.0 i us) i)) some s)
    ]

-- ---- a new type with all of these

-- the shape of a new type
abbrev pub shape_of : List Bool → Table → ℕ → Shape
shape_of flags table i = get_or table.shapes (length flags + i) NoMembers

-- the type is not whole, or leads to whole types
parts-or-bad : (flags : List Bool) (table : Table) (i : ℕ) → LeadsOn (WholeIn table) table.domains (shape_of flags table i) ⊎ BadAt table (length flags) i
parts-or-bad flags table i = by (is_whole_in table.domains (shape_of flags table i)) refl where
  by : (b : Bool) → is_whole_in table.domains (shape_of flags table i) ≡ b → LeadsOn (WholeIn table) table.domains (shape_of flags table i) ⊎ BadAt table (length flags) i
  by true e = inl (whole-parts table.domains (shape_of flags table i) e)
  by false e = inr e

-- the parts of a type, as the code finds them
pub record AreParts (flags : List Bool) (table : Table) (i types : ℕ) (part : Option TypeId) (of_fields : List (List ℕ × TypeId)) (to : Option (Option TypeId)) : Type 0 where
  pub element : option_map (numbered table.shapes) part ≡ element_of (shape_of flags table i)
  pub fields : fields_from table.shapes of_fields ≡ fields_of (shape_of flags table i)
  pub target : IsTarget table (shape_of flags table i) to
  pub element_there : PartThere types part
  pub fields_there : FieldsThere types of_fields
  pub target_there : TargetThere types to

pub noted : (flags : List Bool) (table : Table) (i : ℕ) (us : List (List ℕ)) (m : Marks) (element : Option TypeId) (fields : List (List ℕ × TypeId)) (target : Option (Option TypeId)) →
    AreWhole table flags → AreParts flags table i (length flags + length us) element fields target →
    IsNoted flags table i us (users_to flags target i (users_all flags fields i (users_if flags element i us))) m (marks_to flags target i (marks_all flags fields i (marks_if flags element i m)))
noted flags table i us m element fields target right p = record {
  moves = moves-through Bad us u2 u3 m m2 m3 (moves-through Bad us u1 u2 m m1 m2 f1 f2) f3;
  followed = by (if-seen table flags element i us m p.element_there) (all-seen table flags fields i u1 m1 right w2 there2) (to-seen table flags target (domain_place t) i u2 m2 p.target there3);
} where
  t : Shape
  t = shape_of flags table i

  Bad : ℕ → Type 0
  Bad = BadAt table (length flags)

  u1 : List (List ℕ)
  u1 = users_if flags element i us

  m1 : Marks
  m1 = marks_if flags element i m

  u2 : List (List ℕ)
  u2 = users_all flags fields i u1

  m2 : Marks
  m2 = marks_all flags fields i m1

  u3 : List (List ℕ)
  u3 = users_to flags target i u2

  m3 : Marks
  m3 = marks_to flags target i m2

  w1 : IfAny (WholeIn table) (option_map (numbered table.shapes) element) ⊎ Bad i
  w1 = elim (parts-or-bad flags table i) [
    | inl l ↦ inl (subst (IfAny (WholeIn table)) (sym p.element) l.element)
    | inr b ↦ inr b
  ]

  w2 : EachField (WholeIn table) (fields_from table.shapes fields) ⊎ Bad i
  w2 = elim (parts-or-bad flags table i) [
    | inl l ↦ inl (subst (EachField (WholeIn table)) (sym p.fields) l.fields)
    | inr b ↦ inr b
  ]

  w3 : IsFound (WholeIn table) table.domains (domain_place t) ⊎ Bad i
  w3 = elim (parts-or-bad flags table i) [
    | inl l ↦ inl l.target
    | inr b ↦ inr b
  ]

  f1 : Moves Bad us u1 m m1
  f1 = if-moves table flags element i us m right w1

  f2 : Moves Bad u1 u2 m1 m2
  f2 = all-moves table flags fields i u1 m1 right w2

  f3 : Moves Bad u2 u3 m2 m3
  f3 = to-moves table flags target (domain_place t) i u2 m2 right p.target w3

  there2 : FieldsThere (length flags + length u1) fields
  there2 = subst (λ (l : ℕ). FieldsThere (length flags + l) fields) (sym f1.users) p.fields_there

  there3 : TargetThere (length flags + length u2) target
  there3 = subst (λ (l : ℕ). TargetThere (length flags + l) target) (sym (f2.users ∙ f1.users)) p.target_there

  any-later : (x : Option Shape) → IfAny (IsSeen flags table.shapes u1 i) x → IfAny (IsSeen flags table.shapes u3 i) x
  any-later None h = tt
  any-later (Some s) h = seen-later table flags u2 u3 m2 m3 i f3 s (seen-later table flags u1 u2 m1 m2 i f2 s h)

  fields-later : (fs : Fields) → EachField (IsSeen flags table.shapes u2 i) fs → EachField (IsSeen flags table.shapes u3 i) fs
  fields-later LastField h = tt
  fields-later (FieldOf n s fs) h = (seen-later table flags u2 u3 m2 m3 i f3 s h.0, fields-later fs h.1)

  by : IsBad m1 i ⊎ IfAny (IsSeen flags table.shapes u1 i) (option_map (numbered table.shapes) element) →
      IsBad m2 i ⊎ EachField (IsSeen flags table.shapes u2 i) (fields_from table.shapes fields) → IsBad m3 i ⊎ IsFound (IsSeen flags table.shapes u3 i) table.domains (domain_place t) →
      IsFollowed flags table u3 m3 i
  by (inl b) y z = inl (f3.later i (f2.later i b))
  by (inr x) (inl b) z = inl (f3.later i b)
  by (inr x) (inr y) (inl b) = inl b
  by (inr x) (inr y) (inr z) = inr (record {
    element = any-later (element_of t) (subst (IfAny (IsSeen flags table.shapes u1 i)) p.element x);
    fields = fields-later (fields_of t) (subst (EachField (IsSeen flags table.shapes u2 i)) p.fields y);
    target = z;
  })
