-- The names of the fields of each record type of a routine stand where names of fields are.
use Rattle.std.specs.Prelude.{ℕ, suc, ◌≡◌, Bool, true, false, if◌then◌else◌, List, [], ◌∷◌, ◌++◌, Option, Some, None}
use Rattle.std.specs.Option.{option_map_or}
use Rattle.std.proofs.Common.{refl, ap, sym, subst, ◌∙◌, true≢false}
use Rattle.pc_syntax.specs.declared.kind.Kind.{Kind}
use Rattle.pc_syntax.specs.declared.kind.Kind.TheVariants as kind
use Rattle.pc_syntax.specs.declared.class.Class.{Class}
use Rattle.pc_syntax.specs.declared.class.Class.TheVariants as class
use Rattle.pc_syntax.specs.Classes.{has}
use Rattle.pc_syntax.specs.Layout.{layout}
use Rattle.pc_syntax.specs.Places.{at}
use Rattle.pc_syntax.specs.Fits.{takes_from}
use Rattle.pc_syntax.specs.Plain.{Forest, Nil, Cons, Plain, count, kinds, kids_of}
use Rattle.pc_syntax.specs.Sorts.{is_hole}
use Rattle.pc_syntax.specs.WellFormed.{WellFormed, fits_some}
use Rattle.pc_syntax.specs.Words.{lowered}
use Rattle.pc_scope.specs.Blocks.{block_kids}
use Rattle.pc_scope.specs.Declarations.{Declared, names_at, names_below}
use Rattle.pc_scope.specs.Headings.{is_routine_kind}
use Rattle.pc_rules.specs.Attributes.{Marked, Done, Mark}
use Rattle.pc_rules.specs.Meanings.{Local}
use Rattle.pc_rules.specs.OwnBlock.{own, bare_heading, without_kids}
use Rattle.pc_rules.specs.Places.{inner, beside}
use Rattle.pc_rules.specs.Routines.{start_of}
use Rattle.pc_decl.specs.Annotated.{Annotation}
use Rattle.pc_decl.specs.FieldTypes.{is_field_kind}
use Rattle.pc_decl.specs.Nodes.{above, kind_at, kids_at}
use Rattle.pc_decl.specs.Records.{RecordAt, record_here, records_among, records_of, fields_among, fields_of_record}
use Rattle.pc_needs.proofs.BodyKinds.{Passes, row-passes, node-takes}
use Rattle.pc_needs.proofs.Lists.{Each, each-append}
use Rattle.pc_decl_laws.proofs.LeadLemmas.{tree_of}
use Rattle.pc_decl_laws.proofs.NameLemmas.{above-kid}
use Rattle.pc_use_laws.specs.FieldPlaces.{IsFieldPlace}
use Rattle.pc_use_laws.proofs.SeatLemmas.{IsSeated, seat-sits, seat-well}
use Rattle.pc_use_laws.proofs.SitLemmas.{Sits, sits-kids, kind-of, kids-of, at-kid}

-- ---- names of a field

-- a name that stands where a field's is
abbrev pub IsField : Plain → Declared → Type 0
IsField t d = IsFieldPlace t d.place

listed-fields : (t : Plain) (q : List ℕ) (j : ℕ) (f : Forest) → is_field_kind (kind_at t q) ≡ true → Each (IsField t) (names_at None (q ++ 1 ∷ []) j f)
listed-fields t q j Nil e = tt
listed-fields t q j (Cons k w ns ks ts) e = which (listed-fields t q (suc j) ts e) (is_hole k) where
  which : Each (IsField t) (names_at None (q ++ 1 ∷ []) (suc j) ts) → (z : Bool) →
      Each (IsField t) (if z then names_at None (q ++ 1 ∷ []) (suc j) ts else record { name = lowered w; place = (q ++ 1 ∷ []) ++ j ∷ []; definition = None } ∷ names_at None (q ++ 1 ∷ []) (suc j) ts)
  which rest true = rest
  which rest false = (
    ap (λ (x : List ℕ). is_field_kind (kind_at t (above x))) (above-kid (q ++ 1 ∷ []) j) ∙ ap (λ (x : List ℕ). is_field_kind (kind_at t x)) (above-kid q 1) ∙ e,
    rest,
  )

below-fields : (t : Plain) (q : List ℕ) (f : Forest) → is_field_kind (kind_at t q) ≡ true → Each (IsField t) (names_below q f)
below-fields t q Nil e = tt
below-fields t q (Cons k w ns ks ts) e = listed-fields t q 1 ks e

-- a hole among the fields has no kids
field-or-hole : (t : Plain) (q : List ℕ) (k : Kind) (w : List ℕ) (f : Forest) → has class.Field k ≡ true → fits_some (layout k w (count f)) (kinds f) ≡ true →
    (is_field_kind k ≡ true → Each (IsField t) (names_below q f)) → Each (IsField t) (names_below q f)
field-or-hole t q kind.Field w f h e here = here refl
field-or-hole t q (kind.Hole s) w Nil h e here = tt
field-or-hole t q (kind.Hole s) w (Cons j v ms js ts) h e here = absurd (true≢false (sym (node-takes (kind.Hole s) w (Cons j v ms js ts) e)))
field-or-hole t q _ w f h e here = absurd (true≢false (sym h))

pub fields-are : (t : Plain) (p : List ℕ) (i : ℕ) (f : Forest) → Sits t p i f → WellFormed f → Passes (has class.Field) f → Each (IsField t) (fields_among p i f)
fields-are t p i Nil sits well pass = tt
fields-are t p i (Cons k w ns ks ts) sits well pass =
    each-append (IsField t) (names_below (p ++ i ∷ []) ks) (fields_among p (suc i) ts)
    (field-or-hole t (p ++ i ∷ []) k w ks pass.0 well.0 (λ e. below-fields t (p ++ i ∷ []) ks (ap is_field_kind (kind-of t (p ++ i ∷ []) (tree_of k w ns ks) sits.0) ∙ e)))
    (fields-are t p (suc i) ts sits.1 well.4 pass.1)

-- ---- a record type

abbrev is_field_class : Class → Bool
is_field_class class.Field = true
is_field_class _ = false

class-field : (c : Class) (k : Kind) → is_field_class c ≡ true → has c k ≡ true → has class.Field k ≡ true
class-field class.Field k e h = h
class-field _ k e h = absurd (true≢false (sym e))

abbrev is_fields_class : Class → Bool
is_fields_class class.Fields = true
is_fields_class _ = false

class-fields : (c : Class) (k : Kind) → is_fields_class c ≡ true → has c k ≡ true → has class.Fields k ≡ true
class-fields class.Fields k e h = h
class-fields _ k e h = absurd (true≢false (sym e))

-- the kids of a list of fields
field-list : (k : Kind) (w : List ℕ) (f : Forest) → has class.Fields k ≡ true → fits_some (layout k w (count f)) (kinds f) ≡ true → Passes (has class.Field) f
field-list kind.Fields w f h e = row-passes (has class.Field) is_field_class class-field kind.Fields 0 f refl (node-takes kind.Fields w f e)
field-list _ w f h e = absurd (true≢false (sym h))

-- the names of its fields stand where names of fields are
abbrev pub HasFields : Plain → RecordAt → Type 0
HasFields t r = Each (IsField t) (fields_of_record t r)

record-fields : (t : Plain) (q : List ℕ) (k : Kind) (v : List ℕ) (ms : List (List ℕ)) (f : Forest) → at q t ≡ Some (tree_of k v ms f) → WellFormed f → Passes (has class.Fields) f →
    Each (IsField t) (fields_among (q ++ 1 ∷ []) 1 (kids_at t (q ++ 1 ∷ [])))
unfolding kids_of
record-fields t q k v ms Nil e well pass =
    subst (λ (g : Forest). Each (IsField t) (fields_among (q ++ 1 ∷ []) 1 g)) (sym (ap (λ (o : Option Plain). option_map_or (λ (n : Plain). n.kids) o Nil) (at-kid t q (tree_of k v ms Nil) 1 e))) tt
record-fields t q k v ms (Cons j w ns ks ts) e well pass =
    let sits : Sits t q 1 (Cons j w ns ks ts) = sits-kids t q (tree_of k v ms (Cons j w ns ks ts)) e in
    subst (λ (g : Forest). Each (IsField t) (fields_among (q ++ 1 ∷ []) 1 g)) (sym (kids-of t (q ++ 1 ∷ []) (tree_of j w ns ks) sits.0))
    (fields-are t (q ++ 1 ∷ []) 1 ks (sits-kids t (q ++ 1 ∷ []) (tree_of j w ns ks) sits.0) well.3 (field-list j w ks pass.0 well.0))

record-there : (t : Plain) (l : Local) (q : List ℕ) (k j : Kind) (v : List ℕ) (ms : List (List ℕ)) (ks : Forest) → k ≡ j → at q t ≡ Some (tree_of j v ms ks) →
    fits_some (layout j v (count ks)) (kinds ks) ≡ true → WellFormed ks → Each (HasFields t) (record_here l k q)
record-there t l q kind.Record j v ms ks same here fit well =
    let takes : takes_from kind.Record 0 (kinds ks) ≡ true = subst (λ (z : Kind). takes_from z 0 (kinds ks) ≡ true) (sym same) (node-takes j v ks fit) in
    (record-fields t q j v ms ks here well (row-passes (has class.Fields) is_fields_class class-fields kind.Record 0 ks refl takes), tt)
record-there t l q _ j v ms ks same here fit well = tt

-- ---- the own block

-- the first trees are the second with some of their kids and of the last ones left out
abbrev pub IsThin : Forest → Forest → Type 0
IsThin Nil f = Unit {0}
IsThin (Cons k w ns js us) Nil = ⊥
IsThin (Cons k w ns js us) (Cons j v ms ks ts) = (k ≡ j) × IsThin js ks × IsThin us ts

thin-itself : (f : Forest) → IsThin f f
thin-itself Nil = tt
thin-itself (Cons k w ns ks ts) = (refl, thin-itself ks, thin-itself ts)

thin-without : (f : Forest) → IsThin (without_kids f) f
thin-without Nil = tt
thin-without (Cons k w ns ks ts) = (refl, tt, thin-without ts)

thin-bare : (f : Forest) → IsThin (bare_heading f) f
thin-bare Nil = tt
thin-bare (Cons kind.Params w ns ks ts) = (refl, thin-without ks, thin-bare ts)
thin-bare (Cons kind.Block w ns ks ts) = (refl, tt, thin-bare ts)
thin-bare (Cons k w ns ks ts) = (refl, thin-itself ks, thin-bare ts)

pub thin-own : (f : Forest) → IsThin (own f) f
unfolding own
thin-own Nil = tt
thin-own (Cons k w ns ks ts) = (refl, by (is_routine_kind k) (thin-bare ks) (thin-own ks), thin-own ts) where
  by : (z : Bool) → IsThin (bare_heading ks) ks → IsThin (own ks) ks → IsThin (if z then bare_heading ks else own ks) ks
  by true a b = a
  by false a b = b

-- ---- all record types of a routine

records-have : (t : Plain) (p : List ℕ) (l : Local) (g f : Forest) (m : Marked) → IsThin g f → Sits t p l.kid f → WellFormed f → Each (HasFields t) (records_among p l g m)
records-have t p l Nil f m thin sits well = tt
records-have t p l (Cons k w ns js us) Nil m thin sits well = absurd thin
records-have t p l (Cons k w ns js us) (Cons j v ms ks ts) Done thin sits well = tt
records-have t p l (Cons k w ns js us) (Cons j v ms ks ts) (Mark a below rest) thin sits well =
    each-append (HasFields t) (record_here l k (p ++ l.kid ∷ []) ++ records_among (p ++ l.kid ∷ []) (inner l k js) js below) (records_among p (beside l k a) us rest)
    (each-append (HasFields t) (record_here l k (p ++ l.kid ∷ [])) (records_among (p ++ l.kid ∷ []) (inner l k js) js below)
    (record-there t l (p ++ l.kid ∷ []) k j v ms ks thin.0 sits.0 well.0 well.3)
    (records-have t (p ++ l.kid ∷ []) (inner l k js) js ks below thin.1 (sits-kids t (p ++ l.kid ∷ []) (tree_of j v ms ks) sits.0) well.3))
    (records-have t p (beside l k a) us ts rest thin.2 sits.1 well.4)

pub records-of-have : (t : Plain) (r : Annotation) → IsSeated t r.routine → Each (HasFields t) (records_of r)
records-of-have t r s =
    let p : List ℕ = r.routine.place ++ r.routine.block_kid ∷ [] in
    let f : Forest = block_kids s.node.kids in
    subst (λ (g : Forest). Each (HasFields t) (records_among p (start_of r.routine) g r.block)) (sym s.block)
    (records-have t p (start_of r.routine) (own f) f r.block (thin-own f) (seat-sits t r.routine s) (seat-well t r.routine s))
