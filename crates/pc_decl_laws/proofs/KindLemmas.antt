-- The kinds of names that well-formed nodes declare, and of the nodes above these.
use Rattle.std.specs.Prelude.{ℕ, ◌≡◌, Bool, true, false, not, ◌||◌, List, [], ◌∷◌}
use Rattle.std.proofs.Common.{refl, sym, true≢false}
use Rattle.std.proofs.lemmas.Bool.{and_parts}
use Rattle.pc_syntax.specs.declared.kind.Kind.{Kind}
use Rattle.pc_syntax.specs.declared.kind.Kind.TheVariants as kind
use Rattle.pc_syntax.specs.declared.class.Class.{Class}
use Rattle.pc_syntax.specs.declared.class.Class.TheVariants as class
use Rattle.pc_syntax.specs.Classes.{has}
use Rattle.pc_syntax.specs.Layout.{layout}
use Rattle.pc_syntax.specs.Plain.{Forest, Nil, Cons, count, kinds}
use Rattle.pc_syntax.specs.Sorts.{is_hole}
use Rattle.pc_syntax.specs.WellFormed.{fits_some}
use Rattle.pc_decl.specs.FieldTypes.{is_field_kind}
use Rattle.pc_needs.proofs.BodyKinds.{either-way, Passes, row-passes, node-takes}

-- what holds of the kind of the first tree, if there is one
abbrev pub FirstPasses : (Kind → Bool) → Forest → Type 0
FirstPasses test Nil = Unit {0}
FirstPasses test (Cons k w ns ks ts) = test k ≡ true

-- ---- nodes whose first kid is the name that they declare

abbrev pub names_one : Kind → Bool
names_one kind.Constdef = true
names_one kind.Typedef = true
names_one kind.Procedure = true
names_one kind.Function = true
names_one kind.Funbody = true
names_one _ = false

pub one-named : (k : Kind) (w : List ℕ) (f : Forest) → names_one k ≡ true → fits_some (layout k w (count f)) (kinds f) ≡ true → FirstPasses (has class.Name) f
one-named kind.Constdef (b ∷ w) f h e = absurd (true≢false (sym e))
one-named kind.Constdef [] Nil h e = tt
one-named kind.Constdef [] (Cons j v ns ks ts) h e = (and_parts (has class.Name j) _ e).0
one-named kind.Typedef (b ∷ w) f h e = absurd (true≢false (sym e))
one-named kind.Typedef [] Nil h e = tt
one-named kind.Typedef [] (Cons j v ns ks ts) h e = (and_parts (has class.Name j) _ e).0
one-named kind.Procedure (b ∷ w) f h e = absurd (true≢false (sym e))
one-named kind.Procedure [] Nil h e = tt
one-named kind.Procedure [] (Cons j v ns ks ts) h e = (and_parts (has class.Name j) _ e).0
one-named kind.Function (b ∷ w) f h e = absurd (true≢false (sym e))
one-named kind.Function [] Nil h e = tt
one-named kind.Function [] (Cons j v ns ks ts) h e = (and_parts (has class.Name j) _ e).0
one-named kind.Funbody (b ∷ w) f h e = absurd (true≢false (sym e))
one-named kind.Funbody [] Nil h e = tt
one-named kind.Funbody [] (Cons j v ns ks ts) h e = (and_parts (has class.Name j) _ e).0
one-named k w f h e = absurd (true≢false (sym h))

-- ---- nodes whose first kid is a list of names that they declare

abbrev pub names_more : Kind → Bool
names_more kind.Vardef = true
names_more kind.Enum = true
names_more kind.Valparam = true
names_more kind.Varparam = true
names_more _ = false

pub more-named : (k : Kind) (w : List ℕ) (f : Forest) → names_more k ≡ true → fits_some (layout k w (count f)) (kinds f) ≡ true → FirstPasses (has class.Names) f
more-named kind.Vardef (b ∷ w) f h e = absurd (true≢false (sym e))
more-named kind.Vardef [] Nil h e = tt
more-named kind.Vardef [] (Cons j v ns ks ts) h e = (and_parts (has class.Names j) _ e).0
more-named kind.Enum (b ∷ w) f h e = absurd (true≢false (sym e))
more-named kind.Enum [] Nil h e = tt
more-named kind.Enum [] (Cons j v ns ks ts) h e = (and_parts (has class.Names j) _ e).0
more-named kind.Valparam (b ∷ w) f h e = absurd (true≢false (sym e))
more-named kind.Valparam [] Nil h e = tt
more-named kind.Valparam [] (Cons j v ns ks ts) h e = (and_parts (has class.Names j) _ e).0
more-named kind.Varparam (b ∷ w) f h e = absurd (true≢false (sym e))
more-named kind.Varparam [] Nil h e = tt
more-named kind.Varparam [] (Cons j v ns ks ts) h e = (and_parts (has class.Names j) _ e).0
more-named k w f h e = absurd (true≢false (sym h))

-- ---- lists of names

-- a name that is no hole
pub name-kind : (k : Kind) → has class.Name k ≡ true → is_hole k ≡ false → k ≡ kind.Name
name-kind kind.Name h e = refl
name-kind (kind.Hole s) h e = absurd (true≢false e)
name-kind _ h e = absurd (true≢false (sym h))

abbrev is_name_class : Class → Bool
is_name_class class.Name = true
is_name_class _ = false

class-name : (c : Class) (k : Kind) → is_name_class c ≡ true → has c k ≡ true → has class.Name k ≡ true
class-name class.Name k e h = h
class-name _ k e h = absurd (true≢false (sym e))

-- the kids of a list of names
pub listed : (k : Kind) (w : List ℕ) (f : Forest) → has class.Names k ≡ true → fits_some (layout k w (count f)) (kinds f) ≡ true → Passes (has class.Name) f
listed kind.Names w f h e = row-passes (has class.Name) is_name_class class-name kind.Names 0 f refl (node-takes kind.Names w f e)
listed _ w f h e = absurd (true≢false (sym h))

-- ---- fields

-- a kid of a field is no node that declares one name
abbrev pub is_other : Kind → Bool
is_other k = not (names_one k)

names-other : (k : Kind) → (is_other k || not (has class.Names k)) ≡ true
names-other (kind.Hole s) = refl
names-other _ = refl

denoter-other : (k : Kind) → (is_other k || not (has class.Denoter k)) ≡ true
denoter-other (kind.Hole s) = refl
denoter-other _ = refl

abbrev is_field_class : Class → Bool
is_field_class class.Names = true
is_field_class class.Denoter = true
is_field_class _ = false

class-other : (c : Class) (k : Kind) → is_field_class c ≡ true → has c k ≡ true → is_other k ≡ true
class-other class.Names k e h = either-way (is_other k) (has class.Names k) (names-other k) h
class-other class.Denoter k e h = either-way (is_other k) (has class.Denoter k) (denoter-other k) h
class-other _ k e h = absurd (true≢false (sym e))

pub field-row : (k : Kind) (w : List ℕ) (f : Forest) → is_field_kind k ≡ true → fits_some (layout k w (count f)) (kinds f) ≡ true → Passes is_other f
field-row kind.Field w f h e = row-passes is_other is_field_class class-other kind.Field 0 f refl (node-takes kind.Field w f e)
field-row _ w f h e = absurd (true≢false (sym h))
