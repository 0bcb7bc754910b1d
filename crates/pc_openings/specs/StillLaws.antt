-- Nothing is declared below a node of a statement part, a constant or a name (ISO 7185, 6.2.1): lemmas.
use Rattle.std.proofs.Common.{◌≡◌, ℕ, Bool, true, false, List, [], ◌∷◌, ◌++◌, length, Some, None, refl, ◌∙◌, subst, if◌then◌else◌, arith}
use Rattle.std.proofs.lemmas.Bool.{and_parts}
use Rattle.pc_syntax.specs.Classes.{has}
use Rattle.pc_syntax.specs.Plain.{Plain, kids_of}
use Rattle.pc_syntax.specs.Slots.{is_list, places_of}
use Rattle.pc_syntax.specs.WellFormed.{IsProper}
use Rattle.pc_syntax.specs.declared.class.Class.{Class}
use Rattle.pc_syntax.specs.declared.kind.Kind.{Kind}
use Rattle.pc_syntax.specs.declared.kind.Kind.TheVariants as kind
use Rattle.pc_scope.specs.Headings.{is_routine_kind}
use Rattle.pc_forms.specs.CountLaws.{fixed_length}
use Rattle.pc_forms.specs.FormClasses.{Every, HasKids, HasKidsIf, HasClasses}
use Rattle.pc_forms.specs.FormKids.{kids_in}
use Rattle.pc_forms.specs.Form.{form_of}
use Rattle.pc_forms.specs.FormLaws.{kids_in-form_of, kind_in-form_of, classes-form_of, proper-kids_of, by_form}
use Rattle.pc_environment.specs.Sight.{is_body}
use Rattle.pc_rules.specs.OwnBlock.{declared_in}
use Rattle.pc_openings.specs.Declaring.{declared_below, declared_at, all_declared, may_declare_below}
use Rattle.pc_openings.specs.DeclaringLaws.{all_declared-kids}
use Rattle.pc_openings.specs.StillKinds.{is_still_class, class-still, all_still, places-still-body, places-still, still-declares, no-routine}

-- ---- the kids of a node

abbrev IsStill : Plain → Type 0
IsStill t = is_body t.kind ≡ true

fixed-still : (cs : List Class) (ks : List Plain) → all_still cs ≡ true → HasClasses cs ks → length ks ≡ length cs → Every IsStill ks
fixed-still cs [] b h e = tt
fixed-still [] (k ∷ ks) b h e = cc
fixed-still (c ∷ cs) (k ∷ ks) b h e = let a = and_parts (is_still_class c) (all_still cs) b in (class-still c k.kind a.0 h.0, fixed-still cs ks a.1 h.1 (omega (arith, e)))

list-still : (c : Class) (ks : List Plain) → is_still_class c ≡ true → Every (λ k. has c k.kind ≡ true) ks → Every IsStill ks
list-still c [] b h = tt
list-still c (k ∷ ks) b h = (class-still c k.kind b h.0, list-still c ks b h.1)

either-still : (l : Bool) (cs : List Class) (ks : List Plain) → all_still cs ≡ true → HasKidsIf l cs ks → (l ≡ false → length ks ≡ length cs) → (l ≡ true → (c : Class) × (rest : List Class) × (cs ≡ c ∷ rest)) →
    Every IsStill ks
either-still false cs ks b h count first = fixed-still cs ks b h (count refl)
either-still true [] ks b h count first = let f = first refl in let e = f.2 in cc
either-still true (c ∷ cs) ks b h count first = let a = and_parts (is_still_class c) (all_still cs) b in list-still c ks a.0 h

list-first : (k : Kind) → is_list k ≡ true → (c : Class) × (rest : List Class) × (places_of k ≡ c ∷ rest)
list-first kind.Heads l = (_, _, refl)
list-first kind.Args l = (_, _, refl)
list-first kind.Params l = (_, _, refl)
list-first kind.Names l = (_, _, refl)
list-first kind.Labels l = (_, _, refl)
list-first kind.Indexes l = (_, _, refl)
list-first kind.Exprs l = (_, _, refl)
list-first kind.Accesses l = (_, _, refl)
list-first kind.Members l = (_, _, refl)
list-first kind.Consts l = (_, _, refl)
list-first kind.Types l = (_, _, refl)
list-first kind.Vars l = (_, _, refl)
list-first kind.Routines l = (_, _, refl)
list-first kind.Fields l = (_, _, refl)
list-first kind.Stmts l = (_, _, refl)
list-first kind.Arms l = (_, _, refl)
list-first k l = cc

fixed-by : (l : Bool) (n : ℕ) → l ≡ false → (if l then None else Some n) ≡ Some n
fixed-by false n f = refl
fixed-by true n f = cc

-- all of them are such as stand in a statement part, where their classes are
kids-still : (t : Plain) → IsProper t → all_still (places_of t.kind) ≡ true → Every IsStill (kids_of t)
kids-still t proper b =
    let h : HasKids t.kind (kids_of t) =
    subst (λ (ks : List Plain). HasKids t.kind ks) (kids_in-form_of t proper) (subst (λ (k : Kind). HasKids k (kids_in (form_of t))) (kind_in-form_of t) (classes-form_of t proper)) in
    either-still (is_list t.kind) (places_of t.kind) (kids_of t) b h (λ no_list. fixed_length t (length (places_of t.kind)) proper (fixed-by (is_list t.kind) (length (places_of t.kind)) no_list))
    (list-first t.kind)

-- ---- nothing is declared

below-by : {X : Type 0} (b : Bool) (xs : List X) → xs ≡ [] → (if b then [] else xs) ≡ []
below-by true xs e = refl
below-by false xs e = e

abbrev DeclaresNothing : Plain → Type 0
DeclaresNothing t = IsStill t → declared_at t ≡ []

all-nothing : (ts : List Plain) → Every DeclaresNothing ts → Every IsStill ts → all_declared ts ≡ []
all-nothing [] d s = refl
all-nothing (t ∷ ts) d s = λ i. d.0 s.0 i ++ all-nothing ts d.1 s.1 i

-- by a node of a statement part and all below it
still-nothing : (t : Plain) → IsProper t → DeclaresNothing t
still-nothing = by_form DeclaresNothing (λ t proper below still.
    let kids = subst (λ (ks : List Plain). Every DeclaresNothing ks) (kids_in-form_of t proper) below in
    let none = all_declared-kids t ∙ all-nothing (kids_of t) kids (kids-still t proper (places-still-body t.kind still)) in
    λ i. still-declares t.kind t.kids still i ++ below-by (is_routine_kind t.kind) (declared_in t.kids) none i)

every-nothing : (ts : List Plain) → Every IsProper ts → Every DeclaresNothing ts
every-nothing [] p = tt
every-nothing (t ∷ ts) p = (still-nothing t p.0, every-nothing ts p.1)

unless : {X : Type 0} (b : Bool) (xs : List X) → (b ≡ false → xs ≡ []) → (if b then [] else xs) ≡ []
unless true xs e = refl
unless false xs e = e refl

-- below a node of a kind that has no declarations below it
pub nothing-below : (t : Plain) → IsProper t → may_declare_below t.kind ≡ false → declared_below t ≡ []
nothing-below t proper quiet =
    unless (is_routine_kind t.kind) (declared_in t.kids)
    (λ r. all_declared-kids t ∙ all-nothing (kids_of t) (every-nothing (kids_of t) (proper-kids_of t proper)) (kids-still t proper (places-still t.kind quiet r)))

-- below each other node, but for a routine, its kids and all below them declare
pub below-kids : (t : Plain) → may_declare_below t.kind ≡ true → declared_below t ≡ all_declared (kids_of t)
below-kids t e = no-routine t.kind (declared_in t.kids) e ∙ all_declared-kids t
