-- The type at the place of a declared name is that of the one routine that declares there.
use Rattle.std.specs.Prelude.{ℕ, ◌≡◌, ◌⊎◌, Bool, true, false, if◌then◌else◌, List, [], ◌∷◌, Option, Some, None, map}
use Rattle.std.specs.Option.{option_and_then, option_or}
use Rattle.std.specs.List.{find}
use Rattle.std.specs.Str.{bytes_eq}
use Rattle.std.proofs.Common.{refl, ap, sym, subst, ◌∙◌, true≢false, inl, inr}
use Rattle.std.proofs.lemmas.Slice.Eq.{bytes_eq-Decides}
use Rattle.pc_syntax.specs.declared.kind.Kind.{Kind}
use Rattle.pc_syntax.specs.Places.{at}
use Rattle.pc_syntax.specs.Plain.{Plain}
use Rattle.pc_syntax.specs.WellFormed.{IsProper}
use Rattle.pc_syntax.specs.Words.{lowered}
use Rattle.pc_types.specs.Shapes.{Shape}
use Rattle.pc_scope.specs.Declarations.{Declared}
use Rattle.pc_rules.specs.Errors.{is_program}
use Rattle.pc_rules.specs.RoutineList.{routines_of}
use Rattle.pc_rules.specs.Routines.{Routine}
use Rattle.pc_decl.specs.Annotated.{Annotation, Annotated, annotated, annotation_of}
use Rattle.pc_decl.specs.Declared.{names_of, shape_of_name}
use Rattle.pc_decl.specs.FieldTypes.{shape_of, field_shape, denoted_at, record_around}
use Rattle.pc_decl.specs.Nodes.{is_expression}
use Rattle.pc_decl.specs.Roles.{expression_type}
use Rattle.pc_decl.specs.TypeAt.{shape_in, shape_in_any, declared_shape, shape_of_node, shape_at, structure_of, type_in}
use Rattle.pc_needs.specs.Unaffected.{IsOneOf}
use Rattle.pc_needs.proofs.Lists.{Each, each-map}
use Rattle.pc_needs.proofs.PlacesApart.{places-law}
use Rattle.pc_decl_laws.specs.OwnTypes.{IsAmong, OwnTypeLaw}
use Rattle.pc_decl_laws.proofs.LeadLemmas.{InProgram, program-at, program-home}
use Rattle.pc_decl_laws.proofs.NameLemmas.{Stands}
use Rattle.pc_decl_laws.proofs.RoutineLemmas.{IsRooted, routines-rooted, names-rooted}

-- ---- lists

pub each-among : {X : Type 0} (P : X → Type 0) (xs : List X) (x : X) → IsAmong xs x → Each P xs → P x
each-among P [] x a h = absurd a
each-among P (y ∷ ys) x (inl e) h = subst P e h.0
each-among P (y ∷ ys) x (inr a) h = each-among P ys x a h.1

-- ---- the name at a place among those of a routine

-- a name at the place is found, and what is found is one of the names, and stands there
abbrev IsFound : (Declared → Type 0) → List ℕ → Option Declared → Type 0
IsFound P q o = (d : Declared) × (o ≡ Some d) × (d.place ≡ q) × P d

found-or-none : (P : Declared → Type 0) (q : List ℕ) (ds : List Declared) → Each P ds → (find (λ (d : Declared). bytes_eq d.place q) ds ≡ None) ⊎ IsFound P q (find (λ (d : Declared). bytes_eq d.place q) ds)
found-or-none P q [] h = inl refl
found-or-none P q (d ∷ ds) h = which (found-or-none P q ds h.1) (bytes_eq d.place q) refl where
  which : (find (λ (x : Declared). bytes_eq x.place q) ds ≡ None) ⊎ IsFound P q (find (λ (x : Declared). bytes_eq x.place q) ds) → (z : Bool) → bytes_eq d.place q ≡ z →
      ((if z then Some d else find (λ (x : Declared). bytes_eq x.place q) ds) ≡ None) ⊎ IsFound P q (if z then Some d else find (λ (x : Declared). bytes_eq x.place q) ds)
  which rest true e = inr (d, refl, (bytes_eq-Decides d.place q).0 e, h.0)
  which rest false e = rest

found-there : (P : Declared → Type 0) (ds : List Declared) (d : Declared) → IsAmong ds d → Each P ds → IsFound P d.place (find (λ (x : Declared). bytes_eq x.place d.place) ds)
found-there P [] d a h = absurd a
found-there P (x ∷ ds) d a h = which (λ b. found-there P ds d b h.1) (bytes_eq x.place d.place) refl a where
  which : (IsAmong ds d → IsFound P d.place (find (λ (y : Declared). bytes_eq y.place d.place) ds)) → (z : Bool) → bytes_eq x.place d.place ≡ z → IsAmong (x ∷ ds) d →
      IsFound P d.place (if z then Some x else find (λ (y : Declared). bytes_eq y.place d.place) ds)
  which rest true e a = (x, refl, (bytes_eq-Decides x.place d.place).0 e, h.0)
  which rest false e (inl same) = absurd (true≢false (sym ((bytes_eq-Decides x.place d.place).1 (ap (λ (y : Declared). y.place) same)) ∙ e))
  which rest false e (inr b) = rest b

-- ---- one place has one name and one routine

-- two names that stand at one place are spelled as one
one-name : (t : Plain) (h g : List ℕ) (d e : Declared) → Stands t h d → Stands t g e → d.place ≡ e.place → d.name ≡ e.name
one-name t h g d e s u same =
    sym s.spelled ∙ ap word_or (sym (program-at t d.place s.node h s.here) ∙ ap (λ (q : List ℕ). at q t) same ∙ program-at t e.place u.node g u.here) ∙ u.spelled where
      word_or : Option Plain → List ℕ
      word_or None = []
      word_or (Some x) = lowered x.word

-- and belong to one routine
one-home : (t : Plain) (h g : List ℕ) (d e : Declared) → Stands t h d → Stands t g e → d.place ≡ e.place → h ≡ g
one-home t h g d e s u same = program-home t e.place s.node u.node h g (subst (λ (q : List ℕ). InProgram t q s.node h) same s.here) u.here

-- ---- the routines of a program with what is found in them

-- each is what is found of a routine of the program, and its names stand in it
pub record IsKnown (t : Plain) (r : Annotation) : Type 0 where
  pub among : IsOneOf (routines_of t) r.routine
  pub found : annotation_of (routines_of t) r.routine ≡ r
  pub rooted : IsRooted t r.routine
  pub names : Each (Stands t r.routine.place) (names_of t r.routine)

all-known : (t : Plain) (rs : List Routine) → ((r : Routine) → IsOneOf rs r → IsOneOf (routines_of t) r) → Each (IsRooted t) rs → Each (IsKnown t) (map (annotation_of (routines_of t)) rs)
all-known t [] f h = tt
all-known t (r ∷ rs) f h = (record { among = f r (inl refl); found = refl; rooted = h.0; names = names-rooted t r h.0 }, all-known t rs (λ x i. f x (inr i)) h.1)

pub annotations-known : (t : Plain) → IsProper t → Each (IsKnown t) (annotated t).routines
unfolding annotated
annotations-known t proper = which (is_program t.kind) refl where
  which : (z : Bool) → is_program t.kind ≡ z → Each (IsKnown t) (map (annotation_of (if z then routines_of t else [])) (if z then routines_of t else []))
  which true e = all-known t (routines_of t) (λ r i. i) (routines-rooted t proper e)
  which false e = tt

one-annotation : (t : Plain) (a r : Annotation) → IsKnown t a → IsKnown t r → a.routine.place ≡ r.routine.place → a ≡ r
one-annotation t a r k m e = sym k.found ∙ ap (annotation_of (routines_of t)) (places-law t a.routine r.routine k.among m.among e) ∙ m.found

-- ---- what a name at a place declares

or-itself : (s : Option Shape) → option_or s s ≡ s
or-itself None = refl
or-itself (Some x) = refl

or-none : (s : Option Shape) → option_or s None ≡ s
or-none None = refl
or-none (Some x) = refl

-- nothing, or this
abbrev IsOrNone : Option Shape → Option Shape → Type 0
IsOrNone s o = (o ≡ None) ⊎ (o ≡ s)

then-this : (s o : Option Shape) → IsOrNone s o → option_or o s ≡ s
then-this s o (inl e) = ap (λ (x : Option Shape). option_or x s) e
then-this s o (inr e) = ap (λ (x : Option Shape). option_or x s) e ∙ or-itself s

this-first : (s o : Option Shape) → IsOrNone s o → option_or s o ≡ s
this-first s o (inl e) = ap (λ (x : Option Shape). option_or s x) e ∙ or-none s
this-first s o (inr e) = ap (λ (x : Option Shape). option_or s x) e ∙ or-itself s

any-or : (t : Plain) (q : List ℕ) (s : Option Shape) (rs : List Annotation) → Each (λ (a : Annotation). IsOrNone s (shape_in t a q)) rs → IsOrNone s (shape_in_any t rs q)
any-or t q s [] h = inl refl
any-or t q s (a ∷ rs) h = both h.0 (any-or t q s rs h.1) where
  both : IsOrNone s (shape_in t a q) → IsOrNone s (shape_in_any t rs q) → IsOrNone s (option_or (shape_in t a q) (shape_in_any t rs q))
  both (inl e) (inl f) = inl ((λ i. option_or (e i) (f i)))
  both x (inr f) = inr (ap (λ (y : Option Shape). option_or (shape_in t a q) y) f ∙ then-this s (shape_in t a q) x)
  both (inr e) y = inr (ap (λ (x : Option Shape). option_or x (shape_in_any t rs q)) e ∙ this-first s (shape_in_any t rs q) y)

any-this : (t : Plain) (q : List ℕ) (s : Option Shape) (rs : List Annotation) (r : Annotation) → IsAmong rs r → shape_in t r q ≡ s →
    Each (λ (a : Annotation). IsOrNone s (shape_in t a q)) rs → shape_in_any t rs q ≡ s
any-this t q s [] r a e h = absurd a
any-this t q s (x ∷ rs) r (inl same) e h =
    ap (λ (o : Option Shape). option_or o (shape_in_any t rs q)) (ap (λ (a : Annotation). shape_in t a q) same ∙ e) ∙ this-first s (shape_in_any t rs q) (any-or t q s rs h.1)
any-this t q s (x ∷ rs) r (inr a) e h =
    ap (λ (o : Option Shape). option_or (shape_in t x q) o) (any-this t q s rs r a e h.1) ∙ then-this s (shape_in t x q) h.0

-- in its own routine a name has its own type
shape-own : (t : Plain) (r : Annotation) (d : Declared) → IsKnown t r → IsAmong (names_of t r.routine) d → shape_in t r d.place ≡ shape_of_name r d.name
shape-own t r d k a =
    let f = found-there (Stands t r.routine.place) (names_of t r.routine) d a k.names in
    let s = each-among (Stands t r.routine.place) (names_of t r.routine) d a k.names in
    ap (λ (o : Option Declared). option_and_then (λ (x : Declared). shape_of_name r x.name) o) f.1
    ∙ ap (shape_of_name r) (one-name t r.routine.place r.routine.place f.0 d f.3 s f.2)

-- in another there is none at its place
shape-other : (t : Plain) (r a : Annotation) (d : Declared) → IsKnown t r → IsKnown t a → IsAmong (names_of t r.routine) d → IsOrNone (shape_of_name r d.name) (shape_in t a d.place)
shape-other t r a d k m i = which (found-or-none (Stands t a.routine.place) d.place (names_of t a.routine) m.names) where
  which : (find (λ (x : Declared). bytes_eq x.place d.place) (names_of t a.routine) ≡ None)
      ⊎ IsFound (Stands t a.routine.place) d.place (find (λ (x : Declared). bytes_eq x.place d.place) (names_of t a.routine)) → IsOrNone (shape_of_name r d.name) (shape_in t a d.place)
  which (inl e) = inl (ap (λ (o : Option Declared). option_and_then (λ (x : Declared). shape_of_name a x.name) o) e)
  which (inr f) =
      let s = each-among (Stands t r.routine.place) (names_of t r.routine) d i k.names in
      let same = one-annotation t a r m k (one-home t a.routine.place r.routine.place f.0 d f.3 s f.2) in
      inr (ap (λ (x : Annotation). shape_in t x d.place) same ∙ shape-own t r d k i)

-- ---- the type at its place

at-name : (t : Plain) (r : Annotation) (d : Declared) → Each (IsKnown t) (annotated t).routines → IsAmong (annotated t).routines r → IsAmong (names_of t r.routine) d →
    shape_in_any t (annotated t).routines d.place ≡ shape_of_name r d.name
at-name t r d h a i =
    let k = each-among (IsKnown t) (annotated t).routines r a h in
    any-this t d.place (shape_of_name r d.name) (annotated t).routines r a (shape-own t r d k i)
    (each-map (IsKnown t) (λ (x : Annotation). IsOrNone (shape_of_name r d.name) (shape_in t x d.place)) (annotated t).routines (λ x m. shape-other t r x d k m i) h)

pub own-shape : (t : Plain) (r : Annotation) (d : Declared) → IsProper t → IsAmong (annotated t).routines r → IsAmong (names_of t r.routine) d → shape_at (annotated t) d.place ≡ shape_of_name r d.name
unfolding shape_at annotated
own-shape t r d proper a i =
    let p : Annotated = annotated t in
    let q : List ℕ = d.place in
    let all = annotations-known t proper in
    let s = each-among (Stands t r.routine.place) (names_of t r.routine) d i (each-among (IsKnown t) p.routines r a all).names in
    let n : List ℕ = lowered s.node.word in
    ap (λ (o : Option Plain). option_and_then (shape_of_node p q) o) (program-at t q s.node r.routine.place s.here)
    ∙ ap (λ (k : Kind). if is_expression k then shape_of (expression_type p q) else declared_shape p q k n) s.named
    ∙ ap (λ (b : Bool). option_or (shape_in_any t p.routines q) (if b then option_and_then (λ u. field_shape n u.shape) (denoted_at p (record_around q)) else None)) s.free
    ∙ or-none (shape_in_any t p.routines q)
    ∙ at-name t r d all a i

pub own-type-law : OwnTypeLaw
unfolding type_in
own-type-law t r d proper a i = ap (λ (s : Option Shape). option_and_then structure_of s) (own-shape t r d proper a i)
