-- The role of an expression by the nodes above it.
use Rattle.std.specs.Prelude.{ℕ, ◌≡◌, true, false, List, [], ◌∷◌, ◌++◌, Option, Some}
use Rattle.std.specs.Option.{option_and_then, option_map_or}
use Rattle.std.proofs.Common.{refl, ap, sym, ◌∙◌, true≢false}
use Rattle.pc_syntax.specs.Classes.{is_body}
use Rattle.pc_syntax.specs.Places.{at}
use Rattle.pc_syntax.specs.Plain.{Plain}
use Rattle.pc_syntax.specs.declared.kind.Kind.{Kind}
use Rattle.pc_syntax.specs.declared.kind.Kind.TheVariants as kind
use Rattle.pc_decl.specs.Annotated.{Annotated, annotated}
use Rattle.pc_decl.specs.Found.{first_found}
use Rattle.pc_decl.specs.Nodes.{above, kid_number, kind_at}
use Rattle.pc_decl.specs.Roles.{argument_role, role_below, role_at, name_found}
use Rattle.pc_environment.specs.Decorating.{attributes_at, marks_of}
use Rattle.pc_rules.specs.Attributes.{Attributes, Marked}
use Rattle.pc_rules.specs.Meanings.{Found, Missing, Local, Outside}
use Rattle.pc_rules.specs.Outsides.{outside_of}
use Rattle.pc_rules.specs.Places.{inner}
use Rattle.pc_rules.specs.RoutineList.{routines_of}
use Rattle.pc_syntax.specs.Plain.{kids_of}
use Rattle.std.specs.Prelude.{slice_get}
use Rattle.pc_found_laws.specs.RolesAlong.{is_argument_list, role_from, name_from, PlainRoleLaw, NameLaw, KidRoleLaw, PartRoleLaw, RolesLaw}
use Rattle.pc_found_laws.proofs.FoundLemmas.{below-marks, found-law}
use Rattle.pc_found_laws.proofs.PartLemmas.{parts-stand}
use Rattle.pc_found_laws.proofs.WayLemmas.{at-append, ways-law}

-- ---- places

-- the place above a kid, and its number
above-kid : (p : List ℕ) (i : ℕ) → above (p ++ i ∷ []) ≡ p
above-kid [] i = refl
above-kid (a ∷ []) i = refl
above-kid (a ∷ b ∷ p) i = ap (λ (q : List ℕ). a ∷ q) (above-kid (b ∷ p) i)

number-kid : (p : List ℕ) (i : ℕ) → kid_number (p ++ i ∷ []) ≡ i
number-kid [] i = refl
number-kid (a ∷ []) i = refl
number-kid (a ∷ b ∷ p) i = number-kid (b ∷ p) i

kind-there : (t : Plain) (p : List ℕ) (x : Plain) → at p t ≡ Some x → kind_at t p ≡ x.kind
kind-there t p x e = ap (λ (o : Option Plain). option_map_or (λ (n : Plain). n.kind) o kind.Empty) e

pub tree-is : (t : Plain) → (annotated t).tree ≡ t
unfolding annotated
tree-is t = refl

-- the role of a kid by the place above
role-kid : (t : Plain) (p : List ℕ) (x : Plain) (i : ℕ) → at p t ≡ Some x → role_at (annotated t) (p ++ i ∷ []) ≡ role_below (annotated t) p i x.kind
role-kid t p x i e =
    (λ z. role_below (annotated t) (above-kid p i z) (number-kid p i z) (kind_at (tree-is t z) (above-kid p i z))) ∙ ap (role_below (annotated t) p i) (kind-there t p x e)

-- ---- roles

-- where the kind isn't that of a list of arguments
by-kind : (p : Annotated) (q : List ℕ) (i : ℕ) (g : Kind) (f : Found) (k : Kind) → is_argument_list k ≡ false → role_below p q i k ≡ role_from g f k i
by-kind p q i g f kind.Assign e = refl
by-kind p q i g f kind.Index e = refl
by-kind p q i g f kind.Select e = refl
by-kind p q i g f kind.Deref e = refl
by-kind p q i g f kind.Accesses e = refl
by-kind p q i g f kind.Args e = absurd (true≢false e)
by-kind p q i g f kind.Exprs e = absurd (true≢false e)
by-kind p q i g f _ e = refl

-- where what is above is known
by-above : (p : Annotated) (q : List ℕ) (i : ℕ) (g : Kind) (f : Found) (k : Kind) → kind_at p.tree (above q) ≡ g → name_found p (above q) ≡ f → role_below p q i k ≡ role_from g f k i
by-above p q i g f kind.Assign e h = refl
by-above p q i g f kind.Index e h = refl
by-above p q i g f kind.Select e h = refl
by-above p q i g f kind.Deref e h = refl
by-above p q i g f kind.Accesses e h = refl
by-above p q i g f kind.Args e h = λ z. argument_role (e z) i (h z)
by-above p q i g f kind.Exprs e h = λ z. argument_role (e z) i (h z)
by-above p q i g f _ e h = refl

-- ---- the name that is a first kid

first-marked : (out : Outside) (l : Local) (ts : List Plain) → option_map_or (λ (a : Attributes). a.found) (first_found (marks_of out l ts)) Missing
    ≡ option_map_or (λ (n : Plain). (attributes_at out l n).found) (slice_get ts 0) Missing
first-marked out l [] = refl
first-marked out l (t ∷ ts) = refl

name-there : NameLaw
name-there t r path x l proper program one h =
    let out : Outside = outside_of (routines_of t) r in
    ap (λ (o : Option Attributes). option_map_or (λ (a : Attributes). a.found) o Missing) (found-law.below t r path x l 1 [] proper program one h)
    ∙ ap (λ (m : Marked). option_map_or (λ (a : Attributes). a.found) (first_found m) Missing) (below-marks out l x)
    ∙ first-marked out (inner l x.kind x.kids) (kids_of x)

-- ---- the laws

plain-role : PlainRoleLaw
plain-role t path x i g f e other = role-kid t path x i e ∙ by-kind (annotated t) path i g f x.kind other

kid-role : KidRoleLaw
kid-role t r path x l j y i proper program one h e =
    let here : at path t ≡ Some x = ways-law.node t r path x l h in
    let there : at (path ++ j ∷ []) t ≡ Some y =
    at-append path (j ∷ []) t ∙ ap (λ (o : Option Plain). option_and_then (at (j ∷ [])) o) here ∙ ap (λ (o : Option Plain). option_and_then (at []) o) e in
    role-kid t (path ++ j ∷ []) y i there
    ∙ by-above (annotated t) (path ++ j ∷ []) i x.kind (name_from (outside_of (routines_of t) r) l x) y.kind
    ((λ z. kind_at (tree-is t z) (above-kid path j z)) ∙ kind-there t path x here)
    (ap (name_found (annotated t)) (above-kid path j) ∙ name-there t r path x l proper program one h)

body-plain : (k : Kind) → is_body k ≡ true → is_argument_list k ≡ false
body-plain kind.Args e = absurd (true≢false (sym e))
body-plain kind.Exprs e = absurd (true≢false (sym e))
body-plain _ e = refl

part-role : PartRoleLaw
part-role t r x proper program one e = body-plain x.kind (parts-stand t r x proper program one e).body

pub roles-law : RolesLaw
roles-law = record { plain = plain-role; name = name-there; kid = kid-role; part = part-role }
