-- The expressions below a node of a statement part: what is told of them is what is shown.
use Rattle.std.specs.Prelude.{ℕ, suc, ◌≡◌, Bool, true, false, if◌then◌else◌, List, [], ◌∷◌, ◌++◌, Option, Some, None, map, slice_get}
use Rattle.std.specs.Option.{option_map_or}
use Rattle.std.proofs.Common.{refl, ap, sym, ◌∙◌, subst, append_assoc}
use Rattle.std.proofs.lemmas.List.{map-append}
use Rattle.pc_syntax.specs.Parts.{kid_at}
use Rattle.pc_syntax.specs.Plain.{Forest, Nil, Cons, Plain, trees_of, kids_of}
use Rattle.pc_syntax.specs.WellFormed.{IsProper}
use Rattle.pc_syntax.specs.declared.kind.Kind.{Kind}
use Rattle.pc_syntax.specs.declared.kind.Kind.TheVariants as kind
use Rattle.pc_types.specs.Expanded.{Ty}
use Rattle.pc_decl.specs.Annotated.{annotated}
use Rattle.pc_decl.specs.Nodes.{is_expression}
use Rattle.pc_decl.specs.Roles.{Role, judged_as, role_at}
use Rattle.pc_decl.specs.TypeAt.{type_in}
use Rattle.pc_environment.specs.Decorating.{attributes_at, place_behind}
use Rattle.pc_needs.specs.Unaffected.{IsOneOf}
use Rattle.pc_rules.specs.Attributes.{Attributes}
use Rattle.pc_rules.specs.Errors.{is_program}
use Rattle.pc_rules.specs.Meanings.{Found, Missing, Local, Outside}
use Rattle.pc_rules.specs.Outsides.{outside_of}
use Rattle.pc_rules.specs.Places.{inner}
use Rattle.pc_rules.specs.RoutineList.{routines_of}
use Rattle.pc_rules.specs.Routines.{Routine}
use Rattle.pc_found_laws.specs.RolesAlong.{role_from, name_from}
use Rattle.pc_found_laws.specs.TypesThere.{structure_found}
use Rattle.pc_found_laws.specs.Ways.{StandsIn}
use Rattle.pc_found_laws.proofs.RoleLemmas.{roles-law}
use Rattle.pc_found_laws.proofs.TypeLemmas.{type-law}
use Rattle.pc_found_laws.proofs.WayLemmas.{ways-law}
use Rattle.pc_told.specs.CallLaws.{first-kid, no-kid}
use Rattle.pc_told.specs.Told.{Above, role_under, role_of, told_here, inside, first_found, told_among}
use Rattle.pc_expr_view.specs.PartTypes.{types_among}
use Rattle.pc_expr_laws.specs.Law.{structure_told}
use Rattle.pc_expr_laws.proofs.RowLemmas.{IsRow, row-start, row-next, row-kid, row-place, row-number}

-- a routine of a program
pub record IsRoutine (t : Plain) (r : Routine) : Type 0 where
  pub proper : IsProper t
  pub program : is_program t.kind ≡ true
  pub one : IsOneOf (routines_of t) r

-- ---- roles

-- the roles of both crates are the same
pub role-same : (k g : Kind) (f : Found) (i : ℕ) → role_under k g f i ≡ role_from g f k i
role-same kind.Assign g f i = refl
role-same kind.Index g f i = refl
role-same kind.Select g f i = refl
role-same kind.Deref g f i = refl
role-same kind.Accesses g f i = refl
role-same kind.Args g f i = refl
role-same kind.Exprs g f i = refl
role-same k g f i = refl

-- and so is what the name means that is the first kid
pub name-same : (out : Outside) (l : Local) (x : Plain) → first_found out l x.kind x.kids ≡ name_from out l x
name-same out l x = which (slice_get (kids_of x) 0) refl where
  which : (o : Option Plain) → slice_get (kids_of x) 0 ≡ o → first_found out l x.kind x.kids ≡ option_map_or (λ (n : Plain). (attributes_at out (inner l x.kind x.kids) n).found) (kid_at x 1) Missing
  which None e =
      ap (λ (a : Attributes). a.found) (no-kid out l x e) ∙ sym (ap (λ (o : Option Plain). option_map_or (λ (n : Plain). (attributes_at out (inner l x.kind x.kids) n).found) o Missing) e)
  which (Some n) e =
      ap (λ (a : Attributes). a.found) (first-kid out l x n e) ∙ sym (ap (λ (o : Option Plain). option_map_or (λ (n : Plain). (attributes_at out (inner l x.kind x.kids) n).found) o Missing) e)

-- ---- one node

-- what is told of a node by itself
pub own-shown : (t : Plain) (r : Routine) (q : List ℕ) (u : Plain) (l : Local) (e : Role) → IsRoutine t r → StandsIn t r q u l → e ≡ role_at (annotated t) q →
    (if is_expression u.kind then type_in (annotated t) q ∷ [] else []) ≡ map structure_told (told_here e u.kind (attributes_at (outside_of (routines_of t) r) l u))
own-shown t r q u l e p stands role = which (is_expression u.kind) refl where
  which : (b : Bool) → is_expression u.kind ≡ b →
      (if b then type_in (annotated t) q ∷ [] else []) ≡ map structure_told (if b then (judged_as e (attributes_at (outside_of (routines_of t) r) l u)).type ∷ [] else [])
  which true is =
      ap (λ (y : Option Ty). y ∷ [])
      (type-law t r q u l p.proper p.program p.one stands is ∙ ap (λ (g : Role). structure_found g (attributes_at (outside_of (routines_of t) r) l u)) (sym role))
  which false is = refl

-- ---- kids

-- kids of a node at a place stand so
pub record HasKidsAt (t : Plain) (r : Routine) (q : List ℕ) (y : Plain) (m : Local) (h : Above) (f : Found) : Type 0 where
  pub stands : StandsIn t r q y m
  pub kind : h.kind ≡ y.kind
  pub found : f ≡ name_from (outside_of (routines_of t) r) m y
  pub roles : (i : ℕ) → role_of h i ≡ role_at (annotated t) (q ++ i ∷ [])

-- and the kids of such a kid
pub kid-kids : (t : Plain) (r : Routine) (q : List ℕ) (y : Plain) (m : Local) (h : Above) (f : Found) (n : ℕ) (u : Plain) (l : Local) → IsRoutine t r → HasKidsAt t r q y m h f →
    kid_at y (suc n) ≡ Some u → StandsIn t r (q ++ suc n ∷ []) u l →
    HasKidsAt t r (q ++ suc n ∷ []) u l (inside h f u.kind) (first_found (outside_of (routines_of t) r) l u.kind u.kids)
kid-kids t r q y m h f n u l p a kid stands = record {
  stands = stands;
  kind = refl;
  found = name-same (outside_of (routines_of t) r) l u;
  roles = λ i.
      role-same u.kind h.kind f i
      ∙ ap (λ (g : Kind). role_from g f u.kind i) a.kind
      ∙ ap (λ (g : Found). role_from y.kind g u.kind i) a.found
      ∙ sym (roles-law.kid t r q y m (suc n) u i p.proper p.program p.one a.stands kid);
}

-- what is told of kids in a row and below them
pub row-shown : (t : Plain) (r : Routine) → IsRoutine t r → (ks : Forest) (q : List ℕ) (y : Plain) (m : Local) (h : Above) (f : Found) → HasKidsAt t r q y m h f →
    (bs : List Plain) (n : ℕ) (l : Local) → IsRow (outside_of (routines_of t) r) y m bs n l (trees_of ks) →
    types_among (annotated t) q (suc n) ks ≡ map structure_told (told_among (outside_of (routines_of t) r) l h f ks)
row-shown t r p Nil q y m h f a bs n l s = refl
row-shown t r p (Cons k w ns ks ts) q y m h f a bs n l s =
    let out : Outside = outside_of (routines_of t) r in
    let u : Plain = record { kind = k; word = w; notes = ns; kids = ks } in
    let kid : kid_at y (suc n) ≡ Some u = row-kid out y m bs n l u (trees_of ts) s in
    let stands : StandsIn t r (q ++ suc n ∷ []) u l =
    subst (λ (a : Local). StandsIn t r (q ++ suc n ∷ []) u a) (sym (row-place out y m bs n l (u ∷ trees_of ts) s)) (ways-law.kid t r q y m n u a.stands kid) in
    let role : role_of h l.kid ≡ role_at (annotated t) (q ++ suc n ∷ []) = ap (λ (i : ℕ). role_of h i) (row-number out y m bs n l (u ∷ trees_of ts) s) ∙ a.roles (suc n) in
    let here = own-shown t r (q ++ suc n ∷ []) u l (role_of h l.kid) p stands role in
    let below =
    row-shown t r p ks (q ++ suc n ∷ []) u l (inside h f k) (first_found out l k ks) (kid-kids t r q y m h f n u l p a kid stands) [] 0 (inner l k ks) (row-start out u l) in
    let rest = row-shown t r p ts q y m h f a (bs ++ u ∷ []) (suc n) (place_behind out l u) (row-next out y m bs n l u (trees_of ts) s) in
    let own = told_here (role_of h l.kid) k (attributes_at out l u) in
    let inner_told = told_among out (inner l k ks) (inside h f k) (first_found out l k ks) ks in
    let rest_told = told_among out (place_behind out l u) h f ts in
    (λ z. (here z ++ below z) ++ rest z)
    ∙ append_assoc (map structure_told own) (map structure_told inner_told) (map structure_told rest_told)
    ∙ ap (λ (ys : List (Option Ty)). map structure_told own ++ ys) (sym (map-append structure_told inner_told rest_told))
    ∙ sym (map-append structure_told own (inner_told ++ rest_told))
