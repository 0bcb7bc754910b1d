-- The way down to an expression: what is told at its end is what is shown there.
use Rattle.std.specs.Prelude.{ℕ, zero, suc, ◌≡◌, ◌+◌, ◌-◌, Bool, true, if◌then◌else◌, List, [], ◌∷◌, ◌++◌, Option, Some, length, map, take}
use Rattle.std.specs.Option.{option_map_or}
use Rattle.std.proofs.Common.{refl, ap, sym, ◌∙◌, subst, append_assoc, append-nil, arith}
use Rattle.pc_syntax.specs.Parts.{kid_at}
use Rattle.pc_syntax.specs.Plain.{Cons, Nil, Plain, kids_of}
use Rattle.pc_types.specs.Shapes.{Typed}
use Rattle.pc_decl.specs.Annotated.{annotated}
use Rattle.pc_decl.specs.Nodes.{above, kid_number, is_expression}
use Rattle.pc_decl.specs.Roles.{role_at}
use Rattle.pc_decl.specs.TypeAt.{type_in}
use Rattle.pc_environment.specs.Decorating.{attributes_at}
use Rattle.pc_rules.specs.Meanings.{Found, Local, Outside}
use Rattle.pc_rules.specs.Outsides.{outside_of}
use Rattle.pc_rules.specs.Places.{inner}
use Rattle.pc_rules.specs.RoutineList.{routines_of}
use Rattle.pc_rules.specs.Routines.{Routine}
use Rattle.pc_found_laws.specs.Ways.{kid_place, Reaches, StandsIn}
use Rattle.pc_found_laws.proofs.WayLemmas.{ways-law}
use Rattle.pc_told.specs.Told.{Above, role_under, role_of, told_here, inside, first_found, told_among, told_at, told_down}
use Rattle.pc_told.specs.ToldLaws.{kid-after}
use Rattle.pc_expr_view.specs.PartTypes.{types_among, types_of_node, types_at}
use Rattle.pc_expr_laws.specs.Law.{structure_told}
use Rattle.pc_expr_laws.proofs.NodeLemmas.{IsRoutine, name-same, own-shown, HasKidsAt, kid-kids, row-shown}
use Rattle.pc_expr_laws.proofs.RowLemmas.{taken-length, row-start}
use Rattle.std.proofs.lemmas.List.{map-append}

-- ---- places

-- a place is that of a kid of the node above
last-kid : (i : ℕ) (q : List ℕ) → above (i ∷ q) ++ kid_number (i ∷ q) ∷ [] ≡ i ∷ q
last-kid i [] = refl
last-kid i (j ∷ q) = ap (λ (p : List ℕ). i ∷ p) (last-kid j q)

place-kid : (p : List ℕ) (j : ℕ) (q : List ℕ) → above (p ++ j ∷ q) ++ kid_number (p ++ j ∷ q) ∷ [] ≡ p ++ j ∷ q
place-kid [] j q = last-kid j q
place-kid (i ∷ p) j q = last-kid i (p ++ j ∷ q)

stands-kid : (t : Plain) (r : Routine) (q : List ℕ) (x : Plain) (l : Local) → StandsIn t r q x l → above q ++ kid_number q ∷ [] ≡ q
stands-kid t r q x l h = subst (λ (p : List ℕ). above p ++ kid_number p ∷ [] ≡ p) (sym h.path_is) (place-kid r.place r.block_kid (5 ∷ h.way))

-- ---- the end of the way

-- a node stands so at a place
pub record StandsSo (t : Plain) (r : Routine) (q : List ℕ) (y : Plain) (l : Local) (h : Above) (f : Found) : Type 0 where
  pub stands : StandsIn t r q y l
  pub role : is_expression y.kind ≡ true → role_of h l.kid ≡ role_at (annotated t) q
  pub roles : (i : ℕ) → role_under y.kind h.kind f i ≡ role_at (annotated t) (q ++ i ∷ [])

-- so do its kids
own-kids : (t : Plain) (r : Routine) (q : List ℕ) (y : Plain) (l : Local) (h : Above) (f : Found) → StandsSo t r q y l h f →
    HasKidsAt t r q y l (inside h f y.kind) (first_found (outside_of (routines_of t) r) l y.kind y.kids)
own-kids t r q y l h f s = record { stands = s.stands; kind = refl; found = name-same (outside_of (routines_of t) r) l y; roles = s.roles }

-- an expression
node-shown : (t : Plain) (r : Routine) → IsRoutine t r → (q : List ℕ) (y : Plain) (l : Local) (h : Above) (f : Found) → StandsSo t r q y l h f → is_expression y.kind ≡ true →
    types_at t q ≡ map structure_told (told_at (outside_of (routines_of t) r) l h f y)
unfolding types_at
node-shown t r p q y l h f s is =
    let out : Outside = outside_of (routines_of t) r in
    let own = told_here (role_of h l.kid) y.kind (attributes_at out l y) in
    let below = told_among out (inner l y.kind y.kids) (inside h f y.kind) (first_found out l y.kind y.kids) y.kids in
    let here = own-shown t r q y l (role_of h l.kid) p s.stands (s.role is) in
    let deeper = row-shown t r p y.kids q y l (inside h f y.kind) (first_found out l y.kind y.kids) (own-kids t r q y l h f s) [] 0 (inner l y.kind y.kids) (row-start out y l) in
    let place = stands-kid t r q y l s.stands in
    ap (λ (o : Option Plain). option_map_or (types_of_node t q) o []) (ways-law.node t r q y l s.stands)
    ∙ ap (λ (b : Bool). if b then types_among (annotated t) (above q) (kid_number q) (Cons y.kind y.word y.notes y.kids Nil) else []) is
    ∙ ap (λ (a : List ℕ). (if is_expression y.kind then type_in (annotated t) a ∷ [] else []) ++ types_among (annotated t) a 1 y.kids ++ []) place
    ∙ append-nil ((if is_expression y.kind then type_in (annotated t) q ∷ [] else []) ++ types_among (annotated t) q 1 y.kids)
    ∙ (λ z. here z ++ deeper z)
    ∙ sym (map-append structure_told own below)

-- ---- a step of the way

-- which kid the kid with a number is
kid-number : (out : Outside) (l : Local) (y : Plain) (j : ℕ) (z : Plain) → kid_at y (suc j) ≡ Some z → (kid_place out l y j).kid ≡ suc j
kid-number out l y j z e =
    let after : (kid_place out l y j).kid ≡ 1 + length (take j (kids_of y)) = kid-after out (inner l y.kind y.kids) (take j (kids_of y)) in
    let there : length (take j (kids_of y)) ≡ j = taken-length j (kids_of y) z e in
    omega (arith, after, there)

step : (t : Plain) (r : Routine) → IsRoutine t r → (q : List ℕ) (y : Plain) (l : Local) (h : Above) (f : Found) → StandsSo t r q y l h f → (j : ℕ) (z : Plain) → kid_at y (suc j) ≡ Some z →
    StandsSo t r (q ++ suc j ∷ []) z (kid_place (outside_of (routines_of t) r) l y j) (inside h f y.kind) (first_found (outside_of (routines_of t) r) l y.kind y.kids)
step t r p q y l h f s j z e =
    let out : Outside = outside_of (routines_of t) r in
    let stands : StandsIn t r (q ++ suc j ∷ []) z (kid_place out l y j) = ways-law.kid t r q y l j z s.stands e in
    record {
      stands = stands;
      role = λ is. ap (λ (i : ℕ). role_under y.kind h.kind f i) (kid-number out l y j z e) ∙ s.roles (suc j);
      roles = (kid-kids t r q y l (inside h f y.kind) (first_found out l y.kind y.kids) j z (kid_place out l y j) p (own-kids t r q y l h f s) e stands).roles;
    }

-- ---- the way

pub down-shown : (t : Plain) (r : Routine) → IsRoutine t r → (way : List ℕ) (q : List ℕ) (y : Plain) (l : Local) (h : Above) (f : Found) → StandsSo t r q y l h f → (x : Plain) (m : Local) →
    Reaches (outside_of (routines_of t) r) l y way x m → is_expression x.kind ≡ true → types_at t (q ++ way) ≡ map structure_told (told_down way (outside_of (routines_of t) r) l h f y)
down-shown t r p [] q y l h f s x m reaches is =
    let here : is_expression y.kind ≡ true = subst (λ (u : Plain). is_expression u.kind ≡ true) (sym reaches.0) is in
    ap (types_at t) (append-nil q)
    ∙ node-shown t r p q y l h f s here
    ∙ sym (ap (λ (b : Bool). map structure_told (if b then told_at (outside_of (routines_of t) r) l h f y else [])) here)
down-shown t r p (zero ∷ way) q y l h f s x m reaches is = absurd reaches
down-shown t r p (suc j ∷ way) q y l h f s x m reaches is =
    let out : Outside = outside_of (routines_of t) r in
    let z : Plain = reaches.0 in
    let number : suc j - 1 ≡ j = omega arith in
    let go : Local → List (Option Typed) = λ k. told_down way out k (inside h f y.kind) (first_found out l y.kind y.kids) z in
    let deeper =
    down-shown t r p way (q ++ suc j ∷ []) z (kid_place out l y j) (inside h f y.kind) (first_found out l y.kind y.kids) (step t r p q y l h f s j z reaches.1) x m reaches.2 is in
    ap (types_at t) (sym (append_assoc q (suc j ∷ []) way))
    ∙ deeper
    ∙ ap (λ (i : ℕ). map structure_told (go (kid_place out l y i))) (sym number)
    ∙ sym (ap (λ (o : Option Plain). map structure_told (option_map_or (λ (k : Plain). told_down way out (kid_place out l y (suc j - 1)) (inside h f y.kind) (first_found out l y.kind y.kids) k) o [])) reaches.1)
