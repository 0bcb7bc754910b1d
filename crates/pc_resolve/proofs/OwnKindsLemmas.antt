-- The names that a routine declares are those of its heading and its own block: lemmas.
use Rattle.std.proofs.Common.{◌≡◌, ℕ, suc, Bool, true, false, if◌then◌else◌, List, [], ◌∷◌, ◌++◌, Option, None, refl, ap, sym, ◌∙◌}
use Rattle.pc_syntax.specs.Plain.{Cons, Forest, Nil, Plain}
use Rattle.pc_syntax.specs.Sorts.{is_hole}
use Rattle.pc_syntax.specs.Words.{lowered}
use Rattle.pc_syntax.specs.declared.kind.Kind.{Kind}
use Rattle.pc_syntax.specs.declared.kind.Kind.TheVariants as kind
use Rattle.pc_scope.specs.Blocks.{block_kids}
use Rattle.pc_scope.specs.Declarations.{Declared, declared_by_node, name_at, names_at, names_below}
use Rattle.pc_scope.specs.Headings.{is_routine_kind}
use Rattle.pc_rules.specs.OwnBlock.{bare_heading, heading_part, own}
use Rattle.pc_rules.specs.Routines.{Routine}
use Rattle.pc_decl.specs.Declared.{given_names}
use Rattle.pc_decl.specs.Nodes.{kids_at}
use Rattle.pc_decl_laws.specs.Kinds.{kinds_at, of_kind, parameter_kinds}
use Rattle.pc_own_names.specs.OwnKinds.{first_kinds, own_kinds}
use Rattle.pc_resolve.specs.Kept.{kinds_of}

-- ---- names in a row

one-name : (d : Option (List ℕ)) (p : List ℕ) (j : ℕ) (k : Kind) (w : List ℕ) (xs ys : List Declared) → xs ≡ ys →
    (if is_hole k then xs else record { name = lowered w; place = p ++ j ∷ []; definition = d } ∷ xs) ≡ (if is_hole k then ys else record { name = lowered w; place = p ++ j ∷ []; definition = d } ∷ ys)
one-name d p j k w xs ys e = ap (λ (zs : List Declared). if is_hole k then zs else record { name = lowered w; place = p ++ j ∷ []; definition = d } ∷ zs) e

names-own : (d : Option (List ℕ)) (p : List ℕ) (j : ℕ) (f : Forest) → names_at d p j (own f) ≡ names_at d p j f
unfolding own
names-own d p j Nil = refl
names-own d p j (Cons k w ns ks ts) = one-name d p j k w (names_at d p (suc j) (own ts)) (names_at d p (suc j) ts) (names-own d p (suc j) ts)

names-bare : (d : Option (List ℕ)) (p : List ℕ) (j : ℕ) (f : Forest) → names_at d p j (bare_heading f) ≡ names_at d p j f
names-bare d p j Nil = refl
names-bare d p j (Cons kind.Params w ns ks ts) = one-name d p j kind.Params w (names_at d p (suc j) (bare_heading ts)) (names_at d p (suc j) ts) (names-bare d p (suc j) ts)
names-bare d p j (Cons kind.Block w ns ks ts) = one-name d p j kind.Block w (names_at d p (suc j) (bare_heading ts)) (names_at d p (suc j) ts) (names-bare d p (suc j) ts)
names-bare d p j (Cons k w ns ks ts) = one-name d p j k w (names_at d p (suc j) (bare_heading ts)) (names_at d p (suc j) ts) (names-bare d p (suc j) ts)

first-own : (d : Option (List ℕ)) (p : List ℕ) (f : Forest) → name_at d p (own f) ≡ name_at d p f
unfolding own
first-own d p Nil = refl
first-own d p (Cons k w ns ks ts) = refl

first-bare : (d : Option (List ℕ)) (p : List ℕ) (f : Forest) → name_at d p (bare_heading f) ≡ name_at d p f
first-bare d p Nil = refl
first-bare d p (Cons kind.Params w ns ks ts) = refl
first-bare d p (Cons kind.Block w ns ks ts) = refl
first-bare d p (Cons k w ns ks ts) = refl

below-own : (p : List ℕ) (f : Forest) → names_below p (own f) ≡ names_below p f
unfolding own
below-own p Nil = refl
below-own p (Cons k w ns ks ts) = by (is_routine_kind k)
  where
    by : (b : Bool) → names_at None (p ++ 1 ∷ []) 1 (if b then bare_heading ks else own ks) ≡ names_at None (p ++ 1 ∷ []) 1 ks
    by true = names-bare None (p ++ 1 ∷ []) 1 ks
    by false = names-own None (p ++ 1 ∷ []) 1 ks

-- ---- what a node declares

declares-own : (k : Kind) (q : List ℕ) (f : Forest) → is_routine_kind k ≡ false → declared_by_node k q (own f) ≡ declared_by_node k q f
declares-own kind.Constdef q f e = first-own _ q f
declares-own kind.Typedef q f e = first-own _ q f
declares-own kind.Vardef q f e = below-own q f
declares-own kind.Enum q f e = below-own q f
declares-own kind.Valparam q f e = below-own q f
declares-own kind.Varparam q f e = below-own q f
declares-own kind.Procedure q f e = cc e
declares-own kind.Function q f e = cc e
declares-own kind.Funbody q f e = cc e
declares-own k q f e = refl

declares-bare : (k : Kind) (q : List ℕ) (f : Forest) → is_routine_kind k ≡ true → declared_by_node k q (bare_heading f) ≡ declared_by_node k q f
declares-bare kind.Procedure q f e = first-bare None q f
declares-bare kind.Function q f e = first-bare None q f
declares-bare kind.Funbody q f e = first-bare None q f
declares-bare k q f e = cc

abbrev inside : Bool → List ℕ → Forest → List (Declared × Kind)
inside b q f = if b then [] else kinds_at q 1 f

-- the names that are declared in trees are those that are declared in them as they stand in their own block
kinds-own : (p : List ℕ) (i : ℕ) (f : Forest) → kinds_at p i (own f) ≡ kinds_at p i f
unfolding own
kinds-own p i Nil = refl
kinds-own p i (Cons k w ns ks ts) = by (kinds-own p (suc i) ts) (kinds-own (p ++ i ∷ []) 1 ks) (is_routine_kind k) refl
  where
    q : List ℕ
    q = p ++ i ∷ []

    by : kinds_at p (suc i) (own ts) ≡ kinds_at p (suc i) ts → kinds_at q 1 (own ks) ≡ kinds_at q 1 ks → (b : Bool) → is_routine_kind k ≡ b →
        of_kind k (declared_by_node k q (if b then bare_heading ks else own ks)) ++ inside b q (if b then bare_heading ks else own ks) ++ kinds_at p (suc i) (own ts)
        ≡ of_kind k (declared_by_node k q ks) ++ inside b q ks ++ kinds_at p (suc i) ts
    by beside below true e = λ x. of_kind k (declares-bare k q ks e x) ++ [] ++ beside x
    by beside below false e = λ x. of_kind k (declares-own k q ks e x) ++ below x ++ beside x

-- ---- the heading

parameters-part : (q : List ℕ) (f : Forest) → parameter_kinds q (heading_part f) ≡ parameter_kinds q f
parameters-part q Nil = refl
parameters-part q (Cons kind.Block w ns ks Nil) = refl
parameters-part q (Cons kind.Block w ns ks (Cons kind.Block v ms js ts)) = refl
parameters-part q (Cons kind.Block w ns ks (Cons kind.Params v ms js ts)) = refl
parameters-part q (Cons kind.Block w ns ks (Cons j v ms js ts)) = refl
parameters-part q (Cons k w ns ks Nil) = refl
parameters-part q (Cons k w ns ks (Cons kind.Block v ms js ts)) = refl
parameters-part q (Cons k w ns ks (Cons kind.Params v ms js ts)) = refl
parameters-part q (Cons k w ns ks (Cons j v ms js ts)) = refl

-- the names that a routine declares, from its node
pub own-kinds_of : (t : Plain) (r : Routine) (ks : Forest) → kids_at t r.place ≡ ks → r.heading ≡ heading_part ks → r.block ≡ own (block_kids ks) → own_kinds t r ≡ kinds_of r
own-kinds_of t r ks here heading block =
    let q = r.place in
    let p = r.place ++ r.block_kid ∷ [] in
    let params : parameter_kinds q (kids_at t q) ≡ parameter_kinds q r.heading = ap (parameter_kinds q) here ∙ sym (ap (parameter_kinds q) heading ∙ parameters-part q ks) in
    let below : kinds_at p 1 (block_kids (kids_at t q)) ≡ kinds_at p 1 r.block =
    ap (λ (f : Forest). kinds_at p 1 (block_kids f)) here ∙ sym (ap (kinds_at p 1) block ∙ kinds-own p 1 (block_kids ks)) in
    λ i. first_kinds (given_names r) ((if r.is_later then [] else params i) ++ below i)
