-- The names that nodes declare, one by one and all together: lemmas.
use Rattle.std.proofs.Common.{◌≡◌, ℕ, ◌⊎◌, inl, inr, Bool, true, false, List, [], ◌∷◌, ◌++◌, slice_get, Option, Some, None, refl, ap, sym, ◌∙◌, if◌then◌else◌, append_assoc, append-nil}
use Rattle.std.proofs.lemmas.List.{map-append}
use Rattle.std.specs.Option.{unwrap_or, option_map_or}
use Rattle.pc_syntax.specs.declared.kind.Kind.{Kind}
use Rattle.pc_syntax.specs.Plain.{Forest, Nil, Cons, Plain, trees_of, kids_of}
use Rattle.pc_syntax.specs.Parts.{kid_at}
use Rattle.pc_syntax.specs.PartsLaws.{kids_of-is}
use Rattle.pc_syntax.specs.Sorts.{is_hole}
use Rattle.pc_syntax.specs.Words.{lowered}
use Rattle.pc_scope.specs.Entries.{is_parameters}
use Rattle.pc_scope.specs.Headings.{is_routine_kind, names_of, names_of_first}
use Rattle.pc_own_names.specs.Walking.{name_here, names_here, first_listed, own_names, all_of_kind, in_trees, below_node, at_node, at_nodes, in_heading}
use Rattle.pc_syntax.specs.declared.kind.Kind.TheVariants as kind

-- ---- lists

-- the names of a list, one by one
names_here-is : (ts : Forest) → names_of ts ≡ names_here (trees_of ts)
names_here-is Nil = refl
names_here-is (Cons k w ns ks ts) = by (is_hole k) (names_here-is ts) where
  by : (b : Bool) → names_of ts ≡ names_here (trees_of ts) → (if b then names_of ts else lowered w ∷ names_of ts) ≡ (if b then [] else lowered w ∷ []) ++ names_here (trees_of ts)
  by true rest = rest
  by false rest = ap (λ (xs : List (List ℕ)). lowered w ∷ xs) rest

pub names_here-kids : (t : Plain) → names_of t.kids ≡ names_here (kids_of t)
names_here-kids t = names_here-is t.kids ∙ ap names_here (sym (kids_of-is t))

names_here-end : (ts : List Plain) (t : Plain) → names_here (ts ++ t ∷ []) ≡ names_here ts ++ name_here t
names_here-end [] t = append-nil (name_here t)
names_here-end (u ∷ us) t = ap (λ (xs : List (List ℕ)). name_here u ++ xs) (names_here-end us t) ∙ sym (append_assoc (name_here u) (names_here us) (name_here t))

pub listed-end : (k : Kind) (ts : List Plain) (t : Plain) → all_of_kind k (names_here (ts ++ t ∷ [])) ≡ all_of_kind k (names_here ts) ++ all_of_kind k (name_here t)
listed-end k ts t = ap (all_of_kind k) (names_here-end ts t) ∙ map-append (λ (n : List ℕ). (n, k)) (names_here ts) (name_here t)

-- what some nodes declare, one by one
at_nodes-is : (ts : Forest) → in_trees ts ≡ at_nodes (trees_of ts)
at_nodes-is Nil = refl
at_nodes-is (Cons k w ns ks ts) =
    let t : Plain = record { kind = k; word = w; notes = ns; kids = ks } in
    ap (λ (xs : List (List ℕ × Kind)). all_of_kind k (own_names k ks) ++ below_node t ++ xs) (at_nodes-is ts)

pub at_nodes-kids : (t : Plain) → in_trees t.kids ≡ at_nodes (kids_of t)
at_nodes-kids t = at_nodes-is t.kids ∙ ap at_nodes (sym (kids_of-is t))

pub at_nodes-end : (ts : List Plain) (t : Plain) → at_nodes (ts ++ t ∷ []) ≡ at_nodes ts ++ at_node t
at_nodes-end [] t = append-nil (at_node t)
at_nodes-end (u ∷ us) t = ap (λ (xs : List (List ℕ × Kind)). at_node u ++ xs) (at_nodes-end us t) ∙ sym (append_assoc (at_node u) (at_nodes us) (at_node t))

-- ---- the first kid of a node

first-none : (ts : Forest) → slice_get (trees_of ts) 0 ≡ None → (first_listed ts ≡ []) × (names_of_first ts ≡ [])
first-none Nil e = (refl, refl)
first-none (Cons k w ns ks ts) e = cc

first-some : (ts : Forest) (x : Plain) → slice_get (trees_of ts) 0 ≡ Some x → (first_listed ts ≡ name_here x) × (names_of_first ts ≡ names_of x.kids)
first-some Nil x e = cc
first-some (Cons k w ns ks ts) x e = (ap (λ (o : Option Plain). name_here (unwrap_or o x)) e, ap (λ (o : Option Plain). names_of (unwrap_or o x).kids) e)

pub no-first : (t : Plain) → None ≡ kid_at t 1 → (first_listed t.kids ≡ []) × (names_of_first t.kids ≡ [])
no-first t e = first-none t.kids (ap (λ (ts : List Plain). slice_get ts 0) (sym (kids_of-is t)) ∙ sym e)

pub first-is : (t x : Plain) → Some x ≡ kid_at t 1 → (first_listed t.kids ≡ name_here x) × (names_of_first t.kids ≡ names_of x.kids)
first-is t x e = first-some t.kids x (ap (λ (ts : List Plain). slice_get ts 0) (sym (kids_of-is t)) ∙ sym e)

-- ---- the second kid of a routine

heading-second : (ts : Forest) → in_heading ts ≡ option_map_or (λ (x : Plain). if is_parameters x.kind then in_trees x.kids else []) (slice_get (trees_of ts) 1) []
heading-second Nil = refl
heading-second (Cons k w ns ks Nil) = refl
heading-second (Cons k w ns ks (Cons kind.Params v ms js ts)) = refl
heading-second (Cons k w ns ks (Cons _ v ms js ts)) = refl

heading-by : (t : Plain) (o : Option Plain) → o ≡ kid_at t 2 → in_heading t.kids ≡ option_map_or (λ (x : Plain). if is_parameters x.kind then in_trees x.kids else []) o []
unfolding kids_of
heading-by t o e = heading-second t.kids ∙ ap (λ (p : Option Plain). option_map_or (λ (x : Plain). if is_parameters x.kind then in_trees x.kids else []) p []) (sym e)

pub no-second : (t : Plain) → None ≡ kid_at t 2 → in_heading t.kids ≡ []
no-second t e = heading-by t None e

pub second-other : (t x : Plain) → Some x ≡ kid_at t 2 → is_parameters x.kind ≡ false → in_heading t.kids ≡ []
second-other t x e other = heading-by t (Some x) e ∙ ap (λ (b : Bool). if b then in_trees x.kids else []) other

-- a list of parameters is no routine
params-below : (k : Kind) (ks : Forest) → is_parameters k ≡ true → (if is_routine_kind k then [] else in_trees ks) ≡ in_trees ks
params-below kind.Params ks e = refl
params-below _ ks e = cc

pub second-list : (t x : Plain) → Some x ≡ kid_at t 2 → is_parameters x.kind ≡ true → in_heading t.kids ≡ below_node x
second-list t x e is = heading-by t (Some x) e ∙ ap (λ (b : Bool). if b then in_trees x.kids else []) is ∙ sym (params-below x.kind x.kids is)

-- ---- the names of nodes by their kinds

pub declares-none : (k : Kind) (ks : Forest) → (k ≡ kind.Constdef → ⊥) → (k ≡ kind.Typedef → ⊥) → (k ≡ kind.Vardef → ⊥) → (k ≡ kind.Enum → ⊥) → (k ≡ kind.Valparam → ⊥) →
    (k ≡ kind.Varparam → ⊥) → (k ≡ kind.Procedure → ⊥) → (k ≡ kind.Function → ⊥) → (k ≡ kind.Funbody → ⊥) → own_names k ks ≡ []
declares-none kind.Constdef ks a b c d e f g h i = absurd (a refl)
declares-none kind.Typedef ks a b c d e f g h i = absurd (b refl)
declares-none kind.Vardef ks a b c d e f g h i = absurd (c refl)
declares-none kind.Enum ks a b c d e f g h i = absurd (d refl)
declares-none kind.Valparam ks a b c d e f g h i = absurd (e refl)
declares-none kind.Varparam ks a b c d e f g h i = absurd (f refl)
declares-none kind.Procedure ks a b c d e f g h i = absurd (g refl)
declares-none kind.Function ks a b c d e f g h i = absurd (h refl)
declares-none kind.Funbody ks a b c d e f g h i = absurd (i refl)
declares-none k ks a b c d e f g h i = refl

-- of a node that declares one name, and of one that declares a list
pub one-name : (k : Kind) (ks : Forest) → (k ≡ kind.Constdef) ⊎ ((k ≡ kind.Typedef) ⊎ ((k ≡ kind.Procedure) ⊎ ((k ≡ kind.Function) ⊎ (k ≡ kind.Funbody)))) → own_names k ks ≡ first_listed ks
one-name k ks (inl e) = ap (λ (j : Kind). own_names j ks) e
one-name k ks (inr (inl e)) = ap (λ (j : Kind). own_names j ks) e
one-name k ks (inr (inr (inl e))) = ap (λ (j : Kind). own_names j ks) e
one-name k ks (inr (inr (inr (inl e)))) = ap (λ (j : Kind). own_names j ks) e
one-name k ks (inr (inr (inr (inr e)))) = ap (λ (j : Kind). own_names j ks) e

pub list-names : (k : Kind) (ks : Forest) → (k ≡ kind.Vardef) ⊎ ((k ≡ kind.Enum) ⊎ ((k ≡ kind.Valparam) ⊎ (k ≡ kind.Varparam))) → own_names k ks ≡ names_of_first ks
list-names k ks (inl e) = ap (λ (j : Kind). own_names j ks) e
list-names k ks (inr (inl e)) = ap (λ (j : Kind). own_names j ks) e
list-names k ks (inr (inr (inl e))) = ap (λ (j : Kind). own_names j ks) e
list-names k ks (inr (inr (inr e))) = ap (λ (j : Kind). own_names j ks) e

-- what the own block declares stands below it
pub block-below : (b : Plain) (f : Forest) → b.kind ≡ kind.Block → b.kids ≡ f → below_node b ≡ in_trees f
block-below b f e is = ap (λ (k : Kind). if is_routine_kind k then [] else in_trees b.kids) e ∙ ap in_trees is
